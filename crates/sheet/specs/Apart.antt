-- The sheet's text determines its lines: two lists of days with the same text are equal. Assumes nothing.
use Rattle.std.specs.Prelude.{◌≡◌, refl, false, List, [], ◌∷◌, ◌++◌, ℕ, suc, length}
use Rattle.std.proofs.Common.{sym, ap, ◌∙◌, append_assoc, arith, length-append}
use Rattle.laws.specs.Decimal.{decimal, is_digit}
use Rattle.laws.specs.DecimalLaws.{decimal-apart, decimal-before}
use Rattle.text.specs.Scan.{LF, TAB}
use Rattle.hourly.specs.Text.{letter_i, letter_x}
use Rattle.weekly.specs.declared.Kind.{Kind}
use Rattle.weekly.specs.declared.Kind.TheVariants.{Worked, Holiday, Unknown}
use Rattle.weekly.specs.declared.Day.{Day}
use Rattle.sheet.specs.Lines.{letter_w, letter_of, day_text, days_text}

letter-apart : (a b : Kind) → letter_of a ≡ letter_of b → a ≡ b
unfolding letter_of
letter-apart Worked Worked e = refl
letter-apart Worked Holiday e = let z : letter_w ≡ letter_i = e in absurd (omega arith)
letter-apart Worked Unknown e = let z : letter_w ≡ letter_x = e in absurd (omega arith)
letter-apart Holiday Worked e = let z : letter_i ≡ letter_w = e in absurd (omega arith)
letter-apart Holiday Holiday e = refl
letter-apart Holiday Unknown e = let z : letter_i ≡ letter_x = e in absurd (omega arith)
letter-apart Unknown Worked e = let z : letter_x ≡ letter_w = e in absurd (omega arith)
letter-apart Unknown Holiday e = let z : letter_x ≡ letter_i = e in absurd (omega arith)
letter-apart Unknown Unknown e = refl

-- a line, its parts one behind the other
line-parts : (d : ℕ) (x : Day) (t : List ℕ) → day_text d x ++ t ≡ decimal d ++ TAB ∷ letter_of x.kind ∷ TAB ∷ (decimal x.covered ++ TAB ∷ (decimal x.sum ++ LF ∷ t))
unfolding day_text
line-parts d x t = simp append_assoc

day-same : (x y : Day) → x.kind ≡ y.kind → x.covered ≡ y.covered → x.sum ≡ y.sum → x ≡ y
day-same x y p q r =
    ap (λ (k : Kind). record { kind = k; covered = x.covered; sum = x.sum }) p
    ∙ ap (λ (n : ℕ). record { kind = y.kind; covered = n; sum = x.sum }) q
    ∙ ap (λ (n : ℕ). record { kind = y.kind; covered = y.covered; sum = n }) r

no_digit : is_digit LF ≡ false
unfolding is_digit
no_digit = refl

-- two texts that begin with a line of the same day's number
line-apart : (d : ℕ) (x y : Day) (s t : List ℕ) → day_text d x ++ s ≡ day_text d y ++ t → (x ≡ y) × (s ≡ t)
line-apart d x y s t e =
    let f = sym (line-parts d x s) ∙ e ∙ line-parts d y t in
    let a = decimal-apart d d (letter_of x.kind ∷ TAB ∷ (decimal x.covered ++ TAB ∷ (decimal x.sum ++ LF ∷ s))) (letter_of y.kind ∷ TAB ∷ (decimal y.covered ++ TAB ∷ (decimal y.sum ++ LF ∷ t))) f in
    let g = a.1 in
    let letters : letter_of x.kind ≡ letter_of y.kind = cc in
    let h : decimal x.covered ++ TAB ∷ (decimal x.sum ++ LF ∷ s) ≡ decimal y.covered ++ TAB ∷ (decimal y.sum ++ LF ∷ t) = cc in
    let b = decimal-apart x.covered y.covered (decimal x.sum ++ LF ∷ s) (decimal y.sum ++ LF ∷ t) h in
    let c = decimal-before LF x.sum y.sum s t no_digit b.1 in
    (day-same x y (letter-apart x.kind y.kind letters) b.0 c.0, c.1)

line-some : (d : ℕ) (x : Day) (t : List ℕ) → [] ≡ day_text d x ++ t → ⊥
line-some d x t e =
    let n = ap length (e ∙ line-parts d x t) in
    omega (arith, n, length-append (decimal d) (TAB ∷ letter_of x.kind ∷ TAB ∷ (decimal x.covered ++ TAB ∷ (decimal x.sum ++ LF ∷ t))))

pub text-apart : (d : ℕ) (xs ys : List Day) → days_text d xs ≡ days_text d ys → xs ≡ ys
unfolding days_text
text-apart d [] [] e = refl
text-apart d [] (y ∷ ys) e = absurd (line-some d y (days_text (suc d) ys) e)
text-apart d (x ∷ xs) [] e = absurd (line-some d x (days_text (suc d) xs) (sym e))
text-apart d (x ∷ xs) (y ∷ ys) e =
    let a = line-apart d x y (days_text (suc d) xs) (days_text (suc d) ys) e in
    let p : x ≡ y = a.0 in
    let q : xs ≡ ys = text-apart (suc d) xs ys a.1 in
    cc
