-- Laws of numbers as text: how a decimal is made of its digits, that reading gives back what was written and only that, and that two texts tell two numbers apart. Assumes nothing.
use Rattle.std.specs.Prelude.{◌≡◌, refl, Bool, true, false, List, [], ◌∷◌, ◌++◌, ℕ, zero, suc, ◌+◌, ◌-◌, ◌*◌, ◌/◌, ◌%◌, ◌^◌, ◌≤◌, ◌<◌, T, leb, ltb, length, get_or, take, drop}
use Rattle.std.proofs.Common.{sym, ap, ◌∙◌, subst, append_assoc, pow-suc, arith, length-append, take_at, drop_at, lt-ltb, le-ltb, le-leb, leb-true}
use Rattle.std.proofs.Math.Decide.{dec_lt}
use Rattle.std.proofs.Math.ListN.{get_or-append}
use Rattle.std.proofs.lemmas.Bool.{lt-leb}
use Rattle.laws.specs.Pick.{pick, pick-t, pick-f}
use Rattle.laws.specs.Bools.{and_left, and_right}
use Rattle.laws.specs.Tests.{both, each, each_at, both_left, both_right}
use Rattle.laws.specs.Decimal.{glyph, digits_of, decimal, hex_of, good, bad, is_digit, digits_from, number_at}

-- a digit below 10, and one from 10 on
pub glyph-low : (d : ℕ) → d < 10 → glyph d ≡ 48 + d
unfolding glyph
glyph-low d h = pick-t (ltb d 10) (48 + d) (55 + d) (lt-ltb d 10 h)

pub glyph-high : (d : ℕ) → 10 ≤ d → glyph d ≡ 55 + d
unfolding glyph
glyph-high d h = pick-f (ltb d 10) (48 + d) (55 + d) (le-ltb d 10 h)

digits_last : (f n : ℕ) → n < 10 → digits_of f n ≡ glyph (n % 10) ∷ []
unfolding digits_of
digits_last zero n h = refl
digits_last (suc f) n h = ap (λ (x : List ℕ). x ++ glyph (n % 10) ∷ []) (pick-t (ltb n 10) [] (digits_of f (n / 10)) (lt-ltb n 10 h))

digits_more : (f n : ℕ) → 10 ≤ n → digits_of (suc f) n ≡ digits_of f (n / 10) ++ glyph (n % 10) ∷ []
unfolding digits_of
digits_more f n h = ap (λ (x : List ℕ). x ++ glyph (n % 10) ∷ []) (pick-f (ltb n 10) [] (digits_of f (n / 10)) (le-ltb n 10 h))

-- what holds of every number below 10, and of a number where it holds of its tenth, holds of every number
pub by-tenths : (P : ℕ → Type 0) → ((n : ℕ) → n < 10 → P n) → ((n : ℕ) → 10 ≤ n → P (n / 10) → P n) → (n : ℕ) → P n
by-tenths P small more n = go n n (omega arith)
  where
    step : (n : ℕ) → Dec (n < 10) → (10 ≤ n → P (n / 10)) → P n
    step n (yes l) r = small n l
    step n (no l) r = let b : 10 ≤ n = omega arith in more n b (r b)

    go : (f n : ℕ) → n ≤ f → P n
    go zero n h = small n (omega arith)
    go (suc f) n h = step n (dec_lt n 10) (λ (b : 10 ≤ n). go f (n / 10) (omega arith))

-- the bound on the steps does not matter
pub digits-enough : (f g n : ℕ) → n ≤ f → n ≤ g → digits_of f n ≡ digits_of g n
digits-enough f g n h k =
    by-tenths (λ (n : ℕ). (f g : ℕ) → n ≤ f → n ≤ g → digits_of f n ≡ digits_of g n) (λ n l f g h k. digits_last f n l ∙ sym (digits_last g n l)) more n f g h k
  where
    more : (n : ℕ) → 10 ≤ n → ((f g : ℕ) → n / 10 ≤ f → n / 10 ≤ g → digits_of f (n / 10) ≡ digits_of g (n / 10)) → (f g : ℕ) → n ≤ f → n ≤ g → digits_of f n ≡ digits_of g n
    more n b r zero g h k = absurd (omega arith)
    more n b r (suc f) zero h k = absurd (omega arith)
    more n b r (suc f) (suc g) h k =
        digits_more f n b
        ∙ ap (λ (x : List ℕ). x ++ glyph (n % 10) ∷ []) (r f g (omega arith) (omega arith))
        ∙ sym (digits_more g n b)

pub decimal-small : (n : ℕ) → n < 10 → decimal n ≡ (48 + n) ∷ []
unfolding decimal
decimal-small n h =
    let e : n % 10 ≡ n = omega arith in
    digits_last n n h ∙ ap (λ (d : ℕ). glyph d ∷ []) e ∙ ap (λ (b : ℕ). b ∷ []) (glyph-low n h)

pub decimal_step : (n : ℕ) → 10 ≤ n → decimal n ≡ decimal (n / 10) ++ (48 + n % 10) ∷ []
unfolding decimal
decimal_step zero h = absurd (omega arith)
decimal_step (suc n) h =
    digits_more n (suc n) h
    ∙ ap (λ (x : List ℕ). x ++ glyph (suc n % 10) ∷ []) (digits-enough n (suc n / 10) (suc n / 10) (omega arith) (omega arith))
    ∙ ap (λ (b : ℕ). digits_of (suc n / 10) (suc n / 10) ++ b ∷ []) (glyph-low (suc n % 10) (omega arith))

-- one digit more at the end
pub decimal-snoc : (v d : ℕ) → 1 ≤ v → d < 10 → decimal (v * 10 + d) ≡ decimal v ++ (48 + d) ∷ []
decimal-snoc v d h k =
    let q : (v * 10 + d) / 10 ≡ v = omega arith in
    let r : (v * 10 + d) % 10 ≡ d = omega arith in
    decimal_step (v * 10 + d) (omega arith)
    ∙ ap (λ (m : ℕ). decimal m ++ (48 + (v * 10 + d) % 10) ∷ []) q
    ∙ ap (λ (m : ℕ). decimal v ++ (48 + m) ∷ []) r

each_snoc : (f : ℕ → Bool) (l : List ℕ) (b : ℕ) → T (each f l) → T (f b) → T (each f (l ++ b ∷ []))
unfolding each both
each_snoc f [] b t u = subst T (sym (both_end (f b))) u
  where
    both_end : (c : Bool) → both c true ≡ c
    both_end true = refl
    both_end false = refl
each_snoc f (x ∷ xs) b t u = both-in (f x) (each f (xs ++ b ∷ [])) (both_left (f x) (each f xs) t) (each_snoc f xs b (both_right (f x) (each f xs) t) u)
  where
    both-in : (c d : Bool) → T c → T d → T (both c d)
    both-in true d p q = q
    both-in false d p q = p

pub digit-is : (b : ℕ) → 48 ≤ b → b ≤ 57 → is_digit b ≡ true
unfolding is_digit
digit-is b h k = rw (le-leb 48 b h, le-leb b 57 k)

pub digit-range : (b : ℕ) → is_digit b ≡ true → (48 ≤ b) × (b ≤ 57)
unfolding is_digit
digit-range b e = (leb-true 48 b (and_left (leb 48 b) (leb b 57) e), leb-true b 57 (and_right (leb 48 b) (leb b 57) e))

-- a byte that is a digit, as a test that holds
digit-test : (b : ℕ) → 48 ≤ b → b ≤ 57 → T (is_digit b)
digit-test b h k = subst T (sym (digit-is b h k)) tt

pub decimal-digits : (n : ℕ) → T (each is_digit (decimal n))
unfolding each
decimal-digits = by-tenths (λ (n : ℕ). T (each is_digit (decimal n))) small more
  where
    small : (n : ℕ) → n < 10 → T (each is_digit (decimal n))
    small n h = rw (decimal-small n h) (each_snoc is_digit [] (48 + n) tt (digit-test (48 + n) (omega arith) (omega arith)))

    more : (n : ℕ) → 10 ≤ n → T (each is_digit (decimal (n / 10))) → T (each is_digit (decimal n))
    more n h t = rw (decimal_step n h) (each_snoc is_digit (decimal (n / 10)) (48 + n % 10) t (digit-test (48 + n % 10) (omega arith) (omega arith)))

-- every byte of a decimal is from 48 to 57
pub decimal-at : (n k : ℕ) → k < length (decimal n) → (48 ≤ get_or (decimal n) k 0) × (get_or (decimal n) k 0 ≤ 57)
decimal-at n k h = digit-range (get_or (decimal n) k 0) (is_true (is_digit (get_or (decimal n) k 0)) (each_at is_digit (decimal n) 0 (decimal-digits n) k h))
  where
    is_true : (t : Bool) → T t → t ≡ true
    is_true true p = refl
    is_true false p = absurd p

pub decimal-some : (n : ℕ) → 1 ≤ length (decimal n)
decimal-some = by-tenths (λ (n : ℕ). 1 ≤ length (decimal n)) small more
  where
    small : (n : ℕ) → n < 10 → 1 ≤ length (decimal n)
    small n h = rw (decimal-small n h) (omega arith)

    more : (n : ℕ) → 10 ≤ n → 1 ≤ length (decimal (n / 10)) → 1 ≤ length (decimal n)
    more n h r = rw (decimal_step n h, length-append) (omega arith)

pub decimal-more : (n : ℕ) → 10 ≤ n → length (decimal n) ≡ length (decimal (n / 10)) + 1
decimal-more n h = ap length (decimal_step n h) ∙ length-append (decimal (n / 10)) ((48 + n % 10) ∷ [])

pub decimal-length : (k n : ℕ) → n < 10 ^ k → 1 ≤ k → length (decimal n) ≤ k
decimal-length zero n h p = absurd (omega arith)
decimal-length (suc k) n h p = go k n h (dec_lt n 10) (decimal-length k (n / 10))
  where
    go : (k n : ℕ) → n < 10 ^ suc k → Dec (n < 10) → (n / 10 < 10 ^ k → 1 ≤ k → length (decimal (n / 10)) ≤ k) → length (decimal n) ≤ suc k
    go k n h (yes l) r = omega (arith, ap length (decimal-small n l))
    go zero n h (no l) r = absurd (omega arith)
    go (suc k) n h (no l) r =
        let q : n / 10 < 10 ^ suc k = omega (arith, pow-suc 10 (suc k)) in
        omega (arith, decimal-more n (omega arith), r q (omega arith))

-- only 0 begins with the digit 0
pub decimal-first : (n : ℕ) → 1 ≤ n → 48 < get_or (decimal n) 0 0
decimal-first = by-tenths (λ (n : ℕ). 1 ≤ n → 48 < get_or (decimal n) 0 0) small more
  where
    small : (n : ℕ) → n < 10 → 1 ≤ n → 48 < get_or (decimal n) 0 0
    small n h p = rw (decimal-small n h) (omega arith)

    more : (n : ℕ) → 10 ≤ n → (1 ≤ n / 10 → 48 < get_or (decimal (n / 10)) 0 0) → 1 ≤ n → 48 < get_or (decimal n) 0 0
    more n h r p =
        let e : get_or (decimal n) 0 0 ≡ get_or (decimal (n / 10)) 0 0 = ap (λ (l : List ℕ). get_or l 0 0) (decimal_step n h) ∙ get_or-append (decimal (n / 10)) ((48 + n % 10) ∷ []) 0 0 (decimal-some (n / 10)) in
        omega (arith, r (omega arith))

-- what does not begin with a digit
abbrev pub Stops : List ℕ → Type 0
Stops [] = Unit
Stops (b ∷ bs) = is_digit b ≡ false

pub digits-stop : (most v : ℕ) (rest : List ℕ) → Stops rest → digits_from most v rest ≡ good v rest
unfolding digits_from
digits-stop most v [] h = refl
digits-stop most v (b ∷ bs) h = pick-f (is_digit b) (pick (ltb most (v * 10 + (b - 48))) bad (digits_from most (v * 10 + (b - 48)) bs)) (good v (b ∷ bs)) h

-- a digit is read
pub digits-read : (most v b : ℕ) (bs : List ℕ) → is_digit b ≡ true → v * 10 + (b - 48) ≤ most → digits_from most v (b ∷ bs) ≡ digits_from most (v * 10 + (b - 48)) bs
unfolding digits_from
digits-read most v b bs t h =
    pick-t (is_digit b) (pick (ltb most (v * 10 + (b - 48))) bad (digits_from most (v * 10 + (b - 48)) bs)) (good v (b ∷ bs)) t
    ∙ pick-f (ltb most (v * 10 + (b - 48))) bad (digits_from most (v * 10 + (b - 48)) bs) (le-ltb most (v * 10 + (b - 48)) h)

-- a digit takes the number above most
pub digits_above : (most v b : ℕ) (bs : List ℕ) → is_digit b ≡ true → most < v * 10 + (b - 48) → digits_from most v (b ∷ bs) ≡ bad
unfolding digits_from
digits_above most v b bs t h =
    pick-t (is_digit b) (pick (ltb most (v * 10 + (b - 48))) bad (digits_from most (v * 10 + (b - 48)) bs)) (good v (b ∷ bs)) t
    ∙ pick-t (ltb most (v * 10 + (b - 48))) bad (digits_from most (v * 10 + (b - 48)) bs) (lt-ltb most (v * 10 + (b - 48)) h)

digits-next : (most v d w : ℕ) (bs : List ℕ) → d < 10 → v * 10 + d ≡ w → w ≤ most → digits_from most v ((48 + d) ∷ bs) ≡ digits_from most w bs
digits-next most v d w bs h e k =
    let g : v * 10 + (48 + d - 48) ≡ w = omega arith in
    digits-read most v (48 + d) bs (digit-is (48 + d) (omega arith) (omega arith)) (omega arith) ∙ ap (λ (x : ℕ). digits_from most x bs) g

pub digits_decimal : (most v : ℕ) (rest : List ℕ) → v ≤ most → digits_from most 0 (decimal v ++ rest) ≡ digits_from most v rest
digits_decimal most v rest h = by-tenths (λ (v : ℕ). (rest : List ℕ) → v ≤ most → digits_from most 0 (decimal v ++ rest) ≡ digits_from most v rest) small more v rest h
  where
    small : (v : ℕ) → v < 10 → (rest : List ℕ) → v ≤ most → digits_from most 0 (decimal v ++ rest) ≡ digits_from most v rest
    small v l rest h = rw (decimal-small v l) (digits-next most 0 v v rest l (omega arith) h)

    more : (v : ℕ) → 10 ≤ v → ((rest : List ℕ) → v / 10 ≤ most → digits_from most 0 (decimal (v / 10) ++ rest) ≡ digits_from most (v / 10) rest) → (rest : List ℕ) → v ≤ most → digits_from most 0 (decimal v ++ rest) ≡ digits_from most v rest
    more v l r rest h =
        rw (decimal_step v l, append_assoc) (r ((48 + v % 10) ∷ rest) (omega arith) ∙ digits-next most (v / 10) (v % 10) v rest (omega arith) (omega arith) h)

-- a number that does not begin with the digit 0
pub number-start : (most : ℕ) (l : List ℕ) → 1 ≤ length l → 48 < get_or l 0 0 → get_or l 0 0 ≤ 57 → number_at most l ≡ digits_from most 0 l
unfolding number_at
number-start most [] h k m = absurd (omega arith)
number-start most (b ∷ bs) h k m =
    pick-t (is_digit b) (pick (leb b 48) (good 0 bs) (digits_from most 0 (b ∷ bs))) bad (digit-is b (omega arith) m)
    ∙ pick-f (leb b 48) (good 0 bs) (digits_from most 0 (b ∷ bs)) (lt-leb b 48 k)

-- the number 0
pub number-zero : (most : ℕ) (bs : List ℕ) → number_at most (48 ∷ bs) ≡ good 0 bs
unfolding number_at is_digit pick
number-zero most bs = refl

-- no digit, no number
pub number-none : (most : ℕ) (l : List ℕ) → Stops l → number_at most l ≡ bad
unfolding number_at
number-none most [] h = refl
number-none most (b ∷ bs) h = pick-f (is_digit b) (pick (leb b 48) (good 0 bs) (digits_from most 0 (b ∷ bs))) bad h

pub number-decimal : (most v : ℕ) (rest : List ℕ) → v ≤ most → Stops rest → number_at most (decimal v ++ rest) ≡ good v rest
number-decimal most zero rest h s = rw (decimal-small 0 (omega arith)) (number-zero most rest)
number-decimal most (suc v) rest h s =
    let l = decimal (suc v) in
    let first : get_or (l ++ rest) 0 0 ≡ get_or l 0 0 = get_or-append l rest 0 0 (decimal-some (suc v)) in
    number-start most (l ++ rest) (omega (arith, length-append l rest, decimal-some (suc v))) (omega (arith, decimal-first (suc v) (omega arith))) (omega (arith, decimal-at (suc v) 0 (decimal-some (suc v))))
    ∙ digits_decimal most (suc v) rest h
    ∙ digits-stop most (suc v) rest s

-- l was read as w and what follows it, after digits that came to v
abbrev Written : ℕ → ℕ → List ℕ → ℕ → List ℕ → Type 0
Written most v l w rest = (decimal v ++ l ≡ decimal w ++ rest) × (w ≤ most)

written-end : (most v w : ℕ) (l rest : List ℕ) → v ≤ most → good v l ≡ good w rest → Written most v l w rest
written-end most v w l rest h e = let p : v ≡ w = cc in let q : l ≡ rest = cc in (cc, omega arith)

bad-good : {X : Type 0} {w : ℕ} {rest : List ℕ} → bad ≡ good w rest → X
bad-good e = let z : ◌≡◌ {A = ℕ} 0 1 = cc in absurd (omega arith)

decimal-taken : (v b : ℕ) (bs : List ℕ) → 1 ≤ v → is_digit b ≡ true → decimal (v * 10 + (b - 48)) ++ bs ≡ decimal v ++ b ∷ bs
decimal-taken v b bs h t =
    let low : 48 ≤ b = (digit-range b t).0 in
    let high : b ≤ 57 = (digit-range b t).1 in
    let g : 48 + (b - 48) ≡ b = omega arith in
    ap (λ (x : List ℕ). x ++ bs) (decimal-snoc v (b - 48) h (omega arith))
    ∙ append_assoc (decimal v) ((48 + (b - 48)) ∷ []) bs
    ∙ ap (λ (x : ℕ). decimal v ++ x ∷ bs) g

pub digits-only : (most v : ℕ) (l : List ℕ) (w : ℕ) (rest : List ℕ) → 1 ≤ v → v ≤ most → digits_from most v l ≡ good w rest → (decimal v ++ l ≡ decimal w ++ rest) × (w ≤ most)
digits-only most v [] w rest p h e = written-end most v w [] rest h (sym (digits-stop most v [] tt) ∙ e)
digits-only most v (b ∷ bs) w rest p h e = go (is_digit b) refl (dec_lt most (v * 10 + (b - 48))) (digits-only most (v * 10 + (b - 48)) bs w rest)
  where
    go : (t : Bool) → is_digit b ≡ t → Dec (most < v * 10 + (b - 48))
        → (1 ≤ v * 10 + (b - 48) → v * 10 + (b - 48) ≤ most → digits_from most (v * 10 + (b - 48)) bs ≡ good w rest → Written most (v * 10 + (b - 48)) bs w rest)
        → Written most v (b ∷ bs) w rest
    go false t d r = written-end most v w (b ∷ bs) rest h (sym (digits-stop most v (b ∷ bs) t) ∙ e)
    go true t (yes a) r = bad-good (sym (digits_above most v b bs t a) ∙ e)
    go true t (no a) r =
        let k : v * 10 + (b - 48) ≤ most = omega arith in
        let s = r (omega arith) k (sym (digits-read most v b bs t k) ∙ e) in
        (sym (decimal-taken v b bs p t) ∙ s.0, s.1)

pub number-only : (most : ℕ) (l : List ℕ) (v : ℕ) (rest : List ℕ) → number_at most l ≡ good v rest → (l ≡ decimal v ++ rest) × (v ≤ most)
number-only most [] v rest e = bad-good (sym (number-none most [] tt) ∙ e)
number-only most (b ∷ bs) v rest e = go (is_digit b) refl (dec_lt 48 b) (dec_lt most (b - 48))
  where
    go : (t : Bool) → is_digit b ≡ t → Dec (48 < b) → Dec (most < b - 48) → (b ∷ bs ≡ decimal v ++ rest) × (v ≤ most)
    go false t c d = bad-good (sym (number-none most (b ∷ bs) t) ∙ e)
    go true t (no c) d =
        let z : b ≡ 48 = omega (arith, digit-range b t) in
        let f : good 0 bs ≡ good v rest = sym (number-zero most bs) ∙ ap (λ (x : ℕ). number_at most (x ∷ bs)) (sym z) ∙ e in
        let w : Written most 0 bs v rest = written-end most 0 v bs rest (omega arith) f in
        (ap (λ (x : ℕ). x ∷ bs) z ∙ ap (λ (x : List ℕ). x ++ bs) (sym (decimal-small 0 (omega arith))) ∙ w.0, w.1)
    go true t (yes c) (yes d) =
        let f : digits_from most 0 (b ∷ bs) ≡ good v rest = sym (number-start most (b ∷ bs) (omega arith) c (digit-range b t).1) ∙ e in
        bad-good (sym (digits_above most 0 b bs t (omega arith)) ∙ f)
    go true t (yes c) (no d) =
        let f : digits_from most 0 (b ∷ bs) ≡ good v rest = sym (number-start most (b ∷ bs) (omega arith) c (digit-range b t).1) ∙ e in
        let n : 0 * 10 + (b - 48) ≡ b - 48 = omega arith in
        let s = digits-only most (b - 48) bs v rest (omega arith) (omega arith) (ap (λ (x : ℕ). digits_from most x bs) (sym n) ∙ sym (digits-read most 0 b bs t (omega arith)) ∙ f) in
        let g : 48 + (b - 48) ≡ b = omega arith in
        (ap (λ (x : ℕ). x ∷ bs) (sym g) ∙ ap (λ (x : List ℕ). x ++ bs) (sym (decimal-small (b - 48) (omega (arith, digit-range b t)))) ∙ s.0, s.1)

-- each before what does not begin with a digit
pub decimal-parts : (a b : ℕ) (x y : List ℕ) → Stops x → Stops y → decimal a ++ x ≡ decimal b ++ y → (a ≡ b) × (x ≡ y)
decimal-parts a b x y s t e =
    let f : good a x ≡ good b y = sym (number-decimal (a + b) a x (omega arith) s) ∙ ap (number_at (a + b)) e ∙ number-decimal (a + b) b y (omega arith) t in
    (cc, cc)

-- each before the same separator that is no digit
pub decimal-before : (s a b : ℕ) (x y : List ℕ) → is_digit s ≡ false → decimal a ++ s ∷ x ≡ decimal b ++ s ∷ y → (a ≡ b) × (x ≡ y)
decimal-before s a b x y h e =
    let p = decimal-parts a b (s ∷ x) (s ∷ y) h h e in
    let q : s ∷ x ≡ s ∷ y = p.1 in
    (p.0, cc)

-- each before TAB
pub decimal-apart : (a b : ℕ) (x y : List ℕ) → decimal a ++ 9 ∷ x ≡ decimal b ++ 9 ∷ y → (a ≡ b) × (x ≡ y)
unfolding is_digit
decimal-apart a b x y e = decimal-before 9 a b x y refl e

pub hex-length : (k n : ℕ) → length (hex_of k n) ≡ k
unfolding hex_of
hex-length zero n = refl
hex-length (suc k) n = length-append (hex_of k (n / 16)) (glyph (n % 16) ∷ []) ∙ omega (arith, hex-length k (n / 16))

pub glyph-apart : (a b : ℕ) → a < 16 → b < 16 → glyph a ≡ glyph b → a ≡ b
glyph-apart a b h k e = go (dec_lt a 10) (dec_lt b 10)
  where
    go : Dec (a < 10) → Dec (b < 10) → a ≡ b
    go (yes l) (yes m) = omega (arith, glyph-low a l, glyph-low b m)
    go (yes l) (no m) = omega (arith, glyph-low a l, glyph-high b (omega arith))
    go (no l) (yes m) = omega (arith, glyph-high a (omega arith), glyph-low b m)
    go (no l) (no m) = omega (arith, glyph-high a (omega arith), glyph-high b (omega arith))

pub hex-apart : (k a b : ℕ) → a < 16 ^ k → b < 16 ^ k → hex_of k a ≡ hex_of k b → a ≡ b
unfolding hex_of
hex-apart zero a b h m e = omega arith
hex-apart (suc k) a b h m e =
    let high : hex_of k (a / 16) ≡ hex_of k (b / 16) = sym (take_at (hex_of k (a / 16)) (glyph (a % 16) ∷ []) k (hex-length k (a / 16))) ∙ ap (take k) e ∙ take_at (hex_of k (b / 16)) (glyph (b % 16) ∷ []) k (hex-length k (b / 16)) in
    let low : glyph (a % 16) ∷ [] ≡ glyph (b % 16) ∷ [] = sym (drop_at (hex_of k (a / 16)) (glyph (a % 16) ∷ []) k (hex-length k (a / 16))) ∙ ap (drop k) e ∙ drop_at (hex_of k (b / 16)) (glyph (b % 16) ∷ []) k (hex-length k (b / 16)) in
    let p : a < 16 ^ k * 16 = omega (arith, pow-suc 16 k) in
    let q : b < 16 ^ k * 16 = omega (arith, pow-suc 16 k) in
    let f : a / 16 ≡ b / 16 = hex-apart k (a / 16) (b / 16) (omega arith) (omega arith) high in
    let g : a % 16 ≡ b % 16 = glyph-apart (a % 16) (b % 16) (omega arith) (omega arith) (cc) in
    omega arith
