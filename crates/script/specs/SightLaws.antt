-- A tick that is read where it stands is the next line's, and any other line is none. Assumes nothing.
use Rattle.std.specs.Prelude.{◌≡◌, Bool, ltb, leb, eqb, ℤ}
use Rattle.std.proofs.Math.Path.{refl, sym, ap}
use Rattle.std.proofs.Common.{◌∙◌, subst, ne_eqb}
use Rattle.std.proofs.Math.Bool.{true, false}
use mathlib.Core.List.{List, [], ◌∷◌, ◌++◌}
use Prim.Native.Nat.{ℕ, zero, suc, ◌+◌, ◌-◌, ◌*◌}
use Rattle.laws.specs.Pick.{pick, pick-t, pick-f, pick_all}
use Rattle.laws.specs.Decimal.{Parsed, good, bad, is_digit, digits_from, number_at, decimal}
use Rattle.laws.specs.DecimalLaws.{number-only}
use Rattle.text.specs.Scan.{LF, TAB, expect, on_good, field_at}
use Rattle.text.specs.ScanLaws.{bad-good}
use Rattle.operands.specs.Numbers.{minus, plus, signed_at, signed_field}
use Rattle.lines.specs.Lines.{Plain}
use Rattle.calls.specs.Call.{Call, tick, tick_at, link_at, why_at, or_last, settings_at, restart_at, room_at, bytes_call, write_field_at, read_field_at, dose_at, on_at, call_by, at_end, call_of}
use Rattle.script.specs.Sight.{Seen, seen, unseen, if_tick, only_tick, tick_line}

-- ---- bytes behind an LF change nothing of what is read before it

-- what follows is followed by s
unfoldable on : {X : Type 0} → List ℕ → Parsed X → Parsed X
on s (good v rest) = good v (rest ++ s)
on s bad = bad

module _ (m : List ℕ) where
  digits-on : (most v : ℕ) (l : List ℕ) → digits_from most v (l ++ LF ∷ m) ≡ on (LF ∷ m) (digits_from most v l)
  unfolding digits_from is_digit on pick
  digits-on most v [] = refl
  digits-on most v (b ∷ bs) = go (is_digit b) (ltb most (v * 10 + (b - 48))) _ (digits-on most (v * 10 + (b - 48)) bs)
    where
      go : (t u : Bool) {x : Parsed ℕ} (y : Parsed ℕ) → x ≡ on (LF ∷ m) y → pick t (pick u bad x) (good v (b ∷ bs ++ LF ∷ m)) ≡ on (LF ∷ m) (pick t (pick u bad y) (good v (b ∷ bs)))
      go true true y e = refl
      go true false y e = e
      go false u y e = refl

  number-on : (most : ℕ) (l : List ℕ) → number_at most (l ++ LF ∷ m) ≡ on (LF ∷ m) (number_at most l)
  unfolding number_at is_digit on pick
  number-on most [] = refl
  number-on most (b ∷ bs) = go (is_digit b) (leb b 48) _ (digits-on most 0 (b ∷ bs))
    where
      go : (t u : Bool) {x : Parsed ℕ} (y : Parsed ℕ) → x ≡ on (LF ∷ m) y → pick t (pick u (good 0 (bs ++ LF ∷ m)) x) bad ≡ on (LF ∷ m) (pick t (pick u (good 0 bs) y) bad)
      go true true y e = refl
      go true false y e = e
      go false u y e = refl

  field-on : (most : ℕ) (l : List ℕ) → field_at most (l ++ LF ∷ m) ≡ on (LF ∷ m) (field_at most l)
  unfolding field_at expect on pick
  field-on most [] = refl
  field-on most (b ∷ bs) = go (eqb b TAB) _ (number-on most bs)
    where
      go : (t : Bool) {x : Parsed ℕ} (y : Parsed ℕ) → x ≡ on (LF ∷ m) y → pick t x bad ≡ on (LF ∷ m) (pick t y bad)
      go true y e = e
      go false y e = refl

  plus-on : (p : Parsed ℕ) → plus (on (LF ∷ m) p) ≡ on (LF ∷ m) (plus p)
  unfolding plus on
  plus-on (good n rest) = refl
  plus-on bad = refl

  minus-on : (p : Parsed ℕ) → minus (on (LF ∷ m) p) ≡ on (LF ∷ m) (minus p)
  unfolding minus on
  minus-on (good zero rest) = refl
  minus-on (good (suc n) rest) = refl
  minus-on bad = refl

  signed-on : (l : List ℕ) → signed_field (l ++ LF ∷ m) ≡ on (LF ∷ m) (signed_field l)
  unfolding signed_field signed_at expect on pick plus number_at is_digit
  signed-on [] = refl
  signed-on (b ∷ []) = go (eqb b TAB)
    where
      go : (t : Bool) → pick {A = Parsed ℤ} t bad bad ≡ on (LF ∷ m) (pick t bad bad)
      go true = refl
      go false = refl
  signed-on (b ∷ c ∷ cs) = go (eqb b TAB) (eqb c 45) _ _ (ap minus (number-on 2147483648 cs) ∙ minus-on (number_at 2147483648 cs)) (ap plus (number-on 2147483647 (c ∷ cs)) ∙ plus-on (number_at 2147483647 (c ∷ cs)))
    where
      go : (t u : Bool) {x z : Parsed ℤ} (y w : Parsed ℤ) → x ≡ on (LF ∷ m) y → z ≡ on (LF ∷ m) w → pick t (pick u x z) bad ≡ on (LF ∷ m) (pick t (pick u y w) bad)
      go true true y w e f = e
      go true false y w e f = f
      go false u y w e f = refl

-- ---- what is read of bytes without LF is followed by such bytes

plain-right : (a b : List ℕ) → Plain (a ++ b) → Plain b
plain-right [] b p = p
plain-right (x ∷ xs) b p = plain-right xs b p.1

number-plain : (most : ℕ) (l : List ℕ) {v : ℕ} {rest : List ℕ} → number_at most l ≡ good v rest → Plain l → Plain rest
number-plain most l {v} {rest} e p = plain-right (decimal v) rest (subst Plain (number-only most l v rest e).0 p)

field_plain : (most : ℕ) (l : List ℕ) {v : ℕ} {rest : List ℕ} → field_at most l ≡ good v rest → Plain l → Plain rest
unfolding field_at expect pick
field_plain most [] e p = bad-good e
field_plain most (b ∷ bs) {v} {rest} e p = go (eqb b TAB) e
  where
    go : (t : Bool) → pick t (number_at most bs) bad ≡ good v rest → Plain rest
    go true f = number-plain most bs f p.1
    go false f = bad-good f

plus-plain : (p : Parsed ℕ) {x : ℤ} {rest : List ℕ} → ((v : ℕ) (r : List ℕ) → p ≡ good v r → Plain r) → plus p ≡ good x rest → Plain rest
unfolding plus
plus-plain (good n r) {rest = rest} h e = let f : r ≡ rest = cc in subst Plain f (h _ _ refl)
plus-plain bad h e = bad-good e

minus-plain : (p : Parsed ℕ) {x : ℤ} {rest : List ℕ} → ((v : ℕ) (r : List ℕ) → p ≡ good v r → Plain r) → minus p ≡ good x rest → Plain rest
unfolding minus
minus-plain (good zero r) h e = bad-good e
minus-plain (good (suc n) r) {rest = rest} h e = let f : r ≡ rest = cc in subst Plain f (h _ _ refl)
minus-plain bad h e = bad-good e

signed-plain : (l : List ℕ) {x : ℤ} {rest : List ℕ} → signed_field l ≡ good x rest → Plain l → Plain rest
unfolding signed_field signed_at expect pick
signed-plain [] e p = bad-good e
signed-plain (b ∷ []) {x} {rest} e p = go (eqb b TAB) e
  where
    go : (t : Bool) → pick {A = Parsed ℤ} t bad bad ≡ good x rest → Plain rest
    go true f = bad-good f
    go false f = bad-good f
signed-plain (b ∷ c ∷ cs) {x} {rest} e p = go (eqb b TAB) (eqb c 45) e
  where
    go : (t u : Bool) → pick t (pick u (minus (number_at 2147483648 cs)) (plus (number_at 2147483647 (c ∷ cs)))) bad ≡ good x rest → Plain rest
    go true true f = minus-plain (number_at 2147483648 cs) (λ v r h. number-plain 2147483648 cs h p.1.1) f
    go true false f = plus-plain (number_at 2147483647 (c ∷ cs)) (λ v r h. number-plain 2147483647 (c ∷ cs) h p.1) f
    go false u f = bad-good f

-- ---- no letter but T asks for a tick

abbrev Never : Parsed Call → Type 0
Never p = only_tick (at_end p) ≡ unseen

never-good : (call : Call) → if_tick call ≡ unseen → (rest : List ℕ) → Never (good call rest)
unfolding only_tick at_end
never-good call h [] = h
never-good call h (b ∷ bs) = refl

never_on : {X : Type 0} (p : Parsed X) (k : X → List ℕ → Parsed Call) → ((v : X) (rest : List ℕ) → Never (k v rest)) → Never (on_good p k)
unfolding only_tick at_end on_good
never_on (good v rest) k h = h v rest
never_on bad k h = refl

never-last : (without : Call) (behind : ℕ → Call) → if_tick without ≡ unseen → ((n : ℕ) → if_tick (behind n) ≡ unseen) → (rest : List ℕ) → Never (or_last without behind rest)
unfolding or_last
never-last without behind h k [] = never-good without h []
never-last without behind h k (b ∷ bs) = never_on _ _ (λ n rest. never-good (behind n) (k n) rest)

never-room : (most : ℕ) (call : List ℕ → ℕ → Call) → ((s : List ℕ) (n : ℕ) → if_tick (call s n) ≡ unseen) → (l : List ℕ) → Never (room_at most call l)
unfolding room_at
never-room most call h l = never_on _ _ (λ s rest. never_on _ _ (λ n rest'. never-good (call s n) (h s n) rest'))

never-bytes : (call : List ℕ → ℕ → Call) → ((s : List ℕ) → if_tick (call s 0) ≡ unseen) → (l : List ℕ) → Never (bytes_call call l)
unfolding bytes_call
never-bytes call h l = never_on _ _ (λ s rest. never-good (call s 0) (h s) rest)

never-letter : (b : ℕ) (l : List ℕ) → eqb b 84 ≡ false → Never (call_by b l)
unfolding call_by link_at settings_at restart_at why_at write_field_at read_field_at dose_at on_at if_tick only_tick at_end
never-letter b l e =
    subst Never (sym (pick-f _ _ _ e))
    (pick_all Never (eqb b 76) (never_on _ _ (λ on rest. never-good _ refl rest))
    (pick_all Never (eqb b 83) (never_on _ _ (λ vs rest. never-last _ _ refl (λ n. refl) rest))
    (pick_all Never (eqb b 67) (never-good _ refl l)
    (pick_all Never (eqb b 81) (never-good _ refl l)
    (pick_all Never (eqb b 78) (never_on _ _ (λ vs rest. never-last _ _ refl (λ n. refl) rest))
    (pick_all Never (eqb b 66) (never-room _ _ (λ s n. refl) l)
    (pick_all Never (eqb b 77) (never-room _ _ (λ s n. refl) l)
    (pick_all Never (eqb b 89) (never_on _ _ (λ k rest. never-good _ refl rest))
    (pick_all Never (eqb b 87) (never-room _ _ (λ s n. refl) l)
    (pick_all Never (eqb b 88) (never-bytes _ (λ s. refl) l)
    (pick_all Never (eqb b 71) (never_on _ _ (λ w r. never_on _ _ (λ s t. never_on _ _ (λ o u. never_on _ _ (λ p v. never-good _ refl v)))))
    (pick_all Never (eqb b 75) (never_on _ _ (λ bytes rest. pick_all Never _ (never-good _ refl rest) refl))
    (pick_all Never (eqb b 68) (never_on _ _ (λ vs rest. never_on _ _ (λ n rest'. never-good _ refl rest')))
    (pick_all Never (eqb b 72) (never_on _ _ (λ h rest. never_on _ _ (λ n rest'. never-good _ refl rest')))
    (pick_all Never (eqb b 108) (never-bytes _ (λ s. refl) l)
    (pick_all Never (eqb b 109) (never-bytes _ (λ s. refl) l)
    (pick_all Never (eqb b 117) (never-room _ _ (λ s n. refl) l)
    (pick_all Never (eqb b 106) (never-room _ _ (λ s n. refl) l) refl))))))))))))))))))

-- ---- a line that ends in LF is read as its tick, and a begun one is none

-- what follows a tick's line
abbrev pub ahead : List ℕ → Seen → Parsed Call
ahead m (seen x i) = good (tick x i) m
ahead m unseen = bad

abbrev line_end : Call → List ℕ → Parsed Call
line_end call rest = expect LF rest (good call)

-- the sample and the inputs behind the letter
abbrev sampled : ℤ → List ℕ → Parsed Call
sampled x rest = on_good (field_at 255 rest) (λ i rest'. good (tick x i) rest')

expect-plain : (call : Call) (rest : List ℕ) → Plain rest → line_end call rest ≡ bad
unfolding expect
expect-plain call [] p = refl
expect-plain call (b ∷ bs) p = pick-f _ _ _ (ne_eqb b LF p.0)

module _ (m : List ℕ) where
  ends-whole : (x : ℤ) (i : ℕ) (rest : List ℕ) → Plain rest → line_end (tick x i) (rest ++ LF ∷ m) ≡ ahead m (only_tick (at_end (good (tick x i) rest)))
  unfolding expect at_end only_tick if_tick pick
  ends-whole x i [] q = refl
  ends-whole x i (b ∷ bs) q = pick-f _ _ _ (ne_eqb b LF q.0)

  inputs-whole : (x : ℤ) (rest : List ℕ) → Plain rest → (f : Parsed ℕ) → field_at 255 rest ≡ f
      → on_good (on_good (on (LF ∷ m) f) (λ i rest'. good (tick x i) rest')) line_end ≡ ahead m (only_tick (at_end (on_good f (λ i rest'. good (tick x i) rest'))))
  unfolding on_good on only_tick at_end
  inputs-whole x rest q (good i rest') e = ends-whole x i rest' (field_plain 255 rest e q)
  inputs-whole x rest q bad e = refl

  sample-whole : (l : List ℕ) → Plain l → (s : Parsed ℤ) → signed_field l ≡ s → on_good (on_good (on (LF ∷ m) s) sampled) line_end ≡ ahead m (only_tick (at_end (on_good s sampled)))
  unfolding on_good on only_tick at_end
  sample-whole l p (good x rest) e =
      ap (λ (f : Parsed ℕ). on_good (on_good f (λ i rest'. good (tick x i) rest')) line_end) (field-on m 255 rest)
      ∙ inputs-whole x rest (signed-plain l e p) (field_at 255 rest) refl
  sample-whole l p bad e = refl

  tick-whole : (l : List ℕ) → Plain l → on_good (tick_at (l ++ LF ∷ m)) line_end ≡ ahead m (only_tick (at_end (tick_at l)))
  unfolding tick_at
  tick-whole l p = ap (λ (q : Parsed ℤ). on_good (on_good q sampled) line_end) (signed-on m l) ∙ sample-whole l p (signed_field l) refl

  letter-whole : (b : ℕ) (bs : List ℕ) → Plain bs → (t : Bool) → eqb b 84 ≡ t → pick t (on_good (tick_at (bs ++ LF ∷ m)) line_end) bad ≡ ahead m (only_tick (at_end (call_by b bs)))
  unfolding pick call_by
  letter-whole b bs p true e = tick-whole bs p ∙ ap (λ (q : Parsed Call). ahead m (only_tick (at_end q))) (sym (pick-t _ _ _ e))
  letter-whole b bs p false e = sym (ap (ahead m) (never-letter b bs e))

  pub line-whole : (l : List ℕ) → Plain l → tick_line (l ++ LF ∷ m) ≡ ahead m (only_tick (call_of l))
  unfolding tick_line expect call_of only_tick pick
  line-whole [] p = refl
  line-whole (b ∷ bs) p = letter-whole b bs p.1 (eqb b 84) refl

inputs-begun : (x : ℤ) (rest : List ℕ) → Plain rest → (f : Parsed ℕ) → field_at 255 rest ≡ f → on_good (on_good f (λ i rest'. good (tick x i) rest')) line_end ≡ bad
unfolding on_good
inputs-begun x rest q (good i rest') e = expect-plain (tick x i) rest' (field_plain 255 rest e q)
inputs-begun x rest q bad e = refl

sample-begun : (l : List ℕ) → Plain l → (s : Parsed ℤ) → signed_field l ≡ s → on_good (on_good s sampled) line_end ≡ bad
unfolding on_good
sample-begun l p (good x rest) e = inputs-begun x rest (signed-plain l e p) (field_at 255 rest) refl
sample-begun l p bad e = refl

pub line-begun : (l : List ℕ) → Plain l → tick_line l ≡ bad
unfolding tick_line expect tick_at
line-begun [] p = refl
line-begun (b ∷ bs) p = pick_all (λ (q : Parsed Call). q ≡ bad) (eqb b 84) (sample-begun bs p.1 (signed_field bs) refl) refl
