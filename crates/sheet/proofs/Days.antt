-- The lines of seven days, one by one: how many bytes they have, and where they are stored. Assumes nothing.
use mathlib.Core.Path.{◌≡◌, refl, sym, ap, ◌∙◌, subst}
use mathlib.Core.List.{List, [], ◌∷◌, ◌++◌}
use Prim.Native.Nat.{ℕ, ◌+◌, ◌*◌, ◌≤◌, ◌<◌}
use native.Mathlib.Numerals.{add-one}
use native.Mathlib.Omega.{arith}
use lib.ListN.{length, get_or, drop, length-append, drop_of_length-le}
use lib.Seq.{sets, drop-cons}
use Rattle.laws.specs.Decimal.{decimal}
use Rattle.laws.specs.Over.{sets-append}
use Rattle.text.specs.Scan.{LF, TAB}
use Rattle.text.specs.Put.{Puts}
use Rattle.text.specs.PutLaws.{room-is, puts-fit, puts-length, put_then}
use Rattle.weekly.specs.declared.Day.{Day}
use Rattle.sheet.specs.Lines.{letter_of, day_text, days_text}

-- the lines from day k on
abbrev rest : List Day → ℕ → List ℕ
rest days k = days_text k (drop k days)

rest-day : (days : List Day) (k : ℕ) (d : Day) → k < length days → rest days k ≡ day_text k (get_or days k d) ++ rest days (k + 1)
unfolding days_text
rest-day days k d h = ap (days_text k) (drop-cons days k d h) ∙ ap (λ (i : ℕ). day_text k (get_or days k d) ++ rest days i) (sym (add-one k))

rest-length : (days : List Day) (k : ℕ) (d : Day) → k < length days → length (rest days k) ≡ length (day_text k (get_or days k d)) + length (rest days (k + 1))
rest-length days k d h = ap length (rest-day days k d h) ∙ length-append (day_text k (get_or days k d)) (rest days (k + 1))

rest-none : (days : List Day) (k : ℕ) → length days ≤ k → rest days k ≡ []
unfolding days_text
rest-none days k h = ap (days_text k) (drop_of_length-le days {i = k} h)

-- ---- how many bytes they have

pub record Measured (days : List Day) (n k : ℕ) : Type 0 where
  pub size : length days ≡ 7
  pub few : k ≤ 7
  pub sum : n + length (rest days k) ≡ length (days_text 0 days)
  pub small : n ≤ 65 * k

pub measured-none : (days : List Day) → length days ≡ 7 → Measured days 0 0
measured-none days h = record { size = h; few = omega arith; sum = omega arith; small = omega arith }

pub measured-more : (days : List Day) (n k r : ℕ) (d : Day) → Measured days n k → k < 7 → r ≡ length (day_text k (get_or days k d)) → r ≤ 65 → Measured days (n + r) (k + 1)
measured-more days n k r d m h e s =
    record {
      size = m.size;
      few = omega arith;
      sum = omega (arith, m.sum, rest-length days k d (omega (arith, m.size)), e);
      small = omega (arith, m.small);
    }

pub measured-all : (days : List Day) (n k : ℕ) → Measured days n k → 7 ≤ k → n ≡ length (days_text 0 days)
measured-all days n k m h = omega (arith, m.sum, ap length (rest-none days k (omega (arith, m.size))))

-- ---- where they are stored

pub record Stored (old : List ℕ) (days : List Day) (out : List ℕ) (at k : ℕ) : Type 0 where
  pub size : length days ≡ 7
  pub few : k ≤ 7
  pub same : length out ≡ length old
  pub room : length (days_text 0 days) ≤ length old
  pub place : at + length (rest days k) ≡ length (days_text 0 days)
  pub left : sets out at (rest days k) ≡ sets old 0 (days_text 0 days)

pub stored-none : (old : List ℕ) (days : List Day) → length days ≡ 7 → length (days_text 0 days) ≤ length old → Stored old days old 0 0
stored-none old days h r = record { size = h; few = omega arith; same = refl; room = r; place = omega arith; left = refl }

pub stored-room : (old : List ℕ) (days : List Day) (out : List ℕ) (at k : ℕ) (d : Day) → Stored old days out at k → k < 7 → at + length (day_text k (get_or days k d)) ≤ length out
stored-room old days out at k d s h = omega (arith, s.place, s.room, s.same, rest-length days k d (omega (arith, s.size)))

pub stored_more : (old : List ℕ) (days : List Day) (out new : List ℕ) (at k r : ℕ) (d : Day) → Stored old days out at k → k < 7 → Puts out at (day_text k (get_or days k d)) new r → Stored old days new r (k + 1)
stored_more old days out new at k r d s h p =
    let text = day_text k (get_or days k d) in
    let n : k < length days = omega (arith, s.size) in
    let a = puts-fit (room-is out at text (stored-room old days out at k d s h)) p in
    record {
      size = s.size;
      few = omega arith;
      same = puts-length p ∙ s.same;
      room = s.room;
      place = omega (arith, a.1, s.place, rest-length days k d n);
      left =
          ap (λ (o : List ℕ). sets o r (rest days (k + 1))) a.0
          ∙ ap (λ (i : ℕ). sets (sets out at text) i (rest days (k + 1))) a.1
          ∙ sym (sets-append out at text (rest days (k + 1)))
          ∙ ap (sets out at) (sym (rest-day days k d n))
          ∙ s.left;
    }

pub stored-all : (old : List ℕ) (days : List Day) (out : List ℕ) (at k : ℕ) → Stored old days out at k → 7 ≤ k → out ≡ sets old 0 (days_text 0 days)
stored-all old days out at k s h = ap (sets out at) (sym (rest-none days k (omega (arith, s.size)))) ∙ s.left

-- ---- one line

pub day-put : {o1 o2 o3 o4 o5 o6 o7 o8 o9 : List ℕ} {p1 p2 p3 p4 p5 p6 p7 p8 p9 : ℕ} (d letter : ℕ) (x : Day) → letter ≡ letter_of x.kind
    → p1 + length (day_text d x) ≤ length o1
    → Puts o1 p1 (decimal d) o2 p2
    → Puts o2 p2 (TAB ∷ []) o3 p3
    → Puts o3 p3 (letter ∷ []) o4 p4
    → Puts o4 p4 (TAB ∷ []) o5 p5
    → Puts o5 p5 (decimal x.covered) o6 p6
    → Puts o6 p6 (TAB ∷ []) o7 p7
    → Puts o7 p7 (decimal x.sum) o8 p8
    → Puts o8 p8 (LF ∷ []) o9 p9
    → Puts o1 p1 (day_text d x) o9 p9
unfolding day_text
day-put {o1} {o9 = o9} {p1} {p9 = p9} d letter x e room a b c' d' e' f' g' h' =
    let t7 : List ℕ = LF ∷ [] in
    let t6 : List ℕ = decimal x.sum ++ t7 in
    let t5 : List ℕ = TAB ∷ t6 in
    let t4 : List ℕ = decimal x.covered ++ t5 in
    let t3 : List ℕ = TAB ∷ t4 in
    subst (λ (y : ℕ). Puts o1 p1 (decimal d ++ TAB ∷ y ∷ t3) o9 p9) e
    (put_then (decimal d) (TAB ∷ letter ∷ t3) (subst (λ (y : ℕ). p1 + length (decimal d ++ TAB ∷ y ∷ t3) ≤ length o1) (sym e) room) a
    (λ r. put_then (TAB ∷ []) (letter ∷ t3) r b
    (λ r. put_then (letter ∷ []) t3 r c'
    (λ r. put_then (TAB ∷ []) t4 r d'
    (λ r. put_then (decimal x.covered) t5 r e'
    (λ r. put_then (TAB ∷ []) t6 r f'
    (λ r. put_then (decimal x.sum) t7 r g'
    (λ r. h'))))))))
