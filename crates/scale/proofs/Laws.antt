-- Laws that the proofs of the code cite: numbers in a machine's integers. Assumes nothing.
use mathlib.Core.Path.{◌≡◌, refl, sym, ◌∙◌}
use mathlib.Core.Bool.{Bool, true, false, not, cond, ◌&&◌, ◌||◌, and-false, or-false, beq, xor}
use mathlib.Core.List.{[]}
use Prim.Native.Nat.{ℕ, suc, ◌+◌, ◌-◌, ◌^◌, ◌≤◌, ◌<◌}
use native.Mathlib.Omega.{arith}
use lib.Dec.{leb, ltb}
use lib.IntN.{ℤ, pos, negsuc, nat_abs, ◌+ℤ◌, ◌-ℤ◌}
use lib.Signed.{mag, lt_z}
use mir.Syntax.{w32, w64}
use mir.Val.{to_z, of_z, SFits}
use mir.Facts.{to_z-of_z, to_z_pos}
use borrow.Author.Tests.{ltb-true, ltb-false, leb-true, leb-false, lt-ltb, le-ltb, lt-leb, le-leb}
use Rattle.std.specs.Prelude.{Option, Some, None, min, Result, Ok, Err, IsErr}
use Rattle.std.specs.Option.{unwrap_or}
use Rattle.std.proofs.Common.{int_eq, is_eq, Less, Greater, Equal}
use Rattle.std.specs.Option.{ok_or}
use Rattle.laws.specs.Pick.{pick, pick-f, pick-if, pick-map}
use Rattle.laws.specs.Whole.{abs-sub, fits32, fits64, false-true}
use Rattle.paper.specs.Answer.{done, refused}
use Rattle.paper.specs.Numbers.{R16}
use Rattle.settings.specs.declared.Settings.{Settings}
use Rattle.window.specs.Window.{samples_of}
use Rattle.window.specs.declared.Window.{Window}
use Rattle.field.specs.Field.{writable}
use Rattle.field.specs.RoundTrip.{small-writable}
use Rattle.field.specs.Says.{says-err}
use Rattle.field.specs.declared.FieldError.{FieldError}
use Rattle.field.specs.declared.FieldError.TheVariants as E
use Rattle.field.specs.declared.Weight.{Weight}
use Rattle.dosing.specs.Rules.{units}
use Rattle.dosing.specs.declared.Units.{Units}
use Rattle.dosing.specs.declared.Gates.{Gates}
use Rattle.scale.specs.Scale.{over_capacity, equal_z, changed, calm_by_gates, six_digits, outside, filtered, none, stable_of, net_of, weight_from, weight_by, showable}
use Rattle.scale.specs.Says.{says_weighed}
use Rattle.scale.specs.Laws.{written-shows}

-- S begins again at the first sample and where F is another
pub calm-again : (first same : Bool) (n : ℕ) → pick first 0 (pick same n 0) ≡ pick (first || not same) 0 n
unfolding pick
calm-again true same n = refl
calm-again false true n = refl
calm-again false false n = refl

-- two whole numbers are equal where each is at most the other
nat-equal : (a b : ℕ) (l g : Bool) → ltb a b ≡ l → ltb b a ≡ g → is_eq (cond l Less (cond g Greater Equal)) ≡ (leb a b && leb b a)
nat-equal a b true g p q = rw (lt-leb b a (ltb-true a b p)) (sym (and-false (leb a b)))
nat-equal a b false true p q = rw (lt-leb a b (ltb-true b a q))
nat-equal a b false false p q = rw (le-leb a b (ltb-false b a q), le-leb b a (ltb-false a b p))

pub equal_is : (a b : ℤ) → int_eq a b ≡ equal_z a b
unfolding equal_z
equal_is (pos a) (pos b) = nat-equal a b (ltb a b) (ltb b a) refl refl
equal_is (pos a) (negsuc b) = refl
equal_is (negsuc a) (pos b) = refl
equal_is (negsuc a) (negsuc b) = nat-equal b a (ltb b a) (ltb a b) refl refl

-- S stays where no output moved
moved : (a b : Bool) → beq a b ≡ not (xor a b)
unfolding xor
moved true true = refl
moved true false = refl
moved false true = refl
moved false false = refl

none-moved : (x y z : Bool) (s : ℕ) → pick (not x && (not y && not z)) s 0 ≡ pick (x || y || z) 0 s
unfolding pick
none-moved true y z s = refl
none-moved false true z s = refl
none-moved false false true s = refl
none-moved false false false s = refl

pub calm-unmoved : (a b : Gates) (s : ℕ) {same : Bool} → same ≡ (beq a.one b.one && (beq a.two b.two && beq a.three b.three)) → pick same s 0 ≡ calm_by_gates a b s
unfolding calm_by_gates changed
calm-unmoved a b s e = rw (e, moved a.one b.one, moved a.two b.two, moved a.three b.three) (none-moved (xor a.one b.one) (xor a.two b.two) (xor a.three b.three) s)

-- one step up to the cap
pub calm-step : (s : ℕ) → min s 4031 + 1 ≡ pick (ltb s 4032) (s + 1) 4032
calm-step s = pick-if (λ (n : ℕ). min s 4031 + 1 ≡ n) (ltb s 4032) (λ h. omega (arith, ltb-true s 4032 h)) (λ h. omega (arith, ltb-false s 4032 h))

one-more : (n : ℕ) (b : Bool) → ltb 899999 n ≡ b → ltb 900000 (suc n) ≡ b
one-more n true h = lt-ltb 900000 (suc n) (omega (arith, ltb-true 899999 n h))
one-more n false h = le-ltb 900000 (suc n) (omega (arith, ltb-false 899999 n h))

-- a sample's size tells its two limits
pub outside-is : (x : ℤ) → ltb 900000 (nat_abs x) ≡ outside x
unfolding outside
outside-is (pos n) = refl
outside-is (negsuc n) = one-more n (ltb 899999 n) refl ∙ sym (or-false _)

-- an i32 made an i64
fits-wide : {z : ℤ} → SFits w32 z → SFits w64 z
fits-wide f = record { sfits = omega (arith, f.sfits) }

pub wide_fits : {z : ℤ} → SFits w32 z → SFits w64 (to_z w32 (of_z w32 z))
wide_fits f = rw (to_z-of_z f) (fits-wide f)

wide_is : {z : ℤ} → SFits w32 z → to_z w64 (of_z w64 (to_z w32 (of_z w32 z))) ≡ z
wide_is f = rw (to_z-of_z f) (to_z-of_z (fits-wide f))

-- the size of a difference of two weights
apart : (t : Bool) (a b : ℕ) → nat_abs (cond t (negsuc (suc a - suc (suc b))) (pos (suc b - suc a))) ≤ a + b + 1
apart true a b = omega arith
apart false a b = omega arith

diff-size : (a b : ℤ) → nat_abs (a -ℤ b) ≤ mag a + mag b + 1
diff-size (pos a) (pos b) = omega (arith, abs-sub (pos a) (pos b))
diff-size (pos a) (negsuc b) = omega (arith, abs-sub (pos a) (negsuc b))
diff-size (negsuc a) (pos b) = omega (arith, abs-sub (negsuc a) (pos b))
diff-size (negsuc a) (negsuc b) = apart (ltb (suc b) (suc a)) a b

module _ {a b : ℤ} (fa : SFits w32 a) (fb : SFits w32 b) where
  diff-fits : SFits w64 (a -ℤ b)
  diff-fits = fits64 (a -ℤ b) (omega (arith, fa.sfits, fb.sfits, diff-size a b))

  pub minus-fits : SFits w64 (to_z w64 (of_z w64 (to_z w32 (of_z w32 a))) -ℤ to_z w64 (of_z w64 (to_z w32 (of_z w32 b))))
  minus-fits = rw (wide_is fa, wide_is fb) diff-fits

  pub minus_is : to_z w64 (of_z w64 (to_z w64 (of_z w64 (to_z w32 (of_z w32 a))) -ℤ to_z w64 (of_z w64 (to_z w32 (of_z w32 b))))) ≡ a -ℤ b
  minus_is = rw (wide_is fa, wide_is fb) (to_z-of_z diff-fits)

-- w > C+9, in i64
module _ (n : ℕ) (h : n < 2 ^ 32) where
  pos-is : to_z w64 n ≡ pos n
  pos-is = to_z_pos w64 (omega arith)

  sum_fits : SFits w64 (pos (n + 9))
  sum_fits = fits64 (pos (n + 9)) (omega arith)

  pub plus-fits : SFits w64 (to_z w64 n +ℤ pos 9)
  plus-fits = rw pos-is sum_fits

  pub plus-is : to_z w64 (of_z w64 (to_z w64 n +ℤ pos 9)) ≡ pos (n + 9)
  plus-is = rw pos-is (to_z-of_z sum_fits)

pub over-is : (set : Settings) {w : ℤ} → set.capacity < 2 ^ 32 → SFits w64 w → lt_z (to_z w64 (of_z w64 (to_z w64 set.capacity +ℤ pos 9))) (to_z w64 (of_z w64 w)) ≡ over_capacity set w
unfolding over_capacity
over-is set h f = rw (to_z-of_z f, plus-is set.capacity h)

-- ---- six digits

pub narrow-fits : {x : ℤ} → SFits w64 x → nat_abs x ≤ 999999 → SFits w32 (to_z w64 (of_z w64 x))
narrow-fits {x} f h = rw (to_z-of_z f) (fits32 x (omega arith))

pub narrow-is : {x : ℤ} → SFits w64 x → nat_abs x ≤ 999999 → to_z w32 (of_z w32 (to_z w64 (of_z w64 x))) ≡ x
narrow-is {x} f h = rw (to_z-of_z f) (to_z-of_z (fits32 x (omega arith)))

-- w, or 0 beyond six digits
pub net-or : (f z : ℤ) → unwrap_or (six_digits (f -ℤ z)) (pos 0) ≡ net_of f z
unfolding six_digits net_of
net-or f z = pick-map (λ (o : Option ℤ). unwrap_or o (pos 0)) (leb (nat_abs (f -ℤ z)) 999999) (Some (f -ℤ z)) None

-- what can be shown, by the two tests
module _ (v : Weight) where
  pub too-great : 999999 < nat_abs v.value → refused R16 [] ≡ showable v
  unfolding showable writable
  too-great h = sym (pick-f _ _ _ (rw (lt-leb (nat_abs v.value) 999999 h) refl))

  pub no-point : 7 < v.point → refused R16 [] ≡ showable v
  unfolding showable writable
  no-point h = sym (pick-f _ _ _ (rw (lt-leb v.point 7 h) (and-false (leb (nat_abs v.value) 999999))))

  pub shows : nat_abs v.value ≤ 999999 → v.point ≤ 7 → done v ≡ showable v
  shows a b = sym (written-shows v (small-writable v a b))

-- six digits asked, or R16
module _ (w : ℤ) where
  pub six-ok : {o : Option ℤ} {x : ℤ} → o ≡ six_digits w → ok_or o E.R16 ≡ Ok x → (nat_abs w ≤ 999999) × (x ≡ w)
  unfolding six_digits
  six-ok {o} {x} e h =
      pick-if (λ (o : Option ℤ). ok_or o E.R16 ≡ Ok x → (nat_abs w ≤ 999999) × (x ≡ w)) (leb (nat_abs w) 999999)
      (λ t k. (leb-true (nat_abs w) 999999 t, cc)) (λ t k. absurd (let z : ◌≡◌ {A = ℕ} 0 1 = cc in omega arith)) (rw e at h)

  pub six-err : {o : Option ℤ} {e : FieldError} → o ≡ six_digits w → ok_or o E.R16 ≡ Err e → 999999 < nat_abs w
  unfolding six_digits
  six-err {o} {e} q h =
      pick-if (λ (o : Option ℤ). ok_or o E.R16 ≡ Err e → 999999 < nat_abs w) (leb (nat_abs w) 999999)
      (λ t k. absurd (let z : ◌≡◌ {A = ℕ} 0 1 = cc in omega arith)) (λ t k. leb-false (nat_abs w) 999999 t) (rw q at h)

pub weighed-err : (r : Result Weight FieldError) → IsErr r → says_weighed r ≡ refused R16 []
weighed-err (Ok v) i = false-true i
weighed-err (Err e) i = says-err e

-- ---- a weighing

module _ (set : Settings) (window : Window) (z : Units) (s n : ℕ) where
  pub unweighed : none (samples_of window) ≡ true → ◌≡◌ {A = Weight} (record { value = pos 0; stable = false; over = false; point = set.point }) (weight_by set window z s n)
  unfolding weight_by weight_from
  unweighed h = rw h

  pub weighed : {f : Units} {w : ℤ} {stable over : Bool} → none (samples_of window) ≡ false
      → f ≡ units (filtered window n) → w ≡ f.v -ℤ z.v → stable ≡ stable_of set s → over ≡ over_capacity set (f.v -ℤ z.v)
      → ◌≡◌ {A = Weight} (record { value = w; stable = stable; over = over; point = set.point }) (weight_by set window z s n)
  unfolding weight_by weight_from
  weighed h m e a b = rw (a, b, e, m, h)
