-- Sizes: samples and F within 900,000, Z within 24,998, weights within 924,998, S within 4,032; and such a weight can always be shown. Assumes nothing.
use Rattle.std.specs.Prelude.{◌≡◌, refl, Bool, true, false, ◌||◌, List, [], ◌∷◌, ℕ, zero, suc, ◌≤◌, ◌<◌, leb, ltb, eqb, ℤ, pos, negsuc, nat_abs, ◌-ℤ◌, length, get_or, take}
use Rattle.std.proofs.Common.{sym, ap, ◌∙◌, arith, take_all, ltb-true, ltb-false, le-leb, ne_eqb}
use Rattle.std.proofs.Math.Bool.{or-true}
use Rattle.std.specs.Int.Signed.{lt_z}
use Rattle.laws.specs.Pick.{pick-t, pick_all, pick-if}
use Rattle.laws.specs.Whole.{abs-sub}
use Rattle.laws.specs.Bools.{or_left, or_right}
use Rattle.paper.specs.Answer.{done}
use Rattle.settings.specs.declared.Settings.{Settings}
use Rattle.window.specs.declared.Window.{Window}
use Rattle.window.specs.Window.{places, samples_of, held_of, empty_window, push_of}
use Rattle.window.specs.Range.{Within}
use Rattle.window.specs.Laws.{samples-push, samples-empty, within-nil, within-cons, within-take}
use Rattle.window.specs.MeanLaws.{mean-within}
use Rattle.field.specs.Field.{writable}
use Rattle.field.specs.RoundTrip.{small-writable}
use Rattle.field.specs.declared.Weight.{Weight}
use Rattle.dosing.specs.Rules.{units}
use Rattle.dosing.specs.declared.Units.{Units}
use Rattle.dosing.specs.declared.Gates.{Gates}
use Rattle.scale.specs.Scale.{outside, as_window, filtered, filtered_lent, none, calm_by_mean, stable_of, calm_by_gates, net_of, seen_by, weight_from, weight_by, showable}

-- ---- samples

pub within-at : (b : ℕ) (xs : List ℤ) → Within b xs → (k : ℕ) → nat_abs (get_or xs k (pos 0)) ≤ b
unfolding Within
within-at b [] w k = omega arith
within-at b (x ∷ xs) w zero = w.0
within-at b (x ∷ xs) w (suc k) = within-at b xs w.1 k

pub at-within : (b : ℕ) (xs : List ℤ) → ((k : ℕ) → nat_abs (get_or xs k (pos 0)) ≤ b) → Within b xs
unfolding Within
at-within b [] h = tt
at-within b (x ∷ xs) h = (h 0, at-within b xs (λ k. h (suc k)))

-- a sample that is not outside is within 900,000
inside-by-sign : (x : ℤ) → lt_z x (negsuc 899999) ≡ false → lt_z (pos 900000) x ≡ false → nat_abs x ≤ 900000
inside-by-sign (pos n) a b = ltb-false 900000 n b
inside-by-sign (negsuc n) a b = omega (arith, ltb-false 899999 n a)

pub inside-within : (x : ℤ) → outside x ≡ false → nat_abs x ≤ 900000
unfolding outside
inside-within x h = inside-by-sign x (or_left (lt_z x (negsuc 899999)) _ h) (or_right (lt_z x (negsuc 899999)) _ h)

-- the samples after a push, and those of an empty filter
pub push-within : (w : Window) (x : ℤ) → length w.samples ≡ 128 → Within 900000 (samples_of w) → nat_abs x ≤ 900000 → Within 900000 (samples_of (push_of w x))
push-within w x e all h =
    rw (samples-push w x e) (within-take 900000 128 (x ∷ samples_of w) (within-cons 900000 x (samples_of w) h all))

pub empty-within : Within 900000 (samples_of empty_window)
empty-within = rw samples-empty (within-nil 900000)

pub push-held : (w : Window) (x : ℤ) → (push_of w x).held ≤ 128
unfolding push_of
push-held w x = pick-if (λ (n : ℕ). n ≤ 128) (ltb w.held 128) (λ a. omega (arith, ltb-true w.held 128 a)) (λ a. omega arith)

-- samples that are lent are filtered as the window that they stand for
pub as-filtered : (samples : List ℤ) (held n : ℕ) → filtered_lent samples held n ≡ filtered (as_window samples held) n
unfolding filtered_lent filtered held_of samples_of
as-filtered samples held n = refl

-- a window's samples stand for that window
pub lent-window : (w : Window) → length w.samples ≡ 128 → as_window w.samples w.held ≡ w
lent-window w e = ap (λ (l : List ℤ). record { samples = l; held = w.held }) (take_all places w.samples (omega arith))

-- a window that lends its samples is filtered as it stands
pub lent-filtered : (w : Window) (n : ℕ) → length w.samples ≡ 128 → filtered_lent w.samples w.held n ≡ filtered w n
lent-filtered w n e = as-filtered w.samples w.held n ∙ ap (λ (v : Window). filtered v n) (lent-window w e)

-- no sample is held
none-taken : (n : ℕ) (xs : List ℤ) → 0 < length xs → none (take n xs) ≡ eqb n 0
unfolding none
none-taken zero xs h = refl
none-taken (suc n) (x ∷ xs) h = sym (ne_eqb (suc n) 0 (λ e. omega arith))
none-taken (suc n) [] h = absurd (omega arith)

pub none-held : (w : Window) → length w.samples ≡ 128 → none (samples_of w) ≡ eqb w.held 0
unfolding samples_of
none-held w e = none-taken w.held w.samples (omega arith)

-- none is held of those lent
pub none_lent : (samples : List ℤ) (held : ℕ) → none (samples_of (as_window samples held)) ≡ (eqb held 0 || eqb (length samples) 0)
unfolding none samples_of
none_lent samples zero = refl
none_lent [] (suc n) = sym (or-true (eqb (suc n) 0))
none_lent (x ∷ xs) (suc n) = rw (ne_eqb (suc n) 0 (λ e. omega arith), ne_eqb (length (x ∷ xs)) 0 (λ e. omega arith))

-- ---- F, S and weights

pub filtered-within : (w : Window) (n : ℕ) → Within 900000 (samples_of w) → nat_abs (filtered w n) ≤ 900000
unfolding filtered
filtered-within w n all = mean-within 900000 (take n (samples_of w)) (within-take 900000 n (samples_of w) all)

pub calm-by-mean-most : (first : Bool) (f previous : ℤ) (s : ℕ) → calm_by_mean first f previous s ≤ 4032
unfolding calm_by_mean
calm-by-mean-most first f previous s =
    pick_all (λ (n : ℕ). n ≤ 4032) first (omega arith)
    (pick_all (λ (n : ℕ). n ≤ 4032) _
    (pick-if (λ (n : ℕ). n ≤ 4032) (ltb s 4032) (λ a. omega (arith, ltb-true s 4032 a)) (λ a. omega arith))
    (omega arith))

pub calm-by-gates-most : (old new : Gates) (s : ℕ) → s ≤ 4032 → calm_by_gates old new s ≤ 4032
unfolding calm_by_gates
calm-by-gates-most old new s h = pick_all (λ (k : ℕ). k ≤ 4032) _ (omega arith) h

-- a weight of the scale
pub weight-within : (f z : ℤ) → nat_abs f ≤ 900000 → nat_abs z ≤ 24998 → nat_abs (f -ℤ z) ≤ 924998
weight-within f z a b = omega (arith, abs-sub f z)

-- what the phase rule sees of a weight of the scale is w itself
pub seen-weight : (set : Settings) (f z : Units) (s : ℕ) (start : Bool) → nat_abs f.v ≤ 900000 → nat_abs z.v ≤ 24998
    → seen_by set f z s start ≡ record { f = f; z = z; w = units (f.v -ℤ z.v); start = start; stable = stable_of set s }
unfolding seen_by net_of
seen-weight set f z s start a b =
    let h : nat_abs (f.v -ℤ z.v) ≤ 999999 = omega (arith, weight-within f.v z.v a b) in
    rw (pick-t (leb (nat_abs (f.v -ℤ z.v)) 999999) (f.v -ℤ z.v) (pos 0) (le-leb (nat_abs (f.v -ℤ z.v)) 999999 h))

from-within : (empty : Bool) (set : Settings) (s : ℕ) (w : ℤ) → nat_abs w ≤ 924998 → nat_abs (weight_from empty set s w).value ≤ 924998
unfolding weight_from
from-within true set s w h = omega arith
from-within false set s w h = h

-- weights stay within 924,998
pub value-within : (set : Settings) (window : Window) (z : Units) (s n : ℕ) → Within 900000 (samples_of window) → nat_abs z.v ≤ 24998 → nat_abs (weight_by set window z s n).value ≤ 924998
unfolding weight_by
value-within set window z s n all h =
    from-within (none (samples_of window)) set s _ (weight-within (filtered window n) z.v (filtered-within window n all) h)

from-writable : (empty : Bool) (set : Settings) (s : ℕ) (w : ℤ) → set.point ≤ 7 → nat_abs w ≤ 924998 → writable (weight_from empty set s w) ≡ true
unfolding weight_from
from-writable true set s w p h = small-writable (weight_from true set s w) (omega arith) (omega arith)
from-writable false set s w p h = small-writable (weight_from false set s w) (omega arith) (omega arith)

-- a weight of the scale can always be written
pub weight-writable : (set : Settings) (window : Window) (z : Units) (s n : ℕ) → set.point ≤ 7 → Within 900000 (samples_of window) → nat_abs z.v ≤ 24998 → writable (weight_by set window z s n) ≡ true
unfolding weight_by
weight-writable set window z s n p all h =
    from-writable (none (samples_of window)) set s _ p (weight-within (filtered window n) z.v (filtered-within window n all) h)

pub written-shows : (v : Weight) → writable v ≡ true → showable v ≡ done v
unfolding showable
written-shows v h = pick-t _ _ _ h
