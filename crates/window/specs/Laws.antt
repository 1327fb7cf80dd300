-- What follows from the definitions: the samples held after a push, and samples within a size. Assumes nothing.
use Rattle.std.specs.Prelude.{◌≡◌, refl, List, [], ◌∷◌, ◌++◌, ℕ, zero, suc, ◌+◌, ◌-◌, ◌≤◌, ◌<◌, ℤ, pos, negsuc, nat_abs, length, take, replicate}
use Rattle.std.proofs.Common.{sym, ap, ◌∙◌, arith, add-one, lt-ltb, le-ltb, length-take, take-take, take_all}
use Rattle.std.proofs.Math.Decide.{dec_lt}
use Rattle.laws.specs.Pick.{pick, pick-t, pick-f}
use Rattle.window.specs.declared.Window.{Window}
use Rattle.window.specs.Window.{places, samples_of, held_of, empty_window, push_of}
use Rattle.window.specs.Range.{Within}

pub samples-empty : samples_of empty_window ≡ []
unfolding samples_of empty_window
samples-empty = refl

pub empty-length : length empty_window.samples ≡ places
unfolding empty_window
empty-length = refl

pub push-length : (w : Window) (x : ℤ) → length w.samples ≡ places → length (push_of w x).samples ≡ places
unfolding push_of
push-length w x e = omega (arith, length-take places (x ∷ w.samples))

-- a window that lends its samples lends those that it holds
pub held-of : (w : Window) → length w.samples ≡ places → held_of w.samples w.held ≡ samples_of w
unfolding held_of samples_of
held-of w e = ap (λ (l : List ℤ). take w.held l) (take_all places w.samples (omega arith))

room : (x : ℤ) (l : List ℤ) (h : ℕ) → h < places → take (h + 1) (take places (x ∷ l)) ≡ take places (x ∷ take h l)
room x l h k =
    take-take (h + 1) places (x ∷ l) (omega arith)
    ∙ ap (λ (n : ℕ). take n (x ∷ l)) (add-one h)
    ∙ ap (λ (t : List ℤ). x ∷ t) (sym (take_all (places - 1) (take h l) (omega (arith, length-take h l))))

full : (x : ℤ) (l : List ℤ) (h : ℕ) → length l ≡ places → places ≤ h → take places (take places (x ∷ l)) ≡ take places (x ∷ take h l)
full x l h e k =
    take-take places places (x ∷ l) (omega arith) ∙ ap (λ (t : List ℤ). take places (x ∷ t)) (sym (take_all h l (omega arith)))

-- a push puts the sample before those held, and keeps 128 of them
pub samples-push : (w : Window) (x : ℤ) → length w.samples ≡ places → samples_of (push_of w x) ≡ take places (x ∷ samples_of w)
unfolding samples_of push_of
samples-push w x e =
    elim (dec_lt w.held places) [
      | yes l ↦ rw (pick-t _ _ _ (lt-ltb w.held places l)) (room x w.samples w.held l)
      | no l ↦ rw (pick-f _ _ _ (le-ltb w.held places (omega arith))) (full x w.samples w.held e (omega arith))
    ]

-- a full window loses its oldest sample; an empty one takes the samples newest first
pub pushes : (samples_of (push_of record { samples = replicate 127 (pos 5) ++ (pos 9 ∷ []); held = 128 } (pos 7)) ≡ pos 7 ∷ replicate 127 (pos 5)) × (samples_of (push_of (push_of empty_window (pos 3)) (negsuc 0)) ≡ negsuc 0 ∷ pos 3 ∷ [])
unfolding samples_of push_of empty_window pick
pushes = (refl, refl)

pub within-nil : (b : ℕ) → Within b []
unfolding Within
within-nil b = tt

pub within-cons : (b : ℕ) (x : ℤ) (xs : List ℤ) → nat_abs x ≤ b → Within b xs → Within b (x ∷ xs)
unfolding Within
within-cons b x xs h w = (h, w)

pub within-take : (b n : ℕ) (xs : List ℤ) → Within b xs → Within b (take n xs)
unfolding Within
within-take b zero xs w = tt
within-take b (suc n) [] w = tt
within-take b (suc n) (x ∷ xs) w = (w.0, within-take b n xs w.1)

-- With four or more samples held: where n is four or more, as every filter's is, those are the means of four or more samples
pub held-or-taken : (n : ℕ) (xs : List ℤ) → 4 ≤ n → (4 ≤ length xs → 4 ≤ length (take n xs)) × (4 ≤ length (take n xs) → 4 ≤ length xs)
held-or-taken n xs h = (λ k. omega (arith, length-take n xs), λ k. omega (arith, length-take n xs))
