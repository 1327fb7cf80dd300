-- The bytes between two places, moved to the start of a buffer. Assumes nothing.
use mathlib.Core.Path.{◌≡◌, refl, sym, ap, ◌∙◌}
use mathlib.Core.List.{List, ◌++◌}
use Prim.Native.Nat.{ℕ, ◌+◌, ◌-◌, ◌≤◌, ◌<◌, min}
use native.Mathlib.Nat.{zero-add}
use native.Mathlib.Omega.{arith}
use native.Mathlib.Decide.{dec_lt}
use lib.ListN.{length, take, drop, length-drop}
use lib.Seq.{length-take-le, paste}
use Rattle.laws.specs.Over.{over}
use Rattle.lines.specs.Places.{part_of, part-least, Carries}

module _ (from end : ℕ) (old : List ℕ) where
  -- from a place behind the end there are none
  least-start : (start : ℕ) → start ≡ min from end → take (end - start) (drop start old) ≡ part_of from end old
  unfolding part_of
  least-start start e =
      elim (dec_lt end from) [
        | yes h ↦
            let a : end - start ≡ 0 = omega arith in
            let b : end - from ≡ 0 = omega arith in
            ap (λ (n : ℕ). take n (drop start old)) a ∙ sym (ap (λ (n : ℕ). take n (drop from old)) b)
        | no h ↦
            let a : start ≡ from = omega arith in
            ap (λ (k : ℕ). take (end - k) (drop k old)) a
      ]

-- those that stand there from `start` to `end`
pub moved : {from to start end : ℕ} {old new : List ℕ} → end ≡ min to (length old) → start ≡ min from end → new ≡ paste old 0 (drop start old) (end - start) → Carries from to old new (end - start)
unfolding over
moved {from} {to} {start} {end} {old} e s p =
    let n = end - start in
    let size = length-take-le n (drop start old) (omega (arith, length-drop start old)) in
    let part : take n (drop start old) ≡ part_of from to old = least-start from end old start s ∙ ap (λ (k : ℕ). part_of from k old) e ∙ part-least from to old in
    record {
      len = sym size ∙ ap length part;
      left = p ∙ ap (λ (k : ℕ). take n (drop start old) ++ drop k old) (zero-add n ∙ sym size) ∙ ap (λ (l : List ℕ). over l old) part;
    }
