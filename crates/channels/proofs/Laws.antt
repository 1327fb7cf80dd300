-- Laws that the proofs of the code cite. Assumes nothing.
use mathlib.Core.Path.{◌≡◌, refl}
use mathlib.Core.Bool.{Bool, true, false, not, xor, ◌||◌, beq}
use Prim.Native.Nat.{ℕ, ◌≤◌}
use native.Mathlib.Omega.{arith}
use lib.Dec.{eqb}
use Rattle.laws.specs.Bools.{or_left, or_right}
use Rattle.laws.specs.Pick.{pick, pick_all}
use Rattle.channels.specs.Channels.{worth, no_runs, expected}
use Rattle.channels.specs.declared.Runs.{Runs}

-- the expected input is whether level 1 and the output are alike
alike : (b output : Bool) → pick b output (not output) ≡ beq b output
unfolding pick
alike true true = refl
alike true false = refl
alike false true = refl
alike false false = refl

-- a mismatch is an input that is not alike
pub unlike : (level : ℕ) (output on : Bool) → xor on (expected level output) ≡ not (beq on (beq (eqb level 1) output))
unfolding xor expected
unlike level output on = rw (alike (eqb level 1) output)

-- a run of no mismatch on each channel
pub all-zero : {one two three : ℕ} → one ≡ 0 → two ≡ 0 → three ≡ 0 → ◌≡◌ {A = Runs} (record { one = one; two = two; three = three }) no_runs
all-zero a b c = rw (a, b, c)

-- where none of three holds, each does not
pub none-holds : (a b c : Bool) → (a || b || c) ≡ false → (a ≡ false) × (b ≡ false) × (c ≡ false)
none-holds a b c e = (or_left a b (or_left (a || b) c e), or_right a b (or_left (a || b) c e), or_right (a || b) c e)

-- where no mismatch was seen the input is the expected one
pub matched : {wrong bit on : Bool} (awaited : Bool) → wrong ≡ xor bit awaited → bit ≡ on → wrong ≡ false → xor on awaited ≡ false
matched awaited w b h = cc

-- an output is worth at most its bit
pub worth-most : (on : Bool) (n : ℕ) → worth on n ≤ n
unfolding worth
worth-most on n = pick_all (λ (x : ℕ). x ≤ n) on (omega arith) (omega arith)
