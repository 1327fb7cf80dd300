-- Bits, start and runs on numbers. Assumes nothing.
use Rattle.std.specs.Prelude.{◌≡◌, refl, true, false, [], ◌∷◌, ℕ}
use Rattle.std.proofs.Math.Bool.{xor}
use Rattle.laws.specs.Pick.{pick}
use Rattle.paper.specs.Answer.{done, fault}
use Rattle.paper.specs.Numbers.{F14}
use Rattle.settings.specs.declared.Settings.{Settings}
use Rattle.settings.specs.Cases.{set_of}
use Rattle.dosing.specs.Rules.{gates, shut}
use Rattle.channels.specs.Channels.{input, worth, outputs_of, start_of, expected, run_after, runs_after, watch_of}
use Rattle.channels.specs.declared.Runs.{Runs}

abbrev runs : ℕ → ℕ → ℕ → Runs
runs one two three = record { one = one; two = two; three = three }

-- an algorithm with the levels in1, in2, in3
abbrev levels : ℕ → ℕ → ℕ → ℕ → Settings
levels algorithm in1 in2 in3 = set_of (algorithm ∷ 0 ∷ 0 ∷ 0 ∷ 0 ∷ 0 ∷ 0 ∷ 0 ∷ 0 ∷ 0 ∷ 0 ∷ in1 ∷ in2 ∷ in3 ∷ [])

-- output i is bit i-1
pub shown :
    (outputs_of shut false ≡ 0)
    × (outputs_of (gates true false true) true ≡ 13)
    × (outputs_of (gates false true false) false ≡ 2)
unfolding outputs_of worth pick
shown = (refl, refl, refl)

-- input 4 or the link start; in AL3 the link start alone
pub started :
    (start_of (levels 0 0 0 0) false 7 ≡ false)
    × (start_of (levels 0 0 0 0) false 8 ≡ true)
    × (start_of (levels 1 0 0 0) true 0 ≡ true)
    × (start_of (levels 2 0 0 0) false 15 ≡ true)
    × (start_of (levels 3 0 0 0) false 15 ≡ false)
    × (start_of (levels 3 0 0 0) true 0 ≡ true)
unfolding start_of input set_of
started = (refl, refl, refl, refl, refl, refl)

-- at level 1 a shut output is matched by an input that is off, at level 0 by one that is on; each channel has its level; a match puts its run to 0; a run of 64 stays; AL0 does not look
pub moved :
    (runs_after (levels 1 1 1 1) shut 0 (runs 63 1 5) ≡ runs 0 0 0)
    × (runs_after (levels 1 1 1 1) shut 15 (runs 63 1 5) ≡ runs 64 2 6)
    × (runs_after (levels 2 0 0 0) shut 7 (runs 63 1 5) ≡ runs 0 0 0)
    × (runs_after (levels 3 0 0 0) shut 5 (runs 63 1 5) ≡ runs 0 2 0)
    × (runs_after (levels 1 1 0 1) shut 2 (runs 3 3 3) ≡ runs 0 0 0)
    × (runs_after (levels 1 1 1 1) (gates true false true) 5 (runs 3 3 3) ≡ runs 0 0 0)
    × (runs_after (levels 1 1 1 1) (gates true false true) 4 (runs 64 3 3) ≡ runs 64 0 0)
    × (runs_after (levels 0 1 1 1) shut 15 (runs 63 1 5) ≡ runs 63 1 5)
unfolding runs_after run_after expected input set_of xor pick
moved = (refl, refl, refl, refl, refl, refl, refl, refl)

-- 63 mismatches in a row go on, 64 are F14; the lowest of the channels at 64 is named
pub watched :
    (watch_of (runs 63 63 63) ≡ done tt)
    × (watch_of (runs 64 64 64) ≡ fault F14 (1 ∷ []))
    × (watch_of (runs 63 64 64) ≡ fault F14 (2 ∷ []))
    × (watch_of (runs 0 0 64) ≡ fault F14 (3 ∷ []))
unfolding watch_of pick
watched = (refl, refl, refl, refl)
