-- Inputs and outputs, start, and the runs of the channels (document 01, "One tick", step 6). Assumes nothing.
use Rattle.std.specs.Prelude.{Bool, not, ◌&&◌, ◌||◌, [], ◌∷◌, ℕ, ◌+◌, ◌-◌, ◌/◌, ◌%◌, ◌^◌, leb, ltb, eqb}
use Rattle.std.specs.Bool.{xor}
use Rattle.laws.specs.Pick.{pick}
use Rattle.paper.specs.Answer.{Answer, done, fault}
use Rattle.paper.specs.Numbers.{F14}
use Rattle.settings.specs.declared.Settings.{Settings}
use Rattle.dosing.specs.declared.Gates.{Gates}
use Rattle.channels.specs.declared.Runs.{Runs}

-- ---- bits

-- input i is bit i-1 of a byte
unfoldable pub input : ℕ → ℕ → Bool
input i byte = eqb (byte / 2 ^ (i - 1) % 2) 1

unfoldable pub worth : Bool → ℕ → ℕ
worth on n = pick on n 0

-- output i is bit i-1
unfoldable pub outputs_of : Gates → Bool → ℕ
outputs_of g four = worth g.one 1 + worth g.two 2 + worth g.three 4 + worth four 8

-- Start is input 4 or the link start; in AL3 the link start alone
unfoldable pub start_of : Settings → Bool → ℕ → Bool
start_of set link inputs = link || (not (leb 3 set.algorithm) && input 4 inputs)

-- ---- the runs

abbrev pub no_runs : Runs
no_runs = record { one = 0; two = 0; three = 0 }

-- the expected input equals the output at level 1 and its opposite at level 0
unfoldable pub expected : ℕ → Bool → Bool
expected level output = pick (eqb level 1) output (not output)

-- A mismatch adds 1 to that channel's run, a match puts it to 0; a run of 64 is a fault, and none grows past it
unfoldable pub run_after : ℕ → Bool → Bool → ℕ → ℕ
run_after level output input_on run = pick (xor input_on (expected level output)) (pick (ltb run 64) (run + 1) 64) 0

-- AL1 to AL3: for channels 1 to 3, with the outputs as before the tick
unfoldable pub runs_after : Settings → Gates → ℕ → Runs → Runs
runs_after set g inputs runs =
    pick (eqb set.algorithm 0) runs
    (record {
      one = run_after set.in1 g.one (input 1 inputs) runs.one;
      two = run_after set.in2 g.two (input 2 inputs) runs.two;
      three = run_after set.in3 g.three (input 3 inputs) runs.three;
    })

-- A run of 64 is fault F14, naming the lowest channel that reached it
unfoldable pub watch_of : Runs → Answer (Unit {0})
watch_of r =
    pick (leb 64 r.one) (fault F14 (1 ∷ []))
    (pick (leb 64 r.two) (fault F14 (2 ∷ []))
    (pick (leb 64 r.three) (fault F14 (3 ∷ [])) (done tt)))
