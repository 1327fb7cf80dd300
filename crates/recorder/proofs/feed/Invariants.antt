use mathlib.Core.Path.{◌≡◌}
use Prim.Native.Nat.{◌-◌}
use lib.ListN.{length}
use Rattle.recorder.specs.Recording.{with}
use Rattle.recorder.proofs.Feeding.{Feeding}
use Rattle.recorder.proofs.feed.Given as goal

abbrev pub invariant-loop-out : goal.invariant-loop-out
invariant-loop-out l = Feeding (with l.initial.c l.initial.k) l.initial.at l.input l.initial.out l.out (with l.c l.k) l.at l.len × (2048 ≡ length l.bytes)

abbrev pub decreases-loop-out : goal.decreases-loop-out
decreases-loop-out l = length l.input - l.at.at
