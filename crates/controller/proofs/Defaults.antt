-- What the code's defaults and its test of the fault are. Assumes nothing.
use mathlib.Core.Path.{◌≡◌, refl}
use mathlib.Core.Bool.{Bool, true, false, not, ◌&&◌}
use Rattle.std.specs.Prelude.{Option, Some, None}
use Rattle.std.specs.Option.{is_some}
use Rattle.laws.specs.Whole.{true-false, false-true}
use Rattle.dosing.specs.Rules.{shut}
use Rattle.dosing.specs.declared.Gates.{Gates}
use Rattle.dosing.specs.declared.Phase.{Phase}
use Rattle.stepping.specs.Stepping.{at_ready}
use Rattle.controller.specs.Ready.{ready_in}
use Rattle.controller.specs.declared.Fault.{Fault}

-- gates of which none is open are shut
pub all-shut : {one two three : Bool} → one ≡ false → two ≡ false → three ≡ false → ◌≡◌ {A = Gates} (record { one = one; two = two; three = three }) shut
all-shut a b c = rw (a, b, c)

-- no fault, and the phase is Ready
pub ready-so : (k : Option Fault) (p : Phase) (none : Bool) {rests : Bool} → is_some k ≡ not none → rests ≡ at_ready p → (none && rests) ≡ ready_in k p
unfolding ready_in
ready-so None p true e h = h
ready-so None p false e h = false-true e
ready-so (Some why) p true e h = true-false e
ready-so (Some why) p false e h = refl
