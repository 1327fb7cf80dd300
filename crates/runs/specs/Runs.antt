-- What a run of ticks and line requests makes of the controller in use. The text of an answer has no definition. Assumes nothing.
use Rattle.std.specs.Prelude.{◌≡◌, Option, Some, None, List, ℕ, ◌-◌, ◌≤◌, ◌<◌, length}
use Rattle.std.proofs.Common.{subst}
use Rattle.controller.specs.declared.Controller.{Controller}
use Rattle.controller.specs.Sound.{Sound}
use Rattle.lines.specs.declared.Intake.{Intake}
use Rattle.lines.specs.Intake.{Waits}
use Rattle.script.specs.Sight.{sight_of}
use Rattle.calls.specs.declared.Call as read
use Rattle.acts.specs.Makes.{Made}
use Rattle.acts.specs.Hears.{answered_in}
use Rattle.acts.specs.Script.{Brings}
use Rattle.runs.specs.declared.Reached.{Reached}
use Rattle.runs.specs.declared.Run.{Run}

-- the ticks that stand next are made, and behind them stands none
pub record Reaches (first : Controller) (start : Intake) (input : List ℕ) (r : Reached) : Type 0 where
  pub brings : Brings first start input r.controller r.intake
  pub none : sight_of r.intake input ≡ None
  pub less : length input - r.intake.at ≤ length input - start.at

-- a call was read that is no tick and no line request: whoever makes it leaves what the lines behind it would have found
pub record Pending (first : Controller) (start : Intake) (input bytes : List ℕ) (c : Controller) (held : Intake) (call : read.Call) : Type 0 where
  pub made : (d : Controller) → Made c (answered_in bytes call) d → Brings first start input d held
  pub less : length input - held.at < length input - start.at

-- at such a call, or where every whole line is answered, if there was room for the bytes of a line
unfoldable pub Stops : Controller → Intake → List ℕ → List ℕ → Controller → Intake → Option read.Call → Type 0
Stops first start input bytes c held (Some call) = Pending first start input bytes c held call
Stops first start input bytes c held None = Brings first start input c held × (2048 ≤ length bytes → Waits held input)

-- every line before it is answered, and none without that room
pub record Ran (first : Controller) (start : Intake) (input bytes : List ℕ) (r : Run) : Type 0 where
  pub sound : Sound r.controller
  pub stops : Stops first start input bytes r.controller r.intake r.stop
  pub none : length bytes < 2048 → (r.controller ≡ first) × (r.intake ≡ start) × (r.stop ≡ None)

-- ---- where it stopped

pub ran-pending : {first : Controller} {start : Intake} {input bytes : List ℕ} (r : Run) {call : read.Call} → r.stop ≡ Some call → Ran first start input bytes r → Pending first start input bytes r.controller r.intake call
unfolding Stops
ran-pending {first} {start} {input} {bytes} r e h = subst (Stops first start input bytes r.controller r.intake) e h.stops

pub ran_on : {first : Controller} {start : Intake} {input bytes : List ℕ} (r : Run) → r.stop ≡ None → Ran first start input bytes r → Brings first start input r.controller r.intake × (2048 ≤ length bytes → Waits r.intake input)
unfolding Stops
ran_on {first} {start} {input} {bytes} r e h = subst (Stops first start input bytes r.controller r.intake) e h.stops
