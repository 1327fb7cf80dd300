-- Doses as they are seen from outside: from the outputs, the names of the phases and w at the named ticks.
-- The weights that a phase keeps, the dose field, the tick's answer and the counters play no part. Assumes nothing.
use Rattle.std.specs.Prelude.{◌≡◌, Bool, true, false, not, ◌&&◌, List, [], ◌∷◌, ℕ, leb, eqb, ℤ, ◌-ℤ◌, take, Option, Some, None}
use Rattle.laws.specs.Pick.{pick}
use Rattle.window.specs.Mean.{mean_of}
use Rattle.window.specs.Window.{samples_of}
use Rattle.settings.specs.declared.Settings.{Settings}
use Rattle.dosing.specs.Rules.{not_below_zero}
use Rattle.dosing.specs.declared.Phase.{Phase}
use Rattle.dosing.specs.declared.Phase.TheVariants.{Ready, Coarse, Fine, Hold, Settle, Discharge, Load, Calm, DoseCoarse, DoseFine, DoseSettle}
use Rattle.scale.specs.Scale.{filter_of}
use Rattle.stepping.specs.Stepping.{at_ready}
use Rattle.controller.specs.declared.Controller.{Controller}
use Rattle.controller.specs.declared.Fault.{Fault}

-- w at a tick from c to c': F-Z with the n of step 4 and the Z after the tick, worked out from the samples
unfoldable pub w_at : Controller → ℤ → Controller → ℤ
w_at c x c' = mean_of (take (filter_of c.set c.gates) (take 128 (x ∷ samples_of c.window))) -ℤ c'.z.v

unfoldable pub clear : Option Fault → Bool
clear None = true
clear (Some why) = false

-- the Settle of a dose
unfoldable pub in_dose_settle : Phase → Bool
in_dose_settle Ready = false
in_dose_settle (Coarse w0) = false
in_dose_settle (Fine w0) = false
in_dose_settle Hold = false
in_dose_settle (Settle w0 n) = false
in_dose_settle (Discharge w0 w_s settled) = false
in_dose_settle Load = false
in_dose_settle (Calm n) = false
in_dose_settle (DoseCoarse w_h) = false
in_dose_settle (DoseFine w_h) = false
in_dose_settle (DoseSettle w_h n) = true

-- AL1: a tick without fault that shuts output 3
unfoldable pub shuts3 : Controller → Controller → Bool
shuts3 c c' = c.gates.three && not c'.gates.three

-- AL2 and AL3: a tick without fault that leaves the Settle of a dose for Ready
unfoldable pub leaves_settle : Controller → Controller → Bool
leaves_settle c c' = in_dose_settle c.phase && at_ready c'.phase

-- a tick from c to c' completes a dose; in AL0 none does
unfoldable pub completes : Controller → Controller → Bool
completes c c' =
    clear c'.condition
    && pick (leb 2 c.set.algorithm) (leaves_settle c c') (eqb c.set.algorithm 1 && shuts3 c c')

-- w as it was noted at the named ticks: at the tick that began the cycle (w0 or wH), and at the tick that opened output 3 (wS)
pub record Noted : Type 0 where
  pub began : ℤ
  pub opened : ℤ

-- the tick that leaves Ready begins the cycle
unfoldable pub begins : Controller → Controller → Bool
begins c c' = at_ready c.phase && not (at_ready c'.phase)

unfoldable pub opens3 : Controller → Controller → Bool
opens3 c c' = not c.gates.three && c'.gates.three

unfoldable pub noted : Controller → Controller → ℤ → Noted → Noted
noted c c' w m = record { began = pick (begins c c') w m.began; opened = pick (opens3 c c') w m.opened }

-- Amount: AL1: wS-wE if p11 = 0, wS-w0 if 1; AL2, AL3: wH-w; below 0 it is 0
unfoldable pub amount_seen : Settings → Noted → ℤ → ℕ
amount_seen set m w =
    pick (leb 2 set.algorithm) (not_below_zero (m.began -ℤ w))
    (pick (eqb set.p11 0) (not_below_zero (m.opened -ℤ w)) (not_below_zero (m.opened -ℤ m.began)))

-- the amounts of the doses that a tick from c to c' with the sample x completes: one or none
unfoldable pub doses_seen : Controller → ℤ → Controller → Noted → List ℕ
doses_seen c x c' m = pick (completes c c') (amount_seen c.set m (w_at c x c') ∷ []) []

-- what a phase keeps is what was noted
unfoldable pub Agrees : Phase → Noted → Type 0
Agrees Ready m = Unit {0}
Agrees (Coarse w0) m = w0.v ≡ m.began
Agrees (Fine w0) m = w0.v ≡ m.began
Agrees Hold m = Unit {0}
Agrees (Settle w0 n) m = w0.v ≡ m.began
Agrees (Discharge w0 w_s settled) m = (w0.v ≡ m.began) × (w_s.v ≡ m.opened)
Agrees Load m = Unit {0}
Agrees (Calm n) m = Unit {0}
Agrees (DoseCoarse w_h) m = w_h.v ≡ m.began
Agrees (DoseFine w_h) m = w_h.v ≡ m.began
Agrees (DoseSettle w_h n) m = w_h.v ≡ m.began
