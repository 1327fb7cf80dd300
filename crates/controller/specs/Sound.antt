-- What every controller from an accepted restart or an earlier call satisfies. Assumes nothing.
use Rattle.std.specs.Prelude.{◌≡◌, Bool, true, false, ℕ, ◌≤◌, ℤ, pos, nat_abs, ◌-ℤ◌, length, get_or, Option, Some, None}
use Rattle.std.specs.Int.Signed.{lt_z}
use Rattle.paper.specs.Answer.{done}
use Rattle.settings.specs.Table.{first_bad}
use Rattle.settings.specs.declared.Settings.{Settings}
use Rattle.window.specs.Window.{samples_of}
use Rattle.dosing.specs.Gates.{gates_of, belongs, Kept}
use Rattle.dosing.specs.declared.Phase.{Phase}
use Rattle.dosing.specs.declared.Phase.TheVariants.{Ready}
use Rattle.channels.specs.declared.Runs.{Runs}
use Rattle.channels.specs.Laws.{NoLonger}
use Rattle.controller.specs.declared.Controller.{Controller}
use Rattle.controller.specs.declared.Fault.{Fault}
use Rattle.controller.specs.declared.Fault.TheVariants as F

-- a fault has abandoned its cycle and turned output 4 on
abbrev pub Abandoned : Option Fault → Phase → Bool → Type 0
Abandoned None p four = Unit {0}
Abandoned (Some why) p four = (p ≡ Ready) × (four ≡ true)

-- a run of 64 is a fault
abbrev pub Watched : Option Fault → Runs → Type 0
Watched None r = NoLonger 63 r
Watched (Some why) r = NoLonger 64 r

-- F14 names one of the channels 1 to 3
abbrev pub Named : Option Fault → Type 0
Named None = Unit {0}
Named (Some (F.F14 channel)) = (1 ≤ channel) × (channel ≤ 3)
Named (Some F.F21) = Unit {0}

-- after a tick that began and ended in Ready with start off it is in no fault, in Ready, and in AL2 w is at least D
abbrev pub Waited : Bool → Option Fault → Phase → Settings → ℤ → Type 0
Waited true k p set w = (k ≡ None) × (p ≡ Ready) × (set.algorithm ≡ 2 → lt_z w (pos set.dose) ≡ false)
Waited false k p set w = Unit {0}

pub record Sound (c : Controller) : Type 0 where
  -- the set was taken
  pub set : first_bad c.set ≡ done tt
  -- at most 128 samples, each within 900,000
  pub places : length c.window.samples ≡ 128
  pub held : c.window.held ≤ 128
  pub samples : (k : ℕ) → nat_abs (get_or (samples_of c.window) k (pos 0)) ≤ 900000
  -- a zero is taken only where -M < F < M, and M is at most 24,999 there
  pub zero : nat_abs c.z.v ≤ 24998
  pub previous : nat_abs c.f.v ≤ 900000
  pub calm : c.s ≤ 4032
  pub runs : Watched c.condition c.runs
  -- the phase is one of the algorithm's, what it keeps is bounded, and it determines outputs 1 to 3
  pub phase : belongs c.set.algorithm c.phase ≡ true
  pub kept : Kept c.z.v c.phase
  pub gates : c.gates ≡ gates_of c.set c.phase
  pub abandoned : Abandoned c.condition c.phase c.alarm
  pub named : Named c.condition
  pub inputs : c.inputs ≤ 15
  -- 0 follows 999,999; the total wraps after 999,999,999
  pub count : c.counters.count ≤ 999999
  pub total : c.counters.total ≤ 999999999
  -- what the last tick tells where it waited for start
  pub unstarted : Waited c.unstarted c.condition c.phase c.set (c.f.v -ℤ c.z.v)
