-- The controller's state: one setter a field, and the state of a restart. Assumes nothing.
use Rattle.std.specs.Prelude.{Bool, false, ℕ, pos, Option, None}
use Rattle.settings.specs.declared.Settings.{Settings}
use Rattle.settings.specs.Table.{default_set}
use Rattle.window.specs.declared.Window.{Window}
use Rattle.window.specs.Window.{empty_window}
use Rattle.dosing.specs.declared.Units.{Units}
use Rattle.dosing.specs.declared.Gates.{Gates}
use Rattle.dosing.specs.declared.Phase.{Phase}
use Rattle.dosing.specs.declared.Phase.TheVariants.{Ready}
use Rattle.dosing.specs.Rules.{units, shut}
use Rattle.channels.specs.declared.Runs.{Runs}
use Rattle.channels.specs.Channels.{no_runs}
use Rattle.counters.specs.declared.Counters.{Counters}
use Rattle.counters.specs.Counters.{counters}
use Rattle.controller.specs.declared.Controller.{Controller}
use Rattle.controller.specs.declared.Fault.{Fault}

-- A restart takes a set and the stored count and total; it empties the filter and puts Z to 0, clears link start and fault, closes all outputs, and is in Ready
unfoldable pub restarted : Settings → ℕ → ℕ → Controller
restarted set count total =
    record {
      set = set;
      window = empty_window;
      z = units (pos 0);
      f = units (pos 0);
      s = 0;
      runs = no_runs;
      phase = Ready;
      gates = shut;
      alarm = false;
      link = false;
      inputs = 0;
      condition = None;
      counters = counters count total;
      unstarted = false;
    }

-- A fresh controller is a restart with both at 0 and a default set
unfoldable pub fresh_of : Controller
fresh_of = restarted default_set 0 0

-- ---- one setter a field

abbrev pub with_set : Settings → Controller → Controller
with_set x c =
    record {
      set = x;
      window = c.window;
      z = c.z;
      f = c.f;
      s = c.s;
      runs = c.runs;
      phase = c.phase;
      gates = c.gates;
      alarm = c.alarm;
      link = c.link;
      inputs = c.inputs;
      condition = c.condition;
      counters = c.counters;
      unstarted = c.unstarted;
    }

abbrev pub with_window : Window → Controller → Controller
with_window x c =
    record {
      set = c.set;
      window = x;
      z = c.z;
      f = c.f;
      s = c.s;
      runs = c.runs;
      phase = c.phase;
      gates = c.gates;
      alarm = c.alarm;
      link = c.link;
      inputs = c.inputs;
      condition = c.condition;
      counters = c.counters;
      unstarted = c.unstarted;
    }

abbrev pub with_z : Units → Controller → Controller
with_z x c =
    record {
      set = c.set;
      window = c.window;
      z = x;
      f = c.f;
      s = c.s;
      runs = c.runs;
      phase = c.phase;
      gates = c.gates;
      alarm = c.alarm;
      link = c.link;
      inputs = c.inputs;
      condition = c.condition;
      counters = c.counters;
      unstarted = c.unstarted;
    }

abbrev pub with_f : Units → Controller → Controller
with_f x c =
    record {
      set = c.set;
      window = c.window;
      z = c.z;
      f = x;
      s = c.s;
      runs = c.runs;
      phase = c.phase;
      gates = c.gates;
      alarm = c.alarm;
      link = c.link;
      inputs = c.inputs;
      condition = c.condition;
      counters = c.counters;
      unstarted = c.unstarted;
    }

abbrev pub with_s : ℕ → Controller → Controller
with_s x c =
    record {
      set = c.set;
      window = c.window;
      z = c.z;
      f = c.f;
      s = x;
      runs = c.runs;
      phase = c.phase;
      gates = c.gates;
      alarm = c.alarm;
      link = c.link;
      inputs = c.inputs;
      condition = c.condition;
      counters = c.counters;
      unstarted = c.unstarted;
    }

abbrev pub with_runs : Runs → Controller → Controller
with_runs x c =
    record {
      set = c.set;
      window = c.window;
      z = c.z;
      f = c.f;
      s = c.s;
      runs = x;
      phase = c.phase;
      gates = c.gates;
      alarm = c.alarm;
      link = c.link;
      inputs = c.inputs;
      condition = c.condition;
      counters = c.counters;
      unstarted = c.unstarted;
    }

abbrev pub with_phase : Phase → Controller → Controller
with_phase x c =
    record {
      set = c.set;
      window = c.window;
      z = c.z;
      f = c.f;
      s = c.s;
      runs = c.runs;
      phase = x;
      gates = c.gates;
      alarm = c.alarm;
      link = c.link;
      inputs = c.inputs;
      condition = c.condition;
      counters = c.counters;
      unstarted = c.unstarted;
    }

abbrev pub with_gates : Gates → Controller → Controller
with_gates x c =
    record {
      set = c.set;
      window = c.window;
      z = c.z;
      f = c.f;
      s = c.s;
      runs = c.runs;
      phase = c.phase;
      gates = x;
      alarm = c.alarm;
      link = c.link;
      inputs = c.inputs;
      condition = c.condition;
      counters = c.counters;
      unstarted = c.unstarted;
    }

abbrev pub with_alarm : Bool → Controller → Controller
with_alarm x c =
    record {
      set = c.set;
      window = c.window;
      z = c.z;
      f = c.f;
      s = c.s;
      runs = c.runs;
      phase = c.phase;
      gates = c.gates;
      alarm = x;
      link = c.link;
      inputs = c.inputs;
      condition = c.condition;
      counters = c.counters;
      unstarted = c.unstarted;
    }

abbrev pub with_link : Bool → Controller → Controller
with_link x c =
    record {
      set = c.set;
      window = c.window;
      z = c.z;
      f = c.f;
      s = c.s;
      runs = c.runs;
      phase = c.phase;
      gates = c.gates;
      alarm = c.alarm;
      link = x;
      inputs = c.inputs;
      condition = c.condition;
      counters = c.counters;
      unstarted = c.unstarted;
    }

abbrev pub with_inputs : ℕ → Controller → Controller
with_inputs x c =
    record {
      set = c.set;
      window = c.window;
      z = c.z;
      f = c.f;
      s = c.s;
      runs = c.runs;
      phase = c.phase;
      gates = c.gates;
      alarm = c.alarm;
      link = c.link;
      inputs = x;
      condition = c.condition;
      counters = c.counters;
      unstarted = c.unstarted;
    }

abbrev pub with_condition : Option Fault → Controller → Controller
with_condition x c =
    record {
      set = c.set;
      window = c.window;
      z = c.z;
      f = c.f;
      s = c.s;
      runs = c.runs;
      phase = c.phase;
      gates = c.gates;
      alarm = c.alarm;
      link = c.link;
      inputs = c.inputs;
      condition = x;
      counters = c.counters;
      unstarted = c.unstarted;
    }

abbrev pub with_counters : Counters → Controller → Controller
with_counters x c =
    record {
      set = c.set;
      window = c.window;
      z = c.z;
      f = c.f;
      s = c.s;
      runs = c.runs;
      phase = c.phase;
      gates = c.gates;
      alarm = c.alarm;
      link = c.link;
      inputs = c.inputs;
      condition = c.condition;
      counters = x;
      unstarted = c.unstarted;
    }

abbrev pub with_unstarted : Bool → Controller → Controller
with_unstarted x c =
    record {
      set = c.set;
      window = c.window;
      z = c.z;
      f = c.f;
      s = c.s;
      runs = c.runs;
      phase = c.phase;
      gates = c.gates;
      alarm = c.alarm;
      link = c.link;
      inputs = c.inputs;
      condition = c.condition;
      counters = c.counters;
      unstarted = x;
    }
