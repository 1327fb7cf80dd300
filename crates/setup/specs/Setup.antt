-- Settings, counter reset and link start (document 01, "Settings and their ranges"). Assumes nothing.
use Rattle.std.specs.Prelude.{Bool, false, [], pos}
use Rattle.laws.specs.Pick.{pick}
use Rattle.paper.specs.Answer.{Answer, done, refused, fault}
use Rattle.paper.specs.Numbers.{R3}
use Rattle.settings.specs.declared.Settings.{Settings}
use Rattle.settings.specs.Table.{first_bad}
use Rattle.window.specs.Window.{empty_window}
use Rattle.dosing.specs.Rules.{units}
use Rattle.channels.specs.Channels.{no_runs}
use Rattle.counters.specs.Counters.{counters}
use Rattle.controller.specs.State.{with_set, with_window, with_z, with_f, with_s, with_runs, with_link, with_counters, with_unstarted}
use Rattle.controller.specs.Ready.{is_ready}
use Rattle.controller.specs.Tick.{Result}
use Rattle.controller.specs.declared.Controller.{Controller}

-- ---- settings

-- Taking a set empties the filter, puts the zero Z to 0, keeps counters, link start, inputs and output 4. New settings clear the runs. No tick is the last one since (document 02, W6)
unfoldable pub taken : Settings → Controller → Controller
taken set c = with_unstarted false (with_runs no_runs (with_s 0 (with_f (units (pos 0)) (with_z (units (pos 0)) (with_window empty_window (with_set set c))))))

-- R3 before R2
unfoldable pub settings_answer : Controller → Settings → Answer (Unit {0})
settings_answer c set = pick (is_ready c) (first_bad set) (refused R3 [])

-- the controller after an answer: a refusal changes nothing
unfoldable pub after : Answer (Unit {0}) → Controller → Controller → Controller
after (done u) changed same = changed
after (refused n vs) changed same = same
after (fault n vs) changed same = same

unfoldable pub settings_of : Controller → Settings → Result (Unit {0})
settings_of c set = record { next = after (settings_answer c set) (taken set c) c; answer = settings_answer c set }

-- ---- counters and link start

-- A counter reset puts count and total to 0; R3 when not in Ready
unfoldable pub reset_answer : Controller → Answer (Unit {0})
reset_answer c = pick (is_ready c) (done tt) (refused R3 [])

unfoldable pub reset_of : Controller → Result (Unit {0})
reset_of c = record { next = after (reset_answer c) (with_counters (counters 0 0) c) c; answer = reset_answer c }

-- A call of its own sets or clears the link start at any time, also in a fault
unfoldable pub link_of : Controller → Bool → Controller
link_of c on = with_link on c
