-- What these calls promise beside their contracts: refusals that change nothing, what a set keeps, and counters that a reset alone changes. Assumes nothing.
use Rattle.std.specs.Prelude.{◌≡◌, refl, Bool, List, [], ℕ, None}
use Rattle.paper.specs.Answer.{Answer, done, refused, fault}
use Rattle.paper.specs.AnswerLaws.{done_refused, passed}
use Rattle.paper.specs.Numbers.{R3}
use Rattle.settings.specs.declared.Settings.{Settings}
use Rattle.settings.specs.Table.{first_bad}
use Rattle.dosing.specs.Rules.{shut}
use Rattle.dosing.specs.declared.Phase.TheVariants.{Ready}
use Rattle.counters.specs.Counters.{counters}
use Rattle.controller.specs.State.{restarted, with_alarm, with_link, with_inputs}
use Rattle.controller.specs.Ready.{is_ready}
use Rattle.setup.specs.Setup.{taken, after, settings_answer, settings_of, reset_answer, reset_of, link_of}
use Rattle.controller.specs.Sound.{Sound}
use Rattle.controller.specs.Promises.{ready-gates}
use Rattle.controller.specs.Bounds.{ready-is}
use Rattle.controller.specs.declared.Controller.{Controller}

-- ---- refusals

after-refused : (a : Answer (Unit {0})) (changed same : Controller) (n : ℕ) (vs : List ℕ) → a ≡ refused n vs → after a changed same ≡ same
unfolding after
after-refused (done u) changed same n vs e = done_refused e
after-refused (refused m us) changed same n vs e = refl
after-refused (fault m us) changed same n vs e = refl

pub settings-refused : (c : Controller) (set : Settings) (n : ℕ) (vs : List ℕ) → (settings_of c set).answer ≡ refused n vs → (settings_of c set).next ≡ c
unfolding settings_of
settings-refused c set n vs e = after-refused (settings_answer c set) (taken set c) c n vs e

pub reset-refused : (c : Controller) (n : ℕ) (vs : List ℕ) → (reset_of c).answer ≡ refused n vs → (reset_of c).next ≡ c
unfolding reset_of
reset-refused c n vs e = after-refused (reset_answer c) _ c n vs e

-- ---- what a call changes

as-restarted : (c : Controller) (set : Settings) → c.condition ≡ None → c.phase ≡ Ready → c.gates ≡ shut → taken set c ≡ with_link c.link (with_alarm c.alarm (with_inputs c.inputs (restarted set c.counters.count c.counters.total)))
unfolding taken restarted
as-restarted c set a b g = rw (a, b, g)

-- a set is taken as at a restart, but for counters, link start, inputs and output 4, which are kept
pub settings-restart : (c : Controller) (set : Settings) → Sound c → (settings_of c set).answer ≡ done tt → (settings_of c set).next ≡ with_link c.link (with_alarm c.alarm (with_inputs c.inputs (restarted set c.counters.count c.counters.total)))
unfolding settings_of settings_answer after
settings-restart c set s e =
    let p = passed (is_ready c) (first_bad set) R3 [] tt e in
    let r = ready-is c p.0 in
    rw e (as-restarted c set r.0 r.1 (ready-gates c s p.0))

-- ---- counters

-- an accepted counter reset puts both to 0
pub reset-counters : (c : Controller) → (reset_of c).answer ≡ done tt → (reset_of c).next.counters ≡ counters 0 0
unfolding reset_of after
reset-counters c e = rw e

after-counters : (a : Answer (Unit {0})) (changed same : Controller) → changed.counters ≡ same.counters → (after a changed same).counters ≡ same.counters
unfolding after
after-counters (done u) changed same e = e
after-counters (refused n vs) changed same e = refl
after-counters (fault n vs) changed same e = refl

-- settings and the link start keep both
pub settings-counters : (c : Controller) (set : Settings) → (settings_of c set).next.counters ≡ c.counters
unfolding settings_of taken
settings-counters c set = after-counters (settings_answer c set) _ c refl

pub link-counters : (c : Controller) (on : Bool) → (link_of c on).counters ≡ c.counters
unfolding link_of
link-counters c on = refl
