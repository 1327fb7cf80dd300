-- Each of these calls keeps `Sound`. Assumes nothing.
use Rattle.std.specs.Prelude.{◌≡◌, refl, Bool, true, [], pos}
use Rattle.std.proofs.Common.{◌∙◌, arith, rules}
use Rattle.paper.specs.Answer.{Answer, done, refused, fault}
use Rattle.paper.specs.AnswerLaws.{passed}
use Rattle.paper.specs.Numbers.{R3}
use Rattle.settings.specs.declared.Settings.{Settings}
use Rattle.settings.specs.Table.{first_bad}
use Rattle.window.specs.Window.{samples_of, empty_window}
use Rattle.window.specs.Laws.{empty-length}
use Rattle.dosing.specs.Gates.{gates_of, belongs, Kept}
use Rattle.channels.specs.Channels.{no_runs}
use Rattle.scale.specs.Laws.{within-at, empty-within}
use Rattle.controller.specs.Ready.{is_ready}
use Rattle.setup.specs.Setup.{taken, settings_answer, after, settings_of, reset_answer, reset_of, link_of}
use Rattle.controller.specs.Sound.{Sound}
use Rattle.controller.specs.Setters.{counters-sound}
use Rattle.controller.specs.Keeps.{empty-held}
use Rattle.controller.specs.Ways.{clear-watched}
use Rattle.controller.specs.Bounds.{ready-is}
use Rattle.controller.specs.declared.Controller.{Controller}

after-sound : (a : Answer (Unit {0})) (changed same : Controller) → Sound same → (a ≡ done tt → Sound changed) → Sound (after a changed same)
unfolding after
after-sound (done u) changed same s go = go refl
after-sound (refused n vs) changed same s go = s
after-sound (fault n vs) changed same s go = s

taken-sound : (c : Controller) (set : Settings) → Sound c → is_ready c ≡ true → first_bad set ≡ done tt → Sound (taken set c)
unfolding taken gates_of belongs
taken-sound c set s e good =
    let r = ready-is c e in
    let places = empty-length in
    let held = empty-held in
    let samples = within-at 900000 (samples_of empty_window) empty-within in
    let runs = clear-watched c.condition no_runs r.0 (omega arith, omega arith, omega arith) in
    let phase : belongs set.algorithm c.phase ≡ true = rw r.1 in
    let kept : Kept (pos 0) c.phase = rw r.1 tt in
    let gates : c.gates ≡ gates_of set c.phase = s.gates ∙ rw r.1 in
    search rules

settings-taken : (c : Controller) (set : Settings) → Sound c → settings_answer c set ≡ done tt → Sound (taken set c)
unfolding settings_answer
settings-taken c set s e =
    let p = passed (is_ready c) (first_bad set) R3 [] tt e in
    taken-sound c set s p.0 p.1

pub settings-sound : (c : Controller) (set : Settings) → Sound c → Sound (settings_of c set).next
unfolding settings_of
settings-sound c set s = after-sound (settings_answer c set) (taken set c) c s (settings-taken c set s)

pub reset-sound : (c : Controller) → Sound c → Sound (reset_of c).next
unfolding reset_of
reset-sound c s =
    after-sound (reset_answer c) _ c s (λ e. counters-sound c s _ (record { count = omega arith; total = omega arith }))

-- the link start is set or cleared
pub link-sound : (c : Controller) (on : Bool) → Sound c → Sound (link_of c on)
unfolding link_of
link-sound c on s = search rules
