-- Each stage's refusal is the rule's, and the reply is what is left when none refuses.
use mathlib.Core.Path.{◌≡◌, refl, ◌∙◌}
use mathlib.Core.Bool.{Bool, not, ◌||◌}
use Prim.Native.Nat.{ℕ}
use lib.Dec.{eqb}
use Rattle.paper.specs.Answer.{Answer, done}
use Rattle.asking.specs.Asking.{heard_of, time_of, zero_of}
use Rattle.asking.specs.declared.RequestError.TheVariants as E
use Rattle.scale.specs.Scale.{as_window}
use Rattle.std.specs.Prelude.{Result}
use Rattle.std.specs.Result.{is_ok}
use Rattle.dosing.specs.declared.Units.{Units}
use Rattle.readout.specs.Says.{Zeroed}
use Rattle.readout.specs.Readout.{may_zero}
use Rattle.controller.specs.Ready.{is_ready, ready_in}
use Rattle.controller.specs.Line.{timely}
use Rattle.controller.specs.Sound.{Sound}
use Rattle.controller.specs.declared.Controller.{Controller}
use Rattle.controller.proofs.Lines.{heard-body, heard-parts, unfinished, unfit, not_ours, not_known, not-timed, not-zeroable, is-asked, may-zero, zeroed-so, framed, refuses, no_room, sends}
use Rattle.controller.proofs.Controller.replied.Goals as goal
use Rattle.controller.proofs.Controller.replied.Goals.{In-Ok}

-- ---- what the stages give

module _ (place : ℕ) {x : Answer (Unit {0})} where
  -- what the stage of R3 says of the controller
  times-so : (op : ℕ) (c : Controller) {ready : Bool} → ready ≡ ready_in c.condition c.phase → x ≡ time_of place (not (eqb op 0xC0) || ready) → x ≡ time_of place (timely op (is_ready c))
  unfolding timely is_ready
  times-so op c e t = rw e at t

  -- what the stage of R4 says of the samples
  zeroes-so : (op : ℕ) (c : Controller) (s : Sound c) {zero : Result Units Units} {may : Bool} → Zeroed op c.set (as_window c.window.samples c.window.held) c.z zero → may ≡ is_ok zero → x ≡ zero_of place may
      → x ≡ zero_of place (may_zero op c.set c.window)
  zeroes-so op c s e m z = rw (m ∙ may-zero c s op e) at z

-- ---- the goals

-- the body that is heard
pub heard : (c : In-Ok) → done (c.hear-heard.result.place, c.in-Ok.parts) ≡ heard_of c.args.bytes.now
heard c = heard-parts _ _ c.hear-heard.ensures c.in-Some.is c.in-Ok.is

-- R9
pub returns-in_default : goal.returns-in_default
returns-in_default c =
    refuses _ _ _ c.requires (E.R9 _) (unfinished _ _ c.hear-heard.result.body c.in_default.not-Some c.hear-heard.ensures)

-- R6
pub returns-in_default-body : goal.returns-in_default-body
returns-in_default-body c =
    refuses _ _ _ c.requires (E.R6 _) (unfit _ _ c.in-Some.body c.in_default-body.not-Ok (heard-body _ _ c.hear-heard.ensures c.in-Some.is))

-- R5
pub returns-in_default-address_stage : goal.returns-in_default-address_stage
returns-in_default-address_stage c =
    refuses _ _ _ c.requires (E.R5 _) (not_ours _ _ (heard (goal.at.returns-in_default-address_stage c).In-Ok) c.address_stage.result c.in_default-address_stage.not-Ok c.address_stage.ensures)

-- R7
pub returns-in_default-code_stage : goal.returns-in_default-code_stage
returns-in_default-code_stage c =
    refuses _ _ _ c.requires (E.R7 _) (not_known _ _ (heard (goal.at.returns-in_default-code_stage c).In-Ok) c.in-Ok-address_stage.ensures c.code_stage.result c.in_default-code_stage.not-Ok c.code_stage.ensures)

-- R3
pub returns-in_default-ready_stage : goal.returns-in_default-ready_stage
returns-in_default-ready_stage c =
    let late = times-so _ _ c.args.self c.is_ready.ensures c.ready_stage.ensures in
    refuses _ _ _ c.requires (E.R3 _)
    (not-timed _ _ (heard (goal.at.returns-in_default-ready_stage c).In-Ok) c.in-Ok-address_stage.ensures c.in-Ok-code_stage.ensures c.ready_stage.result c.in_default-ready_stage.not-Ok late)

-- R4
pub returns-in_default-zero_stage : goal.returns-in_default-zero_stage
returns-in_default-zero_stage c =
    let timed = times-so _ _ c.args.self c.is_ready.ensures c.in-Ok-ready_stage.ensures in
    let never = zeroes-so _ _ c.args.self c.requires c.zero_of-zero.ensures c.is_ok.ensures.value c.zero_stage.ensures in
    refuses _ _ _ c.requires (E.R4 _)
    (not-zeroable _ _ (heard (goal.at.returns-in_default-zero_stage c).In-Ok) c.in-Ok-address_stage.ensures c.in-Ok-code_stage.ensures timed c.zero_stage.result c.in_default-zero_stage.not-Ok never)

-- R8
pub returns-in_default-write_reply : goal.returns-in_default-write_reply
returns-in_default-write_reply c =
    let timed = times-so _ _ c.args.self c.is_ready.ensures c.in-Ok-ready_stage.ensures in
    let may = zeroes-so _ _ c.args.self c.requires c.zero_of-zero.ensures c.is_ok.ensures.value c.in-Ok-zero_stage.ensures in
    no_room _ _ _ c.requires c.write_reply.result (is-asked _ _ (heard (goal.at.returns-in_default-write_reply c).In-Ok) c.in-Ok-address_stage.ensures c.in-Ok-code_stage.ensures timed may)
    (framed _ c.requires _ _ _ c.reply_of-holds.result c.write_reply.result c.in-Ok-address_stage.ensures c.reply_of-holds.ensures c.write_reply.ensures)
    c.in_default-write_reply.not-Ok refl refl

pub returns : goal.returns
returns c =
    let timed = times-so _ _ c.args.self c.is_ready.ensures c.in-Ok-ready_stage.ensures in
    let may = zeroes-so _ _ c.args.self c.requires c.zero_of-zero.ensures c.is_ok.ensures.value c.in-Ok-zero_stage.ensures in
    sends _ _ _ c.requires c.write_reply.result (is-asked _ _ (heard (goal.at.returns c).In-Ok) c.in-Ok-address_stage.ensures c.in-Ok-code_stage.ensures timed may)
    (framed _ c.requires _ _ _ c.reply_of-holds.result c.write_reply.result c.in-Ok-address_stage.ensures c.reply_of-holds.ensures c.write_reply.ensures)
    c.in-Ok-write_reply.is (zeroed-so _ c.requires _ _ may c.zero_of-zero.ensures c.unwrap_or-z.ensures) refl
