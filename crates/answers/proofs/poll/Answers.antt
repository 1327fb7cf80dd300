use mathlib.Core.Path.{refl, ap, ◌∙◌, subst}
use mathlib.Core.List.{List, []}
use Prim.Native.Nat.{ℕ, ◌≤◌}
use native.Mathlib.Omega.{arith}
use lib.ListN.{length, take}
use lib.Seq.{length-take-le}
use Rattle.laws.specs.Decimal.{Parsed, good}
use Rattle.series.specs.Events.{run}
use Rattle.calls.specs.Call.{Call, modbus}
use Rattle.acts.specs.Acts.{events_in, made_by}
use Rattle.acts.specs.Makes.{Made}
use Rattle.acts.specs.Hears.{roomed-out, framed-in}
use Rattle.answers.proofs.poll.Goals as goal

-- with room for more it is no call
pub returns-then-room-gt-REPLY : goal.returns-then-room-gt-REPLY
unfolding made_by events_in run
returns-then-room-gt-REPLY c =
    subst (λ (p : Parsed Call). Made c.args.c p c.args.c) (roomed-out _ c.if-room-gt-REPLY.true) (record { next = refl; sound = c.requires })

pub returns : goal.returns
returns c =
    let fits : c.args.room ≤ length c.lend.new.spare = omega (arith, c.lend.auto.spare, c.no_reply-reply.ensures, c.if-room-gt-REPLY.false) in
    let room = ap (λ (k : ℕ). good (modbus (take c.least-size.result c.args.bytes.now) k) []) (length-take-le _ _ fits) in
    subst (λ (p : Parsed Call). Made c.args.c p c.serve.result.controller)
    (room ∙ framed-in (λ (s : List ℕ). modbus s c.args.room) c.args.bytes.now c.args.n c.if-room-gt-REPLY.false c.least-size.ensures)
    c.serve.ensures
