use mathlib.Core.Path.{refl}
use mathlib.Core.List.{List}
use Prim.Native.Nat.{ℕ}
use native.Mathlib.Omega.{arith}
use lib.Seq.{length-take-le}
use Rattle.calls.specs.Call.{request}
use Rattle.acts.specs.Acts.{said_to}
use Rattle.acts.specs.Makes.{says_act}
use Rattle.acts.specs.Script.{made-asked}
use Rattle.acts.specs.Hears.{roomed-out, framed-in}
use Rattle.acts.proofs.Making.{acts-as}
use Rattle.acts.proofs.requested.Goals as goal

pub returns : goal.returns
unfolding said_to says_act
returns c =
    let small = c.if-room-gt-REPLY.false in
    let asked = c.request-requested in
    acts-as (framed-in (λ (s : List ℕ). request s c.args.room) c.args.bytes.now c.args.n small c.least-size.ensures) (record {
      made = made-asked (length-take-le _ _ (omega (arith, c.no_reply-reply.ensures, small))) asked.result asked.ensures;
      says = refl;
    })

pub returns-then-room-gt-REPLY : goal.returns-then-room-gt-REPLY
returns-then-room-gt-REPLY c = acts-as (roomed-out _ c.if-room-gt-REPLY.true) c.unread.ensures
