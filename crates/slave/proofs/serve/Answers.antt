use mathlib.Core.Path.{sym, subst}
use Prim.Native.Nat.{ℕ}
use Rattle.slave.specs.Serves.{Serves}
use Rattle.slave.proofs.serve.Goals as goal

pub returns : goal.returns
returns c =
    let a = c.args in
    let replied = c.reply_to-replied in
    subst (λ (room : ℕ). Serves a.c a.frame.now room replied.result.next) (sym c.no_frame-reply.ensures) replied.ensures.serves
