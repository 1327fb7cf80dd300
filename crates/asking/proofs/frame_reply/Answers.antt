-- The body stands in an array of 254; what building and the writer refuse is the reply's refusal.
use Rattle.std.proofs.lemmas.Result.{err_from_is_err_and}
use Rattle.asking.proofs.Laws.{not-built, built-stands, built-replies, wrote-says}
use Rattle.asking.proofs.frame_reply.Goals as goal

pub returns-in-Err : goal.returns-in-Err
returns-in-Err c = rw c.from.ensures (not-built _ _ _ _ c.in-Err.ensures _)

pub shared_ref_as_front-write_frame : goal.shared_ref_as_front-write_frame
shared_ref_as_front-write_frame c = (built-stands _ _ _ _ c.in-Ok.ensures).small

pub returns-in_err-write_frame-in-Ok : goal.returns-in_err-write_frame-in-Ok
returns-in_err-write_frame-in-Ok c =
    let p = err_from_is_err_and c.from_residual.result c.from_residual.ensures.1 in
    let s = built-stands c.args.form c.args.operation c.args.values.now c.in-Ok.body c.in-Ok.ensures in
    rw (p.1, p.2) (rw (built-replies s _, wrote-says _) at c.in_err-write_frame-in-Ok.ensures)

pub returns-in_ok-write_frame-in-Ok : goal.returns-in_ok-write_frame-in-Ok
returns-in_ok-write_frame-in-Ok c =
    let s = built-stands c.args.form c.args.operation c.args.values.now c.in-Ok.body c.in-Ok.ensures in
    rw (built-replies s _) at c.in_ok-write_frame-in-Ok.ensures
