use mathlib.Core.List.{[], ◌∷◌, ◌++◌}
use Prim.Native.Nat.{◌+◌, ◌≤◌}
use lib.ListN.{length}
use Rattle.laws.specs.Decimal.{decimal}
use Rattle.text.specs.Scan.{TAB}
use Rattle.text.specs.PutLaws.{put_then, room-then}
use Rattle.report.specs.Rows.{tail_text, row_is}
use Rattle.report.specs.Table.{says_shown}
use Rattle.report.proofs.put_row.Goals as goal

pub put_tail-requires : goal.put_tail-requires
put_tail-requires c =
    let a = c.args in
    let tail = tail_text (says_shown a.row) in
    let room : a.at + length (decimal a.hour ++ TAB ∷ tail) ≤ length a.out.now = rw (row_is a.hour (says_shown a.row)) at c.requires in
    room-then (TAB ∷ []) tail (room-then (decimal a.hour) (TAB ∷ tail) room c.put_decimal-p.ensures) c.put_byte-q.ensures

pub returns : goal.returns
returns c =
    let a = c.args in
    let tail = tail_text (says_shown a.row) in
    let room : a.at + length (decimal a.hour ++ TAB ∷ tail) ≤ length a.out.now = rw (row_is a.hour (says_shown a.row)) at c.requires in
    rw (row_is a.hour (says_shown a.row))
    (put_then (decimal a.hour) (TAB ∷ tail) room c.put_decimal-p.ensures
    (λ h. put_then (TAB ∷ []) tail h c.put_byte-q.ensures (λ h. c.put_tail.ensures)))
