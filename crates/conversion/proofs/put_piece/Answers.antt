use Rattle.std.proofs.Common.{[], ◌∷◌, sym}
use Rattle.text.specs.Scan.{LF, TAB}
use Rattle.text.specs.PutLaws.{put_then}
use Rattle.conversion.proofs.Pieces.{puts-as, puts-nothing, room_as}
use Rattle.conversion.proofs.put_piece.Goals as goal

pub returns-in-Gone : goal.returns-in-Gone
returns-in-Gone c = let e = sym c.in-Gone.ensures in puts-as e (puts-nothing _ _ (room_as _ _ e c.requires.room))

pub returns-in-Kept : goal.returns-in-Kept
returns-in-Kept c = puts-as (sym c.in-Kept.ensures) c.put_byte.ensures

pub returns-in-Ended : goal.returns-in-Ended
returns-in-Ended c =
    let e = sym c.in-Ended.ensures in
    puts-as e
    (put_then (TAB ∷ []) (48 ∷ LF ∷ []) (room_as _ _ e c.requires.room) c.put_byte-after_tab.ensures (λ h.
    put_then (48 ∷ []) (LF ∷ []) h c.put_byte-after_zero.ensures (λ k. c.put_byte-in-Ended.ensures)))
