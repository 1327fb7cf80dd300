-- There and back by the programs, and the hours of both forms. Assumes nothing.
use Rattle.std.specs.Prelude.{◌≡◌, List, [], ℕ, ◌≤◌, length}
use Rattle.std.proofs.Common.{ap, ◌∙◌, le-leb}
use Rattle.laws.specs.Pick.{pick-t}
use Rattle.paper.specs.Answer.{done, in_room}
use Rattle.hourly.specs.declared.Products.{Products}
use Rattle.report.specs.Report.{report_from, report_of}
use Rattle.conversion.specs.Conversion.{renewed_of, restored_of}
use Rattle.conversion.specs.Trips.{Pair, renew-pair, restore-pair, pair-renewed, pair-restored, pair-lines}
use Rattle.archive.specs.Archive.{printed_from, renew_print, restore_print}

-- a journal is printed where it has room
printed-text : (text : List ℕ) → length text ≤ 65536 → printed_from (in_room [] 65536 text) ≡ text
unfolding printed_from in_room
printed-text text h = ap printed_from (pick-t _ _ _ (le-leb (length text) 65536 h))

-- what renew prints for an old journal, where it is not refused, restore prints back
pub renew-restore : (s t : List ℕ) → renewed_of s 65536 ≡ done t → (renew_print s ≡ t) × (restore_print t ≡ s)
unfolding renew_print restore_print printed_from
renew-restore s t e =
    let p = renew-pair s t 65536 e in
    (ap printed_from e, ap printed_from (pair-restored s t 65536 p) ∙ printed-text s p.is_old.short)

-- and what restore prints for a new one renew prints back
pub restore-renew : (s t : List ℕ) → restored_of s 65536 ≡ done t → (restore_print s ≡ t) × (renew_print t ≡ s)
unfolding renew_print restore_print printed_from
restore-renew s t e =
    let p = restore-pair s t 65536 e in
    (ap printed_from e, ap printed_from (pair-renewed t s 65536 p) ∙ printed-text s p.is_new.short)

-- the hour program prints the same for both forms, over all products or for one
pub same-hours : (s t : List ℕ) (w : Products) → Pair s t → report_of w s ≡ report_of w t
unfolding report_of
same-hours s t w p = ap (report_from w) (pair-lines p)
