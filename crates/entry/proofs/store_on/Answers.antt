-- Each byte of an H line has room behind those before it.
use mathlib.Core.List.{append_assoc}
use native.Mathlib.Omega.{arith}
use lib.ListN.{length, length-append}
use Rattle.journal.specs.Line.{fields_text, text_of}
use Rattle.journal.specs.LineLaws.{on-length}
use Rattle.journal.specs.declared.Form.TheVariants.{Old}
use Rattle.journal.specs.declared.Line.TheVariants.{On}
use Rattle.entry.proofs.Storing.{stores-then, room_for}
use Rattle.entry.proofs.store_on.Goals as goal

pub store_byte-after_letter-requires : goal.store_byte-after_letter-requires
store_byte-after_letter-requires c = omega (arith, c.requires, on-length Old c.args.hour)

pub store_field-after_hour-requires : goal.store_field-after_hour-requires
store_field-after_hour-requires c = room_for _ (length (text_of Old (On c.args.hour))) c.store_byte-after_letter.ensures (omega (arith, on-length Old c.args.hour)) c.requires

pub store_byte-requires : goal.store_byte-requires
store_byte-requires c =
    room_for _ (length (text_of Old (On c.args.hour))) (stores-then c.store_byte-after_letter.ensures c.store_field-after_hour.ensures)
    (simp length-append (omega (arith, on-length Old c.args.hour))) c.requires

pub returns : goal.returns
unfolding text_of fields_text
returns c = simp append_assoc at (stores-then (stores-then c.store_byte-after_letter.ensures c.store_field-after_hour.ensures) c.store_byte.ensures)
