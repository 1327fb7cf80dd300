-- Each byte of the V line has room behind those before it.
use native.Mathlib.Omega.{arith}
use Rattle.journal.specs.Line.{version_text}
use Rattle.entry.proofs.Storing.{stores-then, room_for}
use Rattle.entry.proofs.store_version.Goals as goal

pub store_byte-after_tab-requires : goal.store_byte-after_tab-requires
store_byte-after_tab-requires c = room_for 1 4 c.store_byte-after_letter.ensures (omega arith) c.requires

pub store_byte-after_number-requires : goal.store_byte-after_number-requires
store_byte-after_number-requires c = room_for 1 4 (stores-then c.store_byte-after_letter.ensures c.store_byte-after_tab.ensures) (omega arith) c.requires

pub store_byte-requires : goal.store_byte-requires
store_byte-requires c = room_for 1 4 (stores-then (stores-then c.store_byte-after_letter.ensures c.store_byte-after_tab.ensures) c.store_byte-after_number.ensures) (omega arith) c.requires

pub returns : goal.returns
unfolding version_text
returns c = stores-then (stores-then (stores-then c.store_byte-after_letter.ensures c.store_byte-after_tab.ensures) c.store_byte-after_number.ensures) c.store_byte.ensures
