-- The words from the place on are still to be put.
use mathlib.Core.Path.{◌≡◌}
use Prim.Native.Nat.{◌+◌, ◌*◌}
use lib.ListN.{drop}
use lib.Seq.{sets}
use Rattle.modbus.specs.Replies.{word_bytes}
use Rattle.modbus.proofs.replies.put_words.Given as goal

abbrev pub invariant-loop-w : goal.invariant-loop-w
invariant-loop-w l = (l.to ≡ l.at + 2 * l.w-index) × (sets l.out l.to (word_bytes (drop l.w-index l.words)) ≡ sets l.initial.out l.at (word_bytes l.words))
