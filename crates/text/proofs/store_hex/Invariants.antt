-- What is left to store gives the whole: the last k digits of v.
use mathlib.Core.Path.{◌≡◌}
use lib.ListN.{length}
use lib.Seq.{sets}
use Rattle.laws.specs.Decimal.{hex_of}
use Rattle.text.proofs.store_hex.Given as goal

abbrev pub invariant-loop-k : goal.invariant-loop-k
invariant-loop-k l = (length l.out ≡ length l.initial.out) × (sets l.out l.at (hex_of l.k l.v) ≡ sets l.initial.out l.at (hex_of l.digits l.n))
