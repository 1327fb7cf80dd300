use Rattle.std.proofs.Common.{◌≡◌, length}
use Rattle.heading.specs.Heading.{ReadsHeading}
use Rattle.heading.proofs.read_heading.Given as goal

abbrev pub invariant-loop : goal.invariant-loop
invariant-loop l = (length l.buffer ≡ length l.initial.buffer) × ReadsHeading l.buffer l.headed
