use mathlib.Core.Path.{ap}
use native.Mathlib.Omega.{arith}
use lib.ListN.{length}
use Rattle.journal.specs.Line.{text_of}
use Rattle.journal.specs.LineLaws.{dose-length, on-length}
use Rattle.journal.specs.declared.Line.{Line}
use Rattle.entry.proofs.text_len.Goals as goal

pub returns-in-Dose : goal.returns-in-Dose
returns-in-Dose c = let d = c.in-Dose in omega (arith, ap (λ (l : Line). length (text_of c.args.form l)) d.is, dose-length c.args.form d.hour d.count d.amount d.settled d.product)

pub returns-in-On : goal.returns-in-On
returns-in-On c = omega (arith, ap (λ (l : Line). length (text_of c.args.form l)) c.in-On.is, on-length c.args.form c.in-On.hour)
