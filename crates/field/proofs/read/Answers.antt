use mathlib.Core.Path.{ap, ◌∙◌}
use Rattle.laws.specs.Pick.{so}
use Rattle.paper.specs.Answer.{done}
use Rattle.field.proofs.Answers.{bad-low, bad-middle, bad-high, digits-read}
use Rattle.field.proofs.read.Goals as goal
use Rattle.field.proofs.read.Goals.{else-is_bcd-via-then-is_bcd+then-is_bcd-2+else-is_bcd-3, else-is_bcd-via-then-is_bcd+else-is_bcd-2, else-is_bcd-via-else-is_bcd}

pub returns-then-is_bcd-3 : goal.returns-then-is_bcd-3
returns-then-is_bcd-3 c =
    ap done c.weight_of.ensures
    ∙ digits-read _ (so c.is_bcd.ensures c.if-is_bcd.true) (so c.is_bcd-then-is_bcd.ensures c.if-is_bcd-2.true) (so c.is_bcd-then-is_bcd-2.ensures c.if-is_bcd-3.true)

pub returns-else-is_bcd : goal.returns-else-is_bcd
returns-else-is_bcd c =
    elim c.else-is_bcd.branch [
      | else-is_bcd-via-then-is_bcd+then-is_bcd-2+else-is_bcd-3 w ↦
          bad-high _ (so c.is_bcd.ensures w.if-is_bcd.true) (so w.is_bcd-then-is_bcd.ensures w.if-is_bcd-2.true) (so w.is_bcd-then-is_bcd-2.ensures w.if-is_bcd-3.false)
      | else-is_bcd-via-then-is_bcd+else-is_bcd-2 w ↦
          bad-middle _ (so c.is_bcd.ensures w.if-is_bcd.true) (so w.is_bcd-then-is_bcd.ensures w.if-is_bcd-2.false)
      | else-is_bcd-via-else-is_bcd w ↦ bad-low _ (so c.is_bcd.ensures w.if-is_bcd.false)
    ]
