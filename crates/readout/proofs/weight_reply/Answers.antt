-- A weight that can be written is shown, and its field is written.
use mathlib.Core.Path.{◌≡◌, ap, sym, ◌∙◌}
use mathlib.Core.Bool.{true}
use Rattle.paper.specs.Answer.{done}
use Rattle.paper.specs.AnswerLaws.{refused-done}
use Rattle.field.specs.Field.{writable, field_of, write_of}
use Rattle.field.specs.Says.{says-err}
use Rattle.field.specs.declared.Field.{Field}
use Rattle.field.specs.declared.Weight.{Weight}
use Rattle.asking.specs.declared.Reply.TheVariants as R
use Rattle.readout.specs.Readout.{weight_in}
use Rattle.readout.specs.Laws.{weight-in}
use Rattle.readout.proofs.Laws.{is-writable, no-weight, written}
use Rattle.readout.proofs.weight_reply.Goals as goal

-- what the writer gives of a weight shown, which is the rule's
given : (v w : Weight) → (writable v ≡ true) × (w ≡ v) → write_of w ≡ done (field_of v)
given v w p = ap write_of p.1 ∙ written v p.0

shown : (v w : Weight) (f : Field) → (writable v ≡ true) × (w ≡ v) → done f ≡ write_of w → R.Weight f ≡ weight_in v
shown v w f p e =
    let says : done f ≡ done (field_of v) = e ∙ given v w p in
    let same : f ≡ field_of v = cc in
    rw (weight-in v p.0, same)

pub returns-in_default : goal.returns-in_default
returns-in_default c = no-weight _ (sym (says-err _) ∙ c.in_default.ensures)

pub returns-in_default-write : goal.returns-in_default-write
returns-in_default-write c = refused-done (sym (says-err _) ∙ c.in_default-write.ensures ∙ given _ _ (is-writable _ c.in-Ok.v c.in-Ok.ensures))

pub returns : goal.returns
returns c = shown _ _ c.in-Ok-write.f (is-writable _ c.in-Ok.v c.in-Ok.ensures) c.in-Ok-write.ensures
