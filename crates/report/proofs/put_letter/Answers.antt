use mathlib.Core.List.{[], ◌∷◌}
use Rattle.text.specs.Scan.{LF}
use Rattle.text.specs.PutLaws.{put_then}
use Rattle.report.proofs.put_letter.Goals as goal

pub returns : goal.returns
returns c = put_then (c.args.letter ∷ []) (LF ∷ []) c.requires c.put_byte-p.ensures (λ h. c.put_byte.ensures)
