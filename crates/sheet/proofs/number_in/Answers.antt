use Rattle.std.proofs.Common.{◌≡◌, refl, ap, ◌∙◌, ℕ}
use Rattle.std.specs.Prelude.{Option, Some, None}
use Rattle.std.specs.Option.{unwrap_or}
use Rattle.laws.specs.Pick.{pick}
use Rattle.paper.specs.Answer.{on_done}
use Rattle.weekly.specs.Week.{first_of}
use Rattle.sheet.specs.Says.{given_first}
use Rattle.sheet.proofs.number_in.Goals as goal

given : (first : Option ℕ) → first_of (unwrap_or first 9999833) ≡ given_first first
unfolding given_first on_done first_of pick
given (Some h) = refl
given None = refl

pub returns : goal.returns
returns c = ap first_of c.unwrap_or.ensures ∙ given _
