use mathlib.Core.Path.{◌≡◌, refl, ◌∙◌}
use Rattle.std.specs.Prelude.{Ok, Err}
use Rattle.std.specs.Result.{result_unwrap_or}
use Rattle.entry.specs.Says.{Wrote}
use Rattle.clock.specs.Marking.{size_of}
use Rattle.clock.proofs.size_of.Goals as goal

none_else : (w : Wrote) → result_unwrap_or w 0 ≡ size_of w
unfolding size_of
none_else (Ok n) = refl
none_else (Err e) = refl

pub returns : goal.returns
returns c = c.unwrap_or.ensures ∙ none_else c.args.wrote
