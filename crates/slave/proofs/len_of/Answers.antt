use mathlib.Core.Path.{◌≡◌, refl, ◌∙◌}
use Prim.Native.Nat.{ℕ}
use Rattle.std.specs.Prelude.{Result, Ok, Err}
use Rattle.std.specs.Result.{result_unwrap_or}
use Rattle.panel.specs.declared.PollError.{PollError}
use Rattle.slave.specs.Serves.{len_of}
use Rattle.slave.proofs.len_of.Goals as goal

none-or-len : (a : Result ℕ PollError) → result_unwrap_or a 0 ≡ len_of a
unfolding len_of
none-or-len (Ok len) = refl
none-or-len (Err error) = refl

pub returns : goal.returns
returns c = c.unwrap_or.ensures ∙ none-or-len c.args.answer
