-- What the first line's answer says, in the paper's words. Assumes nothing.
use Rattle.std.specs.Prelude.{◌≡◌, refl, ℕ, Option, Some, None}
use Rattle.std.proofs.Common.{sym}
use Rattle.paper.specs.Answer.{Answer, done}
use Rattle.paper.specs.AnswerLaws.{refused-done}
use Rattle.chosen.specs.Choice.{no_product}

-- a product, or R2 with 0
abbrev pub says_choice : Option ℕ → Answer ℕ
says_choice (Some q) = done q
says_choice None = no_product

-- two answers that say the same are equal
pub choice-one : (a b : Option ℕ) → says_choice a ≡ says_choice b → a ≡ b
choice-one (Some q) (Some p) e = cc
choice-one (Some q) None e = refused-done (sym e)
choice-one None (Some p) e = refused-done e
choice-one None None e = refl
