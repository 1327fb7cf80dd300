-- A weight that can be shown is shown, and within the range it has its words.
use mathlib.Core.Path.{◌≡◌, sym, ap, ◌∙◌}
use mathlib.Core.Bool.{true}
use lib.IntN.{ℤ}
use mir.Syntax.{w32}
use mir.Facts.{to_z-of_z}
use borrow.Author.Rules.{rules}
use Rattle.std.specs.Prelude.{Option}
use Rattle.std.specs.Option.{unwrap_or}
use Rattle.laws.specs.Pick.{pick-t}
use Rattle.field.specs.Field.{writable}
use Rattle.field.specs.Says.{says-err}
use Rattle.field.specs.declared.Weight.{Weight}
use Rattle.single.specs.Single.{registers_of}
use Rattle.single.specs.declared.Words.{Words}
use Rattle.readout.specs.Readout.{words_from, words_in}
use Rattle.readout.proofs.Laws.{is-writable, no_words, or-zeros}
use Rattle.readout.proofs.weight_words.Goals as goal

-- the words asked are those of the rule's weight, which is shown
given : (v w : Weight) {r : Option Words} {x : ℤ} → (writable v ≡ true) × (w ≡ v) → x ≡ w.value → r ≡ registers_of x → unwrap_or r (record { high = 0; low = 0 }) ≡ words_in v
unfolding words_in
given v w {r} p x e = or-zeros r ∙ ap words_from (e ∙ ap registers_of (x ∙ ap (λ (x : Weight). x.value) p.1)) ∙ sym (pick-t _ _ _ p.0)

pub returns-in_default : goal.returns-in_default
returns-in_default c = no_words _ (sym (says-err _) ∙ c.in_default.ensures)

pub returns : goal.returns
returns c = c.unwrap_or.ensures ∙ given _ c.in-Ok.v (is-writable _ c.in-Ok.v c.in-Ok.ensures) (to_z-of_z {w = w32} (search rules)) c.words_of.ensures
