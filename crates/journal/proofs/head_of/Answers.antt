use mathlib.Core.Path.{◌≡◌, sym, ap}
use mathlib.Core.List.{List}
use mathlib.Core.Bool.{true, false}
use Prim.Native.Nat.{ℕ}
use Rattle.laws.specs.Pick.{so, pick-t, pick-f}
use Rattle.journal.specs.Line.{versioned}
use Rattle.journal.specs.Journal.{form_of}
use Rattle.journal.specs.JournalLaws.{head_bytes, head_lines}
use Rattle.journal.specs.declared.Form.{Form}
use Rattle.journal.specs.declared.Form.TheVariants.{Old, New}
use Rattle.journal.specs.declared.Head.{Head}
use Rattle.journal.proofs.head_of.Goals as goal

-- what a journal of a form has before its first line with an hour
head : Form → Head
head f = record { form = f; bytes = head_bytes f; lines = head_lines f }

new-form : (s : List ℕ) → versioned s ≡ true → form_of s ≡ New
unfolding form_of
new-form s e = pick-t _ _ _ e

old-form : (s : List ℕ) → versioned s ≡ false → form_of s ≡ Old
unfolding form_of
old-form s e = pick-f _ _ _ e

pub returns-then-has_version : goal.returns-then-has_version
unfolding head head_bytes head_lines
returns-then-has_version c = ap head (sym (new-form _ (so c.has_version.ensures c.if-has_version.true)))

pub returns : goal.returns
unfolding head head_bytes head_lines
returns c = ap head (sym (old-form _ (so c.has_version.ensures c.if-has_version.false)))
