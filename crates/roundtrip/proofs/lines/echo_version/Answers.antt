use mathlib.Core.Path.{◌≡◌, refl, ap, ◌∙◌}
use mathlib.Core.List.{List, ◌++◌, append-nil}
use Prim.Native.Nat.{ℕ}
use native.Mathlib.Omega.{arith}
use lib.ListN.{length, drop_of_length-le}
use Rattle.laws.specs.Pick.{pick-t}
use Rattle.laws.specs.Over.{over}
use Rattle.paper.specs.Answer.{Answer, done, in_room, leaves, Fills}
use Rattle.journal.specs.Line.{version_text, write_version_of, one_line}
use Rattle.journal.specs.Singles.{one-version}
use Rattle.journal.specs.declared.Form.TheVariants.{New}
use Rattle.roundtrip.proofs.lines.echo_version.Goals as goal

-- four bytes hold the V line and nothing else
fits : write_version_of 4 ≡ done version_text
unfolding write_version_of in_room version_text
fits = pick-t _ _ _ refl

left : (a : Answer ℕ) (old new : List ℕ) → length old ≡ 4 → Fills a (write_version_of (length old)) old new → new ≡ version_text
unfolding leaves over version_text
left a old new n f =
    f.left
    ∙ ap (λ (k : ℕ). leaves (write_version_of k) old) n
    ∙ ap (λ (x : Answer (List ℕ)). leaves x old) fits
    ∙ ap (λ (t : List ℕ). version_text ++ t) (drop_of_length-le old {i = 4} (omega arith))
    ∙ append-nil version_text

pub returns : goal.returns
returns c = c.read_line.ensures ∙ ap (one_line New) (left _ _ _ refl c.write_version.ensures) ∙ one-version
