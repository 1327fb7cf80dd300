use mathlib.Core.Path.{◌≡◌, sym, ap, ◌∙◌}
use mathlib.Core.List.{List}
use Prim.Native.Nat.{ℕ, ◌≤◌}
use native.Mathlib.Nat.{zero-add}
use native.Mathlib.Omega.{arith}
use lib.ListN.{length}
use borrow.Author.Tests.{le-leb}
use Rattle.laws.specs.Pick.{pick-t}
use Rattle.laws.specs.Over.{sets_over}
use Rattle.paper.specs.Answer.{Answer, done, refused, told, in_room, leaves}
use Rattle.paper.specs.AnswerLaws.{refused-done}
use Rattle.text.specs.Put.{Puts}
use Rattle.text.specs.PutLaws.{room-is, fit-puts}
use Rattle.journal.specs.Line.{version_text, write_version_of}
use Rattle.std.specs.Prelude.{Ok, Err}
use Rattle.entry.specs.Says.{Wrote, says_wrote, WritesVersion}
use Rattle.entry.specs.declared.WriteError.{WriteError}
use Rattle.entry.specs.declared.WriteError.TheVariants as E
use Rattle.conversion.proofs.put_version.Goals as goal

-- the V line has room, so it is written
written : (room : ℕ) → length version_text ≤ room → write_version_of room ≡ done version_text
unfolding write_version_of in_room
written room h = pick-t _ _ _ (le-leb (length version_text) room h)

-- and a writer that refuses has not met its contract
always : {Q : Type 0} (old new : List ℕ) (w : Wrote) (r : WriteError) → length version_text ≤ length old → WritesVersion w old new → w ≡ Err r → Q
unfolding told
always old new w E.R10 h f e = refused-done (sym (ap says_wrote e) ∙ f.says ∙ ap (told length) (written (length old) h))
always old new w E.R8 h f e = refused-done (sym (ap says_wrote e) ∙ f.says ∙ ap (told length) (written (length old) h))

wrote : (old new : List ℕ) (w : Wrote) (n : ℕ) → length version_text ≤ length old → WritesVersion w old new → w ≡ Ok n → Puts old 0 version_text new n
unfolding told leaves
wrote old new w n h f e =
    let d = written (length old) h in
    let says : done n ≡ done (length version_text) = sym (ap says_wrote e) ∙ f.says ∙ ap (told length) d in
    let same : n ≡ length version_text = cc in
    fit-puts (room-is old 0 version_text (omega arith))
    (f.left ∙ ap (λ (a : Answer (List ℕ)). leaves a old) d ∙ sym (sets_over old version_text h))
    (same ∙ sym (zero-add (length version_text)))

pub returns-in-Ok : goal.returns-in-Ok
returns-in-Ok c = wrote _ _ c.write_version.result _ c.requires c.write_version.ensures c.in-Ok.is

pub returns-in-Err : goal.returns-in-Err
returns-in-Err c = always _ _ c.write_version.result _ c.requires c.write_version.ensures c.in-Err.is
