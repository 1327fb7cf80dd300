-- There and back as a caller sees it, over the contracts of the two calls. Assumes nothing.
use Rattle.std.specs.Prelude.{◌≡◌, refl, List, [], ℕ, ◌≤◌, length, take, drop, Result, Ok}
use Rattle.std.proofs.Common.{sym, ap, ◌∙◌, take_at, le-leb}
use Rattle.laws.specs.Pick.{pick-t}
use Rattle.laws.specs.Over.{over}
use Rattle.paper.specs.Answer.{Answer, done, refused, fault, told, in_room, leaves, Fills}
use Rattle.paper.specs.AnswerLaws.{refused-done, fault-done}
use Rattle.conversion.specs.Conversion.{renewed_of, restored_of}
use Rattle.conversion.specs.Says.{says_converted, converted-one}
use Rattle.conversion.specs.Promises.{Renews, Restores}
use Rattle.conversion.specs.Trips.{renew-restore, restore-renew}
use Rattle.conversion.specs.declared.ConvertError.{ConvertError}

-- the bytes that a call left at the buffer's start are the rule's
laid : (text old new : List ℕ) (n : ℕ) → n ≡ length text → new ≡ over text old → take n new ≡ text
unfolding over
laid text old new n m e = ap (take n) e ∙ take_at text (drop (length text) old) n (sym m)

filled : (rule : Answer (List ℕ)) (old new : List ℕ) (n : ℕ) → Fills (done n) rule old new → rule ≡ done (take n new)
unfolding told leaves
filled (done text) old new n f =
    let says : done n ≡ done (length text) = f.says in
    let m : n ≡ length text = cc in
    ap (λ (t : List ℕ). done t) (sym (laid text old new n m f.left))
filled (refused k vs) old new n f = refused-done (sym f.says)
filled (fault k vs) old new n f = fault-done (sym f.says)

-- a rule that gives a text in any room gives it where it has room, and the call that follows the rule lays it there
given : (text old new : List ℕ) (rule : Answer (List ℕ)) (x : Result ℕ ConvertError) → rule ≡ in_room [] (length old) text → length text ≤ length old → Fills (says_converted x) rule old new → (x ≡ Ok (length text)) × (take (length text) new ≡ text)
unfolding in_room told leaves
given text old new rule x e h f =
    let d : rule ≡ done text = e ∙ pick-t _ _ _ (le-leb (length text) (length old) h) in (
      converted-one x (Ok (length text)) (f.says ∙ ap (told length) d),
      laid text old new (length text) refl (f.left ∙ ap (λ (a : Answer (List ℕ)). leaves a old) d),
    )

-- Old to new to old: where renew answers a journal of n bytes, restore of these in a buffer that has room answers the bytes of before
pub renew-then-restore : (s : List ℕ) {old new again back : List ℕ} {n : ℕ} {x : Result ℕ ConvertError} → Renews s (Ok n) old new → length s ≤ length again → Restores (take n new) x again back → (x ≡ Ok (length s)) × (take (length s) back ≡ s)
renew-then-restore s {old} {new} {again} {back} {n} {x} f h g =
    given s again back (restored_of (take n new) (length again)) x (renew-restore s (take n new) (length old) (length again) (filled (renewed_of s (length old)) old new n f)) h g

-- and new to old to new
pub restore-then-renew : (s : List ℕ) {old new again back : List ℕ} {n : ℕ} {x : Result ℕ ConvertError} → Restores s (Ok n) old new → length s ≤ length again → Renews (take n new) x again back → (x ≡ Ok (length s)) × (take (length s) back ≡ s)
restore-then-renew s {old} {new} {again} {back} {n} {x} f h g =
    given s again back (renewed_of (take n new) (length again)) x (restore-renew s (take n new) (length old) (length again) (filled (restored_of s (length old)) old new n f)) h g
