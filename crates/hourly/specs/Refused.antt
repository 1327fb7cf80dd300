-- A journal's refusal is the same, whatever would have been told of its lines. Assumes nothing.
use Rattle.std.specs.Prelude.{◌≡◌, refl, List, ℕ, length}
use Rattle.std.proofs.Common.{sym, ap, ◌∙◌}
use Rattle.paper.specs.Answer.{Answer, done, refused, fault, told, on_done, leaves, Fills}
use Rattle.journal.specs.Says.{says_refusal, refusal-told}
use Rattle.journal.specs.declared.Refusal.{Refusal}
use Rattle.journal.specs.declared.Refusal.TheVariants as R

-- d where an answer is done, else its refusal
abbrev or_else : {X Y : Type 0} → Answer Y → Answer X → Answer Y
or_else d (done x) = d
or_else d (refused n vs) = refused n vs
or_else d (fault n vs) = fault n vs

else-refusal : (X : Type 0) {Y : Type 0} (d : Answer Y) (r : Refusal) → or_else d (says_refusal {X = X} r) ≡ says_refusal r
else-refusal X d (R.R10 n) = refl
else-refusal X d (R.R11 n) = refl
else-refusal X d (R.R12 n) = refl
else-refusal X d R.R13 = refl

else-told : {A X Y : Type 0} (f : A → X) (g : A → Y) (a : Answer A) → or_else (told g a) (told f a) ≡ told g a
unfolding told
else-told f g (done x) = refl
else-told f g (refused n vs) = refl
else-told f g (fault n vs) = refl

-- a refusal is the same, whatever would have been told of the lines
pub refused-told : {A X Y : Type 0} (f : A → X) (g : A → Y) (a : Answer A) (r : Refusal) → says_refusal r ≡ told f a → says_refusal r ≡ told g a
refused-told {X = X} f g a r e = sym (else-refusal X (told g a) r) ∙ ap (or_else (told g a)) e ∙ else-told f g a

else-done : {A X Y : Type 0} (f : A → X) (next : A → Answer Y) (a : Answer A) → or_else (on_done a next) (told f a) ≡ on_done a next
unfolding told on_done
else-done f next (done x) = refl
else-done f next (refused n vs) = refl
else-done f next (fault n vs) = refl

refusal-leaves : (r : Refusal) (old : List ℕ) → old ≡ leaves (says_refusal r) old
unfolding leaves
refusal-leaves (R.R10 n) old = refl
refusal-leaves (R.R11 n) old = refl
refusal-leaves (R.R12 n) old = refl
refusal-leaves R.R13 old = refl

-- and the buffer is as it was
pub refused-fills : {A X : Type 0} (f : A → X) (next : A → Answer (List ℕ)) (a : Answer A) (r : Refusal) (old : List ℕ) → says_refusal r ≡ told f a → Fills (says_refusal r) (on_done a next) old old
refused-fills {X = X} f next a r old e =
    let g : says_refusal r ≡ on_done a next = sym (else-refusal X (on_done a next) r) ∙ ap (or_else (on_done a next)) e ∙ else-done f next a in
    record { says = refusal-told length r ∙ ap (told length) g; left = refusal-leaves r old ∙ ap (λ (x : Answer (List ℕ)). leaves x old) g }
