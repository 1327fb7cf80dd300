-- What is known of an answer: no two kinds are equal, what one that is done tells of the tests before it, and which contract a known answer meets. Assumes nothing.
use Rattle.std.specs.Prelude.{◌≡◌, refl, Bool, true, false, List, [], ◌++◌, ℕ, zero, suc, ◌-◌, ◌≤◌, ◌<◌, leb, length, drop, replicate}
use Rattle.std.proofs.Common.{sym, ap, ◌∙◌, arith, le-leb}
use Rattle.std.proofs.lemmas.List.Edits.{sets}
use Rattle.std.proofs.lemmas.Bool.{lt-leb}
use Rattle.laws.specs.Pick.{pick, pick-t, pick-f}
use Rattle.laws.specs.Over.{over, sets_over}
use Rattle.paper.specs.Answer.{Answer, done, refused, fault, told, on_done, bytes_in, in_room, leaves, Fills, Hands}
use Rattle.paper.specs.Numbers.{R8}

-- ---- a refusal, a fault and what is done are no two of them equal

pub refused-done : {X Q : Type 0} {n : ℕ} {vs : List ℕ} {x : X} → refused n vs ≡ done x → Q
refused-done e = let z : ◌≡◌ {A = ℕ} 0 1 = cc in let f : ⊥ = omega arith in absurd f

pub fault-done : {X Q : Type 0} {n : ℕ} {vs : List ℕ} {x : X} → fault n vs ≡ done x → Q
fault-done e = let z : ◌≡◌ {A = ℕ} 0 1 = cc in let f : ⊥ = omega arith in absurd f

pub done_refused : {X Q : Type 0} {x : X} {n : ℕ} {vs : List ℕ} → done x ≡ refused n vs → Q
done_refused e = let z : ◌≡◌ {A = ℕ} 0 1 = cc in let f : ⊥ = omega arith in absurd f

pub fault-refused : {X Q : Type 0} {m n : ℕ} {us vs : List ℕ} → ◌≡◌ {A = Answer X} (fault m us) (refused n vs) → Q
fault-refused e = let z : ◌≡◌ {A = ℕ} 0 1 = cc in let f : ⊥ = omega arith in absurd f

-- ---- what an answer that is done tells

-- where going on with an answer's values is done, the answer was done
pub on-done : {A B Q : Type 0} (a : Answer A) (next : A → Answer B) (y : B) → on_done a next ≡ done y → ((x : A) → a ≡ done x → next x ≡ done y → Q) → Q
unfolding on_done
on-done (done x) next y e go = go x refl e
on-done (refused n vs) next y e go = refused-done e
on-done (fault n vs) next y e go = fault-done e

-- a refusal that was told was the answer's own
pub told-refused : {A B : Type 0} (f : A → B) (a : Answer A) (n : ℕ) (vs : List ℕ) → told f a ≡ refused n vs → a ≡ refused n vs
unfolding told
told-refused f (done x) n vs e = done_refused e
told-refused f (refused m us) n vs e = let p : m ≡ n = cc in let q : us ≡ vs = cc in cc
told-refused f (fault m us) n vs e = fault-refused e

-- a test before a refusal passed
pub passed : {X : Type 0} (b : Bool) (a : Answer X) (n : ℕ) (vs : List ℕ) (y : X) → pick b a (refused n vs) ≡ done y → (b ≡ true) × (a ≡ done y)
unfolding pick
passed true a n vs y e = (refl, e)
passed false a n vs y e = refused-done e

-- a test that refuses failed
pub failed : {X : Type 0} (b : Bool) (x : X) (n : ℕ) (vs : List ℕ) (y : X) → pick b (refused n vs) (done x) ≡ done y → (b ≡ false) × (x ≡ y)
unfolding pick
failed true x n vs y e = refused-done e
failed false x n vs y e = (refl, cc)

-- ---- a call's answer meets its contract where the rule's answer is known

module _ {rule : Answer (List ℕ)} {n : ℕ} {vs : List ℕ} (e : rule ≡ refused n vs) where
  pub fills-refused : (old : List ℕ) → Fills (refused n vs) rule old old
  unfolding told leaves
  fills-refused old = record { says = rw e; left = rw e }

  pub hands-refused : (m : ℕ) {array : List ℕ} → array ≡ replicate (m - 0) 0 → Hands m (refused n vs) rule array
  unfolding told bytes_in
  hands-refused m a = record { says = rw e; holds = rw e a }

module _ {rule : Answer (List ℕ)} {bytes : List ℕ} (e : rule ≡ done bytes) {n : ℕ} (l : n ≡ length bytes) where
  pub fills-done : {old new : List ℕ} → new ≡ over bytes old → Fills (done n) rule old new
  unfolding told leaves
  fills-done a = record { says = rw (e, l); left = rw e a }

  pub hands-done : {m : ℕ} {array : List ℕ} → array ≡ bytes ++ replicate (m - length bytes) 0 → Hands m (done n) rule array
  unfolding told bytes_in
  hands-done a = record { says = rw (e, l); holds = rw e a }

-- a text that has no room, and one that has
pub fills-none : (old text : List ℕ) → length old < length text → Fills (refused R8 []) (in_room [] (length old) text) old old
unfolding in_room told leaves
fills-none old text h =
    let e = pick-f (leb (length text) (length old)) (done text) (refused R8 []) (lt-leb (length text) (length old) h) in
    record { says = sym (ap (told length) e); left = sym (ap (λ (a : Answer (List ℕ)). leaves a old) e) }

pub fills-text : (old new text : List ℕ) (n : ℕ) → length text ≤ length old → n ≡ length text → new ≡ sets old 0 text → Fills (done n) (in_room [] (length old) text) old new
unfolding in_room told leaves
fills-text old new text n h m e =
    let g = pick-t (leb (length text) (length old)) (done text) (refused R8 []) (le-leb (length text) (length old) h) in
    record { says = ap done m ∙ sym (ap (told length) g); left = e ∙ sets_over old text h ∙ sym (ap (λ (a : Answer (List ℕ)). leaves a old) g) }

drop-same : (n m x : ℕ) → drop n (replicate m x) ≡ replicate (m - n) x
drop-same zero m x = let e : m - 0 ≡ m = omega arith in rw e
drop-same (suc n) zero x = let e : 0 - suc n ≡ 0 = omega arith in rw e
drop-same (suc n) (suc m) x = let e : suc m - suc n ≡ m - n = omega arith in rw e (drop-same n m x)

-- a text laid over nothing but 0
pub hands-over : (m : ℕ) (text old array : List ℕ) (n : ℕ) → old ≡ replicate m 0 → n ≡ length text → array ≡ over text old → Hands m (done n) (done text) array
unfolding over
hands-over m text old array n z l e =
    hands-done refl l (e ∙ ap (λ (x : List ℕ). text ++ x) (ap (drop (length text)) z ∙ drop-same (length text) m 0))
