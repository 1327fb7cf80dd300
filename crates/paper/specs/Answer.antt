-- What the paper calls an answer, and what an answer leaves in a lent buffer. Assumes nothing.
use Rattle.std.specs.Prelude.{◌≡◌, List, [], ◌++◌, ℕ, ◌-◌, leb, length, replicate}
use Rattle.std.proofs.Common.{sym, ◌∙◌}
use Rattle.laws.specs.Pick.{pick}
use Rattle.laws.specs.Over.{over}
use Rattle.paper.specs.Numbers.{R8}

-- done with its values; refused with a number and what the number names; a fault with a number and what it names
pub data Answer (X : Type 0) : Type 0 where
  done : X → Answer X
  refused : ℕ → List ℕ → Answer X
  fault : ℕ → List ℕ → Answer X

-- the same answer, told by a function of its values
unfoldable pub told : {A B : Type 0} → (A → B) → Answer A → Answer B
told f (done x) = done (f x)
told f (refused n vs) = refused n vs
told f (fault n vs) = fault n vs

-- where an answer is done, go on with its values
unfoldable pub on_done : {A B : Type 0} → Answer A → (A → Answer B) → Answer B
on_done (done x) next = next x
on_done (refused n vs) next = refused n vs
on_done (fault n vs) next = fault n vs

-- the bytes of an answer that has some, else none
unfoldable pub bytes_in : Answer (List ℕ) → List ℕ
bytes_in (done bytes) = bytes
bytes_in (refused n vs) = []
bytes_in (fault n vs) = []

-- R8: reply buffer too short; vs is what the refusal names
unfoldable pub in_room : List ℕ → ℕ → List ℕ → Answer (List ℕ)
in_room vs room bytes = pick (leb (length bytes) room) (done bytes) (refused R8 vs)

-- An accepted call writes only the bytes of its answer, from the buffer's start; a refusal changes nothing
unfoldable pub leaves : Answer (List ℕ) → List ℕ → List ℕ
leaves (done bytes) old = over bytes old
leaves (refused n vs) old = old
leaves (fault n vs) old = old

-- a call that fills a lent buffer: it says how many bytes the rule gives, or the rule's refusal, and leaves what the rule leaves
pub record Fills (answer : Answer ℕ) (rule : Answer (List ℕ)) (old new : List ℕ) : Type 0 where
  pub says : answer ≡ told length rule
  pub left : new ≡ leaves rule old

-- a call that hands bytes over in an array of n: it says how many, or the rule's refusal; the places past them are 0
pub record Hands (n : ℕ) (answer : Answer ℕ) (rule : Answer (List ℕ)) (array : List ℕ) : Type 0 where
  pub says : answer ≡ told length rule
  pub holds : array ≡ bytes_in rule ++ replicate (n - length (bytes_in rule)) 0

-- two results that are both what a rule gives are equal
pub same : {A : Type 0} {x y z : A} → x ≡ z → y ≡ z → x ≡ y
same p q = p ∙ sym q

pub fills_one : {a b : Answer ℕ} {rule : Answer (List ℕ)} {old new new' : List ℕ} → Fills a rule old new → Fills b rule old new' → (a ≡ b) × (new ≡ new')
fills_one p q = (same p.says q.says, same p.left q.left)

pub hands-one : {n : ℕ} {a b : Answer ℕ} {rule : Answer (List ℕ)} {l m : List ℕ} → Hands n a rule l → Hands n b rule m → (a ≡ b) × (l ≡ m)
hands-one p q = (same p.says q.says, same p.holds q.holds)
