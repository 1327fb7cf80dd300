-- How long a frame is, and what it is to be framable. Assumes nothing.
use Rattle.std.specs.Prelude.{◌≡◌, refl, Bool, true, false, not, ◌&&◌, List, [], ◌∷◌, ◌++◌, ℕ, ◌+◌, ◌*◌, ◌<◌, ◌≤◌, leb, eqb, length, get_or}
use Rattle.std.proofs.Common.{ap, ◌∙◌, sym, append_assoc, append-nil, arith, length-append, leb-true, eq-eqb, ne_eqb, le-leb}
use Rattle.std.proofs.Math.Bool.{and-false}
use Rattle.std.proofs.lemmas.Bool.{eqb-false, lt-leb}
use Rattle.laws.specs.Pick.{pick_all, pick-t, pick-f}
use Rattle.laws.specs.Whole.{false-true}
use Rattle.frame.specs.Check.{check}
use Rattle.frame.specs.Frame.{sent_byte, sent, frame, extended, fewest, framable}

-- FF is sent as two bytes, any other as itself
pub sent-FF : (x : ℕ) → x ≡ 0xFF → sent_byte x ≡ 0xFF ∷ 0xFE ∷ []
unfolding sent_byte
sent-FF x e = pick-t _ _ _ (eq-eqb x 0xFF e)

pub sent-plain : (x : ℕ) → (x ≡ 0xFF → ⊥) → sent_byte x ≡ x ∷ []
unfolding sent_byte
sent-plain x e = pick-f _ _ _ (ne_eqb x 0xFF e)

pub byte-least : (x : ℕ) → 1 ≤ length (sent_byte x)
unfolding sent_byte
byte-least x = pick_all (λ (l : List ℕ). 1 ≤ length l) (eqb x 0xFF) (omega arith) (omega arith)

pub byte-most : (x : ℕ) → length (sent_byte x) ≤ 2
unfolding sent_byte
byte-most x = pick_all (λ (l : List ℕ). length l ≤ 2) (eqb x 0xFF) (omega arith) (omega arith)

pub sent-append : (xs ys : List ℕ) → sent (xs ++ ys) ≡ sent xs ++ sent ys
unfolding sent
sent-append [] ys = refl
sent-append (x ∷ xs) ys = ap (λ (l : List ℕ). sent_byte x ++ l) (sent-append xs ys) ∙ sym (append_assoc (sent_byte x) (sent xs) (sent ys))

pub sent-most : (xs : List ℕ) → length (sent xs) ≤ 2 * length xs
unfolding sent
sent-most [] = omega arith
sent-most (x ∷ xs) = omega (arith, length-append (sent_byte x) (sent xs), byte-most x, sent-most xs)

pub frame-parts : (body : List ℕ) → frame body ≡ 0xFF ∷ (sent body ++ (sent_byte (check body) ++ 0xFF ∷ 0xFF ∷ []))
unfolding frame sent
frame-parts body = rw (sent-append, append-nil, append_assoc)

pub frame-length : (body : List ℕ) → length (frame body) ≡ length (sent body) + length (sent_byte (check body)) + 3
frame-length body = rw frame-parts (simp length-append (omega arith))

-- what it is to be framable
pub record Framable (body : List ℕ) : Type 0 where
  pub not-FF : get_or body 0 0 ≡ 0xFF → ⊥
  pub not-FE : get_or body 0 0 ≡ 0xFE → ⊥
  pub enough : fewest body ≤ length body
  pub most : length body ≤ 254

four : (a b c d : Bool) → (not a && not b && c && d) ≡ true → (a ≡ false) × (b ≡ false) × (c ≡ true) × (d ≡ true)
four true b c d e = false-true e
four false true c d e = false-true e
four false false true d e = (refl, refl, refl, e)
four false false false d e = false-true e

pub framable-is : (body : List ℕ) → framable body ≡ true → Framable body
unfolding framable
framable-is body e =
    let x = get_or body 0 0 in
    let f = four (eqb x 0xFF) (eqb x 0xFE) (leb (fewest body) (length body)) (leb (length body) 254) e in
    record {
      not-FF = eqb-false x 0xFF f.0;
      not-FE = eqb-false x 0xFE f.1;
      enough = leb-true (fewest body) (length body) f.2;
      most = leb-true (length body) 254 f.3;
    }

-- and it is no more
pub is-framable : (body : List ℕ) → Framable body → framable body ≡ true
unfolding framable
is-framable body f =
    let x = get_or body 0 0 in
    rw (ne_eqb x 0xFF f.not-FF, ne_eqb x 0xFE f.not-FE, le-leb (fewest body) (length body) f.enough, le-leb (length body) 254 f.most)

pub fewest-two : (body : List ℕ) → 2 ≤ fewest body
unfolding fewest
fewest-two body = pick_all (λ (n : ℕ). 2 ≤ n) (extended body) (omega arith) (omega arith)

-- too short or too long a body is not framable
pub framable-short : (body : List ℕ) → length body < fewest body → framable body ≡ false
unfolding framable
framable-short body h = simp (lt-leb _ _ h, and-false)

pub framable-long : (body : List ℕ) → 254 < length body → framable body ≡ false
unfolding framable
framable-long body h = simp (lt-leb _ _ h, and-false)

-- no frame is longer than 513 bytes
pub frame-most : (body : List ℕ) → framable body ≡ true → length (frame body) ≤ 513
frame-most body f =
    omega (arith, frame-length body, sent-most body, byte-most (check body), (framable-is body f).most)
