-- Splitting what was built gives it back, whatever the check byte, and nothing that would be given back is refused for its form. Assumes nothing.
use Rattle.std.specs.Prelude.{◌≡◌, refl, Bool, true, false, not, List, [], ◌∷◌, ◌++◌, ℕ, ◌+◌, ◌-◌, ◌*◌, ◌/◌, ◌%◌, ◌≤◌, eqb, length}
use Rattle.std.proofs.Common.{sym, subst, ◌∙◌, arith, length-append, take_at, leb-true, leb-false, le-ltb}
use Rattle.laws.specs.Pick.{pick_true, pick-false, pick-f}
use Rattle.laws.specs.Whole.{false-true}
use Rattle.paper.specs.Answer.{done}
use Rattle.paper.specs.AnswerLaws.{passed}
use Rattle.paper.specs.Numbers.{R14}
use Rattle.frame.specs.Frame.{extended, framable}
use Rattle.frame.specs.Read.{too_short}
use Rattle.message.specs.Message.{address_bytes, proper, body_of, address_length, form_of, parts_of, data_of, split_of, framable_of, improper, build_of}
use Rattle.message.specs.declared.Form.{Form}
use Rattle.message.specs.declared.Form.TheVariants.{Address, Serial}

pub address-most : (form : Form) → length (address_bytes form) ≤ 4
unfolding address_bytes
address-most (Address a) = omega arith
address-most (Serial n) = omega arith

pub body-length : (form : Form) (operation : ℕ) (data' : List ℕ) → length (body_of form operation data') ≡ length (address_bytes form) + 1 + length data'
unfolding body_of
body-length form operation data' = length-append (address_bytes form) (operation ∷ data') ∙ omega arith

-- the body splits, and its parts are these
pub record GivesBack (form : Form) (operation : ℕ) (data' body : List ℕ) : Type 0 where
  pub accepted : split_of body ≡ done (parts_of body)
  pub same-form : (parts_of body).form ≡ form
  pub same_operation : (parts_of body).operation ≡ operation
  pub same-data : data_of body (parts_of body) ≡ data'

-- a test turned around
turned : (b : Bool) → not b ≡ true → b ≡ false
turned true e = false-true e
turned false e = refl

upright : (b : Bool) → not b ≡ false → b ≡ true
upright true e = refl
upright false e = false-true (sym e)

body-splits : (form : Form) (operation c : ℕ) (data' : List ℕ) → proper form ≡ true → GivesBack form operation data' (body_of form operation data' ++ c ∷ [])
unfolding proper body_of address_bytes split_of parts_of form_of data_of address_length too_short extended
body-splits (Address a) operation c data' p =
    let z = turned (eqb a 0) p in
    let l : length (data' ++ c ∷ []) ≡ length data' + 1 = length-append data' (c ∷ []) in
    let long : 3 ≤ length (a ∷ operation ∷ (data' ++ c ∷ [])) = omega arith in
    let rest : length data' ≡ length (a ∷ operation ∷ (data' ++ c ∷ [])) - 1 - 2 = omega arith in
    record {
      accepted = pick-f _ _ _ (simp (z, pick-false) (le-ltb _ _ long));
      same-form = simp (z, pick-false);
      same_operation = simp (z, pick-false);
      same-data = simp (z, pick-false) (take_at data' (c ∷ []) _ rest);
    }
body-splits (Serial n) operation c data' p =
    let most : n ≤ 16777215 = leb-true n 16777215 p in
    let l : length (data' ++ c ∷ []) ≡ length data' + 1 = length-append data' (c ∷ []) in
    let all : List ℕ = 0 ∷ n % 256 ∷ n / 256 % 256 ∷ n / 65536 % 256 ∷ operation ∷ (data' ++ c ∷ []) in
    let long : 6 ≤ length all = omega arith in
    let rest : length data' ≡ length all - 1 - 5 = omega arith in
    let whole : n % 256 + 256 * (n / 256 % 256) + 65536 * (n / 65536 % 256) ≡ n = omega arith in
    record {
      accepted = pick-f _ _ _ (simp pick_true (le-ltb _ _ long));
      same-form = simp (pick_true, whole);
      same_operation = simp pick_true;
      same-data = simp pick_true (take_at data' (c ∷ []) _ rest);
    }

-- what was built splits, whatever its check byte, and gives the parts back
pub built-splits : (form : Form) (operation c : ℕ) (data' body : List ℕ) → build_of form operation data' ≡ done body → GivesBack form operation data' (body ++ c ∷ [])
unfolding build_of framable_of
built-splits form operation c data' body e =
    let p = passed (proper form) _ improper [] body e in
    let f = passed (framable (body_of form operation data')) (done (body_of form operation data')) R14 [] body p.1 in
    let same : body_of form operation data' ≡ body = cc f.1 in
    subst (λ (b : List ℕ). GivesBack form operation data' (b ++ c ∷ [])) same (body-splits form operation c data' p.0)

-- no improper form could be built: its bytes are another form's
pub improper-lost : (form : Form) (operation c : ℕ) (data' : List ℕ) → proper form ≡ false → form_of (body_of form operation data' ++ c ∷ []) ≡ form → ⊥
unfolding proper body_of address_bytes form_of extended
improper-lost (Address a) operation c data' p e =
    let g = rw (upright (eqb a 0) p, pick_true) at e in
    let z : ◌≡◌ {A = ℕ} 0 1 = cc (g) in
    omega arith
improper-lost (Serial n) operation c data' p e =
    let g = rw pick_true at e in
    let same : n % 256 + 256 * (n / 256 % 256) + 65536 * (n / 65536 % 256) ≡ n = cc (g) in
    omega (arith, leb-false n 16777215 p)
