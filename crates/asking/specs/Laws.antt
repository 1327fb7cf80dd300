-- A reply to what is ours can always be framed. Assumes nothing.
use Rattle.std.specs.Prelude.{◌≡◌, true, List, [], ◌∷◌, ℕ, ◌+◌, ◌≤◌}
use Rattle.std.proofs.Math.Path.{ap}
use Rattle.std.proofs.Common.{◌∙◌}
use Rattle.std.proofs.Math.Bool.{not}
use native.Mathlib.Omega.{arith}
use Rattle.std.proofs.Math.ListN.{length}
use borrow.Author.Tests.{ne_eqb, eqb-true, le-leb}
use Rattle.laws.specs.Pick.{pick-t, pick_true, pick-false}
use Rattle.paper.specs.Answer.{Answer, in_room, on_done}
use Rattle.frame.specs.Frame.{extended, fewest, framable, write_of}
use Rattle.message.specs.Message.{address_bytes, proper, body_of, framable_of, build_of}
use Rattle.message.specs.declared.Form.{Form}
use Rattle.message.specs.declared.Form.TheVariants.{Address, Serial}
use Rattle.asking.specs.Asking.{ours, field_bytes, reply_bytes, answer_frame, reply_of}
use Rattle.asking.specs.declared.Reply.{Reply}
use Rattle.asking.specs.declared.Reply.TheVariants as R

-- a reply has at most four bytes of data
pub data-most : (holds : Reply) → length (reply_bytes holds) ≤ 4
unfolding reply_bytes field_bytes
data-most R.Nothing = omega arith
data-most (R.Byte b) = omega arith
data-most (R.Weight f) = omega arith

module _ (address serial : ℕ) (low : 1 ≤ address) (high : address ≤ 127) where
  ours-framable : (form : Form) (op : ℕ) (values : List ℕ) → ours form address serial ≡ true → length values ≤ 4 → framable (body_of form op values) ≡ true
  unfolding ours framable fewest extended body_of address_bytes
  ours-framable (Address a) op values h l =
      let e : a ≡ address = eqb-true a address h in
      simp (ne_eqb a 0xFF (λ k. omega arith), ne_eqb a 0xFE (λ k. omega arith), ne_eqb a 0 (λ k. omega arith), pick-false, le-leb 2 (length (a ∷ op ∷ values)) (omega arith), le-leb (length (a ∷ op ∷ values)) 254 (omega arith))
  ours-framable (Serial n) op values h l =
      let size : length (body_of (Serial n) op values) ≡ 5 + length values = omega arith in
      simp (pick_true, le-leb 5 (length (body_of (Serial n) op values)) (omega arith), le-leb (length (body_of (Serial n) op values)) 254 (omega arith))

  ours-proper : (form : Form) → serial ≤ 16777215 → ours form address serial ≡ true → proper form ≡ true
  unfolding ours proper
  ours-proper (Address a) k h =
      let e : a ≡ address = eqb-true a address h in
      ap not (ne_eqb a 0 (λ k. omega arith))
  ours-proper (Serial n) k h =
      let e : n ≡ serial = eqb-true n serial h in
      le-leb n 16777215 (omega arith)

  -- only R8 is left
  pub reply-framed : (form : Form) (op : ℕ) (holds : Reply) (room : ℕ) → serial ≤ 16777215 → ours form address serial ≡ true → reply_of form op holds room ≡ in_room [] room (answer_frame form op (reply_bytes holds))
  unfolding reply_of build_of framable_of on_done write_of answer_frame
  reply-framed form op holds room k h =
      let f = ours-framable form op (reply_bytes holds) h (data-most holds) in
      ap (λ (a : Answer (List ℕ)). on_done a (λ body. write_of body room)) (pick-t _ _ _ (ours-proper form k h) ∙ pick-t _ _ _ f)
      ∙ pick-t _ _ _ f
