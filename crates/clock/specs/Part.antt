-- Bytes put into the part of a lent buffer from a place on. Assumes nothing.
use Rattle.std.specs.Prelude.{◌≡◌, List, ◌++◌, ℕ, ◌+◌, ◌-◌, ◌≤◌, length, take, drop}
use Rattle.std.proofs.Common.{sym, ap, ◌∙◌, append_assoc, append-nil, arith, length-drop, drop_of_length-le, take_all, length-take-le, drop-drop}
use Rattle.std.proofs.lemmas.List.Edits.{sets, sets-eq}
use borrow.Rule.Slice.PartMut.{mid_of, put_mid}
use Rattle.laws.specs.Over.{over}

-- bytes written over the start of the part are a run of stores
pub put-part : (out : List ℕ) (len : ℕ) (text ys : List ℕ) → len ≤ length out → length text ≤ length out - len → ys ≡ over text (mid_of len (length out - len) out)
    → put_mid len (length out - len) out ys ≡ sets out len text
unfolding over
put-part out len text ys h k e =
    let size = length-drop len out in
    ap (λ (l : List ℕ). take len out ++ (l ++ drop (length out - len) (drop len out))) e
    ∙ ap (λ (l : List ℕ). take len out ++ ((text ++ drop (length text) l) ++ drop (length out - len) (drop len out))) (take_all (length out - len) (drop len out) (omega arith))
    ∙ ap (λ (l : List ℕ). take len out ++ ((text ++ drop (length text) (drop len out)) ++ l)) (drop_of_length-le (drop len out) {i = length out - len} (omega arith))
    ∙ ap (λ (l : List ℕ). take len out ++ l) (append-nil (text ++ drop (length text) (drop len out)) ∙ ap (λ (l : List ℕ). text ++ l) (drop-drop (length text) len out))
    ∙ sym (append_assoc (take len out) text (drop (len + length text) out))
    ∙ sym (sets-eq text out len (omega arith))

pub part_length : (out : List ℕ) (len : ℕ) → length (mid_of len (length out - len) out) ≡ length out - len
part_length out len = length-take-le (length out - len) (drop len out) (omega (arith, length-drop len out))
