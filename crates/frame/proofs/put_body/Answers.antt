use mathlib.Core.Path.{◌≡◌, sym, ap, ◌∙◌}
use mathlib.Core.List.{List, []}
use Prim.Native.Nat.{ℕ, ◌≤◌, ◌+◌}
use native.Mathlib.Omega.{arith}
use lib.ListN.{length, drop, get_or, drop_of_length-le}
use lib.Seq.{sets, length-sets}
use Rattle.laws.specs.Over.{sets-append}
use Rattle.frame.specs.Frame.{sent_byte, sent}
use Rattle.frame.proofs.Laws.{sent-step, sent-step-length}
use Rattle.frame.proofs.put_body.Goals as goal

pub put_byte-to-requires : goal.put_byte-to-requires
put_byte-to-requires c =
    let l = c.args.body.now in
    let i = c.loop-b.b-index in
    let h : length (sent (drop i l)) ≡ length (sent_byte (get_or l i 0)) + length (sent (drop (i + 1) l)) = sent-step-length l i (omega arith) in
    omega arith

pub loop-b-preserved : goal.loop-b-preserved
loop-b-preserved c =
    let l = c.args.body.now in
    let i = c.loop-b.b-index in
    let put = c.put_byte-to in
    let h : length (sent (drop i l)) ≡ length (sent_byte (get_or l i 0)) + length (sent (drop (i + 1) l)) = sent-step-length l i (omega arith) in
    let out = c.loop-b.out in
    let to = c.loop-b.to in
    let b = get_or l i 0 in
    let rest = sent (drop (i + 1) l) in
    let put-len : length put.new.out ≡ length out = ap length put.ensures.left ∙ length-sets out to (sent_byte b) in (
      omega arith,
      (
        put-len ∙ c.loop-b.invariant.1.0,
        ap (λ (z : List ℕ). sets z put.result rest) put.ensures.left
            ∙ ap (λ (n : ℕ). sets (sets out to (sent_byte b)) n rest) put.ensures.after
            ∙ sym (sets-append out to (sent_byte b) rest)
            ∙ ap (λ (z : List ℕ). sets out to z) (sym (sent-step l i (omega arith)))
            ∙ c.loop-b.invariant.1.1,
      ),
    )

pub returns : goal.returns
unfolding sent
returns c =
    let l = c.args.body.now in
    let all : length l ≤ c.loop-b.b-index = omega arith in
    let e : sent (drop c.loop-b.b-index l) ≡ sent [] = ap sent (drop_of_length-le l all) in
    record { after = omega (arith, ap length e); left = rw e at c.loop-b.invariant.1.1 }
