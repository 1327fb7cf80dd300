use mathlib.Core.Path.{◌≡◌, ap, ◌∙◌}
use mathlib.Core.List.{List}
use Prim.Native.Nat.{ℕ, ◌+◌}
use native.Mathlib.Omega.{arith}
use lib.ListN.{length, set, length-set}
use lib.Seq.{sets, length-sets}
use Rattle.frame.specs.Check.{check}
use Rattle.frame.specs.Frame.{sent, sent_byte, frame}
use Rattle.frame.specs.FrameLaws.{frame-length}
use Rattle.frame.proofs.Laws.{stores, stores-length}
use Rattle.frame.proofs.put_frame.Goals as goal
use Rattle.frame.proofs.put_frame.Goals.{After-put_byte-end}

-- what is known where the two closing bytes go
record Closing (o out₂ body : List ℕ) (end : ℕ) : Type 0 where
  at-end : end + 2 ≡ length (frame body)
  same : length out₂ ≡ length o
  all : set (set out₂ end 0xFF) (end + 1) 0xFF ≡ sets o 0 (frame body)

pub bounds-out-0 : goal.bounds-out-0
bounds-out-0 c = omega (arith, frame-length c.args.body.now)

pub put_body-at-requires : goal.put_body-at-requires
put_body-at-requires c = simp length-set (omega (arith, frame-length c.args.body.now))

pub put_byte-end-requires : goal.put_byte-end-requires
put_byte-end-requires c =
    let o = c.args.out.now in
    let body = c.args.body.now in
    let put = c.put_body-at in
    let e : length put.new.out ≡ length o = ap length put.ensures.left ∙ length-sets (set o 0 0xFF) 1 (sent body) ∙ length-set o 0 0xFF in
    omega (arith, frame-length body, ap (λ (x : ℕ). length (sent_byte x)) c.requires.1, put.ensures.after)

closing : (c : After-put_byte-end) → Closing c.args.out.now c.put_byte-end.new.out c.args.body.now c.put_byte-end.result
closing c =
    let o = c.args.out.now in
    let body = c.args.body.now in
    let put = c.put_body-at in
    let last = c.put_byte-end in
    let e₂ : last.new.out ≡ sets put.new.out put.result (sent_byte (check body)) = last.ensures.left ∙ ap (λ (x : ℕ). sets put.new.out put.result (sent_byte x)) c.requires.1 in
    let p₂ : last.result ≡ put.result + length (sent_byte (check body)) = last.ensures.after ∙ ap (λ (x : ℕ). put.result + length (sent_byte x)) c.requires.1 in
    record {
      at-end = omega (arith, frame-length body, put.ensures.after);
      same = stores-length o body put.new.out last.new.out put.result last.result put.ensures.left put.ensures.after e₂ p₂;
      all = stores o body put.new.out last.new.out put.result last.result put.ensures.left put.ensures.after e₂ p₂;
    }

pub bounds-out-end : goal.bounds-out-end
bounds-out-end c = let k = closing (goal.at.bounds-out-end c).After-put_byte-end in omega (arith, c.requires.0)

pub overflow_add-out : goal.overflow_add-out
overflow_add-out c = let k = closing (goal.at.overflow_add-out c).After-put_byte-end in omega arith

pub bounds-out-end-2 : goal.bounds-out-end-2
bounds-out-end-2 c = let k = closing (goal.at.bounds-out-end-2 c).After-put_byte-end in simp length-set (omega arith)

pub returns : goal.returns
returns c = (closing (goal.at.returns c).After-put_byte-end).all
