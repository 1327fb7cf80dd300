-- The stores leave the body and the zeros behind it; whether it can be framed is asked of those bytes.
use mathlib.Core.Path.{◌≡◌, sym, ap, ◌∙◌, ap₂, refl}
use mathlib.Core.List.{List, [], ◌∷◌, ◌++◌}
use mathlib.Core.Bool.{false}
use Prim.Native.Nat.{ℕ, zero, suc, ◌+◌, ◌-◌, ◌≤◌, ◌<◌}
use native.Mathlib.Numerals.{add-one}
use native.Mathlib.Omega.{arith}
use lib.ListN.{length, take, drop, set, replicate, length-set}
use lib.Seq.{sets, length-sets, take_at, length-take-le, sets-eq}
use Rattle.laws.specs.Pick.{pick-t, pick-f, so}
use Rattle.laws.specs.Over.{over, sets-append, sets_over}
use Rattle.frame.specs.Frame.{framable}
use Rattle.frame.specs.FrameLaws.{framable-long}
use Rattle.paper.specs.Answer.{Answer, done, told}
use Rattle.frame.specs.Puts.{PutsBytes}
use Rattle.message.specs.Message.{address_bytes, body_of, framable_of}
use Rattle.message.specs.BuildSplit.{address-most, body-length}
use Rattle.message.specs.Says.{handed}
use Rattle.message.specs.declared.Form.{Form}
use Rattle.message.specs.declared.Body.{Body}
use Rattle.message.proofs.framable_body.Goals as goal
use Rattle.std.proofs.Math.Seq.{take-length}
use borrow.Rule.Slice.PartMut.{put_mid}
use Rattle.std.proofs.lemmas.Slice.{put_mid-paste}

drop-replicate : (n m x : ℕ) → drop n (replicate m x) ≡ replicate (m - n) x
drop-replicate zero m x = let e : m - 0 ≡ m = omega arith in rw e
drop-replicate (suc n) zero x = let e : 0 - suc n ≡ 0 = omega arith in rw e
drop-replicate (suc n) (suc m) x = let e : suc m - suc n ≡ m - n = omega arith in rw e (drop-replicate n m x)

-- bytes copied to a place are stores from there on
copied : (l ys zs : List ℕ) (a k : ℕ) → ys ≡ zs → k ≡ length zs → a + k ≤ length l → put_mid a k l ys ≡ sets l a zs
copied l ys zs a k e n h =
    put_mid-paste a k l ys zs (length zs) e (sym n) refl
    ∙ ap (λ (m : List ℕ). (take a l ++ m) ++ drop (a + length zs) l) (take-length zs)
    ∙ sym (sets-eq zs l a (omega arith))

-- a body of n bytes stands in the array
record Stored (body array : List ℕ) (n : ℕ) : Type 0 where
  size : n ≡ length body
  small : n ≤ 254
  full : length array ≡ 254
  is : array ≡ body ++ replicate (254 - length body) 0
  front : take n array ≡ body

module _ (form : Form) (operation head : ℕ) (values first : List ℕ)
    (put : PutsBytes (address_bytes form) (replicate 254 0) first 0 head) where
  too_long : 253 - head < length values → framable (body_of form operation values) ≡ false
  too_long h = framable-long _ (omega (arith, body-length form operation values, put.after, address-most form))

  first-full : length first ≡ 254
  first-full = let zeros : List ℕ = replicate 254 0 in ap length put.left ∙ length-sets zeros 0 (address_bytes form)

  module _ (array : List ℕ) (h : length values ≤ 253 - head) (e : array ≡ sets (set first head operation) (head + 1) values) where
    stored : Stored (body_of form operation values) array (head + 1 + length values)
    unfolding body_of over
    stored =
        let body = body_of form operation values in
        let zeros : List ℕ = replicate 254 0 in
        let size : head + 1 + length values ≡ length body = omega (arith, body-length form operation values, put.after) in
        let room : length body ≤ length zeros = omega (arith, put.after, address-most form) in
        let all : array ≡ sets zeros 0 body =
        e ∙ ap (λ (n : ℕ). sets (set first head operation) n values) (add-one head)
        ∙ ap (λ (l : List ℕ). sets l head (operation ∷ values)) put.left
        ∙ ap (λ (n : ℕ). sets (sets zeros 0 (address_bytes form)) n (operation ∷ values)) put.after
        ∙ sym (sets-append zeros 0 (address_bytes form) (operation ∷ values)) in
        let is : array ≡ body ++ replicate (254 - length body) 0 =
        all ∙ sets_over zeros body room ∙ ap (λ (l : List ℕ). body ++ l) (drop-replicate (length body) 254 0) in
        record {
          size = size;
          small = omega arith;
          full = ap length all ∙ length-sets zeros 0 body;
          is = is;
          front = rw is (take_at body _ _ (sym size));
        }

  stored-copy : (copy : List ℕ) → length values ≤ 253 - head → copy ≡ values
      → Stored (body_of form operation values) (put_mid (head + 1) (head + 1 + length values - (head + 1)) (set first head operation) copy) (head + 1 + length values)
  stored-copy copy h e =
      let l : length (set first head operation) ≡ 254 = length-set first head operation ∙ first-full in
      stored _ h (copied (set first head operation) copy values (head + 1) (head + 1 + length values - (head + 1)) e (omega arith) (omega (arith, put.after, address-most form)))

pub overflow_sub-head : goal.overflow_sub-head
overflow_sub-head c = omega (arith, c.put_address-head.ensures.after, address-most c.args.form)

pub returns-then-head-values : goal.returns-then-head-values
unfolding framable_of told
returns-then-head-values c =
    let put = c.put_address-head in
    let values = c.args.values.now in
    let h : 253 - put.result < length values = omega arith in
    sym (ap (told handed) (pick-f _ _ _ (too_long _ _ _ values _ put.ensures h)))

pub overflow_add-len : goal.overflow_add-len
overflow_add-len c = omega (arith, c.put_address-head.ensures.after, address-most c.args.form)

pub overflow_add-len-2 : goal.overflow_add-len-2
overflow_add-len-2 c = omega (arith, c.put_address-head.ensures.after, address-most c.args.form)

pub bounds-bytes-head : goal.bounds-bytes-head
bounds-bytes-head c = omega (arith, c.put_address-head.ensures.after, address-most c.args.form)

pub overflow_add-bytes : goal.overflow_add-bytes
overflow_add-bytes c = omega (arith, c.put_address-head.ensures.after, address-most c.args.form)

pub slice_bounds-bytes-end : goal.slice_bounds-bytes-end
slice_bounds-bytes-end c =
    let put = c.put_address-head in
    let l : length (set put.new.out put.result c.args.operation) ≡ 254 = length-set put.new.out put.result c.args.operation ∙ first-full c.args.form 0 _ [] _ put.ensures in
    let h : put.result + 1 + length c.args.values.now ≤ length (set put.new.out put.result c.args.operation) = omega (arith, put.ensures.after, address-most c.args.form) in
    h

pub slice_bounds-bytes-end-2 : goal.slice_bounds-bytes-end-2
slice_bounds-bytes-end-2 c = let k = stored-copy _ c.args.operation _ _ _ c.put_address-head.ensures _ (omega arith) c.copy_from_slice.ensures.after in omega (arith, k.small, k.full)

pub slice_bounds-framable-end : goal.slice_bounds-framable-end
slice_bounds-framable-end c =
    let k = stored-copy _ c.args.operation _ _ _ c.put_address-head.ensures _ (omega arith) c.copy_from_slice.ensures.after in
    sym (length-take-le _ _ (omega (arith, k.small, k.full)))

pub returns-then-not-framable : goal.returns-then-not-framable
unfolding framable_of told
returns-then-not-framable c =
    let k = stored-copy _ c.args.operation _ _ _ c.put_address-head.ensures _ (omega arith) c.copy_from_slice.ensures.after in
    sym (ap (told handed) (pick-f _ _ _ (rw k.front at (so c.framable.ensures c.if-not-framable.true))))

pub returns : goal.returns
unfolding framable_of told
returns c =
    let k = stored-copy _ c.args.operation _ _ _ c.put_address-head.ensures _ (omega arith) c.copy_from_slice.ensures.after in
    ap₂ {C = Answer Body} (λ (l : List ℕ) (n : ℕ). done (record { bytes = l; len = n })) k.is k.size
    ∙ sym (ap (told handed) (pick-t _ _ _ (rw k.front at (so c.framable.ensures c.if-not-framable.false))))
