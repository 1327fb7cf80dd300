use Rattle.frame.proofs.read_frame.Goals as goal
use Rattle.frame.specs.declared.State.{State}
use Rattle.frame.specs.declared.State.TheVariants as S
use Rattle.paper.specs.Answer.{told, done}
use lib.ListN.{length, take, drop, drop_of_length-le, replicate}
use native.Mathlib.Omega.{arith}
use Rattle.laws.specs.Pick.{so, pick-f, pick-t}
use Rattle.frame.specs.Says.{handed}
use mathlib.Core.Path.{ap, sym, ◌≡◌, ◌∙◌, ap₂}
use lib.Seq.{length-take-le}
use mathlib.Core.Bool.{false}
use mathlib.Core.List.{List, append-nil, ◌++◌, []}
use Rattle.frame.specs.Stands.{HoldsReading, fits, stands}
use Prim.Native.Nat.{ℕ, ◌≤◌, ◌-◌}
use Rattle.frame.specs.Read.{Reading, answer_of, judged, read_all, read_of, bad_body}
use Rattle.std.proofs.lemmas.List.{length-drop}
use borrow.Rule.Slice.PartMut.{put_mid}

-- what the rule answers where reading has come so far
so_far : (s : List ℕ) {buf : List ℕ} {st : State} → HoldsReading st buf (read_all s) → told handed (answer_of (length s) (stands st buf)) ≡ told handed (read_of s)
unfolding read_of
so_far s t = ap (λ (r : Reading). told handed (answer_of (length s) r)) t.reading

-- a finished body fits the buffer
small : (s : List ℕ) {buf : List ℕ} {n k : ℕ} → HoldsReading (S.Ended n k) buf (read_all s) → n ≤ 255
unfolding fits
small s t = t.held.body-fits

pub returns-in-Seek : goal.returns-in-Seek
unfolding stands answer_of told
returns-in-Seek c = so_far _ c.in-Seek.ensures

pub slice_bounds-body-end : goal.slice_bounds-body-end
slice_bounds-body-end c = omega (arith, small _ c.in-Ended.ensures, c.in-Ended.ensures.held.full)

pub slice_bounds-bad_body-end : goal.slice_bounds-bad_body-end
slice_bounds-bad_body-end c = sym (length-take-le _ _ (omega (arith, small _ c.in-Ended.ensures, c.in-Ended.ensures.held.full)))

pub slice_bounds-fill-count : goal.slice_bounds-fill-count
slice_bounds-fill-count c = small _ c.in-Ended.ensures

pub slice_bounds-body-start : goal.slice_bounds-body-start
slice_bounds-body-start c = small _ c.in-Ended.ensures

pub returns-then-bad_body : goal.returns-then-bad_body
unfolding stands answer_of judged told
returns-then-bad_body c = ap (told handed) (sym (pick-t _ _ _ (so c.bad_body.ensures c.if-bad_body.true))) ∙ so_far _ c.in-Ended.ensures

pub returns-in-Lead : goal.returns-in-Lead
unfolding stands answer_of told
returns-in-Lead c = so_far _ c.in-Lead.ensures

pub returns-in-Lead-2 : goal.returns-in-Lead-2
unfolding stands answer_of told
returns-in-Lead-2 c = so_far _ c.in-Lead.ensures

pub returns-in-Lead-3 : goal.returns-in-Lead-3
unfolding stands answer_of told
returns-in-Lead-3 c = so_far _ c.in-Lead.ensures

-- the body and zeros behind it
cleared : (place n : ℕ) (buf room : List ℕ) → n ≤ 255 → length buf ≡ 255 → room ≡ replicate (length (take (255 - n) (drop n buf))) 0
    → done (record { place = place; len = n; body = put_mid n (255 - n) buf room }) ≡ done (handed (record { place = place; bytes = take n buf }))
cleared place n buf room h full e =
    let front : length (take n buf) ≡ n = length-take-le n buf (omega arith) in
    let rest : length (drop n buf) ≡ 255 - n = length-drop n buf ∙ ap (λ (k : ℕ). k - n) full in
    let size : length (take (255 - n) (drop n buf)) ≡ 255 - n = length-take-le (255 - n) (drop n buf) (omega arith) in
    let none : drop (255 - n) (drop n buf) ≡ [] = drop_of_length-le (drop n buf) (omega arith) in
    let zeros : room ≡ replicate (255 - length (take n buf)) 0 = e ∙ rw (size, front) in
    let all : put_mid n (255 - n) buf room ≡ take n buf ++ replicate (255 - length (take n buf)) 0 = rw (none, append-nil, zeros) in
    ap₂ (λ (k : ℕ) (l : List ℕ). done (record { place = place; len = k; body = l })) (sym front) all

pub returns-else-bad_body : goal.returns-else-bad_body
unfolding stands answer_of judged told
returns-else-bad_body c =
    let whole = so c.bad_body.ensures c.if-bad_body.false in
    let t = c.in-Ended.ensures in
    cleared _ _ c.scan.new.buf _ (small _ t) t.held.full (c.fill.ensures.after (λ y e. e))
    ∙ ap (told handed) (sym (pick-f _ _ _ whole))
    ∙ so_far _ t
