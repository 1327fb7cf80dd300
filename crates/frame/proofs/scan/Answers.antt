use mathlib.Core.Path.{◌≡◌, refl, sym, ◌∙◌}
use mathlib.Core.List.{List}
use Prim.Native.Nat.{ℕ, ◌+◌, ◌≤◌, ◌-◌}
use native.Mathlib.Omega.{arith}
use lib.ListN.{length, take, drop_of_length-le, drop}
use Rattle.frame.specs.Read.{ended, run, read_all}
use Rattle.frame.specs.ReadLaws.{run-ended}
use Rattle.frame.specs.Stands.{stands, fits, HoldsReading, Skips, Takes, Copies, before_mark}
use Rattle.frame.specs.declared.State.{State}
use Rattle.frame.specs.declared.State.TheVariants as S
use Rattle.frame.proofs.Laws.{run_step, before-plain, skips, takes}
use Rattle.frame.proofs.scan.Invariants.{Left}
use Rattle.frame.proofs.scan.Goals as goal
use Rattle.frame.proofs.scan.Goals.{After-step-st}
use borrow.Rule.Slice.PartMut.{put_mid}

finished : {s buf : List ℕ} {st : State} {i n k : ℕ} → st ≡ S.Ended n k → Left s buf st i → HoldsReading st buf (read_all s)
unfolding stands
finished {s} {buf} {st} {i} {n} {k} e t =
    let z : stands st buf ≡ ended (take n buf) k = rw e in
    record { reading = z ∙ sym (run-ended _ _ _ _) ∙ rw z at t.same; held = t.held }

searched : {s buf : List ℕ} {st : State} {i r : ℕ} → st ≡ S.Seek → Left s buf st i → Skips s i r → Left s buf st r
unfolding stands
searched e t k = record { inside = k.inside; same = rw e k.same ∙ t.same; held = t.held }

filled : {s buf new : List ℕ} {st : State} {i n k p : ℕ} → st ≡ S.Body p n → Left s buf st i → Takes s i n buf new k → Left s new (S.Body p (n + k)) (i + k)
unfolding stands fits
filled {p = p} e t k = record { inside = k.inside; same = rw e (k.same p) ∙ t.same; held = record { body-fits = k.fits; full = k.full } }

pub loop-i-init : goal.loop-i-init
unfolding read_all stands fits
loop-i-init c = record { inside = omega arith; same = refl; held = record { body-fits = tt; full = c.requires } }

pub step-st-requires : goal.step-st-requires
step-st-requires c = c.loop-i.invariant.held

-- after a turn's step
turn : (c : After-step-st) →
    Left c.args.bytes.now c.step-st.new.buf c.step-st.result (c.loop-i.i + 1)
turn c =
    let s = c.args.bytes.now in
    record {
      inside = omega arith;
      same = rw c.step-st.ensures.reading (sym (run_step (stands c.loop-i.st c.loop-i.buf) c.loop-i.i s (omega arith)) ∙ c.loop-i.invariant.same);
      held = c.step-st.ensures.held;
    }

-- Ended
pub returns-in-Ended : goal.returns-in-Ended
returns-in-Ended c = finished c.in-Ended.is (turn (goal.at.returns-in-Ended c).After-step-st)

-- the search from there on
sought : {s buf : List ℕ} {st : State} {i r : ℕ} → Left s buf st i → r ≡ before_mark (take (length s - i) (drop i s)) → Skips s i (i + r)
sought t e = skips _ _ _ t.inside (rw e (before-plain _))

pub overflow_add-i-in-Seek : goal.overflow_add-i-in-Seek
overflow_add-i-in-Seek c = let k = sought (turn (goal.at.overflow_add-i-in-Seek c).After-step-st) c.before_mark-i.ensures in omega (arith, k.inside)

pub loop-i-smaller-in-Seek : goal.loop-i-smaller-in-Seek
loop-i-smaller-in-Seek c = let k = sought (turn (goal.at.loop-i-smaller-in-Seek c).After-step-st) c.before_mark-i.ensures in omega (arith, k.on, k.inside)

-- Seek
pub loop-i-preserved-in-Seek : goal.loop-i-preserved-in-Seek
loop-i-preserved-in-Seek c =
    let t = turn (goal.at.loop-i-preserved-in-Seek c).After-step-st in
    searched c.in-Seek.is t (sought t c.before_mark-i.ensures)

-- a body fits the buffer
body-small : {s buf : List ℕ} {st : State} {i n p : ℕ} → Left s buf st i → st ≡ S.Body p n → n ≤ 255
unfolding fits
body-small t e = rw e at t.held.body-fits

-- the bytes that a body takes
took : {s buf room : List ℕ} {st : State} {i n p k : ℕ} → Left s buf st i → st ≡ S.Body p n → Copies (take (length s - i) (drop i s)) (take (length buf - n) (drop n buf)) room k → Takes s i n buf (put_mid n (length buf - n) buf room) k
took t e c = takes _ _ _ _ _ _ t.inside (body-small t e) t.held.full c

pub slice_bounds-fill-count-in-Body : goal.slice_bounds-fill-count-in-Body
slice_bounds-fill-count-in-Body c = let t = turn (goal.at.slice_bounds-fill-count-in-Body c).After-step-st in omega (arith, body-small t c.in-Body.is, t.held.full)

pub slice_bounds-fill-start-in-Body : goal.slice_bounds-fill-start-in-Body
slice_bounds-fill-start-in-Body c = let t = turn (goal.at.slice_bounds-fill-start-in-Body c).After-step-st in omega (arith, body-small t c.in-Body.is, t.held.full)

pub overflow_add-st : goal.overflow_add-st
overflow_add-st c = let k = took (turn (goal.at.overflow_add-st c).After-step-st) c.in-Body.is c.fill-k.ensures in omega (arith, k.fits)

pub overflow_add-i-in-Body : goal.overflow_add-i-in-Body
overflow_add-i-in-Body c = let k = took (turn (goal.at.overflow_add-i-in-Body c).After-step-st) c.in-Body.is c.fill-k.ensures in omega (arith, k.inside)

pub loop-i-smaller-in-Body : goal.loop-i-smaller-in-Body
loop-i-smaller-in-Body c = let k = took (turn (goal.at.loop-i-smaller-in-Body c).After-step-st) c.in-Body.is c.fill-k.ensures in omega (arith, k.inside)

-- Body
pub loop-i-preserved-in-Body : goal.loop-i-preserved-in-Body
loop-i-preserved-in-Body c =
    let t = turn (goal.at.loop-i-preserved-in-Body c).After-step-st in
    filled c.in-Body.is t (took t c.in-Body.is c.fill-k.ensures)

-- Lead, Mark
pub loop-i-preserved : goal.loop-i-preserved
loop-i-preserved c = turn (goal.at.loop-i-preserved c).After-step-st

pub returns : goal.returns
unfolding run
returns c =
    let s = c.args.bytes.now in
    let all : length s ≤ c.loop-i.i = omega arith in
    record { reading = rw (drop_of_length-le s all) at c.loop-i.invariant.same; held = c.loop-i.invariant.held }
