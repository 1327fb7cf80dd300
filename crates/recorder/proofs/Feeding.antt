-- What is left of a buffer, from the place that its lines so far have reached, gives the whole. Assumes nothing.
use mathlib.Core.Path.{◌≡◌, refl, sym, ap, ap₂, ◌∙◌, subst}
use mathlib.Core.Bool.{false}
use mathlib.Core.List.{List, [], ◌++◌, append_assoc, append-nil}
use Prim.Native.Nat.{ℕ, zero, suc, ◌+◌, ◌-◌, ◌≤◌, ◌<◌}
use native.Mathlib.Nat.{add-zero, zero-add}
use native.Mathlib.Omega.{arith}
use Rattle.std.specs.Prelude.{Option, Some, None}
use lib.IntN.{ℤ}
use lib.ListN.{length, drop, length-append}
use lib.Seq.{sets, length-sets}
use borrow.Author.Tests.{le-leb, lt-leb}
use borrow.Rule.Slice.PartMut.{mid_of, put_mid}
use Rattle.laws.specs.Pick.{pick-t, pick-f}
use Rattle.laws.specs.Over.{over, sets-append, sets_over}
use Rattle.lines.specs.declared.Intake.{Intake}
use Rattle.lines.specs.declared.Taken.{Taken}
use Rattle.lines.specs.Places.{part_of}
use Rattle.lines.specs.Intake as lines
use Rattle.script.specs.Sight.{ticked, sight_of}
use Rattle.script.specs.Told.{tick-told}
use Rattle.controller.specs.declared.Controller.{Controller}
use Rattle.clock.specs.declared.Clock.{Clock}
use Rattle.clock.specs.declared.Marked.{Marked}
use Rattle.clock.specs.Clock.{Note, note}
use Rattle.clock.specs.Marking.{Writes}
use Rattle.clock.specs.Part.{put-part, part_length}
use Rattle.acts.specs.Script.{line-behind}
use Rattle.recorder.specs.Recording.{with, note_of, box_by, next_of, Carries}
use Rattle.recorder.specs.Keeps.{note-carries}
use Rattle.recorder.specs.Feed.{Gave, gave, ahead, on_next, feed_from, feed_of, Feeds}
use Rattle.recorder.specs.declared.Recorder.{Recorder}

-- ---- a line is noted

-- the next recorder is the line's; what it adds stands behind `at` bytes, everything else is as it was, and the place after it is `len`
pub record Notes (r : Recorder) (l old : List ℕ) (at : ℕ) (q : Recorder) (new : List ℕ) (len : ℕ) : Type 0 where
  pub next : q ≡ next_of r l
  pub left : new ≡ sets old at (note_of r l).text
  pub place : len ≡ at + length (note_of r l).text
  pub fits : len ≤ length old

-- a text that a lent buffer holds is no longer than it
pub written : {n : Note} {old new : List ℕ} {m : Marked} → Writes n old new m → length new ≡ length old → m.len ≤ length old
unfolding over
written {n} {old} w same = omega (arith, w.len, ap length w.left, length-append n.text (drop (length n.text) old))

module _ {r : Recorder} {l old : List ℕ} {at : ℕ} {d : Controller} (room : at ≤ length old) (box : d ≡ box_by r.clock.stage r.controller l) where
  -- in the part of a buffer from a place on
  pub notes-part : {sub : List ℕ} (m : Marked) → length sub ≡ length (mid_of at (length old - at) old) → Writes (note_of r l) (mid_of at (length old - at) old) sub m
      → Notes r l old at (with d m.next) (put_mid at (length old - at) old sub) (at + m.len)
  unfolding next_of
  notes-part {sub} m same w =
      let fits : m.len ≤ length old - at = omega (arith, written w same, part_length old at) in
      record {
        next = ap₂ with box w.next;
        left = put-part old at (note_of r l).text sub room (omega (arith, w.len)) w.left;
        place = ap (λ (n : ℕ). at + n) w.len;
        fits = omega arith;
      }

  -- nothing is added
  pub notes-none : {k : Clock} → note_of r l ≡ note k [] → Notes r l old at (with d k) old at
  unfolding next_of
  notes-none e = record {
    next = ap₂ with box (sym (ap (λ (n : Note). n.next) e));
    left = sym (ap (λ (n : Note). sets old at n.text) e);
    place = sym (ap (λ (n : Note). at + length n.text) e ∙ add-zero at);
    fits = room;
  }

-- ---- one step

step_is : (n room : ℕ) (r : Recorder) (i : Intake) (input : List ℕ) {t : Taken} {x : Option (ℕ × ℕ)} → 64 ≤ room → t ≡ lines.next_of i input → t.next ≡ x
    → feed_from (suc n) room r i input ≡ on_next (λ left next. feed_from n left next t.intake input) room r input t.intake x
unfolding feed_from
step_is n room r i input {t} h e f =
    pick-t _ _ _ (le-leb 64 room h)
    ∙ ap (λ (s : Taken). on_next (λ left next. feed_from n left next s.intake input) room r input s.intake s.next) (sym e)
    ∙ ap (on_next (λ left next. feed_from n left next t.intake input) room r input t.intake) f

full_is : (n room : ℕ) (r : Recorder) (i : Intake) (input : List ℕ) → room < 64 → feed_from n room r i input ≡ gave r i []
unfolding feed_from
full_is zero room r i input h = refl
full_is (suc n) room r i input h = pick-f _ _ _ (lt-leb 64 room h)

-- ---- the lines so far

-- what they added stands at the buffer's start, and what is left of the buffer gives the rest of the whole
pub record Feeding (r₀ : Recorder) (i₀ : Intake) (input old new : List ℕ) (r : Recorder) (i : Intake) (len : ℕ) : Type 0 where
  pub fuel : ℕ
  pub enough : length input ≤ i.at + fuel
  pub text : List ℕ
  pub whole : feed_of (length old) r₀ i₀ input ≡ ahead text (feed_from (suc fuel) (length old - len) r i input)
  pub size : len ≡ length text
  pub left : new ≡ sets old 0 text
  pub long : length new ≡ length old
  pub room : len ≤ length old
  pub carries : Carries r

pub feeding-none : {input old : List ℕ} (r : Recorder) (i : Intake) → Carries r → Feeding r i input old old r i 0
unfolding feed_of ahead
feeding-none {input} {old} r i k =
    let all : length old ≡ length old - 0 = omega arith in
    record {
      fuel = length input;
      enough = omega arith;
      text = [];
      whole = ap (λ (n : ℕ). feed_from (suc (length input)) n r i input) all;
      size = refl;
      left = refl;
      long = refl;
      room = omega arith;
      carries = k;
    }

module _ {r₀ : Recorder} {i₀ : Intake} {input old new : List ℕ} {r : Recorder} {i : Intake} {len : ℕ} (w : Feeding r₀ i₀ input old new r i len) where
  pub inside : len ≤ length new
  inside = omega (arith, w.room, w.long)

  -- where nothing more is noted the text so far is all
  ends : (j : Intake) → feed_from (suc w.fuel) (length old - len) r i input ≡ gave r j [] → Feeds r₀ i₀ input old new (record { next = r; intake = j; len = len })
  unfolding ahead
  ends j e =
      let whole = w.whole ∙ ap (ahead w.text) e in
      let text : w.text ≡ (feed_of (length old) r₀ i₀ input).text = sym (ap (λ (g : Gave). g.text) whole ∙ append-nil w.text) in
      record {
        next = sym (ap (λ (g : Gave). g.next) whole);
        intake = sym (ap (λ (g : Gave). g.intake) whole);
        len = w.size ∙ ap length text;
        left = w.left ∙ sets_over old w.text (omega (arith, w.size, w.room)) ∙ ap (λ (t : List ℕ). over t old) text;
        within = w.room;
        carries = w.carries;
      }

  pub feeding-full : length new - len < 64 → Feeds r₀ i₀ input old new (record { next = r; intake = i; len = len })
  feeding-full h = ends i (full_is (suc w.fuel) (length old - len) r i input (omega (arith, w.long)))

  module _ (t : Taken) (e : t ≡ lines.next_of i input) (h : 64 ≤ length new - len) where
    pub feeding-more : t.next ≡ None → Feeds r₀ i₀ input old new (record { next = r; intake = t.intake; len = len })
    unfolding on_next
    feeding-more m = ends t.intake (step_is w.fuel (length old - len) r i input (omega (arith, w.long)) e m)

    -- one line more is noted
    pub feeding-line : {from to : ℕ} {q : Recorder} {now : List ℕ} {at : ℕ} → t.next ≡ Some (from, to) → Notes r (part_of from to input) new len q now at
        → Feeding r₀ i₀ input old now q t.intake at
    unfolding on_next ahead
    feeding-line {from} {to} {q} {now} {at} m n = go w.fuel w.enough w.whole
      where
        l : List ℕ
        l = part_of from to input

        more : List ℕ
        more = (note_of r l).text

        left : now ≡ sets old 0 (w.text ++ more)
        left = n.left ∙ ap₂ (λ (o : List ℕ) (k : ℕ). sets o k more) w.left (w.size ∙ sym (zero-add (length w.text))) ∙ sym (sets-append old 0 w.text more)

        go : (fuel : ℕ) → length input ≤ i.at + fuel → feed_of (length old) r₀ i₀ input ≡ ahead w.text (feed_from (suc fuel) (length old - len) r i input) → Feeding r₀ i₀ input old now q t.intake at
        go zero enough whole = let b = line-behind input i t e m in absurd (omega (arith, b.inside, b.ahead))
        go (suc fuel) enough whole =
            let b = line-behind input i t e m in
            let step = step_is (suc fuel) (length old - len) r i input (omega (arith, w.long)) e m in
            let room : length old - len - length more ≡ length old - at = omega (arith, n.place) in
            record {
              fuel = fuel;
              enough = omega (arith, b.inside, b.ahead, b.place);
              text = w.text ++ more;
              whole =
                  whole
                  ∙ ap (ahead w.text) (step ∙ ap₂ (λ (k : ℕ) (s : Recorder). ahead more (feed_from (suc fuel) k s t.intake input)) room (sym n.next))
                  ∙ ap (gave _ _) (sym (append_assoc w.text more _));
              size = omega (arith, n.place, w.size, length-append w.text more);
              left = left;
              long = ap length left ∙ length-sets old 0 (w.text ++ more);
              room = omega (arith, n.fits, w.long);
              carries = subst Carries (sym n.next) (note-carries r l w.carries);
            }

  -- a tick that stands next is noted
  pub feeding-tick : {x : ℤ} {k next : ℕ} (e : sight_of i input ≡ Some (ticked x k next)) → 64 ≤ length new - len → {q : Recorder} {now : List ℕ} {at : ℕ}
      → Notes r (part_of (tick-told i input e).from (tick-told i input e).to input) new len q now at → Feeding r₀ i₀ input old now q (record { at = next; have = i.have; long = false }) at
  feeding-tick e h {q} {now} {at} n =
      let t = tick-told i input e in
      subst (λ (j : Intake). Feeding r₀ i₀ input old now q j at) t.behind (feeding-line (lines.next_of i input) refl h t.line n)
