-- An input that comes in blocks: what is carried from read to read, the line that is handed over next, and that over any blocks the lines are those of the whole input. Assumes nothing.
use Rattle.std.specs.Prelude.{◌≡◌, refl, Bool, true, false, ◌||◌, ltb, Option, Some, None}
use Rattle.std.proofs.Math.Path.{sym, ap, subst}
use Rattle.std.proofs.Common.{◌∙◌, length-append, take-take, take_at, drop-drop}
use mathlib.Core.List.{List, [], ◌∷◌, ◌++◌, append_assoc}
use Prim.Native.Nat.{ℕ, suc, ◌+◌, ◌-◌, ◌≤◌, ◌<◌}
use native.Mathlib.Omega.{arith}
use Rattle.std.proofs.Math.ListN.{length, take, drop, length-take, length-drop, drop_of_length-le}
use Rattle.std.proofs.lemmas.List.{length-replicate}
use Rattle.std.proofs.Math.Seq.{length-take-le}
use borrow.Author.Tests.{ltb-true, ltb-false, lt-ltb}
use Rattle.laws.specs.Pick.{pick, pick-t, pick-f, pick-if, pick_all}
use Rattle.laws.specs.Bools.{or_left, or_right}
use Rattle.laws.specs.Over.{over}
use Rattle.paper.specs.Answer.{same}
use Rattle.text.specs.Scan.{LF}
use Rattle.lines.specs.declared.Intake.{Intake}
use Rattle.lines.specs.declared.Taken.{Taken}
use Rattle.lines.specs.Lines.{lines_from, lines_of, begun_of, too_long, asked, Plain, lines-begun, lines-whole, lines_long}
use Rattle.lines.specs.Places.{plain_length, end_of, part_of, part_held, Carries, plain-taken, plain-within, plain-line, plain-begun}

-- ---- what is carried

-- nothing is held
abbrev pub start_of : Intake
start_of = record { at = 0; have = 0; long = false }

-- the bytes of the buffer that are not done with
unfoldable pub pending : Intake → List ℕ → List ℕ
pending i buffer = drop i.at (take i.have buffer)

-- the lines that are still to come: those of what is pending and of what follows it
unfoldable pub comes : Intake → List ℕ → List ℕ → List (List ℕ)
comes i buffer future = lines_of (begun_of i.long) (pending i buffer ++ future)

-- ---- the next line

-- the line that goes on to `end` is longer than 4,095 bytes
unfoldable pub overlong : Intake → ℕ → Bool
overlong i end = i.long || ltb 4095 (end - i.at)

-- the line to the LF at `end`; one that is too long is handed over as an empty one
unfoldable pub line_to : Intake → ℕ → Taken
line_to i end =
    let from = pick (overlong i end) end i.at in
    record { intake = record { at = end + 1; have = i.have; long = false }; next = Some (from, end) }

-- a begun line is left, or dropped once it is too long
unfoldable pub begun_to : Intake → ℕ → Intake
begun_to i end = pick (overlong i end) (record { at = end; have = i.have; long = true }) i

-- the next whole line of what is pending, or that more has to be read
unfoldable pub next_of : Intake → List ℕ → Taken
next_of i buffer =
    let held = take i.have buffer in
    let end = end_of held i.at in
    pick (ltb end (length held)) (line_to i end) (record { intake = begun_to i end; next = None })

-- ---- the contracts

abbrev pub HoldsNothing : Intake → Type 0
HoldsNothing r = r ≡ start_of

abbrev pub HandsOver : Intake → List ℕ → Taken → Type 0
HandsOver i buffer r = r ≡ next_of i buffer

-- two results that both meet a contract are equal
pub start-determined : {r s : Intake} → HoldsNothing r → HoldsNothing s → r ≡ s
start-determined p q = same p q

pub next-determined : (i : Intake) (buffer : List ℕ) {r s : Taken} → HandsOver i buffer r → HandsOver i buffer s → r ≡ s
next-determined i buffer p q = same p q

-- ---- the law of a step

-- the line that an answer hands over
unfoldable pub handed : List ℕ → Option (ℕ × ℕ) → List (List ℕ)
handed buffer (Some (from, to)) = part_of from to buffer ∷ []
handed buffer None = []

-- a line lies in the buffer and has at most 4,095 bytes, and the next one begins behind it
pub record Behind (i : Intake) (buffer : List ℕ) (from to : ℕ) (next : Intake) : Type 0 where
  pub order : from ≤ to
  pub inside : to < length buffer
  pub short : to - from ≤ 4095
  pub place : next.at ≡ to + 1
  pub ahead : i.at ≤ to
  pub have : next.have ≡ i.have

-- where no line is left, what is pending has no LF and at most 4,095 bytes
pub record Waits (i : Intake) (buffer : List ℕ) : Type 0 where
  pub plain : Plain (pending i buffer)
  pub few : length (pending i buffer) ≤ 4095

-- so a buffer of 4,096 bytes has room for one more
abbrev pub NextStands : Intake → List ℕ → Intake → Option (ℕ × ℕ) → Type 0
NextStands i buffer next (Some (from, to)) = Behind i buffer from to next
NextStands i buffer next None = Waits next buffer

-- what a step hands over and leaves, and that its places are good
pub record Steps (i : Intake) (buffer : List ℕ) (t : Taken) : Type 0 where
  pub comes : (future : List ℕ) → comes i buffer future ≡ handed buffer t.next ++ comes t.intake buffer future
  pub stands : NextStands i buffer t.intake t.next

-- a line is too long by the bytes that have come, or was so already
overlong-is : (i : Intake) (end : ℕ) (l : List ℕ) → length l ≡ end - i.at → overlong i end ≡ too_long (begun_of i.long ++ l)
unfolding overlong too_long begun_of
overlong-is i end l e = go i.long
  where
    go : (b : Bool) → (b || ltb 4095 (end - i.at)) ≡ ltb 4095 (length (begun_of b ++ l))
    go true = sym (lt-ltb 4095 (length (begun_of true ++ l)) (omega (arith, length-append (begun_of true) l, length-replicate {A = ℕ} 4096 0)))
    go false = ap (ltb 4095) (sym e)

overlong-short : (i : Intake) (end : ℕ) → overlong i end ≡ false → (i.long ≡ false) × (end - i.at ≤ 4095)
unfolding overlong
overlong-short i end h = let far = ltb 4095 (end - i.at) in (or_left i.long far h, ltb-false 4095 (end - i.at) (or_right i.long far h))

long-begun : 4095 < length (begun_of true)
unfolding begun_of
long-begun = omega (arith, length-replicate {A = ℕ} 4096 0)

module _ (i : Intake) (buffer : List ℕ) where
  abbrev held : List ℕ
  held = take i.have buffer

  abbrev rest : List ℕ
  rest = drop i.at held

  -- the bytes of the line that goes on
  abbrev line : List ℕ
  line = take (plain_length rest) rest

  abbrev end : ℕ
  end = i.at + plain_length rest

  line-part : end ≤ length held → part_of (pick (overlong i end) end i.at) end buffer ≡ asked (begun_of i.long ++ line)
  unfolding part_of asked begun_of
  line-part h =
      let x = begun_of i.long ++ line in
      let is = overlong-is i end line (omega (arith, length-take-le (plain_length rest) rest (plain-within rest))) in
      pick-if (λ (from : ℕ). take (end - from) (drop from buffer) ≡ pick (too_long x) [] x) (overlong i end)
      (λ e. let none : end - end ≡ 0 = omega arith in ap (λ (n : ℕ). take n (drop end buffer)) none ∙ sym (pick-t (too_long x) [] x (sym is ∙ e)))
      (λ e.
      let run : end - i.at ≡ plain_length rest = omega arith in
      ap (λ (n : ℕ). take n (drop i.at buffer)) run
      ∙ sym (take-take (plain_length rest) (i.have - i.at) (drop i.at buffer) (omega (arith, length-take i.have buffer)))
      ∙ ap (take (plain_length rest)) (sym (part_held i.at i.have buffer))
      ∙ ap (λ (b : Bool). begun_of b ++ line) (sym (overlong-short i end e).0)
      ∙ sym (pick-f (too_long x) [] x (sym is ∙ e)))

  line-comes : end < length held → (future : List ℕ) → comes i buffer future ≡ handed buffer (line_to i end).next ++ comes (line_to i end).intake buffer future
  unfolding comes pending handed line_to begun_of
  line-comes h future =
      let n = plain_length rest in
      let next : i.at + suc n ≡ end + 1 = omega arith in
      ap (λ (l : List ℕ). lines_of (begun_of i.long) (l ++ future)) (plain-line rest (omega (arith, length-drop i.at held)))
      ∙ ap (lines_of (begun_of i.long)) (append_assoc line (LF ∷ drop (suc n) rest) future)
      ∙ lines-whole line (begun_of i.long) (drop (suc n) rest ++ future) (plain-taken rest)
      ∙ ap (λ (l : List ℕ). asked (begun_of i.long ++ line) ∷ lines_of [] (l ++ future)) (drop-drop (suc n) i.at held ∙ ap (λ (k : ℕ). drop k held) next)
      ∙ ap (λ (l : List ℕ). l ∷ lines_of [] (drop (end + 1) held ++ future)) (sym (line-part (omega arith)))

  line-steps : end < length held → Steps i buffer (line_to i end)
  unfolding line_to
  line-steps h = record {
    comes = line-comes h;
    stands = record {
      order = pick_all (λ (from : ℕ). from ≤ end) (overlong i end) (omega arith) (omega arith);
      inside = omega (arith, length-take i.have buffer);
      short = pick-if (λ (from : ℕ). end - from ≤ 4095) (overlong i end) (λ e. omega arith) (λ e. (overlong-short i end e).1);
      place = refl;
      ahead = omega arith;
      have = refl;
    };
  }

  -- a begun line that is too long
  begun-long : length held ≤ end → overlong i end ≡ true → 4095 < length (begun_of i.long ++ rest)
  unfolding too_long
  begun-long h e =
      let size : length rest ≡ end - i.at = omega (arith, length-drop i.at held, plain-within rest) in
      ltb-true 4095 (length (begun_of i.long ++ rest)) (sym (overlong-is i end rest size) ∙ e)

  -- nothing of it is pending once it is dropped
  begun-steps : length held ≤ end → Steps i buffer (record { intake = begun_to i end; next = None })
  unfolding comes pending handed begun_to
  begun-steps h =
      let p = plain-begun rest (omega (arith, length-drop i.at held)) in
      let none = drop_of_length-le held {i = end} h in
      record {
        comes = λ future.
            pick-if (λ (j : Intake). lines_of (begun_of i.long) (rest ++ future) ≡ lines_of (begun_of j.long) (drop j.at (take j.have buffer) ++ future)) (overlong i end)
            (λ e.
            lines-begun rest (begun_of i.long) future p
            ∙ lines_long (begun_of i.long ++ rest) (begun_of true) future (begun-long h e) long-begun
            ∙ ap (λ (l : List ℕ). lines_of (begun_of true) (l ++ future)) (sym none))
            (λ e. refl);
        stands =
            pick-if (λ (j : Intake). Waits j buffer) (overlong i end)
            (λ e. record { plain = subst Plain (sym none) tt; few = omega (arith, ap length none) })
            (λ e. record { plain = p; few = omega (arith, (overlong-short i end e).1, length-drop i.at held) });
      }

  pub next-steps : Steps i buffer (next_of i buffer)
  unfolding next_of end_of
  next-steps =
      pick-if (Steps i buffer) (ltb end (length held))
      (λ e. line-steps (ltb-true end (length held) e))
      (λ e. begun-steps (ltb-false end (length held) e))

-- ---- a whole input, over any blocks

-- all of it is to come before the first read
pub comes-start : (buffer future : List ℕ) → comes start_of buffer future ≡ lines_of [] future
unfolding comes pending begun_of
comes-start buffer future = refl

-- what is pending can be carried to the start
pub carry-pending : (i : Intake) {old new : List ℕ} {r : ℕ} → Carries i.at i.have old new r → take r new ≡ pending i old
unfolding pending over
carry-pending i {old} {r = r} p =
    let part = part_of i.at i.have old in
    ap (take r) p.left ∙ take_at part (drop (length part) old) r (sym p.len) ∙ sym (part_held i.at i.have old)

-- a read only moves bytes from what follows to what is pending
pub comes-read : (i j : Intake) (old new got future : List ℕ) → pending j new ≡ pending i old ++ got → j.long ≡ i.long
    → comes i old (got ++ future) ≡ comes j new future
unfolding comes
comes-read i j old new got future e l =
    ap (lines_of (begun_of i.long)) (sym (append_assoc (pending i old) got future))
    ∙ ap (λ (p : List ℕ). lines_of (begun_of i.long) (p ++ future)) (sym e)
    ∙ ap (λ (b : Bool). lines_of (begun_of b) (pending j new ++ future)) (sym l)

-- where nothing follows, what waits gives no line
pub comes-end : (i : Intake) (buffer : List ℕ) → Waits i buffer → comes i buffer [] ≡ []
unfolding comes lines_of lines_from
comes-end i buffer w = lines-begun (pending i buffer) (begun_of i.long) [] w.plain
