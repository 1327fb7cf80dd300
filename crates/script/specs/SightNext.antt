-- What is read at the place of the next line is that line's tick. Assumes nothing.
use Rattle.std.specs.Prelude.{◌≡◌, Bool, ◌||◌, Option, Some, None, ℕ, suc, ◌+◌, ◌-◌, ◌≤◌, ◌<◌, ℤ}
use Rattle.std.proofs.Math.Path.{refl, sym, ap, ap₂}
use Rattle.std.proofs.Common.{◌∙◌, take-take}
use mathlib.Core.List.{List}
use native.Mathlib.Omega.{arith}
use Rattle.std.proofs.Math.Decide.{dec_lt}
use Rattle.std.proofs.Math.Dec.{ltb}
use Rattle.std.proofs.Math.ListN.{length, take, drop, length-take, length-drop}
use borrow.Author.Tests.{lt-ltb, le-ltb}
use Rattle.laws.specs.Pick.{pick, pick-t, pick-f, pick-if, pick_same}
use Rattle.text.specs.ScanLaws.{bad-good}
use Rattle.lines.specs.declared.Intake.{Intake}
use Rattle.lines.specs.declared.Taken.{Taken}
use Rattle.lines.specs.Places.{plain_length, end_of, part_of, part_held, plain-taken, plain-line, plain-begun}
use Rattle.lines.specs.Intake.{overlong, line_to, next_of}
use Rattle.calls.specs.Call.{call_of}
use Rattle.script.specs.Sight.{Seen, seen, unseen, only_tick, ticked, placed, handed_tick, sight_of, tick_line, leads_tick, tick_end, ReadsTick}
use Rattle.script.specs.SightLaws.{ahead, line-whole, line-begun}
use Rattle.script.specs.declared.Tick.{Tick}

-- a tick whose line is not too long
abbrev pub kept : Intake → Option Tick → Option Tick
kept i (Some t) = pick (i.long || ltb (i.at + 4096) t.next) None (Some t)
kept i None = None

module _ (i : Intake) (input : List ℕ) where
  abbrev held : List ℕ
  held = take i.have input

  abbrev rest : List ℕ
  rest = drop i.at held

  abbrev end : ℕ
  end = i.at + plain_length rest

  -- the line that goes on, and what follows its LF
  abbrev line : List ℕ
  line = take (plain_length rest) rest

  abbrev more : List ℕ
  more = drop (suc (plain_length rest)) rest

  module _ (h : end < length held) where
    read_as : (r : Option Tick) → ReadsTick held i.at r → ahead more (only_tick (call_of line)) ≡ leads_tick held r
    read_as r p = sym (line-whole more line (plain-taken rest)) ∙ ap tick_line (sym (plain-line rest (omega (arith, length-drop i.at held)))) ∙ p.reads

    placed-as : (s : Seen) (r : Option Tick) → ahead more s ≡ leads_tick held r → tick_end r ≤ length held → r ≡ placed (end + 1) s
    unfolding placed
    placed-as (seen x k) (Some t) e q =
        let a : t.sample ≡ x = cc in
        let b : t.inputs ≡ k = cc in
        let d : more ≡ drop t.next held = cc in
        let c : t.next ≡ end + 1 = omega (arith, ap length d, length-drop (suc (plain_length rest)) rest, length-drop i.at held, length-drop t.next held) in
        ap (λ (y : ℤ). Some (ticked y t.inputs t.next)) a ∙ ap₂ (λ (j n : ℕ). Some (ticked x j n)) b c
    placed-as (seen x k) None e q = bad-good (sym e)
    placed-as unseen (Some t) e q = bad-good e
    placed-as unseen None e q = refl

    line-is : part_of i.at end input ≡ line
    unfolding part_of
    line-is =
        let run : end - i.at ≡ plain_length rest = omega arith in
        ap (λ (n : ℕ). take n (drop i.at input)) run
        ∙ sym (take-take (plain_length rest) (i.have - i.at) (drop i.at input) (omega (arith, length-take i.have input)))
        ∙ ap (take (plain_length rest)) (sym (part_held i.at i.have input))

    empty-is : None ≡ placed (end + 1) (only_tick (call_of (part_of end end input)))
    unfolding part_of call_of only_tick placed
    empty-is = let none : end - end ≡ 0 = omega arith in sym (ap (λ (n : ℕ). placed (end + 1) (only_tick (call_of (take n (drop end input))))) none)

    -- the line that is handed over: an empty one where it is too long
    handed-is : pick (overlong i end) None (placed (end + 1) (only_tick (call_of line))) ≡ sight_of i input
    unfolding sight_of next_of end_of line_to handed_tick
    handed-is =
        pick-if (λ (from : ℕ). pick (overlong i end) None (placed (end + 1) (only_tick (call_of line))) ≡ placed (end + 1) (only_tick (call_of (part_of from end input)))) (overlong i end)
        (λ t. pick-t _ _ _ t ∙ empty-is)
        (λ t. pick-f _ _ _ t ∙ ap (λ (l : List ℕ). placed (end + 1) (only_tick (call_of l))) (sym line-is))
        ∙ sym (ap (λ (t : Taken). handed_tick input t.intake.at t.next) (pick-t _ _ _ (lt-ltb _ _ h)))

  -- too long by the place after the LF
  over-is : (i.long || ltb (i.at + 4096) (end + 1)) ≡ overlong i end
  unfolding overlong
  over-is = ap (λ (t : Bool). i.long || t) (by (dec_lt 4095 (end - i.at)))
    where
      by : Dec (4095 < end - i.at) → ltb (i.at + 4096) (end + 1) ≡ ltb 4095 (end - i.at)
      by (yes l) = lt-ltb (i.at + 4096) (end + 1) (omega arith) ∙ sym (lt-ltb 4095 (end - i.at) l)
      by (no l) = le-ltb (i.at + 4096) (end + 1) (omega arith) ∙ sym (le-ltb 4095 (end - i.at) (omega arith))

  kept-is : (s : Seen) → kept i (placed (end + 1) s) ≡ pick (overlong i end) None (placed (end + 1) s)
  unfolding placed
  kept-is (seen x k) = ap (λ (t : Bool). pick t None (Some (ticked x k (end + 1)))) over-is
  kept-is unseen = sym (pick_same (overlong i end) None)

  sight-whole : end < length held → (r : Option Tick) → ReadsTick held i.at r → kept i r ≡ sight_of i input
  sight-whole h r p =
      let s = only_tick (call_of line) in
      ap (kept i) (placed-as h s r (read_as h r p) p.inside) ∙ kept-is s ∙ handed-is h

  sight-begun : length held ≤ end → (r : Option Tick) → ReadsTick held i.at r → kept i r ≡ sight_of i input
  unfolding sight_of next_of end_of handed_tick
  sight-begun h r p = none r p.reads ∙ sym (ap (λ (t : Taken). handed_tick input t.intake.at t.next) (pick-f _ _ _ (le-ltb _ _ h)))
    where
      none : (r : Option Tick) → tick_line rest ≡ leads_tick held r → kept i r ≡ None
      none (Some t) e = bad-good (sym (line-begun rest (plain-begun rest (omega (arith, length-drop i.at held)))) ∙ e)
      none None e = refl

  pub sight-is : (r : Option Tick) → ReadsTick held i.at r → kept i r ≡ sight_of i input
  sight-is r p =
      elim (dec_lt end (length held)) [
        | yes h ↦ sight-whole h r p
        | no h ↦ sight-begun (omega arith) r p
      ]
