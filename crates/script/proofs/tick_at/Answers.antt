use mathlib.Core.Path.{◌≡◌, sym, ap, ◌∙◌, subst}
use mathlib.Core.List.{List}
use Prim.Native.Nat.{ℕ, ◌+◌, ◌<◌}
use native.Mathlib.Omega.{arith}
use lib.IntN.{ℤ}
use lib.ListN.{length, drop}
use mir.Syntax.{w32}
use mir.Val.{SFits}
use mir.Facts.{to_z-of_z}
use Rattle.laws.specs.Decimal.{good}
use Rattle.text.specs.Scan.{LF, expect, on_good}
use Rattle.text.specs.ScanLaws.{byte_inside, expect-hit, expect-miss}
use Rattle.operands.specs.Numbers.{signed_field, Signed, leads_signed, ReadsSigned}
use Rattle.operands.specs.Parsing.{on-good, on-bad, num, field-most}
use Rattle.calls.specs.Call.{tick, tick_at}
use Rattle.script.specs.Sight.{tick_line, ReadsTick}
use Rattle.script.specs.declared.Tick.{Tick}
use Rattle.std.specs.Prelude.{Option, None}
use borrow.Author.Rules.{rules}
use Rattle.script.proofs.tick_at.Goals as goal
use Rattle.script.proofs.tick_at.Goals.{Else-byte_at-ne-LF, Else-byte_at-ne84, In_ok-inputs}

-- what the rule of a signed number reads, by its answer
signed : {s : List ℕ} {at : ℕ} {r r' : Signed} → ReadsSigned s at r → r ≡ r' → signed_field (drop at s) ≡ leads_signed s r'
signed {s} y e = y.reads ∙ ap (leads_signed s) e

passed : {s : List ℕ} {at : ℕ} {r : Option Tick} → r ≡ None → ReadsTick s at None → ReadsTick s at r
passed {s} {at} e p = subst (ReadsTick s at) (sym e) p

-- behind the letter
letter : (c : Else-byte_at-ne84) → tick_line (drop c.args.at c.args.s.now) ≡ on_good (tick_at (drop (c.args.at + 1) c.args.s.now)) (λ call rest. expect LF rest (good call))
unfolding tick_line
letter c = let a = c.args in expect-hit a.s.now a.at 84 _ (omega arith) (sym c.byte_at.ensures ∙ c.if-byte_at-ne84.false)

-- the sample and the inputs
sampled : (c : In_ok-inputs) → tick_at (drop (c.args.at + 1) c.args.s.now) ≡ good (tick c.in_ok-sample.sample c.in_ok-inputs.inputs) (drop c.in_ok-inputs.end c.args.s.now)
unfolding tick_at
sampled c =
    on-good _ (signed c.signed_at.ensures c.in_ok-sample.was)
    ∙ on-good _ (num c.field_at.ensures c.in_ok-inputs.was)

pub returns-then-byte_at-ne84 : goal.returns-then-byte_at-ne84
unfolding tick_line
returns-then-byte_at-ne84 c =
    let a = c.args in
    record { reads = expect-miss a.s.now a.at 84 _ (λ e. c.if-byte_at-ne84.true (c.byte_at.ensures ∙ e)); inside = omega arith }

inside : (c : Else-byte_at-ne84) → c.args.at < length c.args.s.now
inside c = let a = c.args in byte_inside a.s.now a.at (omega (arith, c.byte_at.ensures, c.if-byte_at-ne84.false))

pub overflow_add-at : goal.overflow_add-at
overflow_add-at c = omega (arith, inside (goal.at.overflow_add-at c).Else-byte_at-ne84, c.well_formed)

pub returns-in_err-sample : goal.returns-in_err-sample
unfolding tick_at
returns-in_err-sample c = passed c.from_residual.ensures (record {
  reads = letter (goal.at.returns-in_err-sample c).Else-byte_at-ne84 ∙ on-bad _ (on-bad _ (signed c.signed_at.ensures c.in_err-sample.was));
  inside = omega arith;
})

pub returns-in_err-inputs : goal.returns-in_err-inputs
unfolding tick_at
returns-in_err-inputs c = passed c.from_residual-in_err-inputs.ensures (record {
  reads =
      letter (goal.at.returns-in_err-inputs c).Else-byte_at-ne84
      ∙ on-bad _
      (on-good _ (signed c.signed_at.ensures c.in_ok-sample.was)
      ∙ on-bad _ (num c.field_at.ensures c.in_err-inputs.was));
  inside = omega arith;
})

pub returns-then-byte_at-ne-LF : goal.returns-then-byte_at-ne-LF
returns-then-byte_at-ne-LF c =
    let s = c.args.s.now in
    record {
      reads =
          letter (goal.at.returns-then-byte_at-ne-LF c).Else-byte_at-ne84
          ∙ on-good _ (sampled (goal.at.returns-then-byte_at-ne-LF c).In_ok-inputs)
          ∙ expect-miss s c.in_ok-inputs.end LF _ (λ e. c.if-byte_at-ne-LF.true (c.byte_at-2.ensures ∙ e));
      inside = omega arith;
    }

end-inside : (c : Else-byte_at-ne-LF) → c.in_ok-inputs.end < length c.args.s.now
end-inside c = byte_inside c.args.s.now c.in_ok-inputs.end (omega (arith, c.byte_at-2.ensures, c.if-byte_at-ne-LF.false))

pub overflow_cast-result : goal.overflow_cast-result
overflow_cast-result c = omega (arith, field-most _ _ (num c.field_at.ensures c.in_ok-inputs.was))

pub overflow_add-result : goal.overflow_add-result
overflow_add-result c = omega (arith, end-inside (goal.at.overflow_add-result c).Else-byte_at-ne-LF, c.well_formed)

pub returns : goal.returns
returns c =
    let s = c.args.s.now in
    let fits : SFits w32 c.in_ok-sample.sample = search rules in
    record {
      reads =
          letter (goal.at.returns c).Else-byte_at-ne84
          ∙ on-good _ (sampled (goal.at.returns c).In_ok-inputs)
          ∙ expect-hit s c.in_ok-inputs.end LF _ (omega arith) (sym c.byte_at-2.ensures ∙ c.if-byte_at-ne-LF.false)
          ∙ ap (λ (x : ℤ). good (tick x c.in_ok-inputs.inputs) (drop (c.in_ok-inputs.end + 1) s)) (sym (to_z-of_z fits));
      inside = omega (arith, end-inside (goal.at.returns c).Else-byte_at-ne-LF);
    }
