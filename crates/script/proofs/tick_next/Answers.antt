use mathlib.Core.Path.{◌≡◌, sym, ap, ◌∙◌, subst}
use mathlib.Core.List.{List}
use Prim.Native.Nat.{ℕ, ◌<◌, min}
use Rattle.std.specs.Prelude.{Option}
use native.Mathlib.Omega.{arith}
use native.Mathlib.Decide.{dec_lt}
use lib.ListN.{length, take, drop, drop_of_length-le, length-take}
use Rattle.laws.specs.Pick.{pick-t, pick-f}
use Rattle.laws.specs.Decimal.{good}
use Rattle.text.specs.Scan.{expect}
use Rattle.text.specs.ScanLaws.{bad-good}
use Rattle.lines.specs.declared.Intake.{Intake}
use Rattle.lines.specs.Places.{take-least}
use Rattle.calls.specs.Call.{Call}
use Rattle.script.specs.Sight.{tick_line, ReadsTick, sight_of}
use Rattle.script.specs.SightNext.{kept, sight-is}
use Rattle.script.specs.declared.Tick.{Tick}
use Rattle.script.proofs.tick_next.Goals as goal

-- of the first bytes that are held
read_held : (i : Intake) (input : List ℕ) {have : ℕ} (r : Option Tick) → have ≡ min i.have (length input) → ReadsTick (take have input) i.at r → kept i r ≡ sight_of i input
read_held i input r e p =
    sight-is i input r (subst (λ (l : List ℕ). ReadsTick l i.at r) (ap (λ (n : ℕ). take n input) e ∙ take-least i.have input) p)

-- a tick begins with a byte
begins : (s : List ℕ) (at : ℕ) {call : Call} {rest : List ℕ} → tick_line (drop at s) ≡ good call rest → at < length s
unfolding tick_line expect
begins s at e =
    elim (dec_lt at (length s)) [
      | yes l ↦ l
      | no l ↦ bad-good (sym (ap tick_line (drop_of_length-le s {i = at} (omega arith))) ∙ e)
    ]

read_as : {s : List ℕ} {at : ℕ} {r r' : Option Tick} → ReadsTick s at r → r ≡ r' → ReadsTick s at r'
read_as {s} {at} p e = subst (ReadsTick s at) e p

pub overflow_add-intake : goal.overflow_add-intake
overflow_add-intake c =
    let p = read_as c.tick_at.ensures c.in_ok-tick.was in
    let held = take c.min-have.result c.args.input.now in
    omega (arith, begins held c.args.intake.at p.reads, length-take c.min-have.result c.args.input.now, c.well_formed)

pub returns-in_err-tick : goal.returns-in_err-tick
returns-in_err-tick c =
    c.from_residual.ensures ∙ ap (kept c.args.intake) (sym c.in_err-tick.was) ∙ read_held c.args.intake c.args.input.now _ c.min-have.ensures c.tick_at.ensures

pub returns-then-intake-tick : goal.returns-then-intake-tick
returns-then-intake-tick c =
    sym (pick-t _ _ _ c.if-intake-tick.true) ∙ ap (kept c.args.intake) (sym c.in_ok-tick.was) ∙ read_held c.args.intake c.args.input.now _ c.min-have.ensures c.tick_at.ensures

pub returns : goal.returns
returns c =
    sym (pick-f _ _ _ c.if-intake-tick.false) ∙ ap (kept c.args.intake) (sym c.in_ok-tick.was) ∙ read_held c.args.intake c.args.input.now _ c.min-have.ensures c.tick_at.ensures
