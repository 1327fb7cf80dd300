use mathlib.Core.Path.{◌≡◌, refl, sym, ◌∙◌, subst}
use mathlib.Core.Bool.{false}
use mathlib.Core.List.{List, []}
use Prim.Native.Nat.{ℕ}
use native.Mathlib.Omega.{arith}
use Rattle.std.specs.Prelude.{Some}
use lib.IntN.{ℤ}
use mir.Syntax.{w32}
use mir.Val.{SFits}
use mir.Facts.{to_z-of_z}
use borrow.Author.Rules.{rules}
use Rattle.laws.specs.Decimal.{Parsed}
use Rattle.controller.specs.declared.Controller.{Controller}
use Rattle.controller.specs.declared.Ticked.{Ticked}
use Rattle.controller.specs.Says.{Ticks}
use Rattle.calls.specs.Call.{Call}
use Rattle.calls.specs.Reads.{as_call}
use Rattle.lines.specs.declared.Intake.{Intake}
use Rattle.lines.specs.Intake.{next_of}
use Rattle.lines.specs.Places.{part_of}
use Rattle.script.specs.Sight.{ticked, sight_of}
use Rattle.script.specs.Told.{tick-told, tick-ahead}
use Rattle.acts.specs.Makes.{Made}
use Rattle.acts.specs.Script.{Brings, brings-none, brings-line, made-tick}
use Rattle.runs.proofs.ticks.Goals as goal

-- the lines behind a tick find the controller that it makes
step : (input : List ℕ) (held : Intake) {first c : Controller} {start : Intake} {x y : ℤ} {k next : ℕ} (r : Ticked)
    → Brings first start input c held → sight_of held input ≡ Some (ticked x k next) → y ≡ x → Ticks c y k r → Brings first start input r.next (record { at = next; have = held.have; long = false })
unfolding part_of as_call
step input held {first} {c} {start} {k = k} r g e f h =
    let t = tick-told held input e in
    let m = made-tick {c = c} [] r (subst (λ (z : ℤ). Ticks c z k r) f h) in
    subst (Brings first start input r.next) t.behind
    (brings-line input held (next_of held input) refl g t.line (subst (λ (q : Parsed Call). Made c q r.next) (sym t.call) m))

pub loop-tick-init : goal.loop-tick-init
loop-tick-init c = (brings-none c.requires, omega arith)

pub returns : goal.returns
returns c = record { brings = c.loop-tick.invariant.0; none = sym c.tick_next.ensures ∙ c.in_default.is; less = c.loop-tick.invariant.1 }

pub loop-tick-preserved : goal.loop-tick-preserved
loop-tick-preserved c =
    let inv = c.loop-tick.invariant in
    let sight = sym c.in-Some.ensures in
    let fits : SFits w32 c.in-Some.tick.sample = search rules in
    (step _ _ c.tick-ticked.result inv.0 sight (to_z-of_z fits) c.tick-ticked.ensures, omega (arith, inv.1, tick-ahead _ _ sight))

pub loop-tick-smaller : goal.loop-tick-smaller
loop-tick-smaller c =
    let sight = sym c.in-Some.ensures in
    omega (arith, tick-ahead _ _ sight)
