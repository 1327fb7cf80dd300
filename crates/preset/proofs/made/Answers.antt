use mathlib.Core.Path.{◌≡◌, refl, subst}
use Prim.Native.Nat.{ℕ}
use mir.Syntax.{w32}
use mir.Val.{SFits}
use mir.Facts.{to_z-of_z}
use lib.IntN.{ℤ}
use Rattle.calls.specs.declared.Call as read
use Rattle.calls.specs.declared.Call.TheVariants as C
use Rattle.calls.specs.Reads.{Unticked}
use Rattle.laws.specs.Decimal.{Parsed}
use Rattle.calls.specs.Call.{Call}
use Rattle.acts.specs.Makes.{Made}
use Rattle.acts.specs.Hears.{heard-as}
use Rattle.acts.specs.Script.{made-read, made-ticked}
use borrow.Author.Rules.{rules}
use Rattle.preset.proofs.made.Goals as goal

-- every call but a tick
unticked : (call : read.Call) → ((x : ℤ) (i : ℕ) → call ≡ C.Tick x i → ⊥) → Unticked call
unticked (C.Tick x i) h = absurd (h x i refl)
unticked (C.Request n room) h = tt
unticked (C.Modbus n room) h = tt
unticked (C.Order o) h = tt
unticked (C.Item i) h = tt
unticked (C.Bytes u n k) h = tt
unticked C.Unknown h = tt

pub returns-in-Tick : goal.returns-in-Tick
returns-in-Tick c =
    let fits : SFits w32 c.in-Tick.sample = search rules in
    made-read c.read-call.ensures c.requires.room c.requires.line (made-ticked _ c.tick.result c.in-Tick.is (to_z-of_z fits) c.tick.ensures)

pub returns : goal.returns
returns c =
    let read = c.read-call in
    let heard = heard-as _ read.result (unticked read.result c.in_default.not-Tick) read.ensures.within in
    made-read read.ensures c.requires.room c.requires.line (subst (λ (q : Parsed Call). Made c.args.c q c.other.result.next) heard c.other.ensures.made)
