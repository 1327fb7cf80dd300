use mathlib.Core.Path.{sym, subst}
use Prim.Native.Nat.{◌≤◌}
use lib.ListN.{length}
use Rattle.journal.specs.Line.{text_of}
use Rattle.entry.specs.Store.{Stores}
use Rattle.journal.specs.declared.Line.{Line}
use Rattle.entry.proofs.store_line.Goals as goal

pub store_dose-requires : goal.store_dose-requires
store_dose-requires c = subst (λ (l : Line). length (text_of c.args.form l) ≤ length c.args.out.now) c.in-Dose.is c.requires

pub store_on-requires : goal.store_on-requires
unfolding text_of
store_on-requires c = subst (λ (l : Line). length (text_of c.args.form l) ≤ length c.args.out.now) c.in-On.is c.requires

pub returns-in-Dose : goal.returns-in-Dose
returns-in-Dose c =
    let d = c.store_dose in
    let old = c.args.out.now in
    subst (λ (l : Line). Stores old 0 (text_of c.args.form l) d.new.out d.result) (sym c.in-Dose.is) d.ensures

pub returns-in-On : goal.returns-in-On
unfolding text_of
returns-in-On c =
    let o = c.store_on in
    let old = c.args.out.now in
    subst (λ (l : Line). Stores old 0 (text_of c.args.form l) o.new.out o.result) (sym c.in-On.is) o.ensures
