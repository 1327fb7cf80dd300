use mathlib.Core.Path.{◌≡◌, sym}
use lib.IntN.{◌-ℤ◌}
use mir.Syntax.{w64}
use mir.Val.{to_z, of_z, SFits}
use borrow.Author.Rules.{rules}
use Rattle.dosing.proofs.Laws.{read_as, amount-below, amount-from}
use Rattle.dosing.proofs.not_below_zero.Goals as goal

pub returns-then-d-lt0 : goal.returns-then-d-lt0
returns-then-d-lt0 c =
    let wide : SFits w64 c.difference-d.result = search rules in
    let read : to_z w64 (of_z w64 c.difference-d.result) ≡ c.args.a.v -ℤ c.args.b.v = read_as c.difference-d.ensures wide in
    sym (amount-below (c.args.a.v -ℤ c.args.b.v) (rw read at c.if-d-lt0.true))

pub returns-else-d-lt0 : goal.returns-else-d-lt0
returns-else-d-lt0 c =
    let wide : SFits w64 c.difference-d.result = search rules in
    let read : to_z w64 (of_z w64 c.difference-d.result) ≡ c.args.a.v -ℤ c.args.b.v = read_as c.difference-d.ensures wide in
    rw read (amount-from (c.args.a.v -ℤ c.args.b.v) (rw read at c.if-d-lt0.false))
