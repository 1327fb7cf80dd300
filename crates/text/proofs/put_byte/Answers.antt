use native.Mathlib.Omega.{arith}
use mathlib.Core.Path.{refl}
use mathlib.Core.List.{[], ◌∷◌}
use Rattle.text.specs.PutLaws.{room-is, room-not, fit-puts, none-puts}
use Rattle.text.proofs.put_byte.Goals as goal

pub returns-then-at-out : goal.returns-then-at-out
returns-then-at-out c =
    let a = c.args in
    fit-puts (room-is a.out.now a.at (a.b ∷ []) (omega (arith, c.if-at-out.true))) refl refl

pub returns : goal.returns
returns c =
    let a = c.args in
    none-puts a.out.now a.at (a.b ∷ []) (room-not a.out.now a.at (a.b ∷ []) (omega (arith, c.if-at-out.false)))
