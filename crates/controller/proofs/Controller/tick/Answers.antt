use mathlib.Core.Path.{◌≡◌, refl}
use native.Mathlib.Omega.{arith}
use mir.Facts.{to_z-of_z}
use Rattle.laws.specs.Pick.{so}
use Rattle.scale.specs.Scale.{outside}
use Rattle.controller.proofs.Steps.{step3-outside, tick-refused, tick-clear, tick-fault}
use Rattle.controller.proofs.Controller.tick.Goals as goal

pub returns-then-inputs-gt-INPUTS_MOST : goal.returns-then-inputs-gt-INPUTS_MOST
returns-then-inputs-gt-INPUTS_MOST c =
    tick-refused c.args.self _ c.args.inputs c.requires (omega arith) (record { next = refl; says = refl })

pub returns-in-Some : goal.returns-in-Some
returns-in-Some c =
    tick-fault c.args.self _ c.args.inputs _ c.requires (omega arith) c.in-Some.is (record { next = refl; says = refl })

pub returns-then-is_outside : goal.returns-then-is_outside
returns-then-is_outside c =
    let seen : c.is_outside.result ≡ outside c.args.sample = rw (to_z-of_z c.ranges.sample) at c.is_outside.ensures in
    tick-clear c.args.self _ c.args.inputs c.requires (omega arith) c.in_default.is
    (step3-outside _ _ _ (so seen c.if-is_outside.true) (rw c.kept.ensures at c.faulted.ensures))

pub steps4to8-requires : goal.steps4to8-requires
steps4to8-requires c =
    record { sound = c.requires; clear = c.in_default.is; inside = so c.is_outside.ensures c.if-is_outside.false }

pub returns : goal.returns
returns c =
    tick-clear c.args.self _ c.args.inputs c.requires (omega arith) c.in_default.is (rw (to_z-of_z c.ranges.sample) at c.steps4to8.ensures)
