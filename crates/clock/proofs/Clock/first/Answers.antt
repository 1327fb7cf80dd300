use mathlib.Core.Path.{refl, ap}
use mathlib.Core.List.{List}
use Prim.Native.Nat.{ℕ}
use lib.ListN.{drop_of_length-le}
use lib.Seq.{drop-cons}
use Rattle.laws.specs.Decimal.{good}
use Rattle.clock.specs.Clock.{with_stage, with_hour, first_of}
use Rattle.clock.proofs.Writing.{does-none, opens, version-writes}
use Rattle.clock.proofs.Clock.first.Goals as goal

pub returns-then-out-lt-ENOUGH : goal.returns-then-out-lt-ENOUGH
returns-then-out-lt-ENOUGH c = does-none c.args.self c.requires c.if-out-lt-ENOUGH.true

pub returns-in_default : goal.returns-in_default
unfolding first_of
returns-in_default c = opens _ _ c.requires c.if-out-lt-ENOUGH.false c.number_at.ensures c.in_default.is refl c.refuse.ensures

-- something follows the hour
pub returns-then-end-line : goal.returns-then-end-line
unfolding first_of
returns-then-end-line c =
    let a = c.args in
    let num = c.in-Some in
    opens a.self a.line.now c.requires c.if-out-lt-ENOUGH.false c.number_at.ensures num.is
    (ap (λ (l : List ℕ). first_of a.self (good num.hour l)) (drop-cons a.line.now num.end 0 c.if-end-line.true)) c.refuse-then-end-line.ensures

-- or nothing does
pub returns : goal.returns
unfolding first_of with_stage with_hour
returns c =
    let a = c.args in
    let num = c.in-Some in
    let room = c.if-out-lt-ENOUGH.false in
    opens a.self a.line.now c.requires room c.number_at.ensures num.is
    (ap (λ (l : List ℕ). first_of a.self (good num.hour l)) (drop_of_length-le a.line.now {i = num.end} c.if-end-line.false))
    (version-writes c.write_version.result room c.size_of-len.ensures c.write_version.ensures)
