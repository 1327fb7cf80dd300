use mathlib.Core.Path.{sym, ap, subst}
use Prim.Native.Nat.{◌+◌, ◌^◌, ◌<◌}
use Rattle.hourly.specs.Says.{says_hour}
use Rattle.hourly.specs.declared.Hour.{Hour}
use Rattle.weekly.specs.Counted.{sum_in, Whole, with_hour}
use Rattle.weekly.proofs.with_hour.Goals as goal
use Rattle.weekly.proofs.with_hour.Goals.{Start}

pub float_to_int-result : goal.float_to_int-result
float_to_int-result c = (subst (λ (h : Hour). Whole (says_hour h)) c.in-Measured.is c.requires.whole).0

pub overflow_add-result : goal.overflow_add-result
overflow_add-result c =
    let a = (goal.at.overflow_add-result c).Start in
    record { fits = subst (λ (h : Hour). a.args.seen.sum + sum_in (says_hour h) < 2 ^ 64) c.in-Measured.is a.requires.sum }

pub returns-in-Measured : goal.returns-in-Measured
unfolding with_hour
returns-in-Measured c = ap (λ (h : Hour). with_hour c.args.seen (says_hour h)) (sym c.in-Measured.is)

pub returns-in-Idle : goal.returns-in-Idle
unfolding with_hour
returns-in-Idle c = ap (λ (h : Hour). with_hour c.args.seen (says_hour h)) (sym c.in-Idle.is)

pub returns-in-Missing : goal.returns-in-Missing
unfolding with_hour
returns-in-Missing c = ap (λ (h : Hour). with_hour c.args.seen (says_hour h)) (sym c.in-Missing.is)
