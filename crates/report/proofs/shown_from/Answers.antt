use mathlib.Core.Path.{ap}
use borrow.Author.Rules.{rules}
use Rattle.report.specs.Table.{shown_of, shown_by}
use Rattle.hourly.specs.Hours.{HourAnswer}
use Rattle.report.proofs.Showing.{sum-whole, mean-number}
use Rattle.report.proofs.shown_from.Goals as goal

pub float_to_int-result : goal.float_to_int-result
float_to_int-result c = sum-whole c.args.t _ _ _ c.requires c.in-Measured.ensures

pub float_to_bits-result : goal.float_to_bits-result
float_to_bits-result c = mean-number c.args.t _ _ _ c.requires (search rules) c.in-Measured.ensures

pub returns-in-Measured : goal.returns-in-Measured
unfolding shown_of
returns-in-Measured c = ap (λ (h : HourAnswer). shown_by h c.args.t) c.in-Measured.ensures

pub returns-in-Idle : goal.returns-in-Idle
unfolding shown_of
returns-in-Idle c = ap (λ (h : HourAnswer). shown_by h c.args.t) c.in-Idle.ensures

pub returns-in-Missing : goal.returns-in-Missing
unfolding shown_of
returns-in-Missing c = ap (λ (h : HourAnswer). shown_by h c.args.t) c.in-Missing.ensures
