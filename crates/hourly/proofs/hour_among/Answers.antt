use mathlib.Core.Path.{refl, sym, ap, ◌∙◌}
use Rattle.std.proofs.Common.{◌-◌, ◌≤◌, length}
use borrow.Author.Tests.{lt-ltb, le-ltb, ltb-true, ltb-false}
use Rattle.std.proofs.lemmas.List.{get_or_past, get_or_read_under}
use Rattle.laws.specs.Pick.{pick, pick-t, pick-f}
use Rattle.hourly.specs.Tally.{outside, hour_among, hour_from}
use Rattle.hourly.proofs.hour_among.Goals as goal

pub returns-then-hour-found : goal.returns-then-hour-found
unfolding hour_among
returns-then-hour-found c = sym (pick-t _ _ _ (lt-ltb _ _ c.if-hour-found.true))

pub returns-then-found-hour : goal.returns-then-found-hour
unfolding hour_among
returns-then-found-hour c = sym (pick-f _ _ _ (le-ltb _ _ c.if-hour-found.false) ∙ pick-t _ _ _ (lt-ltb _ _ c.if-found-hour.true))

pub returns-in-Some : goal.returns-in-Some
unfolding hour_among
returns-in-Some c =
    let look = c.in-Some.ensures.lookup in
    c.hour_from.ensures ∙ ap hour_from (get_or_read_under _ _ _ _ outside look.1 (ltb-true _ _ (sym look.0)) refl)
    ∙ sym (pick-f _ _ _ (le-ltb _ _ c.if-hour-found.false) ∙ pick-f _ _ _ (le-ltb _ _ c.if-found-hour.false))

-- outside the table the hour is missing
pub returns-in-None : goal.returns-in-None
unfolding hour_among hour_from pick
returns-in-None c =
    let past : length c.args.table ≤ c.args.hour - c.args.found.first = ltb-false _ _ (sym c.in-None.ensures.lookup.0) in
    sym (pick-f _ _ _ (le-ltb _ _ c.if-hour-found.false) ∙ pick-f _ _ _ (le-ltb _ _ c.if-found-hour.false)
    ∙ ap hour_from (get_or_past c.args.table _ outside past))
