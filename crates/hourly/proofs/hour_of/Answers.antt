use Rattle.std.proofs.lemmas.Result.{err_from_is_err_and}
use mathlib.Core.Path.{refl, ap, sym, ◌∙◌}
use mathlib.Core.List.{List}
use Rattle.paper.specs.Answer.{done, told}
use Rattle.journal.specs.Journal.{journal_of}
use Rattle.journal.specs.declared.Line.{Line}
use Rattle.hourly.specs.Hours.{HourAnswer, ask_of, hour_of}
use Rattle.hourly.specs.Tally.{summary_of}
use Rattle.hourly.specs.TallyLaws.{Found, found_of, counts-tell}
use Rattle.hourly.specs.Refused.{refused-told}
use Rattle.hourly.proofs.Among.{among-hour}
use Rattle.hourly.proofs.hour_of.Goals as goal
use Rattle.hourly.proofs.hour_of.Goals.{In_ok-counted}

-- the journal is accepted
found : (c : In_ok-counted) → Found c.args.bytes.now c.in_ok-counted.counted.found
found c = found_of c.args.bytes.now c.in_ok-counted.counted.found (sym c.in_ok-counted.ensures.judged)

pub returns : goal.returns
unfolding ask_of told
returns c =
    let a = c.args in
    let f = found (goal.at.returns c).In_ok-counted in
    ap (λ (x : HourAnswer). done x) (c.hour_among.ensures ∙ among-hour f (counts-tell f c.in_ok-counted.ensures refl) a.hour) ∙ sym (ap (told (λ (ls : List Line). hour_of a.products ls a.hour)) f.journal)

pub returns-in_err-counted : goal.returns-in_err-counted
unfolding ask_of
returns-in_err-counted c =
    let a = c.args in
    let p = err_from_is_err_and c.from_residual.result c.from_residual.ensures.1 in
    rw (p.1, p.2) (refused-told summary_of (λ (ls : List Line). hour_of a.products ls a.hour) (journal_of a.bytes.now) _ c.in_err-counted.ensures.judged)
