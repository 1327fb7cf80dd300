use mathlib.Core.Path.{refl, ap, sym, ◌∙◌, subst}
use mathlib.Core.List.{List, []}
use Prim.Native.Nat.{ℕ}
use native.Mathlib.Omega.{arith}
use lib.ListN.{length, take}
use Rattle.std.proofs.lemmas.Result.{err_from_is_err_and}
use Rattle.paper.specs.Answer.{Answer, in_room, Fills}
use Rattle.journal.specs.Journal.{journal_of}
use Rattle.journal.specs.declared.Line.{Line}
use Rattle.hourly.specs.Text.{hours_text, print_of}
use Rattle.hourly.specs.Tally.{summary_of}
use Rattle.hourly.specs.TallyLaws.{Found, found_of, counts-tell}
use Rattle.hourly.specs.Refused.{refused-fills}
use Rattle.report.specs.Says.{says_printed}
use Rattle.report.specs.Table.{text_by}
use Rattle.report.proofs.Printing.{Prints, prints, prints-answer, first-last}
use Rattle.report.proofs.print.Goals as goal
use Rattle.report.proofs.print.Goals.{In_ok-counted}

-- the journal is accepted
found : (c : In_ok-counted) → Found c.args.bytes.now c.in_ok-counted.counted.found
found c = found_of c.args.bytes.now c.in_ok-counted.counted.found (sym c.in_ok-counted.ensures.judged)

printed : (c : In_ok-counted) → Prints c.args.products c.args.bytes.now c.in_ok-counted.counted.found c.in_ok-counted.counted.table
printed c = prints _ c.args.bytes.now c.in_ok-counted.counted.found c.in_ok-counted.counted.table (found c) (counts-tell (found c) c.in_ok-counted.ensures refl)

pub hours_in-hours-requires : goal.hours_in-hours-requires
hours_in-hours-requires c = first-last (found (goal.at.hours_in-hours-requires c).In_ok-counted)

pub shared_ref_as_front-print_table : goal.shared_ref_as_front-print_table
shared_ref_as_front-print_table c = omega (arith, c.hours_in-hours.ensures, (printed (goal.at.shared_ref_as_front-print_table c).In_ok-counted).few)

pub print_table-requires : goal.print_table-requires
print_table-requires c = rw c.hours_in-hours.ensures (printed (goal.at.print_table-requires c).In_ok-counted).printable

pub returns : goal.returns
returns c =
    let a = c.args in
    let t = c.in_ok-counted.counted in
    let at' = (goal.at.returns c).In_ok-counted in
    subst (λ (x : Answer (List ℕ)). Fills (says_printed c.print_table.result) x a.out.now c.print_table.new.out)
    (ap (λ (h : ℕ). in_room [] (length a.out.now) (text_by (take h t.table) t.found.first)) c.hours_in-hours.ensures ∙ prints-answer (found at') (printed at') (length a.out.now))
    c.print_table.ensures

pub returns-in_err-counted : goal.returns-in_err-counted
unfolding print_of
returns-in_err-counted c =
    let a = c.args in
    let p = err_from_is_err_and c.from_residual.result c.from_residual.ensures.1 in
    rw (p.1, p.2) (refused-fills summary_of (λ (ls : List Line). in_room [] (length a.out.now) (hours_text a.products ls)) (journal_of a.bytes.now) _ a.out.now c.in_err-counted.ensures.judged)
