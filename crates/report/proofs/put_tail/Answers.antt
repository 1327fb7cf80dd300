use mathlib.Core.Path.{sym, subst}
use Prim.Native.Nat.{◌+◌, ◌≤◌}
use lib.ListN.{length}
use Rattle.text.specs.Put.{Puts}
use Rattle.report.specs.Rows.{tail_text}
use Rattle.report.specs.Table.{says_shown}
use Rattle.report.specs.declared.Shown.{Shown}
use Rattle.report.proofs.put_tail.Goals as goal

pub put_measured-requires : goal.put_measured-requires
put_measured-requires c = subst (λ (x : Shown). c.args.at + length (tail_text (says_shown x)) ≤ length c.args.out.now) c.in-Measured.is c.requires

pub put_letter-requires : goal.put_letter-requires
unfolding tail_text
put_letter-requires c = subst (λ (x : Shown). c.args.at + length (tail_text (says_shown x)) ≤ length c.args.out.now) c.in-Idle.is c.requires

pub put_letter-requires-in-Missing : goal.put_letter-requires-in-Missing
unfolding tail_text
put_letter-requires-in-Missing c = subst (λ (x : Shown). c.args.at + length (tail_text (says_shown x)) ≤ length c.args.out.now) c.in-Missing.is c.requires

pub returns-in-Measured : goal.returns-in-Measured
returns-in-Measured c = subst (λ (x : Shown). Puts c.args.out.now c.args.at (tail_text (says_shown x)) c.put_measured.new.out c.put_measured.result) (sym c.in-Measured.is) c.put_measured.ensures

pub returns-in-Idle : goal.returns-in-Idle
unfolding tail_text
returns-in-Idle c = subst (λ (x : Shown). Puts c.args.out.now c.args.at (tail_text (says_shown x)) c.put_letter.new.out c.put_letter.result) (sym c.in-Idle.is) c.put_letter.ensures

pub returns-in-Missing : goal.returns-in-Missing
unfolding tail_text
returns-in-Missing c = subst (λ (x : Shown). Puts c.args.out.now c.args.at (tail_text (says_shown x)) c.put_letter-in-Missing.new.out c.put_letter-in-Missing.result) (sym c.in-Missing.is) c.put_letter-in-Missing.ensures
