-- From the days of a week to the answer of printing them. Assumes nothing.
use Rattle.std.proofs.Common.{◌≡◌, sym, ap, subst, List, [], ℕ, length}
use Rattle.std.specs.Prelude.{Result, Ok, Err}
use Rattle.paper.specs.Answer.{Answer, on_done, in_room, Fills}
use Rattle.paper.specs.AnswerLaws.{fills-refused}
use Rattle.journal.specs.declared.Refusal.TheVariants as J
use Rattle.weekly.specs.Says.{says_error, says_days}
use Rattle.weekly.specs.Promises.{MakesDays}
use Rattle.weekly.specs.declared.WeekError.{WeekError}
use Rattle.weekly.specs.declared.WeekError.TheVariants as E
use Rattle.weekly.specs.declared.Day.{Day}
use Rattle.sheet.specs.Lines.{days_text, print_of}

module _ (s : List ℕ) (first : ℕ) where
  -- what is printed, by what was said of the week
  printed : (r : Result (List Day) WeekError) → MakesDays s first r → (room : ℕ) → print_of s first room ≡ on_done (says_days r) (λ ds. in_room [] room (days_text 0 ds))
  unfolding print_of
  printed r m room = ap (λ (a : Answer (List Day)). on_done a (λ ds. in_room [] room (days_text 0 ds))) (sym m)

  pub made-fills : (ds : List Day) → MakesDays s first (Ok ds) → {answer : Answer ℕ} {old new : List ℕ} → Fills answer (in_room [] (length old) (days_text 0 ds)) old new → Fills answer (print_of s first (length old)) old new
  unfolding on_done
  made-fills ds m {answer} {old} {new} f = subst (λ (rule : Answer (List ℕ)). Fills answer rule old new) (sym (printed (Ok ds) m (length old))) f

  pub refused-fills : (e : WeekError) → MakesDays s first (Err e) → (old : List ℕ) → Fills (says_error e) (print_of s first (length old)) old old
  unfolding on_done
  refused-fills (E.Refused (J.R10 n)) m old = fills-refused (printed (Err (E.Refused (J.R10 n))) m (length old)) old
  refused-fills (E.Refused (J.R11 n)) m old = fills-refused (printed (Err (E.Refused (J.R11 n))) m (length old)) old
  refused-fills (E.Refused (J.R12 n)) m old = fills-refused (printed (Err (E.Refused (J.R12 n))) m (length old)) old
  refused-fills (E.Refused J.R13) m old = fills-refused (printed (Err (E.Refused J.R13)) m (length old)) old
  refused-fills E.R21 m old = fills-refused (printed (Err E.R21) m (length old)) old
