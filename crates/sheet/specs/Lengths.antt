-- How many bytes the sheet has: 140 hold every report, and 65,537 bytes of a journal tell it. Assumes nothing.
use Rattle.std.specs.Prelude.{◌≡◌, List, [], ◌∷◌, ◌++◌, ℕ, suc, ◌+◌, ◌*◌, ◌≤◌, length, take}
use Rattle.std.proofs.Common.{sym, ap, ◌∙◌, arith, length-append, take_all, length-take-le}
use Rattle.std.proofs.Math.Decide.{dec_lt}
use Rattle.laws.specs.Decimal.{decimal}
use Rattle.laws.specs.DecimalLaws.{decimal-length}
use Rattle.paper.specs.Answer.{Answer, done, refused, fault, told, on_done}
use Rattle.paper.specs.AnswerLaws.{on-done, refused-done, fault-done}
use Rattle.text.specs.Scan.{LF, TAB}
use Rattle.journal.specs.Journal.{journal_of}
use Rattle.journal.specs.JournalLaws.{journal-long}
use Rattle.journal.specs.declared.Line.{Line}
use Rattle.hourly.specs.Accepted.{Accepted, accepted}
use Rattle.weekly.specs.Week.{after_journal}
use Rattle.weekly.specs.Day.{day_of, days_of}
use Rattle.weekly.specs.Counted.{Each}
use Rattle.weekly.specs.Lists.{each-list, list_length}
use Rattle.weekly.specs.Sums.{Modest, day-modest}
use Rattle.weekly.specs.declared.Day.{Day}
use Rattle.sheet.specs.Lines.{letter_of, day_text, days_text}

pub day-length : (d : ℕ) (x : Day) → length (day_text d x) ≡ length (decimal d) + length (decimal x.covered) + length (decimal x.sum) + 5
unfolding day_text
day-length d x =
    omega (
      arith,
      length-append (decimal d) (TAB ∷ letter_of x.kind ∷ TAB ∷ (decimal x.covered ++ TAB ∷ (decimal x.sum ++ LF ∷ []))),
      length-append (decimal x.covered) (TAB ∷ (decimal x.sum ++ LF ∷ [])),
      length-append (decimal x.sum) (LF ∷ []),
    )

-- a line of 1, 2 and 12 digits
days-short : (d : ℕ) (xs : List Day) → d + length xs ≤ 10 → Each Modest xs → length (days_text d xs) ≤ 20 * length xs
unfolding days_text
days-short d [] h m = omega arith
days-short d (x ∷ xs) h m =
    let c = m.0.covered in
    let s = m.0.sum in
    omega (
      arith,
      length-append (day_text d x) (days_text (suc d) xs),
      day-length d x,
      decimal-length 1 d (omega arith) (omega arith),
      decimal-length 2 x.covered (omega arith) (omega arith),
      decimal-length 12 x.sum (omega arith) (omega arith),
      days-short (suc d) xs (omega arith) m.1,
    )

-- seven of them
pub sheet-short : {s : List ℕ} (ls : List Line) (first : ℕ) → Accepted s ls → length (days_text 0 (days_of ls first)) ≤ 140
unfolding days_of
sheet-short ls first a =
    let n = list_length (λ (d : ℕ). day_of ls (first + 24 * d)) 7 in
    omega (
      arith,
      days-short 0 (days_of ls first) (omega (arith, n)) (each-list Modest (λ (d : ℕ). day_of ls (first + 24 * d)) 7 (λ d. day-modest ls (first + 24 * d) a)),
    )

told-done : {A B Q : Type 0} (f : A → B) (a : Answer A) (y : B) → told f a ≡ done y → ((x : A) → f x ≡ y → Q) → Q
unfolding told
told-done f (done x) y e go = go x cc
told-done f (refused n vs) y e go = refused-done e
told-done f (fault n vs) y e go = fault-done e

-- so it is of every sheet that is made
pub made-short : (s : List ℕ) (first : Answer ℕ) (ds : List Day) → after_journal s first days_of ≡ done ds → length (days_text 0 ds) ≤ 140
unfolding after_journal
made-short s first ds e =
    on-done (journal_of s) (λ ls. told (days_of ls) first) ds e
    (λ ls j t. told-done (days_of ls) first ds t (λ h q. omega (arith, ap (λ (x : List Day). length (days_text 0 x)) q, sheet-short ls h (accepted s ls j))))

-- the first 65,537 bytes tell the sheet of a journal of any length
pub seen-enough : {X : Type 0} (s : List ℕ) (first : Answer ℕ) (what : List Line → ℕ → X) → after_journal (take 65537 s) first what ≡ after_journal s first what
unfolding after_journal
seen-enough s first what =
    elim (dec_lt 65536 (length s)) [
      | yes h ↦
          let n : length (take 65537 s) ≡ 65537 = length-take-le 65537 s (omega arith) in
          ap (λ (a : Answer (List Line)). on_done a (λ ls. told (what ls) first)) (journal-long (take 65537 s) (omega arith) ∙ sym (journal-long s h))
      | no h ↦ ap (λ (l : List ℕ). on_done (journal_of l) (λ ls. told (what ls) first)) (take_all 65537 s (omega arith))
    ]
