-- The journal as document 01 alone has it, before W4: its definitions unchanged, with lines that have no product. Nothing reads by them; a journal without a V line is read as they read it (Since). Assumes nothing.
use Rattle.std.specs.Prelude.{Bool, true, false, ◌&&◌, List, [], ◌∷◌, ℕ, zero, suc, eqb, ltb, length, get_or}
use Rattle.laws.specs.Pick.{pick}
use Rattle.laws.specs.Decimal.{Parsed, good, bad}
use Rattle.paper.specs.Answer.{Answer, done, refused, told}
use Rattle.paper.specs.Numbers.{R10, R11, R12, R13}
use Rattle.text.specs.Scan.{on_good}
use Rattle.journal.specs.Line.{letter_d, letter_h, fields_at}
use Rattle.journal.specs.Journal.{out_of_order, too_far, no_past}
use Rattle.journal.specs.declared.Past.{Past}

-- `D` hour, count, amount, settled. `H` hour
pub data Line : Type 0 where
  Dose : ℕ → ℕ → ℕ → ℕ → Line
  On : ℕ → Line

-- Hours 0..9,999,999, count 0..999,999, amount 0..1,800,000, settled (0/1): the greatest value of each field of a D line
unfoldable pub most_of_d : List ℕ
most_of_d = 9999999 ∷ 999999 ∷ 1800000 ∷ 1 ∷ []

-- and of an H line
unfoldable pub most_of_h : List ℕ
most_of_h = 9999999 ∷ []

unfoldable pub dose_from : List ℕ → Line
dose_from vs = Dose (get_or vs 0 0) (get_or vs 1 0) (get_or vs 2 0) (get_or vs 3 0)

unfoldable pub on_from : List ℕ → Line
on_from vs = On (get_or vs 0 0)

-- the line at the start of some bytes, and what follows its LF
unfoldable pub line_of : List ℕ → Parsed Line
line_of [] = bad
line_of (b ∷ bs) =
    let d = on_good (fields_at most_of_d [] bs) (λ vs rest. good (dose_from vs) rest) in
    let h = on_good (fields_at most_of_h [] bs) (λ vs rest. good (on_from vs) rest) in
    pick (eqb b letter_d) d (pick (eqb b letter_h) h bad)

unfoldable pub hour_in : Line → ℕ
hour_in (Dose h c a s) = h
hour_in (On h) = h

-- an H closes its hour
unfoldable pub closes : Line → Bool
closes (Dose h c a s) = false
closes (On h) = true

-- after one line more
unfoldable pub past_after : Past → Line → Past
past_after p l = record { begun = true; closed = closes l; first = pick p.begun p.first (hour_in l); last = hour_in l }

-- line n against the lines before it: R11, R12, else what follows
unfoldable pub ordered : {X : Type 0} → Past → Line → ℕ → Answer X → Answer X
ordered p l n next =
    pick (p.begun && out_of_order p.last p.closed (hour_in l)) (refused R11 (n ∷ []))
    (pick (p.begun && too_far p.first (hour_in l)) (refused R12 (n ∷ [])) next)

-- R10: line n is malformed, or it is a line and the bytes go on behind it
unfoldable pub on_line : {X : Type 0} → ℕ → Parsed Line → (Line → List ℕ → Answer X) → Answer X
on_line n (good l rest) next = next l rest
on_line n bad next = refused R10 (n ∷ [])

-- the lines from line n on; f bounds their number, and that of the bytes is enough
unfoldable pub read_from : ℕ → Past → ℕ → List ℕ → Answer (List Line)
read_from zero p n l = done []
read_from (suc f) p n [] = done []
read_from (suc f) p n (b ∷ bs) =
    on_line n (line_of (b ∷ bs)) (λ l rest.
    let next = told (λ (ls : List Line). l ∷ ls) (read_from f (past_after p l) (suc n) rest) in
    ordered p l n next)

-- R13: journal over 65,536 bytes; then line by line
unfoldable pub journal_of : List ℕ → Answer (List Line)
journal_of s = let lines = read_from (length s) no_past 1 s in pick (ltb 65536 (length s)) (refused R13 []) lines
