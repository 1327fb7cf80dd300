-- What the hour program prints (document 01, "Journal and hours"; document 02, W4). Assumes nothing.
use Rattle.std.specs.Prelude.{◌≡◌, refl, Bool, true, false, ◌&&◌, List, [], ◌∷◌, ◌++◌, ℕ, zero, suc, ◌+◌, ◌≤◌, min, ltb, length, get_or, take, drop}
use Rattle.std.proofs.Common.{sym, ap, ◌∙◌, arith, length-append, take_all, length-take-le, ltb-false}
use Rattle.std.proofs.Math.Decide.{dec_lt}
use Rattle.laws.specs.Pick.{pick}
use Rattle.laws.specs.Decimal.{decimal, digits_of, glyph, Parsed, good, bad}
use Rattle.laws.specs.DecimalLaws.{decimal-length}
use Rattle.paper.specs.Answer.{Answer, done, refused, fault, told}
use Rattle.paper.specs.AnswerLaws.{refused-done, told-refused}
use Rattle.paper.specs.Numbers.{R10, R11, R12, R13}
use Rattle.text.specs.Scan.{LF, TAB}
use Rattle.journal.specs.Line.{version_text, versioned, line_of}
use Rattle.journal.specs.Journal.{hour_in, out_of_order, too_far, past_after, no_past, ordered, on_line, read_from, form_of, body_of, journal_of}
use Rattle.journal.specs.JournalLaws.{journal-long}
use Rattle.journal.specs.Says.{names_of}
use Rattle.journal.specs.declared.Form.{Form}
use Rattle.journal.specs.declared.Form.TheVariants.{Old, New}
use Rattle.journal.specs.declared.Line.{Line}
use Rattle.journal.specs.declared.Past.{Past}
use Rattle.journal.specs.declared.Refusal.{Refusal}
use Rattle.hourly.specs.Text.{span_of, rows_of, rows_text, hours_text}
use Rattle.hourly.specs.declared.Products.{Products}
use Rattle.hourly.specs.declared.Products.TheVariants.{All}
use Rattle.hourly.specs.Accepted.{accepted}
use Rattle.hourly.specs.Bounds.{text-short}

abbrev pub letter_r : ℕ
letter_r = 82

-- On a refusal it prints one line only: R, number, line (1 is the first; 0 for R13)
unfoldable pub refusal_text : ℕ → ℕ → List ℕ
refusal_text number line = letter_r ∷ TAB ∷ (decimal number ++ TAB ∷ (decimal line ++ LF ∷ []))

-- the line of a journal's refusal
abbrev pub refusal_of : Refusal → List ℕ
refusal_of r = refusal_text (names_of r).number (names_of r).line

-- every hour from first to last, or that line
unfoldable pub report_from : Products → Answer (List Line) → List ℕ
report_from w (done ls) = hours_text w ls
report_from w (refused n vs) = refusal_text n (get_or vs 0 0)
report_from w (fault n vs) = []

unfoldable pub report_of : Products → List ℕ → List ℕ
report_of w s = report_from w (journal_of s)

pub cases :
    (report_from All (refused R11 (2 ∷ [])) ≡ 82 ∷ 9 ∷ 49 ∷ 49 ∷ 9 ∷ 50 ∷ 10 ∷ [])
    × (report_from All (refused R13 []) ≡ 82 ∷ 9 ∷ 49 ∷ 51 ∷ 9 ∷ 48 ∷ 10 ∷ [])
unfolding report_from refusal_text decimal digits_of glyph pick
cases = (refl, refl)

-- An empty journal prints nothing, and neither does one of the V line alone
pub empty-report : (w : Products) → (report_of w [] ≡ []) × (report_of w version_text ≡ [])
unfolding report_of report_from journal_of version_text form_of versioned body_of read_from hours_text rows_of span_of rows_text pick
empty-report w = (refl, refl)

-- ---- its length

-- a journal's refusal is one of R10 to R13, and names a line
pub record Cites (n k : ℕ) (vs : List ℕ) : Type 0 where
  pub least : R10 ≤ k
  pub number : k ≤ R13
  pub line : get_or vs 0 0 ≤ n

named : (m r : ℕ) (ws : List ℕ) (k : ℕ) (vs : List ℕ) → R10 ≤ r → r ≤ R13 → get_or ws 0 0 ≤ m → ◌≡◌ {A = Answer (List Line)} (refused r ws) (refused k vs) → Cites m k vs
named m r ws k vs o h l e =
    let p : r ≡ k = cc in
    let q : ws ≡ vs = cc in
    record { least = omega arith; number = omega arith; line = omega (arith, ap (λ (x : List ℕ). get_or x 0 0) q) }

read_named : (f : Form) (b : ℕ) (p : Past) (n : ℕ) (s : List ℕ) (k : ℕ) (vs : List ℕ) → read_from f b p n s ≡ refused k vs → Cites (n + b) k vs
unfolding read_from on_line ordered pick
read_named f zero p n s k vs e = refused-done (sym e)
read_named f (suc b) p n [] k vs e = refused-done (sym e)
read_named f (suc b) p n (x ∷ xs) k vs e = go (line_of f (x ∷ xs)) (λ l rest. read_named f b (past_after p l) (suc n) rest k vs) e
  where
    judged : (l : Line) (u v : Bool) (a : Answer (List Line)) → (a ≡ refused k vs → Cites (suc n + b) k vs)
        → pick u (refused R11 (n ∷ [])) (pick v (refused R12 (n ∷ [])) (told (λ (ls : List Line). l ∷ ls) a)) ≡ refused k vs → Cites (n + suc b) k vs
    judged l true v a rest e = named (n + suc b) R11 (n ∷ []) k vs (omega arith) (omega arith) (omega arith) e
    judged l false true a rest e = named (n + suc b) R12 (n ∷ []) k vs (omega arith) (omega arith) (omega arith) e
    judged l false false a rest e = let r = rest (told-refused (λ (ls : List Line). l ∷ ls) a k vs e) in record { least = r.least; number = r.number; line = omega (arith, r.line) }

    go : (r : Parsed Line) → ((l : Line) (rest : List ℕ) → read_from f b (past_after p l) (suc n) rest ≡ refused k vs → Cites (suc n + b) k vs)
        → on_line n r (λ l rest. ordered p l n (told (λ (ls : List Line). l ∷ ls) (read_from f b (past_after p l) (suc n) rest))) ≡ refused k vs → Cites (n + suc b) k vs
    go (good l rest) behind e =
        judged l (p.begun && out_of_order p.last p.closed (hour_in l)) (p.begun && too_far p.first (hour_in l)) (read_from f b (past_after p l) (suc n) rest)
        (behind l rest) e
    go bad behind e = named (n + suc b) R10 (n ∷ []) k vs (omega arith) (omega arith) (omega arith) e

body-named : (f : Form) (s : List ℕ) (k : ℕ) (vs : List ℕ) → body_of f s ≡ refused k vs → Cites (2 + length s) k vs
unfolding body_of
body-named Old s k vs e = let r = read_named Old (length s) no_past 1 s k vs e in record { least = r.least; number = r.number; line = omega (arith, r.line) }
body-named New s k vs e = read_named New (length s) no_past 2 (drop 4 s) k vs e

pub refusal-length : (number line : ℕ) → length (refusal_text number line) ≡ length (decimal number) + length (decimal line) + 4
unfolding refusal_text
refusal-length number line = omega (arith, length-append (decimal number) (TAB ∷ (decimal line ++ LF ∷ [])), length-append (decimal line) (LF ∷ []))

refusal-short : (number line : ℕ) → number ≤ 13 → line ≤ 65538 → length (refusal_text number line) ≤ 33480
refusal-short number line h l = omega (arith, refusal-length number line, decimal-length 2 number (omega arith) (omega arith), decimal-length 5 line (omega arith) (omega arith))

pub journal-named : (s : List ℕ) (k : ℕ) (vs : List ℕ) → journal_of s ≡ refused k vs → Cites 65538 k vs
unfolding journal_of pick
journal-named s k vs e = go (ltb 65536 (length s)) refl e
  where
    go : (b : Bool) → ltb 65536 (length s) ≡ b → pick b (refused R13 []) (body_of (form_of s) s) ≡ refused k vs → Cites 65538 k vs
    go true p e = named 65538 R13 [] k vs (omega arith) (omega arith) (omega arith) e
    go false p e = let r = body-named (form_of s) s k vs e in record { least = r.least; number = r.number; line = omega (arith, r.line, ltb-false 65536 (length s) p) }

-- 33,480 bytes hold every report
pub report-short : (w : Products) (s : List ℕ) → length (report_of w s) ≤ 33480
unfolding report_of report_from
report-short w s = go (journal_of s) refl
  where
    go : (a : Answer (List Line)) → journal_of s ≡ a → length (report_from w a) ≤ 33480
    go (done ls) p = text-short w ls (accepted s ls p)
    go (refused k vs) p = let r = journal-named s k vs p in refusal-short k (get_or vs 0 0) r.number r.line
    go (fault k vs) p = omega arith

-- ---- how much of a journal has to be seen

-- the first 65,537 bytes tell the report of a journal of any length
pub seen-enough : (w : Products) (s : List ℕ) → report_of w (take 65537 s) ≡ report_of w s
unfolding report_of
seen-enough w s =
    elim (dec_lt 65536 (length s)) [
      | yes h ↦
          let n : length (take 65537 s) ≡ 65537 = length-take-le 65537 s (omega arith) in
          ap (report_from w) (journal-long (take 65537 s) (omega arith) ∙ sym (journal-long s h))
      | no h ↦ ap (λ (l : List ℕ). report_from w (journal_of l)) (take_all 65537 s (omega arith))
    ]

-- no more bytes are looked at than were asked for
pub seen-is : (bytes : List ℕ) (n k : ℕ) → length bytes ≡ 65537 → k ≡ min n 65537 → take k bytes ≡ take n bytes
seen-is bytes n k size e =
    elim (dec_lt n 65537) [
      | yes h ↦ let f : k ≡ n = omega arith in ap (λ (j : ℕ). take j bytes) f
      | no h ↦ take_all k bytes (omega arith) ∙ sym (take_all n bytes (omega arith))
    ]
