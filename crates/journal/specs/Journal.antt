-- A whole journal (document 01, "Journal and hours"; document 02, W4): R13, then line by line R10, R11, R12. Assumes nothing.
use Rattle.std.specs.Prelude.{◌≡◌, refl, Bool, true, false, ◌&&◌, List, [], ◌∷◌, ◌++◌, ℕ, zero, suc, ◌+◌, leb, ltb, length, drop}
use Rattle.laws.specs.Pick.{pick}
use Rattle.laws.specs.Decimal.{Parsed, good, bad}
use Rattle.paper.specs.Answer.{Answer, done, refused, told}
use Rattle.paper.specs.Numbers.{R10, R11, R12, R13}
use Rattle.journal.specs.Line.{version_text, versioned, line_of, text_of, line_rules}
use Rattle.journal.specs.declared.Form.{Form}
use Rattle.journal.specs.declared.Form.TheVariants.{Old, New}
use Rattle.journal.specs.declared.Line.{Line}
use Rattle.journal.specs.declared.Line.TheVariants.{Dose, On}
use Rattle.journal.specs.declared.Past.{Past}

unfoldable pub hour_in : Line → ℕ
hour_in (Dose h c a s p) = h
hour_in (On h) = h

-- an H closes its hour
unfoldable pub closes : Line → Bool
closes (Dose h c a s p) = false
closes (On h) = true

-- R11: Hours never go back, and after an H the next line's hour is greater
unfoldable pub out_of_order : ℕ → Bool → ℕ → Bool
out_of_order last closed h = pick closed (leb h last) (ltb h last)

-- R12: a line's hour is 744 or more above the first line's
unfoldable pub too_far : ℕ → ℕ → Bool
too_far first h = leb (first + 744) h

-- before the first line
unfoldable pub no_past : Past
no_past = record { begun = false; closed = false; first = 0; last = 0 }

-- after one line more
unfoldable pub past_after : Past → Line → Past
past_after p l = record { begun = true; closed = closes l; first = pick p.begun p.first (hour_in l); last = hour_in l }

-- line n against the lines before it: R11, R12, else what follows
unfoldable pub ordered : {X : Type 0} → Past → Line → ℕ → Answer X → Answer X
ordered p l n next =
    pick (p.begun && out_of_order p.last p.closed (hour_in l)) (refused R11 (n ∷ []))
    (pick (p.begun && too_far p.first (hour_in l)) (refused R12 (n ∷ [])) next)

-- R10: line n is malformed, or it is a line and the bytes go on behind it
unfoldable pub on_line : {X : Type 0} → ℕ → Parsed Line → (Line → List ℕ → Answer X) → Answer X
on_line n (good l rest) next = next l rest
on_line n bad next = refused R10 (n ∷ [])

-- the lines from line n on, all of one form; b bounds their number, and that of the bytes is enough
unfoldable pub read_from : Form → ℕ → Past → ℕ → List ℕ → Answer (List Line)
read_from f zero p n l = done []
read_from f (suc b) p n [] = done []
read_from f (suc b) p n (x ∷ xs) =
    on_line n (line_of f (x ∷ xs)) (λ l rest.
    let next = told (λ (ls : List Line). l ∷ ls) (read_from f b (past_after p l) (suc n) rest) in
    ordered p l n next)

-- Journals now begin with a line `V`, 2; without it they are read as before with product 0
unfoldable pub form_of : List ℕ → Form
form_of s = pick (versioned s) New Old

-- V is line 1 and has no hour; R11 and R12 start after it: so what stands behind it is read from line 2 on, with no line before
unfoldable pub body_of : Form → List ℕ → Answer (List Line)
body_of Old s = read_from Old (length s) no_past 1 s
body_of New s = read_from New (length s) no_past 2 (drop 4 s)

-- R13: journal over 65,536 bytes; then line by line
unfoldable pub journal_of : List ℕ → Answer (List Line)
journal_of s = let lines = body_of (form_of s) s in pick (ltb 65536 (length s)) (refused R13 []) lines

-- the hours of the first and of the last line, 0 where there is none
unfoldable pub first_hour : List Line → ℕ
first_hour [] = 0
first_hour (l ∷ ls) = hour_in l

unfoldable pub last_hour : List Line → ℕ
last_hour [] = 0
last_hour (l ∷ []) = hour_in l
last_hour (l ∷ m ∷ ls) = last_hour (m ∷ ls)

-- the text of some lines
unfoldable pub lines_text : Form → List Line → List ℕ
lines_text f [] = []
lines_text f (l ∷ ls) = text_of f l ++ lines_text f ls

-- what a journal begins with
unfoldable pub head_text : Form → List ℕ
head_text Old = []
head_text New = version_text

-- the text of a journal of these lines
unfoldable pub journal_text : Form → List Line → List ℕ
journal_text f ls = head_text f ++ lines_text f ls

abbrev pub example : List Line
example = Dose 10 1 500 1 0 ∷ Dose 10 2 498 1 0 ∷ On 10 ∷ On 11 ∷ Dose 12 3 250 0 0 ∷ On 13 ∷ []

-- to unfold this is to unfold how a journal is written and read
unfoldable pub journal_rules : Unit {0}
unfolding line_rules journal_of form_of versioned version_text body_of read_from on_line ordered past_after no_past out_of_order too_far closes hour_in told journal_text head_text lines_text
journal_rules = tt

-- document 01's example; an hour that goes back, an hour again after its H, 743 hours above the first and 744; an earlier R11 before a later R10; an empty line and an empty journal
pub cases :
    (journal_of (journal_text Old example) ≡ done example)
    × (journal_of (journal_text Old (Dose 10 1 5 1 0 ∷ Dose 9 2 5 1 0 ∷ [])) ≡ refused R11 (2 ∷ []))
    × (journal_of (journal_text Old (On 10 ∷ Dose 10 2 5 1 0 ∷ [])) ≡ refused R11 (2 ∷ []))
    × (journal_of (journal_text Old (On 10 ∷ On 753 ∷ [])) ≡ done (On 10 ∷ On 753 ∷ []))
    × (journal_of (journal_text Old (On 10 ∷ On 754 ∷ [])) ≡ refused R12 (2 ∷ []))
    × (journal_of (journal_text Old (On 10 ∷ On 10 ∷ []) ++ 10 ∷ []) ≡ refused R11 (2 ∷ []))
    × (journal_of (journal_text Old (On 10 ∷ []) ++ 10 ∷ []) ≡ refused R10 (2 ∷ []))
    × (journal_of [] ≡ done [])
unfolding journal_rules
cases = (refl, refl, refl, refl, refl, refl, refl, refl)

-- two products of one hour; V alone is a journal with no hours
pub new-cases :
    (journal_of (86 ∷ 9 ∷ 50 ∷ 10 ∷ lines_text New (Dose 10 1 500 1 0 ∷ Dose 10 2 498 1 7 ∷ On 10 ∷ [])) ≡ done (Dose 10 1 500 1 0 ∷ Dose 10 2 498 1 7 ∷ On 10 ∷ []))
    × (journal_of (86 ∷ 9 ∷ 50 ∷ 10 ∷ []) ≡ done [])
unfolding journal_rules
new-cases = (refl, refl)

-- each form refused in the other: a D without a product behind V, one with a product where there is no V; behind good lines too
pub mixed-forms :
    (journal_of (version_text ++ lines_text Old (Dose 10 1 5 1 0 ∷ [])) ≡ refused R10 (2 ∷ []))
    × (journal_of (lines_text New (Dose 10 1 5 1 0 ∷ [])) ≡ refused R10 (1 ∷ []))
    × (journal_of (version_text ++ lines_text New (Dose 10 1 5 1 7 ∷ On 10 ∷ []) ++ lines_text Old (Dose 11 2 5 1 0 ∷ [])) ≡ refused R10 (4 ∷ []))
    × (journal_of (lines_text Old (Dose 10 1 5 1 0 ∷ On 10 ∷ []) ++ lines_text New (Dose 11 2 5 1 0 ∷ [])) ≡ refused R10 (3 ∷ []))
unfolding journal_rules
mixed-forms = (refl, refl, refl, refl)

-- V is line 1 only: a second one, one behind an H, also of an hour that could not follow; V 3, V without its LF, V with a CR and an empty line before V
pub versions-refused :
    (journal_of (version_text ++ version_text) ≡ refused R10 (2 ∷ []))
    × (journal_of (lines_text Old (On 10 ∷ []) ++ version_text) ≡ refused R10 (2 ∷ []))
    × (journal_of (version_text ++ lines_text New (On 10 ∷ []) ++ version_text ++ lines_text New (On 9 ∷ [])) ≡ refused R10 (3 ∷ []))
    × (journal_of (86 ∷ 9 ∷ 51 ∷ 10 ∷ lines_text New (On 10 ∷ [])) ≡ refused R10 (1 ∷ []))
    × (journal_of (86 ∷ 9 ∷ 50 ∷ []) ≡ refused R10 (1 ∷ []))
    × (journal_of (86 ∷ 9 ∷ 50 ∷ 13 ∷ 10 ∷ []) ≡ refused R10 (1 ∷ []))
    × (journal_of (10 ∷ version_text) ≡ refused R10 (1 ∷ []))
unfolding journal_rules
versions-refused = (refl, refl, refl, refl, refl, refl, refl)

-- behind V: R11 and R12 start after it, and their lines count it
pub new-order :
    (journal_of (version_text ++ lines_text New (On 10 ∷ On 753 ∷ [])) ≡ done (On 10 ∷ On 753 ∷ []))
    × (journal_of (version_text ++ lines_text New (On 10 ∷ On 754 ∷ [])) ≡ refused R12 (3 ∷ []))
    × (journal_of (version_text ++ lines_text New (On 9000000 ∷ [])) ≡ done (On 9000000 ∷ []))
    × (journal_of (version_text ++ lines_text New (On 0 ∷ [])) ≡ done (On 0 ∷ []))
    × (journal_of (version_text ++ lines_text New (On 10 ∷ Dose 10 2 5 1 7 ∷ [])) ≡ refused R11 (3 ∷ []))
    × (journal_of (version_text ++ lines_text New (On 10 ∷ Dose 9 2 5 1 7 ∷ []) ++ 10 ∷ []) ≡ refused R11 (3 ∷ []))
unfolding journal_rules
new-order = (refl, refl, refl, refl, refl, refl)
