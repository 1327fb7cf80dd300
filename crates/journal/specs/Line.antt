-- One line (document 01, "Journal and hours", R10, R8; document 02, W4): its text, and what is read at the start of some bytes. Assumes nothing.
use Rattle.std.specs.Prelude.{◌≡◌, refl, Bool, true, false, ◌&&◌, List, [], ◌∷◌, ◌++◌, ℕ, ◌-◌, leb, eqb, length, get_or, drop}
use Rattle.laws.specs.Pick.{pick}
use Rattle.laws.specs.Decimal.{decimal, digits_of, glyph, Parsed, good, bad, number_at, digits_from, is_digit}
use Rattle.paper.specs.Answer.{Answer, done, refused, in_room}
use Rattle.paper.specs.Numbers.{R8, R10}
use Rattle.text.specs.Scan.{TAB, LF, expect, on_good}
use Rattle.journal.specs.declared.Form.{Form}
use Rattle.journal.specs.declared.Form.TheVariants.{Old, New}
use Rattle.journal.specs.declared.Line.{Line}
use Rattle.journal.specs.declared.Line.TheVariants.{Dose, On}

-- D, H and V
abbrev pub letter_d : ℕ
letter_d = 68

abbrev pub letter_h : ℕ
letter_h = 72

abbrev pub letter_v : ℕ
letter_v = 86

-- a line `V`, 2
unfoldable pub version_text : List ℕ
version_text = letter_v ∷ TAB ∷ 50 ∷ LF ∷ []

-- Hours 0..9,999,999, count 0..999,999, amount 0..1,800,000, settled (0/1): the greatest value of each field of a D line; W4: the D line gains the product, 0..255, as a last field
unfoldable pub most_of_d : Form → List ℕ
most_of_d Old = 9999999 ∷ 999999 ∷ 1800000 ∷ 1 ∷ []
most_of_d New = 9999999 ∷ 999999 ∷ 1800000 ∷ 1 ∷ 255 ∷ []

-- and of an H line
unfoldable pub most_of_h : List ℕ
most_of_h = 9999999 ∷ []

-- ---- writing

-- Fields are parted by tabs, each line ends in LF, numbers are decimal without leading zeros
unfoldable pub fields_text : List ℕ → List ℕ
fields_text [] = LF ∷ []
fields_text (v ∷ vs) = TAB ∷ (decimal v ++ fields_text vs)

-- `D` hour, count, amount, settled; in the new form with the product as a last field
unfoldable pub dose_fields : Form → ℕ → ℕ → ℕ → ℕ → ℕ → List ℕ
dose_fields Old h c a s p = h ∷ c ∷ a ∷ s ∷ []
dose_fields New h c a s p = h ∷ c ∷ a ∷ s ∷ p ∷ []

-- `D` and its fields. `H` hour
unfoldable pub text_of : Form → Line → List ℕ
text_of f (Dose h c a s p) = letter_d ∷ fields_text (dose_fields f h c a s p)
text_of f (On h) = letter_h ∷ fields_text (h ∷ [])

-- each value is at most its field's greatest
unfoldable pub within : List ℕ → List ℕ → Bool
within [] [] = true
within [] (m ∷ ms) = false
within (v ∷ vs) [] = false
within (v ∷ vs) (m ∷ ms) = leb v m && within vs ms

-- an old line has no product but 0
unfoldable pub product_most : Form → ℕ
product_most Old = 0
product_most New = 255

unfoldable pub in_range : Form → Line → Bool
in_range f (Dose h c a s p) = within (h ∷ c ∷ a ∷ s ∷ []) (most_of_d Old) && leb p (product_most f)
in_range f (On h) = within (h ∷ []) most_of_h

-- R10 with line 0, then R8
unfoldable pub write_of : Form → Line → ℕ → Answer (List ℕ)
write_of f l room = pick (in_range f l) (in_room [] room (text_of f l)) (refused R10 (0 ∷ []))

-- the V line has nothing that could be out of range
unfoldable pub write_version_of : ℕ → Answer (List ℕ)
write_version_of room = in_room [] room version_text

-- ---- reading

-- a tab and a number for each greatest value, then LF; `got` holds the values so far
unfoldable pub fields_at : List ℕ → List ℕ → List ℕ → Parsed (List ℕ)
fields_at [] got l = expect LF l (λ rest. good got rest)
fields_at (m ∷ ms) got l = expect TAB l (λ rest. on_good (number_at m rest) (λ v rest'. fields_at ms (got ++ v ∷ []) rest'))

-- an old dose is read with product 0
unfoldable pub dose_from : Form → List ℕ → Line
dose_from Old vs = Dose (get_or vs 0 0) (get_or vs 1 0) (get_or vs 2 0) (get_or vs 3 0) 0
dose_from New vs = Dose (get_or vs 0 0) (get_or vs 1 0) (get_or vs 2 0) (get_or vs 3 0) (get_or vs 4 0)

unfoldable pub on_from : List ℕ → Line
on_from vs = On (get_or vs 0 0)

-- the line with an hour at the start of some bytes, and what follows its LF
unfoldable pub line_of : Form → List ℕ → Parsed Line
line_of f [] = bad
line_of f (b ∷ bs) =
    let d = on_good (fields_at (most_of_d f) [] bs) (λ vs rest. good (dose_from f vs) rest) in
    let h = on_good (fields_at most_of_h [] bs) (λ vs rest. good (on_from vs) rest) in
    pick (eqb b letter_d) d (pick (eqb b letter_h) h bad)

-- some bytes begin with the V line
unfoldable pub versioned : List ℕ → Bool
versioned s = eqb (get_or s 0 0) letter_v && (eqb (get_or s 1 0) TAB && (eqb (get_or s 2 0) 50 && eqb (get_or s 3 0) LF))

-- and are nothing else
unfoldable pub is_version : List ℕ → Bool
is_version s = eqb (length s) 4 && versioned s

-- a line by itself: the V line, which has no hour, or one that has an hour
pub data Single : Type 0 where
  version : Single
  dated : Line → Single

-- its LF included: R10 with line 1 where it is none or something follows it
unfoldable pub whole : Parsed Line → Answer Single
whole (good l []) = done (dated l)
whole (good l (b ∷ bs)) = refused R10 (1 ∷ [])
whole bad = refused R10 (1 ∷ [])

-- the V line is one of the new form
unfoldable pub one_line : Form → List ℕ → Answer Single
one_line Old s = whole (line_of Old s)
one_line New s = pick (is_version s) (done version) (whole (line_of New s))

-- what stands at a place: a line with an hour and the place after it, or no line
pub data Place : Type 0 where
  holds : Line → ℕ → Place
  no_line : Place

-- by what is read there, of n bytes
unfoldable pub placed : ℕ → Parsed Line → Place
placed n (good l rest) = holds l (n - length rest)
placed n bad = no_line

-- the line at a place of some bytes, and the place after it
unfoldable pub line_at : Form → List ℕ → ℕ → Place
line_at f s at = placed (length s) (line_of f (drop at s))

-- to unfold this is to unfold how a line is written and read
unfoldable pub line_rules : Unit {0}
unfolding line_of on_good expect fields_at most_of_d most_of_h dose_from on_from number_at digits_from is_digit text_of dose_fields fields_text decimal digits_of glyph pick
line_rules = tt

-- a D line and an H line read, and what a sign, a leading zero, a tab too many, a missing LF, a value one above its range and a lower-case letter are
pub cases :
    (one_line Old (68 ∷ 9 ∷ 49 ∷ 48 ∷ 9 ∷ 49 ∷ 9 ∷ 53 ∷ 48 ∷ 48 ∷ 9 ∷ 49 ∷ 10 ∷ []) ≡ done (dated (Dose 10 1 500 1 0)))
    × (one_line Old (72 ∷ 9 ∷ 49 ∷ 51 ∷ 10 ∷ []) ≡ done (dated (On 13)))
    × (text_of Old (Dose 10 1 500 1 0) ≡ 68 ∷ 9 ∷ 49 ∷ 48 ∷ 9 ∷ 49 ∷ 9 ∷ 53 ∷ 48 ∷ 48 ∷ 9 ∷ 49 ∷ 10 ∷ [])
    × (one_line Old (72 ∷ 9 ∷ 45 ∷ 51 ∷ 10 ∷ []) ≡ refused R10 (1 ∷ []))
    × (one_line Old (72 ∷ 9 ∷ 48 ∷ 51 ∷ 10 ∷ []) ≡ refused R10 (1 ∷ []))
    × (one_line Old (72 ∷ 9 ∷ 51 ∷ 9 ∷ 10 ∷ []) ≡ refused R10 (1 ∷ []))
    × (one_line Old (72 ∷ 9 ∷ 51 ∷ []) ≡ refused R10 (1 ∷ []))
    × (one_line Old (72 ∷ 9 ∷ 49 ∷ 48 ∷ 48 ∷ 48 ∷ 48 ∷ 48 ∷ 48 ∷ 48 ∷ 10 ∷ []) ≡ refused R10 (1 ∷ []))
    × (one_line Old (104 ∷ 9 ∷ 51 ∷ 10 ∷ []) ≡ refused R10 (1 ∷ []))
unfolding line_rules one_line whole
cases = (refl, refl, refl, refl, refl, refl, refl, refl, refl)

-- D 10 2 498 1 7 and H 13 in the new form; D 10 2 498 1 without a product there, and with one in the old form; product 255, 256, 07 and one that is missing behind its tab
pub products :
    (one_line New (68 ∷ 9 ∷ 49 ∷ 48 ∷ 9 ∷ 50 ∷ 9 ∷ 52 ∷ 57 ∷ 56 ∷ 9 ∷ 49 ∷ 9 ∷ 55 ∷ 10 ∷ []) ≡ done (dated (Dose 10 2 498 1 7)))
    × (text_of New (Dose 10 2 498 1 7) ≡ 68 ∷ 9 ∷ 49 ∷ 48 ∷ 9 ∷ 50 ∷ 9 ∷ 52 ∷ 57 ∷ 56 ∷ 9 ∷ 49 ∷ 9 ∷ 55 ∷ 10 ∷ [])
    × (one_line New (72 ∷ 9 ∷ 49 ∷ 51 ∷ 10 ∷ []) ≡ done (dated (On 13)))
    × (one_line New (68 ∷ 9 ∷ 49 ∷ 48 ∷ 9 ∷ 50 ∷ 9 ∷ 52 ∷ 57 ∷ 56 ∷ 9 ∷ 49 ∷ 10 ∷ []) ≡ refused R10 (1 ∷ []))
    × (one_line Old (68 ∷ 9 ∷ 49 ∷ 48 ∷ 9 ∷ 50 ∷ 9 ∷ 52 ∷ 57 ∷ 56 ∷ 9 ∷ 49 ∷ 9 ∷ 55 ∷ 10 ∷ []) ≡ refused R10 (1 ∷ []))
    × (one_line New (68 ∷ 9 ∷ 49 ∷ 9 ∷ 50 ∷ 9 ∷ 51 ∷ 9 ∷ 49 ∷ 9 ∷ 50 ∷ 53 ∷ 53 ∷ 10 ∷ []) ≡ done (dated (Dose 1 2 3 1 255)))
    × (one_line New (68 ∷ 9 ∷ 49 ∷ 9 ∷ 50 ∷ 9 ∷ 51 ∷ 9 ∷ 49 ∷ 9 ∷ 50 ∷ 53 ∷ 54 ∷ 10 ∷ []) ≡ refused R10 (1 ∷ []))
    × (one_line New (68 ∷ 9 ∷ 49 ∷ 9 ∷ 50 ∷ 9 ∷ 51 ∷ 9 ∷ 49 ∷ 9 ∷ 48 ∷ 55 ∷ 10 ∷ []) ≡ refused R10 (1 ∷ []))
    × (one_line New (68 ∷ 9 ∷ 49 ∷ 9 ∷ 50 ∷ 9 ∷ 51 ∷ 9 ∷ 49 ∷ 9 ∷ 10 ∷ []) ≡ refused R10 (1 ∷ []))
unfolding line_rules one_line is_version versioned whole
products = (refl, refl, refl, refl, refl, refl, refl, refl, refl)

-- V 2 is a line of the new form and none of the old; V 3, V 02, V 2 without its LF, with a CR or with a byte behind it, V alone and v 2 are no line
pub versions :
    (one_line New (86 ∷ 9 ∷ 50 ∷ 10 ∷ []) ≡ done version)
    × (one_line Old (86 ∷ 9 ∷ 50 ∷ 10 ∷ []) ≡ refused R10 (1 ∷ []))
    × (one_line New (86 ∷ 9 ∷ 51 ∷ 10 ∷ []) ≡ refused R10 (1 ∷ []))
    × (one_line New (86 ∷ 9 ∷ 48 ∷ 50 ∷ 10 ∷ []) ≡ refused R10 (1 ∷ []))
    × (one_line New (86 ∷ 9 ∷ 50 ∷ []) ≡ refused R10 (1 ∷ []))
    × (one_line New (86 ∷ 9 ∷ 50 ∷ 13 ∷ 10 ∷ []) ≡ refused R10 (1 ∷ []))
    × (one_line New (86 ∷ 9 ∷ 50 ∷ 10 ∷ 10 ∷ []) ≡ refused R10 (1 ∷ []))
    × (one_line New (86 ∷ 10 ∷ []) ≡ refused R10 (1 ∷ []))
    × (one_line New (118 ∷ 9 ∷ 50 ∷ 10 ∷ []) ≡ refused R10 (1 ∷ []))
unfolding one_line is_version versioned whole line_of pick
versions = (refl, refl, refl, refl, refl, refl, refl, refl, refl)

-- the greatest values of a D line and of an H line, and each one above; on writing R10 names line 0 and stands before R8
pub greatest-values :
    (in_range Old (Dose 9999999 999999 1800000 1 0) ≡ true)
    × (in_range New (Dose 9999999 999999 1800000 1 255) ≡ true)
    × (in_range Old (Dose 10000000 0 0 0 0) ≡ false)
    × (in_range Old (Dose 0 1000000 0 0 0) ≡ false)
    × (in_range Old (Dose 0 0 1800001 0 0) ≡ false)
    × (in_range Old (Dose 0 0 0 2 0) ≡ false)
    × (in_range Old (Dose 0 0 0 0 1) ≡ false)
    × (in_range New (Dose 0 0 0 0 256) ≡ false)
    × (in_range New (Dose 0 0 0 2 0) ≡ false)
    × (in_range Old (On 9999999) ≡ true)
    × (in_range New (On 10000000) ≡ false)
    × (write_of Old (On 10000000) 0 ≡ refused R10 (0 ∷ []))
    × (write_of Old (On 13) 4 ≡ refused R8 [])
    × (write_of New (On 13) 5 ≡ done (72 ∷ 9 ∷ 49 ∷ 51 ∷ 10 ∷ []))
    × (write_version_of 3 ≡ refused R8 [])
    × (write_version_of 4 ≡ done (86 ∷ 9 ∷ 50 ∷ 10 ∷ []))
unfolding line_rules write_of write_version_of version_text in_room in_range product_most within
greatest-values = (refl, refl, refl, refl, refl, refl, refl, refl, refl, refl, refl, refl, refl, refl, refl, refl)
