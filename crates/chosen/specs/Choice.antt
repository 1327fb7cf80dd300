-- What the product program prints (document 02, W4: "Hours are worked out per product when one is asked for"). Assumes nothing.
use Rattle.std.specs.Prelude.{◌≡◌, refl, List, [], ◌∷◌, ℕ, get_or}
use Rattle.laws.specs.Pick.{pick}
use Rattle.laws.specs.Decimal.{Parsed, good, bad, number_at, digits_from, is_digit, decimal, digits_of, glyph}
use Rattle.paper.specs.Answer.{Answer, done, refused, fault, told, on_done}
use Rattle.paper.specs.Numbers.{R2}
use Rattle.journal.specs.Journal.{journal_of}
use Rattle.hourly.specs.Text.{hours_text}
use Rattle.hourly.specs.declared.Products.TheVariants.{One}
use Rattle.report.specs.Report.{refusal_text}

-- a product above 255 is R2, and so is a malformed one; it names no line
abbrev pub no_product : Answer ℕ
no_product = refused R2 (0 ∷ [])

-- a number by itself
unfoldable pub alone : Parsed ℕ → Answer ℕ
alone (good v []) = done v
alone (good v (b ∷ bs)) = no_product
alone bad = no_product

-- the product alone on a line, its LF left out: decimal without leading zeros, 0..255
unfoldable pub product_line : List ℕ → Answer ℕ
product_line line = alone (number_at 255 line)

-- the journal's own refusals come first, then that of the first line; else every hour of the journal, for that product
unfoldable pub chosen_of : Answer ℕ → List ℕ → Answer (List ℕ)
chosen_of choice s = on_done (journal_of s) (λ ls. told (λ q. hours_text (One q) ls) choice)

-- the text, or the one line of a refusal
unfoldable pub printed : Answer (List ℕ) → List ℕ
printed (done text) = text
printed (refused n vs) = refusal_text n (get_or vs 0 0)
printed (fault n vs) = []

unfoldable pub chosen_report : Answer ℕ → List ℕ → List ℕ
chosen_report choice s = printed (chosen_of choice s)

-- 0, 7 and 255; 256, 07, -1, a blank behind, a blank before, a CR and an empty line
pub cases :
    (product_line (48 ∷ []) ≡ done 0)
    × (product_line (55 ∷ []) ≡ done 7)
    × (product_line (50 ∷ 53 ∷ 53 ∷ []) ≡ done 255)
    × (product_line (50 ∷ 53 ∷ 54 ∷ []) ≡ refused R2 (0 ∷ []))
    × (product_line (48 ∷ 55 ∷ []) ≡ refused R2 (0 ∷ []))
    × (product_line (45 ∷ 49 ∷ []) ≡ refused R2 (0 ∷ []))
    × (product_line (55 ∷ 32 ∷ []) ≡ refused R2 (0 ∷ []))
    × (product_line (32 ∷ 55 ∷ []) ≡ refused R2 (0 ∷ []))
    × (product_line (55 ∷ 13 ∷ []) ≡ refused R2 (0 ∷ []))
    × (product_line [] ≡ refused R2 (0 ∷ []))
unfolding product_line alone number_at digits_from is_digit pick
cases = (refl, refl, refl, refl, refl, refl, refl, refl, refl, refl)

-- R 2 0 as bytes
pub refused-bytes : printed (refused R2 (0 ∷ [])) ≡ 82 ∷ 9 ∷ 50 ∷ 9 ∷ 48 ∷ 10 ∷ []
unfolding printed refusal_text decimal digits_of glyph pick
refused-bytes = refl
