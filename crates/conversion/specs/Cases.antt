-- The conversion's rules on bytes (document 02, W5). Assumes nothing.
use Rattle.std.specs.Prelude.{◌≡◌, refl, [], ◌∷◌, ◌++◌}
use Rattle.paper.specs.Answer.{done, refused, on_done, in_room}
use Rattle.paper.specs.Numbers.{R8, R10, R11, R12, R18}
use Rattle.journal.specs.Line.{version_text}
use Rattle.journal.specs.Journal.{lines_text, journal_text, example, journal_rules}
use Rattle.journal.specs.declared.Form.TheVariants.{Old, New}
use Rattle.journal.specs.declared.Line.TheVariants.{Dose, On}
use Rattle.conversion.specs.Conversion.{is_form, read_as, product_in, goes_back, handed, renewed_of, restored_of}

-- to unfold this is to unfold the conversion and how a journal is written and read
unfoldable conversion_rules : Unit {0}
unfolding journal_rules renewed_of restored_of read_as is_form product_in goes_back handed on_done in_room
conversion_rules = tt

-- D 10 1 5 1 and H 10, and the same with V 2 and the product 0, there and back; document 01's example
pub cases :
    (renewed_of (68 ∷ 9 ∷ 49 ∷ 48 ∷ 9 ∷ 49 ∷ 9 ∷ 53 ∷ 9 ∷ 49 ∷ 10 ∷ 72 ∷ 9 ∷ 49 ∷ 48 ∷ 10 ∷ []) 22
    ≡ done (86 ∷ 9 ∷ 50 ∷ 10 ∷ 68 ∷ 9 ∷ 49 ∷ 48 ∷ 9 ∷ 49 ∷ 9 ∷ 53 ∷ 9 ∷ 49 ∷ 9 ∷ 48 ∷ 10 ∷ 72 ∷ 9 ∷ 49 ∷ 48 ∷ 10 ∷ []))
    × (restored_of (86 ∷ 9 ∷ 50 ∷ 10 ∷ 68 ∷ 9 ∷ 49 ∷ 48 ∷ 9 ∷ 49 ∷ 9 ∷ 53 ∷ 9 ∷ 49 ∷ 9 ∷ 48 ∷ 10 ∷ 72 ∷ 9 ∷ 49 ∷ 48 ∷ 10 ∷ []) 16
    ≡ done (68 ∷ 9 ∷ 49 ∷ 48 ∷ 9 ∷ 49 ∷ 9 ∷ 53 ∷ 9 ∷ 49 ∷ 10 ∷ 72 ∷ 9 ∷ 49 ∷ 48 ∷ 10 ∷ []))
    × (renewed_of (journal_text Old example) 100 ≡ done (journal_text New example))
    × (restored_of (journal_text New example) 100 ≡ done (journal_text Old example))
unfolding conversion_rules
cases = (refl, refl, refl, refl)

-- the empty journal is old: new it is the V line alone, and back from new it is R10 at line 1; the V line alone goes back to nothing; each form refused where the other is asked for, also with nothing but an H behind it
pub forms :
    (renewed_of [] 4 ≡ done version_text)
    × (restored_of [] 4 ≡ refused R10 (1 ∷ []))
    × (restored_of version_text 0 ≡ done [])
    × (renewed_of version_text 4 ≡ refused R10 (1 ∷ []))
    × (renewed_of (journal_text New (On 10 ∷ [])) 100 ≡ refused R10 (1 ∷ []))
    × (restored_of (journal_text Old (On 10 ∷ [])) 100 ≡ refused R10 (1 ∷ []))
    × (renewed_of (lines_text New (Dose 10 1 5 1 0 ∷ [])) 100 ≡ refused R10 (1 ∷ []))
    × (restored_of (version_text ++ lines_text Old (Dose 10 1 5 1 0 ∷ [])) 100 ≡ refused R10 (2 ∷ []))
    × (restored_of (version_text ++ version_text) 100 ≡ refused R10 (2 ∷ []))
unfolding conversion_rules
forms = (refl, refl, refl, refl, refl, refl, refl, refl, refl)

-- a product at the first, a middle and the last line, and two of them; V is line 1
pub products :
    (restored_of (journal_text New (Dose 10 1 5 1 7 ∷ On 10 ∷ On 11 ∷ [])) 100 ≡ refused R18 (2 ∷ []))
    × (restored_of (journal_text New (Dose 10 1 5 1 0 ∷ Dose 10 2 5 1 1 ∷ On 10 ∷ [])) 100 ≡ refused R18 (3 ∷ []))
    × (restored_of (journal_text New (On 10 ∷ Dose 11 1 5 1 0 ∷ Dose 11 2 5 1 255 ∷ [])) 100 ≡ refused R18 (4 ∷ []))
    × (restored_of (journal_text New (Dose 10 1 5 1 0 ∷ Dose 10 2 5 1 10 ∷ Dose 10 3 5 1 7 ∷ [])) 100 ≡ refused R18 (3 ∷ []))
unfolding conversion_rules
products = (refl, refl, refl, refl)

-- R18 after R10, R11 and R12 of any later line; R8 last, after R18 and after those
pub order :
    (restored_of (journal_text New (Dose 10 1 5 1 7 ∷ Dose 9 2 5 1 0 ∷ [])) 100 ≡ refused R11 (3 ∷ []))
    × (restored_of (journal_text New (Dose 10 1 5 1 7 ∷ On 754 ∷ [])) 100 ≡ refused R12 (3 ∷ []))
    × (restored_of (journal_text New (Dose 10 1 5 1 7 ∷ On 10 ∷ []) ++ 10 ∷ []) 100 ≡ refused R10 (4 ∷ []))
    × (restored_of (journal_text New (Dose 10 1 5 1 7 ∷ [])) 0 ≡ refused R18 (2 ∷ []))
    × (restored_of (journal_text New (Dose 10 1 5 1 0 ∷ [])) 10 ≡ refused R8 [])
    × (restored_of (journal_text New (On 10 ∷ On 10 ∷ [])) 0 ≡ refused R11 (3 ∷ []))
    × (renewed_of (journal_text Old (On 10 ∷ On 10 ∷ [])) 0 ≡ refused R11 (2 ∷ []))
    × (renewed_of (journal_text Old (On 10 ∷ [])) 8 ≡ refused R8 [])
    × (renewed_of [] 3 ≡ refused R8 [])
unfolding conversion_rules
order = (refl, refl, refl, refl, refl, refl, refl, refl, refl)
