-- Holes in the dose numbers (document 02, W1; W4: W1's test runs over all products). Assumes nothing.
use Rattle.std.specs.Prelude.{◌≡◌, refl, Option, Some, None, Bool, true, false, not, ◌&&◌, ◌||◌, List, [], ◌∷◌, map, ℕ, ◌+◌, eqb, leb}
use Rattle.laws.specs.Pick.{pick}
use Rattle.journal.specs.declared.Line.{Line}
use Rattle.journal.specs.declared.Line.TheVariants.{Dose, On}

-- the D line before the next line: its hour and count, or none yet
abbrev pub Before : Type 0
Before = Option (ℕ × ℕ)

-- by one (0 after 999,999)
unfoldable pub next_count : ℕ → ℕ
next_count before = pick (eqb before 999999) 0 (before + 1)

-- The count in a D line must follow the count of the D line before it by one; a 1 is always allowed, since it follows a counter reset
unfoldable pub follows : ℕ → ℕ → Bool
follows before count = eqb count 1 || eqb count (next_count before)

-- Where the count does not follow, every hour from the earlier D line's hour to the later one's; the first D line of a journal is not tested
unfoldable pub ends_hole : ℕ → Before → Line → Bool
ends_hole h b (On y) = false
ends_hole h None (Dose y d a s p) = false
ends_hole h (Some (x, c)) (Dose y d a s p) = not (follows c d) && (leb x h && leb h y)

-- the D line before the next line, by its hour and count: after a D it is that D, also where its count did not follow; H lines leave it
unfoldable pub dose_before : Before → Line → Before
dose_before b (Dose x c a s p) = Some (x, c)
dose_before b (On x) = b

-- hour h lies in a hole that one of these lines ends
unfoldable pub hole_from : ℕ → Before → List Line → Bool
hole_from h b [] = false
hole_from h b (l ∷ ls) = ends_hole h b l || hole_from h (dose_before b l) ls

-- hour h lies in a hole of the journal
unfoldable pub in_hole : ℕ → List Line → Bool
in_hole h ls = hole_from h None ls

-- ---- each clause on numbers

-- to unfold this is to unfold what a hole is
unfoldable pub hole_rules : Unit {0}
unfolding in_hole hole_from ends_hole dose_before follows next_count pick
hole_rules = tt

-- 6 and 1 follow 5, and nothing else near it
pub follows-cases : map (follows 5) (6 ∷ 1 ∷ 0 ∷ 5 ∷ 7 ∷ 4 ∷ []) ≡ true ∷ true ∷ false ∷ false ∷ false ∷ false ∷ []
unfolding follows next_count pick
follows-cases = refl

-- 0 and 1 follow 999,999; 0 follows nothing else
pub follows-last : (map (follows 999999) (0 ∷ 1 ∷ 2 ∷ 999999 ∷ 1000000 ∷ []) ≡ true ∷ true ∷ false ∷ false ∷ false ∷ []) × (map (λ b. follows b 0) (999998 ∷ 1 ∷ 0 ∷ []) ≡ false ∷ false ∷ false ∷ [])
unfolding follows next_count pick
follows-last = (refl, refl)

-- a D line with amount 5, of product 0 and of another
abbrev dose : ℕ → ℕ → Line
dose h c = Dose h c 5 1 0

abbrev dose_of : ℕ → ℕ → ℕ → Line
dose_of p h c = Dose h c 5 1 p

-- the hours 9 to 15 of some lines
abbrev holes : List Line → List Bool
holes ls = map (λ h. in_hole h ls) (9 ∷ 10 ∷ 11 ∷ 12 ∷ 13 ∷ 14 ∷ 15 ∷ [])

-- all in one hour; over the hours between, with their H and without, both ends among them
pub hole-hours :
    (holes (dose 10 1 ∷ dose 10 5 ∷ On 10 ∷ dose 11 6 ∷ On 11 ∷ []) ≡ false ∷ true ∷ false ∷ false ∷ false ∷ false ∷ false ∷ [])
    × (holes (On 9 ∷ dose 10 1 ∷ On 10 ∷ On 11 ∷ On 13 ∷ dose 14 3 ∷ On 14 ∷ On 15 ∷ []) ≡ false ∷ true ∷ true ∷ true ∷ true ∷ true ∷ false ∷ [])
unfolding hole_rules
hole-hours = (refl, refl)

-- the first D line is not tested; 0 after 999,999, a 1 after anything and a second 1 make no hole
pub hole-none :
    (holes (On 9 ∷ dose 10 500 ∷ On 10 ∷ dose 13 501 ∷ []) ≡ false ∷ false ∷ false ∷ false ∷ false ∷ false ∷ false ∷ [])
    × (holes (dose 10 999999 ∷ dose 11 0 ∷ On 11 ∷ dose 12 1 ∷ dose 13 1 ∷ On 13 ∷ dose 14 2 ∷ []) ≡ false ∷ false ∷ false ∷ false ∷ false ∷ false ∷ false ∷ [])
unfolding hole_rules
hole-none = (refl, refl)

-- after a hole the next D is held against its far end: 6 follows 5 there, 2 does not; the same count again and one that goes back do not follow
pub hole-next :
    (holes (dose 10 1 ∷ dose 11 5 ∷ dose 12 6 ∷ On 12 ∷ []) ≡ false ∷ true ∷ true ∷ false ∷ false ∷ false ∷ false ∷ [])
    × (holes (dose 10 1 ∷ dose 11 5 ∷ dose 12 2 ∷ dose 13 3 ∷ []) ≡ false ∷ true ∷ true ∷ true ∷ false ∷ false ∷ false ∷ [])
    × (holes (dose 10 5 ∷ On 10 ∷ dose 11 5 ∷ dose 12 6 ∷ dose 13 5 ∷ []) ≡ false ∷ true ∷ true ∷ true ∷ true ∷ false ∷ false ∷ [])
unfolding hole_rules
hole-next = (refl, refl, refl)

-- the test runs over all products: counts that follow across two of them make no hole, and one that does not follow that of another product makes one
pub hole-products :
    (holes (dose_of 0 10 1 ∷ dose_of 7 11 2 ∷ dose_of 0 12 3 ∷ dose_of 7 13 4 ∷ []) ≡ false ∷ false ∷ false ∷ false ∷ false ∷ false ∷ false ∷ [])
    × (holes (dose_of 0 10 1 ∷ dose_of 7 12 3 ∷ On 12 ∷ dose_of 0 13 4 ∷ []) ≡ false ∷ true ∷ true ∷ true ∷ false ∷ false ∷ false ∷ [])
    × (holes (dose_of 0 10 1 ∷ dose_of 7 11 5 ∷ dose_of 0 12 2 ∷ []) ≡ false ∷ true ∷ true ∷ true ∷ false ∷ false ∷ false ∷ [])
unfolding hole_rules
hole-products = (refl, refl, refl)
