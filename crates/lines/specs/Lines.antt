-- An input and its lines. A line is what stands before an LF; what follows the last LF is a begun line. Assumes nothing.
use Rattle.std.specs.Prelude.{◌≡◌, refl, Bool, true, false, List, [], ◌∷◌, ◌++◌, map, ℕ, ◌<◌, ltb, eqb, length, replicate}
use Rattle.std.proofs.Common.{sym, ap, ◌∙◌, append_assoc, append-nil, arith, length-append, ne_eqb, lt-ltb}
use Rattle.laws.specs.Pick.{pick, pick-t, pick-f}
use Rattle.text.specs.Scan.{LF}

-- the lines, each without its LF, after a line that began with `begun`; a last line without LF is not a call
unfoldable pub lines_from : List ℕ → List ℕ → List (List ℕ)
lines_from begun [] = []
lines_from begun (b ∷ bs) = let more = lines_from (begun ++ b ∷ []) bs in pick (eqb b LF) (begun ∷ lines_from [] bs) more

-- a line has at most 4,095 bytes
unfoldable pub too_long : List ℕ → Bool
too_long l = ltb 4095 (length l)

-- the line that goes on: its bytes are all still to come, or it is too long already
unfoldable pub begun_of : Bool → List ℕ
begun_of true = replicate 4096 0
begun_of false = []

-- a line that is too long is handed over as an empty one
unfoldable pub asked : List ℕ → List ℕ
asked l = pick (too_long l) [] l

-- the lines that an input hands over, after a line that began with `begun`
unfoldable pub lines_of : List ℕ → List ℕ → List (List ℕ)
lines_of begun input = map asked (lines_from begun input)

-- no LF among them
abbrev pub Plain : List ℕ → Type 0
Plain [] = Unit {0}
Plain (b ∷ bs) = (b ≡ LF → ⊥) × Plain bs

-- bytes without LF only lengthen the line that has begun
lines-plain : (xs begun rest : List ℕ) → Plain xs → lines_from begun (xs ++ rest) ≡ lines_from (begun ++ xs) rest
unfolding lines_from
lines-plain [] begun rest p = ap (λ (b : List ℕ). lines_from b rest) (sym (append-nil begun))
lines-plain (x ∷ xs) begun rest p =
    pick-f _ _ _ (ne_eqb _ _ p.0)
    ∙ lines-plain xs (begun ++ x ∷ []) rest p.1
    ∙ ap (λ (b : List ℕ). lines_from b rest) (append_assoc begun (x ∷ []) xs)

pub lines-begun : (xs begun rest : List ℕ) → Plain xs → lines_of begun (xs ++ rest) ≡ lines_of (begun ++ xs) rest
unfolding lines_of
lines-begun xs begun rest p = ap (map asked) (lines-plain xs begun rest p)

-- an LF ends it
pub lines-whole : (xs begun rest : List ℕ) → Plain xs → lines_of begun (xs ++ LF ∷ rest) ≡ asked (begun ++ xs) ∷ lines_of [] rest
unfolding lines_of lines_from pick
lines-whole xs begun rest p = ap (map asked) (lines-plain xs begun (LF ∷ rest) p)

asked-long : (l : List ℕ) → 4095 < length l → asked l ≡ []
unfolding asked too_long
asked-long l h = pick-t _ _ _ (lt-ltb 4095 (length l) h)

-- the bytes of a line that is too long do not matter
pub lines_long : (a b input : List ℕ) → 4095 < length a → 4095 < length b → lines_of a input ≡ lines_of b input
unfolding lines_of lines_from pick
lines_long a b [] h k = refl
lines_long a b (x ∷ xs) h k =
    go (eqb x LF) (lines_long (a ++ x ∷ []) (b ++ x ∷ []) xs (omega (arith, length-append a (x ∷ []))) (omega (arith, length-append b (x ∷ []))))
  where
    go : (t : Bool) → lines_of (a ++ x ∷ []) xs ≡ lines_of (b ++ x ∷ []) xs
        → map asked (pick t (a ∷ lines_from [] xs) (lines_from (a ++ x ∷ []) xs)) ≡ map asked (pick t (b ∷ lines_from [] xs) (lines_from (b ++ x ∷ []) xs))
    go true r = ap (λ (l : List ℕ). l ∷ lines_of [] xs) (asked-long a h ∙ sym (asked-long b k))
    go false r = r
