-- The marks of some lines, one line more at a time. Assumes nothing.
use Rattle.std.specs.Prelude.{◌≡◌, None, Bool, false, ◌||◌, List, [], ◌∷◌, ◌++◌, ℕ, ◌+◌, length, get_or, replicate}
use Rattle.std.proofs.Common.{sym, ap, ◌∙◌, arith}
use Rattle.std.proofs.lemmas.List.{length-replicate, get_or-replicate}
use Rattle.journal.specs.declared.Line.{Line}
use Rattle.holes.specs.Holes.{ends_hole, hole_from, in_hole}
use Rattle.holes.specs.HoleLaws.{last_dose, hole-more}
use Rattle.holes.specs.Marks.{Marks, AddsHole}

pub marks-start : (holed : List Bool) (first : ℕ) → holed ≡ replicate 744 false → Marks holed first []
unfolding in_hole hole_from
marks-start holed first e =
    record { size = ap length e ∙ length-replicate 744 false; at = λ k b. ap (λ (t : List Bool). get_or t k false) e ∙ get_or-replicate 744 k false false b }

-- no line, no hole, whatever the first
pub marks-none : (holed : List Bool) (f g : ℕ) → Marks holed f [] → Marks holed g []
unfolding in_hole hole_from
marks-none holed f g m = record { size = m.size; at = λ k b. m.at k b }

pub marks-more : (old new : List Bool) (first : ℕ) (ls : List Line) (l : Line) → Marks old first ls → AddsHole old first (last_dose None ls) l new → Marks new first (ls ++ l ∷ [])
marks-more old new first ls l m a =
    record {
      size = a.size ∙ m.size;
      at = λ k b. a.at k (omega (arith, m.size)) ∙ ap (λ (x : Bool). x || ends_hole (first + k) (last_dose None ls) l) (m.at k b) ∙ sym (hole-more (first + k) ls l);
    }
