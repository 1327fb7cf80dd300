use mathlib.Core.Path.{◌≡◌, refl, sym, ap, ◌∙◌}
use mathlib.Core.Bool.{Bool, true, false, and-true}
use mathlib.Core.List.{List, [], ◌∷◌}
use Prim.Native.Nat.{ℕ}
use lib.Dec.{eqb}
use borrow.Author.Tests.{eq-eqb, ne_eqb}
use Rattle.std.specs.List.{starts_with}
use Rattle.std.proofs.lemmas.Bool.{eqb-true, eqb-false}
use Rattle.journal.specs.Line.{versioned}
use Rattle.journal.proofs.has_version.Goals as goal

turned : (a b : ℕ) → eqb a b ≡ eqb b a
turned a b = go (eqb a b) refl
  where
    go : (t : Bool) → eqb a b ≡ t → eqb a b ≡ eqb b a
    go true e = e ∙ sym (eq-eqb b a (sym (eqb-true a b e)))
    go false e = e ∙ sym (ne_eqb b a (λ q. eqb-false a b e (sym q)))

-- the four bytes, one after another; past the end there is none of them
begins : (s : List ℕ) → starts_with eqb s (86 ∷ 9 ∷ 50 ∷ 10 ∷ []) ≡ versioned s
unfolding versioned
begins [] = refl
begins (a ∷ []) = rw (turned 86 a)
begins (a ∷ b ∷ []) = rw (turned 86 a, turned 9 b)
begins (a ∷ b ∷ d ∷ []) = rw (turned 86 a, turned 9 b, turned 50 d)
begins (a ∷ b ∷ d ∷ e ∷ s) = rw (turned 86 a, turned 9 b, turned 50 d, turned 10 e, and-true (eqb e 10))

pub returns : goal.returns
returns c = c.starts_with.ensures.value ∙ begins c.args.bytes.now
