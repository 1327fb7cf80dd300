use mathlib.Core.Path.{◌≡◌, refl, subst}
use mathlib.Core.Bool.{Bool}
use mathlib.Core.List.{List}
use Prim.Native.Nat.{ℕ}
use Rattle.laws.specs.Pick.{so}
use Rattle.holes.specs.Marks.{Adds}
use Rattle.holes.proofs.Marking.{ends_on, ends-first, ends-turn, ends-before, ends-hole, ends-told}
use Rattle.holes.proofs.mark_hole.Goals as goal

-- the places that were marked
placed : {old new : List Bool} {a b x y : ℕ} → a ≡ x → b ≡ y → Adds old a b new → Adds old x y new
placed {old} {new} {a} {b} {x} {y} p q m = subst (λ (i : ℕ). Adds old i y new) p (subst (λ (i : ℕ). Adds old a i new) q m)

pub returns-in_default : goal.returns-in_default
returns-in_default c = ends-told _ _ refl c.in_default.is (ends_on _ _ _ _)

pub returns-in_default-before : goal.returns-in_default-before
returns-in_default-before c = ends-told _ _ c.in_default-before.is c.in-Dose.is (ends-first _ _ _ _ _ _ _)

pub returns-then-in_turn : goal.returns-then-in_turn
returns-then-in_turn c =
    ends-told _ _ c.in-Some.is c.in-Dose.is
    (ends-turn _ _ _ _ _ _ _ _ _ (so c.in_turn.ensures c.if-in_turn.true))

pub returns-then-hour-first : goal.returns-then-hour-first
returns-then-hour-first c =
    ends-told _ _ refl c.in-Dose.is (ends-before _ _ _ _ _ _ _ _ c.if-hour-first.true)

pub returns : goal.returns
returns c =
    let line = c.in-Dose.is in
    let earlier = c.in-Some.is in
    ends-told _ _ earlier line
    (ends-hole _ _ _ _ _ _ _ _ _ _ (so c.in_turn.ensures c.if-in_turn.false) c.if-hour-first.false
    (placed c.place_of.ensures c.place_of-2.ensures c.mark.ensures))
