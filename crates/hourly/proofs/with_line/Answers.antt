use mathlib.Core.Path.{◌≡◌, ap, sym, ◌∙◌}
use mathlib.Core.Bool.{true, false}
use Prim.Native.Nat.{ℕ}
use Rattle.laws.specs.Pick.{pick-t, pick-f, so}
use Rattle.journal.specs.declared.Line.{Line}
use Rattle.journal.specs.declared.Line.TheVariants.{Dose}
use Rattle.hourly.specs.Hours.{asks_for}
use Rattle.hourly.specs.Tally.{with_dose, with_on, counted}
use Rattle.hourly.specs.declared.Products.{Products}
use Rattle.hourly.specs.declared.Tally.{Tally}
use Rattle.hourly.proofs.with_line.Goals as goal

-- a dose whose product is asked for, and one whose is not
asked-for : (w : Products) (t : Tally) (l : Line) (h c a s p : ℕ) → l ≡ Dose h c a s p → asks_for w p ≡ true → with_dose t a ≡ counted w t l
unfolding counted
asked-for w t l h c a s p e q = rw e (sym (pick-t _ _ _ q))

passed_over : (w : Products) (t : Tally) (l : Line) (h c a s p : ℕ) → l ≡ Dose h c a s p → asks_for w p ≡ false → t ≡ counted w t l
unfolding counted
passed_over w t l h c a s p e q = rw e (sym (pick-f _ _ _ q))

pub returns-then-asks_for : goal.returns-then-asks_for
returns-then-asks_for c = c.with_dose.ensures ∙ asked-for _ _ _ _ _ _ _ _ c.in-Dose.is (so c.asks_for.ensures c.if-asks_for.true)

pub returns-else-asks_for : goal.returns-else-asks_for
returns-else-asks_for c = passed_over _ _ _ _ _ _ _ _ c.in-Dose.is (so c.asks_for.ensures c.if-asks_for.false)

pub returns-in-On : goal.returns-in-On
unfolding counted with_on
returns-in-On c = let a = c.args in ap (counted a.products a.t) (sym c.in-On.is)
