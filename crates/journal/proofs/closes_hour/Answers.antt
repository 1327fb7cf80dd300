use mathlib.Core.Path.{◌≡◌, refl, ap, sym}
use mathlib.Core.Bool.{false}
use Prim.Native.Nat.{ℕ}
use Rattle.journal.specs.Journal.{closes}
use Rattle.journal.specs.declared.Line.{Line}
use Rattle.journal.specs.declared.Line.TheVariants.{Dose, On}
use Rattle.journal.proofs.closes_hour.Goals as goal

-- a line that is no H closes nothing
still_open : (l : Line) → ((h : ℕ) → l ≡ On h → ⊥) → false ≡ closes l
unfolding closes
still_open (Dose h c a s p) n = refl
still_open (On h) n = absurd (n h refl)

pub returns-in-On : goal.returns-in-On
unfolding closes
returns-in-On c = sym (ap closes c.in-On.is)

pub returns-in_default : goal.returns-in_default
returns-in_default c = still_open c.args.line c.in_default.not-On
