-- Which gates fill and which empty, the outputs of each phase, and the phases of each algorithm (document 01, "One tick"). Assumes nothing.
use Rattle.std.specs.Prelude.{Bool, true, false, ◌||◌, ℕ, ◌≤◌, leb, eqb, ℤ, ◌+ℤ◌, nat_abs}
use Rattle.laws.specs.Pick.{pick}
use Rattle.settings.specs.declared.Settings.{Settings}
use Rattle.dosing.specs.Rules.{gates, shut}
use Rattle.dosing.specs.declared.Units.{Units}
use Rattle.dosing.specs.declared.Gates.{Gates}
use Rattle.dosing.specs.declared.Phase.{Phase}
use Rattle.dosing.specs.declared.Phase.TheVariants.{Ready, Coarse, Fine, Hold, Settle, Discharge, Load, Calm, DoseCoarse, DoseFine, DoseSettle}

-- The filling gates are 1 and 2 in AL0 and AL1, and 3 in AL2 and AL3
unfoldable pub filling_open : Settings → Gates → Bool
filling_open set g = pick (leb set.algorithm 1) (g.one || g.two) g.three

-- the emptying gates are the others of 1 to 3, none in AL0
unfoldable pub emptying_open : Settings → Gates → Bool
emptying_open set g = pick (eqb set.algorithm 0) false (pick (leb set.algorithm 1) g.three (g.one || g.two))

-- outputs 1 to 3 in each phase
unfoldable pub gates_of : Settings → Phase → Gates
gates_of set Ready = shut
gates_of set (Coarse w0) = gates true (eqb set.o 1) false
gates_of set (Fine w0) = gates false true false
gates_of set Hold = shut
gates_of set (Settle w0 n) = shut
gates_of set (Discharge w0 w_s settled) = gates false false true
gates_of set Load = gates false false true
gates_of set (Calm n) = shut
gates_of set (DoseCoarse w_h) = gates true true false
gates_of set (DoseFine w_h) = gates false true false
gates_of set (DoseSettle w_h n) = shut

-- the phases that an algorithm has
unfoldable pub belongs : ℕ → Phase → Bool
belongs al Ready = true
belongs al (Coarse w0) = leb al 1
belongs al (Fine w0) = leb al 1
belongs al Hold = eqb al 0
belongs al (Settle w0 n) = eqb al 1
belongs al (Discharge w0 w_s settled) = eqb al 1
belongs al Load = leb 2 al
belongs al (Calm n) = leb 2 al
belongs al (DoseCoarse w_h) = leb 2 al
belongs al (DoseFine w_h) = leb 2 al
belongs al (DoseSettle w_h n) = leb 2 al

-- a weight w was w+Z on the scale, which is at most 900,000 in size
abbrev pub Scaled : ℤ → Units → Type 0
Scaled z w = nat_abs (w.v +ℤ z) ≤ 900000

-- what a phase keeps is bounded: each weight is one of the scale's, and a Settle or Calm is at most at tick 256*63
abbrev pub Kept : ℤ → Phase → Type 0
Kept z Ready = Unit {0}
Kept z (Coarse w0) = Scaled z w0
Kept z (Fine w0) = Scaled z w0
Kept z Hold = Unit {0}
Kept z (Settle w0 n) = Scaled z w0 × (n ≤ 16128)
Kept z (Discharge w0 w_s settled) = Scaled z w0 × Scaled z w_s
Kept z Load = Unit {0}
Kept z (Calm n) = n ≤ 16128
Kept z (DoseCoarse w_h) = Scaled z w_h
Kept z (DoseFine w_h) = Scaled z w_h
Kept z (DoseSettle w_h n) = Scaled z w_h × (n ≤ 16128)
