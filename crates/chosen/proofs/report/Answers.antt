use mathlib.Core.Path.{◌≡◌, sym, ap, ◌∙◌, subst}
use mathlib.Core.List.{List}
use Prim.Native.Nat.{ℕ}
use lib.ListN.{take}
use Rattle.report.specs.Promises.{Holds, Reports}
use Rattle.report.specs.Report.{report_of}
use Rattle.report.specs.declared.Printout.{Printout}
use Rattle.hourly.specs.declared.Products.TheVariants.{One}
use Rattle.chosen.specs.Choice.{chosen_report}
use Rattle.chosen.specs.ChoiceLaws.{chosen-product}
use Rattle.chosen.specs.Says.{says_choice}
use Rattle.chosen.specs.Promises.{ReportsChosen}
use Rattle.std.specs.Prelude.{Option, Some, None}
use Rattle.chosen.proofs.report.Goals as goal

-- a product was given, or none
given : (choice : Option ℕ) (q : ℕ) (bytes : List ℕ) (n : ℕ) (r : Printout 33480) → choice ≡ Some q → Reports (One q) bytes n r → ReportsChosen choice bytes n r
given choice q bytes n r e h =
    record {
      holds = subst (λ (l : List ℕ). Holds l r) (is (take n bytes)) h.holds;
      whole = λ s p. subst (λ (l : List ℕ). Holds l r) (is s) (h.whole s p);
    }
  where
    is : (s : List ℕ) → report_of (One q) s ≡ chosen_report (says_choice choice) s
    is s = sym (ap (λ (x : Option ℕ). chosen_report (says_choice x) s) e ∙ chosen-product q s)

none : (choice : Option ℕ) (bytes : List ℕ) (n : ℕ) (r : Printout 33480) → choice ≡ None → ReportsChosen None bytes n r → ReportsChosen choice bytes n r
none choice bytes n r e h = subst (λ (x : Option ℕ). ReportsChosen x bytes n r) (sym e) h

pub returns-in-Some : goal.returns-in-Some
returns-in-Some c = given _ _ _ _ _ c.in-Some.is c.report.ensures

pub returns-in-None : goal.returns-in-None
returns-in-None c = none _ _ _ _ c.in-None.is c.without_product.ensures
