use mathlib.Core.Path.{◌≡◌, refl, sym, ap, ◌∙◌}
use lib.Dec.{leb}
use mathlib.Core.Bool.{Bool, true, false, ◌&&◌, and-true}
use Rattle.journal.specs.Line.{in_range, within, product_most, most_of_d, most_of_h}
use Rattle.entry.proofs.in_range.Goals as goal

-- five tests, from the left and as the fields of a line with its product last
fields : (h c a s p : Bool) → ((((h && c) && a) && s) && p) ≡ ((h && (c && (a && (s && true)))) && p)
fields true true true true p = refl
fields true true true false p = refl
fields true true false s p = refl
fields true false a s p = refl
fields false c a s p = refl

pub returns-in-Dose : goal.returns-in-Dose
unfolding in_range within most_of_d
returns-in-Dose c =
    let d = c.in-Dose in
    rw c.product_most.ensures (fields (leb d.hour 9999999) (leb d.count 999999) (leb d.amount 1800000) (leb d.settled 1) (leb d.product (product_most c.args.form)) ∙ sym (ap (in_range _) d.is))

pub returns-in-On : goal.returns-in-On
unfolding in_range within most_of_h
returns-in-On c = sym (ap (in_range _) c.in-On.is ∙ and-true _)
