-- The doses of one product over any series. Assumes nothing.
use Rattle.std.specs.Prelude.{◌≡◌, refl, List, [], ◌∷◌, ◌++◌, ℕ}
use Rattle.std.proofs.Common.{ap₂, ◌∙◌}
use Rattle.hourly.specs.declared.Products.TheVariants.{One}
use Rattle.hourly.specs.Hours.{asks_for}
use Rattle.counters.specs.declared.Record.{Record}
use Rattle.controller.specs.declared.Controller.{Controller}
use Rattle.controller.specs.Sound.{Sound}
use Rattle.series.specs.Events.{Event, event_of, records_at, records}
use Rattle.series.proofs.Kept.{event-sound}
use Rattle.series.specs.Products.{asked_of, records_while, asked-append, asked-same, event-product}

-- the doses of product p among the records of a series are those that the rules complete while p is set
pub doses-of-product : (es : List Event) (c : Controller) (p : ℕ) → Sound c → asked_of (One p) (records c es) ≡ records_while p c es
unfolding records records_while asked_of asks_for
doses-of-product [] c p s = refl
doses-of-product (e ∷ es) c p s =
    asked-append (One p) (records_at c e) (records (event_of c e) es)
    ∙ ap₂ (λ (a b : List Record). a ++ b) (asked-same (One p) c.set.product (records_at c e) (event-product c e s))
    (doses-of-product es (event_of c e) p (event-sound c e s))
