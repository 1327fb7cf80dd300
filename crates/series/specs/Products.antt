-- The doses of one product among those of a series: exactly those that the rules complete while that product is set. The walk over a series stands in proofs/Products. Assumes nothing.
use Rattle.std.specs.Prelude.{◌≡◌, refl, Bool, true, false, List, [], ◌∷◌, ◌++◌, ℕ, eqb}
use Rattle.std.proofs.Common.{sym, ap, ap₂, ◌∙◌, append_assoc}
use Rattle.laws.specs.Pick.{pick}
use Rattle.paper.specs.Answer.{Answer, done, refused, fault}
use Rattle.hourly.specs.declared.Products.{Products}
use Rattle.hourly.specs.declared.Products.TheVariants.{All}
use Rattle.hourly.specs.Hours.{asks_for}
use Rattle.counters.specs.declared.Record.{Record}
use Rattle.counters.specs.Laws.{AllOf}
use Rattle.controller.specs.declared.Controller.{Controller}
use Rattle.controller.specs.Tick.{Told, tick_of}
use Rattle.controller.specs.Sound.{Sound}
use Rattle.controller.specs.Promises.{tick-product}
use Rattle.series.specs.Events.{Event, tick, link, request, modbus, settings, reset, restart, event_of, records_in, records_at}

-- the records of the products that are asked for
unfoldable pub asked_of : Products → List Record → List Record
asked_of w [] = []
asked_of w (r ∷ rs) = pick (asks_for w r.product) (r ∷ []) [] ++ asked_of w rs

-- the dose records that the ticks of a series answer while product p is set
unfoldable pub records_while : ℕ → Controller → List Event → List Record
records_while p c [] = []
records_while p c (e ∷ es) = pick (eqb c.set.product p) (records_at c e) [] ++ records_while p (event_of c e) es

-- ---- what is asked for

pub asked-append : (w : Products) (rs more : List Record) → asked_of w (rs ++ more) ≡ asked_of w rs ++ asked_of w more
unfolding asked_of
asked-append w [] more = refl
asked-append w (r ∷ rs) more =
    ap (λ (l : List Record). pick (asks_for w r.product) (r ∷ []) [] ++ l) (asked-append w rs more)
    ∙ sym (append_assoc (pick (asks_for w r.product) (r ∷ []) []) (asked_of w rs) (asked_of w more))

-- over all products nothing is left out
pub asked-all : (rs : List Record) → asked_of All rs ≡ rs
unfolding asked_of asks_for pick
asked-all [] = refl
asked-all (r ∷ rs) = ap (λ (l : List Record). r ∷ l) (asked-all rs)

-- records of one product are asked for together
pub asked-same : (w : Products) (q : ℕ) (rs : List Record) → AllOf q rs → asked_of w rs ≡ pick (asks_for w q) rs []
unfolding asked_of AllOf pick
asked-same w q rs h = go (asks_for w q) refl rs h
  where
    one : (r : Record) (b : Bool) → asks_for w q ≡ b → r.product ≡ q → pick (asks_for w r.product) (r ∷ []) [] ≡ pick b (r ∷ []) []
    one r b e same = ap (λ (p : ℕ). pick (asks_for w p) (r ∷ []) []) same ∙ ap (λ (x : Bool). pick x (r ∷ []) []) e

    go : (b : Bool) → asks_for w q ≡ b → (rs : List Record) → AllOf q rs → asked_of w rs ≡ pick b rs []
    go true e [] h = refl
    go true e (r ∷ rs) h = ap₂ (λ (a b : List Record). a ++ b) (one r true e h.0) (go true e rs h.1)
    go false e [] h = refl
    go false e (r ∷ rs) h = ap₂ (λ (a b : List Record). a ++ b) (one r false e h.0) (go false e rs h.1)

-- ---- the doses of an event are of the product that is set

told-product : (q : ℕ) (a : Answer Told) → ((t : Told) → a ≡ done t → AllOf q t.doses) → AllOf q (records_in a)
unfolding records_in AllOf
told-product q (done t) h = h t refl
told-product q (refused n vs) h = tt
told-product q (fault n vs) h = tt

pub event-product : (c : Controller) (e : Event) → Sound c → AllOf c.set.product (records_at c e)
unfolding records_at AllOf
event-product c (tick x i) s = told-product c.set.product (tick_of c x i).answer (λ t e. tick-product c x i t s e)
event-product c (link on) s = tt
event-product c (request b reply) s = tt
event-product c (modbus b reply) s = tt
event-product c (settings set) s = tt
event-product c reset s = tt
event-product c (restart set count total) s = tt
