-- What each public call hands back is what its event makes of the controller: so a series of events is a series of calls. Assumes nothing.
use Rattle.std.specs.Prelude.{◌≡◌, refl, Bool, true, List, [], ◌⊎◌, ℕ, length, ℤ, Result, Ok}
use Rattle.std.proofs.Common.{sym, ap, ◌∙◌, inl, inr, ⊎_elim, eq-eqb}
use Rattle.paper.specs.Answer.{Answer, done, refused, fault, told}
use Rattle.settings.specs.declared.Settings.{Settings}
use Rattle.controller.specs.declared.Controller.{Controller}
use Rattle.counters.specs.declared.Counters.{Counters}
use Rattle.controller.specs.declared.Ticked.{Ticked}
use Rattle.controller.specs.declared.Requested.{Requested}
use Rattle.panel.specs.declared.Polled.{Polled}
use Rattle.setup.specs.declared.Configured.{Configured}
use Rattle.setup.specs.declared.Cleared.{Cleared}
use Rattle.controller.specs.declared.RestartError.{RestartError}
use Rattle.controller.specs.Restart.{restart_of, restarted_from}
use Rattle.setup.specs.Setup.{link_of}
use Rattle.controller.specs.State.{fresh_of}
use Rattle.controller.specs.Says.{says_restart, Restarts, Ticks, Replies}
use Rattle.setup.specs.Says.{Sets, Resets}
use Rattle.panel.specs.Says.{Polls}
use Rattle.controller.specs.Made.{Made}
use Rattle.panel.specs.Modbus.{modbus_of}
use Rattle.panel.specs.Laws.{modbus-only, modbus-sets}
use Rattle.modbus.specs.Asks.{heard, hear_of}
use Rattle.modbus.specs.Asks as asks
use Rattle.paper.specs.AnswerLaws.{refused-done, fault-done}
use Rattle.series.specs.Events.{tick, link, request, modbus, settings, reset, restart, event_of, run, given_by, counting_at, handed_back}

pub fresh-is : (r : Controller) → Made fresh_of r → r ≡ run fresh_of []
unfolding run
fresh-is r h = h.is

pub tick_is : (c : Controller) (x : ℤ) (i : ℕ) (r : Ticked) → Ticks c x i r → r.next ≡ event_of c (tick x i)
unfolding event_of
tick_is c x i r h = h.next

pub link-is : (c : Controller) (on : Bool) (r : Controller) → Made (link_of c on) r → r ≡ event_of c (link on)
unfolding event_of
link-is c on r h = h.is

-- `old` is the reply buffer that is lent
pub request-is : (c : Controller) (s old new : List ℕ) (r : Requested) → Replies c s old new r → r.next ≡ event_of c (request s old)
unfolding event_of
request-is c s old new r h = h.next

pub modbus-is : (c : Controller) (s old new : List ℕ) (r : Polled) → Polls c s old new r → r.next ≡ event_of c (modbus s old)
unfolding event_of
modbus-is c s old new r h = h.next

-- Demand 3's link starts include these writes: an accepted write is the link start that it sets or clears, and any other frame leaves the controller
pub write-is : (c : Controller) (s old bytes : List ℕ) (all on : Bool) → hear_of c.set.address s ≡ done (heard all (asks.link on)) → (modbus_of c s (length old)).answer ≡ done bytes → event_of c (modbus s old) ≡ event_of c (link on)
unfolding event_of
write-is c s old bytes all on e d = modbus-sets c s (length old) all on bytes e d

pub modbus-stays : (c : Controller) (s old : List ℕ) → (event_of c (modbus s old) ≡ c) ⊎ ((on : Bool) × (event_of c (modbus s old) ≡ event_of c (link on)))
unfolding event_of
modbus-stays c s old = ⊎_elim (λ e. inl e) (λ w. inr (w.on, w.sets)) (modbus-only c s (length old))

pub settings-is : (c : Controller) (set : Settings) (r : Configured) → Sets c set r → r.next ≡ event_of c (settings set)
unfolding event_of
settings-is c set r h = h.next

pub reset-is : (c : Controller) (r : Cleared) → Resets c r → r.next ≡ event_of c reset
unfolding event_of
reset-is c r h = h.next

-- an accepted restart is put in place of the old controller
pub restart-is : (c : Controller) (set : Settings) (count total : ℕ) (r : Result Controller RestartError) (d : Controller) → Restarts set count total r → r ≡ Ok d → d ≡ event_of c (restart set count total)
unfolding event_of restarted_from
restart-is c set count total r d h e = ap (restarted_from c) (sym (ap says_restart e) ∙ h.says)

-- at a refused one the old controller stays
pub restart-stays : (c : Controller) (set : Settings) (count total : ℕ) (r : Result Controller RestartError) (n : ℕ) (vs : List ℕ) → Restarts set count total r → says_restart r ≡ refused n vs → event_of c (restart set count total) ≡ c
unfolding event_of restarted_from
restart-stays c set count total r n vs h e = ap (restarted_from c) (sym h.says ∙ e)

-- a restart with the numbers that the counters' call answers just before it hands them back
handed : (n : Counters) (a : Answer Controller) → handed_back (given_by a n.count n.total) n ≡ true
unfolding handed_back given_by
handed n (done d) = rw (eq-eqb n.count n.count refl, eq-eqb n.total n.total refl)
handed n (refused m vs) = refl
handed n (fault m vs) = refl

pub restart-hands-back : (c : Controller) (set : Settings) (n : Counters) → n ≡ c.counters → handed_back (counting_at c (restart set n.count n.total)) c.counters ≡ true
unfolding counting_at
restart-hands-back c set n e = rw (sym e) (handed n (restart_of set n.count n.total))
