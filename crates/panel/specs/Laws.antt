-- A MODBUS frame changes the link start at most, and that only as an accepted write; what a master reads is what stands in the registers, and each weight there is exactly the weight. Assumes nothing.
use Rattle.std.specs.Prelude.{◌≡◌, Bool, List, [], ◌⊎◌, ℕ, ◌≤◌, take, drop}
use Rattle.std.proofs.Math.Path.{refl, ap}
use Rattle.std.proofs.Common.{sym, subst, ◌∙◌, arith}
use Rattle.std.proofs.Math.Bool.{true, false}
use Rattle.std.proofs.Math.Logic.{inl, inr, ⊎_elim}
use Rattle.laws.specs.Pick.{pick-t, pick-f}
use Rattle.paper.specs.Answer.{Answer, done, refused, fault}
use Rattle.paper.specs.AnswerLaws.{refused-done, fault-done, done_refused}
use Rattle.single.specs.Single.{InRange, weight_in}
use Rattle.single.specs.Exact.{words_back}
use Rattle.registers.specs.Registers.{table_of}
use Rattle.registers.specs.Laws.{pair_at, words_at, table-length, c3-back, c2-back, count-back, total-back}
use Rattle.modbus.specs.Crc.{sealed}
use Rattle.modbus.specs.Asks.{Ask, registers, link, exception, Heard, heard, hear_of}
use Rattle.modbus.specs.Replies.{reply_body, served_of, registers_in}
use Rattle.modbus.specs.RepliesLaws.{reply-fits, registers-back}
use Rattle.scale.specs.Laws as scale
use Rattle.controller.specs.Tick.{Result, still}
use Rattle.setup.specs.Setup.{link_of}
use Rattle.controller.specs.Line.{weight_of}
use Rattle.panel.specs.Modbus.{values_of, linked_by, served_by, serves_to, modbus_of}
use Rattle.controller.specs.Sound.{Sound}
use Rattle.controller.specs.Bounds.{samples-within}
use Rattle.setup.specs.Keeps.{link-sound}
use Rattle.controller.specs.declared.Controller.{Controller}

-- ---- what a frame changes

-- an accepted write, for us or for all, and what it sets
pub record Written (c : Controller) (frame : List ℕ) (room : ℕ) : Type 0 where
  pub for_all : Bool
  pub on : Bool
  pub bytes : List ℕ
  pub asks : hear_of c.set.address frame ≡ done (heard for_all (link on))
  pub accepted : (modbus_of c frame room).answer ≡ done bytes
  pub sets : (modbus_of c frame room).next ≡ link_of c on

by-ask : (c : Controller) (ask : Ask) → (linked_by c ask ≡ c) ⊎ ((on : Bool) × (ask ≡ link on) × (linked_by c ask ≡ link_of c on))
unfolding linked_by
by-ask c (registers start quantity) = inl refl
by-ask c (link on) = inr (on, refl, refl)
by-ask c (exception function number) = inl refl

-- what is served of a write is refused, or sets it
write-sets : (c : Controller) (on : Bool) (x : Answer (List ℕ)) {r : Result (List ℕ)} {bytes : List ℕ} → r ≡ served_by c (link on) x → r.answer ≡ done bytes → r.next ≡ link_of c on
unfolding served_by linked_by
write-sets c on (done b) e d = ap (λ (y : Result (List ℕ)). y.next) e
write-sets c on (refused n vs) e d = refused-done (sym (ap (λ (y : Result (List ℕ)). y.answer) e) ∙ d)
write-sets c on (fault n vs) e d = fault-done (sym (ap (λ (y : Result (List ℕ)). y.answer) e) ∙ d)

module _ (c : Controller) (frame : List ℕ) (room : ℕ) where
  -- R17 before anything else
  pub silent-so : (n : ℕ) (vs : List ℕ) → hear_of c.set.address frame ≡ refused n vs → modbus_of c frame room ≡ still c (refused n vs)
  unfolding modbus_of serves_to
  silent-so n vs e = ap (serves_to c room) e

  pub heard-so : (h : Heard) → hear_of c.set.address frame ≡ done h → modbus_of c frame room ≡ served_by c h.ask (served_of c.set.address (table_of (values_of c)) h room)
  unfolding modbus_of serves_to
  heard-so h e = ap (serves_to c room) e

  served-only : (h : Heard) → hear_of c.set.address frame ≡ done h → (x : Answer (List ℕ)) → served_of c.set.address (table_of (values_of c)) h room ≡ x
      → ((modbus_of c frame room).next ≡ c) ⊎ Written c frame room
  unfolding served_by
  served-only h e (done bytes) k =
      let so : modbus_of c frame room ≡ record { next = linked_by c h.ask; answer = done bytes } = heard-so h e ∙ ap (served_by c h.ask) k in
      let next = ap (λ (r : Result (List ℕ)). r.next) so in
      ⊎_elim (λ same. inl (next ∙ same))
      (λ w. inr (record {
        for_all = h.for_all;
        on = w.0;
        bytes = bytes;
        asks = e ∙ ap (λ (a : Ask). done (heard h.for_all a)) w.1;
        accepted = ap (λ (r : Result (List ℕ)). r.answer) so;
        sets = next ∙ w.2;
      }))
      (by-ask c h.ask)
  served-only h e (refused n vs) k = inl (ap (λ (r : Result (List ℕ)). r.next) (heard-so h e ∙ ap (served_by c h.ask) k))
  served-only h e (fault n vs) k = inl (ap (λ (r : Result (List ℕ)). r.next) (heard-so h e ∙ ap (served_by c h.ask) k))

  heard-only : (a : Answer Heard) → hear_of c.set.address frame ≡ a → ((modbus_of c frame room).next ≡ c) ⊎ Written c frame room
  unfolding modbus_of serves_to
  heard-only (done h) e = served-only h e _ refl
  heard-only (refused n vs) e = inl (ap (λ (a : Answer Heard). (serves_to c room a).next) e)
  heard-only (fault n vs) e = inl (ap (λ (a : Answer Heard). (serves_to c room a).next) e)

  -- every frame but an accepted write hands back the very same controller, and that write sets or clears the link start
  pub modbus-only : ((modbus_of c frame room).next ≡ c) ⊎ Written c frame room
  modbus-only = heard-only (hear_of c.set.address frame) refl

  -- a refusal, R17 or R8, changes nothing
  pub modbus-refused : (n : ℕ) (vs : List ℕ) → (modbus_of c frame room).answer ≡ refused n vs → (modbus_of c frame room).next ≡ c
  modbus-refused n vs e = ⊎_elim (λ same. same) (λ w. done_refused (sym w.accepted ∙ e)) modbus-only

  -- an accepted write, for us or for all, sets or clears the link start
  pub modbus-sets : (all on : Bool) (bytes : List ℕ) → hear_of c.set.address frame ≡ done (heard all (link on)) → (modbus_of c frame room).answer ≡ done bytes → (modbus_of c frame room).next ≡ link_of c on
  modbus-sets all on bytes e d = write-sets c on _ (heard-so (heard all (link on)) e) d

  -- no frame changes the phase or the counters
  pub modbus-keeps : ((modbus_of c frame room).next.phase ≡ c.phase) × ((modbus_of c frame room).next.counters ≡ c.counters)
  unfolding link_of
  modbus-keeps =
      ⊎_elim (λ same. (ap (λ (d : Controller). d.phase) same, ap (λ (d : Controller). d.counters) same))
      (λ w. (ap (λ (d : Controller). d.phase) w.sets, ap (λ (d : Controller). d.counters) w.sets))
      modbus-only

  pub modbus-sound : Sound c → Sound (modbus_of c frame room).next
  modbus-sound s = ⊎_elim (λ same. subst Sound (sym same) s) (λ w. subst Sound (sym w.sets) (link-sound c w.on s)) modbus-only

  -- A good write to address 0 acts without a reply, whatever the buffer
  pub all-act : (on : Bool) → hear_of c.set.address frame ≡ done (heard true (link on)) → modbus_of c frame room ≡ record { next = link_of c on; answer = done [] }
  unfolding served_by served_of linked_by
  all-act on e = heard-so (heard true (link on)) e ∙ ap (served_by c (link on)) (pick-t _ _ _ refl)

  -- no reply is longer than 27 bytes: in a buffer of so many every frame for us is replied to
  pub ours-replied : (ask : Ask) → hear_of c.set.address frame ≡ done (heard false ask) → 27 ≤ room
      → modbus_of c frame room ≡ record { next = linked_by c ask; answer = done (sealed (reply_body c.set.address (table_of (values_of c)) ask)) }
  unfolding served_by served_of
  ours-replied ask e h =
      heard-so (heard false ask) e
      ∙ ap (served_by c ask) (pick-f _ _ _ refl ∙ reply-fits c.set.address (table_of (values_of c)) ask room (omega (arith, table-length (values_of c))) h)

-- ---- the registers

-- what a master reads in the reply to 03 is what stands in the registers that it asked
pub read_back : (c : Controller) (frame : List ℕ) (room start quantity : ℕ) → hear_of c.set.address frame ≡ done (heard false (registers start quantity)) → 27 ≤ room
    → (bytes : List ℕ) × ((modbus_of c frame room).answer ≡ done bytes) × (registers_in bytes ≡ take quantity (drop start (table_of (values_of c))))
read_back c frame room start quantity e h = (
  sealed (reply_body c.set.address (table_of (values_of c)) (registers start quantity)),
  ap (λ (r : Result (List ℕ)). r.answer) (ours-replied c frame room (registers start quantity) e h),
  registers-back c.set.address (table_of (values_of c)) start quantity,
)

module _ (c : Controller) (s : Sound c) where
  pub weight-held : (n : ℕ) → InRange (weight_of c n).value
  weight-held n = scale.value-within c.set c.window c.z c.s n (samples-within c s) s.zero

  -- Each weight must be exactly the whole number as an f32: read back as a whole number it is the weight of C3, and of C2
  pub c3-exact : weight_in (words_at (table_of (values_of c)) 0) ≡ (weight_of c c.set.p8).value
  unfolding values_of
  c3-exact = ap weight_in (c3-back (values_of c)) ∙ words_back _ (weight-held c.set.p8)

  pub c2-exact : weight_in (words_at (table_of (values_of c)) 2) ≡ (weight_of c c.set.p7).value
  unfolding values_of
  c2-exact = ap weight_in (c2-back (values_of c)) ∙ words_back _ (weight-held c.set.p7)

-- 6-7 count; 8-9 total, both high word first
pub counters-read : (c : Controller) → (pair_at (table_of (values_of c)) 6 ≡ c.counters.count) × (pair_at (table_of (values_of c)) 8 ≡ c.counters.total)
unfolding values_of
counters-read c = (count-back (values_of c), total-back (values_of c))
