-- A MODBUS frame, put together from what its stages give. Assumes nothing.
use Rattle.std.proofs.Common.{◌≢◌}
use mathlib.Core.Path.{◌≡◌, refl, sym, ap, subst, ◌∙◌}
use mathlib.Core.Bool.{Bool}
use mathlib.Core.List.{List, []}
use Prim.Native.Nat.{ℕ}
use lib.ListN.{length}
use Rattle.std.specs.Prelude.{Result, Ok, Err}
use Rattle.paper.specs.Answer.{Answer, done, refused, fault, told, Fills}
use Rattle.paper.specs.AnswerLaws.{done_refused, fault-done, told-refused, fills-refused}
use Rattle.paper.specs.Numbers.{R8, R17}
use Rattle.registers.specs.Registers.{table_of}
use Rattle.modbus.specs.Asks.{Ask, registers, link, exception}
use Rattle.modbus.specs.Replies.{served_of, link_after}
use Rattle.modbus.specs.Says.{heard_as, says_hearing, says_sent, Hears, Serves}
use Rattle.modbus.specs.declared.Asked.{Asked}
use Rattle.modbus.specs.declared.HearError.{HearError}
use Rattle.modbus.specs.declared.HearError.TheVariants as H
use Rattle.modbus.specs.declared.SendError.{SendError}
use Rattle.modbus.specs.declared.SendError.TheVariants as S
use Rattle.scale.specs.Scale.{as_window}
use Rattle.scale.specs.Laws.{lent-window}
use Rattle.readout.specs.Readout.{values_for}
use Rattle.readout.specs.Laws.{values-in}
use Rattle.controller.specs.State.{with_link}
use Rattle.controller.specs.Tick.{Result as Given}
use Rattle.setup.specs.Setup.{link_of}
use Rattle.panel.specs.Modbus.{values_of, linked_by, served_by, modbus_of}
use Rattle.panel.specs.Laws.{silent-so, heard-so, modbus-refused, modbus-sound, weight-held}
use Rattle.controller.specs.Promises.{weight-writable}
use Rattle.controller.specs.Sound.{Sound}
use Rattle.panel.specs.Says.{says_poll, Polls}
use Rattle.controller.specs.declared.Controller.{Controller}
use Rattle.panel.specs.declared.PollError.TheVariants as M
use Rattle.panel.specs.declared.Polled.{Polled}

-- the registers of a sound controller
pub registers-so : (c : Controller) {words : List ℕ} → Sound c → words ≡ table_of (values_for c.set (as_window c.window.samples c.window.held) c.z c.s c.inputs c.gates c.alarm c.counters c.link) → words ≡ table_of (values_of c)
unfolding values_of
registers-so c s e =
    let fine = weight-writable c c.set.p8 s in
    let coarse = weight-writable c c.set.p7 s in
    rw (lent-window c.window s.places) at e ∙ ap table_of (values-in c.set c.window c.z c.s c.inputs c.gates c.alarm fine coarse c.counters c.link (weight-held c s c.set.p8) (weight-held c s c.set.p7))

-- serving answers what the rule gives
served-answer : (c : Controller) (ask : Ask) (a : Answer (List ℕ)) → (served_by c ask a).answer ≡ a
unfolding served_by
served-answer c ask (done bytes) = refl
served-answer c ask (refused n vs) = refl
served-answer c ask (fault n vs) = refl

-- the link start after what was asked
linked-so : (c : Controller) (ask : Ask) → linked_by c ask ≡ with_link (link_after ask c.link) c
unfolding linked_by link_of link_after
linked-so c (registers start quantity) = refl
linked-so c (link on) = refl
linked-so c (exception function number) = refl

served-next : (c : Controller) (ask : Ask) (a : Answer (List ℕ)) {n : ℕ} → done n ≡ told length a → (served_by c ask a).next ≡ with_link (link_after ask c.link) c
unfolding served_by told
served-next c ask (done bytes) e = linked-so c ask
served-next c ask (refused n vs) e = done_refused e
served-next c ask (fault n vs) e = fault-done (sym e)

-- what is no Ok is an Err
not-ok : {A E : Type 0} {Q : Type 0} (r : Result A E) → ((x : A) → r ≢ Ok x) → ((e : E) → r ≡ Err e → Q) → Q
not-ok (Ok x) never go = absurd (never x refl)
not-ok (Err e) never go = go e refl

module _ (c : Controller) (frame old : List ℕ) (s : Sound c) (hearing : Result Asked HearError) (heard : Hears c.set.address frame hearing) where
  -- R17
  silent-as : {r : Polled} (e : HearError) → hearing ≡ Err e → r.next ≡ c → r.answer ≡ Err M.R17 → Polls c frame old old r
  silent-as {r} H.R17 h n a =
      let so = silent-so c frame (length old) R17 [] (sym heard ∙ ap says_hearing h) in
      record {
        next = n ∙ sym (ap (λ (x : Given (List ℕ)). x.next) so);
        fills = rw a (fills-refused (ap (λ (x : Given (List ℕ)). x.answer) so) old);
        sound = subst Sound (sym n) s;
      }

  pub silent : {r : Polled} → ((asked : Asked) → hearing ≢ Ok asked) → r.next ≡ c → r.answer ≡ Err M.R17 → Polls c frame old old r
  silent never n a = not-ok hearing never (λ e h. silent-as e h n a)

  module _ (asked : Asked) (h : hearing ≡ Ok asked) {words : List ℕ} (table : words ≡ table_of (values_of c)) (w : Result ℕ SendError) {new : List ℕ} (serves : Serves c.set.address words asked old new w) where
    abbrev rule : Answer (List ℕ)
    rule = served_of c.set.address (table_of (values_of c)) (heard_as asked) (length old)

    so : modbus_of c frame (length old) ≡ served_by c (heard_as asked).ask rule
    so = heard-so c frame (length old) (heard_as asked) (sym heard ∙ ap says_hearing h)

    answers : (modbus_of c frame (length old)).answer ≡ rule
    answers = ap (λ (r : Given (List ℕ)). r.answer) so ∙ served-answer c (heard_as asked).ask rule

    filled : Fills (says_sent w) rule old new
    filled = subst (λ (t : List ℕ). Fills (says_sent w) (served_of c.set.address t (heard_as asked) (length old)) old new) table serves

    polls : {r : Polled} → says_poll r.answer ≡ says_sent w → r.next ≡ (modbus_of c frame (length old)).next → Polls c frame old new r
    polls e n =
        record {
          next = n;
          fills = record { says = e ∙ filled.says ∙ ap (told length) (sym answers); left = filled.left ∙ rw answers };
          sound = subst Sound (sym n) (modbus-sound c frame (length old) s);
        }

    -- R8
    too_short-as : {r : Polled} (e : SendError) → w ≡ Err e → r.next ≡ c → r.answer ≡ Err M.R8 → Polls c frame old new r
    too_short-as S.R8 k n a =
        let none : rule ≡ refused R8 [] = told-refused length rule R8 [] (sym filled.says ∙ ap says_sent k) in
        polls (ap says_poll a ∙ sym (ap says_sent k)) (n ∙ sym (modbus-refused c frame (length old) R8 [] (answers ∙ none)))

    pub too_short : {r : Polled} → ((len : ℕ) → w ≢ Ok len) → r.next ≡ c → r.answer ≡ Err M.R8 → Polls c frame old new r
    too_short never n a = not-ok w never (λ e k. too_short-as e k n a)

    pub replied-to : {r : Polled} {len : ℕ} {on : Bool} → w ≡ Ok len → on ≡ link_after (heard_as asked).ask c.link → r.next ≡ with_link on c → r.answer ≡ Ok len → Polls c frame old new r
    replied-to e l n a =
        let next = ap (λ (x : Given (List ℕ)). x.next) so ∙ served-next c (heard_as asked).ask rule (sym (ap says_sent e) ∙ filled.says) in
        polls (ap says_poll a ∙ sym (ap says_sent e)) (n ∙ ap (λ (b : Bool). with_link b c) l ∙ sym next)
