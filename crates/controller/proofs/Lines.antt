-- A line request, put together from what its stages give. Assumes nothing.
use Rattle.std.proofs.Common.{◌≢◌}
use mathlib.Core.Path.{◌≡◌, refl, sym, ap, subst, ◌∙◌}
use mathlib.Core.Bool.{Bool, true, false, ◌&&◌}
use mathlib.Core.List.{List, [], ◌∷◌}
use Prim.Native.Nat.{ℕ}
use lib.Dec.{leb, eqb}
use lib.ListN.{length}
use Rattle.laws.specs.Pick.{pick, pick-t, pick-f, pick-map}
use Rattle.paper.specs.Answer.{Answer, done, refused, told, on_done, in_room, leaves, Fills}
use Rattle.paper.specs.AnswerLaws.{done_refused, passed}
use Rattle.paper.specs.Numbers.{R3, R4, R5, R6, R7, R8, R9}
use Rattle.settings.specs.Good.{good-ranges}
use Rattle.window.specs.declared.Window.{Window}
use Rattle.dosing.specs.declared.Units.{Units}
use Rattle.scale.specs.Scale.{as_window}
use Rattle.scale.specs.Laws.{lent-window}
use Rattle.std.specs.Prelude.{Ok, Err}
use Rattle.std.specs.Prelude as P
use Rattle.asking.specs.declared.SendError.{SendError}
use Rattle.asking.specs.declared.RequestError.{RequestError}
use Rattle.asking.specs.declared.RequestError.TheVariants as E
use Rattle.message.specs.declared.Form.{Form}
use Rattle.message.specs.declared.Parts.{Parts}
use Rattle.asking.specs.declared.Heard.{Heard}
use Rattle.message.specs.declared.SplitError.{SplitError}
use Rattle.message.specs.declared.SplitError.TheVariants as B
use Rattle.asking.specs.Asking.{Asked, asked_by, heard_of, ours, address_of, known, bare, code_of, time_of, zero_of, ask_of, reply_bytes}
use Rattle.asking.specs.Laws.{reply-framed}
use Rattle.asking.specs.Says.{Sends, says_error, says_body, says_heard, says_parts, says_stage, says_sent, stage-one, sent-one}
use Rattle.asking.specs.declared.Reply.{Reply}
use Rattle.readout.specs.Readout.{may_zero, zero_to, reply_for}
use Rattle.readout.specs.Says.{Zeroed}
use Rattle.readout.specs.Laws.{reply-bytes, zeroing-may, zeroing-to}
use Rattle.std.specs.Result.{is_ok, result_unwrap_or}
use Rattle.controller.specs.State.{with_z}
use Rattle.controller.specs.Tick.{Result, still}
use Rattle.controller.specs.Ready.{is_ready}
use Rattle.controller.specs.Line.{timely, allowed, asked_of, reply_data, reply_frame, zeroed_by, Replied, replied, replies_to, request_of}
use Rattle.controller.specs.Sound.{Sound}
use Rattle.controller.specs.Says.{says_reply, place_and_length, bytes_of, Replies}
use Rattle.controller.specs.Keeps.{request-sound}
use Rattle.controller.specs.Promises.{weight-writable}
use Rattle.controller.specs.declared.Controller.{Controller}
use Rattle.controller.specs.declared.Requested.{Requested}

-- ---- the stages

-- a refusal is the answer, whatever comes next
on-error : {A B : Type 0} (e : RequestError) (k : A → Answer B) → on_done (says_error e) k ≡ says_error e
unfolding on_done
on-error (E.R9 place) k = refl
on-error (E.R6 place) k = refl
on-error (E.R5 place) k = refl
on-error (E.R7 place) k = refl
on-error (E.R3 place) k = refl
on-error (E.R4 place) k = refl
on-error (E.R8 place) k = refl

-- a stage that does not pass gives its own refusal
refusal : (b : Bool) (n : ℕ) (vs : List ℕ) (r : P.Result (Unit {0}) RequestError) → ((u : Unit {0}) → r ≢ Ok u) → says_stage r ≡ pick b (done tt) (refused n vs)
    → ◌≡◌ {A = Answer (Unit {0})} (pick b (done tt) (refused n vs)) (refused n vs)
unfolding pick
refusal true n vs r never e = absurd (never tt (stage-one r (Ok tt) e))
refusal false n vs r never e = refl

-- what is heard of a finished body
pub heard-body : (s : List ℕ) (h : Heard) {r : P.Result Parts SplitError} → says_heard h ≡ heard_of s → h.body ≡ P.Some r → says_parts h.place r ≡ heard_of s
heard-body s h e i = rw i at e

pub heard-parts : (s : List ℕ) (h : Heard) {r : P.Result Parts SplitError} {p : Parts} → says_heard h ≡ heard_of s → h.body ≡ P.Some r → r ≡ Ok p → done (h.place, p) ≡ heard_of s
heard-parts s h e i k = sym (ap (says_parts h.place) k) ∙ heard-body s h e i

-- R9, R6
pub not-heard : (c : Controller) (s : List ℕ) (e : RequestError) → says_error e ≡ heard_of s → asked_of c s ≡ says_error e
unfolding asked_of ask_of
not-heard c s e h = rw (← h) (simp on-error)

pub unfinished : (c : Controller) (s : List ℕ) {place : ℕ} (b : P.Option (P.Result Parts SplitError)) → ((r : P.Result Parts SplitError) → b ≢ P.Some r) → says_body place b ≡ heard_of s → asked_of c s ≡ refused R9 (place ∷ [])
unfinished c s (P.Some r) never h = absurd (never r refl)
unfinished c s {place} P.None never h = not-heard c s (E.R9 place) h

pub unfit : (c : Controller) (s : List ℕ) {place : ℕ} (r : P.Result Parts SplitError) → ((p : Parts) → r ≢ Ok p) → says_parts place r ≡ heard_of s → asked_of c s ≡ refused R6 (place ∷ [])
unfit c s (Ok p) never h = absurd (never p refl)
unfit c s {place} (P.Err B.R6) never h = not-heard c s (E.R6 place) h

module _ (c : Controller) (s : List ℕ) {place : ℕ} {p : Parts} (heard : done (place, p) ≡ heard_of s) where
  by-stages : asked_of c s
      ≡ on_done (on_done (address_of place p.form c.set.address c.set.serial) (λ u. on_done (code_of place p) (λ v. done (asked_by place p)))) (λ a. allowed c a)
  unfolding asked_of ask_of on_done
  by-stages = rw (← heard)

  pub not_ours : (r : P.Result (Unit {0}) RequestError) → ((u : Unit {0}) → r ≢ Ok u) → says_stage r ≡ address_of place p.form c.set.address c.set.serial → asked_of c s ≡ refused R5 (place ∷ [])
  unfolding address_of on_done
  not_ours r never e = by-stages ∙ rw (refusal (ours p.form c.set.address c.set.serial) R5 (place ∷ []) r never e)

  module _ (us : done tt ≡ address_of place p.form c.set.address c.set.serial) where
    by-code : asked_of c s ≡ on_done (on_done (code_of place p) (λ v. done (asked_by place p))) (λ a. allowed c a)
    unfolding on_done
    by-code = by-stages ∙ rw (← us)

    pub not_known : (r : P.Result (Unit {0}) RequestError) → ((u : Unit {0}) → r ≢ Ok u) → says_stage r ≡ code_of place p → asked_of c s ≡ refused R7 (place ∷ [])
    unfolding code_of on_done
    not_known r never e = by-code ∙ rw (refusal (known p.operation && bare p) R7 (place ∷ []) r never e)

    module _ (good : done tt ≡ code_of place p) where
      by-time : asked_of c s ≡ on_done (time_of place (timely p.operation (is_ready c))) (λ u. on_done (zero_of place (may_zero p.operation c.set c.window)) (λ v. done (asked_by place p)))
      unfolding on_done allowed
      by-time = by-code ∙ rw (← good)

      pub not-timed : (r : P.Result (Unit {0}) RequestError) → ((u : Unit {0}) → r ≢ Ok u) → says_stage r ≡ time_of place (timely p.operation (is_ready c)) → asked_of c s ≡ refused R3 (place ∷ [])
      unfolding time_of on_done
      not-timed r never e = by-time ∙ rw (refusal (timely p.operation (is_ready c)) R3 (place ∷ []) r never e)

      module _ (timed : done tt ≡ time_of place (timely p.operation (is_ready c))) where
        by-zero : asked_of c s ≡ on_done (zero_of place (may_zero p.operation c.set c.window)) (λ v. done (asked_by place p))
        unfolding on_done
        by-zero = by-time ∙ rw (← timed)

        pub not-zeroable : (r : P.Result (Unit {0}) RequestError) → ((u : Unit {0}) → r ≢ Ok u) → says_stage r ≡ zero_of place (may_zero p.operation c.set c.window) → asked_of c s ≡ refused R4 (place ∷ [])
        unfolding zero_of on_done
        not-zeroable r never e = by-zero ∙ rw (refusal (may_zero p.operation c.set c.window) R4 (place ∷ []) r never e)

        -- no stage refuses
        pub is-asked : done tt ≡ zero_of place (may_zero p.operation c.set c.window) → asked_of c s ≡ done (asked_by place p)
        unfolding on_done
        is-asked zeroed = by-zero ∙ rw (← zeroed)

-- ---- what the samples lent give

module _ (c : Controller) (s : Sound c) where
  abbrev lent : Window
  lent = as_window c.window.samples c.window.held

  own : lent ≡ c.window
  own = lent-window c.window s.places

  -- Z is given where the samples allow the request
  pub may-zero : (op : ℕ) {r : P.Result Units Units} → Zeroed op c.set lent c.z r → is_ok r ≡ may_zero op c.set c.window
  may-zero op e = ap is_ok (rw own at e) ∙ zeroing-may op c.set c.window c.z

  -- Z after a request that is answered
  pub zeroed-so : (op place : ℕ) {r : P.Result Units Units} {z : Units} → done tt ≡ zero_of place (may_zero op c.set c.window) → Zeroed op c.set lent c.z r → z ≡ result_unwrap_or r c.z → with_z z c ≡ zeroed_by c op
  unfolding zero_of zero_to zeroed_by
  zeroed-so op place {r} m e g =
      let may = (passed (may_zero op c.set c.window) (done tt) R4 (place ∷ []) tt (sym m)).0 in
      let given : r ≡ Ok (zero_to op c.set c.window c.z) = (rw own at e) ∙ zeroing-to op c.set c.window c.z may in
      ap (λ (z : Units). with_z z c) (rw given at g) ∙ pick-map (λ (z : Units). with_z z c) (eqb op 0xC0) _ c.z

  -- the data of a sound controller's reply
  reply-data : (op : ℕ) {holds : Reply} → holds ≡ reply_for op c.set lent c.z c.s c.inputs c.gates c.alarm → reply_bytes holds ≡ reply_data c op
  unfolding reply_data
  reply-data op e =
      rw (e, own) (reply-bytes c.set c.window c.z c.s c.inputs c.gates c.alarm (weight-writable c c.set.p8 s) (weight-writable c c.set.p7 s) op)

  -- a reply to what is ours can always be framed
  pub framed : (form : Form) (op place : ℕ) (holds : Reply) (w : P.Result ℕ SendError) {old new : List ℕ}
      → done tt ≡ address_of place form c.set.address c.set.serial → holds ≡ reply_for op c.set lent c.z c.s c.inputs c.gates c.alarm → Sends form op holds old new w
      → Fills (says_sent w) (in_room [] (length old) (reply_frame c (record { place = place; form = form; operation = op }))) old new
  unfolding address_of reply_frame
  framed form op place holds w {old} {new} us e fills =
      let r = good-ranges c.set s.set in
      let mine = (passed (ours form c.set.address c.set.serial) (done tt) R5 (place ∷ []) tt (sym us)).0 in
      rw (← reply-data op e) (subst (λ (x : Answer (List ℕ)). Fills (says_sent w) x old new) (reply-framed c.set.address c.set.serial r.address.0 r.address.1 form op holds (length old) r.serial mine) fills)

-- ---- the contract

module _ (c : Controller) (s old : List ℕ) (sound : Sound c) where
  replies : {new : List ℕ} {r : Requested} (x : Result Replied) → request_of c s (length old) ≡ x
      → r.next ≡ x.next → says_reply r.answer ≡ told place_and_length x.answer → new ≡ leaves (told bytes_of x.answer) old
      → Replies c s old new r
  replies x e n a l =
      let next = n ∙ ap (λ (y : Result Replied). y.next) (sym e) in
      record {
        next = next;
        says = a ∙ ap (λ (y : Result Replied). told place_and_length y.answer) (sym e);
        left = l ∙ ap (λ (y : Result Replied). leaves (told bytes_of y.answer) old) (sym e);
        sound = subst Sound (sym next) (request-sound c s (length old) sound);
      }

  refused-so : {n : ℕ} {vs : List ℕ} → asked_of c s ≡ refused n vs → request_of c s (length old) ≡ still c (refused n vs)
  unfolding request_of replies_to
  refused-so e = rw e

  refuses-as : {r : Requested} {n : ℕ} {vs : List ℕ} → asked_of c s ≡ refused n vs
      → r.next ≡ c → says_reply r.answer ≡ refused n vs → Replies c s old old r
  unfolding told leaves
  refuses-as e n a = replies (still c (refused _ _)) (refused-so e) n a refl

  pub refuses : (e : RequestError) → asked_of c s ≡ says_error e → Replies c s old old (record { next = c; answer = Err e })
  refuses (E.R9 place) h = refuses-as h refl refl
  refuses (E.R6 place) h = refuses-as h refl refl
  refuses (E.R5 place) h = refuses-as h refl refl
  refuses (E.R7 place) h = refuses-as h refl refl
  refuses (E.R3 place) h = refuses-as h refl refl
  refuses (E.R4 place) h = refuses-as h refl refl
  refuses (E.R8 place) h = refuses-as h refl refl

  -- what the writer gives
  module _ {a : Asked} (w : P.Result ℕ SendError) {new : List ℕ} (e : asked_of c s ≡ done a) (fills : Fills (says_sent w) (in_room [] (length old) (reply_frame c a)) old new) where
    asked-so : request_of c s (length old) ≡ replied c a (length old)
    unfolding request_of replies_to
    asked-so = rw e

    pub no_room : {r : Requested} → ((n : ℕ) → w ≢ Ok n) → r.next ≡ c → says_reply r.answer ≡ refused R8 (a.place ∷ []) → Replies c s old new r
    unfolding replied in_room told leaves
    no_room {r} k n h = go (leb (length (reply_frame c a)) (length old)) refl
      where
        go : (t : Bool) → leb (length (reply_frame c a)) (length old) ≡ t → Replies c s old new r
        go true l =
            absurd (k _ (sent-one w (Ok (length (reply_frame c a))) (fills.says ∙ rw (pick-t _ _ _ l))))
        go false l = replies (still c (refused R8 (a.place ∷ []))) (asked-so ∙ pick-f _ _ _ l) n h (fills.left ∙ rw (pick-f _ _ _ l))

    pub sends : {r : Requested} {n : ℕ} → w ≡ Ok n → r.next ≡ zeroed_by c a.operation → says_reply r.answer ≡ done (a.place, n) → Replies c s old new r
    unfolding replied in_room told leaves
    sends {r} {n} k m h = go (leb (length (reply_frame c a)) (length old)) refl
      where
        go : (t : Bool) → leb (length (reply_frame c a)) (length old) ≡ t → Replies c s old new r
        go true l =
            let says : done n ≡ done (length (reply_frame c a)) = sym (ap says_sent k) ∙ fills.says ∙ rw (pick-t _ _ _ l) in
            let size : n ≡ length (reply_frame c a) = cc in
            replies (record { next = zeroed_by c a.operation; answer = done (record { place = a.place; bytes = reply_frame c a }) })
            (asked-so ∙ pick-t _ _ _ l) m (rw size at h) (fills.left ∙ rw (pick-t _ _ _ l))
        go false l =
            let says : done n ≡ refused R8 [] = sym (ap says_sent k) ∙ fills.says ∙ rw (pick-f _ _ _ l) in
            done_refused says
