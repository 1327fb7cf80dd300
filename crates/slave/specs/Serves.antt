-- What a frame makes of the box, and what is printed for it. Assumes nothing.
use Rattle.std.specs.Prelude.{◌≡◌, refl, List, ℕ, ◌≤◌, length, take, drop, Result, Ok, Err}
use Rattle.std.proofs.Common.{sym, ap, ap₂, ◌∙◌, arith, length-append, take_at}
use Rattle.laws.specs.Over.{over}
use Rattle.paper.specs.Answer.{Answer, done, refused, fault, told, leaves, bytes_in, same}
use Rattle.paper.specs.AnswerLaws.{refused-done, fault-done, done_refused}
use Rattle.controller.specs.declared.Controller.{Controller}
use Rattle.panel.specs.declared.Polled.{Polled}
use Rattle.panel.specs.declared.PollError.{PollError}
use Rattle.panel.specs.declared.PollError.TheVariants as M
use Rattle.panel.specs.Modbus.{modbus_of}
use Rattle.panel.specs.Says.{says_poll, Polls}
use Rattle.controller.specs.Sound.{Sound}
use Rattle.slave.specs.declared.Replied.{Replied}

-- how many bytes an answer has: none where the frame is silent
unfoldable pub len_of : Result ℕ PollError → ℕ
len_of (Ok len) = len
len_of (Err error) = 0

-- the controller after a frame is the one of the rule, with so much room for a reply
pub record Serves (c : Controller) (frame : List ℕ) (room : ℕ) (d : Controller) : Type 0 where
  pub next : d ≡ (modbus_of c frame room).next
  pub sound : Sound d

-- and what is printed are the bytes of the rule's reply, none where it refuses
pub record Replies (c : Controller) (frame old new : List ℕ) (r : Replied) : Type 0 where
  pub serves : Serves c frame (length old) r.next
  pub prints : take r.len new ≡ bytes_in (modbus_of c frame (length old)).answer
  pub within : r.len ≤ length new

-- what the box left in the buffer begins with the bytes of the reply, so many as its answer says
pub printed : (a : Result ℕ PollError) (rule : Answer (List ℕ)) (old : List ℕ) → says_poll a ≡ told length rule → (take (len_of a) (leaves rule old) ≡ bytes_in rule) × (len_of a ≤ length (leaves rule old))
unfolding len_of told leaves over bytes_in
printed (Ok n) (done bytes) old e = let p : n ≡ length bytes = cc in (take_at bytes (drop (length bytes) old) n (sym p), omega (arith, length-append bytes (drop (length bytes) old)))
printed (Ok n) (refused m vs) old e = done_refused e
printed (Ok n) (fault m vs) old e = fault-done (sym e)
printed (Err M.R17) (done bytes) old e = refused-done e
printed (Err M.R17) (refused m vs) old e = (refl, omega arith)
printed (Err M.R17) (fault m vs) old e = (refl, omega arith)
printed (Err M.R8) (done bytes) old e = refused-done e
printed (Err M.R8) (refused m vs) old e = (refl, omega arith)
printed (Err M.R8) (fault m vs) old e = (refl, omega arith)

-- so a call of the box gives what is printed
pub replies : {c : Controller} {frame old new : List ℕ} {len : ℕ} (r : Polled) → Polls c frame old new r → len ≡ len_of r.answer → Replies c frame old new (record { next = r.next; len = len })
replies {c} {frame} {old} {new} {len} r p e =
    let rule = (modbus_of c frame (length old)).answer in
    let q = printed r.answer rule old p.fills.says in
    record {
      serves = record { next = p.next; sound = p.sound };
      prints = ap₂ (λ (n : ℕ) (l : List ℕ). take n l) e p.fills.left ∙ q.0;
      within = omega (arith, e, ap length p.fills.left, q.1);
    }

-- two results that both meet the contract are equal in the controller and in what is printed
pub replies-determined : {c : Controller} {frame old new new' : List ℕ} {r s : Replied} → Replies c frame old new r → Replies c frame old new' s
    → (r.next ≡ s.next) × (take r.len new ≡ take s.len new')
replies-determined p q = (same p.serves.next q.serves.next, same p.prints q.prints)
