-- What the answer to a MODBUS frame says in the paper's words, and the contract. Assumes nothing.
use Rattle.std.specs.Prelude.{◌≡◌, List, [], ℕ, length, Result, Ok, Err}
use Rattle.paper.specs.Answer.{Answer, done, refused, Fills}
use Rattle.paper.specs.Numbers.{R8, R17}
use Rattle.controller.specs.Sound.{Sound}
use Rattle.controller.specs.declared.Controller.{Controller}
use Rattle.panel.specs.Modbus.{modbus_of}
use Rattle.panel.specs.declared.PollError.{PollError}
use Rattle.panel.specs.declared.PollError.TheVariants as M
use Rattle.panel.specs.declared.Polled.{Polled}

-- the reply's length; R17 and R8 have no place
abbrev pub says_poll : Result ℕ PollError → Answer ℕ
says_poll (Ok len) = done len
says_poll (Err M.R17) = refused R17 []
says_poll (Err M.R8) = refused R8 []

-- the next controller, the answer and the lent memory are the rule's, and the next controller is sound
pub record Polls (c : Controller) (frame old new : List ℕ) (r : Polled) : Type 0 where
  pub next : r.next ≡ (modbus_of c frame (length old)).next
  pub fills : Fills (says_poll r.answer) (modbus_of c frame (length old)).answer old new
  pub sound : Sound r.next
