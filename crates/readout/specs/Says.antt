-- The contract of each call, and that two results that both meet it are equal. Assumes nothing.
use Rattle.std.specs.Prelude.{◌≡◌, Bool, List, ℕ, Result}
use Rattle.paper.specs.Answer.{same}
use Rattle.settings.specs.declared.Settings.{Settings}
use Rattle.window.specs.declared.Window.{Window}
use Rattle.dosing.specs.declared.Units.{Units}
use Rattle.dosing.specs.declared.Gates.{Gates}
use Rattle.counters.specs.declared.Counters.{Counters}
use Rattle.registers.specs.Registers.{table_of}
use Rattle.asking.specs.declared.Reply.{Reply}
use Rattle.readout.specs.Readout.{zeroing, reply_for, values_for}

abbrev pub Zeroed : ℕ → Settings → Window → Units → Result Units Units → Type 0
Zeroed op set window old r = r ≡ zeroing op set window old

abbrev pub Replies : ℕ → Settings → Window → Units → ℕ → ℕ → Gates → Bool → Reply → Type 0
Replies op set window z s inputs gates alarm r = r ≡ reply_for op set window z s inputs gates alarm

abbrev pub Lists : Settings → Window → Units → ℕ → ℕ → Gates → Bool → Counters → Bool → List ℕ → Type 0
Lists set window z s inputs gates alarm n link r = r ≡ table_of (values_for set window z s inputs gates alarm n link)

pub zero-determined : (op : ℕ) (set : Settings) (window : Window) (old : Units) (a b : Result Units Units) → Zeroed op set window old a → Zeroed op set window old b → a ≡ b
zero-determined op set window old a b p q = same p q

pub reply-determined : (op : ℕ) (set : Settings) (window : Window) (z : Units) (s inputs : ℕ) (gates : Gates) (alarm : Bool) (a b : Reply) → Replies op set window z s inputs gates alarm a → Replies op set window z s inputs gates alarm b → a ≡ b
reply-determined op set window z s inputs gates alarm a b p q = same p q

pub table-determined : (set : Settings) (window : Window) (z : Units) (s inputs : ℕ) (gates : Gates) (alarm : Bool) (n : Counters) (link : Bool) (a b : List ℕ) → Lists set window z s inputs gates alarm n link a → Lists set window z s inputs gates alarm n link b → a ≡ b
table-determined set window z s inputs gates alarm n link a b p q = same p q
