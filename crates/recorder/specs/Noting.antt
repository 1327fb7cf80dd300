-- What the calls of a recorder and their parts promise. Assumes nothing.
use Rattle.std.specs.Prelude.{◌≡◌}
use Rattle.paper.specs.Answer.{same}
use Rattle.acts.specs.declared.Answer.{Answer}
use Rattle.acts.specs.Makes.{says_act}
use Rattle.clock.specs.declared.Heard.{Heard}
use Rattle.clock.specs.Keeps.{Uncounted}
use Rattle.recorder.specs.Recording.{heard_said, start_of, Carries}
use Rattle.recorder.specs.declared.Recorder.{Recorder}

-- ---- before the first line

pub record Starts (r : Recorder) : Type 0 where
  pub is : r ≡ start_of
  pub carries : Carries r

-- two results that both meet the contract are equal
pub start-determined : {a b : Recorder} → Starts a → Starts b → a ≡ b
start-determined p q = same p.is q.is

-- ---- a line

-- what a call other than a tick was: no counted tick
pub record Hears (a : Answer) (h : Heard) : Type 0 where
  pub is : h ≡ heard_said (says_act a)
  pub uncounted : Uncounted h
