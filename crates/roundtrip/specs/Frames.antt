-- A body written as a frame and read back. Assumes nothing.
use Rattle.std.specs.Prelude.{◌≡◌, refl, List, [], ◌++◌, ℕ, ◌-◌, length, replicate, Result, Ok, Err}
use Rattle.laws.specs.Pick.{pick}
use Rattle.paper.specs.Answer.{Answer, done, refused, told, same}
use Rattle.paper.specs.Numbers.{R14}
use Rattle.frame.specs.Frame.{framable}
use Rattle.roundtrip.specs.declared.frames.Echo.{Echo}
use Rattle.roundtrip.specs.declared.frames.EchoError.{EchoError}
use Rattle.roundtrip.specs.declared.frames.EchoError.TheVariants as E

-- written and read back: the body that was given, or the writer's refusal
unfoldable pub echo_of : List ℕ → Answer (List ℕ)
echo_of body = pick (framable body) (done body) (refused R14 [])

abbrev pub says_echoed : Result Echo EchoError → Answer Echo
says_echoed (Ok e) = done e
says_echoed (Err E.R14) = refused R14 []

-- two answers that say the same are equal
pub echoed-one : (a b : Result Echo EchoError) → says_echoed a ≡ says_echoed b → a ≡ b
echoed-one (Ok x) (Ok y) e = cc
echoed-one (Ok x) (Err E.R14) e = cc
echoed-one (Err E.R14) (Ok y) e = cc
echoed-one (Err E.R14) (Err E.R14) e = refl

-- a body is handed over in an array of 255 whose places past it are 0
abbrev pub handed : List ℕ → Echo
handed body = record { body = body ++ replicate (255 - length body) 0; len = length body }

-- echo_frame: the body that was given, or R14
abbrev pub EchoesBody : List ℕ → Result Echo EchoError → Type 0
EchoesBody body r = says_echoed r ≡ told handed (echo_of body)

-- two results that both meet the call's contract are equal
pub echo-determined : (body : List ℕ) (a b : Result Echo EchoError) → EchoesBody body a → EchoesBody body b → a ≡ b
echo-determined body a b p q = echoed-one a b (same p q)
