-- A journal line of either form and the V line, written and read back. Assumes nothing.
use Rattle.std.specs.Prelude.{◌≡◌, refl, Result, Ok, Err, [], ◌∷◌}
use Rattle.laws.specs.Pick.{pick}
use Rattle.paper.specs.Answer.{Answer, done, refused, same}
use Rattle.paper.specs.Numbers.{R10}
use Rattle.journal.specs.Line.{in_range, version}
use Rattle.journal.specs.Says.{One, says_one, one-one}
use Rattle.journal.specs.declared.Form.{Form}
use Rattle.journal.specs.declared.Line.{Line}
use Rattle.journal.specs.declared.LineError.{LineError}
use Rattle.journal.specs.declared.LineError.TheVariants as E

-- the line that was read back, or a refusal
abbrev pub Echoed : Type 0
Echoed = Result Line LineError

-- written and read back: the line that was given, or the writer's refusal
unfoldable pub echo_of : Form → Line → Answer Line
echo_of f l = pick (in_range f l) (done l) (refused R10 (0 ∷ []))

-- R10 is the writer's, and carries line 0
abbrev pub says_echoed : Echoed → Answer Line
says_echoed (Ok l) = done l
says_echoed (Err E.R10) = refused R10 (0 ∷ [])

-- two answers that say the same are equal
pub echoed-one : (a b : Echoed) → says_echoed a ≡ says_echoed b → a ≡ b
echoed-one (Ok l) (Ok m) e = cc
echoed-one (Ok l) (Err E.R10) e = cc
echoed-one (Err E.R10) (Ok m) e = cc
echoed-one (Err E.R10) (Err E.R10) e = refl

-- echo: the line that was given, or R10
abbrev pub EchoesLine : Form → Line → Echoed → Type 0
EchoesLine f l r = says_echoed r ≡ echo_of f l

-- echo_version: the V line
abbrev pub EchoesVersion : One → Type 0
EchoesVersion r = says_one r ≡ done version

-- two results that both meet a call's contract are equal
pub echo-determined : (f : Form) (l : Line) (a b : Echoed) → EchoesLine f l a → EchoesLine f l b → a ≡ b
echo-determined f l a b p q = echoed-one a b (same p q)

pub echo-version-determined : (a b : One) → EchoesVersion a → EchoesVersion b → a ≡ b
echo-version-determined a b p q = one-one a b (same p q)
