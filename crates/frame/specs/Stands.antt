-- What the reader's state and buffer stand for. Assumes nothing.
use Rattle.std.specs.Prelude.{◌≡◌, ◌==◌, ◌++◌, List, ℕ, ◌+◌, ◌<◌, ◌≤◌, length, take, drop, get_or}
use Rattle.std.specs.List.{position}
use Rattle.std.specs.Option.{unwrap_or}
use Rattle.frame.specs.Read.{Reading, seek, lead, body, mark, ended, run}
use Rattle.frame.specs.declared.State.{State}
use Rattle.frame.specs.declared.State.TheVariants as S

-- the body's bytes stand at the buffer's start
unfoldable pub stands : State → List ℕ → Reading
stands S.Seek buf = seek
stands (S.Lead p) buf = lead p
stands (S.Body p n) buf = body p (take n buf)
stands (S.Mark p n q) buf = mark p (take n buf) q
stands (S.Ended n k) buf = ended (take n buf) k

unfoldable pub fits : State → Type 0
fits S.Seek = Unit {0}
fits (S.Lead p) = Unit {0}
fits (S.Body p n) = n ≤ 255
fits (S.Mark p n q) = n ≤ 255
fits (S.Ended n k) = n ≤ 255

-- a buffer of 255 bytes that holds the state's body
pub record Held (st : State) (buf : List ℕ) : Type 0 where
  pub body-fits : fits st
  pub full : length buf ≡ 255

-- state and buffer stand for this reading
pub record HoldsReading (st : State) (buf : List ℕ) (r : Reading) : Type 0 where
  pub reading : stands st buf ≡ r
  pub held : Held st buf

-- a search from place i on of the bytes s is one from place r on
pub record Skips (s : List ℕ) (i r : ℕ) : Type 0 where
  pub on : i ≤ r
  pub inside : r ≤ length s
  pub same : run seek r (drop r s) ≡ run seek i (drop i s)

-- r bytes from place i on go to the body of n bytes at the buffer's start, and reading goes on behind them
pub record Takes (s : List ℕ) (i n : ℕ) (old new : List ℕ) (r : ℕ) : Type 0 where
  pub inside : i + r ≤ length s
  pub fits : n + r ≤ 255
  pub full : length new ≡ 255
  pub same : (p : ℕ) → run (body p (take (n + r) new)) (i + r) (drop (i + r) s) ≡ run (body p (take n old)) i (drop i s)

-- how many bytes stand before the first FF
abbrev pub before_mark : List ℕ → ℕ
before_mark s = unwrap_or (position (λ b. b == 0xFF) s) (length s)

-- s begins with r bytes none of which is FF
pub record Plain (s : List ℕ) (r : ℕ) : Type 0 where
  pub inside : r ≤ length s
  pub none : (j : ℕ) → j < r → get_or s j 0 ≡ 0xFF → ⊥

-- the first r bytes of s, none of them FF, are put at the start of a room
pub record Copies (s old new : List ℕ) (r : ℕ) : Type 0 where
  pub plain : Plain s r
  pub room : r ≤ length old
  pub left : new ≡ take r s ++ drop r old
