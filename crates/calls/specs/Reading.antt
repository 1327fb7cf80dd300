-- What the steps of the reader answer: fields at a place of a line, and a line's call. Assumes nothing.
use Rattle.std.specs.Prelude.{◌≡◌, Option, Some, None, List, [], ℕ, ◌≤◌, leb, length, take, drop}
use Rattle.laws.specs.Pick.{pick}
use Rattle.laws.specs.Decimal.{Parsed, good, bad}
use Rattle.operands.specs.Bytes.{carried}
use Rattle.calls.specs.Call.{Call, room_at, at_end}
use Rattle.calls.specs.Reads.{as_call, size_of, Within}
use Rattle.calls.specs.declared.Call as declared
use Rattle.calls.specs.declared.Call.TheVariants.{Unknown}

-- the numbers of a row, and the bytes of s that follow them
abbrev pub leads_row : List ℕ → Option (List ℕ × ℕ) → Parsed (List ℕ)
leads_row s (Some (row, next)) = good row (drop next s)
leads_row s None = bad

pub record Counts (s : List ℕ) (rule : Parsed (List ℕ)) (r : Option (List ℕ × ℕ)) : Type 0 where
  pub reads : rule ≡ leads_row s r

-- a call where the line ends at a place
pub record Ended (s : List ℕ) (end : ℕ) (call r : declared.Call) : Type 0 where
  pub is : r ≡ pick (leb (length s) end) call Unknown

-- the answer is the call of a rule with nothing behind it, its bytes the first of those that the line carries
pub record Asks (s : List ℕ) (rule : Parsed Call) (r : declared.Call) : Type 0 where
  pub reads : at_end rule ≡ as_call (carried s) r
  pub carries : size_of r ≤ length (carried s)
  pub within : Within r

-- the answer is a call of the first n bytes and a number
pub record Carries (call : List ℕ → ℕ → Call) (n number : ℕ) (r : declared.Call) : Type 0 where
  pub reads : (s : List ℕ) → good (call (take n s) number) [] ≡ as_call s r
  pub size : size_of r ≡ n
  pub within : Within r

-- the answer is the call of bytes and a number of at most so much, whatever call the one that is made of them stands for
abbrev pub AsksBy : List ℕ → ℕ → (ℕ → ℕ → declared.Call → Type 0) → declared.Call → Type 0
AsksBy s most made r =
    (call : List ℕ → ℕ → Call) → ((n number : ℕ) (c : declared.Call) → n ≤ 2048 → number ≤ most → made n number c → Carries call n number c) → Asks s (room_at most call (drop 1 s)) r
