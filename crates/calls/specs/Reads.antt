-- The call that a line is read as, and what the reader promises. Assumes nothing.
use Rattle.std.specs.Prelude.{◌≡◌, refl, Bool, ◌&&◌, List, [], ℕ, ◌≤◌, take, drop}
use Rattle.std.proofs.Common.{sym, ◌∙◌, arith, length-take-le}
use Rattle.std.proofs.Math.Path.{ap}
use Rattle.std.proofs.Math.Decide.{dec_lt}
use Rattle.std.proofs.Math.Dec.{leb}
use Rattle.std.proofs.Math.ListN.{length, length-append, length-drop, length-take}
use borrow.Author.Tests.{le-leb, lt-leb}
use Rattle.laws.specs.Pick.{pick, pick-t, pick-f}
use Rattle.laws.specs.Over.{over}
use Rattle.laws.specs.Decimal.{Parsed, good, bad}
use Rattle.paper.specs.Answer.{same}
use Rattle.text.specs.ScanLaws.{bad-good}
use Rattle.calls.specs.Call.{Call, tick, request, modbus, order, item, bytes, call_of}
use Rattle.calls.specs.declared.Call as declared
use Rattle.calls.specs.declared.Call.TheVariants as C

-- the call that an answer of the reader stands for; its bytes are the first of `bytes`
unfoldable pub as_call : List ℕ → declared.Call → Parsed Call
as_call s (C.Tick x i) = good (tick x i) []
as_call s (C.Request n room) = good (request (take n s) room) []
as_call s (C.Modbus n room) = good (modbus (take n s) room) []
as_call s (C.Order o) = good (order o) []
as_call s (C.Item i) = good (item i) []
as_call s (C.Bytes u n k) = good (bytes u (take n s) k) []
as_call s C.Unknown = bad

-- the answer of the reader that stands for a call, and the bytes that the call carries
unfoldable pub parts : Parsed Call → declared.Call × List ℕ
parts (good (tick x i) rest) = (C.Tick x i, [])
parts (good (request s room) rest) = (C.Request (length s) room, s)
parts (good (modbus s room) rest) = (C.Modbus (length s) room, s)
parts (good (order o) rest) = (C.Order o, [])
parts (good (item i) rest) = (C.Item i, [])
parts (good (bytes u s k) rest) = (C.Bytes u (length s) k, s)
parts bad = (C.Unknown, [])

abbrev pub bytes_in : Parsed Call → List ℕ
bytes_in p = (parts p).1

-- how many bytes an answer carries
unfoldable pub size_of : declared.Call → ℕ
size_of (C.Tick x i) = 0
size_of (C.Request n room) = n
size_of (C.Modbus n room) = n
size_of (C.Order o) = 0
size_of (C.Item i) = 0
size_of (C.Bytes u n k) = n
size_of C.Unknown = 0

abbrev pub Sizes : declared.Call → ℕ → Type 0
Sizes call r = r ≡ size_of call

pub size-determined : (call : declared.Call) {r s : ℕ} → Sizes call r → Sizes call s → r ≡ s
size-determined call p q = same p q

-- a line of at most 4,095 bytes, its LF left out, read with room for the bytes of every line; else nothing is asked
unfoldable pub read_in : ℕ → List ℕ → Parsed Call
read_in room l = pick (leb 2048 room && leb (length l) 4095) (call_of l) bad

-- the bytes lie in a buffer of 2,048, and a reply has at most 64
unfoldable pub Within : declared.Call → Type 0
Within (C.Tick x i) = Unit {0}
Within (C.Request n room) = (n ≤ 2048) × (room ≤ 64)
Within (C.Modbus n room) = (n ≤ 2048) × (room ≤ 64)
Within (C.Order o) = Unit {0}
Within (C.Item i) = Unit {0}
Within (C.Bytes u n k) = n ≤ 2048
Within C.Unknown = Unit {0}

-- every call but a tick
abbrev pub Unticked : declared.Call → Type 0
Unticked (C.Tick x i) = ⊥
Unticked (C.Request n room) = Unit {0}
Unticked (C.Modbus n room) = Unit {0}
Unticked (C.Order o) = Unit {0}
Unticked (C.Item i) = Unit {0}
Unticked (C.Bytes u n k) = Unit {0}
Unticked C.Unknown = Unit {0}

-- the answer is the line's call; its bytes stand at the buffer's start, the rest of which is as it was: all of it where the line is no call
pub record ReadsCall (l old new : List ℕ) (r : declared.Call) : Type 0 where
  pub reads : as_call new r ≡ read_in (length old) l
  pub left : new ≡ over (bytes_in (read_in (length old) l)) old
  pub within : Within r

-- an answer's bytes are the first of the buffer, and with them it is determined by the call that it stands for
pub record Known (r : declared.Call) : Type 0 where
  pub bytes : (b : List ℕ) → bytes_in (as_call b r) ≡ take (size_of r) b
  pub same : (a b : List ℕ) → take (size_of r) a ≡ take (size_of r) b → as_call a r ≡ as_call b r
  pub few : Within r → size_of r ≤ 2048
  pub none : (b : List ℕ) → as_call b r ≡ bad → size_of r ≡ 0
  pub back : (b : List ℕ) → size_of r ≤ length b → (parts (as_call b r)).0 ≡ r

pub known : (r : declared.Call) → Known r
unfolding as_call parts size_of Within
known (C.Tick x i) = record { bytes = λ b. refl; same = λ a b e. refl; few = λ w. omega arith; none = λ b e. refl; back = λ b i. refl }
known (C.Request n room) = record { bytes = λ b. refl; same = λ a b e. ap (λ (s : List ℕ). good (request s room) []) e; few = λ w. w.0; none = λ b e. bad-good (sym e); back = λ b i. ap (λ (m : ℕ). C.Request m room) (length-take-le n b i) }
known (C.Modbus n room) = record { bytes = λ b. refl; same = λ a b e. ap (λ (s : List ℕ). good (modbus s room) []) e; few = λ w. w.0; none = λ b e. bad-good (sym e); back = λ b i. ap (λ (m : ℕ). C.Modbus m room) (length-take-le n b i) }
known (C.Order o) = record { bytes = λ b. refl; same = λ a b e. refl; few = λ w. omega arith; none = λ b e. refl; back = λ b i. refl }
known (C.Item i) = record { bytes = λ b. refl; same = λ a b e. refl; few = λ w. omega arith; none = λ b e. refl; back = λ b i. refl }
known (C.Bytes u n k) = record { bytes = λ b. refl; same = λ a b e. ap (λ (s : List ℕ). good (bytes u s k) []) e; few = λ w. w; none = λ b e. bad-good (sym e); back = λ b i. ap (λ (m : ℕ). C.Bytes u m k) (length-take-le n b i) }
known C.Unknown = record { bytes = λ b. refl; same = λ a b e. refl; few = λ w. omega arith; none = λ b e. refl; back = λ b i. refl }

-- ---- what a caller of the reader knows

module _ {l old new : List ℕ} {r : declared.Call} (p : ReadsCall l old new r) where
  size_fits : size_of r ≤ length old
  unfolding read_in
  size_fits =
      elim (dec_lt (length old) 2048) [
        | yes h ↦ omega (arith, (known r).none new (p.reads ∙ pick-f _ _ _ (ap (λ (t : Bool). t && leb (length l) 4095) (lt-leb 2048 (length old) h))))
        | no h ↦ omega (arith, (known r).few p.within)
      ]

  -- the buffer keeps its length
  pub read-long : length new ≡ length old
  unfolding over
  read-long =
      let b = bytes_in (read_in (length old) l) in
      let e : length b ≡ length (take (size_of r) new) = ap length (ap bytes_in (sym p.reads) ∙ (known r).bytes new) in
      let f = size_fits in
      let h : length b ≤ length old = omega (arith, e, length-take (size_of r) new) in
      omega (arith, ap length p.left, length-append b (drop (length b) old), length-drop (length b) old)

  -- the bytes lie in it
  pub read-inside : size_of r ≤ length new
  read-inside = let f = size_fits in omega (arith, read-long)

  -- a line of a fitting length, read with room, is read as its call
  pub read-call : 2048 ≤ length old → length l ≤ 4095 → as_call new r ≡ call_of l
  unfolding read_in
  read-call h k = p.reads ∙ pick-t _ _ _ (ap (λ (t : Bool). t && leb (length l) 4095) (le-leb _ _ h) ∙ le-leb _ _ k)

-- two results that both meet the contract are equal
pub read-determined : {l old new new' : List ℕ} {r r' : declared.Call} → ReadsCall l old new r → ReadsCall l old new' r' → (r ≡ r') × (new ≡ new')
read-determined {l} {old} {new} {new'} {r} {r'} p q =
    let n : new ≡ new' = p.left ∙ sym q.left in
    let e : as_call new r ≡ as_call new' r' = p.reads ∙ sym q.reads in
    (sym ((known r).back new (read-inside p)) ∙ ap (λ (c : Parsed Call). (parts c).0) e ∙ (known r').back new' (read-inside q), n)
