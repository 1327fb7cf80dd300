use mathlib.Core.Path.{◌≡◌, refl, sym, ap, ◌∙◌}
use mathlib.Core.List.{List}
use Prim.Native.Nat.{ℕ, ◌≤◌}
use native.Mathlib.Omega.{arith}
use borrow.Author.Rules.{rules}
use lib.ListN.{length, get_or, drop, take}
use lib.Seq.{sets}
use Rattle.laws.specs.Pick.{pick}
use Rattle.laws.specs.Decimal.{Parsed}
use Rattle.calls.specs.Call.{Call, request, tick_at, room_at, call_by}
use Rattle.calls.specs.Reads.{as_call, size_of, Within, ReadsCall, known}
use Rattle.calls.specs.Reading.{Asks}
use Rattle.calls.specs.declared.Call as declared
use Rattle.operands.specs.Bytes.{carried}
use Rattle.calls.proofs.Steps.{unread-room, unread-long, stored, by_key, request_made}
use Rattle.calls.proofs.read.Goals as goal

-- the bytes of a call fit
fits : {l : List ℕ} {n room : ℕ} {r : declared.Call} {rule : Parsed Call} → 2048 ≤ room → n ≡ size_of r → Asks l rule r → (n ≤ length (carried l)) × (n ≤ room)
fits {r = r} h e a = (omega (arith, e, a.carries), omega (arith, e, (known r).few a.within, h))

-- and once they are stored it is read
kept : {l old new : List ℕ} {n : ℕ} {r : declared.Call} → 2048 ≤ length old → n ≡ size_of r → Asks l (call_by (get_or l 0 0) (drop 1 l)) r → length l ≤ 4095 → new ≡ sets old 0 (take n (carried l)) → ReadsCall l old new r
kept {l} {old} room e a short f = stored a room short (f ∙ ap (λ (k : ℕ). sets old 0 (take k (carried l))) e)

pub returns-then-letter-eq84 : goal.returns-then-letter-eq84
unfolding call_by pick
returns-then-letter-eq84 c =
    let t = c.tick.ensures in
    kept c.if-bytes-lt-BYTES.false (sym t.1) (by_key 84 (λ n. tick_at) c.byte_at-letter.ensures c.if-letter-eq84.true refl t.0) c.if-line-gt-LONGEST.false refl

-- a line request
pub returns-then-letter-eq66 : goal.returns-then-letter-eq66
unfolding call_by pick as_call size_of Within
returns-then-letter-eq66 c =
    kept c.if-bytes-lt-BYTES.false c.size_of.ensures (by_key 66 (λ n. room_at 64 request) c.byte_at-letter.ensures c.if-letter-eq66.true refl (c.room-call.ensures request (λ n number r h k made. request_made h k (search rules)))) c.if-line-gt-LONGEST.false c.store.ensures

pub returns-then-bytes-lt-BYTES : goal.returns-then-bytes-lt-BYTES
returns-then-bytes-lt-BYTES c = unread-room c.if-bytes-lt-BYTES.true

pub returns-then-line-gt-LONGEST : goal.returns-then-line-gt-LONGEST
returns-then-line-gt-LONGEST c = unread-long c.if-bytes-lt-BYTES.false c.if-line-gt-LONGEST.true

pub store-requires-clause-bytes : goal.store-requires-clause-bytes
store-requires-clause-bytes c = (fits c.if-bytes-lt-BYTES.false c.size_of.ensures (c.room-call.ensures request (λ n number r h k made. request_made h k (search rules)))).0

pub store-requires-clause-room : goal.store-requires-clause-room
store-requires-clause-room c = (fits c.if-bytes-lt-BYTES.false c.size_of.ensures (c.room-call.ensures request (λ n number r h k made. request_made h k (search rules)))).1

pub store-requires-2-clause-room : goal.store-requires-2-clause-room
store-requires-2-clause-room c = (fits c.if-bytes-lt-BYTES.false c.size_of-2.ensures c.call_of-call.ensures).1

pub returns : goal.returns
returns c = kept c.if-bytes-lt-BYTES.false c.size_of-2.ensures c.call_of-call.ensures c.if-line-gt-LONGEST.false c.store-2.ensures
