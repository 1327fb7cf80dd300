-- Which calls are heard where a program makes every tick by itself. Assumes nothing.
use Rattle.std.specs.Prelude.{◌≡◌, refl, List, [], ℕ, ◌≤◌, ◌<◌, min, length, take, leb}
use Rattle.std.proofs.Common.{sym, ap, ◌∙◌, le-leb}
use Rattle.std.proofs.lemmas.Bool.{lt-leb}
use Rattle.laws.specs.Pick.{pick, pick-t, pick-f}
use Rattle.laws.specs.Decimal.{Parsed, good, bad}
use Rattle.lines.specs.Places.{take-least}
use Rattle.calls.specs.Call.{Call}
use Rattle.calls.specs.declared.Call as declared
use Rattle.calls.specs.declared.Call.TheVariants as C
use Rattle.calls.specs.Reads.{as_call, Within, Unticked}

-- a frame whose reply may have more than 64 bytes is no call
unfoldable pub roomed : ℕ → Parsed Call → Parsed Call
roomed room p = pick (leb room 64) p bad

-- what is heard of an answer of the reader: nor is a tick
unfoldable pub heard_in : List ℕ → declared.Call → Parsed Call
heard_in s (C.Tick x i) = bad
heard_in s (C.Request n room) = roomed room (as_call s (C.Request n room))
heard_in s (C.Modbus n room) = roomed room (as_call s (C.Modbus n room))
heard_in s (C.Order o) = as_call s (C.Order o)
heard_in s (C.Item i) = as_call s (C.Item i)
heard_in s (C.Bytes u n k) = as_call s (C.Bytes u n k)
heard_in s C.Unknown = bad

pub roomed-in : {p : Parsed Call} {room : ℕ} → room ≤ 64 → p ≡ roomed room p
unfolding roomed
roomed-in {room = room} h = sym (pick-t _ _ _ (le-leb room 64 h))

pub roomed-out : (p : Parsed Call) {room : ℕ} → 64 < room → bad ≡ roomed room p
unfolding roomed
roomed-out p {room = room} h = sym (pick-f _ _ _ (lt-leb room 64 h))

-- a frame of at most n bytes is one of the bytes that there are
pub framed-in : (frame : List ℕ → Call) (bytes : List ℕ) (n : ℕ) {room size : ℕ} → room ≤ 64 → size ≡ min n (length bytes) → good (frame (take size bytes)) [] ≡ roomed room (good (frame (take n bytes)) [])
framed-in frame bytes n small e = ap (λ (s : List ℕ). good (frame s) []) (ap (λ (k : ℕ). take k bytes) e ∙ take-least n bytes) ∙ roomed-in small

-- every call of a line but a tick
pub heard-as : (s : List ℕ) (call : declared.Call) → Unticked call → Within call → heard_in s call ≡ as_call s call
unfolding heard_in Within as_call
heard-as s (C.Tick x i) u w = absurd u
heard-as s (C.Request n room) u w = sym (roomed-in w.1)
heard-as s (C.Modbus n room) u w = sym (roomed-in w.1)
heard-as s (C.Order o) u w = refl
heard-as s (C.Item i) u w = refl
heard-as s (C.Bytes v n k) u w = refl
heard-as s C.Unknown u w = refl

-- where it makes every line request by itself, too, that is no call either
unfoldable pub answered_in : List ℕ → declared.Call → Parsed Call
answered_in s (C.Tick x i) = bad
answered_in s (C.Request n room) = bad
answered_in s (C.Modbus n room) = heard_in s (C.Modbus n room)
answered_in s (C.Order o) = heard_in s (C.Order o)
answered_in s (C.Item i) = heard_in s (C.Item i)
answered_in s (C.Bytes u n k) = heard_in s (C.Bytes u n k)
answered_in s C.Unknown = bad
