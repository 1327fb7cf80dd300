-- The answer at a line's end, by its bytes, by a number more or none, and that of a whole line. Assumes nothing.
use Rattle.std.proofs.Common.{◌≢◌}
use mathlib.Core.Path.{◌≡◌, refl, sym, ap, ◌∙◌, subst}
use mathlib.Core.Bool.{Bool, ◌&&◌}
use mathlib.Core.List.{List, [], ◌∷◌}
use Prim.Native.Nat.{ℕ, ◌+◌, ◌*◌, ◌≤◌, ◌<◌}
use native.Mathlib.Omega.{arith}
use lib.Dec.{leb}
use lib.ListN.{length, get_or, drop, drop_of_length-le, take}
use lib.Seq.{sets, take_at, take_all, drop-drop, length-take-le}
use borrow.Author.Tests.{leb-true, leb-false, le-leb, lt-leb}
use Rattle.laws.specs.Pick.{pick, pick-if, pick-t, pick-f}
use Rattle.laws.specs.Decimal.{Parsed, good, bad}
use Rattle.laws.specs.Over.{over, sets_over}
use Rattle.text.specs.Scan.{TAB, on_good, field_at}
use Rattle.text.specs.ScanLaws.{expect-hit, expect-miss}
use Rattle.operands.specs.Parsing.{from_byte}
use Rattle.std.specs.Prelude.{Option, Some, None}
use Rattle.operands.specs.Numbers.{signed_field, Signed, leads_signed, ReadsSigned}
use Rattle.operands.specs.Bytes.{carried, carried-half}
use Rattle.calls.specs.Call.{Call, request, modbus, bytes, greatest32, bytes_at, bytes_field, or_last, at_end, call_by, call_of}
use Rattle.calls.specs.Reads.{as_call, size_of, Within, parts, bytes_in, read_in, ReadsCall, known}
use Rattle.calls.specs.Reading.{leads_row, Counts, Ended, Asks, Carries}
use Rattle.calls.specs.declared.Call as declared
use Rattle.calls.specs.declared.Use.{Use}
use Rattle.calls.specs.declared.Call.TheVariants as C

-- what the rule of a signed number reads, by its answer
pub step : {s : List ℕ} {at : ℕ} {r r' : Signed} → ReadsSigned s at r → r ≡ r' → signed_field (drop at s) ≡ leads_signed s r'
step {s} y e = y.reads ∙ ap (leads_signed s) e

-- ---- the answer

module _ {s : List ℕ} {rule : Parsed Call} where
  -- nothing good was read
  pub unasked : rule ≡ bad → Asks s rule C.Unknown
  unfolding as_call size_of Within at_end
  unasked e = record { reads = ap at_end e; carries = omega arith; within = tt }

  -- by what follows
  pub asked : {call : Call} {e : ℕ} {d r : declared.Call} → Ended s e d r → rule ≡ good call (drop e s) → good call [] ≡ as_call (carried s) d → size_of d ≤ length (carried s) → Within d → Asks s rule r
  unfolding at_end as_call size_of Within
  asked {call} {e} {d} {r} x h a n w =
      let end : (t : List ℕ) → drop e s ≡ t → at_end rule ≡ at_end (good call t) = λ t f. ap at_end (h ∙ ap (good call) f) in
      rw x.is
      (pick-if (Asks s rule) (leb (length s) e)
      (λ t. record { reads = end [] (drop_of_length-le s {i = e} (leb-true _ _ t)) ∙ a; carries = n; within = w })
      (λ t. record { reads = end _ (from_byte s e (leb-false _ _ t)); carries = omega arith; within = tt }))

  -- where the line ends
  pub asked-last : {call : Call} {d : declared.Call} → rule ≡ good call [] → good call [] ≡ as_call (carried s) d → size_of d ≤ length (carried s) → Within d → Asks s rule d
  unfolding at_end
  asked-last h a n w = record { reads = ap at_end h ∙ a; carries = n; within = w }

-- ---- a field of bytes

pub some_bytes : (s : List ℕ) {n : ℕ} → get_or s 1 0 ≡ TAB → n ≡ length (carried s) → bytes_field (drop 1 s) ≡ good (carried s) (drop (2 + 2 * n) s)
unfolding bytes_field bytes_at carried
some_bytes s {n} t e =
    expect-hit s 1 TAB bytes_at (omega arith) t
    ∙ ap (good (carried s)) (drop-drop (2 * length (carried s)) 2 s ∙ ap (λ (i : ℕ). drop (2 + 2 * i) s) (sym e))

pub no_bytes : (s : List ℕ) → (get_or s 1 0 ≡ TAB → ⊥) → bytes_field (drop 1 s) ≡ bad
unfolding bytes_field
no_bytes s n = expect-miss s 1 TAB bytes_at n

-- all of them
pub whole : {l : List ℕ} {n : ℕ} → n ≡ length l → l ≡ take n l
whole {l} {n} e = sym (take_all n l (omega arith))

-- what is made of them and a number
module _ {n number : ℕ} {r : declared.Call} (h : n ≤ 2048) where
  pub request_made : number ≤ 64 → r ≡ C.Request n number → Carries request n number r
  unfolding as_call size_of Within
  request_made k e = rw e (record { reads = λ s. refl; size = refl; within = (h, k) })

  pub modbus_made : number ≤ 64 → r ≡ C.Modbus n number → Carries modbus n number r
  unfolding as_call size_of Within
  modbus_made k e = rw e (record { reads = λ s. refl; size = refl; within = (h, k) })

  pub bytes_made : (u : Use) → r ≡ C.Bytes u n number → Carries (bytes u) n number r
  unfolding as_call size_of Within
  bytes_made u e = rw e (record { reads = λ s. refl; size = refl; within = h })

-- a line of at most 4,095 bytes carries at most 2,047
pub few : (s : List ℕ) {n : ℕ} → n ≡ length (carried s) → length s ≤ 4095 → n ≤ 2047
few s e h = omega (arith, carried-half s)

-- what is no Some is None
pub none : {A : Type 0} (r : Option A) → ((x : A) → r ≢ Some x) → r ≡ None
none (Some x) never = absurd (never x refl)
none None never = refl

-- ---- a row of numbers

pub row : {s : List ℕ} {rule : Parsed (List ℕ)} {r r' : Option (List ℕ × ℕ)} → Counts s rule r → r ≡ r' → rule ≡ leads_row s r'
row {s} y e = y.reads ∙ ap (leads_row s) e

-- ---- a number more, or none where the line ends

module _ (without : Call) (behind : ℕ → Call) (s : List ℕ) (next : ℕ) where
  pub last_none : length s ≤ next → or_last without behind (drop next s) ≡ good without []
  unfolding or_last
  last_none h = ap (or_last without behind) (drop_of_length-le s {i = next} h)

  pub last_some : next < length s → or_last without behind (drop next s) ≡ on_good (field_at greatest32 (drop next s)) (λ n rest. good (behind n) rest)
  unfolding or_last
  last_some h = rw (from_byte s next h)

-- ---- the answer to a whole line

-- by a letter that is k
pub by_key : {s : List ℕ} {b : ℕ} (k : ℕ) (rule : ℕ → List ℕ → Parsed Call) {r : declared.Call} → b ≡ get_or s 0 0 → b ≡ k → rule k (drop 1 s) ≡ call_by k (drop 1 s) → Asks s (rule b (drop 1 s)) r
    → Asks s (call_by (get_or s 0 0) (drop 1 s)) r
by_key {s} {b} k rule {r} e f g a = subst (λ (p : Parsed Call). Asks s p r) (ap (λ (n : ℕ). rule n (drop 1 s)) f ∙ g ∙ ap (λ (n : ℕ). call_by n (drop 1 s)) (sym f ∙ e)) a

-- no letter is no call
call-by : (l : List ℕ) → call_of l ≡ at_end (call_by (get_or l 0 0) (drop 1 l))
unfolding call_of at_end call_by pick
call-by [] = refl
call-by (x ∷ xs) = refl

module _ {l old : List ℕ} where
  unread : read_in (length old) l ≡ bad → ReadsCall l old old C.Unknown
  unfolding as_call parts Within over
  unread e = record { reads = sym e; left = ap (λ (p : Parsed Call). over (bytes_in p) old) (sym e); within = tt }

  -- no room for the bytes of every line
  pub unread-room : length old < 2048 → ReadsCall l old old C.Unknown
  unfolding read_in
  unread-room h = unread (pick-f _ _ _ (ap (λ (t : Bool). t && leb (length l) 4095) (lt-leb _ _ h)))

  -- too long a line
  pub unread-long : 2048 ≤ length old → 4095 < length l → ReadsCall l old old C.Unknown
  unfolding read_in
  unread-long h k = unread (pick-f _ _ _ (ap (λ (t : Bool). t && leb (length l) 4095) (le-leb _ _ h) ∙ lt-leb _ _ k))

  pub stored : {new : List ℕ} {r : declared.Call} → Asks l (call_by (get_or l 0 0) (drop 1 l)) r → 2048 ≤ length old → length l ≤ 4095 → new ≡ sets old 0 (take (size_of r) (carried l)) → ReadsCall l old new r
  unfolding read_in over
  stored {new} {r} a h k e =
      let b = take (size_of r) (carried l) in
      let size : length b ≡ size_of r = length-take-le (size_of r) (carried l) a.carries in
      let few = (known r).few a.within in
      let is : new ≡ over b old = e ∙ sets_over old b (omega arith) in
      let rule : as_call (carried l) r ≡ read_in (length old) l = sym (pick-t _ _ _ (ap (λ (t : Bool). t && leb (length l) 4095) (le-leb _ _ h) ∙ le-leb _ _ k) ∙ call-by l ∙ a.reads) in
      record {
        reads = (known r).same new (carried l) (ap (take (size_of r)) is ∙ take_at b (drop (length b) old) (size_of r) size) ∙ rule;
        left = is ∙ ap (λ (s : List ℕ). over s old) (sym ((known r).bytes (carried l)) ∙ ap bytes_in rule);
        within = a.within;
      }
