-- What a turn of a loop leaves of the rest, what is stored of a body and its CRC, which registers are asked, what is not heard by all, and what sets no link start. Assumes nothing.
use mathlib.Core.Path.{◌≡◌, refl, sym, ap, ap₂, ◌∙◌}
use mathlib.Core.Bool.{Bool, true, false}
use mathlib.Core.List.{List, []}
use mir.Val.{bool_byte}
use Prim.Native.Nat.{ℕ, suc, ◌+◌, ◌-◌, ◌/◌, ◌%◌, ◌<◌, ◌≤◌, min}
use native.Mathlib.Nat.{zero-add}
use native.Mathlib.Decide.{dec_le}
use native.Mathlib.Numerals.{add-one}
use native.Mathlib.Omega.{arith}
use lib.ListN.{length, get_or, take, drop, set, length-drop, drop_of_length-le}
use lib.Seq.{sets, drop-cons, take_at, take_all}
use borrow.Author.Tests.{le-leb, lt-leb}
use Rattle.laws.specs.Pick.{pick, pick-t, pick-f}
use Rattle.laws.specs.Over.{over, sets-append, sets_over}
use Rattle.paper.specs.Answer.{done, refused, in_room}
use Rattle.paper.specs.Numbers.{R8, R17}
use Rattle.modbus.specs.Crc.{shift, shifts, enter, enter_all, crc, crc_bytes, sealed}
use Rattle.modbus.specs.CrcLaws.{sealed-length}
use Rattle.modbus.specs.Asks.{heard_by_all}
use Rattle.modbus.specs.Replies.{word_bytes, link_after}
use Rattle.modbus.specs.Says.{asks_of}
use Rattle.modbus.specs.declared.Ask.{Ask}
use Rattle.modbus.specs.declared.Ask.TheVariants as A

pub shifts-step : (k s : ℕ) → k < 8 → shifts (8 - k) s ≡ shifts (8 - (k + 1)) (shift s)
unfolding shifts
shifts-step k s h = let e : 8 - k ≡ suc (8 - (k + 1)) = omega arith in rw e

pub shifts-end : (k s : ℕ) → 8 - k ≡ 0 → shifts (8 - k) s ≡ s
unfolding shifts
shifts-end k s e = rw e

pub enter_all-step : (l : List ℕ) (i c : ℕ) → i < length l → enter_all c (drop i l) ≡ enter_all (enter c (get_or l i 0)) (drop (i + 1) l)
unfolding enter_all
enter_all-step l i c h = rw (add-one, drop-cons l i 0)

pub words_step : (out l : List ℕ) (to i : ℕ) → i < length l
    → sets out to (word_bytes (drop i l)) ≡ sets (set (set out to (get_or l i 0 / 256)) (to + 1) (get_or l i 0 % 256)) (to + 2) (word_bytes (drop (i + 1) l))
unfolding word_bytes
words_step out l to i h =
    let two : to + 2 ≡ suc (suc to) = omega arith in
    rw (two, add-one to, add-one i, drop-cons l i 0)

-- ---- a body and its CRC in a buffer

pub stores : (o body mid : List ℕ) (c : ℕ) → mid ≡ sets o 0 body → c ≡ crc body → set (set mid (length body) (c % 256)) (length body + 1) (c / 256) ≡ sets o 0 (sealed body)
unfolding sealed crc_bytes
stores o body mid c e f =
    ap₂ (λ (z : List ℕ) (x : ℕ). set (set z (length body) (x % 256)) (length body + 1) (x / 256)) e f
    ∙ ap (λ (n : ℕ). set (set (sets o 0 body) (length body) (crc body % 256)) n (crc body / 256)) (add-one (length body))
    ∙ sym (ap (λ (n : ℕ). sets (sets o 0 body) n (crc_bytes (crc body))) (zero-add (length body)))
    ∙ sym (sets-append o 0 body (crc_bytes (crc body)))

pub no_room : (room : ℕ) (body : List ℕ) → room < length body + 2 → in_room [] room (sealed body) ≡ refused R8 []
unfolding in_room
no_room room body h = pick-f _ _ _ (lt-leb (length (sealed body)) room (omega (arith, sealed-length body)))

pub has_room : (room : ℕ) (body : List ℕ) → length body + 2 ≤ room → in_room [] room (sealed body) ≡ done (sealed body)
unfolding in_room
has_room room body h = pick-t _ _ _ (le-leb (length (sealed body)) room (omega (arith, sealed-length body)))

-- what stores from the start put there
pub front : (o bytes : List ℕ) (n : ℕ) → length bytes ≡ n → n ≤ length o → take n (sets o 0 bytes) ≡ bytes
unfolding over
front o bytes n e h = ap (take n) (sets_over o bytes (omega arith)) ∙ take_at bytes (drop (length bytes) o) n e

-- a flag as a byte
pub flag-byte : (on : Bool) → bool_byte on ≡ pick on 1 0
unfolding pick
flag-byte true = refl
flag-byte false = refl

-- ---- which registers are asked

take-clamp : (m : ℕ) (l : List ℕ) → take (min m (length l)) l ≡ take m l
take-clamp m l =
    elim (dec_le m (length l)) [
      | yes h ↦ let e : min m (length l) ≡ m = omega arith in rw e
      | no h ↦ take_all (min m (length l)) l (omega arith) ∙ sym (take_all m l (omega arith))
    ]

drop-clamp : (s n : ℕ) (l : List ℕ) → length l ≤ n → drop (min s n) l ≡ drop s l
drop-clamp s n l k =
    elim (dec_le s n) [
      | yes h ↦ let e : min s n ≡ s = omega arith in rw e
      | no h ↦ drop_of_length-le l {i = min s n} (omega arith) ∙ sym (drop_of_length-le l {i = s} (omega arith))
    ]

-- the registers from a place on, up to the end of those there are
pub asked-part : (l : List ℕ) (start quantity : ℕ)
    → take (min (start + quantity) (length l) - min start (length l)) (drop (min start (length l)) l) ≡ take quantity (drop start l)
asked-part l start quantity =
    let n : ℕ = min (start + quantity) (length l) - min start (length l) in
    let many : n ≡ min quantity (length (drop start l)) = omega (arith, length-drop start l) in
    ap (take n) (drop-clamp start (length l) l (omega arith))
    ∙ ap (λ (m : ℕ). take m (drop start l)) many
    ∙ take-clamp quantity (drop start l)

-- ---- who hears

-- only a link start is heard by all
pub not-link : (a : Ask) → ((on : Bool) → a ≡ A.Link on → ⊥) → heard_by_all (asks_of a) ≡ refused R17 []
unfolding heard_by_all
not-link (A.Registers start quantity) h = refl
not-link (A.Link on) h = absurd (h on refl)
not-link (A.Exception function number) h = refl

-- and only a link start changes it
pub not-write : (a : Ask) (now : Bool) → ((on : Bool) → a ≡ A.Link on → ⊥) → now ≡ link_after (asks_of a) now
unfolding link_after
not-write (A.Registers start quantity) now h = refl
not-write (A.Link on) now h = absurd (h on refl)
not-write (A.Exception function number) now h = refl
