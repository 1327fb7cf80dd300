-- One call to a line: what a line of a script asks. Assumes nothing.
use Rattle.std.specs.Prelude.{Bool, List, [], ◌∷◌, ℕ, zero, suc, ◌+◌, ◌*◌, eqb, ℤ, length, get_or, drop, set, replicate}
use Rattle.laws.specs.Pick.{pick}
use Rattle.laws.specs.Decimal.{Parsed, good, bad}
use Rattle.field.specs.Field.{four, weight}
use Rattle.journal.specs.declared.Form.TheVariants.{Old, New}
use Rattle.journal.specs.declared.Line.TheVariants.{Dose, On}
use Rattle.text.specs.Scan.{TAB, expect, on_good, field_at}
use Rattle.operands.specs.Numbers.{signed_field, set_with}
use Rattle.operands.specs.Bytes.{leading_bytes}
use Rattle.calls.specs.declared.Order.{Order}
use Rattle.calls.specs.declared.Order.TheVariants.{Link, Settings, Reset, Counters, Restart, Why}
use Rattle.calls.specs.declared.Item.{Item}
use Rattle.calls.specs.declared.Item.TheVariants.{Weight, Field, Line}
use Rattle.calls.specs.declared.Use.{Use}
use Rattle.calls.specs.declared.Use.TheVariants.{WriteFrame, ReadFrame, ReadLine, Hour, Hours}

-- the call of a line: a tick, a request or a MODBUS frame with the room of the reply buffer, an order, or what a writer or reader is given; bytes go with a number: the room of a buffer or an hour, else 0
pub data Call : Type 0 where
  tick : ℤ → ℕ → Call
  request : List ℕ → ℕ → Call
  modbus : List ℕ → ℕ → Call
  order : Order → Call
  item : Item → Call
  bytes : Use → List ℕ → ℕ → Call

-- ---- fields: one tab before each

abbrev pub greatest32 : ℕ
greatest32 = 4294967295

-- 0 or 1
unfoldable pub flag_field : List ℕ → Parsed Bool
flag_field l = on_good (field_at 1 l) (λ n rest. good (eqb n 1) rest)

-- bytes as upper-case hex, two digits a byte, as far as two digits stand
unfoldable pub bytes_at : List ℕ → Parsed (List ℕ)
bytes_at l = good (leading_bytes l) (drop (2 * length (leading_bytes l)) l)

unfoldable pub bytes_field : List ℕ → Parsed (List ℕ)
bytes_field l = expect TAB l bytes_at

-- n numbers, each of at most 4,294,967,295, put into a row from place k on
unfoldable pub row_from : List ℕ → ℕ → ℕ → List ℕ → Parsed (List ℕ)
row_from row k zero l = good row l
row_from row k (suc n) l = on_good (field_at greatest32 l) (λ v rest. row_from (set row k v) (k + 1) n rest)

-- n numbers, and 0 for the others of 19
unfoldable pub numbers_field : ℕ → List ℕ → Parsed (List ℕ)
numbers_field n l = row_from (replicate 19 0) 0 n l

-- ---- calls: after the letter

-- T sample inputs
unfoldable pub tick_at : List ℕ → Parsed Call
tick_at l = on_good (signed_field l) (λ x rest. on_good (field_at 255 rest) (λ i rest'. good (tick x i) rest'))

-- L 0 or 1
unfoldable pub link_at : List ℕ → Parsed Call
link_at l = on_good (flag_field l) (λ on rest. good (order (Link on)) rest)

-- Y output
unfoldable pub why_at : List ℕ → Parsed Call
why_at l = on_good (field_at 255 l) (λ k rest. good (order (Why k)) rest)

-- one number more, or none where the line ends
unfoldable pub or_last : Call → (ℕ → Call) → List ℕ → Parsed Call
or_last without behind [] = good without []
or_last without behind (b ∷ bs) = on_good (field_at greatest32 (b ∷ bs)) (λ n rest. good (behind n) rest)

-- S SET: 17 settings and the product; a line that ends before the product has product 0
unfoldable pub settings_at : List ℕ → Parsed Call
settings_at l = on_good (numbers_field 17 l) (λ vs rest. or_last (order (Settings (set_with vs 0))) (λ product. order (Settings (set_with vs product))) rest)

-- N SET count total; a line of one number less has no product: 17 settings with product 0, count and total
unfoldable pub restart_at : List ℕ → Parsed Call
restart_at l =
    on_good (numbers_field 19 l) (λ vs rest.
    or_last (order (Restart (set_with vs 0) (get_or vs 17 0) (get_or vs 18 0))) (λ total. order (Restart (set_with vs (get_or vs 17 0)) (get_or vs 18 0) total)) rest)

-- B, M, W and j: bytes, and the room of a buffer; u: bytes, and an hour
unfoldable pub room_at : ℕ → (List ℕ → ℕ → Call) → List ℕ → Parsed Call
room_at most call l = on_good (bytes_field l) (λ s rest. on_good (field_at most rest) (λ n rest'. good (call s n) rest'))

-- X, l and m: bytes
unfoldable pub bytes_call : (List ℕ → ℕ → Call) → List ℕ → Parsed Call
bytes_call call l = on_good (bytes_field l) (λ s rest. good (call s 0) rest)

-- G weight stable over point
unfoldable pub write_field_at : List ℕ → Parsed Call
write_field_at l =
    on_good (signed_field l) (λ w rest.
    on_good (flag_field rest) (λ stable rest'.
    on_good (flag_field rest') (λ over rest''.
    on_good (field_at 255 rest'') (λ point rest'''. good (item (Weight (weight w stable over point))) rest'''))))

-- K four bytes
unfoldable pub read_field_at : List ℕ → Parsed Call
read_field_at l =
    on_good (bytes_field l) (λ s rest.
    pick (eqb (length s) 4) (good (item (Field (four (get_or s 0 0) (get_or s 1 0) (get_or s 2 0) (get_or s 3 0)))) rest) bad)

-- D hour count amount settled product room
unfoldable pub dose_at : List ℕ → Parsed Call
dose_at l =
    on_good (numbers_field 5 l) (λ vs rest.
    on_good (field_at 64 rest) (λ room rest'. good (item (Line (Dose (get_or vs 0 0) (get_or vs 1 0) (get_or vs 2 0) (get_or vs 3 0) (get_or vs 4 0)) room)) rest'))

-- H hour room
unfoldable pub on_at : List ℕ → Parsed Call
on_at l = on_good (field_at greatest32 l) (λ h rest. on_good (field_at 64 rest) (λ room rest'. good (item (Line (On h) room)) rest'))

-- the letter says which call
unfoldable pub call_by : ℕ → List ℕ → Parsed Call
call_by letter l =
    -- T
    pick (eqb letter 84) (tick_at l)
    -- L
    (pick (eqb letter 76) (link_at l)
    -- S
    (pick (eqb letter 83) (settings_at l)
    -- C
    (pick (eqb letter 67) (good (order Reset) l)
    -- Q
    (pick (eqb letter 81) (good (order Counters) l)
    -- N
    (pick (eqb letter 78) (restart_at l)
    -- B
    (pick (eqb letter 66) (room_at 64 request l)
    -- M
    (pick (eqb letter 77) (room_at 64 modbus l)
    -- Y
    (pick (eqb letter 89) (why_at l)
    -- W
    (pick (eqb letter 87) (room_at 600 (bytes WriteFrame) l)
    -- X
    (pick (eqb letter 88) (bytes_call (bytes ReadFrame) l)
    -- G
    (pick (eqb letter 71) (write_field_at l)
    -- K
    (pick (eqb letter 75) (read_field_at l)
    -- D
    (pick (eqb letter 68) (dose_at l)
    -- H
    (pick (eqb letter 72) (on_at l)
    -- l
    (pick (eqb letter 108) (bytes_call (bytes (ReadLine Old)) l)
    -- m
    (pick (eqb letter 109) (bytes_call (bytes (ReadLine New)) l)
    -- u
    (pick (eqb letter 117) (room_at greatest32 (bytes Hour) l)
    -- j
    (pick (eqb letter 106) (room_at 2000 (bytes Hours) l)
    bad))))))))))))))))))

-- nothing follows the last field
unfoldable pub at_end : Parsed Call → Parsed Call
at_end (good c []) = good c []
at_end (good c (b ∷ bs)) = bad
at_end bad = bad

-- the call of a line, its LF left out
unfoldable pub call_of : List ℕ → Parsed Call
call_of [] = bad
call_of (letter ∷ l) = at_end (call_by letter l)
