-- Some lines, and the calls that they are. Assumes nothing.
use Rattle.std.specs.Prelude.{◌≡◌, refl, true, false, List, [], ◌∷◌, ◌++◌, ℕ, negsuc}
use Rattle.laws.specs.Pick.{pick}
use Rattle.laws.specs.Decimal.{good, bad, number_at, digits_from, is_digit}
use Rattle.settings.specs.declared.Settings.{Settings}
use Rattle.field.specs.Field.{four, weight}
use Rattle.journal.specs.declared.Form.TheVariants.{Old}
use Rattle.journal.specs.declared.Line.TheVariants.{Dose}
use Rattle.text.specs.Scan.{expect, on_good, field_at}
use Rattle.operands.specs.Numbers.{minus, plus, signed_at, signed_field, set_with}
use Rattle.operands.specs.Bytes.{is_hex, hex_value, two, leading_bytes}
use Rattle.calls.specs.Call.{tick, request, modbus, order, item, bytes, bytes_at, bytes_field, flag_field, row_from, numbers_field, tick_at, link_at, why_at, or_last, settings_at, restart_at, room_at, bytes_call, write_field_at, read_field_at, dose_at, on_at, call_by, at_end, call_of}
use Rattle.calls.specs.declared.Order.TheVariants.{Settings as Set, Restart}
use Rattle.calls.specs.declared.Item.TheVariants.{Weight, Field, Line}
use Rattle.calls.specs.declared.Use.TheVariants.{ReadFrame, ReadLine}

-- to unfold this is to unfold every rule of what a line asks
unfoldable pub readings : Unit {0}
unfolding call_of at_end call_by tick_at link_at why_at settings_at restart_at or_last set_with room_at bytes_call write_field_at read_field_at dose_at on_at numbers_field row_from bytes_field bytes_at leading_bytes two hex_value is_hex signed_field signed_at plus minus flag_field field_at expect on_good number_at digits_from is_digit pick
readings = tt

-- a sample of -2,147,483,648..2,147,483,647 and inputs of 0..255; no -0
pub ticks :
    (call_of (84 ∷ 9 ∷ 45 ∷ 53 ∷ 9 ∷ 56 ∷ []) ≡ good (tick (negsuc 4) 8) [])
    × (call_of (84 ∷ 9 ∷ 45 ∷ 50 ∷ 49 ∷ 52 ∷ 55 ∷ 52 ∷ 56 ∷ 51 ∷ 54 ∷ 52 ∷ 56 ∷ 9 ∷ 50 ∷ 53 ∷ 53 ∷ []) ≡ good (tick (negsuc 2147483647) 255) [])
    × (call_of (84 ∷ 9 ∷ 50 ∷ 49 ∷ 52 ∷ 55 ∷ 52 ∷ 56 ∷ 51 ∷ 54 ∷ 52 ∷ 56 ∷ 9 ∷ 48 ∷ []) ≡ bad)
    × (call_of (84 ∷ 9 ∷ 45 ∷ 48 ∷ 9 ∷ 48 ∷ []) ≡ bad)
unfolding readings
ticks = (refl, refl, refl, refl)

-- sixteen settings: 1 to 16
abbrev sixteen : List ℕ
sixteen = 9 ∷ 49 ∷ 9 ∷ 50 ∷ 9 ∷ 51 ∷ 9 ∷ 52 ∷ 9 ∷ 53 ∷ 9 ∷ 54 ∷ 9 ∷ 55 ∷ 9 ∷ 56 ∷ 9 ∷ 57 ∷ 9 ∷ 49 ∷ 48 ∷ 9 ∷ 49 ∷ 49 ∷ 9 ∷ 49 ∷ 50 ∷ 9 ∷ 49 ∷ 51 ∷ 9 ∷ 49 ∷ 52 ∷ 9 ∷ 49 ∷ 53 ∷ 9 ∷ 49 ∷ 54 ∷ []

-- each setting by its name
abbrev in_order : ℕ → Settings
in_order product = record { algorithm = 1; capacity = 2; dose = 3; pc = 4; pf = 5; level = 6; p7 = 7; p8 = 8; p9 = 9; p11 = 10; o = 11; in1 = 12; in2 = 13; in3 = 14; address = 15; serial = 16; point = 4294967295; product = product }

-- the largest number as the seventeenth
abbrev seventeen : List ℕ
seventeen = sixteen ++ 9 ∷ 52 ∷ 50 ∷ 57 ∷ 52 ∷ 57 ∷ 54 ∷ 55 ∷ 50 ∷ 57 ∷ 53 ∷ []

-- the 18 settings in the order of the table, and 17 with product 0; not a tab alone behind them, nor a number too large
pub sets :
    (call_of (83 ∷ seventeen ++ 9 ∷ 55 ∷ []) ≡ good (order (Set (in_order 7))) [])
    × (call_of (83 ∷ seventeen) ≡ good (order (Set (in_order 0))) [])
    × (call_of (83 ∷ seventeen ++ 9 ∷ []) ≡ bad)
    × (call_of (83 ∷ sixteen ++ 9 ∷ 52 ∷ 50 ∷ 57 ∷ 52 ∷ 57 ∷ 54 ∷ 55 ∷ 50 ∷ 57 ∷ 54 ∷ []) ≡ bad)
unfolding readings
sets = (refl, refl, refl, refl)

-- the stored count stands before the total, both behind the product; without the product it is 0
pub restarts :
    (call_of (78 ∷ seventeen ++ 9 ∷ 55 ∷ 9 ∷ 56 ∷ 9 ∷ 57 ∷ []) ≡ good (order (Restart (in_order 7) 8 9)) [])
    × (call_of (78 ∷ seventeen ++ 9 ∷ 56 ∷ 9 ∷ 57 ∷ []) ≡ good (order (Restart (in_order 0) 8 9)) [])
unfolding readings
restarts = (refl, refl)

-- two digits a byte, in upper case; an empty field is no bytes
pub hex :
    (call_of (88 ∷ 9 ∷ []) ≡ good (bytes ReadFrame [] 0) [])
    × (call_of (88 ∷ 9 ∷ 70 ∷ 70 ∷ 48 ∷ 65 ∷ []) ≡ good (bytes ReadFrame (255 ∷ 10 ∷ []) 0) [])
    × (call_of (88 ∷ 9 ∷ 70 ∷ 102 ∷ []) ≡ bad)
unfolding readings
hex = (refl, refl, refl)

-- the order of the fields behind a letter
pub fields :
    (call_of (66 ∷ 9 ∷ 70 ∷ 70 ∷ 48 ∷ 49 ∷ 9 ∷ 54 ∷ 52 ∷ []) ≡ good (request (255 ∷ 1 ∷ []) 64) [])
    × (call_of (77 ∷ 9 ∷ 48 ∷ 49 ∷ 48 ∷ 51 ∷ 9 ∷ 54 ∷ 52 ∷ []) ≡ good (modbus (1 ∷ 3 ∷ []) 64) [])
    × (call_of (71 ∷ 9 ∷ 45 ∷ 53 ∷ 9 ∷ 49 ∷ 9 ∷ 48 ∷ 9 ∷ 50 ∷ 53 ∷ 53 ∷ []) ≡ good (item (Weight (weight (negsuc 4) true false 255))) [])
    × (call_of (75 ∷ 9 ∷ 48 ∷ 49 ∷ 48 ∷ 50 ∷ 48 ∷ 51 ∷ 48 ∷ 52 ∷ []) ≡ good (item (Field (four 1 2 3 4))) [])
    × (call_of (68 ∷ 9 ∷ 49 ∷ 9 ∷ 50 ∷ 9 ∷ 51 ∷ 9 ∷ 52 ∷ 9 ∷ 53 ∷ 9 ∷ 54 ∷ 52 ∷ []) ≡ good (item (Line (Dose 1 2 3 4 5) 64)) [])
    × (call_of (108 ∷ 9 ∷ 48 ∷ 65 ∷ []) ≡ good (bytes (ReadLine Old) (10 ∷ []) 0) [])
unfolding readings
fields = (refl, refl, refl, refl, refl, refl)
