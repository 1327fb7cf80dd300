-- The weight field (document 01, "On the line", R16). Assumes nothing.
use Rattle.std.specs.Prelude.{◌≡◌, refl, Bool, true, false, ◌&&◌, [], ℕ, ◌+◌, ◌*◌, ◌/◌, ◌%◌, leb, eqb, ℤ, pos, negsuc, neg_ℤ, nat_abs}
use Rattle.laws.specs.Pick.{pick}
use Rattle.paper.specs.Answer.{Answer, done, refused}
use Rattle.paper.specs.Numbers.{R16}
use Rattle.field.specs.declared.Field.{Field}
use Rattle.field.specs.declared.Weight.{Weight}

-- Weight: six BCD digits, low byte first: a byte holds two digits, the higher in its upper half
unfoldable pub bcd_of : ℕ → ℕ
bcd_of n = n / 10 * 16 + n % 10

unfoldable pub is_bcd : ℕ → Bool
is_bcd b = leb (b % 16) 9 && leb (b / 16) 9

unfoldable pub value_of : ℕ → ℕ
value_of b = b / 16 * 10 + b % 16

-- a bit of CON with this worth, where the flag is on
unfoldable pub bit_of : Bool → ℕ → ℕ
bit_of on worth = pick on worth 0

-- the bit of CON with this worth is on
unfoldable pub has_bit : ℕ → ℕ → Bool
has_bit con worth = eqb (con / worth % 2) 1

-- Zero is written without sign
unfoldable pub negative : ℤ → Bool
negative (pos n) = false
negative (negsuc n) = true

-- CON: bit 7 negative, bit 4 stable, bit 3 over, bits 2..0 decimal point; bits 6 and 5 are written 0
unfoldable pub con_of : Weight → ℕ
con_of v = bit_of (negative v.value) 128 + bit_of v.stable 16 + bit_of v.over 8 + v.point

unfoldable pub field_of : Weight → Field
field_of v =
    record {
      low = bcd_of (nat_abs v.value % 100);
      middle = bcd_of (nat_abs v.value / 100 % 100);
      high = bcd_of (nat_abs v.value / 10000);
      con = con_of v;
    }

-- a weight within six digits and a point of at most 7
unfoldable pub writable : Weight → Bool
writable v = leb (nat_abs v.value) 999999 && leb v.point 7

-- R16: to be written with a weight beyond six digits or a point above 7
unfoldable pub write_of : Weight → Answer Field
write_of v = pick (writable v) (done (field_of v)) (refused R16 [])

-- read with a sign, zero is 0
unfoldable pub signed : Bool → ℕ → ℤ
signed true m = neg_ℤ (pos m)
signed false m = pos m

-- bits 6 and 5 are ignored when read
unfoldable pub weight_of : Field → Weight
weight_of f =
    record {
      value = signed (has_bit f.con 128) (value_of f.low + 100 * value_of f.middle + 10000 * value_of f.high);
      stable = has_bit f.con 16;
      over = has_bit f.con 8;
      point = f.con % 8;
    }

unfoldable pub readable : Field → Bool
readable f = is_bcd f.low && is_bcd f.middle && is_bcd f.high

-- R16: weight field read with a digit above 9
unfoldable pub read_of : Field → Answer Weight
read_of f = pick (readable f) (done (weight_of f)) (refused R16 [])

-- written and read back: the values that were given, or the writer's refusal
unfoldable pub echo_of : Weight → Answer Weight
echo_of v = pick (writable v) (done v) (refused R16 [])

abbrev pub four : ℕ → ℕ → ℕ → ℕ → Field
four a b c d = record { low = a; middle = b; high = c; con = d }

abbrev pub weight : ℤ → Bool → Bool → ℕ → Weight
weight w s o p = record { value = w; stable = s; over = o; point = p }

-- minus zero reads as 0, bits 6 and 5 are not looked at, each digit above 9 is refused, the low byte stands first; -5, stable, one place is written as 05 00 00 91; six digits can be written and seven cannot, nor a point of 8
pub edges :
    (read_of (four 0 0 0 0xE0) ≡ done (weight (pos 0) false false 0))
    × (read_of (four 0x0A 0 0 0) ≡ refused R16 [])
    × (read_of (four 0xA0 0 0 0) ≡ refused R16 [])
    × (read_of (four 0 0x0A 0 0) ≡ refused R16 [])
    × (read_of (four 0 0xA0 0 0) ≡ refused R16 [])
    × (read_of (four 0 0 0x0A 0) ≡ refused R16 [])
    × (read_of (four 0 0 0xA0 0) ≡ refused R16 [])
    × (read_of (four 0x56 0x34 0x12 0x60) ≡ done (weight (pos 123456) false false 0))
    × (write_of (weight (negsuc 4) true false 1) ≡ done (four 0x05 0x00 0x00 0x91))
    × (write_of (weight (negsuc 999998) false true 7) ≡ done (four 0x99 0x99 0x99 0x8F))
    × (write_of (weight (pos 0) false false 0) ≡ done (four 0 0 0 0))
    × (write_of (weight (pos 1000000) false false 0) ≡ refused R16 [])
    × (write_of (weight (pos 1) false false 8) ≡ refused R16 [])
unfolding read_of readable is_bcd weight_of signed has_bit value_of write_of writable field_of con_of bit_of negative bcd_of pick
edges = (refl, refl, refl, refl, refl, refl, refl, refl, refl, refl, refl, refl, refl)
