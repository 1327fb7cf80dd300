-- What was written reads back as the values; a field's bytes are small; a small weight is never refused. Assumes nothing.
use Rattle.std.specs.Prelude.{◌≡◌, Bool, true, false, [], ℕ, ◌+◌, ◌*◌, ◌/◌, ◌%◌, ◌≤◌, ◌<◌, leb, eqb, ℤ, pos, negsuc, nat_abs}
use Rattle.std.proofs.Common.{arith, le-leb, leb-true}
use Rattle.laws.specs.Pick.{pick, pick-t}
use Rattle.laws.specs.Bools.{and_left, and_right}
use Rattle.paper.specs.Answer.{done, refused}
use Rattle.paper.specs.Numbers.{R16}
use Rattle.field.specs.declared.Field.{Field}
use Rattle.field.specs.declared.Weight.{Weight}
use Rattle.field.specs.Field.{bcd_of, is_bcd, value_of, bit_of, has_bit, negative, con_of, field_of, writable, write_of, signed, weight_of, readable, read_of, weight}

-- the two bounds of a weight that can be written
pub six-digits : (v : Weight) → writable v ≡ true → nat_abs v.value ≤ 999999
unfolding writable
six-digits v h = leb-true (nat_abs v.value) 999999 (and_left (leb (nat_abs v.value) 999999) (leb v.point 7) h)

pub point-most : (v : Weight) → writable v ≡ true → v.point ≤ 7
unfolding writable
point-most v h = leb-true v.point 7 (and_right (leb (nat_abs v.value) 999999) (leb v.point 7) h)

pub small-writable : (v : Weight) → nat_abs v.value ≤ 999999 → v.point ≤ 7 → writable v ≡ true
unfolding writable
small-writable v h k = rw (le-leb (nat_abs v.value) 999999 h, le-leb v.point 7 k)

-- a reply's weight field is never refused
pub written_small : (v : Weight) → nat_abs v.value ≤ 999999 → v.point ≤ 7 → write_of v ≡ done (field_of v)
unfolding write_of
written_small v h k = pick-t (writable v) (done (field_of v)) _ (small-writable v h k)

-- two digits are written as digits, and read back
bcd-most : (n : ℕ) → n < 100 → bcd_of n ≤ 0x99
unfolding bcd_of
bcd-most n h = omega arith

bcd-digits : (n : ℕ) → n < 100 → is_bcd (bcd_of n) ≡ true
unfolding bcd_of is_bcd
bcd-digits n h = rw (le-leb (bcd_of n % 16) 9 (omega arith), le-leb (bcd_of n / 16) 9 (omega arith))

bcd-back : (n : ℕ) → n < 100 → value_of (bcd_of n) ≡ n
unfolding bcd_of value_of
bcd-back n h = omega arith

digits-back : (m : ℕ) → m ≤ 999999 → value_of (bcd_of (m % 100)) + 100 * value_of (bcd_of (m / 100 % 100)) + 10000 * value_of (bcd_of (m / 10000)) ≡ m
digits-back m h = rw (bcd-back (m % 100) (omega arith), bcd-back (m / 100 % 100) (omega arith), bcd-back (m / 10000) (omega arith)) (omega arith)

-- a bit's worth is so many times the bit
bit-worth : (on : Bool) (worth : ℕ) → bit_of on worth ≡ bit_of on 1 * worth
unfolding bit_of pick
bit-worth true worth = omega arith
bit-worth false worth = omega arith

bit-most : (on : Bool) → bit_of on 1 ≤ 1
unfolding bit_of pick
bit-most true = omega arith
bit-most false = omega arith

bit-back : (on : Bool) (n : ℕ) → n ≡ bit_of on 1 → eqb n 1 ≡ on
unfolding bit_of pick
bit-back true n e = rw e
bit-back false n e = rw e

sign-back : (w : ℤ) (b : Bool) (m : ℕ) → b ≡ negative w → m ≡ nat_abs w → signed b m ≡ w
unfolding signed negative
sign-back (pos n) b m e k = rw (e, k)
sign-back (negsuc n) b m e k = rw (e, k)

module _ (v : Weight) where
  abbrev minus : ℕ
  minus = bit_of (negative v.value) 1

  abbrev stable : ℕ
  stable = bit_of v.stable 1

  abbrev over : ℕ
  over = bit_of v.over 1

  con-sum : con_of v ≡ minus * 128 + stable * 16 + over * 8 + v.point
  unfolding con_of
  con-sum = rw (bit-worth (negative v.value) 128, bit-worth v.stable 16, bit-worth v.over 8)

  bits_most : (minus ≤ 1) × (stable ≤ 1) × (over ≤ 1)
  bits_most = (bit-most (negative v.value), bit-most v.stable, bit-most v.over)

  module _ (p : v.point ≤ 7) where
    pub con-most : con_of v ≤ 0x9F
    con-most = omega (arith, con-sum, bits_most)

    minus-back : has_bit (con_of v) 128 ≡ negative v.value
    unfolding has_bit
    minus-back = bit-back (negative v.value) (con_of v / 128 % 2) (omega (arith, con-sum, bits_most))

    stable-back : has_bit (con_of v) 16 ≡ v.stable
    unfolding has_bit
    stable-back = bit-back v.stable (con_of v / 16 % 2) (omega (arith, con-sum, bits_most))

    over-back : has_bit (con_of v) 8 ≡ v.over
    unfolding has_bit
    over-back = bit-back v.over (con_of v / 8 % 2) (omega (arith, con-sum, bits_most))

    point-back : con_of v % 8 ≡ v.point
    point-back = omega (arith, con-sum, bits_most)

-- no byte of a written field is FF
pub record Bounded (f : Field) : Type 0 where
  pub low : f.low ≤ 0x99
  pub middle : f.middle ≤ 0x99
  pub high : f.high ≤ 0x99
  pub con : f.con ≤ 0x9F

pub field-bytes : (v : Weight) → writable v ≡ true → Bounded (field_of v)
unfolding field_of
field-bytes v h =
    let m : nat_abs v.value ≤ 999999 = six-digits v h in
    record {
      low = bcd-most (nat_abs v.value % 100) (omega arith);
      middle = bcd-most (nat_abs v.value / 100 % 100) (omega arith);
      high = bcd-most (nat_abs v.value / 10000) (omega arith);
      con = con-most v (point-most v h);
    }

same-weight : (a b : Weight) → a.value ≡ b.value → a.stable ≡ b.stable → a.over ≡ b.over → a.point ≡ b.point → a ≡ b
same-weight a b w s o p = let e : weight a.value a.stable a.over a.point ≡ weight b.value b.stable b.over b.point = cc in e

values-back : (v : Weight) → writable v ≡ true → weight_of (field_of v) ≡ v
unfolding weight_of field_of
values-back v w =
    let p : v.point ≤ 7 = point-most v w in
    same-weight (weight_of (field_of v)) v
    (sign-back v.value _ _ (minus-back v p) (digits-back (nat_abs v.value) (six-digits v w)))
    (stable-back v p) (over-back v p) (point-back v p)

written-readable : (v : Weight) → writable v ≡ true → readable (field_of v) ≡ true
unfolding readable field_of
written-readable v h =
    let m : nat_abs v.value ≤ 999999 = six-digits v h in
    rw (bcd-digits (nat_abs v.value % 100) (omega arith), bcd-digits (nat_abs v.value / 100 % 100) (omega arith), bcd-digits (nat_abs v.value / 10000) (omega arith))

-- what was written reads back as the values
pub read-written : (v : Weight) → writable v ≡ true → read_of (field_of v) ≡ done v
unfolding read_of
read-written v h = rw (pick-t (readable (field_of v)) (done (weight_of (field_of v))) (refused R16 []) (written-readable v h), values-back v h)
