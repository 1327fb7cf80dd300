-- The rules of the writer, the reader and the echo, by the tests that the code makes.
use mathlib.Core.Path.{◌≡◌, refl, sym, ◌∙◌}
use mathlib.Core.Bool.{Bool, true, false, ◌&&◌}
use mathlib.Core.List.{[]}
use Prim.Native.Nat.{ℕ, ◌<◌}
use native.Mathlib.Omega.{arith}
use lib.Dec.{leb}
use lib.IntN.{nat_abs}
use borrow.Author.Tests.{lt-leb}
use Rattle.laws.specs.Pick.{pick, pick-t, pick-f}
use Rattle.laws.specs.Whole.{false-true}
use Rattle.paper.specs.Answer.{done, refused}
use Rattle.paper.specs.Numbers.{R16}
use Rattle.field.specs.Field.{is_bcd, field_of, writable, write_of, weight_of, readable, read_of, echo_of}
use Rattle.field.specs.RoundTrip.{read-written}
use Rattle.std.specs.Prelude.{Result, Ok, Err, IsErr}
use Rattle.field.specs.Says.{says_written, says_got, says-err}
use Rattle.field.specs.declared.FieldError.{FieldError}
use Rattle.field.specs.declared.Field.{Field}
use Rattle.field.specs.declared.Weight.{Weight}

not-second : (a b : Bool) → b ≡ false → a && b ≡ false
not-second true b h = h
not-second false b h = refl

module _ (v : Weight) where
  not_written : writable v ≡ false → refused R16 [] ≡ write_of v
  unfolding write_of
  not_written h = sym (pick-f (writable v) (done (field_of v)) (refused R16 []) h)

  pub seven-digits : 999999 < nat_abs v.value → refused R16 [] ≡ write_of v
  unfolding writable
  seven-digits h = not_written (rw (lt-leb (nat_abs v.value) 999999 h))

  pub point-above : 7 < v.point → refused R16 [] ≡ write_of v
  unfolding writable
  point-above h = not_written (not-second (leb (nat_abs v.value) 999999) (leb v.point 7) (lt-leb v.point 7 h))

module _ (f : Field) where
  not-read : readable f ≡ false → refused R16 [] ≡ read_of f
  unfolding read_of
  not-read h = sym (pick-f (readable f) (done (weight_of f)) (refused R16 []) h)

  pub bad-low : is_bcd f.low ≡ false → refused R16 [] ≡ read_of f
  unfolding readable
  bad-low l = not-read (rw l)

  pub bad-middle : is_bcd f.low ≡ true → is_bcd f.middle ≡ false → refused R16 [] ≡ read_of f
  unfolding readable
  bad-middle l m = not-read (rw (l, m))

  pub bad-high : is_bcd f.low ≡ true → is_bcd f.middle ≡ true → is_bcd f.high ≡ false → refused R16 [] ≡ read_of f
  unfolding readable
  bad-high l m h = not-read (rw (l, m, h))

  pub digits-read : is_bcd f.low ≡ true → is_bcd f.middle ≡ true → is_bcd f.high ≡ true → done (weight_of f) ≡ read_of f
  unfolding read_of readable
  digits-read l m h = sym (pick-t (readable f) (done (weight_of f)) (refused R16 []) (rw (l, m, h)))

read-way : (v : Weight) (f : Field) (b : Bool) → writable v ≡ b → pick b (done (field_of v)) (refused R16 []) ≡ done f → read_of f ≡ pick b (done v) (refused R16 [])
unfolding pick
read-way v f true t e = let same : field_of v ≡ f = cc in rw (← same) (read-written v t)
read-way v f false t e = absurd (let z : ◌≡◌ {A = ℕ} 0 1 = cc in omega arith)

-- a field that the writer gave reads back as the values
pub echo-read : (v : Weight) (f : Field) → write_of v ≡ done f → read_of f ≡ echo_of v
unfolding write_of echo_of
echo-read v f e = read-way v f (writable v) refl e

refused-way : (v : Weight) (b : Bool) → pick b (done (field_of v)) (refused R16 []) ≡ refused R16 [] → pick b (done v) (refused R16 []) ≡ refused R16 []
unfolding pick
refused-way v true e = absurd (let z : ◌≡◌ {A = ℕ} 0 1 = cc in omega arith)
refused-way v false e = refl

-- what the writer refuses is not read back
echo-refused : (v : Weight) → write_of v ≡ refused R16 [] → echo_of v ≡ refused R16 []
unfolding write_of echo_of
echo-refused v e = refused-way v (writable v) e

-- a refusal of the writer is the echo's
pub echo-err : (v : Weight) (e : FieldError) (r : Result Weight FieldError) → says_written (Err e) ≡ write_of v → IsErr r → says_got r ≡ echo_of v
echo-err v e (Err d) h i = says-err d ∙ sym (echo-refused v (sym h ∙ says-err e))
echo-err v e (Ok x) h i = false-true i
