-- Each byte of a D line has room behind those before it.
use mathlib.Core.Path.{sym}
use mathlib.Core.List.{append_assoc}
use Prim.Native.Nat.{ℕ}
use native.Mathlib.Omega.{arith}
use lib.ListN.{length, length-append}
use Rattle.journal.specs.Line.{text_of}
use Rattle.journal.specs.LineLaws.{dose-length}
use Rattle.journal.specs.declared.Form.{Form}
use Rattle.journal.specs.declared.Line.TheVariants.{Dose}
use Rattle.entry.proofs.Storing.{stores-then, room_for, stores_as, dose-text}
use Rattle.entry.proofs.store_dose.Goals as goal

-- how many bytes the line takes
abbrev size : (f : Form) (hour count amount settled product : ℕ) → ℕ
size f h c a s p = length (text_of f (Dose h c a s p))

pub store_byte-after_letter-requires : goal.store_byte-after_letter-requires
store_byte-after_letter-requires c = let a = c.args in omega (arith, c.requires, dose-length a.form a.hour a.count a.amount a.settled a.product)

pub store_field-after_hour-requires : goal.store_field-after_hour-requires
store_field-after_hour-requires c =
    let a = c.args in
    room_for _ (size a.form a.hour a.count a.amount a.settled a.product) c.store_byte-after_letter.ensures
    (omega (arith, dose-length a.form a.hour a.count a.amount a.settled a.product)) c.requires

pub store_field-after_count-requires : goal.store_field-after_count-requires
store_field-after_count-requires c =
    let a = c.args in
    room_for _ (size a.form a.hour a.count a.amount a.settled a.product) (stores-then c.store_byte-after_letter.ensures c.store_field-after_hour.ensures)
    (simp length-append (omega (arith, dose-length a.form a.hour a.count a.amount a.settled a.product))) c.requires

pub store_field-after_amount-requires : goal.store_field-after_amount-requires
store_field-after_amount-requires c =
    let a = c.args in
    room_for _ (size a.form a.hour a.count a.amount a.settled a.product) (stores-then (stores-then c.store_byte-after_letter.ensures c.store_field-after_hour.ensures) c.store_field-after_count.ensures)
    (simp length-append (omega (arith, dose-length a.form a.hour a.count a.amount a.settled a.product))) c.requires

pub store_field-after_settled-requires : goal.store_field-after_settled-requires
store_field-after_settled-requires c =
    let a = c.args in
    room_for _ (size a.form a.hour a.count a.amount a.settled a.product) (stores-then (stores-then (stores-then c.store_byte-after_letter.ensures c.store_field-after_hour.ensures) c.store_field-after_count.ensures) c.store_field-after_amount.ensures)
    (simp length-append (omega (arith, dose-length a.form a.hour a.count a.amount a.settled a.product))) c.requires

pub store_product-after_product-requires : goal.store_product-after_product-requires
store_product-after_product-requires c =
    let a = c.args in
    room_for _ (size a.form a.hour a.count a.amount a.settled a.product) (stores-then (stores-then (stores-then (stores-then c.store_byte-after_letter.ensures c.store_field-after_hour.ensures) c.store_field-after_count.ensures) c.store_field-after_amount.ensures) c.store_field-after_settled.ensures)
    (simp length-append (omega (arith, dose-length a.form a.hour a.count a.amount a.settled a.product))) c.requires

pub store_byte-requires : goal.store_byte-requires
store_byte-requires c =
    let a = c.args in
    room_for _ (size a.form a.hour a.count a.amount a.settled a.product) (stores-then (stores-then (stores-then (stores-then (stores-then c.store_byte-after_letter.ensures c.store_field-after_hour.ensures) c.store_field-after_count.ensures) c.store_field-after_amount.ensures) c.store_field-after_settled.ensures) c.store_product-after_product.ensures)
    (simp length-append (omega (arith, dose-length a.form a.hour a.count a.amount a.settled a.product))) c.requires

pub returns : goal.returns
returns c =
    let a = c.args in
    stores_as (sym (dose-text a.form a.hour a.count a.amount a.settled a.product))
    (simp append_assoc at (stores-then (stores-then (stores-then (stores-then (stores-then (stores-then c.store_byte-after_letter.ensures c.store_field-after_hour.ensures) c.store_field-after_count.ensures) c.store_field-after_amount.ensures) c.store_field-after_settled.ensures) c.store_product-after_product.ensures) c.store_byte.ensures))
