use mathlib.Core.Path.{◌≡◌, refl, sym, ◌∙◌}
use native.Mathlib.Omega.{arith}
use borrow.Author.Rules.{rules}
use Rattle.laws.specs.Pick.{pick, picks}
use Rattle.laws.specs.Decimal.{good}
use Rattle.calls.specs.Call.{order, greatest32, modbus, bytes, link_at, why_at, settings_at, restart_at, room_at, bytes_call, write_field_at, read_field_at, dose_at, on_at, call_by}
use Rattle.calls.specs.Reads.{as_call, size_of, Within}
use Rattle.journal.specs.declared.Form.TheVariants.{Old, New}
use Rattle.calls.specs.declared.Use.TheVariants.{WriteFrame, ReadFrame, ReadLine, Hour, Hours}
use Rattle.calls.specs.declared.Order.TheVariants.{Reset, Counters}
use Rattle.calls.proofs.Steps.{unasked, asked, by_key, modbus_made, bytes_made}
use Rattle.calls.proofs.call_of.Goals as goal

pub returns-in_default : goal.returns-in_default
unfolding call_by
returns-in_default c =
    let letter = c.requires.letter in
    let tick : c.byte_at.result ≡ 84 → ⊥ = λ t. letter.0 (sym c.byte_at.ensures ∙ t) in
    let request : c.byte_at.result ≡ 66 → ⊥ = λ t. letter.1 (sym c.byte_at.ensures ∙ t) in
    by_key _ call_by c.byte_at.ensures refl refl (unasked (search picks))

pub returns-in-76 : goal.returns-in-76
unfolding call_by pick as_call size_of Within
returns-in-76 c = by_key 76 (λ n. link_at) c.byte_at.ensures c.in-76.is refl c.link.ensures

pub returns-in-83 : goal.returns-in-83
unfolding call_by pick as_call size_of Within
returns-in-83 c = by_key 83 (λ n. settings_at) c.byte_at.ensures c.in-83.is refl c.set.ensures

pub returns-in-67 : goal.returns-in-67
unfolding call_by pick as_call size_of Within
returns-in-67 c = by_key 67 (λ n. good (order Reset)) c.byte_at.ensures c.in-67.is refl (asked c.ended.ensures refl refl (omega arith) tt)

pub returns-in-81 : goal.returns-in-81
unfolding call_by pick as_call size_of Within
returns-in-81 c = by_key 81 (λ n. good (order Counters)) c.byte_at.ensures c.in-81.is refl (asked c.ended-in-81.ensures refl refl (omega arith) tt)

pub returns-in-78 : goal.returns-in-78
unfolding call_by pick as_call size_of Within
returns-in-78 c = by_key 78 (λ n. restart_at) c.byte_at.ensures c.in-78.is refl c.restart.ensures

pub returns-in-77 : goal.returns-in-77
unfolding call_by pick as_call size_of Within
returns-in-77 c = by_key 77 (λ n. room_at 64 modbus) c.byte_at.ensures c.in-77.is refl (c.room.ensures modbus (λ n number r h k made. modbus_made h k (search rules)))

pub returns-in-89 : goal.returns-in-89
unfolding call_by pick as_call size_of Within
returns-in-89 c = by_key 89 (λ n. why_at) c.byte_at.ensures c.in-89.is refl c.why.ensures

pub returns-in-87 : goal.returns-in-87
unfolding call_by pick as_call size_of Within
returns-in-87 c = by_key 87 (λ n. room_at 600 (bytes WriteFrame)) c.byte_at.ensures c.in-87.is refl (c.room-in-87.ensures (bytes WriteFrame) (λ n number r h k made. bytes_made h WriteFrame (search rules)))

pub returns-in-88 : goal.returns-in-88
unfolding call_by pick as_call size_of Within
returns-in-88 c = by_key 88 (λ n. bytes_call (bytes ReadFrame)) c.byte_at.ensures c.in-88.is refl c.alone.ensures

pub returns-in-71 : goal.returns-in-71
unfolding call_by pick as_call size_of Within
returns-in-71 c = by_key 71 (λ n. write_field_at) c.byte_at.ensures c.in-71.is refl c.weight.ensures

pub returns-in-75 : goal.returns-in-75
unfolding call_by pick as_call size_of Within
returns-in-75 c = by_key 75 (λ n. read_field_at) c.byte_at.ensures c.in-75.is refl c.four.ensures

pub returns-in-68 : goal.returns-in-68
unfolding call_by pick as_call size_of Within
returns-in-68 c = by_key 68 (λ n. dose_at) c.byte_at.ensures c.in-68.is refl c.dose.ensures

pub returns-in-72 : goal.returns-in-72
unfolding call_by pick as_call size_of Within
returns-in-72 c = by_key 72 (λ n. on_at) c.byte_at.ensures c.in-72.is refl c.on.ensures

pub returns-in-108 : goal.returns-in-108
unfolding call_by pick as_call size_of Within
returns-in-108 c = by_key 108 (λ n. bytes_call (bytes (ReadLine Old))) c.byte_at.ensures c.in-108.is refl c.alone-in-108.ensures

pub returns-in-109 : goal.returns-in-109
unfolding call_by pick as_call size_of Within
returns-in-109 c = by_key 109 (λ n. bytes_call (bytes (ReadLine New))) c.byte_at.ensures c.in-109.is refl c.alone-in-109.ensures

pub returns-in-117 : goal.returns-in-117
unfolding call_by pick as_call size_of Within
returns-in-117 c = by_key 117 (λ n. room_at greatest32 (bytes Hour)) c.byte_at.ensures c.in-117.is refl (c.room-in-117.ensures (bytes Hour) (λ n number r h k made. bytes_made h Hour (search rules)))

pub returns-in-106 : goal.returns-in-106
unfolding call_by pick as_call size_of Within
returns-in-106 c = by_key 106 (λ n. room_at 2000 (bytes Hours)) c.byte_at.ensures c.in-106.is refl (c.room-in-106.ensures (bytes Hours) (λ n number r h k made. bytes_made h Hours (search rules)))
