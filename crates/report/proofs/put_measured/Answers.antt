use mathlib.Core.List.{List, [], ◌∷◌, ◌++◌}
use Prim.Native.Nat.{ℕ}
use Rattle.laws.specs.Decimal.{decimal, hex_of}
use Rattle.text.specs.Scan.{LF, TAB}
use Rattle.text.specs.PutLaws.{put_then}
use Rattle.hourly.specs.Text.{letter_m}
use Rattle.report.specs.Rows.{tail_text}
use Rattle.report.proofs.put_measured.Goals as goal

pub returns : goal.returns
unfolding tail_text
returns c =
    let a = c.args in
    let t7 : List ℕ = LF ∷ [] in
    let t6 : List ℕ = hex_of 16 a.bits ++ t7 in
    let t5 : List ℕ = TAB ∷ t6 in
    let t4 : List ℕ = decimal a.sum ++ t5 in
    let t3 : List ℕ = TAB ∷ t4 in
    let t2 : List ℕ = decimal a.doses ++ t3 in
    let t1 : List ℕ = TAB ∷ t2 in
    put_then (letter_m ∷ []) t1 c.requires c.put_byte-p.ensures
    (λ h. put_then (TAB ∷ []) t2 h c.put_byte-p-2.ensures
    (λ h. put_then (decimal a.doses) t3 h c.put_decimal-p.ensures
    (λ h. put_then (TAB ∷ []) t4 h c.put_byte-p-3.ensures
    (λ h. put_then (decimal a.sum) t5 h c.put_decimal-p-2.ensures
    (λ h. put_then (TAB ∷ []) t6 h c.put_byte-p-4.ensures
    (λ h. put_then (hex_of 16 a.bits) t7 h c.put_hex-p.ensures
    (λ h. c.put_byte.ensures)))))))
