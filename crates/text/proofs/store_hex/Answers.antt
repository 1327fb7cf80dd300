use native.Mathlib.Omega.{arith}
use mathlib.Core.Path.{◌≡◌, sym, ap, ◌∙◌}
use mathlib.Core.List.{[]}
use Prim.Native.Nat.{ℕ, ◌+◌, ◌-◌, ◌/◌, ◌%◌}
use lib.ListN.{length, length-set}
use lib.Seq.{sets}
use Rattle.laws.specs.Decimal.{glyph, hex_of}
use Rattle.laws.specs.DecimalLaws.{hex-length}
use Rattle.text.proofs.Laws.{store-last, hex-step, hex-none}
use Rattle.text.proofs.store_hex.Goals as goal

pub loop-k-preserved : goal.loop-k-preserved
loop-k-preserved c =
    let at = c.args.at in
    let s = c.loop-k in
    let rest = hex_of (s.k - 1) (s.v / 16) in
    let p : at + (s.k - 1) ≡ at + length rest = ap (λ (j : ℕ). at + j) (sym (hex-length (s.k - 1) (s.v / 16))) in
    (simp length-set s.invariant.0, rw c.hex_digit.ensures (store-last s.out at (at + (s.k - 1)) (glyph (s.v % 16)) _ rest _ (hex-step s.k s.v c.loop-k-test.true) p s.invariant.1))

pub returns : goal.returns
returns c =
    let s = c.loop-k in
    let z : s.k ≡ 0 = omega (arith, c.loop-k-test.false) in
    let e : hex_of s.k s.v ≡ [] = ap (λ (j : ℕ). hex_of j s.v) z ∙ hex-none s.v in
    ap (sets s.out c.args.at) (sym e) ∙ s.invariant.1
