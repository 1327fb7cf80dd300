use mathlib.Core.Path.{◌≡◌, refl, sym, ap, ◌∙◌}
use mathlib.Core.List.{List}
use Prim.Native.Nat.{ℕ, ◌+◌, ◌≤◌, ◌<◌}
use native.Mathlib.Omega.{arith}
use lib.ListN.{length, get_or, drop, length-append}
use lib.Seq.{sets}
use Rattle.laws.specs.Over.{sets-append}
use Rattle.text.specs.Put.{Puts}
use Rattle.text.specs.PutLaws.{room-is, puts-fit, puts-length}
use Rattle.journal.specs.declared.Form.{Form}
use Rattle.conversion.specs.Bytes.{tabs_after, piece_of, bytes_to}
use Rattle.conversion.proofs.Bytewise.{rest_more, rest-none, tabs-most}
use Rattle.conversion.proofs.put_lines.Invariants.{Stored}
use Rattle.conversion.proofs.put_lines.Goals as goal

module _ {to : Form} {s : List ℕ} {at : ℕ} {old out : List ℕ} {tabs i p : ℕ} (c : Stored to s at old out tabs i p) (h : i < length s) (room : at + length (bytes_to to 0 s) ≤ length old) where
  abbrev piece : List ℕ
  piece = piece_of to tabs (get_or s i 0)

  abbrev rest : List ℕ
  rest = bytes_to to (tabs_after tabs (get_or s i 0)) (drop (i + 1) s)

  piece-room : p + length piece ≤ length out
  piece-room = omega (arith, c.size, c.place, ap length (rest_more to tabs i s h) ∙ length-append piece rest)

  stored_more : {new : List ℕ} {r t : ℕ} → Puts out p piece new r → t ≡ tabs_after tabs (get_or s i 0) → Stored to s at old new t (i + 1) r
  stored_more {new} {r} {t} q e =
      let f = puts-fit (room-is out p piece piece-room) q in
      let turned = ap (λ (u : ℕ). bytes_to to u (drop (i + 1) s)) e in
      record {
        size = puts-length q ∙ c.size;
        place = omega (arith, c.place, f.1, ap length turned, ap length (rest_more to tabs i s h) ∙ length-append piece rest);
        left =
            ap (sets new r) turned
            ∙ ap (λ (o : List ℕ). sets o r rest) f.0
            ∙ ap (λ (j : ℕ). sets (sets out p piece) j rest) f.1
            ∙ sym (sets-append out p piece rest)
            ∙ ap (sets out p) (sym (rest_more to tabs i s h))
            ∙ c.left;
        few = omega (arith, e, c.few, tabs-most tabs (get_or s i 0));
      }

pub loop-b-init : goal.loop-b-init
loop-b-init c = record { size = refl; place = refl; left = refl; few = omega arith }

pub put_piece-p-requires : goal.put_piece-p-requires
put_piece-p-requires c = record { few = omega (arith, c.loop-b.invariant.few, c.loop-b-test.true, c.requires.short); room = piece-room c.loop-b.invariant c.loop-b-test.true c.requires.room }

pub tabs_after-tabs-requires : goal.tabs_after-tabs-requires
tabs_after-tabs-requires c = omega (arith, c.loop-b.invariant.few, c.loop-b-test.true, c.requires.short)

pub loop-b-preserved : goal.loop-b-preserved
loop-b-preserved c = stored_more c.loop-b.invariant c.loop-b-test.true c.requires.room c.put_piece-p.ensures c.tabs_after-tabs.ensures

pub returns : goal.returns
returns c =
    let l = c.loop-b in
    ap (sets l.out l.p) (sym (rest-none c.args.to l.tabs l.b-index _ c.loop-b-test.false)) ∙ l.invariant.left
