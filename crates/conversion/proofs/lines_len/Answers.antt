use mathlib.Core.Path.{◌≡◌, ap, ◌∙◌}
use mathlib.Core.List.{List}
use Prim.Native.Nat.{ℕ, ◌+◌, ◌<◌}
use native.Mathlib.Omega.{arith}
use lib.ListN.{length, get_or, drop, length-append}
use Rattle.journal.specs.declared.Form.{Form}
use Rattle.conversion.specs.Bytes.{tabs_after, piece_of, bytes_to}
use Rattle.conversion.proofs.Bytewise.{rest_more, rest-none, tabs-most, piece-most}
use Rattle.conversion.proofs.lines_len.Invariants.{Counted}
use Rattle.conversion.proofs.lines_len.Goals as goal

counted-more : (to : Form) (s : List ℕ) (n tabs i k t : ℕ) → Counted to s n tabs i → i < length s → k ≡ length (piece_of to tabs (get_or s i 0)) → t ≡ tabs_after tabs (get_or s i 0) → Counted to s (n + k) t (i + 1)
counted-more to s n tabs i k t c h e f =
    let b = get_or s i 0 in
    record {
      all =
          omega (
            arith,
            c.all,
            ap (λ (u : ℕ). length (bytes_to to u (drop (i + 1) s))) f,
            ap length (rest_more to tabs i s h) ∙ length-append (piece_of to tabs b) (bytes_to to (tabs_after tabs b) (drop (i + 1) s)),
          );
      most = omega (arith, c.most, piece-most to tabs b);
      few = omega (arith, c.few, tabs-most tabs b);
    }

pub loop-b-init : goal.loop-b-init
loop-b-init c = record { all = omega arith; most = omega arith; few = omega arith }

pub piece_len-n-requires : goal.piece_len-n-requires
piece_len-n-requires c = omega (arith, c.loop-b.invariant.few, c.loop-b-test.true, c.requires)

pub overflow_add-n : goal.overflow_add-n
overflow_add-n c = omega (arith, c.piece_len-n.ensures, piece-most c.args.to c.loop-b.tabs (get_or c.args.lines.now c.loop-b.b-index 0), c.loop-b.invariant.most, c.loop-b-test.true, c.requires)

pub tabs_after-tabs-requires : goal.tabs_after-tabs-requires
tabs_after-tabs-requires c = omega (arith, c.loop-b.invariant.few, c.loop-b-test.true, c.requires)

pub loop-b-preserved : goal.loop-b-preserved
loop-b-preserved c = counted-more _ _ _ _ _ _ _ c.loop-b.invariant c.loop-b-test.true c.piece_len-n.ensures c.tabs_after-tabs.ensures

pub returns : goal.returns
returns c = omega (arith, c.loop-b.invariant.all, ap length (rest-none c.args.to c.loop-b.tabs c.loop-b.b-index c.args.lines.now c.loop-b-test.false))
