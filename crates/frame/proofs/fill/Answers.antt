use Rattle.frame.proofs.Laws.{before-plain, part-plain}
use Rattle.std.proofs.lemmas.List.{length-take}
use Rattle.std.specs.Prelude.{min}
use Rattle.frame.proofs.fill.Goals as goal
use Rattle.frame.proofs.fill.Goals.{After-before_mark-k}
use lib.ListN.{length, take, drop}
use Rattle.frame.specs.Stands.{Plain}
use Prim.Native.Nat.{◌≤◌, ℕ}
use native.Mathlib.Omega.{arith}
use mathlib.Core.Path.{◌≡◌, ap}
use Rattle.std.proofs.lemmas.List.{length-take}
use Rattle.std.specs.Prelude.{min}
use mathlib.Core.List.{List, ◌++◌}

part : (c : After-before_mark-k) → Plain (take c.min-most.result c.args.bytes.now) c.before_mark-k.result
part c = rw c.before_mark-k.ensures (before-plain _)

room : (c : After-before_mark-k) → c.before_mark-k.result ≤ length c.args.room.now
room c =
    let p = part c in
    let l : length (take c.min-most.result c.args.bytes.now) ≡ min c.min-most.result (length c.args.bytes.now) = length-take c.min-most.result c.args.bytes.now in
    omega (arith, p.inside, c.min-most.ensures)

pub returns : goal.returns
returns c =
    let k = (goal.at.returns c).After-before_mark-k in
    record { plain = part-plain _ _ _ (part k); room = room k; left = ap (λ (l : List ℕ). l ++ drop c.before_mark-k.result c.args.room.now) c.copy_from_slice.ensures.after }
