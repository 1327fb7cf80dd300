use mathlib.Core.Path.{◌≡◌, refl, sym, ap, ◌∙◌}
use mathlib.Core.List.{List, ◌++◌}
use Prim.Native.Nat.{ℕ, ◌+◌}
use native.Mathlib.Omega.{arith}
use lib.Dec.{ltb}
use borrow.Author.Tests.{lt-ltb, le-ltb}
use lib.ListN.{take, drop, length-drop}
use lib.Seq.{length-take-le, take-add}
use Rattle.std.specs.Prelude.{Result, Ok, Err, if◌then◌else◌}
use Rattle.lines.specs.declared.Intake.{Intake}
use Rattle.lines.specs.Places.{Carries, carry-inside}
use Rattle.lines.specs.Intake.{pending, carry-pending}
use Rattle.refill.specs.Refills.{Keeps, Refills}
use Rattle.refill.proofs.refill.Goals as goal

-- n bytes were read behind those that were carried to the start
refills : {i : Intake} {old mid new : List ℕ} {held n : ℕ} {r : Result Intake Intake} → Carries i.at i.have old mid held → Keeps held mid new n
    → r ≡ (if ltb 0 n then Ok (record { at = 0; have = held + n; long = i.long }) else Err (record { at = 0; have = held + n; long = i.long })) → Refills i old new r
unfolding pending
refills {i} {old} {mid} {new} {held} {n} p k e = record {
  got = take n (drop held new);
  held = record { at = 0; have = held + n; long = i.long };
  at = refl;
  brought = take-add held n new ∙ ap (λ (l : List ℕ). l ++ take n (drop held new)) (k.first ∙ carry-pending i p);
  more = e ∙ ap (answered (record { at = 0; have = held + n; long = i.long })) (sym (length-take-le n (drop held new) (omega (arith, k.within, length-drop held new))));
  long = refl;
  within = k.within;
}
  where
    answered : Intake → ℕ → Result Intake Intake
    answered j m = if ltb 0 m then Ok j else Err j

pub read_behind-n-requires : goal.read_behind-n-requires
read_behind-n-requires c = omega (arith, carry-inside c.carry-held.ensures)

pub returns-then-more : goal.returns-then-more
returns-then-more c = refills c.carry-held.ensures c.read_behind-n.ensures (rw (lt-ltb 0 c.read_behind-n.result (omega (arith, c.if-more.true))) refl)

pub returns-else-more : goal.returns-else-more
returns-else-more c = refills c.carry-held.ensures c.read_behind-n.ensures (rw (le-ltb 0 c.read_behind-n.result (omega (arith, c.if-more.false))) refl)
