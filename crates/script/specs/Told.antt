-- What a program knows of the next line by what it was told. Assumes nothing.
use Rattle.std.proofs.Math.Path.{◌≡◌, ap, ap₂}
use Rattle.std.specs.Prelude.{refl, Option, Some, None, List, [], ◌∷◌, ℕ, ◌+◌, ◌≤◌, ◌<◌, ltb, ℤ, length, take}
use Rattle.std.proofs.Common.{sym, ◌∙◌, subst}
use Rattle.std.proofs.Math.Bool.{false}
use native.Mathlib.Omega.{arith}
use Rattle.laws.specs.Pick.{pick, pick-if}
use Rattle.laws.specs.Decimal.{Parsed, good, bad}
use Rattle.lines.specs.declared.Intake.{Intake}
use Rattle.lines.specs.declared.Taken.{Taken}
use Rattle.lines.specs.Places.{end_of, part_of}
use Rattle.lines.specs.Intake.{overlong, line_to, next_of, Behind, NextStands, next-steps}
use Rattle.calls.specs.Call.{Call, tick, request, modbus, order, item, bytes, at_end, call_by, call_of}
use Rattle.calls.specs.declared.Call as read
use Rattle.calls.specs.declared.Call.TheVariants as C
use Rattle.calls.specs.Reads.{as_call, Unticked}
use Rattle.script.specs.Sight.{Seen, seen, unseen, if_tick, only_tick, ticked, placed, handed_tick, sight_of}
use Rattle.script.specs.declared.Tick.{Tick}

unseen-seen : {X : Type 0} {x : ℤ} {k : ℕ} → unseen ≡ seen x k → X
unseen-seen e = let z : ◌≡◌ {A = ℕ} 0 1 = cc in let f : ⊥ = omega arith in absurd f

-- ---- a tick

if-tick : (call : Call) {x : ℤ} {k : ℕ} → if_tick call ≡ seen x k → call ≡ tick x k
unfolding if_tick
if-tick (tick x i) e = cc
if-tick (request s room) e = unseen-seen e
if-tick (modbus s room) e = unseen-seen e
if-tick (order o) e = unseen-seen e
if-tick (item i) e = unseen-seen e
if-tick (bytes u s n) e = unseen-seen e

ended-tick : (p : Parsed Call) {x : ℤ} {k : ℕ} → only_tick (at_end p) ≡ seen x k → at_end p ≡ good (tick x k) []
unfolding at_end only_tick
ended-tick (good call []) e = ap (λ (c : Call). good c []) (if-tick call e)
ended-tick (good call (b ∷ bs)) e = unseen-seen e
ended-tick bad e = unseen-seen e

line-tick : (l : List ℕ) {x : ℤ} {k : ℕ} → only_tick (call_of l) ≡ seen x k → call_of l ≡ good (tick x k) []
unfolding call_of only_tick
line-tick [] e = unseen-seen e
line-tick (b ∷ bs) e = ended-tick (call_by b bs) e

placed-tick : (n : ℕ) (s : Seen) {x : ℤ} {k next : ℕ} → placed n s ≡ Some (ticked x k next) → (s ≡ seen x k) × (n ≡ next)
unfolding placed
placed-tick n (seen y j) {x} {k} {next} e =
    let t : ticked y j n ≡ ticked x k next = cc in
    (ap₂ seen (ap (λ (t : Tick). t.sample) t) (ap (λ (t : Tick). t.inputs) t), ap (λ (t : Tick). t.next) t)
placed-tick n unseen e = let z : ◌≡◌ {A = ℕ} 0 1 = cc in let f : ⊥ = omega arith in absurd f

-- it is the next line's, and the others begin behind it
pub record Ticking (i : Intake) (input : List ℕ) (t : Taken) (x : ℤ) (k next : ℕ) : Type 0 where
  pub from : ℕ
  pub to : ℕ
  pub line : t.next ≡ Some (from, to)
  pub behind : t.intake ≡ record { at = next; have = i.have; long = false }
  pub call : call_of (part_of from to input) ≡ good (tick x k) []

module _ (i : Intake) (input : List ℕ) where
  told_line : (end : ℕ) {x : ℤ} {k next : ℕ} → handed_tick input (line_to i end).intake.at (line_to i end).next ≡ Some (ticked x k next) → Ticking i input (line_to i end) x k next
  unfolding line_to handed_tick
  told_line end e =
      let l = part_of (pick (overlong i end) end i.at) end input in
      let p = placed-tick (end + 1) (only_tick (call_of l)) e in
      record {
        from = pick (overlong i end) end i.at;
        to = end;
        line = refl;
        behind = ap (λ (n : ℕ). record { at = n; have = i.have; long = false }) p.1;
        call = line-tick l p.0;
      }

  pub tick-told : {x : ℤ} {k next : ℕ} → sight_of i input ≡ Some (ticked x k next) → Ticking i input (next_of i input) x k next
  unfolding sight_of next_of handed_tick
  tick-told {x} {k} {next} e =
      pick-if (λ (t : Taken). handed_tick input t.intake.at t.next ≡ Some (ticked x k next) → Ticking i input t x k next) (ltb (end_of (take i.have input) i.at) (length (take i.have input)))
      (λ h. told_line (end_of (take i.have input) i.at))
      (λ h f. let z : ◌≡◌ {A = ℕ} 0 1 = cc in let a : ⊥ = omega arith in absurd a)
      e

  -- it lies in the buffer
  pub tick-ahead : {x : ℤ} {k next : ℕ} → sight_of i input ≡ Some (ticked x k next) → (i.at < next) × (next ≤ length input)
  tick-ahead e =
      let t = tick-told e in
      let b : Behind i input t.from t.to (next_of i input).intake = subst (NextStands i input (next_of i input).intake) t.line (next-steps i input).stands in
      let at = ap (λ (j : Intake). j.at) t.behind in
      (omega (arith, b.place, b.ahead, at), omega (arith, b.place, b.inside, at))

-- ---- no tick

untick : (s : List ℕ) (call : read.Call) → only_tick (as_call s call) ≡ unseen → Unticked call
unfolding only_tick as_call if_tick
untick s (C.Tick x i) e = unseen-seen (sym e)
untick s (C.Request n room) e = tt
untick s (C.Modbus n room) e = tt
untick s (C.Order o) e = tt
untick s (C.Item i) e = tt
untick s (C.Bytes u n k) e = tt
untick s C.Unknown e = tt

placed-none : (n : ℕ) (s : Seen) → placed n s ≡ None → s ≡ unseen
unfolding placed
placed-none n (seen y j) e = let z : ◌≡◌ {A = ℕ} 0 1 = cc in let f : ⊥ = omega arith in absurd f
placed-none n unseen e = refl

pub no-tick : (i : Intake) (input : List ℕ) {from to : ℕ} → sight_of i input ≡ None → (next_of i input).next ≡ Some (from, to)
    → (s : List ℕ) (call : read.Call) → as_call s call ≡ call_of (part_of from to input) → Unticked call
unfolding sight_of handed_tick
no-tick i input {from} {to} e l s call a =
    let next = (next_of i input).intake.at in
    untick s call (ap only_tick a ∙ placed-none next (only_tick (call_of (part_of from to input))) (sym (ap (handed_tick input next) l) ∙ e))
