-- What is read behind a value, and the bounds of a number. Assumes nothing.
use Rattle.std.specs.Prelude.{◌≡◌, List, [], ◌∷◌, ℕ, ◌+◌, ◌≤◌, ◌<◌, eqb, length, get_or, drop}
use Rattle.std.proofs.Common.{ap, ◌∙◌, add-one, drop-cons}
use Rattle.laws.specs.Pick.{pick, pick-if}
use Rattle.laws.specs.Decimal.{Parsed, good, bad}
use Rattle.laws.specs.DecimalLaws.{number-only}
use Rattle.text.specs.Scan.{Num, on_good, expect, field_at, leads, Scans}
use Rattle.text.specs.ScanLaws.{bad-good}

pub on-good : {X Y : Type 0} {p : Parsed X} {v : X} {rest : List ℕ} (k : X → List ℕ → Parsed Y) → p ≡ good v rest → on_good p k ≡ k v rest
unfolding on_good
on-good k e = ap (λ (p : Parsed _). on_good p k) e

pub on-bad : {X Y : Type 0} {p : Parsed X} (k : X → List ℕ → Parsed Y) → p ≡ bad → on_good p k ≡ bad
unfolding on_good
on-bad k e = ap (λ (p : Parsed _). on_good p k) e

pub good-as : {X : Type 0} {v w : X} {rest : List ℕ} → v ≡ w → good v rest ≡ good w rest
good-as {X} {v} {w} {rest} e = ap (λ (x : X). good x rest) e

-- what a rule reads, by a number that was answered
pub num : {s : List ℕ} {rule : Parsed ℕ} {r r' : Num} → Scans s rule r → r ≡ r' → rule ≡ leads s r'
num {s} y e = y.reads ∙ ap (leads s) e

-- a number is at most the greatest that is read
pub field-most : (most : ℕ) (l : List ℕ) {v : ℕ} {rest : List ℕ} → field_at most l ≡ good v rest → v ≤ most
unfolding field_at expect pick
field-most most [] e = bad-good e
field-most most (x ∷ xs) {v} {rest} e = pick-if (λ (p : Parsed ℕ). p ≡ good v rest → v ≤ most) (eqb x 9) (λ t e. (number-only most xs v rest e).1) (λ t e. bad-good e) e

pub from_byte : (s : List ℕ) (at : ℕ) → at < length s → drop at s ≡ get_or s at 0 ∷ drop (at + 1) s
from_byte s at h = rw (add-one, drop-cons s at 0)
