-- What the answers of the hours' calls say, in the paper's words, and that two which say the same are equal. Assumes nothing.
use Rattle.std.specs.Prelude.{◌≡◌, refl, ℕ, Float, Result, Ok, Err}
use Rattle.std.proofs.Common.{sym, ap, arith}
use Rattle.paper.specs.Answer.{Answer, done}
use Rattle.journal.specs.Says.{says_refusal, refusal-one, refusal-done}
use Rattle.journal.specs.declared.Refusal.{Refusal}
use Rattle.hourly.specs.Hours.{HourAnswer, measured, idle, missing}
use Rattle.hourly.specs.declared.Figures.{Figures}
use Rattle.hourly.specs.declared.Hour.{Hour}
use Rattle.hourly.specs.declared.Hour.TheVariants as H
use Rattle.hourly.specs.declared.Summary.{Summary}
use Rattle.hourly.specs.declared.Tallied.{Tallied}

-- measured with its sum, largest amount and mean; idle; missing
abbrev pub says_hour : Hour → HourAnswer
says_hour (H.Measured f) = measured f.sum f.largest f.mean
says_hour H.Idle = idle
says_hour H.Missing = missing

abbrev pub says_asked : Result Hour Refusal → Answer HourAnswer
says_asked (Ok h) = done (says_hour h)
says_asked (Err r) = says_refusal r

-- the number of the lines and the hours of the first and the last, or why the journal is refused
abbrev pub says_judged : Result Summary Refusal → Answer Summary
says_judged (Ok s) = done s
says_judged (Err r) = says_refusal r

-- the same of an answer that has the tallies too
abbrev pub says_tallied : Result Tallied Refusal → Answer Summary
says_tallied (Ok t) = done t.found
says_tallied (Err r) = says_refusal r

-- ---- two answers that say the same are equal

figures-one : {a b c d e f : Float} → a ≡ b → c ≡ d → e ≡ f → ◌≡◌ {A = Figures} (record { sum = a; largest = c; mean = e }) (record { sum = b; largest = d; mean = f })
figures-one p q r = cc

pub hour-one : (a b : Hour) → says_hour a ≡ says_hour b → a ≡ b
hour-one (H.Measured f) (H.Measured g) e = ap (λ (x : Figures). H.Measured x) (figures-one {a = f.sum} {b = g.sum} {c = f.largest} {d = g.largest} {e = f.mean} {f = g.mean} (cc) (cc) (cc))
hour-one (H.Measured f) H.Idle e = let z : ◌≡◌ {A = ℕ} 0 1 = cc in absurd (omega arith)
hour-one (H.Measured f) H.Missing e = let z : ◌≡◌ {A = ℕ} 0 1 = cc in absurd (omega arith)
hour-one H.Idle (H.Measured g) e = let z : ◌≡◌ {A = ℕ} 0 1 = cc in absurd (omega arith)
hour-one H.Idle H.Idle e = refl
hour-one H.Idle H.Missing e = let z : ◌≡◌ {A = ℕ} 0 1 = cc in absurd (omega arith)
hour-one H.Missing (H.Measured g) e = let z : ◌≡◌ {A = ℕ} 0 1 = cc in absurd (omega arith)
hour-one H.Missing H.Idle e = let z : ◌≡◌ {A = ℕ} 0 1 = cc in absurd (omega arith)
hour-one H.Missing H.Missing e = refl

pub asked-one : (a b : Result Hour Refusal) → says_asked a ≡ says_asked b → a ≡ b
asked-one (Ok x) (Ok y) e = let h : says_hour x ≡ says_hour y = cc in ap (λ (z : Hour). Ok z) (hour-one x y h)
asked-one (Ok x) (Err r) e = refusal-done r (sym e)
asked-one (Err q) (Ok y) e = refusal-done q e
asked-one (Err q) (Err r) e = ap (λ (z : Refusal). Err z) (refusal-one q r e)

pub judged-one : (a b : Result Summary Refusal) → says_judged a ≡ says_judged b → a ≡ b
judged-one (Ok s) (Ok t) e = cc
judged-one (Ok s) (Err r) e = refusal-done r (sym e)
judged-one (Err q) (Ok t) e = refusal-done q e
judged-one (Err q) (Err r) e = ap (λ (x : Refusal). Err x) (refusal-one q r e)
