-- What the pass has found of an accepted journal, and that an hour's tally answers as the hour does. Assumes nothing.
use Rattle.std.specs.Prelude.{◌≡◌, refl, List, [], ◌∷◌, ℕ, eqb, length, Result, Ok}
use Rattle.std.proofs.Common.{sym, ap, ◌∙◌, subst}
use Rattle.std.proofs.Math.Dec.{eqb-suc-zero}
use Rattle.std.specs.Float.{binary64}
use Rattle.std.specs.Float.Ieee.{div}
use Rattle.laws.specs.Pick.{pick}
use Rattle.paper.specs.Answer.{done, told}
use Rattle.journal.specs.Journal.{journal_of, first_hour, last_hour}
use Rattle.journal.specs.declared.Line.{Line}
use Rattle.journal.specs.declared.Refusal.{Refusal}
use Rattle.hourly.specs.Hours.{HourAnswer, measured, idle, missing, amounts_at, has_on, total, greatest, sum_of, largest_of, mean_of, measured_or_idle, hour_of, as_f64}
use Rattle.holes.specs.Holes.{in_hole}
use Rattle.hourly.specs.declared.Products.{Products}
use Rattle.hourly.specs.Accepted.{Accepted, accepted}
use Rattle.hourly.specs.Tally.{tally_of, hour_from, Tells, lines_in, lines_of, summary_of}
use Rattle.hourly.specs.Promises.{Counts, judged-lines}
use Rattle.hourly.specs.declared.Tallied.{Tallied}
use Rattle.hourly.specs.declared.Summary.{Summary}

-- the tally of an hour answers as the hour does
pub hour-tally : (w : Products) (ls : List Line) (h : ℕ) → hour_from (tally_of w ls h) ≡ hour_of w ls h
unfolding hour_from tally_of hour_of measured_or_idle sum_of largest_of mean_of pick
hour-tally w ls h = ap (λ (x : HourAnswer). pick (in_hole h ls) missing (pick (has_on h ls) x missing)) (go (amounts_at w h ls))
  where
    go : (amounts : List ℕ) → pick (eqb (length amounts) 0) idle (measured (as_f64 (total amounts)) (as_f64 (greatest amounts)) (div binary64 (as_f64 (total amounts)) (as_f64 (length amounts)))) ≡ measured_or_idle amounts
    go [] = refl
    go (a ∷ as') = rw eqb-suc-zero

-- the lines of an accepted journal, and what the pass said of them
pub record Found (s : List ℕ) (found : Summary) : Type 0 where
  pub journal : journal_of s ≡ done (lines_of s)
  pub summary : summary_of (lines_of s) ≡ found
  pub lines : length (lines_of s) ≡ found.lines
  pub first : first_hour (lines_of s) ≡ found.first
  pub last : last_hour (lines_of s) ≡ found.last

pub found_of : (s : List ℕ) (found : Summary) → told summary_of (journal_of s) ≡ done found → Found s found
unfolding lines_of summary_of
found_of s found e =
    let j = judged-lines s found (sym e) in
    let q : lines_in (journal_of s) ≡ j.0 = ap lines_in j.1 in
    let f : summary_of j.0 ≡ found = sym j.2 in
    record {
      journal = j.1 ∙ ap done (sym q);
      summary = ap summary_of q ∙ f;
      lines = ap length q ∙ ap (λ (x : Summary). x.lines) f;
      first = ap first_hour q ∙ ap (λ (x : Summary). x.first) f;
      last = ap last_hour q ∙ ap (λ (x : Summary). x.last) f;
    }

pub found-accepted : {s : List ℕ} {found : Summary} → Found s found → Accepted s (lines_of s)
found-accepted {s} f = accepted s (lines_of s) f.journal

-- the pass has counted those lines
pub counts-tell : {w : Products} {s : List ℕ} {t : Tallied} {r : Result Tallied Refusal} → Found s t.found → Counts w s r → r ≡ Ok t → Tells w t.table t.found.first (lines_of s)
counts-tell {w} {s} {t} f c e = subst (λ (h : ℕ). Tells w t.table h (lines_of s)) f.first (c.tells t e (lines_of s) f.journal)
