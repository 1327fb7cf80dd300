-- One hour of an accepted journal by its tallies, also outside its hours. Assumes nothing.
use Rattle.std.specs.Prelude.{◌≡◌, refl, Bool, true, false, List, ℕ, ◌+◌, ◌-◌, ◌<◌, ltb, get_or}
use Rattle.std.proofs.Common.{sym, ap, ◌∙◌, inl, inr, arith, ltb-true, ltb-false}
use Rattle.laws.specs.Pick.{pick}
use Rattle.hourly.specs.Hours.{missing, hour_of}
use Rattle.hourly.specs.Bounds.{outside-missing}
use Rattle.hourly.specs.Tally.{outside, lines_of, tally_of, Tells, hour_from, hour_among}
use Rattle.hourly.specs.declared.Products.{Products}
use Rattle.hourly.specs.declared.Tally.{Tally}
use Rattle.hourly.specs.declared.Summary.{Summary}
use Rattle.hourly.specs.TallyLaws.{Found, found-accepted, hour-tally}

pub among-hour : {w : Products} {s : List ℕ} {found : Summary} {table : List Tally} → Found s found → Tells w table found.first (lines_of s) → (h : ℕ) → hour_among table found h ≡ hour_of w (lines_of s) h
unfolding hour_among pick
among-hour {w} {s} {found} {table} f t h = go (ltb h found.first) (ltb found.last h) refl refl
  where
    go : (b d : Bool) → ltb h found.first ≡ b → ltb found.last h ≡ d
        → pick b missing (pick d missing (hour_from (get_or table (h - found.first) outside))) ≡ hour_of w (lines_of s) h
    go true d p q = sym (outside-missing w (lines_of s) h (found-accepted f) (inl (omega (arith, f.first, ltb-true h found.first p))))
    go false true p q = sym (outside-missing w (lines_of s) h (found-accepted f) (inr (omega (arith, f.last, ltb-true found.last h q))))
    go false false p q =
        let low = ltb-false h found.first p in
        let high = ltb-false found.last h q in
        let k : h - found.first < 744 = omega (arith, f.first, f.last, (found-accepted f).span) in
        let e : found.first + (h - found.first) ≡ h = omega arith in
        ap hour_from (t.at (h - found.first) k) ∙ ap (λ (x : ℕ). hour_from (tally_of w (lines_of s) x)) e ∙ hour-tally w (lines_of s) h
