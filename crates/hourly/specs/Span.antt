-- Which hours are printed: every one from the first line's to the last line's, in their order, and no other. Assumes nothing.
use Rattle.std.specs.Prelude.{◌≡◌, refl, ◌⊎◌, ℕ, zero, suc, ◌+◌, ◌≤◌, ◌<◌, length, get_or}
use Rattle.std.proofs.Common.{sym, ap, ◌∙◌, subst, inl, inr, arith}
use mathlib.Core.List.Memᴰ
use mathlib.Core.List.{List, [], ◌∷◌, ◌++◌, map, Memᴰ}
use Rattle.std.proofs.Math.Decide.{dec_lt}
use Rattle.paper.specs.Answer.{done}
use Rattle.journal.specs.Journal.{hour_in, first_hour, last_hour, journal_of}
use Rattle.journal.specs.declared.Line.{Line}
use Rattle.holes.specs.HoleLaws.{Exactly}
use Rattle.hourly.specs.Accepted.{accepted}
use Rattle.hourly.specs.declared.Products.{Products}
use Rattle.hourly.specs.Text.{row_of, hours_from, span_of, HourRow, rows_of}

-- n hours from h on are those from h to h + n - 1
hours-only : (n h k : ℕ) → Memᴰ k (hours_from h n) → (h ≤ k) × (k < h + n)
unfolding hours_from
hours-only zero h k m = absurd (Memᴰ.not-nil m)
hours-only (suc n) h k m = go (Memᴰ.cases_cons m) (hours-only n (suc h) k)
  where
    go : (k ≡ h) ⊎ Memᴰ k (hours_from (suc h) n) → (Memᴰ k (hours_from (suc h) n) → (suc h ≤ k) × (k < suc h + n)) → (h ≤ k) × (k < h + suc n)
    go (inl e) more = (omega arith, omega arith)
    go (inr l) more = let r = more l in (omega (arith, r.0), omega (arith, r.1))

hours-all : (n h k : ℕ) → h ≤ k → k < h + n → Memᴰ k (hours_from h n)
unfolding hours_from
hours-all zero h k a b = absurd (omega arith)
hours-all (suc n) h k a b =
    elim (dec_lt h k) [
      | yes l ↦ Memᴰ.tail (hours-all n (suc h) k (omega arith) (omega arith))
      | no l ↦ let e : k ≡ h = omega arith in Memᴰ.head e
    ]

-- the hour of the last line, which is last
last-is : (fore : List Line) (last : Line) → last_hour (fore ++ last ∷ []) ≡ hour_in last
unfolding last_hour
last-is [] last = refl
last-is (l ∷ []) last = refl
last-is (l ∷ m ∷ fore) last = last-is (m ∷ fore) last

-- every hour from first to last: h is among them exactly if it is not before the first line's hour nor after the last line's
pub span-exactly : (first last : Line) (rest fore : List Line) → first ∷ rest ≡ fore ++ last ∷ [] → hour_in first ≤ hour_in last → (h : ℕ)
    → Exactly (Memᴰ h (span_of (first ∷ rest))) ((hour_in first ≤ h) × (h ≤ hour_in last))
unfolding span_of first_hour
span-exactly first last rest fore e o h =
    let l : last_hour (first ∷ rest) ≡ hour_in last = ap last_hour e ∙ last-is fore last in
    (λ m. let r = hours-only _ (hour_in first) h m in (r.0, omega (arith, r.1, l)), λ b. hours-all _ (hour_in first) h b.0 (omega (arith, b.1, l)))

hours-at : (n h k : ℕ) → k < length (hours_from h n) → get_or (hours_from h n) k 0 ≡ h + k
unfolding hours_from
hours-at zero h k l = absurd (omega arith)
hours-at (suc n) h zero l = omega arith
hours-at (suc n) h (suc k) l = hours-at n (suc h) k (omega arith) ∙ omega arith

-- and they stand in their order, each once
pub span-order : (first : Line) (rest : List Line) (k : ℕ) → k < length (span_of (first ∷ rest)) → get_or (span_of (first ∷ rest)) k 0 ≡ hour_in first + k
unfolding span_of first_hour
span-order first rest k l = hours-at _ (hour_in first) k l

-- the rows of some hours are one for each
row-only : (f : ℕ → HourRow) (ks : List ℕ) (p : HourRow) → Memᴰ p (map f ks) → (k : ℕ) × Memᴰ k ks × (p ≡ f k)
row-only f [] p m = absurd (Memᴰ.not-nil m)
row-only f (k ∷ ks) p m = go (Memᴰ.cases_cons m) (row-only f ks p)
  where
    go : (p ≡ f k) ⊎ Memᴰ p (map f ks) → (Memᴰ p (map f ks) → (j : ℕ) × Memᴰ j ks × (p ≡ f j)) → (j : ℕ) × Memᴰ j (k ∷ ks) × (p ≡ f j)
    go (inl e) more = (k, Memᴰ.head refl, e)
    go (inr l) more = let r = more l in (r.0, Memᴰ.tail r.1, r.2)

row-all : (f : ℕ → HourRow) (ks : List ℕ) (k : ℕ) → Memᴰ k ks → Memᴰ (f k) (map f ks)
row-all f [] k m = absurd (Memᴰ.not-nil m)
row-all f (j ∷ ks) k m = go (Memᴰ.cases_cons m) (row-all f ks k)
  where
    go : (k ≡ j) ⊎ Memᴰ k ks → (Memᴰ k ks → Memᴰ (f k) (map f ks)) → Memᴰ (f k) (map f (j ∷ ks))
    go (inl e) more = Memᴰ.head (ap f e)
    go (inr l) more = Memᴰ.tail (more l)

abbrev row_at : Products → List Line → ℕ → HourRow
row_at w ls h = record { hour = h; row = row_of w ls h }

-- of an accepted journal a row is printed exactly if it is that of an hour from the first line's to the last line's, whatever product is asked for
pub rows-exactly : (w : Products) (s : List ℕ) (first last : Line) (rest fore : List Line) → journal_of s ≡ done (first ∷ rest) → first ∷ rest ≡ fore ++ last ∷ [] → (p : HourRow)
    → Exactly (Memᴰ p (rows_of w (first ∷ rest))) ((hour_in first ≤ p.hour) × (p.hour ≤ hour_in last) × (p.row ≡ row_of w (first ∷ rest) p.hour))
unfolding rows_of first_hour
rows-exactly w s first last rest fore j e p = (only, made)
  where
    order : hour_in first ≤ hour_in last
    order = omega (arith, (accepted s (first ∷ rest) j).order, ap last_hour e ∙ last-is fore last)

    only : Memᴰ p (map (row_at w (first ∷ rest)) (span_of (first ∷ rest))) → (hour_in first ≤ p.hour) × (p.hour ≤ hour_in last) × (p.row ≡ row_of w (first ∷ rest) p.hour)
    only m =
        let r = row-only (row_at w (first ∷ rest)) (span_of (first ∷ rest)) p m in
        let b = (span-exactly first last rest fore e order r.0).0 r.1 in
        let k : p.hour ≡ r.0 = ap (λ (x : HourRow). x.hour) r.2 in
        (omega (arith, b.0, k), omega (arith, b.1, k), ap (λ (x : HourRow). x.row) r.2 ∙ ap (row_of w (first ∷ rest)) (sym k))

    made : (hour_in first ≤ p.hour) × (p.hour ≤ hour_in last) × (p.row ≡ row_of w (first ∷ rest) p.hour) → Memᴰ p (map (row_at w (first ∷ rest)) (span_of (first ∷ rest)))
    made b =
        let is : row_at w (first ∷ rest) p.hour ≡ p = ap (λ r. record { hour = p.hour; row = r }) (sym b.2) in
        let among = (span-exactly first last rest fore e order p.hour).1 (b.0, b.1) in
        subst (λ (x : HourRow). Memᴰ x (map (row_at w (first ∷ rest)) (span_of (first ∷ rest)))) is (row-all (row_at w (first ∷ rest)) (span_of (first ∷ rest)) p.hour among)
