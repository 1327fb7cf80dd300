-- What each call of this crate promises, and that two results which both keep the promise are equal. Assumes nothing.
use Rattle.std.specs.Prelude.{◌≡◌, refl, List, [], ◌∷◌, ℕ, suc, ◌<◌, length, get_or, Result, Ok, Err}
use Rattle.std.proofs.Common.{sym, ap, ◌∙◌, arith}
use Rattle.paper.specs.Answer.{Answer, done, refused, fault, told, same}
use Rattle.paper.specs.AnswerLaws.{refused-done, fault-done}
use Rattle.journal.specs.Journal.{journal_of, first_hour}
use Rattle.journal.specs.declared.Line.{Line}
use Rattle.journal.specs.Says.{refusal-one, refusal-done}
use Rattle.journal.specs.declared.Refusal.{Refusal}
use Rattle.hourly.specs.Hours.{ask_of}
use Rattle.hourly.specs.Tally.{outside, summary_of, Tells, hour_from, hour_among}
use Rattle.hourly.specs.Says.{says_hour, says_asked, says_tallied, hour-one, asked-one}
use Rattle.hourly.specs.declared.Products.{Products}
use Rattle.hourly.specs.declared.Hour.{Hour}
use Rattle.hourly.specs.declared.Summary.{Summary}
use Rattle.hourly.specs.declared.Tally.{Tally}
use Rattle.hourly.specs.declared.Tallied.{Tallied}

-- tallies: what is said of the journal, and the tallies of its lines from its first hour on, for the products that are asked for; a refused one has none
pub record Counts (w : Products) (s : List ℕ) (r : Result Tallied Refusal) : Type 0 where
  pub judged : says_tallied r ≡ told summary_of (journal_of s)
  pub tells : (t : Tallied) → r ≡ Ok t → (ls : List Line) → journal_of s ≡ done ls → Tells w t.table (first_hour ls) ls

-- what the pass says of the journal
pub judged-lines : (s : List ℕ) (m : Summary) → done m ≡ told summary_of (journal_of s) → (ls : List Line) × (journal_of s ≡ done ls) × (m ≡ summary_of ls)
unfolding told
judged-lines s m e = go (journal_of s) refl e
  where
    go : (a : Answer (List Line)) → journal_of s ≡ a → done m ≡ told summary_of a → (ls : List Line) × (journal_of s ≡ done ls) × (m ≡ summary_of ls)
    go (done ls) q h = (ls, q, cc)
    go (refused n vs) q h = refused-done (sym h)
    go (fault n vs) q h = fault-done (sym h)

-- two tables with the same tallies are equal
table-one : (a b : List Tally) → length a ≡ length b → ((k : ℕ) → k < length a → get_or a k outside ≡ get_or b k outside) → a ≡ b
table-one [] [] e f = refl
table-one [] (y ∷ ys) e f = absurd (omega arith)
table-one (x ∷ xs) [] e f = absurd (omega arith)
table-one (x ∷ xs) (y ∷ ys) e f =
    let p : x ≡ y = f 0 (omega arith) in
    let q : xs ≡ ys = table-one xs ys (omega arith) (λ k h. f (suc k) (omega arith)) in
    cc

tells-one : (w : Products) (a b : List Tally) (first : ℕ) (ls : List Line) → Tells w a first ls → Tells w b first ls → a ≡ b
tells-one w a b first ls p q = table-one a b (p.size ∙ sym q.size) (λ k h. p.at k (omega (arith, p.size)) ∙ sym (q.at k (omega (arith, p.size))))

pub tallies-determined : (w : Products) (s : List ℕ) (a b : Result Tallied Refusal) → Counts w s a → Counts w s b → a ≡ b
tallies-determined w s (Ok t) (Ok u) p q =
    let l = judged-lines s t.found p.judged in
    let f : done t.found ≡ done u.found = same p.judged q.judged in
    let e : t.found ≡ u.found = cc in
    ap (λ (x : Tallied). Ok x)
    (ap (λ (x : Summary). record { found = x; table = t.table }) e
    ∙ ap (λ (x : List Tally). record { found = u.found; table = x }) (tells-one w t.table u.table (first_hour l.0) l.0 (p.tells t refl l.0 l.1) (q.tells u refl l.0 l.1)))
tallies-determined w s (Ok t) (Err r) p q = refusal-done r (same q.judged p.judged)
tallies-determined w s (Err q) (Ok t) p c = refusal-done q (same p.judged c.judged)
tallies-determined w s (Err q) (Err r) p c = ap (λ (x : Refusal). Err x) (refusal-one q r (same p.judged c.judged))

-- hour_from: the hour's answer by its tally
abbrev pub AnswersTally : Tally → Hour → Type 0
AnswersTally t r = says_hour r ≡ hour_from t

pub hour-from-determined : (t : Tally) (a b : Hour) → AnswersTally t a → AnswersTally t b → a ≡ b
hour-from-determined t a b p q = hour-one a b (same p q)

-- hour_among: the hour's answer by the tallies of a journal's hours
abbrev pub AnswersAmong : List Tally → Summary → ℕ → Hour → Type 0
AnswersAmong table found h r = says_hour r ≡ hour_among table found h

pub hour-among-determined : (table : List Tally) (found : Summary) (h : ℕ) (a b : Hour) → AnswersAmong table found h a → AnswersAmong table found h b → a ≡ b
hour-among-determined table found h a b p q = hour-one a b (same p q)

-- hour_of: the hour of a journal, or the journal's refusal
abbrev pub AnswersHour : Products → List ℕ → ℕ → Result Hour Refusal → Type 0
AnswersHour w s h r = says_asked r ≡ ask_of w s h

pub hour-of-determined : (w : Products) (s : List ℕ) (h : ℕ) (a b : Result Hour Refusal) → AnswersHour w s h a → AnswersHour w s h b → a ≡ b
hour-of-determined w s h a b p q = asked-one a b (same p q)
