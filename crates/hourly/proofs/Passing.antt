-- The pass over a journal's lines: those so far are judged and counted, and what is read from `at` on gives the rest of the answer. Assumes nothing.
use mathlib.Core.Path.{◌≡◌, refl, sym, ap, ◌∙◌, subst}
use mathlib.Core.Bool.{Bool, true, false, ◌&&◌}
use mathlib.Core.List.{List, [], ◌∷◌, ◌++◌, append_assoc, append-nil}
use Rattle.std.specs.Prelude.{None, Ok, Err}
use Prim.Native.Nat.{ℕ, ◌+◌, ◌-◌, ◌*◌, ◌≤◌, ◌<◌}
use native.Mathlib.Omega.{arith}
use lib.ListN.{length, get_or, drop, set, length-append, length-drop, drop_of_length-le, replicate}
use borrow.Author.Tests.{leb-false, ltb-false}
use Rattle.laws.specs.Pick.{pick}
use Rattle.laws.specs.Whole.{false-true}
use Rattle.laws.specs.Decimal.{bad}
use Rattle.paper.specs.Answer.{Answer, done, refused, fault, told}
use Rattle.paper.specs.Numbers.{R10, R11, R12}
use Rattle.journal.specs.Line.{text_of, line_of}
use Rattle.journal.specs.LineLaws.{LineStands, text-only, text-least, range-either}
use Rattle.journal.specs.Journal.{hour_in, out_of_order, too_far, no_past, past_after, ordered, form_of, journal_of, first_hour, last_hour}
use Rattle.journal.specs.JournalLaws.{lines_from, head_bytes, head_lines, head-inside, journal-lines, told_none, told-bad, told-good, order-broken, order-far, order-kept}
use Rattle.journal.specs.declared.Line.{Line}
use Rattle.journal.specs.declared.Past.{Past}
use Rattle.journal.specs.declared.Refusal.{Refusal}
use Rattle.journal.specs.Says.{says_refusal, refusal-done, refusal-told}
use Rattle.hourly.specs.Accepted.{InRange, Ranged}
use Rattle.holes.specs.Holes.{Before, dose_before}
use Rattle.holes.specs.HoleLaws.{last_dose, last-dose-more}
use Rattle.holes.specs.Marks.{Marks, AddsHole}
use Rattle.holes.specs.MarkLaws.{marks-none, marks-start, marks-more}
use Rattle.hourly.specs.Tally.{outside, no_tally, counted, summary_of, Unmarked, Sets, Tells, accepted_after}
use Rattle.hourly.specs.Promises.{Counts}
use Rattle.hourly.specs.declared.Products.{Products}
use Rattle.hourly.specs.declared.Tally.{Tally}
use Rattle.hourly.proofs.Tallying.{unmarked-none, unmarked-start, unmarked-more, old-few}
use Rattle.hourly.proofs.Settling.{sets-tell}

-- whether there is a line
abbrev some : List Line → Bool
some [] = false
some (l ∷ ls) = true

first_more : (ls : List Line) (l : Line) → first_hour (ls ++ l ∷ []) ≡ pick (some ls) (first_hour ls) (hour_in l)
unfolding first_hour pick
first_more [] l = refl
first_more (m ∷ ls) l = refl

last_more : (ls : List Line) (l : Line) → last_hour (ls ++ l ∷ []) ≡ hour_in l
unfolding last_hour
last_more [] l = refl
last_more (m ∷ []) l = refl
last_more (m ∷ k ∷ ls) l = last_more (k ∷ ls) l

some_more : (ls : List Line) (l : Line) → some (ls ++ l ∷ []) ≡ true
some_more [] l = refl
some_more (m ∷ ls) l = refl

ranged-more : (ls : List Line) (l : Line) → Ranged ls → InRange l → Ranged (ls ++ l ∷ [])
ranged-more [] l r i = (i, tt)
ranged-more (m ∷ ls) l r i = (r.0, ranged-more ls l r.1 i)

-- n lines with an hour are taken: what they say of the hours is past, table holds their tallies, holed the hours of their holes, before is the last D line of them, and the journal is they and the lines from `at` on
pub record Passed (w : Products) (s : List ℕ) (past : Past) (at n : ℕ) (table : List Tally) (holed : List Bool) (before : Before) : Type 0 where
  pub lines : List Line
  pub number : length lines ≡ n
  pub inside : at ≤ length s
  pub few : 4 * n ≤ at
  pub ranged : Ranged lines
  pub left : journal_of s ≡ told (λ (ms : List Line). lines ++ ms) (lines_from (form_of s) past (head_lines (form_of s) + n + 1) (drop at s))
  pub begun : past.begun ≡ some lines
  pub first : past.first ≡ first_hour lines
  pub last : past.last ≡ last_hour lines
  pub order : past.first ≤ past.last
  pub tallies : Unmarked w table past.first lines
  pub marks : Marks holed past.first lines
  pub dosed : before ≡ last_dose None lines

told-id : {A : Type 0} (a : Answer A) → told (λ x. x) a ≡ a
unfolding told
told-id (done x) = refl
told-id (refused n vs) = refl
told-id (fault n vs) = refl

-- before the first line
pub passed_none : (w : Products) (s : List ℕ) (past : Past) (at : ℕ) (table : List Tally) (holed : List Bool) → length s ≤ 65536 → past ≡ no_past → at ≡ head_bytes (form_of s) → table ≡ replicate 744 no_tally → holed ≡ replicate 744 false
    → Passed w s past at 0 table holed None
unfolding no_past first_hour last_hour last_dose
passed_none w s past at table holed h p a e f = subst (λ (q : Past). Passed w s q at 0 table holed None) (sym p) (subst (λ (x : ℕ). Passed w s no_past x 0 table holed None) (sym a) start)
  where
    start : Passed w s no_past (head_bytes (form_of s)) 0 table holed None
    start =
        record {
          lines = [];
          number = refl;
          inside = head-inside s;
          few = omega arith;
          ranged = tt;
          left = journal-lines s h ∙ sym (told-id (lines_from (form_of s) no_past (head_lines (form_of s) + 1) (drop (head_bytes (form_of s)) s))) ∙ ap (λ (k : ℕ). told (λ (ms : List Line). ms) (lines_from (form_of s) no_past k (drop (head_bytes (form_of s)) s))) (omega arith);
          begun = refl;
          first = refl;
          last = refl;
          order = omega arith;
          tallies = unmarked-start w table 0 e;
          marks = marks-start holed 0 f;
          dosed = refl;
        }

-- the line whose turn it is, of this hour, leaves after: it has a place in the table, is counted in there, and the hours of its hole are marked
pub record Turn (w : Products) (s : List ℕ) (after : Past) (n : ℕ) (table : List Tally) (holed : List Bool) (before : Before) (l : Line) (hour next : ℕ) : Type 0 where
  pub low : after.first ≤ hour
  pub high : hour - after.first < 744
  pub few : (get_or table (hour - after.first) outside).doses < 16384
  pub again : (new : List Bool) (last : Before) → AddsHole holed after.first before l new → last ≡ dose_before before l
      → Passed w s after next (n + 1) (set table (hour - after.first) (counted w (get_or table (hour - after.first) outside) l)) new last

-- an hour in order is among the 744 from the first on
near : (begun closed : Bool) (first last h : ℕ) → first ≤ last → (begun && out_of_order last closed h) ≡ false → (begun && too_far first h) ≡ false
    → (pick begun first h ≤ h) × (h - pick begun first h < 744)
unfolding out_of_order too_far pick
near true true first last h o b f = (omega (arith, leb-false h last b), omega (arith, leb-false (first + 744) h f))
near true false first last h o b f = (omega (arith, ltb-false h last b), omega (arith, leb-false (first + 744) h f))
near false closed first last h o b f = (omega arith, omega arith)

-- the first line's hour is the table's first
first-from : (P : ℕ → List Line → Type 0) → ((f g : ℕ) → P f [] → P g []) → (begun : Bool) (first h : ℕ) (ls : List Line) → begun ≡ some ls → P first ls → P (pick begun first h) ls
unfolding pick
first-from P none true first h ls e t = t
first-from P none false first h [] e t = none first h t
first-from P none false first h (l ∷ ls) e t = false-true e

-- ---- what the pass answers

-- the journal's refusal
pub counts-refused : (w : Products) (s : List ℕ) (r : Refusal) → journal_of s ≡ says_refusal r → Counts w s (Err r)
counts-refused w s r j =
    record {
      judged = refusal-told summary_of r ∙ ap (told summary_of) (sym j);
      tells = λ t f ls d. refusal-done r (sym j ∙ d);
    }

module _ {w : Products} {s : List ℕ} {past : Past} {at n : ℕ} {table : List Tally} {holed : List Bool} {before : Before} (p : Passed w s past at n table holed before) where
  -- the last line is taken
  ended : length s ≤ at → journal_of s ≡ done p.lines
  ended h =
      p.left
      ∙ ap (λ (d : List ℕ). told (λ (ms : List Line). p.lines ++ ms) (lines_from (form_of s) past (head_lines (form_of s) + n + 1) d)) (drop_of_length-le s {i = at} h)
      ∙ told_none (form_of s) (λ (ms : List Line). p.lines ++ ms) past (head_lines (form_of s) + n + 1)
      ∙ ap done (append-nil p.lines)

  pub counts_all : length s ≤ at → (all : List Tally) → Sets table holed all → Counts w s (Ok (accepted_after n past all))
  unfolding told summary_of accepted_after
  counts_all h all t =
      let e = ended h in
      record {
        judged = rw (sym p.number, p.first, p.last) refl ∙ sym (ap (told summary_of) e);
        tells = λ u f ls d.
            let q : p.lines ≡ ls = cc in
            let same : all ≡ u.table = cc in
            subst (λ (ms : List Line). Tells w u.table (first_hour ms) ms) q (subst (λ (f : ℕ). Tells w u.table f p.lines) p.first (subst (λ (x : List Tally). Tells w x past.first p.lines) same (sets-tell w table all holed past.first p.lines p.tallies p.marks t)));
      }

  -- no line stands at `at`
  pub malformed : at < length s → line_of (form_of s) (drop at s) ≡ bad → journal_of s ≡ refused R10 ((head_lines (form_of s) + n + 1) ∷ [])
  malformed h e = p.left ∙ told-bad (form_of s) (λ (ms : List Line). p.lines ++ ms) past (head_lines (form_of s) + n + 1) (drop at s) (rw (length-drop at s) (omega arith)) e

  module _ (l : Line) (next : ℕ) (st : LineStands (form_of s) s at l next) where
    -- the tests of its order
    abbrev back : Bool
    back = past.begun && out_of_order past.last past.closed (hour_in l)

    abbrev far : Bool
    far = past.begun && too_far past.first (hour_in l)

    -- a line stands there
    judged : journal_of s ≡ ordered past l (head_lines (form_of s) + n + 1) (told (λ (ms : List Line). (p.lines ++ l ∷ []) ++ ms) (lines_from (form_of s) (past_after past l) (head_lines (form_of s) + n + 1 + 1) (drop next s)))
    judged =
        p.left
        ∙ told-good (form_of s) (λ (ms : List Line). p.lines ++ ms) (λ (ms : List Line). (p.lines ++ l ∷ []) ++ ms) past (head_lines (form_of s) + n + 1) (drop at s) l (drop next s) st.line (λ ms. sym (append_assoc p.lines (l ∷ []) ms))

    pub late : back ≡ true → journal_of s ≡ refused R11 ((head_lines (form_of s) + n + 1) ∷ [])
    late b = judged ∙ order-broken past l (head_lines (form_of s) + n + 1) _ b

    pub distant : back ≡ false → far ≡ true → journal_of s ≡ refused R12 ((head_lines (form_of s) + n + 1) ∷ [])
    distant b f = judged ∙ order-far past l (head_lines (form_of s) + n + 1) _ b f

    -- it takes at least 4 bytes
    longer : at + 4 ≤ next
    longer =
        let o = (text-only (form_of s) (drop at s) l (drop next s) st.line).text in
        omega (arith, ap length o, length-append (text_of (form_of s) l) (drop next s), text-least (form_of s) l, length-drop at s, length-drop next s, st.inside)

    -- it has a place in the table, and is counted in there
    placed-in : length s ≤ 65536 → back ≡ false → far ≡ false → Turn w s (past_after past l) n table holed before l (hour_in l) next
    unfolding past_after
    placed-in h b f =
        let q = near past.begun past.closed past.first past.last (hour_in l) p.order b f in
        let t = first-from (Unmarked w table) (unmarked-none w table) past.begun past.first (hour_in l) p.lines p.begun p.tallies in
        let m = first-from (Marks holed) (marks-none holed) past.begun past.first (hour_in l) p.lines p.begun p.marks in
        let o = range-either (form_of s) l (text-only (form_of s) (drop at s) l (drop next s) st.line).range in
        let first = pick past.begun past.first (hour_in l) in
        record {
          low = q.0;
          high = q.1;
          few = omega (arith, old-few w p.lines first table l t q.0 q.1 p.ranged, p.number, p.few, st.onward, st.inside);
          again = λ new last a e.
              record {
                lines = p.lines ++ l ∷ [];
                number = omega (arith, length-append p.lines (l ∷ []), p.number);
                inside = st.inside;
                few = omega (arith, p.few, longer);
                ranged = ranged-more p.lines l p.ranged o;
                left = judged ∙ order-kept past l (head_lines (form_of s) + n + 1) _ b f ∙ ap (λ (k : ℕ). told (λ (ms : List Line). (p.lines ++ l ∷ []) ++ ms) (lines_from (form_of s) (past_after past l) k (drop next s))) (omega arith);
                begun = sym (some_more p.lines l);
                first = ap (λ (x : Bool). pick x past.first (hour_in l)) p.begun ∙ ap (λ (x : ℕ). pick (some p.lines) x (hour_in l)) p.first ∙ sym (first_more p.lines l);
                last = sym (last_more p.lines l);
                order = q.0;
                tallies = unmarked-more w p.lines first table l t q.0 q.1 p.ranged o (omega (arith, p.number, p.few, st.onward, st.inside));
                marks = marks-more holed new first p.lines l m (subst (λ (x : Before). AddsHole holed first x l new) p.dosed a);
                dosed = e ∙ ap (λ (x : Before). dose_before x l) p.dosed ∙ sym (last-dose-more None p.lines l);
              };
        }

    pub turn : (after : Past) (hour : ℕ) → after ≡ past_after past l → hour ≡ hour_in l → length s ≤ 65536 → back ≡ false → far ≡ false → Turn w s after n table holed before l hour next
    turn after hour a e h b f = rw (a, e) (placed-in h b f)
