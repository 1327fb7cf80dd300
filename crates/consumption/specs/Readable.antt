-- What a recording writes is readable: a journal of the new form, its lines in range and in order, up to a refusal that ends it. Assumes nothing.
use Rattle.std.specs.Prelude.{◌≡◌, refl, Bool, true, false, ◌&&◌, List, [], ◌∷◌, ◌++◌, ℕ, suc, ◌+◌, ◌≤◌, ◌<◌, eqb, ltb, length}
use Rattle.std.proofs.Common.{sym, ap, ◌∙◌, subst, append_assoc, append-nil, add-zero, arith, length-append, ltb-false}
use Rattle.laws.specs.Pick.{pick, pick-f, pick-if}
use Rattle.laws.specs.Whole.{false-true}
use Rattle.laws.specs.Decimal.{Parsed, good, bad, number_at, decimal, digits_of, glyph}
use Rattle.paper.specs.Answer.{done, refused, told}
use Rattle.paper.specs.Numbers.{R10}
use Rattle.journal.specs.declared.Form.TheVariants.{New}
use Rattle.journal.specs.declared.Line.{Line}
use Rattle.journal.specs.declared.Line.TheVariants.{On}
use Rattle.journal.specs.declared.Past.{Past}
use Rattle.journal.specs.Line.{version_text, versioned, text_of, in_range, line_of}
use Rattle.journal.specs.LineLaws.{read-text, text-only}
use Rattle.journal.specs.Journal.{hour_in, closes, no_past, ordered, on_line, read_from, form_of, body_of, journal_of, first_hour, lines_text, head_text, journal_text}
use Rattle.journal.specs.JournalLaws.{ReadsLines, none, more, Each, each_map, lines_from, lines-bad, lines-good, head_lines, head_bytes, journal-lines, journal-reads}
use Rattle.journal.specs.Order.{Steps, ordered-journal}
use Rattle.controller.specs.declared.Controller.{Controller}
use Rattle.counters.specs.declared.Record.{Record}
use Rattle.controller.specs.Sound.{Sound}
use Rattle.lines.specs.Lines.{lines_of}
use Rattle.calls.specs.Call.{call_of}
use Rattle.acts.specs.Acts.{made_by}
use Rattle.clock.specs.Clock.{ticks_an_hour, greatest_hour, Note, note, with_stage, with_hour, with_ticks, with_whole, with_known, refusal_text, refuse, first_of, dose_in, closing, next_hour, one_more, counts, restarted_by, lost_by, heard_by, passed_by, Runs}
use Rattle.recorder.specs.Recording.{heard_of, with, note_by, note_of, box_by, next_of, start_of, notes_of, record_of, Carries}
use Rattle.clock.specs.Clock as clock
use Rattle.clock.specs.Marking.{Writable}
use Rattle.clock.specs.Keeps.{on-in-range, dose-in-range, ticks-runs, next-runs, passed-runs}
use Rattle.recorder.specs.Keeps.{made-sound, heard-writable, start-carries, note-carries}
use Rattle.clock.specs.declared.Heard.{Heard}
use Rattle.clock.specs.declared.Heard.TheVariants.{Ticked, Dosed, Restarted, Lost, Other}
use Rattle.clock.specs.declared.Stage.{Stage}
use Rattle.clock.specs.declared.Stage.TheVariants.{Recording, Over}
use Rattle.clock.specs.declared.Clock.{Clock}
use Rattle.recorder.specs.declared.Recorder.{Recorder}

-- ---- the statement

-- after the lines: nothing, or the one line of a refusal
pub data Ends : List ℕ → Type 0 where
  ended : Ends []
  above : Ends (refusal_text 0)

-- the V line, then lines in range, whose hours never go back, and after an H the next line's hour is greater
pub record NewForm (text : List ℕ) : Type 0 where
  pub lines : List Line
  pub rest : List ℕ
  pub is : text ≡ journal_text New lines ++ rest
  pub ends : Ends rest
  pub range : Each (λ l. in_range New l ≡ true) lines
  pub steps : Steps lines

-- nothing where there is no line; R10 with line 1 alone where the first line is no hour; else a journal
pub data Readable (text : List ℕ) : Type 0 where
  nothing : text ≡ [] → Readable text
  not_first : text ≡ refusal_text 1 → Readable text
  begun : NewForm text → Readable text

-- ---- the lines from an hour on

record Written (h : ℕ) (text : List ℕ) : Type 0 where
  lines : List Line
  rest : List ℕ
  is : text ≡ lines_text New lines ++ rest
  ends : Ends rest
  range : Each (λ l. in_range New l ≡ true) lines
  steps : Steps lines
  from : Each (λ l. h ≤ hour_in l) lines

no_lines : {h : ℕ} {rest : List ℕ} → Ends rest → Written h rest
unfolding lines_text
no_lines {h} {rest} e = record { lines = []; rest = rest; is = refl; ends = e; range = tt; steps = tt; from = tt }

same_text : {h : ℕ} {text text' : List ℕ} → text' ≡ text → Written h text → Written h text'
same_text {h} e w = subst (Written h) (sym e) w

later : {h k : ℕ} {text : List ℕ} → h ≤ k → Written k text → Written h text
later {h} {k} e w = record {
  lines = w.lines;
  rest = w.rest;
  is = w.is;
  ends = w.ends;
  range = w.range;
  steps = w.steps;
  from = each_map w.lines (λ l f. omega arith) w.from;
}

-- a line before those of its hour, or of a later one where it closes its hour
follow : {k : ℕ} (l : Line) (ls : List Line) → hour_in l ≤ k → (closes l ≡ true → hour_in l < k) → Each (λ m. k ≤ hour_in m) ls → Steps ls → Steps (l ∷ ls)
follow l [] e f g s = tt
follow l (m ∷ ms) e f g s = (record { onward = omega (arith, g.0); beyond = λ c. let b = f c in omega (arith, g.0) }, s)

before : {k : ℕ} {text : List ℕ} (l : Line) → in_range New l ≡ true → hour_in l ≤ k → (closes l ≡ true → hour_in l < k) → Written k text → Written (hour_in l) (text_of New l ++ text)
unfolding lines_text
before {k} l r e f w = record {
  lines = l ∷ w.lines;
  rest = w.rest;
  is = ap (λ (t : List ℕ). text_of New l ++ t) w.is ∙ sym (append_assoc (text_of New l) (lines_text New w.lines) w.rest);
  ends = w.ends;
  range = (r, w.range);
  steps = follow l w.lines e f w.from w.steps;
  from = (omega arith, each_map w.lines (λ m g. omega arith) w.from);
}

-- ---- what a line adds

over_nothing : (r : Recorder) (ls : List (List ℕ)) → r.clock.stage ≡ Over → notes_of r ls ≡ []
unfolding notes_of next_of note_of note_by box_by
over_nothing r [] e = refl
over_nothing r (l ∷ ls) e =
    ap (λ (s : Stage). (note_by s r l).text ++ notes_of (with (box_by s r.controller l) (note_by s r l).next) ls) e
    ∙ over_nothing r ls e

-- a refusal ends it
refusal-ends : {h : ℕ} (c : Controller) (n : ℕ) (k : Clock) (ls : List (List ℕ)) → Ends (refusal_text n) → Written h ((refuse n k).text ++ notes_of (with c (refuse n k).next) ls)
unfolding refuse with_stage
refusal-ends c n k ls e = same_text (ap (λ (t : List ℕ). refusal_text n ++ t) (over_nothing (with c (with_stage Over k)) ls refl) ∙ append-nil (refusal_text n)) (no_lines e)

-- a D line of an hour
record DoseOf (h : ℕ) (l : Line) : Type 0 where
  range : in_range New l ≡ true
  hour : hour_in l ≡ h
  unclosed : closes l ≡ false

before-doses : {h : ℕ} {text : List ℕ} (ds : List Line) → Each (DoseOf h) ds → Written h text → Written h (lines_text New ds ++ text)
unfolding lines_text
before-doses [] e w = w
before-doses {h} {text} (d ∷ ds) e w =
    let o = e.0 in
    same_text (append_assoc (text_of New d) (lines_text New ds) text)
    (subst (λ (n : ℕ). Written n (text_of New d ++ (lines_text New ds ++ text))) o.hour
    (before {k = h} d o.range (omega (arith, o.hour)) (λ c. false-true (sym o.unclosed ∙ c)) (before-doses ds e.1 w)))

-- the H line of an hour, before the lines of those that follow
before-closing : {text : List ℕ} (k : Clock) → k.hour ≤ greatest_hour → Written (k.hour + 1) text → Written k.hour (lines_text New (closing k) ++ text)
unfolding closing lines_text hour_in pick
before-closing {text} k h w = go (k.whole && k.known)
  where
    go : (b : Bool) → Written k.hour (lines_text New (pick b (On k.hour ∷ []) []) ++ text)
    go true =
        same_text (ap (λ (t : List ℕ). t ++ text) (append-nil (text_of New (On k.hour))))
        (before {k = k.hour + 1} (On k.hour) (on-in-range k.hour h) (omega arith) (λ c. omega arith) w)
    go false = later {k = k.hour + 1} (omega arith) w

lines-append : (a b : List Line) → lines_text New (a ++ b) ≡ lines_text New a ++ lines_text New b
unfolding lines_text
lines-append [] b = refl
lines-append (l ∷ ls) b = ap (λ (t : List ℕ). text_of New l ++ t) (lines-append ls b) ∙ sym (append_assoc (text_of New l) (lines_text New ls) (lines_text New b))

-- what the lines that follow add, from every recorder that they can meet
abbrev Following : List (List ℕ) → Type 0
Following ls = (q : Recorder) → q.clock.stage ≡ Recording → Carries q → Written q.clock.hour (notes_of q ls)

counts-written : (c : Controller) (k : Clock) (ds : List Line) (ls : List (List ℕ)) → k.stage ≡ Recording → Sound c → Runs k → (k.hour ≤ greatest_hour → Each (DoseOf k.hour) ds) → Following ls
    → Written k.hour ((counts k ds).text ++ notes_of (with c (counts k ds).next) ls)
unfolding counts one_more next_hour with_hour with_ticks with_whole
counts-written c k ds ls s a m o rest =
    pick-if Adds (ltb greatest_hour k.hour)
    (λ e. refusal-ends c 0 k ls above)
    (λ e. let h = ltb-false greatest_hour k.hour e in pick-if Adds (eqb (k.ticks + 1) ticks_an_hour) (λ f. closed h) (λ f. before-doses ds (o h) (more (ticks-runs k m f))))
  where
    Adds : Note → Type 0
    Adds n = Written k.hour (n.text ++ notes_of (with c n.next) ls)

    more : Runs (with_ticks (k.ticks + 1) k) → Written k.hour (notes_of (with c (with_ticks (k.ticks + 1) k)) ls)
    more t = rest (with c (with_ticks (k.ticks + 1) k)) s (record { sound = a; runs = t })

    closed : k.hour ≤ greatest_hour → Adds (note (next_hour k) (lines_text New (ds ++ closing k)))
    closed h =
        let following : Written (k.hour + 1) (notes_of (with c (next_hour k)) ls) = rest (with c (next_hour k)) s (record { sound = a; runs = next-runs k h }) in
        same_text (ap (λ (t : List ℕ). t ++ notes_of (with c (next_hour k)) ls) (lines-append ds (closing k)) ∙ append_assoc (lines_text New ds) (lines_text New (closing k)) (notes_of (with c (next_hour k)) ls))
        (before-doses ds (o h) (before-closing k h following))

dose-of : (h : ℕ) (d : Record) → h ≤ greatest_hour → Writable (Dosed d) → Each (DoseOf h) (dose_in h d ∷ [])
unfolding dose_in hour_in closes
dose-of h d m k = (record { range = dose-in-range h d m k; hour = refl; unclosed = refl }, tt)

heard-written : (c : Controller) (k : Clock) (h : Heard) (ls : List (List ℕ)) → k.stage ≡ Recording → Sound c → Runs k → Writable h → Following ls
    → Written k.hour ((heard_by k h).text ++ notes_of (with c (heard_by k h).next) ls)
unfolding heard_by passed_by restarted_by lost_by with_known with_whole
heard-written c k Ticked ls s a m w rest = counts-written c k [] ls s a m (λ h. tt) rest
heard-written c k (Dosed d) ls s a m w rest = counts-written c k (dose_in k.hour d ∷ []) ls s a m (λ h. dose-of k.hour d h w) rest
heard-written c k Restarted ls s a m w rest = rest _ s (record { sound = a; runs = passed-runs k Restarted m })
heard-written c k Lost ls s a m w rest = rest _ s (record { sound = a; runs = passed-runs k Lost m })
heard-written c k Other ls s a m w rest = rest _ s (record { sound = a; runs = m })

recording-written : (ls : List (List ℕ)) → Following ls
unfolding notes_of next_of note_of note_by box_by
recording-written [] = λ q s k. no_lines ended
recording-written (l ∷ ls) = λ q s k.
    let c = q.controller in
    same_text (ap (λ (t : Stage). (note_by t q l).text ++ notes_of (with (box_by t c l) (note_by t q l).next) ls) s)
    (heard-written (made_by c (call_of l)) q.clock (heard_of c (call_of l)) ls s (made-sound c (call_of l) k.sound) k.runs (heard-writable c (call_of l) k.sound) (recording-written ls))

-- ---- a whole input

readable : {h : ℕ} {text : List ℕ} → Written h text → Readable (version_text ++ text)
unfolding journal_text head_text
readable w = begun (record {
  lines = w.lines;
  rest = w.rest;
  is = ap (λ (t : List ℕ). version_text ++ t) w.is ∙ sym (append_assoc version_text (lines_text New w.lines) w.rest);
  ends = w.ends;
  range = w.range;
  steps = w.steps;
})

not_first_lem : (c : Controller) (k : Clock) (ls : List (List ℕ)) → Readable ((refuse 1 k).text ++ notes_of (with c (refuse 1 k).next) ls)
unfolding refuse with_stage
not_first_lem c k ls = not_first (ap (λ (t : List ℕ). refusal_text 1 ++ t) (over_nothing (with c (with_stage Over k)) ls refl) ∙ append-nil (refusal_text 1))

first-readable : (c : Controller) (k : Clock) (p : Parsed ℕ) (ls : List (List ℕ)) → Carries (with c (first_of k p).next) → Readable ((first_of k p).text ++ notes_of (with c (first_of k p).next) ls)
unfolding first_of with_stage
first-readable c k (good h []) ls s = readable (recording-written ls (with c (with_stage Recording (with_hour h k))) refl s)
first-readable c k (good h (b ∷ bs)) ls s = not_first_lem c k ls
first-readable c k bad ls s = not_first_lem c k ls

lines-readable : (ls : List (List ℕ)) → Readable (notes_of start_of ls)
unfolding notes_of next_of note_of note_by box_by start_of clock.start_of
lines-readable [] = nothing refl
lines-readable (l ∷ ls) = first-readable start_of.controller start_of.clock (number_at greatest_hour l) ls (note-carries start_of l start-carries)

-- what `record` writes, for every input
pub record-readable : (bytes : List ℕ) → Readable (record_of bytes)
unfolding record_of
record-readable bytes = lines-readable (lines_of [] bytes)

-- ---- the journal is read as those lines, or refused at the line of the refusal

-- no line's hour is 744 or more above the first line's
abbrev pub Near : List Line → Type 0
Near ls = Each (λ l. hour_in l < first_hour ls + 744) ls

pub readable-read : {text : List ℕ} (r : NewForm text) → r.rest ≡ [] → Near r.lines → length text ≤ 65536 → journal_of text ≡ done r.lines
readable-read {text} r e n h =
    let is : text ≡ journal_text New r.lines = r.is ∙ ap (λ (t : List ℕ). journal_text New r.lines ++ t) e ∙ append-nil (journal_text New r.lines) in
    ap journal_of is ∙ ordered-journal New r.lines (record { steps = r.steps; near = n }) r.range (omega (arith, ap length is))

-- something that is no line of a journal after some that are
after-lines : {p : Past} {s : List ℕ} {ls : List Line} (n : ℕ) (tail : List ℕ) → 0 < length tail → line_of New tail ≡ bad → ReadsLines New p s ls → lines_from New p n (s ++ tail) ≡ refused R10 ((n + length ls) ∷ [])
unfolding ordered told
after-lines {p} n tail h e none = lines-bad New p n tail h e ∙ ap (λ (k : ℕ). refused R10 (k ∷ [])) (sym (add-zero n))
after-lines {p} {s} n tail h e (more {rest = rest} {l = l} {ls = ls} q k r) =
    let o = text-only New s l rest q in
    let again : line_of New (s ++ tail) ≡ good l (rest ++ tail) = ap (λ (t : List ℕ). line_of New (t ++ tail)) o.text ∙ ap (line_of New) (append_assoc (text_of New l) rest tail) ∙ read-text New l (rest ++ tail) o.range in
    let place : suc n + length ls ≡ n + suc (length ls) = omega arith in
    lines-good New p n (s ++ tail) l (rest ++ tail) again
    ∙ pick-f _ _ _ k.order
    ∙ pick-f _ _ _ k.near
    ∙ ap (told (λ (ms : List Line). l ∷ ms)) (after-lines (suc n) tail h e r)
    ∙ ap (λ (i : ℕ). refused R10 (i ∷ [])) place

refusal-unread : (n : ℕ) → (line_of New (refusal_text n) ≡ bad) × (0 < length (refusal_text n))
unfolding refusal_text line_of pick
refusal-unread n = (refl, omega arith)

-- what begins with the V line is read behind it, from line 2 on
behind-version : (s : List ℕ) → length (version_text ++ s) ≤ 65536 → journal_of (version_text ++ s) ≡ lines_from New no_past 2 s
unfolding version_text form_of versioned head_lines head_bytes pick
behind-version s h = journal-lines (86 ∷ 9 ∷ 50 ∷ 10 ∷ s) h

version-reads : (ls : List Line) → journal_of (journal_text New ls) ≡ done ls → ReadsLines New no_past (lines_text New ls) ls
unfolding journal_text head_text version_text form_of versioned head_bytes pick
version-reads ls e = journal-reads (86 ∷ 9 ∷ 50 ∷ 10 ∷ lines_text New ls) ls e

-- V is line 1
pub readable-refused : {text : List ℕ} (r : NewForm text) (n : ℕ) → r.rest ≡ refusal_text n → Near r.lines → length text ≤ 65536
    → journal_of text ≡ refused R10 ((2 + length r.lines) ∷ [])
unfolding journal_text head_text
readable-refused {text} r n e near h =
    let ls = r.lines in
    let tail = refusal_text n in
    let is : text ≡ version_text ++ (lines_text New ls ++ tail) = r.is ∙ ap (λ (t : List ℕ). (version_text ++ lines_text New ls) ++ t) e ∙ append_assoc version_text (lines_text New ls) tail in
    let size : length (version_text ++ lines_text New ls) ≤ 65536 =
    omega (arith, ap length is, length-append version_text (lines_text New ls ++ tail), length-append (lines_text New ls) tail, length-append version_text (lines_text New ls)) in
    let read = version-reads ls (ordered-journal New ls (record { steps = r.steps; near = near }) r.range size) in
    ap journal_of is
    ∙ behind-version (lines_text New ls ++ tail) (omega (arith, ap length is))
    ∙ after-lines 2 tail (refusal-unread n).1 (refusal-unread n).0 read

-- a first line that is no hour leaves no journal
pub not-first-refused : journal_of (refusal_text 1) ≡ refused R10 (1 ∷ [])
unfolding journal_of form_of versioned body_of read_from on_line line_of refusal_text decimal digits_of glyph pick
not-first-refused = refl
