-- Lines put into a part of a lent buffer, and what a counted tick writes. Assumes nothing.
use mathlib.Core.Path.{◌≡◌, refl, sym, ap, ◌∙◌, subst}
use mathlib.Core.Bool.{true}
use mathlib.Core.List.{List, [], ◌∷◌, ◌++◌}
use Prim.Native.Nat.{ℕ, ◌+◌, ◌-◌, ◌≤◌, ◌<◌}
use native.Mathlib.Nat.{add_assoc, add-zero}
use native.Mathlib.Omega.{arith}
use lib.Dec.{eqb}
use lib.ListN.{length, length-append}
use lib.Seq.{sets}
use borrow.Author.Tests.{le-leb, lt-leb, le-ltb, lt-ltb, eq-eqb}
use borrow.Rule.Slice.PartMut.{mid_of, put_mid}
use Rattle.laws.specs.Pick.{pick, pick-t, pick-f, pick-map}
use Rattle.laws.specs.Over.{over, sets-append, sets_over}
use Rattle.laws.specs.Decimal.{number_at, decimal, digits_of, glyph}
use Rattle.laws.specs.DecimalLaws.{decimal-small}
use Rattle.text.specs.Scan.{Num, leads, Scans}
use Rattle.paper.specs.Answer.{Answer, done, told, in_room, leaves, Fills}
use Rattle.paper.specs.AnswerLaws.{refused-done}
use Rattle.journal.specs.Line.{version_text, text_of, in_range, write_of, write_version_of}
use Rattle.journal.specs.LineLaws.{text-most, write-fits}
use Rattle.journal.specs.Journal.{lines_text}
use Rattle.journal.specs.declared.Form.TheVariants.{New}
use Rattle.journal.specs.declared.Line.{Line}
use Rattle.entry.specs.Says.{Wrote, says_wrote}
use Rattle.entry.specs.declared.WriteError.TheVariants as E
use Rattle.std.specs.Prelude.{Ok, Err}
use Rattle.clock.specs.Clock.{ticks_an_hour, greatest_hour, Note, note, with_stage, refusal_text, refuse, first_of, closing, next_hour, one_more, counts, heard_by, passed_by, Runs}
use Rattle.clock.specs.Marking.{size_of, Prints, Adds, Writes, prints-writes, writes_as, writes-none, roomed, fits_line, Writable, Does, Opens, Marks, Passes}
use Rattle.clock.specs.Keeps.{heard-runs, first_runs, fitted-is, passed-runs, roomed-is, Uncounted, restarted, lost, other}
use Rattle.clock.specs.Part.{put-part, part_length}
use Rattle.counters.specs.declared.Record.{Record}
use Rattle.clock.specs.declared.Heard.{Heard}
use Rattle.clock.specs.declared.Heard.TheVariants.{Ticked, Dosed, Restarted, Lost, Other}
use Rattle.clock.specs.declared.Stage.TheVariants.{Over}
use Rattle.clock.specs.declared.Clock.{Clock}
use Rattle.clock.specs.declared.Marked.{Marked}

-- ---- what a writer wrote

-- where its rule refuses nothing, it is the rule's text
wrote : {text old new : List ℕ} {rule : Answer (List ℕ)} (w : Wrote) → rule ≡ done text → Fills (says_wrote w) rule old new → (size_of w ≡ length text) × (new ≡ over text old)
unfolding size_of told leaves
wrote {text} {old} w e f = (size w (f.says ∙ ap (told length) e), f.left ∙ ap (λ (a : Answer (List ℕ)). leaves a old) e)
  where
    size : (w : Wrote) → says_wrote w ≡ done (length text) → size_of w ≡ length text
    size (Ok n) q = cc
    size (Err E.R10) q = refused-done q
    size (Err E.R8) q = refused-done q

-- a line in the part of a buffer from a place on
pub line-put : {r : ℕ} (old sub : List ℕ) (at : ℕ) (l : Line) (w : Wrote) → in_range New l ≡ true → at + 31 ≤ length old → r ≡ size_of w
    → Fills (says_wrote w) (write_of New l (length (mid_of at (length old - at) old))) (mid_of at (length old - at) old) sub → Prints 31 old at (text_of New l) (put_mid at (length old - at) old sub) (at + r)
line-put old sub at l w range room e f =
    let most = text-most New l range in
    let is = wrote w (write-fits New l _ range (omega (arith, part_length old at))) f in
    record {
      left = put-part old at (text_of New l) sub (omega arith) (omega arith) is.1;
      next = ap (λ (k : ℕ). at + k) (e ∙ is.0);
      short = most;
    }

-- the V line
pub version-writes : {next : Clock} {old new : List ℕ} {r : ℕ} (w : Wrote) → 64 ≤ length old → r ≡ size_of w → Fills (says_wrote w) (write_version_of (length old)) old new
    → Writes (note next version_text) old new (record { next = next; len = r })
unfolding write_version_of in_room version_text
version-writes {old = old} w room e f =
    let is = wrote w (pick-t _ _ _ (le-leb 4 (length old) (omega arith))) f in
    record { next = refl; left = is.1; len = e ∙ is.0 }

-- ---- a refusal

refusal-text : (n : ℕ) → n < 10 → refusal_text n ≡ 82 ∷ 9 ∷ 49 ∷ 48 ∷ 9 ∷ (48 + n) ∷ 10 ∷ []
unfolding refusal_text decimal digits_of glyph pick
refusal-text n h = ap (λ (d : List ℕ). 82 ∷ 9 ∷ (decimal 10 ++ 9 ∷ (d ++ 10 ∷ []))) (decimal-small n h)

pub refusal-writes : (k : Clock) (old : List ℕ) (n : ℕ) → n < 10 → 64 ≤ length old
    → Writes (refuse n k) old (sets old 0 (82 ∷ 9 ∷ 49 ∷ 48 ∷ 9 ∷ (48 + n) ∷ 10 ∷ [])) (record { next = with_stage Over k; len = 7 })
unfolding refuse
refusal-writes k old n h room =
    let e = refusal-text n h in
    record { next = refl; left = sets_over old (82 ∷ 9 ∷ 49 ∷ 48 ∷ 9 ∷ (48 + n) ∷ 10 ∷ []) (omega arith) ∙ ap (λ (l : List ℕ). over l old) (sym e); len = ap length (sym e) }

-- ---- one tick more

pub adds-text : {next : Clock} {n : Note} {at r : ℕ} {old text new : List ℕ} → n ≡ note next text → Prints 31 old at text new r → Adds at n old new (record { next = next; len = r })
adds-text {next} {at = at} {r} {old} {new = new} e p = subst (λ (m : Note). Adds at m old new (record { next = next; len = r })) (sym e) (record { next = refl; prints = p })

-- nothing is put
pub adds_none : {next : Clock} {n : Note} (at : ℕ) (old : List ℕ) → n ≡ note next [] → Adds at n old old (record { next = next; len = at })
adds_none at old e = adds-text e (record { left = refl; next = sym (add-zero at); short = omega arith })

-- the hour's last tick
pub more-next : (k : Clock) {ls : List Line} → k.ticks + 1 ≡ ticks_an_hour → closing k ≡ ls → one_more k [] ≡ note (next_hour k) (lines_text New ls)
unfolding one_more
more-next k h e = pick-t _ _ _ (eq-eqb (k.ticks + 1) ticks_an_hour h) ∙ ap (λ (ls : List Line). note (next_hour k) (lines_text New ls)) e

-- ---- a counted tick

-- a dose stands before what the tick adds else
more-dosed : (k : Clock) (d : Line) → one_more k (d ∷ []) ≡ note (one_more k []).next (text_of New d ++ (one_more k []).text)
unfolding one_more lines_text
more-dosed k d = sym (pick-map (λ (n : Note). note n.next (text_of New d ++ n.text)) (eqb (k.ticks + 1) ticks_an_hour) _ _)

counts-more : (k : Clock) (doses : List Line) → k.hour ≤ greatest_hour → counts k doses ≡ one_more k doses
unfolding counts
counts-more k doses h = pick-f _ _ _ (le-ltb greatest_hour k.hour h)

pub counts-refuses : (k : Clock) (doses : List Line) → greatest_hour < k.hour → counts k doses ≡ refuse 0 k
unfolding counts
counts-refuses k doses h = pick-t _ _ _ (lt-ltb greatest_hour k.hour h)

pub ticked-writes : {old new : List ℕ} {r : Marked} (k : Clock) → k.hour ≤ greatest_hour → 64 ≤ length old → Adds 0 (one_more k []) old new r → Writes (counts k []) old new r
ticked-writes k h room a = writes_as (counts-more k [] h) (prints-writes (omega arith) a.next a.prints)

pub dosed-writes : {old mid new : List ℕ} {q : ℕ} {r : Marked} (k : Clock) (d : Line) → k.hour ≤ greatest_hour → 64 ≤ length old
    → Prints 31 old 0 (text_of New d) mid q → Adds q (one_more k []) mid new r → Writes (counts k (d ∷ [])) old new r
dosed-writes {old} {mid} {new} {q} {r} k d h room p a =
    let more = (one_more k []).text in
    let both : Prints 62 old 0 (text_of New d ++ more) new r.len =
    record {
      left = a.prints.left ∙ ap (λ (x : List ℕ). sets x q more) p.left ∙ ap (λ (n : ℕ). sets (sets old 0 (text_of New d)) n more) p.next ∙ sym (sets-append old 0 (text_of New d) more);
      next = a.prints.next ∙ ap (λ (n : ℕ). n + length more) p.next ∙ add_assoc 0 (length (text_of New d)) (length more) ∙ ap (λ (n : ℕ). 0 + n) (sym (length-append (text_of New d) more));
      short = omega (arith, length-append (text_of New d) more, p.short, a.prints.short);
    } in
    writes_as (counts-more k (d ∷ []) h ∙ more-dosed k d) (prints-writes (omega arith) a.next both)

-- ---- the calls

-- a line that is no dose fits
pub other_fits : (h : Heard) → ((d : Record) → h ≡ Dosed d → ⊥) → true ≡ fits_line h
unfolding fits_line
other_fits Ticked n = refl
other_fits (Dosed d) n = absurd (n d refl)
other_fits Restarted n = refl
other_fits Lost n = refl
other_fits Other n = refl

-- a line that is neither a restart nor no call passes and leaves the clock
pub stays : (k : Clock) (h : Heard) → (h ≡ Restarted → ⊥) → (h ≡ Lost → ⊥) → k ≡ passed_by k h
unfolding passed_by
stays k Ticked n m = refl
stays k (Dosed d) n m = refl
stays k Restarted n m = absurd (n refl)
stays k Lost n m = absurd (m refl)
stays k Other n m = refl

pub uncounted : (h : Heard) → (h ≡ Ticked → ⊥) → ((d : Record) → h ≡ Dosed d → ⊥) → Uncounted h
uncounted Ticked n m = absurd (n refl)
uncounted (Dosed d) n m = absurd (m d refl)
uncounted Restarted n m = restarted
uncounted Lost n m = lost
uncounted Other n m = other

pub passes : {r : Clock} (k : Clock) (h : Heard) → r ≡ passed_by k h → Passes k h r
passes k h e = record { next = e; runs = λ s. subst Runs (sym e) (passed-runs k h s) }

module _ {old : List ℕ} {n : Note} (k : Clock) where
  -- with too little room nothing is noted
  pub does-none : Runs k → length old < 64 → Does k n old old (record { next = k; len = 0 })
  unfolding roomed
  does-none s room = record { writes = writes-none (sym (pick-f _ _ _ (lt-leb 64 (length old) room))); runs = s }

  pub does : {m : Note} {new : List ℕ} {r : Marked} → 64 ≤ length old → n ≡ m → Runs m.next → Writes m old new r → Does k n old new r
  does room e s w = record { writes = writes_as (roomed-is (length old) k _ room ∙ e) w; runs = subst Runs (sym w.next) s }

-- by the number that was read of the first line
pub opens : {old new : List ℕ} {r : Marked} {n : Note} {num num' : Num} (k : Clock) (line : List ℕ) → Runs k → 64 ≤ length old
    → Scans line (number_at greatest_hour line) num → num ≡ num' → first_of k (leads line num') ≡ n → Writes n old new r → Opens k line old new r
opens k line s room y e f w = does k room refl (first_runs k line s) (writes_as (ap (first_of k) (y.reads ∙ ap (leads line) e) ∙ f) w)

pub marks : {old new : List ℕ} {r : Marked} {n : Note} (k : Clock) (h : Heard) → Runs k → 64 ≤ length old → Writable h → heard_by k h ≡ n → Writes n old new r → Marks k h old new r
marks k h s room fits e w = does k room (fitted-is k h fits) (heard-runs k h s) (writes_as e w)
