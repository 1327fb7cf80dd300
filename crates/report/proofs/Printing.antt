-- Texts put one behind the other, the length of a row, and the rows of a table one by one. Assumes nothing.
use mathlib.Core.Path.{◌≡◌, refl, sym, ap, ◌∙◌, subst}
use mathlib.Core.Bool.{Bool, true, false}
use mathlib.Core.List.{List, [], ◌∷◌, ◌++◌, map}
use Prim.Native.Nat.{ℕ, suc, ◌+◌, ◌^◌, ◌≤◌, ◌<◌}
use native.Mathlib.Omega.{arith}
use native.Mathlib.Numerals.{add-one}
use native.Mathlib.Nat.{add-zero}
use lib.Dec.{eqb-suc-zero}
use lib.ListN.{length, get_or, take, drop, length-append, drop_of_length-le}
use lib.Seq.{sets, drop-cons, get_or-take, length-take-le}
use Rattle.laws.specs.Pick.{pick}
use Rattle.laws.specs.Over.{sets-append}
use Rattle.paper.specs.Answer.{Answer, on_done, in_room}
use Rattle.text.specs.Put.{Puts}
use Rattle.text.specs.PutLaws.{room-is, puts-fit, puts-length}
use Rattle.journal.specs.Journal.{first_hour}
use Rattle.journal.specs.declared.Line.{Line}
use Rattle.holes.specs.Holes.{in_hole}
use Rattle.hourly.specs.declared.Products.{Products}
use Rattle.hourly.specs.Hours.{HourAnswer, missing, amounts_at, has_on, total, sum_of, mean_of, measured_or_idle, hour_of}
use Rattle.hourly.specs.Text.{Row, row_from, row_of, row_text, rows_of, rows_text, hours_from, span_of, hours_text, print_of}
use Rattle.hourly.specs.Accepted.{Accepted}
use Rattle.hourly.specs.Bounds.{modest, text-short}
use Rattle.hourly.specs.Tally.{outside, tally_by, tally_of, lines_of, summary_of, Tells}
use Rattle.hourly.specs.TallyLaws.{hour-tally, Found, found-accepted}
use Rattle.report.specs.Table.{shown_by, shown_of, rows_by, text_by, Printable, hours_in}
use Rattle.hourly.specs.declared.Summary.{Summary}
use Rattle.hourly.specs.declared.Tally.{Tally}
use Rattle.hourly.specs.Floats.{whole_back}

-- the text of the rows from row k on
abbrev pub rest_by : List Tally → ℕ → ℕ → List ℕ
rest_by table first k = rows_text (rows_by (drop k table) (first + k))

pub rest-whole : (table : List Tally) (first : ℕ) → rest_by table first 0 ≡ text_by table first
unfolding text_by
rest-whole table first = ap (λ (h : ℕ). rows_text (rows_by table h)) (add-zero first)

pub rest-row : (table : List Tally) (first k : ℕ) → k < length table → rest_by table first k ≡ row_text (first + k) (shown_of (get_or table k outside)) ++ rest_by table first (k + 1)
unfolding rows_by rows_text
rest-row table first k h =
    ap (λ (ts : List Tally). rows_text (rows_by ts (first + k))) (drop-cons table k outside h)
    ∙ ap (λ (m : ℕ). row_text (first + k) (shown_of (get_or table k outside)) ++ rows_text (rows_by (drop (suc k) table) m)) (omega arith)
    ∙ ap (λ (i : ℕ). row_text (first + k) (shown_of (get_or table k outside)) ++ rows_text (rows_by (drop i table) (first + (k + 1)))) (sym (add-one k))

-- the length of the row, and of those behind it
pub rest-length : (table : List Tally) (first k : ℕ) (row : Row) → k < length table → row ≡ shown_of (get_or table k outside)
    → length (rest_by table first k) ≡ length (row_text (first + k) row) + length (rest_by table first (k + 1))
rest-length table first k row h e =
    ap length (rest-row table first k h ∙ ap (λ (w : Row). row_text (first + k) w ++ rest_by table first (k + 1)) (sym e))
    ∙ length-append (row_text (first + k) row) (rest_by table first (k + 1))

-- the row stored, and what is left to store behind it
pub rest-stored : (table : List Tally) (first k : ℕ) (row : Row) (out new whole : List ℕ) (at r : ℕ) → k < length table → row ≡ shown_of (get_or table k outside)
    → at + length (row_text (first + k) row) ≤ length out → Puts out at (row_text (first + k) row) new r → sets out at (rest_by table first k) ≡ whole
    → (sets new r (rest_by table first (k + 1)) ≡ whole) × (r ≡ at + length (row_text (first + k) row)) × (length new ≡ length out)
rest-stored table first k row out new whole at r h e room puts left =
    let a = puts-fit (room-is out at (row_text (first + k) row) room) puts in
    let text = rest_by table first (k + 1) in (
      ap (λ (o : List ℕ). sets o r text) a.0
          ∙ ap (λ (i : ℕ). sets (sets out at (row_text (first + k) row)) i text) a.1
          ∙ sym (sets-append out at (row_text (first + k) row) text)
          ∙ ap (λ (w : Row). sets out at (row_text (first + k) w ++ text)) e
          ∙ ap (sets out at) (sym (rest-row table first k h))
          ∙ left,
      a.1,
      puts-length puts,
    )

pub rest-none : (table : List Tally) (first k : ℕ) → length table ≤ k → rest_by table first k ≡ []
unfolding rows_by rows_text
rest-none table first k h = ap (λ (ts : List Tally). rows_text (rows_by ts (first + k))) (drop_of_length-le table {i = k} h)

-- ---- the rows of an accepted journal

-- the tally of an hour is shown as its row
shown-tally : (w : Products) (ls : List Line) (h : ℕ) → total (amounts_at w h ls) ≤ 2 ^ 53 → shown_of (tally_of w ls h) ≡ row_of w ls h
unfolding shown_of row_of row_from hour_of measured_or_idle sum_of mean_of tally_of pick
shown-tally w ls h b = ap (λ (x : HourAnswer). shown_by x (tally_of w ls h)) (hour-tally w ls h) ∙ go (in_hole h ls) (has_on h ls) (amounts_at w h ls) b
  where
    go : (hole on : Bool) (amounts : List ℕ) → total amounts ≤ 2 ^ 53
        → shown_by (pick hole missing (pick on (measured_or_idle amounts) missing)) (tally_by amounts on hole) ≡ row_from (pick hole missing (pick on (measured_or_idle amounts) missing)) amounts
    go true on amounts b = refl
    go false true [] b = refl
    go false true (a ∷ as') b = rw (whole_back (total (a ∷ as')) b).1
    go false false amounts b = refl

rows_tell : (w : Products) (ls : List Line) (ts : List Tally) (h : ℕ) → ((k : ℕ) → k < length ts → shown_of (get_or ts k outside) ≡ row_of w ls (h + k))
    → rows_by ts h ≡ map (λ k. record { hour = k; row = row_of w ls k }) (hours_from h (length ts))
unfolding rows_by hours_from
rows_tell w ls [] h f = refl
rows_tell w ls (t ∷ ts) h f =
    let here : shown_of t ≡ row_of w ls h = f 0 (omega arith) ∙ ap (row_of w ls) (add-zero h) in
    rw (here, rows_tell w ls ts (suc h) (λ k b. f (suc k) (omega arith) ∙ ap (row_of w ls) (omega arith)))

-- the hours printed are as many as the reader's answer says
span-is : (ls : List Line) → span_of ls ≡ hours_from (first_hour ls) (hours_in (summary_of ls))
unfolding span_of hours_in summary_of hours_from pick
span-is [] = refl
span-is (l ∷ ls) = rw (eqb-suc-zero, add-one)

hours-few : {s : List ℕ} (ls : List Line) → Accepted s ls → hours_in (summary_of ls) ≤ 744
unfolding hours_in summary_of pick
hours-few [] a = omega arith
hours-few (l ∷ ls) a = rw eqb-suc-zero (omega (arith, a.span))

-- a sum of amounts is a whole number that an f64 holds exactly
sum-small : (w : Products) {s : List ℕ} (ls : List Line) (h : ℕ) → Accepted s ls → total (amounts_at w h ls) ≤ 2 ^ 53
sum-small w ls h a = omega (arith, (modest w h ls a.ranged).sum, a.few)

-- the table of an accepted journal is printed as its text
pub record Prints (w : Products) (s : List ℕ) (found : Summary) (table : List Tally) : Type 0 where
  pub few : hours_in found ≤ 744
  pub printable : Printable (take (hours_in found) table) found.first
  pub text : text_by (take (hours_in found) table) found.first ≡ hours_text w (lines_of s)

module _ (w : Products) (s : List ℕ) (table : List Tally) (a : Accepted s (lines_of s)) (t : Tells w table (first_hour (lines_of s)) (lines_of s)) where
  abbrev hours : ℕ
  hours = hours_in (summary_of (lines_of s))

  taken : length (take hours table) ≡ hours
  taken = length-take-le hours table (omega (arith, hours-few (lines_of s) a, t.size))

  told : (k : ℕ) → k < hours → get_or (take hours table) k outside ≡ tally_of w (lines_of s) (first_hour (lines_of s) + k)
  told k b = get_or-take hours table k outside b ∙ t.at k (omega (arith, hours-few (lines_of s) a))

  shown : (k : ℕ) → k < hours → shown_of (get_or (take hours table) k outside) ≡ row_of w (lines_of s) (first_hour (lines_of s) + k)
  shown k b = ap shown_of (told k b) ∙ shown-tally w (lines_of s) (first_hour (lines_of s) + k) (sum-small w (lines_of s) (first_hour (lines_of s) + k) a)

  printed : text_by (take hours table) (first_hour (lines_of s)) ≡ hours_text w (lines_of s)
  unfolding text_by hours_text rows_of
  printed =
      let rows = rows_tell w (lines_of s) (take hours table) (first_hour (lines_of s)) (λ k b. shown k (omega (arith, taken))) in
      ap rows_text (
      rows
      ∙ ap (λ (m : ℕ). map (λ k. record { hour = k; row = row_of w (lines_of s) k }) (hours_from (first_hour (lines_of s)) m)) taken
      ∙ ap (map (λ k. record { hour = k; row = row_of w (lines_of s) k })) (sym (span-is (lines_of s))))

  prints-lines : Prints w s (summary_of (lines_of s)) table
  unfolding summary_of tally_of
  prints-lines =
      record {
        few = hours-few (lines_of s) a;
        printable =
            record {
              few = omega (arith, taken, hours-few (lines_of s) a);
              summed = λ k b. record {
                whole = total (amounts_at w (first_hour (lines_of s) + k) (lines_of s));
                exact = ap (λ (x : Tally). x.sum) (told k (omega (arith, taken)));
                small = sum-small w (lines_of s) (first_hour (lines_of s) + k) a;
              };
              short = omega (arith, ap length printed, text-short w (lines_of s) a);
            };
        text = printed;
      }

pub prints : (w : Products) (s : List ℕ) (found : Summary) (table : List Tally) → Found s found → Tells w table found.first (lines_of s) → Prints w s found table
prints w s found table f t =
    subst (λ (x : Summary). Prints w s x table) f.summary (prints-lines w s table (found-accepted f) (subst (λ (n : ℕ). Tells w table n (lines_of s)) (sym f.first) t))

-- the first line's hour is no later than the last line's
pub first-last : {s : List ℕ} {found : Summary} → Found s found → found.first ≤ found.last
first-last f = omega (arith, f.first, f.last, (found-accepted f).order)

-- and the text is what is printed, if it has room
pub prints-answer : {w : Products} {s : List ℕ} {found : Summary} {table : List Tally} → Found s found → Prints w s found table → (room : ℕ) → in_room [] room (text_by (take (hours_in found) table) found.first) ≡ print_of w s room
unfolding print_of on_done
prints-answer {w} f p room = ap (in_room [] room) p.text ∙ sym (ap (λ (a : Answer (List Line)). on_done a (λ ls. in_room [] room (hours_text w ls))) f.journal)
