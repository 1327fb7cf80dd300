-- From what the passes counted and stored to the calls' contracts. Assumes nothing.
use mathlib.Core.Path.{◌≡◌, refl, sym, ap, ◌∙◌, subst}
use mathlib.Core.List.{List, [], ◌∷◌, ◌++◌}
use Prim.Native.Nat.{ℕ, ◌+◌, ◌≤◌, ◌<◌}
use native.Mathlib.Omega.{arith}
use lib.Dec.{eqb}
use lib.ListN.{length, drop, length-append}
use lib.Seq.{sets, length-sets}
use borrow.Author.Tests.{eq-eqb, ne_eqb}
use Rattle.laws.specs.Pick.{pick, pick-t, pick-f}
use Rattle.laws.specs.Over.{sets-append}
use Rattle.paper.specs.Answer.{Answer, done, refused, fault, told, on_done, Fills}
use Rattle.paper.specs.AnswerLaws.{refused-done, fault-done, told-refused, fills-refused, fills-none, fills-text}
use Rattle.paper.specs.Numbers.{R8, R13, R18}
use Rattle.text.specs.Put.{Puts}
use Rattle.text.specs.PutLaws.{room-is, puts-fit}
use Rattle.journal.specs.Journal.{form_of, head_text, lines_text, journal_text}
use Rattle.journal.specs.JournalLaws.{head_bytes, head-inside, text-body, each_map}
use Rattle.journal.specs.Says.{says_refusal}
use Rattle.journal.specs.declared.Form.{Form}
use Rattle.journal.specs.declared.Form.TheVariants.{Old, New}
use Rattle.journal.specs.declared.Line.{Line}
use Rattle.journal.specs.declared.Refusal.{Refusal}
use Rattle.journal.specs.declared.Refusal.TheVariants as R
use Rattle.hourly.specs.Tally.{summary_of}
use Rattle.hourly.specs.declared.Summary.{Summary}
use Rattle.conversion.specs.Conversion.{read_as, goes_back, handed, renewed_of, restored_of}
use Rattle.conversion.specs.Forms.{Holding, read-holding, holding-read, holding-text, holding-range, old-zero, handed-short, handed-long}
use Rattle.conversion.specs.Bytes.{bytes_to, bytes_of, other_from, back_from}
use Rattle.conversion.proofs.Bytewise.{lines_new, lines-old, lines-back}

-- the same rule
pub fills-as : {answer : Answer ℕ} {rule other : Answer (List ℕ)} {old new : List ℕ} → rule ≡ other → Fills answer other old new → Fills answer rule old new
fills-as {answer} {rule} {other} {old} {new} e f = subst (λ (x : Answer (List ℕ)). Fills answer x old new) (sym e) f

-- ---- R13 of the result, R8, and the journal

-- what was counted: where the lines begin, and how many bytes stand before them and how many they become
pub record Sized (to : Form) (s : List ℕ) (from head lines : ℕ) : Type 0 where
  pub begins : from ≡ head_bytes (form_of s)
  pub heads : head ≡ length (head_text to)
  pub counts : lines ≡ length (bytes_to to 0 (drop from s))

module _ {to : Form} {s : List ℕ} {from head lines : ℕ} (z : Sized to s from head lines) where
  body : bytes_to to 0 (drop from s) ≡ bytes_to to 0 (drop (head_bytes (form_of s)) s)
  body = ap (λ (k : ℕ). bytes_to to 0 (drop k s)) z.begins

  pub size_is : head + lines ≡ length (bytes_of to s)
  unfolding bytes_of
  size_is = omega (arith, z.heads, z.counts, ap length body, length-append (head_text to) (bytes_to to 0 (drop (head_bytes (form_of s)) s)))

  pub over-long : (old : List ℕ) → 65536 < head + lines → Fills (refused R13 []) (handed (length old) (bytes_of to s)) old old
  over-long old h = fills-refused (handed-long (length old) (bytes_of to s) (omega (arith, size_is))) old

  pub over-room : (old : List ℕ) → head + lines ≤ 65536 → length old < head + lines → Fills (refused R8 []) (handed (length old) (bytes_of to s)) old old
  over-room old h k =
      fills-as (handed-short (length old) (bytes_of to s) (omega (arith, size_is)))
      (fills-none old (bytes_of to s) (omega (arith, size_is)))

  module _ {old mid : List ℕ} {at : ℕ} (short : head + lines ≤ 65536) (room : head + lines ≤ length old) (first : Puts old 0 (head_text to) mid at) where
    headed : (mid ≡ sets old 0 (head_text to)) × (at ≡ 0 + length (head_text to))
    headed = puts-fit (room-is old 0 (head_text to) (omega (arith, z.heads))) first

    pub lines-room : at + length (bytes_to to 0 (drop from s)) ≤ length mid
    lines-room = omega (arith, z.heads, z.counts, headed.1, ap length headed.0 ∙ length-sets old 0 (head_text to))

    pub handed-over : {new : List ℕ} → new ≡ sets mid at (bytes_to to 0 (drop from s)) → Fills (done (head + lines)) (handed (length old) (bytes_of to s)) old new
    unfolding bytes_of
    handed-over {new} e =
        fills-as (handed-short (length old) (bytes_of to s) (omega (arith, size_is)))
        (fills-text old new (bytes_of to s) (head + lines) (omega (arith, size_is)) size_is
        (e
        ∙ ap (sets mid at) body
        ∙ ap (λ (o : List ℕ). sets o at (bytes_to to 0 (drop (head_bytes (form_of s)) s))) headed.0
        ∙ ap (λ (i : ℕ). sets (sets old 0 (head_text to)) i (bytes_to to 0 (drop (head_bytes (form_of s)) s))) headed.1
        ∙ sym (sets-append old 0 (head_text to) (bytes_to to 0 (drop (head_bytes (form_of s)) s)))))

-- ---- R18

pub back-other : (s old : List ℕ) (o : ℕ) → o ≡ other_from 2 0 (drop 4 s) → (o ≡ 0 → ⊥) → Fills (refused R18 (o ∷ [])) (back_from s (length old)) old old
unfolding back_from
back-other s old o e n = fills-refused (ap (λ (x : ℕ). pick (eqb x 0) (handed (length old) (bytes_of Old s)) (refused R18 (x ∷ []))) (sym e) ∙ pick-f _ _ _ (ne_eqb o 0 n)) old

pub back_none : (s : List ℕ) (room o : ℕ) → o ≡ other_from 2 0 (drop 4 s) → o ≡ 0 → back_from s room ≡ handed room (bytes_of Old s)
unfolding back_from
back_none s room o e z = pick-t _ _ _ (eq-eqb (other_from 2 0 (drop 4 s)) 0 (sym e ∙ z))

-- ---- a journal that was read

-- the lines behind what it begins with
holding-body : {f : Form} {s : List ℕ} {ls : List Line} → Holding f s ls → drop (head_bytes (form_of s)) s ≡ lines_text f ls
holding-body {f} {s} {ls} h =
    ap (λ (g : Form). drop (head_bytes g) s) h.form ∙ ap (drop (head_bytes f)) (holding-text h) ∙ text-body f ls

bytes-new : (s : List ℕ) (ls : List Line) → Holding Old s ls → bytes_of New s ≡ journal_text New ls
unfolding bytes_of journal_text
bytes-new s ls h =
    ap (λ (t : List ℕ). head_text New ++ bytes_to New 0 t) (holding-body h)
    ∙ ap (λ (t : List ℕ). head_text New ++ t) (lines_new ls (each_map ls old-zero (holding-range h)))

bytes-old : (s : List ℕ) (ls : List Line) → Holding New s ls → bytes_of Old s ≡ journal_text Old ls
unfolding bytes_of journal_text
bytes-old s ls h =
    ap (λ (t : List ℕ). head_text Old ++ bytes_to Old 0 t) (holding-body h)
    ∙ ap (λ (t : List ℕ). head_text Old ++ t) (lines-old ls)

-- a journal of the new form has its V line
pub new-headed : {s : List ℕ} {ls : List Line} → Holding New s ls → 4 ≤ length s
unfolding head_bytes
new-headed {s} h = subst (λ (f : Form). head_bytes f ≤ length s) h.form (head-inside s)

-- what the judging pass answered
pub found : (f : Form) (s : List ℕ) (m : Summary) → done m ≡ told summary_of (read_as f s) → (ls : List Line) × Holding f s ls
unfolding told
found f s m e = go (read_as f s) refl e
  where
    go : (a : Answer (List Line)) → read_as f s ≡ a → done m ≡ told summary_of a → (ls : List Line) × Holding f s ls
    go (done ls) q h = (ls, read-holding f s ls q)
    go (refused n vs) q h = refused-done (sym h)
    go (fault n vs) q h = fault-done (sym h)

pub renewed : (s : List ℕ) (ls : List Line) (room : ℕ) → Holding Old s ls → renewed_of s room ≡ handed room (bytes_of New s)
unfolding renewed_of on_done
renewed s ls room h =
    ap (λ (a : Answer (List Line)). on_done a (λ ms. handed room (journal_text New ms))) (holding-read Old s ls h)
    ∙ ap (handed room) (sym (bytes-new s ls h))

pub restored : (s : List ℕ) (ls : List Line) (room : ℕ) → Holding New s ls → restored_of s room ≡ back_from s room
unfolding restored_of on_done back_from head_bytes
restored s ls room h =
    let next = handed room (journal_text Old ls) in
    let body : drop 4 s ≡ lines_text New ls = ap (λ (g : Form). drop (head_bytes g) s) (sym h.form) ∙ holding-body h in
    ap (λ (a : Answer (List Line)). on_done a (λ ms. goes_back 2 ms (handed room (journal_text Old ms)))) (holding-read New s ls h)
    ∙ lines-back 2 ls next (omega arith)
    ∙ ap (λ (t : List ℕ). pick (eqb (other_from 2 0 t) 0) next (refused R18 (other_from 2 0 t ∷ []))) (sym body)
    ∙ ap (λ (t : List ℕ). pick (eqb (other_from 2 0 (drop 4 s)) 0) (handed room t) (refused R18 (other_from 2 0 (drop 4 s) ∷ []))) (sym (bytes-old s ls h))

-- a journal's refusal stays what it is
refused-fills : (a : Answer (List Line)) (next : List Line → Answer (List ℕ)) (r : Refusal) (old : List ℕ) → says_refusal r ≡ told summary_of a → Fills (says_refusal r) (on_done a next) old old
unfolding on_done
refused-fills a next (R.R10 n) old e = fills-refused (ap (λ (x : Answer (List Line)). on_done x next) (told-refused summary_of a _ _ (sym e))) old
refused-fills a next (R.R11 n) old e = fills-refused (ap (λ (x : Answer (List Line)). on_done x next) (told-refused summary_of a _ _ (sym e))) old
refused-fills a next (R.R12 n) old e = fills-refused (ap (λ (x : Answer (List Line)). on_done x next) (told-refused summary_of a _ _ (sym e))) old
refused-fills a next R.R13 old e = fills-refused (ap (λ (x : Answer (List Line)). on_done x next) (told-refused summary_of a _ _ (sym e))) old

pub renew-refused : (s old : List ℕ) (r : Refusal) → says_refusal r ≡ told summary_of (read_as Old s) → Fills (says_refusal r) (renewed_of s (length old)) old old
unfolding renewed_of
renew-refused s old r e = refused-fills (read_as Old s) (λ ls. handed (length old) (journal_text New ls)) r old e

pub restore-refused : (s old : List ℕ) (r : Refusal) → says_refusal r ≡ told summary_of (read_as New s) → Fills (says_refusal r) (restored_of s (length old)) old old
unfolding restored_of
restore-refused s old r e = refused-fills (read_as New s) (λ ls. goes_back 2 ls (handed (length old) (journal_text Old ls))) r old e
