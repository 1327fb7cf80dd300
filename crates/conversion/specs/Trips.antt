-- There and back: Old to new to old gives the same bytes, and so does new to old to new where it isn't refused; the lines, and so the hours, are the same on both sides. Assumes nothing.
use Rattle.std.specs.Prelude.{◌≡◌, List, [], ℕ}
use Rattle.std.proofs.Common.{sym, ap, ◌∙◌, subst}
use Rattle.paper.specs.Answer.{Answer, done, told, on_done, in_room}
use Rattle.paper.specs.AnswerLaws.{on-done}
use Rattle.journal.specs.LineLaws.{range-either}
use Rattle.journal.specs.Journal.{journal_of, journal_text}
use Rattle.journal.specs.JournalLaws.{each_map}
use Rattle.journal.specs.Order.{journal-ordered}
use Rattle.journal.specs.declared.Form.TheVariants.{Old, New}
use Rattle.journal.specs.declared.Line.{Line}
use Rattle.hourly.specs.Hours.{hour_of, ask_of}
use Rattle.hourly.specs.declared.Products.{Products}
use Rattle.conversion.specs.Conversion.{read_as, goes_back, handed, renewed_of, restored_of}
use Rattle.conversion.specs.Forms.{Holding, read-holding, holding-read, holding-text, holding-range, text-holding, Zeros, old-zero, zeros-old, goes-zeros, goes-done, handed-short, handed-done}

-- one journal in both forms: these lines, with no product but 0
pub record Pair (old new : List ℕ) : Type 0 where
  pub lines : List Line
  pub zeros : Zeros lines
  pub is_old : Holding Old old lines
  pub is_new : Holding New new lines

-- what old to new gives, and what new to old gives
pub renew-pair : (s t : List ℕ) (room : ℕ) → renewed_of s room ≡ done t → Pair s t
unfolding renewed_of
renew-pair s t room e = on-done (read_as Old s) (λ ls. handed room (journal_text New ls)) t e go
  where
    go : (ls : List Line) → read_as Old s ≡ done ls → handed room (journal_text New ls) ≡ done t → Pair s t
    go ls r h =
        let o = read-holding Old s ls r in
        let d = handed-done room (journal_text New ls) t h in
        let n = text-holding New ls (journal-ordered s ls o.journal) (each_map ls (range-either Old) (holding-range o)) d.0 in
        record { lines = ls; zeros = each_map ls old-zero (holding-range o); is_old = o; is_new = subst (λ (x : List ℕ). Holding New x ls) (sym d.1) n }

pub restore-pair : (s t : List ℕ) (room : ℕ) → restored_of s room ≡ done t → Pair t s
unfolding restored_of
restore-pair s t room e = on-done (read_as New s) (λ ls. goes_back 2 ls (handed room (journal_text Old ls))) t e go
  where
    go : (ls : List Line) → read_as New s ≡ done ls → goes_back 2 ls (handed room (journal_text Old ls)) ≡ done t → Pair t s
    go ls r h =
        let n = read-holding New s ls r in
        let g = goes-done 2 ls (handed room (journal_text Old ls)) t h in
        let d = handed-done room (journal_text Old ls) t g.1 in
        let o = text-holding Old ls (journal-ordered s ls n.journal) (zeros-old ls (holding-range n) g.0) d.0 in
        record { lines = ls; zeros = g.0; is_old = subst (λ (x : List ℕ). Holding Old x ls) (sym d.1) o; is_new = n }

-- each of the two is what the other becomes, in any buffer that has room
pub pair-renewed : (s t : List ℕ) (room : ℕ) → Pair s t → renewed_of s room ≡ in_room [] room t
unfolding renewed_of on_done
pair-renewed s t room p =
    ap (λ (a : Answer (List Line)). on_done a (λ ls. handed room (journal_text New ls))) (holding-read Old s p.lines p.is_old)
    ∙ ap (handed room) (sym (holding-text p.is_new))
    ∙ handed-short room t p.is_new.short

pub pair-restored : (s t : List ℕ) (room : ℕ) → Pair s t → restored_of t room ≡ in_room [] room s
unfolding restored_of on_done
pair-restored s t room p =
    ap (λ (a : Answer (List Line)). on_done a (λ ls. goes_back 2 ls (handed room (journal_text Old ls)))) (holding-read New t p.lines p.is_new)
    ∙ goes-zeros 2 p.lines (handed room (journal_text Old p.lines)) p.zeros
    ∙ ap (handed room) (sym (holding-text p.is_old))
    ∙ handed-short room s p.is_old.short

-- Old to new to old gives the same bytes
pub renew-restore : (s t : List ℕ) (room again : ℕ) → renewed_of s room ≡ done t → restored_of t again ≡ in_room [] again s
renew-restore s t room again e = pair-restored s t again (renew-pair s t room e)

-- and so does new to old to new where it isn't refused
pub restore-renew : (s t : List ℕ) (room again : ℕ) → restored_of s room ≡ done t → renewed_of t again ≡ in_room [] again s
restore-renew s t room again e = pair-renewed t s again (restore-pair s t room e)

-- both sides hold the same lines
pub pair-lines : {s t : List ℕ} → Pair s t → journal_of s ≡ journal_of t
pair-lines p = p.is_old.journal ∙ sym p.is_new.journal

-- Hours worked out over all products agree on both sides, W1's holes among them; and for one product too
pub renew-hours : (s t : List ℕ) (room : ℕ) → renewed_of s room ≡ done t → (w : Products) (h : ℕ) → ask_of w s h ≡ ask_of w t h
unfolding ask_of
renew-hours s t room e w h = ap (told (λ (ls : List Line). hour_of w ls h)) (pair-lines (renew-pair s t room e))

pub restore-hours : (s t : List ℕ) (room : ℕ) → restored_of s room ≡ done t → (w : Products) (h : ℕ) → ask_of w s h ≡ ask_of w t h
unfolding ask_of
restore-hours s t room e w h = ap (told (λ (ls : List Line). hour_of w ls h)) (sym (pair-lines (restore-pair s t room e)))
