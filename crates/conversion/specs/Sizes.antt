-- How many bytes each direction adds or takes, and so which journals can go. Assumes nothing.
use Rattle.std.specs.Prelude.{◌≡◌, refl, List, [], ◌∷◌, ℕ, suc, ◌+◌, ◌*◌, ◌≤◌, ◌<◌}
use Rattle.std.proofs.Common.{sym, ◌∙◌, arith, length-append}
use Rattle.std.proofs.Math.Path.{ap}
use Rattle.std.proofs.Math.ListN.{length}
use Rattle.laws.specs.Decimal.{decimal, digits_of, glyph}
use Rattle.laws.specs.DecimalLaws.{decimal-some}
use Rattle.paper.specs.Answer.{Answer, done, refused, on_done, in_room}
use Rattle.paper.specs.Numbers.{R13}
use Rattle.journal.specs.Line.{version_text, text_of}
use Rattle.journal.specs.LineLaws.{product_text, dose-length, on-length}
use Rattle.journal.specs.Journal.{lines_text, head_text, journal_text}
use Rattle.journal.specs.JournalLaws.{each_map}
use Rattle.journal.specs.declared.Form.TheVariants.{Old, New}
use Rattle.journal.specs.declared.Line.{Line}
use Rattle.journal.specs.declared.Line.TheVariants.{Dose, On}
use Rattle.conversion.specs.Conversion.{read_as, product_in, goes_back, handed, renewed_of, restored_of}
use Rattle.conversion.specs.Forms.{Holding, read-holding, holding-text, holding-range, Zeros, old-zero, goes-zeros, handed-short, handed-long}
use Rattle.conversion.specs.Trips.{Pair}

-- the number of D lines
unfoldable pub doses_in : List Line → ℕ
doses_in [] = 0
doses_in (Dose h c a s p ∷ ls) = suc (doses_in ls)
doses_in (On h ∷ ls) = doses_in ls

field-none : (p : ℕ) → length (product_text Old p) ≡ 0
unfolding product_text
field-none p = refl

field-zero : (p : ℕ) → p ≡ 0 → length (product_text New p) ≡ 2
unfolding product_text decimal digits_of glyph
field-zero p e = ap (λ (q : ℕ). length (product_text New q)) e

-- a D line with product 0 gains two bytes
line-gain : (h c a s p : ℕ) → p ≡ 0 → length (text_of New (Dose h c a s p)) ≡ length (text_of Old (Dose h c a s p)) + 2
line-gain h c a s p e = omega (arith, dose-length New h c a s p, dose-length Old h c a s p, field-zero p e, field-none p)

lines-gain : (ls : List Line) → Zeros ls → length (lines_text New ls) ≡ length (lines_text Old ls) + 2 * doses_in ls
unfolding lines_text doses_in product_in
lines-gain [] z = omega arith
lines-gain (Dose h c a s p ∷ ls) z =
    let l = Dose h c a s p in
    omega (arith, length-append (text_of New l) (lines_text New ls), length-append (text_of Old l) (lines_text Old ls), line-gain h c a s p z.0, lines-gain ls z.1)
lines-gain (On h ∷ ls) z =
    omega (arith, length-append (text_of New (On h)) (lines_text New ls), length-append (text_of Old (On h)) (lines_text Old ls), on-length New h, on-length Old h, lines-gain ls z.1)

-- the new form has four bytes more, and two for each D line
pub text-gain : (ls : List Line) → Zeros ls → length (journal_text New ls) ≡ length (journal_text Old ls) + 4 + 2 * doses_in ls
unfolding journal_text head_text version_text
text-gain ls z = omega (arith, lines-gain ls z)

-- old to new adds them, and new to old takes them
pub pair_size : (s t : List ℕ) (p : Pair s t) → length t ≡ length s + 4 + 2 * doses_in p.lines
pair_size s t p = ap length (holding-text p.is_new) ∙ text-gain p.lines p.zeros ∙ ap (λ (n : ℕ). n + 4 + 2 * doses_in p.lines) (sym (ap length (holding-text p.is_old)))

module _ (s : List ℕ) (ls : List Line) (room : ℕ) where
  renew-size : read_as Old s ≡ done ls → length (journal_text New ls) ≡ length s + 4 + 2 * doses_in ls
  renew-size e =
      let h = read-holding Old s ls e in
      text-gain ls (each_map ls old-zero (holding-range h)) ∙ ap (λ (n : ℕ). n + 4 + 2 * doses_in ls) (sym (ap length (holding-text h)))

  renew-lines : read_as Old s ≡ done ls → renewed_of s room ≡ handed room (journal_text New ls)
  unfolding renewed_of on_done
  renew-lines e = ap (λ (a : Answer (List Line)). on_done a (λ ms. handed room (journal_text New ms))) e

  -- a sound old journal goes exactly if it has room for them
  pub renew-goes : read_as Old s ≡ done ls → length s + 4 + 2 * doses_in ls ≤ 65536 → renewed_of s room ≡ in_room [] room (journal_text New ls)
  renew-goes e h = renew-lines e ∙ handed-short room (journal_text New ls) (omega (arith, renew-size e))

  pub renew-over : read_as Old s ≡ done ls → 65536 < length s + 4 + 2 * doses_in ls → renewed_of s room ≡ refused R13 []
  renew-over e h = renew-lines e ∙ handed-long room (journal_text New ls) (omega (arith, renew-size e))

  -- a sound new one without a product other than 0 always goes: R13 of the result is never given
  pub restore-goes : read_as New s ≡ done ls → Zeros ls → restored_of s room ≡ in_room [] room (journal_text Old ls)
  unfolding restored_of on_done
  restore-goes e z =
      let h = read-holding New s ls e in
      ap (λ (a : Answer (List Line)). on_done a (λ ms. goes_back 2 ms (handed room (journal_text Old ms)))) e
      ∙ goes-zeros 2 ls (handed room (journal_text Old ls)) z
      ∙ handed-short room (journal_text Old ls) (omega (arith, h.short, text-gain ls z, ap length (holding-text h)))

-- a D line of the old form has at least ten bytes
few-doses : (ls : List Line) → 10 * doses_in ls ≤ length (lines_text Old ls)
unfolding lines_text doses_in
few-doses [] = omega arith
few-doses (Dose h c a s p ∷ ls) =
    let l = Dose h c a s p in
    omega (arith, length-append (text_of Old l) (lines_text Old ls), dose-length Old h c a s p, decimal-some h, decimal-some c, decimal-some a, decimal-some s, few-doses ls)
few-doses (On h ∷ ls) = omega (arith, length-append (text_of Old (On h)) (lines_text Old ls), few-doses ls)

old-doses : (s : List ℕ) (ls : List Line) → Holding Old s ls → 10 * doses_in ls ≤ length s
unfolding journal_text head_text
old-doses s ls h = omega (arith, few-doses ls, ap length (holding-text h))

-- so a sound old journal of at most 54,610 bytes always goes
pub renew-always : (s : List ℕ) (ls : List Line) (room : ℕ) → read_as Old s ≡ done ls → length s ≤ 54610 → renewed_of s room ≡ in_room [] room (journal_text New ls)
renew-always s ls room e h = renew-goes s ls room e (omega (arith, old-doses s ls (read-holding Old s ls e)))
