-- The places of a buffer: where a line ends, and the bytes between two places. Assumes nothing.
use Rattle.std.specs.Prelude.{◌≡◌, refl, Bool, true, false, List, [], ◌∷◌, ◌++◌, ℕ, zero, suc, ◌+◌, ◌-◌, ◌≤◌, ◌<◌, min, eqb, length, take, drop}
use Rattle.std.proofs.Common.{sym, ap, ◌∙◌, subst, arith, length-take, length-drop, length-append, take_all, eqb-true}
use Rattle.std.proofs.Math.Nat.{zero-min, min-zero, suc-min-suc}
use Rattle.std.proofs.Math.Seq.{take-nil}
use Rattle.std.proofs.lemmas.Bool.{eqb-false}
use Rattle.laws.specs.Pick.{pick, pick_all}
use Rattle.laws.specs.Over.{over}
use Rattle.paper.specs.Answer.{same}
use Rattle.text.specs.Scan.{LF}
use Rattle.lines.specs.Lines.{Plain}

-- ---- where a line ends

-- how many bytes stand before the first LF
unfoldable pub plain_length : List ℕ → ℕ
plain_length [] = 0
plain_length (b ∷ bs) = let more = suc (plain_length bs) in pick (eqb b LF) 0 more

-- the place of the first LF from `at` on, or that after the last byte
unfoldable pub end_of : List ℕ → ℕ → ℕ
end_of block at = at + plain_length (drop at block)

-- before the first LF stands none
pub plain-taken : (l : List ℕ) → Plain (take (plain_length l) l)
unfolding plain_length pick
plain-taken [] = tt
plain-taken (b ∷ bs) = go (eqb b LF) refl (plain-taken bs)
  where
    go : (t : Bool) → eqb b LF ≡ t → Plain (take (plain_length bs) bs) → Plain (take (pick t 0 (suc (plain_length bs))) (b ∷ bs))
    go true e p = tt
    go false e p = (eqb-false b LF e, p)

pub plain-within : (l : List ℕ) → plain_length l ≤ length l
unfolding plain_length
plain-within [] = omega arith
plain-within (b ∷ bs) = pick_all (λ (n : ℕ). n ≤ suc (length bs)) (eqb b LF) (omega arith) (omega (arith, plain-within bs))

-- the first line, its LF, and what follows it
pub plain-line : (l : List ℕ) → plain_length l < length l → l ≡ take (plain_length l) l ++ LF ∷ drop (suc (plain_length l)) l
unfolding plain_length pick
plain-line [] h = absurd (omega arith)
plain-line (b ∷ bs) h = go (eqb b LF) refl h (plain-line bs)
  where
    go : (t : Bool) → eqb b LF ≡ t → pick t 0 (suc (plain_length bs)) < suc (length bs) → (plain_length bs < length bs → bs ≡ take (plain_length bs) bs ++ LF ∷ drop (suc (plain_length bs)) bs)
        → b ∷ bs ≡ take (pick t 0 (suc (plain_length bs))) (b ∷ bs) ++ LF ∷ drop (pick t 0 (suc (plain_length bs))) bs
    go true e k p = ap (λ (x : ℕ). x ∷ bs) (eqb-true b LF e)
    go false e k p = ap (λ (r : List ℕ). b ∷ r) (p (omega arith))

-- or no line at all
pub plain-begun : (l : List ℕ) → length l ≤ plain_length l → Plain l
plain-begun l h = subst Plain (take_all (plain_length l) l h) (plain-taken l)

-- ---- the bytes between two places

-- the bytes from one place to another
unfoldable pub part_of : ℕ → ℕ → List ℕ → List ℕ
part_of from to bytes = take (to - from) (drop from bytes)

-- which are those of the buffer's first bytes too
pub part_held : (from to : ℕ) (l : List ℕ) → drop from (take to l) ≡ part_of from to l
unfolding part_of
part_held zero to l = let all : to - 0 ≡ to = omega arith in ap (λ (n : ℕ). take n l) (sym all)
part_held (suc from) zero l = let none : 0 - suc from ≡ 0 = omega arith in ap (λ (n : ℕ). take n (drop (suc from) l)) (sym none)
part_held (suc from) (suc to) [] = sym (take-nil (suc to - suc from))
part_held (suc from) (suc to) (x ∷ xs) = let less : to - from ≡ suc to - suc from = omega arith in part_held from to xs ∙ ap (λ (n : ℕ). take n (drop from xs)) less

-- no more bytes are taken than there are
pub take-least : (n : ℕ) (l : List ℕ) → take (min n (length l)) l ≡ take n l
take-least zero l = rw zero-min
take-least (suc n) [] = rw min-zero
take-least (suc n) (x ∷ xs) = rw suc-min-suc (ap (λ (r : List ℕ). x ∷ r) (take-least n xs))

pub part-least : (from to : ℕ) (l : List ℕ) → part_of from (min to (length l)) l ≡ part_of from to l
part-least from to l = sym (part_held from (min to (length l)) l) ∙ ap (drop from) (take-least to l) ∙ part_held from to l

-- they stand at the buffer's start, the rest of it is as it was
pub record Carries (from to : ℕ) (old new : List ℕ) (r : ℕ) : Type 0 where
  pub len : r ≡ length (part_of from to old)
  pub left : new ≡ over (part_of from to old) old

-- two results that both meet the contract are equal
pub carry-determined : {from to r s : ℕ} {old new new' : List ℕ} → Carries from to old new r → Carries from to old new' s → (r ≡ s) × (new ≡ new')
carry-determined p q = (same p.len q.len, same p.left q.left)

-- no more bytes are moved than there are, and the buffer keeps its length
pub carry-inside : {from to r : ℕ} {old new : List ℕ} → Carries from to old new r → (r ≤ length old) × (length new ≡ length old)
unfolding part_of over
carry-inside {from} {to} {r} {old} {new} p =
    let part = take (to - from) (drop from old) in
    let few : length part ≤ length old = omega (arith, length-take (to - from) (drop from old), length-drop from old) in
    (omega (arith, p.len), ap length p.left ∙ omega (arith, length-append part (drop (length part) old), length-drop (length part) old))
