-- What a turn of a loop leaves of the rest: of the check, of what is sent, of what is read. Assumes nothing.
use mathlib.Core.Path.{◌≡◌, ap, ap₂, ◌∙◌, sym, refl}
use mathlib.Core.List.{List, [], ◌∷◌, ◌++◌, append-nil, append_assoc}
use Prim.Native.Nat.{ℕ, ◌+◌, ◌<◌, suc, zero, ◌-◌, ◌≤◌}
use native.Mathlib.Numerals.{add-one}
use lib.ListN.{length, get_or, drop, set, length-append, length-set, take}
use lib.Seq.{sets, length-sets, drop-cons, length-take-le, take_at}
use borrow.Author.Tests.{ne_eqb, lt-ltb, ltb-false}
use Rattle.laws.specs.Pick.{pick-t, pick-f}
use Rattle.laws.specs.Over.{sets-append}
use Rattle.frame.specs.Check.{check, enter, enter_all}
use Rattle.frame.specs.Frame.{sent_byte, sent, frame}
use Rattle.frame.specs.FrameLaws.{frame-parts}
use Rattle.frame.specs.Read.{Reading, seek, body, grown, step, run}
use Rattle.std.proofs.Math.Seq.{take-suc}
use lib.Dec.{ltb}
use native.Mathlib.Nat.{add-zero}
use Rattle.std.proofs.lemmas.List.Sums.{fails_before_first, prefix_len-le-length}
use Rattle.std.proofs.lemmas.Bool.{eqb-false}
use native.Mathlib.Omega.{arith}
use Rattle.std.proofs.lemmas.List.{get_or-drop, get_or-take, length-drop, length-take, take_all}
use Rattle.std.specs.Prelude.{◌==◌, None, Some, min}
use mathlib.Core.Bool.{Bool, cond, false, true}
use borrow.Rule.Slice.PartMut.{put_mid}
use Rattle.std.specs.Option.{unwrap_or}
use Rattle.std.specs.List.{position_or_len}
use Rattle.frame.specs.Stands.{Copies, Plain, Skips, Takes, before_mark, fits}

pub enter_all-step : (l : List ℕ) (i s : ℕ) → i < length l → enter_all s (drop i l) ≡ enter_all (enter s (get_or l i 0)) (drop (i + 1) l)
unfolding enter_all
enter_all-step l i s h = rw (add-one, drop-cons l i 0)

pub sent-step : (l : List ℕ) (i : ℕ) → i < length l → sent (drop i l) ≡ sent_byte (get_or l i 0) ++ sent (drop (i + 1) l)
unfolding sent
sent-step l i h = rw (add-one, drop-cons l i 0)

pub sent-step-length : (l : List ℕ) (i : ℕ) → i < length l → length (sent (drop i l)) ≡ length (sent_byte (get_or l i 0)) + length (sent (drop (i + 1) l))
sent-step-length l i h = ap length (sent-step l i h) ∙ length-append (sent_byte (get_or l i 0)) (sent (drop (i + 1) l))

pub run_step : (r : Reading) (i : ℕ) (s : List ℕ) → i < length s → run r i (drop i s) ≡ run (step r i (get_or s i 0)) (i + 1) (drop (i + 1) s)
unfolding run
run_step r i s h = rw (add-one, drop-cons s i 0)

-- the stores that put a frame: FF, the body from 1 on, its check byte, FF FF
module _ (o body out₁ out₂ : List ℕ) (at end : ℕ)
    (e₁ : out₁ ≡ sets (set o 0 0xFF) 1 (sent body)) (p₁ : at ≡ 1 + length (sent body))
    (e₂ : out₂ ≡ sets out₁ at (sent_byte (check body))) (p₂ : end ≡ at + length (sent_byte (check body))) where
  pub stores : set (set out₂ end 0xFF) (end + 1) 0xFF ≡ sets o 0 (frame body)
  stores =
      ap (λ (n : ℕ). set (set out₂ end 0xFF) n 0xFF) (add-one end)
      ∙ ap₂ (λ (z : List ℕ) (n : ℕ). sets z n (0xFF ∷ 0xFF ∷ [])) e₂ p₂
      ∙ sym (sets-append out₁ at (sent_byte (check body)) (0xFF ∷ 0xFF ∷ []))
      ∙ ap₂ (λ (z : List ℕ) (n : ℕ). sets z n (sent_byte (check body) ++ 0xFF ∷ 0xFF ∷ [])) e₁ p₁
      ∙ sym (sets-append (set o 0 0xFF) 1 (sent body) (sent_byte (check body) ++ 0xFF ∷ 0xFF ∷ []))
      ∙ ap (λ (l : List ℕ). sets o 0 l) (sym (frame-parts body))

  pub stores-length : length out₂ ≡ length o
  stores-length = ap length e₂ ∙ length-sets out₁ at (sent_byte (check body)) ∙ ap length e₁ ∙ length-sets (set o 0 0xFF) 1 (sent body) ∙ length-set o 0 0xFF

-- a byte other than FF leaves a search a search
pub seek-step : (i : ℕ) (s : List ℕ) → i < length s → (get_or s i 0 ≡ 0xFF → ⊥) → run seek (i + 1) (drop (i + 1) s) ≡ run seek i (drop i s)
unfolding step
seek-step i s h e = sym (run_step seek i s h ∙ ap (λ (r : Reading). run r (i + 1) (drop (i + 1) s)) (pick-f _ _ _ (ne_eqb (get_or s i 0) 0xFF e)))

-- a byte other than FF makes a body that has room one longer
pub body-step : (p : ℕ) (l : List ℕ) (i : ℕ) (s : List ℕ) → i < length s → (get_or s i 0 ≡ 0xFF → ⊥) → length l < 255
    → run (body p (l ++ get_or s i 0 ∷ [])) (i + 1) (drop (i + 1) s) ≡ run (body p l) i (drop i s)
unfolding step grown
body-step p l i s h e room =
    sym
    (run_step (body p l) i s h
    ∙ ap (λ (r : Reading). run r (i + 1) (drop (i + 1) s)) (pick-f _ _ _ (ne_eqb (get_or s i 0) 0xFF e) ∙ pick-t _ _ _ (lt-ltb (length l) 255 room)))

-- ---- bytes before the first FF

first-or-all : (n m : ℕ) (t : Bool) → ltb n m ≡ t → n ≤ m → unwrap_or (cond t (Some n) None) m ≡ n
first-or-all n m true e h = refl
first-or-all n m false e h = let k : m ≤ n = ltb-false n m e in omega arith

pub before-plain : (s : List ℕ) → Plain s (before_mark s)
before-plain s =
    let n = position_or_len (λ b. b == 0xFF) s in
    let h : n ≤ length s = prefix_len-le-length _ s in
    let e : before_mark s ≡ n = first-or-all n (length s) _ refl h in
    record {
      inside = rw e h;
      none = λ j k. eqb-false _ _ (fails_before_first (λ b. b == 0xFF) s j 0 (rw e at k));
    }

-- a part's first bytes are the whole's
pub part-plain : (s : List ℕ) (m k : ℕ) → Plain (take m s) k → Plain s k
part-plain s m k p =
    let l : length (take m s) ≡ min m (length s) = length-take m s in
    let h : k ≤ m = omega (arith, p.inside) in
    record {
      inside = omega (arith, p.inside);
      none = λ j u. rw (get_or-take m s j 0 (omega arith)) at (p.none j u);
    }

pub rest-plain : (s : List ℕ) (i k : ℕ) → Plain (take (length s - i) (drop i s)) k → i ≤ length s → (i + k ≤ length s) × ((j : ℕ) → j < k → get_or s (i + j) 0 ≡ 0xFF → ⊥)
rest-plain s i k p h =
    let w = part-plain (drop i s) (length s - i) k p in
    let l : length (drop i s) ≡ length s - i = length-drop i s in
    (omega (arith, w.inside), λ j u. rw (get_or-drop i s j 0) at (w.none j u))

-- bytes other than FF leave a search a search
pub seek-run : (s : List ℕ) (i k : ℕ) → i + k ≤ length s → ((j : ℕ) → j < k → get_or s (i + j) 0 ≡ 0xFF → ⊥) → run seek (i + k) (drop (i + k) s) ≡ run seek i (drop i s)
seek-run s i zero h p = rw add-zero
seek-run s i (suc k) h p =
    let e : i + suc k ≡ i + k + 1 = omega arith in
    rw e (seek-step (i + k) s (omega arith) (p k (omega arith)) ∙ seek-run s i k (omega arith) (λ j u. p j (omega arith)))

-- and make a body that has room longer
pub body-run : (p : ℕ) (l s : List ℕ) (i k : ℕ) → i + k ≤ length s → length l + k ≤ 255 → ((j : ℕ) → j < k → get_or s (i + j) 0 ≡ 0xFF → ⊥)
    → run (body p (l ++ take k (drop i s))) (i + k) (drop (i + k) s) ≡ run (body p l) i (drop i s)
body-run p l s i zero h room f = rw (append-nil, add-zero)
body-run p l s i (suc k) h room f =
    let e : i + suc k ≡ i + k + 1 = omega arith in
    let m = l ++ take k (drop i s) in
    let size : length (take k (drop i s)) ≡ k = length-take-le k (drop i s) (simp length-drop (omega arith)) in
    let long : length m < 255 = simp length-append (omega arith) in
    let one : take (suc k) (drop i s) ≡ take k (drop i s) ++ get_or s (i + k) 0 ∷ [] = take-suc (drop i s) k 0 (simp length-drop (omega arith)) ∙ rw get_or-drop in
    let grown : l ++ take (suc k) (drop i s) ≡ m ++ get_or s (i + k) 0 ∷ [] = ap (λ (x : List ℕ). l ++ x) one ∙ sym (append_assoc l (take k (drop i s)) (get_or s (i + k) 0 ∷ [])) in
    rw (e, grown) (body-step p m (i + k) s (omega arith) (f k (omega arith)) long ∙ body-run p l s i k (omega arith) (omega arith) (λ j u. f j (omega arith)))

-- a search goes on at the first FF
pub skips : (s : List ℕ) (i k : ℕ) → i ≤ length s → Plain (take (length s - i) (drop i s)) k → Skips s i (i + k)
skips s i k h p =
    let w = rest-plain s i k p h in
    record { on = omega arith; inside = w.0; same = seek-run s i k w.0 w.1 }

-- what is put behind a body of n bytes makes it longer
pub takes : (s buf room : List ℕ) (i n k : ℕ) → i ≤ length s → n ≤ 255 → length buf ≡ 255 → Copies (take (length s - i) (drop i s)) (take (length buf - n) (drop n buf)) room k
    → Takes s i n buf (put_mid n (length buf - n) buf room) k
takes s buf room i n k h small full c =
    let w = rest-plain s i k c.plain h in
    let rest = take k (take (length s - i) (drop i s)) in
    let free = take (length buf - n) (drop n buf) in
    let front : length (take n buf) ≡ n = length-take-le n buf (omega arith) in
    let size : length free ≡ 255 - n = length-take-le (length buf - n) (drop n buf) (simp length-drop (omega arith)) ∙ omega arith in
    let l : length rest ≡ k = length-take-le k _ c.plain.inside in
    let all : take (length s - i) (drop i s) ≡ drop i s = take_all (length s - i) (drop i s) (simp length-drop (omega arith)) in
    let d = drop k free in
    let post = drop (length buf - n) (drop n buf) in
    let new : put_mid n (length buf - n) buf room ≡ (take n buf ++ rest) ++ (d ++ post) = rw c.left (simp append_assoc) in
    let taken : take (n + k) (put_mid n (length buf - n) buf room) ≡ take n buf ++ rest = rw new (take_at (take n buf ++ rest) (d ++ post) (n + k) (simp length-append (omega arith))) in
    record {
      inside = w.0;
      fits = omega (arith, c.room);
      full = rw new (simp (length-append, length-drop) (omega (arith, c.room)));
      same = λ p. rw (taken, all) (body-run p (take n buf) s i k w.0 (omega (arith, c.room)) w.1);
    }
