-- Reading on, and what a finished body is: 1 to 255 bytes, the first neither FF nor FE, and where the answer is done, long enough and of check 0. Assumes nothing.
use Rattle.std.specs.Prelude.{◌≡◌, refl, Bool, true, false, not, ◌||◌, List, [], ◌∷◌, ◌++◌, ℕ, zero, suc, ◌+◌, ◌<◌, ◌≤◌, ltb, eqb, length, get_or}
use Rattle.std.proofs.Common.{◌∙◌, sym, ap, subst, add-zero, add-suc, suc-add, arith, lit<, length-append, lt-ltb, ltb-true, eqb-true}
use Rattle.std.proofs.Math.ListN.{get_or-append}
use Rattle.std.proofs.lemmas.Bool.{eqb-false}
use Rattle.laws.specs.Pick.{pick, pick_all, pick-if}
use Rattle.laws.specs.Whole.{false-true}
use Rattle.paper.specs.Answer.{done}
use Rattle.paper.specs.AnswerLaws.{refused-done, failed}
use Rattle.paper.specs.Numbers.{R6}
use Rattle.frame.specs.Check.{check}
use Rattle.frame.specs.Frame.{extended}
use Rattle.frame.specs.Read.{Reading, seek, lead, body, mark, ended, grown, step, run, read_all, too_short, bad_body, Finished, judged, answer_of, read_of}

pub run-append : (r : Reading) (i : ℕ) (xs ys : List ℕ) → run r i (xs ++ ys) ≡ run (run r i xs) (i + length xs) ys
unfolding run
run-append r i [] ys = rw add-zero
run-append r i (x ∷ xs) ys = run-append (step r i x) (suc i) xs ys ∙ rw (add-suc, suc-add)

-- a finished body stays
pub run-ended : (l : List ℕ) (k i : ℕ) (s : List ℕ) → run (ended l k) i s ≡ ended l k
unfolding run step
run-ended l k i [] = refl
run-ended l k i (b ∷ bs) = run-ended l k (suc i) bs

-- what a body is as far as it has come: 1 to 255 bytes, the first neither FF nor FE
pub record Sized (l : List ℕ) : Type 0 where
  pub least : 1 ≤ length l
  pub most : length l ≤ 255
  pub not-FF : get_or l 0 0 ≡ 0xFF → ⊥
  pub not-FE : get_or l 0 0 ≡ 0xFE → ⊥

unfoldable Within : Reading → Type 0
Within seek = Unit {0}
Within (lead p) = Unit {0}
Within (body p l) = Sized l
Within (mark p l q) = Sized l
Within (ended l k) = Sized l

first-sized : (b : ℕ) → eqb b 0xFF ≡ false → eqb b 0xFE ≡ false → Sized (b ∷ [])
first-sized b f g = record { least = omega arith; most = omega arith; not-FF = eqb-false b 0xFF f; not-FE = eqb-false b 0xFE g }

grown-sized : (l : List ℕ) (b : ℕ) → Sized l → length l < 255 → Sized (l ++ b ∷ [])
grown-sized l b w h =
    let first : get_or (l ++ b ∷ []) 0 0 ≡ get_or l 0 0 = get_or-append l (b ∷ []) 0 0 w.least in
    let n : length (l ++ b ∷ []) ≡ length l + 1 = length-append l (b ∷ []) in
    record {
      least = omega arith;
      most = omega arith;
      not-FF = λ e. w.not-FF (sym first ∙ e);
      not-FE = λ e. w.not-FE (sym first ∙ e);
    }

grown-within : (p : ℕ) (l : List ℕ) (b : ℕ) → Sized l → Within (grown p l b)
unfolding grown Within
grown-within p l b w = pick-if Within (ltb (length l) 255) (λ e. grown-sized l b w (ltb-true (length l) 255 e)) (λ e. tt)

step-within : (r : Reading) (i b : ℕ) → Within r → Within (step r i b)
unfolding step Within
step-within seek i b w = pick_all Within (eqb b 0xFF) tt tt
step-within (lead p) i b w = pick-if Within (eqb b 0xFF) (λ e. tt) (λ f. pick-if Within (eqb b 0xFE) (λ e. tt) (first-sized b f))
step-within (body p l) i b w = pick_all Within (eqb b 0xFF) w (grown-within p l b w)
step-within (mark p l q) i b w =
    pick-if Within (eqb b 0xFF) (λ e. w) (λ f. pick-if Within (eqb b 0xFE) (λ e. grown-within p l 0xFF w) (first-sized b f))
step-within (ended l k) i b w = w

run-within : (r : Reading) (i : ℕ) (s : List ℕ) → Within r → Within (run r i s)
unfolding run
run-within r i [] w = w
run-within r i (b ∷ bs) w = run-within (step r i b) (suc i) bs (step-within r i b w)

pub ended-sized : (s l : List ℕ) (k : ℕ) → read_all s ≡ ended l k → Sized l
unfolding read_all Within
ended-sized s l k e = subst Within e (run-within seek 0 s tt)

-- no body under 3 bytes is long enough
pub short-three : (l : List ℕ) → length l < 3 → too_short l ≡ true
unfolding too_short
short-three l h =
    let least : 3 ≤ pick (extended l) 6 3 = pick_all (λ (n : ℕ). 3 ≤ n) (extended l) (omega arith) (omega arith) in
    lt-ltb (length l) (pick (extended l) 6 3) (omega arith)

-- a body that the reader hands over
pub record Whole (l : List ℕ) : Type 0 where
  pub sized : Sized l
  pub long : too_short l ≡ false
  pub zero : check l ≡ 0

neither : (a b : Bool) → (a || not b) ≡ false → (a ≡ false) × (b ≡ true)
neither true b e = false-true (sym e)
neither false true e = (refl, refl)
neither false false e = false-true (sym e)

answered : (n : ℕ) (r : Reading) (f : Finished) → answer_of n r ≡ done f → (r ≡ ended f.bytes f.place) × (bad_body f.bytes ≡ false)
unfolding answer_of judged
answered n seek f e = refused-done e
answered n (lead p) f e = refused-done e
answered n (body p l) f e = refused-done e
answered n (mark p l q) f e = refused-done e
answered n (ended l k) f e =
    let h = failed (bad_body l) (record { place = k; bytes = l }) R6 (k ∷ []) f e in
    (ap (λ (x : Finished). ended x.bytes x.place) h.1, subst (λ (x : Finished). bad_body x.bytes ≡ false) h.1 h.0)

-- where the answer is done, reading has finished that body
pub done-ended : (s : List ℕ) (f : Finished) → read_of s ≡ done f → (read_all s ≡ ended f.bytes f.place) × (bad_body f.bytes ≡ false)
unfolding read_of
done-ended s f e = answered (length s) (read_all s) f e

pub done-whole : (s : List ℕ) (f : Finished) → read_of s ≡ done f → Whole f.bytes
unfolding bad_body
done-whole s f e =
    let h = done-ended s f e in
    let n = neither (too_short f.bytes) (eqb (check f.bytes) 0) h.1 in
    record { sized = ended-sized s f.bytes f.place h.0; long = n.0; zero = eqb-true (check f.bytes) 0 n.1 }

-- each is a byte
unfoldable pub Bytes : List ℕ → Type 0
Bytes l = (i : ℕ) → get_or l i 0 < 256

bytes-more : (l : List ℕ) (b : ℕ) → Bytes l → b < 256 → Bytes (l ++ b ∷ [])
unfolding Bytes
bytes-more [] b w h zero = h
bytes-more [] b w h (suc i) = lit< tt
bytes-more (x ∷ xs) b w h zero = w 0
bytes-more (x ∷ xs) b w h (suc i) = bytes-more xs b (λ j. w (suc j)) h i

unfoldable OfBytes : Reading → Type 0
OfBytes seek = Unit {0}
OfBytes (lead p) = Unit {0}
OfBytes (body p l) = Bytes l
OfBytes (mark p l q) = Bytes l
OfBytes (ended l k) = Bytes l

grown-bytes : (p : ℕ) (l : List ℕ) (b : ℕ) → Bytes l → b < 256 → OfBytes (grown p l b)
unfolding grown OfBytes
grown-bytes p l b w h = pick_all OfBytes (ltb (length l) 255) (bytes-more l b w h) tt

one_byte : (b : ℕ) → b < 256 → Bytes (b ∷ [])
unfolding Bytes
one_byte b h zero = h
one_byte b h (suc i) = lit< tt

step-bytes : (r : Reading) (i b : ℕ) → OfBytes r → b < 256 → OfBytes (step r i b)
unfolding step OfBytes
step-bytes seek i b w h = pick_all OfBytes (eqb b 0xFF) tt tt
step-bytes (lead p) i b w h = pick_all OfBytes (eqb b 0xFF) tt (pick_all OfBytes (eqb b 0xFE) tt (one_byte b h))
step-bytes (body p l) i b w h = pick_all OfBytes (eqb b 0xFF) w (grown-bytes p l b w h)
step-bytes (mark p l q) i b w h =
    pick_all OfBytes (eqb b 0xFF) w (pick_all OfBytes (eqb b 0xFE) (grown-bytes p l 0xFF w (lit< tt)) (one_byte b h))
step-bytes (ended l k) i b w h = w

run-bytes : (r : Reading) (i : ℕ) (s : List ℕ) → OfBytes r → Bytes s → OfBytes (run r i s)
unfolding run Bytes
run-bytes r i [] w h = w
run-bytes r i (b ∷ bs) w h = run-bytes (step r i b) (suc i) bs (step-bytes r i b w (h 0)) (λ j. h (suc j))

-- a body read from bytes is of bytes
pub done-bytes : (s : List ℕ) (f : Finished) → Bytes s → read_of s ≡ done f → Bytes f.bytes
unfolding read_all OfBytes
done-bytes s f h e = subst OfBytes (done-ended s f e).0 (run-bytes seek 0 s tt h)
