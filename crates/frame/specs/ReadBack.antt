-- The reader's direction of the round trip: a body that the reader hands over can be framed without its check byte, and its frame is read as the same body. Assumes nothing.
use Rattle.std.specs.Prelude.{◌≡◌, true, get_or}
use Rattle.std.proofs.Math.Path.{ap}
use Rattle.std.proofs.Common.{◌∙◌, sym, arith, drop_of_length-le, drop-cons}
use mathlib.Core.List.{List, [], ◌∷◌, ◌++◌}
use Prim.Native.Nat.{ℕ, suc, ◌-◌, ◌≤◌}
use Rattle.std.proofs.Math.ListN.{length, take, take-append-drop, get_or-append}
use Rattle.std.proofs.Math.Seq.{length-take-le}
use borrow.Author.Tests.{ltb-false}
use Rattle.laws.specs.Pick.{pick, pick_all, pick-map}
use Rattle.paper.specs.Answer.{done}
use Rattle.frame.specs.Check.{check}
use Rattle.frame.specs.CheckLaws.{check-only}
use Rattle.frame.specs.Frame.{frame, extended, fewest, framable}
use Rattle.frame.specs.FrameLaws.{is-framable}
use Rattle.frame.specs.Read.{Finished, too_short, read_of}
use Rattle.frame.specs.ReadLaws.{Bytes, Whole, done-whole, done-bytes}
use Rattle.frame.specs.RoundTrip.{round-trip-first}

-- a body less its check byte
unfoldable pub unchecked : List ℕ → List ℕ
unchecked l = take (length l - 1) l

-- less its check byte the body can be framed, and that frame, whatever bytes follow, is read as the same body
pub record ReadBack (l : List ℕ) : Type 0 where
  pub checked : unchecked l ++ check (unchecked l) ∷ [] ≡ l
  pub can : framable (unchecked l) ≡ true
  pub again : (after : List ℕ) → read_of (frame (unchecked l) ++ after) ≡ done (record { place = length (frame (unchecked l)) - 1; bytes = l })

module _ (l : List ℕ) (bytes : Bytes l) (w : Whole l) where
  three : 3 ≤ length l
  unfolding too_short
  three =
      let least : 3 ≤ pick (extended l) 6 3 = pick_all (λ (n : ℕ). 3 ≤ n) (extended l) (omega arith) (omega arith) in
      omega (arith, ltb-false (length l) (pick (extended l) 6 3) w.long)

  abbrev last : ℕ
  last = get_or l (length l - 1) 0

  parts : unchecked l ++ last ∷ [] ≡ l
  unfolding unchecked
  parts =
      let n = length l - 1 in
      let whole : length l ≤ suc n = omega (arith, three) in
      ap (λ (r : List ℕ). take n l ++ r) (sym (drop-cons l n 0 (omega (arith, three)) ∙ ap (λ (r : List ℕ). last ∷ r) (drop_of_length-le l whole)))
      ∙ take-append-drop n l

  its-check : last ≡ check (unchecked l)
  unfolding Bytes
  its-check = check-only (unchecked l) last (bytes (length l - 1)) (ap check parts ∙ w.zero)

  with-check : unchecked l ++ check (unchecked l) ∷ [] ≡ l
  with-check = ap (λ (c : ℕ). unchecked l ++ c ∷ []) (sym its-check) ∙ parts

  size : length (unchecked l) ≡ length l - 1
  unfolding unchecked
  size = length-take-le (length l - 1) l (omega arith)

  first : get_or (unchecked l) 0 0 ≡ get_or l 0 0
  first = sym (get_or-append (unchecked l) (last ∷ []) 0 0 (omega (arith, size, three))) ∙ ap (λ (r : List ℕ). get_or r 0 0) parts

  enough : fewest (unchecked l) ≤ length (unchecked l)
  unfolding fewest extended too_short
  enough =
      rw first
      (omega (arith, size, three, pick-map suc (extended l) 5 2, ltb-false (length l) (pick (extended l) 6 3) w.long))

  can-be : framable (unchecked l) ≡ true
  can-be =
      is-framable (unchecked l) (record {
        not-FF = λ e. w.sized.not-FF (sym first ∙ e);
        not-FE = λ e. w.sized.not-FE (sym first ∙ e);
        enough = enough;
        most = omega (arith, size, w.sized.most);
      })

  back : ReadBack l
  back =
      record {
        checked = with-check;
        can = can-be;
        again = λ after. round-trip-first (unchecked l) after can-be ∙ ap (λ (b : List ℕ). done (record { place = length (frame (unchecked l)) - 1; bytes = b })) with-check;
      }

-- every body that reading bytes finishes without R6 is one
pub read_back : (s : List ℕ) (f : Finished) → Bytes s → read_of s ≡ done f → ReadBack f.bytes
read_back s f h e = back f.bytes (done-bytes s f h e) (done-whole s f e)
