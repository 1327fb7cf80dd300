-- What a text put into a buffer leaves, by whether it has room. Assumes nothing.
use Rattle.std.specs.Prelude.{◌≡◌, refl, true, false, List, ◌++◌, ℕ, ◌+◌, ◌^◌, ◌≤◌, ◌<◌, length}
use Rattle.std.proofs.Common.{sym, ap, ◌∙◌, arith, length-append, le-leb}
use Rattle.std.proofs.lemmas.List.Edits.{sets}
use Rattle.std.proofs.Math.Seq.{length-sets}
use Rattle.std.proofs.lemmas.Bool.{lt-leb}
use Rattle.laws.specs.Pick.{pick-t, pick-f, pick_all}
use Rattle.laws.specs.Over.{sets-append}
use Rattle.laws.specs.Decimal.{decimal}
use Rattle.laws.specs.DecimalLaws.{decimal-length}
use Rattle.text.specs.Put.{has_room, Puts}

pub room-is : (old : List ℕ) (at : ℕ) (text : List ℕ) → at + length text ≤ length old → has_room old at text ≡ true
unfolding has_room
room-is old at text h = le-leb (at + length text) (length old) h

pub room-not : (old : List ℕ) (at : ℕ) (text : List ℕ) → length old < at + length text → has_room old at text ≡ false
unfolding has_room
room-not old at text h = lt-leb (at + length text) (length old) h

-- with room the text stands there, and the place after it is answered
pub puts-fit : {old text new : List ℕ} {at r : ℕ} → has_room old at text ≡ true → Puts old at text new r → (new ≡ sets old at text) × (r ≡ at + length text)
puts-fit {old} {text} {new} {at} {r} h p =
    (p.left ∙ pick-t (has_room old at text) (sets old at text) old h, p.next ∙ pick-t (has_room old at text) (at + length text) at h)

pub puts-length : {old text new : List ℕ} {at r : ℕ} → Puts old at text new r → length new ≡ length old
puts-length {old} {text} {new} {at} {r} p =
    ap length p.left ∙ pick_all (λ (l : List ℕ). length l ≡ length old) (has_room old at text) (length-sets old at text) refl

-- the other way: what stores with room and what leaves all as it was meet the contract
pub fit-puts : {old text new : List ℕ} {at r : ℕ} → has_room old at text ≡ true → new ≡ sets old at text → r ≡ at + length text → Puts old at text new r
fit-puts {old} {text} {new} {at} {r} h e f = record {
  left = e ∙ sym (pick-t (has_room old at text) (sets old at text) old h);
  next = f ∙ sym (pick-t (has_room old at text) (at + length text) at h);
}

pub none-puts : (old : List ℕ) (at : ℕ) (text : List ℕ) → has_room old at text ≡ false → Puts old at text old at
none-puts old at text h = record {
  left = sym (pick-f (has_room old at text) (sets old at text) old h);
  next = sym (pick-f (has_room old at text) (at + length text) at h);
}

-- the room that is left for the other
pub room-then : {old mid : List ℕ} {at p : ℕ} (x y : List ℕ) → at + length (x ++ y) ≤ length old → Puts old at x mid p → p + length y ≤ length mid
room-then {old} {mid} {at} {p} x y room first =
    let n : length (x ++ y) ≡ length x + length y = length-append x y in
    let place : p ≡ at + length x = (puts-fit (room-is old at x (omega arith)) first).1 in
    let size : length mid ≡ length old = puts-length first in
    omega arith

-- a text, and behind it another
pub put_then : {old mid new : List ℕ} {at p r : ℕ} (x y : List ℕ) → at + length (x ++ y) ≤ length old → Puts old at x mid p → (p + length y ≤ length mid → Puts mid p y new r) → Puts old at (x ++ y) new r
put_then {old} {mid} {new} {at} {p} {r} x y room first behind =
    let n : length (x ++ y) ≡ length x + length y = length-append x y in
    let a = puts-fit (room-is old at x (omega arith)) first in
    let place : p ≡ at + length x = a.1 in
    let left = room-then x y room first in
    let b = puts-fit (room-is mid p y left) (behind left) in
    fit-puts (room-is old at (x ++ y) room)
    (b.0 ∙ ap (λ (o : List ℕ). sets o p y) a.0 ∙ ap (λ (i : ℕ). sets (sets old at x) i y) place ∙ sym (sets-append old at x y))
    (b.1 ∙ omega arith)

-- a u64 has at most 20 digits
pub digits-most : (n : ℕ) → n < 2 ^ 64 → length (decimal n) ≤ 20
digits-most n h = decimal-length 20 n (omega arith) (omega arith)
