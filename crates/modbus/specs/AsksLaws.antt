-- When a frame is silent, what is heard in one that is not, and that a master's request is heard as what it asks. Assumes nothing.
use Rattle.std.specs.Prelude.{◌≡◌, Bool, true, false, ◌&&◌, ◌||◌, List, [], ◌∷◌, ◌⊎◌, ℕ, ◌+◌, ◌-◌, ◌/◌, ◌%◌, ◌<◌, ◌≤◌, leb, eqb, length, get_or, take}
use Rattle.std.proofs.Math.Path.{refl, ap₂}
use Rattle.std.proofs.Common.{sym, ap, ◌∙◌, ⊎_elim, arith, div-add-mod', take_at, get_or-append-add, leb-true, le-leb, eqb-true, eq-eqb, ne_eqb}
use Rattle.std.proofs.lemmas.List.{get_or_at}
use Rattle.std.proofs.lemmas.Bool.{lt-leb}
use Rattle.laws.specs.Pick.{pick, pick-t, pick-f, pick-if}
use Rattle.laws.specs.Bools.{and_left}
use Rattle.paper.specs.Answer.{refused}
use Rattle.paper.specs.Numbers.{R17}
use Rattle.modbus.specs.Crc.{crc, crc_bytes, sealed}
use Rattle.modbus.specs.CrcLaws.{sealed-length}
use Rattle.modbus.specs.Asks.{registers, link, exception, word_at, function_of, length_good, crc_good, address_good, read_ask, write_ask, ask_by, heard_by, hear_of, asked}

-- ---- the two functions

pub few : (start quantity : ℕ) → quantity < 1 → read_ask start quantity ≡ exception 3 3
unfolding read_ask
few start quantity h = pick-f _ _ _ (ap (λ (t : Bool). t && leb quantity 125) (lt-leb 1 quantity h))

pub many : (start quantity : ℕ) → 1 ≤ quantity → 125 < quantity → read_ask start quantity ≡ exception 3 3
unfolding read_ask
many start quantity l h = pick-f _ _ _ (ap₂ ◌&&◌ (le-leb 1 quantity l) (lt-leb quantity 125 h))

pub beyond : (start quantity : ℕ) → 1 ≤ quantity → quantity ≤ 125 → 11 < start + quantity → read_ask start quantity ≡ exception 3 2
unfolding read_ask
beyond start quantity l h b =
    pick-t _ _ _ (ap₂ ◌&&◌ (le-leb 1 quantity l) (le-leb quantity 125 h)) ∙ pick-f _ _ _ (lt-leb (start + quantity) 11 b)

pub inside : (start quantity : ℕ) → 1 ≤ quantity → quantity ≤ 125 → start + quantity ≤ 11 → read_ask start quantity ≡ registers start quantity
unfolding read_ask
inside start quantity l h b =
    pick-t _ _ _ (ap₂ ◌&&◌ (le-leb 1 quantity l) (le-leb quantity 125 h)) ∙ pick-t _ _ _ (le-leb (start + quantity) 11 b)

pub unwritten : (register value : ℕ) → (register ≡ 10 → ⊥) → write_ask register value ≡ exception 6 2
unfolding write_ask
unwritten register value h = pick-f _ _ _ (ne_eqb register 10 h)

pub large : (register value : ℕ) → register ≡ 10 → 1 < value → write_ask register value ≡ exception 6 3
unfolding write_ask
large register value e h = pick-t _ _ _ (eq-eqb register 10 e) ∙ pick-f _ _ _ (lt-leb value 1 h)

pub written : (register value : ℕ) → register ≡ 10 → value ≤ 1 → write_ask register value ≡ link (eqb value 1)
unfolding write_ask
written register value e h = pick-t _ _ _ (eq-eqb register 10 e) ∙ pick-t _ _ _ (le-leb value 1 h)

-- ---- R17, before anything else

-- a frame of a good length has at least 4 bytes
pub good-four : (frame : List ℕ) → length_good frame ≡ true → 4 ≤ length frame
unfolding length_good
good-four frame =
    pick-if (λ (t : Bool). t ≡ true → 4 ≤ length frame) (eqb (function_of frame) 3 || eqb (function_of frame) 6)
    (λ _ e. let n : length frame ≡ 8 = eqb-true (length frame) 8 e in omega arith)
    (λ _ e. leb-true 4 (length frame) (and_left (leb 4 (length frame)) (leb (length frame) 256) e))

module _ (address : ℕ) (frame : List ℕ) where
  pub silent-length : length_good frame ≡ false → hear_of address frame ≡ refused R17 []
  unfolding hear_of
  silent-length l = pick-f _ _ _ (ap (λ (t : Bool). t && crc_good frame && address_good address frame) l)

  pub silent-crc : length_good frame ≡ true → crc_good frame ≡ false → hear_of address frame ≡ refused R17 []
  unfolding hear_of
  silent-crc l c = pick-f _ _ _ (ap₂ (λ (t u : Bool). t && u && address_good address frame) l c)

  pub silent-address : length_good frame ≡ true → crc_good frame ≡ true → address_good address frame ≡ false → hear_of address frame ≡ refused R17 []
  unfolding hear_of
  silent-address l c a = pick-f _ _ _ (ap₂ (λ (t u : Bool). t && u && address_good address frame) l c ∙ a)

  pub hears : length_good frame ≡ true → crc_good frame ≡ true → address_good address frame ≡ true
      → hear_of address frame ≡ heard_by (eqb (get_or frame 0 0) 0) (ask_by (function_of frame) frame)
  unfolding hear_of
  hears l c a = pick-t _ _ _ (ap₂ (λ (t u : Bool). t && u && address_good address frame) l c ∙ a)

-- ---- what a master sends

-- what is sealed has a good CRC
pub sealed-good : (body : List ℕ) → crc_good (sealed body) ≡ true
unfolding crc_good sealed crc_bytes
sealed-good body =
    go (length (sealed body) - 2) (length (sealed body) - 1) (omega (arith, sealed-length body)) (omega (arith, sealed-length body))
  where
    go : (i j : ℕ) → i ≡ length body → j ≡ length body + 1
        → (eqb (get_or (sealed body) i 0) (crc (take i (sealed body)) % 256) && eqb (get_or (sealed body) j 0) (crc (take i (sealed body)) / 256)) ≡ true
    go i j p q =
        let c : ℕ = crc body in
        let same : crc (take i (sealed body)) ≡ c = ap crc (take_at body (crc_bytes c) i (sym p)) in
        let low : get_or (sealed body) i 0 ≡ c % 256 = get_or_at body (c % 256) (c / 256 ∷ []) 0 i (sym p) in
        let high : get_or (sealed body) j 0 ≡ c / 256 = ap (λ (k : ℕ). get_or (sealed body) k 0) q ∙ get_or-append-add body (crc_bytes c) 1 0 in
        ap₂ ◌&&◌ (eq-eqb _ _ (low ∙ ap (λ (x : ℕ). x % 256) (sym same))) (eq-eqb _ _ (high ∙ ap (λ (x : ℕ). x / 256) (sym same)))

module _ (address to a b : ℕ) (here : (eqb to address || eqb to 0) ≡ true) where
  -- 03 asks for b registers from a on
  pub read-heard : hear_of address (asked to 3 a b) ≡ heard_by (eqb to 0) (read_ask a b)
  unfolding length_good address_good function_of ask_by word_at sealed crc_bytes pick
  read-heard =
      hears address (asked to 3 a b) refl (sealed-good (to ∷ 3 ∷ a / 256 ∷ a % 256 ∷ b / 256 ∷ b % 256 ∷ [])) here
      ∙ ap₂ (λ (x y : ℕ). heard_by (eqb to 0) (read_ask x y)) (div-add-mod' a 256) (div-add-mod' b 256)

  -- 06 asks that b is written to register a
  pub write-heard : hear_of address (asked to 6 a b) ≡ heard_by (eqb to 0) (write_ask a b)
  unfolding length_good address_good function_of ask_by word_at sealed crc_bytes pick
  write-heard =
      hears address (asked to 6 a b) refl (sealed-good (to ∷ 6 ∷ a / 256 ∷ a % 256 ∷ b / 256 ∷ b % 256 ∷ [])) here
      ∙ ap₂ (λ (x y : ℕ). heard_by (eqb to 0) (write_ask x y)) (div-add-mod' a 256) (div-add-mod' b 256)

-- a request to another address is silent, whatever it asks
pub elsewhere : (address to function a b : ℕ) → (to ≡ address → ⊥) → (to ≡ 0 → ⊥) → (function ≡ 3) ⊎ (function ≡ 6) → hear_of address (asked to function a b) ≡ refused R17 []
unfolding length_good address_good function_of sealed crc_bytes pick
elsewhere address to function a b n z f =
    let body = to ∷ function ∷ a / 256 ∷ a % 256 ∷ b / 256 ∷ b % 256 ∷ [] in
    silent-address address (asked to function a b) (⊎_elim (λ e. rw e) (λ e. rw e) f) (sealed-good body) (ap₂ ◌||◌ (ne_eqb to address n) (ne_eqb to 0 z))
