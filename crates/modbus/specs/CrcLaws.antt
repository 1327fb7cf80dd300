-- A CRC is below 65,536; over a body with its CRC the CRC is 0, and over a body with any other two bytes it is not. Assumes nothing.
use Rattle.std.specs.Prelude.{◌≡◌, refl, Bool, true, false, List, [], ◌∷◌, ◌++◌, ℕ, zero, suc, ◌+◌, ◌*◌, ◌/◌, ◌%◌, ◌^◌, ◌<◌, T, ltb, eqb, length}
use Rattle.std.proofs.Common.{ap, ap₂, ◌∙◌, sym, pow-suc, mul-one, mul_assoc, arith, lit<, ltb→lt, length-append}
use Rattle.std.specs.Int.Bits.{bit_xor, xor_zero_l, xor_zero_r, xor_self, xor_add_and}
use Rattle.std.proofs.lemmas.Nat.{xor_lt, xor_shr, xor_mod, xor_block, and_le_l, and_le_r}
use Rattle.std.proofs.lemmas.Bool.{eqb-false}
use Rattle.laws.specs.Tests.{each, both_left, both_right}
use Rattle.modbus.specs.Crc.{fell_out, shift, shifts, enter, enter_all, crc, crc_bytes, sealed}

-- ---- it stays below 65,536

fell-lt : (t : Bool) (c : ℕ) → c < 2 ^ 16 → fell_out t c < 2 ^ 16
unfolding fell_out
fell-lt true c h = xor_lt 16 c 0xA001 h (lit< tt)
fell-lt false c h = h

shift-lt : (c : ℕ) → c < 2 ^ 16 → shift c < 2 ^ 16
unfolding shift
shift-lt c h = fell-lt (eqb (c % 2) 1) (c / 2) (omega arith)

shifts-lt : (k c : ℕ) → c < 2 ^ 16 → shifts k c < 2 ^ 16
unfolding shifts
shifts-lt zero c h = h
shifts-lt (suc k) c h = shifts-lt k (shift c) (shift-lt c h)

pub enter-lt : (c b : ℕ) → c < 2 ^ 16 → b < 256 → enter c b < 2 ^ 16
unfolding enter
enter-lt c b h k = shifts-lt 8 (bit_xor c b) (xor_lt 16 c b h (omega arith))

abbrev pub is_byte : ℕ → Bool
is_byte b = ltb b 256

-- each is a byte
abbrev pub Bytes : List ℕ → Type 0
Bytes bs = T (each is_byte bs)

pub enter_all-lt : (c : ℕ) (bs : List ℕ) → c < 2 ^ 16 → Bytes bs → enter_all c bs < 2 ^ 16
unfolding enter_all each
enter_all-lt c [] h ks = h
enter_all-lt c (b ∷ bs) h ks =
    enter_all-lt (enter c b) bs (enter-lt c b h (ltb→lt b 256 (both_left (is_byte b) (each is_byte bs) ks))) (both_right (is_byte b) (each is_byte bs) ks)

pub crc-lt : (bs : List ℕ) → Bytes bs → crc bs < 2 ^ 16
unfolding crc
crc-lt bs ks = enter_all-lt 0xFFFF bs (lit< tt) ks

pub enter_all-append : (c : ℕ) (xs ys : List ℕ) → enter_all c (xs ++ ys) ≡ enter_all (enter_all c xs) ys
unfolding enter_all
enter_all-append c [] ys = refl
enter_all-append c (x ∷ xs) ys = enter_all-append (enter c x) xs ys

pub sealed-length : (body : List ℕ) → length (sealed body) ≡ length body + 2
unfolding sealed crc_bytes
sealed-length body = length-append body (crc_bytes (crc body))

-- ---- what shifts do where no 1 falls out

shift-even : (n : ℕ) → shift (n * 2) ≡ n
unfolding shift fell_out
shift-even n =
    let e : n * 2 % 2 ≡ 0 = omega arith in
    let h : n * 2 / 2 ≡ n = omega arith in
    rw (e, h)

shifts-even : (k n : ℕ) → shifts k (n * 2 ^ k) ≡ n
unfolding shifts
shifts-even zero n = mul-one n
shifts-even (suc k) n =
    ap (λ (m : ℕ). shifts k (shift m)) (ap (λ (m : ℕ). n * m) (pow-suc 2 k) ∙ sym (mul_assoc n (2 ^ k) 2))
    ∙ ap (shifts k) (shift-even (n * 2 ^ k))
    ∙ shifts-even k n

-- a 1 that falls out sets the top bit
shift_small : (c : ℕ) → c < 2 ^ 16 → shift c < 2 ^ 15 → c ≡ shift c * 2
unfolding shift fell_out
shift_small c h = go (eqb (c % 2) 1) refl
  where
    go : (t : Bool) → eqb (c % 2) 1 ≡ t → fell_out t (c / 2) < 2 ^ 15 → c ≡ fell_out t (c / 2) * 2
    go true e l =
        let none : c / 2 / 2 ^ 15 ≡ 0 = omega arith in
        let top : bit_xor (c / 2) 0xA001 / 2 ^ 15 ≡ 1 = xor_shr (c / 2) 0xA001 15 ∙ ap (λ (x : ℕ). bit_xor x 1) none ∙ xor_zero_l 1 in
        absurd (omega arith)
    go false e l = let n : c % 2 ≡ 1 → ⊥ = eqb-false (c % 2) 1 e in
        let even : c % 2 ≡ 0 = omega arith in
        omega arith

-- so what comes out small had none that fell out
shifts-small : (k c m : ℕ) → c < 2 ^ 16 → m * 2 ^ k < 2 ^ 16 → shifts k c ≡ m → c ≡ m * 2 ^ k
unfolding shifts
shifts-small zero c m h l e = e ∙ sym (mul-one m)
shifts-small (suc k) c m h l e =
    let x : ℕ = m * 2 ^ k in
    let twice : m * 2 ^ suc k ≡ x * 2 = ap (λ (n : ℕ). m * n) (pow-suc 2 k) ∙ sym (mul_assoc m (2 ^ k) 2) in
    let before : shift c ≡ x = shifts-small k (shift c) m (shift-lt c h) (omega arith) e in
    let now : c ≡ shift c * 2 = shift_small c h (omega arith) in
    omega arith

-- ---- over a body with its CRC the CRC is 0

-- the low half is xored out
low-out : (s : ℕ) → bit_xor s (s % 256) ≡ s / 256 * 256
low-out s =
    let whole : s ≡ s / 256 * 256 + s % 256 = omega arith in
    let low : s % 256 ≡ 0 * 256 + s % 256 = omega arith in
    let lt : s % 256 < 2 ^ 8 = omega arith in
    ap₂ bit_xor whole low
    ∙ xor_block 8 (s / 256) 0 (s % 256) (s % 256) lt lt
    ∙ ap₂ (λ (x y : ℕ). x * 256 + y) (xor_zero_r (s / 256)) (xor_self (s % 256))
    ∙ omega arith

own : (s : ℕ) → enter (enter s (s % 256)) (s / 256) ≡ 0
unfolding enter
own s =
    ap (λ (x : ℕ). shifts 8 (bit_xor (shifts 8 x) (s / 256))) (low-out s)
    ∙ ap (λ (x : ℕ). shifts 8 (bit_xor x (s / 256))) (shifts-even 8 (s / 256))
    ∙ ap (shifts 8) (xor_self (s / 256))
    ∙ shifts-even 8 0

pub crc-zero : (body : List ℕ) → crc (sealed body) ≡ 0
unfolding crc sealed crc_bytes enter_all
crc-zero body = enter_all-append 0xFFFF body (crc_bytes (crc body)) ∙ own (crc body)

-- ---- and no other two bytes make it 0

xor-none : (a b : ℕ) → bit_xor a b ≡ 0 → a ≡ b
xor-none a b e = omega (arith, xor_add_and a b, and_le_l a b, and_le_r a b)

only : (s a b : ℕ) → s < 2 ^ 16 → a < 256 → b < 256 → enter (enter s a) b ≡ 0 → (a ≡ s % 256) × (b ≡ s / 256)
unfolding enter
only s a b hs ha hb e =
    let t : ℕ = enter s a in
    let ht : t < 2 ^ 16 = enter-lt s a hs ha in
    let same : t ≡ b = xor-none t b (shifts-small 8 (bit_xor t b) 0 (xor_lt 16 t b ht (omega arith)) (omega arith) e) in
    let x : bit_xor s a ≡ b * 256 = shifts-small 8 (bit_xor s a) b (xor_lt 16 s a hs (omega arith)) (omega arith) same in
    let low : bit_xor (s % 256) (a % 256) ≡ 0 = sym (xor_mod s a 8) ∙ omega arith in
    let high : bit_xor (s / 256) (a / 256) ≡ b = sym (xor_shr s a 8) ∙ omega arith in
    let alone : bit_xor (s / 256) (a / 256) ≡ s / 256 = ap (bit_xor (s / 256)) (omega arith) ∙ xor_zero_r (s / 256) in
    let l : s % 256 ≡ a % 256 = xor-none (s % 256) (a % 256) low in
    (omega arith, omega arith)

pub crc-only : (body : List ℕ) (a b : ℕ) → Bytes body → a < 256 → b < 256 → crc (body ++ a ∷ b ∷ []) ≡ 0 → body ++ a ∷ b ∷ [] ≡ sealed body
unfolding crc sealed crc_bytes enter_all
crc-only body a b ks ha hb e =
    let o = only (crc body) a b (crc-lt body ks) ha hb (sym (enter_all-append 0xFFFF body (a ∷ b ∷ [])) ∙ e) in
    ap₂ (λ (x y : ℕ). body ++ x ∷ y ∷ []) o.0 o.1
