-- A byte that enters the check is xored onto what a zero byte would leave, so a table over the states serves. Assumes nothing.
use Rattle.std.specs.Prelude.{◌≡◌, refl, Bool, true, false, ℕ, zero, suc, ◌+◌, ◌*◌, ◌/◌, ◌%◌, ◌^◌, ◌<◌, ◌≤◌, T, leb, eqb}
use Rattle.std.proofs.Common.{ap, ap₂, ◌∙◌, sym, mod-lt, mod-eq_of_lt, div-le_self, div-one, pow-suc, arith, eqb→eq, lit<, le-leb}
use Rattle.std.proofs.Math.Nat.{div-div-eq-div-mul, zero-div}
use Rattle.std.proofs.Math.Decide.{dec_le}
use Rattle.std.proofs.Math.Arith.{bin_ind}
use Rattle.std.specs.Int.Bits.{bit_xor, differ, xor_step, xor_zero_l, xor_zero_r}
use Rattle.std.proofs.lemmas.Nat.{xor_shr, xor_mod, xor_block, xor_comm}
use Rattle.std.proofs.lemmas.Bool.{lt-leb}
use Rattle.laws.specs.Tests.{below, below_at, both}
use Rattle.frame.specs.Check.{fell_out, enter_bit, enter_bits, enter}

-- the order in which three bits are xored does not matter: computed at the eight
order : ℕ → ℕ → ℕ → Bool
order x y z = eqb (differ (bit_xor x y) z) (differ x (bit_xor y z))

orders : ℕ → Bool
orders k = order (k / 4) (k / 2 % 2) (k % 2)

orders-all : T (below orders 8)
unfolding below both orders order
orders-all = tt

digit : (x y z : ℕ) → x < 2 → y < 2 → z < 2 → differ (bit_xor x y) z ≡ differ x (bit_xor y z)
unfolding orders order
digit x y z h k l =
    let n : ℕ = x * 4 + y * 2 + z in
    let ex : n / 4 ≡ x = omega arith in
    let ey : n / 2 % 2 ≡ y = omega arith in
    let ez : n % 2 ≡ z = omega arith in
    let t : T (order (n / 4) (n / 2 % 2) (n % 2)) = below_at orders 8 orders-all n (omega arith) in
    eqb→eq (differ (bit_xor x y) z) (differ x (bit_xor y z)) (rw (ex, ey, ez) at t)

pub xor_assoc : (a b c : ℕ) → bit_xor (bit_xor a b) c ≡ bit_xor a (bit_xor b c)
xor_assoc =
    bin_ind (λ (n : ℕ). (b c : ℕ) → bit_xor (bit_xor n b) c ≡ bit_xor n (bit_xor b c))
    (λ b c. ap (λ (x : ℕ). bit_xor x c) (xor_zero_l b) ∙ sym (xor_zero_l (bit_xor b c)))
    (λ n ih b c.
    xor_step (bit_xor n b) c
    ∙ ap₂ (λ (x y : ℕ). bit_xor x (c / 2) * 2 + differ y (c % 2)) (xor_shr n b 1) (xor_mod n b 1)
    ∙ ap₂ (λ (x y : ℕ). x * 2 + y) (ih (b / 2) (c / 2)) (digit (n % 2) (b % 2) (c % 2) (mod-lt n (lit< tt)) (mod-lt b (lit< tt)) (mod-lt c (lit< tt)))
    ∙ sym (ap₂ (λ (x y : ℕ). bit_xor (n / 2) x * 2 + differ (n % 2) y) (xor_shr b c 1) (xor_mod b c 1))
    ∙ sym (xor_step n (bit_xor b c)))

-- the last two of three change places
xor-swap : (a b c : ℕ) → bit_xor (bit_xor a b) c ≡ bit_xor (bit_xor a c) b
xor-swap a b c = xor_assoc a b c ∙ ap (λ (x : ℕ). bit_xor a x) (xor_comm b c) ∙ sym (xor_assoc a c b)

fell_out-xor : (t : Bool) (a b : ℕ) → fell_out t (bit_xor a b) ≡ bit_xor (fell_out t a) b
unfolding fell_out
fell_out-xor true a b = xor-swap a b 0x69
fell_out-xor false a b = refl

-- numbers that agree from bit 7 on
top : (u w : ℕ) → u / 128 ≡ w / 128 → leb 128 u ≡ leb 128 w
top u w e =
    elim (dec_le 128 u) [
      | yes h ↦ let k : 128 ≤ w = omega arith in le-leb 128 u h ∙ sym (le-leb 128 w k)
      | no h ↦ let k : w < 128 = omega arith in let l : u < 128 = omega arith in lt-leb 128 u l ∙ sym (lt-leb 128 w k)
    ]

-- one bit enters: what was xored on below the top is shifted, and takes the bit in
bit-xor : (u v b : ℕ) → v < 128 → b < 2 → enter_bit (bit_xor u v) b ≡ bit_xor (enter_bit u 0) (v * 2 + b)
unfolding enter_bit
bit-xor u v b hv hb =
    let high : bit_xor u v / 128 ≡ u / 128 =
    xor_shr u v 7 ∙ ap (λ (x : ℕ). bit_xor (u / 128) x) (omega arith) ∙ xor_zero_r (u / 128) in
    let low : (bit_xor u v * 2 + b) % 256 ≡ bit_xor ((u * 2 + 0) % 256) (v * 2 + b) =
    ap (λ (x : ℕ). (bit_xor u v * 2 + x) % 256) (sym (xor_zero_l b))
    ∙ ap (λ (x : ℕ). x % 256) (sym (xor_block 1 u v 0 b (lit< tt) hb))
    ∙ xor_mod (u * 2 + 0) (v * 2 + b) 8
    ∙ ap (λ (x : ℕ). bit_xor ((u * 2 + 0) % 256) x) (mod-eq_of_lt (omega arith)) in
    ap₂ fell_out (top (bit_xor u v) u high) low ∙ fell_out-xor (leb 128 u) ((u * 2 + 0) % 256) (v * 2 + b)

bits-xor : (k u x : ℕ) → x < 256 → enter_bits k (bit_xor u (x / 2 ^ k)) x ≡ bit_xor (enter_bits k u 0) x
unfolding enter_bits
bits-xor zero u x h = ap (bit_xor u) (div-one x)
bits-xor (suc k) u x h =
    let v : ℕ = x / 2 ^ k in
    let half : x / 2 ^ suc k ≡ v / 2 = ap (λ (m : ℕ). x / m) (pow-suc 2 k) ∙ sym (div-div-eq-div-mul x (2 ^ k) 2) in
    let small : v ≤ x = div-le_self x (2 ^ k) in
    let no-bit : 0 / 2 ^ k % 2 ≡ 0 = ap (λ (m : ℕ). m % 2) (zero-div (2 ^ k)) in
    ap (λ (m : ℕ). enter_bits k (enter_bit (bit_xor u m) (v % 2)) x) half
    ∙ ap (λ (m : ℕ). enter_bits k m x) (bit-xor u (v / 2) (v % 2) (omega arith) (omega arith))
    ∙ ap (λ (m : ℕ). enter_bits k (bit_xor (enter_bit u 0) m) x) (omega arith)
    ∙ bits-xor k (enter_bit u 0) x h
    ∙ ap (λ (m : ℕ). bit_xor (enter_bits k (enter_bit u m) 0) x) (sym no-bit)

-- a byte that enters is xored onto what a zero byte leaves
pub enter-xor : (s x : ℕ) → x < 256 → enter s x ≡ bit_xor (enter s 0) x
unfolding enter
enter-xor s x h =
    let none : 0 ≡ x / 256 = omega arith in
    ap (λ (m : ℕ). enter_bits 8 m x) (sym (xor_zero_r s) ∙ ap (bit_xor s) none) ∙ bits-xor 8 s x h
