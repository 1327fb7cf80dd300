-- The check byte is a byte; over a body with its check byte the result is 0, and over a body with any other byte it is not. Assumes nothing.
use Rattle.std.specs.Prelude.{◌≡◌, refl, Bool, true, false, not, ◌||◌, List, [], ◌∷◌, ◌++◌, ℕ, zero, suc, ◌+◌, ◌*◌, ◌/◌, ◌%◌, ◌^◌, ◌<◌, T, leb, eqb}
use Rattle.std.proofs.Common.{ap, ◌∙◌, sym, mod-lt, eqb→eq, lit<, eq-eqb}
use Rattle.std.specs.Int.Bits.{bit_xor, xor_zero_l, xor_zero_r, xor_self}
use Rattle.std.proofs.lemmas.Nat.{xor_lt}
use Rattle.laws.specs.Tests.{below, below_at, both}
use Rattle.frame.specs.Check.{fell_out, enter_bit, enter_bits, enter, enter_all, check}
use Rattle.frame.specs.Linear.{xor_assoc, enter-xor}

fell_out-lt : (t : Bool) (s : ℕ) → s < 256 → fell_out t s < 256
unfolding fell_out
fell_out-lt true s h = xor_lt 8 s 0x69 h (lit< tt)
fell_out-lt false s h = h

enter_bit-lt : (s b : ℕ) → enter_bit s b < 256
unfolding enter_bit
enter_bit-lt s b = fell_out-lt (leb 128 s) ((s * 2 + b) % 256) (mod-lt (s * 2 + b) (lit< tt))

enter_bits-lt : (k s x : ℕ) → s < 256 → enter_bits k s x < 256
unfolding enter_bits
enter_bits-lt zero s x h = h
enter_bits-lt (suc k) s x h = enter_bits-lt k (enter_bit s (x / 2 ^ k % 2)) x (enter_bit-lt s (x / 2 ^ k % 2))

pub enter-lt : (s x : ℕ) → s < 256 → enter s x < 256
unfolding enter
enter-lt s x h = enter_bits-lt 8 s x h

pub enter_all-lt : (s : ℕ) (xs : List ℕ) → s < 256 → enter_all s xs < 256
unfolding enter_all
enter_all-lt s [] h = h
enter_all-lt s (x ∷ xs) h = enter_all-lt (enter s x) xs (enter-lt s x h)

pub enter_all-append : (s : ℕ) (xs ys : List ℕ) → enter_all s (xs ++ ys) ≡ enter_all (enter_all s xs) ys
unfolding enter_all
enter_all-append s [] ys = refl
enter_all-append s (x ∷ xs) ys = enter_all-append (enter s x) xs ys

-- what a zero byte leaves takes the state to 0, and a zero byte leaves it there: computed at each of the 256 states
own : ℕ → Bool
own s = eqb (enter (enter s (enter s 0)) 0) 0

own-all : T (below own 256)
unfolding below both own enter enter_bits enter_bit fell_out
own-all = tt

own-zero : (s : ℕ) → s < 256 → enter (enter s (enter s 0)) 0 ≡ 0
unfolding own
own-zero s h = eqb→eq (enter (enter s (enter s 0)) 0) 0 (below_at own 256 own-all s h)

pub check-zero : (body : List ℕ) → check (body ++ check body ∷ []) ≡ 0
unfolding check enter_all
check-zero body =
    ap (λ (s : ℕ). enter s 0) (enter_all-append 0 body (check body ∷ []))
    ∙ own-zero (enter_all 0 body) (enter_all-lt 0 body (lit< tt))

-- a zero byte takes no state but 0 to 0: computed at each state
only : ℕ → Bool
only s = not (eqb (enter s 0) 0) || eqb s 0

only-all : T (below only 256)
unfolding below both only enter enter_bits enter_bit fell_out
only-all = tt

only_zero : (s : ℕ) → s < 256 → enter s 0 ≡ 0 → s ≡ 0
unfolding only
only_zero s h e =
    let t : T (not (eqb (enter s 0) 0) || eqb s 0) = below_at only 256 only-all s h in
    eqb→eq s 0 (rw (eq-eqb (enter s 0) 0 e) at t)

xor-zero : (a b : ℕ) → bit_xor a b ≡ 0 → b ≡ a
xor-zero a b e =
    sym (xor_zero_l b) ∙ ap (λ (x : ℕ). bit_xor x b) (sym (xor_self a)) ∙ xor_assoc a a b ∙ ap (bit_xor a) e ∙ xor_zero_r a

-- the check is 0 over a body and one more byte only where that byte is the body's check byte
pub check-only : (body : List ℕ) (c : ℕ) → c < 256 → check (body ++ c ∷ []) ≡ 0 → c ≡ check body
unfolding check enter_all
check-only body c h e =
    let s = enter_all 0 body in
    let hs : s < 256 = enter_all-lt 0 body (lit< tt) in
    let z : enter (enter s c) 0 ≡ 0 = ap (λ (m : ℕ). enter m 0) (sym (enter_all-append 0 body (c ∷ []))) ∙ e in
    xor-zero (enter s 0) c (sym (enter-xor s c h) ∙ only_zero (enter s c) (enter-lt s c hs) z)
