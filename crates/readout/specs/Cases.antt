-- C0's test, replies and registers on numbers. Assumes nothing.
use Rattle.std.specs.Prelude.{◌≡◌, refl, true, false, [], ◌∷◌, ◌++◌, ℕ, pos, replicate}
use Rattle.std.specs.Float.Ieee.{of_int, to_bits}
use Rattle.laws.specs.Pick.{pick}
use Rattle.settings.specs.declared.Settings.{Settings}
use Rattle.settings.specs.Cases.{set_of}
use Rattle.window.specs.declared.Window.{Window}
use Rattle.window.specs.Mean.{mean_of, averaged_of, left_of, without, alike, largest, smallest, greater, lesser, plain_of, round_away, half_up, sum_of}
use Rattle.window.specs.Window.{samples_of}
use Rattle.field.specs.Field.{writable, field_of, bcd_of, con_of, bit_of, negative}
use Rattle.dosing.specs.Rules.{units, gates, shut, near_zero}
use Rattle.channels.specs.Channels.{worth, outputs_of}
use Rattle.counters.specs.Counters.{counters}
use Rattle.scale.specs.Scale.{filtered, none, stable_of, over_capacity, weight_from, weight_by}
use Rattle.single.specs.Single.{single_of, bits_of, words_of, registers_of}
use Rattle.asking.specs.declared.Reply.TheVariants as R
use Rattle.readout.specs.Readout.{zeroable, may_zero, zero_to, weight_in, reply_for, words_from, words_in, values_for}

-- an algorithm: C 10,000, D 100, M 100, p7 4, p8 8, p9 1, two places
abbrev set : ℕ → Settings
set algorithm = set_of (algorithm ∷ 10000 ∷ 100 ∷ 0 ∷ 0 ∷ 100 ∷ 4 ∷ 8 ∷ 1 ∷ 0 ∷ 0 ∷ 0 ∷ 0 ∷ 0 ∷ 1 ∷ 0 ∷ 2 ∷ [])

-- twelve samples: four of 100 after eight of 0
abbrev twelve : Window
twelve = record { samples = replicate 4 (pos 100) ++ replicate 124 (pos 0); held = 12 }

abbrev held : ℕ → Window
held n = record { samples = replicate 128 (pos n); held = 3 }

-- to unfold this is to unfold F
unfoldable mean : Unit {0}
unfolding filtered none samples_of mean_of averaged_of left_of without alike largest smallest greater lesser plain_of round_away half_up sum_of set_of pick
mean = tt

-- C0 in AL0 and AL1 with -M < F < M by p8; not in AL2 or AL3, nor at M, nor with no sample; no other request asks it
pub zeroes :
    (may_zero 0xC0 (set 0) twelve ≡ true)
    × (may_zero 0xC0 (set 1) (held 99) ≡ true)
    × (may_zero 0xC0 (set 1) (held 100) ≡ false)
    × (may_zero 0xC0 (set 2) (held 0) ≡ false)
    × (may_zero 0xC0 (set 3) (held 0) ≡ false)
    × (may_zero 0xC0 (set 0) (record { samples = replicate 128 (pos 0); held = 0 }) ≡ false)
    × (may_zero 0xC3 (set 2) (held 100) ≡ true)
unfolding may_zero zeroable near_zero mean
zeroes = (refl, refl, refl, refl, refl, refl, refl)

-- C0 makes Z the F by p8, and no other request moves it
pub zeroed :
    (zero_to 0xC0 (set 0) twelve (units (pos 7)) ≡ units (pos 50)) × (zero_to 0xC3 (set 0) twelve (units (pos 7)) ≡ units (pos 7))
unfolding zero_to mean
zeroed = (refl, refl)

-- 50 by p8 for C3 and 100 by p7 for C2, minus Z; inputs; outputs 1, 3 and 4 are 13; C0 nothing
pub replies :
    (reply_for 0xC3 (set 0) twelve (units (pos 0)) 64 5 shut false ≡ R.Weight (record { low = 0x50; middle = 0; high = 0; con = 0x12 }))
    × (reply_for 0xC2 (set 0) twelve (units (pos 1)) 63 5 shut false ≡ R.Weight (record { low = 0x99; middle = 0; high = 0; con = 0x02 }))
    × (reply_for 0xC4 (set 0) twelve (units (pos 0)) 64 5 shut false ≡ R.Byte 5)
    × (reply_for 0xC5 (set 0) twelve (units (pos 0)) 64 5 (gates true false true) true ≡ R.Byte 13)
    × (reply_for 0xC0 (set 0) twelve (units (pos 0)) 64 5 shut false ≡ R.Nothing)
unfolding reply_for weight_in weight_by weight_from stable_of over_capacity writable field_of bcd_of con_of bit_of negative outputs_of worth mean
replies = (refl, refl, refl, refl, refl)

-- the same two weights as an f32 each, high word first, the C3 weight before the C2 weight
pub values :
    values_for (set 0) twelve (units (pos 0)) 64 5 (gates true false true) true (counters 7 9) true
    ≡ record { c3 = record { high = 0x4248; low = 0 }; c2 = record { high = 0x42C8; low = 0 }; inputs = 5; outputs = 13; count = 7; total = 9; link = true }
unfolding values_for words_in words_from registers_of words_of bits_of single_of of_int to_bits weight_by weight_from stable_of over_capacity writable outputs_of worth mean
values = refl
