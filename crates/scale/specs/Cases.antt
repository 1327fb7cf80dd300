-- The filter, S, stable, over capacity and weights on numbers. Assumes nothing.
use Rattle.std.specs.Prelude.{◌≡◌, refl, true, false, [], ◌∷◌, ◌++◌, ℕ, pos, negsuc, length, replicate}
use Rattle.std.proofs.Math.Bool.{xor}
use Rattle.laws.specs.Pick.{pick}
use Rattle.paper.specs.Answer.{done, refused}
use Rattle.paper.specs.Numbers.{R16}
use Rattle.settings.specs.declared.Settings.{Settings}
use Rattle.settings.specs.Cases.{set_of}
use Rattle.window.specs.declared.Window.{Window}
use Rattle.window.specs.Mean.{mean_of, averaged_of, left_of, without, alike, largest, smallest, greater, lesser, plain_of, round_away, half_up, sum_of}
use Rattle.window.specs.Window.{samples_of}
use Rattle.field.specs.Field.{weight, writable}
use Rattle.dosing.specs.Rules.{units, gates, shut}
use Rattle.scale.specs.Scale.{outside, as_window, filtered, filter_of, equal_z, none, calm_by_mean, stable_of, changed, calm_by_gates, over_capacity, net_of, seen_by, weight_from, weight_by, showable}

-- C 10,000, p7 4, p8 8, and a settle time p9 and a decimal point
abbrev set : ℕ → ℕ → Settings
set p9 point = set_of (0 ∷ 10000 ∷ 0 ∷ 0 ∷ 0 ∷ 0 ∷ 4 ∷ 8 ∷ p9 ∷ 0 ∷ 0 ∷ 0 ∷ 0 ∷ 0 ∷ 0 ∷ 0 ∷ point ∷ [])

-- twelve samples: four of 100 after eight of 0
abbrev twelve : Window
twelve = record { samples = replicate 4 (pos 100) ++ replicate 124 (pos 0); held = 12 }

abbrev empty : Window
empty = record { samples = replicate 128 (pos 5); held = 0 }

-- a wild sample of 800 after seven of 0
abbrev wild : Window
wild = record { samples = pos 800 ∷ replicate 127 (pos 0); held = 8 }

-- -900,000 and 900,000 are samples, one beyond is not
pub limits :
    (outside (pos 900000) ≡ false) × (outside (pos 900001) ≡ true) × (outside (negsuc 899999) ≡ false) × (outside (negsuc 900000) ≡ true)
unfolding outside
limits = (refl, refl, refl, refl)

-- samples that are lent: none of no places, so many as are held, and 128 at most
pub lends :
    (none (samples_of (as_window [] 5)) ≡ true)
    × (none (samples_of (as_window (pos 5 ∷ []) 0)) ≡ true)
    × (none (samples_of (as_window (pos 5 ∷ []) 1)) ≡ false)
    × (length (samples_of (as_window (replicate 130 (pos 5)) 130)) ≡ 128)
unfolding none samples_of
lends = (refl, refl, refl, refl)

-- p7 while output 1 is open, else p8; the mean of so many, or of those held, one 100 and one 0 left out
pub filters :
    (filter_of (set 1 0) (gates true false false) ≡ 4)
    × (filter_of (set 1 0) (gates false true true) ≡ 8)
    × (filtered twelve 4 ≡ pos 100)
    × (filtered twelve 8 ≡ pos 50)
    × (filtered twelve 128 ≡ pos 30)
    × (filtered empty 4 ≡ pos 0)
unfolding filter_of filtered samples_of mean_of averaged_of left_of without alike largest smallest greater lesser plain_of round_away half_up sum_of set_of pick
filters = (refl, refl, refl, refl, refl, refl)

-- S: 0 on the first tick, one more on the same F up to 4,032, 0 on another F and where output 1, 2 or 3 moves
pub calm-runs :
    (calm_by_mean true (pos 0) (pos 0) 7 ≡ 0)
    × (calm_by_mean false (negsuc 4) (negsuc 4) 7 ≡ 8)
    × (calm_by_mean false (pos 5) (negsuc 4) 7 ≡ 0)
    × (calm_by_mean false (negsuc 4) (pos 5) 7 ≡ 0)
    × (calm_by_mean false (pos 5) (pos 5) 4031 ≡ 4032)
    × (calm_by_mean false (pos 5) (pos 5) 4032 ≡ 4032)
    × (calm_by_gates shut shut 7 ≡ 7)
    × (calm_by_gates shut (gates true false false) 7 ≡ 0)
    × (calm_by_gates (gates false true false) shut 7 ≡ 0)
    × (calm_by_gates (gates true false true) (gates true false false) 7 ≡ 0)
unfolding calm_by_mean equal_z calm_by_gates changed xor pick
calm-runs = (refl, refl, refl, refl, refl, refl, refl, refl, refl, refl)

-- stable means S >= 64*p9; w = C+9 is no alarm, C+10 is
pub flags :
    (stable_of (set 1 0) 63 ≡ false)
    × (stable_of (set 1 0) 64 ≡ true)
    × (stable_of (set 63 0) 4031 ≡ false)
    × (stable_of (set 63 0) 4032 ≡ true)
    × (over_capacity (set 1 0) (pos 10009) ≡ false)
    × (over_capacity (set 1 0) (pos 10010) ≡ true)
    × (over_capacity (set 1 0) (negsuc 10010) ≡ false)
unfolding stable_of over_capacity set_of
flags = (refl, refl, refl, refl, refl, refl, refl)

-- with no sample held weight and flags are 0 and the point is sent; stable by S; over by the weight of this reply; below 0; a wild sample moves neither C3's nor C2's
pub weights :
    (weight_by (set 1 2) empty (units (pos 5)) 64 8 ≡ weight (pos 0) false false 2)
    × (weight_by (set 1 2) twelve (units (pos 0)) 63 8 ≡ weight (pos 50) false false 2)
    × (weight_by (set 1 0) twelve (units (pos 101)) 64 4 ≡ weight (negsuc 0) true false 0)
    × (weight_by (set 1 0) twelve (units (negsuc 9909)) 0 4 ≡ weight (pos 10010) false true 0)
    × (weight_by (set 1 0) twelve (units (negsuc 9909)) 0 8 ≡ weight (pos 9960) false false 0)
    × (weight_by (set 1 0) wild (units (pos 0)) 0 8 ≡ weight (pos 0) false false 0)
    × (weight_by (set 1 0) wild (units (pos 0)) 0 4 ≡ weight (pos 0) false false 0)
unfolding weight_by weight_from none filtered samples_of mean_of averaged_of left_of without alike largest smallest greater lesser plain_of round_away half_up sum_of stable_of over_capacity set_of pick
weights = (refl, refl, refl, refl, refl, refl, refl)

-- a weight of six digits and a point of at most 7 can be shown
pub shows :
    (showable (weight (pos 999999) true true 7) ≡ done (weight (pos 999999) true true 7))
    × (showable (weight (negsuc 999998) true true 7) ≡ done (weight (negsuc 999998) true true 7))
    × (showable (weight (pos 1000000) true true 7) ≡ refused R16 [])
    × (showable (weight (negsuc 999999) true true 7) ≡ refused R16 [])
    × (showable (weight (pos 0) true true 8) ≡ refused R16 [])
unfolding showable writable pick
shows = (refl, refl, refl, refl, refl)

-- w = F-Z, stable by S; beyond six digits w is 0
pub seen :
    (seen_by (set 1 0) (units (pos 30)) (units (negsuc 4)) 64 true ≡ record { f = units (pos 30); z = units (negsuc 4); w = units (pos 35); start = true; stable = true })
    × (seen_by (set 1 0) (units (pos 30)) (units (pos 40)) 63 false ≡ record { f = units (pos 30); z = units (pos 40); w = units (negsuc 9); start = false; stable = false })
    × (net_of (pos 999999) (pos 0) ≡ pos 999999)
    × (net_of (pos 999999) (negsuc 0) ≡ pos 0)
unfolding seen_by net_of stable_of set_of pick
seen = (refl, refl, refl, refl)
