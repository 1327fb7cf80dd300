-- What a tick and a request read off the samples (document 01, "One tick", steps 3 to 5 and 8; "On the line"). Assumes nothing.
use Rattle.std.specs.Prelude.{Bool, true, false, ◌&&◌, ◌||◌, List, [], ◌∷◌, ℕ, ◌+◌, ◌*◌, leb, ltb, ℤ, pos, negsuc, nat_abs, ◌-ℤ◌, take, Option, Some, None}
use Rattle.std.specs.Bool.{xor}
use Rattle.std.specs.Int.Signed.{lt_z, le_z}
use Rattle.laws.specs.Pick.{pick}
use Rattle.paper.specs.Answer.{Answer, done, refused}
use Rattle.paper.specs.Numbers.{R16}
use Rattle.settings.specs.declared.Settings.{Settings}
use Rattle.window.specs.Mean.{mean_of}
use Rattle.window.specs.Window.{places, samples_of, held_of}
use Rattle.window.specs.declared.Window.{Window}
use Rattle.field.specs.Field.{writable}
use Rattle.field.specs.declared.Weight.{Weight}
use Rattle.dosing.specs.Rules.{units}
use Rattle.dosing.specs.declared.Units.{Units}
use Rattle.dosing.specs.declared.Gates.{Gates}
use Rattle.dosing.specs.declared.Seen.{Seen}

-- ---- a tick

-- Sample outside -900,000..900,000
unfoldable pub outside : ℤ → Bool
outside x = lt_z x (negsuc 899999) || lt_z (pos 900000) x

-- the window that samples which are lent stand for, so many of them held
abbrev pub as_window : List ℤ → ℕ → Window
as_window samples held = record { samples = take places samples; held = held }

-- F by a filter: the mean of the last n samples (of those held, if fewer)
unfoldable pub filtered : Window → ℕ → ℤ
filtered window n = mean_of (take n (samples_of window))

-- the same of samples that are lent
unfoldable pub filtered_lent : List ℤ → ℕ → ℕ → ℤ
filtered_lent samples held n = mean_of (take n (held_of samples held))

-- n is p7 if output 1 was open before the tick, else p8
unfoldable pub filter_of : Settings → Gates → ℕ
filter_of set g = pick g.one set.p7 set.p8

-- two whole numbers are the same
unfoldable pub equal_z : ℤ → ℤ → Bool
equal_z a b = le_z a b && le_z b a

-- no sample is held
unfoldable pub none : List ℤ → Bool
none [] = true
none (x ∷ xs) = false

-- S grows by 1 (cap 4,032) if F equals the previous tick's F, else becomes 0; on the first tick after the filter is emptied it is 0
unfoldable pub calm_by_mean : Bool → ℤ → ℤ → ℕ → ℕ
calm_by_mean first f previous s = pick first 0 (pick (equal_z f previous) (pick (ltb s 4032) (s + 1) 4032) 0)

-- Stable means S >= 64*p9
unfoldable pub stable_of : Settings → ℕ → Bool
stable_of set s = leb (64 * set.p9) s

-- an output 1 to 3 changed
unfoldable pub changed : Gates → Gates → Bool
changed a b = xor a.one b.one || xor a.two b.two || xor a.three b.three

-- If an output 1 to 3 changed, S becomes 0
unfoldable pub calm_by_gates : Gates → Gates → ℕ → ℕ
calm_by_gates old new s = pick (changed old new) 0 s

-- w > C+9
unfoldable pub over_capacity : Settings → ℤ → Bool
over_capacity set w = lt_z (pos (set.capacity + 9)) w

-- a whole number of at most six digits
unfoldable pub six_digits : ℤ → Option ℤ
six_digits w = pick (leb (nat_abs w) 999999) (Some w) None

-- w = F-Z; beyond six digits, where no sound controller comes, 0
unfoldable pub net_of : ℤ → ℤ → ℤ
net_of f z = pick (leb (nat_abs (f -ℤ z)) 999999) (f -ℤ z) (pos 0)

-- what the phase rule sees of a tick
unfoldable pub seen_by : Settings → Units → Units → ℕ → Bool → Seen
seen_by set f z s start = record { f = f; z = z; w = units (net_of f.v z.v); start = start; stable = stable_of set s }

-- ---- a request

unfoldable pub weight_from : Bool → Settings → ℕ → ℤ → Weight
-- While no sample is held weight and both flags are 0
weight_from true set s w = record { value = pos 0; stable = false; over = false; point = set.point }
-- stable by S as the last tick left it; over if the weight of this reply is over C+9
weight_from false set s w = record { value = w; stable = stable_of set s; over = over_capacity set w; point = set.point }

-- weight and CON, filtered by n over the same samples, minus Z
unfoldable pub weight_by : Settings → Window → Units → ℕ → ℕ → Weight
weight_by set window z s n = weight_from (none (samples_of window)) set s (filtered window n -ℤ z.v)

-- R16: to be written with a weight beyond six digits or a point above 7
unfoldable pub showable : Weight → Answer Weight
showable v = pick (writable v) (done v) (refused R16 [])
