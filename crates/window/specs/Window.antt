-- The samples held (document 01, "One tick", step 4): at most 128, newest first. Assumes nothing.
use Rattle.std.specs.Prelude.{List, ◌∷◌, ℕ, ◌+◌, ltb, ℤ, pos, take, replicate}
use Rattle.laws.specs.Pick.{pick}
use Rattle.window.specs.declared.Window.{Window}

-- how many samples are held at most: as many as the longest filter takes the mean of, p8 at most 128
abbrev pub places : ℕ
places = 128

-- the samples held, newest first
unfoldable pub samples_of : Window → List ℤ
samples_of w = take w.held w.samples

-- the samples held of those that are lent, newest first: 128 at most
unfoldable pub held_of : List ℤ → ℕ → List ℤ
held_of s held = take held (take places s)

-- no sample is held
unfoldable pub empty_window : Window
empty_window = record { samples = replicate places (pos 0); held = 0 }

-- The sample is kept: it stands first, the others move one place on, and the last of 128 falls out
unfoldable pub push_of : Window → ℤ → Window
push_of w x = record { samples = take places (x ∷ w.samples); held = pick (ltb w.held places) (w.held + 1) places }
