-- The P cases of the boundary table hold. Assumes nothing.
use Rattle.std.specs.Prelude.{ℕ, ◌<◌, get_or}
use Rattle.laws.specs.Tests.{each_at}
use Rattle.boundary.specs.Table.{total_after, cases, Holds, passes, passes-holds, all_pass}

-- the P cases hold, each of them
pub boundary : (k : ℕ) → k < 13 → Holds (get_or cases k (total_after 0 0 0))
unfolding cases
boundary k h = passes-holds (get_or cases k (total_after 0 0 0)) (each_at passes cases (total_after 0 0 0) all_pass k h)
