-- What changing a field of a sound controller keeps. Assumes nothing.
use Rattle.std.specs.Prelude.{◌≡◌, Bool, false, ℕ, ◌≤◌, nat_abs, ◌-ℤ◌, length, Some}
use borrow.Author.Rules.{rules}
use Rattle.window.specs.declared.Window.{Window}
use Rattle.window.specs.Window.{samples_of}
use Rattle.window.specs.Range.{Within}
use Rattle.dosing.specs.Gates.{gates_of, belongs, Kept}
use Rattle.dosing.specs.declared.Units.{Units}
use Rattle.dosing.specs.declared.Phase.TheVariants.{Ready}
use Rattle.channels.specs.declared.Runs.{Runs}
use Rattle.counters.specs.declared.Counters.{Counters}
use Rattle.counters.specs.Laws.{Storable}
use Rattle.scale.specs.Laws.{within-at}
use Rattle.controller.specs.State.{with_window, with_z, with_f, with_s, with_runs, with_inputs, with_counters, with_unstarted}
use Rattle.controller.specs.Tick.{faulted}
use Rattle.controller.specs.Sound.{Sound, Watched, Named, Waited}
use Rattle.controller.specs.declared.Controller.{Controller}
use Rattle.controller.specs.declared.Fault.{Fault}

module _ (c : Controller) (s : Sound c) where
  pub inputs-sound : (x : ℕ) → x ≤ 15 → Sound (with_inputs x c)
  inputs-sound x h = search rules

  pub calm-sound : (n : ℕ) → n ≤ 4032 → Sound (with_s n c)
  calm-sound n h = search rules

  pub runs-sound : (r : Runs) → Watched c.condition r → Sound (with_runs r c)
  runs-sound r h = search rules

  pub zero-sound : (z : Units) → nat_abs z.v ≤ 24998 → Kept z.v c.phase → Waited c.unstarted c.condition c.phase c.set (c.f.v -ℤ z.v) → Sound (with_z z c)
  zero-sound z h k w = search rules

  pub counters-sound : (n : Counters) → Storable n → Sound (with_counters n c)
  counters-sound n h = search rules

  pub unstarted-sound : (b : Bool) → Waited b c.condition c.phase c.set (c.f.v -ℤ c.z.v) → Sound (with_unstarted b c)
  unstarted-sound b h = search rules

  -- the filter with F
  pub filter-sound : (w : Window) (f : Units) → length w.samples ≡ 128 → w.held ≤ 128 → Within 900000 (samples_of w) → nat_abs f.v ≤ 900000 → c.unstarted ≡ false → Sound (with_f f (with_window w c))
  filter-sound w f a b e g u =
      let all = within-at 900000 (samples_of w) e in
      let new : Waited c.unstarted c.condition c.phase c.set (f.v -ℤ c.z.v) = rw u tt in
      search rules

  -- a fault with runs of at most 64
  pub faulted-sound : (why : Fault) (r : Runs) → Watched (Some why) r → Named (Some why) → c.unstarted ≡ false → Sound (faulted why (with_runs r c)).next
  unfolding faulted gates_of belongs
  faulted-sound why r h n u =
      let ended : Waited c.unstarted (Some why) Ready c.set (c.f.v -ℤ c.z.v) = rw u tt in
      search rules
