-- Restart (document 01, "Settings and their ranges"). Assumes nothing.
use Rattle.std.specs.Prelude.{Bool, ◌||◌, [], ℕ, ltb}
use Rattle.laws.specs.Pick.{pick}
use Rattle.paper.specs.Answer.{Answer, done, refused, fault, on_done}
use Rattle.paper.specs.Numbers.{R15}
use Rattle.settings.specs.declared.Settings.{Settings}
use Rattle.settings.specs.Table.{first_bad}
use Rattle.controller.specs.State.{restarted}
use Rattle.controller.specs.declared.Controller.{Controller}

-- R15: stored count above 999,999 or total above 999,999,999
unfoldable pub stored_bad : ℕ → ℕ → Bool
stored_bad count total = ltb 999999 count || ltb 999999999 total

-- A restart takes a set (R2) and then the stored count and total (R15)
unfoldable pub restart_of : Settings → ℕ → ℕ → Answer Controller
restart_of set count total =
    on_done (first_bad set) (λ good. pick (stored_bad count total) (refused R15 []) (done (restarted set count total)))

-- what stands in the place of a controller where a restart is refused: one of a set that is not good
unfoldable pub no_set : Settings
no_set =
    record {
      algorithm = 0;
      capacity = 0;
      dose = 0;
      pc = 0;
      pf = 0;
      level = 0;
      p7 = 0;
      p8 = 0;
      p9 = 0;
      p11 = 0;
      o = 0;
      in1 = 0;
      in2 = 0;
      in3 = 0;
      address = 0;
      serial = 0;
      point = 0;
      product = 0;
    }

unfoldable pub no_controller : Controller
no_controller = restarted no_set 0 0

unfoldable pub controller_in : Answer Controller → Controller
controller_in (done c) = c
controller_in (refused n vs) = no_controller
controller_in (fault n vs) = no_controller

-- a refused restart makes no controller: the old one stays in use
unfoldable pub restarted_from : Controller → Answer Controller → Controller
restarted_from c (done c') = c'
restarted_from c (refused n vs) = c
restarted_from c (fault n vs) = c
