-- Settings and resets on numbers. Assumes nothing.
use Rattle.std.specs.Prelude.{◌≡◌, refl, true, List, [], ◌∷◌, map, ℕ, pos, replicate}
use Rattle.paper.specs.Answer.{done, refused}
use Rattle.paper.specs.Numbers.{R2, R3}
use Rattle.settings.specs.declared.Settings.{Settings}
use Rattle.settings.specs.Cases.{set_of}
use Rattle.dosing.specs.Rules.{units}
use Rattle.controller.specs.State.{restarted, fresh_of, with_z, with_alarm, with_link, with_inputs}
use Rattle.controller.specs.Cases.{ticked, rules}
use Rattle.setup.specs.Setup.{taken, settings_answer, after, settings_of, reset_answer, reset_of, link_of}
use Rattle.controller.specs.declared.Controller.{Controller}

-- to unfold this is to unfold every rule of these calls, and of a tick
unfoldable pub orders : Unit {0}
unfolding rules settings_of settings_answer after taken reset_of reset_answer link_of
orders = tt

-- an algorithm with its M and levels: C 1,000, D 500, Pc 100, Pf 20, p7 4, p8 8, p9 1
abbrev set : ℕ → ℕ → ℕ → Settings
set algorithm m level = set_of (algorithm ∷ 1000 ∷ 500 ∷ 100 ∷ 20 ∷ m ∷ 4 ∷ 8 ∷ 1 ∷ 0 ∷ 0 ∷ level ∷ level ∷ level ∷ 1 ∷ 0 ∷ 0 ∷ [])

abbrev box : ℕ → ℕ → ℕ → Controller
box algorithm m level = restarted (set algorithm m level) 0 0

-- a fault, AL0's Fill and hold, AL2's Load and Calm
abbrev busy : List Controller
busy =
    ticked fresh_of ((pos 900001, 0) ∷ [])
    ∷ ticked fresh_of ((pos 0, 8) ∷ [])
    ∷ ticked fresh_of ((pos 100, 8) ∷ [])
    ∷ ticked (box 2 800 1) ((pos 0, 0) ∷ [])
    ∷ ticked (box 2 800 1) ((pos 0, 0) ∷ (pos 1600, 0) ∷ [])
    ∷ []

-- they are not Ready, and R3 stands before R2
pub not-ready :
    (map (λ c. (settings_of c (set_of [])).answer) busy ≡ replicate 5 (refused R3 []))
    × (map (λ c. (reset_of c).answer) busy ≡ replicate 5 (refused R3 []))
    × ((settings_of fresh_of (set_of (4 ∷ []))).answer ≡ refused R2 (1 ∷ []))
    × ((reset_of fresh_of).answer ≡ done tt)
unfolding orders
not-ready = (refl, refl, refl, refl)

-- a set is taken as at a restart, but for counters, link start, inputs and output 4, which are kept: from a box with Z, S, runs and samples
pub set-taken :
    settings_of (with_z (units (pos 5)) (with_alarm true (link_of (ticked (restarted (set 1 50 0) 7 9) (replicate 3 (pos 60, 5))) true))) (set 2 800 1)
    ≡ record { next = with_link true (with_alarm true (with_inputs 5 (restarted (set 2 800 1) 7 9))); answer = done tt }
unfolding orders
set-taken = refl
