-- How long a run gets, and the ways a watch can go. Assumes nothing.
use Rattle.std.specs.Prelude.{Bool, [], ◌∷◌, ℕ, ◌≤◌, leb, ltb, eqb}
use Rattle.std.proofs.Common.{arith, leb-false, ltb-true}
use Rattle.laws.specs.Pick.{pick_all, pick-if}
use Rattle.paper.specs.Answer.{Answer, done, fault}
use Rattle.paper.specs.Numbers.{F14}
use Rattle.settings.specs.declared.Settings.{Settings}
use Rattle.dosing.specs.declared.Gates.{Gates}
use Rattle.channels.specs.Channels.{run_after, runs_after, watch_of}
use Rattle.channels.specs.declared.Runs.{Runs}

-- no run is longer than n
abbrev pub NoLonger : ℕ → Runs → Type 0
NoLonger n r = (r.one ≤ n) × (r.two ≤ n) × (r.three ≤ n)

run-most : (level : ℕ) (output on : Bool) (run : ℕ) → run_after level output on run ≤ 64
unfolding run_after
run-most level output on run =
    pick_all (λ (n : ℕ). n ≤ 64) _
    (pick-if (λ (n : ℕ). n ≤ 64) (ltb run 64) (λ a. omega (arith, ltb-true run 64 a)) (λ a. omega arith))
    (omega arith)

-- the runs that a tick leaves are at most 64
pub runs-most : (set : Settings) (g : Gates) (inputs : ℕ) (runs : Runs) → NoLonger 64 runs → NoLonger 64 (runs_after set g inputs runs)
unfolding runs_after
runs-most set g inputs runs h =
    pick_all (NoLonger 64) (eqb set.algorithm 0) h (run-most _ _ _ _, run-most _ _ _ _, run-most _ _ _ _)

-- F14 naming one of the channels 1 to 3, or no run has reached 64
pub watch-ways : (Q : Answer (Unit {0}) → Type 0) (r : Runs) → ((channel : ℕ) → 1 ≤ channel → channel ≤ 3 → Q (fault F14 (channel ∷ []))) → (NoLonger 63 r → Q (done tt)) → Q (watch_of r)
unfolding watch_of
watch-ways Q r at go =
    pick-if Q (leb 64 r.one) (λ a. at 1 (omega arith) (omega arith))
    (λ one. pick-if Q (leb 64 r.two) (λ a. at 2 (omega arith) (omega arith))
    (λ two. pick-if Q (leb 64 r.three) (λ a. at 3 (omega arith) (omega arith))
    (λ three. go (omega (arith, leb-false 64 r.one one), omega (arith, leb-false 64 r.two two), omega (arith, leb-false 64 r.three three)))))
