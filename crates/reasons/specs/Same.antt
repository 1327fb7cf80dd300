-- A tick that no fault ends is its phase rule; and the same tick with start on, or with another S after step 5. Assumes nothing.
use Rattle.std.specs.Prelude.{◌≡◌, Bool, true, false, not, ℕ, ◌+◌, ◌≤◌, T, leb, ltb, ℤ, Option, Some, None}
use Rattle.std.proofs.Math.Path.{refl, sym, ap}
use Rattle.std.proofs.Common.{◌∙◌, arith}
use Rattle.std.proofs.Math.Bool.{xor, or-true}
use borrow.Author.Tests.{ltb-true, le-ltb, leb-true}
use Rattle.laws.specs.Pick.{pick, pick-f, pick-if}
use Rattle.laws.specs.Tests.{both, both_left, both_right, below, below_at}
use Rattle.paper.specs.Answer.{Answer, done}
use Rattle.settings.specs.declared.Settings.{Settings}
use Rattle.window.specs.Window.{samples_of, push_of}
use Rattle.dosing.specs.Rules.{units}
use Rattle.dosing.specs.declared.Units.{Units}
use Rattle.dosing.specs.declared.Gates.{Gates}
use Rattle.channels.specs.Channels.{input, start_of, runs_after, watch_of}
use Rattle.channels.specs.Laws.{watch-ways}
use Rattle.channels.specs.declared.Runs.{Runs}
use Rattle.scale.specs.Scale.{outside, filtered, filter_of, none, calm_by_mean}
use Rattle.controller.specs.State.{with_window, with_f, with_s, with_runs, with_inputs, with_unstarted}
use Rattle.controller.specs.Tick.{Result, Told, faulted, mismatched, step7, steps6to8, steps4and5, step3, step2, tick_of}
use Rattle.setup.specs.Setup.{link_of}
use Rattle.controller.specs.Bounds.{clear-faulted}
use Rattle.controller.specs.declared.Controller.{Controller}
use Rattle.controller.specs.declared.Fault.{Fault}

-- ---- a tick that no fault ends

-- F of a tick
unfoldable pub mean_at : Controller → ℤ → ℤ
mean_at c x = filtered (push_of c.window x) (filter_of c.set c.gates)

-- S after step 5
unfoldable pub calm_at : Controller → ℤ → ℕ
calm_at c x = calm_by_mean (none (samples_of c.window)) (mean_at c x) c.f.v c.s

-- what steps 7 and 8 find
unfoldable pub found : Controller → ℤ → ℕ → Controller
found c x i =
    with_runs (runs_after c.set c.gates i c.runs)
    (with_s (calm_at c x) (with_f (units (mean_at c x)) (with_window (push_of c.window x) (with_unstarted false (with_inputs i c)))))

-- none of the steps 1 to 6 ends the tick
pub record Goes (c : Controller) (x : ℤ) (i : ℕ) : Type 0 where
  pub below : ltb 15 i ≡ false
  pub clear : c.condition ≡ None
  pub inside : outside x ≡ false
  pub watched : watch_of (runs_after c.set c.gates i c.runs) ≡ done tt

module _ (c : Controller) (x : ℤ) (i : ℕ) where
  by_condition : (k : Option Fault) → k ≡ None → step2 k c x i ≡ step3 c x i
  unfolding step2
  by_condition None e = refl
  by_condition (Some why) e = clear-faulted (sym e)

  by-watch : (a : Answer (Unit {0})) → a ≡ done tt → (d : Controller) (next : Result Told) → mismatched a d next ≡ next
  unfolding mismatched
  by-watch a e d next = rw e

  -- such a tick is its phase rule and step 8
  pub goes_on : Goes c x i → tick_of c x i ≡ step7 (found c x i) (start_of c.set c.link i)
  unfolding tick_of step3 steps4and5 steps6to8 found mean_at calm_at
  goes_on g =
      pick-f _ _ _ g.below
      ∙ by_condition c.condition g.clear
      ∙ pick-f _ _ _ g.inside
      ∙ by-watch _ g.watched _ _

  abbrev Ends : Result Told → Type 0
  Ends r = r.next.condition ≡ None → Goes c x i

  watched-goes : ltb 15 i ≡ false → c.condition ≡ None → outside x ≡ false → (r : Runs) (d : Controller) (next : Result Told)
      → r ≡ runs_after c.set c.gates i c.runs → (mismatched (watch_of r) d next).next.condition ≡ None → Goes c x i
  unfolding mismatched faulted
  watched-goes b k o r d next e =
      watch-ways (λ (a : Answer (Unit {0})). a ≡ watch_of r → (mismatched a d next).next.condition ≡ None → Goes c x i) r
      (λ channel l m h t. clear-faulted (sym t))
      (λ h w t. record { below = b; clear = k; inside = o; watched = ap watch_of (sym e) ∙ sym w })
      refl

  step2-goes : ltb 15 i ≡ false → (k : Option Fault) → c.condition ≡ k → Ends (step2 k c x i)
  unfolding step2 step3 steps4and5 steps6to8 faulted
  step2-goes b None k =
      pick-if Ends (outside x) (λ o t. clear-faulted (sym t)) (λ o. watched-goes b k o _ _ _ refl)
  step2-goes b (Some why) k = λ t. clear-faulted (sym t ∙ k)

  -- a tick that is not refused and ends in no fault is such a one
  pub tick_goes : i ≤ 15 → (tick_of c x i).next.condition ≡ None → Goes c x i
  unfolding tick_of
  tick_goes h =
      pick-if Ends (ltb 15 i) (λ a t. absurd (omega (arith, ltb-true 15 i a))) (λ b. step2-goes b c.condition refl)

-- ---- the same tick with start on

-- by the link start
pub link-goes : (c : Controller) (x : ℤ) (i : ℕ) → Goes c x i → Goes (link_of c true) x i
unfolding link_of
link-goes c x i g = record { below = g.below; clear = g.clear; inside = g.inside; watched = g.watched }

-- by input 4: the inputs with it on
unfoldable pub with_input4 : ℕ → ℕ
with_input4 i = pick (input 4 i) i (i + 8)

same : Bool → Bool → Bool
same a b = not (xor a b)

same-is : (a b : Bool) → T (same a b) → a ≡ b
unfolding same xor
same-is true true t = refl
same-is true false t = absurd t
same-is false true t = absurd t
same-is false false t = refl

is_true : (b : Bool) → T b → b ≡ true
is_true true t = refl
is_true false t = absurd t

-- there are no inputs above 15, input 4 is on, and inputs 1 to 3 are as they were
abbrev fourth : ℕ → Bool
fourth i =
    both (leb (with_input4 i) 15)
    (both (input 4 (with_input4 i))
    (both (same (input 1 (with_input4 i)) (input 1 i))
    (both (same (input 2 (with_input4 i)) (input 2 i)) (same (input 3 (with_input4 i)) (input 3 i)))))

all-fourth : T (below fourth 16)
unfolding below both same xor with_input4 input pick
all-fourth = tt

record Fourth (i : ℕ) : Type 0 where
  below : ltb 15 (with_input4 i) ≡ false
  four : input 4 (with_input4 i) ≡ true
  one : input 1 (with_input4 i) ≡ input 1 i
  two : input 2 (with_input4 i) ≡ input 2 i
  three : input 3 (with_input4 i) ≡ input 3 i

fourth-is : (i : ℕ) → i ≤ 15 → Fourth i
fourth-is i h =
    let a = below_at fourth 16 all-fourth i (omega arith) in
    let b = both_right (leb (with_input4 i) 15) _ a in
    let c = both_right (input 4 (with_input4 i)) _ b in
    let d = both_right (same (input 1 (with_input4 i)) (input 1 i)) _ c in
    record {
      below = le-ltb 15 _ (leb-true (with_input4 i) 15 (is_true _ (both_left (leb (with_input4 i) 15) _ a)));
      four = is_true _ (both_left (input 4 (with_input4 i)) _ b);
      one = same-is _ _ (both_left (same (input 1 (with_input4 i)) (input 1 i)) _ c);
      two = same-is _ _ (both_left (same (input 2 (with_input4 i)) (input 2 i)) _ d);
      three = same-is _ _ (both_right (same (input 2 (with_input4 i)) (input 2 i)) _ d);
    }

-- the runs do not look at input 4
runs_same : (set : Settings) (g : Gates) (i : ℕ) (r : Runs) → Fourth i → runs_after set g (with_input4 i) r ≡ runs_after set g i r
unfolding runs_after
runs_same set g i r f = rw (f.one, f.two, f.three)

pub input-goes : (c : Controller) (x : ℤ) (i : ℕ) → i ≤ 15 → Goes c x i → Goes c x (with_input4 i)
input-goes c x i h g =
    let f = fourth-is i h in
    record { below = f.below; clear = g.clear; inside = g.inside; watched = ap watch_of (runs_same c.set c.gates i c.runs f) ∙ g.watched }

-- start is on then
pub link-starts : (set : Settings) (i : ℕ) → start_of set true i ≡ true
unfolding start_of
link-starts set i = refl

pub input-starts : (set : Settings) (link : Bool) (i : ℕ) → i ≤ 15 → leb 3 set.algorithm ≡ false → start_of set link (with_input4 i) ≡ true
unfolding start_of
input-starts set link i h al = rw (al, (fourth-is i h).four) (or-true link)

-- ---- the same tick with another S after step 5

-- S after step 5 comes of the previous tick's F and S, which enter the tick nowhere else
pub calm_goes : (c : Controller) (x : ℤ) (i : ℕ) (f : Units) (s : ℕ) → Goes c x i → Goes (with_s s (with_f f c)) x i
calm_goes c x i f s g = record { below = g.below; clear = g.clear; inside = g.inside; watched = g.watched }
