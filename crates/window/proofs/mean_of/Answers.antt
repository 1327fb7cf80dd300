-- The samples to average are the first `count` of those lent.
use mathlib.Core.Path.{◌≡◌, sym, ap, ◌∙◌}
use Prim.Native.Nat.{ℕ, min}
use borrow.Author.Rules.{rules}
use lib.ListN.{length, take}
use mir.Syntax.{w32}
use mir.Val.{SFits}
use mir.Facts.{to_z-of_z}
use Rattle.window.specs.Mean.{mean_of}
use Rattle.window.specs.Window.{places, held_of}
use Rattle.window.specs.MeanLaws.{mean-none}
use Rattle.window.proofs.Sum.{lent}
use Rattle.window.proofs.mean_of.Goals as goal
use Rattle.window.proofs.mean_of.Goals.{After-min-count}

first : (c : After-min-count) → let a = c.args in take a.n (held_of a.samples.now a.held) ≡ take c.min-count.result a.samples.now
first c =
    let a = c.args in
    let e : c.min-count.result ≡ min (min (min a.n a.held) (length a.samples.now)) places = c.min-count.ensures ∙ rw (c.min-2.ensures, c.min.ensures) in
    lent a.samples.now a.held a.n ∙ ap (λ (i : ℕ). take i a.samples.now) (sym e)

pub returns-then-count-eq0 : goal.returns-then-count-eq0
returns-then-count-eq0 c =
    let d = (goal.at.returns-then-count-eq0 c).After-min-count in
    sym (ap mean_of (first d ∙ ap (λ (i : ℕ). take i d.args.samples.now) c.if-count-eq0.true) ∙ mean-none)

pub returns : goal.returns
returns c =
    let fits : SFits w32 c.mean.result = search rules in
    to_z-of_z fits ∙ c.mean.ensures ∙ ap mean_of (sym (first (goal.at.returns c).After-min-count))
