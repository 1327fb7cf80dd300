use borrow.Author.Tests.{le-leb, lt-leb}
use Rattle.laws.specs.Pick.{pick_true, pick-false}
use Rattle.channels.specs.Channels.{watch_of}
use Rattle.channels.proofs.reached.Goals as goal
use Rattle.channels.proofs.reached.Goals.{Else-runs-ge-MISMATCHES-2}

pub returns-then-runs-ge-MISMATCHES : goal.returns-then-runs-ge-MISMATCHES
unfolding watch_of
returns-then-runs-ge-MISMATCHES c = simp (le-leb _ _ c.if-runs-ge-MISMATCHES.true, pick_true)

pub returns-then-runs-ge-MISMATCHES-2 : goal.returns-then-runs-ge-MISMATCHES-2
unfolding watch_of
returns-then-runs-ge-MISMATCHES-2 c = simp (lt-leb _ _ c.if-runs-ge-MISMATCHES.false, le-leb _ _ c.if-runs-ge-MISMATCHES-2.true, pick_true, pick-false)

pub returns-then-runs-ge-MISMATCHES-3 : goal.returns-then-runs-ge-MISMATCHES-3
unfolding watch_of
returns-then-runs-ge-MISMATCHES-3 c =
    let b = (goal.at.returns-then-runs-ge-MISMATCHES-3 c).Else-runs-ge-MISMATCHES-2 in
    simp (lt-leb _ _ b.if-runs-ge-MISMATCHES.false, lt-leb _ _ b.if-runs-ge-MISMATCHES-2.false, le-leb _ _ c.if-runs-ge-MISMATCHES-3.true, pick_true, pick-false)

pub returns : goal.returns
unfolding watch_of
returns c =
    let b = (goal.at.returns c).Else-runs-ge-MISMATCHES-2 in
    simp (lt-leb _ _ b.if-runs-ge-MISMATCHES.false, lt-leb _ _ b.if-runs-ge-MISMATCHES-2.false, lt-leb _ _ c.if-runs-ge-MISMATCHES-3.false, pick-false)
