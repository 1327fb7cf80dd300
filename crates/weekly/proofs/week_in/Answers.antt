use Rattle.weekly.proofs.Made.{late-week, made-week}
use Rattle.weekly.proofs.week_in.Goals as goal

pub returns-then-first-gt-LATEST : goal.returns-then-first-gt-LATEST
returns-then-first-gt-LATEST c = late-week _ _ c.if-first-gt-LATEST.true

pub returns : goal.returns
returns c = made-week _ _ _ c.if-first-gt-LATEST.false c.week_at.ensures
