-- What one read makes of a buffer. Assumes nothing.
use Rattle.std.specs.Prelude.{◌≡◌, Result, Ok, Err, Bool, true, false, List, [], ◌∷◌, ◌++◌, ℕ, ◌+◌, ◌≤◌, ltb, length, take, if◌then◌else◌}
use Rattle.std.proofs.Common.{sym, ◌∙◌, refl, arith}
use borrow.Author.Tests.{ltb-false}
use Rattle.lines.specs.Intake.{pending}
use Rattle.lines.specs.declared.Intake.{Intake}

-- the first bytes stay, and so many more lie in the buffer
pub record Keeps (held : ℕ) (old new : List ℕ) (n : ℕ) : Type 0 where
  pub first : take held new ≡ take held old
  pub within : held + n ≤ length new

-- what was pending stands first of what is pending now, at the buffer's start, and behind it what the read brought; Ok where something came, Err where nothing did
pub record Refills (i : Intake) (old new : List ℕ) (r : Result Intake Intake) : Type 0 where
  pub got : List ℕ
  pub held : Intake
  pub at : held.at ≡ 0
  pub brought : pending held new ≡ pending i old ++ got
  pub more : r ≡ (if ltb 0 (length got) then Ok held else Err held)
  pub long : held.long ≡ i.long
  pub within : held.have ≤ length new

-- what is answered is what is pending, where nothing came too
pub held-is : {i j : Intake} {old new : List ℕ} {r : Result Intake Intake} (f : Refills i old new r) → r ≡ Ok j → f.held ≡ j
held-is {j = j} f e = go (ltb 0 (length f.got)) (sym f.more ∙ e)
  where
    go : (b : Bool) → (if b then Ok f.held else Err f.held) ≡ Ok j → f.held ≡ j
    go true h = cc
    go false h = cc

pub left-is : {i j : Intake} {old new : List ℕ} {r : Result Intake Intake} (f : Refills i old new r) → r ≡ Err j → f.held ≡ j
left-is {j = j} f e = go (ltb 0 (length f.got)) (sym f.more ∙ e)
  where
    go : (b : Bool) → (if b then Ok f.held else Err f.held) ≡ Err j → f.held ≡ j
    go true h = cc
    go false h = cc

pub none-came : {i j : Intake} {old new : List ℕ} {r : Result Intake Intake} (f : Refills i old new r) → r ≡ Err j → f.got ≡ []
none-came {j = j} f e = go f.got (ltb 0 (length f.got)) refl (sym f.more ∙ e)
  where
    go : (l : List ℕ) (b : Bool) → ltb 0 (length l) ≡ b → (if b then Ok f.held else Err f.held) ≡ Err j → l ≡ []
    go [] b t h = refl
    go (x ∷ xs) true t h = cc
    go (x ∷ xs) false t h = absurd (omega (arith, ltb-false 0 (length (x ∷ xs)) t))
