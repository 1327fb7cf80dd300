-- What a function that puts bytes into a buffer leaves and answers. Assumes nothing.
use Rattle.std.specs.Prelude.{◌≡◌, List, ℕ, ◌+◌, length}
use Rattle.std.proofs.lemmas.List.Edits.{sets}

-- bytes are put from a place on; next is the place after them
pub record PutsBytes (bytes old new : List ℕ) (at next : ℕ) : Type 0 where
  pub after : next ≡ at + length bytes
  pub left : new ≡ sets old at bytes
