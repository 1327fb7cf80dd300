-- There are eleven registers, and what a master reads in a pair is the number that stands there. Assumes nothing.
use Rattle.std.specs.Prelude.{◌≡◌, List, ℕ, ◌+◌, ◌*◌, length, get_or}
use Rattle.std.proofs.Math.Path.{refl}
use Rattle.std.proofs.Math.Nat.{div-add-mod'}
use Rattle.single.specs.declared.Words.{Words}
use Rattle.registers.specs.Registers.{table_of}
use Rattle.registers.specs.declared.Values.{Values}

-- a number of two registers, high word first
unfoldable pub pair_at : List ℕ → ℕ → ℕ
pair_at table i = get_or table i 0 * 65536 + get_or table (i + 1) 0

-- the words of two registers
unfoldable pub words_at : List ℕ → ℕ → Words
words_at table i = record { high = get_or table i 0; low = get_or table (i + 1) 0 }

module _ (v : Values) where
  pub table-length : length (table_of v) ≡ 11
  unfolding table_of
  table-length = refl

  pub c3-back : words_at (table_of v) 0 ≡ v.c3
  unfolding table_of words_at
  c3-back = refl

  pub c2-back : words_at (table_of v) 2 ≡ v.c2
  unfolding table_of words_at
  c2-back = refl

  pub count-back : pair_at (table_of v) 6 ≡ v.count
  unfolding table_of pair_at
  count-back = div-add-mod' v.count 65536

  pub total-back : pair_at (table_of v) 8 ≡ v.total
  unfolding table_of pair_at
  total-back = div-add-mod' v.total 65536
