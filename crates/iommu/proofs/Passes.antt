-- The records in use of a table, as the list of its mappings.
use Prim.Native.Nat.{ℕ, ◌≤◌}
use mathlib.Core.Path.{◌≡◌}
use mathlib.Core.Bool.{Bool}
use mathlib.Core.List.{List, ◌++◌}
use lib.Dec.{leb}
use lib.ListN.{length, drop}
use lib.Seq.{length-take-le}
use borrow.Author.Tests.{le-leb}
use Rattle.answer.specs.Tests.{◌and◌}
use Rattle.answer.proofs.Tests.{and_made, and_second}
use Rattle.iommu.specs.declared.Mapping.{Mapping}
use Rattle.iommu.specs.Table.{Table, capacity, sound_table, in_use, holding}

pub in_use-length : (t : Table) → t.count ≤ length t.entries → length (in_use t) ≡ t.count
unfolding in_use
in_use-length t fits = length-take-le t.count t.entries fits

-- where they fit those lent, they decide
pub sound_lent : (size : ℕ) (t : Table) {r : Bool} → length t.entries ≤ capacity → t.count ≤ length t.entries → r ≡ sound_table size (in_use t)
    → r ≡ (leb (length t.entries) capacity and leb t.count (length t.entries) and sound_table size (in_use t))
sound_lent size t few fits e = and_second (and_made _ _ (le-leb _ _ few) (le-leb _ _ fits)) e

-- the records by their list of mappings, and what was held behind them
pub holding_made : (ms records entries : List Mapping) (count : ℕ) → length ms ≡ count → entries ≡ ms ++ drop count records → entries ≡ holding ms records
unfolding holding
holding_made ms records entries count n is = rw (n, is)
