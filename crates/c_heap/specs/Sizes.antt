-- How a step bears on the number of cells.
use Rattle.std.specs.Prelude.{◌≡◌, ◌≤◌, ◌+◌, length}
use Rattle.fore_base.specs.declared.store.Store.{Store}

-- no cell was made
abbrev pub IsNoLarger : Store → Store → Type 0
IsNoLarger old new = (new.next ≡ old.next) × (length new.cells ≤ length old.cells)

-- one cell was made at most
abbrev pub IsLittleLarger : Store → Store → Type 0
IsLittleLarger old new = (new.next ≤ old.next + 1) × (length new.cells ≤ length old.cells + 1)
