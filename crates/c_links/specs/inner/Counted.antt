-- The table of edges of assignments to pointers, by the counts of a program's variables.
use Rattle.std.specs.Prelude.{ℕ, List}
use Rattle.c_types.specs.declared.program.PtrRhs.{PtrRhs}
use Rattle.c_links.specs.declared.counts.Counts.{Counts}
use Rattle.c_cfg.specs.declared.link.Link.{Link}
use Rattle.c_cfg.specs.Links.{var_row, path_row}

module _ (n : Counts) where
  abbrev pub var_links : ℕ → PtrRhs → List Link
  var_links x from = var_row n.ptrs n.datums x from

  abbrev pub field_links : ℕ → ℕ → List ℕ → PtrRhs → List Link
  field_links x f fs from = path_row n.ptrs n.datums x f fs from
