-- What covering says, over the numbers of components.
use Rattle.std.specs.Prelude.{◌≡◌, List}
use Rattle.fore_base.specs.Lists.{Paired}
use Rattle.ta_core.specs.Auto.{Automaton}
use Rattle.fa_pool.specs.declared.kept.Kept.{Kept}
use Rattle.fa_kept.specs.Memos.{IsWithinAt}

-- the kept forests have the same targets and data and as many parts, and the language of each part of the narrow one is
-- within that of the wide one's
pub record CoversByNumbers (pool : List Automaton) (wide narrow : Kept) : Type 0 where
  pub vars : narrow.vars ≡ wide.vars
  pub data_vars : narrow.data_vars ≡ wide.data_vars
  pub within : Paired (IsWithinAt pool) narrow.parts wide.parts
