-- The store of chosen trees.
use Rattle.std.specs.Prelude.{ℕ, suc, List, [], map, length}
use Rattle.fore_base.specs.declared.store.Store.{Store}
use Rattle.fore_base.specs.declared.store.Value.{Value}
use Rattle.ta_core.specs.declared.tree.Tree.{Tree}
use Rattle.fa_core.specs.declared.forest.Forest.{Forest}
use Rattle.fa_core.specs.Dressed.{value_in}
use Rattle.fa_sample.specs.declared.drafts.Draft.{Draft}
use Rattle.fa_sample.specs.inner.Dressing.{root_values, forest_made, insides_made}
use Rattle.fa_sample.specs.inner.Emitted.{forest_out}
use Rattle.fa_sample.specs.inner.Written.{cells_done, written}

-- the store of these cells, where these are the values of the roots
abbrev pub store_made : Forest → List Value → List Draft → Store
store_made F vs cs = record {
  vars = map (value_in vs) F.vars;
  data_vars = F.data_vars;
  cells = cells_done 1 cs;
  next = suc (length cs);
}

-- the store of the forest's trees, by the trees of boxes that lie this deep in one another
abbrev pub store_sampled : List (List Tree) → ℕ → Forest → List Tree → Store
store_sampled boxes depth F ts =
    store_made F (root_values [] ts 1) (written (forest_out [] (forest_made (insides_made boxes depth) [] ts 1).0) [])
