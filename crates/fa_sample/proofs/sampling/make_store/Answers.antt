use Rattle.std.proofs.Common.{◌≡◌, [], ap₂, List}
use Rattle.fore_base.specs.declared.store.Value.{Value}
use Rattle.fa_sample.specs.declared.drafts.Draft.{Draft}
use Rattle.fa_sample.specs.inner.Dressing.{root_values, forest_made, insides_made}
use Rattle.fa_sample.specs.inner.Emitted.{forest_out}
use Rattle.fa_sample.specs.inner.Sampled.{store_made}
use Rattle.fa_sample.specs.inner.Written.{written}
use Rattle.fa_sample.proofs.sampling.make_store.Goals as goal

pub returns : goal.returns
returns c =
    let a : c.in_ok-values.values ≡ root_values [] c.args.trees.now 1 =
    rw (c.as_slice.ensures, c.new-none.ensures, c.new-drafts.ensures) at c.in_ok-values.ensures.values in
    let b : c.add_forest.new.drafts
    ≡ written (forest_out [] (forest_made (insides_made c.args.boxes.now c.args.depth) [] c.args.trees.now 1).0) [] =
    rw (c.as_slice.ensures, c.new-none.ensures, c.new-drafts.ensures) at c.in_ok-values.ensures.cells in
    rw (
      c.in_ok-vars.ensures,
      c.in_ok-data_vars.ensures,
      c.in_ok-cells.ensures,
      c.in_ok-next.ensures,
      c.as_slice-2.ensures,
      c.as_slice-3.ensures,
      c.as_slice-4.ensures,
    )
    (ap₂ (λ (vs : List Value) (cs : List Draft). store_made c.args.forest.now vs cs) a b)
