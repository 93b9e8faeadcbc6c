use Rattle.std.proofs.Common.{◌≡◌, ◌<◌, ◌^◌, ℕ, List, length, ap, ap₂, ◌∙◌, slice_set, arith}
use Rattle.fore_base.specs.declared.store.Datum.{Datum}
use Rattle.fa_core.specs.declared.forest.Forest.{Forest}
use Rattle.fa_core.specs.declared.forest.Target.{Target}
use Rattle.fa_merge.specs.Merged.{merged, last_order, to_last}
use Rattle.fa_merge.specs.Reordered.{place_of, reordered}
use Rattle.fa_sound.specs.Components.{component_at}
use Rattle.fa_merge.proofs.MergeSteps.{lone_order, lone_length, autos_length, lone_place, lone_value}
use Rattle.fa_merge.proofs.merging.merge_into.Goals as goal

pub reorder_forest-requires-clause-few : goal.reorder_forest-requires-clause-few
reorder_forest-requires-clause-few c =
    let n = c.requires.count in
    let f = c.ranges.count.fits in
    let few : length c.args.forest.now.autos < 2 ^ 32 = omega (arith, n, f) in
    rw (
      c.as_slice.ensures,
      c.in_ok-order.ensures,
      c.requires.count,
      lone_length c.args.forest.now c.args.root c.args.into c.requires.lone,
    ) few

pub reorder_forest-requires-clause-all : goal.reorder_forest-requires-clause-all
reorder_forest-requires-clause-all c =
    rw (c.as_slice.ensures, c.in_ok-order.ensures, c.requires.count)
    (lone_order c.args.forest.now c.args.root c.args.into c.requires.lone)

pub place_in-place-requires : goal.place_in-place-requires
place_in-place-requires c =
    let n = c.requires.count in
    let f = c.ranges.count.fits in
    let few : length c.args.forest.now.autos < 2 ^ 32 = omega (arith, n, f) in
    rw (
      c.as_slice-2.ensures,
      c.in_ok-order.ensures,
      c.requires.count,
      lone_length c.args.forest.now c.args.root c.args.into c.requires.lone,
    ) few

pub merge_last-requires-clause-few : goal.merge_last-requires-clause-few
merge_last-requires-clause-few c =
    let n = c.requires.count in
    let f = c.ranges.count.fits in
    let few : length c.args.forest.now.autos < 2 ^ 32 = omega (arith, n, f) in
    rw (
      c.in_ok-autos.ensures,
      c.as_slice.ensures,
      c.in_ok-order.ensures,
      c.requires.count,
      autos_length c.args.forest.now c.args.root c.args.into c.requires.lone,
    ) few

pub merge_last-requires-clause-into : goal.merge_last-requires-clause-into
merge_last-requires-clause-into c =
    rw (
      c.place_in-place.ensures,
      c.as_slice-2.ensures,
      c.in_ok-autos.ensures,
      c.as_slice.ensures,
      c.in_ok-order.ensures,
      c.requires.count,
      autos_length c.args.forest.now c.args.root c.args.into c.requires.lone,
    )
    (lone_place c.args.forest.now c.args.root c.args.into c.requires.lone)

pub returns : goal.returns
returns c =
    let F : Forest = c.args.forest.now in
    let n : ℕ = length F.autos in
    let order = last_order n c.args.root in
    let same : c.as_slice.result.now ≡ order = c.as_slice.ensures ∙ c.in_ok-order.ensures
    ∙ ap (λ (z : ℕ). last_order z c.args.root) c.requires.count in
    let same_too : c.as_slice-2.result.now ≡ order = c.as_slice-2.ensures ∙ c.in_ok-order.ensures
    ∙ ap (λ (z : ℕ). last_order z c.args.root) c.requires.count in
    let full : c.in_ok-autos.field-0 ≡ reordered order F = c.in_ok-autos.ensures
    ∙ ap (λ (z : List ℕ). reordered z F) same in
    let place : c.place_in-place.result ≡ to_last n c.args.root c.args.into = c.place_in-place.ensures
    ∙ ap (λ (z : List ℕ). place_of z c.args.into) same_too in
    ap₂ (λ (v : List Target) (w : List Datum). record { autos = c.in_ok-autos-2.autos; vars = v; data_vars = w })
    (ap (λ (z : Forest). z.vars) full) (ap (λ (z : Forest). z.data_vars) full)
    ∙ lone_value F c.args.root c.args.into c.requires.lone c.in_ok-autos-2.autos
    (λ cs l e. c.in_ok-autos-2.ensures cs l (ap (λ (z : Forest). z.autos) full ∙ e)
    ∙ ap (λ (z : ℕ). slice_set cs z (merged (length cs) (component_at cs z) l)) place)
