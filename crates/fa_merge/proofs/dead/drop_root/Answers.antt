use Rattle.std.proofs.Common.{◌≡◌, ◌∙◌, ap, ap₂, List, map, remove}
use Rattle.ta_core.specs.Auto.{Automaton}
use Rattle.fore_base.specs.declared.store.Datum.{Datum}
use Rattle.fa_core.specs.Placed.{placed_auto, placed_leaf}
use Rattle.fa_core.specs.declared.forest.Target.{Target}
use Rattle.fa_merge.specs.Dropped.{but_place, drop_leaf}
use Rattle.fa_merge.proofs.DroppedSound.{but_map}
use Rattle.fa_merge.proofs.Dropping.{remove_is}
use Rattle.fa_merge.proofs.dead.drop_root.Goals as goal

pub returns : goal.returns
returns c =
    let F = c.args.forest.now in
    let r = c.args.root in
    let made : c.in_ok-autos.autos ≡ map (placed_auto (drop_leaf r)) F.autos = c.in_ok-autos.ensures
    ∙ ap (λ (z : List Automaton). map (placed_auto (drop_leaf r)) z) c.as_slice.ensures in
    let left : c.remove-own.new.self ≡ map (placed_auto (drop_leaf r)) (but_place r F.autos) = c.remove-own.ensures.rest
    ∙ ap (λ (z : List Automaton). remove z r) made ∙ remove_is (map (placed_auto (drop_leaf r)) F.autos) r
    ∙ but_map (placed_auto (drop_leaf r)) r F.autos in
    let vars : c.in_ok-vars.vars ≡ map (placed_leaf (drop_leaf r)) F.vars = c.in_ok-vars.ensures
    ∙ ap (λ (z : List Target). map (placed_leaf (drop_leaf r)) z) c.as_slice-2.ensures in
    ap₂ (λ (x : List Automaton) (y : List Target).
    record { autos = x; vars = y; data_vars = c.in_ok-data_vars.data_vars }) left vars
    ∙ ap (λ (z : List Datum).
    record {
      autos = map (placed_auto (drop_leaf r)) (but_place r F.autos);
      vars = map (placed_leaf (drop_leaf r)) F.vars;
      data_vars = z;
    }) c.in_ok-data_vars.ensures
