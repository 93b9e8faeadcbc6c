use Rattle.std.proofs.Common.{length, ap, ◌∙◌}
use Rattle.std.proofs.lemmas.List.{length-map}
use Rattle.fore_base.specs.Lists.{Every}
use Rattle.ta_core.specs.Auto.{IsRanked}
use Rattle.fa_core.specs.Placed.{placed_leaf}
use Rattle.fa_merge.specs.Merged.{lowering}
use Rattle.fa_canon.proofs.MergedRoots.{fewer_roots, no_boxes}
use Rattle.fa_canon.proofs.merging.merge.Goals as goal

pub returns : goal.returns
returns c =
    let F = c.args.forest.now in
    let G = c.in_ok-made.made in
    let ranked : Every IsRanked F.forest.autos = c.known.ensures.ranked in
    let value = c.in_ok-made.ensures.value in
    record {
      regrouped = record {
        plain = λ p. no_boxes F.face F.forest G.forest c.args.root c.known.ensures.sound ranked c.requires p
            (c.in_ok-made.ensures.plain p);
        face = c.in_ok-made.ensures.face;
        vars = ap length c.in_ok-made.ensures.vars ∙ length-map F.forest.vars (placed_leaf (lowering c.args.root));
        data_vars = value.2.data_vars;
        regroups = c.in_ok-made.ensures.regroups;
        whole = c.in_ok-made.ensures.whole;
      };
      fewer = fewer_roots F.face F.forest G.forest c.args.root c.known.ensures.sound ranked c.requires value;
    }
