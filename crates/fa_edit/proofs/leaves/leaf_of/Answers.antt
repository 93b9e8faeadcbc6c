use Rattle.std.proofs.Common.{◌≡◌, Some, None, sym}
use Rattle.fore_base.specs.Lists.{Every}
use Rattle.ta_core.specs.Auto.{IsRanked}
use Rattle.fa_edit.specs.Plain.{IsLeafPlace, place_at}
use Rattle.fa_edit.proofs.PlainFields.{all_have, lacks}
use Rattle.fa_edit.proofs.leaves.leaf_of.Goals as goal

pub returns-in-Some-clause-held : goal.returns-in-Some-clause-held
returns-in-Some-clause-held c =
    let F = c.args.forest.now.forest in
    let ranked : Every IsRanked F.autos = c.known.ensures.ranked in
    let place : Some c.in-Some.place ≡ place_at F c.args.root c.args.field = rw
    (c.component-auto.ensures, c.forest.ensures) at c.in-Some.ensures in
    let alone : IsLeafPlace F c.args.root c.in-Some.place c.only_leaf.result = rw
    (c.rules_of.ensures, c.state_at.ensures, c.component-auto.ensures, c.forest.ensures) at c.only_leaf.ensures in
    all_have c.args.forest.now.face.shapes.structs F c.args.root c.args.field ranked c.requires.at c.in-Some.place
    (sym place) c.only_leaf.result alone

pub returns-in-None-clause-held : goal.returns-in-None-clause-held
returns-in-None-clause-held c =
    let F = c.args.forest.now.forest in
    let ranked : Every IsRanked F.autos = c.known.ensures.ranked in
    let place : None ≡ place_at F c.args.root c.args.field = rw (c.component-auto.ensures, c.forest.ensures) at
    c.in-None.ensures in
    lacks c.args.forest.now.face.shapes.structs F c.args.root c.args.field ranked c.requires.at (sym place)
