use Rattle.ta_core.specs.Auto.{IsRanked}
use Rattle.fa_sound.specs.Components.{component_at}
use Rattle.fa_split.proofs.ChildStates.{children_within}
use Rattle.fa_join.proofs.DecidedForests.{below, children_long, one_a, one_b, right}
use Rattle.fa_join.proofs.differing.children_apart.Goals as goal

pub component-first-requires : goal.component-first-requires
component-first-requires c = rw c.forest.ensures c.requires.apart.0

pub component-second-requires : goal.component-second-requires
component-second-requires c =
    rw c.forest-2.ensures
    (right c.args.left.now.face.boxes c.args.left.now.forest c.args.right.now.forest c.args.root c.requires.left
    c.requires.right c.requires.alike c.requires.apart)

pub children_of-requires : goal.children_of-requires
children_of-requires c =
    rw (c.component-first.ensures, c.forest.ensures)
    (one_a c.args.left.now.face.boxes c.args.left.now.forest c.args.right.now.forest c.args.root c.requires.left
    c.requires.right c.requires.alike c.requires.apart)

pub children_of-requires-2 : goal.children_of-requires-2
children_of-requires-2 c =
    rw (c.component-second.ensures, c.forest-2.ensures)
    (one_b c.args.left.now.face.boxes c.args.left.now.forest c.args.right.now.forest c.args.root c.requires.left
    c.requires.right c.requires.alike c.requires.apart)

pub states_apart-requires-clause-long : goal.states_apart-requires-clause-long
states_apart-requires-clause-long c =
    let F = c.args.left.now.forest in
    let G = c.args.right.now.forest in
    let r = c.args.root in
    let q = c.requires in
    let ranked_a : IsRanked (component_at F.autos r) =
    rw (c.component-first.ensures, c.forest.ensures) at c.known.ensures in
    let ranked_b : IsRanked (component_at G.autos r) =
    rw (c.component-second.ensures, c.forest-2.ensures) at c.known-2.ensures in
    rw (
      c.children_of.ensures,
      c.children_of-2.ensures,
      c.component-first.ensures,
      c.component-second.ensures,
      c.forest.ensures,
      c.forest-2.ensures,
    ) (children_long c.args.left.now.face.boxes F G r q.left q.right q.alike q.apart ranked_a ranked_b)

pub states_apart-requires-clause-left : goal.states_apart-requires-clause-left
states_apart-requires-clause-left c =
    let F = c.args.left.now.forest in
    let one = one_a c.args.left.now.face.boxes F c.args.right.now.forest c.args.root c.requires.left c.requires.right
    c.requires.alike c.requires.apart in
    let ranked : IsRanked (component_at F.autos c.args.root) =
    rw (c.component-first.ensures, c.forest.ensures) at c.known.ensures in
    rw (c.children_of.ensures, c.component-first.ensures, c.forest.ensures)
    (children_within (component_at F.autos c.args.root) ranked one)

pub states_apart-requires-clause-right : goal.states_apart-requires-clause-right
states_apart-requires-clause-right c =
    let G = c.args.right.now.forest in
    let one = one_b c.args.left.now.face.boxes c.args.left.now.forest G c.args.root c.requires.left c.requires.right
    c.requires.alike c.requires.apart in
    let ranked : IsRanked (component_at G.autos c.args.root) =
    rw (c.component-second.ensures, c.forest-2.ensures) at c.known-2.ensures in
    rw (c.children_of-2.ensures, c.component-second.ensures, c.forest-2.ensures)
    (children_within (component_at G.autos c.args.root) ranked one)

pub returns : goal.returns
returns c =
    let F = c.args.left.now.forest in
    let G = c.args.right.now.forest in
    let r = c.args.root in
    let q = c.requires in
    let ranked_a : IsRanked (component_at F.autos r) =
    rw (c.component-first.ensures, c.forest.ensures) at c.known.ensures in
    let ranked_b : IsRanked (component_at G.autos r) =
    rw (c.component-second.ensures, c.forest-2.ensures) at c.known-2.ensures in
    below c.args.left.now.face.boxes F G r q.left q.right q.alike q.apart ranked_a ranked_b c.in_ok-apart.apart
    (rw (
      c.children_of.ensures,
      c.children_of-2.ensures,
      c.component-first.ensures,
      c.component-second.ensures,
      c.forest.ensures,
      c.forest-2.ensures,
    ) at c.in_ok-apart.ensures)
