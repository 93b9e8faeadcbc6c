use Rattle.std.proofs.Common.{subst, slice_get, map}
use Rattle.std.proofs.lemmas.Result.{IfOk-weaker}
use Rattle.ta_core.specs.Auto.{IsRanked}
use Rattle.fa_sound.specs.Components.{component_at}
use Rattle.fa_sound.proofs.ComponentLemmas.{component_got}
use Rattle.fa_part.specs.inner.Edges.{is_picked, top_edges}
use Rattle.fa_part.specs.inner.Referring.{AreEdgeRefs, ArePickedRefs}
use Rattle.fa_part.proofs.EdgeRefs.{edge_states, picked_are}
use Rattle.fa_part.proofs.referring.picked_refs.Goals as goal

pub states_refs-requires : goal.states_refs-requires
states_refs-requires c =
    let autos = c.args.forest.now.forest.autos in
    let here = component_got autos c.args.root c.requires.root in
    let o = slice_get autos c.args.root in
    let own = c.component-auto.ensures in
    rw (c.as_slice-2.ensures, c.in_ok-states.ensures, c.as_slice.ensures, c.in_ok-edges.ensures, own, c.forest.ensures)
    (edge_states o (component_at autos c.args.root) here c.requires.top
    (subst IsRanked (rw c.forest.ensures at own) c.known-2.ensures) (is_picked c.args.taken c.args.fields.now))

pub returns : goal.returns
returns c =
    let autos = c.args.forest.now.forest.autos in
    let here = component_got autos c.args.root c.requires.root in
    let o = slice_get autos c.args.root in
    let fs = c.args.fields.now in
    let own = component_at autos c.args.root in
    let found = rw (
      c.as_slice-2.ensures,
      c.in_ok-states.ensures,
      c.as_slice.ensures,
      c.in_ok-edges.ensures,
      c.component-auto.ensures,
      c.forest.ensures,
    ) at c.states_refs.ensures in
    IfOk-weaker c.states_refs.result (AreEdgeRefs o (map (λ e. e.1) (top_edges (is_picked c.args.taken fs) own)))
    (ArePickedRefs c.args.taken o fs) (picked_are o own here c.requires.top c.args.taken fs) found
