use Rattle.std.proofs.Common.{◌≡◌, ◌∙◌, ◌<◌, ℕ, List, Some, ap, sym, subst, slice_get}
use Rattle.fore_base.specs.Lists.{IsIn, Every}
use Rattle.fore_base.proofs.ListLemmas.{every_in, in_every, same_item}
use Rattle.ta_core.specs.Auto.{Automaton}
use Rattle.fa_sound.specs.Components.{component_at}
use Rattle.fa_sound.specs.Soundness.{IsStateOf}
use Rattle.fa_sound.proofs.ComponentLemmas.{component_got}
use Rattle.fa_merge.proofs.Signatures.{is_state}
use Rattle.sym_step.specs.inner.Leading.{IsForwardAt}
use Rattle.sym_step.proofs.leading.leads_back.Goals as goal

pub do_lead_back-requires : goal.do_lead_back-requires
do_lead_back-requires c =
    let autos = c.args.forest.now.forest.autos in
    let own = c.at-auto.result.now in
    let here : slice_get autos c.args.root ≡ Some own = rw c.forest.ensures at c.at-auto.ensures in
    let roots : c.as_slice.result.now ≡ own.roots = c.as_slice.ensures
    ∙ ap (λ (a : Automaton). a.roots) c.auto.view_is in
    subst (λ (qs : List ℕ). Every (IsStateOf (slice_get autos c.args.root)) qs) (sym roots)
    (in_every (IsStateOf (slice_get autos c.args.root)) own.roots
    (λ q i. is_state (slice_get autos c.args.root) own q here
    (every_in (λ q. q < own.states) own.roots q c.known-2.ensures.0 i)))

pub returns : goal.returns
returns c = λ w t i.
    let autos = c.args.forest.now.forest.autos in
    let r = c.args.root in
    let own = c.at-auto.result.now in
    let here : slice_get autos r ≡ Some own = rw c.forest.ensures at c.at-auto.ensures in
    let got = component_got autos r c.requires in
    let same : own ≡ component_at autos r = same_item autos r own (component_at autos r) here got in
    let roots : c.as_slice.result.now ≡ (component_at autos r).roots = c.as_slice.ensures
    ∙ ap (λ (a : Automaton). a.roots) (c.auto.view_is ∙ same) in
    every_in (IsForwardAt c.args.forest.now.face.boxes (slice_get autos r)) c.as_slice.result.now i.0
    (c.do_lead_back.ensures w) (subst (λ (qs : List ℕ). IsIn i.0 qs) (sym roots) i.1) (component_at autos r) t got i.2
