use Rattle.std.proofs.Common.{
  ◌≡◌,
  ◌∙◌,
  ℕ,
  List,
  inl,
  inr,
  ap,
  sym,
  subst,
  refl,
  true≢false,
  take,
  slice_index_or,
  ◌++◌,
  ◌∷◌,
  [],
}
use Rattle.fore_base.specs.Lists.{IsIn}
use Rattle.fore_base.proofs.ListLemmas.{in_push}
use Rattle.ta_core.specs.Auto.{Automaton, IsRanked}
use Rattle.ta_core.specs.Language.{RunOf}
use Rattle.fa_core.specs.declared.forest.Forest.{Forest}
use Rattle.fa_merge.proofs.PlacedForests.{component_has}
use Rattle.fa_sound.specs.Components.{component_at}
use Rattle.fa_sound.proofs.ComponentLemmas.{component_got}
use Rattle.fa_lift.proofs.LiftProvides.{item_in, take_next, state_of, state_provides, provided_by}
use Rattle.fa_lift.proofs.lifting_owners.provides.Goals as goal

pub signature-signature-requires : goal.signature-signature-requires
signature-signature-requires c =
    let F = c.args.forest.now.forest in
    let states : c.roots_of-states.result.now ≡ (component_at F.autos c.args.from).roots = c.roots_of-states.ensures
    ∙ ap (λ (b : Automaton). b.roots)
    (c.component-auto.ensures ∙ ap (λ (G : Forest). component_at G.autos c.args.from) c.forest.ensures) in
    let q = slice_index_or c.roots_of-states.result.now c.loop-state.state-index 0 in
    state_of F c.args.from c.requires
    (component_has IsRanked F.autos c.args.from c.known.ensures.ranked c.requires) q
    (subst (λ (qs : List ℕ). IsIn q qs) states
    (item_in c.roots_of-states.result.now c.loop-state.state-index c.loop-state-test.true))

pub returns-then-do_provide : goal.returns-then-do_provide
returns-then-do_provide c =
    let s = c.args.forest.now in
    let F = s.forest in
    let a = component_at F.autos c.args.from in
    let got = component_got F.autos c.args.from c.requires in
    let states : c.roots_of-states.result.now ≡ a.roots = c.roots_of-states.ensures
    ∙ ap (λ (b : Automaton). b.roots)
    (c.component-auto.ensures ∙ ap (λ (G : Forest). component_at G.autos c.args.from) c.forest.ensures) in
    let q = slice_index_or c.roots_of-states.result.now c.loop-state.state-index 0 in
    let i = subst (λ (qs : List ℕ). IsIn q qs) states
    (item_in c.roots_of-states.result.now c.loop-state.state-index c.loop-state-test.true) in
    let h = rw c.as_slice.ensures at (c.do_provide.ensures.0 c.if-do_provide.true) in
    let k = state_provides s.face.boxes c.args.root c.args.field a q c.signature-signature.result.now.refs i
    (λ t w. c.signature-signature.ensures.trees a t got w) (c.signature-signature.ensures.some a got) h in
    ((λ t. k), (λ t. refl))

pub loop-state-preserved : goal.loop-state-preserved
loop-state-preserved c = λ q t i w j.
    let s = c.args.forest.now in
    let F = s.forest in
    let a = component_at F.autos c.args.from in
    let got = component_got F.autos c.args.from c.requires in
    let states = c.roots_of-states.result.now in
    let z = slice_index_or states c.loop-state.state-index 0 in
    let k : IsIn q (take c.loop-state.state-index states ++ z ∷ []) =
    subst (λ (qs : List ℕ). IsIn q qs) (take_next states c.loop-state.state-index c.loop-state-test.true) i in
    elim (in_push z q (take c.loop-state.state-index states) k) [
      | inl m ↦ c.loop-state.invariant q t m w j
      | inr e ↦
          let m = provided_by s.face.boxes c.args.root c.args.field a z c.signature-signature.result.now.refs t
          (subst (λ (n : ℕ). RunOf a.rules n t) e w)
          (λ u v. c.signature-signature.ensures.trees a u got v) j in
          true≢false
          (sym (c.do_provide.ensures.1 (rw c.as_slice.ensures m)) ∙ c.if-do_provide.false)
    ]
