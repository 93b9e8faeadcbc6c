use Rattle.std.proofs.Common.{◌≡◌, ◌∙◌, ℕ, List, Some, slice_get, sym, true≢false}
use Rattle.std.proofs.lemmas.Result.{IfOk-weaker}
use Rattle.ta_core.specs.Auto.{Automaton}
use Rattle.fa_sound.specs.Components.{component_at}
use Rattle.fa_sound.proofs.ComponentLemmas.{component_got}
use Rattle.fa_part.specs.Ports.{ports_of}
use Rattle.fa_part.specs.inner.Referring.{AreLeftRefs, AreRootRefs}
use Rattle.fa_part.proofs.OuterRefs.{AreOuter, outer_all, outer_left, some_taken_top}
use Rattle.fa_part.proofs.finding.outer_refs.Goals as goal

pub returns-then-is_empty : goal.returns-then-is_empty
returns-then-is_empty c =
    let F = c.args.forest.now.forest in
    let r = c.args.root in
    let ps = ports_of c.args.ports.now in
    let none = sym c.in_ok-fields.ensures ∙ c.is_empty.ensures.0 c.if-is_empty.true in
    IfOk-weaker c.component_refs.result
    (λ (made : List ℕ). (a : Automaton) → slice_get F.autos r ≡ Some a → AreRootRefs a made)
    (λ refs. AreOuter c.args.forest.now.face F c.known.ensures.sound ps r c.requires.root refs)
    (λ made h. outer_all c.args.forest.now.face F c.known.ensures.sound ps r c.requires.root made none
    (h (component_at F.autos r) (component_got F.autos r c.requires.root)))
    c.component_refs.ensures

pub picked_refs-requires-clause-top : goal.picked_refs-requires-clause-top
picked_refs-requires-clause-top c =
    some_taken_top c.args.forest.now.forest.autos c.args.ports.now c.requires.ports c.args.root c.in_ok-fields.fields
    c.in_ok-fields.ensures (λ e. absurd (true≢false (sym (c.is_empty.ensures.1 e)
    ∙ c.if-is_empty.false)))

pub returns : goal.returns
returns c =
    let F = c.args.forest.now.forest in
    let r = c.args.root in
    let ps = ports_of c.args.ports.now in
    let fs = c.in_ok-fields.fields in
    IfOk-weaker c.picked_refs.result (AreLeftRefs (slice_get F.autos r) fs)
    (λ refs. AreOuter c.args.forest.now.face F c.known.ensures.sound ps r c.requires.root refs)
    (λ made h. outer_left c.args.forest.now.face F c.known.ensures.sound ps r c.requires.root made fs
    c.in_ok-fields.ensures h)
    (rw c.as_slice.ensures at c.picked_refs.ensures)
