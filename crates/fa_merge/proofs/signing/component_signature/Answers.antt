use Rattle.std.proofs.Common.{◌≡◌, ◌∙◌, ◌<◌, ℕ, List, Option, Some, ap, sym, subst, slice_get}
use Rattle.std.proofs.lemmas.Result.{IfOk-weaker}
use Rattle.fore_base.specs.Lists.{IsIn, Every}
use Rattle.fore_base.proofs.ListLemmas.{every_in, in_every, same_item}
use Rattle.ta_core.specs.Auto.{Automaton}
use Rattle.fa_core.specs.declared.signature.Signature.{Signature}
use Rattle.fa_sound.specs.Soundness.{IsStateOf}
use Rattle.fa_merge.specs.Signed.{IsSignatureOf}
use Rattle.fa_merge.specs.inner.Signed.{IsLiveRoot, IsSilentOf}
use Rattle.fa_merge.proofs.Signatures.{is_state, signatures_at, live_signature}
use Rattle.fa_merge.proofs.signing.component_signature.Goals as goal

pub referring_state-requires : goal.referring_state-requires
referring_state-requires c =
    let autos = c.args.forest.now.forest.autos in
    let own = c.at-auto.result.now in
    let here : slice_get autos c.args.root ≡ Some own = rw c.forest.ensures at c.at-auto.ensures in
    let roots : c.as_slice.result.now ≡ own.roots = c.as_slice.ensures ∙ ap (λ (a : Automaton). a.roots)
    c.auto.view_is in
    let o : Option Automaton = slice_get autos c.args.root in
    subst (λ (qs : List ℕ). Every (IsStateOf o) qs) (sym roots)
    (in_every (IsStateOf o) own.roots (λ q i.
    is_state o own q here (every_in (λ q. q < own.states) own.roots q c.known-2.ensures.0 i)))

pub signature-requires : goal.signature-requires
signature-requires c =
    let autos = c.args.forest.now.forest.autos in
    let own = c.at-auto.result.now in
    let q = c.in-Some.state in
    let here : slice_get autos c.args.root ≡ Some own = rw c.forest.ensures at c.at-auto.ensures in
    let roots : c.as_slice.result.now ≡ own.roots = c.as_slice.ensures ∙ ap (λ (a : Automaton). a.roots)
    c.auto.view_is in
    let found : IsIn q own.roots = subst (λ (qs : List ℕ). IsIn q qs) roots c.in-Some.ensures.0 in
    is_state _ own q here (every_in (λ q. q < own.states) own.roots q c.known-2.ensures.0 found)

pub returns-in-Some : goal.returns-in-Some
returns-in-Some c =
    let autos = c.args.forest.now.forest.autos in
    let bs = c.args.forest.now.face.boxes in
    let own = c.at-auto.result.now in
    let q = c.in-Some.state in
    let here : slice_get autos c.args.root ≡ Some own = rw c.forest.ensures at c.at-auto.ensures in
    let roots : c.as_slice.result.now ≡ own.roots = c.as_slice.ensures ∙ ap (λ (a : Automaton). a.roots)
    c.auto.view_is in
    let found : IsIn q own.roots = subst (λ (qs : List ℕ). IsIn q qs) roots c.in-Some.ensures.0 in
    let live : IsLiveRoot own q = (found, c.in-Some.ensures.1 own here) in
    IfOk-weaker c.copy.result (λ other. other ≡ c.signature.result.now)
    (λ s. (a : Automaton) → slice_get autos c.args.root ≡ Some a → IsSignatureOf bs a s)
    (λ s h a e.
    let same : own ≡ a = same_item autos c.args.root own a here e in
    subst (λ (z : Signature). IsSignatureOf bs a z) (sym h)
    (live_signature bs a q c.signature.result.now
    (signatures_at bs autos c.args.root a c.known.ensures.sound.well_formed.signatures e)
    (subst (λ (z : Automaton). IsLiveRoot z q) same live)
    (λ t r. c.signature.ensures.trees a t e r)))
    c.copy.ensures

pub returns-in-None : goal.returns-in-None
returns-in-None c = λ a e t i.
    let autos = c.args.forest.now.forest.autos in
    let bs = c.args.forest.now.face.boxes in
    let own = c.at-auto.result.now in
    let qs = c.as_slice.result.now in
    let here : slice_get autos c.args.root ≡ Some own = rw c.forest.ensures at c.at-auto.ensures in
    let same : own ≡ a = same_item autos c.args.root own a here e in
    let roots : qs ≡ a.roots = c.as_slice.ensures ∙ ap (λ (x : Automaton). x.roots) (c.auto.view_is ∙ same) in
    let found : IsIn i.0 qs = subst (λ (rs : List ℕ). IsIn i.0 rs) (sym roots) i.1 in
    every_in (IsSilentOf bs (slice_get autos c.args.root)) qs i.0 c.in-None.ensures found a t e i.2 ∙ sym c.new.ensures
