use Rattle.std.proofs.Common.{◌≡◌, ℕ, List, false, subst, take, slice_get, slice_index_or, arith}
use Rattle.std.proofs.lemmas.List.{take_all, take_more}
use Rattle.fore_base.specs.Lists.{Every}
use Rattle.fore_base.proofs.ListLemmas.{every_in, every_push, in_place}
use Rattle.fa_core.specs.declared.signature.RefMark.{RefMark}
use Rattle.fa_sound.specs.Soundness.{IsStateOf}
use Rattle.sym_step.specs.inner.Leading.{IsForwardAt}
use Rattle.sym_step.proofs.leading.do_lead_back.Goals as goal

pub signature-requires : goal.signature-requires
signature-requires c =
    let qs = c.args.states.now in
    let i = c.loop-state.state-index in
    every_in (IsStateOf (slice_get c.args.forest.now.forest.autos c.args.root)) qs (slice_index_or qs i 0) c.requires
    (in_place qs i 0 c.loop-state-test.true)

pub loop-state-preserved : goal.loop-state-preserved
loop-state-preserved c =
    let qs = c.args.states.now in
    let i = c.loop-state.state-index in
    let bs = c.args.forest.now.face.boxes in
    let o = slice_get c.args.forest.now.forest.autos c.args.root in
    rw (take_more qs i 0 c.loop-state-test.true)
    (every_push (IsForwardAt bs o) (take i qs) (slice_index_or qs i 0) c.loop-state.invariant
    (λ a t e w.
    subst (λ (ms : List RefMark). Every (λ m. m.back ≡ false) ms) (c.signature.ensures.trees a t e w)
    (rw c.as_slice.ensures at (c.has_back.ensures c.if-has_back.false))))

pub returns : goal.returns
returns c = λ w.
    let past = c.loop-state-test.false in
    subst
    (λ (qs : List ℕ). Every (IsForwardAt c.args.forest.now.face.boxes
    (slice_get c.args.forest.now.forest.autos c.args.root)) qs)
    (take_all c.loop-state.state-index c.args.states.now (omega (arith, past))) c.loop-state.invariant
