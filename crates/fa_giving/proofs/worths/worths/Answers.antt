use Rattle.std.proofs.Common.{◌≡◌, ℕ, length, replicate, subst, sym, ap, ap₂, ◌∙◌}
use Rattle.std.proofs.lemmas.List.{length-replicate}
use Rattle.fore_base.specs.Lists.{IsIn, Every}
use Rattle.ta_core.specs.Auto.{Automaton, IsRankedRule}
use Rattle.ta_core.proofs.Rounding.{each_own}
use Rattle.fa_giving.specs.declared.worths.Worth.{Worth}
use Rattle.fa_giving.specs.inner.Worths.{AreReal, IsSettled, nothing}
use Rattle.fa_giving.proofs.Weights.{nothing_real, settled_right}
use Rattle.fa_giving.proofs.worths.worths.Goals as goal

pub take_all-requires-clause-accepts : goal.take_all-requires-clause-accepts
take_all-requires-clause-accepts c =
    let a = c.args.auto.now in
    let e = c.as_slice.ensures ∙ ap (λ (b : Automaton). b.rules) c.auto.view_is in
    subst (Every (λ r. IsIn r a.rules × IsRankedRule a.states r)) (sym e)
    (each_own (IsRankedRule a.states) a.rules c.known.ensures.1)

pub take_all-requires-clause-keeps : goal.take_all-requires-clause-keeps
take_all-requires-clause-keeps c =
    let n = ap (λ (b : Automaton). b.states) c.auto.view_is in
    let e : c.in_ok-table.table ≡ replicate c.args.auto.now.states nothing =
    c.in_ok-table.ensures ∙ ap₂ (λ (m : ℕ) (x : Worth). replicate m x) n c.nothing.ensures in (
      c.requires,
      ap length e ∙ length-replicate c.args.auto.now.states nothing,
      subst (AreReal c.args.boxes.now c.args.root c.args.field c.args.auto.now.rules) (sym e)
          (nothing_real c.args.boxes.now c.args.root c.args.field c.args.auto.now.rules c.args.auto.now.states
          c.requires),
    )

pub returns : goal.returns
returns c =
    let bs = c.args.boxes.now in
    let e = c.as_slice.ensures ∙ ap (λ (b : Automaton). b.rules) c.auto.view_is in
    let k = c.in_ok-take_all.ensures.keeps in
    settled_right bs c.args.root c.args.field c.args.auto.now c.take_all.new.value c.known.ensures k.0 k.1 k.2
    (subst (Every (IsSettled bs c.args.root c.args.field c.take_all.new.value)) e c.in_ok-take_all.ensures.taken)
