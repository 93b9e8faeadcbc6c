use Rattle.std.proofs.Common.{◌∙◌, List, ap, ap₂, subst, sym, ℕ}
use Rattle.ta_core.specs.Auto.{Automaton}
use Rattle.fa_giving.specs.declared.worths.Worth.{Worth}
use Rattle.fa_giving.specs.inner.Totals.{AreExtremes, names_root, extremes_of, worth_of}
use Rattle.fa_giving.specs.inner.Worths.{nothing}
use Rattle.fa_giving.proofs.Sums.{unnamed, whole, state_trees}
use Rattle.fa_giving.proofs.totals.own_extremes.Goals as goal

pub returns-then-not-names_root : goal.returns-then-not-names_root
returns-then-not-names_root c =
    let e = c.as_slice.ensures ∙ ap (λ (b : Automaton). b.rules) c.auto.view_is in
    subst (AreExtremes c.args.boxes.now c.args.root c.args.field c.args.auto.now) (sym c.none_given.ensures)
    (unnamed c.args.boxes.now c.args.root c.args.field c.args.auto.now c.requires.full
    (ap (names_root c.args.root) (sym e) ∙ sym c.names_root.ensures ∙ c.if-not-names_root.true))

pub worths-requires : goal.worths-requires
worths-requires c = state_trees c.args.auto.now c.requires.trim

pub returns : goal.returns
returns c =
    let e = c.as_slice-3.ensures ∙ ap (λ (b : Automaton). b.roots) c.auto.view_is in
    subst (AreExtremes c.args.boxes.now c.args.root c.args.field c.args.auto.now)
    (sym (c.extremes_of.ensures ∙ ap extremes_of (c.worth_of-worth.ensures
    ∙ ap₂ (λ (t : List Worth) (qs : List ℕ). worth_of t nothing qs) c.as_slice-2.ensures e)))
    (whole c.args.boxes.now c.args.root c.args.field c.args.auto.now c.known.ensures c.in_ok-table.table
    c.in_ok-table.ensures c.requires.full)
