use Rattle.std.specs.Prelude.{IsNone}
use Rattle.std.proofs.Common.{List, inl, refl, sym, subst, slice_set, Option}
use Rattle.std.proofs.lemmas.Option.{MatchOption-at_some}
use Rattle.fore_base.specs.Lists.{Every}
use Rattle.ta_core.specs.Auto.{IsRanked}
use Rattle.fa_core.specs.declared.boxes.BoxDef.{BoxDef}
use Rattle.fa_core.specs.declared.forest.Target.{Target}
use Rattle.fa_edit.specs.Leaves.{AllHaveLeaf, AllLackField}
use Rattle.c_cfg.specs.declared.graph.Instr.TheVariants.{LoadPtr}
use Rattle.sym_transfer.specs.inner.Targets.{with_vars}
use Rattle.sym_transfer.proofs.Loaded.{leaf_below}
use Rattle.sym_transfer.proofs.Outcomes.{carried}
use Rattle.sym_transfer.proofs.PtrKinds.{load_ptr}
use Rattle.sym_transfer.proofs.PtrStays.{load_ptr_stays}
use Rattle.sym_transfer.proofs.loading.loaded_leaf.Goals as goal

pub leaf_of-requires : goal.leaf_of-requires
leaf_of-requires c =
    record { at = c.requires.explicit.plain c.args.from c.args.root c.args.field refl c.requires.at refl }

pub with_target-requires : goal.with_target-requires
with_target-requires c =
    let F = c.args.forest.now.forest in
    let lacks = (T : List BoxDef) → AllLackField T F c.args.root c.args.field in
    let has = λ (t : Target). ((T : List BoxDef) → AllHaveLeaf T F c.args.root c.args.field t) in
    let ranked : Every IsRanked F.autos = c.known.ensures.ranked in
    record {
      root = leaf_below c.args.forest.now.face F c.known.ensures.sound ranked c.args.root c.args.field c.in-Some.leaf
          (MatchOption-at_some lacks has c.in-Some.leaf c.in-Some.is c.leaf_of.ensures.held);
    }

pub returns-in_ok-made-in-Some-clause-edited : goal.returns-in_ok-made-in-Some-clause-edited
returns-in_ok-made-in-Some-clause-edited c = λ T table x.
    let F = c.args.forest.now in
    let lacks = (T : List BoxDef) → AllLackField T F.forest c.args.root c.args.field in
    let has = λ (t : Target). ((T : List BoxDef) → AllHaveLeaf T F.forest c.args.root c.args.field t) in
    carried F.face T F.forest (with_vars F.forest (slice_set F.forest.vars c.args.to c.in-Some.leaf) F.forest.data_vars)
    c.in_ok-made-in-Some.made.forest (LoadPtr c.args.to c.args.from c.args.field) x
    c.in_ok-made-in-Some.ensures.value
    (load_ptr F.face T F.forest c.args.to c.args.from c.args.field x c.args.root c.in-Some.leaf c.requires.at
    (MatchOption-at_some lacks has c.in-Some.leaf c.in-Some.is c.leaf_of.ensures.held T))

pub returns-in-None-clause-edited : goal.returns-in-None-clause-edited
returns-in-None-clause-edited c = λ T table x.
    let F = c.args.forest.now in
    let shown = c.requires.explicit.plain c.args.from c.args.root c.args.field refl c.requires.at refl in
    inl
    (load_ptr_stays F.face T F.forest c.args.to c.args.from c.args.field x c.args.root c.requires.at
    (record { root = shown.root; top = shown.top })
    (shown.lacks (c.leaf_of.ensures.lacks (subst (λ (q : Option Target). IsNone q) (sym c.in-None.is) refl))))
