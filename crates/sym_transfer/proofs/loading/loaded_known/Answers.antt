use Rattle.std.proofs.Common.{◌∙◌, List, inl, sym, slice_set}
use Rattle.std.proofs.lemmas.Option.{MatchOption-at_some, MatchOption-at_none}
use Rattle.fore_base.specs.declared.store.Datum.{Datum}
use Rattle.fa_core.specs.declared.boxes.BoxDef.{BoxDef}
use Rattle.fa_edit.specs.Data.{AllHaveDatum, AllLackDatum}
use Rattle.c_cfg.specs.declared.graph.Instr.TheVariants.{LoadData}
use Rattle.sym_transfer.specs.inner.Targets.{with_vars}
use Rattle.sym_transfer.proofs.DataKinds.{load_data, load_data_stays}
use Rattle.sym_transfer.proofs.Loaded.{datum_at_fits}
use Rattle.sym_transfer.proofs.Outcomes.{carried}
use Rattle.sym_transfer.proofs.loading.loaded_known.Goals as goal

pub with_known-requires : goal.with_known-requires
with_known-requires c =
    record {
      fits = datum_at_fits c.args.forest.now.face c.args.forest.now.forest c.known.ensures.sound c.args.root
          c.args.field
          c.in-Some.datum c.requires.top (sym c.datum_of.ensures.value ∙ c.in-Some.is);
    }

pub returns-in_ok-made-in-Some-clause-edited : goal.returns-in_ok-made-in-Some-clause-edited
returns-in_ok-made-in-Some-clause-edited c = λ T table x.
    let F = c.args.forest.now in
    let lacks = (T : List BoxDef) → AllLackDatum T F.forest c.args.root c.args.field in
    let has = λ (y : Datum). ((T : List BoxDef) → AllHaveDatum T F.forest c.args.root c.args.field y) in
    carried F.face T F.forest
    (with_vars F.forest F.forest.vars (slice_set F.forest.data_vars c.args.to c.in-Some.datum))
    c.in_ok-made-in-Some.made.forest (LoadData c.args.to c.args.from c.args.field) x
    c.in_ok-made-in-Some.ensures.value
    (load_data F.face T F.forest c.args.to c.args.from c.args.field x c.args.root c.in-Some.datum c.requires.at
    (MatchOption-at_some lacks has c.in-Some.datum c.in-Some.is c.datum_of.ensures.held T))

pub returns-in-None-clause-edited : goal.returns-in-None-clause-edited
returns-in-None-clause-edited c = λ T table x.
    let F = c.args.forest.now in
    let lacks = (T : List BoxDef) → AllLackDatum T F.forest c.args.root c.args.field in
    let has = λ (y : Datum). ((T : List BoxDef) → AllHaveDatum T F.forest c.args.root c.args.field y) in
    inl
    (load_data_stays F.face T F.forest c.args.to c.args.from c.args.field x c.args.root c.requires.at
    (MatchOption-at_none lacks has c.in-None.is c.datum_of.ensures.held T))
