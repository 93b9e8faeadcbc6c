use Rattle.std.proofs.Common.{subst, List}
use Rattle.fa_core.specs.Canonical.{IsCanonical}
use Rattle.fa_core.specs.declared.boxes.BoxDef.{BoxDef}
use Rattle.fa_split.proofs.LinksGive.{faces_give}
use Rattle.sym_transfer.specs.Edited.{IsEdited, IfGoes, HasForm}
use Rattle.sym_step.proofs.Stepping.{edge_fault, all_stay}
use Rattle.sym_step.proofs.settling.settle.Goals as goal

pub edited-requires-clause-gives : goal.edited-requires-clause-gives
edited-requires-clause-gives g c =
    faces_give c.args.forest.now.face.boxes c.requires.gives c.args.forest.now.forest.autos

pub bad_alone-requires : goal.bad_alone-requires
bad_alone-requires g c =
    let s = c.args.forest.now in
    record {
      met = edge_fault s.face c.args.edge.now s.forest c.in-Fault.fault
          (λ (T : List BoxDef) t. subst (IsEdited s.face T s.forest c.args.edge.now) c.in-Fault.is
          (c.in_ok-made.ensures.edited T t));
    }

pub nothing-requires : goal.nothing-requires
nothing-requires g c =
    let s = c.args.forest.now in
    record {
      stays = all_stay s.face c.args.edge.now s.forest
          (λ (T : List BoxDef) t. subst (IsEdited s.face T s.forest c.args.edge.now) c.in-Stays.is
          (c.in_ok-made.ensures.edited T t));
    }

pub settle_edited-requires-clause-carries : goal.settle_edited-requires-clause-carries
settle_edited-requires-clause-carries g c = λ ls w.
    let s = c.args.forest.now in
    (λ (T : List BoxDef) t. subst (IsEdited s.face T s.forest c.args.edge.now) c.in-Goes.is
    (c.in_ok-made.ensures.edited T t))

pub settle_edited-requires-clause-like : goal.settle_edited-requires-clause-like
settle_edited-requires-clause-like g c = λ ls w.
    let s = c.args.forest.now in
    let form = subst (IfGoes (HasForm s)) c.in-Goes.is c.in_ok-made.ensures.form in
    record { face = form.face; counts = (form.vars, form.data_vars); plain = form.plain }

pub settle_edited-requires-clause-calm : goal.settle_edited-requires-clause-calm
settle_edited-requires-clause-calm g c = λ ls w q.
    subst (IfGoes (λ s. IsCanonical s.face s.forest)) c.in-Goes.is (c.in_ok-made.ensures.quiet q (c.requires.calm q))
