use Rattle.std.proofs.Common.{inl}
use Rattle.fix_successors.proofs.Regrouping.{gives, normal_forms}
use Rattle.fix_successors.proofs.settling.normal_forms.Goals as goal

pub canonical-requires-clause-giving : goal.canonical-requires-clause-giving
canonical-requires-clause-giving g c = λ κs within.
    inl (gives c.args.task.now.table c.args.forest.now (rw c.table.ensures at c.known.ensures) c.requires.face)

pub join_all-requires-clause-faces : goal.join_all-requires-clause-faces
join_all-requires-clause-faces g c = λ κs within. rw c.face.ensures c.in_ok-forms.ensures.face

pub join_all-requires-clause-gives : goal.join_all-requires-clause-gives
join_all-requires-clause-gives g c = λ κs within.
    rw c.face.ensures
    (gives c.args.task.now.table c.args.forest.now (rw c.table.ensures at c.known.ensures) c.requires.face)

pub returns : goal.returns
returns g c =
    let t = c.args.task.now in
    let F = c.args.forest.now in
    let cs = c.in_ok-forms.forms in
    let js = c.in_ok-joined.joined in
    let a = c.in_ok-forms.ensures in
    let b = c.in_ok-joined.ensures in
    normal_forms t.table t.graph (rw c.table.ensures at c.known.ensures)
    (rw c.table-2.ensures at c.ranked_insides.ensures) F cs js c.requires.face c.requires.vars
    (a.regroups t.table.defs) a.members a.vars a.data_vars
    (b.joined t.table.defs) (rw c.face.ensures at b.apart) b.canonical b.reduced (rw c.face.ensures at b.faces)
    (rw c.as_slice.ensures at c.all_known.ensures)
