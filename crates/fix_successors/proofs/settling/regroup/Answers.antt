use Rattle.std.proofs.Common.{◌≡◌, ◌∙◌, true≢false, sym, subst}
use Rattle.fore_base.specs.Lists.{Every}
use Rattle.fa_core.specs.LeastFolds.{FoldsTo}
use Rattle.fa_sound.specs.Unions.{forests}
use Rattle.fix_core.specs.Follows.{SameLanguages}
use Rattle.fix_successors.specs.inner.Settling.{AreNormalForms}
use Rattle.fix_successors.proofs.Regrouping.{all_reached, as_many, forms_alone, none_leaks, not_folded, regrouped}
use Rattle.fix_successors.proofs.Regrouping.{trees_alone}
use Rattle.fix_successors.proofs.settling.regroup.Goals as goal

pub normal_forms-requires-clause-vars : goal.normal_forms-requires-clause-vars
normal_forms-requires-clause-vars g c = λ κs within.
    as_many c.args.task.now.graph c.args.middle.now.forest c.in_ok-folded.folded.forest c.requires.normal.vars
    c.in_ok-folded.ensures.variables

pub normal_forms-requires-clause-reached : goal.normal_forms-requires-clause-reached
normal_forms-requires-clause-reached g c = λ κs within.
    let t = c.args.task.now in
    let M = c.args.middle.now in
    let G = c.in_ok-folded.folded in
    let table = rw c.table.ensures at c.known-2.ensures in
    let insides = rw c.table-2.ensures at c.ranked_insides.ensures in
    let leaks = rw c.table-3.ensures at c.in_ok-folded.ensures.leaks in
    all_reached t.table t.graph table insides G (c.in_ok-folded.ensures.face ∙ c.requires.normal.face) c.known-4.ensures
    (leaks (none_leaks t.table t.graph table insides M c.requires.normal))

pub returns-then-is_empty : goal.returns-then-is_empty
returns-then-is_empty g c =
    let t = c.args.task.now in
    let M = c.args.middle.now in
    let G = c.in_ok-folded.folded in
    let folds = c.in_ok-folded.folds in
    let made = c.in_ok-folded.ensures in
    let steps : FoldsTo t.table M.forest folds G.forest = rw c.table-3.ensures at made.folds in
    let same : M.forest ≡ G.forest =
    not_folded t.table t.graph M.forest G.forest folds (c.is_empty.ensures.0 c.if-is_empty.true) steps in
    let alone = sym c.in_ok-groups.ensures in
    regrouped t.table t.graph M G folds c.in_ok-groups.groups c.requires.normal c.known-3.ensures.sound steps
    (rw c.table-3.ensures at made.folded) (rw c.table-3.ensures at made.members)
    (subst (AreNormalForms t.table t.graph G.forest) alone
    (forms_alone t.table t.graph M G c.requires.normal made.face same))
    (λ none. subst (λ z. Every (SameLanguages M.forest) (forests z)) alone (trees_alone t.table t.graph M G same))

pub returns : goal.returns
returns g c =
    let t = c.args.task.now in
    let M = c.args.middle.now in
    let G = c.in_ok-folded.folded in
    let folds = c.in_ok-folded.folds in
    let made = c.in_ok-folded.ensures in
    regrouped t.table t.graph M G folds c.in_ok-groups-2.groups c.requires.normal c.known-3.ensures.sound
    (rw c.table-3.ensures at made.folds) (rw c.table-3.ensures at made.folded) (rw c.table-3.ensures at made.members)
    c.in_ok-groups-2.ensures
    (λ none. absurd (true≢false (sym (c.is_empty.ensures.1 none) ∙ c.if-is_empty.false)))
