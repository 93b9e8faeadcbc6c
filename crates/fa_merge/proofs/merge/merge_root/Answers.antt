use Rattle.std.proofs.Common.{◌≡◌, ◌∙◌, map, length, List}
use Rattle.std.proofs.lemmas.Result.{IfOk-weaker}
use Rattle.fore_base.specs.Lists.{Every}
use Rattle.ta_core.specs.Auto.{IsRanked}
use Rattle.fa_core.specs.Member.{Regroups}
use Rattle.fa_core.specs.Placed.{placed_leaf}
use Rattle.fa_core.specs.declared.boxes.BoxDef.{BoxDef}
use Rattle.fa_merge.specs.Merged.{HasSameMembers, HasTreesOf, IsMergedExactly, IsMergedInto, lowering, merged_at}
use Rattle.fa_merge.specs.inner.Lone.{IsReferrer, IsLone}
use Rattle.fa_merge.proofs.LoneFound.{lone_found, some_refers, refers_of}
use Rattle.fa_merge.proofs.Lowered.{vars_lowered}
use Rattle.fa_merge.proofs.MergedCut.{merged_members, merged_regroups, merged_whole}
use Rattle.fa_merge.proofs.merge.merge_root.Goals as goal

pub merge_at-requires-clause-lone : goal.merge_at-requires-clause-lone
merge_at-requires-clause-lone c =
    let F = c.args.forest.now.forest in
    let ranked : Every IsRanked F.autos = c.known.ensures.ranked in
    let found : IsReferrer F c.args.root c.in-Some.into = rw c.in-Some.is at c.in_ok-into.ensures in
    lone_found c.args.forest.now.face F c.args.root c.known.ensures.sound ranked c.requires c.in-Some.into found.0
    found.1

pub unreachable-requires : goal.unreachable-requires
unreachable-requires c =
    let F = c.args.forest.now.forest in
    let ranked : Every IsRanked F.autos = c.known.ensures.ranked in
    let none = rw c.in-None.is at c.in_ok-into.ensures in
    some_refers c.args.forest.now.face F c.args.root c.known.ensures.sound ranked c.requires none

pub returns-clause-value : goal.returns-clause-value
returns-clause-value c =
    let F = c.args.forest.now.forest in
    let r = c.args.root in
    let found : IsReferrer F r c.in-Some.into = rw c.in-Some.is at c.in_ok-into.ensures in
    IfOk-weaker c.merge_at.result (λ s. HasTreesOf (merged_at r c.in-Some.into F) s.forest)
    (λ s. IsMergedInto F r s.forest) (λ s e. (c.in-Some.into, refers_of F r c.in-Some.into found, e))
    c.merge_at.ensures.trees

pub returns-clause-plain : goal.returns-clause-plain
returns-clause-plain c = λ plain.
    (let F = c.args.forest.now.forest in
    let r = c.args.root in
    let found : IsReferrer F r c.in-Some.into = rw c.in-Some.is at c.in_ok-into.ensures in
    IfOk-weaker c.merge_at.result (λ s. s.forest ≡ merged_at r c.in-Some.into F) (λ s. IsMergedExactly F r s.forest)
    (λ s e. (c.in-Some.into, refers_of F r c.in-Some.into found, e))
    (c.merge_at.ensures.plain plain))

pub returns-clause-vars : goal.returns-clause-vars
returns-clause-vars c =
    let F = c.args.forest.now.forest in
    let r = c.args.root in
    let ranked : Every IsRanked F.autos = c.known.ensures.ranked in
    let found : IsReferrer F r c.in-Some.into = rw c.in-Some.is at c.in_ok-into.ensures in
    let lone : IsLone F r c.in-Some.into =
    lone_found c.args.forest.now.face F r c.known.ensures.sound ranked c.requires c.in-Some.into found.0 found.1 in
    IfOk-weaker c.merge_at.result (λ s. HasTreesOf (merged_at r c.in-Some.into F) s.forest)
    (λ s. s.forest.vars ≡ map (placed_leaf (lowering r)) F.vars)
    (λ s e. e.vars ∙ vars_lowered (length F.autos) r F.vars lone.vars) c.merge_at.ensures.trees

pub returns-clause-whole : goal.returns-clause-whole
returns-clause-whole c =
    let F = c.args.forest.now.forest in
    let r = c.args.root in
    let ranked : Every IsRanked F.autos = c.known.ensures.ranked in
    let found : IsReferrer F r c.in-Some.into = rw c.in-Some.is at c.in_ok-into.ensures in
    let lone : IsLone F r c.in-Some.into =
    lone_found c.args.forest.now.face F r c.known.ensures.sound ranked c.requires c.in-Some.into found.0 found.1 in
    IfOk-weaker c.merge_at.result (λ s. HasTreesOf (merged_at r c.in-Some.into F) s.forest)
    (λ s. (T : List BoxDef) → Regroups T s.forest F) (λ s e. merged_whole F r c.in-Some.into lone s.forest e)
    c.merge_at.ensures.trees

pub returns-clause-regroups : goal.returns-clause-regroups
returns-clause-regroups c =
    let F = c.args.forest.now.forest in
    let r = c.args.root in
    let ranked : Every IsRanked F.autos = c.known.ensures.ranked in
    let found : IsReferrer F r c.in-Some.into = rw c.in-Some.is at c.in_ok-into.ensures in
    let lone : IsLone F r c.in-Some.into =
    lone_found c.args.forest.now.face F r c.known.ensures.sound ranked c.requires c.in-Some.into found.0 found.1 in
    IfOk-weaker c.merge_at.result (λ s. HasTreesOf (merged_at r c.in-Some.into F) s.forest)
    (λ s. (T : List BoxDef) → Regroups T F s.forest) (λ s e. merged_regroups F r c.in-Some.into lone s.forest e)
    c.merge_at.ensures.trees

pub returns-clause-members : goal.returns-clause-members
returns-clause-members c =
    let F = c.args.forest.now.forest in
    let r = c.args.root in
    let ranked : Every IsRanked F.autos = c.known.ensures.ranked in
    let found : IsReferrer F r c.in-Some.into = rw c.in-Some.is at c.in_ok-into.ensures in
    let lone : IsLone F r c.in-Some.into =
    lone_found c.args.forest.now.face F r c.known.ensures.sound ranked c.requires c.in-Some.into found.0 found.1 in
    IfOk-weaker c.merge_at.result (λ s. HasTreesOf (merged_at r c.in-Some.into F) s.forest)
    (λ s. HasSameMembers s.forest F) (λ s e. merged_members F r c.in-Some.into lone s.forest e)
    c.merge_at.ensures.trees
