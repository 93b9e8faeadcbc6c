use Rattle.std.proofs.Common.{List, ◌↔◌, IsTrue}
use Rattle.std.proofs.lemmas.Result.{IfOk-weaker}
use Rattle.fore_base.specs.declared.shape.Shape.{Shape}
use Rattle.fore_base.specs.declared.store.Store.{Store}
use Rattle.fa_core.specs.Boxes.{IsTableOf}
use Rattle.fa_core.specs.Covering.{Covers}
use Rattle.fa_core.specs.Member.{Stands}
use Rattle.fa_core.specs.declared.boxes.BoxDef.{BoxDef}
use Rattle.fa_unique.specs.Presented.{IsPlainCanonical}
use Rattle.fa_cover.proofs.covering.covers.Goals as goal

pub returns-clause-members : goal.returns-clause-members
returns-clause-members c =
    let F = c.args.wide.now.forest in
    let G = c.args.narrow.now.forest in
    let decided = rw (c.forest.ensures, c.forest-2.ensures) at c.is_covered.ensures in
    IfOk-weaker c.is_covered.result (λ yes. IsTrue yes ↔ Covers F G)
    (λ yes. IsTrue yes → (hs : List Shape) (T : List BoxDef) (s : Store) → Stands hs T G s → Stands hs T F s)
    (λ yes d e hs T s h. c.covered_members.ensures hs T F G s (d.0 e) h)
    decided

pub returns-clause-exact_on_members : goal.returns-clause-exact_on_members
returns-clause-exact_on_members c =
    let face = c.args.wide.now.face in
    let F = c.args.wide.now.forest in
    let G = c.args.narrow.now.forest in
    let decided = rw (c.forest.ensures, c.forest-2.ensures) at c.is_covered.ensures in
    IfOk-weaker c.is_covered.result (λ yes. IsTrue yes ↔ Covers F G)
    (λ yes. (T : List BoxDef) → IsTableOf face T → IsPlainCanonical face F → IsPlainCanonical face G
    → (IsTrue yes ↔ ((s : Store) → Stands face.shapes.structs T G s → Stands face.shapes.structs T F s)))
    (λ yes d T table p q.
    (let k = c.members_tell_covering.ensures face T F G table p q c.known.ensures.sound.full c.known.ensures.ranked in
    ((λ e. k.0 (d.0 e)), (λ all. d.1 (k.1 all)))))
    decided
