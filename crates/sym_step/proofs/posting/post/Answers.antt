use Rattle.std.proofs.Common.{◌≡◌, refl, sym, subst, arith}
use Rattle.fore_base.specs.Lists.{Every}
use Rattle.fa_core.specs.Boxes.{Boxes, IsBoxTable, IsTableOf}
use Rattle.fa_core.specs.Faces.{IsGiving}
use Rattle.fa_core.specs.declared.faces.Face.{Face}
use Rattle.fa_core.proofs.TablesGive.{tables_give}
use Rattle.sym_step.proofs.SettledForests.{settled_all, settled_cases, settled_canonical, settled_reduced}
use Rattle.sym_step.proofs.SettledForests.{settled_face, settled_counts, settled_plain, bad_face, bad_counts, bad_plain}
use Rattle.sym_step.proofs.posting.post.Goals as goal

own_table : (face : Face) (t : Boxes) → face ≡ t.face → IsBoxTable t → IsTableOf face t.defs
own_table face t e k = subst (λ (f : Face). IsTableOf f t.defs) (sym e) k

own_gives : (face : Face) (t : Boxes) → face ≡ t.face → IsBoxTable t → Every IsGiving face.boxes
own_gives face t e k = subst (λ (f : Face). Every IsGiving f.boxes) (sym e) (tables_give t k)

pub settle_each-requires-clause-table : goal.settle_each-requires-clause-table
settle_each-requires-clause-table g c κs within =
    own_table c.args.forest.now.face c.args.table.now c.requires.face c.known-2.ensures

pub settle_each-requires-clause-opens : goal.settle_each-requires-clause-opens
settle_each-requires-clause-opens g c κs within = c.in_ok-opened.ensures.opens

pub settle_each-requires-clause-gives : goal.settle_each-requires-clause-gives
settle_each-requires-clause-gives g c κs within =
    own_gives c.args.forest.now.face c.args.table.now c.requires.face c.known-2.ensures

pub joined-requires-clause-gives : goal.joined-requires-clause-gives
joined-requires-clause-gives g c κs within =
    own_gives c.args.forest.now.face c.args.table.now c.requires.face c.known-2.ensures

pub returns-clause-all : goal.returns-clause-all
returns-clause-all g c =
    let F = c.args.forest.now in
    let p = c.in_ok-made.made in
    settled_all F.face F.forest c.args.edge.now p.next p.faults c.in_ok-made.ensures.settles
    c.args.table.now.defs refl

pub returns-clause-true_cases : goal.returns-clause-true_cases
returns-clause-true_cases g c =
    let F = c.args.forest.now in
    let p = c.in_ok-made.made in
    settled_cases F.face F.forest c.args.edge.now p.next p.faults c.in_ok-made.ensures.settles
    c.args.table.now.defs refl

pub returns-clause-keeps : goal.returns-clause-keeps
returns-clause-keeps g c = c.in_ok-made.ensures.settles.stepping.keeps c.args.table.now.defs refl

pub returns-clause-bads : goal.returns-clause-bads
returns-clause-bads g c = c.in_ok-made.ensures.settles.stepping.bads c.args.table.now.defs refl

pub returns-clause-canonical : goal.returns-clause-canonical
returns-clause-canonical g c =
    let F = c.args.forest.now in
    let p = c.in_ok-made.made in
    settled_canonical F.face F.forest c.args.edge.now p.next p.faults c.in_ok-made.ensures.settles

pub returns-clause-reduced : goal.returns-clause-reduced
returns-clause-reduced g c =
    let F = c.args.forest.now in
    let p = c.in_ok-made.made in
    settled_reduced F.face F.forest c.args.edge.now p.next p.faults c.in_ok-made.ensures.settles

pub returns-clause-plain : goal.returns-clause-plain
returns-clause-plain g c = λ none.
    let F = c.args.forest.now in
    let p = c.in_ok-made.made in
    settled_plain F.face F.forest c.args.edge.now p.next p.faults c.in_ok-made.ensures.settles none

pub returns-clause-face : goal.returns-clause-face
returns-clause-face g c =
    let F = c.args.forest.now in
    let p = c.in_ok-made.made in
    settled_face F.face F.forest c.args.edge.now p.next p.faults c.in_ok-made.ensures.settles

pub returns-clause-vars : goal.returns-clause-vars
returns-clause-vars g c =
    let F = c.args.forest.now in
    let p = c.in_ok-made.made in
    settled_counts F.face F.forest c.args.edge.now p.next p.faults c.in_ok-made.ensures.settles

pub returns-clause-apart : goal.returns-clause-apart
returns-clause-apart g c = c.in_ok-made.ensures.apart

pub returns-clause-quiet : goal.returns-clause-quiet
returns-clause-quiet g c = λ q.
    let few = c.in_ok-settled.ensures.quiet q in
    let fewer = c.in_ok-made.ensures.fewer in
    omega (arith, few, fewer)

pub returns-clause-bad_plain : goal.returns-clause-bad_plain
returns-clause-bad_plain g c = λ none.
    let F = c.args.forest.now in
    let p = c.in_ok-made.made in
    bad_plain F.face F.forest c.args.edge.now p.next p.faults c.in_ok-made.ensures.settles none

pub returns-clause-bad_face : goal.returns-clause-bad_face
returns-clause-bad_face g c =
    let F = c.args.forest.now in
    let p = c.in_ok-made.made in
    bad_face F.face F.forest c.args.edge.now p.next p.faults c.in_ok-made.ensures.settles

pub returns-clause-bad_vars : goal.returns-clause-bad_vars
returns-clause-bad_vars g c =
    let F = c.args.forest.now in
    let p = c.in_ok-made.made in
    bad_counts F.face F.forest c.args.edge.now p.next p.faults c.in_ok-made.ensures.settles
