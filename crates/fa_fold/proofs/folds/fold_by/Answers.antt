use Rattle.std.proofs.Common.{List}
use Rattle.std.proofs.lemmas.Result.{IfOk-weaker}
use Rattle.fore_base.specs.declared.shape.Shape.{Shape}
use Rattle.fore_base.specs.declared.store.Store.{Store}
use Rattle.fa_core.specs.Folding.{IsFold}
use Rattle.fa_core.specs.Member.{Stands}
use Rattle.fa_folding.proofs.FoldedMembers.{folds_into, members_kept}
use Rattle.fa_fold.proofs.FoldSites.{inner_there, is_foldable, is_over, ports_there}
use Rattle.fa_fold.proofs.folds.fold_by.Goals as goal

pub lone_roots-requires : goal.lone_roots-requires
lone_roots-requires c =
    rw c.as_slice.ensures
    (ports_there c.args.table.now c.known-2.ensures c.ranked_insides.ensures c.args.forest.now c.requires.face
    c.known.ensures c.args.box_no c.args.input c.args.output c.requires.can c.args.fields.now c.requires.fields
    c.box_def-def.result.now c.box_def-def.ensures c.in_ok-ports.ports c.in_ok-ports.ensures)

pub unreachable-requires : goal.unreachable-requires
unreachable-requires c =
    let none = rw (c.in-None.is, c.as_slice.ensures) at c.in_ok-lone_roots.ensures in
    let some = inner_there c.args.table.now c.known-2.ensures c.ranked_insides.ensures c.args.forest.now
    c.requires.face c.known.ensures c.args.box_no c.args.input c.args.output c.requires.can c.args.fields.now
    c.requires.fields c.box_def-def.result.now c.box_def-def.ensures c.in_ok-ports.ports c.in_ok-ports.ensures in
    none some.0 some.1

pub fold_ports-requires-clause-ports : goal.fold_ports-requires-clause-ports
fold_ports-requires-clause-ports c =
    rw c.as_slice-in-Some.ensures
    (ports_there c.args.table.now c.known-2.ensures c.ranked_insides.ensures c.args.forest.now c.requires.face
    c.known.ensures c.args.box_no c.args.input c.args.output c.requires.can c.args.fields.now c.requires.fields
    c.box_def-def.result.now c.box_def-def.ensures c.in_ok-ports.ports c.in_ok-ports.ensures)

pub fold_ports-requires-clause-inner : goal.fold_ports-requires-clause-inner
fold_ports-requires-clause-inner c =
    let found = rw (c.in-Some.is, c.as_slice.ensures) at c.in_ok-lone_roots.ensures in
    rw c.as_slice-in-Some.ensures found

pub fold_ports-requires-clause-can : goal.fold_ports-requires-clause-can
fold_ports-requires-clause-can c =
    let found = rw (c.in-Some.is, c.as_slice.ensures) at c.in_ok-lone_roots.ensures in
    rw c.as_slice-in-Some.ensures
    (is_foldable c.args.table.now c.known-2.ensures c.ranked_insides.ensures c.args.forest.now c.requires.face
    c.known.ensures c.args.box_no c.args.input c.args.output c.requires.can c.args.fields.now c.requires.fields
    c.box_def-def.result.now c.box_def-def.ensures c.in_ok-ports.ports c.in_ok-ports.ensures c.in-Some.inner found)

pub returns-clause-members : goal.returns-clause-members
returns-clause-members c =
    let T = c.args.table.now in
    let F = c.args.forest.now.forest in
    let over = is_over T c.args.forest.now.face F c.known-2.ensures c.ranked_insides.ensures c.requires.face
    c.known.ensures.sound c.known.ensures.ranked in
    IfOk-weaker c.fold_ports.result (λ made. IsFold T.face.boxes T.defs F made.1 made.0.forest)
    (λ made. (hs : List Shape) (s : Store) → Stands hs T.defs F s → Stands hs T.defs made.0.forest s)
    (λ made fold hs s.
    members_kept hs T.defs F made.0.forest s
    (folds_into T F made.0.forest made.1.box_no made.1.input made.1.output made.1.part over fold))
    c.fold_ports.ensures.fold
