use Rattle.std.proofs.Common.{◌∙◌, List, sym, ap, map}
use Rattle.std.proofs.lemmas.List.{map-append}
use Rattle.fore_base.proofs.ListLemmas.{drop_item}
use Rattle.fa_sample.specs.inner.Dressing.{insides_made}
use Rattle.fore_base.specs.declared.store.Value.{Value}
use Rattle.fa_sample.specs.inner.Walk.{seen, roots_ended}
use Rattle.fa_sample.proofs.Roots.{forest_cells, inside_missing, inside_there, one_less, roots_past}
use Rattle.fa_sample.proofs.Roots.{root_done, root_past}
use Rattle.fa_sample.proofs.Steps.{none_done, field_missing, link_missing, hook_done, field_done, link_done, less_none}
use Rattle.fa_sample.proofs.walking.+forest.Goals as goal

pub add_forest-returns : goal.add_forest-returns
add_forest-returns t c =
    let e = forest_cells (insides_made c.args.boxes.now c.args.depth) c.args.ports.now c.as_slice.result.now
    c.args.trees.now c.args.drafts.now c.reserve_roots.new.drafts c.add_roots.new.drafts
    (c.as_slice.ensures ∙ c.in_ok-values.ensures.values) c.in_ok-values.ensures.cells c.in_ok-add_roots.ensures in
    record { values = c.in_ok-values.ensures.values; cells = ap (λ p. p.0) e; next = ap (λ p. p.1) e }

pub add_inside-returns-in-None : goal.add_inside-returns-in-None
add_inside-returns-in-None t c =
    let e = inside_missing c.args.boxes.now c.args.depth c.args.box_no c.args.ports.now c.args.drafts.now
    c.in-None.ensures.lookup.3 in
    record { cells = ap (λ p. p.0) e; next = ap (λ p. p.1) e }

pub add_inside-returns-in_ok-add_forest-in-Some : goal.add_inside-returns-in_ok-add_forest-in-Some
add_inside-returns-in_ok-add_forest-in-Some t c =
    let e = inside_there c.args.boxes.now c.args.depth _ c.args.box_no c.args.ports.now c.in-Some.trees.now
    c.args.drafts.now c.add_forest.new.drafts (one_less c.args.depth c.if-depth-eq0.false)
    c.in-Some.ensures.lookup.3.0 c.in-Some.ensures.lookup.1
    (rw c.as_slice.ensures at c.in_ok-add_forest-in-Some.ensures.cells)
    (rw c.as_slice.ensures at c.in_ok-add_forest-in-Some.ensures.next) in
    record { cells = ap (λ p. p.0) e; next = ap (λ p. p.1) e }

pub do_task-returns-in_default : goal.do_task-returns-in_default
do_task-returns-in_default t c = record {
  ends = none_done (insides_made c.args.boxes.now c.args.depth) c.args.values.now (map seen c.args.tasks.now)
      (seen c.args.task) c.args.drafts.now c.in_default.ensures.cases;
  less = less_none (map seen c.args.tasks.now) (seen c.args.task);
}

pub do_task-returns-in_default-split_first : goal.do_task-returns-in_default-split_first
do_task-returns-in_default-split_first t c = record {
  ends = field_missing (insides_made c.args.boxes.now c.args.depth) c.args.values.now (map seen c.args.tasks.now)
      (seen c.args.task) c.args.drafts.now c.in-Some.slot.now c.in-Some.slots.now c.in-Field.field
      c.in-Some.ensures.cases.0 c.in-Field.is c.in_default-split_first.ensures.cases;
  less = less_none (map seen c.args.tasks.now) (seen c.args.task);
}

pub do_task-returns-in_default-split_first-2 : goal.do_task-returns-in_default-split_first-2
do_task-returns-in_default-split_first-2 t c = record {
  ends = link_missing (insides_made c.args.boxes.now c.args.depth) c.args.values.now (map seen c.args.tasks.now)
      (seen c.args.task) c.args.drafts.now c.in-Some.slot.now c.in-Some.slots.now c.in-Link.box_no
      c.in-Some.ensures.cases.0 c.in-Link.is c.in_default-split_first-2.ensures.cases;
  less = less_none (map seen c.args.tasks.now) (seen c.args.task);
}

pub add_root-returns-in_default : goal.add_root-returns-in_default
add_root-returns-in_default t c =
    root_past (insides_made c.args.boxes.now c.args.depth) c.args.values.now c.args.values.now c.args.place
    c.args.trees.now c.args.drafts.now c.in_default.ensures.lookup.3

pub add_root-returns-in_default-split_first : goal.add_root-returns-in_default-split_first
add_root-returns-in_default-split_first t c =
    ap (λ (z : List Value).
    roots_ended (insides_made c.args.boxes.now c.args.depth) c.args.values.now z c.args.trees.now c.args.drafts.now)
    (drop_item c.args.values.now c.args.place c.in-Some.value.now c.in-Some.ensures.lookup.3.0
    c.in-Some.ensures.lookup.1)
    ∙ roots_past (insides_made c.args.boxes.now c.args.depth) c.args.values.now c.in-Some.value.now _ c.args.trees.now
    c.args.drafts.now c.in_default-split_first.ensures.cases

pub add_root-returns-in_ok-add_cell-in-Cell : goal.add_root-returns-in_ok-add_cell-in-Cell
add_root-returns-in_ok-add_cell-in-Cell t c =
    ap (λ (z : List Value).
    roots_ended (insides_made c.args.boxes.now c.args.depth) c.args.values.now z c.args.trees.now c.args.drafts.now)
    (drop_item c.args.values.now c.args.place c.in-Some.value.now c.in-Some.ensures.lookup.3.0
    c.in-Some.ensures.lookup.1)
    ∙ root_done (insides_made c.args.boxes.now c.args.depth) c.args.values.now c.in-Some.value.now c.in-Cell.cell _
    c.args.trees.now c.in-Some-split_first.rest.now c.in-Some-split_first.tree.now c.args.drafts.now
    c.add_cell.new.drafts c.in-Cell.is c.in-Some-split_first.ensures.cases.0 c.in_ok-add_cell-in-Cell.ensures

pub do_task-returns-in_ok-add_inside-in-Hook : goal.do_task-returns-in_ok-add_inside-in-Hook
do_task-returns-in_ok-add_inside-in-Hook t c =
    let d = hook_done (insides_made c.args.boxes.now c.args.depth) c.args.values.now (map seen c.args.tasks.now)
    (seen c.args.task) c.in-Some.slot.now c.in-Some.slots.now c.in-Hook.box_no (map seen c.push.new.self)
    c.args.drafts.now c.add_inside.new.drafts c.in-Some.ensures.cases.0 c.in-Hook.is
    (ap (map seen) c.in_ok-push-in-Hook.ensures.ok ∙ map-append seen c.args.tasks.now _)
    c.in_ok-add_inside-in-Hook.ensures.cells c.in_ok-add_inside-in-Hook.ensures.next in
    record { ends = d.0; less = d.1 }

pub do_task-returns-in_ok-follow-in-Field : goal.do_task-returns-in_ok-follow-in-Field
do_task-returns-in_ok-follow-in-Field t c =
    let d = field_done (insides_made c.args.boxes.now c.args.depth) c.args.values.now (map seen c.args.tasks.now)
    (seen c.args.task) c.in-Some.slot.now c.in-Some.slots.now c.in-Field.field c.in-Some-split_first.tree.now
    c.in-Some-split_first.trees.now (map seen c.push-in-Field.new.self) (map seen c.follow.new.tasks)
    c.in_ok-own-in-Field.own c.top_value-value.result c.args.drafts.now c.reserve.new.drafts c.add_field.new.drafts
    c.in-Some.ensures.cases.0 c.in-Field.is c.in-Some-split_first.ensures.cases.0
    (ap (map seen) c.in_ok-push-in-Field.ensures.ok ∙ map-append seen c.args.tasks.now _)
    c.in_ok-own-in-Field.ensures c.top_value-value.ensures c.in_ok-reserve-in-Field.ensures
    c.in_ok-add_field-in-Field.ensures c.in_ok-follow-in-Field.ensures in
    record { ends = d.0; less = d.1 }

pub do_task-returns-in_ok-follow-in-Link : goal.do_task-returns-in_ok-follow-in-Link
do_task-returns-in_ok-follow-in-Link t c =
    let d = link_done (insides_made c.args.boxes.now c.args.depth) c.args.values.now (map seen c.args.tasks.now)
    (seen c.args.task) c.in-Some.slot.now c.in-Some.slots.now c.in-Link.box_no c.in-Some-split_first-2.tree.now
    c.in-Some-split_first-2.trees.now (map seen c.push-in-Link.new.self) (map seen c.follow-in-Link.new.tasks)
    c.in_ok-own-in-Link.own c.top_value-value-in-Link.result c.args.drafts.now c.reserve-in-Link.new.drafts
    c.add_inside-in-Link.new.drafts c.in-Some.ensures.cases.0 c.in-Link.is c.in-Some-split_first-2.ensures.cases.0
    (ap (map seen) c.in_ok-push-in-Link.ensures.ok ∙ map-append seen c.args.tasks.now _)
    c.in_ok-own-in-Link.ensures c.top_value-value-in-Link.ensures c.in_ok-reserve-in-Link.ensures
    c.in_ok-add_inside-in-Link.ensures.cells c.in_ok-add_inside-in-Link.ensures.next
    c.in_ok-follow-in-Link.ensures in
    record { ends = d.0; less = d.1 }

pub add_roots-loop-place-preserved : goal.add_roots-loop-place-preserved
add_roots-loop-place-preserved t c = sym c.in_ok-trees.ensures ∙ c.loop-place.invariant
