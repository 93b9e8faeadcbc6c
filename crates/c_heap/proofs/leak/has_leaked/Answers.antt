use Rattle.std.proofs.Common.{◌≡◌, ◌<◌, ℕ, suc, nat_lt, Bool, false, List, [], length, get_or, add-one, sym, ap, ◌∙◌}
use Rattle.std.proofs.Common.{subst, arith}
use Rattle.std.specs.Prelude.{replicate}
use Rattle.fore_base.specs.declared.store.CellRec.{CellRec}
use Rattle.fore_base.specs.declared.store.Value.{Value}
use Rattle.c_heap.specs.inner.Marking.{Marked, seen, noted_all}
use Rattle.c_heap.proofs.Marked.{Walked, cell_at, cell_there, walk_within, walk_begins, walk_vars, walk_more}
use Rattle.c_heap.proofs.Marked.{walk_decides}
use Rattle.c_heap.proofs.leak.has_leaked.Goals as goal

pub loop-done-init : goal.loop-done-init
loop-done-init c =
    let s = c.args.store.now in
    let none : List Bool = replicate (length s.cells) false in
    let fresh : seen c.begin.new.marks ≡ record { reached = none; order = [] } =
    c.begin.ensures.none ∙ ap
    (λ (cs : List CellRec). let m : Marked = record { reached = replicate (length cs) false; order = [] } in m)
    c.as_slice-cells.ensures in
    let is : seen c.note_all.new.marks ≡ noted_all s.cells s.vars (record { reached = none; order = [] }) =
    c.note_all.ensures.noted
    ∙ ap (λ (cs : List CellRec). noted_all cs c.as_slice.result.now (seen c.begin.new.marks)) c.as_slice-cells.ensures
    ∙ ap (λ (vs : List Value). noted_all s.cells vs (seen c.begin.new.marks)) c.as_slice.ensures
    ∙ ap (noted_all s.cells s.vars) fresh in
    record {
      walked = subst (Walked s s.vars 0) (sym is) (walk_vars s (record { reached = none; order = [] }) (walk_begins s));
      counted = c.note_all.ensures.counted;
      room = (omega arith, omega arith);
    }

pub loop-done-smaller : goal.loop-done-smaller
loop-done-smaller c =
    let s = c.args.store.now in
    omega (
      arith,
      c.len.ensures,
      c.loop-done.marks.order.ok,
      walk_within s s.vars c.loop-done.done (seen c.loop-done.marks) c.loop-done.invariant.walked,
    )

pub loop-done-preserved : goal.loop-done-preserved
loop-done-preserved c =
    let s = c.args.store.now in
    let m = seen c.loop-done.marks in
    let at = c.nth-at.result in
    let less : c.loop-done.done < length m.order = omega (arith, c.len.ensures, c.loop-done.marks.order.ok) in
    let is_at : at ≡ get_or m.order c.loop-done.done 0 = c.nth-at.ensures
    ∙ ap (λ (xs : List ℕ). get_or xs c.loop-done.done 0) c.as_slice-in-loop-done.ensures.value in
    let inside : at < length s.cells =
    subst (λ x. x < length s.cells) (sym is_at) (c.loop-done.invariant.walked.within c.loop-done.done less) in
    let is : seen c.note_all-in-loop-done.new.marks ≡ noted_all s.cells (cell_at s.cells at).fields m =
    c.note_all-in-loop-done.ensures.noted
    ∙ ap (λ (vs : List Value). noted_all c.as_slice-cells.result.now vs m) c.as_slice-in-loop-done-2.ensures
    ∙ ap (λ (cs : List CellRec). noted_all cs (get_or cs at c.index-cells-at.result).fields m) c.as_slice-cells.ensures
    ∙ ap (λ (x : CellRec). noted_all s.cells x.fields m) (cell_there s.cells at c.index-cells-at.result inside) in
    rw add-one (record {
      walked = subst (Walked s s.vars (suc c.loop-done.done)) (sym is)
          (walk_more s s.vars c.loop-done.done at m c.loop-done.invariant.walked less is_at);
      counted = c.note_all-in-loop-done.ensures.counted;
      room = (
        omega (arith, c.note_all-in-loop-done.ensures.room.0, c.loop-done.invariant.room.0),
        omega (arith, c.note_all-in-loop-done.ensures.room.1, c.loop-done.invariant.room.1),
      );
    })

pub returns-clause-leaked : goal.returns-clause-leaked
returns-clause-leaked c =
    let s = c.args.store.now in
    let m = seen c.loop-done.marks in
    let long : c.len-2.result ≡ length m.order = c.len-2.ensures ∙ c.loop-done.marks.order.ok.0 in
    walk_decides s c.loop-done.done m c.requires.rising.0 c.loop-done.invariant.walked
    (omega (arith, c.len.ensures, c.loop-done.marks.order.ok)) _
    (ap (λ n. nat_lt n (length c.as_slice-cells.result.now)) long
    ∙ ap (λ (cs : List CellRec). nat_lt (length m.order) (length cs)) c.as_slice-cells.ensures)
