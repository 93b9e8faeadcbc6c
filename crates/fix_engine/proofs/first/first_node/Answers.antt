use Rattle.std.proofs.Common.{◌∙◌, None, refl, sym, ap, subst}
use Rattle.fix_core.specs.declared.nodes.Node.{Node}
use Rattle.fix_engine.specs.inner.Taking.{IsFront}
use Rattle.fix_engine.proofs.Starting.{first_front}
use Rattle.fix_engine.proofs.first.first_node.Goals as goal

pub returns : goal.returns
returns c = λ height.
    let n : Node =
    record {
      head = record { location = 0; parent = None; edge = None; choice = None };
      state = c.carried-state.result;
    } in
    subst (λ z. IsFront c.args.table.now c.args.graph.now height z 0 1) (sym c.in_ok-nodes.ensures)
    (first_front c.args.table.now c.args.graph.now n
    (ap (λ z. z.forest) c.carried-state.ensures ∙ c.in_ok-forest.ensures.forest)
    (ap (λ z. z.face) c.carried-state.ensures ∙ c.in_ok-forest.ensures.face) refl refl refl refl
    (ap (λ z. z.middle) c.carried-state.ensures) (ap (λ z. z.folds) c.carried-state.ensures) height)
