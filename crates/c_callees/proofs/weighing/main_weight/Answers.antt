use Rattle.std.proofs.Common.{List, ℕ, length, sym, ap, ◌∙◌, subst}
use Rattle.c_calls.specs.Weights.{AreWeights}
use Rattle.c_typing.specs.Globals.{function_heads}
use Rattle.c_typing.specs.Weights.{statements_of}
use Rattle.c_callees.proofs.WeightLemmas.{main_last, statements_long, weights_long}
use Rattle.c_callees.proofs.weighing.main_weight.Goals as goal

pub weigh-requires : goal.weigh-requires
weigh-requires c =
    ap length (c.as_slice.ensures ∙ c.in_ok-statements.ensures) ∙ statements_long c.args.items.now
    ∙ sym (ap length c.requires)

pub returns : goal.returns
returns c =
    let items = c.args.items.now in
    let weights = c.in_ok-weights.weights in
    let are = subst (λ (ks : List (List ℕ)). AreWeights (statements_of items) ks c.args.cap weights) c.requires
    (subst (λ (ns : List ℕ). AreWeights ns c.args.graph.now c.args.cap weights)
    (c.as_slice.ensures ∙ c.in_ok-statements.ensures)
    c.in_ok-weights.ensures) in
    c.last_of.ensures (length (function_heads items)) (weights_long items weights c.args.cap are)
    ∙ main_last items weights c.args.cap are
