use Rattle.std.proofs.Common.{◌≡◌, ◌++◌, drop}
use Rattle.fore_explored.specs.Texts.{nodes_text}
use Rattle.fore_explored.proofs.explored.put_nodes.Given as goal

abbrev pub invariant-loop-number : goal.invariant-loop-number
invariant-loop-number l =
    l.text ++ nodes_text l.table l.program l.edges l.number (drop l.number l.nodes)
    ≡ l.initial.text ++ nodes_text l.table l.program l.edges 0 l.nodes
