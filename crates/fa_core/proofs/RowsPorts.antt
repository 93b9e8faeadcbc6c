-- Ports whose fields depend on the rule, one that leads to no cell, and a component without trees.
use Rattle.std.proofs.Common.{inl, inr, [], ◌∷◌, refl}
use Rattle.ta_core.specs.Auto.{Automaton}
use Rattle.ta_core.specs.Language.{InLanguage, IsBarren, run}
use Rattle.ta_core.specs.declared.symbol.Slot.TheVariants.{Field}
use Rattle.ta_core.specs.declared.symbol.Symbol.TheVariants.{Null, Ref, Cell}
use Rattle.fa_core.specs.declared.forest.Target.TheVariants.{Null as NullTarget, At}
use Rattle.fa_core.specs.Dressed.{Node, node, no_parts, field, leaf}
use Rattle.fa_core.specs.Member.{bare}
use Rattle.fa_core.proofs.NodeRuns.{node_bare}
use Rattle.fa_core.proofs.RowsBoxes.{port_node}
use Rattle.fa_core.proofs.RowsCanonical.{rule}

-- its trees cover next or prev
abbrev pub two_fields : Automaton
two_fields = record {
  states = 2;
  roots = 0 ∷ [];
  rules = rule 0 (Cell 0 [] (Field 0 ∷ [])) (1 ∷ []) ∷ rule 0 (Cell 0 [] (Field 1 ∷ [])) (1 ∷ [])
      ∷ rule 1 (Ref 1) [] ∷ [];
}

pub next_runs : InLanguage two_fields (bare (port_node 0 0 1))
next_runs = (
  0,
  inl refl,
  node_bare two_fields.rules 0 (port_node 0 0 1) (
    rule 0 (Cell 0 [] (Field 0 ∷ [])) (1 ∷ []),
    inl refl,
    refl,
    refl,
    ((rule 1 (Ref 1) [], inr (inr (inl refl)), refl, refl, refl), tt),
  ),
)

pub prev_runs : InLanguage two_fields (bare (port_node 0 1 1))
prev_runs = (
  0,
  inl refl,
  node_bare two_fields.rules 0 (port_node 0 1 1) (
    rule 0 (Cell 0 [] (Field 1 ∷ [])) (1 ∷ []),
    inr (inl refl),
    refl,
    refl,
    ((rule 1 (Ref 1) [], inr (inr (inl refl)), refl, refl, refl), tt),
  ),
)

-- its trees cover next and prev, or next alone
abbrev pub two_ways : Automaton
two_ways = record {
  states = 2;
  roots = 0 ∷ [];
  rules = rule 0 (Cell 0 [] (Field 0 ∷ Field 1 ∷ [])) (1 ∷ 1 ∷ []) ∷ rule 0 (Cell 0 [] (Field 0 ∷ [])) (1 ∷ [])
      ∷ rule 1 (Ref 0) [] ∷ [];
}

abbrev pub both_node : Node
both_node = node 1 0 [] (field 0 (leaf (At 0)) (field 1 (leaf (At 0)) no_parts))

pub both_runs : InLanguage two_ways (bare both_node)
both_runs = (
  0,
  inl refl,
  node_bare two_ways.rules 0 both_node (
    rule 0 (Cell 0 [] (Field 0 ∷ Field 1 ∷ [])) (1 ∷ 1 ∷ []),
    inl refl,
    refl,
    refl,
    (
      (rule 1 (Ref 0) [], inr (inr (inl refl)), refl, refl, refl),
      ((rule 1 (Ref 0) [], inr (inr (inl refl)), refl, refl, refl), tt),
    ),
  ),
)

pub one_runs : InLanguage two_ways (bare (port_node 1 0 0))
one_runs = (
  0,
  inl refl,
  node_bare two_ways.rules 0 (port_node 1 0 0) (
    rule 0 (Cell 0 [] (Field 0 ∷ [])) (1 ∷ []),
    inr (inl refl),
    refl,
    refl,
    ((rule 1 (Ref 0) [], inr (inr (inl refl)), refl, refl, refl), tt),
  ),
)

-- an item whose next is null
abbrev pub null_port : Automaton
null_port = record {
  states = 2;
  roots = 0 ∷ [];
  rules = rule 0 (Cell 0 [] (Field 0 ∷ [])) (1 ∷ []) ∷ rule 1 Null [] ∷ [];
}

abbrev pub null_node : Node
null_node = node 5 0 [] (field 0 (leaf NullTarget) no_parts)

pub null_runs : InLanguage null_port (bare null_node)
null_runs = (
  0,
  inl refl,
  node_bare null_port.rules 0 null_node (
    rule 0 (Cell 0 [] (Field 0 ∷ [])) (1 ∷ []),
    inl refl,
    refl,
    refl,
    ((rule 1 Null [], inr (inl refl), refl, refl, refl), tt),
  ),
)

-- it has no tree
abbrev pub no_rules : Automaton
no_rules = record { states = 1; roots = 0 ∷ []; rules = [] }

pub no_tree : IsBarren no_rules
no_tree t (q, i, run r j e s k) = j
