-- What wrong bodies of the edges of calls would add, refused by the words of their contracts. The program has 10
-- pointer and 20 data variables. A step of the call `f();` stands in line 5, and leads from the location 3 to 9.
use Rattle.std.proofs.Common.{◌≡◌, ap, ℕ, List, [], ◌∷◌, None, arith}
use Rattle.c_cfg.specs.declared.graph.Edge.{Edge}
use Rattle.c_cfg.specs.declared.graph.Instr.TheVariants.{Kill}
use Rattle.c_cfg.specs.Links.{enter_row, exit_row}
use Rattle.c_cfg.specs.Lowering.{edge}
use Rattle.c_links.specs.Chains.{chain}

-- the line of the first edge, and where it leads
abbrev first_line : List Edge → ℕ
first_line [] = 0
first_line (e ∷ es) = e.line

abbrev first_end : List Edge → ℕ
first_end [] = 0
first_end (e ∷ es) = e.to

-- its begin, in the line 9
entered_in_another_line : edge 9 3 9 (Kill [] []) None ∷ [] ≡ chain 5 (enter_row 10 20 [] []) 3 9 → ⊥
entered_in_another_line e = omega (arith, ap first_line e)

-- its end, which stays where it is, and does not lead to what comes after this call
ended_where_it_is : edge 5 3 3 (Kill [] []) None ∷ [] ≡ chain 5 (exit_row 10 20 None [] None) 3 9 → ⊥
ended_where_it_is e = omega (arith, ap first_end e)
