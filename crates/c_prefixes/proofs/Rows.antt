-- Worked numbers of prefixes: of no edge, of one, of both edges of a choice, of a chain, of a loop, and of eight `if`s
-- behind one another.
use Rattle.std.proofs.Common.{◌≡◌, inl, inr, ℕ, ◌≤◌, List, [], ◌∷◌, length, Some, None, refl, ap, arith}
use Rattle.fore_base.specs.Lists.{IsDistinct}
use Rattle.c_cfg.specs.declared.graph.Edge.{Edge}
use Rattle.c_cfg.specs.declared.graph.Instr.TheVariants.{CopyData, Kill, Choose}
use Rattle.c_cfg.specs.declared.graph.DataArg.TheVariants.{Known}
use Rattle.c_cfg.specs.Graphs.{ControlGraph}
use Rattle.c_prefixes.specs.Prefixes.{AtMost, paths_from}
use Rattle.c_prefixes.proofs.Counted.{at_most}

abbrev go : ℕ → ℕ → Edge
go k to = record { from = k; to = to; instr = Kill [] []; choice = None; line = 1 }

abbrev chosen : ℕ → ℕ → ℕ → Edge
chosen k to x = record { from = k; to = to; instr = Choose None; choice = Some x; line = 1 }

abbrev set : ℕ → ℕ → Edge
set k to = record { from = k; to = to; instr = CopyData 0 (Known 1); choice = None; line = 1 }

abbrev graph_of : List Edge → ControlGraph
graph_of es = record {
  locations = 18;
  ptrs = 2;
  datums = 2;
  edges = es;
  heads = [];
  shapes = record
      { structs = [] };
}

-- where no edge begins at the entry there is the empty list alone, however many edges are elsewhere
no_edge : paths_from [] 0 0 ≡ Some 1
no_edge = refl

none_at_the_entry : paths_from (go 1 2 ∷ []) 0 0 ≡ Some 1
none_at_the_entry = refl

-- the empty list and the edge alone
one_edge : paths_from (go 0 1 ∷ []) 1 0 ≡ Some 2
one_edge = refl

-- a list of one edge is longer than no edge
too_long : paths_from (go 0 1 ∷ []) 0 0 ≡ None
too_long = refl

-- a choice with both edges to one location: the empty list, and each of the two edges
both_edges : paths_from (chosen 0 1 0 ∷ chosen 0 1 1 ∷ []) 1 0 ≡ Some 3
both_edges = refl

-- a chain of two edges, listed in another order: no edge, one, two
a_chain : paths_from (go 1 2 ∷ go 0 1 ∷ []) 2 0 ≡ Some 3
a_chain = refl

-- a choice, each of whose sides goes on by one edge
two_sides : paths_from (chosen 0 1 0 ∷ chosen 0 2 1 ∷ go 1 3 ∷ go 2 3 ∷ []) 2 0 ≡ Some 5
two_sides = refl

-- a loop has paths of each length, and so more prefixes than any number
a_loop : paths_from (go 0 0 ∷ []) 9 0 ≡ None
a_loop = refl

abbrev three : List (List Edge)
three = [] ∷ (go 0 0 ∷ []) ∷ (go 0 0 ∷ go 0 0 ∷ []) ∷ []

loop_has_three : AtMost 2 (graph_of (go 0 0 ∷ [])) → ⊥
loop_has_three h = let k : 3 ≤ 2 = h three differ (tt, ((inl refl, tt), ((inl refl, (inl refl, tt)), tt))) in
    omega (arith, k)
  where
    differ : IsDistinct three
    differ = (
      (λ i. elim i [
        | inl e ↦ (let z = ap length e in omega (arith, z))
        | inr j ↦ elim j [ inl e ↦ (let z = ap length e in omega (arith, z)) | inr x ↦ x ]
      ]),
      ((λ i. elim i [ inl e ↦ (let z = ap length e in omega (arith, z)) | inr x ↦ x ]), ((λ x. x), tt)),
    )

-- the edges of `if (__VERIFIER_nondet_int()) a = 1;` between k and to, with the assignment at m
abbrev if_set : ℕ → ℕ → ℕ → List Edge → List Edge
if_set k m to es = chosen k to 0 ∷ chosen k m 1 ∷ set m to ∷ es

-- Eight of them, and `return 0;`. From the exit there is one path, and from the return there are two. Where n paths
-- begin behind an `if`, 2 + 2 n begin at it: the empty one, n behind the choice 0, and 1 + n behind the choice 1, where
-- the assignment is still to come. So 6, 14, 30, 62, 126, 254, 510, and 1022.
abbrev eight_ifs : List Edge
eight_ifs = if_set 0 1 2 (if_set 2 3 4 (if_set 4 5 6 (if_set 6 7 8 (if_set 8 9 10 (if_set 10 11 12
    (if_set 12 13 14 (if_set 14 15 16 (go 16 17 ∷ []))))))))

eight_ifs_have : paths_from eight_ifs 17 0 ≡ Some 1022
eight_ifs_have = refl

-- and no more
eight_ifs_at_most : AtMost 1022 (graph_of eight_ifs)
eight_ifs_at_most = at_most (graph_of eight_ifs) 17 1022 eight_ifs_have
