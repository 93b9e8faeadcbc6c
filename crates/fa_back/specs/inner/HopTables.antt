-- The roots to which each root leads at once, as a table.
use Rattle.std.specs.Prelude.{ℕ, suc, List, [], ◌∷◌, ◌++◌, flat_map, length, slice_set, replicate}
use Rattle.fore_search.specs.Reached.{row}
use Rattle.fa_core.specs.declared.signature.RefMark.{RefMark}
use Rattle.fa_core.specs.declared.signature.Signature.{Signature}
use Rattle.fa_back.specs.declared.hops.Hop.{Hop}
use Rattle.fa_back.specs.BackHops.{hop, back_hops}

-- by a mark of the trees of root j
abbrev pub mark_hops : ℕ → RefMark → List Hop
mark_hops j m = hop j m.root ∷ back_hops j m

-- by the signatures of the components from root j on
abbrev pub tree_hops : ℕ → List Signature → List Hop
tree_hops j [] = []
tree_hops j (s ∷ ss) = flat_map (mark_hops j) s.refs ++ tree_hops (suc j) ss

-- the table with one more hop
abbrev pub put_hop : List (List ℕ) → Hop → List (List ℕ)
put_hop table h = slice_set table h.from (row table h.from ++ h.to ∷ [])

-- the table with these hops
abbrev pub put_hops : List (List ℕ) → List Hop → List (List ℕ)
put_hops table [] = table
put_hops table (h ∷ hs) = put_hops (put_hop table h) hs

-- the table of the hops of some components
abbrev pub table_of : List Signature → List (List ℕ)
table_of ss = put_hops (replicate (length ss) []) (tree_hops 0 ss)
