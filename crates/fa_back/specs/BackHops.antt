-- The hops that a mark of a signature stands for: where the one root is reached, the other is too.
use Rattle.std.specs.Prelude.{ℕ, if◌then◌else◌, List, [], ◌∷◌, ◌++◌, map}
use Rattle.fa_core.specs.declared.signature.RefMark.{RefMark}
use Rattle.fa_back.specs.declared.hops.Hop.{Hop}

-- from the one root to the other
abbrev pub hop : ℕ → ℕ → Hop
hop i r = record { from = i; to = r }

-- to the root of the tree, where the whole way leads back
abbrev pub own_hops : ℕ → RefMark → List Hop
own_hops j m = if m.back then hop m.root j ∷ [] else []

-- the ways back by a mark of the trees of root j
abbrev pub back_hops : ℕ → RefMark → List Hop
back_hops j m = own_hops j m ++ map (hop m.root) m.reach
