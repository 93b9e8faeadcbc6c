-- The trees of a dressed forest and of its components, by place.
use Rattle.std.proofs.Common.{◌≡◌, ℕ, zero, suc, ◌<◌, List, [], ◌∷◌, length, refl, ap, Some, slice_get, arith}
use Rattle.std.proofs.lemmas.Option.{none-some, same_Some}
use Rattle.ta_core.specs.Auto.{Automaton}
use Rattle.ta_core.specs.declared.tree.Tree.{Tree}
use Rattle.fa_core.specs.declared.boxes.BoxDef.{BoxDef}
use Rattle.fa_core.specs.Choices.{bares}
use Rattle.fa_core.specs.Dressed.{Node, Nodes, no_nodes, more}
use Rattle.fa_core.specs.Member.{TreesOf, bare}
use Rattle.fa_back.specs.Reached.{node_at}

-- there is a tree for each component, and no more
pub tree_there : (T : List BoxDef) (autos : List Automaton) (d : Nodes) (r : ℕ) → TreesOf T autos d → r < length autos
    → (x : Node) × (node_at d r ≡ Some x)
tree_there T [] d r h l = absurd (omega (arith, l))
tree_there T (a ∷ autos) no_nodes r h l = absurd h
tree_there T (a ∷ autos) (more n ns) zero h l = (n, refl)
tree_there T (a ∷ autos) (more n ns) (suc r) h l = tree_there T autos ns r h.2 (omega (arith, l))

pub tree_below : (T : List BoxDef) (autos : List Automaton) (d : Nodes) (r : ℕ) (x : Node) → TreesOf T autos d
    → node_at d r ≡ Some x → r < length autos
tree_below T [] no_nodes r x h e = absurd (none-some x e)
tree_below T [] (more n ns) r x h e = absurd h
tree_below T (a ∷ autos) no_nodes r x h e = absurd h
tree_below T (a ∷ autos) (more n ns) zero x h e = omega arith
tree_below T (a ∷ autos) (more n ns) (suc r) x h e = let k = tree_below T autos ns r x h.2 e in omega (arith, k)

pub bare_at : (d : Nodes) (r : ℕ) (x : Node) → node_at d r ≡ Some x → slice_get (bares d) r ≡ Some (bare x)
bare_at no_nodes r x e = absurd (none-some x e)
bare_at (more n ns) zero x e = ap (λ (z : Node). Some (bare z)) (same_Some n x e)
bare_at (more n ns) (suc r) x e = bare_at ns r x e

pub at_bare : (d : Nodes) (r : ℕ) (t : Tree) → slice_get (bares d) r ≡ Some t → (x : Node) × (node_at d r ≡ Some x)
    × (bare x ≡ t)
at_bare no_nodes r t e = absurd (none-some t e)
at_bare (more n ns) zero t e = (n, refl, same_Some (bare n) t e)
at_bare (more n ns) (suc r) t e = at_bare ns r t e
