-- Dressed forests in which a box edge is replaced by its inside, as trees.
use Rattle.std.specs.Prelude.{ℕ, zero, suc, List, [], ◌∷◌}
use Rattle.ta_core.specs.declared.symbol.Slot.{Slot}
use Rattle.ta_core.specs.declared.symbol.Slot.TheVariants.{Field, Link, Hook}
use Rattle.fa_core.specs.declared.faces.BoxFace.{BoxFace}
use Rattle.fa_core.specs.declared.forest.Target.{Target}
use Rattle.fa_core.specs.declared.forest.Target.TheVariants.{Null, Uninit, Dangling, At}
use Rattle.fa_core.specs.Choices.{count}
use Rattle.fa_core.specs.Dressed.{Node, Parts, Nodes, node, no_parts, field, link, hook, no_nodes, more}
use Rattle.fa_core.specs.Placed.{placed_parts, placed_all}
use Rattle.fa_unfold.specs.Outside.{outside, outside_hook}
use Rattle.fa_unfold.specs.Parts.{Part, FieldPart, LinkPart, HookPart, listed}
use Rattle.fa_unfold.specs.Slots.{joined, without, slot_key}

-- a list as the slots of a cell
abbrev pub unlisted : List Part → Parts
unlisted [] = no_parts
unlisted (FieldPart f e ∷ xs) = field f e (unlisted xs)
unlisted (LinkPart b inside e ∷ xs) = link b inside e (unlisted xs)
unlisted (HookPart b inside ∷ xs) = hook b inside (unlisted xs)

-- the slot without its end
abbrev pub part_slot : Part → Slot
part_slot (FieldPart f e) = Field f
part_slot (LinkPart b inside e) = Link b
part_slot (HookPart b inside) = Hook b

abbrev pub part_key : List BoxFace → Part → ℕ
part_key bs x = slot_key bs (part_slot x)

-- the slots ps, with the slots qs put in
abbrev pub joined_parts : List BoxFace → Parts → Parts → Parts
joined_parts bs ps qs = unlisted (joined (part_key bs) (listed ps) (listed qs))

-- the slots but the one at place p
abbrev pub parts_without : ℕ → Parts → Parts
parts_without p ps = unlisted (without p (listed ps))

-- a tree with other slots at its top
abbrev pub on_slots : (Parts → Parts) → Node → Node
on_slots g (node c s ds ps) = node c s ds (g ps)

-- the trees with other slots at the top of the i-th
abbrev pub at_root : (Parts → Parts) → ℕ → Nodes → Nodes
at_root g i no_nodes = no_nodes
at_root g zero (more n ns) = more (on_slots g n) ns
at_root g (suc i) (more n ns) = more n (at_root g i ns)

-- so with the cell that the leaf names, if it names one
abbrev pub at_leaf : (Parts → Parts) → Target → Nodes → Nodes
at_leaf g Null d = d
at_leaf g Uninit d = d
at_leaf g Dangling d = d
at_leaf g (At j) d = at_root g j d

-- the trees, and further ones behind them
abbrev pub with_all : Nodes → Nodes → Nodes
with_all no_nodes ms = ms
with_all (more n ns) ms = more n (with_all ns ms)

-- d with the Link at slot p of root i, which ends at the leaf y, replaced by an inside: the slots of the input, those
-- of the output, and the inner trees
abbrev pub link_opened : List BoxFace → ℕ → ℕ → Target → Parts → Parts → Nodes → Nodes → Nodes
link_opened bs i p y ps qs ns d =
    let f = outside i y (count d) in
    with_all
    (at_leaf (λ os. joined_parts bs os (placed_parts f qs)) y
    (at_root (λ os. joined_parts bs os (placed_parts f ps)) i (at_root (parts_without p) i d)))
    (placed_all f ns)

-- d with the Hook at slot p of root i replaced by an inside
abbrev pub hook_opened : List BoxFace → ℕ → ℕ → Parts → Nodes → Nodes → Nodes
hook_opened bs i p ps ns d =
    let f = outside_hook i (count d) in
    with_all (at_root (λ os. joined_parts bs os (placed_parts f ps)) i (at_root (parts_without p) i d))
    (placed_all f ns)
