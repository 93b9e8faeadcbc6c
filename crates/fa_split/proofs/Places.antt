-- Children at a place below the top of a tree, and trees of a dressed forest: put there, and read.
use Rattle.std.proofs.Common.{◌≡◌, ◌≢◌, ℕ, zero, suc, ◌<◌, List, [], ◌∷◌, refl, sym, ap, ap₂, subst, ◌∙◌, Some}
use Rattle.std.proofs.Common.{slice_get, slice_set, arith}
use Rattle.std.proofs.lemmas.Option.{none-some, same_Some}
use Rattle.fore_base.specs.declared.store.Datum.{Datum}
use Rattle.fore_base.specs.declared.store.Value.{Value}
use Rattle.fore_base.specs.declared.store.Value.TheVariants.{Cell}
use Rattle.ta_core.specs.declared.symbol.Slot.{Slot}
use Rattle.ta_core.specs.declared.symbol.Slot.TheVariants.{Field, Link, Hook}
use Rattle.ta_core.specs.declared.symbol.Symbol.{Symbol}
use Rattle.ta_core.specs.declared.symbol.Symbol.TheVariants.{Cell as CellSymbol}
use Rattle.ta_core.specs.declared.tree.Tree.{Tree, out-Tree, roll-Tree, out-roll-Tree, roll-out-Tree}
use Rattle.fa_core.specs.declared.boxes.BoxDef.{BoxDef}
use Rattle.fa_core.specs.declared.forest.Target.{Target}
use Rattle.fa_core.specs.Choices.{count}
use Rattle.fa_core.specs.Dressed.{Node, Parts, End, Nodes, node, no_parts, field, link, hook, under, leaf, no_nodes}
use Rattle.fa_core.specs.Dressed.{more, number, roots_of}
use Rattle.fa_core.specs.Member.{InsidesOf, InsidesOfParts, InsidesOfEnd, bare, bare_parts, bare_end, slots_of}
use Rattle.fa_core.specs.Member.{leaf_symbol}
use Rattle.fa_core.proofs.Dressing.{leaf_is_no_cell, IsCellSymbol, leaf_top, cell_top}
use Rattle.fa_core.proofs.NodeSpots.{one_leaf}
use Rattle.fa_back.specs.Reached.{node_at}
use Rattle.fa_merge.specs.inner.Grafting as grafting
use Rattle.fa_split.specs.Split.{end_at, set_end, set_node, with_last, top_parts, with_end}

-- Ends.

pub end_set : (p : ℕ) (ps : Parts) (e u : End) → end_at p ps ≡ Some e → end_at p (set_end p u ps) ≡ Some u
end_set p no_parts e u h = absurd (none-some e h)
end_set zero (field f x ps) e u h = refl
end_set (suc p) (field f x ps) e u h = end_set p ps e u h
end_set zero (link b inside x ps) e u h = refl
end_set (suc p) (link b inside x ps) e u h = end_set p ps e u h
end_set p (hook b inside ps) e u h = end_set p ps e u h

pub set_twice : (p : ℕ) (ps : Parts) (u v : End) → set_end p u (set_end p v ps) ≡ set_end p u ps
set_twice p no_parts u v = refl
set_twice zero (field f x ps) u v = refl
set_twice (suc p) (field f x ps) u v = ap (field f x) (set_twice p ps u v)
set_twice zero (link b inside x ps) u v = refl
set_twice (suc p) (link b inside x ps) u v = ap (link b inside x) (set_twice p ps u v)
set_twice p (hook b inside ps) u v = ap (hook b inside) (set_twice p ps u v)

pub set_same : (p : ℕ) (ps : Parts) (e : End) → end_at p ps ≡ Some e → set_end p e ps ≡ ps
set_same p no_parts e h = refl
set_same zero (field f x ps) e h = ap (λ (z : End). field f z ps) (sym (same_Some x e h))
set_same (suc p) (field f x ps) e h = ap (field f x) (set_same p ps e h)
set_same zero (link b inside x ps) e h = ap (λ (z : End). link b inside z ps) (sym (same_Some x e h))
set_same (suc p) (link b inside x ps) e h = ap (link b inside x) (set_same p ps e h)
set_same p (hook b inside ps) e h = ap (hook b inside) (set_same p ps e h)

-- the ends at other places stay
pub other_end : (p q : ℕ) (ps : Parts) (u : End) → q ≢ p → end_at q (set_end p u ps) ≡ end_at q ps
other_end p q no_parts u d = refl
other_end zero zero (field f x ps) u d = absurd (d refl)
other_end zero (suc q) (field f x ps) u d = refl
other_end (suc p) zero (field f x ps) u d = refl
other_end (suc p) (suc q) (field f x ps) u d = other_end p q ps u (λ w. d (ap (λ k. suc k) w))
other_end zero zero (link b inside x ps) u d = absurd (d refl)
other_end zero (suc q) (link b inside x ps) u d = refl
other_end (suc p) zero (link b inside x ps) u d = refl
other_end (suc p) (suc q) (link b inside x ps) u d = other_end p q ps u (λ w. d (ap (λ k. suc k) w))
other_end p q (hook b inside ps) u d = other_end p q ps u d

pub slots_set : (p : ℕ) (x : End) (ps : Parts) → slots_of (set_end p x ps) ≡ slots_of ps
slots_set p x no_parts = refl
slots_set zero x (field f e ps) = refl
slots_set (suc p) x (field f e ps) = ap (λ (z : List Slot). Field f ∷ z) (slots_set p x ps)
slots_set zero x (link b inside e ps) = refl
slots_set (suc p) x (link b inside e ps) = ap (λ (z : List Slot). Link b ∷ z) (slots_set p x ps)
slots_set p x (hook b inside ps) = ap (λ (z : List Slot). Hook b ∷ z) (slots_set p x ps)

-- Ends are children of the tree without numbers and insides.

pub bare_set : (p : ℕ) (x : End) (ps : Parts) → bare_parts (set_end p x ps) ≡ slice_set (bare_parts ps) p (bare_end x)
bare_set p x no_parts = refl
bare_set zero x (field f e ps) = refl
bare_set (suc p) x (field f e ps) = ap (λ (z : List Tree). bare_end e ∷ z) (bare_set p x ps)
bare_set zero x (link b inside e ps) = refl
bare_set (suc p) x (link b inside e ps) = ap (λ (z : List Tree). bare_end e ∷ z) (bare_set p x ps)
bare_set p x (hook b inside ps) = bare_set p x ps

pub end_child : (p : ℕ) (ps : Parts) (e : End) → end_at p ps ≡ Some e → slice_get (bare_parts ps) p ≡ Some (bare_end e)
end_child p no_parts e h = absurd (none-some e h)
end_child zero (field f x ps) e h = ap (λ (z : End). Some (bare_end z)) (same_Some x e h)
end_child (suc p) (field f x ps) e h = end_child p ps e h
end_child zero (link b inside x ps) e h = ap (λ (z : End). Some (bare_end z)) (same_Some x e h)
end_child (suc p) (link b inside x ps) e h = end_child p ps e h
end_child p (hook b inside ps) e h = end_child p ps e h

pub child_end : (p : ℕ) (ps : Parts) (t : Tree) → slice_get (bare_parts ps) p ≡ Some t → (e : End)
    × (end_at p ps ≡ Some e) × (bare_end e ≡ t)
child_end p no_parts t h = absurd (none-some t h)
child_end zero (field f x ps) t h = (x, refl, same_Some (bare_end x) t h)
child_end (suc p) (field f x ps) t h = child_end p ps t h
child_end zero (link b inside x ps) t h = (x, refl, same_Some (bare_end x) t h)
child_end (suc p) (link b inside x ps) t h = child_end p ps t h
child_end p (hook b inside ps) t h = child_end p ps t h

-- the children of a cell
pub cell_children : (c s : ℕ) (ds : List Datum) (ps : Parts) → (out-Tree (bare (node c s ds ps))).children
    ≡ bare_parts ps
cell_children c s ds ps =
    rw (out-roll-Tree (record { symbol = CellSymbol s ds (slots_of ps); children = bare_parts ps })) refl

-- the child at place p of a tree is one of the tree without numbers
pub child_of_top : (p : ℕ) (n : Node) (e : End) → end_at p (top_parts n) ≡ Some e
    → slice_get (out-Tree (bare n)).children p ≡ Some (bare_end e)
child_of_top p (node c s ds ps) e h = rw (cell_children c s ds ps) (end_child p ps e h)

pub top_of_child : (p : ℕ) (n : Node) (t : Tree) → slice_get (out-Tree (bare n)).children p ≡ Some t → (e : End)
    × (end_at p (top_parts n) ≡ Some e) × (bare_end e ≡ t)
top_of_child p (node c s ds ps) t h = child_end p ps t (rw (cell_children c s ds ps) at h)

-- with another child, the tree has the same symbol and the other child
pub with_end_symbol : (p : ℕ) (x : End) (n : Node) → (out-Tree (bare (with_end p x n))).symbol
    ≡ (out-Tree (bare n)).symbol
with_end_symbol p x (node c s ds ps) = cell_top c s ds (set_end p x ps) ∙ ap (CellSymbol s ds) (slots_set p x ps)
    ∙ sym (cell_top c s ds ps)

pub with_end_children : (p : ℕ) (x : End) (n : Node) → (out-Tree (bare (with_end p x n))).children
    ≡ slice_set (out-Tree (bare n)).children p (bare_end x)
with_end_children p x (node c s ds ps) = cell_children c s ds (set_end p x ps) ∙ bare_set p x ps
    ∙ ap (λ (z : List Tree). slice_set z p (bare_end x)) (sym (cell_children c s ds ps))

pub with_end_number : (p : ℕ) (x : End) (n : Node) → number (with_end p x n) ≡ number n
with_end_number p x (node c s ds ps) = refl

pub with_end_at : (p : ℕ) (n : Node) (e u : End) → end_at p (top_parts n) ≡ Some e
    → end_at p (top_parts (with_end p u n)) ≡ Some u
with_end_at p (node c s ds ps) e u h = end_set p ps e u h

pub with_end_twice : (p : ℕ) (n : Node) (u v : End) → with_end p u (with_end p v n) ≡ with_end p u n
with_end_twice p (node c s ds ps) u v = ap (node c s ds) (set_twice p ps u v)

pub with_end_same : (p : ℕ) (n : Node) (e : End) → end_at p (top_parts n) ≡ Some e → with_end p e n ≡ n
with_end_same p (node c s ds ps) e h = ap (node c s ds) (set_same p ps e h)

-- An end that is a leaf without its place is that leaf.

pub end_is_leaf : (e : End) (y : Target) → bare_end e ≡ bare_end (leaf y) → e ≡ leaf y
end_is_leaf (under (node c s ds ps)) y h =
    absurd
    (leaf_is_no_cell y
    (subst IsCellSymbol (sym (cell_top c s ds ps) ∙ sym (ap (λ (t : Tree). (out-Tree t).symbol) (sym h)) ∙ leaf_top y)
    tt))
end_is_leaf (leaf u) y h =
    ap leaf (one_leaf u y (sym (leaf_top u) ∙ ap (λ (t : Tree). (out-Tree t).symbol) h ∙ leaf_top y))

-- a tree with the symbol of a leaf and no children is that leaf
pub leaf_tree : (y : Target) (t : Tree) → leaf_symbol y ≡ (out-Tree t).symbol → (out-Tree t).children ≡ []
    → t ≡ bare_end (leaf y)
leaf_tree y t a b =
    sym (ap₂ (λ (u : Symbol) (v : List Tree). roll-Tree (record { symbol = u; children = v })) a (sym b)
    ∙ roll-out-Tree t)

-- Insides.

module _ (T : List BoxDef) where
  insides_set : (p : ℕ) (ps : Parts) (u : End) → InsidesOfEnd T u → InsidesOfParts T ps
      → InsidesOfParts T (set_end p u ps)
  insides_set p no_parts u h k = tt
  insides_set zero (field f x ps) u h k = (h, k.1)
  insides_set (suc p) (field f x ps) u h k = (k.0, insides_set p ps u h k.1)
  insides_set zero (link b inside x ps) u h k = (k.0, h, k.2)
  insides_set (suc p) (link b inside x ps) u h k = (k.0, k.1, insides_set p ps u h k.2)
  insides_set p (hook b inside ps) u h k = (k.0, insides_set p ps u h k.1)

  insides_end : (p : ℕ) (ps : Parts) (e : End) → end_at p ps ≡ Some e → InsidesOfParts T ps → InsidesOfEnd T e
  insides_end p no_parts e h k = absurd (none-some e h)
  insides_end zero (field f x ps) e h k = subst (InsidesOfEnd T) (same_Some x e h) k.0
  insides_end (suc p) (field f x ps) e h k = insides_end p ps e h k.1
  insides_end zero (link b inside x ps) e h k = subst (InsidesOfEnd T) (same_Some x e h) k.1
  insides_end (suc p) (link b inside x ps) e h k = insides_end p ps e h k.2
  insides_end p (hook b inside ps) e h k = insides_end p ps e h k.1

  pub insides_with : (p : ℕ) (n : Node) (u : End) → InsidesOfEnd T u → InsidesOf T n → InsidesOf T (with_end p u n)
  insides_with p (node c s ds ps) u h k = insides_set p ps u h k

  pub insides_child : (p : ℕ) (n : Node) (e : End) → end_at p (top_parts n) ≡ Some e → InsidesOf T n → InsidesOfEnd T e
  insides_child p (node c s ds ps) e h k = insides_end p ps e h k

-- Trees of a dressed forest.

pub node_set : (r : ℕ) (d : Nodes) (n m : Node) → node_at d r ≡ Some n → node_at (set_node r m d) r ≡ Some m
node_set r no_nodes n m h = absurd (none-some n h)
node_set zero (more x ns) n m h = refl
node_set (suc r) (more x ns) n m h = node_set r ns n m h

pub node_twice : (r : ℕ) (d : Nodes) (n m : Node) → set_node r n (set_node r m d) ≡ set_node r n d
node_twice r no_nodes n m = refl
node_twice zero (more x ns) n m = refl
node_twice (suc r) (more x ns) n m = ap (more x) (node_twice r ns n m)

pub node_same : (r : ℕ) (d : Nodes) (n : Node) → node_at d r ≡ Some n → set_node r n d ≡ d
node_same r no_nodes n h = refl
node_same zero (more x ns) n h = ap (λ (z : Node). more z ns) (sym (same_Some x n h))
node_same (suc r) (more x ns) n h = ap (more x) (node_same r ns n h)

pub other_node : (r : ℕ) (n : Node) (d : Nodes) (j : ℕ) → j ≢ r → node_at (set_node r n d) j ≡ node_at d j
other_node r n no_nodes j e = refl
other_node zero n (more x ns) zero e = absurd (e refl)
other_node zero n (more x ns) (suc j) e = refl
other_node (suc r) n (more x ns) zero e = refl
other_node (suc r) n (more x ns) (suc j) e = other_node r n ns j (λ w. e (ap (λ k. suc k) w))

pub set_count : (r : ℕ) (n : Node) (d : Nodes) → count (set_node r n d) ≡ count d
set_count r n no_nodes = refl
set_count zero n (more m ns) = refl
set_count (suc r) n (more m ns) = ap (λ z. suc z) (set_count r n ns)

-- a tree whose cell at the top has the same number leaves the roots as they are
pub roots_set : (r : ℕ) (d : Nodes) (n m : Node) → node_at d r ≡ Some n → number m ≡ number n
    → roots_of (set_node r m d) ≡ roots_of d
roots_set r no_nodes n m h e = refl
roots_set zero (more x ns) n m h e = ap (λ (z : ℕ). Cell z ∷ roots_of ns) (e ∙ ap number (sym (same_Some x n h)))
roots_set (suc r) (more x ns) n m h e = ap (λ (z : List Value). Cell (number x) ∷ z) (roots_set r ns n m h e)

pub node_less : (d : Nodes) (j : ℕ) (n : Node) → node_at d j ≡ Some n → j < count d
node_less no_nodes j n e = absurd (none-some n e)
node_less (more x ns) zero n e = omega arith
node_less (more x ns) (suc j) n e = let l = node_less ns j n e in omega (arith, l)

-- the same word of the crate below
pub last_is : (ns : Nodes) (m : Node) → with_last ns m ≡ grafting.with_last ns m
last_is no_nodes m = refl
last_is (more n ns) m = ap (more n) (last_is ns m)

pub last_count : (ns : Nodes) (m : Node) → count (with_last ns m) ≡ suc (count ns)
last_count no_nodes m = refl
last_count (more n ns) m = ap (λ k. suc k) (last_count ns m)

pub last_node : (ns : Nodes) (m : Node) → node_at (with_last ns m) (count ns) ≡ Some m
last_node no_nodes m = refl
last_node (more n ns) m = last_node ns m

pub first_node : (ns : Nodes) (m : Node) (j : ℕ) → j < count ns → node_at (with_last ns m) j ≡ node_at ns j
first_node no_nodes m j l = absurd (omega (arith, l))
first_node (more n ns) m zero l = refl
first_node (more n ns) m (suc j) l = first_node ns m j (omega (arith, l))
