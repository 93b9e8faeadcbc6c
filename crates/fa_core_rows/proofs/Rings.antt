-- Which cells are roots: two references, knots, and cells in fields of a shared root that refer to it.
use Rattle.std.proofs.Common.{◌≡◌, ◌≢◌, inl, inr, ℕ, zero, suc, [], ◌∷◌, refl, sym, ap, subst, ◌∙◌, Some}
use Rattle.std.proofs.Common.{slice_get, arith}
use Rattle.std.proofs.lemmas.Option.{none-some, same_Some}
use Rattle.fore_base.specs.Lists.{IsIn}
use Rattle.ta_core.specs.declared.symbol.Slot.TheVariants.{Field, Link, Hook}
use Rattle.ta_core.specs.declared.symbol.Symbol.{Symbol}
use Rattle.ta_core.specs.declared.symbol.Symbol.TheVariants.{Ref, Cell}
use Rattle.ta_core.specs.declared.tree.Tree.{Tree, out-Tree, out-roll-Tree}
use Rattle.fa_core.specs.declared.forest.Target.TheVariants.{At}
use Rattle.fa_core.specs.Canonical.{RefersTo, references, field_trees, IsShared, IsKnot, IsUntied}
use Rattle.fa_core.specs.Ways.{Way, ways}
use Rattle.fa_core.proofs.RowsBack.{null, opened, ref, cell}

-- Shared by references alone: two are enough, in one tree or in two.

abbrev twice : Tree
twice = cell (Field 0 ∷ Field 1 ∷ []) (ref 1 ∷ ref 1 ∷ [])

abbrev once : Tree
once = cell (Field 0 ∷ Field 1 ∷ []) (ref 1 ∷ null ∷ [])

abbrev way_root : Way → ℕ
way_root w = w.root

two_in_one : references (twice ∷ []) 1 ≡ 2
two_in_one = simp opened

two_in_two : references (once ∷ once ∷ []) 1 ≡ 2
two_in_two = simp opened

one_alone : references (once ∷ []) 1 ≡ 1
one_alone = simp opened

shared_in_one : IsShared [] (twice ∷ []) 1
shared_in_one = inr (let z = two_in_one in omega (arith, z))

shared_in_two : IsShared [] (once ∷ once ∷ []) 1
shared_in_two = inr (let z = two_in_two in omega (arith, z))

not_shared : IsShared [] (once ∷ []) 1 → ⊥
not_shared (inl i) = i
not_shared (inr l) = let z = one_alone in omega (arith, l, z)

-- Knots. A variable is at root 0.

-- root 0 refers to root 1 in a field, and root 1 back to root 0
abbrev above : Tree
above = cell (Field 0 ∷ []) (ref 1 ∷ [])

abbrev below : Tree
below = cell (Field 0 ∷ []) (ref 0 ∷ [])

above_fields : field_trees above ≡ ref 1 ∷ []
above_fields = let e = out-roll-Tree (record { symbol = Cell 0 [] (Field 0 ∷ []); children = ref 1 ∷ [] }) in rw e refl

below_fields : field_trees below ≡ ref 0 ∷ []
below_fields = let e = out-roll-Tree (record { symbol = Cell 0 [] (Field 0 ∷ []); children = ref 0 ∷ [] }) in rw e refl

ref_symbol : (r : ℕ) → (out-Tree (ref r)).symbol ≡ Ref r
ref_symbol r = let e = out-roll-Tree (record { symbol = Ref r; children = [] }) in rw e refl

below_ways : ways below ≡ record { root = 0; steps = record { slot = Field 0; refers = 0 ∷ [] } ∷ [] } ∷ []
below_ways = simp opened

one_reference : references (above ∷ below ∷ []) 1 ≡ 1
one_reference = simp opened

knot : IsKnot (At 0 ∷ []) (above ∷ below ∷ []) 1
knot = record {
  one = one_reference;
  from = 0;
  shared = inl (inl refl);
  above = above;
  is_above = refl;
  leaf = ref 1;
  in_field = (let e = above_fields in rw e (inl refl));
  refers = ref_symbol 1;
  own = below;
  is_own = refl;
  ties = (let e = below_ways in rw e (inl refl));
}

abbrev symbol_root : Symbol → ℕ
symbol_root (Ref r) = r
symbol_root y = 9

-- a tree that is the reference to root 0 refers to no other
other_reference : (t : Tree) → t ≡ ref 0 → (out-Tree t).symbol ≡ Ref 1 → ⊥
other_reference t e h =
    let z : 0 ≡ 1 = ap symbol_root (sym (ref_symbol 0) ∙ sym (ap (λ (x : Tree). (out-Tree x).symbol) e) ∙ h) in
    omega (arith, z)

-- where root 0 refers to root 1 by a box edge, there is no knot: the edge is no field
abbrev by_edge : Tree
by_edge = cell (Link 0 ∷ []) (ref 1 ∷ [])

edge_fields : field_trees by_edge ≡ []
edge_fields = let e = out-roll-Tree (record { symbol = Cell 0 [] (Link 0 ∷ []); children = ref 1 ∷ [] }) in rw e refl

no_knot_by_edge : IsKnot (At 0 ∷ []) (by_edge ∷ below ∷ []) 1 → ⊥
no_knot_by_edge h = by h.from h.is_above
  where
    by : (i : ℕ) → slice_get (by_edge ∷ below ∷ []) i ≡ Some h.above → ⊥
    by zero e =
        let f = edge_fields in
        rw f at (subst (λ (t : Tree). IsIn h.leaf (field_trees t)) (sym (same_Some by_edge h.above e)) h.in_field)
    by (suc zero) e =
        let f = below_fields in
        let s = sym (same_Some below h.above e) in
        elim (rw f at (subst (λ (t : Tree). IsIn h.leaf (field_trees t)) s h.in_field)) [
          | inl k ↦ other_reference h.leaf k h.refers
          | inr x ↦ x
        ]
    by (suc (suc i)) e = none-some h.above e

-- where root 1 does not refer back, there is none
abbrev loose : Tree
loose = cell (Field 0 ∷ []) (null ∷ [])

loose_ways : ways loose ≡ []
loose_ways = simp opened

no_knot_without_tie : IsKnot (At 0 ∷ []) (above ∷ loose ∷ []) 1 → ⊥
no_knot_without_tie h =
    let e = loose_ways in
    rw e at (subst (λ (t : Tree). RefersTo t h.from) (sym (same_Some loose h.own h.is_own)) h.ties)

-- Cells that are no roots. The cell below root 0 refers to it.

abbrev tied : Tree
tied = cell (Field 0 ∷ []) (below ∷ [])

tied_fields : field_trees tied ≡ below ∷ []
tied_fields = let e = out-roll-Tree (record { symbol = Cell 0 [] (Field 0 ∷ []); children = below ∷ [] }) in rw e refl

below_symbol : (out-Tree below).symbol ≡ Cell 0 [] (Field 0 ∷ [])
below_symbol = let e = out-roll-Tree (record { symbol = Cell 0 [] (Field 0 ∷ []); children = ref 0 ∷ [] }) in rw e refl

no_leaf : (out-Tree below).symbol ≢ Ref 0
no_leaf h = let z : 9 ≡ 0 = ap symbol_root (sym below_symbol ∙ h) in omega (arith, z)

-- in a field of a shared root it is a knot that is no root
not_untied : IsUntied (At 0 ∷ []) (tied ∷ []) → ⊥
not_untied h =
    let e = tied_fields in
    let w = below_ways in
    h 0 tied below (inl (inl refl)) refl (rw e (inl refl)) no_leaf (rw w (inl refl))

-- a Hook before the field hides nothing: the cell is a knot, and is no root
abbrev behind_hook : Tree
behind_hook = cell (Hook 0 ∷ Field 1 ∷ []) (below ∷ [])

behind_hook_fields : field_trees behind_hook ≡ below ∷ []
behind_hook_fields =
    let e = out-roll-Tree (record { symbol = Cell 0 [] (Hook 0 ∷ Field 1 ∷ []); children = below ∷ [] }) in rw e refl

not_untied_behind_hook : IsUntied (At 0 ∷ []) (behind_hook ∷ []) → ⊥
not_untied_behind_hook h =
    let e = behind_hook_fields in
    let w = below_ways in
    h 0 behind_hook below (inl (inl refl)) refl (rw e (inl refl)) no_leaf (rw w (inl refl))

-- cut into two roots
abbrev above_behind_hook : Tree
above_behind_hook = cell (Hook 0 ∷ Field 1 ∷ []) (ref 1 ∷ [])

reference_behind_hook : field_trees above_behind_hook ≡ ref 1 ∷ []
reference_behind_hook =
    let e = out-roll-Tree (record { symbol = Cell 0 [] (Hook 0 ∷ Field 1 ∷ []); children = ref 1 ∷ [] }) in rw e refl

one_reference_behind_hook : references (above_behind_hook ∷ below ∷ []) 1 ≡ 1
one_reference_behind_hook = simp opened

knot_behind_hook : IsKnot (At 0 ∷ []) (above_behind_hook ∷ below ∷ []) 1
knot_behind_hook = record {
  one = one_reference_behind_hook;
  from = 0;
  shared = inl (inl refl);
  above = above_behind_hook;
  is_above = refl;
  leaf = ref 1;
  in_field = (let e = reference_behind_hook in rw e (inl refl));
  refers = ref_symbol 1;
  own = below;
  is_own = refl;
  ties = (let e = below_ways in rw e (inl refl));
}

-- below a box edge it is none
abbrev below_edge : Tree
below_edge = cell (Link 0 ∷ []) (below ∷ [])

below_edge_fields : field_trees below_edge ≡ []
below_edge_fields = let e = out-roll-Tree (record { symbol = Cell 0 [] (Link 0 ∷ []); children = below ∷ [] }) in
    rw e refl

untied_by_edge : IsUntied (At 0 ∷ []) (below_edge ∷ [])
untied_by_edge zero t u s g i n h =
    let e = below_edge_fields in
    rw e at (subst (λ (x : Tree). IsIn u (field_trees x)) (sym (same_Some below_edge t g)) i)
untied_by_edge (suc r) t u s g i n h = none-some t g

-- a field that is the reference to the root itself is no cell
untied_by_leaf : IsUntied (At 0 ∷ []) (below ∷ [])
untied_by_leaf zero t u s g i n h =
    let e = below_fields in
    elim (rw e at (subst (λ (x : Tree). IsIn u (field_trees x)) (sym (same_Some below t g)) i)) [
      | inl k ↦ n (ap (λ (x : Tree). (out-Tree x).symbol) k ∙ ref_symbol 0)
      | inr x ↦ x
    ]
untied_by_leaf (suc r) t u s g i n h = none-some t g

-- root 0 without a variable has one reference, so its fields are not looked at
tied_once : references (tied ∷ []) 0 ≡ 1
tied_once = simp opened

untied_unshared : IsUntied [] (tied ∷ [])
untied_unshared zero t u (inl s) g i n h = s
untied_unshared zero t u (inr l) g i n h = let z = tied_once in omega (arith, l, z)
untied_unshared (suc r) t u s g i n h = none-some t g
