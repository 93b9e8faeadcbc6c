-- Which box edges are left as they stood, on a forest of two cells with a Link from the one to the other.
use Rattle.std.proofs.Common.{◌≡◌, inl, inr, ℕ, [], ◌∷◌, refl, sym, ap, subst, arith}
use Rattle.fore_base.specs.Lists.{IsIn}
use Rattle.fore_base.specs.declared.store.Value.TheVariants.{Null, Cell}
use Rattle.fa_core.specs.Dressed.{Nodes, Seen, SeenField, SeenLink, SeenHook, SeenCell, cells, node, no_parts, field}
use Rattle.fa_core.specs.Dressed.{link, leaf, no_nodes, more}
use Rattle.fa_core.specs.declared.forest.Target.TheVariants.{Null as NullTarget, At}
use Rattle.c_cfg.specs.declared.graph.Instr.TheVariants.{CopyPtr, LoadPtr}
use Rattle.c_cfg.specs.declared.graph.PtrArg.TheVariants.{Null as PtrNull}
use Rattle.sym_core.specs.Kept.{IsExcepted}
use Rattle.sym_core.specs.Refined.{StandsAt, LeavesEdges}
use Rattle.sym_core_rows.proofs.Kept.{bs, before, edge, seven, store, one_edge, read_where_it_covers}
use Rattle.sym_core_rows.proofs.Kept.{copy_excepts_nothing, other_field_at_input}

-- the edge of cell 7 is opened: fields of both cells stand in its place
abbrev shown : Nodes
shown =
    more (node 7 0 [] (field 0 (leaf (At 1)) (field 1 (leaf NullTarget) no_parts)))
    (more (node 4 0 [] (field 0 (leaf NullTarget) (field 1 (leaf (At 0)) no_parts))) no_nodes)

-- the roots in the other order, and nothing else is changed
abbrev turned : Nodes
turned =
    more (node 4 0 [] (field 0 (leaf NullTarget) no_parts))
    (more (node 7 0 [] (link 0 no_nodes (leaf (At 0)) (field 1 (leaf NullTarget) no_parts))) no_nodes)

-- the edge has another inside, ends elsewhere, or stands at the other cell
abbrev other_inside : Nodes
other_inside =
    more (node 7 0 [] (link 0 (more (node 0 0 [] no_parts) no_nodes) (leaf (At 1)) no_parts))
    (more (node 4 0 [] no_parts) no_nodes)

abbrev other_end : Nodes
other_end =
    more (node 7 0 [] (link 0 no_nodes (leaf (At 0)) no_parts)) (more (node 4 0 [] no_parts) no_nodes)

abbrev other_cell : Nodes
other_cell = more (node 4 0 [] (link 0 no_nodes (leaf (At 0)) no_parts)) (more (node 7 0 [] no_parts) no_nodes)

-- Left.

left_in_place : LeavesEdges bs (CopyPtr 0 PtrNull) store before before
left_in_place c j x k b e n = (c, j, refl, k)

-- the end is the same cell under another number of its root
left_in_another_order : LeavesEdges bs (CopyPtr 0 PtrNull) store before turned
left_in_another_order c j x k b e n =
    let w = one_edge c x b j k e in
    let p = w.0 in
    let q = w.1 in
    rw (p, q) (
      record { cell = 7; shape = 0; datums = []; slots = edge ∷ SeenField 1 Null ∷ [] },
      inr (inl refl),
      refl,
      inl refl,
    )

-- an edge that is needed may go
opened_where_needed : LeavesEdges bs (LoadPtr 5 0 0) store before shown
opened_where_needed c j x k b e n =
    let w = one_edge c x b j k e in
    absurd (n (subst (λ (o : SeenCell). IsExcepted bs (LoadPtr 5 0 0) store o x) (sym w.0)
    (subst (λ (y : Seen). IsExcepted bs (LoadPtr 5 0 0) store seven y) (sym w.1) read_where_it_covers)))

-- Not left.

abbrev is_link : Seen → ℕ
is_link (SeenField f v) = 0
is_link (SeenLink b inside v) = 1
is_link (SeenHook b inside) = 2

abbrev end_of : Seen → ℕ
end_of (SeenLink b inside (Cell n)) = n
end_of x = 99

abbrev insides : Seen → ℕ
insides (SeenLink b no_nodes v) = 0
insides x = 1

opened_without_need : LeavesEdges bs (CopyPtr 0 PtrNull) store before shown → ⊥
opened_without_need h = none (h seven (inl refl) edge (inl refl) 0 refl copy_excepts_nothing)
  where
    none : StandsAt (cells shown) 7 edge → ⊥
    none (c, inl e, n, i) = slots (subst (λ (o : SeenCell). IsIn edge o.slots) e i)
      where
        slots : IsIn edge (SeenField 0 (Cell 4) ∷ SeenField 1 Null ∷ []) → ⊥
        slots (inl f) = let z : 1 ≡ 0 = ap is_link f in omega (arith, z)
        slots (inr (inl f)) = let z : 1 ≡ 0 = ap is_link f in omega (arith, z)
        slots (inr (inr z)) = z
    none (c, inr (inl e), n, i) =
        let z : 4 ≡ 7 = subst (λ (o : SeenCell). o.cell ≡ 7) e n in omega (arith, z)
    none (c, inr (inr z), n, i) = z

opened_for_another_field : LeavesEdges bs (LoadPtr 5 0 1) store before other_cell → ⊥
opened_for_another_field h = none (h seven (inl refl) edge (inl refl) 0 refl other_field_at_input)
  where
    none : StandsAt (cells other_cell) 7 edge → ⊥
    none (c, inl e, n, i) =
        let z : 4 ≡ 7 = subst (λ (o : SeenCell). o.cell ≡ 7) e n in omega (arith, z)
    none (c, inr (inl e), n, i) = subst (λ (o : SeenCell). IsIn edge o.slots) e i
    none (c, inr (inr z), n, i) = z

with_another_inside : LeavesEdges bs (CopyPtr 0 PtrNull) store before other_inside → ⊥
with_another_inside h = none (h seven (inl refl) edge (inl refl) 0 refl copy_excepts_nothing)
  where
    none : StandsAt (cells other_inside) 7 edge → ⊥
    none (c, inl e, n, i) = slots (subst (λ (o : SeenCell). IsIn edge o.slots) e i)
      where
        slots : IsIn edge (SeenLink 0 (more (node 0 0 [] no_parts) no_nodes) (Cell 4) ∷ []) → ⊥
        slots (inl f) = let z : 0 ≡ 1 = ap insides f in omega (arith, z)
        slots (inr z) = z
    none (c, inr (inl e), n, i) = subst (λ (o : SeenCell). IsIn edge o.slots) e i
    none (c, inr (inr z), n, i) = z

with_another_end : LeavesEdges bs (CopyPtr 0 PtrNull) store before other_end → ⊥
with_another_end h = none (h seven (inl refl) edge (inl refl) 0 refl copy_excepts_nothing)
  where
    none : StandsAt (cells other_end) 7 edge → ⊥
    none (c, inl e, n, i) = slots (subst (λ (o : SeenCell). IsIn edge o.slots) e i)
      where
        slots : IsIn edge (SeenLink 0 no_nodes (Cell 7) ∷ []) → ⊥
        slots (inl f) = let z : 4 ≡ 7 = ap end_of f in omega (arith, z)
        slots (inr z) = z
    none (c, inr (inl e), n, i) = subst (λ (o : SeenCell). IsIn edge o.slots) e i
    none (c, inr (inr z), n, i) = z
