-- Which box edges an edge of a graph keeps, on a forest of two cells with a Link from the one to the other.
use Rattle.std.proofs.Common.{◌≡◌, ◌⊎◌, inl, inr, ℕ, ◌+◌, true, false, List, [], ◌∷◌, refl, sym, ap, subst, ◌∙◌, Option}
use Rattle.std.proofs.Common.{Some}
use Rattle.std.proofs.Common.{None, arith}
use Rattle.std.proofs.lemmas.Option.{none-some}
use Rattle.fore_base.specs.Lists.{IsIn}
use Rattle.fore_base.specs.Stores.{var_of}
use Rattle.fore_base.specs.declared.store.Store.{Store}
use Rattle.fore_base.specs.declared.store.Value.{Value}
use Rattle.fore_base.specs.declared.store.Value.TheVariants.{Null, Dangling, Cell}
use Rattle.fa_core.specs.declared.faces.BoxFace.{BoxFace}
use Rattle.fa_core.specs.declared.forest.Target.TheVariants.{Null as NullTarget, Dangling as DanglingTarget, At}
use Rattle.fa_core.specs.Dressed.{Nodes, Seen, SeenField, SeenLink, SeenHook, SeenCell, cells, node, no_parts, field}
use Rattle.fa_core.specs.Dressed.{link, hook, leaf}
use Rattle.fa_core.specs.Dressed.{no_nodes, more}
use Rattle.c_cfg.specs.declared.graph.Const.TheVariants.{Null as ConstNull}
use Rattle.c_cfg.specs.declared.graph.Instr.{Instr}
use Rattle.c_cfg.specs.declared.graph.Instr.TheVariants.{CopyPtr, LoadPtr, StorePtr, StoreConst, Free, LoadData}
use Rattle.c_cfg.specs.declared.graph.PtrArg.TheVariants.{Null as PtrNull}
use Rattle.sym_core.specs.Kept.{base_of, Needs, Frees, CoversAt, GivesAt, IsEdgeOf, IsExcepted, HasBoxEdge, KeepsEdges}

-- Box 0 covers field 0 at its input and gives its output field 1; box 1, which has no output, covers field 2; box 2
-- covers field 0 and gives its output nothing. Cell 7 has the edge of box 0, which ends at cell 4; variable 0 is at
-- cell 7, variable 1 at cell 4, variable 2 is null, and variable 3 is at another cell, 9.

abbrev pub bs : List BoxFace
bs = record { input = 0; output = Some 0; gives_in = 0 ∷ []; gives_out = 1 ∷ []; back = true }
    ∷ record { input = 0; output = None; gives_in = 2 ∷ []; gives_out = []; back = false }
    ∷ record { input = 0; output = Some 0; gives_in = 0 ∷ []; gives_out = []; back = false } ∷ []

abbrev pub before : Nodes
before =
    more (node 7 0 [] (link 0 no_nodes (leaf (At 1)) (field 1 (leaf NullTarget) no_parts)))
    (more (node 4 0 [] (field 0 (leaf NullTarget) no_parts)) no_nodes)

abbrev pub edge : Seen
edge = SeenLink 0 no_nodes (Cell 4)

abbrev pub seven : SeenCell
seven = record { cell = 7; shape = 0; datums = []; slots = edge ∷ SeenField 1 Null ∷ [] }

abbrev pub four : SeenCell
four = record { cell = 4; shape = 0; datums = []; slots = SeenField 0 Null ∷ [] }

cells_before : cells before ≡ seven ∷ four ∷ []
cells_before = refl

abbrev pub store : Store
store = record { vars = Cell 7 ∷ Cell 4 ∷ Null ∷ Cell 9 ∷ []; data_vars = []; cells = []; next = 10 }

-- each cell has ten more behind the graph's edge
abbrev to : ℕ → ℕ
to n = n + 10

abbrev after : Nodes
after =
    more (node 17 0 [] (link 0 no_nodes (leaf (At 1)) (field 1 (leaf NullTarget) no_parts)))
    (more (node 14 0 [] (field 0 (leaf NullTarget) no_parts)) no_nodes)

-- the edge is opened: fields are in its place
abbrev opened : Nodes
opened =
    more (node 17 0 [] (field 0 (leaf (At 1)) (field 1 (leaf NullTarget) no_parts)))
    (more (node 14 0 [] (field 0 (leaf NullTarget) (field 1 (leaf (At 0)) no_parts))) no_nodes)

-- the edge stands at the other cell
abbrev moved : Nodes
moved =
    more (node 17 0 [] (field 0 (leaf (At 1)) (field 1 (leaf NullTarget) no_parts)))
    (more (node 14 0 [] (link 0 no_nodes (leaf (At 0)) no_parts)) no_nodes)

-- the one box edge of the forest
pub one_edge : (c : SeenCell) (x : Seen) (b : ℕ) → IsIn c (cells before) → IsIn x c.slots → IsEdgeOf b x
    → (c ≡ seven) × (x ≡ edge) × (b ≡ 0)
one_edge c x b (inl e) j k = slot (subst (λ (o : SeenCell). IsIn x o.slots) e j)
  where
    slot : IsIn x (edge ∷ SeenField 1 Null ∷ []) → (c ≡ seven) × (x ≡ edge) × (b ≡ 0)
    slot (inl f) = (e, f, sym (subst (λ (y : Seen). IsEdgeOf b y) f k))
    slot (inr (inl f)) = absurd (subst (λ (y : Seen). IsEdgeOf b y) f k)
    slot (inr (inr z)) = absurd z
one_edge c x b (inr (inl e)) j k = slot (subst (λ (o : SeenCell). IsIn x o.slots) e j)
  where
    slot : IsIn x (SeenField 0 Null ∷ []) → (c ≡ seven) × (x ≡ edge) × (b ≡ 0)
    slot (inl f) = absurd (subst (λ (y : Seen). IsEdgeOf b y) f k)
    slot (inr z) = absurd z
one_edge c x b (inr (inr z)) j k = absurd z

-- Excepted edges.

-- cell 7, at which the edge begins, is freed
freed_at_input : IsExcepted bs (Free 0) store seven edge
freed_at_input = record { base = 0; is_base = refl; cell = 7; is_cell = refl; why = inl (tt, refl) }

-- cell 4, at which it ends, is freed: the edge gives field 1 there
freed_at_output : IsExcepted bs (Free 1) store seven edge
freed_at_output = record { base = 1; is_base = refl; cell = 4; is_cell = refl; why = inr (1, tt, inr (refl, inl refl)) }

-- field 0 of cell 7, which the edge covers, is read, or null is written into it
pub read_where_it_covers : IsExcepted bs (LoadPtr 5 0 0) store seven edge
read_where_it_covers = record {
  base = 0;
  is_base = refl;
  cell = 7;
  is_cell = refl;
  why = inr (0, refl, inl (refl, inl refl));
}

written_where_it_covers : IsExcepted bs (StoreConst 0 0 ConstNull) store seven edge
written_where_it_covers = record {
  base = 0;
  is_base = refl;
  cell = 7;
  is_cell = refl;
  why = inr (0, refl, inl (refl, inl refl));
}

-- field 1 of cell 4, which the edge gives, is read, or written
read_where_it_gives : IsExcepted bs (LoadPtr 5 1 1) store seven edge
read_where_it_gives = record {
  base = 1;
  is_base = refl;
  cell = 4;
  is_cell = refl;
  why = inr (1, refl, inr (refl, inl refl));
}

written_where_it_gives : IsExcepted bs (StorePtr 1 1 2) store seven edge
written_where_it_gives = record {
  base = 1;
  is_base = refl;
  cell = 4;
  is_cell = refl;
  why = inr (1, refl, inr (refl, inl refl));
}

-- Edges that are not excepted.

abbrev or_nine : Option ℕ → ℕ
or_nine None = 9
or_nine (Some n) = n

abbrev cell_number : Value → ℕ
cell_number (Cell n) = n
cell_number v = 99

abbrev Why : SeenCell → Seen → Instr → ℕ → Type 0
Why c x i n = (Frees i × (c.cell ≡ n))
    ⊎ ((g : ℕ) × Needs i g × (((c.cell ≡ n) × CoversAt bs x g) ⊎ GivesAt bs x n g))

-- the cause, with the cell of the variable that is the base
cause : (c : SeenCell) (x : Seen) (i : Instr) (b n : ℕ) → base_of i ≡ Some b → var_of store b ≡ Cell n
    → IsExcepted bs i store c x → Why c x i n
cause c x i b n e v h =
    let same : h.base ≡ b = ap or_nine (sym h.is_base ∙ e) in
    let cell : h.cell ≡ n = ap cell_number (sym h.is_cell ∙ ap (λ (x : ℕ). var_of store x) same ∙ v) in
    subst (λ (m : ℕ). Why c x i m) cell h.why

-- field 1 of cell 7: the edge gives it to cell 4, and covers field 0 here
pub other_field_at_input : IsExcepted bs (LoadPtr 5 0 1) store seven edge → ⊥
other_field_at_input h = by (cause seven edge (LoadPtr 5 0 1) 0 7 refl refl h)
  where
    by : Why seven edge (LoadPtr 5 0 1) 7 → ⊥
    by (inl w) = w.0
    by (inr (g, n, inl (c, inl e))) = omega (arith, n, e)
    by (inr (g, n, inl (c, inr x))) = x
    by (inr (g, n, inr (e, i))) = let z : 4 ≡ 7 = ap cell_number e in omega (arith, z)

-- field 0 of cell 4: the edge covers it at cell 7, and gives field 1 here
other_field_at_output : IsExcepted bs (LoadPtr 5 1 0) store seven edge → ⊥
other_field_at_output h = by (cause seven edge (LoadPtr 5 1 0) 1 4 refl refl h)
  where
    by : Why seven edge (LoadPtr 5 1 0) 4 → ⊥
    by (inl w) = w.0
    by (inr (g, n, inl (c, i))) = omega (arith, c)
    by (inr (g, n, inr (e, inl i))) = omega (arith, n, i)
    by (inr (g, n, inr (e, inr x))) = x

-- a datum of cell 7 is read
datum_read : IsExcepted bs (LoadData 5 0 0) store seven edge → ⊥
datum_read h = by (cause seven edge (LoadData 5 0 0) 0 7 refl refl h)
  where
    by : Why seven edge (LoadData 5 0 0) 7 → ⊥
    by (inl w) = w.0
    by (inr (g, n, w)) = n

-- variable 2 is null, so no cell is read
at_no_cell : IsExcepted bs (LoadPtr 5 2 0) store seven edge → ⊥
at_no_cell h =
    let same : h.base ≡ 2 = ap or_nine (sym h.is_base) in
    by h.cell (ap (λ (x : ℕ). var_of store x) (sym same) ∙ h.is_cell)
  where
    kind : Value → ℕ
    kind (Cell n) = 1
    kind v = 0

    by : (n : ℕ) → Null ≡ Cell n → ⊥
    by n e = let z : 0 ≡ 1 = ap (λ (v : Value). kind v) e in omega (arith, z)

-- a copy of a pointer has no base
copy_excepts : (c : SeenCell) (x : Seen) → IsExcepted bs (CopyPtr 0 PtrNull) store c x → ⊥
copy_excepts c x h = none-some h.base h.is_base

pub copy_excepts_nothing : IsExcepted bs (CopyPtr 0 PtrNull) store seven edge → ⊥
copy_excepts_nothing h = copy_excepts seven edge h

-- another cell is freed
freed_elsewhere : IsExcepted bs (Free 3) store seven edge → ⊥
freed_elsewhere h = by (cause seven edge (Free 3) 3 9 refl refl h)
  where
    by : Why seven edge (Free 3) 9 → ⊥
    by (inl w) = let z : 7 ≡ 9 = w.1 in omega (arith, z)
    by (inr (g, n, inl (c, i))) = omega (arith, c)
    by (inr (g, n, inr (e, i))) = let z : 4 ≡ 9 = ap cell_number e in omega (arith, z)

-- A Hook of box 1 at cell 9: it covers field 2 there, and gives nothing.

abbrev hook_edge : Seen
hook_edge = SeenHook 1 no_nodes

abbrev nine : SeenCell
nine = record { cell = 9; shape = 0; datums = []; slots = hook_edge ∷ [] }

hook_read_where_it_covers : IsExcepted bs (LoadPtr 5 3 2) store nine hook_edge
hook_read_where_it_covers = record {
  base = 3;
  is_base = refl;
  cell = 9;
  is_cell = refl;
  why = inr (2, refl, inl (refl, inl refl));
}

hook_at_another_field : IsExcepted bs (LoadPtr 5 3 0) store nine hook_edge → ⊥
hook_at_another_field h = by (cause nine hook_edge (LoadPtr 5 3 0) 3 9 refl refl h)
  where
    by : Why nine hook_edge (LoadPtr 5 3 0) 9 → ⊥
    by (inl w) = w.0
    by (inr (g, n, inl (c, inl e))) = omega (arith, n, e)
    by (inr (g, n, inl (c, inr x))) = x
    by (inr (g, n, inr x)) = x

-- A field is no box edge, covers nothing as one, and gives nothing.

field_is_no_edge : IsEdgeOf 0 (SeenField 0 Null) → ⊥
field_is_no_edge h = h

field_covers_nothing : CoversAt bs (SeenField 0 Null) 0 → ⊥
field_covers_nothing h = h

field_gives_nothing : GivesAt bs (SeenField 1 (Cell 4)) 4 1 → ⊥
field_gives_nothing h = h

hook_gives_nothing : GivesAt bs hook_edge 9 1 → ⊥
hook_gives_nothing h = h

hook_of_its_box : IsEdgeOf 1 hook_edge
hook_of_its_box = refl

-- Kept.

-- the edge stands behind it as before
kept : (i : Instr) → KeepsEdges bs i store to before after
kept i c j x k b e n =
    let w = one_edge c x b j k e in
    let p = w.0 in
    let q = w.2 in
    rw (p, q) (
      record { cell = 17; shape = 0; datums = []; slots = SeenLink 0 no_nodes (Cell 14) ∷ SeenField 1 Null ∷ [] },
      inl refl,
      refl,
      (SeenLink 0 no_nodes (Cell 14), inl refl, refl),
    )

-- it may be opened where it is excepted
opened_where_needed : KeepsEdges bs (LoadPtr 5 0 0) store to before opened
opened_where_needed c j x k b e n =
    let w = one_edge c x b j k e in
    absurd (n (subst (λ (o : SeenCell). IsExcepted bs (LoadPtr 5 0 0) store o x) (sym w.0)
    (subst (λ (y : Seen). IsExcepted bs (LoadPtr 5 0 0) store seven y) (sym w.1) read_where_it_covers)))

abbrev no_edge_there : Nodes → Type 0
no_edge_there d = HasBoxEdge (cells d) 17 0 → ⊥

none_opened : no_edge_there opened
none_opened (c, inl e, n, (x, j, k)) = slots (subst (λ (o : SeenCell). IsIn x o.slots) e j)
  where
    slots : IsIn x (SeenField 0 (Cell 14) ∷ SeenField 1 Null ∷ []) → ⊥
    slots (inl f) = subst (λ (y : Seen). IsEdgeOf 0 y) f k
    slots (inr (inl f)) = subst (λ (y : Seen). IsEdgeOf 0 y) f k
    slots (inr (inr z)) = z
none_opened (c, inr (inl e), n, (x, j, k)) = let z : 14 ≡ 17 =
    subst (λ (o : SeenCell). o.cell ≡ 17) e n in omega (arith, z)
none_opened (c, inr (inr z), n, w) = z

none_moved : no_edge_there moved
none_moved (c, inl e, n, (x, j, k)) = slots (subst (λ (o : SeenCell). IsIn x o.slots) e j)
  where
    slots : IsIn x (SeenField 0 (Cell 14) ∷ SeenField 1 Null ∷ []) → ⊥
    slots (inl f) = subst (λ (y : Seen). IsEdgeOf 0 y) f k
    slots (inr (inl f)) = subst (λ (y : Seen). IsEdgeOf 0 y) f k
    slots (inr (inr z)) = z
none_moved (c, inr (inl e), n, (x, j, k)) = let z : 14 ≡ 17 =
    subst (λ (o : SeenCell). o.cell ≡ 17) e n in omega (arith, z)
none_moved (c, inr (inr z), n, w) = z

-- and nowhere else: not where nothing is needed, not where another field is
opened_without_need : KeepsEdges bs (CopyPtr 0 PtrNull) store to before opened → ⊥
opened_without_need h = none_opened (h seven (inl refl) edge (inl refl) 0 refl copy_excepts_nothing)

opened_for_another_field : KeepsEdges bs (LoadPtr 5 0 1) store to before opened → ⊥
opened_for_another_field h = none_opened (h seven (inl refl) edge (inl refl) 0 refl other_field_at_input)

-- an edge of that box at another cell is not the edge
moved_without_need : KeepsEdges bs (CopyPtr 0 PtrNull) store to before moved → ⊥
moved_without_need h = none_moved (h seven (inl refl) edge (inl refl) 0 refl copy_excepts_nothing)

-- nor is an edge of another box
abbrev other_box : Nodes
other_box = more (node 17 0 [] (hook 1 no_nodes (field 1 (leaf NullTarget) no_parts))) no_nodes

none_other : no_edge_there other_box
none_other (c, inl e, n, (x, j, k)) = slots (subst (λ (o : SeenCell). IsIn x o.slots) e j)
  where
    slots : IsIn x (SeenHook 1 no_nodes ∷ SeenField 1 Null ∷ []) → ⊥
    slots (inl f) = let z : 1 ≡ 0 = subst (λ (y : Seen). IsEdgeOf 0 y) f k in omega (arith, z)
    slots (inr (inl f)) = subst (λ (y : Seen). IsEdgeOf 0 y) f k
    slots (inr (inr z)) = z
none_other (c, inr z, n, w) = z

other_box_without_need : KeepsEdges bs (CopyPtr 0 PtrNull) store to before other_box → ⊥
other_box_without_need h = none_other (h seven (inl refl) edge (inl refl) 0 refl copy_excepts_nothing)

-- A Hook is an edge too.

abbrev hooked : Nodes
hooked = more (node 9 0 [] (hook 1 no_nodes no_parts)) no_nodes

abbrev still_hooked : Nodes
still_hooked = more (node 19 0 [] (hook 1 no_nodes no_parts)) no_nodes

abbrev unhooked : Nodes
unhooked = more (node 19 0 [] (field 2 (leaf NullTarget) no_parts)) no_nodes

hook_dropped_without_need : KeepsEdges bs (CopyPtr 0 PtrNull) store to hooked unhooked → ⊥
hook_dropped_without_need h = none (h nine (inl refl) hook_edge (inl refl) 1 refl (copy_excepts nine hook_edge))
  where
    none : HasBoxEdge (cells unhooked) 19 1 → ⊥
    none (c, inl e, n, (x, j, k)) = slots (subst (λ (o : SeenCell). IsIn x o.slots) e j)
      where
        slots : IsIn x (SeenField 2 Null ∷ []) → ⊥
        slots (inl f) = subst (λ (y : Seen). IsEdgeOf 1 y) f k
        slots (inr z) = z
    none (c, inr z, n, w) = z

hook_edges : (c : SeenCell) (x : Seen) (b : ℕ) → IsIn c (cells hooked) → IsIn x c.slots → IsEdgeOf b x
    → (c ≡ nine) × (b ≡ 1)
hook_edges c x b (inl e) j k = slot (subst (λ (o : SeenCell). IsIn x o.slots) e j)
  where
    slot : IsIn x (hook_edge ∷ []) → (c ≡ nine) × (b ≡ 1)
    slot (inl f) = (e, sym (subst (λ (y : Seen). IsEdgeOf b y) f k))
    slot (inr z) = absurd z
hook_edges c x b (inr z) j k = absurd z

hook_kept : KeepsEdges bs (CopyPtr 0 PtrNull) store to hooked still_hooked
hook_kept c j x k b e n =
    let w = hook_edges c x b j k e in
    let p = w.0 in
    let q = w.1 in
    rw (p, q) (
      record { cell = 19; shape = 0; datums = []; slots = hook_edge ∷ [] },
      inl refl,
      refl,
      (hook_edge, inl refl, refl),
    )

-- A Link of box 2, which gives nothing, ends at the freed cell: it is kept, and ends in Dangling.

abbrev idle_edge : Seen
idle_edge = SeenLink 2 no_nodes (Cell 4)

abbrev idle_seven : SeenCell
idle_seven = record { cell = 7; shape = 0; datums = []; slots = idle_edge ∷ [] }

abbrev idle : Nodes
idle = more (node 7 0 [] (link 2 no_nodes (leaf (At 1)) no_parts)) (more (node 4 0 [] no_parts) no_nodes)

abbrev dangling_end : Nodes
dangling_end = more (node 17 0 [] (link 2 no_nodes (leaf DanglingTarget) no_parts)) no_nodes

abbrev no_link : Nodes
no_link = more (node 17 0 [] (field 0 (leaf DanglingTarget) no_parts)) no_nodes

idle_not_excepted : IsExcepted bs (Free 1) store idle_seven idle_edge → ⊥
idle_not_excepted h = by (cause idle_seven idle_edge (Free 1) 1 4 refl refl h)
  where
    by : Why idle_seven idle_edge (Free 1) 4 → ⊥
    by (inl w) = let z : 7 ≡ 4 = w.1 in omega (arith, z)
    by (inr (g, n, inl (c, i))) = omega (arith, c)
    by (inr (g, n, inr (e, i))) = i

idle_edges : (c : SeenCell) (x : Seen) (b : ℕ) → IsIn c (cells idle) → IsIn x c.slots → IsEdgeOf b x
    → (c ≡ idle_seven) × (b ≡ 2)
idle_edges c x b (inl e) j k = slot (subst (λ (o : SeenCell). IsIn x o.slots) e j)
  where
    slot : IsIn x (idle_edge ∷ []) → (c ≡ idle_seven) × (b ≡ 2)
    slot (inl f) = (e, sym (subst (λ (y : Seen). IsEdgeOf b y) f k))
    slot (inr z) = absurd z
idle_edges c x b (inr (inl e)) j k = absurd (subst (λ (o : SeenCell). IsIn x o.slots) e j)
idle_edges c x b (inr (inr z)) j k = absurd z

idle_kept : KeepsEdges bs (Free 1) store to idle dangling_end
idle_kept c j x k b e n =
    let w = idle_edges c x b j k e in
    let p = w.0 in
    let q = w.1 in
    rw (p, q) (
      record { cell = 17; shape = 0; datums = []; slots = SeenLink 2 no_nodes Dangling ∷ [] },
      inl refl,
      refl,
      (SeenLink 2 no_nodes Dangling, inl refl, refl),
    )

idle_dropped : KeepsEdges bs (Free 1) store to idle no_link → ⊥
idle_dropped h = none (h idle_seven (inl refl) idle_edge (inl refl) 2 refl idle_not_excepted)
  where
    none : HasBoxEdge (cells no_link) 17 2 → ⊥
    none (c, inl e, n, (x, j, k)) = slots (subst (λ (o : SeenCell). IsIn x o.slots) e j)
      where
        slots : IsIn x (SeenField 0 Dangling ∷ []) → ⊥
        slots (inl f) = subst (λ (y : Seen). IsEdgeOf 2 y) f k
        slots (inr z) = z
    none (c, inr z, n, w) = z
