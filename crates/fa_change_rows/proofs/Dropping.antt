-- Roots that can be dropped, the stores that are left, and forests whose members leak. There is one struct, without
-- fields, and no box.
use Rattle.std.proofs.Common.{◌≡◌, inl, inr, ℕ, List, [], ◌∷◌, refl, sym, ap, subst, ◌∙◌, arith}
use Rattle.std.proofs.Common.{Option, Some, None, if◌then◌else◌, map, true≢false, slice_get}
use Rattle.std.proofs.lemmas.Bool.{eq-eqb}
use Rattle.std.proofs.lemmas.Option.{none-some, same_Some}
use Rattle.fore_base.specs.Heap.{IsAlike, Leaked, Reach, by_var, by_field, value_renamed}
use Rattle.fore_base.specs.Lists.{IsIn}
use Rattle.fore_base.specs.Stores.{dangle}
use Rattle.fore_base.specs.declared.store.CellRec.{CellRec}
use Rattle.fore_base.specs.declared.store.Store.{Store}
use Rattle.fore_base.specs.declared.store.Value.{Value}
use Rattle.fore_base.specs.declared.store.Value.TheVariants.{Null as NullValue, Dangling as DanglingValue}
use Rattle.fore_base.specs.declared.store.Value.TheVariants.{Cell as CellValue}
use Rattle.ta_core.specs.declared.symbol.Slot.TheVariants.{Field, Hook}
use Rattle.ta_core.specs.declared.symbol.Symbol.TheVariants.{Cell}
use Rattle.ta_core.specs.declared.tree.Tree.{Tree, roll-Tree, out-roll-Tree}
use Rattle.fa_core.specs.Boxes.{IsTableOf}
use Rattle.fa_core.specs.declared.boxes.BoxDef.{BoxDef}
use Rattle.fa_core.specs.declared.faces.Face.{Face}
use Rattle.fa_core.specs.declared.forest.Forest.{Forest}
use Rattle.fa_core.specs.declared.forest.Target.{Target}
use Rattle.fa_core.specs.declared.forest.Target.TheVariants.{Null as NullTarget, Dangling as DanglingTarget, At}
use Rattle.fa_core.specs.Dressed.{Node, Nodes, node, no_parts, no_nodes, more, number, facts}
use Rattle.fa_core.specs.Filled.{Choice, given_at}
use Rattle.fa_core.specs.Member.{OfForest, StandsBy, bare, store_facts}
use Rattle.fa_core.specs.Rearranged.{Rearranged, empty, keep}
use Rattle.fa_core.proofs.Rearranging.{long_same}
use Rattle.fa_core.proofs.RowsBack.{opened}
use Rattle.fa_core.proofs.RowsForests.{bare_cell, bare_runs}
use Rattle.fa_core.proofs.SingleTrees.{IsSingle, single_choice}
use Rattle.fa_merge.specs.Dropped.{CanDrop, IsFlat, IsFlatRoot, Removes, Restores, without_cell}
use Rattle.fa_merge.specs.Reached.{AlwaysLeaks}

-- a forest without cells, and one cell
abbrev hollow : List Target → Forest
hollow vars = record { autos = []; vars = vars; data_vars = [] }

abbrev one : List Target → Forest
one vars = record { autos = bare_cell ∷ []; vars = vars; data_vars = [] }

abbrev cell_5 : Nodes
cell_5 = more (node 5 0 [] no_parts) no_nodes

abbrev record_5 : CellRec
record_5 = record { number = 5; shape = 0; datums = []; fields = [] }

-- the store with cell 5 alone, and the one without cells
abbrev store_5 : List Value → Store
store_5 vars = record { vars = vars; data_vars = []; cells = record_5 ∷ []; next = 6 }

abbrev bare_store : List Value → Store
bare_store vars = record { vars = vars; data_vars = []; cells = []; next = 6 }

of_5 : (vars : List Target) → OfForest [] (one vars) cell_5
of_5 vars = (bare_runs, tt, tt)

-- a variable at the cell
stands_5 : StandsBy [] [] (one (At 0 ∷ [])) cell_5 (store_5 (CellValue 5 ∷ []))
stands_5 = record {
  proper = record {
    differ = ((λ h. h), tt);
    below = (omega arith, tt);
    vars = (inl refl, tt);
    fields = (tt, tt);
  };
  fields = (refl, tt);
  of = of_5 (At 0 ∷ []);
  same_facts = keep _ empty;
  vars = refl;
  data_vars = refl;
}

stands_null : StandsBy [] [] (hollow (NullTarget ∷ [])) no_nodes (bare_store (NullValue ∷ []))
stands_null = record {
  proper = record { differ = tt; below = tt; vars = (tt, tt); fields = tt };
  fields = tt;
  of = tt;
  same_facts = empty;
  vars = refl;
  data_vars = refl;
}

stands_hollow : StandsBy [] [] (hollow []) no_nodes (bare_store [])
stands_hollow = record {
  proper = record { differ = tt; below = tt; vars = tt; fields = tt };
  fields = tt;
  of = tt;
  same_facts = empty;
  vars = refl;
  data_vars = refl;
}

-- Kinds, to tell values apart.

abbrev kind : Value → ℕ
kind NullValue = 0
kind DanglingValue = 1
kind v = 2

abbrev first_kind : List Value → ℕ
first_kind [] = 9
first_kind (v ∷ vs) = kind v

abbrev number_at : Option Node → ℕ
number_at None = 9
number_at (Some n) = number n

-- Removes.

-- the forest that still has the cell does not stand for the stores without it
still_there : Removes [] [] (one (At 0 ∷ [])) (one (At 0 ∷ [])) 0 → ⊥
still_there h = (h cell_5 (store_5 (CellValue 5 ∷ [])) stands_5).2.of

-- the variable dangles then, and is not null
gone_but_null : Removes [] [] (one (At 0 ∷ [])) (hollow (NullTarget ∷ [])) 0 → ⊥
gone_but_null h =
    let r = h cell_5 (store_5 (CellValue 5 ∷ [])) stands_5 in
    let five : 5 ≡ r.0 = ap number_at r.1.3 in
    let is : (without_cell 5 (store_5 (CellValue 5 ∷ []))).vars ≡ NullValue ∷ [] =
    subst (λ (c : ℕ). (without_cell c (store_5 (CellValue 5 ∷ []))).vars ≡ NullValue ∷ []) (sym five) r.2.vars in
    let z : 1 ≡ 0 = ap first_kind is in
    omega (arith, z)

-- a root that is not there is none of the first forest's
no_such_root : Removes [] [] (one (At 0 ∷ [])) (hollow (DanglingTarget ∷ [])) 1 → ⊥
no_such_root h = none-some _ (h cell_5 (store_5 (CellValue 5 ∷ [])) stands_5).1.3

-- Restores.

-- there must have been a cell
from_no_cell : Restores [] [] (hollow []) (hollow []) 0 → ⊥
from_no_cell h = let r = h no_nodes (bare_store []) stands_hollow in by r.0 r.1 r.2 r.3 r.4
  where
    by : (e : Nodes) (s : Store) (c : ℕ) → IsFlatRoot e 0 c → StandsBy [] [] (hollow []) e s → ⊥
    by no_nodes s c f k = none-some _ f.3
    by (more n ns) s c f k = k.of

-- a variable that was at it dangles, and is not null
from_a_variable_at_it : Restores [] [] (one (At 0 ∷ [])) (hollow (NullTarget ∷ [])) 0 → ⊥
from_a_variable_at_it h =
    let r = h no_nodes (bare_store (NullValue ∷ [])) stands_null in by r.0 r.1 r.2 r.3 r.4 r.5
  where
    dangles : (c : ℕ) → dangle c (CellValue c) ≡ DanglingValue
    dangles c = ap (λ b. if b then DanglingValue else CellValue c) (eq-eqb c c refl)

    by : (e : Nodes) (s : Store) (c : ℕ) → IsFlatRoot e 0 c → StandsBy [] [] (one (At 0 ∷ [])) e s
        → IsAlike (without_cell c s) (bare_store (NullValue ∷ [])) → ⊥
    by no_nodes s c f k a = k.of
    by (more n ns) s c f k a =
        let at : number n ≡ c = ap number_at f.3 in
        let vars : (without_cell c s).vars ≡ DanglingValue ∷ [] =
        ap (λ vs. map (dangle c) vs) (k.vars ∙ ap (λ m. CellValue m ∷ []) at) ∙ ap (λ v. v ∷ []) (dangles c) in
        let z : 0 ≡ 1 = ap first_kind (a.vars ∙ ap (λ vs. map (value_renamed a.to) vs) vars) in
        omega (arith, z)

-- CanDrop.

single : IsSingle bare_cell
single = ((refl, tt), (0, refl))

flat : IsFlat (roll-Tree (record { symbol = Cell 0 [] []; children = [] }))
flat = let e = out-roll-Tree (record { symbol = Cell 0 [] []; children = [] }) in rw e (tt, tt)

-- a cell without slots, to which a variable points
without_slots : CanDrop [] (one (At 0 ∷ [])) 0
without_slots = record {
  root = omega arith;
  flat = λ ts t c is. subst (λ (u : Tree). IsFlat u) (first ts t c is) flat;
  own = λ ts c. given ts c;
}
  where
    first : (ts : List Tree) (t : Tree) → Choice (bare_cell ∷ []) ts → slice_get ts 0 ≡ Some t
        → roll-Tree (record { symbol = Cell 0 [] []; children = [] }) ≡ t
    first ts t c is =
        let same = single_choice (bare_cell ∷ []) (bare (node 0 0 [] no_parts) ∷ []) ts (single, tt) (bare_runs, tt) c in
        same_Some _ t (ap (λ (us : List Tree). slice_get us 0) same ∙ is)

    given : (ts : List Tree) → Choice (bare_cell ∷ []) ts → given_at [] ts 0 ≡ []
    given ts c =
        subst (λ (us : List Tree). given_at [] us 0 ≡ [])
        (single_choice (bare_cell ∷ []) (bare (node 0 0 [] no_parts) ∷ []) ts (single, tt) (bare_runs, tt) c)
        (simp opened)

no_such_root_to_drop : CanDrop [] (one []) 1 → ⊥
no_such_root_to_drop h = let l = h.root in omega (arith, l)

-- a tree with a cell below a field, and one with a box edge, are not flat
abbrev below : Tree
below = roll-Tree (record {
  symbol = Cell 0 [] (Field 0 ∷ []);
  children = roll-Tree (record { symbol = Cell 0 [] []; children = [] }) ∷ [];
})

cell_below : IsFlat below → ⊥
cell_below h =
    let e = out-roll-Tree (record {
      symbol = Cell 0 [] (Field 0 ∷ []);
      children = roll-Tree (record { symbol = Cell 0 [] []; children = [] }) ∷ [];
    }) in
    let f = out-roll-Tree (record { symbol = Cell 0 [] []; children = [] }) in
    true≢false (sym (rw (e, f) at h).1.0)

abbrev hooked : Tree
hooked = roll-Tree (record { symbol = Cell 0 [] (Hook 0 ∷ []); children = [] })

edge_at_it : IsFlat hooked → ⊥
edge_at_it h = let e = out-roll-Tree (record { symbol = Cell 0 [] (Hook 0 ∷ []); children = [] }) in (rw e at h).0.0

-- AlwaysLeaks.

abbrev face : Face
face = record { shapes = record { structs = [] }; boxes = [] }

-- each table over the face is empty
no_boxes : IsTableOf face []
no_boxes = record { faces = refl; sound = tt; count = omega arith; names = tt; words = tt; insides = tt }

-- no cell is lost where there is none
nothing_to_lose : AlwaysLeaks face (hollow []) → ⊥
nothing_to_lose h = (h [] no_boxes (bare_store []) (no_nodes, stands_hollow)).is_there

-- a cell to which a variable points is reached
held : AlwaysLeaks face (one (At 0 ∷ [])) → ⊥
held h = by (h [] no_boxes (store_5 (CellValue 5 ∷ [])) (cell_5, stands_5))
  where
    by : Leaked (store_5 (CellValue 5 ∷ [])) → ⊥
    by l = elim l.is_there [
      | inl e ↦ l.unreached (by_var (inl (ap (λ (c : CellRec). CellValue c.number) e)))
      | inr x ↦ x
    ]

-- one that nothing names is lost
module _ (T : List BoxDef) (s : Store) (d : Nodes) (k : StandsBy [] T (one []) d s) where
  none : (n : ℕ) → Reach s n → ⊥
  none n (by_var i) = subst (IsIn (CellValue n)) k.vars i
  none n (by_field c i r j) = none c.number r

  found : (cs : List CellRec) (e : Nodes) → s.cells ≡ cs → StandsBy [] T (one []) e s → Leaked s
  found (c ∷ cs) e is l =
      record { cell = c; is_there = subst (IsIn c) (sym is) (inl refl); unreached = λ r. none c.number r }
  found [] no_nodes is l = absurd l.of
  found [] (more (node c t ds ps) ns) is l =
      let same = long_same (subst (λ (cs : List CellRec). Rearranged (facts (more (node c t ds ps) ns)) (store_facts cs))
      is l.same_facts) in
      absurd (omega (arith, same))

  pub lost : Leaked s
  lost = found s.cells d refl k

unheld : AlwaysLeaks face (one [])
unheld T table s m = lost T s m.0 m.1
