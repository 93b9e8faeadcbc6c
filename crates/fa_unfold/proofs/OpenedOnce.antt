-- Where the facts give each field of each cell once, so do the slots of the cells, if each slot fits: counted.
use Rattle.std.proofs.Common.{◌≡◌, ◌⊎◌, inl, inr, ℕ, ◌+◌, Bool, true, false, cond, nat_eq, List, [], ◌∷◌, ◌++◌}
use Rattle.std.proofs.Common.{map, flat_map, refl, sym, ap, subst, ◌∙◌, Some, arith}
use Rattle.std.proofs.lemmas.Bool.{eq-eqb, eqb-true}
use Rattle.fore_base.specs.Lists.{IsIn, Every, IsDistinct}
use Rattle.fore_base.specs.declared.shape.Shape.{Shape}
use Rattle.fore_base.specs.declared.store.Value.{Value}
use Rattle.fore_base.specs.declared.store.Value.TheVariants.{Null as NullValue, Uninit as UninitValue}
use Rattle.fore_base.specs.declared.store.Value.TheVariants.{Dangling as DanglingValue, Cell}
use Rattle.fore_base.proofs.ListLemmas.{every_append}
use Rattle.ta_core.specs.Auto.{Automaton}
use Rattle.fa_core.specs.declared.boxes.BoxDef.{BoxDef}
use Rattle.fa_core.specs.declared.faces.BoxFace.{BoxFace}
use Rattle.fa_core.specs.declared.faces.Face.{Face}
use Rattle.fa_core.specs.Dressed.{Node, Parts, End, Nodes, node, no_parts, field, link, hook, under, leaf, no_nodes}
use Rattle.fa_core.specs.Dressed.{more, Fact, Seen, SeenField, SeenLink, SeenHook, SeenCell, seen, tree_cells}
use Rattle.fa_core.specs.Dressed.{below, end_cells, forest_cells, inside_facts}
use Rattle.fa_core.specs.Filled.{covers, fields_of, fields_in, gives_in_of}
use Rattle.fa_core.specs.Member.{TreesOf, InsidesOf, InsidesOfParts, InsidesOfEnd, inside_of}
use Rattle.fa_core.specs.Rearranged.{Rearranged, empty, keep, swap, chain, often}
use Rattle.fa_core.specs.Ways.{gives_out_of, fields_out}
use Rattle.fa_core.proofs.Counts.{often_both}
use Rattle.fa_core.proofs.Given.{slot_gifts, cell_gifts, given_there, gives_to}
use Rattle.fa_core.proofs.Rearranging.{flat_map-append}
use Rattle.fa_core.proofs.SeenCells.{SlotsFit, NamesOne, slots_seen, cell_number}
use Rattle.fa_facts.proofs.FactCounts.{if_so, given_n, owed_n, at_cell, at_value, nothing_at, given_points}
use Rattle.fa_facts.proofs.FactCounts.{given_append}
use Rattle.fa_facts.proofs.FactCounts.{owed_append, owed_head}
use Rattle.fa_facts.proofs.TreeFields.{Lands, LinkGives, HookGives, so_both}
use Rattle.fa_unfold.specs.Opens.{IsCell, HasSlot, opened}
use Rattle.fa_unfold.proofs.UnfoldedMembers.{cell_items}

-- the inside of a slot is of its box
abbrev pub SeenInside : List BoxDef → Seen → Type 0
SeenInside T (SeenField f v) = Unit {0}
SeenInside T (SeenLink b i v) = (autos : List Automaton) × (inside_of T b ≡ Some autos) × TreesOf T autos i
SeenInside T (SeenHook b i) = (autos : List Automaton) × (inside_of T b ≡ Some autos) × TreesOf T autos i

abbrev pub CellInside : List BoxDef → SeenCell → Type 0
CellInside T x = Every (SeenInside T) x.slots

module _ (T : List BoxDef) (vs : List Value) where
  seen_insides : (ps : Parts) → InsidesOfParts T ps → Every (SeenInside T) (seen vs ps)
  seen_insides no_parts h = tt
  seen_insides (field f e ps) h = (tt, seen_insides ps h.1)
  seen_insides (link b i e ps) h = (h.0, seen_insides ps h.2)
  seen_insides (hook b i ps) h = (h.0, seen_insides ps h.1)

  mutual
    pub tree_insides : (n : Node) → InsidesOf T n → Every (CellInside T) (tree_cells vs n)
    tree_insides (node c s ds ps) h = (seen_insides ps h, below_insides ps h)

    below_insides : (ps : Parts) → InsidesOfParts T ps → Every (CellInside T) (below vs ps)
    below_insides no_parts h = tt
    below_insides (field f e ps) h =
        every_append (CellInside T) (end_cells vs e) (below vs ps) (end_insides e h.0) (below_insides ps h.1)
    below_insides (link b i e ps) h =
        every_append (CellInside T) (end_cells vs e) (below vs ps) (end_insides e h.1) (below_insides ps h.2)
    below_insides (hook b i ps) h = below_insides ps h.1

    end_insides : (e : End) → InsidesOfEnd T e → Every (CellInside T) (end_cells vs e)
    end_insides (under n) h = tree_insides n h
    end_insides (leaf t) h = tt

  pub forest_insides : (autos : List Automaton) (d : Nodes) → TreesOf T autos d
      → Every (CellInside T) (forest_cells vs d)
  forest_insides [] no_nodes h = tt
  forest_insides [] (more n ns) h = absurd h
  forest_insides (a ∷ autos) no_nodes h = absurd h
  forest_insides (a ∷ autos) (more n ns) h =
      every_append (CellInside T) (tree_cells vs n) (forest_cells vs ns) (tree_insides n h.1)
      (forest_insides autos ns h.2)

-- Facts in another order.

-- a count that adds up over lists goes by no order
pub sum_moved : {X : Type 0} (m : List X → ℕ) → ((xs ys : List X) → m (xs ++ ys) ≡ m xs + m ys) → {xs ys : List X}
    → Rearranged xs ys → m xs ≡ m ys
sum_moved m both empty = refl
sum_moved m both (keep x {xs} {ys} r) =
    both (x ∷ []) xs ∙ ap (λ (k : ℕ). m (x ∷ []) + k) (sum_moved m both r) ∙ sym (both (x ∷ []) ys)
sum_moved m both (swap x y xs) =
    let a : m (x ∷ y ∷ xs) ≡ m (x ∷ []) + m (y ∷ xs) = both (x ∷ []) (y ∷ xs) in
    let b : m (y ∷ xs) ≡ m (y ∷ []) + m xs = both (y ∷ []) xs in
    let d : m (y ∷ x ∷ xs) ≡ m (y ∷ []) + m (x ∷ xs) = both (y ∷ []) (x ∷ xs) in
    let e : m (x ∷ xs) ≡ m (x ∷ []) + m xs = both (x ∷ []) xs in
    omega (arith, a, b, d, e)
sum_moved m both (chain a b) = sum_moved m both a ∙ sum_moved m both b

module _ (hs : List Shape) (c f : ℕ) where
  pub given_moved : {xs ys : List Fact} → Rearranged xs ys → given_n hs c f xs ≡ given_n hs c f ys
  given_moved r = sum_moved (given_n hs c f) (given_append hs c f) r

  pub owed_moved : {xs ys : List Fact} → Rearranged xs ys → owed_n hs c f xs ≡ owed_n hs c f ys
  owed_moved r = sum_moved (owed_n hs c f) (owed_append hs c f) r

  cond_often : (b : Bool) (g : List ℕ) → often f (cond b g []) ≡ if_so b (often f g)
  cond_often true g = refl
  cond_often false g = refl

  gift_often : (v : Value) (g : List ℕ) → often f (given_there c (v, g)) ≡ at_value hs c f v (often f g)
  gift_often NullValue g = refl
  gift_often UninitValue g = refl
  gift_often DanglingValue g = refl
  gift_often (Cell k) g = cond_often (nat_eq c k) g

one_lands : (all : List SeenCell) (t : ℕ) (g : List ℕ) (v : Value)
    → NamesOne all t v ⊎ ((v ≡ DanglingValue) × (g ≡ [])) → Lands g v
one_lands all t g NullValue (inl h) = absurd h
one_lands all t g UninitValue (inl h) = absurd h
one_lands all t g DanglingValue (inl h) = absurd h
one_lands all t g (Cell k) (inl h) = inl (k, refl)
one_lands all t g v (inr h) = inr h

module _ (face : Face) (T : List BoxDef) (c f : ℕ) (links : (b : ℕ) → LinkGives face T c f b)
    (hooks : (b : ℕ) → HookGives face T c f b) (all : List SeenCell) where
  abbrev hs : List Shape
  hs = face.shapes.structs

  abbrev bs : List BoxFace
  bs = face.boxes

  abbrev given_of : List Fact → ℕ
  given_of = given_n hs c f

  abbrev owed_of : List Fact → ℕ
  owed_of = owed_n hs c f

  abbrev slot_facts_of : ℕ → List Seen → List Fact
  slot_facts_of m xs = flat_map opened (map (HasSlot m) xs)

  abbrev own : ℕ → List Seen → ℕ
  own m xs = at_cell hs c f m (often f (flat_map (covers bs) (slots_seen xs)))

  abbrev gifts : List Seen → ℕ
  gifts xs = often f (flat_map (given_there c) (slot_gifts bs xs))

  own_more : (m : ℕ) (g : List ℕ) (xs : List Seen)
      → at_cell hs c f m (often f (g ++ flat_map (covers bs) (slots_seen xs)))
      ≡ at_cell hs c f m (often f g) + own m xs
  own_more m g xs =
      ap (at_cell hs c f m) (often_both f g (flat_map (covers bs) (slots_seen xs)))
      ∙ so_both (nat_eq c m) (often f g) (often f (flat_map (covers bs) (slots_seen xs)))

  -- the slots of one cell
  slots_count : (m s : ℕ) (xs : List Seen) → SlotsFit face all s xs → Every (SeenInside T) xs
      → given_of (slot_facts_of m xs) ≡ owed_of (slot_facts_of m xs) + (own m xs + gifts xs)
  slots_count m s [] h i = let z : at_cell hs c f m 0 ≡ 0 = nothing_at hs c f (Cell m) in omega (arith, z)
  slots_count m s (SeenField g v ∷ xs) h i =
      let q = slots_count m s xs h.1 i.1 in
      let p = given_points hs c f m g v (slot_facts_of m xs) in
      let o = own_more m (g ∷ []) xs in
      let z : at_value hs c f v 0 ≡ 0 = nothing_at hs c f v in
      let y : often f (given_there c (v, [])) ≡ at_value hs c f v 0 = gift_often hs c f v [] in
      let w : gifts (SeenField g v ∷ xs) ≡ often f (given_there c (v, [])) + gifts xs =
      often_both f (given_there c (v, [])) (flat_map (given_there c) (slot_gifts bs xs)) in
      omega (arith, q, p, o, z, y, w)
  slots_count m s (SeenLink b d v ∷ xs) h i =
      let q = slots_count m s xs h.1 i.1 in
      let x = h.0.0 in
      let l = links b x h.0.1 i.0.0 d m v h.0.2 h.0.4 i.0.1 i.0.2 (one_lands all h.0.1 x.gives_out v h.0.5) in
      let a = given_append hs c f (inside_facts (Cell m ∷ (v ∷ [])) d) (slot_facts_of m xs) in
      let e = owed_append hs c f (inside_facts (Cell m ∷ (v ∷ [])) d) (slot_facts_of m xs) in
      let o = own_more m (gives_in_of bs b) xs in
      let u : at_cell hs c f m (often f (gives_in_of bs b)) ≡ at_cell hs c f m (often f x.gives_in) =
      ap (λ (z : List ℕ). at_cell hs c f m (often f z)) (ap fields_in h.0.2) in
      let y : often f (given_there c (v, gives_out_of bs b)) ≡ at_value hs c f v (often f x.gives_out) =
      gift_often hs c f v (gives_out_of bs b)
      ∙ ap (λ (z : List ℕ). at_value hs c f v (often f z)) (ap fields_out h.0.2) in
      let w : gifts (SeenLink b d v ∷ xs) ≡ often f (given_there c (v, gives_out_of bs b)) + gifts xs =
      often_both f (given_there c (v, gives_out_of bs b)) (flat_map (given_there c) (slot_gifts bs xs)) in
      omega (arith, q, l, a, e, o, u, y, w)
  slots_count m s (SeenHook b d ∷ xs) h i =
      let q = slots_count m s xs h.1 i.1 in
      let x = h.0.0 in
      let l = hooks b x i.0.0 d m h.0.1 h.0.3 i.0.1 i.0.2 in
      let a = given_append hs c f (inside_facts (Cell m ∷ []) d) (slot_facts_of m xs) in
      let e = owed_append hs c f (inside_facts (Cell m ∷ []) d) (slot_facts_of m xs) in
      let o = own_more m (gives_in_of bs b) xs in
      let u : at_cell hs c f m (often f (gives_in_of bs b)) ≡ at_cell hs c f m (often f x.gives_in) =
      ap (λ (z : List ℕ). at_cell hs c f m (often f z)) (ap fields_in h.0.1) in
      omega (arith, q, l, a, e, o, u)

  -- all cells
  abbrev facts_of : List SeenCell → List Fact
  facts_of xs = flat_map opened (flat_map cell_items xs)

  abbrev owns : List SeenCell → ℕ
  owns [] = 0
  owns (x ∷ xs) = own x.cell x.slots + owns xs

  abbrev heads : List SeenCell → ℕ
  heads [] = 0
  heads (x ∷ xs) = at_cell hs c f x.cell (often f (fields_of hs x.shape)) + heads xs

  abbrev IsFitCell : SeenCell → Type 0
  IsFitCell x = SlotsFit face all x.shape x.slots

  abbrev lower : List SeenCell → ℕ
  lower [] = 0
  lower (x ∷ xs) = owed_of (slot_facts_of x.cell x.slots) + lower xs

  cells_owed : (xs : List SeenCell) → owed_of (facts_of xs) ≡ heads xs + lower xs
  cells_owed [] = refl
  cells_owed (x ∷ xs) =
      let h = owed_head hs c f x.cell x.shape x.datums
      (slot_facts_of x.cell x.slots ++ facts_of xs) in
      let a = owed_append hs c f (slot_facts_of x.cell x.slots) (facts_of xs) in
      let e : facts_of (x ∷ xs) ≡ opened (IsCell x.cell x.shape x.datums)
      ++ (slot_facts_of x.cell x.slots ++ facts_of xs) =
      ap (λ (z : List Fact). opened (IsCell x.cell x.shape x.datums) ++ z)
      (flat_map-append opened (map (HasSlot x.cell) x.slots) (flat_map cell_items xs)) in
      let q = cells_owed xs in
      let w : owed_of (facts_of (x ∷ xs)) ≡ owed_of (opened (IsCell x.cell x.shape x.datums)
      ++ (slot_facts_of x.cell x.slots ++ facts_of xs)) = ap owed_of e in
      omega (arith, h, a, q, w)

  cells_given : (xs : List SeenCell) → Every IsFitCell xs → Every (CellInside T) xs
      → given_of (facts_of xs) ≡ lower xs + (owns xs + often f (gives_to bs c xs))
  cells_given [] h i = refl
  cells_given (x ∷ xs) h i =
      let q = slots_count x.cell x.shape x.slots h.0 i.0 in
      let r = cells_given xs h.1 i.1 in
      let e : facts_of (x ∷ xs) ≡ opened (IsCell x.cell x.shape x.datums)
      ++ (slot_facts_of x.cell x.slots ++ facts_of xs) =
      ap (λ (z : List Fact). opened (IsCell x.cell x.shape x.datums) ++ z)
      (flat_map-append opened (map (HasSlot x.cell) x.slots) (flat_map cell_items xs)) in
      let w : given_of (facts_of (x ∷ xs)) ≡ given_of (slot_facts_of x.cell x.slots ++ facts_of xs) =
      ap given_of e in
      let a = given_append hs c f (slot_facts_of x.cell x.slots) (facts_of xs) in
      let g : gives_to bs c (x ∷ xs) ≡ flat_map (given_there c) (slot_gifts bs x.slots) ++ gives_to bs c xs =
      flat_map-append (given_there c) (slot_gifts bs x.slots) (cell_gifts bs xs) in
      let o : often f (gives_to bs c (x ∷ xs)) ≡ gifts x.slots + often f (gives_to bs c xs) =
      ap (often f) g ∙ often_both f (flat_map (given_there c) (slot_gifts bs x.slots)) (gives_to bs c xs) in
      omega (arith, q, r, w, a, o)

  -- the one cell of the number
  so_false : (m k : ℕ) → (m ≡ c → ⊥) → at_cell hs c f m k ≡ 0
  so_false m k n = here (nat_eq c m) refl
    where
      here : (b : Bool) → nat_eq c m ≡ b → if_so b k ≡ 0
      here true e = absurd (n (sym (eqb-true c m e)))
      here false e = refl

  none_at : (xs : List SeenCell) → (IsIn c (map cell_number xs) → ⊥) → (owns xs ≡ 0) × (heads xs ≡ 0)
  none_at [] n = (refl, refl)
  none_at (x ∷ xs) n =
      let k = none_at xs (λ i. n (inr i)) in
      let a = so_false x.cell (often f (flat_map (covers bs) (slots_seen x.slots))) (λ e. n (inl (sym e))) in
      let b = so_false x.cell (often f (fields_of hs x.shape)) (λ e. n (inl (sym e))) in
      let k0 = k.0 in
      let k1 = k.1 in
      (omega (arith, a, k0), omega (arith, b, k1))

  one_at : (xs : List SeenCell) → IsDistinct (map cell_number xs) → (x : SeenCell) → IsIn x xs → x.cell ≡ c
      → (owns xs ≡ often f (flat_map (covers bs) (slots_seen x.slots))) × (heads xs ≡ often f (fields_of hs x.shape))
  one_at [] a x i e = absurd i
  one_at (y ∷ xs) a x (inl w) e =
      let n = none_at xs
      (λ j. a.0 (subst (λ (z : ℕ). IsIn z (map cell_number xs)) (sym (sym (ap cell_number w) ∙ e)) j)) in
      let t : nat_eq c y.cell ≡ true = eq-eqb c y.cell (sym (sym (ap cell_number w) ∙ e)) in
      let u : own y.cell y.slots ≡ often f (flat_map (covers bs) (slots_seen x.slots)) =
      ap (λ (b : Bool). if_so b (often f (flat_map (covers bs) (slots_seen y.slots)))) t
      ∙ ap (λ (z : SeenCell). often f (flat_map (covers bs) (slots_seen z.slots))) (sym w) in
      let v : at_cell hs c f y.cell (often f (fields_of hs y.shape)) ≡ often f (fields_of hs x.shape) =
      ap (λ (b : Bool). if_so b (often f (fields_of hs y.shape))) t
      ∙ ap (λ (z : SeenCell). often f (fields_of hs z.shape)) (sym w) in
      let n0 = n.0 in
      let n1 = n.1 in
      (omega (arith, u, n0), omega (arith, v, n1))
  one_at (y ∷ xs) a x (inr i) e =
      let k = one_at xs a.1 x i e in
      let o : y.cell ≡ c → ⊥ =
      λ w. a.0 (subst (λ (z : ℕ). IsIn z (map cell_number xs)) (e ∙ sym w) (number_in xs x i)) in
      let p = so_false y.cell (often f (flat_map (covers bs) (slots_seen y.slots))) o in
      let q = so_false y.cell (often f (fields_of hs y.shape)) o in
      let k0 = k.0 in
      let k1 = k.1 in
      (omega (arith, p, k0), omega (arith, q, k1))
    where
      number_in : (xs : List SeenCell) (x : SeenCell) → IsIn x xs → IsIn x.cell (map cell_number xs)
      number_in [] x i = absurd i
      number_in (y ∷ xs) x (inl w) = inl (ap cell_number w)
      number_in (y ∷ xs) x (inr i) = inr (number_in xs x i)

  pub count_once : (xs : List SeenCell) → Every IsFitCell xs → Every (CellInside T) xs
      → given_of (facts_of xs) ≡ owed_of (facts_of xs) → IsDistinct (map cell_number xs) → (x : SeenCell) → IsIn x xs
      → x.cell ≡ c → often f (fields_of hs x.shape)
      ≡ often f (flat_map (covers bs) (slots_seen x.slots) ++ gives_to bs c xs)
  count_once xs h i g a x j e =
      let q = cells_given xs h i in
      let o = cells_owed xs in
      let k = one_at xs a x j e in
      let k0 = k.0 in
      let k1 = k.1 in
      let b = often_both f (flat_map (covers bs) (slots_seen x.slots)) (gives_to bs c xs) in
      omega (arith, q, o, k0, k1, b, g)
