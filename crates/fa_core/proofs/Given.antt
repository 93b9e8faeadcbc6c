-- What the edges of a dressed forest give to a cell, read off its cells without their trees.
use Rattle.std.proofs.Common.{◌≡◌, inl, inr, ℕ, zero, suc, Bool, true, false, true≢false, cond, nat_eq, List, [], ◌∷◌}
use Rattle.std.proofs.Common.{◌++◌, map, flat_map, refl, sym, ap, ap₂, subst, ◌∙◌, append_assoc, append-nil}
use Rattle.std.proofs.lemmas.Bool.{eqb-true, eq-eqb}
use Rattle.fore_base.specs.Lists.{IsIn, IsDistinct}
use Rattle.fore_base.specs.declared.store.Value.{Value}
use Rattle.fore_base.specs.declared.store.Value.TheVariants.{Null as NullValue, Uninit as UninitValue}
use Rattle.fore_base.specs.declared.store.Value.TheVariants.{Dangling as DanglingValue, Cell}
use Rattle.fa_core.specs.declared.faces.BoxFace.{BoxFace}
use Rattle.fa_core.specs.declared.forest.Target.{Target}
use Rattle.fa_core.specs.declared.forest.Target.TheVariants.{Null, Uninit, Dangling, At}
use Rattle.fa_core.specs.Dressed.{Node, Parts, End, Nodes, node, no_parts, field, link, hook, under, leaf, no_nodes}
use Rattle.fa_core.specs.Dressed.{more, Seen, SeenField, SeenLink, SeenHook, SeenCell, seen, tree_cells, below}
use Rattle.fa_core.specs.Dressed.{end_cells, forest_cells, cells, roots_of, number, end_value, value_in, nth_value}
use Rattle.fa_core.specs.Rearranged.{Rearranged, empty, keep, chain}
use Rattle.fa_core.specs.Ways.{gives_out_of}
use Rattle.fa_core.proofs.Rearranging.{same, back, after, both, exchange, flat_map-append, flat_mapped}
use Rattle.fa_core.proofs.WaysOf.{map-append}

-- a value at an end, and the fields that the edge gives there
abbrev pub Gift : Type 0
Gift = Value × List ℕ

module _ (bs : List BoxFace) where
  abbrev pub slot_gifts : List Seen → List Gift
  slot_gifts [] = []
  slot_gifts (SeenField f v ∷ xs) = (v, []) ∷ slot_gifts xs
  slot_gifts (SeenLink b i v ∷ xs) = (v, gives_out_of bs b) ∷ slot_gifts xs
  slot_gifts (SeenHook b i ∷ xs) = slot_gifts xs

  abbrev pub cell_gifts : List SeenCell → List Gift
  cell_gifts cs = flat_map (λ x. slot_gifts x.slots) cs

-- the fields, if the end is at cell c
abbrev pub given_there : ℕ → Gift → List ℕ
given_there c (NullValue, g) = []
given_there c (UninitValue, g) = []
given_there c (DanglingValue, g) = []
given_there c (Cell k, g) = cond (nat_eq c k) g []

-- the fields that edges of the cells give to cell c
abbrev pub gives_to : List BoxFace → ℕ → List SeenCell → List ℕ
gives_to bs c cs = flat_map (given_there c) (cell_gifts bs cs)

-- the same for rearranged cells
pub gives_moved : (bs : List BoxFace) (c : ℕ) {xs ys : List SeenCell} → Rearranged xs ys
    → Rearranged (gives_to bs c xs) (gives_to bs c ys)
gives_moved bs c r = flat_mapped (given_there c) (flat_mapped (λ (x : SeenCell). slot_gifts bs x.slots) r)

-- Inner cells and leaves, each with what the edge above gives.

abbrev pub Inner : Type 0
Inner = ℕ × List ℕ

abbrev pub Tip : Type 0
Tip = Target × List ℕ

module _ (bs : List BoxFace) where
  abbrev mutual
    -- the cells below a tree's top
    pub inner : Node → List Inner
    inner (node c s ds ps) = inner_of ps

    pub inner_of : Parts → List Inner
    inner_of no_parts = []
    inner_of (field f e ps) = end_inner [] e ++ inner_of ps
    inner_of (link b i e ps) = end_inner (gives_out_of bs b) e ++ inner_of ps
    inner_of (hook b i ps) = inner_of ps

    pub end_inner : List ℕ → End → List Inner
    end_inner g (under w) = (number w, g) ∷ inner w
    end_inner g (leaf t) = []

  abbrev mutual
    -- the leaves of a tree
    pub tips : Node → List Tip
    tips (node c s ds ps) = tips_of ps

    pub tips_of : Parts → List Tip
    tips_of no_parts = []
    tips_of (field f e ps) = end_tips [] e ++ tips_of ps
    tips_of (link b i e ps) = end_tips (gives_out_of bs b) e ++ tips_of ps
    tips_of (hook b i ps) = tips_of ps

    pub end_tips : List ℕ → End → List Tip
    end_tips g (under w) = tips w
    end_tips g (leaf t) = (t, g) ∷ []

  abbrev pub all_inner : Nodes → List Inner
  all_inner no_nodes = []
  all_inner (more n ns) = inner n ++ all_inner ns

  abbrev pub all_tips : Nodes → List Tip
  all_tips no_nodes = []
  all_tips (more n ns) = tips n ++ all_tips ns

abbrev at_inner : Inner → Gift
at_inner p = (Cell p.0, p.1)

abbrev at_tip : List Value → Tip → Gift
at_tip vs p = (value_in vs p.0, p.1)

abbrev pub inner_number : Inner → ℕ
inner_number p = p.0

-- the ends of all edges are the inner cells and the leaves
module _ (bs : List BoxFace) (vs : List Value) where
  abbrev IsParted : List Gift → List Inner → List Tip → Type 0
  IsParted xs us ts = Rearranged xs (map at_inner us ++ map (at_tip vs) ts)

  crossed : {X : Type 0} (a b c d : List X) → Rearranged ((a ++ b) ++ (c ++ d)) ((a ++ c) ++ (b ++ d))
  crossed a b c d = rw (append_assoc a b (c ++ d), append_assoc a c (b ++ d)) (after a (exchange b c d))

  two_parted : (xs ys : List Gift) (us ws : List Inner) (ts rs : List Tip) → IsParted xs us ts → IsParted ys ws rs
      → IsParted (xs ++ ys) (us ++ ws) (ts ++ rs)
  two_parted xs ys us ws ts rs h k =
      rw (map-append at_inner us ws, map-append (at_tip vs) ts rs)
      (chain (both h k) (crossed (map at_inner us) (map (at_tip vs) ts) (map at_inner ws) (map (at_tip vs) rs)))

  slot_parted : (x : Gift) (s : List Gift) (e b : List SeenCell) (us ws : List Inner) (ts rs : List Tip)
      → IsParted (x ∷ cell_gifts bs e) us ts → IsParted (s ++ cell_gifts bs b) ws rs
      → IsParted (x ∷ (s ++ cell_gifts bs (e ++ b))) (us ++ ws) (ts ++ rs)
  slot_parted x s e b us ws ts rs h k =
      chain
      (keep x
      (rw (flat_map-append (λ (x : SeenCell). slot_gifts bs x.slots) e b)
      (exchange s (cell_gifts bs e) (cell_gifts bs b))))
      (two_parted (x ∷ cell_gifts bs e) (s ++ cell_gifts bs b) us ws ts rs h k)

  mutual
    tree_parted : (n : Node) → IsParted (cell_gifts bs (tree_cells vs n)) (inner bs n) (tips bs n)
    tree_parted (node c s ds ps) = parts_parted ps

    parts_parted : (ps : Parts)
        → IsParted (slot_gifts bs (seen vs ps) ++ cell_gifts bs (below vs ps)) (inner_of bs ps) (tips_of bs ps)
    parts_parted no_parts = empty
    parts_parted (field f e ps) =
        slot_parted (end_value vs e, []) (slot_gifts bs (seen vs ps)) (end_cells vs e) (below vs ps) (end_inner bs [] e)
        (inner_of bs ps) (end_tips bs [] e) (tips_of bs ps) (end_parted [] e) (parts_parted ps)
    parts_parted (link b i e ps) =
        slot_parted (end_value vs e, gives_out_of bs b) (slot_gifts bs (seen vs ps)) (end_cells vs e) (below vs ps)
        (end_inner bs (gives_out_of bs b) e) (inner_of bs ps) (end_tips bs (gives_out_of bs b) e) (tips_of bs ps)
        (end_parted (gives_out_of bs b) e) (parts_parted ps)
    parts_parted (hook b i ps) = parts_parted ps

    end_parted : (g : List ℕ) (e : End)
        → IsParted ((end_value vs e, g) ∷ cell_gifts bs (end_cells vs e)) (end_inner bs g e) (end_tips bs g e)
    end_parted g (under w) = keep (Cell (number w), g) (tree_parted w)
    end_parted g (leaf t) = same ((value_in vs t, g) ∷ [])

  forest_parted : (ns : Nodes) → IsParted (cell_gifts bs (forest_cells vs ns)) (all_inner bs ns) (all_tips bs ns)
  forest_parted no_nodes = empty
  forest_parted (more n ns) =
      rw (flat_map-append (λ (x : SeenCell). slot_gifts bs x.slots) (tree_cells vs n) (forest_cells vs ns))
      (two_parted (cell_gifts bs (tree_cells vs n)) (cell_gifts bs (forest_cells vs ns)) (inner bs n) (all_inner bs ns)
      (tips bs n) (all_tips bs ns) (tree_parted n) (forest_parted ns))

-- what the ends at inner cells give
inner_none : (c : ℕ) (us : List Inner) → (IsIn c (map inner_number us) → ⊥) → flat_map (given_there c) (map at_inner us)
    ≡ []
inner_none c [] h = refl
inner_none c (u ∷ us) h = there (nat_eq c u.0) refl (inner_none c us (λ i. h (inr i)))
  where
    there : (b : Bool) → nat_eq c u.0 ≡ b → flat_map (given_there c) (map at_inner us) ≡ []
        → cond b u.1 [] ++ flat_map (given_there c) (map at_inner us) ≡ []
    there true e g = absurd (h (inl (eqb-true c u.0 e)))
    there false e g = g

inner_one : (c : ℕ) (g : List ℕ) (us : List Inner) → IsDistinct (map inner_number us) → IsIn (c, g) us
    → flat_map (given_there c) (map at_inner us) ≡ g
inner_one c g [] a i = absurd i
inner_one c g (u ∷ us) a (inl e) =
    let w : nat_eq c u.0 ≡ true = eq-eqb c u.0 (ap inner_number e) in
    let z : flat_map (given_there c) (map at_inner us) ≡ [] =
    inner_none c us (λ i. a.0 (subst (λ (k : ℕ). IsIn k (map inner_number us)) (ap inner_number e) i)) in
    let y : u.1 ≡ g = ap (λ (p : Inner). p.1) (sym e) in
    rw (w, z) (append-nil u.1 ∙ y)
inner_one c g (u ∷ us) a (inr i) = there (nat_eq c u.0) refl (inner_one c g us a.1 i)
  where
    in_numbers : (us : List Inner) → IsIn (c, g) us → IsIn c (map inner_number us)
    in_numbers [] i = absurd i
    in_numbers (u ∷ us) (inl e) = inl (ap inner_number e)
    in_numbers (u ∷ us) (inr i) = inr (in_numbers us i)

    there : (b : Bool) → nat_eq c u.0 ≡ b → flat_map (given_there c) (map at_inner us) ≡ g
        → cond b u.1 [] ++ flat_map (given_there c) (map at_inner us) ≡ g
    there true e h = absurd (a.0 (subst (λ (k : ℕ). IsIn k (map inner_number us)) (eqb-true c u.0 e) (in_numbers us i)))
    there false e h = h

-- the numbers of the roots' cells
abbrev pub root_numbers : Nodes → List ℕ
root_numbers no_nodes = []
root_numbers (more n ns) = number n ∷ root_numbers ns

-- what the ends at leaves give to a cell that is no root: nothing
none_there : (c : ℕ) (g : List ℕ) (d : Nodes) (k : ℕ) → (IsIn c (root_numbers d) → ⊥)
    → given_there c (nth_value (roots_of d) k, g) ≡ []
none_there c g no_nodes k h = refl
none_there c g (more n ns) zero h = here (nat_eq c (number n)) refl
  where
    here : (b : Bool) → nat_eq c (number n) ≡ b → cond b g [] ≡ []
    here true e = absurd (h (inl (eqb-true c (number n) e)))
    here false e = refl
none_there c g (more n ns) (suc k) h = none_there c g ns k (λ i. h (inr i))

tip_none : (c : ℕ) (d : Nodes) (ts : List Tip) → (IsIn c (root_numbers d) → ⊥)
    → flat_map (given_there c) (map (at_tip (roots_of d)) ts) ≡ []
tip_none c d [] h = refl
tip_none c d (t ∷ ts) h = ap₂ (λ (x y : List ℕ). x ++ y) (one t.0 t.1) (tip_none c d ts h)
  where
    one : (t : Target) (g : List ℕ) → given_there c (value_in (roots_of d) t, g) ≡ []
    one Null g = refl
    one Uninit g = refl
    one Dangling g = refl
    one (At k) g = none_there c g d k h

-- where no two cells have one number, an inner cell is given what the edge above gives it
pub inner_given : (bs : List BoxFace) (d : Nodes) (c : ℕ) (g : List ℕ) → IsDistinct (map inner_number (all_inner bs d))
    → (IsIn c (root_numbers d) → ⊥) → IsIn (c, g) (all_inner bs d) → Rearranged g (gives_to bs c (cells d))
inner_given bs d c g a h i =
    let p : Rearranged (gives_to bs c (cells d))
    (flat_map (given_there c) (map at_inner (all_inner bs d) ++ map (at_tip (roots_of d)) (all_tips bs d))) =
    flat_mapped (given_there c) (forest_parted bs (roots_of d) d) in
    let e : flat_map (given_there c) (map at_inner (all_inner bs d) ++ map (at_tip (roots_of d)) (all_tips bs d)) ≡ g =
    flat_map-append (given_there c) (map at_inner (all_inner bs d)) (map (at_tip (roots_of d)) (all_tips bs d))
    ∙ ap₂ (λ (x y : List ℕ). x ++ y) (inner_one c g (all_inner bs d) a i) (tip_none c d (all_tips bs d) h)
    ∙ append-nil g in
    back (subst (λ (z : List ℕ). Rearranged (gives_to bs c (cells d)) z) e p)

-- the fields that leaves give to root r
abbrev pub tip_to : ℕ → Tip → List ℕ
tip_to r (Null, g) = []
tip_to r (Uninit, g) = []
tip_to r (Dangling, g) = []
tip_to r (At k, g) = cond (nat_eq r k) g []

abbrev is_cell_value : Value → Bool
is_cell_value NullValue = false
is_cell_value UninitValue = false
is_cell_value DanglingValue = false
is_cell_value (Cell k) = true

no_cell : (c : ℕ) → DanglingValue ≡ Cell c → ⊥
no_cell c h = true≢false (sym (ap is_cell_value h))

abbrev cell_or_none : Value → ℕ
cell_or_none NullValue = 0
cell_or_none UninitValue = 0
cell_or_none DanglingValue = 0
cell_or_none (Cell k) = k

one_cell : (x y : ℕ) → Cell x ≡ Cell y → x ≡ y
one_cell x y e = ap cell_or_none e

-- a root is given what the leaves that refer to it give
module _ (d : Nodes) (differ : IsDistinct (root_numbers d)) where
  root_there : (c : ℕ) (ns : Nodes) (r : ℕ) → nth_value (roots_of ns) r ≡ Cell c → IsIn c (root_numbers ns)
  root_there c no_nodes r h = absurd (no_cell c h)
  root_there c (more n ns) zero h = inl (sym (one_cell (number n) c h))
  root_there c (more n ns) (suc r) h = inr (root_there c ns r h)

  other_root : (e : Nodes) (r c k : ℕ) (g : List ℕ) → IsDistinct (root_numbers e) → nth_value (roots_of e) r ≡ Cell c
      → (r ≡ k → ⊥) → given_there c (nth_value (roots_of e) k, g) ≡ []
  other_root no_nodes r c k g a h o = refl
  other_root (more n ns) zero c zero g a h o = absurd (o refl)
  other_root (more n ns) zero c (suc k) g a h o =
      none_there c g ns k (λ i. a.0 (subst (λ (z : ℕ). IsIn z (root_numbers ns)) (sym (one_cell (number n) c h)) i))
  other_root (more n ns) (suc r) c zero g a h o = here (nat_eq c (number n)) refl (root_there c ns r h)
    where
      here : (b : Bool) → nat_eq c (number n) ≡ b → IsIn c (root_numbers ns) → cond b g [] ≡ []
      here true e i = absurd (a.0 (subst (λ (z : ℕ). IsIn z (root_numbers ns)) (eqb-true c (number n) e) i))
      here false e i = refl
  other_root (more n ns) (suc r) c (suc k) g a h o = other_root ns r c k g a.1 h (λ e. o (ap (λ z. suc z) e))

  at_root : (r c k : ℕ) (g : List ℕ) → nth_value (roots_of d) r ≡ Cell c → given_there c (nth_value (roots_of d) k, g)
      ≡ cond (nat_eq r k) g []
  at_root r c k g h = here (nat_eq r k) refl
    where
      it : given_there c (Cell c, g) ≡ g
      it = let w : nat_eq c c ≡ true = eq-eqb c c refl in rw w refl

      here : (b : Bool) → nat_eq r k ≡ b → given_there c (nth_value (roots_of d) k, g) ≡ cond b g []
      here true e = ap (λ (z : ℕ). given_there c (nth_value (roots_of d) z, g)) (sym (eqb-true r k e))
          ∙ ap (λ (v : Value). given_there c (v, g)) h ∙ it
      here false e = other_root d r c k g differ h (λ y. true≢false (sym (eq-eqb r k y) ∙ e))

  root_tips : (r c : ℕ) → nth_value (roots_of d) r ≡ Cell c → (ts : List Tip)
      → flat_map (given_there c) (map (at_tip (roots_of d)) ts) ≡ flat_map (tip_to r) ts
  root_tips r c h [] = refl
  root_tips r c h (t ∷ ts) = ap₂ (λ (x y : List ℕ). x ++ y) (one t.0 t.1) (root_tips r c h ts)
    where
      one : (t : Target) (g : List ℕ) → given_there c (value_in (roots_of d) t, g) ≡ tip_to r (t, g)
      one Null g = refl
      one Uninit g = refl
      one Dangling g = refl
      one (At k) g = at_root r c k g h

  pub root_given : (bs : List BoxFace) (r c : ℕ) → nth_value (roots_of d) r ≡ Cell c
      → (IsIn c (map inner_number (all_inner bs d)) → ⊥)
      → Rearranged (flat_map (tip_to r) (all_tips bs d)) (gives_to bs c (cells d))
  root_given bs r c h n =
      let p : Rearranged (gives_to bs c (cells d))
      (flat_map (given_there c) (map at_inner (all_inner bs d) ++ map (at_tip (roots_of d)) (all_tips bs d))) =
      flat_mapped (given_there c) (forest_parted bs (roots_of d) d) in
      let e : flat_map (given_there c) (map at_inner (all_inner bs d) ++ map (at_tip (roots_of d)) (all_tips bs d))
      ≡ flat_map (tip_to r) (all_tips bs d) =
      flat_map-append (given_there c) (map at_inner (all_inner bs d)) (map (at_tip (roots_of d)) (all_tips bs d))
      ∙ ap₂ (λ (x y : List ℕ). x ++ y) (inner_none c (all_inner bs d) n) (root_tips r c h (all_tips bs d)) in
      back (subst (λ (z : List ℕ). Rearranged (gives_to bs c (cells d)) z) e p)
