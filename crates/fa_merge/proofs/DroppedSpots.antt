-- The cells of trees without one of the roots stay filled, and what box edges give to the other roots stays, where the
-- root is idle.
use Rattle.std.proofs.Common.{◌≡◌, ◌≢◌, ◌⊎◌, inl, inr, ℕ, zero, suc, ◌≤◌, ◌+◌, Bool, true, false, true≢false, cond}
use Rattle.std.proofs.Common.{nat_eq, if◌then◌else◌, List, [], ◌∷◌, ◌++◌, flat_map, Some, append-nil, refl}
use Rattle.std.proofs.Common.{sym, ap, ap₂, subst, ◌∙◌, arith}
use Rattle.std.proofs.lemmas.Bool.{eqb-true, eq-eqb}
use Rattle.std.proofs.lemmas.Option.{none-some, same_Some}
use Rattle.fore_base.specs.Lists.{IsIn, Every}
use Rattle.fore_base.proofs.ListLemmas.{every_append, every_parts, in_left, in_right}
use Rattle.ta_core.specs.declared.symbol.Slot.{Slot}
use Rattle.ta_core.specs.declared.symbol.Slot.TheVariants.{Link}
use Rattle.ta_core.specs.declared.symbol.Symbol.{Symbol}
use Rattle.ta_core.specs.declared.symbol.Symbol.TheVariants.{Dangling as DanglingSymbol, Cell as CellSymbol}
use Rattle.ta_core.specs.declared.tree.Tree.{Tree, out-Tree}
use Rattle.fa_core.specs.declared.faces.BoxFace.{BoxFace}
use Rattle.fa_core.specs.declared.faces.Face.{Face}
use Rattle.fa_core.specs.declared.forest.Target.{Target}
use Rattle.fa_core.specs.declared.forest.Target.TheVariants.{Null, Uninit, Dangling, At}
use Rattle.fa_core.specs.Choices.{bares}
use Rattle.fa_core.specs.Dressed.{Node, Parts, End, Nodes, node, no_parts, field, link, hook, under, leaf, no_nodes}
use Rattle.fa_core.specs.Dressed.{more}
use Rattle.fa_core.specs.Filled.{Spot, spots, NamesStruct, FieldEnds, EndFits, EndsFit, IsInOrder, IsFilledSpot}
use Rattle.fa_core.specs.Filled.{TreesFilled, given_at}
use Rattle.fa_core.specs.Member.{bare, bare_end, slots_of, leaf_symbol}
use Rattle.fa_core.specs.Placed.{placed, placed_leaf, placed_parts, placed_end, placed_all}
use Rattle.fa_core.specs.Ways.{gives_out_of, fields_out}
use Rattle.fa_core.proofs.Dressing.{leaf_top, cell_top}
use Rattle.fa_core.proofs.Given.{Tip, tip_to, tips, tips_of, end_tips, all_tips}
use Rattle.fa_core.proofs.GivenTips.{given_tips}
use Rattle.fa_core.proofs.NodeSpots.{end_symbols, node_spots, parts_spots, end_spots, spots_are}
use Rattle.fa_core.proofs.Placing.{slots_placed}
use Rattle.fa_core.proofs.Rearranging.{flat_map-append}
use Rattle.fa_merge.specs.Dropped.{drop_leaf, without_node, but_place}
use Rattle.fa_merge.specs.Merged.{lowered}
use Rattle.fa_back.specs.Reached.{node_at}
use Rattle.fa_merge.proofs.Apart.{drop_apart}
use Rattle.fa_merge.proofs.DroppedLists.{get_but}
use Rattle.fa_merge.proofs.Lowered.{lowered_above, lowered_below}
use Rattle.fa_merge.proofs.PlacedSpots.{top_placed}

-- Leaves that are given nothing.

abbrev pub AreIdle : ℕ → List Tip → Type 0
AreIdle r ts = (p : Tip) → IsIn p ts → tip_to r p ≡ []

pub idle_left : (r : ℕ) (xs ys : List Tip) → AreIdle r (xs ++ ys) → AreIdle r xs
idle_left r xs ys h p i = h p (in_left p xs ys i)

pub idle_right : (r : ℕ) (xs ys : List Tip) → AreIdle r (xs ++ ys) → AreIdle r ys
idle_right r xs ys h p i = h p (in_right p xs ys i)

none_of_both : (xs ys : List ℕ) → xs ++ ys ≡ [] → (xs ≡ []) × (ys ≡ [])
none_of_both [] ys e = (refl, e)
none_of_both (x ∷ xs) ys e = absurd (true≢false (sym (ap is_none e)))
  where
    is_none : List ℕ → Bool
    is_none [] = true
    is_none (y ∷ ys) = false

pub none_given : (r : ℕ) (ts : List Tip) → flat_map (tip_to r) ts ≡ [] → AreIdle r ts
none_given r [] e p i = absurd i
none_given r (t ∷ ts) e p (inl q) =
    ap (tip_to r) q ∙ (none_of_both (tip_to r t) (flat_map (tip_to r) ts) e).0
none_given r (t ∷ ts) e p (inr i) =
    none_given r ts (none_of_both (tip_to r t) (flat_map (tip_to r) ts) e).1 p i

own_tip : (r : ℕ) (g : List ℕ) → tip_to r (At r, g) ≡ g
own_tip r g = let e : nat_eq r r ≡ true = eq-eqb r r refl in rw e refl

-- What is given to another root.

module _ (r k : ℕ) (other : k ≢ r) where
  -- a leaf without root r is given for the lower number what it was given for the number
  leaf_tip : (t : Target) (g : List ℕ) → tip_to (lowered r k) (placed_leaf (drop_leaf r) t, g) ≡ tip_to k (t, g)
  leaf_tip Null g = refl
  leaf_tip Uninit g = refl
  leaf_tip Dangling g = refl
  leaf_tip (At j) g = here (nat_eq r j) refl
    where
      -- other numbers stay apart
      apart : (a b : Bool) → nat_eq (lowered r k) (lowered r j) ≡ a → nat_eq k j ≡ b → nat_eq r j ≡ false
          → cond a g [] ≡ cond b g []
      apart true true p q s = refl
      apart false false p q s = refl
      apart true false p q s =
          let e : lowered r k ≡ lowered r j = eqb-true (lowered r k) (lowered r j) p in
          let at : (i : ℕ) → nat_eq r i ≡ false → drop_leaf r i ≡ At (lowered r i) =
          (λ i z. ap (λ (b : Bool). if b then Dangling else At (lowered r i)) z) in
          let z : nat_eq r k ≡ false = not_same (nat_eq r k) refl in
          absurd (true≢false (sym (eq-eqb k j (drop_apart r k j (lowered r j) (at k z ∙ ap At e) (at j s))) ∙ q))
        where
          not_same : (b : Bool) → nat_eq r k ≡ b → b ≡ false
          not_same true e = absurd (other (sym (eqb-true r k e)))
          not_same false e = refl
      apart false true p q s =
          absurd (true≢false (sym (eq-eqb (lowered r k) (lowered r j) (ap (lowered r) (eqb-true k j q))) ∙ p))

      here : (b : Bool) → nat_eq r j ≡ b
          → tip_to (lowered r k) (if b then Dangling else At (lowered r j), g) ≡ cond (nat_eq k j) g []
      here true e = gone (nat_eq k j) refl
        where
          gone : (b : Bool) → nat_eq k j ≡ b → [] ≡ cond b g []
          gone true q = absurd (other (eqb-true k j q ∙ sym (eqb-true r j e)))
          gone false q = refl
      here false e = apart (nat_eq (lowered r k) (lowered r j)) (nat_eq k j) refl refl e

  module _ (bs : List BoxFace) where
    abbrev new : List Tip → List ℕ
    new ts = flat_map (tip_to (lowered r k)) ts

    abbrev old : List Tip → List ℕ
    old ts = flat_map (tip_to k) ts

    both : (xs ys us vs : List Tip) → new xs ≡ old us → new ys ≡ old vs → new (xs ++ ys) ≡ old (us ++ vs)
    both xs ys us vs a b = flat_map-append (tip_to (lowered r k)) xs ys ∙ ap₂ (λ (x y : List ℕ). x ++ y) a b
        ∙ sym (flat_map-append (tip_to k) us vs)

    mutual
      tree_tips : (n : Node) → flat_map (tip_to (lowered r k)) (tips bs (placed (drop_leaf r) n))
          ≡ flat_map (tip_to k) (tips bs n)
      tree_tips (node c s ds ps) = parts_tips ps

      parts_tips : (ps : Parts) → flat_map (tip_to (lowered r k)) (tips_of bs (placed_parts (drop_leaf r) ps))
          ≡ flat_map (tip_to k) (tips_of bs ps)
      parts_tips no_parts = refl
      parts_tips (field f e ps) =
          both (end_tips bs [] (placed_end (drop_leaf r) e)) (tips_of bs (placed_parts (drop_leaf r) ps))
          (end_tips bs [] e) (tips_of bs ps) (end_same [] e) (parts_tips ps)
      parts_tips (link b i e ps) =
          both (end_tips bs (gives_out_of bs b) (placed_end (drop_leaf r) e))
          (tips_of bs (placed_parts (drop_leaf r) ps)) (end_tips bs (gives_out_of bs b) e) (tips_of bs ps)
          (end_same (gives_out_of bs b) e) (parts_tips ps)
      parts_tips (hook b i ps) = parts_tips ps

      end_same : (g : List ℕ) (e : End)
          → flat_map (tip_to (lowered r k)) (end_tips bs g (placed_end (drop_leaf r) e))
          ≡ flat_map (tip_to k) (end_tips bs g e)
      end_same g (under n) = tree_tips n
      end_same g (leaf t) = ap (λ (xs : List ℕ). xs ++ []) (leaf_tip t g)

    all_same : (d : Nodes) → flat_map (tip_to (lowered r k)) (all_tips bs (placed_all (drop_leaf r) d))
        ≡ flat_map (tip_to k) (all_tips bs d)
    all_same no_nodes = refl
    all_same (more n ns) =
        both (tips bs (placed (drop_leaf r) n)) (all_tips bs (placed_all (drop_leaf r) ns)) (tips bs n) (all_tips bs ns)
        (tree_tips n) (all_same ns)

    -- a tree that gives nothing can be left out
    but_one : (j : ℕ) (d : Nodes) (n : Node) → node_at d j ≡ Some n → flat_map (tip_to k) (tips bs n) ≡ []
        → flat_map (tip_to k) (all_tips bs (without_node j d)) ≡ flat_map (tip_to k) (all_tips bs d)
    but_one j no_nodes n e h = absurd (none-some n e)
    but_one zero (more m ns) n e h =
        sym (flat_map-append (tip_to k) (tips bs m) (all_tips bs ns)
        ∙ ap (λ (xs : List ℕ). xs ++ flat_map (tip_to k) (all_tips bs ns))
        (ap (λ (z : Node). flat_map (tip_to k) (tips bs z)) (same_Some m n e) ∙ h))
    but_one (suc j) (more m ns) n e h =
        flat_map-append (tip_to k) (tips bs m) (all_tips bs (without_node j ns))
        ∙ ap (λ (xs : List ℕ). flat_map (tip_to k) (tips bs m) ++ xs) (but_one j ns n e h)
        ∙ sym (flat_map-append (tip_to k) (tips bs m) (all_tips bs ns))

    -- what the trees without root r give to the root
    pub given_same : (d : Nodes) (n : Node) → node_at d r ≡ Some n → given_at bs (bare n ∷ []) k ≡ []
        → given_at bs (bares (placed_all (drop_leaf r) (without_node r d))) (lowered r k) ≡ given_at bs (bares d) k
    given_same d n e h =
        given_tips bs (lowered r k) (placed_all (drop_leaf r) (without_node r d))
        ∙ all_same (without_node r d)
        ∙ but_one r d n e
        (ap (λ (ts : List Tip). flat_map (tip_to k) ts) (sym (append-nil (tips bs n)))
        ∙ sym (given_tips bs k (more n no_nodes))
        ∙ h)
        ∙ sym (given_tips bs k d)

-- Cells.

module _ (face : Face) (r : ℕ) (tops : List ℕ) where
  abbrev f : ℕ → Target
  f = drop_leaf r

  abbrev rest : List ℕ
  rest = but_place r tops

  abbrev bs : List BoxFace
  bs = face.boxes

  -- a leaf at the end of a field
  field_leaf : (t : ℕ) (u : Target) → FieldEnds tops t (leaf_symbol u)
      → FieldEnds rest t (leaf_symbol (placed_leaf f u))
  field_leaf t Null h = tt
  field_leaf t Uninit h = tt
  field_leaf t Dangling h = tt
  field_leaf t (At k) h = here (nat_eq r k) refl
    where
      here : (b : Bool) → nat_eq r k ≡ b → FieldEnds rest t (leaf_symbol (if b then Dangling else At (lowered r k)))
      here true e = tt
      here false e = get_but r k tops t (λ z. true≢false (sym (eq-eqb r k (sym z)) ∙ e)) h

  -- a leaf at the end of a box edge that gives these fields there
  abbrev Linked : List ℕ → ℕ → List ℕ → Symbol → Type 0
  Linked ts t g y = NamesStruct ts y t ⊎ ((y ≡ DanglingSymbol) × (g ≡ []))

  link_leaf : (g : List ℕ) (t : ℕ) (u : Target) → tip_to r (u, g) ≡ [] → Linked tops t g (leaf_symbol u)
      → Linked rest t g (leaf_symbol (placed_leaf f u))
  link_leaf g t Null idle (inl h) = absurd h
  link_leaf g t Uninit idle (inl h) = absurd h
  link_leaf g t Dangling idle (inl h) = absurd h
  link_leaf g t (At k) idle (inl h) = here (nat_eq r k) refl
    where
      here : (b : Bool) → nat_eq r k ≡ b → Linked rest t g (leaf_symbol (if b then Dangling else At (lowered r k)))
      here true e = inr (refl, sym (own_tip r g) ∙ ap (λ (j : ℕ). tip_to r (At j, g)) (eqb-true r k e) ∙ idle)
      here false e = inl (get_but r k tops t (λ z. true≢false (sym (eq-eqb r k (sym z)) ∙ e)) h)
  link_leaf g t Null idle (inr h) = inr h
  link_leaf g t Uninit idle (inr h) = inr h
  link_leaf g t Dangling idle (inr h) = inr h
  link_leaf g t (At k) idle (inr h) = absurd (no_reference k h.0)
    where
      no_reference : (k : ℕ) → leaf_symbol (At k) ≡ DanglingSymbol → ⊥
      no_reference k e = true≢false (ap is_dangling (sym e))
        where
          is_dangling : Symbol → Bool
          is_dangling DanglingSymbol = true
          is_dangling y = false

  field_end : (t : ℕ) (e : End) → FieldEnds tops t (out-Tree (bare_end e)).symbol
      → FieldEnds rest t (out-Tree (bare_end (placed_end f e))).symbol
  field_end t (leaf u) h =
      subst (λ (y : Symbol). FieldEnds rest t y) (sym (leaf_top (placed_leaf f u)))
      (field_leaf t u (subst (λ (y : Symbol). FieldEnds tops t y) (leaf_top u) h))
  field_end t (under (node c s ds ps)) h =
      let same : s ≡ t = subst (λ (y : Symbol). FieldEnds tops t y) (cell_top c s ds ps) h in
      subst (λ (y : Symbol). FieldEnds rest t y) (sym (top_placed f (node c s ds ps) ∙ cell_top c s ds ps)) same

  link_end : (g : List ℕ) (t : ℕ) (e : End) → AreIdle r (end_tips bs g e)
      → Linked tops t g (out-Tree (bare_end e)).symbol
      → Linked rest t g (out-Tree (bare_end (placed_end f e))).symbol
  link_end g t (leaf u) idle h =
      subst (λ (y : Symbol). Linked rest t g y) (sym (leaf_top (placed_leaf f u)))
      (link_leaf g t u (idle (u, g) (inl refl)) (subst (λ (y : Symbol). Linked tops t g y) (leaf_top u) h))
  link_end g t (under (node c s ds ps)) idle h =
      subst (λ (y : Symbol). Linked rest t g y) (sym (top_placed f (node c s ds ps) ∙ cell_top c s ds ps))
      (named (subst (λ (y : Symbol). Linked tops t g y) (cell_top c s ds ps) h))
    where
      named : Linked tops t g (CellSymbol s ds (slots_of ps))
          → Linked rest t g (CellSymbol s ds (slots_of ps))
      named (inl e) = inl e
      named (inr e) = absurd (no_leaf e.0)
        where
          no_leaf : CellSymbol s ds (slots_of ps) ≡ DanglingSymbol → ⊥
          no_leaf q = true≢false (ap is_dangling (sym q))
            where
              is_dangling : Symbol → Bool
              is_dangling DanglingSymbol = true
              is_dangling y = false

  link_fits : (s b : ℕ) (e : End) → AreIdle r (end_tips bs (gives_out_of bs b) e)
      → EndFits face tops s (Link b) (out-Tree (bare_end e)).symbol
      → EndFits face rest s (Link b) (out-Tree (bare_end (placed_end f e))).symbol
  link_fits s b e idle (x, t, i, j, k, h) =
      let g : gives_out_of bs b ≡ x.gives_out = ap fields_out i in
      (x, t, i, j, k, link_end x.gives_out t e (subst (λ (z : List ℕ). AreIdle r (end_tips bs z e)) g idle) h)

  ends_fit : (s : ℕ) (ps : Parts) → AreIdle r (tips_of bs ps) → EndsFit face tops s (slots_of ps) (end_symbols ps)
      → EndsFit face rest s (slots_of (placed_parts f ps)) (end_symbols (placed_parts f ps))
  ends_fit s no_parts idle h = tt
  ends_fit s (field g e ps) idle h =
      let later = idle_right r (end_tips bs [] e) (tips_of bs ps) idle in
      ((h.0.0, h.0.1, field_end h.0.0 e h.0.2), ends_fit s ps later h.1)
  ends_fit s (link b i e ps) idle h = (
    link_fits s b e (idle_left r (end_tips bs (gives_out_of bs b) e) (tips_of bs ps) idle) h.0,
    ends_fit s ps (idle_right r (end_tips bs (gives_out_of bs b) e) (tips_of bs ps) idle) h.1,
  )
  ends_fit s (hook b i ps) idle h = (h.0, ends_fit s ps idle h.1)

  mutual
    node_filled : (n : Node) (above : List ℕ) → AreIdle r (tips face.boxes n)
        → Every (IsFilledSpot face tops) (node_spots face.boxes n above)
        → Every (IsFilledSpot face (but_place r tops)) (node_spots face.boxes (placed (drop_leaf r) n) above)
    node_filled (node c s ds ps) above idle h =
        let same : slots_of (placed_parts f ps) ≡ slots_of ps = slots_placed f ps in (
          record {
            ends = ends_fit s ps idle h.0.ends;
            order = subst (λ (ss : List Slot). IsInOrder face.boxes ss) (sym same) h.0.order;
            once = rw same h.0.once;
          },
          parts_filled ps idle h.1,
        )

    parts_filled : (ps : Parts) → AreIdle r (tips_of face.boxes ps)
        → Every (IsFilledSpot face tops) (parts_spots face.boxes ps)
        → Every (IsFilledSpot face (but_place r tops)) (parts_spots face.boxes (placed_parts (drop_leaf r) ps))
    parts_filled no_parts idle h = tt
    parts_filled (field g e ps) idle h =
        let k = every_parts (IsFilledSpot face tops) (end_spots bs [] e) (parts_spots bs ps) h in
        every_append (IsFilledSpot face rest) (end_spots bs [] (placed_end f e)) (parts_spots bs (placed_parts f ps))
        (end_filled [] e (idle_left r (end_tips bs [] e) (tips_of bs ps) idle) k.0)
        (parts_filled ps (idle_right r (end_tips bs [] e) (tips_of bs ps) idle) k.1)
    parts_filled (link b i e ps) idle h =
        let g : List ℕ = gives_out_of bs b in
        let k = every_parts (IsFilledSpot face tops) (end_spots bs (gives_out_of bs b) e) (parts_spots bs ps) h in
        every_append (IsFilledSpot face rest) (end_spots bs (gives_out_of bs b) (placed_end f e))
        (parts_spots bs (placed_parts f ps))
        (end_filled (gives_out_of bs b) e (idle_left r (end_tips bs (gives_out_of bs b) e) (tips_of bs ps) idle) k.0)
        (parts_filled ps (idle_right r (end_tips bs (gives_out_of bs b) e) (tips_of bs ps) idle) k.1)
    parts_filled (hook b i ps) idle h = parts_filled ps idle h

    end_filled : (g : List ℕ) (e : End) → AreIdle r (end_tips face.boxes g e)
        → Every (IsFilledSpot face tops) (end_spots face.boxes g e)
        → Every (IsFilledSpot face (but_place r tops)) (end_spots face.boxes g (placed_end (drop_leaf r) e))
    end_filled g (under n) idle h = node_filled n g idle h
    end_filled g (leaf t) idle h = tt

  pub tree_filled : (n : Node) (above : List ℕ) → AreIdle r (tips face.boxes n)
      → Every (IsFilledSpot face tops) (spots face.boxes (bare n) above)
      → Every (IsFilledSpot face (but_place r tops)) (spots face.boxes (bare (placed (drop_leaf r) n)) above)
  tree_filled n above idle h =
      subst (λ (l : List Spot). Every (IsFilledSpot face rest) l) (sym (spots_are bs (placed f n) above))
      (node_filled n above idle (subst (λ (l : List Spot). Every (IsFilledSpot face tops) l) (spots_are bs n above) h))

  -- the trees of all roots but r, where what is given to the other roots stays
  module _ (all new : List Tree)
      (same : (k : ℕ) → k ≢ r → given_at face.boxes new (lowered r k) ≡ given_at face.boxes all k) where
    one_filled : (k m : ℕ) (n : Node) → k ≢ r → lowered r k ≡ m → AreIdle r (tips bs n)
        → Every (IsFilledSpot face tops) (spots bs (bare n) (given_at bs all k))
        → Every (IsFilledSpot face rest) (spots bs (bare (placed f n)) (given_at bs new m))
    one_filled k m n other low idle h =
        subst (λ (xs : List ℕ). Every (IsFilledSpot face rest) (spots bs (bare (placed f n)) xs))
        (sym (same k other) ∙ ap (given_at bs new) low) (tree_filled n (given_at bs all k) idle h)

    after : (k : ℕ) (ns : Nodes) → r ≤ k → AreIdle r (all_tips bs ns) → TreesFilled face all tops (suc k) (bares ns)
        → TreesFilled face new rest k (bares (placed_all f ns))
    after k no_nodes l idle h = tt
    after k (more n ns) l idle h = (
      one_filled (suc k) k n (omega (arith, l))
          (let a = lowered_above r (suc k) (omega (arith, l)) in omega (arith, a))
          (idle_left r (tips bs n) (all_tips bs ns) idle) h.0,
      after (suc k) ns (omega (arith, l)) (idle_right r (tips bs n) (all_tips bs ns) idle) h.1,
    )

    pub trees_filled : (k j : ℕ) (ns : Nodes) → r ≡ k + j → AreIdle r (all_tips face.boxes ns)
        → TreesFilled face all tops k (bares ns)
        → TreesFilled face new (but_place r tops) k (bares (placed_all (drop_leaf r) (without_node j ns)))
    trees_filled k j no_nodes e idle h = tt
    trees_filled k zero (more n ns) e idle h =
        after k ns (omega (arith, e)) (idle_right r (tips bs n) (all_tips bs ns) idle) h.1
    trees_filled k (suc j) (more n ns) e idle h = (
      one_filled k k n (omega (arith, e)) (lowered_below r k (omega (arith, e)))
          (idle_left r (tips bs n) (all_tips bs ns) idle) h.0,
      trees_filled (suc k) j ns (omega (arith, e)) (idle_right r (tips bs n) (all_tips bs ns) idle) h.1,
    )
