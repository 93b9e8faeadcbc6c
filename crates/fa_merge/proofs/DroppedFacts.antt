-- The facts of a dressed forest without one of its roots: those of the other trees, with Dangling in the place of the
-- root's cell.
use Rattle.std.proofs.Common.{◌≡◌, ◌≢◌, inl, inr, ℕ, zero, suc, Bool, true, false, true≢false, if◌then◌else◌}
use Rattle.std.proofs.Common.{nat_eq, List, [], ◌∷◌, ◌++◌, map, refl, sym, ap, ap₂, subst, ◌∙◌, Some, arith}
use Rattle.std.proofs.lemmas.Bool.{eqb-true, eq-eqb}
use Rattle.std.proofs.lemmas.Option.{none-some, same_Some}
use Rattle.fore_base.specs.Lists.{IsIn, Every}
use Rattle.fore_base.specs.Stores.{dangle, dangle_in, without}
use Rattle.fore_base.specs.declared.store.CellRec.{CellRec}
use Rattle.fore_base.specs.declared.store.Datum.{Datum}
use Rattle.fore_base.specs.declared.store.Value.{Value}
use Rattle.fore_base.specs.declared.store.Value.TheVariants.{Cell}
use Rattle.ta_core.specs.Auto.{Automaton}
use Rattle.fa_core.specs.declared.boxes.BoxDef.{BoxDef}
use Rattle.fa_core.specs.declared.forest.Target.{Target}
use Rattle.fa_core.specs.declared.forest.Target.TheVariants.{Null, Uninit, Dangling, At}
use Rattle.fa_core.specs.Dressed.{Node, Parts, End, Nodes, node, no_parts, field, link, hook, under, leaf, no_nodes}
use Rattle.fa_core.specs.Dressed.{more, Fact, Head, Points, tree_facts, slot_facts, end_facts, forest_facts, value_in}
use Rattle.fa_core.specs.Dressed.{nth_value, end_value, inside_facts, roots_of, number}
use Rattle.fa_core.specs.Member.{TreesOf, InsidesOf, InsidesOfParts, InsidesOfEnd, store_facts, cell_facts, points}
use Rattle.fa_core.specs.Placed.{placed, placed_leaf, placed_parts, placed_end, placed_all}
use Rattle.fa_core.specs.Rearranged.{Rearranged, empty, keep, swap, chain}
use Rattle.fa_core.proofs.Given.{root_numbers}
use Rattle.fa_core.proofs.Placing.{roots_placed}
use Rattle.fa_core.proofs.Rearranging.{same, equal, after, exchange}
use Rattle.fa_merge.specs.Dropped.{drop_leaf, without_node, dropped, AreLeaves}
use Rattle.fa_back.specs.Reached.{node_at}
use Rattle.fa_merge.specs.Merged.{lowered}
use Rattle.fa_merge.proofs.DroppedInsides.{dangle_fact, dangle_self, dangle_other, NoFact, none_left, none_right}
use Rattle.fa_merge.proofs.DroppedInsides.{HaveInputs, both_dangle, link_ports, hook_ports, inside_dangled}
use Rattle.fa_merge.proofs.DroppedLists.{lowered_suc}
use Rattle.fa_back.proofs.FactParts.{fact_cell}
use Rattle.fa_merge.proofs.Lowered.{lowered_above, lowered_below}

-- values of roots, none of which is the cell
nth_apart : (c : ℕ) (d : Nodes) (k : ℕ) → (IsIn c (root_numbers d) → ⊥) → dangle c (nth_value (roots_of d) k)
    ≡ nth_value (roots_of d) k
nth_apart c no_nodes k h = refl
nth_apart c (more n ns) zero h = dangle_other c (number n) (λ e. h (inl (sym e)))
nth_apart c (more n ns) (suc k) h = nth_apart c ns k (λ i. h (inr i))

-- what the other roots are
nth_kept : (c : ℕ) (r k : ℕ) (d : Nodes) → k ≢ r → (IsIn c (root_numbers (without_node r d)) → ⊥)
    → nth_value (roots_of (without_node r d)) (lowered r k) ≡ dangle c (nth_value (roots_of d) k)
nth_kept c r k no_nodes d h = refl
nth_kept c zero zero (more n ns) d h = absurd (d refl)
nth_kept c zero (suc k) (more n ns) d h =
    let a = lowered_above 0 (suc k) (omega arith) in
    let b : lowered 0 (suc k) ≡ k = omega (arith, a) in
    ap (nth_value (roots_of ns)) b ∙ sym (nth_apart c ns k h)
nth_kept c (suc r) zero (more n ns) d h =
    let a : lowered (suc r) 0 ≡ 0 = lowered_below (suc r) 0 (omega arith) in
    ap (nth_value (Cell (number n) ∷ roots_of (without_node r ns))) a
    ∙ sym (dangle_other c (number n) (λ e. h (inl (sym e))))
nth_kept c (suc r) (suc k) (more n ns) d h =
    ap (nth_value (Cell (number n) ∷ roots_of (without_node r ns))) (lowered_suc r k)
    ∙ nth_kept c r k ns (λ e. d (ap (λ (m : ℕ). suc m) e)) (λ i. h (inr i))

nth_root : (c s : ℕ) (ds : List Datum) (ps : Parts) (r : ℕ) (d : Nodes) → node_at d r ≡ Some (node c s ds ps)
    → nth_value (roots_of d) r ≡ Cell c
nth_root c s ds ps r no_nodes e = absurd (none-some (node c s ds ps) e)
nth_root c s ds ps zero (more n ns) e = ap (λ (z : Node). Cell (number z)) (same_Some n (node c s ds ps) e)
nth_root c s ds ps (suc r) (more n ns) e = nth_root c s ds ps r ns e

-- each tree has insides of its box
abbrev pub InsidesIn : List BoxDef → Nodes → Type 0
InsidesIn T no_nodes = Unit {0}
InsidesIn T (more n ns) = InsidesOf T n × InsidesIn T ns

pub insides_in : (T : List BoxDef) (autos : List Automaton) (d : Nodes) → TreesOf T autos d → InsidesIn T d
insides_in T [] no_nodes o = tt
insides_in T [] (more n ns) o = absurd o
insides_in T (a ∷ autos) no_nodes o = absurd o
insides_in T (a ∷ autos) (more n ns) o = (o.1, insides_in T autos ns o.2)

pub insides_without : (T : List BoxDef) (r : ℕ) (d : Nodes) → InsidesIn T d → InsidesIn T (without_node r d)
insides_without T r no_nodes h = tt
insides_without T zero (more n ns) h = h.1
insides_without T (suc r) (more n ns) h = (h.0, insides_without T r ns h.1)

-- the cells of roots are among the heads
pub roots_other : (c : ℕ) (vs : List Value) (ns : Nodes) → NoFact c (forest_facts vs [] ns)
    → IsIn c (root_numbers ns) → ⊥
roots_other c vs no_nodes h i = i
roots_other c vs (more (node m s ds ps) ns) h (inl e) = h (Head m s ds) (inl refl) (sym e)
roots_other c vs (more n ns) h (inr i) =
    roots_other c vs ns (none_right c (tree_facts vs n) (forest_facts vs [] ns) h) i

-- Root r of d is the cell c, of which no fact of the others is.

module _ (T : List BoxDef) (inputs : HaveInputs T) (c s : ℕ) (ds : List Datum) (ps : Parts) (r : ℕ) (d : Nodes)
    (is : node_at d r ≡ Some (node c s ds ps)) (clear : NoFact c (forest_facts (roots_of d) [] (without_node r d)))
  where
    abbrev vs : List Value
    vs = roots_of d

    abbrev ws : List Value
    ws = roots_of (dropped r d)

    abbrev f : ℕ → Target
    f = drop_leaf r

    apart : IsIn c (root_numbers (without_node r d)) → ⊥
    apart = roots_other c vs (without_node r d) clear

    pub leaf_dropped : (t : Target) → value_in (roots_of (dropped r d)) (placed_leaf (drop_leaf r) t)
        ≡ dangle c (value_in (roots_of d) t)
    leaf_dropped Null = refl
    leaf_dropped Uninit = refl
    leaf_dropped Dangling = refl
    leaf_dropped (At k) = here (nat_eq r k) refl
      where
        here : (b : Bool) → nat_eq r k ≡ b
            → value_in (roots_of (dropped r d)) (if b then Dangling else At (lowered r k))
            ≡ dangle c (nth_value (roots_of d) k)
        here true e =
            sym (ap (λ (j : ℕ). dangle c (nth_value (roots_of d) j)) (sym (eqb-true r k e))
            ∙ ap (dangle c) (nth_root c s ds ps r d is) ∙ dangle_self c)
        here false e =
            ap (λ (us : List Value). nth_value us (lowered r k)) (roots_placed (drop_leaf r) (without_node r d))
            ∙ nth_kept c r k d (λ z. true≢false (sym (eq-eqb r k (sym z)) ∙ e)) apart

    pub leaves_dropped : (ts : List Target)
        → map (value_in (roots_of (dropped r d))) (map (placed_leaf (drop_leaf r)) ts)
        ≡ map (dangle c) (map (value_in (roots_of d)) ts)
    leaves_dropped [] = refl
    leaves_dropped (t ∷ ts) = ap₂ (λ (v : Value) (us : List Value). v ∷ us) (leaf_dropped t) (leaves_dropped ts)

    end_dropped : (e : End) → NoFact c (end_facts (roots_of d) e)
        → end_value (roots_of (dropped r d)) (placed_end (drop_leaf r) e) ≡ dangle c (end_value (roots_of d) e)
    end_dropped (leaf t) h = leaf_dropped t
    end_dropped (under (node m q es us)) h = sym (dangle_other c m (h (Head m q es) (inl refl)))

    mutual
      tree_dropped : (n : Node) → InsidesOf T n → NoFact c (tree_facts (roots_of d) n)
          → tree_facts (roots_of (dropped r d)) (placed (drop_leaf r) n)
          ≡ map (dangle_fact c) (tree_facts (roots_of d) n)
      tree_dropped (node m q es us) o h =
          ap (λ (xs : List Fact). Head m q es ∷ xs)
          (slots_dropped m (h (Head m q es) (inl refl)) us o (λ x i. h x (inr i)))

      slots_dropped : (m : ℕ) → m ≢ c → (us : Parts) → InsidesOfParts T us → NoFact c (slot_facts (roots_of d) m us)
          → slot_facts (roots_of (dropped r d)) m (placed_parts (drop_leaf r) us)
          ≡ map (dangle_fact c) (slot_facts (roots_of d) m us)
      slots_dropped m a no_parts o h = refl
      slots_dropped m a (field g e us) o h =
          let l = none_left c (end_facts vs e) (slot_facts vs m us) (λ x i. h x (inr i)) in
          let k = none_right c (end_facts vs e) (slot_facts vs m us) (λ x i. h x (inr i)) in
          ap₂ (λ (v : Value) (xs : List Fact). Points m g v ∷ xs) (end_dropped e l)
          (both_dangle T inputs c (end_facts vs e) (slot_facts vs m us) (end_facts ws (placed_end f e))
          (slot_facts ws m (placed_parts f us)) (below_dropped e o.0 l) (slots_dropped m a us o.1 k))
      slots_dropped m a (link b i e us) o h =
          let ports : List Value = Cell m ∷ (end_value vs e ∷ []) in
          let fs : List Fact = inside_facts ports i in
          let rest : List Fact = end_facts vs e ++ slot_facts vs m us in
          let x = none_left c fs rest h in
          let z = none_right c fs rest h in
          let l = none_left c (end_facts vs e) (slot_facts vs m us) z in
          let k = none_right c (end_facts vs e) (slot_facts vs m us) z in
          both_dangle T inputs c fs rest (inside_facts (Cell m ∷ (end_value ws (placed_end f e) ∷ [])) i)
          (end_facts ws (placed_end f e) ++ slot_facts ws m (placed_parts f us))
          (ap (λ (qs : List Value). inside_facts qs i)
          (link_ports T inputs c m a (end_value vs e) (end_value ws (placed_end f e)) (end_dropped e l))
          ∙ inside_dangled T inputs c ports o.0.0 i o.0.2 x)
          (both_dangle T inputs c (end_facts vs e) (slot_facts vs m us) (end_facts ws (placed_end f e))
          (slot_facts ws m (placed_parts f us)) (below_dropped e o.1 l) (slots_dropped m a us o.2 k))
      slots_dropped m a (hook b i us) o h =
          let fs : List Fact = inside_facts (Cell m ∷ []) i in
          let x = none_left c fs (slot_facts vs m us) h in
          let k = none_right c fs (slot_facts vs m us) h in
          both_dangle T inputs c fs (slot_facts vs m us) fs (slot_facts ws m (placed_parts f us))
          (ap (λ (qs : List Value). inside_facts qs i) (hook_ports T inputs c m a)
          ∙ inside_dangled T inputs c (Cell m ∷ []) o.0.0 i o.0.2 x)
          (slots_dropped m a us o.1 k)

      below_dropped : (e : End) → InsidesOfEnd T e → NoFact c (end_facts (roots_of d) e)
          → end_facts (roots_of (dropped r d)) (placed_end (drop_leaf r) e)
          ≡ map (dangle_fact c) (end_facts (roots_of d) e)
      below_dropped (under n) o h = tree_dropped n o h
      below_dropped (leaf t) o h = refl

    all_dropped : (e : Nodes) → InsidesIn T e → NoFact c (forest_facts (roots_of d) [] e)
        → forest_facts (roots_of (dropped r d)) [] (placed_all (drop_leaf r) e)
        ≡ map (dangle_fact c) (forest_facts (roots_of d) [] e)
    all_dropped no_nodes o h = refl
    all_dropped (more n ns) o h =
        both_dangle T inputs c (tree_facts vs n) (forest_facts vs [] ns) (tree_facts ws (placed f n))
        (forest_facts ws [] (placed_all f ns))
        (tree_dropped n o.0 (none_left c (tree_facts vs n) (forest_facts vs [] ns) h))
        (all_dropped ns o.1 (none_right c (tree_facts vs n) (forest_facts vs [] ns) h))

    -- the facts without root r
    pub facts_dropped : InsidesIn T (without_node r d) → forest_facts (roots_of (dropped r d)) [] (dropped r d)
        ≡ map (dangle_fact c) (forest_facts (roots_of d) [] (without_node r d))
    facts_dropped o = all_dropped (without_node r d) o clear

-- Facts but those of a cell.

abbrev pub but_facts : ℕ → List Fact → List Fact
but_facts c [] = []
but_facts c (x ∷ xs) = if nat_eq (fact_cell x) c then but_facts c xs else x ∷ but_facts c xs

module _ (c : ℕ) where
  pub but_moved : {xs ys : List Fact} → Rearranged xs ys → Rearranged (but_facts c xs) (but_facts c ys)
  but_moved empty = empty
  but_moved (keep x {xs} {ys} h) = here (nat_eq (fact_cell x) c) (but_moved h)
    where
      here : (b : Bool) → Rearranged (but_facts c xs) (but_facts c ys)
          → Rearranged (if b then but_facts c xs else x ∷ but_facts c xs)
          (if b then but_facts c ys else x ∷ but_facts c ys)
      here true k = k
      here false k = keep x k
  but_moved (swap x y xs) = here (nat_eq (fact_cell x) c) (nat_eq (fact_cell y) c)
    where
      here : (a b : Bool) → Rearranged
          (if a then (if b then but_facts c xs else y ∷ but_facts c xs)
          else x ∷ (if b then but_facts c xs else y ∷ but_facts c xs))
          (if b then (if a then but_facts c xs else x ∷ but_facts c xs)
          else y ∷ (if a then but_facts c xs else x ∷ but_facts c xs))
      here true true = same (but_facts c xs)
      here true false = same (y ∷ but_facts c xs)
      here false true = same (x ∷ but_facts c xs)
      here false false = swap x y (but_facts c xs)
  but_moved (chain a b) = chain (but_moved a) (but_moved b)

  pub but_both : (xs ys : List Fact) → but_facts c (xs ++ ys) ≡ but_facts c xs ++ but_facts c ys
  but_both [] ys = refl
  but_both (x ∷ xs) ys = here (nat_eq (fact_cell x) c) (but_both xs ys)
    where
      here : (b : Bool) → but_facts c (xs ++ ys) ≡ but_facts c xs ++ but_facts c ys
          → (if b then but_facts c (xs ++ ys) else x ∷ but_facts c (xs ++ ys))
          ≡ (if b then but_facts c xs else x ∷ but_facts c xs) ++ but_facts c ys
      here true e = e
      here false e = ap (λ (z : List Fact). x ∷ z) e

  -- facts of the cell alone, and facts of others
  but_own : (xs : List Fact) → Every (λ (x : Fact). fact_cell x ≡ c) xs → but_facts c xs ≡ []
  but_own [] h = refl
  but_own (x ∷ xs) h = rw (eq-eqb (fact_cell x) c h.0) (but_own xs h.1)

  but_others : (xs : List Fact) → ((x : Fact) → IsIn x xs → fact_cell x ≢ c) → but_facts c xs ≡ xs
  but_others [] h = refl
  but_others (x ∷ xs) h = here (nat_eq (fact_cell x) c) refl (but_others xs (λ y i. h y (inr i)))
    where
      here : (b : Bool) → nat_eq (fact_cell x) c ≡ b → but_facts c xs ≡ xs
          → (if b then but_facts c xs else x ∷ but_facts c xs) ≡ x ∷ xs
      here true e k = absurd (h x (inl refl) (eqb-true (fact_cell x) c e))
      here false e k = ap (λ (z : List Fact). x ∷ z) k

  -- facts of a flat cell are its own
  flat_own : (us : List Value) (ps : Parts) → AreLeaves ps → Every (λ (x : Fact). fact_cell x ≡ c) (slot_facts us c ps)
  flat_own us no_parts h = tt
  flat_own us (field f (leaf t) ps) h = (refl, flat_own us ps h)
  flat_own us (field f (under n) ps) h = absurd h
  flat_own us (link b i e ps) h = absurd h
  flat_own us (hook b i ps) h = absurd h

module _ (vs : List Value) where
  -- the facts of the other trees
  pub but_root : (c s : ℕ) (ds : List Datum) (ps : Parts) (r : ℕ) (d : Nodes) → node_at d r ≡ Some (node c s ds ps)
      → AreLeaves ps → NoFact c (forest_facts vs [] (without_node r d)) → but_facts c (forest_facts vs [] d)
      ≡ forest_facts vs [] (without_node r d)
  but_root c s ds ps r no_nodes e f h = absurd (none-some (node c s ds ps) e)
  but_root c s ds ps zero (more n ns) e f h =
      but_both c (tree_facts vs n) (forest_facts vs [] ns)
      ∙ ap₂ (λ (xs ys : List Fact). xs ++ ys)
      (subst (λ (z : Node). but_facts c (tree_facts vs z) ≡ []) (sym (same_Some n (node c s ds ps) e))
      (but_own c (tree_facts vs (node c s ds ps)) (refl, flat_own c vs ps f)))
      (but_others c (forest_facts vs [] ns) h)
  but_root c s ds ps (suc r) (more n ns) e f h =
      but_both c (tree_facts vs n) (forest_facts vs [] ns)
      ∙ ap₂ (λ (xs ys : List Fact). xs ++ ys)
      (but_others c (tree_facts vs n) (none_left c (tree_facts vs n) (forest_facts vs [] (without_node r ns)) h))
      (but_root c s ds ps r ns e f (none_right c (tree_facts vs n) (forest_facts vs [] (without_node r ns)) h))

-- the facts of root r come first
pub root_first : (us : List Value) (r : ℕ) (d : Nodes) (n : Node) → node_at d r ≡ Some n
    → Rearranged (forest_facts us [] d) (tree_facts us n ++ forest_facts us [] (without_node r d))
root_first us r no_nodes n e = absurd (none-some n e)
root_first us zero (more m ms) n e =
    equal (ap (λ (x : Node). tree_facts us x ++ forest_facts us [] ms) (same_Some m n e))
root_first us (suc r) (more m ms) n e =
    chain (after (tree_facts us m) (root_first us r ms n e))
    (exchange (tree_facts us m) (tree_facts us n) (forest_facts us [] (without_node r ms)))

-- The facts of a store without a cell.

module _ (c : ℕ) where
  points_own : (n k : ℕ) (us : List Value) → Every (λ (x : Fact). fact_cell x ≡ n) (points n k us)
  points_own n k [] = tt
  points_own n k (u ∷ us) = (refl, points_own n (suc k) us)

  points_dangled : (n k : ℕ) (us : List Value) → map (dangle_fact c) (points n k us) ≡ points n k (map (dangle c) us)
  points_dangled n k [] = refl
  points_dangled n k (u ∷ us) = ap (λ (z : List Fact). Points n k (dangle c u) ∷ z) (points_dangled n (suc k) us)

  map_two : (xs ys : List Fact) → map (dangle_fact c) (xs ++ ys) ≡ map (dangle_fact c) xs ++ map (dangle_fact c) ys
  map_two [] ys = refl
  map_two (x ∷ xs) ys = ap (λ (zs : List Fact). dangle_fact c x ∷ zs) (map_two xs ys)

  own_every : (x : CellRec) → Every (λ (y : Fact). fact_cell y ≡ x.number) (cell_facts x)
  own_every x = (refl, points_own x.number 0 x.fields)

  every_in_fact : (P : Fact → Type 0) (xs : List Fact) (x : Fact) → Every P xs → IsIn x xs → P x
  every_in_fact P [] x h i = absurd i
  every_in_fact P (y ∷ ys) x h (inl e) = subst P (sym e) h.0
  every_in_fact P (y ∷ ys) x h (inr i) = every_in_fact P ys x h.1 i

  pub store_dropped : (cs : List CellRec) → map (dangle_fact c) (but_facts c (store_facts cs))
      ≡ store_facts (without c cs)
  store_dropped [] = refl
  store_dropped (x ∷ cs) = here (nat_eq x.number c) refl (store_dropped cs)
    where
      here : (b : Bool) → nat_eq x.number c ≡ b → map (dangle_fact c) (but_facts c (store_facts cs))
          ≡ store_facts (without c cs)
          → map (dangle_fact c) (but_facts c (cell_facts x ++ store_facts cs))
          ≡ store_facts (if b then without c cs else dangle_in c x ∷ without c cs)
      here true e k =
          ap (map (dangle_fact c))
          (but_both c (cell_facts x) (store_facts cs)
          ∙ ap (λ (z : List Fact). z ++ but_facts c (store_facts cs))
          (but_own c (cell_facts x)
          (subst (λ (m : ℕ). Every (λ (y : Fact). fact_cell y ≡ m) (cell_facts x)) (eqb-true x.number c e)
          (own_every x))))
          ∙ k
      here false e k =
          let apart : x.number ≢ c = (λ z. true≢false (sym (eq-eqb x.number c z) ∙ e)) in
          let stay : but_facts c (cell_facts x) ≡ cell_facts x =
          but_others c (cell_facts x)
          (λ y i q.
          apart (sym (every_in_fact (λ (y : Fact). fact_cell y ≡ x.number) (cell_facts x) y (own_every x) i)
          ∙ q)) in
          ap (map (dangle_fact c))
          (but_both c (cell_facts x) (store_facts cs)
          ∙ ap (λ (z : List Fact). z ++ but_facts c (store_facts cs)) stay)
          ∙ map_two (cell_facts x) (but_facts c (store_facts cs))
          ∙ ap₂ (λ (xs ys : List Fact). (Head x.number x.shape x.datums ∷ xs) ++ ys)
          (points_dangled x.number 0 x.fields) k
