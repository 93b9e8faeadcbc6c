-- Without box edges the cells that are roots of a canonical forest are told by the facts and the variables alone.
use Rattle.std.proofs.Common.{◌≡◌, ◌⊎◌, inl, inr, ℕ, zero, suc, ◌≤◌, List, [], ◌∷◌, map, refl, sym, ap, subst}
use Rattle.std.proofs.Common.{◌∙◌, Some, arith}
use Rattle.std.proofs.lemmas.Option.{none-some, same_Some}
use Rattle.fore_base.specs.Lists.{IsIn, IsDistinct}
use Rattle.fore_base.specs.declared.store.Value.{Value}
use Rattle.fore_base.specs.declared.store.Value.TheVariants.{Null as NullValue, Uninit as UninitValue}
use Rattle.fore_base.specs.declared.store.Value.TheVariants.{Dangling as DanglingValue, Cell}
use Rattle.fore_base.proofs.ListLemmas.{in_append, in_left, in_right}
use Rattle.fa_core.specs.declared.forest.Target.{Target}
use Rattle.fa_core.specs.declared.forest.Target.TheVariants.{Null, Uninit, Dangling, At}
use Rattle.fa_core.specs.Choices.{numbers, all_numbers}
use Rattle.fa_core.specs.Dressed.{Node, Parts, End, Nodes, node, no_parts, field, link, hook, under, leaf, no_nodes}
use Rattle.fa_core.specs.Dressed.{more}
use Rattle.fa_core.specs.Dressed.{Fact, Points, facts, end_value, value_in, nth_value, roots_of, number, refs}
use Rattle.fa_core.specs.Dressed.{refs_of}
use Rattle.fa_core.specs.Dressed.{end_refs}
use Rattle.fa_core.specs.Rearranged.{Rearranged, often}
use Rattle.fa_core.proofs.Counts.{often_same}
use Rattle.fa_core.proofs.Permuted.{in_rearranged, none_in_both}
use Rattle.fa_core.proofs.PlainNodes.{NoEdges, NoEdgesOf, NoEdgesAt, NoEdgesIn}
use Rattle.fa_back.specs.Reached.{node_at}
use Rattle.fa_back.proofs.FactParts.{var_target, no_cell, number_of, root_node, node_root, top_in, in_all}
use Rattle.fa_unique.proofs.CellsWithin.{HasField, parts_of, IsSubIn, one_cell_in, owner_in, pointer_of, field_cell}
use Rattle.fa_unique.proofs.CellsWithin.{differ_left, differ_right, sub_top}
use Rattle.fa_unique.proofs.CellsWithin.{IsSub}
use Rattle.fa_unique.proofs.Pointers.{pointed, pointed_same, inner, all_inner, in_inner}
use Rattle.fa_unique.proofs.TwiceNamed.{twice_root, two_pointers}

-- a tree of a dressed forest without box edges has none
pub plain_at : (d : Nodes) → NoEdgesIn d → (r : ℕ) (x : Node) → node_at d r ≡ Some x → NoEdges x
plain_at no_nodes b r x e = absurd (none-some x e)
plain_at (more n ns) b zero x e = subst NoEdges (same_Some n x e) b.0
plain_at (more n ns) b (suc r) x e = plain_at ns b.1 r x e

-- a variable or two pointers name the cell
abbrev pub IsMain : List Value → List Fact → ℕ → Type 0
IsMain vars fs c = IsIn (Cell c) vars ⊎ (2 ≤ often c (pointed fs))

-- a field of a main root ends at the cell x, whose tree refers to that root
pub record IsKnotCell (vars : List Value) (d : Nodes) (x : Node) : Type 0 where
  pub from : ℕ
  pub top : Node
  pub at : node_at d from ≡ Some top
  pub main : IsMain vars (facts d) (number top)
  pub field_no : ℕ
  pub end_there : End
  pub has : HasField field_no end_there (parts_of top)
  pub ends : end_value (roots_of d) end_there ≡ Cell (number x)
  pub ref : ℕ
  pub refers : IsIn ref (refs x)
  pub ties : nth_value (roots_of d) ref ≡ Cell (number top)

-- what the definition of canonical forests says of a dressed forest without boxes, but for the order
pub record IsCanonicalDressed (vars : List Value) (targets : List Target) (d : Nodes) : Type 0 where
  pub plain : NoEdgesIn d
  pub distinct : IsDistinct (all_numbers d)
  pub named : vars ≡ map (value_in (roots_of d)) targets
  pub kinds : (r : ℕ) (x : Node) → node_at d r ≡ Some x → IsMain vars (facts d) (number x) ⊎ IsKnotCell vars d x
  pub untied : (r f k : ℕ) (p y : Node) → node_at d r ≡ Some p → IsMain vars (facts d) (number p)
      → HasField f (under y) (parts_of p) → IsIn k (refs y) → nth_value (roots_of d) k ≡ Cell (number p) → ⊥

-- a root is a cell
pub top_sub : (d : Nodes) (r : ℕ) (x : Node) → node_at d r ≡ Some x → IsSubIn x d
top_sub no_nodes r x e = absurd (none-some x e)
top_sub (more n ns) zero x e = inl (subst (λ (y : Node). IsSub x y) (sym (same_Some n x e)) (sub_top x))
top_sub (more n ns) (suc r) x e = inr (top_sub ns r x e)

inner_below : (n : Node) (c : ℕ) → IsIn c (inner n) → IsIn c (numbers n)
inner_below (node b s ds ps) c i = inr i

top_alone : (n : Node) → IsDistinct (numbers n) → IsIn (number n) (inner n) → ⊥
top_alone (node b s ds ps) a i = a.0 i

-- a top is no inner cell
pub top_outer : (d : Nodes) (r : ℕ) (x : Node) → IsDistinct (all_numbers d) → node_at d r ≡ Some x
    → IsIn (number x) (all_inner d) → ⊥
top_outer no_nodes r x a e i = absurd (none-some x e)
top_outer (more n ns) zero x a e i =
    let q : n ≡ x = same_Some n x e in
    elim (in_append (number x) (inner n) (all_inner ns) i) [
      | inl j ↦ top_alone n (differ_left (numbers n) (all_numbers ns) a)
          (subst (λ (y : Node). IsIn (number y) (inner n)) (sym q) j)
      | inr j ↦ none_in_both (number x) (numbers n) (all_numbers ns) a
          (subst (λ (y : Node). IsIn (number y) (numbers n)) q (top_in n)) (in_inner ns (number x) j)
    ]
top_outer (more n ns) (suc r) x a e i = elim (in_append (number x) (inner n) (all_inner ns) i) [
  | inl j ↦ none_in_both (number x) (numbers n) (all_numbers ns) a (inner_below n (number x) j)
      (in_all ns r (number x) x e (top_in x))
  | inr j ↦ top_outer ns r x (differ_right (numbers n) (all_numbers ns) a) e j
]

-- a cell that a root reference names is a top
pub root_top : (d : Nodes) (k c : ℕ) → nth_value (roots_of d) k ≡ Cell c → (x : Node) × (node_at d k ≡ Some x)
    × (number x ≡ c)
root_top d k c e =
    let x = root_node d k c e in
    (x.0, x.1, ap number_of (sym (node_root d k x.0 x.1) ∙ e))

module _ (vars : List Value) (targets : List Target) (d : Nodes) (h : IsCanonicalDressed vars targets d) where
  -- a main cell is a top
  main_top : (c : ℕ) → IsMain vars (facts d) c → (r : ℕ) × (x : Node) × (node_at d r ≡ Some x) × (number x ≡ c)
  main_top c (inl i) =
      let k = var_target (roots_of d) targets c (rw h.named at i) in
      let x = root_top d k.0 c k.2 in
      (k.0, x.0, x.1, x.2)
  main_top c (inr i) =
      let k = twice_root d h.plain h.distinct c i in
      let x = root_top d k.0 c k.2 in
      (k.0, x.0, x.1, x.2)

  -- and no inner cell
  pub main_outer : (c : ℕ) → IsMain vars (facts d) c → IsIn c (all_inner d) → ⊥
  main_outer c m i =
      let x = main_top c m in
      top_outer d x.0 x.1 h.distinct x.2 (subst (λ (n : ℕ). IsIn n (all_inner d)) (sym x.3) i)

  -- no more is a cell that a reference names
  pub root_outer : (k c : ℕ) → nth_value (roots_of d) k ≡ Cell c → IsIn c (all_inner d) → ⊥
  root_outer k c e i =
      let x = root_top d k c e in
      top_outer d k x.0 h.distinct x.1 (subst (λ (n : ℕ). IsIn n (all_inner d)) (sym x.2) i)

  -- the field of the cell z that a pointer among the facts is
  pub field_of : (z : Node) (f : ℕ) (v : Value) → IsSubIn z d → IsIn (Points (number z) f v) (facts d) → (e : End)
      × HasField f e (parts_of z) × (end_value (roots_of d) e ≡ v)
  field_of z f v i p =
      let k = owner_in (roots_of d) (number z) f v d h.plain p in
      let s : k.0 ≡ z = one_cell_in k.0 z d h.distinct k.2 i k.3 in
      (k.1, subst (λ (y : Node). HasField f k.1 (parts_of y)) s k.4, k.5)

-- two canonical dressed forests with the same facts and variables
module _ (vars : List Value) (ts us : List Target) (d e : Nodes) (h : IsCanonicalDressed vars ts d)
    (g : IsCanonicalDressed vars us e) (r : Rearranged (facts d) (facts e)) where
  main_there : (c : ℕ) → IsMain vars (facts d) c → IsMain vars (facts e) c
  main_there c (inl i) = inl i
  main_there c (inr i) = inr (let s : often c (pointed (facts d)) ≡ often c (pointed (facts e)) = often_same c
      (pointed_same r) in omega (arith, s, i))

  main_here : (c : ℕ) → IsMain vars (facts e) c → IsMain vars (facts d) c
  main_here c (inl i) = inl i
  main_here c (inr i) = inr (let s : often c (pointed (facts d)) ≡ often c (pointed (facts e)) = often_same c
      (pointed_same r) in omega (arith, s, i))

  -- a field of a cell of d is a field of the cell of e with that number
  pub moved_field : (x z : Node) (f : ℕ) (a : End) → IsSubIn x d → IsSubIn z e → number x ≡ number z
      → HasField f a (parts_of x) → (b : End) × HasField f b (parts_of z)
      × (end_value (roots_of e) b ≡ end_value (roots_of d) a)
  moved_field x z f a i j s k =
      let p : IsIn (Points (number x) f (end_value (roots_of d) a)) (facts e) = in_rearranged _ r
      (pointer_of d h.plain x f a i k) in
      field_of vars us e g z f (end_value (roots_of d) a) j (subst
      (λ (n : ℕ). IsIn (Points n f (end_value (roots_of d) a)) (facts e)) s p)

  -- an inner cell of d that a field of an inner cell of e names is an inner cell of e
  stays_inner : (z : Node) (f : ℕ) (b : End) (w : ℕ) → IsSubIn z e → IsIn (number z) (all_inner e)
      → HasField f b (parts_of z) → end_value (roots_of e) b ≡ Cell w → IsIn w (all_inner d) → (y : Node)
      × (b ≡ under y) × (number y ≡ w)
  stays_inner z f (under y) w i j k s o = (y, refl, ap number_of s)
  stays_inner z f (leaf Null) w i j k s o = absurd (no_cell NullValue w s)
  stays_inner z f (leaf Uninit) w i j k s o = absurd (no_cell UninitValue w s)
  stays_inner z f (leaf Dangling) w i j k s o = absurd (no_cell DanglingValue w s)
  stays_inner z f (leaf (At n)) w i j k s o =
      let x = root_top e n w s in
      absurd (end_case x.0 x.1 x.2 (g.kinds n x.0 x.1))
    where
      end_case : (x : Node) → node_at e n ≡ Some x → number x ≡ w
          → IsMain vars (facts e) (number x) ⊎ IsKnotCell vars e x → ⊥
      end_case x a q (inl m) = main_outer vars ts d h w (main_here w
          (subst (λ (c : ℕ). IsMain vars (facts e) c) q m)) o
      end_case x a q (inr m) =
          let p1 : IsIn (Points (number m.top) m.field_no (Cell w)) (facts e) = subst
          (λ (v : Value). IsIn (Points (number m.top) m.field_no v) (facts e)) (m.ends ∙ ap Cell q)
          (pointer_of e g.plain m.top m.field_no m.end_there (top_sub e m.from m.top m.at) m.has) in
          let p2 : IsIn (Points (number z) f (Cell w)) (facts e) = subst
          (λ (v : Value). IsIn (Points (number z) f v) (facts e)) s
          (pointer_of e g.plain z f (leaf (At n)) i k) in
          main_outer vars ts d h w (main_here w (inr (two_pointers w m.field_no f (number m.top) (number z)
          (facts e) p1 p2 (λ t. main_outer vars us e g (number z)
          (subst (λ (c : ℕ). IsMain vars (facts e) c) t m.main) j)))) o

  -- the cells below an inner cell refer in e to the main cells to which they refer in d
  module _ (b : ℕ) (main : IsMain vars (facts d) b) where
    abbrev Refers : Nodes → List ℕ → Type 0
    Refers x ks = (k : ℕ) × IsIn k ks × (nth_value (roots_of x) k ≡ Cell b)

    field_refers : (f : ℕ) (a : End) (ps : Parts) → HasField f a ps → Refers e (end_refs a) → Refers e (refs_of ps)
    field_refers f a no_parts k w = absurd k
    field_refers f a (field o x ps) (inl k) w = (
      w.0,
      in_left w.0 (end_refs x) (refs_of ps)
          (subst (λ (y : End). IsIn w.0 (end_refs y)) k.1 w.1),
      w.2,
    )
    field_refers f a (field o x ps) (inr k) w = let v = field_refers f a ps k w in
        (v.0, in_right v.0 (end_refs x) (refs_of ps) v.1, v.2)
    field_refers f a (link l inside x ps) k w = let v = field_refers f a ps k w in
        (v.0, in_right v.0 (end_refs x) (refs_of ps) v.1, v.2)
    field_refers f a (hook l inside ps) k w = field_refers f a ps k w

    refs_parts : (z : Node) → refs z ≡ refs_of (parts_of z)
    refs_parts (node c s ds ps) = refl

    mutual
      path_tree : (x z : Node) → NoEdges x → IsSubIn x d → IsSubIn z e → IsIn (number z) (all_inner e)
          → number x ≡ number z → Refers d (refs x) → Refers e (refs z)
      path_tree (node c s ds ps) z bx i j o q w = path_parts (node c s ds ps) z ps bx (λ f a k. k) i j o q w

      path_parts : (x z : Node) (ps : Parts) → NoEdgesOf ps →
          ((f : ℕ) (a : End) → HasField f a ps → HasField f a (parts_of x)) → IsSubIn x d → IsSubIn z e
          → IsIn (number z) (all_inner e) → number x ≡ number z → Refers d (refs_of ps) → Refers e (refs z)
      path_parts x z no_parts bx sub i j o q w = absurd w.1
      path_parts x z (field f a ps) bx sub i j o q w = elim (in_append w.0 (end_refs a) (refs_of ps) w.1) [
        | inl k ↦ (let m = moved_field x z f a i j q (sub f a (inl (refl, refl))) in
            path_end x z f a bx.0 i j o (sub f a (inl (refl, refl))) m.0 m.1 m.2 (w.0, k, w.2))
        | inr k ↦ path_parts x z ps bx.1 (λ f' a' k'. sub f' a' (inr k')) i j o q (w.0, k, w.2)
      ]
      path_parts x z (link l inside a ps) bx sub i j o q w = absurd bx
      path_parts x z (hook l inside ps) bx sub i j o q w = absurd bx

      path_end : (x z : Node) (f : ℕ) (a : End) → NoEdgesAt a → IsSubIn x d → IsSubIn z e
          → IsIn (number z) (all_inner e) → HasField f a (parts_of x) → (y : End) → HasField f y (parts_of z)
          → end_value (roots_of e) y ≡ end_value (roots_of d) a → Refers d (end_refs a) → Refers e (refs z)
      path_end x z f (under n) bx i j o k y l s w =
          let inn = field_cell d x n f i k in
          let v = stays_inner z f y (number n) j o l s inn.1 in
          let l' : HasField f (under v.0) (parts_of z) = subst (λ (t : End). HasField f t (parts_of z)) v.1 l in
          let below = field_cell e z v.0 f j l' in
          rw (refs_parts z) (field_refers f (under v.0) (parts_of z) l'
          (path_tree n v.0 bx inn.0 below.0 below.1 (sym v.2) w))
      path_end x z f (leaf Null) bx i j o k y l s w = absurd w.1
      path_end x z f (leaf Uninit) bx i j o k y l s w = absurd w.1
      path_end x z f (leaf Dangling) bx i j o k y l s w = absurd w.1
      path_end x z f (leaf (At n)) bx i j o k y l s w = rw (refs_parts z)
          (field_refers f y (parts_of z) l (leaf_case y l (s ∙ (only_one w))))
        where
          only_one : Refers d (n ∷ []) → nth_value (roots_of d) n ≡ Cell b
          only_one (m, inl t, u) = ap (nth_value (roots_of d)) (sym t) ∙ u
          only_one (m, inr t, u) = absurd t

          leaf_case : (y : End) → HasField f y (parts_of z) → end_value (roots_of e) y ≡ Cell b
              → Refers e (end_refs y)
          leaf_case (under m) l t = absurd (main_outer vars us e g b (main_there b main)
              (subst (λ (c : ℕ). IsIn c (all_inner e)) (ap number_of t) (field_cell e z m f j l).1))
          leaf_case (leaf Null) l t = absurd (no_cell NullValue b t)
          leaf_case (leaf Uninit) l t = absurd (no_cell UninitValue b t)
          leaf_case (leaf Dangling) l t = absurd (no_cell DanglingValue b t)
          leaf_case (leaf (At m)) l t = (m, inl refl, t)

  -- a root of d is no inner cell of e
  pub root_there : (n : ℕ) (x : Node) → node_at d n ≡ Some x → IsIn (number x) (all_inner e) → ⊥
  root_there n x at o = end_case (h.kinds n x at)
    where
      end_case : IsMain vars (facts d) (number x) ⊎ IsKnotCell vars d x → ⊥
      end_case (inl m) = main_outer vars us e g (number x) (main_there (number x) m) o
      end_case (inr m) =
          let b = number m.top in
          let there = main_top vars us e g b (main_there b m.main) in
          let f = moved_field m.top there.1 m.field_no m.end_there (top_sub d m.from m.top m.at)
          (top_sub e there.0 there.1 there.2) (sym there.3) m.has in
          tied there f.0 f.1 (f.2 ∙ m.ends)
        where
          tied : (there : (j : ℕ) × (p : Node) × (node_at e j ≡ Some p) × (number p ≡ number m.top)) (y : End)
              → HasField m.field_no y (parts_of there.1) → end_value (roots_of e) y ≡ Cell (number x) → ⊥
          tied there (under y) l s =
              let below = field_cell e there.1 y m.field_no (top_sub e there.0 there.1 there.2) l in
              let w = path_tree (number m.top) m.main x y (plain_at d h.plain n x at)
              (top_sub d n x at) below.0 below.1 (sym (ap number_of s)) (m.ref, m.refers, m.ties) in
              g.untied there.0 m.field_no w.0 there.1 y there.2
              (subst (λ (c : ℕ). IsMain vars (facts e) c) (sym there.3)
              (main_there (number m.top) m.main)) l w.1 (w.2 ∙ ap Cell (sym there.3))
          tied there (leaf Null) l s = no_cell NullValue (number x) s
          tied there (leaf Uninit) l s = no_cell UninitValue (number x) s
          tied there (leaf Dangling) l s = no_cell DanglingValue (number x) s
          tied there (leaf (At k)) l s = root_outer vars us e g k (number x) s o
