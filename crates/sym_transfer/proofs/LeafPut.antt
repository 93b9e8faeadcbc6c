-- Another leaf in a field of a root: its pointer is a fact in front of others, which stay.
use Rattle.std.proofs.Common.{◌≡◌, ℕ, zero, suc, Bool, true, false, nat_eq, if◌then◌else◌, List, [], ◌∷◌, ◌++◌, Some}
use Rattle.std.proofs.Common.{refl, sym, ap, subst}
use Rattle.std.proofs.lemmas.Bool.{eqb-true}
use Rattle.std.proofs.lemmas.Option.{none-some, same_Some}
use Rattle.fore_base.specs.declared.store.Value.{Value}
use Rattle.fore_base.specs.declared.store.Value.TheVariants.{Cell}
use Rattle.fa_core.specs.declared.forest.Target.{Target}
use Rattle.fa_core.specs.Dressed.{Node, Parts, End, Nodes, node, no_parts, field, link, hook, leaf, no_nodes, more}
use Rattle.fa_core.specs.Dressed.{Fact, Head, Points, facts, tree_facts, slot_facts, end_facts, forest_facts}
use Rattle.fa_core.specs.Dressed.{with_ports, end_value, number, roots_of, value_in}
use Rattle.fa_core.specs.Rearranged.{Rearranged, keep, swap, chain}
use Rattle.fa_core.proofs.Rearranging.{equal, after, before, middle}
use Rattle.fa_back.specs.Reached.{node_at}
use Rattle.fa_split.specs.Split.{top_parts}
use Rattle.fa_edit.specs.Leaves.{end_of_field, put_leaf, with_leaf, HasLeaf, leaf_put}

-- The pointer of the field comes to the front, whatever it is, and the rest stays

module _ (vs : List Value) (c f : ℕ) (t : Target) where
  pub slots_split : (ps : Parts) → end_of_field f ps ≡ Some (leaf t) → (R : List Fact)
      × ((u : Target) → Rearranged (slot_facts vs c (put_leaf f u ps)) (Points c f (value_in vs u) ∷ R))
  slots_split no_parts h = absurd (none-some (leaf t) h)
  slots_split (field g e ps) h = here (nat_eq g f) refl h (slots_split ps)
    where
      here : (b : Bool) → nat_eq g f ≡ b → (if b then Some e else end_of_field f ps) ≡ Some (leaf t)
          → (end_of_field f ps ≡ Some (leaf t) → (R : List Fact)
          × ((u : Target) → Rearranged (slot_facts vs c (put_leaf f u ps)) (Points c f (value_in vs u) ∷ R)))
          → (R : List Fact)
          × ((u : Target) → Rearranged
          (slot_facts vs c (if b then field g (leaf u) ps else field g e (put_leaf f u ps)))
          (Points c f (value_in vs u) ∷ R))
      here true p q rest = (
        slot_facts vs c ps,
        λ u.
            equal (ap (λ (j : ℕ). Points c j (value_in vs u) ∷ slot_facts vs c ps) (eqb-true g f p)),
      )
      here false p q rest =
          let s = rest q in
          let x = Points c g (end_value vs e) in (
            x ∷ (end_facts vs e ++ s.0),
            λ u.
                chain
                (keep x
                (chain (after (end_facts vs e) (s.1 u)) (middle (end_facts vs e) (Points c f (value_in vs u)) s.0)))
                (swap x (Points c f (value_in vs u)) (end_facts vs e ++ s.0)),
          )
  slots_split (link b inside e ps) h =
      let s = slots_split ps h in
      let i = forest_facts (with_ports (Cell c ∷ (end_value vs e ∷ [])) inside) (Cell c ∷ (end_value vs e ∷ [])) inside
      in (
        i ++ (end_facts vs e ++ s.0),
        λ u.
            chain
            (after i
            (chain (after (end_facts vs e) (s.1 u)) (middle (end_facts vs e) (Points c f (value_in vs u)) s.0)))
            (middle i (Points c f (value_in vs u)) (end_facts vs e ++ s.0)),
      )
  slots_split (hook b inside ps) h =
      let s = slots_split ps h in
      let i = forest_facts (with_ports (Cell c ∷ []) inside) (Cell c ∷ []) inside in
      (i ++ s.0, λ u. chain (after i (s.1 u)) (middle i (Points c f (value_in vs u)) s.0))

module _ (vs : List Value) (f : ℕ) (t : Target) where
  pub tree_split : (n : Node) → end_of_field f (top_parts n) ≡ Some (leaf t) → (R : List Fact)
      × ((u : Target) → Rearranged (tree_facts vs (with_leaf f u n)) (Points (number n) f (value_in vs u) ∷ R))
  tree_split (node c s ds ps) h =
      let k = slots_split vs c f t ps h in
      (Head c s ds ∷ k.0, λ u. chain (keep (Head c s ds) (k.1 u)) (swap (Head c s ds) (Points c f (value_in vs u)) k.0))

  pub forest_split : (r : ℕ) (d : Nodes) (n : Node) → node_at d r ≡ Some n → end_of_field f (top_parts n)
      ≡ Some (leaf t) → (R : List Fact)
      × ((u : Target) → Rearranged (forest_facts vs [] (leaf_put r f u d)) (Points (number n) f (value_in vs u) ∷ R))
  forest_split zero no_nodes n e h = absurd (none-some n e)
  forest_split (suc r) no_nodes n e h = absurd (none-some n e)
  forest_split zero (more m ns) n e h =
      let p : n ≡ m = sym (same_Some m n e) in
      let k = tree_split m (subst (λ (x : Node). end_of_field f (top_parts x) ≡ Some (leaf t)) p h) in (
        k.0 ++ forest_facts vs [] ns,
        λ u.
            subst
            (λ (x : Node). Rearranged (forest_facts vs [] (leaf_put zero f u (more m ns)))
            (Points (number x) f (value_in vs u) ∷ (k.0 ++ forest_facts vs [] ns))) (sym p)
            (before (forest_facts vs [] ns) (k.1 u)),
      )
  forest_split (suc r) (more m ns) n e h =
      let k = forest_split r ns n e h in (
        tree_facts vs m ++ k.0,
        λ u. chain (after (tree_facts vs m) (k.1 u))
            (middle (tree_facts vs m) (Points (number n) f (value_in vs u)) k.0),
      )

-- Roots and numbers stay

pub number_kept : (f : ℕ) (u : Target) (n : Node) → number (with_leaf f u n) ≡ number n
number_kept f u (node c s ds ps) = refl

pub roots_kept : (r f : ℕ) (u : Target) (d : Nodes) → roots_of (leaf_put r f u d) ≡ roots_of d
roots_kept zero f u no_nodes = refl
roots_kept (suc r) f u no_nodes = refl
roots_kept zero f u (more n ns) = ap (λ (k : ℕ). Cell k ∷ roots_of ns) (number_kept f u n)
roots_kept (suc r) f u (more n ns) = ap (λ (vs : List Value). Cell (number n) ∷ vs) (roots_kept r f u ns)

-- the facts of a dressed forest with any leaf in the field: that pointer, and the rest
pub facts_split : (f : ℕ) (t : Target) (r : ℕ) (d : Nodes) (n : Node) → node_at d r ≡ Some n
    → end_of_field f (top_parts n) ≡ Some (leaf t) → (R : List Fact)
    × ((u : Target) → Rearranged (facts (leaf_put r f u d)) (Points (number n) f (value_in (roots_of d) u) ∷ R))
facts_split f t r d n e h =
    let k = forest_split (roots_of d) f t r d n e h in (
      k.0,
      λ u.
          subst (λ (vs : List Value).
          Rearranged (forest_facts vs [] (leaf_put r f u d)) (Points (number n) f (value_in (roots_of d) u) ∷ k.0))
          (sym (roots_kept r f u d)) (k.1 u),
    )

-- Leaves put one after the other

pub put_same : (f : ℕ) (t : Target) (ps : Parts) → end_of_field f ps ≡ Some (leaf t) → put_leaf f t ps ≡ ps
put_same f t no_parts h = refl
put_same f t (field g e ps) h = here (nat_eq g f) h (put_same f t ps)
  where
    here : (b : Bool) → (if b then Some e else end_of_field f ps) ≡ Some (leaf t)
        → (end_of_field f ps ≡ Some (leaf t) → put_leaf f t ps ≡ ps)
        → (if b then field g (leaf t) ps else field g e (put_leaf f t ps)) ≡ field g e ps
    here true q rest = ap (λ (x : End). field g x ps) (sym (same_Some e (leaf t) q))
    here false q rest = ap (λ (x : Parts). field g e x) (rest q)
put_same f t (link b inside e ps) h = ap (λ (x : Parts). link b inside e x) (put_same f t ps h)
put_same f t (hook b inside ps) h = ap (λ (x : Parts). hook b inside x) (put_same f t ps h)

pub put_twice : (f : ℕ) (t u : Target) (ps : Parts) → put_leaf f u (put_leaf f t ps) ≡ put_leaf f u ps
put_twice f t u no_parts = refl
put_twice f t u (field g e ps) = here (nat_eq g f) refl (put_twice f t u ps)
  where
    here : (b : Bool) → nat_eq g f ≡ b → put_leaf f u (put_leaf f t ps) ≡ put_leaf f u ps
        → put_leaf f u (if b then field g (leaf t) ps else field g e (put_leaf f t ps))
        ≡ (if b then field g (leaf u) ps else field g e (put_leaf f u ps))
    here true p rest = rw p refl
    here false p rest = rw p (ap (λ (x : Parts). field g e x) rest)
put_twice f t u (link b inside e ps) = ap (λ (x : Parts). link b inside e x) (put_twice f t u ps)
put_twice f t u (hook b inside ps) = ap (λ (x : Parts). hook b inside x) (put_twice f t u ps)

pub leaf_put_same : (r f : ℕ) (t : Target) (d : Nodes) → HasLeaf d r f t → leaf_put r f t d ≡ d
leaf_put_same zero f t no_nodes h = refl
leaf_put_same (suc r) f t no_nodes h = refl
leaf_put_same zero f t (more (node c s ds ps) ns) (n, e, h) =
    ap (λ (x : Parts). more (node c s ds x) ns)
    (put_same f t ps
    (subst (λ (m : Node). end_of_field f (top_parts m) ≡ Some (leaf t)) (sym (same_Some (node c s ds ps) n e)) h))
leaf_put_same (suc r) f t (more m ns) h = ap (λ (x : Nodes). more m x) (leaf_put_same r f t ns h)

pub leaf_put_twice : (r f : ℕ) (t u : Target) (d : Nodes) → leaf_put r f u (leaf_put r f t d) ≡ leaf_put r f u d
leaf_put_twice zero f t u no_nodes = refl
leaf_put_twice (suc r) f t u no_nodes = refl
leaf_put_twice zero f t u (more (node c s ds ps) ns) = ap (λ (x : Parts). more (node c s ds x) ns) (put_twice f t u ps)
leaf_put_twice (suc r) f t u (more m ns) = ap (λ (x : Nodes). more m x) (leaf_put_twice r f t u ns)

pub node_put : (r f : ℕ) (u : Target) (d : Nodes) (n : Node) → node_at d r ≡ Some n → node_at (leaf_put r f u d) r
    ≡ Some (with_leaf f u n)
node_put zero f u no_nodes n e = absurd (none-some n e)
node_put (suc r) f u no_nodes n e = absurd (none-some n e)
node_put zero f u (more m ns) n e = ap (λ (x : Node). Some (with_leaf f u x)) (same_Some m n e)
node_put (suc r) f u (more m ns) n e = node_put r f u ns n e
