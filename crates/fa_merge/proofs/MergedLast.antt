-- The last component merged into the one whose trees refer to it: both ways each dressed forest can be regrouped.
use Rattle.std.proofs.Common.{◌≡◌, ◌≢◌, inl, inr, ℕ, zero, suc, ◌<◌, Bool, true, false, if◌then◌else◌, nat_eq, length}
use Rattle.std.proofs.Common.{List, [], ◌∷◌, ◌++◌, map, refl, sym, ap, ap₂, subst, ◌∙◌, slice_get, slice_set, Some}
use Rattle.std.proofs.lemmas.Option.{same_Some}
use Rattle.fore_base.specs.Lists.{IsIn, Every}
use Rattle.fore_base.specs.declared.store.Value.{Value}
use Rattle.fore_base.proofs.ListLemmas.{every_in}
use Rattle.ta_core.specs.Auto.{Automaton, IsRankedRule}
use Rattle.ta_core.specs.Language.{InLanguage}
use Rattle.ta_core.specs.declared.auto.Rule.{Rule}
use Rattle.ta_core.specs.declared.symbol.Symbol.TheVariants.{Ref}
use Rattle.fa_core.specs.declared.boxes.BoxDef.{BoxDef}
use Rattle.fa_core.specs.declared.forest.Forest.{Forest}
use Rattle.fa_core.specs.declared.forest.Target.{Target}
use Rattle.fa_core.specs.declared.forest.Target.TheVariants.{Null, Uninit, Dangling, At}
use Rattle.fa_core.specs.Choices.{count}
use Rattle.fa_core.specs.Dressed.{Node, Parts, End, Nodes, node, no_parts, field, link, hook, under, leaf, no_nodes}
use Rattle.fa_core.specs.Dressed.{more, cells, roots_of, value_in, refs, refs_of, end_refs, all_refs}
use Rattle.fa_core.specs.Member.{TreesOf, InsidesOf, InsidesOfParts, InsidesOfEnd, Regroups, bare, leaf_symbol}
use Rattle.fa_core.specs.Rearranged.{Rearranged}
use Rattle.fa_core.specs.References.{AllBelow, IsOnce, IsNever}
use Rattle.fa_core.proofs.Counts.{below_both, never_both, once_cases}
use Rattle.fa_core.proofs.NodeRuns.{EndRun, node_bare, bare_node}
use Rattle.fa_core.proofs.Rearranging.{back}
use Rattle.fa_merge.specs.Merged.{merged}
use Rattle.fa_merge.specs.inner.Grafting.{plug, plug_parts, plug_end, plug_all, with_last}
use Rattle.fa_merge.proofs.CutTrees.{FillsEnd, once_end, plug_never_tree}
use Rattle.fa_merge.proofs.GraftedCells.{graft_last, nth_more, roots_plugged}
use Rattle.fa_merge.proofs.MergedTrees.{cut, graft_tree, Top}
use Rattle.fa_merge.proofs.OtherOrders.{count_trees}

module _ (T : List BoxDef) (r : ℕ) (m : Node) where
  -- the insides of a graft
  mutual
    plug_insides : (n : Node) → InsidesOf T m → InsidesOf T n → InsidesOf T (plug r m n)
    plug_insides (node c s ds ps) h k = plug_insides_parts ps h k

    plug_insides_parts : (ps : Parts) → InsidesOf T m → InsidesOfParts T ps → InsidesOfParts T (plug_parts r m ps)
    plug_insides_parts no_parts h k = tt
    plug_insides_parts (field f e ps) h k = (plug_insides_end e h k.0, plug_insides_parts ps h k.1)
    plug_insides_parts (link b inside e ps) h k = (k.0, plug_insides_end e h k.1, plug_insides_parts ps h k.2)
    plug_insides_parts (hook b inside ps) h k = (k.0, plug_insides_parts ps h k.1)

    plug_insides_end : (e : End) → InsidesOf T m → InsidesOfEnd T e → InsidesOfEnd T (plug_end r m e)
    plug_insides_end (under n) h k = plug_insides n h k
    plug_insides_end (leaf Null) h k = tt
    plug_insides_end (leaf Uninit) h k = tt
    plug_insides_end (leaf Dangling) h k = tt
    plug_insides_end (leaf (At j)) h k = here (nat_eq r j)
      where
        here : (b : Bool) → InsidesOfEnd T (if b then under m else leaf (At j))
        here true = h
        here false = tt

  mutual
    unplug_insides : (n : Node) → InsidesOf T (plug r m n) → InsidesOf T n
    unplug_insides (node c s ds ps) k = unplug_insides_parts ps k

    unplug_insides_parts : (ps : Parts) → InsidesOfParts T (plug_parts r m ps) → InsidesOfParts T ps
    unplug_insides_parts no_parts k = tt
    unplug_insides_parts (field f e ps) k = (unplug_insides_end e k.0, unplug_insides_parts ps k.1)
    unplug_insides_parts (link b inside e ps) k = (k.0, unplug_insides_end e k.1, unplug_insides_parts ps k.2)
    unplug_insides_parts (hook b inside ps) k = (k.0, unplug_insides_parts ps k.1)

    unplug_insides_end : (e : End) → InsidesOfEnd T (plug_end r m e) → InsidesOfEnd T e
    unplug_insides_end (under n) k = unplug_insides n k
    unplug_insides_end (leaf t) k = tt

  mutual
    own_insides : (n : Node) → IsOnce r (refs n) → InsidesOf T (plug r m n) → InsidesOf T m
    own_insides (node c s ds ps) o k = own_insides_parts ps o k

    own_insides_parts : (ps : Parts) → IsOnce r (refs_of ps) → InsidesOfParts T (plug_parts r m ps) → InsidesOf T m
    own_insides_parts no_parts o k = absurd o
    own_insides_parts (field f e ps) o k =
        elim (once_cases r (end_refs e) (refs_of ps) o)
        [ inl p ↦ own_insides_end e p.0 k.0 | inr p ↦ own_insides_parts ps p.1 k.1 ]
    own_insides_parts (link b inside e ps) o k =
        elim (once_cases r (end_refs e) (refs_of ps) o)
        [ inl p ↦ own_insides_end e p.0 k.1 | inr p ↦ own_insides_parts ps p.1 k.2 ]
    own_insides_parts (hook b inside ps) o k = own_insides_parts ps o k.1

    own_insides_end : (e : End) → IsOnce r (end_refs e) → InsidesOfEnd T (plug_end r m e) → InsidesOf T m
    own_insides_end (under n) o k = own_insides n o k
    own_insides_end (leaf Null) o k = absurd o
    own_insides_end (leaf Uninit) o k = absurd o
    own_insides_end (leaf Dangling) o k = absurd o
    own_insides_end (leaf (At j)) (inl o) k =
        let z : InsidesOfEnd T (if nat_eq r j then under m else leaf (At j)) = k in (rw o.0 at z)
    own_insides_end (leaf (At j)) (inr o) k = absurd o.1

-- what the trees of a component say of root r: it is met exactly once, or never; no root above r is met
abbrev pub MeetsOnce : ℕ → Automaton → Type 0
MeetsOnce r a = (n : Node) → InLanguage a (bare n) → IsOnce r (refs n) × AllBelow (suc r) (refs n)

abbrev pub MeetsNever : ℕ → Automaton → Type 0
MeetsNever r a = (n : Node) → InLanguage a (bare n) → IsNever r (refs n) × AllBelow (suc r) (refs n)

-- r is met once in component i and never in the others
abbrev pub MetIn : ℕ → ℕ → List Automaton → Type 0
MetIn r i [] = ⊥
MetIn r zero (a ∷ rest) = MeetsOnce r a × Every (MeetsNever r) rest
MetIn r (suc i) (a ∷ rest) = MeetsNever r a × MetIn r i rest

append_once : (r : ℕ) (xs ys : List ℕ) → IsOnce r xs → IsNever r ys → IsOnce r (xs ++ ys)
append_once r [] ys h k = absurd h
append_once r (x ∷ xs) ys (inl h) k = inl (h.0, never_both r xs ys h.1 k)
append_once r (x ∷ xs) ys (inr h) k = inr (h.0, append_once r xs ys h.1 k)

append_later : (r : ℕ) (xs ys : List ℕ) → IsNever r xs → IsOnce r ys → IsOnce r (xs ++ ys)
append_later r [] ys h k = k
append_later r (x ∷ xs) ys h k = inr (h.0, append_later r xs ys h.1 k)

abbrev IsUnder : End → Type 0
IsUnder (under n) = Unit {0}
IsUnder (leaf y) = ⊥

abbrev node_of : Node → End → Node
node_of d (under n) = n
node_of d (leaf y) = d

under_same : (x y : Node) → under x ≡ under y → x ≡ y
under_same x y e = ap (node_of x) e

-- the trees of the components but the last, and the last one's
pub split_last : (T : List BoxDef) (cs : List Automaton) (l : Automaton) (d : Nodes) → TreesOf T (cs ++ (l ∷ [])) d
    → (ns : Nodes) × (m : Node) × (d ≡ with_last ns m) × TreesOf T cs ns × InLanguage l (bare m) × InsidesOf T m
split_last T [] l no_nodes h = absurd h
split_last T [] l (more n no_nodes) h = (no_nodes, n, refl, tt, h.0, h.1)
split_last T [] l (more n (more y ns)) h = absurd h.2
split_last T (c ∷ cs) l no_nodes h = absurd h
split_last T (c ∷ cs) l (more n ns) h =
    let k = split_last T cs l ns h.2 in
    (more n k.0, k.1, ap (more n) k.2, (h.0, h.1, k.3), k.4, k.5)

pub join_last : (T : List BoxDef) (cs : List Automaton) (l : Automaton) (ns : Nodes) (m : Node) → TreesOf T cs ns
    → InLanguage l (bare m) → InsidesOf T m → TreesOf T (cs ++ (l ∷ [])) (with_last ns m)
join_last T [] l no_nodes m h k i = (k, i, tt)
join_last T [] l (more n ns) m h k i = absurd h
join_last T (c ∷ cs) l no_nodes m h k i = absurd h
join_last T (c ∷ cs) l (more n ns) m h k i = (h.0, h.1, join_last T cs l ns m h.2 k i)

all_never : (T : List BoxDef) (r : ℕ) (cs : List Automaton) (ns : Nodes) → Every (MeetsNever r) cs → TreesOf T cs ns
    → IsNever r (all_refs ns) × AllBelow (suc r) (all_refs ns)
all_never T r [] no_nodes w h = (tt, tt)
all_never T r [] (more n ns) w h = absurd h
all_never T r (c ∷ cs) no_nodes w h = absurd h
all_never T r (c ∷ cs) (more n ns) w h =
    let k = w.0 n h.0 in let j = all_never T r cs ns w.1 h.2 in
    (never_both r (refs n) (all_refs ns) k.0 j.0, below_both (suc r) (refs n) (all_refs ns) k.1 j.1)

all_once : (T : List BoxDef) (r i : ℕ) (cs : List Automaton) (ns : Nodes) → MetIn r i cs → TreesOf T cs ns
    → IsOnce r (all_refs ns) × AllBelow (suc r) (all_refs ns)
all_once T r i [] ns w h = absurd w
all_once T r zero (c ∷ cs) no_nodes w h = absurd h
all_once T r (suc i) (c ∷ cs) no_nodes w h = absurd h
all_once T r zero (c ∷ cs) (more n ns) w h =
    let k = w.0 n h.0 in let j = all_never T r cs ns w.1 h.2 in
    (append_once r (refs n) (all_refs ns) k.0 j.0, below_both (suc r) (refs n) (all_refs ns) k.1 j.1)
all_once T r (suc i) (c ∷ cs) (more n ns) w h =
    let k = w.0 n h.0 in let j = all_once T r i cs ns w.1 h.2 in
    (append_later r (refs n) (all_refs ns) k.0 j.0, below_both (suc r) (refs n) (all_refs ns) k.1 j.1)

plug_never_all : (T : List BoxDef) (r : ℕ) (m : Node) (cs : List Automaton) (ns : Nodes) → Every (MeetsNever r) cs
    → TreesOf T cs ns → plug_all r m ns ≡ ns
plug_never_all T r m [] no_nodes w h = refl
plug_never_all T r m [] (more n ns) w h = absurd h
plug_never_all T r m (c ∷ cs) no_nodes w h = absurd h
plug_never_all T r m (c ∷ cs) (more n ns) w h =
    ap₂ more (plug_never_tree r m n (w.0 n h.0).0) (plug_never_all T r m cs ns w.1 h.2)

module _ (T : List BoxDef) (r : ℕ) (t l : Automaton) (range : Every (IsRankedRule t.states) t.rules)
    (rooted : Every (λ q. q < t.states) t.roots)
    (tops : (o : Rule) → IsIn o l.rules → IsIn o.state l.roots → (y : Target) → o.symbol ≢ leaf_symbol y)
    (own_tops : (o : Rule) → IsIn o t.rules → IsIn o.state t.roots → o.symbol ≢ Ref r)
    (flat : (x : Rule) → IsIn x t.rules → x.symbol ≡ Ref r → x.children ≡ []) where
  -- grafted, the trees are those of the merged components
  grafted : (m : Node) (i : ℕ) (cs : List Automaton) (ns : Nodes) → slice_get cs i ≡ Some t → MetIn r i cs
      → InLanguage l (bare m) → InsidesOf T m → TreesOf T cs ns
      → TreesOf T (slice_set cs i (merged r t l)) (plug_all r m ns)
  grafted m i [] ns e w a b h = absurd w
  grafted m zero (c ∷ cs) no_nodes e w a b h = absurd h
  grafted m (suc i) (c ∷ cs) no_nodes e w a b h = absurd h
  grafted m zero (c ∷ cs) (more n ns) e w a b h =
      let p : c ≡ t = same_Some c t e in
      let z : InLanguage t (bare n) = rw p at h.0 in (
        (
          z.0,
          z.1,
          node_bare (merged r t l).rules z.0 (plug r m n)
              (graft_tree r t l range tops flat m (a.0, a.1, bare_node l.rules a.0 m a.2) z.0 n
              (bare_node t.rules z.0 n z.2)),
        ),
        plug_insides T r m n b h.1,
        subst (λ (y : Nodes). TreesOf T cs y) (sym (plug_never_all T r m cs ns w.1 h.2)) h.2,
      )
  grafted m (suc i) (c ∷ cs) (more n ns) e w a b h =
      let q : plug r m n ≡ n = plug_never_tree r m n (w.0 n h.0).0 in (
        subst (λ (y : Node). InLanguage c (bare y)) (sym q) h.0,
        subst (λ (y : Node). InsidesOf T y) (sym q) h.1,
        grafted m i cs ns e w.1 a b h.2,
      )

  -- a tree of the merged automaton is a graft
  ungraft_one : (x : Node) → MeetsOnce r t → InLanguage (merged r t l) (bare x) → (n : Node) × (m : Node)
      × InLanguage t (bare n) × InLanguage l (bare m) × (x ≡ plug r m n)
  ungraft_one x w h =
      let k = cut r t l range tops flat h.0 (under x) (every_in (λ q. q < t.states) t.roots h.0 rooted h.1)
      (bare_node (merged r t l).rules h.0 x h.2) in
      end_case k.0 k.1 k.2 k.3 k.4
    where
      end_case : (e : End) (ms : List Node) → EndRun t.rules h.0 e → Every (Top r t l range tops flat) ms
          → FillsEnd r e ms (under x) → (n : Node) × (m : Node) × InLanguage t (bare n) × InLanguage l (bare m)
          × (x ≡ plug r m n)
      end_case (leaf y) ms g a (inl f) = absurd (own_tops g.0 g.1 (rw g.2 h.1) (g.3 ∙ ap leaf_symbol f.1))
      end_case (leaf y) ms g a (inr f) = absurd (subst IsUnder f.2 tt)
      end_case (under n) ms g a f =
          let v : InLanguage t (bare n) = (h.0, h.1, node_bare t.rules h.0 n g) in
          let o = once_end r (under n) ms (under x) f (w n v).0 in
          let b : Every (Top r t l range tops flat) (o.0 ∷ []) = rw o.1 at a in
          (n, o.0, v, (b.0.0, b.0.1, node_bare l.rules b.0.0 o.0 b.0.2), under_same x (plug r o.0 n) o.2)

  ungrafted : (i : ℕ) (cs : List Automaton) (xs : Nodes) → slice_get cs i ≡ Some t → MetIn r i cs
      → TreesOf T (slice_set cs i (merged r t l)) xs → (ns : Nodes) × (m : Node) × (xs ≡ plug_all r m ns)
      × TreesOf T cs ns × InLanguage l (bare m) × InsidesOf T m
  ungrafted i [] xs e w h = absurd w
  ungrafted zero (c ∷ cs) no_nodes e w h = absurd h
  ungrafted (suc i) (c ∷ cs) no_nodes e w h = absurd h
  ungrafted zero (c ∷ cs) (more x xs) e w h =
      let p : c ≡ t = same_Some c t e in
      let w' : MeetsOnce r t = rw p at w.0 in
      let k = ungraft_one x w' h.0 in
      let g : InsidesOf T (plug r k.1 k.0) = subst (λ (y : Node). InsidesOf T y) k.4 h.1 in (
        more k.0 xs,
        k.1,
        ap₂ more k.4 (sym (plug_never_all T r k.1 cs xs w.1 h.2)),
        (subst (λ (y : Automaton). InLanguage y (bare k.0)) (sym p) k.2, unplug_insides T r k.1 k.0 g, h.2),
        k.3,
        own_insides T r k.1 k.0 (w' k.0 k.2).0 g,
      )
  ungrafted (suc i) (c ∷ cs) (more x xs) e w h =
      let k = ungrafted i cs xs e w.1 h.2 in
      (more x k.0, k.1, ap₂ more (sym (plug_never_tree r k.1 x (w.0 x h.0).0)) k.2, (h.0, h.1, k.3), k.4, k.5)

graft_at : (r : ℕ) (ns : Nodes) → count ns ≡ r → (m : Node) → IsOnce r (all_refs ns) → AllBelow (suc r) (all_refs ns)
    → AllBelow r (refs m) → Rearranged (cells (with_last ns m)) (cells (plug_all r m ns))
graft_at r ns c m = subst
    (λ (k : ℕ). IsOnce k (all_refs ns) → AllBelow (suc k) (all_refs ns) → AllBelow k (refs m)
    → Rearranged (cells (with_last ns m)) (cells (plug_all k m ns))) c (graft_last ns m)

abbrev pub RootsBelow : ℕ → List Target → Type 0
RootsBelow r [] = Unit {0}
RootsBelow r (At k ∷ ts) = (k < r) × RootsBelow r ts
RootsBelow r (y ∷ ts) = RootsBelow r ts

pub vars_same : (ns : Nodes) (m : Node) (us : List Target) → RootsBelow (count ns) us
    → map (value_in (roots_of (with_last ns m))) us ≡ map (value_in (roots_of ns)) us
vars_same ns m [] h = refl
vars_same ns m (Null ∷ us) h = ap₂ (λ (a : Value) (b : List Value). a ∷ b) refl (vars_same ns m us h)
vars_same ns m (Uninit ∷ us) h = ap₂ (λ (a : Value) (b : List Value). a ∷ b) refl (vars_same ns m us h)
vars_same ns m (Dangling ∷ us) h = ap₂ (λ (a : Value) (b : List Value). a ∷ b) refl (vars_same ns m us h)
vars_same ns m (At k ∷ us) h =
    ap₂ (λ (a : Value) (b : List Value). a ∷ b) (sym (nth_more ns m k h.0)) (vars_same ns m us h.1)

same_vars : (ns : Nodes) (m : Node) (r : ℕ) (ts : List Target) → RootsBelow (count ns) ts
    → map (value_in (roots_of (with_last ns m))) ts ≡ map (value_in (roots_of (plug_all r m ns))) ts
same_vars ns m r ts h = subst
    (λ (vs : List Value). map (value_in (roots_of (with_last ns m))) ts ≡ map (value_in vs) ts)
    (sym (roots_plugged r m ns)) (vars_same ns m ts h)

module _ (T : List BoxDef) (F : Forest) (cs : List Automaton) (i : ℕ) (t l : Automaton)
    (autos : F.autos ≡ cs ++ (l ∷ [])) (at : slice_get cs i ≡ Some t)
    (range : Every (IsRankedRule t.states) t.rules) (rooted : Every (λ q. q < t.states) t.roots)
    (tops : (o : Rule) → IsIn o l.rules → IsIn o.state l.roots → (y : Target) → o.symbol ≢ leaf_symbol y)
    (own_tops : (o : Rule) → IsIn o t.rules → IsIn o.state t.roots → o.symbol ≢ Ref (length cs))
    (flat : (x : Rule) → IsIn x t.rules → x.symbol ≡ Ref (length cs) → x.children ≡ [])
    (met : MetIn (length cs) i cs)
    (alone : (n : Node) → InLanguage l (bare n) → AllBelow (length cs) (refs n))
    (vars : RootsBelow (length cs) F.vars) where
  abbrev pub merged_forest : Forest
  merged_forest = record { autos = slice_set cs i (merged (length cs) t l); vars = F.vars; data_vars = F.data_vars }

  -- each dressed forest has its graft
  merge_onto : Regroups T merged_forest F
  merge_onto d h =
      let k = split_last T cs l d (subst (λ (x : List Automaton). TreesOf T x d) autos h) in
      let c : count k.0 ≡ length cs = count_trees T cs k.0 k.3 in
      let o = all_once T (length cs) i cs k.0 met k.3 in (
        plug_all (length cs) k.1 k.0,
        record {
          of = grafted T (length cs) t l range rooted tops own_tops flat k.1 i cs k.0 at met k.4 k.5 k.3;
          same_cells = subst (λ (x : Nodes). Rearranged (cells x) (cells (plug_all (length cs) k.1 k.0))) (sym k.2)
              (graft_at (length cs) k.0 c k.1 o.0 o.1 (alone k.1 k.4));
          vars =
              subst (λ (x : Nodes). map (value_in (roots_of x)) F.vars
              ≡ map (value_in (roots_of (plug_all (length cs) k.1 k.0))) F.vars) (sym k.2)
              (same_vars k.0 k.1 (length cs) F.vars (subst (λ (x : ℕ). RootsBelow x F.vars) (sym c) vars));
          data_vars = refl;
        },
      )

  -- each dressed forest of the merged one is a graft
  merge_back : Regroups T F merged_forest
  merge_back d h =
      let k = ungrafted T (length cs) t l range rooted tops own_tops flat i cs d at met h in
      let c : count k.0 ≡ length cs = count_trees T cs k.0 k.3 in
      let o = all_once T (length cs) i cs k.0 met k.3 in (
        with_last k.0 k.1,
        record {
          of = subst (λ (x : List Automaton). TreesOf T x (with_last k.0 k.1)) (sym autos)
              (join_last T cs l k.0 k.1 k.3 k.4 k.5);
          same_cells = subst (λ (x : Nodes). Rearranged (cells x) (cells (with_last k.0 k.1))) (sym k.2)
              (back (graft_at (length cs) k.0 c k.1 o.0 o.1 (alone k.1 k.4)));
          vars =
              subst (λ (x : Nodes). map (value_in (roots_of x)) F.vars
              ≡ map (value_in (roots_of (with_last k.0 k.1))) F.vars) (sym k.2)
              (sym (same_vars k.0 k.1 (length cs) F.vars (subst (λ (x : ℕ). RootsBelow x F.vars) (sym c) vars)));
          data_vars = refl;
        },
      )

  -- so both ways
  pub merged_both : Regroups T merged_forest F × Regroups T F merged_forest
  merged_both = (merge_onto, merge_back)
