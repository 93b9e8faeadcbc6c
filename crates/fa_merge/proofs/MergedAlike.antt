-- Merging keeps that references are alike.
use Rattle.std.proofs.Common.{◌≡◌, ◌≢◌, inl, inr, ℕ, suc, ◌<◌, ◌+◌, ◌-◌, if◌then◌else◌, nat_eq, true, true≢false, List}
use Rattle.std.proofs.Common.{[], ◌∷◌, flat_map, refl, sym, ◌∙◌, append-nil, arith}
use Rattle.std.proofs.lemmas.Bool.{eq-eqb}
use Rattle.fore_base.specs.Lists.{IsIn, Every}
use Rattle.fore_base.proofs.ListLemmas.{every_in, every_parts}
use Rattle.ta_core.specs.Auto.{Automaton, IsRanked, IsRankedRule}
use Rattle.ta_core.specs.declared.auto.Rule.{Rule}
use Rattle.ta_core.specs.declared.symbol.Symbol.TheVariants.{Ref}
use Rattle.ta_core.proofs.Runs.{along}
use Rattle.fa_core.specs.declared.forest.Target.{Target}
use Rattle.fa_core.specs.declared.forest.Target.TheVariants.{Null, Uninit, Dangling, At}
use Rattle.fa_core.specs.Boxless.{HasNoBoxes}
use Rattle.fa_core.specs.Dressed.{Node, Parts, End, node, no_parts, field, link, hook, under, leaf, leaf_refs, refs}
use Rattle.fa_core.specs.Dressed.{refs_of, end_refs}
use Rattle.fa_core.specs.Member.{leaf_symbol}
use Rattle.fa_core.specs.References.{AllBelow, AreAlike, RefersAlike, IsNever}
use Rattle.fa_core.proofs.Alike.{alike_same, alike_back, alike_on, alike_both}
use Rattle.fa_core.proofs.Counts.{below_left, below_right, below_both}
use Rattle.fa_core.proofs.NodeRuns.{EndRun, end_bare, bare_of_end}
use Rattle.fa_core.proofs.Rearranging.{flat_map-append}
use Rattle.fa_core.proofs.Uniform.{EndsAlike, TopsAlike, ends_refer_alike}
use Rattle.fa_merge.specs.Merged.{merged}
use Rattle.fa_merge.proofs.CutTrees.{Fills, FillsParts, FillsEnd}
use Rattle.fa_merge.proofs.FlatAlike.{flat_alike}
use Rattle.fa_merge.proofs.MergedAnywhere.{nat_cases}
use Rattle.fa_merge.proofs.MergedTrees.{Top, cut, down_rule, Down}

module _ (r : ℕ) (rs : List ℕ) where
  -- what comes in the place of a reference to root k
  abbrev put : ℕ → List ℕ
  put k = if nat_eq r k then rs else k ∷ []

  abbrev puts : List ℕ → List ℕ
  puts ks = flat_map put ks

  -- a filled tree refers as the tree does, with what is put for r
  module _ (IsTop : Node → Type 0) (tops : (m : Node) → IsTop m → AreAlike (refs m) rs) where
    mutual
      filled_tree : (n : Node) (ms : List Node) (x : Node) → Fills r n ms x → Every IsTop ms
          → AreAlike (refs x) (puts (refs n))
      filled_tree (node c s ds ps) ms x h a = rw h.1 (filled_parts ps ms h.0 h.2 a)

      filled_parts : (ps : Parts) (ms : List Node) (xs : Parts) → FillsParts r ps ms xs → Every IsTop ms
          → AreAlike (refs_of xs) (puts (refs_of ps))
      filled_parts no_parts ms xs h a = rw h.1 (alike_same [])
      filled_parts (field f e ps) ms xs h a =
          let k = every_parts IsTop h.0 h.1 (rw h.4 at a) in
          rw (h.5, flat_map-append put (end_refs e) (refs_of ps))
          (alike_both (end_refs h.2) (puts (end_refs e)) (refs_of h.3) (puts (refs_of ps))
          (filled_end e h.0 h.2 h.6 k.0) (filled_parts ps h.1 h.3 h.7 k.1))
      filled_parts (link b inside e ps) ms xs h a =
          let k = every_parts IsTop h.0 h.1 (rw h.4 at a) in
          rw (h.5, flat_map-append put (end_refs e) (refs_of ps))
          (alike_both (end_refs h.2) (puts (end_refs e)) (refs_of h.3) (puts (refs_of ps))
          (filled_end e h.0 h.2 h.6 k.0) (filled_parts ps h.1 h.3 h.7 k.1))
      filled_parts (hook b inside ps) ms xs h a = rw h.1 (filled_parts ps ms h.0 h.2 a)

      pub filled_end : (e : End) (ms : List Node) (x : End) → FillsEnd r e ms x → Every IsTop ms
          → AreAlike (end_refs x) (puts (end_refs e))
      filled_end (under n) ms x h a = rw h.1 (filled_tree n ms h.0 h.2 a)
      filled_end (leaf t) ms x (inl h) a =
          let w : nat_eq r r ≡ true = eq-eqb r r refl in
          let z : Every IsTop (h.0 ∷ []) = rw h.2 at a in
          rw (h.1, h.3, w, append-nil rs) (tops h.0 z.0)
      filled_end (leaf t) ms x (inr h) a = rw h.2 (kept t h.0)
        where
          kept : (t : Target) → IsNever r (leaf_refs t) → AreAlike (leaf_refs t) (puts (leaf_refs t))
          kept Null o = alike_same []
          kept Uninit o = alike_same []
          kept Dangling o = alike_same []
          kept (At k) o = rw o.0 (alike_same (k ∷ []))

-- Merging keeps uniform states: l has a tree, and all its trees refer as rs

module _ (r : ℕ) (t l : Automaton) (range : Every (IsRankedRule t.states) t.rules)
    (tops : (o : Rule) → IsIn o l.rules → IsIn o.state l.roots → (y : Target) → o.symbol ≢ leaf_symbol y)
    (flat : (x : Rule) → IsIn x t.rules → x.symbol ≡ Ref r → x.children ≡ [])
    (rs : List ℕ) (alike : (m : Node) → Top r t l range tops flat m → AreAlike (refs m) rs)
    (old : ((q : ℕ) → EndsAlike t.rules q)) (last : ((q : ℕ) → EndsAlike l.rules q)) where
  merged_ends : (z : ℕ) → EndsAlike (merged r t l).rules z
  merged_ends z e u h k = elim (nat_cases z t.states) [
    | inl b ↦ (let c = cut r t l range tops flat z e b h in let d = cut r t l range tops flat z u b k in
        alike_on (end_refs e) (puts r rs (end_refs c.0)) (end_refs u)
        (filled_end r rs (Top r t l range tops flat) alike c.0 c.1 e c.4 c.3)
        (alike_on (puts r rs (end_refs c.0)) (puts r rs (end_refs d.0)) (end_refs u)
        (flat_alike (put r rs) (end_refs c.0) (end_refs d.0) (old z c.0 d.0 c.2 d.2))
        (alike_back (end_refs u) (puts r rs (end_refs d.0))
        (filled_end r rs (Top r t l range tops flat) alike d.0 d.1 u d.4 d.3))))
    | inr b ↦ (let s : z ≡ (z - t.states) + t.states = omega (arith, b) in
        last (z - t.states) e u (down (z - t.states) e s h) (down (z - t.states) u s k))
  ]
    where
      down : (q : ℕ) (e : End) → z ≡ q + t.states → EndRun (merged r t l).rules z e → EndRun l.rules q e
      down q e s h = bare_of_end l.rules q e
          (along (merged r t l).rules l.rules (Down t.states) (λ x q ts i w k. down_rule r t l range tops flat x q i w)
          q s (end_bare (merged r t l).rules z e h))

  -- and components of one signature
  merged_top_ends : Every (λ q. q < t.states) t.roots → TopsAlike t → TopsAlike (merged r t l)
  merged_top_ends rooted one y z e u i j h k =
      let c = cut r t l range tops flat y e (every_in (λ q. q < t.states) t.roots y rooted i) h in
      let d = cut r t l range tops flat z u (every_in (λ q. q < t.states) t.roots z rooted j) k in
      alike_on (end_refs e) (puts r rs (end_refs c.0)) (end_refs u)
      (filled_end r rs (Top r t l range tops flat) alike c.0 c.1 e c.4 c.3)
      (alike_on (puts r rs (end_refs c.0)) (puts r rs (end_refs d.0)) (end_refs u)
      (flat_alike (put r rs) (end_refs c.0) (end_refs d.0) (one y z c.0 d.0 i j c.2 d.2))
      (alike_back (end_refs u) (puts r rs (end_refs d.0))
      (filled_end r rs (Top r t l range tops flat) alike d.0 d.1 u d.4 d.3)))

  pub merged_alike : Every (λ q. q < t.states) t.roots → TopsAlike t → IsRanked (merged r t l)
      → HasNoBoxes (merged r t l) → RefersAlike (merged r t l)
  merged_alike rooted one ranked plain =
      ends_refer_alike (merged r t l) ranked plain merged_ends (merged_top_ends rooted one)

-- A filled tree refers to roots below r, where the trees that fill it do.

module _ (r : ℕ) (IsTop : Node → Type 0) (low : (m : Node) → IsTop m → AllBelow r (refs m)) where
  mutual
    filled_low : (n : Node) (ms : List Node) (x : Node) → Fills r n ms x → Every IsTop ms → AllBelow (suc r) (refs n)
        → AllBelow r (refs x)
    filled_low (node c s ds ps) ms x h a b = rw h.1 (parts_low ps ms h.0 h.2 a b)

    parts_low : (ps : Parts) (ms : List Node) (xs : Parts) → FillsParts r ps ms xs → Every IsTop ms
        → AllBelow (suc r) (refs_of ps) → AllBelow r (refs_of xs)
    parts_low no_parts ms xs h a b = rw h.1 tt
    parts_low (field f e ps) ms xs h a b =
        let k = every_parts IsTop h.0 h.1 (rw h.4 at a) in
        rw h.5
        (below_both r (end_refs h.2) (refs_of h.3)
        (end_low e h.0 h.2 h.6 k.0 (below_left (suc r) (end_refs e) (refs_of ps) b))
        (parts_low ps h.1 h.3 h.7 k.1 (below_right (suc r) (end_refs e) (refs_of ps) b)))
    parts_low (link x inside e ps) ms xs h a b =
        let k = every_parts IsTop h.0 h.1 (rw h.4 at a) in
        rw h.5
        (below_both r (end_refs h.2) (refs_of h.3)
        (end_low e h.0 h.2 h.6 k.0 (below_left (suc r) (end_refs e) (refs_of ps) b))
        (parts_low ps h.1 h.3 h.7 k.1 (below_right (suc r) (end_refs e) (refs_of ps) b)))
    parts_low (hook x inside ps) ms xs h a b = rw h.1 (parts_low ps ms h.0 h.2 a b)

    pub end_low : (e : End) (ms : List Node) (x : End) → FillsEnd r e ms x → Every IsTop ms
        → AllBelow (suc r) (end_refs e) → AllBelow r (end_refs x)
    end_low (under n) ms x h a b = rw h.1 (filled_low n ms h.0 h.2 a b)
    end_low (leaf t) ms x (inl h) a b = let z : Every IsTop (h.0 ∷ []) = rw h.2 at a in rw h.3 (low h.0 z.0)
    end_low (leaf t) ms x (inr h) a b = rw h.2 (kept_low t h.0 b)
      where
        kept_low : (t : Target) → IsNever r (leaf_refs t) → AllBelow (suc r) (leaf_refs t) → AllBelow r (leaf_refs t)
        kept_low Null o b = tt
        kept_low Uninit o b = tt
        kept_low Dangling o b = tt
        kept_low (At k) o b =
            let d : k ≢ r = (λ e. true≢false (sym (eq-eqb r k (sym e)) ∙ o.0)) in
            let l = b.0 in
            (omega (arith, d, l), tt)
