-- Without box edges one store has one canonical dressed forest.
use Rattle.std.proofs.Common.{◌≡◌, ℕ, zero, suc, ◌<◌, List, [], ◌∷◌, map, refl, sym, ap, ap₂, ◌∙◌, Some, arith}
use Rattle.std.proofs.Common.{not-suc-le-zero, le_of_suc-le-suc}
use Rattle.fore_base.specs.Lists.{IsDistinct}
use Rattle.fore_base.specs.declared.store.Value.{Value}
use Rattle.fore_base.specs.declared.store.Value.TheVariants.{Cell}
use Rattle.fa_core.specs.declared.forest.Target.{Target}
use Rattle.fa_core.specs.Canonical.{Walks}
use Rattle.fa_core.specs.Choices.{count}
use Rattle.fa_core.specs.Dressed.{Node, Nodes, no_nodes, more, facts, nth_value, roots_of, number, refs}
use Rattle.fa_core.specs.Rearranged.{Rearranged}
use Rattle.fa_core.specs.Ways.{once}
use Rattle.fa_back.specs.Reached.{node_at}
use Rattle.fa_back.proofs.FactParts.{number_of, node_root}
use Rattle.fa_unique.proofs.AlikeTrees.{IsWhole, alike_tree}
use Rattle.fa_unique.proofs.RootCells.{root_cell, refs_alike, equal_tree, roots_apart, suc_not}
use Rattle.fa_unique.proofs.SameOrder.{Never, one_order, once_mapped}
use Rattle.fa_unique.proofs.SameRoots.{IsCanonicalDressed, top_sub, plain_at}

-- the references of the tree of a root
abbrev pub refs_in : Nodes → ℕ → List ℕ
refs_in no_nodes k = []
refs_in (more n ns) zero = refs n
refs_in (more n ns) (suc k) = refs_in ns k

-- a root in range has a tree
pub node_there : (d : Nodes) (k : ℕ) → k < count d → (x : Node) × (node_at d k ≡ Some x) × (number x ≡ root_cell d k)
    × (refs_in d k ≡ refs x)
node_there no_nodes k l = absurd (not-suc-le-zero l)
node_there (more n ns) zero l = (n, refl, refl, refl)
node_there (more n ns) (suc k) l = node_there ns k (le_of_suc-le-suc l)

-- roots that are the same cells
same_roots : (d e : Nodes) → count d ≡ count e → ((i : ℕ) → i < count d → root_cell d i ≡ root_cell e i)
    → roots_of d ≡ roots_of e
same_roots no_nodes no_nodes c w = refl
same_roots no_nodes (more n ns) c w = absurd (suc_not (count ns) (sym c))
same_roots (more n ns) no_nodes c w = absurd (suc_not (count ns) c)
same_roots (more n ns) (more m ms) c w = ap₂ (λ (v : Value) (vs : List Value). v ∷ vs) (ap Cell (w 0 (omega arith)))
    (same_roots ns ms (let k : suc (count ns) ≡ suc (count ms) = c in omega (arith, k))
    (λ i l. w (suc i) (let k : i < count ns = l in omega (arith, k))))

-- the same trees, place by place
same_nodes : (d e : Nodes) → count d ≡ count e → ((k : ℕ) (x z : Node) → node_at d k ≡ Some x → node_at e k ≡ Some z
    → x ≡ z) → d ≡ e
same_nodes no_nodes no_nodes c w = refl
same_nodes no_nodes (more n ns) c w = absurd (suc_not (count ns) (sym c))
same_nodes (more n ns) no_nodes c w = absurd (suc_not (count ns) c)
same_nodes (more n ns) (more m ms) c w = ap₂ more (w 0 n m refl refl)
    (same_nodes ns ms (let k : suc (count ns) ≡ suc (count ms) = c in omega (arith, k))
    (λ k x z q v. w (suc k) x z q v))

-- the whole: one store, one canonical dressed forest
module _ (vars : List Value) (ts us : List Target) (d e : Nodes) (h : IsCanonicalDressed vars ts d)
    (g : IsCanonicalDressed vars us e) (r : Rearranged (facts d) (facts e))
    (fields : ℕ → List ℕ) (each : (s : ℕ) → IsDistinct (fields s)) (wd : IsWhole fields d)
    (we : IsWhole fields e) where
  follow : (i j : ℕ) → i < count d → j < count e → root_cell d i ≡ root_cell e j
      → map (root_cell d) (once (refs_in d i)) ≡ map (root_cell e) (once (refs_in e j))
  follow i j l m q =
      let x = node_there d i l in
      let z = node_there e j m in
      let sx = top_sub d i x.0 x.1 in
      let sz = top_sub e j z.0 z.1 in
      let k = alike_tree vars ts us d e h g r fields each wd we x.0 z.0 (plain_at d h.plain i x.0 x.1)
      (plain_at e g.plain j z.0 z.1) sx sz (x.2 ∙ q ∙ sym z.2) in
      let same = refs_alike d e x.0 z.0 k (wd.range x.0 sx) (we.range z.0 sz) in
      let a = once_mapped (root_cell d) (count d) (roots_apart d h.distinct) (refs x.0) (wd.range x.0 sx) in
      let b = once_mapped (root_cell e) (count e) (roots_apart e g.distinct) (refs z.0) (we.range z.0 sz) in
      rw (x.3, z.3) (a ∙ ap once same ∙ sym b)

  -- one store has one canonical dressed forest: walks from the same cells place the same cells alike
  pub unique : (starts begins : List ℕ) → Walks (λ k. once (refs_in d k)) Never starts 0 (count d)
      → Walks (λ k. once (refs_in e k)) Never begins 0 (count e)
      → map (root_cell d) starts ≡ map (root_cell e) begins → d ≡ e
  unique starts begins w v s =
      let o = one_order (λ k. once (refs_in d k)) (λ k. once (refs_in e k)) (root_cell d) (root_cell e) (count d)
      (count e) (roots_apart d h.distinct) (roots_apart e g.distinct) follow w v s in
      let one = same_roots d e o.0 o.1 in
      same_nodes d e o.0 (λ k x z p q. tree_same k x z p q o.0 one)
    where
      tree_same : (k : ℕ) (x z : Node) → node_at d k ≡ Some x → node_at e k ≡ Some z → count d ≡ count e
          → roots_of d ≡ roots_of e → x ≡ z
      tree_same k x z p q c one =
          let sx = top_sub d k x p in
          let sz = top_sub e k z q in
          let n : number x ≡ number z = ap number_of (sym (node_root d k x p)
          ∙ ap (λ (vs : List Value). nth_value vs k) one ∙ node_root e k z q) in
          equal_tree d e h.distinct one c x z (alike_tree vars ts us d e h g r fields each wd we x z
          (plain_at d h.plain k x p) (plain_at e g.plain k z q) sx sz n) (wd.range x sx) (we.range z sz)
