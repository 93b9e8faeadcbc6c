-- Two trees are compared node by node: what stays true, and that it comes to an end.
use Rattle.std.proofs.Common.{◌≡◌, ◌<◌, List, [], ◌∷◌, ◌++◌, length, refl, arith}
use Rattle.std.proofs.lemmas.List.{length-append}
use Rattle.ta_core.specs.declared.tree.Tree.{Tree, out-Tree, roll-out-Tree}
use Rattle.ta_core.specs.inner.Comparing.{IsSameNode, AreLeft}
use Rattle.ta_core.specs.inner.LettingGo.{all_nodes}
use Rattle.ta_core.proofs.LettingGo.{nodes_append}
use Rattle.ta_core.proofs.Runs.{tree_of}
use Rattle.ta_core.proofs.Sizing.{nodes_out}

-- where the first parts are as long, lists are one exactly where their parts are
parts : {X : Type 0} (ts us xs ys : List X) → length ts ≡ length us → ts ++ xs ≡ us ++ ys → (ts ≡ us) × (xs ≡ ys)
parts [] [] xs ys l e = (refl, e)
parts [] (u ∷ us) xs ys l e = absurd (omega (arith, l))
parts (t ∷ ts) [] xs ys l e = absurd (omega (arith, l))
parts (t ∷ ts) (u ∷ us) xs ys l e =
    let d : t ≡ u = cc in
    let f : ts ++ xs ≡ us ++ ys = cc in
    let p = parts ts us xs ys (omega (arith, l)) f in
    let g = p.0 in
    let h : t ∷ ts ≡ u ∷ us = cc in
    (h, p.1)

-- a tree is its symbol over its children
one_tree : (t u : Tree) → (out-Tree t).symbol ≡ (out-Tree u).symbol → (out-Tree t).children ≡ (out-Tree u).children
    → t ≡ u
one_tree t u y c =
    let a : tree_of (out-Tree t).symbol (out-Tree t).children ≡ t = roll-out-Tree t in
    let b : tree_of (out-Tree u).symbol (out-Tree u).children ≡ u = roll-out-Tree u in
    cc

module _ (t u : Tree) where
  module _ (ts us : List Tree) (v w : Tree) (h : AreLeft t u (ts ++ v ∷ []) (us ++ w ∷ [])) where
    as_long : length ts ≡ length us
    as_long = let l = h.long in let a = length-append ts (v ∷ []) in let b = length-append us (w ∷ []) in
        omega (arith, l, a, b)

    -- the last two trees are one where the two whole ones are
    last_too : t ≡ u → (ts ≡ us) × (v ≡ w)
    last_too e = let p = parts ts us (v ∷ []) (w ∷ []) as_long (h.same.1 e) in (p.0, one_item p.1)
      where
        one_item : {x y : Tree} → x ∷ [] ≡ y ∷ [] → x ≡ y
        one_item d = cc

    -- where the last two have one node at the top, their children are compared
    go_on : IsSameNode v w → AreLeft t u (ts ++ (out-Tree v).children) (us ++ (out-Tree w).children)
    go_on n = record {
      long =
          (let l = as_long in let k = n.1 in let a = length-append ts (out-Tree v).children in
          let b = length-append us (out-Tree w).children in omega (arith, l, k, a, b));
      same = (
        λ e. h.same.0 (back (parts ts us (out-Tree v).children (out-Tree w).children as_long e)),
        λ e. on (last_too e),
      );
    }
      where
        back : (ts ≡ us) × ((out-Tree v).children ≡ (out-Tree w).children) → ts ++ v ∷ [] ≡ us ++ w ∷ []
        back p = let a = p.0 in let b = one_tree v w n.0 p.1 in cc

        on : (ts ≡ us) × (v ≡ w) → ts ++ (out-Tree v).children ≡ us ++ (out-Tree w).children
        on p = let a = p.0 in let b = p.1 in cc

-- children are fewer nodes than their tree
fewer_nodes : (ts : List Tree) (v : Tree) → all_nodes (ts ++ (out-Tree v).children) < all_nodes (ts ++ v ∷ [])
fewer_nodes ts v =
    let a = nodes_append ts (out-Tree v).children in
    let b = nodes_append ts (v ∷ []) in
    let n = nodes_out v in
    omega (arith, a, b, n)

-- a step from the trees that are left to those that are left after it
module _ (v : Tree) (old mid new children : List Tree) (last : old ≡ mid ++ v ∷ []) (add : new ≡ mid ++ children)
    (below : children ≡ (out-Tree v).children) where
  pub step_less : all_nodes new < all_nodes old
  step_less = let h = fewer_nodes mid v in rw (last, add, below) h

pub step_keeps : (t u v w : Tree) (vs vs2 vs1 cs ws ws2 ws1 ds : List Tree) → vs ≡ vs1 ++ v ∷ [] → vs2 ≡ vs1 ++ cs
    → cs ≡ (out-Tree v).children → ws ≡ ws1 ++ w ∷ [] → ws2 ≡ ws1 ++ ds → ds ≡ (out-Tree w).children → IsSameNode v w
    → AreLeft t u vs ws → AreLeft t u vs2 ws2
step_keeps t u v w vs vs2 vs1 cs ws ws2 ws1 ds a b c d e f n h =
    rw (b, c, e, f) (go_on t u vs1 ws1 v w (rw (a, d) at h) n)
