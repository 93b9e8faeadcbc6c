-- Each step by which trees are let go leaves less to do.
use Rattle.std.proofs.Common.{◌≡◌, ℕ, ◌<◌, ◌≤◌, ◌+◌, ◌*◌, nat_eq, Bool, true, false, true≢false, List, [], ◌∷◌, ◌++◌}
use Rattle.std.proofs.Common.{length, map, set, get_or, Option, Some, refl, sym, ap, ◌∙◌, arith}
use Rattle.std.proofs.lemmas.Bool.{eqb-true, eq-eqb}
use Rattle.std.specs.Option.{option_to_list}
use Rattle.ta_core.specs.declared.symbol.Symbol.{Symbol}
use Rattle.ta_core.specs.declared.tree.Tree.{Tree, Tree-F, out-Tree, para-roll-Tree, roll-out-Tree, out-roll-Tree}
use Rattle.ta_core.specs.Language.{nodes}
use Rattle.ta_core.specs.inner.LettingGo.{all_nodes, toll_by, alone_step, alone, toll, toll_with}
use Rattle.ta_core.proofs.Runs.{tree_of}
use Rattle.ta_core.proofs.Sizing.{nodes_out}

pairs_trees : (ts : List Tree) → map (λ (d : Tree × ℕ). d.0) (map (λ (t : Tree). (t, alone t)) ts) ≡ ts
pairs_trees [] = refl
pairs_trees (t ∷ ts) = ap (λ (us : List Tree). t ∷ us) (pairs_trees ts)

by_pairs : (ts : List Tree) → toll_by (map (λ (t : Tree). (t, alone t)) ts) ≡ toll ts
by_pairs [] = refl
by_pairs (t ∷ ts) = ap (λ (us : List Tree). alone t + 2 * all_nodes us) (pairs_trees ts)

-- a tree alone costs 1 more than its children
alone_out : (t : Tree) → alone t ≡ toll (out-Tree t).children + 1
alone_out t = ap alone (sym (roll-out-Tree t)) ∙ para-roll-Tree ℕ alone_step (out-Tree t)
    ∙ ap (λ (n : ℕ). n + 1) (by_pairs (out-Tree t).children)

pub nodes_append : (ts us : List Tree) → all_nodes (ts ++ us) ≡ all_nodes ts + all_nodes us
nodes_append [] us = omega arith
nodes_append (t ∷ ts) us = let h = nodes_append ts us in omega (arith, h)

-- the last one is taken
pub toll_pop : (all rest left : List Tree) (o : Option Tree) (t : Tree) → all ≡ rest ++ option_to_list o → o ≡ Some t
    → toll left < toll_with t rest → toll left < toll all
toll_pop all rest left o t e d l =
    let h = last rest t in
    let k = ap toll (e ∙ ap (λ (p : Option Tree). rest ++ option_to_list p) d) in
    omega (arith, h, k, l)
  where
    last : (ts : List Tree) (t : Tree) → toll_with t ts ≤ toll (ts ++ t ∷ [])
    last [] t = omega arith
    last (u ∷ us) t = let h = nodes_append us (t ∷ []) in omega (arith, h)

-- a list with no item is empty, and one with some is not
pub none_left : (n : ℕ) (ts : List Tree) (b : Bool) → n ≡ length ts → b ≡ nat_eq n 0 → b ≡ true → ts ≡ []
none_left n [] b o e h = refl
none_left n (t ∷ ts) b o e h = let k = eqb-true n 0 (sym e ∙ h) in absurd (omega (arith, o, k))

pub some_left : (n : ℕ) (ts : List Tree) (b : Bool) → n ≡ length ts → b ≡ nat_eq n 0 → b ≡ false → 0 < length ts
some_left n [] b o e h = absurd (true≢false (sym (eq-eqb n 0 o) ∙ sym e ∙ h))
some_left n (t ∷ ts) b o e h = omega arith

module _ (t : Tree) (below : List Tree) (is : below ≡ (out-Tree t).children) where
  -- a leaf is let go
  pub toll_leaf : (others : List Tree) → below ≡ [] → toll others < toll_with t others
  toll_leaf [] e = let h = alone_out t in let k = ap toll (sym is ∙ e) in omega (arith, h, k)
  toll_leaf (u ∷ us) e = let h = nodes_out t in omega (arith, h)

  -- a node is let go when no other tree is left
  pub toll_alone : (others : List Tree) → others ≡ [] → toll below < toll_with t others
  toll_alone others e = let h = alone_out t in let k = ap toll is in rw e (omega (arith, h, k))

  -- a node is let go, and a tree over the others takes the place of its first child
  pub toll_over : (y : Symbol) (over first x : Tree) (others from : List Tree) → 0 < length below → 0 < length others
      → over ≡ tree_of y from → from ≡ others → first ≡ x → x ≡ get_or below 0 x → toll_with first (set below 0 over)
      < toll_with t others
  toll_over y over first x others from l k o f g h =
      let c : (out-Tree over).children ≡ others = ap (λ (u : Tree). (out-Tree u).children) o
      ∙ ap (λ (u : Tree-F Tree). u.children) (out-roll-Tree (record { symbol = y; children = from })) ∙ f in
      let a = alone_out over in
      let b = ap toll c in
      let n = nodes_out t ∙ ap (λ (ts : List Tree). all_nodes ts + 1) (sym is) in
      let m = ap nodes g in
      step others below l k h a b n m
    where
      step : (others below : List Tree) → 0 < length below → 0 < length others → x ≡ get_or below 0 x
          → alone over ≡ toll (out-Tree over).children + 1 → toll (out-Tree over).children ≡ toll others
          → nodes t ≡ all_nodes below + 1 → nodes first ≡ nodes x → toll_with first (set below 0 over)
          < toll_with t others
      step [] bs l k h a b n m = absurd (omega (arith, k))
      step (u ∷ us) [] l k h a b n m = absurd (omega (arith, l))
      step (u ∷ us) (c ∷ cs) l k h a b n m = let d = ap nodes h in omega (arith, a, b, n, m, d)

pub less_most : (a b c : ℕ) → a < b → b ≤ c → a < c
less_most a b c l k = omega (arith, l, k)

pub most_kept : (a b c : ℕ) → a < b → b ≤ c → a ≤ c
most_kept a b c l k = omega (arith, l, k)
