-- The tree that is built from the sizes is a smallest one.
use Rattle.std.proofs.Common.{◌≡◌, ◌⊎◌, inl, inr, ℕ, ◌<◌, ◌≤◌, ◌+◌, ◌*◌, ◌^◌, Bool, true, false, true≢false, nat_lt}
use Rattle.std.proofs.Common.{List, [], ◌∷◌, ◌++◌, map, Option, Some, None, refl, sym, ap, subst, ◌∙◌, arith}
use Rattle.std.proofs.lemmas.Bool.{ltb-true, ltb-false, cases_lt}
use Rattle.std.proofs.lemmas.Option.{same_Some}
use Rattle.std.specs.Option.{IsSome}
use Rattle.fore_base.specs.Lists.{IsIn, Every, Paired, sum_of}
use Rattle.ta_core.specs.declared.auto.Rule.{Rule}
use Rattle.ta_core.specs.declared.tree.Tree.{Tree}
use Rattle.ta_core.specs.Auto.{Automaton, IsRankedRule}
use Rattle.ta_core.specs.Language.{RunOf, RunEach, run_none, run_more, InLanguage, IsSmallest, nodes}
use Rattle.ta_core.specs.inner.Sizes.{size_at, is_less, AreLeast, IsLeastRule, IsTreeAt, IsBest, number, sum_at}
use Rattle.fore_base.proofs.ListLemmas.{in_left, in_right, every_in, every_push}
use Rattle.ta_core.proofs.Runs.{tree_of, run_tree}
use Rattle.ta_core.proofs.Sizing.{nodes_tree, Sums, less_some, sum_total, sum_at_sums, sums_there, lower}
use Rattle.ta_core.proofs.Sizing.{has_rule}

not_less : (m n : ℕ) → n ≤ m → nat_lt m n ≡ false
not_less m n h = here (nat_lt m n) refl
  where
    here : (b : Bool) → nat_lt m n ≡ b → b ≡ false
    here true e = let l = ltb-true m n e in absurd (omega (arith, l))
    here false e = refl

less_self : (o : Option ℕ) → is_less o o ≡ false
less_self None = refl
less_self (Some n) = not_less n n (omega arith)

-- what is not below the greater one is not below the smaller one
less_chain : (a b c : Option ℕ) → is_less b c ≡ true → is_less a c ≡ false → is_less a b ≡ false
less_chain None b c h k = refl
less_chain (Some x) None c h k = absurd (true≢false (sym h))
less_chain (Some x) (Some y) None h k = absurd (true≢false k)
less_chain (Some x) (Some y) (Some z) h k = let l = ltb-true y z h in let m = ltb-false x z k in
    not_less x y (omega (arith, l, m))

some_is : (o : Option ℕ) → IsSome o → (s : ℕ) × (o ≡ Some s)
some_is None h = absurd (true≢false (sym h))
some_is (Some s) h = (s, refl)

is_some_of : (o : Option ℕ) (s : ℕ) → o ≡ Some s → IsSome o
is_some_of o s e = let P : Option ℕ → Type 0 = λ x. IsSome x in subst P (sym e) refl

module _ (sizes : List (Option ℕ)) (root : ℕ) where
  none_less : (qs : List ℕ) (o : Option ℕ) → Every (λ q. size_at sizes q ≡ None) qs
      → Every (λ q. is_less (size_at sizes q) o ≡ false) qs
  none_less [] o h = tt
  none_less (q ∷ qs) o h = (ap (λ (x : Option ℕ). is_less x o) h.0, none_less qs o h.1)

  all_chain : (qs : List ℕ) (b c : Option ℕ) → is_less b c ≡ true → Every (λ q. is_less (size_at sizes q) c ≡ false) qs
      → Every (λ q. is_less (size_at sizes q) b ≡ false) qs
  all_chain [] b c h k = tt
  all_chain (q ∷ qs) b c h k = (less_chain (size_at sizes q) b c h k.0, all_chain qs b c h k.1)

  -- the first state with a size
  pub best_first : (done : List ℕ) → IsBest sizes done None → IsSome (size_at sizes root)
      → IsBest sizes (done ++ root ∷ []) (Some root)
  best_first done h s = (
    in_right root done (root ∷ []) (inl refl),
    s,
    every_push _ done root (none_less done (size_at sizes root) h) (less_self (size_at sizes root)),
  )

  -- one with a smaller size
  pub best_new : (old : ℕ) (done : List ℕ) → IsBest sizes done (Some old)
      → is_less (size_at sizes root) (size_at sizes old) ≡ true → IsBest sizes (done ++ root ∷ []) (Some root)
  best_new old done h l =
      let s = less_some (size_at sizes root) (size_at sizes old) l in (
        in_right root done (root ∷ []) (inl refl),
        is_some_of (size_at sizes root) s.0 s.1,
        every_push _ done root (all_chain done (size_at sizes root) (size_at sizes old) l h.2)
            (less_self (size_at sizes root)),
      )

  -- the one so far
  pub best_old : (old : ℕ) (done : List ℕ) → IsBest sizes done (Some old)
      → is_less (size_at sizes root) (size_at sizes old) ≡ false → IsBest sizes (done ++ root ∷ []) (Some old)
  best_old old done h l = (in_left old done (root ∷ []) h.0, h.1, every_push _ done root h.2 l)

-- the children of the rule have sizes, which sum up to less than the rule's
pub rule_falls : (sizes : List (Option ℕ)) (q : ℕ) (r : Rule) → IsLeastRule sizes q r → IsSome (size_at sizes q)
    → (2 * sum_at sizes r.children + 1 < 2 * number (size_at sizes q))
    × Every (λ c. IsSome (size_at sizes c)) r.children
rule_falls sizes q r h s =
    let n = some_is (size_at sizes q) s in
    let w = sum_total sizes r.children n.0 1 (omega arith) (h.1 ∙ n.1) in
    let a = sum_at_sums sizes r.children w.0 w.1 in
    let b = ap number n.1 in
    let d = w.2 in
    (omega (arith, a, b, d), sums_there sizes r.children w.0 w.1)

module _ (rules : List Rule) (sizes : List (Option ℕ)) where
  runs_of : (qs : List ℕ) (ts : List Tree) → Paired (IsTreeAt rules sizes) qs ts → RunEach rules qs ts
  runs_of [] [] p = run_none
  runs_of [] (t ∷ ts) p = absurd p
  runs_of (q ∷ qs) [] p = absurd p
  runs_of (q ∷ qs) (t ∷ ts) p = run_more p.0.0 (runs_of qs ts p.1)

  sums_of : (qs : List ℕ) (ts : List Tree) (n : ℕ) → Paired (IsTreeAt rules sizes) qs ts → Sums sizes qs n
      → n ≡ sum_of (map nodes ts)
  sums_of [] [] n p h = h
  sums_of [] (t ∷ ts) n p h = absurd p
  sums_of (q ∷ qs) [] n p h = absurd p
  sums_of (q ∷ qs) (t ∷ ts) n p (a, m, e, r, d) =
      let x = same_Some a (nodes t) (sym e ∙ p.0.1) in
      let y = sums_of qs ts m p.1 r in
      omega (arith, x, y, d)

  -- the tree of the rule over the children's trees
  pub tree_here : (q : ℕ) (r : Rule) (ts : List Tree) → IsIn r rules → IsLeastRule sizes q r → IsSome (size_at sizes q)
      → Paired (IsTreeAt rules sizes) r.children ts → IsTreeAt rules sizes q (tree_of r.symbol ts)
  tree_here q r ts i h s p =
      let n = some_is (size_at sizes q) s in
      let w = sum_total sizes r.children n.0 1 (omega arith) (h.1 ∙ n.1) in
      let a = sums_of r.children ts w.0 p w.1 in
      let b = nodes_tree r.symbol ts in
      let d = w.2 in
      let e : n.0 ≡ nodes (tree_of r.symbol ts) = omega (arith, a, b, d) in (
        subst (λ (x : ℕ). RunOf rules x (tree_of r.symbol ts)) h.0 (run_tree rules r ts i (runs_of r.children ts p)),
        n.1
            ∙ ap Some e,
      )

  -- each size has its rule
  pub rule_there : (q : ℕ) → AreLeast rules sizes → IsSome (size_at sizes q)
      → Every (λ r. IsLeastRule sizes q r → ⊥) rules → ⊥
  rule_there q l s f =
      let n = some_is (size_at sizes q) s in
      let r = has_rule rules sizes l.settled l.real q n.0 n.1 in
      every_in (λ (x : Rule). IsLeastRule sizes q x → ⊥) rules r.0 f r.1 r.2

pub states_low : (n : ℕ) (rules : List Rule) → Every (IsRankedRule n) rules → Every (λ (r : Rule). r.state < n) rules
states_low n [] h = tt
states_low n (r ∷ rules) h = (h.0.0, states_low n rules h.1)

-- the tree at the best root state is a smallest one
pub smallest : (a : Automaton) (sizes : List (Option ℕ)) (root : ℕ) (t : Tree) → AreLeast a.rules sizes
    → IsBest sizes a.roots (Some root) → IsTreeAt a.rules sizes root t → IsSmallest a t
smallest a sizes root t l best here = ((root, best.0, here.0), λ u m. no_less u m (cases_lt (nodes u) (2 ^ 64)))
  where
    at_least : (m s : ℕ) (o p : Option ℕ) → o ≡ Some m → p ≡ Some s → is_less o p ≡ false → s ≤ m
    at_least m s o p e f g = ltb-false m s (sym (ap (λ (x : Option ℕ). is_less x p) e ∙ ap (is_less (Some m)) f) ∙ g)

    no_less : (u : Tree) → InLanguage a u → (nodes u < 2 ^ 64) ⊎ (2 ^ 64 ≤ nodes u) → nodes t ≤ nodes u
    no_less u m (inl h) =
        let w = lower a.rules sizes l.settled m.2 h in
        let g = at_least w.0 (nodes t) (size_at sizes m.0) (size_at sizes root) w.1 here.1
        (every_in (λ q. is_less (size_at sizes q) (size_at sizes root) ≡ false) a.roots m.0 best.2 m.1) in
        let b = w.2 in
        omega (arith, g, b)
    no_less u m (inr h) = let r = (l.real root (nodes t) here.1).3 in omega (arith, r, h)
