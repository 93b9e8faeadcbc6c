-- The automaton that joins two whose rules at the top differ in one child: its trees are those of both.
use Rattle.std.proofs.Common.{◌≡◌, ◌≢◌, ◌⊎◌, inl, inr, ℕ, zero, suc, ◌<◌, ◌≤◌, ◌+◌, ◌||◌, Bool, true, false, true≢false}
use Rattle.std.proofs.Common.{nat_eq, if◌then◌else◌, List, [], ◌∷◌, map, refl, sym, ap, subst, ◌∙◌, slice_set}
use Rattle.std.proofs.Common.{length-set, arith}
use Rattle.std.proofs.lemmas.Bool.{eqb-true, eq-eqb}
use Rattle.fore_base.specs.Lists.{IsIn, Every, Paired, PairedBut}
use Rattle.fore_base.proofs.ListLemmas.{in_left, in_right, every_in, in_every, every_append, every_set}
use Rattle.ta_core.specs.Auto.{Automaton, IsRanked, IsRankedRule}
use Rattle.ta_core.specs.Joined.{shift, united, IsUnion}
use Rattle.ta_core.specs.Language.{RunOf, run, RunEach, run_none, run_more, InLanguage}
use Rattle.ta_core.specs.Renumbered.{renumbered}
use Rattle.ta_core.specs.Single.{HasOneTop}
use Rattle.ta_core.specs.declared.auto.Rule.{Rule}
use Rattle.ta_core.specs.declared.symbol.Symbol.{Symbol}
use Rattle.ta_core.specs.declared.tree.Tree.{Tree, out-Tree}
use Rattle.ta_core.proofs.Runs.{widened}
use Rattle.ta_core.proofs.Shifting.{left_run, right_run, run_shifted, united_proper}
use Rattle.fa_split.specs.Split.{top_rule, child_state}
use Rattle.fa_split.proofs.FreshStates.{states_more, rules_more, stay, stay_each, widen, widen_each, fresh_run}
use Rattle.fa_split.proofs.TopRules.{top_in, top_alone, tree_by_top, top_by_tree, fresh_top_one}
use Rattle.fa_join.specs.Joinable.{SameRuns}
use Rattle.fa_join.specs.inner.Joining.{of_both, joined_top, joined_rules, joined}

-- The rules of two states at another one.

abbrev moved_rule : ℕ → Rule → Rule
moved_rule z o = record o { state = z }

-- the rule is one of the list at state p or q, at state z
abbrev pub Moved : ℕ → ℕ → ℕ → Rule → List Rule → Type 0
Moved z p q o xs = (w : Rule) × IsIn w xs × ((w.state ≡ p) ⊎ (w.state ≡ q)) × (o ≡ moved_rule z w)

pub moved_from : (z p q : ℕ) (xs : List Rule) (o : Rule) → IsIn o (of_both z p q xs) → Moved z p q o xs
moved_from z p q [] o h = absurd h
moved_from z p q (x ∷ xs) o h = here (nat_eq x.state p) refl (nat_eq x.state q) refl h (moved_from z p q xs o)
  where
    later : Moved z p q o xs → Moved z p q o (x ∷ xs)
    later m = (m.0, inr m.1, m.2, m.3)

    here : (b : Bool) → nat_eq x.state p ≡ b → (c : Bool) → nat_eq x.state q ≡ c
        → IsIn o (if b || c then moved_rule z x ∷ of_both z p q xs else of_both z p q xs)
        → (IsIn o (of_both z p q xs) → Moved z p q o xs) → Moved z p q o (x ∷ xs)
    here true e c g (inl w) k = (x, inl refl, inl (eqb-true x.state p e), w)
    here true e c g (inr i) k = later (k i)
    here false e true g (inl w) k = (x, inl refl, inr (eqb-true x.state q g), w)
    here false e true g (inr i) k = later (k i)
    here false e false g i k = later (k i)

pub moved_there : (z p q : ℕ) (xs : List Rule) (w : Rule) → IsIn w xs → (w.state ≡ p) ⊎ (w.state ≡ q)
    → IsIn (moved_rule z w) (of_both z p q xs)
moved_there z p q [] w h e = absurd h
moved_there z p q (x ∷ xs) w h e =
    here (nat_eq x.state p) refl (nat_eq x.state q) refl h (λ i. moved_there z p q xs w i e)
  where
    none : nat_eq x.state p ≡ false → nat_eq x.state q ≡ false → w ≡ x → ⊥
    none a b v = elim e [
      | inl s ↦ true≢false (sym (eq-eqb x.state p (ap (λ (y : Rule). y.state) (sym v) ∙ s)) ∙ a)
      | inr s ↦ true≢false (sym (eq-eqb x.state q (ap (λ (y : Rule). y.state) (sym v) ∙ s)) ∙ b)
    ]

    here : (b : Bool) → nat_eq x.state p ≡ b → (c : Bool) → nat_eq x.state q ≡ c → IsIn w (x ∷ xs)
        → (IsIn w xs → IsIn (moved_rule z w) (of_both z p q xs))
        → IsIn (moved_rule z w) (if b || c then moved_rule z x ∷ of_both z p q xs else of_both z p q xs)
    here true a c g (inl v) k = inl (ap (moved_rule z) v)
    here true a c g (inr i) k = inr (k i)
    here false a true g (inl v) k = inl (ap (moved_rule z) v)
    here false a true g (inr i) k = inr (k i)
    here false a false g (inl v) k = absurd (none a g v)
    here false a false g (inr i) k = k i

-- Runs of the union.

module _ (a b : Automaton) where
  pub to_left : (q : ℕ) (t : Tree) → RunOf a.rules q t → RunOf (united a b).rules q t
  to_left q t w = widened a.rules (united a b).rules
      (λ o i. in_left o a.rules (map (renumbered (shift a.states)) b.rules) i) w

  pub to_right : (q : ℕ) (t : Tree) → RunOf b.rules q t → RunOf (united a b).rules (q + a.states) t
  to_right q t w = widened (map (renumbered (shift a.states)) b.rules) (united a b).rules
      (λ o i. in_right o a.rules (map (renumbered (shift a.states)) b.rules) i) (run_shifted a.states b.rules w)

  -- where the states have the same trees in pairs, so have lists of them
  pub same_each : (ps qs : List ℕ) (ts : List Tree) → Paired (SameRuns a b) ps qs → RunEach a.rules ps ts
      → RunEach b.rules qs ts
  same_each [] [] ts h run_none = run_none
  same_each [] (q ∷ qs) ts h w = absurd h
  same_each (p ∷ ps) [] ts h w = absurd h
  same_each (p ∷ ps) (q ∷ qs) ts h (run_more {t = t} {ts = us} x y) = run_more ((h.0 t).0 x) (same_each ps qs us h.1 y)

  pub same_back : (ps qs : List ℕ) (ts : List Tree) → Paired (SameRuns a b) ps qs → RunEach b.rules qs ts
      → RunEach a.rules ps ts
  same_back [] [] ts h run_none = run_none
  same_back [] (q ∷ qs) ts h w = absurd h
  same_back (p ∷ ps) [] ts h w = absurd h
  same_back (p ∷ ps) (q ∷ qs) ts h (run_more {t = t} {ts = us} x y) = run_more ((h.0 t).1 x) (same_back ps qs us h.1 y)

-- The states and the children are in order.

module _ (a b : Automaton) (p : ℕ) (ranked_a : IsRanked a) (ranked_b : IsRanked b) (one_a : HasOneTop a) where
  top_ranked : IsRankedRule a.states (top_rule a)
  top_ranked = every_in (IsRankedRule a.states) a.rules (top_rule a) ranked_a.1 (top_in a one_a)

  moved_ranked : Every (IsRankedRule (a.states + b.states + 2))
      (of_both (a.states + b.states + 1) (child_state a p) (child_state b p + a.states) (united a b).rules)
  moved_ranked = in_every (IsRankedRule (a.states + b.states + 2))
      (of_both (a.states + b.states + 1) (child_state a p) (child_state b p + a.states) (united a b).rules) (λ o i. (
      let m = moved_from (a.states + b.states + 1) (child_state a p) (child_state b p + a.states) (united a b).rules o i
      in
      let w = every_in (IsRankedRule (a.states + b.states)) (united a b).rules m.0
      (united_proper a b ranked_a ranked_b).1 m.1 in
      subst (IsRankedRule (a.states + b.states + 2)) (sym m.3) (
        omega arith,
        states_more (a.states + b.states) (a.states + b.states + 2) (omega arith) m.0.children w.1,
        w.2,
      )))

  pub joined_ranked : IsRanked (joined a b p)
  joined_ranked = (
    (omega arith, tt),
    every_append (IsRankedRule (a.states + b.states + 2)) (united a b).rules (joined_rules a b p (a.states + b.states))
        (rules_more (a.states + b.states) (a.states + b.states + 2) (omega arith) (united a b).rules
        (united_proper a b ranked_a ranked_b).1) (
          (
            omega arith,
            every_set (λ q. q < a.states + b.states + 2) (top_rule a).children p (a.states + b.states + 1)
                (states_more a.states (a.states + b.states + 2) (omega arith) (top_rule a).children top_ranked.1)
                (omega arith),
            length-set (top_rule a).children p (a.states + b.states + 1) ∙ top_ranked.2,
          ),
          moved_ranked,
        ),
  )

module _ (a b : Automaton) (p : ℕ) (ranked_a : IsRanked a) (ranked_b : IsRanked b) (one_a : HasOneTop a)
    (one_b : HasOneTop b)
    (symbols : (top_rule a).symbol ≡ (top_rule b).symbol)
    (children : PairedBut (SameRuns a b) p (child_state a p) (child_state b p) (top_rule a).children
    (top_rule b).children) where
  abbrev pub both : Automaton
  both = united a b

  abbrev pub more : List Rule
  more = joined_rules a b p (a.states + b.states)

  abbrev pub new_top : Rule
  new_top = joined_top a p (a.states + b.states)

  abbrev pub moved : List Rule
  moved = of_both (a.states + b.states + 1) (child_state a p) (child_state b p + a.states) (united a b).rules

  abbrev pub all : List Rule
  all = (joined a b p).rules

  pub both_ranked : IsRanked (united a b)
  both_ranked = united_proper a b ranked_a ranked_b

  top_right : IsRankedRule a.states (top_rule a)
  top_right = every_in (IsRankedRule a.states) a.rules (top_rule a) ranked_a.1 (top_in a one_a)

  -- the states in the place are states of both
  left_low : (i : ℕ) (ps qs : List ℕ) → PairedBut (SameRuns a b) i (child_state a p) (child_state b p) ps qs
      → Every (λ q. q < a.states) ps → child_state a p < a.states
  left_low i [] qs h l = absurd h
  left_low i (x ∷ ps) [] h l = absurd h
  left_low zero (x ∷ ps) (y ∷ qs) h l = subst (λ (z : ℕ). z < a.states) h.0 l.0
  left_low (suc i) (x ∷ ps) (y ∷ qs) h l = left_low i ps qs h.1 l.1

  pub child_low : child_state a p < a.states
  child_low = left_low p (top_rule a).children (top_rule b).children children top_right.1

  pub more_above : (o : Rule) → IsIn o more → a.states + b.states ≤ o.state
  more_above o (inl e) = (let s : o.state ≡ a.states + b.states = ap (λ (z : Rule). z.state) e in omega (arith, s))
  more_above o (inr i) =
      (let m = moved_from (a.states + b.states + 1) (child_state a p) (child_state b p + a.states) (united a b).rules o
      i in
      let s : o.state ≡ a.states + b.states + 1 = ap (λ (z : Rule). z.state) m.3 in omega (arith, s))

  -- Runs to the old states.

  pub old_left : (q : ℕ) (t : Tree) → q < a.states → RunOf all q t → RunOf a.rules q t
  old_left q t l w = left_run a b ranked_a l (stay both more both_ranked more_above q t (omega (arith, l)) w)

  new_left : (q : ℕ) (t : Tree) → RunOf a.rules q t → RunOf all q t
  new_left q t w = widen both more both_ranked more_above q t (to_left a b q t w)

  -- Runs to the state that has the trees of both children.

  by_old : (o w : Rule) (t : Tree) → IsIn w both.rules → o ≡ moved_rule (a.states + b.states + 1) w
      → o.symbol ≡ (out-Tree t).symbol → RunEach all o.children (out-Tree t).children → RunOf both.rules w.state t
  by_old o w t i e y k =
      run w i refl (ap (λ (z : Rule). z.symbol) (sym e) ∙ y)
      (stay_each both more both_ranked more_above w.children (out-Tree t).children
      (every_in (IsRankedRule (a.states + b.states)) both.rules w both_ranked.1 i).1
      (subst (λ (z : Rule). RunEach all z.children (out-Tree t).children) e k))

  pub child_back : (q : ℕ) (t : Tree) → a.states + b.states + 1 ≤ q → RunOf all q t → RunOf a.rules (child_state a p) t
      ⊎ RunOf b.rules (child_state b p) t
  child_back q t l w =
      let k = fresh_run both more both_ranked more_above q t (omega (arith, l)) w in
      here k.0 k.1 k.2 k.3 k.4
    where
      here : (o : Rule) → IsIn o more → o.state ≡ q → o.symbol ≡ (out-Tree t).symbol
          → RunEach all o.children (out-Tree t).children → RunOf a.rules (child_state a p) t
          ⊎ RunOf b.rules (child_state b p) t
      here o (inl e) s y k = absurd
          (let v : o.state ≡ a.states + b.states = ap (λ (z : Rule). z.state) e in omega (arith, v, s, l))
      here o (inr i) s y k =
          let m = moved_from (a.states + b.states + 1) (child_state a p) (child_state b p + a.states) (united a b).rules
          o i in
          let r = by_old o m.0 t m.1 m.3 y k in
          elim m.2 [
            | inl e ↦ inl (left_run a b ranked_a child_low (subst (λ (z : ℕ). RunOf both.rules z t) e r))
            | inr e ↦ inr (right_run a b ranked_a (child_state b p) e r)
          ]

  child_by : (q : ℕ) (t : Tree) → (q ≡ child_state a p) ⊎ (q ≡ child_state b p + a.states) → RunOf both.rules q t
      → RunOf all (a.states + b.states + 1) t
  child_by q t e (run w i s y k) =
      run (moved_rule (a.states + b.states + 1) w)
      (in_right (moved_rule (a.states + b.states + 1) w) both.rules more
      (inr
      (moved_there (a.states + b.states + 1) (child_state a p) (child_state b p + a.states) both.rules w i at_one)))
      refl y
      (widen_each both more both_ranked more_above w.children (out-Tree t).children k)
    where
      at_one : (w.state ≡ child_state a p) ⊎ (w.state ≡ child_state b p + a.states)
      at_one = elim e [ inl v ↦ inl (s ∙ v) | inr v ↦ inr (s ∙ v) ]

  pub child_left : (t : Tree) → RunOf a.rules (child_state a p) t → RunOf all (a.states + b.states + 1) t
  child_left t w = child_by (child_state a p) t (inl refl) (to_left a b (child_state a p) t w)

  pub child_right : (t : Tree) → RunOf b.rules (child_state b p) t → RunOf all (a.states + b.states + 1) t
  child_right t w = child_by (child_state b p + a.states) t (inr refl) (to_right a b (child_state b p) t w)

  -- Runs to the children.

  lefts_back : (ps : List ℕ) (ts : List Tree) → Every (λ q. q < a.states) ps → RunEach all ps ts → RunEach a.rules ps ts
  lefts_back [] ts l run_none = run_none
  lefts_back (q ∷ ps) ts l (run_more {t = t} {ts = us} x y) = run_more (old_left q t l.0 x) (lefts_back ps us l.1 y)

  lefts_to : (ps : List ℕ) (ts : List Tree) → RunEach a.rules ps ts → RunEach all ps ts
  lefts_to [] ts run_none = run_none
  lefts_to (q ∷ ps) ts (run_more {t = t} {ts = us} x y) = run_more (new_left q t x) (lefts_to ps us y)

  abbrev Differ : ℕ → List ℕ → List ℕ → Type 0
  Differ i ps qs = PairedBut (SameRuns a b) i (child_state a p) (child_state b p) ps qs

  children_back : (i : ℕ) (ps qs : List ℕ) (ts : List Tree) → Differ i ps qs → Every (λ q. q < a.states) ps
      → RunEach all (slice_set ps i (a.states + b.states + 1)) ts → RunEach a.rules ps ts ⊎ RunEach b.rules qs ts
  children_back i [] qs ts h l w = absurd h
  children_back i (x ∷ ps) [] ts h l w = absurd h
  children_back zero (x ∷ ps) (y ∷ qs) ts h l (run_more {t = t} {ts = us} u v) =
      elim (child_back (a.states + b.states + 1) t (omega arith) u) [
        | inl m ↦ inl (run_more (subst (λ (z : ℕ). RunOf a.rules z t) (sym h.0) m) (lefts_back ps us l.1 v))
        | inr m ↦ inr
            (run_more (subst (λ (z : ℕ). RunOf b.rules z t) (sym h.1) m)
            (same_each a b ps qs us h.2 (lefts_back ps us l.1 v)))
      ]
  children_back (suc i) (x ∷ ps) (y ∷ qs) ts h l (run_more {t = t} {ts = us} u v) =
      elim (children_back i ps qs us h.1 l.1 v) [
        | inl m ↦ inl (run_more (old_left x t l.0 u) m)
        | inr m ↦ inr (run_more ((h.0 t).0 (old_left x t l.0 u)) m)
      ]

  children_left : (i : ℕ) (ps qs : List ℕ) (ts : List Tree) → Differ i ps qs → RunEach a.rules ps ts
      → RunEach all (slice_set ps i (a.states + b.states + 1)) ts
  children_left i [] qs ts h w = absurd h
  children_left i (x ∷ ps) [] ts h w = absurd h
  children_left zero (x ∷ ps) (y ∷ qs) ts h (run_more {t = t} {ts = us} u v) =
      run_more (child_left t (subst (λ (z : ℕ). RunOf a.rules z t) h.0 u)) (lefts_to ps us v)
  children_left (suc i) (x ∷ ps) (y ∷ qs) ts h (run_more {t = t} {ts = us} u v) =
      run_more (new_left x t u) (children_left i ps qs us h.1 v)

  children_right : (i : ℕ) (ps qs : List ℕ) (ts : List Tree) → Differ i ps qs → RunEach b.rules qs ts
      → RunEach all (slice_set ps i (a.states + b.states + 1)) ts
  children_right i [] qs ts h w = absurd h
  children_right i (x ∷ ps) [] ts h w = absurd h
  children_right zero (x ∷ ps) (y ∷ qs) ts h (run_more {t = t} {ts = us} u v) =
      run_more (child_right t (subst (λ (z : ℕ). RunOf b.rules z t) h.1 u))
      (lefts_to ps us (same_back a b ps qs us h.2 v))
  children_right (suc i) (x ∷ ps) (y ∷ qs) ts h (run_more {t = t} {ts = us} u v) =
      run_more (new_left x t ((h.0 t).1 u)) (children_right i ps qs us h.1 v)

  -- The automaton.

  moved_other : Every (λ (o : Rule). o.state ≢ a.states + b.states) moved
  moved_other = in_every (λ (o : Rule). o.state ≢ a.states + b.states) moved (λ o i e. (
      let m = moved_from (a.states + b.states + 1) (child_state a p) (child_state b p + a.states) (united a b).rules o i
      in
      let s : o.state ≡ a.states + b.states + 1 = ap (λ (z : Rule). z.state) m.3 in omega (arith, s, e)))

  low_rules : (n : ℕ) (xs : List Rule) → Every (IsRankedRule n) xs → Every (λ (o : Rule). o.state < n) xs
  low_rules n [] h = tt
  low_rules n (x ∷ xs) h = (h.0.0, low_rules n xs h.1)

  pub joined_one : HasOneTop (joined a b p)
  joined_one = fresh_top_one (a.states + b.states) (a.states + b.states + 2) both.rules new_top moved refl
      (low_rules (a.states + b.states) both.rules both_ranked.1) moved_other

  pub joined_top_is : top_rule (joined a b p) ≡ new_top
  joined_top_is =
      sym (top_alone (joined a b p) joined_one new_top (in_right new_top both.rules more (inl refl)) (inl refl))

  pub joined_by : (t : Tree) → InLanguage (joined a b p) t → ((top_rule a).symbol ≡ (out-Tree t).symbol)
      × RunEach all new_top.children (out-Tree t).children
  joined_by t h = (let k = tree_by_top (joined a b p) joined_one t h in (
    ap (λ (z : Rule). z.symbol) (sym joined_top_is) ∙ k.0,
    subst (λ (z : Rule). RunEach all z.children (out-Tree t).children) joined_top_is k.1,
  ))

  by_joined : (t : Tree) → (top_rule a).symbol ≡ (out-Tree t).symbol
      → RunEach all new_top.children (out-Tree t).children → InLanguage (joined a b p) t
  by_joined t y k = (a.states + b.states, inl refl, run new_top (in_right new_top both.rules more (inl refl)) refl y k)

  pub joined_union : IsUnion a b (joined a b p)
  joined_union t = (
    (λ h. (let k = joined_by t h in
        elim
        (children_back p (top_rule a).children (top_rule b).children (out-Tree t).children children top_right.1 k.1) [
          | inl w ↦ inl (top_by_tree a one_a t (k.0, w))
          | inr w ↦ inr (top_by_tree b one_b t (sym symbols ∙ k.0, w))
        ])),
    (λ h. elim h [
      | inl w ↦ (let k = tree_by_top a one_a t w in
          by_joined t k.0
          (children_left p (top_rule a).children (top_rule b).children (out-Tree t).children children k.1))
      | inr w ↦ (let k = tree_by_top b one_b t w in
          by_joined t (symbols ∙ k.0)
          (children_right p (top_rule a).children (top_rule b).children (out-Tree t).children children k.1))
    ]),
  )

  -- each symbol is one of a or of b
  pub joined_symbols : (P : Symbol → Type 0) → Every (λ (o : Rule). P o.symbol) a.rules
      → Every (λ (o : Rule). P o.symbol) b.rules → Every (λ (o : Rule). P o.symbol) (joined a b p).rules
  joined_symbols P h k =
      every_append (λ (o : Rule). P o.symbol) both.rules more old (
        every_in (λ (o : Rule). P o.symbol) a.rules (top_rule a) h (top_in a one_a),
        in_every (λ (o : Rule). P o.symbol) moved (λ o i. (
            let m = moved_from (a.states + b.states + 1) (child_state a p) (child_state b p + a.states)
            (united a b).rules o i in
            subst (λ (z : Rule). P z.symbol) (sym m.3) (every_in (λ (o : Rule). P o.symbol) both.rules m.0 old m.1))),
      )
    where
      renumbered_symbols : (xs : List Rule) → Every (λ (o : Rule). P o.symbol) xs
          → Every (λ (o : Rule). P o.symbol) (map (renumbered (shift a.states)) xs)
      renumbered_symbols [] h = tt
      renumbered_symbols (x ∷ xs) h = (h.0, renumbered_symbols xs h.1)

      old : Every (λ (o : Rule). P o.symbol) (united a b).rules
      old = every_append (λ (o : Rule). P o.symbol) a.rules (map (renumbered (shift a.states)) b.rules) h
          (renumbered_symbols b.rules k)
