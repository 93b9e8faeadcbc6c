-- Runs under other state numbers, and of two automata side by side.
use Rattle.std.proofs.Common.{◌≡◌, inl, inr, ℕ, ◌<◌, ◌≤◌, ◌+◌, ◌^◌, List, [], ◌∷◌, ◌++◌, map, refl, sym, ap, subst, ◌∙◌}
use Rattle.std.proofs.Common.{arith}
use Rattle.std.proofs.lemmas.List.{length-map}
use Rattle.fore_base.specs.Lists.{IsIn, Every, Paired}
use Rattle.ta_core.specs.declared.auto.Rule.{Rule}
use Rattle.ta_core.specs.declared.tree.Tree.{Tree}
use Rattle.ta_core.specs.Auto.{Automaton, IsRanked, IsRankedRule}
use Rattle.ta_core.specs.Joined.{shift, shifted, united, IsUnion, CanShift, CanShiftRule}
use Rattle.ta_core.specs.States.{SameRootRuns}
use Rattle.ta_core.specs.Language.{RunOf, HasSameLanguage}
use Rattle.ta_core.specs.Renumbered.{renumbered, IsSublist, sub_none, sub_skip, sub_keep, StandsFor}
use Rattle.fore_base.proofs.ListLemmas.{in_left, in_right, in_append, in_map, in_mapped, every_in, every_append}
use Rattle.ta_core.proofs.Runs.{along, widened}

module _ (n : ℕ) (rules : List Rule) where
  paired_up : (qs : List ℕ) → Paired (λ p q. q ≡ p + n) qs (map (shift n) qs)
  paired_up [] = tt
  paired_up (q ∷ qs) = (refl, paired_up qs)

  paired_down : (qs : List ℕ) → Paired (λ p q. p ≡ q + n) (map (shift n) qs) qs
  paired_down [] = tt
  paired_down (q ∷ qs) = (refl, paired_down qs)

  pub run_shifted : {q : ℕ} {t : Tree} → RunOf rules q t → RunOf (map (renumbered (shift n)) rules) (q + n) t
  run_shifted {q} r = along rules (map (renumbered (shift n)) rules) (λ p q. q ≡ p + n)
      (λ r q ts i e k.
      (renumbered (shift n) r, in_map (renumbered (shift n)) r rules i, sym e, refl, paired_up r.children)) (q + n) refl
      r

  match_down : (o : Rule) (q : ℕ) (ts : List Tree) → IsIn o (map (renumbered (shift n)) rules) → o.state ≡ q + n
      → (r : Rule) × IsIn r rules × (r.state ≡ q) × (r.symbol ≡ o.symbol)
      × Paired (λ p q. p ≡ q + n) o.children r.children
  match_down o q ts i e =
      let m = in_mapped (renumbered (shift n)) o rules i in
      let s : m.0.state + n ≡ q + n = sym (ap (λ (x : Rule). x.state) m.2) ∙ e in (
        m.0,
        m.1,
        omega (arith, s),
        sym (ap (λ (x : Rule). x.symbol) m.2),
        subst (λ (x : Rule). Paired (λ p q. p ≡ q + n) x.children m.0.children) (sym m.2) (paired_down m.0.children),
      )

  pub run_unshifted : (q : ℕ) {p : ℕ} {t : Tree} → p ≡ q + n → RunOf (map (renumbered (shift n)) rules) p t
      → RunOf rules q t
  run_unshifted q e r = along (map (renumbered (shift n)) rules) rules (λ p q. p ≡ q + n)
      (λ o q ts i e k. match_down o q ts i e) q e r

-- renaming keeps the language
pub shifted_same_language : (n : ℕ) (a : Automaton) → HasSameLanguage a (shifted n a)
shifted_same_language n a t = (
  λ l. (l.0 + n, in_map (shift n) l.0 a.roots l.1, run_shifted n a.rules l.2),
  λ l. (let m = in_mapped (shift n) l.0 a.roots l.1 in (m.0, m.1, run_unshifted n a.rules m.0 m.2 l.2)),
)

-- the states stay in range
states_shifted : (m k n : ℕ) → m + n ≤ k → (qs : List ℕ) → Every (λ q. q < m) qs → Every (λ q. q < k) (map (shift n) qs)
states_shifted m k n l [] h = tt
states_shifted m k n l (q ∷ qs) h = (let p = h.0 in omega (arith, p, l), states_shifted m k n l qs h.1)

rules_shifted : (m k n : ℕ) → m + n ≤ k → (rs : List Rule) → Every (IsRankedRule m) rs
    → Every (IsRankedRule k) (map (renumbered (shift n)) rs)
rules_shifted m k n l [] h = tt
rules_shifted m k n l (r ∷ rs) h = (
  (
    let p = h.0.0 in omega (arith, p, l),
    states_shifted m k n l r.children h.0.1,
    length-map r.children (shift n)
        ∙ h.0.2,
  ),
  rules_shifted m k n l rs h.1,
)

pub shifted_ranked : (n : ℕ) (a : Automaton) → IsRanked a → IsRanked (shifted n a)
shifted_ranked n a h = (
  states_shifted a.states (a.states + n) n (omega arith) a.roots h.0,
  rules_shifted a.states (a.states + n) n (omega arith) a.rules h.1,
)

states_wider : (m k : ℕ) → m ≤ k → (qs : List ℕ) → Every (λ q. q < m) qs → Every (λ q. q < k) qs
states_wider m k l [] h = tt
states_wider m k l (q ∷ qs) h = (let p = h.0 in omega (arith, p, l), states_wider m k l qs h.1)

rules_wider : (m k : ℕ) → m ≤ k → (rs : List Rule) → Every (IsRankedRule m) rs → Every (IsRankedRule k) rs
rules_wider m k l [] h = tt
rules_wider m k l (r ∷ rs) h =
    ((let p = h.0.0 in omega (arith, p, l), states_wider m k l r.children h.0.1, h.0.2), rules_wider m k l rs h.1)

pub united_proper : (a b : Automaton) → IsRanked a → IsRanked b → IsRanked (united a b)
united_proper a b h k =
    let n = a.states + b.states in (
      every_append _ a.roots (map (shift a.states) b.roots) (states_wider a.states n (omega arith) a.roots h.0)
          (states_shifted b.states n a.states (omega arith) b.roots k.0),
      every_append _ a.rules (map (renumbered (shift a.states)) b.rules)
          (rules_wider a.states n (omega arith) a.rules h.1)
          (rules_shifted b.states n a.states (omega arith) b.rules k.1),
    )

-- the sums fit
pub states_fit : (m n : ℕ) → m + n < 2 ^ 32 → (qs : List ℕ) → Every (λ q. q < m) qs → Every (CanShift n) qs
states_fit m n l [] h = tt
states_fit m n l (q ∷ qs) h = (let p = h.0 in omega (arith, p, l), states_fit m n l qs h.1)

pub rules_fit : (m n : ℕ) → m + n < 2 ^ 32 → (rs : List Rule) → Every (IsRankedRule m) rs → Every (CanShiftRule n) rs
rules_fit m n l [] h = tt
rules_fit m n l (r ∷ rs) h =
    ((let p = h.0.0 in omega (arith, p, l), states_fit m n l r.children h.0.1), rules_fit m n l rs h.1)

module _ (a b : Automaton) (proper : IsRanked a) where
  abbrev both : List Rule
  both = a.rules ++ map (renumbered (shift a.states)) b.rules

  abbrev Old : ℕ → ℕ → Type 0
  Old p q = (p ≡ q) × (p < a.states)

  paired_old : (qs : List ℕ) → Every (λ q. q < a.states) qs → Paired Old qs qs
  paired_old [] h = tt
  paired_old (q ∷ qs) h = ((refl, h.0), paired_old qs h.1)

  match_left : (x : Rule) (q : ℕ) (ts : List Tree) → IsIn x both → Old x.state q → (o : Rule) × IsIn o a.rules
      × (o.state ≡ q) × (o.symbol ≡ x.symbol) × Paired Old x.children o.children
  match_left x q ts i h = elim (in_append x a.rules (map (renumbered (shift a.states)) b.rules) i) [
    | inl j ↦ (x, j, h.0, refl, paired_old x.children (every_in (IsRankedRule a.states) a.rules x proper.1 j).1)
    | inr j ↦ absurd (let m = in_mapped (renumbered (shift a.states)) x b.rules j in
        let s : x.state ≡ m.0.state + a.states = ap (λ (y : Rule). y.state) m.2 in
        let l = h.1 in
        let f : ⊥ = omega (arith, s, l) in f)
  ]

  match_right : (x : Rule) (q : ℕ) (ts : List Tree) → IsIn x both → x.state ≡ q + a.states → (o : Rule) × IsIn o b.rules
      × (o.state ≡ q) × (o.symbol ≡ x.symbol) × Paired (λ p q. p ≡ q + a.states) x.children o.children
  match_right x q ts i e = elim (in_append x a.rules (map (renumbered (shift a.states)) b.rules) i) [
    | inl j ↦ absurd (let l = (every_in (IsRankedRule a.states) a.rules x proper.1 j).0 in
        let f : ⊥ = omega (arith, e, l) in f)
    | inr j ↦ match_down a.states b.rules x q ts j e
  ]

  pub left_run : {q : ℕ} {t : Tree} → q < a.states → RunOf both q t → RunOf a.rules q t
  left_run {q} h r = along both a.rules Old (λ x q ts i o k. match_left x q ts i o) q (refl, h) r

  pub right_run : (q : ℕ) {p : ℕ} {t : Tree} → p ≡ q + a.states → RunOf both p t → RunOf b.rules q t
  right_run q e r = along both b.rules (λ p q. p ≡ q + a.states) (λ x q ts i o k. match_right x q ts i o) q e r

  pub united_union : IsUnion a b (united a b)
  united_union t = (
    λ l. elim (in_append l.0 a.roots (map (shift a.states) b.roots) l.1) [
      | inl j ↦ inl (l.0, j, left_run (every_in (λ q. q < a.states) a.roots l.0 proper.0 j) l.2)
      | inr j ↦ inr (let m = in_mapped (shift a.states) l.0 b.roots j in (m.0, m.1, right_run m.0 m.2 l.2))
    ],
    λ e. elim e [
      | inl l ↦ (
        l.0,
        in_left l.0 a.roots (map (shift a.states) b.roots) l.1,
        widened a.rules both (λ r i. in_left r a.rules (map (renumbered (shift a.states)) b.rules) i) l.2,
      )
      | inr l ↦ (
        l.0 + a.states,
        in_right (l.0 + a.states) a.roots (map (shift a.states) b.roots) (in_map (shift a.states) l.0 b.roots l.1),
        widened (map (renumbered (shift a.states)) b.rules) both
            (λ r i. in_right r a.rules (map (renumbered (shift a.states)) b.rules) i)
            (run_shifted a.states b.rules l.2),
      )
    ],
  )

pub in_sub : {X : Type 0} {xs ys : List X} (x : X) → IsSublist xs ys → IsIn x xs → IsIn x ys
in_sub x sub_none i = absurd i
in_sub x (sub_skip s) i = inr (in_sub x s i)
in_sub x (sub_keep s) (inl e) = inl e
in_sub x (sub_keep s) (inr i) = inr (in_sub x s i)

-- the roots of what stands for an automaton have the same runs
pub root_runs : (a b : Automaton) → IsRanked b → StandsFor a b → SameRootRuns a b
root_runs a b h s = (
  λ p i. (
    s.of p,
    in_sub (s.of p) s.roots (in_map s.of p b.roots i),
    λ t. s.runs p t (every_in (λ q. q < b.states) b.roots p h.0 i),
  ),
  λ q i t.
      (let w = s.whole q i t in (
        w.0,
        w.1,
        λ u. subst (λ (x : ℕ). (RunOf b.rules w.0 u → RunOf a.rules x u) × (RunOf a.rules x u → RunOf b.rules w.0 u))
            w.2
            (s.runs w.0 u (every_in (λ q. q < b.states) b.roots w.0 h.0 w.1)),
      )),
)
