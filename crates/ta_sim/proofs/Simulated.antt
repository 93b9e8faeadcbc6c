-- The greatest downward simulation: it is a preorder, and trees go up along it.
use Rattle.std.proofs.Common.{◌≡◌, ◌⊎◌, inl, inr, ℕ, zero, suc, ◌<◌, Bool, true, false, true≢false, ◌&&◌, ◌||◌, List}
use Rattle.std.proofs.Common.{[], ◌∷◌, nat_eq, refl, sym, ◌∙◌, arith}
use Rattle.std.proofs.lemmas.Bool.{eqb-true, eq-eqb, or_cases, and_parts}
use Rattle.fore_base.specs.Lists.{Every, Paired}
use Rattle.ta_core.specs.declared.auto.Rule.{Rule}
use Rattle.ta_core.specs.declared.tree.Tree.{Tree}
use Rattle.ta_core.specs.Auto.{IsRankedRule}
use Rattle.ta_core.specs.Language.{RunOf}
use Rattle.ta_core.specs.Simulations.{IsDownward, IsSimulated}
use Rattle.fore_base.proofs.ListLemmas.{every_in}
use Rattle.ta_core.proofs.Runs.{along}

-- where one relation is within another on the states of the first list, so are the lists
pub paired_widened : (R S : ℕ → ℕ → Type 0) → ((p q : ℕ) → R p q → S p q) → (ps qs : List ℕ) → Paired R ps qs
    → Paired S ps qs
paired_widened R S f [] [] h = tt
paired_widened R S f [] (q ∷ qs) h = absurd h
paired_widened R S f (p ∷ ps) [] h = absurd h
paired_widened R S f (p ∷ ps) (q ∷ qs) h = (f p q h.0, paired_widened R S f ps qs h.1)

-- trees go up along a simulation
pub simulated_runs : (rules : List Rule) (p q : ℕ) (t : Tree) → IsSimulated rules p q → RunOf rules p t
    → RunOf rules q t
simulated_runs rules p q t h r = along rules rules (λ x y. h.0 x y ≡ true) (λ r q ts i e k. h.1 r q i e) q h.2 r

-- it is a simulation
pub simulated_downward : (rules : List Rule) → IsDownward rules (IsSimulated rules)
simulated_downward rules r q i h =
    let m = h.1 r q i h.2 in (
      m.0,
      m.1,
      m.2,
      m.3,
      paired_widened (λ x y. h.0 x y ≡ true) (IsSimulated rules) (λ x y k. (h.0, h.1, k)) r.children
          m.0.children m.4,
    )

-- equality is one
equal_each : (qs : List ℕ) → Paired (λ p q. nat_eq p q ≡ true) qs qs
equal_each [] = tt
equal_each (q ∷ qs) = (eq-eqb q q refl, equal_each qs)

pub simulated_same : (rules : List Rule) (q : ℕ) → IsSimulated rules q q
simulated_same rules q =
    (nat_eq, (λ r p i e. (r, i, eqb-true r.state p e, refl, equal_each r.children)), eq-eqb q q refl)

-- some number below n meets f
abbrev pub some_below : ℕ → (ℕ → Bool) → Bool
some_below zero f = false
some_below (suc n) f = f 0 || some_below n (λ i. f (suc i))

pub below_from : (n : ℕ) (f : ℕ → Bool) → some_below n f ≡ true → (i : ℕ) × (i < n) × (f i ≡ true)
below_from zero f h = absurd (true≢false (sym h))
below_from (suc n) f h = here (below_from n (λ i. f (suc i))) (or_cases (f 0) (some_below n (λ i. f (suc i))) h)
  where
    here : (some_below n (λ i. f (suc i)) ≡ true → (i : ℕ) × (i < n) × (f (suc i) ≡ true))
        → ((f 0 ≡ true) ⊎ (some_below n (λ i. f (suc i)) ≡ true)) → (i : ℕ) × (i < suc n) × (f i ≡ true)
    here g (inl e) = (0, omega arith, e)
    here g (inr k) = let w = g k in (suc w.0, (let l = w.1 in omega (arith, l)), w.2)

either : (b : Bool) → (b || true) ≡ true
either true = refl
either false = refl

pub below_to : (n : ℕ) (f : ℕ → Bool) (i : ℕ) → i < n → f i ≡ true → some_below n f ≡ true
below_to zero f i l h = absurd (omega (arith, l))
below_to (suc n) f zero l h = rw h refl
below_to (suc n) f (suc i) l h = rw (below_to n (λ j. f (suc j)) i (omega (arith, l)) h) (either (f 0))

both : (a b : Bool) → a ≡ true → b ≡ true → (a && b) ≡ true
both true b h k = k
both false b h k = absurd (true≢false (sym h))

-- through a state of the automaton the one relation leads to the other
abbrev pub through : ℕ → (ℕ → ℕ → Bool) → (ℕ → ℕ → Bool) → ℕ → ℕ → Bool
through n R S p r = some_below n (λ q. R p q && S q r)

module _ (n : ℕ) (R S : ℕ → ℕ → Bool) where
  pub go_through : (p q r : ℕ) → q < n → R p q ≡ true → S q r ≡ true → through n R S p r ≡ true
  go_through p q r l h k = below_to n (λ m. R p m && S m r) q l (both (R p q) (S q r) h k)

  pub through_from : (p r : ℕ) → through n R S p r ≡ true → (q : ℕ) × (q < n) × (R p q ≡ true) × (S q r ≡ true)
  through_from p r h =
      let w = below_from n (λ m. R p m && S m r) h in
      let k = and_parts (R p w.0) (S w.0 r) w.2 in
      (w.0, w.1, k.0, k.1)

  pub each_through : (ps qs rs : List ℕ) → Every (λ q. q < n) qs → Paired (λ p q. R p q ≡ true) ps qs
      → Paired (λ q r. S q r ≡ true) qs rs → Paired (λ p r. through n R S p r ≡ true) ps rs
  each_through [] [] [] l h k = tt
  each_through [] [] (r ∷ rs) l h k = absurd k
  each_through [] (q ∷ qs) rs l h k = absurd h
  each_through (p ∷ ps) [] rs l h k = absurd h
  each_through (p ∷ ps) (q ∷ qs) [] l h k = absurd k
  each_through (p ∷ ps) (q ∷ qs) (r ∷ rs) l h k = (go_through p q r l.0 h.0 k.0, each_through ps qs rs l.1 h.1 k.1)

  through_downward : (rules : List Rule) → Every (IsRankedRule n) rules → IsDownward rules (λ x y. R x y ≡ true)
      → IsDownward rules (λ x y. S x y ≡ true) → IsDownward rules (λ x y. through n R S x y ≡ true)
  through_downward rules proper f g r z i h =
      let w = below_from n (λ m. R r.state m && S m z) h in
      let a = f r w.0 i (and_parts (R r.state w.0) (S w.0 z) w.2).0 in
      let b = g a.0 z a.1 (rw a.2 (and_parts (R r.state w.0) (S w.0 z) w.2).1) in (
        b.0,
        b.1,
        b.2,
        b.3 ∙ a.3,
        each_through r.children a.0.children b.0.children (every_in (IsRankedRule n) rules a.0 proper a.1).1 a.4 b.4,
      )

-- a state of the automaton that simulates one is simulated by what simulates it
pub simulated_through : (n : ℕ) (rules : List Rule) → Every (IsRankedRule n) rules → (p q r : ℕ) → q < n
    → IsSimulated rules p q → IsSimulated rules q r → IsSimulated rules p r
simulated_through n rules proper p q r l h k =
    (through n h.0 k.0, through_downward n h.0 k.0 rules proper h.1 k.1, go_through n h.0 k.0 p q r l h.2 k.2)

-- so are those of whole lists, place by place
pub paired_through : (n : ℕ) (rules : List Rule) → Every (IsRankedRule n) rules → (ps qs rs : List ℕ)
    → Every (λ q. q < n) qs → Paired (IsSimulated rules) ps qs → Paired (IsSimulated rules) qs rs
    → Paired (IsSimulated rules) ps rs
paired_through n rules proper [] [] [] l h k = tt
paired_through n rules proper [] [] (r ∷ rs) l h k = absurd k
paired_through n rules proper [] (q ∷ qs) rs l h k = absurd h
paired_through n rules proper (p ∷ ps) [] rs l h k = absurd h
paired_through n rules proper (p ∷ ps) (q ∷ qs) [] l h k = absurd k
paired_through n rules proper (p ∷ ps) (q ∷ qs) (r ∷ rs) l h k =
    (simulated_through n rules proper p q r l.0 h.0 k.0, paired_through n rules proper ps qs rs l.1 h.1 k.1)
