-- What is given at the cells of roots, for each choice.
use Rattle.std.proofs.Common.{◌≡◌, ◌↔◌, inl, inr, ℕ, zero, suc, ◌<◌, ◌≤◌, ◌+◌, Bool, true, false, true≢false, List, []}
use Rattle.std.proofs.Common.{◌∷◌, ◌++◌, map, flat_map, set, cond, nat_eq, nat_lt, Some, slice_get}
use Rattle.std.proofs.Common.{refl, sym, ap, subst, ◌∙◌, arith, IsTrue}
use Rattle.std.proofs.lemmas.Bool.{ltb-true, ltb-false, eqb-true}
use Rattle.std.proofs.lemmas.Option.{none-some, same_Some}
use Rattle.fore_base.specs.Lists.{IsIn, Every, Paired}
use Rattle.fore_base.specs.declared.store.Datum.{Datum}
use Rattle.ta_core.specs.Auto.{Automaton, IsRanked}
use Rattle.ta_core.specs.Language.{InLanguage, IsTrim, RunOf, run, RunEach, run_none, run_more}
use Rattle.ta_core.specs.declared.auto.Rule.{Rule}
use Rattle.ta_core.specs.declared.symbol.Slot.{Slot}
use Rattle.ta_core.specs.declared.symbol.Slot.TheVariants.{Field, Link, Hook}
use Rattle.ta_core.specs.declared.symbol.Symbol.{Symbol}
use Rattle.ta_core.specs.declared.symbol.Symbol.TheVariants.{Null, Uninit, Dangling, Ref, Cell}
use Rattle.ta_core.specs.declared.tree.Tree.{Tree, out-Tree}
use Rattle.fore_base.proofs.ListLemmas.{every_in, in_every, every_parts}
use Rattle.fa_core.specs.declared.faces.BoxFace.{BoxFace}
use Rattle.fa_core.specs.declared.faces.Face.{Face}
use Rattle.fa_core.specs.Cells.{edges, is_leaf}
use Rattle.fa_core.specs.Filled.{Choice, covers, fields_of, given_at, numbered}
use Rattle.fa_core.specs.Folding.{symbol_slots}
use Rattle.fa_core.specs.Rearranged.{often}
use Rattle.fa_core.specs.Ways.{Way, ways, ways_at, given, given_by, gives_out_of, longer}
use Rattle.fa_core.proofs.CellMarks.{given_through}
use Rattle.fa_core.proofs.Counts.{often_both, often_out, in_or_out}
use Rattle.fa_core.proofs.WayParts.{collect, collect_edges, edge_ways, pair_roots, ways_out, child_edges, branch_ways}
use Rattle.fa_filling.proofs.Chosen.{chosen_runs, runs_chosen}
use Rattle.fa_filling.specs.Parted.{RunBy, chosen, AreTopRules}
use Rattle.fa_giving.specs.declared.totals.Extremes.{Extremes}
use Rattle.fa_giving.specs.inner.Totals.{gives, IsExtremes, AreExtremes, none_given, total, all_give, Fits, AllFit}
use Rattle.fa_giving.specs.inner.Totals.{IsGivenRight, ForAll, ForTop, given_fields, symbol_fields, rule_fields, AreIn}
use Rattle.fa_giving.specs.inner.Worths.{weigh, weight, AreWorths, rule_worth}
use Rattle.fa_giving.specs.declared.worths.Worth.{Worth}
use Rattle.fa_giving.specs.inner.Totals.{extremes_of}
use Rattle.fa_giving.proofs.Sums.{gives_none, totals, TotalOf, by_rule}
use Rattle.fa_giving.proofs.Weights.{weigh_cell, weigh_is, below_slots}

module _ (bs : List BoxFace) (r f : ℕ) where
  -- THE WEIGHT OF A TREE IS WHAT ITS WAYS GIVE

  abbrev provided : Tree → List ℕ
  provided t = collect (λ w. given bs w.steps) r (ways t)

  abbrev below_slot : List ℕ → Slot → Tree → List ℕ
  below_slot rs x t = collect (λ w. given bs (longer rs (x, w)).steps) r (ways t)

  either : {Z : Type 0} (z : Z) (b : Bool) → cond b z z ≡ z
  either z true = refl
  either z false = refl

  leaf_provided : (t : Tree) (y : Symbol) → (out-Tree t).symbol ≡ y
      → often f (collect (λ w. given bs w.steps) r (ways_at y (map ways (out-Tree t).children))) ≡ 0
      → often f (provided t) ≡ 0
  leaf_provided t y d z = ap (λ (ws : List Way). often f (collect (λ w. given bs w.steps) r ws))
      (ways_out t ∙ ap (λ (s : Symbol). ways_at s (map ways (out-Tree t).children)) d) ∙ z

  leaf_below : (rs : List ℕ) (x : Slot) (t : Tree) (y : Symbol) → (out-Tree t).symbol ≡ y
      → often f (collect (λ w. given bs (longer rs (x, w)).steps) r (ways_at y (map ways (out-Tree t).children)))
      ≡ weigh bs r f t (weight bs f x) → often f (below_slot rs x t) ≡ weigh bs r f t (weight bs f x)
  leaf_below rs x t y d z = ap (λ (ws : List Way). often f (collect (λ w. given bs (longer rs (x, w)).steps) r ws))
      (ways_out t ∙ ap (λ (s : Symbol). ways_at s (map ways (out-Tree t).children)) d) ∙ z

  abbrev Counts : Tree → Type 0
  Counts t = (often f (provided t) ≡ gives bs r f t)
      × ((rs : List ℕ) (x : Slot) → often f (below_slot rs x t) ≡ weigh bs r f t (weight bs f x))

  ref_once : (b : Bool) (k : ℕ) → often f (flat_map (λ (w : Way). given bs w.steps)
      (cond b (record { root = k; steps = [] } ∷ []) [])) ≡ 0
  ref_once true k = refl
  ref_once false k = refl

  ref_below : (rs : List ℕ) (x : Slot) (b : Bool) (k : ℕ)
      → often f (flat_map (λ (w : Way). given bs (longer rs (x, w)).steps)
      (cond b (record { root = k; steps = [] } ∷ []) [])) ≡ cond b (weight bs f x) 0
  ref_below rs x true k = let e = often_both f (given_by bs x) [] in omega (arith, e)
  ref_below rs x false k = refl

  provided_cell : (t : Tree) (h : ℕ) (ds : List Datum) (ss : List Slot) → (out-Tree t).symbol ≡ Cell h ds ss
      → ((rs : List ℕ) → often f (flat_map (λ e. below_slot rs e.0 e.1) (edges ss (out-Tree t).children))
      ≡ below_slots bs r f ss (out-Tree t).children)
      → often f (provided t) ≡ below_slots bs r f ss (out-Tree t).children
  provided_cell t h ds ss d z =
      let ts = (out-Tree t).children in
      let ps = edge_ways (edges ss ts) in
      let w : ways t ≡ map (longer (pair_roots ps)) ps = ways_out t
      ∙ ap (λ (s : Symbol). ways_at s (map ways ts)) d
      ∙ ap (λ (qs : List (Slot × Way)). map (longer (pair_roots qs)) qs) (child_edges ss ts) in
      ap (λ (ws : List Way). often f (collect (λ w. given bs w.steps) r ws)) w
      ∙ ap (often f) (collect_edges (λ w. given bs w.steps) r (pair_roots ps) (edges ss ts))
      ∙ z (pair_roots ps)

  module _ (rules : List Rule) where
    mutual
      counts : {q : ℕ} {t : Tree} → RunOf rules q t → Counts t
      counts {q} {t} (run o i e s k) = by (slots_count k) (out-Tree t).symbol refl
        where
          by : ((ss : List Slot) (rs : List ℕ)
              → often f (flat_map (λ e. below_slot rs e.0 e.1) (edges ss (out-Tree t).children))
              ≡ below_slots bs r f ss (out-Tree t).children) → (y : Symbol) → (out-Tree t).symbol ≡ y → Counts t
          by z Null d = (
            leaf_provided t Null d refl ∙ sym (weigh_is bs r f t Null 0 d),
            λ rs x. leaf_below rs x t Null d (sym (weigh_is bs r f t Null (weight bs f x) d)),
          )
          by z Uninit d = (
            leaf_provided t Uninit d refl ∙ sym (weigh_is bs r f t Uninit 0 d),
            λ rs x. leaf_below rs x t Uninit d (sym (weigh_is bs r f t Uninit (weight bs f x) d)),
          )
          by z Dangling d = (
            leaf_provided t Dangling d refl ∙ sym (weigh_is bs r f t Dangling 0 d),
            λ rs x. leaf_below rs x t Dangling d (sym (weigh_is bs r f t Dangling (weight bs f x) d)),
          )
          by z (Ref m) d = (
            leaf_provided t (Ref m) d (ref_once (nat_eq r m) m)
                ∙ sym (weigh_is bs r f t (Ref m) 0 d ∙ either 0 (nat_eq r m)),
            λ rs x. leaf_below rs x t (Ref m) d
                (ref_below rs x (nat_eq r m) m ∙ sym (weigh_is bs r f t (Ref m) (weight bs f x) d)),
          )
          by z (Cell h ds ss) d =
              let own = provided_cell t h ds ss d (z ss) in
              let w = weigh_cell bs r f t h ds ss in (
                own ∙ sym (w 0 d),
                λ rs x. ap (often f) (given_through bs r rs x (ways t) (branch_ways t (ap is_leaf d))) ∙ own
                    ∙ sym (w (weight bs f x) d),
              )

      slots_count : {qs : List ℕ} {ts : List Tree} → RunEach rules qs ts → (ss : List Slot) (rs : List ℕ)
          → often f (flat_map (λ e. below_slot rs e.0 e.1) (edges ss ts)) ≡ below_slots bs r f ss ts
      slots_count k [] rs = refl
      slots_count k (Hook b ∷ ss) rs = slots_count k ss rs
      slots_count run_none (Field g ∷ ss) rs = refl
      slots_count run_none (Link g ∷ ss) rs = refl
      slots_count (run_more {t = t} {ts = ts} k ks) (Field g ∷ ss) rs =
          let a = (counts k).1 rs (Field g) in let b = slots_count ks ss rs in
          let c = often_both f (below_slot rs (Field g) t) (flat_map (λ e. below_slot rs e.0 e.1) (edges ss ts)) in
          omega (arith, a, b, c)
      slots_count (run_more {t = t} {ts = ts} k ks) (Link g ∷ ss) rs =
          let a = (counts k).1 rs (Link g) in let b = slots_count ks ss rs in
          let c = often_both f (below_slot rs (Link g) t) (flat_map (λ e. below_slot rs e.0 e.1) (edges ss ts)) in
          omega (arith, a, b, c)

  -- so for a choice
  pub given_count : (autos : List Automaton) (ts : List Tree) → Choice autos ts
      → often f (given_at bs ts r) ≡ all_give bs r f ts
  given_count [] [] c = refl
  given_count [] (t ∷ ts) c = absurd c
  given_count (a ∷ autos) [] c = absurd c
  given_count (a ∷ autos) (t ∷ ts) c =
      let x = often_both f (provided t) (given_at bs ts r) in
      let y = (counts a.rules c.0.2).0 in
      let z = given_count autos ts c.1 in
      omega (arith, x, y, z)

-- CHOICES WITH ONE RULE AT A ROOT

-- the component at a place is another one
pub choice_from : (autos : List Automaton) (r : ℕ) (a b : Automaton) (ts : List Tree) → slice_get autos r ≡ Some a
    → ((t : Tree) → slice_get ts r ≡ Some t → InLanguage a t → InLanguage b t) → Choice autos ts
    → Choice (set autos r b) ts
choice_from [] r a b ts e g c = absurd (none-some a e)
choice_from (x ∷ autos) r a b [] e g c = absurd c
choice_from (x ∷ autos) zero a b (t ∷ ts) e g c =
    (g t refl (subst (λ (y : Automaton). InLanguage y t) (same_Some x a e) c.0), c.1)
choice_from (x ∷ autos) (suc r) a b (t ∷ ts) e g c = (c.0, choice_from autos r a b ts e g c.1)

pub choice_to : (autos : List Automaton) (r : ℕ) (a b : Automaton) (ts : List Tree) → slice_get autos r ≡ Some a
    → ((t : Tree) → InLanguage b t → InLanguage a t) → Choice (set autos r b) ts → Choice autos ts
choice_to [] r a b ts e g c = absurd (none-some a e)
choice_to (x ∷ autos) zero a b [] e g c = absurd c
choice_to (x ∷ autos) (suc r) a b [] e g c = absurd c
choice_to (x ∷ autos) zero a b (t ∷ ts) e g c =
    (subst (λ (y : Automaton). InLanguage y t) (sym (same_Some x a e)) (g t c.0), c.1)
choice_to (x ∷ autos) (suc r) a b (t ∷ ts) e g c = (c.0, choice_to autos r a b ts e g c.1)

-- the tree there
pub choice_there : (autos : List Automaton) (r : ℕ) (a b : Automaton) (ts : List Tree) (t : Tree)
    → slice_get autos r ≡ Some a → slice_get ts r ≡ Some t → Choice (set autos r b) ts → InLanguage b t
choice_there [] r a b ts t e d c = absurd (none-some a e)
choice_there (x ∷ autos) zero a b [] t e d c = absurd c
choice_there (x ∷ autos) (suc r) a b [] t e d c = absurd c
choice_there (x ∷ autos) zero a b (u ∷ ts) t e d c = subst (InLanguage b) (same_Some u t d) c.0
choice_there (x ∷ autos) (suc r) a b (u ∷ ts) t e d c = choice_there autos r a b ts t e d c.1

pub choice_at : (autos : List Automaton) (r : ℕ) (a : Automaton) (ts : List Tree) (t : Tree)
    → slice_get autos r ≡ Some a
    → slice_get ts r ≡ Some t → Choice autos ts → InLanguage a t
choice_at [] r a ts t e d c = absurd (none-some a e)
choice_at (x ∷ autos) r a [] t e d c = absurd c
choice_at (x ∷ autos) zero a (u ∷ ts) t e d c =
    subst (InLanguage a) (same_Some u t d) (subst (λ (y : Automaton). InLanguage y u) (same_Some x a e) c.0)
choice_at (x ∷ autos) (suc r) a (u ∷ ts) t e d c = choice_at autos r a ts t e d c.1

-- there is a tree
pub choice_has : (autos : List Automaton) (r : ℕ) (a : Automaton) (ts : List Tree) → slice_get autos r ≡ Some a
    → Choice autos ts → (t : Tree) × (slice_get ts r ≡ Some t)
choice_has [] r a ts e c = absurd (none-some a e)
choice_has (x ∷ autos) r a [] e c = absurd c
choice_has (x ∷ autos) zero a (u ∷ ts) e c = (u, refl)
choice_has (x ∷ autos) (suc r) a (u ∷ ts) e c = choice_has autos r a ts e c.1

paired_set : {X Y : Type 0} (R : X → Y → Type 0) (xs : List X) (ys : List Y) (i : ℕ) (x : X) (y : Y) → Paired R xs ys
    → R x y → Paired R (set xs i x) (set ys i y)
paired_set R [] [] i x y p h = tt
paired_set R [] (b ∷ ys) i x y p h = absurd p
paired_set R (a ∷ xs) [] i x y p h = absurd p
paired_set R (a ∷ xs) (b ∷ ys) zero x y p h = (h, p.1)
paired_set R (a ∷ xs) (b ∷ ys) (suc i) x y p h = (p.0, paired_set R xs ys i x y p.1 h)

-- THE FIELDS OF A STRUCT STAND ONCE

pub need_once : (f k : ℕ) (xs : List ℕ) → (f < k → often f (numbered k xs) ≡ 0) × (often f (numbered k xs) ≤ 1)
need_once f k [] = ((λ l. refl), omega arith)
need_once f k (x ∷ xs) = here (nat_eq f k) refl (need_once f (suc k) xs)
  where
    here : (b : Bool) → nat_eq f k ≡ b
        → (f < suc k → often f (numbered (suc k) xs) ≡ 0) × (often f (numbered (suc k) xs) ≤ 1)
        → (f < k → cond b (often f (numbered (suc k) xs) + 1) (often f (numbered (suc k) xs)) ≡ 0)
        × (cond b (often f (numbered (suc k) xs) + 1) (often f (numbered (suc k) xs)) ≤ 1)
    here true e h = let d = eqb-true f k e in let z = h.0 (omega (arith, d)) in
        ((λ l. absurd (omega (arith, l, d))), omega (arith, z))
    here false e h = ((λ l. h.0 (omega (arith, l))), h.1)

-- ONE RULE

-- what the extremes say fits each choice, or one does not
fit_each : {X : Type 0} (n : X → ℕ) (L : X → Type 0) (e : Extremes) (port : Bool) (need c : ℕ) → need ≤ 1
    → IsExtremes n L e → AllFit port need c e → (x : X) → L x → Fits port need (c + n x)
fit_each n L e true need c l h k x i = elim (h.most_all x i) [
  | inl a ↦ omega (arith, a, k)
  | inr a ↦ absurd (omega (arith, a, k))
]
fit_each n L e false need c l h k x i = elim (h.most_all x i) [
  | inr a ↦ (let b = k.0 in absurd (omega (arith, a, b, l)))
  | inl a ↦ (let b = k.0 in elim k.1 [
    | inl d ↦ omega (arith, a, b, d)
    | inr d ↦ some (nat_lt 0 (n x)) refl a b d
  ])
]
  where
    some : (b : Bool) → nat_lt 0 (n x) ≡ b → n x ≤ e.most → c + e.most ≤ need → e.none ≡ false → c + n x ≡ need
    some true v a b d = let g = ltb-true 0 (n x) v in omega (arith, a, b, l, g)
    some false v a b d = let g = ltb-false 0 (n x) v in
        absurd (true≢false (sym (h.none_all x i (omega (arith, g))) ∙ d))

fit_not : {X : Type 0} (n : X → ℕ) (L : X → Type 0) (e : Extremes) (port : Bool) (need c : ℕ)
    → IsExtremes n L e → (AllFit port need c e → ⊥) → (x : X) × L x × (Fits port need (c + n x) → ⊥)
fit_not n L e true need c h k = let x = h.most_real in let m = x.2 in
    (x.0, x.1, (λ g. k (omega (arith, g, m))))
fit_not n L e false need c h k = first (nat_lt need (c + e.most)) refl
  where
    third : (b : Bool) → e.none ≡ b → c + e.most ≤ need → c < need → (x : _) × L x × (c + n x ≡ need → ⊥)
    third true v l g = let x = h.none_real v in let z = x.2 in (x.0, x.1, (λ y. omega (arith, y, z, g)))
    third false v l g = absurd (k (l, inr v))

    second : (b : Bool) → nat_lt c need ≡ b → c + e.most ≤ need → (x : _) × L x × (c + n x ≡ need → ⊥)
    second true v l = third e.none refl l (ltb-true c need v)
    second false v l = absurd (k (l, inl (ltb-false c need v)))

    first : (b : Bool) → nat_lt need (c + e.most) ≡ b → (x : _) × L x × (c + n x ≡ need → ⊥)
    first true v = let x = h.most_real in let m = x.2 in let g = ltb-true need (c + e.most) v in
        (x.0, x.1, (λ y. omega (arith, y, m, g)))
    first false v = second (nat_lt c need) refl (ltb-false need (c + e.most) v)

pub cell_same : (s u : ℕ) (ds es : List Datum) (ss vs : List Slot) → Cell s ds ss ≡ Cell u es vs → (s ≡ u) × (ss ≡ vs)
cell_same s u ds es ss vs h = (ap shape h, ap symbol_slots h)
  where
    shape : Symbol → ℕ
    shape Null = 0
    shape Uninit = 0
    shape Dangling = 0
    shape (Ref r) = 0
    shape (Cell s ds ss) = s

module _ (face : Face) (port : Bool) (r f : ℕ) (autos : List Automaton) (a : Automaton) (ranked : IsRanked a)
    (own : slice_get autos r ≡ Some a) where
  bs : List BoxFace
  bs = face.boxes

  abbrev Right : List Tree → Type 0
  Right = IsGivenRight face port r f

  module _ (o : Rule) (i : IsIn o a.rules) (top : IsIn o.state a.roots) where
    abbrev others : List Automaton
    others = set autos r (chosen a (o ∷ []))

    right : (x : Rule) → IsIn x (o ∷ []) → IsIn x a.rules
    right x (inl e) = subst (λ (y : Rule). IsIn y a.rules) (sym e) i
    right x (inr n) = absurd n

    by_o : (t : Tree) → InLanguage (chosen a (o ∷ [])) t → RunBy a.rules o t
    by_o t l = let k = chosen_runs a (o ∷ []) ranked.1 right t l in this k.0 k.1 k.2
      where
        this : (x : Rule) → IsIn x (o ∷ []) → RunBy a.rules x t → RunBy a.rules o t
        this x (inl e) k = subst (λ (y : Rule). RunBy a.rules y t) e k
        this x (inr n) k = absurd n

    pub whole_choice : (ts : List Tree) → Choice others ts → Choice autos ts
    whole_choice ts c = choice_to autos r a (chosen a (o ∷ [])) ts own
        (λ t l. (let k = by_o t l in (o.state, top, run o i refl k.0 k.1))) c

    -- a leaf at the top: there is nothing to ask
    pub leaf_right : is_leaf o.symbol ≡ true → ForTop autos r a o Right true
    leaf_right l ts c t s ds ss e d =
        let k = by_o t (choice_there autos r a (chosen a (o ∷ [])) ts t own e c) in
        absurd (true≢false (sym l ∙ ap is_leaf (k.0 ∙ d)))

    -- so where its symbol is no cell
    pub other_right : ((s : ℕ) (ds : List Datum) (ss : List Slot) → o.symbol ≡ Cell s ds ss → ⊥)
        → ForTop autos r a o Right true
    other_right n ts c t s ds ss e d =
        let k = by_o t (choice_there autos r a (chosen a (o ∷ [])) ts t own e c) in absurd (n s ds ss (k.0 ∙ d))

    module _ (table : List Worth) (all : List Extremes) (trim : IsTrim a) (worths : AreWorths face.boxes r f a table)
        (p : Paired (AreExtremes face.boxes r f) autos all) (s : ℕ) (ds : List Datum) (ss : List Slot)
        (symbol : o.symbol ≡ Cell s ds ss) where
      abbrev need : ℕ
      need = often f (fields_of face.shapes.structs s)

      abbrev count : ℕ
      count = often f (flat_map (covers face.boxes) ss)

      abbrev sum : Extremes
      sum = total none_given (set all r (extremes_of (rule_worth face.boxes r f table o)))

      sums : TotalOf face.boxes r f others sum
      sums = totals face.boxes r f others (set all r (extremes_of (rule_worth face.boxes r f table o)))
          (paired_set (AreExtremes face.boxes r f) autos all r (chosen a (o ∷ []))
          (extremes_of (rule_worth face.boxes r f table o)) p (by_rule face.boxes r f a ranked table worths o i trim))

      counted : (ts : List Tree) → Choice autos ts
          → often f (flat_map (covers face.boxes) ss ++ given_at face.boxes ts r) ≡ count + all_give face.boxes r f ts
      counted ts c = let x = often_both f (flat_map (covers face.boxes) ss) (given_at face.boxes ts r) in
          let y = given_count face.boxes r f autos ts c in omega (arith, x, y)

      pub top_right : AllFit port need count sum → ForTop autos r a o Right true
      top_right h ts c t u es vs e d =
          let k = by_o t (choice_there autos r a (chosen a (o ∷ [])) ts t own e c) in
          let q = cell_same s u ds es ss vs (sym symbol ∙ k.0 ∙ d) in
          let g = fit_each (all_give face.boxes r f) (Choice others) sum port need count
          (need_once f 0 _).1 sums h ts c in
          let w = subst (Fits port need) (sym (counted ts (whole_choice ts c))) g in
          subst (λ (z : ℕ). Fits port (often f (fields_of face.shapes.structs z))
          (often f (flat_map (covers face.boxes) vs ++ given_at face.boxes ts r))) q.0
          (subst (λ (z : List Slot). Fits port need
          (often f (flat_map (covers face.boxes) z ++ given_at face.boxes ts r))) q.1 w)

      pub top_wrong : (AllFit port need count sum → ⊥) → ForTop autos r a o Right false
      top_wrong h =
          let x = fit_not (all_give face.boxes r f) (Choice others) sum port need count sums h in
          let c = whole_choice x.0 x.1 in
          let t = choice_has autos r a x.0 own c in
          let k = by_o t.0 (choice_there autos r a (chosen a (o ∷ [])) x.0 t.0 own t.1 x.1) in (
            x.0,
            c,
            λ g. x.2 (subst (Fits port need) (counted x.0 c) (g t.0 s ds ss t.1 (sym k.0 ∙ symbol))),
          )

      pub top_decides : (sum' : Extremes) → sum' ≡ sum → (yes' : Bool)
          → (IsTrue yes' ↔ AllFit port need count sum') → ForTop autos r a o Right yes'
      top_decides sum' e true h = top_right (subst (AllFit port need count) e (h.0 refl))
      top_decides sum' e false h = top_wrong (λ k. true≢false (sym (h.1 (subst (AllFit port need count) (sym e) k))))

  -- where each rule of root states is right, each choice is
  pub tops_right : (tops : List Rule) → AreTopRules a a.rules tops → Every (λ o. ForTop autos r a o Right true) tops
      → ForAll autos Right true
  tops_right tops h k ts c t s ds ss e d = there (choice_at autos r a ts t own e c)
    where
      there : InLanguage a t
          → Fits port (often f (fields_of face.shapes.structs s))
          (often f (flat_map (covers face.boxes) ss ++ given_at face.boxes ts r))
      there (q, j, run o i m y l) =
          let top = subst (λ (x : ℕ). IsIn x a.roots) (sym m) j in
          let w = h.all o i (top, ((out-Tree t).children, l)) in
          let g = every_in (λ (o : Rule). ForTop autos r a o Right true) tops o k w in
          g ts (choice_from autos r a (chosen a (o ∷ [])) ts own
          (λ u n b. runs_chosen a (o ∷ []) ranked.1 (right o i top) u o (inl refl)
          (subst (RunBy a.rules o) (same_Some t u (sym e ∙ n)) (y, l))) c) t s ds ss e d

  -- a field of which there is nothing to ask
  pub other_field : (tops : List Rule) (fields : List ℕ) → AreTopRules a a.rules tops
      → AreIn fields (given_fields face.boxes ++ rule_fields face tops) → (IsIn f fields → ⊥) → ForAll autos Right true
  other_field tops fields h k n ts c t s ds ss e d = there (choice_at autos r a ts t own e c)
    where
      absent : (xs : List ℕ) → AreIn fields xs → often f xs ≡ 0
      absent xs w = often_out f xs (λ i. n (every_in (λ (x : ℕ). IsIn x fields) xs f w i))

      both : AreIn fields (given_fields face.boxes) × AreIn fields (rule_fields face tops)
      both = every_parts (λ (x : ℕ). IsIn x fields) (given_fields face.boxes) (rule_fields face tops) k

      no_weight : (x : Slot) → weight face.boxes f x ≡ 0
      no_weight (Field g) = refl
      no_weight (Hook b) = refl
      no_weight (Link b) = absent (gives_out_of face.boxes b) (out_in face.boxes b both.0)
        where
          out_in : (bs : List BoxFace) (b : ℕ) → AreIn fields (given_fields bs) → AreIn fields (gives_out_of bs b)
          out_in [] b w = tt
          out_in (x ∷ bs) zero w = (every_parts (λ (x : ℕ). IsIn x fields) x.gives_out (given_fields bs) w).0
          out_in (x ∷ bs) (suc b) w =
              out_in bs b (every_parts (λ (x : ℕ). IsIn x fields) x.gives_out (given_fields bs) w).1

      rule_in : (os : List Rule) (o : Rule) → IsIn o os → AreIn fields (rule_fields face os)
          → AreIn fields (symbol_fields face o.symbol)
      rule_in [] o i w = absurd i
      rule_in (x ∷ os) o (inl e) w = subst (λ (y : Rule). AreIn fields (symbol_fields face y.symbol)) (sym e)
          (every_parts (λ (x : ℕ). IsIn x fields) (symbol_fields face x.symbol) (rule_fields face os) w).0
      rule_in (x ∷ os) o (inr i) w = rule_in os o i
          (every_parts (λ (x : ℕ). IsIn x fields) (symbol_fields face x.symbol) (rule_fields face os) w).1

      none_each : (autos : List Automaton) (ts : List Tree) → Choice autos ts → all_give face.boxes r f ts ≡ 0
      none_each [] [] c = refl
      none_each [] (u ∷ ts) c = absurd c
      none_each (b ∷ autos) [] c = absurd c
      none_each (b ∷ autos) (u ∷ ts) c =
          let x = gives_none face.boxes r f b.rules (λ o y i g. no_weight y) c.0.2 in
          let z = none_each autos ts c.1 in omega (arith, x, z)

      fits_none : (port : Bool) (m n : ℕ) → m ≡ 0 → n ≡ 0 → Fits port m n
      fits_none true m n x y = omega (arith, y)
      fits_none false m n x y = y ∙ sym x

      there : InLanguage a t
          → Fits port (often f (fields_of face.shapes.structs s))
          (often f (flat_map (covers face.boxes) ss ++ given_at face.boxes ts r))
      there (q, j, run o i m y l) =
          let top = subst (λ (x : ℕ). IsIn x a.roots) (sym m) j in
          let w = subst (λ (z : Symbol). AreIn fields (symbol_fields face z)) (y ∙ d)
          (rule_in tops o (h.all o i (top, ((out-Tree t).children, l))) both.1) in
          let v = every_parts (λ (x : ℕ). IsIn x fields) (fields_of face.shapes.structs s)
          (flat_map (covers face.boxes) ss) w in
          let x = often_both f (flat_map (covers face.boxes) ss) (given_at face.boxes ts r) in
          let g = given_count face.boxes r f autos ts c in
          let z = none_each autos ts c in
          let b = absent (flat_map (covers face.boxes) ss) v.1 in
          fits_none port _ _ (absent (fields_of face.shapes.structs s) v.0) (omega (arith, x, g, z, b))

-- ALL FIELDS, AND ALL ROOTS

pub root_decides : (face : Face) (port : Bool) (r : ℕ) (autos : List Automaton) (a : Automaton) → IsRanked a
    → slice_get autos r ≡ Some a → (tops : List Rule) (fields : List ℕ) → AreTopRules a a.rules tops
    → AreIn fields (given_fields face.boxes ++ rule_fields face tops) → (decided : Bool)
    → ForAll autos (λ ts. Every (λ f. IsGivenRight face port r f ts) fields) decided
    → ForAll autos (λ ts. (f : ℕ) → IsGivenRight face port r f ts) decided
root_decides face port r autos a ranked own tops fields h k true g = λ ts c f. elim (in_or_out f fields) [
  | inl i ↦ every_in (λ (f : ℕ). IsGivenRight face port r f ts) fields f (g ts c) i
  | inr n ↦ other_field face port r f autos a ranked own tops fields h k n ts c
]
root_decides face port r autos a ranked own tops fields h k false g =
    (g.0, g.1, λ w. g.2 (in_every (λ (f : ℕ). IsGivenRight face port r f g.0) fields (λ f i. w f)))

pub one_more : {Q : ℕ → Type 0} (n : ℕ) → ((r : ℕ) → r < n → Q r) → Q n → (r : ℕ) → r < n + 1 → Q r
one_more {Q} n g h r l = here (nat_lt r n) refl
  where
    here : (b : Bool) → nat_lt r n ≡ b → Q r
    here true e = g r (ltb-true r n e)
    here false e = let k = ltb-false r n e in subst Q (omega (arith, k, l)) h
