-- The cells below others: rules that say of each that its fields are given once, or a choice in which one is not.
use Rattle.std.proofs.Common.{◌≡◌, ◌↔◌, ◌⊎◌, inl, inr, ℕ, zero, suc, ◌<◌, ◌≤◌, Bool, true, false, true≢false, List, []}
use Rattle.std.proofs.Common.{◌∷◌, ◌++◌, length, length-append, flat_map, Some, slice_get}
use Rattle.std.proofs.Common.{refl, sym, ap, subst, ◌∙◌, arith, IsTrue}
use Rattle.std.proofs.lemmas.Bool.{cases_eq}
use Rattle.std.proofs.lemmas.Option.{none-some, same_Some}
use Rattle.fore_base.specs.Lists.{IsIn, Every}
use Rattle.fore_base.specs.declared.store.Datum.{Datum}
use Rattle.ta_core.specs.Auto.{Automaton, IsRanked, IsRankedRule}
use Rattle.ta_core.specs.Language.{InLanguage, IsTrim, RunOf, run, HasTree}
use Rattle.ta_core.specs.declared.auto.Rule.{Rule}
use Rattle.ta_core.specs.declared.symbol.Slot.{Slot}
use Rattle.ta_core.specs.declared.symbol.Slot.TheVariants.{Field, Link, Hook}
use Rattle.ta_core.specs.declared.symbol.Symbol.{Symbol}
use Rattle.ta_core.specs.declared.symbol.Symbol.TheVariants.{Null, Uninit, Dangling, Ref, Cell}
use Rattle.ta_core.specs.declared.tree.Tree.{Tree, out-Tree}
use Rattle.fore_base.proofs.ListLemmas.{every_in, in_every, every_weaker}
use Rattle.ta_core.proofs.Runs.{tree_of, run_tree}
use Rattle.fa_core.specs.declared.faces.BoxFace.{BoxFace}
use Rattle.fa_core.specs.declared.faces.Face.{Face}
use Rattle.fa_core.specs.Cells.{edges}
use Rattle.fa_core.specs.Filled.{Choice, HasSome, Spot, covers, fields_of, spots}
use Rattle.fa_core.specs.Rearranged.{Rearranged, often}
use Rattle.fa_core.specs.Ways.{given_by, gives_out_of}
use Rattle.fa_core.proofs.Counts.{often_same}
use Rattle.fa_core.proofs.Rearranging.{long_same}
use Rattle.fa_core.proofs.SameCounts.{alike_by}
use Rattle.fa_filling.specs.Ruled.{BelowRule, OnceBy, StateOnce, EdgeOnce, OnceBelow, IsOnceBelow}
use Rattle.fa_filling.proofs.SpotRules.{
  Holds,
  HoldsBelow,
  holds_cell,
  leaf_holds,
  holds_each,
  put,
  some_trees,
  with_edge,
}
use Rattle.fa_filling.proofs.Fillings.{some_choice}
use Rattle.fa_filling.proofs.SpotRules.{tree_spot}
use Rattle.fa_giving.specs.inner.Shaped.{IsOnceSpot, IsOnceRoot}
use Rattle.fa_giving.specs.inner.Totals.{ForAll}
use Rattle.fa_giving.proofs.RootFields.{choice_at}
use Rattle.fa_giving.proofs.Sums.{state_trees}

-- DECISIONS

-- each item meets P, or something else holds
pub each_or : {X B : Type 0} (P : X → Type 0) (xs : List X) → ((x : X) → IsIn x xs → P x ⊎ B) → Every P xs ⊎ B
each_or P [] h = inl tt
each_or P (x ∷ xs) h = elim (h x (inl refl)) [
  | inr b ↦ inr b
  | inl p ↦ elim (each_or P xs (λ y i. h y (inr i))) [ inr b ↦ inr b | inl ps ↦ inl (p, ps) ]
]

pub rearranged_or : (xs ys : List ℕ) → Rearranged xs ys ⊎ (Rearranged xs ys → ⊥)
rearranged_or xs ys = elim (cases_eq (length xs) (length ys)) [
  | inr n ↦ inr (λ r. n (long_same r))
  | inl l ↦ elim (each_or {B = Rearranged xs ys → ⊥} (λ (n : ℕ). often n xs ≡ often n ys) xs (λ n i.
      elim (cases_eq (often n xs) (often n ys)) [ inl e ↦ inl e | inr d ↦ inr (λ r. d (often_same n r)) ])) [
        | inr n ↦ inr n
        | inl h ↦ inl (alike_by xs ys l (λ n i. every_in (λ (n : ℕ). often n xs ≡ often n ys) xs n h i))
      ]
]

-- a choice with this tree at the root
pub choice_put : (autos : List Automaton) (r : ℕ) (a : Automaton) (v : Tree) → slice_get autos r ≡ Some a
    → Every HasSome autos → InLanguage a v → (ts : List Tree) × Choice autos ts × (slice_get ts r ≡ Some v)
choice_put [] r a v e f l = absurd (none-some a e)
choice_put (x ∷ autos) zero a v e f l = let k = some_choice autos f.1 in
    (v ∷ k.0, (subst (λ (y : Automaton). InLanguage y v) (sym (same_Some x a e)) l, k.1), refl)
choice_put (x ∷ autos) (suc r) a v e f l = let k = choice_put autos r a v e f.1 l in
    (f.0.0 ∷ k.0, (f.0.1, k.1), k.2)

-- no edge gives so many fields
abbrev marker : List BoxFace → List ℕ
marker bs = 0 ∷ flat_map (λ x. x.gives_out) bs

out_short : (bs : List BoxFace) (b : ℕ)
    → length (gives_out_of bs b) ≤ length (flat_map (λ (x : BoxFace). x.gives_out) bs)
out_short [] b = omega arith
out_short (x ∷ bs) zero = let e = length-append x.gives_out (flat_map (λ (x : BoxFace). x.gives_out) bs) in
    omega (arith, e)
out_short (x ∷ bs) (suc b) = let e = length-append x.gives_out (flat_map (λ (x : BoxFace). x.gives_out) bs) in
    let k = out_short bs b in omega (arith, e, k)

no_marker : (bs : List BoxFace) (x : Slot) → given_by bs x ≡ marker bs → ⊥
no_marker bs (Field f) e = let d = ap length e in omega (arith, d)
no_marker bs (Hook b) e = let d = ap length e in omega (arith, d)
no_marker bs (Link b) e = let d = ap length e in let k = out_short bs b in omega (arith, d, k)

module _ (face : Face) (autos : List Automaton) (r : ℕ) (a : Automaton) (ranked : IsRanked a) (trim : IsTrim a)
    (full : Every HasSome autos) (own : slice_get autos r ≡ Some a) where
  abbrev Wrong : Type 0
  Wrong = ForAll autos (IsOnceRoot face r) false

  -- FROM RULES TO TREES

  once_true : Every (IsOnceBelow face a.rules) a.rules → ForAll autos (IsOnceRoot face r) true
  once_true h ts c t s ds ss e d = there (choice_at autos r a ts t own e c)
    where
      each : (o : Rule) → IsIn o a.rules → BelowRule face.boxes (IsOnceSpot face) a.rules o
      each o i s ds ss e = in_every _ (edges ss o.children) (λ x j p m y s2 ds2 ss2 e2 ys k. (
          let w : OnceBelow face a.rules (Cell s ds ss) o.children =
          subst (λ (y : Symbol). OnceBelow face a.rules y o.children) e
          (every_in (IsOnceBelow face a.rules) a.rules o h i) in
          let g : OnceBy face (given_by face.boxes x.0) p.symbol =
          every_in (StateOnce face (given_by face.boxes x.0) x.1) a.rules p
          (every_in (EdgeOnce face a.rules) (edges ss o.children) x w j) m y in
          let z : OnceBy face (given_by face.boxes x.0) (Cell s2 ds2 ss2) =
          subst (λ (y : Symbol). OnceBy face (given_by face.boxes x.0) y) e2 g in z))

      there : InLanguage a t → HoldsBelow face.boxes (IsOnceSpot face) ss (out-Tree t).children
      there (q, j, run o i m y k) =
          holds_each face.boxes (IsOnceSpot face) a.rules each ss k (each o i s ds ss (y ∙ d))

  -- A CELL THAT IS WRONG

  abbrev Marked : Spot → Type 0
  Marked p = IsOnceSpot face p ⊎ (p.given ≡ marker face.boxes)

  trees : (q : ℕ) → q < a.states → HasTree a.rules q
  trees = state_trees a trim

  rule_low : (o : Rule) → IsIn o a.rules → IsRankedRule a.states o
  rule_low o i = every_in (IsRankedRule a.states) a.rules o ranked.1 i

  marked_below : (es : List (Slot × Tree))
      → Every (λ (e : Slot × Tree). Every (IsOnceSpot face) (spots face.boxes e.1 (given_by face.boxes e.0))) es
      → Every (λ (e : Slot × Tree). Every Marked (spots face.boxes e.1 (given_by face.boxes e.0))) es
  marked_below [] h = tt
  marked_below (e ∷ es) h = (
    every_weaker (IsOnceSpot face) Marked (spots face.boxes e.1 (given_by face.boxes e.0)) (λ p k. inl k) h.0,
    marked_below es h.1,
  )

  all_marked : (ts : List Tree) (v : Tree) → slice_get ts r ≡ Some v → IsOnceRoot face r ts
      → Holds face.boxes Marked v (marker face.boxes)
  all_marked ts v e h = here (out-Tree v).symbol refl
    where
      here : (y : Symbol) → (out-Tree v).symbol ≡ y → Holds face.boxes Marked v (marker face.boxes)
      here Null d = leaf_holds face.boxes Marked v (marker face.boxes) Null d refl
      here Uninit d = leaf_holds face.boxes Marked v (marker face.boxes) Uninit d refl
      here Dangling d = leaf_holds face.boxes Marked v (marker face.boxes) Dangling d refl
      here (Ref n) d = leaf_holds face.boxes Marked v (marker face.boxes) (Ref n) d refl
      here (Cell s ds ss) d = holds_cell face.boxes Marked v (marker face.boxes) s ds ss d (inr refl)
          (marked_below (edges ss (out-Tree v).children) (h v s ds ss e d))

  bad : (o : Rule) → IsIn o a.rules → (s : ℕ) (ds : List Datum) (ss : List Slot) → o.symbol ≡ Cell s ds ss
      → (d : Slot × ℕ) → IsIn d (edges ss o.children) → (p : Rule) → IsIn p a.rules → p.state ≡ d.1
      → (s2 : ℕ) (ds2 : List Datum) (ss2 : List Slot) → p.symbol ≡ Cell s2 ds2 ss2
      → (OnceBy face (given_by face.boxes d.0) (Cell s2 ds2 ss2) → ⊥) → Wrong
  bad o i s ds ss e d j p m x s2 ds2 ss2 e2 n =
      let us = some_trees face.boxes Marked a.rules a.states ranked.1 trees p.children (rule_low p m).1 in
      let u = tree_of p.symbol us.0 in
      let ru = subst (λ (z : ℕ). RunOf a.rules z u) x (run_tree a.rules p us.0 m us.1) in
      let l = with_edge face.boxes Marked a.rules a.states ranked.1 trees ss o.children (rule_low o i).1 d j u ru in
      let k = trim o.state (rule_low o i).0 in
      let g = put face.boxes Marked a.rules a.states ranked.1 (tree_of o.symbol l.0) k.3
      (run_tree a.rules o l.0 i l.1) in
      let c = choice_put autos r a g.0 own full (k.0, k.2, g.1) in (
        c.0,
        c.1,
        λ h. (
            let w = g.2 (marker face.boxes) (all_marked c.0 g.0 c.2 h) in
            let b = tree_spot face.boxes Marked a.rules a.states ranked.1 trees o l.0 w.0 s ds ss e w.1 in
            let y = every_in (λ (z : Slot × Tree). Holds face.boxes Marked z.1 (given_by face.boxes z.0)) (edges ss l.0)
            (d.0, u) b.1 l.2 in
            let q = tree_spot face.boxes Marked a.rules a.states ranked.1 trees p us.0 (given_by face.boxes d.0) s2 ds2
            ss2
            e2 y in
            elim q.0 [ inl once ↦ n once | inr v ↦ no_marker face.boxes d.0 v ]),
      )

  once_or : Every (IsOnceBelow face a.rules) a.rules ⊎ Wrong
  once_or = each_or (IsOnceBelow face a.rules) a.rules (λ o i. at_rule o i o.symbol refl)
    where
      at_child : (o : Rule) → IsIn o a.rules → (s : ℕ) (ds : List Datum) (ss : List Slot) → o.symbol ≡ Cell s ds ss
          → (d : Slot × ℕ) → IsIn d (edges ss o.children) → (p : Rule) → IsIn p a.rules → p.state ≡ d.1
          → (y : Symbol) → p.symbol ≡ y → OnceBy face (given_by face.boxes d.0) y ⊎ Wrong
      at_child o i s ds ss e d j p m x Null z = inl tt
      at_child o i s ds ss e d j p m x Uninit z = inl tt
      at_child o i s ds ss e d j p m x Dangling z = inl tt
      at_child o i s ds ss e d j p m x (Ref n) z = inl tt
      at_child o i s ds ss e d j p m x (Cell s2 ds2 ss2) z =
          elim (rearranged_or (fields_of face.shapes.structs s2)
          (flat_map (covers face.boxes) ss2 ++ given_by face.boxes d.0)) [
            | inl h ↦ inl h
            | inr n ↦ inr (bad o i s ds ss e d j p m x s2 ds2 ss2 z n)
          ]

      at_rule : (o : Rule) → IsIn o a.rules → (y : Symbol) → o.symbol ≡ y
          → OnceBelow face a.rules o.symbol o.children ⊎ Wrong
      at_rule o i Null e = inl (subst (λ (y : Symbol). OnceBelow face a.rules y o.children) (sym e) tt)
      at_rule o i Uninit e = inl (subst (λ (y : Symbol). OnceBelow face a.rules y o.children) (sym e) tt)
      at_rule o i Dangling e = inl (subst (λ (y : Symbol). OnceBelow face a.rules y o.children) (sym e) tt)
      at_rule o i (Ref n) e = inl (subst (λ (y : Symbol). OnceBelow face a.rules y o.children) (sym e) tt)
      at_rule o i (Cell s ds ss) e =
          elim (each_or {B = Wrong} (EdgeOnce face a.rules) (edges ss o.children) (λ d j. each_or
          (StateOnce face (given_by face.boxes d.0) d.1) a.rules (λ p m. elim (cases_eq p.state d.1) [
            | inr n ↦ inl (λ x. absurd (n x))
            | inl x ↦ elim (at_child o i s ds ss e d j p m x p.symbol refl) [ inl h ↦ inl (λ y. h) | inr b ↦ inr b ]
          ]))) [
            | inl h ↦ inl (subst (λ (y : Symbol). OnceBelow face a.rules y o.children) (sym e) h)
            | inr b ↦ inr b
          ]

  pub below_decides : (decided : Bool) → (IsTrue decided ↔ Every (IsOnceBelow face a.rules) a.rules)
      → ForAll autos (IsOnceRoot face r) decided
  below_decides true h = once_true (h.0 refl)
  below_decides false h = elim once_or [ inl k ↦ absurd (true≢false (sym (h.1 k))) | inr b ↦ b ]
