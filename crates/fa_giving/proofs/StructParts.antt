-- Components by the structs of the cells at the tops of their trees.
use Rattle.std.proofs.Common.{◌≡◌, ◌↔◌, inl, inr, ℕ, Bool, true, false, true≢false, List, [], ◌∷◌, ◌++◌, set}
use Rattle.std.proofs.Common.{Some, slice_get, refl, sym, ap, subst, ◌∙◌, IsTrue, zero, suc, ◌<◌, length, arith}
use Rattle.std.proofs.lemmas.Option.{slice_get_within, same_Some}
use Rattle.std.proofs.lemmas.Bool.{eqb-true, eq-eqb}
use Rattle.fore_base.specs.Lists.{IsIn, Every, Paired}
use Rattle.fore_base.specs.declared.store.Datum.{Datum}
use Rattle.ta_core.specs.Auto.{Automaton, IsRanked}
use Rattle.ta_core.specs.Language.{InLanguage, run}
use Rattle.ta_core.specs.declared.auto.Rule.{Rule}
use Rattle.ta_core.specs.declared.symbol.Slot.{Slot}
use Rattle.ta_core.specs.declared.symbol.Symbol.{Symbol}
use Rattle.ta_core.specs.declared.symbol.Symbol.TheVariants.{Null, Uninit, Dangling, Ref, Cell}
use Rattle.ta_core.specs.declared.tree.Tree.{Tree, Tree-F, out-Tree, out-roll-Tree}
use Rattle.fore_base.proofs.ListLemmas.{every_in, in_left, in_right, in_append, paired_long}
use Rattle.ta_core.proofs.Runs.{tree_of, run_tree}
use Rattle.fa_core.specs.declared.faces.Face.{Face}
use Rattle.fa_core.specs.Filled.{HasSome, IsTopped, spots}
use Rattle.fa_filling.specs.declared.parts.Part.{Part}
use Rattle.fa_filling.specs.Parted.{is_of, AreTopRules, IsPartFor}
use Rattle.fa_filling.specs.Ruled.{IsShapedRule}
use Rattle.fa_filling.proofs.Partition.{of_cell, in_rules_of, from_rules_of}
use Rattle.fa_filling.proofs.SpotRules.{leaf_holds}
use Rattle.fa_giving.specs.inner.Shaped.{
  IsShapedSpot,
  IsShapedRoot,
  AreTopStructs,
  AreCellStructs,
  AddsStruct,
  ForStruct,
}
use Rattle.fa_giving.specs.inner.Totals.{ForAll, Adds}
use Rattle.fa_giving.proofs.RootFields.{choice_at}
use Rattle.fa_giving.proofs.ShapeRules.{shaped_true, shaped_false}

-- an item that is put back
pub put_back : {X : Type 0} (xs : List X) (i : ℕ) (x y : X) → slice_get xs i ≡ Some y → set (set xs i x) i y ≡ xs
put_back [] i x y e = refl
put_back (z ∷ xs) zero x y e = ap (λ w. w ∷ xs) (sym (same_Some z y e))
put_back (z ∷ xs) (suc i) x y e = ap (λ ws. z ∷ ws) (put_back xs i x y e)

pub has_list : (autos : List Automaton) (topss : List (List ℕ)) (k : ℕ) (a : Automaton)
    → Paired AreTopStructs autos topss
    → slice_get autos k ≡ Some a → k < length topss
has_list autos topss k a p e =
    let long = paired_long AreTopStructs autos topss p in
    let within = slice_get_within autos k a e in
    omega (arith, long, within)

pub adds_struct : (y : Symbol) (n : ℕ) (ds : List Datum) (ss : List Slot) (old new : List ℕ) → y ≡ Cell n ds ss
    → Adds n old new → AddsStruct y old new
adds_struct y n ds ss old new e h = record {
  there = λ s g. subst (λ (m : ℕ). IsIn m new) (eqb-true n s (sym (ap (is_of s) e) ∙ g)) h.there;
  kept = h.kept;
  only = λ m i. elim (h.only m i) [ inl j ↦ inl j | inr d ↦ inr (ap (is_of m) e ∙ eq-eqb n m (sym d)) ];
}

pub structs_more : (done : List Rule) (o : Rule) (old new : List ℕ) → AreCellStructs done old
    → AddsStruct o.symbol old new → AreCellStructs (done ++ o ∷ []) new
structs_more done o old new h g = record {
  each = λ x s i d. elim (in_append x done (o ∷ []) i) [
    | inl j ↦ g.kept s (h.each x s j d)
    | inr (inl e) ↦ g.there s (ap (λ (y : Rule). is_of s y.symbol) (sym e) ∙ d)
    | inr (inr n) ↦ absurd n
  ];
  some = λ s i. elim (g.only s i) [
    | inl j ↦ (let k = h.some s j in (k.0, in_left k.0 done (o ∷ []) k.1, k.2))
    | inr d ↦ (o, in_right o done (o ∷ []) (inl refl), d)
  ];
}

of_self : (s : ℕ) (y : Symbol) (ds : List Datum) (ss : List Slot) → y ≡ Cell s ds ss → is_of s y ≡ true
of_self s y ds ss e = ap (is_of s) e ∙ eq-eqb s s refl

pub top_structs : (a : Automaton) (rules : List Rule) (structs : List ℕ) → AreTopRules a a.rules rules
    → AreCellStructs rules structs → AreTopStructs a structs
top_structs a rules structs h g = record {
  each = each;
  some = λ s i. (let o = g.some s i in let k = h.only o.0 o.1 in let d = of_cell s o.0.symbol o.2 in
      let x : Tree-F Tree = record { symbol = o.0.symbol; children = k.1.1.0 } in (
        tree_of o.0.symbol k.1.1.0,
        (o.0.state, k.1.0, run_tree a.rules o.0 k.1.1.0 k.0 k.1.1.1),
        (d.0, d.1, ap (λ (z : Tree-F Tree). z.symbol) (out-roll-Tree x) ∙ d.2),
      ));
}
  where
    each : (t : Tree) (s : ℕ) → InLanguage a t → IsTopped s t → IsIn s structs
    each t s (q, j, run o i m y k) top =
        g.each o s (h.all o i (subst (λ (x : ℕ). IsIn x a.roots) (sym m) j, ((out-Tree t).children, k)))
        (of_self s o.symbol top.0 top.1 (y ∙ top.2))

module _ (face : Face) (autos : List Automaton) (topss : List (List ℕ)) (r : ℕ) (a : Automaton)
    (full : Every HasSome autos) (tops : Paired AreTopStructs autos topss) (own : slice_get autos r ≡ Some a)
    (rules : List Rule) (h : AreTopRules a a.rules rules) where
  module _ (s : ℕ) (p : Part) (w : IsPartFor a rules s p) (ranked : IsRanked p.auto) where
    into : (t : Tree) → InLanguage p.auto t → InLanguage a t × IsTopped s t
    into t l =
        let b = (w.trees t).0 l in
        let f = from_rules_of s rules b.0 b.1 in
        let k = h.only b.0 f.0 in
        let d = of_cell s b.0.symbol f.1 in
        ((b.0.state, k.1.0, run b.0 k.0 refl b.2.0 b.2.1), (d.0, d.1, sym b.2.0 ∙ d.2))

    onto : (t : Tree) → InLanguage a t → IsTopped s t → InLanguage p.auto t
    onto t (q, j, run o i m y k) top =
        let l = h.all o i (subst (λ (x : ℕ). IsIn x a.roots) (sym m) j, ((out-Tree t).children, k)) in
        (w.trees t).1 (o, in_rules_of s rules o l (of_self s o.symbol top.0 top.1 (y ∙ top.2)), (y, k))

    pub part_decides : (decided : Bool)
        → (IsTrue decided ↔ Every (IsShapedRule face (set topss r (s ∷ [])) p.auto.rules) p.auto.rules)
        → ForStruct autos r s (IsShapedRoot face r) decided
    part_decides true g = λ ts c f.
        shaped_true face autos topss r s a p.auto full tops own ranked w.trim into (g.0 refl) ts c
        (λ t e. onto t (choice_at autos r a ts t own e c) (f t e))
    part_decides false g = shaped_false face autos topss r s a p.auto full tops own ranked w.trim into
        (λ k. true≢false (sym (g.1 k)))

  pub parts_shaped : (structs : List ℕ) → AreCellStructs rules structs
      → Every (λ (s : ℕ). ForStruct autos r s (IsShapedRoot face r) true) structs
      → ForAll autos (IsShapedRoot face r) true
  parts_shaped structs g k ts c t e = there (choice_at autos r a ts t own e c)
    where
      there : InLanguage a t → Every (IsShapedSpot face ts) (spots face.boxes t [])
      there (q, j, run o i m y l) = here (out-Tree t).symbol refl
        where
          here : (z : Symbol) → (out-Tree t).symbol ≡ z → Every (IsShapedSpot face ts) (spots face.boxes t [])
          here Null d = leaf_holds face.boxes (IsShapedSpot face ts) t [] Null d refl
          here Uninit d = leaf_holds face.boxes (IsShapedSpot face ts) t [] Uninit d refl
          here Dangling d = leaf_holds face.boxes (IsShapedSpot face ts) t [] Dangling d refl
          here (Ref n) d = leaf_holds face.boxes (IsShapedSpot face ts) t [] (Ref n) d refl
          here (Cell s ds ss) d =
              let n = g.each o s (h.all o i (subst (λ (x : ℕ). IsIn x a.roots) (sym m) j, ((out-Tree t).children, l)))
              (of_self s o.symbol ds ss (y ∙ d)) in
              every_in (λ (s : ℕ). ForStruct autos r s (IsShapedRoot face r) true) structs s k n ts c
              (λ u f. (ds, ss, ap (λ (v : Tree). (out-Tree v).symbol) (same_Some u t (sym f ∙ e)) ∙ d)) t e
