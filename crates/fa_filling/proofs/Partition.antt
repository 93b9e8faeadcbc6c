-- The parts of an automaton have its trees.
use Rattle.std.proofs.Common.{◌≡◌, inl, inr, ℕ, Bool, true, false, true≢false, cond, List, [], ◌∷◌, ◌++◌, ◌<◌, ◌+◌}
use Rattle.std.proofs.Common.{length, take, get_or, refl, sym, ap, subst, ◌∙◌}
use Rattle.std.proofs.lemmas.Bool.{eqb-true}
use Rattle.fore_base.specs.declared.store.Datum.{Datum}
use Rattle.fore_base.specs.Lists.{IsIn, Every, IsDistinct, Paired}
use Rattle.fore_base.specs.Marks.{IsMarked, MarksOf, all_marked}
use Rattle.fore_base.proofs.ListLemmas.{in_left, in_right, in_append, in_at, take_item, distinct_push, partner_of}
use Rattle.fore_base.proofs.ListLemmas.{partner_for, every_weaker}
use Rattle.fore_base.proofs.MarkLemmas.{all_from, all_to}
use Rattle.ta_core.specs.Auto.{Automaton}
use Rattle.ta_core.specs.Language.{InLanguage, HasTree, run, RunEach, run_none, run_more}
use Rattle.ta_core.specs.declared.auto.Rule.{Rule}
use Rattle.ta_core.specs.declared.symbol.Slot.{Slot}
use Rattle.ta_core.specs.declared.symbol.Symbol.{Symbol}
use Rattle.ta_core.specs.declared.symbol.Symbol.TheVariants.{Null, Uninit, Dangling, Ref, Cell}
use Rattle.ta_core.specs.declared.tree.Tree.{Tree, Tree-F, out-Tree, out-roll-Tree}
use Rattle.ta_core.proofs.Runs.{tree_of, run_tree, trees_of}
use Rattle.fa_core.specs.Cells.{is_leaf}
use Rattle.fa_filling.specs.declared.parts.Part.{Part}
use Rattle.fa_filling.specs.Parted.{is_of, rules_of, RunBy, IsPartOf, IsRootRule, AreTopRules, AreStructsOf}
use Rattle.fa_filling.specs.Parted.{HasLeafRule, IsAdded, IsPartFor, HasLeaf, AreParts}

module _ (a : Automaton) (marks : List Bool) (m : MarksOf a.states (HasTree a.rules) marks) where
  each_marked : {qs : List ℕ} {ts : List Tree} → RunEach a.rules qs ts → Every (IsMarked marks) qs
  each_marked run_none = tt
  each_marked (run_more {q = q} {t = t} r rs) = (m.each q (t, r), each_marked rs)

  pub top_from : (r : Rule) → IsIn r.state a.roots × (all_marked marks r.children ≡ true) → IsRootRule a r
  top_from r h = (
    h.0,
    trees_of a.rules r.children
        (every_weaker (IsMarked marks) (HasTree a.rules) r.children m.only (all_from marks r.children h.1)),
  )

  pub top_to : (r : Rule) → IsRootRule a r → IsIn r.state a.roots × (all_marked marks r.children ≡ true)
  top_to r h = (h.0, all_to marks r.children (each_marked h.1.1))

-- a rule that has a cell of a struct
pub of_cell : (s : ℕ) (y : Symbol) → is_of s y ≡ true → (ds : List Datum) × (ss : List Slot) × (y ≡ Cell s ds ss)
of_cell s Null h = absurd (true≢false (sym h))
of_cell s Uninit h = absurd (true≢false (sym h))
of_cell s Dangling h = absurd (true≢false (sym h))
of_cell s (Ref r) h = absurd (true≢false (sym h))
of_cell s (Cell t ds ss) h = (ds, ss, ap (λ (n : ℕ). Cell n ds ss) (eqb-true t s h))

pub in_rules_of : (s : ℕ) (rs : List Rule) (r : Rule) → IsIn r rs → is_of s r.symbol ≡ true → IsIn r (rules_of s rs)
in_rules_of s [] r i h = absurd i
in_rules_of s (x ∷ rs) r (inl e) h =
    let k : is_of s x.symbol ≡ true = ap (λ (y : Rule). is_of s y.symbol) (sym e) ∙ h in rw k (inl e)
in_rules_of s (x ∷ rs) r (inr i) h = more (is_of s x.symbol) (in_rules_of s rs r i h)
  where
    more : (b : Bool) → IsIn r (rules_of s rs) → IsIn r (cond b (x ∷ rules_of s rs) (rules_of s rs))
    more true k = inr k
    more false k = k

pub from_rules_of : (s : ℕ) (rs : List Rule) (r : Rule) → IsIn r (rules_of s rs) → IsIn r rs × (is_of s r.symbol ≡ true)
from_rules_of s [] r i = absurd i
from_rules_of s (x ∷ rs) r i = fewer (is_of s x.symbol) refl i (λ j. from_rules_of s rs r j)
  where
    fewer : (b : Bool) → is_of s x.symbol ≡ b → IsIn r (cond b (x ∷ rules_of s rs) (rules_of s rs))
        → (IsIn r (rules_of s rs) → IsIn r rs × (is_of s r.symbol ≡ true)) → IsIn r (x ∷ rs) × (is_of s r.symbol ≡ true)
    fewer true e (inl d) h = (inl d, ap (λ (y : Rule). is_of s y.symbol) d ∙ e)
    fewer true e (inr j) h = (inr (h j).0, (h j).1)
    fewer false e j h = (inr (h j).0, (h j).1)

pub to_chosen : (s : ℕ) (rs all : List Rule) → ((r : Rule) → IsIn r rs → IsIn r all) → (r : Rule)
    → IsIn r (rules_of s rs) → IsIn r all
to_chosen s rs all h r i = h r (from_rules_of s rs r i).0

-- the rule at a place of the list
pub item_of : (items all : List Rule) (i : ℕ) (x : Rule) → items ≡ all → i < length items → x ≡ get_or items i x
    → (take (i + 1) all ≡ take i all ++ x ∷ []) × IsIn x all
item_of items all i x e l g =
    subst (λ (ys : List Rule). (take (i + 1) ys ≡ take i ys ++ x ∷ []) × IsIn x ys) e
    (take_item items i x l g, in_at items i x l g)

module _ (a : Automaton) where
  leaf_top : (r : Rule) → IsIn r a.rules → IsRootRule a r → is_leaf r.symbol ≡ true → HasLeaf a
  leaf_top r i t l =
      let x : Tree-F Tree = record { symbol = r.symbol; children = t.1.0 } in
      (tree_of r.symbol t.1.0, (r.state, t.0, run_tree a.rules r t.1.0 i t.1.1), rw (out-roll-Tree x) l)

  -- the rules that are found so far
  pub top_skip : (done tops : List Rule) (r : Rule) → AreTopRules a done tops → (IsRootRule a r → ⊥)
      → AreTopRules a (done ++ r ∷ []) tops
  top_skip done tops r h f = record {
    only = h.only;
    all = λ x i t. elim (in_append x done (r ∷ []) i) [
      | inl j ↦ h.all x j t
      | inr (inl e) ↦ absurd (f (subst (IsRootRule a) e t))
      | inr (inr n) ↦ absurd n
    ];
  }

  pub top_add : (done tops : List Rule) (r : Rule) → AreTopRules a done tops → IsIn r a.rules → IsRootRule a r
      → AreTopRules a (done ++ r ∷ []) (tops ++ r ∷ [])
  top_add done tops r h i t = record {
    only = λ x j. elim (in_append x tops (r ∷ []) j) [
      | inl k ↦ h.only x k
      | inr (inl e) ↦ (subst (λ (y : Rule). IsIn y a.rules) (sym e) i, subst (IsRootRule a) (sym e) t)
      | inr (inr n) ↦ absurd n
    ];
    all = λ x j u. elim (in_append x done (r ∷ []) j) [
      | inl k ↦ in_left x tops (r ∷ []) (h.all x k u)
      | inr (inl e) ↦ in_right x tops (r ∷ []) (inl e)
      | inr (inr n) ↦ absurd n
    ];
  }

  module _ (tops : List Rule) (h : AreTopRules a a.rules tops) where
    pub leaf_of : HasLeafRule tops → HasLeaf a
    leaf_of (r, i, l) = let k = h.only r i in leaf_top r k.0 k.1 l

    by_rule : (t : Tree) → InLanguage a t → (r : Rule) × IsIn r tops × RunBy a.rules r t
    by_rule t (q, i, run r j e s k) =
        (r, h.all r j (subst (λ (x : ℕ). IsIn x a.roots) (sym e) i, ((out-Tree t).children, k)), (s, k))

    pub parts_of : (structs : List ℕ) (ps : List Part) → AreStructsOf tops structs
        → Paired (IsPartFor a tops) structs ps → IsPartOf a ps
    parts_of structs ps g w = record {
      each =
          λ p t i l.
          (let f = for p i in let b = (f.2.trees t).0 l in let k = h.only b.0 (from_rules_of f.0 tops b.0 b.1).0 in
          (b.0.state, k.1.0, run b.0 k.0 refl b.2.0 b.2.1));
      some =
          λ t l.
          (let r = by_rule t l in let s = g.each r.0 r.1 in
          let p = partner_for (IsPartFor a tops) structs ps s.0 w s.1 in
          (p.0, p.1, (p.2.trees t).1 (r.0, in_rules_of s.0 tops r.0 r.1 s.2, r.2)));
      top =
          λ p t i l.
          (let f = for p i in let b = (f.2.trees t).0 l in
          let d = of_cell f.0 b.0.symbol (from_rules_of f.0 tops b.0 b.1).1 in
          (d.0, d.1, sym b.2.0 ∙ d.2 ∙ ap (λ (n : ℕ). Cell n d.0 d.1) (sym f.2.top)));
      full = λ p i. (let f = for p i in
          let r = g.some f.0 f.1 in
          let k = (h.only r.0 r.1).1.1 in
          let x : Tree-F Tree = record { symbol = r.0.symbol; children = k.0 } in
          let b : RunBy a.rules r.0 (tree_of r.0.symbol k.0) = rw (out-roll-Tree x) (refl, k.1) in
          (tree_of r.0.symbol k.0, (f.2.trees (tree_of r.0.symbol k.0)).1 (r.0, in_rules_of f.0 tops r.0 r.1 r.2, b)));
      trim = λ p i. (for p i).2.trim;
    }
      where
        for : (p : Part) → IsIn p ps → (s : ℕ) × IsIn s structs × IsPartFor a tops s p
        for p i = partner_of (IsPartFor a tops) structs ps p w i

-- a number that is none of them is added
pub added : (n : ℕ) (old : List ℕ) → IsDistinct old → (IsIn n old → ⊥) → IsAdded n old (old ++ n ∷ [])
added n old d f = record {
  kept = λ m i. in_left m old (n ∷ []) i;
  there = in_right n old (n ∷ []) (inl refl);
  only = λ m i. elim (in_append m old (n ∷ []) i) [ inl j ↦ inl j | inr (inl e) ↦ inr e | inr (inr x) ↦ absurd x ];
  once = distinct_push old n d f;
}

-- the structs that are found so far
pub structs_add : (rules : List Rule) (r : Rule) (old new : List ℕ) (s : ℕ) → AreStructsOf rules old → is_of s r.symbol
    ≡ true → IsAdded s old new → AreStructsOf (rules ++ r ∷ []) new
structs_add rules r old new s h e d = record {
  each = λ x i. elim (in_append x rules (r ∷ []) i) [
    | inl j ↦ (let k = h.each x j in (k.0, d.kept k.0 k.1, k.2))
    | inr (inl f) ↦ (s, d.there, ap (λ (y : Rule). is_of s y.symbol) f ∙ e)
    | inr (inr n) ↦ absurd n
  ];
  some = λ m i. elim (d.only m i) [
    | inl j ↦ (let k = h.some m j in (k.0, in_left k.0 rules (r ∷ []) k.1, k.2))
    | inr f ↦ (r, in_right r rules (r ∷ []) (inl refl), ap (λ (n : ℕ). is_of n r.symbol) f ∙ e)
  ];
  once = d.once;
}

-- the parts of one more automaton
pub parts_push : (autos : List Automaton) (pss : List (List Part)) (a : Automaton) (ps : List Part) → AreParts autos pss
    → IsPartOf a ps → AreParts (autos ++ a ∷ []) (pss ++ ps ∷ [])
parts_push [] [] a ps h k = (k, tt)
parts_push [] (x ∷ pss) a ps h k = absurd h
parts_push (b ∷ autos) [] a ps h k = absurd h
parts_push (b ∷ autos) (x ∷ pss) a ps h k = (h.0, parts_push autos pss a ps h.1 k)
