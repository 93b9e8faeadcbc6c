-- The states to which a tree has a run, rule by rule and from those of its children.
use Rattle.std.proofs.Common.{◌≡◌, inl, inr, ℕ, ◌<◌, Bool, true, false, true≢false, ◌&&◌, List, [], ◌∷◌, ◌++◌, ◌+◌}
use Rattle.std.proofs.Common.{length, get_or, slice_get, Some, drop, set, replicate, refl, sym, ap, subst, ◌∙◌}
use Rattle.std.proofs.Common.{length-set}
use Rattle.std.proofs.lemmas.List.{length-replicate, drop_more}
use Rattle.std.proofs.lemmas.Option.{slice_get_within, get_or_from_slice_get}
use Rattle.std.specs.Bool.{Decides}
use Rattle.ta_core.specs.Auto.{Automaton}
use Rattle.ta_core.specs.declared.auto.Rule.{Rule}
use Rattle.ta_core.specs.declared.symbol.Symbol.{Symbol}
use Rattle.ta_core.specs.declared.tree.Tree.{Tree, out-Tree}
use Rattle.ta_core.specs.Language.{InLanguage, RunOf, run, RunEach, run_none, run_more}
use Rattle.fore_base.specs.Marks.{IsMarked, MarksOf, marked_each, some_marked}
use Rattle.fore_base.specs.Lists.{Paired}
use Rattle.ta_core.specs.Tops.{IsTopRule, Tops, AreStatesOf}
use Rattle.fore_base.proofs.ListLemmas.{in_left, in_right, in_append, drop_item}
use Rattle.std.proofs.lemmas.Bool.{and_parts}
use Rattle.fore_base.proofs.MarkLemmas.{marked_still, marked_new, marked_set, unmarked_none, some_from, some_to}

module _ (n : ℕ) (y : Symbol) (sets : List (List Bool)) where
  -- no rule marks nothing
  pub tops_none : MarksOf n (Tops [] y sets) (replicate n false)
  tops_none =
      record { long = length-replicate n false; only = λ q m. absurd (unmarked_none n q m); each = λ q t. absurd t.1 }

  -- a rule that does not fit marks nothing
  pub tops_skip : (rules : List Rule) (r : Rule) (marks : List Bool) → MarksOf n (Tops rules y sets) marks
      → (IsTopRule y sets r → ⊥) → MarksOf n (Tops (rules ++ r ∷ []) y sets) marks
  tops_skip rules r marks old misfit = record {
    long = old.long;
    only = λ q m. let t = old.only q m in (t.0, in_left t.0 rules (r ∷ []) t.1, t.2, t.3);
    each = λ q t. elim (in_append t.0 rules (r ∷ []) t.1) [
      | inl i ↦ old.each q (t.0, i, t.2, t.3)
      | inr (inl e) ↦ absurd (misfit (subst (λ (x : Rule). IsTopRule y sets x) e t.3))
      | inr (inr i) ↦ absurd i
    ];
  }

  -- one that fits marks its state
  pub tops_mark : (rules : List Rule) (r : Rule) (marks : List Bool) → MarksOf n (Tops rules y sets) marks → r.state < n
      → IsTopRule y sets r → MarksOf n (Tops (rules ++ r ∷ []) y sets) (set marks r.state true)
  tops_mark rules r marks old low fits = record {
    long = length-set marks r.state true ∙ old.long;
    only = λ q m. elim (marked_new marks r.state q m) [
      | inl e ↦ (r, in_right r rules (r ∷ []) (inl refl), sym e, fits)
      | inr o ↦ (let t = old.only q o in (t.0, in_left t.0 rules (r ∷ []) t.1, t.2, t.3))
    ];
    each = λ q t. elim (in_append t.0 rules (r ∷ []) t.1) [
      | inl i ↦ marked_still marks r.state q (old.each q (t.0, i, t.2, t.3))
      | inr (inl e) ↦ (let s : r.state ≡ q = sym (ap (λ (x : Rule). x.state) e) ∙ t.2 in
          let l : r.state < length marks = rw old.long low in
          subst (λ (p : ℕ). IsMarked (set marks r.state true) p) s (marked_set marks r.state l))
      | inr (inr i) ↦ absurd i
    ];
  }

pub and_true : (a b : Bool) → a ≡ true → (a && b) ≡ b
and_true a b h = rw h refl

-- lists of two lengths do not match
pub marked_long : (qs : List ℕ) (sets : List (List Bool)) → marked_each qs sets ≡ true → length qs ≡ length sets
marked_long [] [] h = refl
marked_long [] (s ∷ sets) h = absurd (true≢false (sym h))
marked_long (q ∷ qs) [] h = absurd (true≢false (sym h))
marked_long (q ∷ qs) (s ∷ sets) h =
    let e = marked_long qs sets (and_parts (get_or s q false) (marked_each qs sets) h).1 in rw e refl

pub marked_differ : (qs : List ℕ) (sets : List (List Bool)) → (length qs ≡ length sets → ⊥)
    → false ≡ marked_each qs sets
marked_differ qs sets d = here (marked_each qs sets) (λ h. d (marked_long qs sets h))
  where
    here : (b : Bool) → (b ≡ true → ⊥) → false ≡ b
    here true f = absurd (f refl)
    here false f = refl

-- the test at place i decides, or the tests behind it
pub marked_step : (qs : List ℕ) (sets : List (List Bool)) (i : ℕ) (s : List Bool) → i < length qs → slice_get sets i
    ≡ Some s → marked_each (drop i qs) (drop i sets)
    ≡ (get_or s (get_or qs i 0) false && marked_each (drop (i + 1) qs) (drop (i + 1) sets))
marked_step qs sets i s h e =
    let a = drop_more qs i 0 h in
    let b = drop_item sets i s (slice_get_within sets i s e) (sym (get_or_from_slice_get sets i s s e)) in
    rw (a, b) refl

module _ (n : ℕ) (rules : List Rule) where
  each_from : (qs : List ℕ) (ts : List Tree) (sets : List (List Bool)) → Paired (AreStatesOf rules n) ts sets
      → marked_each qs sets ≡ true → RunEach rules qs ts
  each_from [] [] [] p h = run_none
  each_from [] [] (s ∷ sets) p h = absurd p
  each_from [] (t ∷ ts) [] p h = absurd p
  each_from [] (t ∷ ts) (s ∷ sets) p h = absurd (true≢false (sym h))
  each_from (q ∷ qs) ts [] p h = absurd (true≢false (sym h))
  each_from (q ∷ qs) [] (s ∷ sets) p h = absurd p
  each_from (q ∷ qs) (t ∷ ts) (s ∷ sets) p h =
      run_more (p.0.only q (and_parts (get_or s q false) (marked_each qs sets) h).0)
      (each_from qs ts sets p.1 (and_parts (get_or s q false) (marked_each qs sets) h).1)

  each_to : {qs : List ℕ} {ts : List Tree} (sets : List (List Bool)) → Paired (AreStatesOf rules n) ts sets
      → RunEach rules qs ts → marked_each qs sets ≡ true
  each_to [] p run_none = refl
  each_to (s ∷ sets) p run_none = absurd p
  each_to [] p (run_more r rs) = absurd p
  each_to (s ∷ sets) p (run_more {q = q} r rs) = let m = p.0.each q r in rw m (each_to sets p.1 rs)

  -- the states of a tree, from those of its children
  pub states_top : (t : Tree) (sets : List (List Bool)) (marks : List Bool)
      → Paired (AreStatesOf rules n) (out-Tree t).children sets → MarksOf n (Tops rules (out-Tree t).symbol sets) marks
      → AreStatesOf rules n t marks
  states_top t sets marks p m = record {
    long = m.long;
    only = λ q k. let o = m.only q k in
        run o.0 o.1 o.2 o.3.0 (each_from o.0.children (out-Tree t).children sets p o.3.1);
    each = λ q r. m.each q (top q r);
  }
    where
      top : (q : ℕ) → RunOf rules q t → Tops rules (out-Tree t).symbol sets q
      top q (run r i e s k) = (r, i, e, (s, each_to sets p k))

-- a tree is accepted where a root state is one of its states
pub accepted : (a : Automaton) (t : Tree) (marks : List Bool) (b : Bool) → AreStatesOf a.rules a.states t marks
    → b ≡ some_marked marks a.roots → Decides b (InLanguage a t)
accepted a t marks b m e = (
  λ y. (let s = some_from marks a.roots (sym e ∙ y) in (s.0, s.1, m.only s.0 s.2)),
  λ l. e ∙ some_to marks a.roots l.0 l.1 (m.each l.0 l.2),
)
