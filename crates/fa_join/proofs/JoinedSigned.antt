-- The automaton that joins two has uniform signatures, where the children that differ have one, and the trees of both
-- give as much.
use Rattle.std.proofs.Common.{◌≡◌, ◌⊎◌, inl, inr, ℕ, zero, suc, ◌<◌, ◌≤◌, ◌+◌, length, List, [], ◌∷◌, map, refl, sym}
use Rattle.std.proofs.Common.{ap, subst, ◌∙◌, Some, slice_get, slice_set, arith}
use Rattle.std.proofs.lemmas.List.{map-set}
use Rattle.fore_base.specs.Lists.{PairedBut}
use Rattle.fore_base.proofs.ListLemmas.{in_append, in_mapped, every_in}
use Rattle.ta_core.specs.Auto.{Automaton, IsRanked, IsRankedRule}
use Rattle.ta_core.specs.Joined.{shift, united}
use Rattle.ta_core.specs.Language.{RunOf, run, RunEach, run_more, InLanguage}
use Rattle.ta_core.specs.Renumbered.{renumbered}
use Rattle.ta_core.specs.Single.{HasOneTop}
use Rattle.ta_core.specs.declared.auto.Rule.{Rule}
use Rattle.ta_core.specs.declared.symbol.Symbol.{Symbol}
use Rattle.ta_core.specs.declared.symbol.Symbol.TheVariants.{Null, Uninit, Dangling, Ref, Cell}
use Rattle.ta_core.specs.declared.tree.Tree.{Tree, out-Tree, roll-Tree, out-roll-Tree}
use Rattle.ta_core.proofs.Shifting.{left_run, right_run}
use Rattle.fa_core.specs.Boxless.{IsPlain, HasNoBoxes}
use Rattle.fa_core.specs.Cells.{edges, below_of, cell_marks, marks_by}
use Rattle.fa_core.specs.Filled.{HasSignatures}
use Rattle.fa_core.specs.Ways.{signature}
use Rattle.fa_core.specs.declared.faces.BoxFace.{BoxFace}
use Rattle.fa_core.specs.declared.signature.Below.{Below}
use Rattle.fa_core.proofs.CellMarks.{tree_signature}
use Rattle.fa_merge.proofs.MergedAnywhere.{nat_cases}
use Rattle.fa_split.specs.Giving.{SymbolGives}
use Rattle.fa_split.specs.Split.{top_rule, child_state}
use Rattle.fa_split.proofs.FreshStates.{stay}
use Rattle.fa_split.proofs.RunPlaces.{at_index, each_at, set_same}
use Rattle.fa_split.proofs.TopRules.{tree_by_top, top_by_tree}
use Rattle.fa_join.specs.Joinable.{SameRuns, SameSignatures}
use Rattle.fa_join.specs.inner.Joining.{joined}
use Rattle.fa_join.proofs.GivenAlike.{GiveAlike, SameTop}
use Rattle.fa_join.proofs.JoinedAutos.{both_ranked, more, more_above, child_back, joined_symbols, joined_union}
use Rattle.fa_join.proofs.JoinedAutos.{same_back}
use Rattle.fa_join.proofs.OtherChild.{other_child}

-- With a tree of the one in the place where the children differ, the children of the other run to those of the one.
other_there : (a b : Automaton) (i x y : ℕ) (ps qs : List ℕ) (us : List Tree) (v : Tree)
    → PairedBut (SameRuns a b) i x y ps qs → RunEach b.rules qs us → RunOf a.rules x v
    → RunEach a.rules ps (slice_set us i v) × ((w : Tree) × (slice_get us i ≡ Some w) × RunOf b.rules y w)
other_there a b i x y [] qs us v h k l = absurd h
other_there a b i x y (p ∷ ps) [] us v h k l = absurd h
other_there a b zero x y (p ∷ ps) (q ∷ qs) us v h (run_more {t = t} {ts = ts} k m) l = (
  run_more (subst (λ (z : ℕ). RunOf a.rules z v) (sym h.0) l) (same_back a b ps qs ts h.2 m),
  (t, refl, subst (λ (z : ℕ). RunOf b.rules z t) h.1 k),
)
other_there a b (suc i) x y (p ∷ ps) (q ∷ qs) us v h (run_more {t = t} {ts = ts} k m) l =
    (let o = other_there a b i x y ps qs ts v h.1 m l in (run_more ((h.0 t).1 k) o.0, o.1))

module _ (a b : Automaton) (p : ℕ) (ranked_a : IsRanked a) (ranked_b : IsRanked b) (one_a : HasOneTop a)
    (one_b : HasOneTop b)
    (symbols : (top_rule a).symbol ≡ (top_rule b).symbol)
    (children : PairedBut (SameRuns a b) p (child_state a p) (child_state b p) (top_rule a).children
    (top_rule b).children)
    (place : p < length (top_rule a).children) where
  abbrev c : Automaton
  c = joined a b p

  pub joined_plain : HasNoBoxes a → HasNoBoxes b → HasNoBoxes c
  joined_plain = joined_symbols a b p ranked_a ranked_b one_a one_b symbols children IsPlain

  pub same_tops : (t u : Tree) → InLanguage a t → InLanguage b u → SameTop t u
  same_tops t u l m = sym (tree_by_top a one_a t l).0 ∙ symbols ∙ (tree_by_top b one_b u m).0

  module _ (bs : List BoxFace) (gives : SymbolGives bs (top_rule a).symbol)
      (marks : SameSignatures bs a b (child_state a p) (child_state b p)) (signed_a : HasSignatures bs a)
      (signed_b : HasSignatures bs b)
      (alike : (t u : Tree) → InLanguage a t → InLanguage b u → GiveAlike bs t u) where
    abbrev Same : Tree → Tree → Type 0
    Same t u = signature bs t ≡ signature bs u

    -- a run to an old state is one of a or of b
    old_same : (q : ℕ) → q < a.states + b.states → (t u : Tree) → RunOf c.rules q t → RunOf c.rules q u → Same t u
    old_same q l t u h k = here (stays t h) (stays u k)
      where
        stays : (t : Tree) → RunOf c.rules q t → RunOf (united a b).rules q t
        stays t w = stay (united a b) (more a b p ranked_a ranked_b one_a one_b symbols children)
            (both_ranked a b p ranked_a ranked_b one_a one_b symbols children)
            (more_above a b p ranked_a ranked_b one_a one_b symbols children) q t l w

        here : RunOf (united a b).rules q t → RunOf (united a b).rules q u → Same t u
        here (run o i s y m) w = elim (in_append o a.rules (map (renumbered (shift a.states)) b.rules) i) [
          | inl j ↦
              (let low = subst (λ (z : ℕ). z < a.states) s (every_in (IsRankedRule a.states) a.rules o ranked_a.1 j).0
              in
              signed_a.states q t u (left_run a b ranked_a low (run o i s y m)) (left_run a b ranked_a low w))
          | inr j ↦ (let x = in_mapped (renumbered (shift a.states)) o b.rules j in
              let e : q ≡ x.0.state + a.states = sym s ∙ ap (λ (z : Rule). z.state) x.2 in
              signed_b.states x.0.state t u (right_run a b ranked_a x.0.state e (run o i s y m))
              (right_run a b ranked_a x.0.state e w))
        ]

    -- the trees of both children have one signature
    child_same : (q : ℕ) → a.states + b.states + 1 ≤ q → (t u : Tree) → RunOf c.rules q t → RunOf c.rules q u → Same t u
    child_same q l t u h k = here (back t h) (back u k)
      where
        back : (t : Tree) → RunOf c.rules q t → RunOf a.rules (child_state a p) t ⊎ RunOf b.rules (child_state b p) t
        back t w = child_back a b p ranked_a ranked_b one_a one_b symbols children q t l w

        here : RunOf a.rules (child_state a p) t ⊎ RunOf b.rules (child_state b p) t → RunOf a.rules (child_state a p) u
            ⊎ RunOf b.rules (child_state b p) u → Same t u
        here (inl x) (inl y) = signed_a.states (child_state a p) t u x y
        here (inl x) (inr y) = marks t u x y
        here (inr x) (inl y) = sym (marks u t y x)
        here (inr x) (inr y) = signed_b.states (child_state b p) t u x y

    -- a tree of the one and a tree of the other: with the child of the one, the other is a tree of the one
    both_same : (t u : Tree) → InLanguage a t → InLanguage b u → Same t u
    both_same t u l m = signed_a.component t moved l moved_in
        ∙ by_symbol (top_rule a).symbol gives is_symbol symbol_u
      where
        us : List Tree
        us = (out-Tree u).children

        child_t : (v : Tree) × (slice_get (out-Tree t).children p ≡ Some v) × RunOf a.rules (child_state a p) v
        child_t = each_at a.rules (top_rule a).children (out-Tree t).children p (child_state a p)
            (tree_by_top a one_a t l).1 (at_index (top_rule a).children p place)

        v : Tree
        v = child_t.0

        there : RunEach a.rules (top_rule a).children (slice_set us p v)
            × ((w : Tree) × (slice_get us p ≡ Some w) × RunOf b.rules (child_state b p) w)
        there = other_there a b p (child_state a p) (child_state b p) (top_rule a).children (top_rule b).children us v
            children (tree_by_top b one_b u m).1 child_t.2

        w : Tree
        w = there.1.0

        moved : Tree
        moved = roll-Tree (record { symbol = (top_rule a).symbol; children = slice_set us p v })

        is_symbol : (out-Tree moved).symbol ≡ (top_rule a).symbol
        is_symbol = rw (out-roll-Tree (record { symbol = (top_rule a).symbol; children = slice_set us p v })) refl

        is_children : (out-Tree moved).children ≡ slice_set us p v
        is_children = rw (out-roll-Tree (record { symbol = (top_rule a).symbol; children = slice_set us p v })) refl

        symbol_u : (out-Tree u).symbol ≡ (top_rule a).symbol
        symbol_u = sym (symbols ∙ (tree_by_top b one_b u m).0)

        moved_in : InLanguage a moved
        moved_in = top_by_tree a one_a moved (
          sym is_symbol,
          subst (λ (ts : List Tree). RunEach a.rules (top_rule a).children ts) (sym is_children) there.0,
        )

        by_marks : (x : Tree) (y : Symbol) → (out-Tree x).symbol ≡ y
            → signature bs x ≡ marks_by bs y (map (below_of bs) (out-Tree x).children)
        by_marks x y e = tree_signature bs x
            ∙ ap (λ (z : Symbol). marks_by bs z (map (below_of bs) (out-Tree x).children)) e

        by_symbol : (y : Symbol) → SymbolGives bs y → (out-Tree moved).symbol ≡ y → (out-Tree u).symbol ≡ y
            → Same moved u
        by_symbol Null g e f = by_marks moved Null e ∙ sym (by_marks u Null f)
        by_symbol Uninit g e f = by_marks moved Uninit e ∙ sym (by_marks u Uninit f)
        by_symbol Dangling g e f = by_marks moved Dangling e ∙ sym (by_marks u Dangling f)
        by_symbol (Ref r) g e f = by_marks moved (Ref r) e ∙ sym (by_marks u (Ref r) f)
        by_symbol (Cell s ds ss) g e f =
            other_child bs ss g (map (below_of bs) us) p v w (marks v w child_t.2 there.1.2) moved u
            (by_marks moved (Cell s ds ss) e
            ∙ ap (λ (ts : List Tree). cell_marks bs (edges ss (map (below_of bs) ts))) is_children
            ∙ ap (λ (xs : List Below). cell_marks bs (edges ss xs)) (map-set (below_of bs) us p v))
            (by_marks u (Cell s ds ss) f
            ∙ ap (λ (ts : List Tree). cell_marks bs (edges ss (map (below_of bs) ts))) (sym (set_same us p w there.1.1))
            ∙ ap (λ (xs : List Below). cell_marks bs (edges ss xs)) (map-set (below_of bs) us p w))
            (alike moved u moved_in m)

    tops_same : (t u : Tree) → InLanguage c t → InLanguage c u → Same t u
    tops_same t u h k = here (from t h) (from u k)
      where
        from : (t : Tree) → InLanguage c t → InLanguage a t ⊎ InLanguage b t
        from t w = (joined_union a b p ranked_a ranked_b one_a one_b symbols children t).0 w

        here : InLanguage a t ⊎ InLanguage b t → InLanguage a u ⊎ InLanguage b u → Same t u
        here (inl x) (inl y) = signed_a.component t u x y
        here (inl x) (inr y) = both_same t u x y
        here (inr x) (inl y) = sym (both_same u t y x)
        here (inr x) (inr y) = signed_b.component t u x y

    pub joined_signed : HasSignatures bs c
    joined_signed = record { states = each; component = tops_same }
      where
        top_lang : (q : ℕ) (t : Tree) → q ≡ a.states + b.states → RunOf c.rules q t → InLanguage c t
        top_lang q t e w = (a.states + b.states, inl refl, subst (λ (z : ℕ). RunOf c.rules z t) e w)

        each : (q : ℕ) (t u : Tree) → RunOf c.rules q t → RunOf c.rules q u → Same t u
        each q t u x y = elim (nat_cases q (a.states + b.states)) [
          | inl l ↦ old_same q l t u x y
          | inr l ↦ elim (nat_cases q (a.states + b.states + 1)) [
            | inl m ↦ tops_same t u (top_lang q t (omega (arith, l, m)) x) (top_lang q u (omega (arith, l, m)) y)
            | inr m ↦ child_same q m t u x y
          ]
        ]
