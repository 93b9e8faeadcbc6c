-- A forest whose components are reduced is sound and covers the first one both ways, and it is canonical where that is.
use Rattle.std.proofs.Common.{◌≡◌, inl, ℕ, ◌<◌, List, [], ◌∷◌, refl, sym, ap, subst, ◌∙◌}
use Rattle.fore_base.specs.Lists.{IsIn, Every, Paired}
use Rattle.fore_base.proofs.ListLemmas.{every_in, in_every, in_from_place, paired_weaker}
use Rattle.ta_core.specs.Auto.{Automaton, IsRanked, IsRankedRule}
use Rattle.ta_core.specs.Language.{RunOf, run, RunEach, run_none, run_more, InLanguage, HasTree, PassesBy, at_top}
use Rattle.ta_core.specs.Language.{below, OnePasses, this_one, later_one, IsTrim, IsWithin}
use Rattle.ta_core.specs.Simulations.{AutoReduced}
use Rattle.ta_core.specs.Single.{HasOneTop, HasSameTop}
use Rattle.ta_core.specs.States.{KeepsStates}
use Rattle.ta_core.specs.declared.auto.Rule.{Rule}
use Rattle.ta_core.specs.declared.symbol.Symbol.{Symbol}
use Rattle.ta_core.specs.declared.tree.Tree.{Tree, out-Tree, out-roll-Tree}
use Rattle.ta_core.proofs.Runs.{run_tree, tree_of}
use Rattle.fa_core.specs.Boxless.{IsPlain, HasNoBoxes}
use Rattle.fa_core.specs.Canonical.{IsCanonical}
use Rattle.fa_core.specs.Covering.{Covers, Reduced}
use Rattle.fa_core.specs.Filled.{Choice, SymbolFits, RulesFit, HasSignatures, HasSome, IsSound}
use Rattle.fa_core.specs.declared.faces.BoxFace.{BoxFace}
use Rattle.fa_core.specs.declared.faces.Face.{Face}
use Rattle.fa_core.specs.declared.forest.Forest.{Forest}
use Rattle.fa_order.specs.inner.Reduced.{IsReduction}
use Rattle.fa_order.proofs.Outlined.{smaller_canonical}
use Rattle.fa_order.proofs.Shows.{one_rule}

-- What the rules of a reduced component keep.

run_below : (n : ℕ) (rules : List Rule) → Every (IsRankedRule n) rules → (q : ℕ) (t : Tree) → RunOf rules q t → q < n
run_below n rules h q t (run r i e s k) = subst (λ (z : ℕ). z < n) e (every_in (IsRankedRule n) rules r h i).0

module _ (rules : List Rule) where
  mutual
    -- a state that a run passes has a tree
    passes_tree : {q p : ℕ} {t : Tree} → PassesBy rules q p t → HasTree rules q
    passes_tree {t = t} (at_top e r) = (t, subst (λ (z : ℕ). RunOf rules z t) e r)
    passes_tree (below r i e s o) = one_passes o

    one_passes : {q : ℕ} {ps : List ℕ} {ts : List Tree} → OnePasses rules q ps ts → HasTree rules q
    one_passes (this_one p rs) = passes_tree p
    one_passes (later_one r o) = one_passes o

module _ (a b : Automaton) (ranked : IsRanked b) (trim : IsTrim b) (keeps : KeepsStates a b) where
  state_has_tree : (q : ℕ) → q < b.states → HasTree b.rules q
  state_has_tree q l = passes_tree b.rules (trim q l).3

  trees : (qs : List ℕ) → Every (λ q. q < b.states) qs → (ts : List Tree) × RunEach b.rules qs ts
  trees [] h = ([], run_none)
  trees (q ∷ qs) h = let t = state_has_tree q h.0 in let k = trees qs h.1 in (t.0 ∷ k.0, run_more t.1 k.1)

  -- each symbol is one of the first component's
  symbol_before : (r : Rule) → IsIn r b.rules → (o : Rule) × IsIn o a.rules × (o.symbol ≡ r.symbol)
  symbol_before r i =
      let h : IsRankedRule b.states r = every_in (IsRankedRule b.states) b.rules r ranked.1 i in
      let k = trees r.children h.1 in
      let t = tree_of r.symbol k.0 in
      let q = keeps r.state h.0 in
      by_run q.0 ((q.2 t).0 (run_tree b.rules r k.0 i k.1))
      (ap (λ (x : _). x.symbol) (out-roll-Tree (record { symbol = r.symbol; children = k.0 })))
    where
      by_run : (q : ℕ) {t : Tree} → RunOf a.rules q t → (out-Tree t).symbol ≡ r.symbol → (o : Rule) × IsIn o a.rules
          × (o.symbol ≡ r.symbol)
      by_run q (run o j e s k) w = (o, j, s ∙ w)

  pub kept_symbols : (P : Symbol → Type 0) → Every (λ (r : Rule). P r.symbol) a.rules
      → Every (λ (r : Rule). P r.symbol) b.rules
  kept_symbols P h = in_every (λ (r : Rule). P r.symbol) b.rules
      (λ r i. let o = symbol_before r i in subst P o.2 (every_in (λ (r : Rule). P r.symbol) a.rules o.0 h o.1))

  pub kept_signatures : (bs : List BoxFace) → ((t : Tree) → InLanguage b t → InLanguage a t) → HasSignatures bs a
      → HasSignatures bs b
  kept_signatures bs within h = record {
    states =
        λ q t u x y.
        (let k = keeps q (run_below b.states b.rules ranked.1 q t x) in h.states k.0 t u ((k.2 t).0 x) ((k.2 u).0 y));
    component = λ t u x y. h.component t u (within t x) (within u y);
  }

-- One top.

pub same_top : (a : Automaton) → HasOneTop a → HasSameTop a
same_top a h = record {
  root = h.root;
  listed = subst (λ (z : List ℕ). IsIn h.root z) (sym h.alone) (inl refl);
  alone = subst (λ (z : List ℕ). Every (λ q. q ≡ h.root) z) (sym h.alone) (refl, tt);
  rule = h.rule;
  there = in_from_place a.rules h.place h.rule h.there;
  top = h.top;
  only = one_rule a h;
}

-- All components.

abbrev pub AreReductions : List Automaton → List Automaton → Type 0
AreReductions autos made = Paired IsReduction autos made

choice_before : (autos made : List Automaton) → AreReductions autos made → (ts : List Tree) → Choice made ts
    → Choice autos ts
choice_before [] [] h [] c = tt
choice_before [] [] h (t ∷ ts) c = absurd c
choice_before [] (b ∷ made) h ts c = absurd h
choice_before (a ∷ autos) [] h ts c = absurd h
choice_before (a ∷ autos) (b ∷ made) h [] c = absurd c
choice_before (a ∷ autos) (b ∷ made) h (t ∷ ts) c = ((h.0.language t).1 c.0, choice_before autos made h.1 ts c.1)

-- what holds of each component of the first list, and is kept
each_kept : (P : Automaton → Type 0) → ((a b : Automaton) → IsRanked b → IsReduction a b → P a → P b)
    → (autos made : List Automaton) → AreReductions autos made → Every IsRanked made → Every P autos → Every P made
each_kept P f [] [] h r p = tt
each_kept P f [] (b ∷ made) h r p = absurd h
each_kept P f (a ∷ autos) [] h r p = absurd h
each_kept P f (a ∷ autos) (b ∷ made) h r p = (f a b r.0 h.0 p.0, each_kept P f autos made h.1 r.1 p.1)

turned : (autos made : List Automaton) → AreReductions autos made → Paired IsWithin made autos
turned [] [] h = tt
turned [] (b ∷ made) h = absurd h
turned (a ∷ autos) [] h = absurd h
turned (a ∷ autos) (b ∷ made) h = ((λ t i. (h.0.language t).1 i), turned autos made h.1)

all_reduced : (autos made : List Automaton) → AreReductions autos made → Every AutoReduced made
all_reduced [] [] h = tt
all_reduced [] (b ∷ made) h = absurd h
all_reduced (a ∷ autos) [] h = absurd h
all_reduced (a ∷ autos) (b ∷ made) h = (h.0.reduced, all_reduced autos made h.1)

module _ (face : Face) (F : Forest) (made : List Automaton) (h : AreReductions F.autos made) where
  abbrev pub G : Forest
  G = record { autos = made; vars = F.vars; data_vars = F.data_vars }

  pub covers_first : Covers G F
  covers_first =
      record {
        vars = refl;
        data_vars = refl;
        within = paired_weaker IsReduction IsWithin F.autos made (λ a b r t i. (r.language t).0 i) h;
      }

  pub first_covers : Covers F G
  first_covers = record { vars = refl; data_vars = refl; within = turned F.autos made h }

  pub is_reduced : Reduced G
  is_reduced = all_reduced F.autos made h

  module _ (ranked : Every IsRanked made) where
    pub plain_made : Every HasNoBoxes F.autos → Every HasNoBoxes made
    plain_made = each_kept HasNoBoxes (λ a b r k p. kept_symbols a b r k.reduced.trim k.states IsPlain p) F.autos made h
        ranked

    pub sound_made : IsSound face F → IsSound face G
    sound_made s = record {
      well_formed = record {
        filled = record {
          data_vars = s.well_formed.filled.data_vars;
          rules = each_kept (RulesFit face)
              (λ a b r k p. kept_symbols a b r k.reduced.trim k.states (SymbolFits face) p) F.autos made h ranked
              s.well_formed.filled.rules;
          trees =
              λ ts c.
              (let f = s.well_formed.filled.trees ts (choice_before F.autos made h ts c) in
              record { tops = f.tops; are = f.are; vars = f.vars; cells = f.cells });
        };
        signatures = each_kept (HasSignatures face.boxes)
            (λ a b r k p. kept_signatures a b r k.reduced.trim k.states face.boxes (λ t i. (k.language t).1 i) p)
            F.autos made h ranked s.well_formed.signatures;
      };
      full = each_kept HasSome (λ a b r k p. (p.0, (k.language p.0).0 p.1)) F.autos made h ranked s.full;
    }

    pub canonical_made : IsSound face F → IsCanonical face F → IsCanonical face G
    canonical_made s can = smaller_canonical face F G can (sound_made s).well_formed
        (tops_kept F.autos made h s.full can.tops) refl (turned F.autos made h)
      where
        tops_kept : (autos made : List Automaton) → AreReductions autos made → Every HasSome autos
            → Every HasOneTop autos → Every HasOneTop made
        tops_kept [] [] h s t = tt
        tops_kept [] (b ∷ made) h s t = absurd h
        tops_kept (a ∷ autos) [] h s t = absurd h
        tops_kept (a ∷ autos) (b ∷ made) h s t =
            (h.0.top s.0.0 s.0.1 (same_top a t.0), tops_kept autos made h.1 s.1 t.1)
