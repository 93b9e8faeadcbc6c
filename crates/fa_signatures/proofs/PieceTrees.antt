-- The automaton over pairs, with the root states of one signature, accepts the trees that have it.
use Rattle.std.proofs.Common.{◌≡◌, ◌↔◌, ℕ, ◌<◌, List, Some, slice_get, refl, sym, ap, subst, ◌∙◌}
use Rattle.fore_base.specs.Lists.{IsIn, Every, IsDistinct}
use Rattle.fore_base.proofs.ListLemmas.{every_in, in_every, in_map, in_from_place}
use Rattle.ta_core.specs.Auto.{Automaton, IsRanked, IsRankedRule}
use Rattle.ta_core.specs.Language.{RunOf, run, InLanguage, IsBarren, HasSameLanguage, IsTrim}
use Rattle.ta_core.specs.Renumbered.{StandsFor, renumbered}
use Rattle.ta_core.specs.declared.auto.Rule.{Rule}
use Rattle.ta_core.specs.declared.tree.Tree.{Tree}
use Rattle.ta_core.proofs.Runs.{passed_tree}
use Rattle.ta_core.proofs.Shifting.{in_sub}
use Rattle.fa_core.specs.declared.faces.BoxFace.{BoxFace}
use Rattle.fa_core.specs.declared.signature.RefMark.{RefMark}
use Rattle.fa_core.specs.declared.signature.Below.{Below}
use Rattle.fa_core.specs.Filled.{HasSome, HasSignatures}
use Rattle.fa_core.specs.Ways.{has, signature}
use Rattle.fa_signatures.specs.CutPieces.{seen, KeepsSymbols, CutsStates, IsPieceBy}
use Rattle.fa_signatures.specs.inner.CutPairs.{Pair, seen_over, ArePairRules, IsRootPair, AreRootMarks, IsOver}
use Rattle.fa_signatures.specs.inner.Telling.{told_states}
use Rattle.fa_signatures.proofs.PairRules.{one_place}
use Rattle.fa_signatures.proofs.PairRuns.{all_told, none_told, pair_run, run_pair}

-- the pair of a state over pairs is one of a state of the rules
pub record PairAt (pairs : List Pair) (rules : List Rule) (k : ℕ) : Type 0 where
  pub rule : Rule
  pub shown : Below
  pub there : IsIn rule rules
  pub at : slice_get pairs k ≡ Some (rule.state, shown)

-- the state of a rule that a run ends with
pub run_state : (n : ℕ) (rules : List Rule) {q : ℕ} {t : Tree} → Every (IsRankedRule n) rules → RunOf rules q t → q < n
run_state n rules h (run r i e s ks) = subst (λ (k : ℕ). k < n) e (every_in (IsRankedRule n) rules r h i).0

module _ (bs : List BoxFace) (a : Automaton) (pairs : List Pair) (over : List Rule)
    (h : ArePairRules bs (told_states bs a.rules) pairs a.rules over) (apart : IsDistinct pairs) where
  -- what is seen of a tree of the state
  abbrev seen_from : ℕ → Tree → Below
  seen_from q t = seen bs (has q (told_states bs a.rules)) t

  of_pair : {k : ℕ} {t : Tree} → RunOf over k t → (q : ℕ) (x : Below) → slice_get pairs k ≡ Some (q, x)
      → RunOf a.rules q t × (x ≡ seen_from q t)
  of_pair r q x e = pair_run bs (told_states bs a.rules) pairs a.rules over (all_told bs a.rules) h r q x e

  to_pair : {q : ℕ} {t : Tree} → RunOf a.rules q t → (k : ℕ) × (slice_get pairs k ≡ Some (q, seen_from q t))
      × RunOf over k t
  to_pair r = run_pair bs (told_states bs a.rules) pairs a.rules over (all_told bs a.rules) h r

  pair_at : {k : ℕ} {t : Tree} → RunOf over k t → PairAt pairs a.rules k
  pair_at {k} (run o i e s ks) =
      let f = h.from o i in
      record {
        rule = f.0;
        shown = seen_over bs (told_states bs a.rules) pairs f.0 o.children;
        there = f.1;
        at = ap (λ (n : ℕ). slice_get pairs n) (sym e) ∙ f.2.2;
      }

  -- trees with a run to the pair are those with a run to its state of which the same is seen
  pair_trees : (k q : ℕ) (x : Below) → slice_get pairs k ≡ Some (q, x) → (t : Tree) → RunOf over k t
      ↔ (RunOf a.rules q t × (seen_from q t ≡ x))
  pair_trees k q x e t = (
    λ r. let w = of_pair r q x e in (w.0, sym w.1),
    λ r.
        let w = to_pair r.0 in
        let same : w.0 ≡ k = one_place pairs w.0 k (q, x) apart (w.1 ∙ ap (λ (y : Below). Some (q, y)) r.1) e in
        subst (λ (n : ℕ). RunOf over n t) same w.2,
  )

  -- its trees have one signature
  pair_signs : (k q : ℕ) (x : Below) → slice_get pairs k ≡ Some (q, x) → (t : Tree) → RunOf over k t
      → x.marks ≡ signature bs t
  pair_signs k q x e t r = ap (λ (y : Below). y.marks) (of_pair r q x e).1

  -- each tree of the automaton has a pair with a root state
  root_pair : (t : Tree) → InLanguage a t → (k : ℕ) × IsRootPair pairs a.roots (signature bs t) k
  root_pair t l = let w = to_pair l.2 in (w.0, (l.0, seen_from l.0 t, l.1, w.1, refl))

  -- so its signature is one of those of the pairs with root states
  pub all_found : (all : List (List RefMark)) → AreRootMarks pairs a.roots all → (t : Tree) → InLanguage a t
      → IsIn (signature bs t) all
  all_found all m t l = let w = root_pair t l in
      (m (signature bs t)).1
      (w.1.0, w.1.1, w.1.2, in_from_place pairs w.0 (w.1.0, w.1.1) w.1.3, w.1.4)

  module _ (marks : List RefMark) (b : Automaton) (o : IsOver pairs over a.roots marks b) where
    over_run : {k : ℕ} {t : Tree} → RunOf b.rules k t → RunOf over k t
    over_run {k} {t} r = subst (λ (rs : List Rule). RunOf rs k t) o.rules r

    run_over : {k : ℕ} {t : Tree} → RunOf over k t → RunOf b.rules k t
    run_over {k} {t} r = subst (λ (rs : List Rule). RunOf rs k t) (sym o.rules) r

    over_trees : (t : Tree) → InLanguage b t ↔ (InLanguage a t × (signature bs t ≡ marks))
    over_trees t = (
      λ l.
          let p = (o.tops l.0).0 l.1 in
          let w = of_pair (over_run l.2) p.0 p.1 p.3 in
          ((p.0, p.2, w.0), sym (ap (λ (y : Below). y.marks) w.1) ∙ p.4),
      λ l.
          let w = to_pair l.0.2 in
          (w.0, (o.tops w.0).1 (l.0.0, seen_from l.0.0 t, l.0.1, w.1, l.1), run_over w.2),
    )

    module _ (c : Automaton) (same : HasSameLanguage b c) (trim : IsTrim c) (st : StandsFor b c) (ranked : IsRanked c)
        (low : IsRanked a) where
      piece_trees : (t : Tree) → InLanguage c t ↔ (InLanguage a t × (signature bs t ≡ marks))
      piece_trees t = (λ l. (over_trees t).0 ((same t).1 l), λ l. (same t).0 ((over_trees t).1 l))

      -- where it accepts nothing, no tree has the signature
      pub none_there : IsBarren c → (t : Tree) → InLanguage a t → signature bs t ≡ marks → ⊥
      none_there e t l s = e t ((piece_trees t).1 (l, s))

      over_of : {p : ℕ} {t : Tree} → RunOf c.rules p t → RunOf over (st.of p) t
      over_of {p} {t} r = over_run ((st.runs p t (run_state c.states c.rules ranked.1 r)).0 r)

      piece_states : CutsStates bs a c
      piece_states p l =
          let top = trim p l in
          let u = passed_tree top.3 in
          let x = pair_at (over_of u.1) in (
            x.rule.state,
            has x.rule.state (told_states bs a.rules),
            x.shown,
            (every_in (IsRankedRule a.states) a.rules x.rule low.1 x.there).0,
            λ plain. ap (λ (qs : List ℕ). has x.rule.state qs) (none_told bs a.rules plain),
            λ t. (
              λ r. (pair_trees (st.of p) x.rule.state x.shown x.at t).0 (over_of r),
              λ r. (st.runs p t l).1 (run_over ((pair_trees (st.of p) x.rule.state x.shown x.at t).1 r)),
            ),
          )

      piece_symbols : KeepsSymbols a c
      piece_symbols = in_every (λ (r : Rule). (x : Rule) × IsIn x a.rules × (x.symbol ≡ r.symbol)) c.rules (λ r i.
          let j = in_sub (renumbered st.of r) st.rules (in_map (renumbered st.of) r c.rules i) in
          let f = h.from (renumbered st.of r) (subst (λ (rs : List Rule). IsIn (renumbered st.of r) rs) o.rules j) in
          (f.0, f.1, sym f.2.0))

      piece_uniform : HasSignatures bs c
      piece_uniform = record {
        states = λ q t u r s.
            let x = pair_at (over_of r) in
            sym (pair_signs (st.of q) x.rule.state x.shown x.at t (over_of r))
            ∙ pair_signs (st.of q) x.rule.state x.shown x.at u (over_of s);
        component = λ t u r s. ((piece_trees t).0 r).1 ∙ sym ((piece_trees u).0 s).1;
      }

      pub is_piece : HasSome c → IsPieceBy bs a marks c
      is_piece s =
          record {
            trees = piece_trees;
            some = s;
            uniform = piece_uniform;
            states = piece_states;
            symbols = piece_symbols;
          }
