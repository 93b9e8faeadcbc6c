-- The runs over pairs are those of the rules, each with what is seen of its tree.
use Rattle.std.proofs.Common.{◌≡◌, inl, inr, ℕ, Bool, true, false, ◌&&◌, List, [], ◌∷◌, map, Option, Some, None}
use Rattle.std.proofs.Common.{slice_get, refl, sym, ap, ap₂, subst, ◌∙◌}
use Rattle.fore_base.specs.Lists.{IsIn, Every, Paired}
use Rattle.fore_base.proofs.ListLemmas.{in_left, in_right, in_every}
use Rattle.ta_core.specs.declared.auto.Rule.{Rule}
use Rattle.ta_core.specs.declared.symbol.Slot.{Slot}
use Rattle.ta_core.specs.declared.symbol.Slot.TheVariants.{Field, Link, Hook}
use Rattle.ta_core.specs.declared.symbol.Symbol.{Symbol}
use Rattle.ta_core.specs.declared.symbol.Symbol.TheVariants.{Null, Uninit, Dangling, Ref, Cell}
use Rattle.ta_core.specs.declared.tree.Tree.{Tree, out-Tree}
use Rattle.ta_core.specs.Language.{RunOf, run, RunEach, run_none, run_more}
use Rattle.fa_core.specs.declared.faces.BoxFace.{BoxFace}
use Rattle.fa_core.specs.declared.signature.RefMark.{RefMark}
use Rattle.fa_core.specs.declared.signature.Below.{Below}
use Rattle.fa_core.specs.Boxless.{IsField, IsPlain}
use Rattle.fa_core.specs.Ways.{has, signature}
use Rattle.fa_core.specs.Cells.{edges, is_leaf, below_of, marks_by}
use Rattle.fa_core.proofs.CellMarks.{tree_signature}
use Rattle.fa_sound.proofs.Mixed.{leaf_signature}
use Rattle.fa_signatures.specs.CutPieces.{seen}
use Rattle.fa_signatures.specs.inner.CutPairs.{Pair, seen_of, below_pair, IsPairOf, seen_over, ArePairRules}
use Rattle.fa_signatures.specs.inner.Telling.{told_ends, told_below, told_states}
use Rattle.fa_signatures.proofs.PairRules.{in_has}
use Rattle.fa_signatures.proofs.SeenMarks.{SeenEach, none_seen, more_seen, IsSeenAt, IsTold, marks_seen}

abbrev state_of : ℕ → Option Pair → ℕ
state_of q None = q
state_of q (Some x) = x.0

-- The states whose leaves are told

module _ (bs : List BoxFace) where
  told_there : (rs : List Rule) (r : Rule) (q : ℕ) → IsIn r rs → IsIn q (told_below bs r.symbol r.children)
      → IsIn q (told_states bs rs)
  told_there [] r q i j = absurd i
  told_there (x ∷ rs) r q (inl e) j =
      in_left q (told_below bs x.symbol x.children) (told_states bs rs)
      (subst (λ (o : Rule). IsIn q (told_below bs o.symbol o.children)) e j)
  told_there (x ∷ rs) r q (inr i) j =
      in_right q (told_below bs x.symbol x.children) (told_states bs rs) (told_there rs r q i j)

  -- those of each rule are among them
  pub all_told : (rs : List Rule) (r : Rule) → IsIn r rs
      → Every (IsTold bs (told_states bs rs)) (told_below bs r.symbol r.children)
  all_told rs r i = in_every (IsTold bs (told_states bs rs)) (told_below bs r.symbol r.children)
      (λ q j. in_has q (told_states bs rs) (told_there rs r q i j))

  no_ends : (ss : List Slot) (qs : List ℕ) → Every IsField ss → told_ends bs (edges ss qs) ≡ []
  no_ends [] qs h = refl
  no_ends (Field f ∷ ss) [] h = refl
  no_ends (Field f ∷ ss) (q ∷ qs) h = no_ends ss qs h.1
  no_ends (Link b ∷ ss) qs h = absurd h.0
  no_ends (Hook b ∷ ss) qs h = absurd h.0

  none_below : (y : Symbol) (qs : List ℕ) → IsPlain y → told_below bs y qs ≡ []
  none_below Null qs p = refl
  none_below Uninit qs p = refl
  none_below Dangling qs p = refl
  none_below (Ref r) qs p = refl
  none_below (Cell s ds ss) qs p = no_ends ss qs p

  -- without box edges there are none
  pub none_told : (rs : List Rule) → Every (λ (r : Rule). IsPlain r.symbol) rs → told_states bs rs ≡ []
  none_told [] h = refl
  none_told (r ∷ rs) h = rw (none_below r.symbol r.children h.0) (none_told rs h.1)

-- Runs

module _ (bs : List BoxFace) (told : List ℕ) where
  seen_at : (q : ℕ) (t : Tree) (e : Below) → e ≡ seen bs (has q told) t → IsSeenAt told q e (below_of bs t)
  seen_at q t e i = here (has q told) refl (is_leaf (out-Tree t).symbol) refl
    where
      here : (b : Bool) → has q told ≡ b → (l : Bool) → is_leaf (out-Tree t).symbol ≡ l
          → IsSeenAt told q e (below_of bs t)
      here true z l y = inl (i ∙ ap (λ (c : Bool). seen bs c t) z)
      here false z true y = inr (z, ap (λ (b : Below). b.marks) i, leaf_signature bs t y)
      here false z false y = inl (i ∙ ap (λ (c : Bool). seen bs c t) z
          ∙ ap (λ (l : Bool). record { leaf = l; marks = signature bs t }) (sym y))

  module _ (pairs : List Pair) (rules over : List Rule)
      (covered : (r : Rule) → IsIn r rules → Every (IsTold bs told) (told_below bs r.symbol r.children))
      (h : ArePairRules bs told pairs rules over) where
    seen_tree : (r : Rule) (t : Tree) (ks : List ℕ) → IsIn r rules → r.symbol ≡ (out-Tree t).symbol
        → SeenEach told r.children (map (below_pair pairs) ks) (map (below_of bs) (out-Tree t).children)
        → seen_over bs told pairs r ks ≡ seen bs (has r.state told) t
    seen_tree r t ks i s k =
        ap₂ (λ (l : Bool) (ms : List RefMark). record { leaf = has r.state told && l; marks = ms })
        (ap (λ (y : Symbol). is_leaf y) s)
        (marks_seen bs told r.symbol r.children k (covered r i)
        ∙ ap (λ (y : Symbol). marks_by bs y (map (below_of bs) (out-Tree t).children)) s
        ∙ sym (tree_signature bs t))

    mutual
      -- a tree of a pair is one of its state, and this is seen of it
      pub pair_run : {k : ℕ} {t : Tree} → RunOf over k t → (q : ℕ) (x : Below) → slice_get pairs k ≡ Some (q, x)
          → RunOf rules q t × (x ≡ seen bs (has q told) t)
      pair_run {k} {t} (run o i e s ks) q x g =
          let f = h.from o i in
          let c = pair_each ks f.0.children f.2.1 in
          let w : Some (f.0.state, seen_over bs told pairs f.0 o.children) ≡ Some (q, x) = sym f.2.2
          ∙ ap (λ (n : ℕ). slice_get pairs n) e ∙ g in
          let state : f.0.state ≡ q = ap (state_of q) w in (
            run f.0 f.1 state (sym f.2.0 ∙ s) c.0,
            sym (ap seen_of w) ∙ seen_tree f.0 t o.children f.1 (sym f.2.0 ∙ s) c.1
                ∙ ap (λ (n : ℕ). seen bs (has n told) t) state,
          )

      pub pair_each : {js : List ℕ} {ts : List Tree} → RunEach over js ts → (qs : List ℕ)
          → Paired (IsPairOf pairs) js qs → RunEach rules qs ts
          × SeenEach told qs (map (below_pair pairs) js) (map (below_of bs) ts)
      pair_each run_none [] p = (run_none, none_seen)
      pair_each run_none (q ∷ qs) p = absurd p
      pair_each (run_more a b) [] p = absurd p
      pair_each (run_more {q = j} {t = t} a b) (q ∷ qs) p =
          let x = pair_run a q p.0.0 p.0.1 in
          let y = pair_each b qs p.1 in (
            run_more x.0 y.0,
            more_seen q _ _ (seen_at q t (below_pair pairs j) (ap seen_of p.0.1 ∙ x.1)) y.1,
          )

    mutual
      -- a tree of a state is one of its pair with what is seen of the tree
      pub run_pair : {q : ℕ} {t : Tree} → RunOf rules q t → (k : ℕ)
          × (slice_get pairs k ≡ Some (q, seen bs (has q told) t)) × RunOf over k t
      run_pair {q} {t} (run r i e s ks) =
          let c = each_pair ks in
          let o = h.all r c.0 i c.1 in
          let m : seen_over bs told pairs r o.0.children ≡ seen bs (has q told) t =
          ap (λ (js : List ℕ). seen_over bs told pairs r js) o.2 ∙ seen_tree r t c.0 i s c.3
          ∙ ap (λ (n : ℕ). seen bs (has n told) t) e in (
            o.0.state,
            o.3.2 ∙ ap₂ (λ (n : ℕ) (x : Below). Some (n, x)) e m,
            run o.0 o.1 refl (o.3.0 ∙ s)
                (subst (λ (js : List ℕ). RunEach over js (out-Tree t).children) (sym o.2) c.2),
          )

      pub each_pair : {qs : List ℕ} {ts : List Tree} → RunEach rules qs ts → (js : List ℕ)
          × Paired (IsPairOf pairs) js qs × RunEach over js ts
          × SeenEach told qs (map (below_pair pairs) js) (map (below_of bs) ts)
      each_pair run_none = ([], tt, run_none, none_seen)
      each_pair (run_more {q = q} {t = t} a b) =
          let x = run_pair a in
          let y = each_pair b in (
            x.0 ∷ y.0,
            ((seen bs (has q told) t, x.1), y.1),
            run_more x.2 y.2,
            more_seen q _ _ (seen_at q t (below_pair pairs x.0) (ap seen_of x.1)) y.3,
          )
