-- Ways back by the signatures of the components are those of their trees.
use Rattle.std.proofs.Common.{◌≡◌, ◌⊎◌, inl, inr, ℕ, List, flat_map}
use Rattle.std.proofs.Common.{refl, sym, ap, subst, ◌∙◌, Some, slice_get}
use Rattle.std.proofs.lemmas.Option.{same_Some}
use Rattle.fore_base.specs.Lists.{IsIn, Paired}
use Rattle.fore_base.proofs.ListLemmas.{in_map}
use Rattle.ta_core.specs.declared.tree.Tree.{Tree}
use Rattle.fa_back.specs.Reached.{IsSignedBy}
use Rattle.fa_back.proofs.Pairs.{paired_at, paired_back}
use Rattle.fa_back.proofs.RootMarks.{in_once, in_to_root, to_root_in, back_any, any_of_back, mark_in, in_mark}
use Rattle.fa_back.proofs.RootMarks.{way_led, led_way, reach_in_mark, mark_in_reach, reach_refers, flat_in}
use Rattle.fa_core.specs.Canonical.{LeadsBack, RefersTo, provides, refs_at}
use Rattle.fa_core.specs.References.{tree_refs}
use Rattle.fa_core.specs.Ways.{Way, ways, to_root, given, mark, signature}
use Rattle.fa_core.specs.declared.faces.BoxFace.{BoxFace}
use Rattle.fa_core.specs.declared.signature.RefMark.{RefMark}
use Rattle.fa_core.specs.declared.signature.Signature.{Signature}
use Rattle.fa_core.proofs.Permuted.{in_rearranged}
use Rattle.fa_core.proofs.Rearranging.{back}
use Rattle.fa_core.proofs.Sorting.{ordered}
use Rattle.fa_order.specs.inner.Backs.{LeadsBy, GivesBy, SignLeads}
use Rattle.fa_order.proofs.RefsAt.{refs_got}

module _ (bs : List BoxFace) where
  mark_root : (t : Tree) (k i : ℕ) (m : RefMark) → m ≡ mark bs (ways t) k → m.root ≡ i → k ≡ i
  mark_root t k i m e r = sym (ap (λ (x : RefMark). x.root) e) ∙ r

-- a way back into one tree, by the marks of its signature
module _ (bs : List BoxFace) (ts : List Tree) (j : ℕ) (t : Tree) (at : slice_get ts j ≡ Some t) where
  pub leads_tree : (i r : ℕ) → LeadsBack bs ts i j r → SignLeads (signature bs t) i j r
  leads_tree i r (u, e, (w, h, q, z)) =
      let same : u ≡ t = same_Some u t (sym e ∙ at) in
      let h : IsIn w (ways t) = subst (λ (x : Tree). IsIn w (ways x)) same h in
      let refers : RefersTo t i = subst (λ (k : ℕ). RefersTo t k) q (in_map (λ (v : Way). v.root) w (ways t) h) in (
        mark bs (ways t) i,
        mark_in bs t i refers,
        refl,
        elim z [
          | inl l ↦ inl (l.0, back_any bs (to_root i (ways t)) w (in_to_root i (ways t) w h q) l.1)
          | inr l ↦ inr (reach_in_mark bs t i r (way_led bs t i r w h q l))
        ],
      )

  pub tree_leads : (i r : ℕ) → SignLeads (signature bs t) i j r → LeadsBack bs ts i j r
  tree_leads i r (m, h, q, z) =
      let k = in_mark bs t m h in
      let y : k.0 ≡ i = mark_root bs t k.0 i m k.2 q in
      elim z [
        | inl l ↦
            (let w = any_of_back bs (to_root k.0 (ways t)) (sym (ap (λ (x : RefMark). x.back) k.2) ∙ l.1) in
            let v = to_root_in k.0 (ways t) w.0 w.1 in (t, at, (w.0, v.0, v.1 ∙ y, inl (l.0, w.2))))
        | inr l ↦
            (let w = led_way bs t k.0 r (mark_in_reach bs t k.0 r (subst (λ (x : RefMark). IsIn r x.reach) k.2 l)) in
            (t, at, (w.0, w.1, w.2 ∙ y, inr w.3)))
      ]

module _ (bs : List BoxFace) (ts : List Tree) (ss : List Signature) (signed : Paired (IsSignedBy bs) ts ss) where
  pub leads_by : (i j r : ℕ) → LeadsBack bs ts i j r → LeadsBy ss i j r
  leads_by i j r l =
      let s = paired_at (IsSignedBy bs) ts ss j l.0 signed l.1 in
      let m = leads_tree bs ts j l.0 l.1 i r l in
      (m.0, (s.0, s.1, subst (λ (ms : List RefMark). IsIn m.0 ms) s.2 m.1), m.2, m.3)

  pub by_leads : (i j r : ℕ) → LeadsBy ss i j r → LeadsBack bs ts i j r
  by_leads i j r (m, (s, e, h), q, z) =
      let t = paired_back (IsSignedBy bs) ts ss j s signed e in
      tree_leads bs ts j t.0 t.1 i r (m, subst (λ (ms : List RefMark). IsIn m ms) (sym t.2) h, q, z)

  pub gives_by : (i j f : ℕ) → provides bs ts i j f → GivesBy ss i j f
  gives_by i j f (t, e, h) =
      let s = paired_at (IsSignedBy bs) ts ss j t signed e in
      let w = flat_in (λ (x : Way). given bs x.steps) (to_root i (ways t)) f h in
      let v = to_root_in i (ways t) w.0 w.1 in
      let refers : RefersTo t i = subst (λ (k : ℕ). RefersTo t k) v.1 (in_map (λ (x : Way). x.root) w.0 (ways t) v.0)
      in (
        mark bs (ways t) i,
        (s.0, s.1, subst (λ (ms : List RefMark). IsIn (mark bs (ways t) i) ms) s.2 (mark_in bs t i refers)),
        refl,
        in_rearranged f (ordered (flat_map (λ (x : Way). given bs x.steps) (to_root i (ways t)))) h,
      )

  pub by_gives : (i j f : ℕ) → GivesBy ss i j f → provides bs ts i j f
  by_gives i j f (m, (s, e, h), q, z) =
      let t = paired_back (IsSignedBy bs) ts ss j s signed e in
      let k = in_mark bs t.0 m (subst (λ (ms : List RefMark). IsIn m ms) (sym t.2) h) in
      let y : k.0 ≡ i = mark_root bs t.0 k.0 i m k.2 q in (
        t.0,
        t.1,
        subst (λ (n : ℕ). IsIn f (flat_map (λ (x : Way). given bs x.steps) (to_root n (ways t.0)))) y
            (in_rearranged f
            (back (ordered (flat_map (λ (x : Way). given bs x.steps) (to_root k.0 (ways t.0)))))
            (subst (λ (x : RefMark). IsIn f x.provided) k.2 z)),
      )

  -- a way back leads to the tree's own root, or to one to which the tree refers
  pub led_within : (i j r : ℕ) → LeadsBy ss i j r → (r ≡ j) ⊎ IsIn r (refs_at ts j)
  led_within i j r (m, (s, e, h), q, z) =
      let t = paired_back (IsSignedBy bs) ts ss j s signed e in
      let k = in_mark bs t.0 m (subst (λ (ms : List RefMark). IsIn m ms) (sym t.2) h) in
      elim z [
        | inl l ↦ inl l.0
        | inr l ↦ inr (subst (λ (z : List ℕ). IsIn r z) (sym (refs_got ts j t.0 t.1))
            (in_once r (tree_refs t.0)
            (reach_refers bs t.0 k.0 r (subst (λ (x : RefMark). IsIn r x.reach) k.2 l))))
      ]
