-- Trees of one signature: the same references, as far as two, the same ways back, and the same fields that box edges
-- give.
use Rattle.std.proofs.Common.{◌≡◌, ◌⊎◌, inl, inr, ℕ, true, List, []}
use Rattle.std.proofs.Common.{◌∷◌, map, flat_map, refl, sym, ap, subst, ◌∙◌}
use Rattle.fore_base.specs.Lists.{IsIn, Paired}
use Rattle.fore_base.proofs.ListLemmas.{in_map}
use Rattle.ta_core.specs.declared.tree.Tree.{Tree}
use Rattle.fa_core.specs.Canonical.{LeadsBack, RefersTo, provides}
use Rattle.fa_core.specs.Cells.{roots_in}
use Rattle.fa_core.specs.Ways.{Way, ways, to_root, leads_back, led_to, given, roots_met, mark, signature}
use Rattle.fa_core.specs.declared.faces.BoxFace.{BoxFace}
use Rattle.fa_core.specs.declared.signature.RefMark.{RefMark}
use Rattle.fa_core.proofs.Permuted.{in_rearranged}
use Rattle.fa_core.proofs.Rearranging.{back}
use Rattle.fa_core.proofs.Sorting.{ordered}
use Rattle.fa_core.proofs.WayParts.{way_roots}
use Rattle.fa_back.proofs.Pairs.{paired_at}
use Rattle.fa_back.proofs.RootMarks.{in_once, once_in, flat_in, in_to_root, to_root_in, back_any, any_of_back}
use Rattle.fa_back.proofs.RootMarks.{mark_in, in_mark, way_led, led_way, reach_in_mark, mark_in_reach}

way_refers : (t : Tree) (i : ℕ) (w : Way) → IsIn w (to_root i (ways t)) → RefersTo t i
way_refers t i w h = let k = to_root_in i (ways t) w h in
    subst (λ (n : ℕ). RefersTo t n) k.1 (in_map (λ (v : Way). v.root) w (ways t) k.0)

-- The roots of the marks are those to which the tree refers.

mark_roots : (bs : List BoxFace) (ws : List Way) (rs : List ℕ) → roots_in (map (mark bs ws) rs) ≡ rs
mark_roots bs ws [] = refl
mark_roots bs ws (r ∷ rs) = ap (λ (z : List ℕ). r ∷ z) (mark_roots bs ws rs)

pub signature_roots : (bs : List BoxFace) (t : Tree) → roots_in (signature bs t) ≡ roots_met (ways t)
signature_roots bs t = mark_roots bs (ways t) (roots_met (ways t))

pub same_roots : (bs : List BoxFace) (t u : Tree) → signature bs t ≡ signature bs u → roots_met (ways t)
    ≡ roots_met (ways u)
same_roots bs t u e = sym (signature_roots bs t) ∙ ap roots_in e ∙ signature_roots bs u

pub met_refers : (t u : Tree) → roots_met (ways t) ≡ roots_met (ways u) → (k : ℕ) → RefersTo t k → RefersTo u k
met_refers t u e k h = once_in k (way_roots (ways u))
    (subst (λ (ks : List ℕ). IsIn k ks) e (in_once k (way_roots (ways t)) h))

module _ (bs : List BoxFace) where
  -- Trees of one signature have one mark for a root to which they refer.

  same_mark : (t u : Tree) (i : ℕ) → signature bs t ≡ signature bs u → RefersTo t i → mark bs (ways t) i
      ≡ mark bs (ways u) i
  same_mark t u i e h =
      let k = in_mark bs u (mark bs (ways t) i)
      (subst (λ (ms : List RefMark). IsIn (mark bs (ways t) i) ms) e (mark_in bs t i h)) in
      k.2 ∙ ap (mark bs (ways u)) (sym (ap (λ (m : RefMark). m.root) k.2))

  abbrev Leads : Tree → ℕ → ℕ → ℕ → Type 0
  Leads t i j r = (w : Way) × IsIn w (ways t) × (w.root ≡ i)
      × (((r ≡ j) × (leads_back bs w.steps ≡ true)) ⊎ IsIn r (led_to bs w.steps))

  same_leads : (t u : Tree) (i j r : ℕ) → signature bs t ≡ signature bs u → Leads t i j r → Leads u i j r
  same_leads t u i j r e (w, h, q, z) =
      let there : IsIn w (to_root i (ways t)) = in_to_root i (ways t) w h q in
      let m : mark bs (ways t) i ≡ mark bs (ways u) i = same_mark t u i e (way_refers t i w there) in
      elim z [
        | inl l ↦
            (let v = any_of_back bs (to_root i (ways u))
            (sym (ap (λ (x : RefMark). x.back) m) ∙ back_any bs (to_root i (ways t)) w there l.1) in
            let k = to_root_in i (ways u) v.0 v.1 in
            (v.0, k.0, k.1, inl (l.0, v.2)))
        | inr l ↦
            (let v = led_way bs u i r
            (mark_in_reach bs u i r
            (subst (λ (x : RefMark). IsIn r x.reach) m (reach_in_mark bs t i r (way_led bs t i r w h q l)))) in
            (v.0, v.1, v.2, inr v.3))
      ]

  abbrev fields : Tree → ℕ → List ℕ
  fields t i = flat_map (λ (w : Way). given bs w.steps) (to_root i (ways t))

  same_fields : (t u : Tree) (i f : ℕ) → signature bs t ≡ signature bs u → IsIn f (fields t i) → IsIn f (fields u i)
  same_fields t u i f e h =
      let w = flat_in (λ (x : Way). given bs x.steps) (to_root i (ways t)) f h in
      let m : mark bs (ways t) i ≡ mark bs (ways u) i = same_mark t u i e (way_refers t i w.0 w.1) in
      in_rearranged f (back (ordered (fields u i)))
      (subst (λ (x : RefMark). IsIn f x.provided) m (in_rearranged f (ordered (fields t i)) h))

-- Lists of trees, in pairs of one signature.

abbrev pub AreSigned : List BoxFace → List Tree → List Tree → Type 0
AreSigned bs ts us = Paired (λ t u. signature bs t ≡ signature bs u) ts us

pub signed_back : (bs : List BoxFace) (ts us : List Tree) → AreSigned bs ts us → AreSigned bs us ts
signed_back bs [] [] h = tt
signed_back bs [] (u ∷ us) h = absurd h
signed_back bs (t ∷ ts) [] h = absurd h
signed_back bs (t ∷ ts) (u ∷ us) h = (sym h.0, signed_back bs ts us h.1)

module _ (bs : List BoxFace) (ts us : List Tree) (same : AreSigned bs ts us) where
  pub leads_too : (i j r : ℕ) → LeadsBack bs ts i j r → LeadsBack bs us i j r
  leads_too i j r (t, e, l) = let u = paired_at (λ t u. signature bs t ≡ signature bs u) ts us j t same e in
      (u.0, u.1, same_leads bs t u.0 i j r u.2 l)

  pub provides_too : (i j f : ℕ) → provides bs ts i j f → provides bs us i j f
  provides_too i j f (t, e, l) = let u = paired_at (λ t u. signature bs t ≡ signature bs u) ts us j t same e in
      (u.0, u.1, same_fields bs t u.0 i f u.2 l)
