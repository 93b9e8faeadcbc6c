-- What the slots of a root refer to, for each choice of trees: those that are taken, and those that are not.
use Rattle.std.proofs.Common.{◌≡◌, ◌↔◌, ◌<◌, inl, inr, ℕ, zero, suc, List, [], ◌∷◌, ◌++◌, refl, sym, ap, subst, ◌∙◌}
use Rattle.std.proofs.Common.{append-nil, append_assoc, arith, length, Some, slice_get}
use Rattle.std.proofs.lemmas.Option.{none-some}
use Rattle.fore_base.specs.Lists.{IsIn, Every}
use Rattle.fore_base.proofs.ListLemmas.{every_in, in_every}
use Rattle.ta_core.specs.Auto.{Automaton}
use Rattle.ta_core.specs.Single.{HasOneTop}
use Rattle.ta_core.specs.declared.symbol.Slot.{Slot}
use Rattle.ta_core.specs.declared.tree.Tree.{Tree}
use Rattle.fa_back.proofs.Dressable.{some_choice}
use Rattle.fa_back.proofs.RootMarks.{in_once, once_in}
use Rattle.fa_core.specs.Filled.{Choice, IsSound, IsTopped}
use Rattle.fa_core.specs.Folding.{Ports, is_one_of, left, left_refs, place_refs, places_at, port_refs}
use Rattle.fa_core.specs.Folding.{taken, taken_at, top_places}
use Rattle.fa_core.specs.References.{AllBelow, tree_refs}
use Rattle.fa_core.specs.Ways.{once}
use Rattle.fa_core.specs.declared.faces.Face.{Face}
use Rattle.fa_core.specs.declared.forest.Forest.{Forest}
use Rattle.fa_core.proofs.Counts.{below_both}
use Rattle.fa_merge.proofs.LoneFound.{choice_at}
use Rattle.fa_merge.proofs.Named.{refers_below}
use Rattle.fa_sound.specs.Components.{component_at}
use Rattle.fa_sound.proofs.ComponentLemmas.{component_got, item_component}
use Rattle.fa_part.specs.declared.ports.Port.{Port}
use Rattle.fa_part.specs.Ports.{IsPortOf, ports_of}
use Rattle.fa_part.specs.inner.Found.{ArePortRefs}
use Rattle.fa_part.specs.inner.Referring.{AreLeftRefs, AreRootRefs, AreTakenRefs}
use Rattle.fa_part.specs.inner.Thin.{Thin}
use Rattle.fa_part.proofs.PortLists.{taken_port}
use Rattle.fa_part.proofs.Thinned.{thin_both}
use Rattle.fa_part.proofs.TopRefs.{cell_refs, left_all, places_got, some_refs, topped_at}
use Rattle.fa_part.proofs.Walks.{in_thin, thin_in}

got_below : {X : Type 0} (xs : List X) (r : ℕ) (x : X) → slice_get xs r ≡ Some x → r < length xs
got_below [] r x e = absurd (none-some x e)
got_below (y ∷ xs) zero x e = omega arith
got_below (y ∷ xs) (suc r) x e = let l = got_below xs r x e in omega (arith, l)

module _ (autos : List Automaton) where
  -- a port's root is there
  pub port_there : (p : Port) → IsPortOf autos p → p.root < length autos
  port_there p h = got_below autos p.root h.auto h.there

  -- and one rule stands at its top
  pub port_top : (p : Port) → IsPortOf autos p → HasOneTop (component_at autos p.root)
  port_top p h = subst HasOneTop (item_component autos p.root h.auto h.there) h.one

  module _ (ps : List Port) (ports : Every (IsPortOf autos) ps) where
    -- one rule stands at the top of a root of which fields are taken
    pub taken_top : (r f : ℕ) → IsIn f (taken_at (ports_of ps) r) → HasOneTop (component_at autos r)
    taken_top r f i =
        let k = taken_port ps r f i in
        subst (λ (z : ℕ). HasOneTop (component_at autos z)) k.2
        (port_top k.0 (every_in (IsPortOf autos) ps k.0 ports k.1))

    pub some_taken_top : (r : ℕ) (fs : List ℕ) → fs ≡ taken_at (ports_of ps) r → (fs ≡ [] → ⊥)
        → HasOneTop (component_at autos r)
    some_taken_top r [] e n = absurd (n refl)
    some_taken_top r (f ∷ fs) e n = taken_top r f (subst (λ (l : List ℕ). IsIn f l) e (inl refl))

  -- what the taken fields refer to, a port more
  pub refs_more : (ps : Ports) (r : ℕ) (fs : List ℕ) (from refs : List ℕ) → r < length autos
      → ArePortRefs autos ps from → AreTakenRefs (slice_get autos r) fs refs
      → ArePortRefs autos (ps ++ (r, fs) ∷ []) (from ++ refs)
  refs_more ps r fs from refs l h k ts c =
      let t = choice_at autos ts r c l in
      let here : Thin [] (place_refs (taken fs (places_at ts r))) refs =
      subst (λ (x : List (Slot × List Tree)). Thin [] (place_refs (taken fs x)) refs)
      (sym (places_got ts r t.0 t.1)) (k (component_at autos r) t.0 (component_got autos r l) t.2) in
      subst (λ (x : List ℕ). Thin [] x (from ++ refs)) (sym (last ts ps r fs)) (thin_both (h ts c) here)
    where
      last : (ts : List Tree) (ps : Ports) (r : ℕ) (fs : List ℕ) → port_refs ts (ps ++ (r, fs) ∷ [])
          ≡ port_refs ts ps ++ place_refs (taken fs (places_at ts r))
      last ts [] r fs = append-nil _
      last ts (p ∷ ps) r fs =
          ap (λ (x : List ℕ). place_refs (taken p.1 (places_at ts p.0)) ++ x) (last ts ps r fs)
          ∙ sym (append_assoc (place_refs (taken p.1 (places_at ts p.0))) (port_refs ts ps) _)

module _ (face : Face) (F : Forest) (sound : IsSound face F) where
  cell_at : (ts : List Tree) → Choice F.autos ts → (r : ℕ) (t : Tree) → slice_get ts r ≡ Some t → (s : ℕ) × IsTopped s t
  cell_at ts c r t e = let k = sound.well_formed.filled.trees ts c in topped_at ts k.tops r t k.are e

  -- a slot at the top of a root refers to a root that is there
  slot_below : (ts : List Tree) → Choice F.autos ts → (r k : ℕ) (t : Tree) → slice_get ts r ≡ Some t
      → IsIn k (place_refs (top_places t)) → k < length F.autos
  slot_below ts c r k t e i =
      let s = cell_at ts c r t e in
      refers_below face F sound.well_formed.filled ts c r k t e
      (subst (λ (x : List ℕ). IsIn k x) (sym (cell_refs s.0 t s.1)) i)

  -- so do the taken fields
  pub port_refs_below : (ps : List Port) → Every (IsPortOf F.autos) ps → (ts : List Tree)
      → Choice F.autos ts → AllBelow (length F.autos) (port_refs ts (ports_of ps))
  port_refs_below [] h ts c = tt
  port_refs_below (p ∷ ps) h ts c =
      let l = port_there F.autos p h.0 in
      let t = choice_at F.autos ts p.root c l in
      below_both (length F.autos) _ _
      (in_every (λ k. k < length F.autos) (place_refs (taken p.fields (places_at ts p.root)))
      (λ k i. slot_below ts c p.root k t.0 t.1
      (subst (λ (x : List (Slot × List Tree)). IsIn k (place_refs x))
      (places_got ts p.root t.0 t.1) (some_refs (λ q. is_one_of p.fields q.0) (places_at ts p.root) k i))))
      (port_refs_below ps h.1 ts c)

  pub from_below : (ps : List Port) → Every (IsPortOf F.autos) ps → (from : List ℕ)
      → ArePortRefs F.autos (ports_of ps) from → AllBelow (length F.autos) from
  from_below ps h from refs =
      let c = some_choice F.autos sound.full in
      in_every (λ k. k < length F.autos) from
      (λ k i. every_in (λ k. k < length F.autos) (port_refs c.0 (ports_of ps)) k (port_refs_below ps h c.0 c.1)
      (thin_in (refs c.0 c.1) k i))

  -- The slots that are not taken.

  module _ (ps : Ports) (r : ℕ) (l : r < length F.autos) (refs : List ℕ) where
    abbrev pub AreOuter : Type 0
    AreOuter = (ts : List Tree) → Choice F.autos ts → (k : ℕ) → IsIn k refs ↔ IsIn k (left_refs ts ps r)

    -- where nothing is taken, they are all
    pub outer_all : taken_at ps r ≡ [] → AreRootRefs (component_at F.autos r) refs → AreOuter
    outer_all none h ts c k =
        let t = choice_at F.autos ts r c l in
        let s = cell_at ts c r t.0 t.1 in
        let same : left_refs ts ps r ≡ tree_refs t.0 =
        ap (λ (fs : List ℕ). place_refs (left fs (places_at ts r))) none
        ∙ ap place_refs (left_all (places_at ts r) ∙ places_got ts r t.0 t.1)
        ∙ sym (cell_refs s.0 t.0 s.1) in
        let own : refs ≡ once (tree_refs t.0) = h t.0 t.2 in (
          (λ i. subst (λ (x : List ℕ). IsIn k x) (sym same)
              (once_in k (tree_refs t.0) (subst (λ (x : List ℕ). IsIn k x) own i))),
          (λ i. subst (λ (x : List ℕ). IsIn k x) (sym own)
              (in_once k (tree_refs t.0) (subst (λ (x : List ℕ). IsIn k x) same i))),
        )

    pub outer_left : (fs : List ℕ) → fs ≡ taken_at ps r → AreLeftRefs (slice_get F.autos r) fs refs → AreOuter
    outer_left fs e h ts c k =
        let t = choice_at F.autos ts r c l in
        let thin = h (component_at F.autos r) t.0 (component_got F.autos r l) t.2 in
        let same : place_refs (left fs (top_places t.0)) ≡ left_refs ts ps r =
        ap (λ (x : List ℕ). place_refs (left x (top_places t.0))) e
        ∙ ap (λ (x : List (Slot × List Tree)). place_refs (left (taken_at ps r) x)) (sym (places_got ts r t.0 t.1)) in (
          (λ i. subst (λ (x : List ℕ). IsIn k x) same (thin_in thin k i)),
          (λ i. elim (in_thin thin k (subst (λ (x : List ℕ). IsIn k x) (sym same) i)) [
            | inl n ↦ absurd n
            | inr j ↦ j
          ]),
        )
