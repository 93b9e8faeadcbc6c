-- Ways of a cell that has fields alone: none leads back as a whole, and a way back under it leads to what its children
-- refer to. So no way back into the tree of a port leads to the port.
use Rattle.std.proofs.Common.{◌≡◌, ◌⊎◌, inl, inr, ℕ, Bool, true, false, ◌&&◌, ◌||◌, nat_eq, if◌then◌else◌, List, [], ◌∷◌}
use Rattle.std.proofs.Common.{map, filter, flat_map, refl, sym, ap, ap₂, subst, ◌∙◌}
use Rattle.fore_base.specs.Lists.{IsIn, Every}
use Rattle.fore_base.proofs.ListLemmas.{in_append, in_mapped}
use Rattle.fore_base.specs.declared.store.Datum.{Datum}
use Rattle.ta_core.specs.declared.symbol.Slot.{Slot}
use Rattle.ta_core.specs.declared.symbol.Slot.TheVariants.{Field, Link, Hook}
use Rattle.ta_core.specs.declared.symbol.Symbol.TheVariants.{Cell}
use Rattle.ta_core.specs.declared.tree.Tree.{Tree, roll-Tree}
use Rattle.fa_core.specs.declared.faces.BoxFace.{BoxFace}
use Rattle.fa_core.specs.declared.signature.RefMark.{RefMark}
use Rattle.fa_core.specs.Ways.{Step, Way, child_ways, longer, ways_at, ways, is_back, all_back, leads_back, any_back}
use Rattle.fa_core.specs.Ways.{to_root, roots_met, mark, signature, has, led_to}
use Rattle.fa_core.proofs.WaysOf.{rolled_ways}

-- the slot is a field
abbrev pub IsFieldSlot : Slot → Type 0
IsFieldSlot (Field f) = Unit {0}
IsFieldSlot (Link b) = ⊥
IsFieldSlot (Hook b) = ⊥

-- what stands in a filtered list stands in the list
one_filtered : {X : Type 0} (b : Bool) (v w : X) (less xs : List X) → (IsIn w less → IsIn w xs)
    → IsIn w (if b then v ∷ less else less) → IsIn w (v ∷ xs)
one_filtered true v w less xs on (inl e) = inl e
one_filtered true v w less xs on (inr there) = inr (on there)
one_filtered false v w less xs on there = inr (on there)

pub filtered : {X : Type 0} (p : X → Bool) (xs : List X) (w : X) → IsIn w (filter p xs) → IsIn w xs
filtered p [] w there = absurd there
filtered p (v ∷ xs) w there = one_filtered (p v) v w (filter p xs) xs (filtered p xs w) there

module _ (bs : List BoxFace) where
  first_or_later : (f : ℕ) (w : List Way) (p : Slot × Way) (rest : List (Slot × Way))
      → (IsIn p rest → is_back bs p.0 ≡ false) → IsIn p (map (λ (q : Way). (Field f, q)) w) ⊎ IsIn p rest
      → is_back bs p.0 ≡ false
  first_or_later f w p rest later (inl here) =
      let q = in_mapped (λ (q : Way). (Field f, q)) p w here in ap (λ (x : Slot × Way). is_back bs x.0) q.2
  first_or_later f w p rest later (inr there) = later there

  -- each way of the children begins with a field
  begins_with_field : (ss : List Slot) → Every IsFieldSlot ss → (ws : List (List Way)) → (p : Slot × Way)
      → IsIn p (child_ways ss ws) → is_back bs p.0 ≡ false
  begins_with_field [] are ws p there = absurd there
  begins_with_field (Field f ∷ ss) are [] p there = absurd there
  begins_with_field (Field f ∷ ss) are (w ∷ ws) p there =
      first_or_later f w p (child_ways ss ws) (begins_with_field ss are.1 ws p)
      (in_append p (map (λ (q : Way). (Field f, q)) w) (child_ways ss ws) there)
  begins_with_field (Link b ∷ ss) are ws p there = absurd are.0
  begins_with_field (Hook b ∷ ss) are ws p there = absurd are.0

  not_back : (s : Step) (ss : List Step) → is_back bs s.slot ≡ false → leads_back bs (s ∷ ss) ≡ false
  not_back s ss is_field = ap (λ (b : Bool). b && all_back bs ss) is_field

  none_leads_back : (s : ℕ) (ds : List Datum) (ss : List Slot) → Every IsFieldSlot ss → (ws : List (List Way)) → (w : Way)
      → IsIn w (ways_at (Cell s ds ss) ws) → leads_back bs w.steps ≡ false
  none_leads_back s ds ss are ws w there =
      let rs = map (λ (p : Slot × Way). p.1.root) (child_ways ss ws) in
      let q = in_mapped (longer rs) w (child_ways ss ws) there in
      ap (λ (x : Way). leads_back bs x.steps) q.2
      ∙ not_back (record { slot = q.0.0; refers = rs }) q.0.1.steps (begins_with_field ss are ws q.0 q.1)

  none_of_all : (ws : List Way) → ((w : Way) → IsIn w ws → leads_back bs w.steps ≡ false) → any_back bs ws ≡ false
  none_of_all [] none = refl
  none_of_all (w ∷ ws) none =
      ap₂ (λ (a b : Bool). a || b) (none w (inl refl)) (none_of_all ws (λ v there. none v (inr there)))

  mark_not_back : (ws : List Way) → ((w : Way) → IsIn w ws → leads_back bs w.steps ≡ false) → (r : ℕ)
      → (mark bs ws r).back ≡ false
  mark_not_back ws none r =
      none_of_all (to_root r ws) (λ w there. none w (filtered (λ (v : Way). nat_eq r v.root) ws w there))

  -- no mark of a tree whose top is a cell with fields alone leads back
  pub ports_lead_nowhere : (s : ℕ) (ds : List Datum) (ss : List Slot) → Every IsFieldSlot ss → (ts : List Tree)
      → (m : RefMark) → IsIn m (signature bs (roll-Tree (record { symbol = Cell s ds ss; children = ts })))
      → m.back ≡ false
  ports_lead_nowhere s ds ss are ts m there =
      let t = roll-Tree (record { symbol = Cell s ds ss; children = ts }) in
      let q = in_mapped (mark bs (ways t)) m (roots_met (ways t)) there in
      ap (λ (x : RefMark). x.back) q.2
      ∙ mark_not_back (ways t)
      (subst (λ (ws : List Way). (w : Way) → IsIn w ws → leads_back bs w.steps ≡ false)
      (sym (rolled_ways (record { symbol = Cell s ds ss; children = ts })))
      (none_leads_back s ds ss are (map ways ts))) q.0

  -- a way back leads to roots that the tree refers to: where that is one root alone, to that
  pub reach_is_near : (t : Tree) (k : ℕ) → ((n : ℕ) → IsIn n (roots_met (ways t)) → n ≡ k) → (m : RefMark)
      → IsIn m (signature bs t) → (n : ℕ) → IsIn n m.reach → n ≡ k
  reach_is_near t k one m there n in_reach =
      let ws = ways t in
      let q = in_mapped (mark bs ws) m (roots_met ws) there in
      one n (filtered (λ (z : ℕ). has z (flat_map (λ (w : Way). led_to bs w.steps) (to_root q.0 ws))) (roots_met ws) n
      (subst (λ (x : RefMark). IsIn n x.reach) q.2 in_reach))
