-- A forest with the roots of a canonical one is canonical when its roots stand in the order of the walk.
use Rattle.std.proofs.Common.{◌≡◌, inl, inr, ℕ, zero, suc, ◌<◌, ◌≤◌, length, List, [], ◌∷◌, map, refl, sym, ap, subst}
use Rattle.std.proofs.Common.{◌∙◌}
use Rattle.std.proofs.Common.{slice_get, Some, arith}
use Rattle.std.proofs.lemmas.Option.{none-some, same_Some}
use Rattle.fore_base.specs.Lists.{IsIn, Every}
use Rattle.fore_base.proofs.ListLemmas.{every_in, in_every, in_mapped}
use Rattle.ta_core.specs.Auto.{Automaton, IsRanked}
use Rattle.ta_core.specs.Single.{HasOneTop}
use Rattle.ta_core.specs.declared.auto.Rule.{Rule}
use Rattle.ta_core.specs.declared.tree.Tree.{Tree}
use Rattle.fa_core.specs.Canonical.{IsLedTo, IsRootKind, IsUntied, IsCanonical, LeadsBack, RefersTo, Walks, GoesOn}
use Rattle.fa_core.specs.Canonical.{refs_at}
use Rattle.fa_core.specs.Canonical.{var_roots}
use Rattle.fa_core.specs.Choices.{bares}
use Rattle.fa_core.specs.Dressed.{Nodes}
use Rattle.fa_core.specs.Filled.{Choice, IsSound}
use Rattle.fa_core.specs.Member.{OfForest}
use Rattle.fa_core.specs.Placed.{placed_auto, placed_rule}
use Rattle.fa_core.specs.declared.boxes.BoxDef.{BoxDef}
use Rattle.fa_core.specs.declared.faces.BoxFace.{BoxFace}
use Rattle.fa_core.specs.declared.faces.Face.{Face}
use Rattle.fa_core.specs.declared.forest.Forest.{Forest}
use Rattle.fa_core.specs.declared.forest.Target.{Target}
use Rattle.fa_core.proofs.Dressing.{choice_of}
use Rattle.fa_core.proofs.Permuted.{in_rearranged}
use Rattle.fa_core.proofs.Placing.{placed_ranked}
use Rattle.fa_core.proofs.Rearranging.{back}
use Rattle.fa_leaves.proofs.Hollow.{filled_dressed, hollow_table}
use Rattle.fa_merge.specs.Reordered.{IsOrderOf, place_of, renumber, reordered}
use Rattle.fa_sound.specs.Components.{component_at}
use Rattle.fa_merge.specs.inner.Orders.{IsOrder}
use Rattle.fa_merge.proofs.MergedAnywhere.{an_order}
use Rattle.fa_merge.proofs.Named.{choice_long}
use Rattle.fa_merge.proofs.OtherOrders.{get_mapped, order_below, order_back, order_length, back_order, place_below}
use Rattle.fa_merge.proofs.OtherOrders.{reordered_length}
use Rattle.fa_merge.proofs.PlacedForests.{component_has}
use Rattle.fa_merge.proofs.ReorderedSound.{reordered_sound}
use Rattle.fa_order.specs.Kinds.{HasRootKinds}
use Rattle.fa_order.specs.Placing.{IsWalkOrder}
use Rattle.fa_order.proofs.Following.{shared_follows, knot_follows, untied_follows}
use Rattle.fa_order.proofs.MovedBacks.{AreMoved, leads_on}
use Rattle.fa_order.proofs.Places.{out_above, place_out}
use Rattle.fa_order.proofs.Renumbered.{g_of, gf, before, of_before, follows, moved, refs_turned, var_roots_renumbered}
use Rattle.fa_order.proofs.WalkedOn.{walks_on}
use Rattle.fa_order.specs.inner.Following.{Follows}

-- One top under new numbers.

mapped_got : {X Y : Type 0} (h : X → Y) (xs : List X) (i : ℕ) (y : Y) → slice_get (map h xs) i ≡ Some y → (x : X)
    × (slice_get xs i ≡ Some x) × (y ≡ h x)
mapped_got h [] i y e = absurd (none-some y e)
mapped_got h (x ∷ xs) zero y e = (x, refl, sym (same_Some (h x) y e))
mapped_got h (x ∷ xs) (suc i) y e = mapped_got h xs i y e

pub top_placed : (f : ℕ → ℕ) (a : Automaton) → HasOneTop a → HasOneTop (placed_auto (renumber f) a)
top_placed f a h = record {
  root = h.root;
  alone = h.alone;
  place = h.place;
  rule = placed_rule (renumber f) h.rule;
  there = get_mapped (placed_rule (renumber f)) a.rules h.place h.rule h.there;
  top = h.top;
  only =
      λ i r e s.
      (let m = mapped_got (placed_rule (renumber f)) a.rules i r e in
      h.only i m.0 m.1 (sym (ap (λ (x : Rule). x.state) m.2) ∙ s));
}

-- Kind 3 under new numbers.

led_follows : (f g : ℕ → ℕ) (there : (k : ℕ) → g (f k) ≡ k) (bs : List BoxFace) (vs ws : List Target)
    (ts us : List Tree) (h : Follows f g vs ws ts us)
    → AreMoved f g there ts us → (r : ℕ) → IsLedTo bs vs ts (g r) → IsLedTo bs ws us r
led_follows f g there bs vs ws ts us h m r l = record {
  no_var = λ i. l.no_var ((h.var r).0 i);
  alone = λ j u e d k. (let t = h.up j u e in
      l.alone (g j) t.0 t.1 (λ z. d (sym (h.again j) ∙ ap f z ∙ h.again r))
      ((t.2.0 (g r)).1 (subst (λ (z : ℕ). RefersTo u z) (sym (h.again r)) k)));
  from = f l.from;
  other = λ z. l.other (sym (h.there l.from) ∙ ap g z);
  led = subst (λ (z : ℕ). LeadsBack bs us (f l.from) z z) (h.again r)
      (leads_on f g there bs ts us m l.from (g r) (g r) l.led);
}

module _ (face : Face) (F : Forest) (sound : IsSound face F) (ranked : Every IsRanked F.autos)
    (roots : HasRootKinds face F) (order : List ℕ) (walk : IsWalkOrder face F order) (all : IsOrderOf F order) where
  abbrev size : ℕ
  size = length F.autos

  abbrev f : ℕ → ℕ
  f = place_of order

  abbrev G : Forest
  G = reordered order F

  is : IsOrder size f order
  is = an_order size order all

  below : Every (λ k. k < size) order
  below = order_below size f order is

  -- a root that is not in the order is not there
  far_out : (x : ℕ) → (IsIn x order → ⊥) → size ≤ x
  far_out x n = out_above size x (λ i. n (in_rearranged x (back is.all) i))

  each_new : (P : Automaton → Type 0) → ((a : Automaton) → P a → P (placed_auto (renumber f) a)) → Every P F.autos
      → Every P G.autos
  each_new P kept h = in_every P G.autos (λ a i.
      let m = in_mapped (λ k. placed_auto (renumber f) (component_at F.autos k)) a order i in
      subst P (sym m.2)
      (kept (component_at F.autos m.0)
      (component_has P F.autos m.0 h (every_in (λ k. k < size) order m.0 below m.1))))

  new_sound : IsSound face G
  new_sound = reordered_sound face F order all ranked sound

  abbrev T : List BoxDef
  T = hollow_table face.boxes

  -- each choice of trees is that of a dressed forest
  dressed : (us : List Tree) → Choice G.autos us → (e : Nodes) × (bares e ≡ us) × OfForest T G e
  dressed us c =
      let d = filled_dressed face G 0 new_sound.well_formed.filled
      (each_new IsRanked (placed_ranked (renumber f)) ranked) us c in
      (d.nodes, d.trees, d.of)

  module _ (e : Nodes) (o : OfForest T G e) where
    abbrev g : ℕ → ℕ
    g = g_of F f order is e T o

    abbrev ts : List Tree
    ts = bares (before F f order is e T o)

    choice : Choice F.autos ts
    choice = choice_of T F.autos (before F f order is e T o) (of_before F f order is e T o)

    long : length (bares e) ≡ size
    long = choice_long G.autos (bares e) (choice_of T G.autos e o) ∙ reordered_length F f order is

    kind_new : (r : ℕ) → r < length (bares e) → IsRootKind face.boxes G.vars (bares e) r
    kind_new r l =
        let b : g r < size = place_below size g (back_order size f order is) (order_back size f order is) r
        (subst (λ (n : ℕ). r < n) long l) in
        let k = roots.kinds ts choice (g r) (subst (λ (n : ℕ). g r < n) (sym (choice_long F.autos ts choice)) b) in
        let h = follows F f order is e T o in
        elim k [
          | inl s ↦ inl (shared_follows f g F.vars G.vars ts (bares e) h r s)
          | inr t ↦ elim t [
            | inl w ↦ inr (inl (led_follows f g (gf F f order is e T o) face.boxes F.vars G.vars ts (bares e) h
                (moved F f order is e T o) r w))
            | inr w ↦ inr (inr (knot_follows f g F.vars G.vars ts (bares e) h r w))
          ]
        ]

    untied_new : IsUntied G.vars (bares e)
    untied_new = untied_follows f g F.vars G.vars ts (bares e) (follows F f order is e T o) (roots.untied ts choice)

    walked : Walks (refs_at (bares e)) (GoesOn face.boxes (bares e)) (var_roots G.vars) 0 (length (bares e))
    walked =
        let refs : (r : ℕ) → IsIn r order → refs_at (bares e) (f r) ≡ map f (refs_at ts r) =
        (λ r i. refs_turned F f order is e T o r (every_in (λ k. k < size) order r below i)) in
        let outer : (x : ℕ) → (IsIn x order → ⊥) → length order ≤ f x =
        (λ x n. let far : size ≤ x = far_out x n in let a = place_out 0 order x n in
        let b = order_length size f order is in omega (arith, far, a, b)) in
        let w : Walks (refs_at (bares e)) (GoesOn face.boxes (bares e)) (map f (var_roots F.vars)) 0 (length order) =
        walks_on face.boxes ts (bares e) order g (gf F f order is e T o) (moved F f order is e T o) outer refs
        (var_roots F.vars) [] order refl (walk ts choice) in
        subst (λ (z : ℕ). Walks (refs_at (bares e)) (GoesOn face.boxes (bares e)) (var_roots G.vars) 0 z)
        (order_length size f order is ∙ sym long)
        (subst (λ (z : List ℕ). Walks (refs_at (bares e)) (GoesOn face.boxes (bares e)) z 0 (length order))
        (sym (var_roots_renumbered f F.vars)) w)

  pub placed_canonical : IsCanonical face G
  placed_canonical = record {
    well_formed = new_sound.well_formed;
    tops = each_new HasOneTop (top_placed f) roots.tops;
    kinds = λ us c r l. (let d = dressed us c in
        subst (λ (z : List Tree). IsRootKind face.boxes G.vars z r) d.1
        (kind_new d.0 d.2 r (subst (λ (z : List Tree). r < length z) (sym d.1) l)));
    untied = λ us c. (let d = dressed us c in subst (λ (z : List Tree). IsUntied G.vars z) d.1 (untied_new d.0 d.2));
    order =
        λ us c.
        (let d = dressed us c in
        subst (λ (z : List Tree). Walks (refs_at z) (GoesOn face.boxes z) (var_roots G.vars) 0 (length z)) d.1
        (walked d.0 d.2));
  }
