-- A sound forest stays sound when its roots stand in another order.
use Rattle.std.proofs.Common.{◌≡◌, inl, inr, ℕ, ◌<◌, length, List, [], ◌∷◌, map, flat_map, refl, sym, ap, subst, ◌∙◌}
use Rattle.fore_base.specs.Lists.{IsIn, Every}
use Rattle.fore_base.proofs.ListLemmas.{every_in, in_every, in_mapped}
use Rattle.ta_core.specs.Auto.{Automaton, IsRanked}
use Rattle.ta_core.specs.Language.{InLanguage}
use Rattle.ta_core.specs.declared.tree.Tree.{Tree}
use Rattle.fa_core.specs.declared.faces.Face.{Face}
use Rattle.fa_core.specs.declared.forest.Forest.{Forest}
use Rattle.fa_core.specs.declared.forest.Target.{Target}
use Rattle.fa_core.specs.declared.forest.Target.TheVariants.{Null, Uninit, Dangling, At}
use Rattle.fa_core.specs.Boxless.{HasNoBoxes}
use Rattle.fa_core.specs.Dressed.{Node, refs}
use Rattle.fa_core.specs.Filled.{IsRoot, RulesFit, HasSignatures, IsSound}
use Rattle.fa_core.specs.Formed.{IsFormed}
use Rattle.fa_core.specs.Member.{bare}
use Rattle.fa_core.specs.Placed.{placed_leaf, placed_auto}
use Rattle.fa_core.specs.References.{AllBelow}
use Rattle.fa_core.proofs.FilledKept.{IsFormedTree, filled_kept, formed_by, refs_of_filled}
use Rattle.fa_core.proofs.Placing.{placed_ranked, placed_boxless, placed_fit, refs_put}
use Rattle.fa_merge.specs.Reordered.{renumber, place_of, reordered, IsOrderOf}
use Rattle.fa_sound.specs.Components.{component_at}
use Rattle.fa_merge.specs.inner.Orders.{IsOrder}
use Rattle.fa_back.proofs.Dressable.{some_choice}
use Rattle.fa_merge.proofs.MergedAnywhere.{an_order, numbers_mapped}
use Rattle.fa_merge.proofs.Named.{var_below}
use Rattle.fa_merge.proofs.OtherOrders.{order_below, order_length, place_below, mapped_length, reorder_onto}
use Rattle.fa_merge.proofs.OtherOrders.{reorder_back, root_at, root_place}
use Rattle.fa_merge.proofs.Apart.{renumber_apart}
use Rattle.fa_merge.proofs.PlacedForests.{component_has}
use Rattle.fa_merge.proofs.PutForests.{put_formed, full_kept}
use Rattle.fa_leaves.specs.Leaves.{AreApart}
use Rattle.fa_leaves.proofs.PutSigns.{put_signed}
use Rattle.fa_sound.proofs.ComponentLemmas.{component_got}

abbrev at_of : Target → ℕ
at_of (At k) = k
at_of u = 0

abbrev IsAt : Target → Type 0
IsAt (At k) = Unit {0}
IsAt u = ⊥

-- targets of other numbers
pub renumbered_vars : (f : ℕ → ℕ) (n : ℕ) (us : List Target) → ((k : ℕ) → IsIn (At k) us → f k < n)
    → Every (IsRoot n) (map (placed_leaf (renumber f)) us)
renumbered_vars f n [] h = tt
renumbered_vars f n (u ∷ us) h = (one u (λ k e. h k (inl e)), renumbered_vars f n us (λ k i. h k (inr i)))
  where
    one : (u : Target) → ((k : ℕ) → At k ≡ u → f k < n) → IsRoot n (placed_leaf (renumber f) u)
    one Null h r e = absurd (subst IsAt (sym e) tt)
    one Uninit h r e = absurd (subst IsAt (sym e) tt)
    one Dangling h r e = absurd (subst IsAt (sym e) tt)
    one (At k) h r e = subst (λ (z : ℕ). z < n) (ap at_of e) (h k refl)

pub numbers_below : (f : ℕ → ℕ) (m n : ℕ) (ks : List ℕ) → ((k : ℕ) → k < m → f k < n) → AllBelow m ks
    → AllBelow n (map f ks)
numbers_below f m n [] h l = tt
numbers_below f m n (k ∷ ks) h l = (h k l.0, numbers_below f m n ks h l.1)

module _ (face : Face) (F : Forest) (order : List ℕ) (is : IsOrderOf F order) (ranked : Every IsRanked F.autos)
    (sound : IsSound face F) where
  abbrev size : ℕ
  size = length F.autos

  abbrev f : ℕ → ℕ
  f = place_of order

  abbrev G : Forest
  G = reordered order F

  the_order : IsOrder size f order
  the_order = an_order size order is

  apart : AreApart (renumber f)
  apart = renumber_apart f (root_at size f order the_order) (root_place size f order the_order)

  same_size : length G.autos ≡ size
  same_size = mapped_length (λ k. placed_auto (renumber f) (component_at F.autos k)) order
      ∙ order_length size f order the_order

  -- what each component of F keeps under new numbers, each of G has
  each_new : (P : Automaton → Type 0) → ((k : ℕ) → k < size → P (placed_auto (renumber f) (component_at F.autos k)))
      → Every P G.autos
  each_new P h = in_every P G.autos (λ a i.
      let m = in_mapped (λ k. placed_auto (renumber f) (component_at F.autos k)) a order i in
      subst P (sym m.2) (h m.0 (every_in (λ k. k < size) order m.0 (order_below size f order the_order) m.1)))

  pub new_plain : Every HasNoBoxes F.autos → Every HasNoBoxes G.autos
  new_plain plain = each_new HasNoBoxes
      (λ k l. placed_boxless (renumber f) (component_at F.autos k) (component_has HasNoBoxes F.autos k plain l))

  low : (k : ℕ) → k < size → (m : Node) → InLanguage (component_at F.autos k) (bare m)
      → AllBelow size (flat_map (refs_put (renumber f)) (refs m))
  low k l m h =
      subst (λ (ks : List ℕ). AllBelow size ks) (sym (numbers_mapped f (refs m)))
      (numbers_below f size size (refs m) (place_below size f order the_order)
      (refs_of_filled face F sound.well_formed.filled sound.full k (component_at F.autos k) m
      (component_got F.autos k l) h))

  vars_new : Every (IsRoot size) G.vars
  vars_new =
      (let c = some_choice F.autos sound.full in
      renumbered_vars f size F.vars
      (λ k i. place_below size f order the_order k (var_below face F sound.well_formed.filled c.0 c.1 k i)))

  formed : IsFormed face G
  formed = record {
    ranked = each_new IsRanked
        (λ k l. placed_ranked (renumber f) (component_at F.autos k) (component_has IsRanked F.autos k ranked l));
    data_vars = sound.well_formed.filled.data_vars;
    rules = each_new (RulesFit face)
        (λ k l. placed_fit (renumber f) face (component_at F.autos k)
        (component_has (RulesFit face) F.autos k sound.well_formed.filled.rules l));
    choices = formed_by G
        (rw same_size
        (each_new (λ a. (t : Tree) → InLanguage a t → IsFormedTree size t)
        (λ k l t h. put_formed face F sound.well_formed.filled sound.full ranked (renumber f) size k l (low k l) t h)))
        (rw same_size vars_new);
  }

  pub reordered_sound : IsSound face G
  reordered_sound = record {
    well_formed = record {
      filled = filled_kept face F G sound.well_formed.filled (λ T. reorder_back F f order the_order T) formed;
      signatures = each_new (HasSignatures face.boxes)
          (λ k l. put_signed face (renumber f) apart (component_at F.autos k)
          (component_has IsRanked F.autos k ranked l)
          (component_has (RulesFit face) F.autos k sound.well_formed.filled.rules l)
          (component_has (HasSignatures face.boxes) F.autos k sound.well_formed.signatures l));
    };
    full = full_kept face F sound.well_formed.filled sound.full ranked G
        (λ T. reorder_onto T F f order the_order);
  }
