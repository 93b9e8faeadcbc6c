-- A root whose fields end at one leaf each can be dropped.
use Rattle.std.proofs.Common.{◌≡◌, inl, inr, ℕ, zero, suc, ◌+◌, ◌<◌, Bool, true, false, nat_eq, if◌then◌else◌, List, []}
use Rattle.std.proofs.Common.{◌∷◌, ◌++◌, map, flat_map, refl, sym, ap, subst, ◌∙◌, Option, Some, None, slice_get}
use Rattle.std.proofs.Common.{slice_index_or, zero-add, arith}
use Rattle.std.proofs.lemmas.Bool.{eqb-true, eq-eqb, ne_eqb}
use Rattle.std.proofs.lemmas.Option.{none-some, same_Some}
use Rattle.fore_base.specs.Lists.{IsIn, IsDistinct, Every}
use Rattle.fore_base.specs.Shapes.{targets_of}
use Rattle.fore_base.specs.declared.shape.Shape.{Shape}
use Rattle.fore_base.specs.declared.store.Datum.{Datum}
use Rattle.fore_base.proofs.ListLemmas.{in_left, in_right, every_in, in_every}
use Rattle.ta_core.specs.Auto.{Automaton}
use Rattle.ta_core.specs.Language.{RunOf, run, RunEach, run_more}
use Rattle.ta_core.specs.declared.auto.Rule.{Rule}
use Rattle.ta_core.specs.declared.symbol.Slot.{Slot}
use Rattle.ta_core.specs.declared.symbol.Slot.TheVariants.{Field, Link, Hook}
use Rattle.ta_core.specs.declared.symbol.Symbol.{Symbol}
use Rattle.ta_core.specs.declared.symbol.Symbol.TheVariants.{Cell}
use Rattle.ta_core.specs.declared.tree.Tree.{Tree, out-Tree}
use Rattle.fa_core.specs.Boxless.{IsField}
use Rattle.fa_core.specs.Cells.{is_leaf}
use Rattle.fa_core.specs.Filled.{spots, EndsFit, target_of, fields_of, numbered, covers, least, HasField, IsFilledSpot}
use Rattle.fa_core.specs.Filled.{Choice, IsSound, given_at}
use Rattle.fa_core.specs.Folding.{symbol_slots}
use Rattle.fa_core.specs.Member.{leaf_symbol}
use Rattle.fa_core.specs.Rearranged.{Rearranged, RisesFrom, IsRising}
use Rattle.fa_core.specs.declared.faces.BoxFace.{BoxFace}
use Rattle.fa_core.specs.declared.faces.Face.{Face}
use Rattle.fa_core.specs.declared.forest.Forest.{Forest}
use Rattle.fa_core.specs.declared.forest.Target.{Target}
use Rattle.fa_core.specs.declared.forest.Target.TheVariants.{Null, Uninit, Dangling, At}
use Rattle.fa_core.proofs.Dressing.{numbered_distinct}
use Rattle.fa_core.proofs.Permuted.{in_rearranged, distinct_moved, none_in_both, distinct_parts}
use Rattle.fa_core.proofs.Rearranging.{back}
use Rattle.fa_merge.specs.Dropped.{CanDrop, HasFieldsOnly, IsFlat}
use Rattle.fa_merge.specs.Reordered.{component_at}
use Rattle.fa_merge.proofs.LoneFound.{choice_at}
use Rattle.fa_split.specs.Split.{top_rule}
use Rattle.fa_split.proofs.TopRules.{tree_by_top}
use Rattle.fa_edit.specs.Fits.{symbol_shape}
use Rattle.fa_edit.specs.Plain.{field_place_from, field_place, place_at, IsOnlyLeaf, StructLacks, IsPlainAt}
use Rattle.fa_edit.proofs.TopSpots.{in_component, spots_filled, top_filled, topped_at, with_spots}

-- Places of fields.

-- the field of a slot; it has none if it is a box edge
abbrev slot_least : List BoxFace → Slot → ℕ
slot_least bs s = least (covers bs s)

-- the slots at and behind a place are of greater fields
later_greater : (bs : List BoxFace) (g i f : ℕ) (ss : List Slot) → RisesFrom g (map (slot_least bs) ss)
    → slice_get ss i ≡ Some (Field f) → g < f
later_greater bs g i f [] h e = absurd (none-some (Field f) e)
later_greater bs g zero f (s ∷ ss) h e = subst (λ (z : Slot). g < slot_least bs z) (same_Some s (Field f) e) h.0
later_greater bs g (suc i) f (s ∷ ss) h e =
    let a = h.0 in
    let b = later_greater bs (slot_least bs s) i f ss h.1 e in
    omega (arith, a, b)

rises_on : (g : ℕ) (xs : List ℕ) → RisesFrom g xs → IsRising xs
rises_on g [] h = tt
rises_on g (x ∷ xs) h = h.1

-- among fields in rising order, each stands at the place at which it is found
slot_place : (bs : List BoxFace) (k i f : ℕ) (ss : List Slot) → Every IsField ss → IsRising (map (slot_least bs) ss)
    → slice_get ss i ≡ Some (Field f) → field_place_from k f ss ≡ Some (k + i)
slot_place bs k i f [] p h e = absurd (none-some (Field f) e)
slot_place bs k zero f (Field g ∷ ss) p h e =
    let q : g ≡ f = ap (slot_least bs) (same_Some (Field g) (Field f) e) in
    let t : nat_eq g f ≡ true = eq-eqb g f q in
    rw t (ap (λ (n : ℕ). Some n) (omega arith))
slot_place bs k (suc i) f (Field g ∷ ss) p h e =
    let l = later_greater bs g i f ss h e in
    let t : nat_eq g f ≡ false = ne_eqb g f (λ q. (let z = subst (λ (n : ℕ). n < f) q l in omega (arith, z))) in
    rw t (slot_place bs (suc k) i f ss p.1 (rises_on g (map (slot_least bs) ss) h) e
    ∙ ap (λ (n : ℕ). Some n) (omega arith))
slot_place bs k i f (Link b ∷ ss) p h e = absurd p.0
slot_place bs k i f (Hook b ∷ ss) p h e = absurd p.0

-- Children that are leaves.

leaf_is : (t : Target) → is_leaf (leaf_symbol t) ≡ true
leaf_is Null = refl
leaf_is Uninit = refl
leaf_is Dangling = refl
leaf_is (At k) = refl

-- each tree of the state is a leaf
abbrev HasLeaves : List Rule → ℕ → Type 0
HasLeaves rules q = (u : Tree) → RunOf rules q u → is_leaf (out-Tree u).symbol ≡ true

only_leaf : (rules : List Rule) (q : ℕ) (t : Target) → IsOnlyLeaf rules q t → HasLeaves rules q
only_leaf rules q t only u (run x i s y k) = ap is_leaf (sym y ∙ only.only x i s) ∙ leaf_is t

all_leaves : (face : Face) (tops : List ℕ) (s : ℕ) (rules : List Rule) (ss : List Slot) (qs : List ℕ) (us : List Tree)
    → Every IsField ss
    → EndsFit face tops s ss (map (λ c. (out-Tree c.0).symbol) (with_spots face.boxes us)) → RunEach rules qs us
    → ((i f q : ℕ) → slice_get ss i ≡ Some (Field f) → slice_get qs i ≡ Some q → HasLeaves rules q)
    → Every (λ (u : Tree). is_leaf (out-Tree u).symbol ≡ true) us
all_leaves face tops s rules [] qs [] p h k l = tt
all_leaves face tops s rules [] qs (u ∷ us) p h k l = absurd h
all_leaves face tops s rules (Field f ∷ ss) qs [] p h k l = tt
all_leaves face tops s rules (Field f ∷ ss) [] (u ∷ us) p h k l = elim k [ ]
all_leaves face tops s rules (Field f ∷ ss) (q ∷ qs) (u ∷ us) p h (run_more r rs) l =
    (l 0 f q refl refl u r, all_leaves face tops s rules ss qs us p.1 h.1 rs (λ i g z a b. l (suc i) g z a b))
all_leaves face tops s rules (Link b ∷ ss) qs us p h k l = absurd p.0
all_leaves face tops s rules (Hook b ∷ ss) qs us p h k l = absurd p.0

index_of : (qs : List ℕ) (i q : ℕ) → slice_get qs i ≡ Some q → slice_index_or qs i 0 ≡ q
index_of [] i q e = absurd (none-some q e)
index_of (p ∷ qs) zero q e = same_Some p q e
index_of (p ∷ qs) (suc i) q e = index_of qs i q e

-- Fields of the struct.

numbered_has : (k g : ℕ) (xs : List ℕ) → IsIn g (numbered k xs) → (i x : ℕ) × (g ≡ k + i) × (slice_get xs i ≡ Some x)
numbered_has k g [] h = absurd h
numbered_has k g (x ∷ xs) (inl e) = (0, x, e ∙ omega arith, refl)
numbered_has k g (x ∷ xs) (inr h) = let w = numbered_has (suc k) g xs h in (suc w.0, w.1, w.2 ∙ omega arith, w.3)

-- a field of the struct points somewhere
field_points : (hs : List Shape) (s g : ℕ) → IsIn g (fields_of hs s) → (x : ℕ) × (target_of hs s g ≡ Some x)
field_points hs s g i =
    let w = numbered_has 0 g (targets_of hs s) i in (
      w.1,
      subst (λ (m : ℕ). slice_get (targets_of hs s) m ≡ Some w.1) (sym (w.2 ∙ zero-add w.0)) w.3,
    )

-- a field that has a place has its slot
place_in : (k f p : ℕ) (ss : List Slot) → field_place_from k f ss ≡ Some p → IsIn (Field f) ss
place_in k f p [] e = absurd (none-some p e)
place_in k f p (Field g ∷ ss) e = here (nat_eq g f) refl e (place_in (suc k) f p ss)
  where
    here : (b : Bool) → nat_eq g f ≡ b → (if b then Some k else field_place_from (suc k) f ss) ≡ Some p
        → (field_place_from (suc k) f ss ≡ Some p → IsIn (Field f) ss) → IsIn (Field f) (Field g ∷ ss)
    here true q h rest = inl (ap (λ (n : ℕ). Field n) (sym (eqb-true g f q)))
    here false q h rest = inr (rest h)
place_in k f p (Link b ∷ ss) e = inr (place_in (suc k) f p ss e)
place_in k f p (Hook b ∷ ss) e = inr (place_in k f p ss e)

in_covers : (bs : List BoxFace) (ss : List Slot) (x : Slot) (g : ℕ) → IsIn x ss → IsIn g (covers bs x)
    → IsIn g (flat_map (covers bs) ss)
in_covers bs [] x g i p = absurd i
in_covers bs (s ∷ ss) x g (inl e) p =
    in_left g (covers bs s) (flat_map (covers bs) ss) (subst (λ (z : Slot). IsIn g (covers bs z)) e p)
in_covers bs (s ∷ ss) x g (inr i) p =
    in_right g (covers bs s) (flat_map (covers bs) ss) (in_covers bs ss x g i p)

-- where no field is covered twice, one slot covers it
one_slot : (bs : List BoxFace) (ss : List Slot) → IsDistinct (flat_map (covers bs) ss) → (x y : Slot) (g : ℕ)
    → IsIn x ss → IsIn y ss → IsIn g (covers bs x) → IsIn g (covers bs y) → x ≡ y
one_slot bs [] d x y g i j p q = absurd i
one_slot bs (s ∷ ss) d x y g (inl e) (inl k) p q = e ∙ sym k
one_slot bs (s ∷ ss) d x y g (inl e) (inr j) p q =
    absurd
    (none_in_both g (covers bs s) (flat_map (covers bs) ss) d (subst (λ (z : Slot). IsIn g (covers bs z)) e p)
    (in_covers bs ss y g j q))
one_slot bs (s ∷ ss) d x y g (inr i) (inl k) p q =
    absurd
    (none_in_both g (covers bs s) (flat_map (covers bs) ss) d (subst (λ (z : Slot). IsIn g (covers bs z)) k q)
    (in_covers bs ss x g i p))
one_slot bs (s ∷ ss) d x y g (inr i) (inr j) p q =
    one_slot bs ss (distinct_parts (covers bs s) (flat_map (covers bs) ss) d).1 x y g i j p q

-- where each field of the struct has its slot, no box edge stands at the cell, and none gives it a field
module _ (bs : List BoxFace) (hs : List Shape) (s : ℕ) (ss : List Slot) (given : List ℕ)
    (once : Rearranged (fields_of hs s) (flat_map (covers bs) ss ++ given))
    (have : (g : ℕ) → IsIn g (fields_of hs s) → IsIn (Field g) ss) where
  apart : IsDistinct (flat_map (covers bs) ss ++ given)
  apart = distinct_moved once (numbered_distinct 0 (targets_of hs s))

  covered : (x : Slot) (g : ℕ) → IsIn x ss → IsIn g (covers bs x) → IsIn g (fields_of hs s)
  covered x g i p = in_rearranged g (back once) (in_left g (flat_map (covers bs) ss) given (in_covers bs ss x g i p))

  only_fields : Every (λ (x : Slot). HasField (covers bs x)) ss → Every IsField ss
  only_fields h =
      in_every IsField ss
      (λ x i. here x i (covers bs x) refl (every_in (λ (y : Slot). HasField (covers bs y)) ss x h i))
    where
      here : (x : Slot) → IsIn x ss → (gs : List ℕ) → covers bs x ≡ gs → HasField gs → IsField x
      here x i [] e w = absurd w
      here x i (g ∷ gs) e w =
          let p : IsIn g (covers bs x) = subst (λ (z : List ℕ). IsIn g z) (sym e) (inl refl) in
          let q : x ≡ Field g =
          one_slot bs ss (distinct_parts (flat_map (covers bs) ss) given apart).0 x (Field g) g i
          (have g (covered x g i p)) p (inl refl) in
          subst IsField (sym q) tt

  none_given : given ≡ []
  none_given =
      here given
      (λ g i. none_in_both g (flat_map (covers bs) ss) given apart
      (in_covers bs ss (Field g) g
      (have g (in_rearranged g (back once) (in_right g (flat_map (covers bs) ss) given i))) (inl refl)) i)
    where
      here : (gs : List ℕ) → ((g : ℕ) → IsIn g gs → ⊥) → gs ≡ []
      here [] h = refl
      here (g ∷ gs) h = absurd (h g (inl refl))

-- The root.

-- the top of a tree of root r, and what is given to it
record IsTop (face : Face) (F : Forest) (r : ℕ) (t : Tree) (given : List ℕ) : Type 0 where
  shape : ℕ
  datums : List Datum
  slots : List Slot
  symbol : (out-Tree t).symbol ≡ Cell shape datums slots
  top : (top_rule (component_at F.autos r)).symbol ≡ Cell shape datums slots
  runs : RunEach (component_at F.autos r).rules (top_rule (component_at F.autos r)).children (out-Tree t).children
  tops : List ℕ
  spot : IsFilledSpot face tops
      (record {
        shape = shape;
        slots = slots;
        ends = map (λ c. (out-Tree c.0).symbol) (with_spots face.boxes (out-Tree t).children);
        given = given;
      })

module _ (face : Face) (F : Forest) (r : ℕ) (sound : IsSound face F)
    (shown : (f : ℕ) → IsPlainAt face.shapes.structs F r f) where
  abbrev a : Automaton
  a = component_at F.autos r

  abbrev hs : List Shape
  hs = face.shapes.structs

  top_of : (ts : List Tree) (t : Tree) → Choice F.autos ts → slice_get ts r ≡ Some t
      → IsTop face F r t (given_at face.boxes ts r)
  top_of ts t choice is =
      let filled = sound.well_formed.filled.trees ts choice in
      let topped = topped_at ts filled.tops r t filled.are is in
      let by = tree_by_top a (shown 0).top t (in_component F.autos ts r t choice is) in
      let n : 0 + r ≡ r = omega arith in
      let above : Every (IsFilledSpot face filled.tops) (spots face.boxes t (given_at face.boxes ts r)) =
      subst (λ (m : ℕ). Every (IsFilledSpot face filled.tops) (spots face.boxes t (given_at face.boxes ts m))) n
      (spots_filled face ts filled.tops 0 ts r t filled.cells is) in
      record {
        shape = topped.0;
        datums = topped.1.0;
        slots = topped.1.1;
        symbol = topped.1.2;
        top = by.0 ∙ topped.1.2;
        runs = by.1;
        tops = filled.tops;
        spot = top_filled face filled.tops t (given_at face.boxes ts r) topped.0 topped.1.0 topped.1.1 topped.1.2 above;
      }

  module _ (t : Tree) (given : List ℕ) (k : IsTop face F r t given) where
    -- each field of the struct has its slot
    have : (g : ℕ) → IsIn g (fields_of hs k.shape) → IsIn (Field g) k.slots
    have g i = here (place_at F r g) refl
      where
        here : (q : Option ℕ) → place_at F r g ≡ q → IsIn (Field g) k.slots
        here (Some p) e =
            place_in 0 g p k.slots (ap (λ (y : Symbol). field_place g (symbol_slots y)) (sym k.top) ∙ e)
        here None e =
            let w = field_points hs k.shape g i in
            let l : target_of hs k.shape g ≡ None =
            subst (λ (y : Symbol). StructLacks hs (symbol_shape y) g) k.top ((shown g).lacks e) in
            absurd (none-some w.0 (sym l ∙ w.1))

    fields : Every IsField k.slots
    fields = only_fields face.boxes hs k.shape k.slots given k.spot.once have k.spot.order.0

    silent : given ≡ []
    silent = none_given face.boxes hs k.shape k.slots given k.spot.once have

    -- a leaf stands in each
    leaves : (i f q : ℕ) → slice_get k.slots i ≡ Some (Field f) → slice_get (top_rule a).children i ≡ Some q
        → HasLeaves a.rules q
    leaves i f q e z =
        let l = (shown f).leaf i
        (ap (λ (y : Symbol). field_place f (symbol_slots y)) k.top
        ∙ slot_place face.boxes 0 i f k.slots fields k.spot.order.1 e ∙ ap (λ (n : ℕ). Some n) (omega arith)) in
        only_leaf a.rules q l.0
        (subst (λ (n : ℕ). IsOnlyLeaf a.rules n l.0) (index_of (top_rule a).children i q z) l.1)

    flat : IsFlat t
    flat = (
      subst HasFieldsOnly (sym k.symbol) fields,
      all_leaves face k.tops k.shape a.rules k.slots (top_rule a).children (out-Tree t).children fields k.spot.ends
          k.runs leaves,
    )

  pub root_can_go : CanDrop face.boxes F r
  root_can_go = record {
    root = (shown 0).root;
    flat = λ ts t choice is. flat t (given_at face.boxes ts r) (top_of ts t choice is);
    own = λ ts choice.
        let t = choice_at F.autos ts r choice (shown 0).root in
        silent t.0 (given_at face.boxes ts r) (top_of ts t.0 choice t.1);
  }
