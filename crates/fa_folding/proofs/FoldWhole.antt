-- The forest that the code makes of a forest put in the order of the roots that are kept: it is the one after the fold.
use Rattle.std.proofs.Common.{◌≡◌, ◌<◌, ◌+◌, inl, inr, ℕ, zero, suc, length, List, [], ◌∷◌, ◌++◌, length-append, nat_eq}
use Rattle.std.proofs.Common.{map, Bool, true, false, if◌then◌else◌}
use Rattle.std.proofs.Common.{refl, sym, ap, ap₂, subst, ◌∙◌, Option, Some, slice_get, arith}
use Rattle.std.proofs.lemmas.Option.{none-some, same_Some, slice_get_within}
use Rattle.std.proofs.lemmas.Bool.{eqb-true}
use Rattle.fore_base.specs.Lists.{IsIn, IsDistinct}
use Rattle.fore_base.proofs.ListLemmas.{in_from_place, place_of as place_in_list}
use Rattle.ta_core.specs.Auto.{Automaton, IsRanked}
use Rattle.ta_core.specs.Single.{HasOneTop}
use Rattle.ta_core.specs.declared.symbol.Symbol.TheVariants.{Cell as CellSymbol}
use Rattle.fa_core.specs.declared.boxes.BoxDef.{BoxDef}
use Rattle.fa_core.specs.declared.faces.BoxFace.{BoxFace}
use Rattle.fa_core.specs.declared.forest.Forest.{Forest}
use Rattle.fa_core.specs.declared.forest.Target.{Target}
use Rattle.fa_core.specs.declared.forest.Target.TheVariants.{Null, Uninit, Dangling, At}
use Rattle.fa_core.specs.Boxes.{Boxes, faces_of}
use Rattle.fa_core.specs.Dressed.{Nodes}
use Rattle.fa_core.specs.Folding.{FoldOf, IsFoldedAuto, IsPart, IsPartWithin, box_slot, gained, moved_target}
use Rattle.fa_core.specs.Folding.{number_without, taken_at, IsPortRoot}
use Rattle.fa_core.specs.Member.{OfForest}
use Rattle.fa_core.specs.Placed.{placed_auto, placed_leaf}
use Rattle.fa_core.specs.Rearranged.{Rearranged, chain}
use Rattle.fa_core.proofs.Dressing.{dress_all}
use Rattle.fa_core.proofs.Rearranging.{back, long_same}
use Rattle.fa_core.proofs.WaysOf.{map-append}
use Rattle.fa_back.proofs.Dressable.{some_choice}
use Rattle.fa_merge.specs.Reordered.{component_at, counted, place_of, renumber, reordered}
use Rattle.fa_merge.specs.inner.Orders.{IsOrder}
use Rattle.fa_merge.proofs.MergedAnywhere.{an_order}
use Rattle.fa_merge.proofs.OtherOrders.{place_root, get_mapped, counted_length, mapped_length}
use Rattle.fa_sound.proofs.ComponentLemmas.{item_component}
use Rattle.fa_split.proofs.SplitCells.{refers_well}
use Rattle.fa_unfold.specs.Sites.{IsOver}
use Rattle.fa_unfold.proofs.EndStructs.{insides_of}
use Rattle.fa_unfold.proofs.PartItems.{comm}
use Rattle.fa_folding.specs.Made.{IsFoldOf, folded_autos, folded_component, folded_forest, new_output, other_auto}
use Rattle.fa_folding.proofs.FoldMade.{component_folds, taken_port, input_port, ranked_here, one_here, one_moved}
use Rattle.fa_folding.proofs.FoldedTables.{low}
use Rattle.fa_folding.proofs.Folding.{as_many, low_here, once_here}
use Rattle.fa_folding.proofs.Moving.{moved_auto}
use Rattle.fa_folding.proofs.Numbers.{all_roots, counted_above, in_counted, in_kept, kept_in, kept_number}
use Rattle.fa_folding.proofs.FoldMade.{top_here}
use Rattle.fa_folding.specs.Made.{kept_of}
use Rattle.fa_folding.specs.Gaining.{input_auto, output_auto}
use Rattle.fa_split.specs.Split.{top_rule}

pub got_left : {X : Type 0} (xs ys : List X) (j : ℕ) (x : X) → slice_get xs j ≡ Some x → slice_get (xs ++ ys) j ≡ Some x
got_left [] ys j x e = absurd (none-some x e)
got_left (z ∷ xs) ys zero x e = e
got_left (z ∷ xs) ys (suc j) x e = got_left xs ys j x e

module _ (bs : List BoxFace) (ps : List (ℕ × List ℕ)) (n i : ℕ) (out : Option ℕ) where
  autos_got : (rs : List ℕ) (autos : List Automaton) (j r : ℕ) (a : Automaton) → slice_get rs j ≡ Some r
      → slice_get autos j ≡ Some a
      → slice_get (folded_autos bs ps n i out rs autos) j ≡ Some (folded_component bs ps n i out r a)
  autos_got [] autos j r a e k = absurd (none-some r e)
  autos_got (x ∷ rs) [] j r a e k = absurd (none-some a k)
  autos_got (x ∷ rs) (b ∷ autos) zero r a e k =
      ap₂ (λ (y : ℕ) (c : Automaton). Some (folded_component bs ps n i out y c)) (same_Some x r e) (same_Some b a k)
  autos_got (x ∷ rs) (b ∷ autos) (suc j) r a e k = autos_got rs autos j r a e k

  autos_long : (rs : List ℕ) (xs ys : List Automaton) → length xs ≡ length rs
      → length (folded_autos bs ps n i out rs (xs ++ ys)) ≡ length rs
  autos_long [] xs ys l = refl
  autos_long (x ∷ rs) [] ys l = absurd (omega (arith, l))
  autos_long (x ∷ rs) (b ∷ xs) ys l = ap (λ (k : ℕ). suc k) (autos_long rs xs ys (omega (arith, l)))

module _ (t : Boxes) (F : Forest) (over : IsOver t F) (n i : ℕ) (def : BoxDef) (there : slice_get t.defs n ≡ Some def)
    (out : Option ℕ) (g : BoxDef) (p : IsPart (faces_of t.defs) F def i out g) (fit : IsPartWithin g def) where
  abbrev bs : List BoxFace
  bs = faces_of t.defs

  abbrev N : ℕ
  N = length F.autos

  abbrev pub kept : List ℕ
  kept = kept_of p.inner (counted 0 N)

  abbrev pub order : List ℕ
  order = kept ++ p.inner

  abbrev h : ℕ → ℕ
  h = place_of order

  abbrev f : ℕ → ℕ
  f = number_without p.inner

  record Dressing : Type 0 where
    d : Nodes
    of : OfForest t.defs F d

  dressing : Dressing
  dressing =
      let c = some_choice F.autos over.sound.full in
      let filled = over.sound.well_formed.filled in
      let w = filled.trees c.0 c.1 in
      let z = dress_all t.defs 0 F.autos c.0 w.tops over.ranked (insides_of t F over F.autos filled.rules) c.1 w.are in
      record { d = z.nodes; of = z.of }

  pub differ : IsDistinct p.inner
  differ =
      let z = dressing in
      once_here t.defs bs F def i out g p z.d z.of (low t F over n i def there out g p fit z.d z.of)

  pub inner_low : (k : ℕ) → IsIn k p.inner → k < N
  inner_low k j =
      let z = dressing in
      let l = low_here t.defs bs F def i out g p z.d z.of (low t F over n i def there out g p fit z.d z.of) k j in
      let e = as_many t.defs F.autos z.d z.of in
      omega (arith, l, e)

  pub is_order : Rearranged order (counted 0 N)
  is_order = chain (comm kept p.inner) (back (all_roots p.inner N differ inner_low))

  ordered : IsOrder N h order
  ordered = an_order N order is_order

  kept_there : (k : ℕ) → k < N → (IsIn k p.inner → ⊥) → IsIn k kept
  kept_there k l q = kept_in p.inner (counted 0 N) k q (in_counted 0 N k (omega arith) (omega (arith, l)))

  numbers : (j k : ℕ) → slice_get kept j ≡ Some k → (h k ≡ j) × (f k ≡ j)
  numbers j k e = (place_root N h order ordered j k (got_left kept p.inner j k e), kept_number p.inner differ N j k e)

  pub same_numbers : (k : ℕ) → k < N → (IsIn k p.inner → ⊥) → h k ≡ f k
  same_numbers k l q =
      let w = place_in_list kept k (kept_there k l q) in
      let z = numbers w.0 k w.1 in
      z.0 ∙ sym z.1

  -- a root that is kept is there, and is no inner root
  pub kept_here : (j k : ℕ) → slice_get kept j ≡ Some k → (k < N) × (IsIn k p.inner → ⊥)
  kept_here j k e =
      let w = in_kept p.inner (counted 0 N) k (in_from_place kept j k e) in
      let l = (counted_above 0 N k w.1).1 in
      ((omega (arith, l)), w.0)

  -- a root of which fields are taken is a port, and so is the input
  pub taken_here : (r x : ℕ) (gs : List ℕ) → taken_at p.ports r ≡ x ∷ gs
      → (s : ℕ) × (fs : List ℕ) × IsPortRoot F.autos r s fs
  taken_here r x gs e =
      taken_port F.autos p.ports p.shapes r x p.roots (subst (IsIn x) (sym e) (inl refl))

  pub input_here : (r : ℕ) → nat_eq i r ≡ true → (s : ℕ) × (fs : List ℕ) × IsPortRoot F.autos r s fs
  input_here r e =
      let k = input_port bs def i out p.ports p.shapes F.autos p.are_ports p.roots in
      (k.0, k.1, subst (λ (z : ℕ). IsPortRoot F.autos z k.0 k.1) (eqb-true i r e) k.2)

  -- what holds of a component, and of it as the input and as another port, holds of what the fold makes of it
  pub folded_has : (P : Automaton → Type 0) (r : ℕ) (b : Automaton) → P b
      → ((s : ℕ) (fs : List ℕ) → IsPortRoot F.autos r s fs
      → P (input_auto bs (taken_at p.ports r) n (new_output p.inner out) b))
      → ((s : ℕ) (fs : List ℕ) → IsPortRoot F.autos r s fs → P (output_auto bs (taken_at p.ports r) b))
      → P (folded_component bs p.ports n i (new_output p.inner out) r b)
  folded_has P r b own input output = here (nat_eq i r) refl
    where
      rest : (gs : List ℕ) → taken_at p.ports r ≡ gs → P (other_auto bs gs b)
      rest [] e = own
      rest (x ∷ gs) e =
          let k = taken_here r x gs e in
          subst (λ (z : List ℕ). P (output_auto bs z b)) e (output k.0 k.1 k.2)

      here : (w : Bool) → nat_eq i r ≡ w
          → P (if w then input_auto bs (taken_at p.ports r) n (new_output p.inner out) b
          else other_auto bs (taken_at p.ports r) b)
      here true e = let k = input_here r e in input k.0 k.1 k.2
      here false e = rest (taken_at p.ports r) refl

  -- A root that is kept, with its new numbers.

  module _ (r : ℕ) (a : Automaton) (at : slice_get F.autos r ≡ Some a) (low_r : r < length F.autos)
      (own : IsIn r p.inner → ⊥) where
    pub kept_ranked : IsRanked (moved_auto h a)
    kept_ranked = ranked_here t F over n i def there out g p fit h same_numbers r a at low_r own

    module _ (shape : ℕ) (own_fields : List ℕ) (port : IsPortRoot F.autos r shape own_fields) where
      pub kept_one : HasOneTop (moved_auto h a)
      kept_one = one_moved h a
          (one_here t F over n i def there out g p fit h same_numbers r a at low_r own shape own_fields port)

      pub kept_top : (top_rule (moved_auto h a)).symbol ≡ CellSymbol shape port.datums port.slots
      kept_top = top_here t F over n i def there out g p fit h same_numbers r a at low_r own shape own_fields port

  abbrev P : Forest
  P = reordered order F

  abbrev pub made : Forest
  made = folded_forest bs p.ports n i (new_output p.inner out) kept P

  same_vars : (vs : List Target) → ((r : ℕ) → IsIn (At r) vs → (r < N) × (IsIn r p.inner → ⊥))
      → map (placed_leaf (renumber h)) vs ≡ map (moved_target f) vs
  same_vars [] q = refl
  same_vars (Null ∷ vs) q = ap (λ (z : List Target). Null ∷ z) (same_vars vs (λ r j. q r (inr j)))
  same_vars (Uninit ∷ vs) q = ap (λ (z : List Target). Uninit ∷ z) (same_vars vs (λ r j. q r (inr j)))
  same_vars (Dangling ∷ vs) q = ap (λ (z : List Target). Dangling ∷ z) (same_vars vs (λ r j. q r (inr j)))
  same_vars (At k ∷ vs) q =
      let w = q k (inl refl) in
      ap₂ (λ (y : ℕ) (z : List Target). At y ∷ z) (same_numbers k w.0 w.1) (same_vars vs (λ r j. q r (inr j)))

  vars_here : (r : ℕ) → IsIn (At r) F.vars → (r < N) × (IsIn r p.inner → ⊥)
  vars_here r j =
      let c = some_choice F.autos over.sound.full in
      ((refers_well t.face F over.sound).vars r j, (λ q. (p.reached c.0 c.1).no_var r q j))

  kept_many : length kept + length p.inner ≡ N
  kept_many =
      let a = long_same (all_roots p.inner N differ inner_low) in
      let b = length-append p.inner kept in
      let c = counted_length 0 N in
      omega (arith, a, b, c)

  abbrev numbered : ℕ → Automaton
  numbered k = placed_auto (renumber h) (component_at F.autos k)

  many : length made.autos + length p.inner ≡ N
  many =
      let a = autos_long bs p.ports n i (new_output p.inner out) kept (map numbered kept) (map numbered p.inner)
      (mapped_length numbered kept) in
      let b : length made.autos ≡ length kept =
      ap (λ (z : List Automaton). length (folded_autos bs p.ports n i (new_output p.inner out) kept z))
      (map-append numbered kept p.inner) ∙ a in
      let c = kept_many in
      omega (arith, b, c)

  component_there : (r : ℕ) (a : Automaton) → slice_get F.autos r ≡ Some a → (IsIn r p.inner → ⊥) → (c : Automaton)
      × (slice_get made.autos (f r) ≡ Some c)
      × IsFoldedAuto bs f (gained (box_slot f n out) i r) (taken_at p.ports r) a c
  component_there r a e q =
      let l = slice_get_within F.autos r a e in
      let w = place_in_list kept r (kept_there r l q) in
      let z = numbers w.0 r w.1 in
      let o : slice_get P.autos w.0 ≡ Some (moved_auto h a) =
      get_mapped numbered order w.0 r (got_left kept p.inner w.0 r w.1)
      ∙ ap (λ (b : Automaton). Some (placed_auto (renumber h) b)) (sym (item_component F.autos r a e)) in (
        folded_component bs p.ports n i (new_output p.inner out) r (moved_auto h a),
        subst (λ (k : ℕ). slice_get made.autos k
            ≡ Some (folded_component bs p.ports n i (new_output p.inner out) r (moved_auto h a))) (sym z.1)
            (autos_got bs p.ports n i (new_output p.inner out) kept P.autos w.0 r (moved_auto h a) w.1 o),
        component_folds t F over n i def there out g p fit h same_numbers r a e l q,
      )

  -- what is made is the forest after the fold
  pub fold_made : FoldOf bs t.defs F made n i out g
  fold_made = record {
    def = def;
    there = there;
    part = p;
    within = fit;
    vars = same_vars F.vars vars_here;
    data_vars = refl;
    count = many;
    autos = component_there;
  }

-- so it is over the table's face
pub folds_made : (t : Boxes) (F : Forest) (n i : ℕ) (out : Option ℕ) (def g : BoxDef) → IsOver t F
    → slice_get t.defs n ≡ Some def → (p : IsPart t.face.boxes F def i out g) → IsPartWithin g def
    → IsFoldOf t.face.boxes t.defs F n i out g p.ports p.inner
folds_made t F n i out def g over there p fit =
    subst
    (λ (bs : List BoxFace). (p : IsPart bs F def i out g) → IsFoldOf bs t.defs F n i out g p.ports p.inner)
    (sym over.table.faces)
    (λ p. record {
      order = is_order t F over n i def there out g p fit;
      fold = fold_made t F over n i def there out g p fit;
    }) p
