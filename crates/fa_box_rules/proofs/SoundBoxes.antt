-- A sound box breaks none of the rules, and its face is what its trees show outside.
use Rattle.std.proofs.Common.{◌≡◌, ◌↔◌, inl, inr, ℕ, zero, suc, ◌<◌, ◌≤◌, ◌+◌, Bool, true, false, true≢false, List}
use Rattle.std.proofs.Common.{[]}
use Rattle.std.proofs.Common.{◌∷◌, ◌++◌, Option, Some, None, slice_get, refl, sym, ap, subst}
use Rattle.std.proofs.Common.{◌∙◌, arith}
use Rattle.std.proofs.lemmas.Option.{none-some, same_Some}
use Rattle.fore_base.specs.Lists.{IsIn, Every, IsDistinct}
use Rattle.fore_base.specs.declared.store.Value.{Value}
use Rattle.fore_base.proofs.ListLemmas.{every_in, every_weaker, place_of}
use Rattle.ta_core.specs.Auto.{Automaton}
use Rattle.ta_core.specs.Language.{InLanguage}
use Rattle.ta_core.specs.declared.symbol.Slot.{Slot}
use Rattle.ta_core.specs.declared.symbol.Slot.TheVariants.{Field, Link, Hook}
use Rattle.ta_core.specs.declared.symbol.Symbol.{Symbol}
use Rattle.ta_core.specs.declared.symbol.Symbol.TheVariants.{Null, Uninit, Dangling, Ref, Cell}
use Rattle.ta_core.specs.declared.tree.Tree.{Tree, out-Tree}
use Rattle.fa_core.specs.declared.boxes.BoxDef.{BoxDef}
use Rattle.fa_core.specs.declared.faces.BoxFace.{BoxFace}
use Rattle.fa_core.specs.declared.faces.Face.{Face}
use Rattle.fa_core.specs.Boxes.{IsPortSpot, IsPortFilled, InsideFilled, port_structs, port_fields, Begins}
use Rattle.fa_core.specs.Boxes.{CoverAlike, CoverSome, PortsCover, OutFits, PortsFit, LeadsUp, LeadsNowhere}
use Rattle.fa_core.specs.Boxes.{BackHolds, SoundBox}
use Rattle.fa_core.specs.Cells.{is_leaf}
use Rattle.fa_core.specs.Filled.{Choice, TopsAre, IsTopped, NamesStruct, FieldEnds, EndFits, EndsFit, IsFilledSpot}
use Rattle.fa_core.specs.Filled.{Spot}
use Rattle.fa_core.specs.Filled.{spots, given_at, HasSome}
use Rattle.fa_core.specs.Folding.{covered_fields}
use Rattle.fa_core.specs.Rearranged.{Rearranged, chain, RisesFrom, IsRising}
use Rattle.fa_back.proofs.Dressable.{some_choice}
use Rattle.fa_core.proofs.FilledKept.{choice_with}
use Rattle.fa_core.proofs.NodeSpots.{spots_out}
use Rattle.fa_core.proofs.Permuted.{distinct_moved, in_rearranged}
use Rattle.fa_core.proofs.Rearranging.{back}
use Rattle.fa_box_rules.specs.Cells.{MayName, FieldMayEnd, EndMayFit, EndsMayFit, IsRightCell, IsRightPort}
use Rattle.fa_box_rules.specs.Cells.{IsRightUnder}
use Rattle.fa_box_rules.specs.Cells.{AreRight}
use Rattle.fa_box_rules.specs.Rules.{port_count, structs_of, root_fields, Breaks4, Breaks5}
use Rattle.fa_box_rules.specs.Rules.{takes_leaf, other_struct, covers_apart, covers_none, signs_apart, gives_apart}
use Rattle.fa_box_rules.specs.Rules.{leads_apart, Breaks6, Breaks7, Breaks, Gives, GivesOutput, IsFaceOf, inside_of}
use Rattle.fa_box_rules.specs.Rules.{MayEndNowhere}
use Rattle.fa_box_rules.specs.declared.rule.BoxRule.{BoxRule}
use Rattle.fa_box_rules.specs.declared.rule.BoxRule.TheVariants.{B4, B5, B6, B7}

-- Tops.

abbrev pub struct_of : Symbol → ℕ
struct_of (Cell s ds ss) = s
struct_of y = 0

-- the struct at the top of a tree is one
pub top_same : (t : Tree) (s u : ℕ) → IsTopped s t → IsTopped u t → s ≡ u
top_same t s u h k = ap struct_of (sym h.2 ∙ k.2)

-- a tree with a cell at its top is no leaf
pub topped_no_leaf : (t : Tree) (s : ℕ) → IsTopped s t → is_leaf (out-Tree t).symbol ≡ true → ⊥
topped_no_leaf t s h l = let e = h.2 in true≢false (sym (rw e at l))

pub top_is : (ts : List Tree) (tops : List ℕ) (r s : ℕ) (t : Tree) → TopsAre ts tops → slice_get ts r ≡ Some t
    → slice_get tops r ≡ Some s → IsTopped s t
top_is [] tops r s t h e k = absurd (none-some t e)
top_is (u ∷ ts) [] r s t h e k = absurd h
top_is (u ∷ ts) (x ∷ tops) zero s t h e k =
    subst (λ (z : Tree). IsTopped s z) (same_Some u t e) (subst (λ (z : ℕ). IsTopped z u) (same_Some x s k) h.0)
top_is (u ∷ ts) (x ∷ tops) (suc r) s t h e k = top_is ts tops r s t h.1 e k

-- the top at the place of a tree
top_place : (ts : List Tree) (tops : List ℕ) (r : ℕ) (t : Tree) → TopsAre ts tops → slice_get ts r ≡ Some t
    → (s : ℕ) × (slice_get tops r ≡ Some s) × IsTopped s t
top_place [] tops r t h e = absurd (none-some t e)
top_place (u ∷ ts) [] r t h e = absurd h
top_place (u ∷ ts) (x ∷ tops) zero t h e = (x, refl, subst (λ (z : Tree). IsTopped x z) (same_Some u t e) h.0)
top_place (u ∷ ts) (x ∷ tops) (suc r) t h e = top_place ts tops r t h.1 e

pub place_tree : (ts : List Tree) (tops : List ℕ) (r s : ℕ) → TopsAre ts tops → slice_get tops r ≡ Some s
    → (t : Tree) × (slice_get ts r ≡ Some t)
place_tree [] [] r s h e = absurd (none-some s e)
place_tree [] (x ∷ tops) r s h e = absurd h
place_tree (t ∷ ts) [] r s h e = absurd h
place_tree (t ∷ ts) (x ∷ tops) zero s h e = (t, refl)
place_tree (t ∷ ts) (x ∷ tops) (suc r) s h e = place_tree ts tops r s h.1 e

-- Ends: by the tops of these trees, and by the tops of the trees themselves.

module _ (face : Face) (ts : List Tree) (tops : List ℕ) (are : TopsAre ts tops) where
  names_alike : (y : Symbol) (s : ℕ) → NamesStruct tops y s ↔ MayName ts y s
  names_alike Null s = (λ h. h, λ h. h)
  names_alike Uninit s = (λ h. h, λ h. h)
  names_alike Dangling s = (λ h. h, λ h. h)
  names_alike (Ref r) s = (into, from)
    where
      into : NamesStruct tops (Ref r) s → MayName ts (Ref r) s
      into h =
          let p = place_tree ts tops r s are h in
          (p.0, p.1, (λ u k. top_same p.0 u s k (top_is ts tops r s p.0 are p.1 h)))

      from : MayName ts (Ref r) s → NamesStruct tops (Ref r) s
      from h = let p = top_place ts tops r h.0 are h.1 in p.1 ∙ ap (λ (z : ℕ). Some z) (h.2 p.0 p.2)
  names_alike (Cell u ds ss) s = (λ h. h, λ h. h)

  field_alike : (y : Symbol) (s : ℕ) → FieldEnds tops s y ↔ FieldMayEnd ts s y
  field_alike Null s = (λ h. tt, λ h. tt)
  field_alike Uninit s = (λ h. tt, λ h. tt)
  field_alike Dangling s = (λ h. tt, λ h. tt)
  field_alike (Ref r) s = names_alike (Ref r) s
  field_alike (Cell u ds ss) s = (λ h. h, λ h. h)

  end_alike : (s : ℕ) (x : Slot) (y : Symbol) → EndFits face tops s x y ↔ EndMayFit face ts s x y
  end_alike s (Field f) y =
      (λ h. (h.0, h.1, (field_alike y h.0).0 h.2), λ h. (h.0, h.1, (field_alike y h.0).1 h.2))
  end_alike s (Link b) y = (
    λ h. (h.0, h.1, h.2, h.3, h.4, elim h.5 [ inl n ↦ inl ((names_alike y h.1).0 n) | inr d ↦ inr d ]),
    λ h. (h.0, h.1, h.2, h.3, h.4, elim h.5 [ inl n ↦ inl ((names_alike y h.1).1 n) | inr d ↦ inr d ]),
  )
  end_alike s (Hook b) y = (λ h. h, λ h. h)

  -- so they fit, or not, by both
  pub ends_alike : (s : ℕ) (ss : List Slot) (ys : List Symbol) → EndsFit face tops s ss ys ↔ EndsMayFit face ts s ss ys
  ends_alike s [] [] = (λ h. tt, λ h. tt)
  ends_alike s [] (y ∷ ys) = (λ h. h, λ h. h)
  ends_alike s (Hook b ∷ ss) ys = let k = ends_alike s ss ys in (λ h. (h.0, k.0 h.1), λ h. (h.0, k.1 h.1))
  ends_alike s (Field f ∷ ss) [] = (λ h. h, λ h. h)
  ends_alike s (Field f ∷ ss) (y ∷ ys) =
      let e = end_alike s (Field f) y in
      let k = ends_alike s ss ys in (λ h. (e.0 h.0, k.0 h.1), λ h. (e.1 h.0, k.1 h.1))
  ends_alike s (Link b ∷ ss) [] = (λ h. h, λ h. h)
  ends_alike s (Link b ∷ ss) (y ∷ ys) =
      let e = end_alike s (Link b) y in
      let k = ends_alike s ss ys in (λ h. (e.0 h.0, k.0 h.1), λ h. (e.1 h.0, k.1 h.1))

  -- Cells.

  right_cell : (p : Spot) → IsFilledSpot face tops p → IsRightCell face ts p
  right_cell p h = record { ends = (ends_alike p.shape p.slots p.ends).0 h.ends; order = h.order; once = h.once }

  right_port : (fields : List ℕ) (p : Spot) → IsDistinct fields → IsPortSpot face tops fields p → IsRightPort face ts p
  right_port fields p d h = record {
    ends = (ends_alike p.shape p.slots p.ends).0 h.ends;
    order = h.order;
    once = distinct_moved h.once d;
  }

  right_under : (fields : List ℕ) (ps : List Spot) → IsDistinct fields → IsPortFilled face tops fields ps
      → IsRightUnder face ts ps
  right_under fields [] d h = tt
  right_under fields (p ∷ ps) d h =
      (right_port fields p d h.0, every_weaker (IsFilledSpot face tops) (IsRightCell face ts) ps right_cell h.1)

  abbrev pub count_of : List (List ℕ) → ℕ
  count_of [] = 0
  count_of (p ∷ ps) = suc (count_of ps)

  pub are_right : (r : ℕ) (ports : List (List ℕ)) (us : List Tree) → Every IsDistinct ports
      → InsideFilled face ts tops r ports us → AreRight face ts r (count_of ports) us
  are_right r ports [] d h = tt
  are_right r [] (u ∷ us) d h =
      (every_weaker (IsFilledSpot face tops) (IsRightCell face ts) _ right_cell h.0, are_right (suc r) [] us d h.1)
  are_right r (p ∷ ports) (u ∷ us) d h = (right_under p _ d.0 h.0, are_right (suc r) ports us d.1 h.1)

-- Numbers in rising order differ.

above_out : (n m : ℕ) (xs : List ℕ) → n ≤ m → RisesFrom m xs → IsIn n xs → ⊥
above_out n m [] l h i = elim i [ ]
above_out n m (x ∷ xs) l h (inl e) = let k = h.0 in omega (arith, e, k, l)
above_out n m (x ∷ xs) l h (inr i) = above_out n x xs (let k = h.0 in omega (arith, l, k)) h.1 i

pub rising_differ : (xs : List ℕ) → IsRising xs → IsDistinct xs
rising_differ [] h = tt
rising_differ (x ∷ xs) h = (above_out x x xs (omega arith) h, from x xs h)
  where
    from : (m : ℕ) (ys : List ℕ) → RisesFrom m ys → IsDistinct ys
    from m [] k = tt
    from m (y ∷ ys) k = (above_out y y ys (omega arith) k.1, from y ys k.1)

-- The fields of ports.

module _ (face : Face) (tops : List ℕ) where
  -- the fields of a port are those that its own slots cover and those that are given there
  port_once : (fields above : List ℕ) (t : Tree) (s : ℕ) → IsTopped s t
      → IsPortFilled face tops fields (spots face.boxes t above)
      → Rearranged fields (covered_fields face.boxes t ++ above)
  port_once fields above t s h k =
      let e = h.2 in
      let o = spots_out face.boxes t above in
      let w = rw o at k in
      (rw e (rw e at w).0.once)

ports_once : (face : Face) (all us : List Tree) (tops alltops : List ℕ) (r k : ℕ) (ports : List (List ℕ))
    (fields : List ℕ) (t : Tree) → TopsAre us tops → InsideFilled face all alltops r ports us
    → slice_get ports k ≡ Some fields → slice_get us k ≡ Some t → (n : ℕ) → n ≡ r + k
    → Rearranged fields (covered_fields face.boxes t ++ given_at face.boxes all n)
ports_once face all [] tops alltops r k ports fields t are h e i n m = absurd (none-some t i)
ports_once face all (u ∷ us) tops alltops r k [] fields t are h e i n m = absurd (none-some fields e)
ports_once face all (u ∷ us) [] alltops r k (p ∷ ports) fields t are h e i n m = absurd are
ports_once face all (u ∷ us) (s ∷ tops) alltops r zero (p ∷ ports) fields t are h e i n m =
    let f = same_Some p fields e in
    let g = same_Some u t i in
    let z : n ≡ r = omega (arith, m) in
    subst (λ (x : ℕ). Rearranged fields (covered_fields face.boxes t ++ given_at face.boxes all x)) (sym z)
    (subst (λ (x : Tree). Rearranged fields (covered_fields face.boxes x ++ given_at face.boxes all r)) g
    (subst (λ (x : List ℕ). Rearranged x (covered_fields face.boxes u ++ given_at face.boxes all r)) f
    (port_once face alltops p (given_at face.boxes all r) u s are.0 h.0)))
ports_once face all (u ∷ us) (s ∷ tops) alltops r (suc k) (p ∷ ports) fields t are h e i n m =
    ports_once face all us tops alltops (suc r) k ports fields t are.1 h.1 e i n (omega (arith, m))

pub nil_only : {xs : List ℕ} → Rearranged xs [] → xs ≡ []
nil_only {xs} r = no_items xs (often_none xs r)
  where
    often_none : (ys : List ℕ) → Rearranged ys [] → (k : ℕ) → IsIn k ys → ⊥
    often_none ys r k i = in_rearranged k r i

    no_items : (ys : List ℕ) → ((k : ℕ) → IsIn k ys → ⊥) → ys ≡ []
    no_items [] n = refl
    no_items (y ∷ ys) n = absurd (n y (inl refl))

-- Sound boxes.

port_structs_are : (x : BoxFace) (out : Option ℕ) → port_structs x out ≡ structs_of x.input out
port_structs_are x None = refl
port_structs_are x (Some t) = refl

pub begin_at : (xs ys : List ℕ) (r s : ℕ) → Begins xs ys → slice_get xs r ≡ Some s → slice_get ys r ≡ Some s
begin_at [] ys r s h e = absurd (none-some s e)
begin_at (x ∷ xs) ys zero s h e = let m = h.1 in rw m e
begin_at (x ∷ xs) ys (suc r) s h e = let m = h.1 in rw m (begin_at xs (xs ++ h.0) r s (h.0, refl) e)

module _ (face : Face) (T : List BoxDef) (b : BoxDef) (sound : SoundBox face T b) where
  -- the fields of a port, for each choice
  port_gives : (r s : ℕ) (fields : List ℕ) → slice_get (port_structs b.face b.face.output) r ≡ Some s
      → slice_get (port_fields b.face b.face.output) r ≡ Some fields → Gives face.boxes b.inside.autos r fields
  port_gives r s fields e g ts c =
      let f = sound.fits ts c in
      let m = begin_at (port_structs b.face b.face.output) f.tops r s f.ports e in
      let t = place_tree ts f.tops r s f.are m in
      let o = t.1 in
      let z = ports_once face ts ts f.tops f.tops 0 r (port_fields b.face b.face.output) fields t.0 f.are f.cells g o r
      (omega arith) in
      rw o z

  gives_input : (out : Option ℕ) → b.face.output ≡ out → Gives face.boxes b.inside.autos 0 b.face.gives_in
  gives_input None e = port_gives 0 b.face.input b.face.gives_in (rw e refl) (rw e refl)
  gives_input (Some t) e = port_gives 0 b.face.input b.face.gives_in (rw e refl) (rw e refl)

  gives_output : (out : Option ℕ) → b.face.output ≡ out
      → GivesOutput face.boxes b.inside.autos out b.face.gives_out
  gives_output None e =
      let k : BackHolds T b.face None b.inside.autos =
      subst (λ (o : Option ℕ). BackHolds T b.face o b.inside.autos) e sound.back in k.0
  gives_output (Some t) e = port_gives 1 t b.face.gives_out (rw e refl) (rw e refl)

  pub face_is : IsFaceOf face T (inside_of b) b.face
  face_is = record {
    input = refl;
    output = refl;
    gives_in = gives_input b.face.output refl;
    gives_out = gives_output b.face.output refl;
    in_order = sound.in_order;
    back = sound.back;
  }

  -- B4

  pub ports_differ : (out : Option ℕ) → Every IsDistinct (port_fields b.face out)
  ports_differ None = (rising_differ b.face.gives_in sound.in_order.0, tt)
  ports_differ (Some t) =
      (rising_differ b.face.gives_in sound.in_order.0, (rising_differ b.face.gives_out sound.in_order.1, tt))

  pub ports_count : (ts : List Tree) (tops : List ℕ) (are : TopsAre ts tops) (out : Option ℕ)
      → count_of face ts tops are (port_fields b.face out) ≡ port_count out
  ports_count ts tops are None = refl
  ports_count ts tops are (Some t) = refl

  not_four : Breaks4 face (inside_of b) → ⊥
  not_four h =
      let f = sound.fits h.0 h.1 in
      let k = are_right face h.0 f.tops f.are 0 (port_fields b.face b.face.output) h.0 (ports_differ b.face.output)
      f.cells in
      h.2 (subst (λ (n : ℕ). AreRight face h.0 0 n h.0) (ports_count h.0 f.tops f.are b.face.output) k)

  -- B5

  pub tree_topped : (a : Automaton) (t : Tree) → IsIn a b.inside.autos → InLanguage a t → (s : ℕ) × IsTopped s t
  tree_topped a t i h =
      let p = place_of b.inside.autos a i in
      let c = choice_with b.inside.autos sound.full p.0 a t p.1 h in
      let f = sound.fits c.0 c.1 in
      let k = top_place c.0 f.tops p.0 t f.are c.2 in (k.0, k.2)

  pub port_struct : (r s u : ℕ) (a : Automaton) (t : Tree)
      → slice_get (structs_of b.face.input b.face.output) r ≡ Some s
      → slice_get b.inside.autos r ≡ Some a → InLanguage a t → IsTopped u t → u ≡ s
  port_struct r s u a t e g h k =
      let c = choice_with b.inside.autos sound.full r a t g h in
      let f = sound.fits c.0 c.1 in
      let w : slice_get (port_structs b.face b.face.output) r ≡ Some s =
      subst (λ (l : List ℕ). slice_get l r ≡ Some s) (sym (port_structs_are b.face b.face.output)) e in
      let m = begin_at (port_structs b.face b.face.output) f.tops r s f.ports w in
      top_same t u s k (top_is c.0 f.tops r s t f.are c.2 m)

  cover_alike : (out : Option ℕ) (autos : List Automaton) (r : ℕ) (a : Automaton) → PortsCover face.boxes out autos
      → r < port_count out → slice_get autos r ≡ Some a → CoverAlike face.boxes a
  cover_alike out [] r a h l e = absurd (none-some a e)
  cover_alike None (c ∷ autos) zero a h l e = subst (CoverAlike face.boxes) (same_Some c a e) h.0
  cover_alike None (c ∷ autos) (suc r) a h l e = absurd (omega (arith, l))
  cover_alike (Some t) (c ∷ []) r a h l e = absurd h
  cover_alike (Some t) (c ∷ (d ∷ autos)) zero a h l e = subst (CoverAlike face.boxes) (same_Some c a e) h.0
  cover_alike (Some t) (c ∷ (d ∷ autos)) (suc zero) a h l e = subst (CoverAlike face.boxes) (same_Some d a e) h.2
  cover_alike (Some t) (c ∷ (d ∷ autos)) (suc (suc r)) a h l e = absurd (omega (arith, l))

  pub cover_some : (out : Option ℕ) (autos : List Automaton) (a : Automaton) → PortsCover face.boxes out autos
      → slice_get autos 0 ≡ Some a → CoverSome face.boxes a
  cover_some out [] a h e = absurd (none-some a e)
  cover_some None (c ∷ autos) a h e = subst (CoverSome face.boxes) (same_Some c a e) h.1
  cover_some (Some t) (c ∷ []) a h e = absurd h
  cover_some (Some t) (c ∷ (d ∷ autos)) a h e = subst (CoverSome face.boxes) (same_Some c a e) h.1

  same_fields : (out : Option ℕ) → b.face.output ≡ out → (r : ℕ) (ts us : List Tree) → r < port_count out
      → Choice b.inside.autos ts → Choice b.inside.autos us
      → Rearranged (root_fields face.boxes ts r) (root_fields face.boxes us r)
  same_fields out e zero ts us l c d =
      let g = gives_input b.face.output refl in chain (back (g ts c)) (g us d)
  same_fields None e (suc r) ts us l c d = absurd (omega (arith, l))
  same_fields (Some t) e (suc zero) ts us l c d =
      let g = gives_output (Some t) e in chain (back (g ts c)) (g us d)
  same_fields (Some t) e (suc (suc r)) ts us l c d = absurd (omega (arith, l))

  leads_one : (v : Bool) → b.face.back ≡ v → (t : ℕ) → b.face.output ≡ Some t → (LeadsUp T b.inside.autos → ⊥)
      → (LeadsNowhere T b.inside.autos → ⊥) → ⊥
  leads_one v w t e n m = here v w (subst (λ (o : Option ℕ). BackHolds T b.face o b.inside.autos) e sound.back)
    where
      here : (v : Bool) → b.face.back ≡ v → BackHolds T b.face (Some t) b.inside.autos → ⊥
      here true w k = n (k.0 w).1
      here false w k = m (k.1 w)

  not_five : Breaks5 face T (inside_of b) → ⊥
  not_five (takes_leaf a t i h l) = let k = tree_topped a t i h in topped_no_leaf t k.0 k.1 l
  not_five (other_struct r s u a t e g h k n) = n (port_struct r s u a t e g h k)
  not_five (covers_apart r f a t u l e h k i n) =
      n (cover_alike b.face.output b.inside.autos r a sound.ports l e t u h k f i)
  not_five (covers_none a t e h n) = n (cover_some b.face.output b.inside.autos a sound.ports e t h)
  not_five (signs_apart a q t u i p h k n) = n (every_in _ b.inside.autos a sound.signatures i q p t u h k)
  not_five (gives_apart ts us r c d l n) = n (same_fields b.face.output refl r ts us l c d)
  not_five (leads_apart t e n m) = leads_one b.face.back refl t e n m

  -- B6

  out_fits : (y : BoxFace) (t : ℕ) → b.face.output ≡ Some t → MayEndNowhere face.boxes y b.inside.autos → (w : Value)
      → OutFits y w → OutFits b.face w
  out_fits y t e n w (inl c) = inl c
  out_fits y t e n w (inr d) =
      let c = some_choice b.inside.autos sound.full in
      let g = gives_output (Some t) e c.0 c.1 in
      let z = n d.1 c.0 c.1 in
      inr (d.0, nil_only (rw z at g))

  ports_fit : (y : BoxFace) (out : Option ℕ) → b.face.output ≡ out → MayEndNowhere face.boxes y b.inside.autos
      → (c : ℕ) (ports : List Value) → PortsFit y out c ports → PortsFit b.face out c ports
  ports_fit y None e n c ports h = h
  ports_fit y (Some t) e n c ports h = (h.0, h.1, out_fits y t e n h.0 h.2)

  not_six : Breaks6 face T (inside_of b) → ⊥
  not_six h =
      let y = h.0 in
      let o : y.output ≡ b.face.output = h.1 in
      h.3 (λ d k c ports f n i. sound.reached d k c ports
      (ports_fit y b.face.output refl h.2 c ports (subst (λ (z : Option ℕ). PortsFit y z c ports) o f)) n i)

  -- B7

  not_seven : Breaks7 (inside_of b) → ⊥
  not_seven h = let s = every_in HasSome b.inside.autos h.0 sound.full h.1 in h.2 s.0 s.1

  pub none_broken : (r : BoxRule) → Breaks face T (inside_of b) r → ⊥
  none_broken B4 h = not_four h
  none_broken B5 h = not_five h
  none_broken B6 h = not_six h
  none_broken B7 h = not_seven h
