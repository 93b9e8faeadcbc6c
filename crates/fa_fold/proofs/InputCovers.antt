-- The input of a box of a table covers some field, by the boxes of the whole table.
use Rattle.std.proofs.Common.{◌≡◌, inl, ℕ, zero, suc, List, [], ◌∷◌, ◌++◌, flat_map, refl, sym, subst, Option, Some}
use Rattle.std.proofs.Common.{None, slice_get}
use Rattle.std.proofs.lemmas.Option.{none-some, same_Some}
use Rattle.fore_base.specs.Lists.{IsIn}
use Rattle.fore_base.specs.declared.shape.Shapes.{Shapes}
use Rattle.fore_base.proofs.ListLemmas.{every_in, in_from_place}
use Rattle.ta_core.specs.Auto.{Automaton}
use Rattle.ta_core.specs.Language.{InLanguage}
use Rattle.ta_core.specs.declared.symbol.Slot.{Slot}
use Rattle.ta_core.specs.declared.symbol.Slot.TheVariants.{Field, Link, Hook}
use Rattle.ta_core.specs.declared.tree.Tree.{Tree, out-Tree}
use Rattle.fa_core.specs.Boxes.{AreSoundOver, CoverSome, PortsCover, faces_of}
use Rattle.fa_core.specs.Filled.{HasField, HasSome, covers, fields_in}
use Rattle.fa_core.specs.Folding.{covered_fields, symbol_slots}
use Rattle.fa_core.specs.Member.{inside_of}
use Rattle.fa_core.specs.declared.boxes.BoxDef.{BoxDef}
use Rattle.fa_core.specs.declared.faces.BoxFace.{BoxFace}
use Rattle.fa_unfold.proofs.TableBoxes.{box_of_table}

some_right : (xs ys : List ℕ) → HasField ys → HasField (xs ++ ys)
some_right [] ys h = h
some_right (x ∷ xs) ys h = tt

some_either : (xs ys zs : List ℕ) → (HasField ys → HasField zs) → HasField (xs ++ ys) → HasField (xs ++ zs)
some_either [] ys zs f h = f h
some_either (x ∷ xs) ys zs f h = tt

-- slots that cover some field cover some where there are more boxes
module _ (before all : List BoxFace)
    (grow : (k : ℕ) (x : BoxFace) → slice_get before k ≡ Some x → slice_get all k ≡ Some x) where
  some_of_box : (ss : List Slot) (b : ℕ) (o : Option BoxFace) → slice_get before b ≡ o
      → (HasField (flat_map (covers before) ss) → HasField (flat_map (covers all) ss))
      → HasField (fields_in o ++ flat_map (covers before) ss)
      → HasField (fields_in (slice_get all b) ++ flat_map (covers all) ss)
  some_of_box ss b None e f h = some_right (fields_in (slice_get all b)) (flat_map (covers all) ss) (f h)
  some_of_box ss b (Some x) e f h =
      subst (λ (z : Option BoxFace). HasField (fields_in z ++ flat_map (covers all) ss)) (sym (grow b x e))
      (some_either x.gives_in (flat_map (covers before) ss) (flat_map (covers all) ss) f h)

  some_still : (ss : List Slot) → HasField (flat_map (covers before) ss) → HasField (flat_map (covers all) ss)
  some_still [] h = absurd h
  some_still (Field f ∷ ss) h = tt
  some_still (Link b ∷ ss) h = some_of_box ss b (slice_get before b) refl (some_still ss) h
  some_still (Hook b ∷ ss) h = some_of_box ss b (slice_get before b) refl (some_still ss) h

first_covers : (bs : List BoxFace) (out : Option ℕ) (autos : List Automaton) (a : Automaton) → PortsCover bs out autos
    → slice_get autos 0 ≡ Some a → CoverSome bs a
first_covers bs out [] a h e = absurd h
first_covers bs None (c ∷ autos) a h e = subst (CoverSome bs) (same_Some c a e) h.1
first_covers bs (Some t) (c ∷ []) a h e = absurd h
first_covers bs (Some t) (c ∷ (d ∷ autos)) a h e = subst (CoverSome bs) (same_Some c a e) h.1

inside_got : (T : List BoxDef) (n : ℕ) (b : BoxDef) → slice_get T n ≡ Some b → inside_of T n ≡ Some b.inside.autos
inside_got [] n b e = absurd (none-some b e)
inside_got (d ∷ T) zero b e =
    subst (λ (z : BoxDef). Some d.inside.autos ≡ Some z.inside.autos) (same_Some d b e) refl
inside_got (d ∷ T) (suc n) b e = inside_got T n b e

first_field : (xs : List ℕ) → HasField xs → (f : ℕ) × IsIn f xs
first_field [] h = absurd h
first_field (x ∷ xs) h = (x, inl refl)

-- a field that a tree of the automaton covers
pub record IsCovered (bs : List BoxFace) (a : Automaton) : Type 0 where
  pub field : ℕ
  pub tree : Tree
  pub is : InLanguage a tree
  pub covered : IsIn field (covered_fields bs tree)

pub input_covers : (shapes : Shapes) (T : List BoxDef) (n : ℕ) (b : BoxDef) (a : Automaton) → AreSoundOver shapes [] T
    → slice_get T n ≡ Some b → slice_get b.inside.autos 0 ≡ Some a → IsCovered (faces_of T) a
input_covers shapes T n b a sound there first =
    let w = box_of_table shapes T sound n b.inside.autos (inside_got T n b there) in
    let at : slice_get w.def.inside.autos 0 ≡ Some a =
    subst (λ (z : List Automaton). slice_get z 0 ≡ Some a) (sym w.inside) first in
    let some = every_in HasSome w.def.inside.autos a w.sound.full (in_from_place w.def.inside.autos 0 a at) in
    let covers_one = first_covers (faces_of w.before) w.def.face.output w.def.inside.autos a w.sound.ports at in
    let f = first_field (covered_fields (faces_of T) some.0)
    (some_still (faces_of w.before) (faces_of T) w.grow
    (symbol_slots (out-Tree some.0).symbol) (covers_one some.0 some.1)) in
    record { field = f.0; tree = some.0; is = some.1; covered = f.1 }
