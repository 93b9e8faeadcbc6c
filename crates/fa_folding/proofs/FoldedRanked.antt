-- Each component of a fold can be made.
use Rattle.std.proofs.Common.{◌≡◌, ◌≢◌, ◌<◌, ℕ, suc, length, List}
use Rattle.std.proofs.Common.{[], ◌∷◌, ◌++◌}
use Rattle.std.proofs.Common.{refl, sym, subst, ◌∙◌, Option, Some, slice_get}
use Rattle.std.proofs.lemmas.Option.{same_Some}
use Rattle.fore_base.specs.Lists.{IsIn, Paired}
use Rattle.ta_core.specs.Auto.{Automaton, IsRanked}
use Rattle.ta_core.specs.Single.{HasOneTop}
use Rattle.fa_core.specs.declared.boxes.BoxDef.{BoxDef}
use Rattle.fa_core.specs.declared.faces.BoxFace.{BoxFace}
use Rattle.fa_core.specs.declared.forest.Forest.{Forest}
use Rattle.fa_core.specs.Boxes.{Boxes, faces_of}
use Rattle.fa_core.specs.Folding.{IsPart, IsPartWithin, IsPortRoot, box_slot, taken_at}
use Rattle.fa_core.specs.Placed.{placed_auto}
use Rattle.fa_sound.proofs.ComponentLemmas.{component_got}
use Rattle.fa_merge.specs.Reordered.{component_at, counted, place_of, renumber, reordered}
use Rattle.fa_unfold.specs.Sites.{IsOver}
use Rattle.fa_folding.specs.Gaining.{edge_place, edge_rules, input_auto, output_auto}
use Rattle.fa_folding.specs.Made.{AreFoldable, IsFoldable, kept_first, kept_of, new_output}
use Rattle.fa_folding.proofs.FoldMade.{edge_above, edge_only, edge_right, edge_runs}
use Rattle.fa_folding.proofs.FoldWhole.{got_left, kept_here, kept_ranked, kept_one, kept_top, input_here}
use Rattle.fa_folding.proofs.GainedTrees.{gained_ranked}
use Rattle.fa_folding.proofs.Moving.{moved_auto}
use Rattle.fa_folding.proofs.SlotRuns.{Grown, SlotRuns}
use Rattle.fa_folding.proofs.FoldWhole.{taken_here, folded_has}
use Rattle.fa_merge.proofs.OtherOrders.{get_mapped}

all_foldable : (bs : List BoxFace) (ps : List (ℕ × List ℕ)) (n i : ℕ) (out : Option ℕ) (rs : List ℕ)
    (autos : List Automaton)
    → ((j r : ℕ) (a : Automaton) → slice_get rs j ≡ Some r → slice_get autos j ≡ Some a → IsFoldable bs ps n i out r a)
    → AreFoldable bs ps n i out rs autos
all_foldable bs ps n i out [] autos h = tt
all_foldable bs ps n i out (r ∷ rs) [] h = tt
all_foldable bs ps n i out (r ∷ rs) (a ∷ autos) h =
    (h 0 r a refl refl, all_foldable bs ps n i out rs autos (λ j k b e q. h (suc j) k b e q))

module _ (t : Boxes) (F : Forest) (over : IsOver t F) (n i : ℕ) (def : BoxDef) (there : slice_get t.defs n ≡ Some def)
    (out : Option ℕ) (g : BoxDef) (p : IsPart (faces_of t.defs) F def i out g) (fit : IsPartWithin g def) where
  abbrev bs : List BoxFace
  bs = faces_of t.defs

  abbrev kept : List ℕ
  kept = kept_of p.inner (counted 0 (length F.autos))

  abbrev order : List ℕ
  order = kept_first F p.inner

  abbrev h : ℕ → ℕ
  h = place_of order

  abbrev P : Forest
  P = reordered order F

  abbrev o : Option ℕ
  o = new_output p.inner out

  module _ (r : ℕ) (a : Automaton) (at : slice_get F.autos r ≡ Some a) (low_r : r < length F.autos)
      (own : IsIn r p.inner → ⊥) where
    abbrev b : Automaton
    b = moved_auto h a

    abbrev fs : List ℕ
    fs = taken_at p.ports r

    ranked : IsRanked b
    ranked = kept_ranked t F over n i def there out g p fit r a at low_r own

    one_port : (shape : ℕ) (own_fields : List ℕ) → IsPortRoot F.autos r shape own_fields → HasOneTop b
    one_port = kept_one t F over n i def there out g p fit r a at low_r own

    input_ranked : (shape : ℕ) (own_fields : List ℕ) → IsPortRoot F.autos r shape own_fields
        → IsRanked (input_auto bs fs n o b)
    input_ranked shape own_fields port =
        gained_ranked bs b ranked (one_port shape own_fields port) shape port.datums port.slots
        (kept_top t F over n i def there out g p fit r a at low_r own shape own_fields port) fs
        (edge_rules b.states o) (edge_place n b.states o ∷ []) (box_slot (λ k. k) n o ∷ []) (edge_above b ranked n o)
        (edge_right b ranked n o) (edge_runs b ranked n o) (edge_only b ranked n o)

    output_ranked : (shape : ℕ) (own_fields : List ℕ) → IsPortRoot F.autos r shape own_fields
        → IsRanked (output_auto bs fs b)
    output_ranked shape own_fields port =
        gained_ranked bs b ranked (one_port shape own_fields port) shape port.datums port.slots
        (kept_top t F over n i def there out g p fit r a at low_r own shape own_fields port) fs [] [] []
        (λ x j. absurd j) tt tt none_only
      where
        none_only : (vs : List Grown) → Paired (SlotRuns (b.rules ++ [])) [] vs → vs ≡ []
        none_only [] k = refl
        none_only (v ∷ vs) k = absurd k

    foldable : IsFoldable bs p.ports n i o r b
    foldable = record {
      input = λ e. (let k = input_here t F over n i def there out g p fit r e in one_port k.0 k.1 k.2);
      other = λ q. some_taken fs refl q;
      ranked = folded_has t F over n i def there out g p fit IsRanked r b ranked input_ranked output_ranked;
    }
      where
        some_taken : (gs : List ℕ) → fs ≡ gs → gs ≢ [] → HasOneTop b
        some_taken [] e q = absurd (q refl)
        some_taken (x ∷ gs) e q =
            let k = taken_here t F over n i def there out g p fit r x gs e in one_port k.0 k.1 k.2

  each_foldable : AreFoldable bs p.ports n i o kept P.autos
  each_foldable = all_foldable bs p.ports n i o kept P.autos one
    where
      one : (j r : ℕ) (b : Automaton) → slice_get kept j ≡ Some r → slice_get P.autos j ≡ Some b
          → IsFoldable bs p.ports n i o r b
      one j r b e q =
          let w = kept_here t F over n i def there out g p fit j r e in
          let a = component_at F.autos r in
          let z : b ≡ moved_auto h a =
          same_Some b (moved_auto h a) (sym q
          ∙ get_mapped (λ (k : ℕ). placed_auto (renumber h) (component_at F.autos k)) order j r
          (got_left kept p.inner j r e)) in
          subst (IsFoldable bs p.ports n i o r) (sym z) (foldable r a (component_got F.autos r w.0) w.0 w.1)

-- so it is over the table's face
pub folds_foldable : (t : Boxes) (F : Forest) (n i : ℕ) (out : Option ℕ) (def g : BoxDef) → IsOver t F
    → slice_get t.defs n ≡ Some def → (p : IsPart t.face.boxes F def i out g) → IsPartWithin g def
    → AreFoldable t.face.boxes p.ports n i (new_output p.inner out) (kept_of p.inner (counted 0 (length F.autos)))
    (reordered (kept_first F p.inner) F).autos
folds_foldable t F n i out def g over there p fit =
    subst
    (λ (bs : List BoxFace). (p : IsPart bs F def i out g)
    → AreFoldable bs p.ports n i (new_output p.inner out) (kept_of p.inner (counted 0 (length F.autos)))
    (reordered (kept_first F p.inner) F).autos)
    (sym over.table.faces)
    (λ p. each_foldable t F over n i def there out g p fit) p
