-- What is sampled of a sound forest is a store for which it stands.
use Rattle.std.proofs.Common.{◌≡◌, ℕ, zero, suc, ◌<◌, ◌+◌, List, [], ◌∷◌, ◌++◌, length, Some}
use Rattle.std.proofs.Common.{slice_get, take, length-append, refl, ap, subst, ◌∙◌, arith}
use Rattle.std.proofs.lemmas.Option.{none-some, same_Some}
use Rattle.fore_base.specs.Lists.{Every}
use Rattle.fore_base.specs.declared.shape.Shapes.{Shapes}
use Rattle.fore_base.specs.declared.store.Store.{Store}
use Rattle.fore_base.specs.declared.store.Value.{Value}
use Rattle.ta_core.specs.Auto.{IsRanked}
use Rattle.ta_core.specs.declared.tree.Tree.{Tree}
use Rattle.fa_core.specs.declared.boxes.BoxDef.{BoxDef}
use Rattle.fa_core.specs.declared.faces.Face.{Face}
use Rattle.fa_core.specs.declared.forest.Forest.{Forest}
use Rattle.fa_core.specs.Boxes.{Boxes, IsBoxTable, IsTableOf, AreSoundOver}
use Rattle.fa_core.specs.Dressed.{Nodes, roots_of}
use Rattle.fa_core.specs.Filled.{Choice, HasSome, IsSound}
use Rattle.fa_core.specs.Member.{Stands, StandsBy}
use Rattle.fa_back.proofs.Dressable.{some_choice}
use Rattle.fa_back.proofs.TablesKnown.{AllUse, box_uses, faces_long, forest_uses}
use Rattle.fa_back.specs.Insides.{AreRankedInsides}
use Rattle.fa_facts.proofs.FullFacts.{fields_full}
use Rattle.fa_facts.proofs.NamedCells.{facts_named, root_values_named}
use Rattle.fa_sample.specs.inner.Dressing.{made, root_values, roots_begun, forest_made, insides_made}
use Rattle.fa_sample.specs.inner.Emitted.{forest_out}
use Rattle.fa_sample.specs.inner.Picked.{ArePicked, IsPickedAt}
use Rattle.fa_sample.specs.inner.Sampled.{store_made, store_sampled}
use Rattle.fa_sample.specs.inner.Written.{written}
use Rattle.fa_sample.proofs.Forests.{AreChoices, UseLower, ports_values}
use Rattle.fa_sample.proofs.Forests.{rules_inside}
use Rattle.fa_sample.proofs.Forests.{boxes_inside, forest_dressed}
use Rattle.fa_sample.proofs.Standing.{stands}

-- Tables.

use_lower : (shapes : Shapes) (before defs : List BoxDef) → AreSoundOver shapes before defs → AreRankedInsides defs
    → UseLower (length before) defs
use_lower shapes before [] h r = tt
use_lower shapes before (d ∷ defs) h r =
    let e : length (before ++ d ∷ []) ≡ suc (length before) =
    (let z = length-append before (d ∷ []) in omega (arith, z)) in (
      r.0,
      box_uses shapes before d h.0,
      subst (λ (n : ℕ). UseLower n defs) e (use_lower shapes (before ++ d ∷ []) defs h.1 r.1),
    )

are_choices : (shapes : Shapes) (before defs : List BoxDef) (boxes : List (List Tree)) → AreSoundOver shapes before defs
    → ArePicked defs boxes → AreChoices defs boxes
are_choices shapes before [] [] h p = tt
are_choices shapes before [] (ts ∷ boxes) h p = absurd p
are_choices shapes before (d ∷ defs) [] h p = absurd p
are_choices shapes before (d ∷ defs) (ts ∷ boxes) h p =
    let f = h.0.fits ts p.0 in
    (p.0, (f.tops, f.are), are_choices shapes (before ++ d ∷ []) defs boxes h.1 p.1)

-- The store.

pub sampled : (t : Boxes) → IsBoxTable t → AreRankedInsides t.defs → (F : Forest) → IsSound t.face F
    → Every IsRanked F.autos → (boxes : List (List Tree)) → ArePicked t.defs boxes → (ts : List Tree)
    → Choice F.autos ts → Stands t.face.shapes.structs t.defs F (store_sampled boxes (length t.defs) F ts)
sampled t table ranked F sound r boxes p ts c =
    let u = use_lower t.face.shapes [] t.defs table.sound ranked in
    let k = are_choices t.face.shapes [] t.defs boxes table.sound p in
    let n : length t.face.boxes ≡ length t.defs = ap length table.faces ∙ faces_long t.defs in
    let filled = sound.well_formed.filled in
    let low = subst (λ (m : ℕ). AllUse m F.autos) n (forest_uses t.face F.autos filled.rules) in
    let inside = rules_inside t.defs boxes u k (length t.defs)
    (boxes_inside t.defs boxes u k (length t.defs) (omega arith)) (length t.defs) (omega arith) F.autos low in
    let tops = filled.trees ts c in
    let d = forest_dressed t.defs (insides_made boxes (length t.defs)) [] F.autos ts tops.tops 1 r inside c tops.are in
    let nodes : Nodes = (forest_made (insides_made boxes (length t.defs)) [] ts 1).0 in
    let s = stands t F (forest_made (insides_made boxes (length t.defs)) [] ts 1).0 d.0
    (fields_full t table F filled (forest_made (insides_made boxes (length t.defs)) [] ts 1).0 d.0)
    (facts_named (forest_made (insides_made boxes (length t.defs)) [] ts 1).0)
    (root_values_named (forest_made (insides_made boxes (length t.defs)) [] ts 1).0)
    (forest_made (insides_made boxes (length t.defs)) [] ts 1).1 (d.1 (omega arith) tt) in
    let e : roots_of (forest_made (insides_made boxes (length t.defs)) [] ts 1).0 ≡ root_values [] ts 1 =
    ports_values [] (made (insides_made boxes (length t.defs)) (root_values [] ts 1)) ts 1 (roots_begun [] ts 1) in (
      (forest_made (insides_made boxes (length t.defs)) [] ts 1).0,
      subst (λ (vs : List Value). StandsBy t.face.shapes.structs t.defs F
          (forest_made (insides_made boxes (length t.defs)) [] ts 1).0
          (store_made F vs (written (forest_out [] (forest_made (insides_made boxes (length t.defs)) [] ts 1).0) []))) e
          s,
    )

-- Each forest has trees, and so a member.

insides_of : (shapes : Shapes) (before defs : List BoxDef) → AreSoundOver shapes before defs
    → (boxes : List (List Tree)) × ArePicked defs boxes
insides_of shapes before [] h = ([], tt)
insides_of shapes before (d ∷ defs) h =
    let k = some_choice d.inside.autos h.0.full in
    let r = insides_of shapes (before ++ d ∷ []) defs h.1 in
    (k.0 ∷ r.0, (k.1, r.1))

pub has_member : (face : Face) (T : List BoxDef) (F : Forest) → IsTableOf face T → AreRankedInsides T → IsSound face F
    → Every IsRanked F.autos → (s : Store) × Stands face.shapes.structs T F s
has_member face T F table ranked sound r =
    let t : Boxes = record { face = face; defs = T } in
    let boxes = insides_of face.shapes [] T table.sound in
    let ts = some_choice F.autos sound.full in (
      store_sampled boxes.0 (length T) F ts.0,
      sampled (record { face = face; defs = T }) table ranked F sound r boxes.0 boxes.1 ts.0 ts.1,
    )

-- What is picked, box by box.

-- the box of a number is sound, so that its components have trees
pub full_at : (shapes : Shapes) (before defs : List BoxDef) (b : ℕ) (d : BoxDef) → AreSoundOver shapes before defs
    → slice_get defs b ≡ Some d → Every HasSome d.inside.autos
full_at shapes before [] b d h e = absurd (none-some d e)
full_at shapes before (x ∷ defs) zero d h e =
    subst (λ (y : BoxDef). Every HasSome y.inside.autos) (same_Some x d e) h.0.full
full_at shapes before (x ∷ defs) (suc b) d h e = full_at shapes (before ++ x ∷ []) defs b d h.1 e

picked_suc : (defs : List BoxDef) (boxes : List (List Tree)) (n : ℕ) (ts : List Tree) → n < length defs
    → ArePicked (take n defs) boxes → IsPickedAt defs n ts → ArePicked (take (suc n) defs) (boxes ++ ts ∷ [])
picked_suc [] boxes n ts l h p = absurd (omega (arith, l))
picked_suc (d ∷ defs) [] zero ts l h p = (p d refl, tt)
picked_suc (d ∷ defs) (us ∷ boxes) zero ts l h p = absurd h
picked_suc (d ∷ defs) [] (suc n) ts l h p = absurd h
picked_suc (d ∷ defs) (us ∷ boxes) (suc n) ts l h p =
    (h.0, picked_suc defs boxes n ts (let z : suc n < suc (length defs) = l in omega (arith, z)) h.1 (λ x e. p x e))

-- one box more
pub picked_next : (defs : List BoxDef) (boxes : List (List Tree)) (n : ℕ) (ts : List Tree) → n < length defs
    → ArePicked (take n defs) boxes → IsPickedAt defs n ts → ArePicked (take (n + 1) defs) (boxes ++ ts ∷ [])
picked_next defs boxes n ts l h p =
    let e : suc n ≡ n + 1 = omega arith in
    subst (λ (k : ℕ). ArePicked (take k defs) (boxes ++ ts ∷ [])) e (picked_suc defs boxes n ts l h p)
