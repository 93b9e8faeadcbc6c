-- Of two canonical forests without box edges the one covers the other exactly where it has the other's members.
use Rattle.std.proofs.Common.{◌≡◌, ◌↔◌, List, [], ◌∷◌, sym, ap, subst, ◌∙◌}
use Rattle.fore_base.specs.Lists.{Every, Paired}
use Rattle.fore_base.specs.declared.store.Store.{Store}
use Rattle.ta_core.specs.Auto.{Automaton, IsRanked}
use Rattle.ta_core.specs.Language.{IsWithin}
use Rattle.ta_core.specs.declared.tree.Tree.{Tree}
use Rattle.fa_core.specs.declared.boxes.BoxDef.{BoxDef}
use Rattle.fa_core.specs.declared.faces.Face.{Face}
use Rattle.fa_core.specs.declared.forest.Forest.{Forest}
use Rattle.fa_core.specs.Boxes.{IsTableOf}
use Rattle.fa_core.specs.Choices.{bares}
use Rattle.fa_core.specs.Covering.{Covers}
use Rattle.fa_core.specs.Filled.{Choice, HasSome}
use Rattle.fa_core.specs.Member.{Stands}
use Rattle.fa_core.proofs.Composed.{covered_members}
use Rattle.fa_core.proofs.Dressing.{choice_of}
use Rattle.fa_back.proofs.Dressable.{some_choice}
use Rattle.fa_unique.specs.Presented.{IsPlainCanonical}
use Rattle.fa_unique.proofs.ChoiceMembers.{choice_member}
use Rattle.fa_unique.proofs.OneForm.{one_form}

-- where each choice of the one list is one of the other, and no component is empty, each language is within the other
within_each : (autos others : List Automaton) → Every HasSome autos
    → ((ts : List Tree) → Choice autos ts → Choice others ts) → Paired IsWithin autos others
within_each [] [] full h = tt
within_each [] (b ∷ others) full h = absurd (h [] tt)
within_each (a ∷ autos) [] full h =
    let c = some_choice autos full.1 in absurd (h (full.0.0 ∷ c.0) (full.0.1, c.1))
within_each (a ∷ autos) (b ∷ others) full h =
    let c = some_choice autos full.1 in (
      (λ t i. (h (t ∷ c.0) (i, c.1)).0),
      within_each autos others full.1 (λ ts k. (h (full.0.0 ∷ ts) (full.0.1, k)).1),
    )

module _ (face : Face) (T : List BoxDef) (table : IsTableOf face T) (F G : Forest) (p : IsPlainCanonical face F)
    (q : IsPlainCanonical face G) (full : Every HasSome G.autos) (ranked : Every IsRanked G.autos)
    (all : (s : Store) → Stands face.shapes.structs T G s → Stands face.shapes.structs T F s) where
  -- a choice of the one is that of a member, which the other has by the same trees
  same_choice : (ts : List Tree) → Choice G.autos ts
      → Choice F.autos ts × (G.vars ≡ F.vars) × (G.data_vars ≡ F.data_vars)
  same_choice ts c =
      let m = choice_member face T table G q.canonical.well_formed.filled q.plain ranked ts c in
      let e = all m.0 (m.1, m.3) in
      let one = one_form face F G T T e.0 m.1 m.0 p q e.1 m.3 in (
        subst (λ (us : List Tree). Choice F.autos us) (ap bares one.0 ∙ m.2) (choice_of T F.autos e.0 e.1.of),
        sym one.1,
        sym one.2,
      )

  covering : Covers F G
  covering =
      let c = some_choice G.autos full in
      let k = same_choice c.0 c.1 in
      record {
        vars = k.1;
        data_vars = k.2;
        within = within_each G.autos F.autos full (λ ts i. (same_choice ts i).0);
      }

pub members_cover : (face : Face) (T : List BoxDef) (F G : Forest) → IsTableOf face T → IsPlainCanonical face F
    → IsPlainCanonical face G → Every HasSome G.autos → Every IsRanked G.autos
    → (Covers F G ↔ ((s : Store) → Stands face.shapes.structs T G s → Stands face.shapes.structs T F s))
members_cover face T F G table p q full ranked = (there, covering face T table F G p q full ranked)
  where
    there : Covers F G → (s : Store) → Stands face.shapes.structs T G s → Stands face.shapes.structs T F s
    there c s h = covered_members face.shapes.structs T F G c s h
