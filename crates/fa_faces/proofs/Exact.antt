-- An unbroken box that is well named is sound, and a sound box has no other face and breaks no rule.
use Rattle.std.proofs.Common.{◌≡◌, ℕ, List, Option, refl, sym, ap, subst, ◌∙◌}
use Rattle.fa_core.specs.declared.boxes.BoxDef.{BoxDef}
use Rattle.fa_core.specs.declared.faces.BoxFace.{BoxFace}
use Rattle.fa_core.specs.declared.faces.Face.{Face}
use Rattle.fa_core.specs.declared.forest.Forest.{Forest}
use Rattle.fa_core.specs.Boxes.{Boxes, IsBoxTable, SoundBox}
use Rattle.fa_back.specs.Insides.{AreRankedInsides}
use Rattle.fa_box_rules.specs.Rules.{Inside, IsWellNamed, Breaks, BreaksFirst, IsUnbroken, inside_of}
use Rattle.fa_box_rules.specs.declared.rule.BoxRule.{BoxRule}
use Rattle.fa_box_rules.specs.declared.rule.BoxRule.TheVariants.{B4, B5, B6, B7}
use Rattle.fa_box_rules.proofs.OneFace.{one_face}
use Rattle.fa_box_rules.proofs.SoundBoxes.{none_broken}
use Rattle.fa_box_rules.proofs.Unbroken.{unbroken_sound}
use Rattle.fa_faces.specs.Faults.{box_inside, IsFaultOf}
use Rattle.fa_faces.specs.declared.fault.FaceFault.{FaceFault}
use Rattle.fa_faces.specs.declared.fault.FaceFault.TheVariants.{Breaks as BreaksRule, Memory}
use Rattle.fa_faces.proofs.Named.{refs_there, rules_ports}

abbrev def_of : List ℕ → BoxFace → Forest → BoxDef
def_of n x inside = record { name = n; face = x; inside = inside }

-- the first rule that a box breaks is one that it breaks
first_broken : (face : Face) (T : List BoxDef) (b : Inside) (r : BoxRule) → BreaksFirst face T b r → Breaks face T b r
first_broken face T b B4 f = f.1
first_broken face T b B5 f = f.2
first_broken face T b B6 f = f.3
first_broken face T b B7 f = f

module _ (t : Boxes) (input : ℕ) (output : Option ℕ) (inside : Forest)
    (named : IsWellNamed t.face (box_inside input output inside.autos)) where
  same_inside : (n : List ℕ) (x : BoxFace) → x.input ≡ input → x.output ≡ output
      → inside_of (def_of n x inside) ≡ box_inside input output inside.autos
  same_inside n x i o =
      ap (λ (k : ℕ). box_inside k x.output inside.autos) i
      ∙ ap (λ (k : Option ℕ). box_inside input k inside.autos) o

  pub face_sound : (x : BoxFace) → IsUnbroken t.face t.defs (box_inside input output inside.autos) x → (n : List ℕ)
      → SoundBox t.face t.defs (def_of n x inside)
  face_sound x h n =
      unbroken_sound t.face t.defs (def_of n x inside)
      (rules_ports t.face (box_inside input output inside.autos) x h.one.output named)
      (refs_there inside.autos named.refs)
      (subst (λ (b : Inside). IsUnbroken t.face t.defs b x) (sym (same_inside n x h.one.input h.one.output)) h)

  module _ (table : IsBoxTable t) (insides : AreRankedInsides t.defs) (n : List ℕ) (x : BoxFace) (i : x.input ≡ input)
      (o : x.output ≡ output) (sound : SoundBox t.face t.defs (def_of n x inside)) where
    pub sound_face : (y : BoxFace) → IsUnbroken t.face t.defs (box_inside input output inside.autos) y → y ≡ x
    sound_face y h =
        one_face t table insides n n y x inside named.ranked (h.one.output ∙ sym o) (face_sound y h n) sound

    pub sound_fault : (e : FaceFault) → IsFaultOf t.face t.defs (box_inside input output inside.autos) e → e ≡ Memory
    sound_fault (BreaksRule r) f = absurd (none_broken t.face t.defs (def_of n x inside) sound r
        (first_broken t.face t.defs (inside_of (def_of n x inside)) r
        (subst (λ (b : Inside). BreaksFirst t.face t.defs b r) (sym (same_inside n x i o)) f)))
    sound_fault Memory f = refl
