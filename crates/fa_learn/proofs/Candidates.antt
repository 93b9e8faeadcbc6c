-- Candidates of sound forests are sound boxes.
use Rattle.std.proofs.Common.{◌≡◌, ◌≤◌, ℕ, List, [], ◌∷◌, length, map, Option, Some, refl, sym, ap, subst}
use Rattle.std.proofs.Common.{◌∙◌, suc, arith}
use Rattle.fore_base.specs.Lists.{Every}
use Rattle.ta_core.specs.Auto.{Automaton, IsRanked}
use Rattle.ta_core.specs.Language.{IsTrim}
use Rattle.fa_core.specs.declared.boxes.BoxDef.{BoxDef}
use Rattle.fa_core.specs.declared.forest.Forest.{Forest}
use Rattle.fa_core.specs.Boxes.{Boxes, IsBoxTable, InsideRulesFit, SoundBox, port_fields}
use Rattle.fa_core.specs.Filled.{IsSound}
use Rattle.fa_core.specs.Words.{IsWord}
use Rattle.fa_box_rules.specs.Rules.{AreRefsThere, HaveSignatures, Inside, IsFaceOf, IsUnbroken, inside_of}
use Rattle.fa_box_rules.proofs.Unbroken.{unbroken_sound}
use Rattle.fa_learn.specs.Learning.{HasLearntName, IsBoxBetween, IsCandidate}
use Rattle.fa_learn.proofs.Betweens.{refs, rules, unbroken}
use Rattle.fa_learn.proofs.LearntNames.{few_names, learnt_word}

module _ (t : Boxes) (table : IsBoxTable t) (F : Forest) (sound : IsSound t.face F) (ranked : Every IsRanked F.autos)
    (i j : ℕ) (g : BoxDef) (h : IsBoxBetween F i j g) where
  -- the box without its face
  abbrev bare_box : Inside
  bare_box = record {
    input = h.between.in_shape;
    output = Some h.between.out_shape;
    autos = h.first ∷ h.second ∷ [];
  }

  pub same_inside : inside_of g ≡ bare_box
  same_inside =
      ap (λ (n : ℕ). record { input = n; output = g.face.output; autos = g.inside.autos }) h.face_in
      ∙ ap (λ (o : Option ℕ). record { input = h.between.in_shape; output = o; autos = g.inside.autos }) h.face_out
      ∙ ap (λ (l : List Automaton). record {
        input = h.between.in_shape;
        output = Some h.between.out_shape;
        autos = l;
      }) h.autos

  both_trim : Every IsTrim (h.first ∷ h.second ∷ [])
  both_trim = subst (λ (l : List Automaton). Every IsTrim l) h.autos h.trim

  both_ranked : Every IsRanked (h.first ∷ h.second ∷ [])
  both_ranked = subst (λ (l : List Automaton). Every IsRanked l) h.autos h.ranked

  -- it is a sound box, whatever its name, where each state has one signature and the face is what the trees show
  pub between_sound : Every (HaveSignatures t.face.boxes) g.inside.autos → IsFaceOf t.face t.defs (inside_of g) g.face
      → SoundBox t.face t.defs g
  between_sound signs face =
      let fit : InsideRulesFit t.face (g.face.gives_in ∷ g.face.gives_out ∷ []) (h.first ∷ h.second ∷ []) =
      rules t F sound ranked i j h.ins h.outs h.between h.first h.second h.at_input h.at_output both_trim.0 both_trim.1.0
      both_ranked.0 both_ranked.1.0 (g.face.gives_in ∷ g.face.gives_out ∷ []) refl in
      unbroken_sound t.face t.defs g
      (subst (λ (o : Option ℕ). InsideRulesFit t.face (port_fields g.face o) g.inside.autos) (sym h.face_out)
      (subst (λ (l : List Automaton). InsideRulesFit t.face (g.face.gives_in ∷ g.face.gives_out ∷ []) l) (sym h.autos)
      fit))
      (subst AreRefsThere (sym h.autos)
      (refs t F sound ranked i j h.ins h.outs h.between h.first h.second h.at_input h.at_output))
      (subst (λ (b : Inside). IsUnbroken t.face t.defs b g.face) (sym same_inside)
      (unbroken t F sound ranked i j h.ins h.outs h.between h.first h.second h.at_input h.at_output both_trim.0
      both_trim.1.0 both_ranked.0 both_ranked.1.0 table g.face
      (subst (λ (l : List Automaton). Every (HaveSignatures t.face.boxes) l) h.autos signs)
      (subst (λ (b : Inside). IsFaceOf t.face t.defs b g.face) same_inside face)))

-- a learnt name is a word
pub named_word : (t : Boxes) → IsBoxTable t → (g : BoxDef) → HasLearntName t g → IsWord g.name
named_word t table g h =
    let names = map (λ (b : BoxDef). b.name) t.defs in
    let l = few_names names h.number (few t.defs table.count) h.least in
    subst IsWord (sym h.name) (learnt_word h.number (omega (arith, l)))
  where
    few : (ds : List BoxDef) → length ds ≤ 32 → length (map (λ (b : BoxDef). b.name) ds) ≤ 32
    few ds l = let e = same ds in omega (arith, l, e)
      where
        same : (ds : List BoxDef) → length (map (λ (b : BoxDef). b.name) ds) ≡ length ds
        same [] = refl
        same (d ∷ ds) = ap suc (same ds)

-- the law
pub candidate_sound : (t : Boxes) → IsBoxTable t → (F : Forest) → IsSound t.face F → Every IsRanked F.autos → (i j : ℕ)
    (g : BoxDef) → IsCandidate t F i j g → SoundBox t.face t.defs g
candidate_sound t table F sound ranked i j g h =
    between_sound t table F sound ranked i j g h.is h.signatures h.face
