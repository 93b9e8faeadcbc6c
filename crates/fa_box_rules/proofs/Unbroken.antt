-- A box that breaks none of the rules and has a face is sound, and a sound box is so.
use Rattle.std.proofs.Common.{◌≡◌, ◌≢◌, inl, inr, ℕ, suc, List, [], ◌∷◌, ◌++◌}
use Rattle.std.proofs.Common.{length, Option, Some, None, slice_get, refl, ap, subst, ◌∙◌, arith}
use Rattle.fore_base.specs.Lists.{IsIn, Every}
use Rattle.fore_base.proofs.ListLemmas.{every_weaker}
use Rattle.ta_core.specs.Auto.{Automaton}
use Rattle.ta_core.specs.Language.{InLanguage}
use Rattle.ta_core.specs.declared.tree.Tree.{Tree}
use Rattle.fa_core.specs.declared.boxes.BoxDef.{BoxDef}
use Rattle.fa_core.specs.declared.faces.BoxFace.{BoxFace}
use Rattle.fa_core.specs.declared.faces.Face.{Face}
use Rattle.fa_core.specs.Boxes.{IsPortFilled, InsideFilled, InsideRulesFit, port_structs, port_fields, Begins}
use Rattle.fa_core.specs.Boxes.{InsideFits}
use Rattle.fa_core.specs.Boxes.{CoverSome, PortsCover, SoundBox}
use Rattle.fa_core.specs.Filled.{Choice, TopsAre, IsTopped, IsFilledSpot}
use Rattle.fa_core.specs.Filled.{Spot}
use Rattle.fa_core.specs.Filled.{spots, given_at, HasField, HasSome}
use Rattle.fa_core.specs.Folding.{covered_fields}
use Rattle.fa_core.specs.Rearranged.{Rearranged}
use Rattle.fa_back.proofs.Dressable.{some_choice}
use Rattle.fa_core.proofs.Rearranging.{back}
use Rattle.fa_core.proofs.NodeSpots.{spots_out}
use Rattle.fa_box_rules.specs.Cells.{IsRightCell}
use Rattle.fa_box_rules.specs.Cells.{IsRightUnder}
use Rattle.fa_box_rules.specs.Cells.{AreRight}
use Rattle.fa_box_rules.specs.Rules.{port_count, structs_of, root_fields, Gives, GivesOutput}
use Rattle.fa_box_rules.specs.Rules.{inside_of}
use Rattle.fa_box_rules.specs.Rules.{AreRefsThere, IsUnbroken}
use Rattle.fa_box_rules.proofs.SoundBoxes.{nil_only, ends_alike, are_right, ports_differ}
use Rattle.fa_box_rules.proofs.SoundBoxes.{ports_count, tree_topped, port_struct, face_is}

-- From right cells to filled ones.

module _ (face : Face) (ts : List Tree) (tops : List ℕ) (are : TopsAre ts tops) where
  filled_cell : (p : Spot) → IsRightCell face ts p → IsFilledSpot face tops p
  filled_cell p h = record {
    ends = (ends_alike face ts tops are p.shape p.slots p.ends).1 h.ends;
    order = h.order;
    once = h.once;
  }

  -- the inner roots
  inner_filled : (r : ℕ) (us : List Tree) → AreRight face ts r 0 us → InsideFilled face ts tops r [] us
  inner_filled r [] h = refl
  inner_filled r (u ∷ us) h =
      (every_weaker (IsRightCell face ts) (IsFilledSpot face tops) _ filled_cell h.0, inner_filled (suc r) us h.1)

  -- a port that has these fields
  port_filled : (fields above : List ℕ) (t : Tree) (s : ℕ) → IsTopped s t
      → IsRightUnder face ts (spots face.boxes t above) → Rearranged fields (covered_fields face.boxes t ++ above)
      → IsPortFilled face tops fields (spots face.boxes t above)
  port_filled fields above t s h k m =
      let e = h.2 in
      let o = spots_out face.boxes t above in
      let w = rw o at k in
      let v = rw e at w in
      let n = rw e at m in
      rw o (rw e (
        record { ends = (ends_alike face ts tops are s h.1 _).1 v.0.ends; order = v.0.order; once = n },
        every_weaker (IsRightCell face ts) (IsFilledSpot face tops) _ filled_cell v.1,
      ))

-- The tops of a choice.

abbrev pub Topped : List Automaton → Type 0
Topped autos = (a : Automaton) (t : Tree) → IsIn a autos → InLanguage a t → (u : ℕ) × IsTopped u t

tops_are : (autos : List Automaton) (ts : List Tree) → Topped autos → Choice autos ts
    → (tops : List ℕ) × TopsAre ts tops
tops_are [] [] h c = ([], tt)
tops_are [] (t ∷ ts) h c = absurd c
tops_are (a ∷ autos) [] h c = absurd c
tops_are (a ∷ autos) (t ∷ ts) h c =
    let k = h a t (inl refl) c.0 in
    let r = tops_are autos ts (λ b u i j. h b u (inr i) j) c.1 in
    (k.0 ∷ r.0, (k.1, r.1))

-- Sound boxes.

module _ (face : Face) where
  -- for each choice the inside fits, where the box has one port
  fits_one : (autos : List Automaton) → (y : BoxFace) → PortsCover face.boxes None autos
      → (ts : List Tree) → Choice autos ts → (tops : List ℕ) → TopsAre ts tops
      → ((r s u : ℕ) (a : Automaton) (t : Tree) → slice_get (structs_of y.input None) r ≡ Some s
      → slice_get autos r ≡ Some a → InLanguage a t → IsTopped u t → u ≡ s)
      → AreRight face ts 0 1 ts → Rearranged y.gives_in (root_fields face.boxes ts 0)
      → Begins (port_structs y None) tops × InsideFilled face ts tops 0 (port_fields y None) ts
  fits_one [] y p ts c tops are structs right gin = absurd p
  fits_one (a ∷ autos) y p [] c tops are structs right gin = absurd c
  fits_one (a ∷ autos) y p (t ∷ ts) c [] are structs right gin = absurd are
  fits_one (a ∷ autos) y p (t ∷ ts) c (s ∷ tops) are structs right gin = (
    (tops, ap (λ (z : ℕ). z ∷ tops) (structs 0 y.input s a t refl refl c.0 are.0)),
    (
      port_filled face (t ∷ ts) (s ∷ tops) are y.gives_in (given_at face.boxes (t ∷ ts) 0) t s are.0 right.0 gin,
      inner_filled face (t ∷ ts) (s ∷ tops) are 1 ts right.1,
    ),
  )

  -- and where it has two
  fits_two : (autos : List Automaton) → (y : BoxFace) (o : ℕ) → PortsCover face.boxes (Some o) autos
      → (ts : List Tree) → Choice autos ts → (tops : List ℕ) → TopsAre ts tops
      → ((r s u : ℕ) (a : Automaton) (t : Tree) → slice_get (structs_of y.input (Some o)) r ≡ Some s
      → slice_get autos r ≡ Some a → InLanguage a t → IsTopped u t → u ≡ s)
      → AreRight face ts 0 2 ts → Rearranged y.gives_in (root_fields face.boxes ts 0)
      → Rearranged y.gives_out (root_fields face.boxes ts 1)
      → Begins (port_structs y (Some o)) tops × InsideFilled face ts tops 0 (port_fields y (Some o)) ts
  fits_two [] y o p ts c tops are structs right gin gout = absurd p
  fits_two (a ∷ []) y o p ts c tops are structs right gin gout = absurd p
  fits_two (a ∷ (b ∷ autos)) y o p [] c tops are structs right gin gout = absurd c
  fits_two (a ∷ (b ∷ autos)) y o p (t ∷ []) c tops are structs right gin gout = absurd c.1
  fits_two (a ∷ (b ∷ autos)) y o p (t ∷ (u ∷ ts)) c [] are structs right gin gout = absurd are
  fits_two (a ∷ (b ∷ autos)) y o p (t ∷ (u ∷ ts)) c (s ∷ []) are structs right gin gout = absurd are.1
  fits_two (a ∷ (b ∷ autos)) y o p (t ∷ (u ∷ ts)) c (s ∷ (v ∷ tops)) are structs right gin gout = (
    (
      tops,
      ap (λ (z : ℕ). z ∷ (v ∷ tops)) (structs 0 y.input s a t refl refl c.0 are.0)
          ∙ ap (λ (z : ℕ). y.input ∷ (z ∷ tops)) (structs 1 o v b u refl refl c.1.0 are.1.0),
    ),
    (
      port_filled face (t ∷ (u ∷ ts)) (s ∷ (v ∷ tops)) are y.gives_in (given_at face.boxes (t ∷ (u ∷ ts)) 0) t s are.0
          right.0 gin,
      (
        port_filled face (t ∷ (u ∷ ts)) (s ∷ (v ∷ tops)) are y.gives_out (given_at face.boxes (t ∷ (u ∷ ts)) 1) u v
            are.1.0 right.1.0 gout,
        inner_filled face (t ∷ (u ∷ ts)) (s ∷ (v ∷ tops)) are 2 ts right.1.1,
      ),
    ),
  )

  -- the input has a field, by the slots that it has in any tree
  covers_field : (out : Option ℕ) (autos : List Automaton) (fields : List ℕ) → PortsCover face.boxes out autos
      → Every HasSome autos → Gives face.boxes autos 0 fields → fields ≢ []
  covers_field out [] fields p full g e = absurd p
  covers_field out (a ∷ autos) fields p full g e =
      let c = some_choice autos full.1 in
      let m = g (full.0.0 ∷ c.0) (full.0.1, c.1) in
      let n = nil_only (back (subst (λ (l : List ℕ). Rearranged l (root_fields face.boxes (full.0.0 ∷ c.0) 0)) e m)) in
      none_left (covered_fields face.boxes full.0.0) _ (first_some out a autos p full.0.0 full.0.1) n
    where
      none_left : (xs ys : List ℕ) → HasField xs → xs ++ ys ≡ [] → ⊥
      none_left [] ys h k = h
      none_left (z ∷ xs) ys h k = let w : suc (length (xs ++ ys)) ≡ 0 = ap (λ (l : List ℕ). length l) k in
          absurd (omega (arith, w))

      first_some : (out : Option ℕ) (a : Automaton) (autos : List Automaton) → PortsCover face.boxes out (a ∷ autos)
          → CoverSome face.boxes a
      first_some None a autos q = q.1
      first_some (Some o) a [] q = absurd q
      first_some (Some o) a (b ∷ autos) q = q.1

module _ (face : Face) (x : BoxFace) (autos : List Automaton) where
  abbrev FitsAt : List Tree → List ℕ → Option ℕ → Type 0
  FitsAt ts tops out = Begins (port_structs x out) tops × InsideFilled face ts tops 0 (port_fields x out) ts

  -- the struct of each port's trees
  abbrev pub AreStructs : Option ℕ → Type 0
  AreStructs out = (r s u : ℕ) (a : Automaton) (t : Tree) → slice_get (structs_of x.input out) r ≡ Some s
      → slice_get autos r ≡ Some a → InLanguage a t → IsTopped u t → u ≡ s

  fits_at : (out : Option ℕ) → PortsCover face.boxes out autos → AreStructs out
      → ((ts : List Tree) → Choice autos ts → AreRight face ts 0 (port_count out) ts)
      → Gives face.boxes autos 0 x.gives_in → GivesOutput face.boxes autos out x.gives_out → (ts : List Tree)
      → Choice autos ts → (tops : List ℕ) → TopsAre ts tops → FitsAt ts tops out
  fits_at None covers structs right gin gout ts c tops are =
      fits_one face autos x covers ts c tops are structs (right ts c) (gin ts c)
  fits_at (Some o) covers structs right gin gout ts c tops are =
      fits_two face autos x o covers ts c tops are structs (right ts c) (gin ts c) (gout ts c)

  -- each choice of trees fits the face, where the box breaks neither B4 nor B5
  pub inside_fits : Topped autos → AreStructs x.output → PortsCover face.boxes x.output autos
      → ((ts : List Tree) → Choice autos ts → AreRight face ts 0 (port_count x.output) ts)
      → Gives face.boxes autos 0 x.gives_in → GivesOutput face.boxes autos x.output x.gives_out
      → AreRefsThere autos → (ts : List Tree) → Choice autos ts → InsideFits face x ts
  inside_fits topped structs covers right gin gout refs ts c =
      let m = tops_are autos ts topped c in
      let w = fits_at x.output covers structs right gin gout ts c m.0 m.1 in
      record { tops = m.0; are = m.1; ports = w.0; refs = refs ts c; cells = w.1 }

module _ (face : Face) (T : List BoxDef) (d : BoxDef) where
  pub unbroken_sound : InsideRulesFit face (port_fields d.face d.face.output) d.inside.autos
      → AreRefsThere d.inside.autos → IsUnbroken face T (inside_of d) d.face → SoundBox face T d
  unbroken_sound rules refs h = record {
    rules = rules;
    full = h.full;
    fits = inside_fits face d.face d.inside.autos h.tops h.structs h.covers h.right h.one.gives_in h.one.gives_out refs;
    covers = covers_field face d.face.output d.inside.autos d.face.gives_in h.covers h.full
        h.one.gives_in;
    ports = h.covers;
    in_order = h.one.in_order;
    signatures = h.signatures;
    reached = h.reached;
    back = h.one.back;
  }

  pub sound_unbroken : SoundBox face T d → IsUnbroken face T (inside_of d) d.face
  sound_unbroken h = record {
    full = h.full;
    right = λ ts c. (let f = h.fits ts c in
        let k = are_right face ts f.tops f.are 0 (port_fields d.face d.face.output) ts
        (ports_differ face T d h d.face.output) f.cells in
        subst (λ (n : ℕ). AreRight face ts 0 n ts) (ports_count face T d h ts f.tops f.are d.face.output) k);
    tops = tree_topped face T d h;
    structs = port_struct face T d h;
    covers = h.ports;
    signatures = h.signatures;
    one = face_is face T d h;
    reached = h.reached;
  }

  pub sound_refs : SoundBox face T d → AreRefsThere d.inside.autos
  sound_refs h ts c = (h.fits ts c).refs
