-- A fold of a part that is within its box, once its ports and inner roots are found.
use Rattle.std.proofs.Common.{◌≡◌, ◌<◌, ℕ, List, length, sym, subst, Option, Some, None, slice_get, arith}
use Rattle.std.proofs.Common.{zero, suc, [], ◌∷◌}
use Rattle.std.proofs.lemmas.Option.{none-some}
use Rattle.fore_base.specs.Lists.{Every, IsDistinct}
use Rattle.fore_base.proofs.ListLemmas.{same_item}
use Rattle.ta_core.specs.Auto.{IsRanked}
use Rattle.fa_back.specs.Insides.{AreRankedInsides}
use Rattle.fa_back.proofs.Dressable.{some_choice}
use Rattle.fa_core.specs.Boxes.{Boxes, IsBoxTable}
use Rattle.fa_core.specs.Filled.{IsSound}
use Rattle.fa_core.specs.Folding.{ArePartRoots, ArePortRoots, FoldOf, IsPart, IsPartWithin, Ports, PortsAre, taken_at}
use Rattle.fa_core.specs.LeastFolds.{CanFold}
use Rattle.fa_core.specs.declared.boxes.BoxDef.{BoxDef}
use Rattle.fa_core.specs.declared.faces.Face.{Face}
use Rattle.fa_core.specs.declared.forest.Forest.{Forest}
use Rattle.fa_sound.specs.Soundness.{SoundForest, IsSigned}
use Rattle.fa_unfold.specs.Sites.{IsOver}
use Rattle.fa_folding.specs.Made.{AreFoldable, folded_forest, kept_first, kept_of, new_output}
use Rattle.fa_folding.proofs.FoldWhole.{folds_made}
use Rattle.fa_folding.proofs.FoldedRanked.{folds_foldable}
use Rattle.fa_folding.proofs.FoldedSound.{folds_sound}
use Rattle.fa_merge.specs.Reordered.{IsOrderOf, counted, reordered}
use Rattle.fa_part.specs.Sites.{OutputFits}
use Rattle.fa_part.specs.declared.ports.Port.{Port}
use Rattle.fa_part.specs.declared.ports.PortFields.{PortFields}
use Rattle.fa_fold.specs.inner.Fields.{AreBoxFields}
use Rattle.fa_fold.specs.inner.Folds.{IsFoldable, fold_of}
use Rattle.fa_part.specs.Made.{IsMade}
use Rattle.fa_part.specs.Ports.{AreInnerRoots, ArePortsAt, IsPortOf, IsTakenOnce, ports_of, shapes_of}
use Rattle.fa_fold.specs.TopFields.{all_top_fields}
use Rattle.fa_fold.proofs.FallingFolds.{folds_fall}
use Rattle.fa_fold.proofs.OneParts.{within_by_other}
use Rattle.fa_part.proofs.BoxFields.{ports_made}
use Rattle.fa_part.proofs.PartRoots.{one_inner}
use Rattle.fa_part.proofs.PortLists.{each_once, each_port}
use Rattle.fa_part.proofs.WholeParts.{is_part, one_ports}

pub is_over : (T : Boxes) (face : Face) (F : Forest) → IsBoxTable T → AreRankedInsides T.defs → T.face ≡ face
    → IsSound face F → Every IsRanked F.autos → IsOver T F
is_over T face F table insides e sound ranked = record {
  table = table;
  insides = insides;
  sound = subst (λ (z : Face). IsSound z F) (sym e) sound;
  ranked = ranked;
}

-- the box is there
pub box_low : (T : Boxes) (F : Forest) (n i : ℕ) (out : Option ℕ) → CanFold T F n i out → n < length T.defs
box_low T F n i out (def, there, w) = low T.defs n there
  where
    low : (xs : List BoxDef) (k : ℕ) → slice_get xs k ≡ Some def → k < length xs
    low [] k e = absurd (none-some def e)
    low (x ∷ xs) zero e = omega arith
    low (x ∷ xs) (suc k) e = let l = low xs k e in omega (arith, l)

-- an output is named exactly where it has one
pub output_right : (T : Boxes) (F : Forest) (n i : ℕ) (out : Option ℕ) (b : BoxDef) → slice_get T.defs n ≡ Some b
    → CanFold T F n i out → OutputFits b.face.output out
output_right T F n i out b at (def, there, (g, part, within)) =
    subst (λ (z : BoxDef). OutputFits z.face.output out) (same_item T.defs n def b there at)
    (by out part.ports part.shapes part.are_ports)
  where
    by : (o : Option ℕ) (ps : Ports) (ss : List ℕ) → PortsAre T.face.boxes def i o ps ss → OutputFits def.face.output o
    by None ps ss (a, ins, there, fields, ports, none, shapes) =
        subst (λ (z : Option ℕ). OutputFits z None) (sym none) tt
    by (Some j) ps ss (a, c, ins, outs, t, there, to, fields, fields_out, ports, some, shapes) =
        subst (λ (z : Option ℕ). OutputFits z (Some j)) (sym some) tt

-- What is known once the ports are found.
module _ (T : Boxes) (table : IsBoxTable T) (insides : AreRankedInsides T.defs) (s : SoundForest)
    (face : T.face ≡ s.face) (signed : IsSigned s) (n i : ℕ) (out : Option ℕ) (can : CanFold T s.forest n i out)
    (x : PortFields) (fields : AreBoxFields T n x) (b : BoxDef) (at : slice_get T.defs n ≡ Some b) (ps : List Port)
    (ports : ArePortsAt b x i out ps) where
  abbrev F : Forest
  F = s.forest

  over : IsOver T F
  over = is_over T s.face F table insides face signed.sound signed.ranked

  are : PortsAre T.face.boxes b i out (ports_of ps) (shapes_of ps)
  are = ports_made T.face.boxes b x i out ps (output_right T F n i out b at can) (fields b at) ports

  -- a part that is within the box
  record SomePart : Type 0 where
    pub g : BoxDef
    pub part : IsPart T.face.boxes F b i out g
    pub within : IsPartWithin g b

  some_part : CanFold T F n i out → SomePart
  some_part (def, there, (g, part, within)) =
      let e : def ≡ b = same_item T.defs n def b there at in
      record {
        g = g;
        part = subst (λ (z : BoxDef). IsPart T.face.boxes F z i out g) e part;
        within = subst (λ (z : BoxDef). IsPartWithin g z) e within;
      }

  some : SomePart
  some = some_part can

  ports_same : (g : BoxDef) (p : IsPart T.face.boxes F b i out g) → p.ports ≡ ports_of ps
  ports_same g p =
      (one_ports T.face.boxes b i out p.ports (ports_of ps) p.shapes (shapes_of ps) p.are_ports are).0

  -- the ports are roots of ports, with each field once
  pub ports_there : Every (IsPortOf F.autos) ps
  ports_there =
      let p = some.part in
      let e = one_ports T.face.boxes b i out p.ports (ports_of ps) p.shapes (shapes_of ps) p.are_ports are in
      each_port F.autos ps (subst (λ (ss : List ℕ). ArePortRoots F.autos (ports_of ps) ss) e.1
      (subst (λ (qs : Ports). ArePortRoots F.autos qs p.shapes) e.0 p.roots))

  once_there : Every (IsTakenOnce ps) ps
  once_there = each_once ps
      (subst (λ (qs : Ports). (r : ℕ) → IsDistinct (taken_at qs r)) (ports_same some.g some.part) some.part.once)

  -- some roots are its inner roots
  pub inner_there : (inner : List ℕ) × AreInnerRoots F (ports_of ps) inner
  inner_there = (
    some.part.inner,
    subst (λ (qs : Ports). AreInnerRoots F qs some.part.inner) (ports_same some.g some.part) some.part.reached,
  )

  module _ (inner : List ℕ) (found : AreInnerRoots F (ports_of ps) inner) where
    inner_same : (g : BoxDef) (p : IsPart T.face.boxes F b i out g) → p.inner ≡ inner
    inner_same g p =
        let c = some_choice F.autos over.sound.full in
        one_inner F.vars c.0 (ports_of ps) p.inner inner
        (subst (λ (qs : Ports). ArePartRoots F.vars c.0 qs p.inner) (ports_same g p) (p.reached c.0 c.1))
        (found c.0 c.1)

    -- so the fold can be made
    pub is_foldable : IsFoldable T F n i out b ps inner
    is_foldable =
        let p = some.part in
        let q = ports_same some.g p in
        let e = inner_same some.g p in
        record {
          order = subst (λ (xs : List ℕ). IsOrderOf F (kept_first F xs)) e
              (folds_made T F n i out b some.g over at p some.within).order;
          each = subst
              (λ (xs : List ℕ). AreFoldable T.face.boxes (ports_of ps) n i (new_output xs out)
              (kept_of xs (counted 0 (length F.autos))) (reordered (kept_first F xs) F).autos) e
              (subst
              (λ (us : Ports). AreFoldable T.face.boxes us n i (new_output p.inner out)
              (kept_of p.inner (counted 0 (length F.autos))) (reordered (kept_first F p.inner) F).autos) q
              (folds_foldable T F n i out b some.g over at p some.within));
          sound = subst
              (λ (xs : List ℕ). IsSound T.face (reordered (kept_first F xs) F)
              → IsSound T.face (fold_of T F n i out ps xs)) e
              (subst
              (λ (us : Ports). IsSound T.face (reordered (kept_first F p.inner) F)
              → IsSound T.face (folded_forest T.face.boxes us n i (new_output p.inner out)
              (kept_of p.inner (counted 0 (length F.autos))) (reordered (kept_first F p.inner) F))) q
              (folds_sound T F n i out b some.g over at p some.within));
          falls = subst
              (λ (xs : List ℕ). all_top_fields (fold_of T F n i out ps xs).autos < all_top_fields F.autos) e
              (subst
              (λ (us : Ports). all_top_fields (folded_forest T.face.boxes us n i (new_output p.inner out)
              (kept_of p.inner (counted 0 (length F.autos))) (reordered (kept_first F p.inner) F)).autos
              < all_top_fields F.autos) q
              (folds_fall T F n i out b some.g over at p some.within));
          fold = made;
        }
      where
        made : (g : BoxDef) → IsMade F.autos b ps inner g
            → FoldOf T.face.boxes T.defs F (fold_of T F n i out ps inner) n i out g
        made g m =
            let p = is_part T.face.boxes F b i out ps are inner g ports_there once_there found m in
            let w = within_by_other T.face.boxes T.face F over.sound b i out g some.g p some.part some.within in
            subst (λ (xs : List ℕ). FoldOf T.face.boxes T.defs F (fold_of T F n i out ps xs) n i out g)
            (inner_same g p)
            (subst
            (λ (us : Ports). FoldOf T.face.boxes T.defs F (folded_forest T.face.boxes us n i (new_output p.inner out)
            (kept_of p.inner (counted 0 (length F.autos))) (reordered (kept_first F p.inner) F)) n i out g)
            (ports_same g p) (folds_made T F n i out b g over at p w).fold)
