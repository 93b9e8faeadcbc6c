-- In the facts of a dressed forest of a filled forest each cell has the fields of its struct, each once.
use Rattle.std.proofs.Common.{◌≡◌, inl, ℕ, List, sym, ap, subst, arith}
use Rattle.std.proofs.Common.{Some, slice_get}
use Rattle.fa_core.specs.declared.faces.Face.{Face}
use Rattle.fa_core.specs.declared.forest.Forest.{Forest}
use Rattle.fa_core.specs.Boxes.{Boxes, IsBoxTable, faces_of}
use Rattle.fa_core.specs.Choices.{bares}
use Rattle.fa_core.specs.Dressed.{Nodes, facts, roots_of}
use Rattle.fa_core.specs.Filled.{IsFilled}
use Rattle.fa_core.specs.Member.{OfForest}
use Rattle.fa_core.specs.Rearranged.{Rearranged}
use Rattle.fa_core.proofs.Dressing.{choice_of}
use Rattle.fa_core.proofs.Given.{all_tips}
use Rattle.fa_core.proofs.SameCounts.{alike}
use Rattle.fa_core.proofs.SeenCells.{tops_structs}
use Rattle.fa_facts.specs.Fields.{fields_at, fields_owed}
use Rattle.fa_facts.proofs.BoxFields.{table_gives}
use Rattle.fa_facts.proofs.FactCounts.{given_n, owed_n}
use Rattle.fa_facts.proofs.ForestFields.{root_is, trees_count}
use Rattle.fa_facts.proofs.RootGifts.{roots_tips}

module _ (t : Boxes) (table : IsBoxTable t) (F : Forest) (filled : IsFilled t.face F) (d : Nodes)
    (of : OfForest t.defs F d) where
  abbrev face : Face
  face = record { shapes = t.face.shapes; boxes = faces_of t.defs }

  filled_here : IsFilled face F
  filled_here = let e = table.faces in
      subst (λ (x : Face). IsFilled x F) (ap (λ bs. record { shapes = t.face.shapes; boxes = bs }) e) filled

  counts_same : (c f : ℕ) → given_n t.face.shapes.structs c f (facts d) ≡ owed_n t.face.shapes.structs c f (facts d)
  counts_same c f =
      let k = filled_here.trees (bares d) (choice_of t.defs F.autos d of) in
      let gives = table_gives t.face.shapes c f t.defs table.sound in
      let e = trees_count face t.defs c f (λ b. (gives b).0) (λ b. (gives b).1) d k.tops (roots_of d)
      (λ r s g h i. inl
      (root_is d r s (subst (λ (x : List ℕ). slice_get x r ≡ Some s) (tops_structs d k.tops k.are) h))) F.autos d 0 of
      k.cells (λ p i. i) in
      let z = roots_tips face t.defs c f (roots_of d) (all_tips face.boxes d) in
      omega (arith, e, z)

  pub fields_full : (c : ℕ) → Rearranged (fields_owed t.face.shapes.structs c (facts d)) (fields_at c (facts d))
  fields_full c = alike (fields_owed t.face.shapes.structs c (facts d)) (fields_at c (facts d))
      (λ f. sym (counts_same c f))
