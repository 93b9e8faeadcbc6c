-- The images of a location's edges, in order.
use Rattle.std.proofs.Common.{◌≡◌, ◌<◌, ℕ, List, [], ◌∷◌, ◌++◌, ◌+◌, length, take, slice_get, Some, sym, ap, ◌∙◌}
use Rattle.std.proofs.lemmas.List.{map_push}
use Rattle.std.proofs.lemmas.Option.{slice_get_within}
use Rattle.fore_base.specs.Lists.{Every}
use Rattle.fore_base.proofs.ListLemmas.{every_push}
use Rattle.fa_core.specs.Boxes.{Boxes}
use Rattle.fa_core.specs.declared.forest.Forest.{Forest}
use Rattle.c_cfg.specs.Graphs.{ControlGraph}
use Rattle.c_cfg.specs.declared.graph.Edge.{Edge}
use Rattle.fix_core.specs.Explorations.{IsEdge}
use Rattle.fix_core.proofs.Lists.{some_same, in_at}
use Rattle.fix_successors.specs.Exits.{AreNumbers}
use Rattle.fix_successors.specs.Images.{AreImages, IsEdgeImage, IsImage, edge_numbers}
use Rattle.fix_successors.specs.declared.images.EdgeImage.{EdgeImage}
use Rattle.fix_successors.specs.declared.images.Image.{Image}

module _ (T : Boxes) (g : ControlGraph) (k location : ℕ) (F : Forest) where
  -- one edge more
  pub images_next : (numbers : List ℕ) (i c : ℕ) (e : Edge) (all : List EdgeImage) (image : Image)
      → AreNumbers g.edges (length g.edges) location numbers → slice_get numbers i ≡ Some c → take (i + 1) numbers
      ≡ take i numbers ++ c ∷ [] → IsEdge g c e → IsImage T g k F e image
      → Every (IsEdgeImage T g k location F) all × (edge_numbers all ≡ take i numbers)
      → Every (IsEdgeImage T g k location F) (all ++ (record { edge = c; image = image }) ∷ [])
      × (edge_numbers (all ++ (record { edge = c; image = image }) ∷ []) ≡ take (i + 1) numbers)
  images_next numbers i c e all image are there more is made before =
      let f = (are.each c (in_at numbers i c there)).1 in
      let same : f.0 ≡ e = some_same f.0 e (sym f.1 ∙ is) in (
        every_push (IsEdgeImage T g k location F) all (record { edge = c; image = image }) before.0
            (record { edge = e; is = is; from = ap (λ z. z.from) (sym same) ∙ f.2; image = made }),
        map_push (λ (x : EdgeImage). x.edge) all (record { edge = c; image = image }) ∙ ap (λ z. z ++ c ∷ []) before.1
            ∙ sym more,
      )

  -- the edges of a location are all there
  pub images_all : (numbers : List ℕ) (all : List EdgeImage) → AreNumbers g.edges (length g.edges) location numbers
      → Every (IsEdgeImage T g k location F) all → edge_numbers all ≡ numbers → AreImages T g k location F all
  images_all numbers all are each same = record {
    each = each;
    rises = rw same are.rises;
    all = λ c e is from. rw same (are.all c e (slice_get_within g.edges c e is) is from);
  }

-- an edge of the location is in range
pub number_inside : (g : ControlGraph) (location : ℕ) (numbers : List ℕ) (i c : ℕ)
    → AreNumbers g.edges (length g.edges) location numbers → slice_get numbers i ≡ Some c → c < length g.edges
number_inside g location numbers i c are there = (are.each c (in_at numbers i c there)).0
