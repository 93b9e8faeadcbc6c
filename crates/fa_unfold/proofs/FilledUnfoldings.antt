-- The dressed forests in which a box edge is replaced are filled.
use Rattle.std.proofs.Common.{◌≡◌, ℕ, ◌+◌, length, List, ◌∷◌, map, sym, ap, subst, ◌∙◌, Some, arith}
use Rattle.fore_base.specs.Lists.{IsIn, Every, IsDistinct}
use Rattle.fore_base.proofs.ListLemmas.{every_weaker}
use Rattle.ta_core.specs.Auto.{Automaton}
use Rattle.ta_core.specs.declared.auto.Rule.{Rule}
use Rattle.fa_core.specs.declared.faces.BoxFace.{BoxFace}
use Rattle.fa_core.specs.declared.faces.Face.{Face}
use Rattle.fa_core.specs.declared.forest.Forest.{Forest}
use Rattle.fa_core.specs.declared.forest.Target.{Target}
use Rattle.fa_core.specs.Boxes.{Boxes, faces_of}
use Rattle.fa_core.specs.Choices.{bares, count, all_numbers}
use Rattle.fa_core.specs.Dressed.{Nodes, cells, roots_of, all_refs}
use Rattle.fa_core.specs.Filled.{ChoiceFilled, TreesFilled, IsRoot}
use Rattle.fa_core.specs.Member.{OfForest, TreesOf, inside_of}
use Rattle.fa_core.specs.References.{AllBelow}
use Rattle.fa_core.proofs.Dressing.{bares_length}
use Rattle.fa_core.proofs.FilledKept.{forest_numbers}
use Rattle.fa_core.proofs.SeenCells.{cell_number, node_structs, structs_tops}
use Rattle.fa_merge.proofs.OtherOrders.{count_trees}
use Rattle.fa_split.proofs.SplitCells.{RefersWell, refers_well, all_below}
use Rattle.fa_unfold.specs.Sites.{IsHookAt, IsLinkAt, IsOver}
use Rattle.fa_unfold.specs.Unfolding.{AreHookTops, AreLinkTops, Tops, hook_unfoldings, link_unfoldings}
use Rattle.fa_unfold.specs.inner.Trees.{link_opened, hook_opened}
use Rattle.fa_unfold.proofs.EdgesFilled.{opened_filled, hook_opened_filled}
use Rattle.fa_unfold.proofs.HookUnfoldings.{IsReplacedHook, replaced_hook}
use Rattle.fa_unfold.proofs.LinkUnfoldings.{IsReplaced, replaced}
use Rattle.fa_unfold.proofs.OpenedReferences.{link_size, hook_size}
use Rattle.fa_unfold.proofs.TableInsides.{ranked_inside, output_dressed, vars_there}

module _ (t : Boxes) (F : Forest) (over : IsOver t F) where
  abbrev bs : List BoxFace
  bs = faces_of t.defs

  abbrev shown : Face
  shown = record { shapes = t.face.shapes; boxes = bs }

  same_face : shown ≡ t.face
  same_face = ap (λ (z : List BoxFace). record { shapes = t.face.shapes; boxes = z }) (sym over.table.faces)

  refer : RefersWell F
  refer = refers_well t.face F over.sound

  below : (d : Nodes) → OfForest t.defs F d → AllBelow (count d) (all_refs d)
  below d h = all_below t.defs F d refer h

  long : (d : Nodes) → OfForest t.defs F d → count d ≡ length F.autos
  long d h = count_trees t.defs F.autos d h

  -- what is known of the trees tells that the choice is filled
  told : (G : Forest) → G.vars ≡ F.vars → (n : ℕ) (e : Nodes) → length F.autos + n ≡ count e
      → TreesFilled shown (bares e) (node_structs e) 0 (bares e) → ChoiceFilled t.face G (bares e)
  told G v n e l h = record {
    tops = node_structs e;
    are = structs_tops e;
    vars = subst (λ (ts : List Target). Every (IsRoot (length (bares e))) ts) (sym v)
        (every_weaker (IsRoot (length F.autos)) (IsRoot (length (bares e))) F.vars
        (λ u w r q. (let a = w r q in let b = bares_length e in omega (arith, a, l, b))) (vars_there F refer));
    cells = subst (λ (f : Face). TreesFilled f (bares e) (node_structs e) 0 (bares e)) same_face h;
  }

  numbers_apart : (e : Nodes) → IsDistinct (all_numbers e) → IsDistinct (map cell_number (cells e))
  numbers_apart e a = subst IsDistinct (sym (forest_numbers (roots_of e) e)) a

  pub link_trees_filled : (i p b : ℕ) (y : Target) (input output : Automaton) (inner : List Automaton) (tops : Tops)
      → IsLinkAt F i p b y → inside_of t.defs b ≡ Some (input ∷ (output ∷ inner)) → AreLinkTops F i y input output tops
      → (G : Forest) → IsIn G (link_unfoldings t.face.boxes F i p y input output inner tops) → (e : Nodes)
      → OfForest t.defs G e → IsDistinct (all_numbers e) → ChoiceFilled t.face G (bares e)
  link_trees_filled i p b y input output inner tops at is are G k e h a =
      let w = ranked_inside t.defs b _ over.insides is in
      by (replaced t.face.boxes t.defs F over.ranked below (vars_there F refer) i p at.root at.top b at.state at.slot y
      at.run at.only at.end input output inner w.0 w.1.0 is
      (output_dressed t over.table over.insides b input output inner is) tops are G k e h)
    where
      by : IsReplaced t.face.boxes t.defs F over.ranked below (vars_there F refer) i p at.root at.top b at.state at.slot
          y at.run at.only at.end input output inner (ranked_inside t.defs b _ over.insides is).0
          (ranked_inside t.defs b _ over.insides is).1.0 is
          (output_dressed t over.table over.insides b input output inner is) tops are G e
          → ChoiceFilled t.face G (bares e)
      by r =
          let E : Nodes = link_opened bs i p y r.ps r.qs r.ns r.base in
          let m : E ≡ e =
          ap (λ (z : List BoxFace). link_opened z i p y r.ps r.qs r.ns r.base) (sym over.table.faces) ∙ r.made in
          let l = long r.base r.of_base in
          let s : count e ≡ count r.base + count r.ns =
          ap count (sym m) ∙ link_size bs i p y r.ps r.qs r.ns r.base in
          told G r.same_vars (count r.ns) e (omega (arith, l, s))
          (subst (λ (z : Nodes). TreesFilled shown (bares z) (node_structs z) 0 (bares z)) m
          (opened_filled t over.table F over.sound.well_formed.filled i p b r.base r.of_base (below r.base r.of_base)
          (let j = at.root in omega (arith, l, j)) r.part.cell r.part.shape r.part.datums r.part.parts r.part.at
          (input ∷ (output ∷ inner)) is y
          (λ n q. (let j = at.end n q in omega (arith, l, j))) r.c0 r.s0 r.ds0 r.ps r.c1 r.s1 r.ds1 r.qs r.ns
          r.part.has
          r.trees G.autos (subst (λ (z : Nodes). TreesOf t.defs G.autos z) (sym m) h)
          (subst (λ (z : Nodes). IsDistinct (map cell_number (cells z))) (sym m) (numbers_apart e a))))

  pub hook_trees_filled : (i p b : ℕ) (input : Automaton) (inner : List Automaton) (ins : List Rule) → IsHookAt F i p b
      → inside_of t.defs b ≡ Some (input ∷ inner) → AreHookTops F i input ins → (G : Forest)
      → IsIn G (hook_unfoldings t.face.boxes F i p input inner ins) → (e : Nodes) → OfForest t.defs G e
      → IsDistinct (all_numbers e) → ChoiceFilled t.face G (bares e)
  hook_trees_filled i p b input inner ins at is are G k e h a =
      let w = ranked_inside t.defs b _ over.insides is in
      by (replaced_hook t.face.boxes t.defs F over.ranked below (vars_there F refer) i p at.root at.top b at.slot input
      inner w.0 is ins are G k e h)
    where
      by : IsReplacedHook t.face.boxes t.defs F over.ranked below (vars_there F refer) i p at.root at.top b at.slot
          input inner (ranked_inside t.defs b _ over.insides is).0 is ins are G e → ChoiceFilled t.face G (bares e)
      by r =
          let E : Nodes = hook_opened bs i p r.ps r.ns r.base in
          let m : E ≡ e =
          ap (λ (z : List BoxFace). hook_opened z i p r.ps r.ns r.base) (sym over.table.faces) ∙ r.opened in
          let l = long r.base r.of_base in
          let s : count e ≡ count r.base + count r.ns = ap count (sym m) ∙ hook_size bs i p r.ps r.ns r.base in
          told G r.same_vars (count r.ns) e (omega (arith, l, s))
          (subst (λ (z : Nodes). TreesFilled shown (bares z) (node_structs z) 0 (bares z)) m
          (hook_opened_filled t over.table F over.sound.well_formed.filled i p b r.base r.of_base
          (below r.base r.of_base) (let j = at.root in omega (arith, l, j)) r.part.cell r.part.shape
          r.part.datums r.part.parts r.part.at (input ∷ inner) is r.c0 r.s0 r.ds0 r.ps r.ns r.part.has r.trees G.autos
          (subst (λ (z : Nodes). TreesOf t.defs G.autos z) (sym m) h)
          (subst (λ (z : Nodes). IsDistinct (map cell_number (cells z))) (sym m) (numbers_apart e a))))
