-- The structs of the cell at which a box edge of a root begins, and of the root at which it ends, are those of its
-- face.
use Rattle.std.proofs.Common.{◌≡◌, ◌⊎◌, inl, inr, ℕ, zero, suc, ◌<◌, length, List, [], ◌∷◌, refl, sym, ap}
use Rattle.std.proofs.Common.{subst, ◌∙◌, Some, None, slice_get, arith}
use Rattle.std.proofs.lemmas.Option.{none-some, same_Some}
use Rattle.fore_base.specs.Lists.{IsIn, Every, IsDistinct}
use Rattle.fore_base.specs.declared.store.Datum.{Datum}
use Rattle.fore_base.specs.declared.store.Value.{Value}
use Rattle.fore_base.specs.declared.store.Value.TheVariants.{Null as NullValue, Uninit as UninitValue}
use Rattle.fore_base.specs.declared.store.Value.TheVariants.{Dangling as DanglingValue, Cell as CellValue}
use Rattle.fore_base.proofs.ListLemmas.{every_in, every_weaker, in_right}
use Rattle.ta_core.specs.Auto.{Automaton}
use Rattle.ta_core.specs.Language.{RunOf, run, InLanguage}
use Rattle.ta_core.specs.declared.auto.Rule.{Rule}
use Rattle.ta_core.specs.declared.symbol.Slot.TheVariants.{Link, Hook}
use Rattle.ta_core.specs.declared.tree.Tree.{Tree, out-Tree}
use Rattle.fa_core.specs.declared.faces.BoxFace.{BoxFace}
use Rattle.fa_core.specs.declared.faces.Face.{Face}
use Rattle.fa_core.specs.declared.forest.Forest.{Forest}
use Rattle.fa_core.specs.declared.forest.Target.{Target}
use Rattle.fa_core.specs.declared.forest.Target.TheVariants.{At}
use Rattle.fa_core.specs.Boxes.{Boxes, faces_of}
use Rattle.fa_core.specs.Choices.{bares, all_numbers, HasInsides}
use Rattle.fa_core.specs.Dressed.{Node, Parts, End, Nodes, node, no_parts, field, link, hook, leaf, no_nodes, more}
use Rattle.fa_core.specs.Dressed.{Seen}
use Rattle.fa_core.specs.Dressed.{SeenField}
use Rattle.fa_core.specs.Dressed.{SeenLink, SeenHook, SeenCell, seen, end_value, tree_cells, forest_cells, cells}
use Rattle.fa_core.specs.Dressed.{roots_of}
use Rattle.fa_core.specs.Dressed.{nth_value, value_in}
use Rattle.fa_core.specs.Filled.{TreesFilled, RulesFit, HasSome, face_of}
use Rattle.fa_core.specs.Member.{OfForest, bare, bare_end}
use Rattle.fa_core.proofs.Dressing.{dress_all, numbered_differ, choice_of, cell_top}
use Rattle.fa_core.proofs.FilledCells.{cells_filled}
use Rattle.fa_core.proofs.FilledKept.{apart_by, choice_with, forest_numbers}
use Rattle.fa_core.proofs.SeenCells.{HasStruct, NamesOne, SlotsFit, IsFilledCell, one_struct}
use Rattle.fa_core.proofs.SeenCells.{struct_right, tops_structs}
use Rattle.fa_back.specs.Reached.{node_at}
use Rattle.fa_sound.specs.Components.{component_at}
use Rattle.fa_split.specs.Split.{top_rule}
use Rattle.fa_split.proofs.OtherComponent.{tree_at}
use Rattle.fa_split.proofs.Places.{end_is_leaf}
use Rattle.fa_unfold.specs.Parts.{Part, FieldPart, LinkPart, HookPart, listed}
use Rattle.fa_unfold.specs.Sites.{IsHookAt, IsLinkAt, IsOver}
use Rattle.fa_unfold.specs.Slots.{rule_places}
use Rattle.fa_unfold.specs.Unfolding.{IsTop}
use Rattle.fa_unfold.proofs.EdgeParts.{is_link, is_hook}
use Rattle.fa_unfold.proofs.FittingRules.{rules_inside}
use Rattle.fa_unfold.proofs.GrownTrees.{IsCellOf}
use Rattle.fa_unfold.proofs.Joins.{item_paired}
use Rattle.fa_unfold.proofs.OpenedRoots.{top_run, component_has}
use Rattle.fa_unfold.proofs.PlaceRuns.{PlaceOf}
use Rattle.fa_unfold.proofs.PortStructs.{struct_of_symbol}

pub component_get : (autos : List Automaton) (r : ℕ) → r < length autos
    → slice_get autos r ≡ Some (component_at autos r)
component_get [] r l = absurd (omega (arith, l))
component_get (a ∷ autos) zero l = refl
component_get (a ∷ autos) (suc r) l =
    component_get autos r (let z : suc r < suc (length autos) = l in omega (arith, z))

bares_at : (d : Nodes) (j : ℕ) (u : Tree) → slice_get (bares d) j ≡ Some u → (n : Node) × (node_at d j ≡ Some n)
    × (bare n ≡ u)
bares_at no_nodes j u e = absurd (none-some u e)
bares_at (more n ns) zero u e = (n, refl, same_Some (bare n) u e)
bares_at (more n ns) (suc j) u e = bares_at ns j u e

root_struct : (vs : List Value) (d : Nodes) (i c s : ℕ) (ds : List Datum) (os : Parts)
    → node_at d i ≡ Some (node c s ds os)
    → IsIn (record { cell = c; shape = s; datums = ds; slots = seen vs os }) (forest_cells vs d)
    × HasStruct (forest_cells vs d) c s
    × (nth_value (roots_of d) i ≡ CellValue c)
root_struct vs no_nodes i c s ds os e = absurd (none-some (node c s ds os) e)
root_struct vs (more n ns) zero c s ds os e =
    subst (λ (m : Node). IsIn (record { cell = c; shape = s; datums = ds; slots = seen vs os })
    (forest_cells vs (more m ns))
    × HasStruct (forest_cells vs (more m ns)) c s
    × (nth_value (roots_of (more m ns)) 0 ≡ CellValue c)) (sym (same_Some n (node c s ds os) e))
    (inl refl, inl (refl, refl), refl)
root_struct vs (more n ns) (suc i) c s ds os e =
    let k = root_struct vs ns i c s ds os e in (
      in_right (record { cell = c; shape = s; datums = ds; slots = seen vs os }) (tree_cells vs n) (forest_cells vs ns)
          k.0,
      struct_right c s (tree_cells vs n) (forest_cells vs ns) k.1,
      k.2,
    )

-- the slot as it is seen
abbrev seen_part : List Value → Part → Seen
seen_part vs (FieldPart f e) = SeenField f (end_value vs e)
seen_part vs (LinkPart b i e) = SeenLink b i (end_value vs e)
seen_part vs (HookPart b i) = SeenHook b i

slot_fits_at : (face : Face) (all : List SeenCell) (s : ℕ) (vs : List Value) (p : ℕ) (os : Parts) (x : Part)
    → SlotsFit face all s (seen vs os) → slice_get (listed os) p ≡ Some x
    → SlotsFit face all s (seen_part vs x ∷ [])
slot_fits_at face all s vs p no_parts x h e = absurd (none-some x e)
slot_fits_at face all s vs zero (field f u ps) x h e =
    subst (λ (z : Part). SlotsFit face all s (seen_part vs z ∷ [])) (same_Some (FieldPart f u) x e) (h.0, tt)
slot_fits_at face all s vs zero (link b i u ps) x h e =
    subst (λ (z : Part). SlotsFit face all s (seen_part vs z ∷ [])) (same_Some (LinkPart b i u) x e) (h.0, tt)
slot_fits_at face all s vs zero (hook b i ps) x h e =
    subst (λ (z : Part). SlotsFit face all s (seen_part vs z ∷ [])) (same_Some (HookPart b i) x e) (h.0, tt)
slot_fits_at face all s vs (suc p) (field f u ps) x h e = slot_fits_at face all s vs p ps x h.1 e
slot_fits_at face all s vs (suc p) (link b i u ps) x h e = slot_fits_at face all s vs p ps x h.1 e
slot_fits_at face all s vs (suc p) (hook b i ps) x h e = slot_fits_at face all s vs p ps x h.1 e

abbrev value_kind : Value → ℕ
value_kind NullValue = 0
value_kind UninitValue = 1
value_kind DanglingValue = 2
value_kind (CellValue k) = 3

module _ (t : Boxes) (F : Forest) (over : IsOver t F) where
  abbrev face : Face
  face = t.face

  abbrev shown : Face
  shown = record { shapes = t.face.shapes; boxes = faces_of t.defs }

  same_face : t.face ≡ shown
  same_face = ap (λ (z : List BoxFace). record { shapes = t.face.shapes; boxes = z }) over.table.faces

  -- rules that fit name boxes with insides
  pub insides_of : (autos : List Automaton) → Every (RulesFit t.face) autos → Every (HasInsides t.defs) autos
  insides_of autos h = every_weaker (RulesFit t.face) (HasInsides t.defs) autos
      (λ a k. rules_inside t.face.shapes t.defs over.table.sound over.insides a
      (subst (λ (f : Face). RulesFit f a) same_face k)) h

  -- a dressed forest with this tree at the root, whose cells differ
  record HasTreeAt (j : ℕ) (u : Tree) : Type 0 where
    nodes : Nodes
    of : OfForest t.defs F nodes
    apart : IsDistinct (all_numbers nodes)
    at : (n : Node) × (node_at nodes j ≡ Some n) × (bare n ≡ u)

  with_tree : (j : ℕ) → j < length F.autos → (u : Tree) → InLanguage (component_at F.autos j) u → HasTreeAt j u
  with_tree j l u w =
      let filled = over.sound.well_formed.filled in
      let c = choice_with F.autos over.sound.full j (component_at F.autos j) u (component_get F.autos j l) w in
      let f = filled.trees c.0 c.1 in
      let d = dress_all t.defs 0 F.autos c.0 f.tops over.ranked (insides_of F.autos filled.rules) c.1 f.are in
      record {
        nodes = d.nodes;
        of = d.of;
        apart = numbered_differ 0 (all_numbers d.nodes) d.cells;
        at = bares_at d.nodes j u (subst (λ (ts : List Tree). slice_get ts j ≡ Some u) (sym d.trees) c.2);
      }

  filled_cells : (d : Nodes) → OfForest t.defs F d → IsDistinct (all_numbers d)
      → Every (IsFilledCell face (cells d)) (cells d)
  filled_cells d h a =
      let f = over.sound.well_formed.filled.trees (bares d) (choice_of t.defs F.autos d h) in
      cells_filled face d (apart_by face.boxes d a)
      (subst (λ (z : List ℕ). TreesFilled face (bares d) z 0 (bares d)) (tops_structs d f.tops f.are) f.cells)

  -- the slot at place p of root i fits its cell
  slot_at : (d : Nodes) → OfForest t.defs F d → IsDistinct (all_numbers d) → (i p c s : ℕ) (ds : List Datum)
      (os : Parts) (x : Part) → node_at d i ≡ Some (node c s ds os) → slice_get (listed os) p ≡ Some x
      → SlotsFit face (cells d) s (seen_part (roots_of d) x ∷ [])
  slot_at d h a i p c s ds os x e q =
      let k = every_in (IsFilledCell face (cells d)) (cells d)
      (record { cell = c; shape = s; datums = ds; slots = seen (roots_of d) os }) (filled_cells d h a)
      (root_struct (roots_of d) d i c s ds os e).0 in
      slot_fits_at face (cells d) s (roots_of d) p os x k.slots q

  module _ (i p b : ℕ) where
    abbrev top : Rule
    top = top_rule (component_at F.autos i)

    -- A Link.

    module _ (y : Target) (at : IsLinkAt F i p b y) where
      -- what a dressed forest says of the Link
      record LinkSeen (d : Nodes) (s : ℕ) : Type 0 where
        face_is : BoxFace
        end : ℕ
        is : face_of face.boxes b ≡ Some face_is
        input : face_is.input ≡ s
        output : face_is.output ≡ Some end
        ends : NamesOne (cells d) end (value_in (roots_of d) y)
            ⊎ ((value_in (roots_of d) y ≡ DanglingValue) × (face_is.gives_out ≡ []))

      link_seen : (d : Nodes) → OfForest t.defs F d → IsDistinct (all_numbers d) → (s : ℕ) × (ds : List Datum)
          × IsCellOf top.symbol s ds × LinkSeen d s
      link_seen d h a = let k = tree_at t.defs F.autos i d at.root h in by k.0 k.1
        where
          fit : (s : ℕ) → (inside : Nodes)
              → SlotsFit face (cells d) s (SeenLink b inside (value_in (roots_of d) y) ∷ []) → LinkSeen d s
          fit s inside ((z, o, g, j, r, w), u) =
              record { face_is = z; end = o; is = g; input = j; output = r; ends = w }

          by : (n : Node) → node_at d i ≡ Some n → (s : ℕ) × (ds : List Datum) × IsCellOf top.symbol s ds
              × LinkSeen d s
          by (node c s ds os) e =
              let r = top_run face.boxes t.defs F over.ranked i p at.root at.top (Link b, at.state ∷ []) at.slot d h c s
              ds os e in
              let x = item_paired (PlaceOf (RunOf (component_at F.autos i).rules)) p (rule_places top) (listed os)
              (Link b, at.state ∷ []) r.1 at.slot in
              let m = is_link (RunOf (component_at F.autos i).rules) b at.state x.0 x.2 in
              let l : m.1 ≡ leaf y = end_is_leaf m.1 y (at.only (bare_end m.1) m.3) in
              let q : slice_get (listed os) p ≡ Some (LinkPart b m.0 (leaf y)) =
              x.1 ∙ ap (λ (v : Part). Some v) m.2 ∙ ap (λ (v : End). Some (LinkPart b m.0 v)) l in
              (s, ds, r.0, fit s m.0 (slot_at d h a i p c s ds os (LinkPart b m.0 (leaf y)) e q))

      -- the struct of the cell, that of the output, and that of the root at the end
      pub record LinkStructs : Type 0 where
        pub struct : ℕ
        pub datums : List Datum
        pub cell : IsCellOf top.symbol struct datums
        pub face_is : BoxFace
        pub end : ℕ
        pub is : face_of face.boxes b ≡ Some face_is
        pub input : face_is.input ≡ struct
        pub output : face_is.output ≡ Some end
        pub ends : (j : ℕ) → y ≡ At j → (w : Rule) → IsTop (component_at F.autos j) w
            → IsIn w (component_at F.autos j).rules → (s : ℕ) (ds : List Datum) → IsCellOf w.symbol s ds → s ≡ end

      pub link_structs : LinkStructs
      link_structs =
          let u = component_has HasSome F.autos i at.root over.sound.full in
          let d = with_tree i at.root u.0 u.1 in
          let k = link_seen d.nodes d.of d.apart in
          record {
            struct = k.0;
            datums = k.1;
            cell = k.2;
            face_is = k.3.face_is;
            end = k.3.end;
            is = k.3.is;
            input = k.3.input;
            output = k.3.output;
            ends = λ j q w m n s ds c. ends k.3.face_is k.3.end k.3.is k.3.output j q w m n s ds c;
          }
        where
          ends : (z : BoxFace) (o : ℕ) → face_of face.boxes b ≡ Some z → z.output ≡ Some o → (j : ℕ) → y ≡ At j
              → (w : Rule) → IsTop (component_at F.autos j) w → IsIn w (component_at F.autos j).rules → (s : ℕ)
              (ds : List Datum) → IsCellOf w.symbol s ds → s ≡ o
          ends z o g r j q w m n s ds c =
              let lang : InLanguage (component_at F.autos j) m.0.1.0 =
              (w.state, m.0.0, run w n refl m.0.1.1.0 m.0.1.1.1) in
              let d = with_tree j (at.end j q) m.0.1.0 lang in
              let k = link_seen d.nodes d.of d.apart in
              let zz : k.3.face_is ≡ z = same_Some k.3.face_is z (sym k.3.is ∙ g) in
              let oo : k.3.end ≡ o =
              same_Some k.3.end o (sym k.3.output ∙ ap (λ (v : BoxFace). v.output) zz ∙ r) in
              let vv : value_in (roots_of d.nodes) y ≡ nth_value (roots_of d.nodes) j =
              ap (value_in (roots_of d.nodes)) q in
              named d.nodes d.apart d.at.0 d.at.1
              (sym (ap struct_of_symbol c.1) ∙ ap struct_of_symbol m.0.1.1.0
              ∙ ap (λ (v : Tree). struct_of_symbol (out-Tree v).symbol) (sym d.at.2))
              (elim k.3.ends [
                | inl a ↦ inl
                    (subst (λ (v : Value). NamesOne (cells d.nodes) o v) vv
                    (subst (λ (v : ℕ). NamesOne (cells d.nodes) v (value_in (roots_of d.nodes) y)) oo a))
                | inr a ↦ inr (sym vv ∙ a.0)
              ])
            where
              named : (d : Nodes) → IsDistinct (all_numbers d) → (x : Node) → node_at d j ≡ Some x
                  → s ≡ struct_of_symbol (out-Tree (bare x)).symbol
                  → NamesOne (cells d) o (nth_value (roots_of d) j) ⊎ (nth_value (roots_of d) j ≡ DanglingValue)
                  → s ≡ o
              named d a (node c0 s0 ds0 ps) e h k =
                  let f = root_struct (roots_of d) d j c0 s0 ds0 ps e in
                  let own : s ≡ s0 = h ∙ ap struct_of_symbol (cell_top c0 s0 ds0 ps) in
                  elim k [
                    | inl v ↦ own
                        ∙ one_struct c0 s0 o (cells d)
                        (subst IsDistinct (sym (forest_numbers (roots_of d) d)) a) f.1
                        (subst (λ (v : Value). NamesOne (cells d) o v) f.2 v)
                    | inr v ↦ absurd
                        (let y : 3 ≡ 2 = ap value_kind (sym f.2 ∙ v) in omega (arith, y))
                  ]

    -- A Hook.

    pub record HookStructs : Type 0 where
      pub hook_struct : ℕ
      pub hook_datums : List Datum
      pub hook_cell : IsCellOf top.symbol hook_struct hook_datums
      pub hook_face : BoxFace
      pub hook_is : face_of face.boxes b ≡ Some hook_face
      pub hook_input : hook_face.input ≡ hook_struct
      pub hook_output : hook_face.output ≡ None

    pub hook_structs : IsHookAt F i p b → HookStructs
    hook_structs at =
        let u = component_has HasSome F.autos i at.root over.sound.full in
        let d = with_tree i at.root u.0 u.1 in
        let k = tree_at t.defs F.autos i d.nodes at.root d.of in
        by d.nodes d.of d.apart k.0 k.1
      where
        fit : (d : Nodes) (s : ℕ) (ds : List Datum) → IsCellOf top.symbol s ds → (inside : Nodes)
            → SlotsFit face (cells d) s (SeenHook b inside ∷ []) → HookStructs
        fit d s ds c inside ((z, g, j, r), u) = record {
          hook_struct = s;
          hook_datums = ds;
          hook_cell = c;
          hook_face = z;
          hook_is = g;
          hook_input = j;
          hook_output = r;
        }

        by : (d : Nodes) → OfForest t.defs F d → IsDistinct (all_numbers d) → (n : Node) → node_at d i ≡ Some n
            → HookStructs
        by d h a (node c s ds os) e =
            let r = top_run face.boxes t.defs F over.ranked i p at.root at.top (Hook b, []) at.slot d h c s ds os e in
            let x = item_paired (PlaceOf (RunOf (component_at F.autos i).rules)) p (rule_places top) (listed os)
            (Hook b, []) r.1 at.slot in
            let m = is_hook (RunOf (component_at F.autos i).rules) b x.0 x.2 in
            let q : slice_get (listed os) p ≡ Some (HookPart b m.0) = x.1 ∙ ap (λ (v : Part). Some v) m.1 in
            fit d s ds r.0 m.0 (slot_at d h a i p c s ds os (HookPart b m.0) e q)
