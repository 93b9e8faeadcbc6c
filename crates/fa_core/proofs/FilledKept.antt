-- A forest that regroups a filled one is filled, boxes included.
use Rattle.std.proofs.Common.{◌≡◌, ℕ, zero, suc, length, List, [], ◌∷◌, ◌++◌, map, Option, Some, None, slice_get, refl}
use Rattle.std.proofs.Common.{sym, ap, ap₂, subst, ◌∙◌}
use Rattle.std.proofs.lemmas.Option.{none-some, same_Some}
use Rattle.fore_base.specs.Lists.{Every, IsDistinct}
use Rattle.fore_base.specs.declared.store.Value.{Value}
use Rattle.fore_base.proofs.ListLemmas.{every_weaker}
use Rattle.ta_core.specs.Auto.{Automaton, IsRanked}
use Rattle.ta_core.specs.Language.{InLanguage}
use Rattle.ta_core.specs.declared.auto.Rule.{Rule}
use Rattle.ta_core.specs.declared.symbol.Slot.{Slot}
use Rattle.ta_core.specs.declared.symbol.Slot.TheVariants.{Field, Link, Hook}
use Rattle.ta_core.specs.declared.symbol.Symbol.{Symbol}
use Rattle.ta_core.specs.declared.symbol.Symbol.TheVariants.{Null, Uninit, Dangling, Ref, Cell}
use Rattle.ta_core.specs.declared.tree.Tree.{Tree}
use Rattle.fa_core.specs.declared.boxes.BoxDef.{BoxDef}
use Rattle.fa_core.specs.declared.faces.BoxFace.{BoxFace}
use Rattle.fa_core.specs.declared.faces.Face.{Face}
use Rattle.fa_core.specs.declared.forest.Forest.{Forest}
use Rattle.fa_core.specs.Choices.{bares, count, numbers, numbers_of, end_numbers, all_numbers, HasInside, SlotHasInside}
use Rattle.fa_core.specs.Choices.{SymbolHasInsides, HasInsides}
use Rattle.fa_core.specs.Dressed.{Node, Parts, End, Nodes, node, no_parts, field, link, hook, under, leaf, no_nodes}
use Rattle.fa_core.specs.Dressed.{more, tree_cells, below, end_cells, forest_cells, cells, roots_of, refs}
use Rattle.fa_core.specs.Dressed.{all_refs}
use Rattle.fa_core.specs.Filled.{Choice, TopsAre, IsTopped, IsRoot, ChoiceFilled, TreesFilled, HasOutput, HasNoOutput}
use Rattle.fa_core.specs.Filled.{face_of, SlotFits, SymbolFits, RulesFit, IsFilled, IsFilledSpot, spots, given_at}
use Rattle.fa_core.specs.Filled.{HasSome}
use Rattle.fa_core.specs.Formed.{IsFormed, IsFormedChoice}
use Rattle.fa_core.specs.Member.{inside_of, TreesOf, Regroups, bare}
use Rattle.fa_core.specs.Rearranged.{Rearranged, empty, keep, chain}
use Rattle.fa_core.specs.References.{AllBelow, tree_refs}
use Rattle.fa_core.specs.Ways.{gives_out_of}
use Rattle.fa_core.proofs.Counts.{below_both}
use Rattle.fa_core.proofs.Dressing.{dress_all, numbered_differ, choice_of, choice_length, bares_length}
use Rattle.fa_core.proofs.FilledCells.{IsApart, cells_filled, trees_filled}
use Rattle.fa_core.proofs.Given.{inner_of, end_inner, all_inner, inner_number, root_numbers}
use Rattle.fa_core.proofs.NodeSpots.{tree_below}
use Rattle.fa_core.proofs.Permuted.{distinct_moved, distinct_parts, none_in_both}
use Rattle.fa_core.proofs.Rearranging.{back, after, exchange, every_moved, mapped}
use Rattle.fa_core.proofs.SeenCells.{IsFilledCell, filled_moved, cell_number, node_structs, tops_structs, structs_tops}
use Rattle.fa_core.proofs.WaysOf.{map-append, tree_roots}

-- Numbers of cells.

module _ (vs : List Value) where
  mutual
    tree_numbers : (n : Node) → map cell_number (tree_cells vs n) ≡ numbers n
    tree_numbers (node c s ds ps) = ap (λ (z : List ℕ). c ∷ z) (below_numbers ps)

    below_numbers : (ps : Parts) → map cell_number (below vs ps) ≡ numbers_of ps
    below_numbers no_parts = refl
    below_numbers (field f e ps) = map-append cell_number (end_cells vs e) (below vs ps)
        ∙ ap₂ (λ (x y : List ℕ). x ++ y) (end_cell_numbers e) (below_numbers ps)
    below_numbers (link b i e ps) = map-append cell_number (end_cells vs e) (below vs ps)
        ∙ ap₂ (λ (x y : List ℕ). x ++ y) (end_cell_numbers e) (below_numbers ps)
    below_numbers (hook b i ps) = below_numbers ps

    end_cell_numbers : (e : End) → map cell_number (end_cells vs e) ≡ end_numbers e
    end_cell_numbers (under n) = tree_numbers n
    end_cell_numbers (leaf t) = refl

  -- the numbers of the seen cells are those of the dressed forest
  pub forest_numbers : (d : Nodes) → map cell_number (forest_cells vs d) ≡ all_numbers d
  forest_numbers no_nodes = refl
  forest_numbers (more n ns) = map-append cell_number (tree_cells vs n) (forest_cells vs ns)
      ∙ ap₂ (λ (x y : List ℕ). x ++ y) (tree_numbers n) (forest_numbers ns)

module _ (bs : List BoxFace) where
  mutual
    below_inner : (ps : Parts) → numbers_of ps ≡ map inner_number (inner_of bs ps)
    below_inner no_parts = refl
    below_inner (field f e ps) = ap₂ (λ (x y : List ℕ). x ++ y) (end_is_inner [] e) (below_inner ps)
        ∙ sym (map-append inner_number (end_inner bs [] e) (inner_of bs ps))
    below_inner (link b i e ps) = ap₂ (λ (x y : List ℕ). x ++ y) (end_is_inner (gives_out_of bs b) e) (below_inner ps)
        ∙ sym (map-append inner_number (end_inner bs (gives_out_of bs b) e) (inner_of bs ps))
    below_inner (hook b i ps) = below_inner ps

    end_is_inner : (g : List ℕ) (e : End) → end_numbers e ≡ map inner_number (end_inner bs g e)
    end_is_inner g (under (node c s ds ps)) = ap (λ (z : List ℕ). c ∷ z) (below_inner ps)
    end_is_inner g (leaf t) = refl

  -- the cells are the roots and the cells below them
  all_inner_numbers : (ns : Nodes) → Rearranged (all_numbers ns) (root_numbers ns ++ map inner_number (all_inner bs ns))
  all_inner_numbers no_nodes = empty
  all_inner_numbers (more (node c s ds ps) ns) =
      let a = map-append inner_number (inner_of bs ps) (all_inner bs ns) in
      let b = below_inner ps in
      rw (a, b)
      (keep c
      (chain (after (map inner_number (inner_of bs ps)) (all_inner_numbers ns))
      (exchange (map inner_number (inner_of bs ps)) (root_numbers ns) (map inner_number (all_inner bs ns)))))

-- where the cells' numbers differ, no two cells have one number
pub apart_by : (bs : List BoxFace) (d : Nodes) → IsDistinct (all_numbers d) → IsApart bs d
apart_by bs d a =
    let b = distinct_moved (all_inner_numbers bs d) a in
    let p = distinct_parts (root_numbers d) (map inner_number (all_inner bs d)) b in
    record {
      inner = p.1;
      roots = p.0;
      other = λ c i j. none_in_both c (root_numbers d) (map inner_number (all_inner bs d)) b j i;
      cells =
          subst (λ (z : List ℕ). IsDistinct z) (sym (forest_numbers (roots_of d) d)) a;
    }

-- the references of a dressed forest by those of its trees
refs_below : (m : ℕ) (d : Nodes) → Every (λ t. AllBelow m (tree_refs t)) (bares d) → AllBelow m (all_refs d)
refs_below m no_nodes h = tt
refs_below m (more n ns) h =
    below_both m (refs n) (all_refs ns) (subst (λ (z : List ℕ). AllBelow m z) (tree_roots n) h.0) (refs_below m ns h.1)

-- The law, for a table that has an inside for each box that G names.

pub choice_kept : (T : List BoxDef) (face : Face) (F G : Forest) → Every IsRanked G.autos → Every (HasInsides T) G.autos
    → Regroups T F G
    → ((ts : List Tree) → Choice F.autos ts → ChoiceFilled face F ts)
    → (ts : List Tree) → Choice G.autos ts → IsFormedChoice G ts → ChoiceFilled face G ts
choice_kept T face F G ranked insides regroups filled ts c h =
    let t = h.tops in
    let d = dress_all T 0 G.autos ts t.0 ranked insides c t.1 in
    made d.nodes d.trees d.of (numbered_differ 0 (all_numbers d.nodes) d.cells)
  where
    made : (e : Nodes) → bares e ≡ ts → TreesOf T G.autos e → IsDistinct (all_numbers e) → ChoiceFilled face G ts
    made e w o a =
        let k = regroups e o in
        let f = filled (bares k.0) (choice_of T F.autos k.0 k.1.of) in
        let x : TreesFilled face (bares k.0) (node_structs k.0) 0 (bares k.0) =
        subst (λ (z : List ℕ). TreesFilled face (bares k.0) z 0 (bares k.0)) (tops_structs k.0 f.tops f.are)
        f.cells in
        let ae : IsDistinct (map cell_number (cells e)) =
        subst (λ (z : List ℕ). IsDistinct z) (sym (forest_numbers (roots_of e) e)) a in
        let ak : IsDistinct (all_numbers k.0) =
        subst (λ (z : List ℕ). IsDistinct z) (forest_numbers (roots_of k.0) k.0)
        (distinct_moved (mapped cell_number k.1.same_cells) ae) in
        let y : Every (IsFilledCell face (cells k.0)) (cells k.0) =
        cells_filled face k.0 (apart_by face.boxes k.0 ak) x in
        let z : Every (IsFilledCell face (cells e)) (cells e) =
        every_moved (IsFilledCell face (cells e)) (back k.1.same_cells)
        (every_weaker (IsFilledCell face (cells k.0)) (IsFilledCell face (cells e)) (cells k.0)
        (λ v g. filled_moved face (back k.1.same_cells) v g) y) in
        let m : length (bares e) ≡ length G.autos = choice_length G.autos (bares e) (choice_of T G.autos e o) in
        let n : count e ≡ length G.autos = sym (bares_length e) ∙ m in
        let r : Every (λ t. AllBelow (length G.autos) (tree_refs t)) (bares e) =
        subst (λ (us : List Tree). Every (λ t. AllBelow (length G.autos) (tree_refs t)) us) (sym w) h.refers in
        let l : AllBelow (count e) (all_refs e) = rw n (refs_below (length G.autos) e r) in
        let done : TreesFilled face (bares e) (node_structs e) 0 (bares e) =
        trees_filled face e (apart_by face.boxes e a) l z in
        subst (λ (v : List Tree). ChoiceFilled face G v) w
        (record { tops = node_structs e; are = structs_tops e; vars = rw m h.vars; cells = done })

-- A table each of whose insides has no root. With it every forest over the face has all its dressed forests, so a
-- regrouping for all tables asks for no sound table.

abbrev empty_table : List BoxFace → List BoxDef
empty_table [] = []
empty_table (x ∷ xs) = record { name = []; face = x; inside = record { autos = []; vars = []; data_vars = [] } }
    ∷ empty_table xs

empty_inside : (xs : List BoxFace) (b : ℕ) (x : BoxFace) → face_of xs b ≡ Some x → inside_of (empty_table xs) b
    ≡ Some []
empty_inside [] b x e = absurd (none-some x e)
empty_inside (y ∷ xs) zero x e = refl
empty_inside (y ∷ xs) (suc b) x e = empty_inside xs b x e

box_inside : (xs : List BoxFace) (b : ℕ) (o : Option BoxFace) → face_of xs b ≡ o → (o ≡ None → ⊥)
    → HasInside (empty_table xs) b
box_inside xs b None e h = absurd (h refl)
box_inside xs b (Some x) e h = (no_nodes, [], empty_inside xs b x e, tt)

slot_insides : (face : Face) (s : ℕ) (ss : List Slot) → Every (SlotFits face s) ss
    → Every (SlotHasInside (empty_table face.boxes)) ss
slot_insides face s [] h = tt
slot_insides face s (Field f ∷ ss) h = (tt, slot_insides face s ss h.1)
slot_insides face s (Link b ∷ ss) h = (
  box_inside face.boxes b (face_of face.boxes b) refl (λ e. subst (λ (o : Option BoxFace). HasOutput o) e h.0),
  slot_insides face s ss h.1,
)
slot_insides face s (Hook b ∷ ss) h = (
  box_inside face.boxes b (face_of face.boxes b) refl (λ e. subst (λ (o : Option BoxFace). HasNoOutput o) e h.0),
  slot_insides face s ss h.1,
)

symbol_insides : (face : Face) (y : Symbol) → SymbolFits face y → SymbolHasInsides (empty_table face.boxes) y
symbol_insides face Null h = tt
symbol_insides face Uninit h = tt
symbol_insides face Dangling h = tt
symbol_insides face (Ref k) h = tt
symbol_insides face (Cell s ds ss) h = slot_insides face s ss h.3

rules_insides : (face : Face) (autos : List Automaton) → Every (RulesFit face) autos
    → Every (HasInsides (empty_table face.boxes)) autos
rules_insides face autos h =
    every_weaker (RulesFit face) (HasInsides (empty_table face.boxes)) autos
    (λ a k. every_weaker (λ (r : Rule). SymbolFits face r.symbol)
    (λ (r : Rule). SymbolHasInsides (empty_table face.boxes) r.symbol) a.rules (λ r i. symbol_insides face r.symbol i)
    k) h

-- the law as operations use it: a forest that is formed, and that a filled one regroups for every table, is filled
pub filled_kept : (face : Face) (F G : Forest) → IsFilled face F → ((T : List BoxDef) → Regroups T F G)
    → IsFormed face G → IsFilled face G
filled_kept face F G filled regroups formed = record {
  data_vars = formed.data_vars;
  rules = formed.rules;
  trees = λ ts c. choice_kept (empty_table face.boxes) face F G formed.ranked (rules_insides face G.autos formed.rules)
      (regroups (empty_table face.boxes)) filled.trees ts c (formed.choices ts c);
}

-- What is owed of each component is enough.

abbrev pub IsFormedTree : ℕ → Tree → Type 0
IsFormedTree n t = ((s : ℕ) × IsTopped s t) × AllBelow n (tree_refs t)

formed_choice : (n : ℕ) (autos : List Automaton) → Every (λ a. (t : Tree) → InLanguage a t → IsFormedTree n t) autos
    → (ts : List Tree) → Choice autos ts → ((tops : List ℕ) × TopsAre ts tops)
    × Every (λ t. AllBelow n (tree_refs t)) ts
formed_choice n [] h [] c = (([], tt), tt)
formed_choice n [] h (t ∷ ts) c = absurd c
formed_choice n (a ∷ autos) h [] c = absurd c
formed_choice n (a ∷ autos) h (t ∷ ts) c =
    let k = h.0 t c.0 in
    let r = formed_choice n autos h.1 ts c.1 in
    ((k.0.0 ∷ r.0.0, (k.0.1, r.0.1)), (k.1, r.1))

pub formed_by : (F : Forest) → Every (λ a. (t : Tree) → InLanguage a t → IsFormedTree (length F.autos) t) F.autos
    → Every (IsRoot (length F.autos)) F.vars → (ts : List Tree) → Choice F.autos ts → IsFormedChoice F ts
formed_by F h v ts c = let k = formed_choice (length F.autos) F.autos h ts c in
    record { tops = k.0; refers = k.1; vars = v }

-- What filled forests have, where no component is empty: each tree has a cell at its top and refers to roots that are
-- there.

-- one tree of each component, with this one at its place
pub choice_with : (autos : List Automaton) → Every HasSome autos → (k : ℕ) (a : Automaton) (t : Tree)
    → slice_get autos k ≡ Some a → InLanguage a t → (ts : List Tree) × Choice autos ts × (slice_get ts k ≡ Some t)
choice_with [] h k a t e w = absurd (none-some a e)
choice_with (b ∷ autos) h zero a t e w =
    let r = any autos h.1 in
    (t ∷ r.0, (subst (λ (z : Automaton). InLanguage z t) (sym (same_Some b a e)) w, r.1), refl)
  where
    any : (autos : List Automaton) → Every HasSome autos → (ts : List Tree) × Choice autos ts
    any [] h = ([], tt)
    any (b ∷ autos) h = let r = any autos h.1 in (h.0.0 ∷ r.0, (h.0.1, r.1))
choice_with (b ∷ autos) h (suc k) a t e w = let r = choice_with autos h.1 k a t e w in (h.0.0 ∷ r.0, (h.0.1, r.1), r.2)

tops_length : (ts : List Tree) (tops : List ℕ) → TopsAre ts tops → length tops ≡ length ts
tops_length [] [] h = refl
tops_length [] (s ∷ tops) h = absurd h
tops_length (t ∷ ts) [] h = absurd h
tops_length (t ∷ ts) (s ∷ tops) h = ap (λ k. suc k) (tops_length ts tops h.1)

top_at : (ts : List Tree) (tops : List ℕ) (k : ℕ) (t : Tree) → TopsAre ts tops → slice_get ts k ≡ Some t → (s : ℕ)
    × IsTopped s t
top_at [] tops k t h e = absurd (none-some t e)
top_at (u ∷ ts) [] k t h e = absurd h
top_at (u ∷ ts) (s ∷ tops) zero t h e = (s, subst (λ (z : Tree). IsTopped s z) (same_Some u t e) h.0)
top_at (u ∷ ts) (s ∷ tops) (suc k) t h e = top_at ts tops k t h.1 e

spots_at_place : (face : Face) (tops : List ℕ) (all : List Tree) (r : ℕ) (ts : List Tree) (k : ℕ) (t : Tree)
    → TreesFilled face all tops r ts → slice_get ts k ≡ Some t → (above : List ℕ)
    × Every (IsFilledSpot face tops) (spots face.boxes t above)
spots_at_place face tops all r [] k t h e = absurd (none-some t e)
spots_at_place face tops all r (x ∷ ts) zero t h e = (
  given_at face.boxes all r,
  subst (λ (y : Tree). Every (IsFilledSpot face tops) (spots face.boxes y (given_at face.boxes all r)))
      (same_Some x t e) h.0,
)
spots_at_place face tops all r (x ∷ ts) (suc k) t h e = spots_at_place face tops all (suc r) ts k t h.1 e

-- a tree of a component has a cell at its top
pub top_of_filled : (face : Face) (F : Forest) → IsFilled face F → Every HasSome F.autos
    → (k : ℕ) (a : Automaton) (t : Tree) → slice_get F.autos k ≡ Some a → InLanguage a t → (s : ℕ) × IsTopped s t
top_of_filled face F filled full k a t e w =
    let c = choice_with F.autos full k a t e w in
    let f = filled.trees c.0 c.1 in
    top_at c.0 f.tops k t f.are c.2

-- a dressed tree of a component refers to roots that are there
pub refs_of_filled : (face : Face) (F : Forest) → IsFilled face F → Every HasSome F.autos
    → (k : ℕ) (a : Automaton) (n : Node) → slice_get F.autos k ≡ Some a → InLanguage a (bare n)
    → AllBelow (length F.autos) (refs n)
refs_of_filled face F filled full k a n e w =
    let c = choice_with F.autos full k a (bare n) e w in
    let f = filled.trees c.0 c.1 in
    let s = spots_at_place face f.tops c.0 0 c.0 k (bare n) f.cells c.2 in
    let m : length f.tops ≡ length F.autos = tops_length c.0 f.tops f.are ∙ choice_length F.autos c.0 c.1 in
    subst (λ (y : ℕ). AllBelow y (refs n)) m (tree_below face f.tops n s.0 s.1)
