-- In a filled forest each reference and each target is to a root that is there.
use Rattle.std.proofs.Common.{◌≡◌, inl, inr, ℕ, zero, suc, ◌<◌, List, [], ◌∷◌, ◌++◌, length, map, refl, sym, ap, subst}
use Rattle.std.proofs.Common.{◌∙◌, Some, slice_get}
use Rattle.std.proofs.lemmas.Option.{none-some, same_Some, slice_get_within}
use Rattle.fore_base.specs.Lists.{IsIn, Every}
use Rattle.fore_base.proofs.ListLemmas.{every_in, every_parts, in_mapped}
use Rattle.ta_core.specs.Auto.{Automaton}
use Rattle.ta_core.specs.declared.symbol.Slot.{Slot}
use Rattle.ta_core.specs.declared.symbol.Slot.TheVariants.{Field, Link, Hook}
use Rattle.ta_core.specs.declared.symbol.Symbol.{Symbol}
use Rattle.ta_core.specs.declared.symbol.Symbol.TheVariants.{Null, Uninit, Dangling, Ref, Cell}
use Rattle.ta_core.specs.declared.tree.Tree.{Tree, Tree-F, out-Tree, roll-Tree, out-roll-Tree, para-roll-Tree, ind-Tree}
use Rattle.fa_core.specs.declared.faces.Face.{Face}
use Rattle.fa_core.specs.declared.forest.Forest.{Forest}
use Rattle.fa_core.specs.declared.forest.Target.TheVariants.{At}
use Rattle.fa_core.specs.Canonical.{RefersTo}
use Rattle.fa_core.specs.Filled.{Spot, spots, spots_at, child_spots, EndFits, EndsFit, FieldEnds, NamesStruct}
use Rattle.fa_core.specs.Filled.{IsFilledSpot, Choice, TopsAre, IsTopped, TreesFilled, IsFilled, IsRoot, given_at}
use Rattle.fa_core.specs.Ways.{Way, ways, child_ways, longer, gives_out_of}
use Rattle.fa_core.proofs.WaysOf.{rolled_ways}

-- a symbol that names a root names one below n
abbrev pub NamesBelow : ℕ → Symbol → Type 0
NamesBelow n Null = Unit {0}
NamesBelow n Uninit = Unit {0}
NamesBelow n Dangling = Unit {0}
NamesBelow n (Ref r) = r < n
NamesBelow n (Cell s ds ss) = Unit {0}

-- each way leads to a root below n
abbrev pub WaysBelow : ℕ → List Way → Type 0
WaysBelow n ws = Every (λ (w : Way). w.root < n) ws

way_below : (n : ℕ) (rs : List ℕ) (s : Slot) (ws : List Way) (us : List (Slot × Way)) → WaysBelow n ws
    → WaysBelow n (map (longer rs) us) → WaysBelow n (map (longer rs) (map (λ (w : Way). (s, w)) ws ++ us))
way_below n rs s [] us h k = k
way_below n rs s (w ∷ ws) us h k = (h.0, way_below n rs s ws us h.1 k)

module _ (face : Face) (tops : List ℕ) where
  field_names : (t : ℕ) (y : Symbol) → FieldEnds tops t y → NamesBelow (length tops) y
  field_names t Null h = tt
  field_names t Uninit h = tt
  field_names t Dangling h = tt
  field_names t (Ref r) h = slice_get_within tops r t h
  field_names t (Cell s ds ss) h = tt

  struct_names : (t : ℕ) (y : Symbol) → NamesStruct tops y t → NamesBelow (length tops) y
  struct_names t Null h = tt
  struct_names t Uninit h = tt
  struct_names t Dangling h = tt
  struct_names t (Ref r) h = slice_get_within tops r t h
  struct_names t (Cell s ds ss) h = tt

  link_names : (s b : ℕ) (y : Symbol) → EndFits face tops s (Link b) y → NamesBelow (length tops) y
  link_names s b y (x, t, i, j, k, inl h) = struct_names t y h
  link_names s b y (x, t, i, j, k, inr h) = subst (NamesBelow (length tops)) (sym h.0) tt

  -- a tree whose cells are filled names roots that are there
  abbrev NamesWell : Tree → Type 0
  NamesWell t = (above : List ℕ) → NamesBelow (length tops) (out-Tree t).symbol
      → Every (IsFilledSpot face tops) (spots face.boxes t above) → WaysBelow (length tops) (ways t)

  abbrev Well : Type 0
  Well = (t : Tree) × NamesWell t

  abbrev trees_in : List Well → List Tree
  trees_in ys = map (λ (y : Well). y.0) ys

  abbrev with_spots : List Tree → List (Tree × (List ℕ → List Spot))
  with_spots ts = map (λ (c : Tree). (c, spots face.boxes c)) ts

  children_below : (rs : List ℕ) (s : ℕ) (ss : List Slot) (ys : List Well)
      → EndsFit face tops s ss (map (λ c. (out-Tree c.0).symbol) (with_spots (trees_in ys)))
      → Every (IsFilledSpot face tops) (child_spots face.boxes ss (map (λ c. c.1) (with_spots (trees_in ys))))
      → WaysBelow (length tops) (map (longer rs) (child_ways ss (map ways (trees_in ys))))
  children_below rs s [] ys h k = tt
  children_below rs s (Hook b ∷ ss) ys h k = children_below rs s ss ys h.1 k
  children_below rs s (Field f ∷ ss) [] h k = tt
  children_below rs s (Field f ∷ ss) (y ∷ ys) h k =
      let parts = every_parts (IsFilledSpot face tops) (spots face.boxes y.0 [])
      (child_spots face.boxes ss (map (λ c. c.1) (with_spots (trees_in ys)))) k in
      way_below (length tops) rs (Field f) (ways y.0) (child_ways ss (map ways (trees_in ys)))
      (y.1 [] (field_names h.0.0 (out-Tree y.0).symbol h.0.2) parts.0) (children_below rs s ss ys h.1 parts.1)
  children_below rs s (Link b ∷ ss) [] h k = tt
  children_below rs s (Link b ∷ ss) (y ∷ ys) h k =
      let parts = every_parts (IsFilledSpot face tops) (spots face.boxes y.0 (gives_out_of face.boxes b))
      (child_spots face.boxes ss (map (λ c. c.1) (with_spots (trees_in ys)))) k in
      way_below (length tops) rs (Link b) (ways y.0) (child_ways ss (map ways (trees_in ys)))
      (y.1 (gives_out_of face.boxes b) (link_names s b (out-Tree y.0).symbol h.0) parts.0)
      (children_below rs s ss ys h.1 parts.1)

  tree_spots : (x : Tree-F Tree) (above : List ℕ) → spots face.boxes (roll-Tree x) above
      ≡ spots_at face.boxes x.symbol (with_spots x.children) above
  tree_spots x above = ap (λ (f : List ℕ → List Spot). f above)
      (para-roll-Tree (List ℕ → List Spot) (λ t. spots_at face.boxes t.symbol t.children) x)

  layer_named : (y : Symbol) (ys : List Well) → NamesWell (roll-Tree (record { symbol = y; children = trees_in ys }))
  layer_named Null ys above h k = rw (rolled_ways (record { symbol = Null; children = trees_in ys })) tt
  layer_named Uninit ys above h k = rw (rolled_ways (record { symbol = Uninit; children = trees_in ys })) tt
  layer_named Dangling ys above h k = rw (rolled_ways (record { symbol = Dangling; children = trees_in ys })) tt
  layer_named (Ref r) ys above h k =
      let low : r < length tops =
      subst (λ (x : Tree-F Tree). NamesBelow (length tops) x.symbol)
      (out-roll-Tree (record { symbol = Ref r; children = trees_in ys })) h in
      rw (rolled_ways (record { symbol = Ref r; children = trees_in ys })) (low, tt)
  layer_named (Cell s ds ss) ys above h k =
      let all = subst (λ (l : List Spot). Every (IsFilledSpot face tops) l)
      (tree_spots (record { symbol = Cell s ds ss; children = trees_in ys }) above) k in
      rw (rolled_ways (record { symbol = Cell s ds ss; children = trees_in ys }))
      (children_below _ s ss ys all.0.ends all.1)

  pub tree_named : (t : Tree) → NamesWell t
  tree_named = ind-Tree NamesWell
      (λ x y is. subst (λ (z : Tree-F Tree). NamesWell (roll-Tree z)) is (layer_named y.symbol y.children))

-- the structs of the tops are as many as the trees
pub tops_long : (ts : List Tree) (tops : List ℕ) → TopsAre ts tops → length tops ≡ length ts
tops_long [] [] h = refl
tops_long [] (s ∷ ss) h = absurd h
tops_long (t ∷ ts) [] h = absurd h
tops_long (t ∷ ts) (s ∷ ss) h = ap (λ (n : ℕ). suc n) (tops_long ts ss h.1)

pub choice_long : (autos : List Automaton) (ts : List Tree) → Choice autos ts → length ts ≡ length autos
choice_long [] [] h = refl
choice_long [] (t ∷ ts) h = absurd h
choice_long (a ∷ autos) [] h = absurd h
choice_long (a ∷ autos) (t ∷ ts) h = ap (λ (n : ℕ). suc n) (choice_long autos ts h.1)

cell_names : (n s : ℕ) (t : Tree) → IsTopped s t → NamesBelow n (out-Tree t).symbol
cell_names n s t h = subst (NamesBelow n) (sym h.2) tt

module _ (face : Face) (all : List Tree) (tops : List ℕ) where
  trees_named : (r : ℕ) (ts : List Tree) (own : List ℕ) → TopsAre ts own → TreesFilled face all tops r ts
      → Every (λ (t : Tree). WaysBelow (length tops) (ways t)) ts
  trees_named r [] own a h = tt
  trees_named r (t ∷ ts) [] a h = absurd a
  trees_named r (t ∷ ts) (s ∷ own) a h = (
    tree_named face tops t (given_at face.boxes all r) (cell_names (length tops) s t a.0) h.0,
    trees_named (suc r) ts own a.1 h.1,
  )

-- a tree at a place is one of the trees
tree_in : (ts : List Tree) (i : ℕ) (t : Tree) → slice_get ts i ≡ Some t → IsIn t ts
tree_in [] i t e = absurd (none-some t e)
tree_in (u ∷ ts) zero t e = inl (sym (same_Some u t e))
tree_in (u ∷ ts) (suc i) t e = inr (tree_in ts i t e)

module _ (face : Face) (F : Forest) (filled : IsFilled face F) (ts : List Tree) (choice : Choice F.autos ts) where
  -- each reference is to a root
  pub refers_below : (i r : ℕ) (t : Tree) → slice_get ts i ≡ Some t → RefersTo t r → r < length F.autos
  refers_below i r t e h =
      let c = filled.trees ts choice in
      let all = trees_named face ts c.tops 0 ts c.tops c.are c.cells in
      let w = in_mapped (λ (w : Way). w.root) r (ways t) h in
      let low : w.0.root < length c.tops =
      every_in (λ (v : Way). v.root < length c.tops) (ways t) w.0
      (every_in (λ (u : Tree). WaysBelow (length c.tops) (ways u)) ts t all (tree_in ts i t e)) w.1 in
      subst (λ (n : ℕ). r < n) (tops_long ts c.tops c.are ∙ choice_long F.autos ts choice)
      (subst (λ (k : ℕ). k < length c.tops) (sym w.2) low)

  -- each target is a root
  pub var_below : (r : ℕ) → IsIn (At r) F.vars → r < length F.autos
  var_below r h =
      let c = filled.trees ts choice in
      subst (λ (n : ℕ). r < n) (choice_long F.autos ts choice)
      (every_in (IsRoot (length ts)) F.vars (At r) c.vars h r refl)
