-- The folded forest is filled: each choice of its trees is the fold of a choice of trees before.
use Rattle.std.proofs.Common.{◌≡◌, ◌<◌, ◌+◌, inl, inr, ℕ, zero, suc, Bool, true, false, true≢false, length}
use Rattle.std.proofs.Common.{List, [], ◌∷◌, map, refl, sym, ap, ap₂, subst, ◌∙◌, Option, Some, slice_get}
use Rattle.std.proofs.Common.{arith}
use Rattle.std.proofs.lemmas.Option.{none-some, same_Some}
use Rattle.fore_base.specs.Lists.{IsIn, Every, IsDistinct}
use Rattle.fore_base.specs.declared.store.Datum.{Datum}
use Rattle.fore_base.proofs.ListLemmas.{every_in, in_from_place}
use Rattle.ta_core.specs.Auto.{Automaton}
use Rattle.ta_core.specs.Language.{InLanguage}
use Rattle.ta_core.specs.declared.symbol.Slot.{Slot}
use Rattle.ta_core.specs.declared.symbol.Symbol.{Symbol}
use Rattle.ta_core.specs.declared.symbol.Symbol.TheVariants.{Null as NullSymbol, Uninit as UninitSymbol}
use Rattle.ta_core.specs.declared.symbol.Symbol.TheVariants.{Dangling as DanglingSymbol, Ref, Cell as CellSymbol}
use Rattle.ta_core.specs.declared.tree.Tree.{Tree}
use Rattle.fa_core.specs.declared.boxes.BoxDef.{BoxDef}
use Rattle.fa_core.specs.declared.faces.BoxFace.{BoxFace}
use Rattle.fa_core.specs.declared.faces.Face.{Face}
use Rattle.fa_core.specs.declared.forest.Forest.{Forest}
use Rattle.fa_core.specs.declared.forest.Target.{Target}
use Rattle.fa_core.specs.declared.forest.Target.TheVariants.{Null, Uninit, Dangling, At}
use Rattle.fa_core.specs.Boxes.{Boxes, faces_of}
use Rattle.fa_core.specs.Choices.{all_numbers, bares, count}
use Rattle.fa_core.specs.Dressed.{Node, Nodes, cells, roots_of}
use Rattle.fa_core.specs.Filled.{Choice, ChoiceFilled, HasSome, IsRoot, TopsAre, TreesFilled, covers, least}
use Rattle.fa_core.specs.Folding.{FoldOf, IsFoldedTree, box_slot, cell_of, gained, moved_target, number_without}
use Rattle.fa_core.specs.Folding.{taken_at}
use Rattle.fa_core.specs.Member.{OfForest, bare}
use Rattle.fa_core.specs.Rearranged.{IsRising, chain}
use Rattle.fa_core.specs.Ways.{has}
use Rattle.fa_core.proofs.Dressing.{bares_length, choice_length, dress_all, numbered_differ}
use Rattle.fa_core.proofs.FilledKept.{forest_numbers}
use Rattle.fa_core.proofs.Rearranging.{back}
use Rattle.fa_core.proofs.SameKeys.{same_by_keys}
use Rattle.fa_core.proofs.SeenCells.{cell_number, node_structs, structs_tops}
use Rattle.fa_back.proofs.RootMarks.{has_in, in_has}
use Rattle.fa_split.proofs.SplitCells.{refers_well}
use Rattle.fa_unfold.specs.Sites.{IsOver}
use Rattle.fa_unfold.proofs.EndStructs.{insides_of}
use Rattle.fa_folding.specs.Folded.{each_node, node_or}
use Rattle.fa_merge.specs.Reordered.{counted}
use Rattle.fa_folding.proofs.FoldedMembers.{same_many}
use Rattle.fa_folding.proofs.FoldedPlaces.{bare_got, is_folded}
use Rattle.fa_folding.proofs.FoldedOrder.{fold_filled, symbol_struct}
use Rattle.fa_folding.proofs.FoldedTables.{e, kept_there, low, new_below}
use Rattle.fa_folding.proofs.FoldedTrees.{folded_node}
use Rattle.fa_folding.proofs.Folding.{as_many, once_here}
use Rattle.fa_folding.proofs.Numbers.{counted_above, in_kept, kept_number}

abbrev Place : Type 0
Place = Slot × List Tree

-- A tree has one fold.

abbrev pub symbol_datums : Symbol → List Datum
symbol_datums NullSymbol = []
symbol_datums UninitSymbol = []
symbol_datums DanglingSymbol = []
symbol_datums (Ref k) = []
symbol_datums (CellSymbol s ds ss) = ds

place_keys : (bs : List BoxFace) (ps : List Place) → map (λ s. least (covers bs s)) (map (λ p. p.0) ps)
    ≡ map (λ p. least (covers bs p.0)) ps
place_keys bs [] = refl
place_keys bs (p ∷ ps) = ap (λ (z : List ℕ). least (covers bs p.0) ∷ z) (place_keys bs ps)

pub one_fold : (bs : List BoxFace) (f : ℕ → ℕ) (more : List Place) (fs : List ℕ) (t u v : Tree)
    → IsFoldedTree bs f more fs t u → IsFoldedTree bs f more fs t v → u ≡ v
one_fold bs f more fs t u v h k =
    let y : CellSymbol h.shape h.datums h.slots ≡ CellSymbol k.shape k.datums k.slots = sym h.symbol ∙ k.symbol in
    let made : h.made ≡ k.made =
    same_by_keys (λ (p : Place). least (covers bs p.0)) h.made k.made (chain h.same (back k.same))
    (subst IsRising (place_keys bs h.made) h.order.1) (subst IsRising (place_keys bs k.made) k.order.1) in
    h.is ∙ ap₂ (λ (s : ℕ) (ds : List Datum). cell_of s ds h.made) (ap symbol_struct y) (ap symbol_datums y)
    ∙ ap (λ (ps : List Place). cell_of k.shape k.datums ps) made ∙ sym k.is

-- Choices by their places.

abbrev Chosen : (ℕ → Tree → Type 0) → ℕ → List Automaton → Type 0
Chosen P s autos = (ts : List Tree) × Choice autos ts
    × ((j : ℕ) (t : Tree) → slice_get ts j ≡ Some t → P (s + j) t)

chosen_by : (P : ℕ → Tree → Type 0) (s : ℕ) (autos : List Automaton)
    → ((j : ℕ) (a : Automaton) → slice_get autos j ≡ Some a → (t : Tree) × InLanguage a t × P (s + j) t)
    → Chosen P s autos
chosen_by P s [] h = ([], tt, λ j t e. absurd (none-some t e))
chosen_by P s (a ∷ autos) h =
    let w = h 0 a refl in
    let r = chosen_by P (suc s) autos (λ j b e. (let z = h (suc j) b e in
    (z.0, z.1, subst (λ (k : ℕ). P k z.0) (let q : s + suc j ≡ suc s + j = omega arith in q) z.2))) in
    (w.0 ∷ r.0, (w.1, r.1), there w.0 r.0 (subst (λ (k : ℕ). P k w.0) (let q : s + 0 ≡ s = omega arith in q) w.2) r.2)
  where
    there : (u : Tree) (ts : List Tree) → P s u → ((j : ℕ) (t : Tree) → slice_get ts j ≡ Some t → P (suc s + j) t)
        → (j : ℕ) (t : Tree) → slice_get (u ∷ ts) j ≡ Some t → P (s + j) t
    there u ts p q zero t e =
        subst (λ (k : ℕ). P k t) (let q : s ≡ s + 0 = omega arith in q) (subst (P s) (same_Some u t e) p)
    there u ts p q (suc j) t e = subst (λ (k : ℕ). P k t) (let q : suc s + j ≡ s + suc j = omega arith in q) (q j t e)

chosen_at : (autos : List Automaton) (us : List Tree) (j : ℕ) (c : Automaton) → Choice autos us
    → slice_get autos j ≡ Some c → (u : Tree) × (slice_get us j ≡ Some u) × InLanguage c u
chosen_at [] us j c h e = absurd (none-some c e)
chosen_at (a ∷ autos) [] j c h e = absurd h
chosen_at (a ∷ autos) (u ∷ us) zero c h e =
    (u, refl, subst (λ (z : Automaton). InLanguage z u) (same_Some a c e) h.0)
chosen_at (a ∷ autos) (u ∷ us) (suc j) c h e = chosen_at autos us j c h.1 e

bares_are : (m : ℕ → Node) (rs : List ℕ) (us : List Tree) → length us ≡ length rs
    → ((j r : ℕ) (u : Tree) → slice_get rs j ≡ Some r → slice_get us j ≡ Some u → bare (m r) ≡ u)
    → bares (each_node m rs) ≡ us
bares_are m [] [] l h = refl
bares_are m [] (u ∷ us) l h = absurd (omega (arith, l))
bares_are m (r ∷ rs) [] l h = absurd (omega (arith, l))
bares_are m (r ∷ rs) (u ∷ us) l h =
    ap₂ (λ (x : Tree) (y : List Tree). x ∷ y) (h 0 r u refl refl)
    (bares_are m rs us (omega (arith, l)) (λ j k v a b. h (suc j) k v a b))

module _ (t : Boxes) (F G : Forest) (over : IsOver t F) (n i : ℕ) (out : Option ℕ) (g : BoxDef)
    (x : FoldOf (faces_of t.defs) t.defs F G n i out g) (us : List Tree) (c : Choice G.autos us) where
  abbrev bs : List BoxFace
  bs = faces_of t.defs

  abbrev face : Face
  face = record { shapes = t.face.shapes; boxes = bs }

  abbrev inner : List ℕ
  inner = x.part.inner

  abbrev f : ℕ → ℕ
  f = number_without inner

  -- the tree of a kept root folds into the one in its place
  abbrev FoldsHere : ℕ → Tree → Type 0
  FoldsHere r v = (IsIn r inner → ⊥) → (u : Tree) × (slice_get us (f r) ≡ Some u)
      × IsFoldedTree bs f (gained (box_slot f n out) i r) (taken_at x.part.ports r) v u

  some_tree : (r : ℕ) (a : Automaton) → slice_get F.autos r ≡ Some a → (v : Tree) × InLanguage a v × FoldsHere r v
  some_tree r a h = here (has r inner) refl
    where
      here : (b : Bool) → has r inner ≡ b → (v : Tree) × InLanguage a v × FoldsHere r v
      here true q =
          let some = every_in HasSome F.autos a over.sound.full (in_from_place F.autos r a h) in
          (some.0, some.1, λ k. absurd (k (has_in r inner q)))
      here false q =
          let k : IsIn r inner → ⊥ = λ j. true≢false (sym (in_has r inner j) ∙ q) in
          let v = x.autos r a h k in
          let u = chosen_at G.autos us (f r) v.0 c v.1 in
          let w = (v.2 u.0).0 u.2 in
          (w.0, w.1, λ z. (u.0, u.1, w.2))

  before : Chosen FoldsHere 0 F.autos
  before = chosen_by FoldsHere 0 F.autos
      (λ j a h. subst (λ (r : ℕ). (v : Tree) × InLanguage a v × FoldsHere r v) (let q : j ≡ 0 + j = omega arith in q)
      (some_tree j a h))

  abbrev ts : List Tree
  ts = before.0

  pub trees_filled_here : (vars : G.vars ≡ map (moved_target f) F.vars) → ChoiceFilled face G us
  trees_filled_here vars =
      let filled = over.sound.well_formed.filled in
      let a = filled.trees ts before.1 in
      let z = dress_all t.defs 0 F.autos ts a.tops over.ranked
      (insides_of t F over F.autos filled.rules) before.1 a.are in
      let apart : IsDistinct (map cell_number (cells z.nodes)) =
      subst IsDistinct (sym (forest_numbers (roots_of z.nodes) z.nodes))
      (numbered_differ 0 (all_numbers z.nodes) z.cells) in
      let k = e t F over n i x.def x.there out g x.part x.within z.nodes z.of in
      let same : bares k ≡ us = bares_same z.nodes z.trees z.of in
      record {
        tops = node_structs k;
        are = subst (λ (l : List Tree). TopsAre l (node_structs k)) same (structs_tops k);
        vars = subst (λ (l : List Target). Every (IsRoot (length us)) l) (sym vars)
            (roots_there z.nodes z.of (sym (ap length same) ∙ bares_length k) F.vars
            (λ r j. (refers_well t.face F over.sound).vars r j)
            (λ r j q. (x.part.reached ts before.1).no_var r q j));
        cells = subst (λ (l : List Tree). TreesFilled face l (node_structs k) 0 l) same
            (fold_filled t F over n i x.def x.there out g x.part x.within z.nodes z.of apart);
      }
    where
      tree_at : (d : Nodes) (r : ℕ) → bares d ≡ ts → r < count d → slice_get ts r ≡ Some (bare (node_or d r))
      tree_at d r q l = subst (λ (z : List Tree). slice_get z r ≡ Some (bare (node_or d r))) q (bare_got d r l)

      bares_same : (d : Nodes) → bares d ≡ ts → (of : OfForest t.defs F d)
          → bares (e t F over n i x.def x.there out g x.part x.within d of) ≡ us
      bares_same d q of =
          bares_are (folded_node t.defs bs F x.def i out g x.part d of
          (low t F over n i x.def x.there out g x.part x.within d of) n)
          (kept_there t F over n i x.def x.there out g x.part x.within d of) us
          (choice_length G.autos us c ∙ same_many t F G over n i out g x d of)
          (λ j r u h k.
          (let m = in_from_place (kept_there t F over n i x.def x.there out g x.part x.within d of) j r h in
          let o = in_kept inner (counted 0 (count d)) r m in
          let num : f r ≡ j = kept_number inner
          (once_here t.defs bs F x.def i out g x.part d of
          (low t F over n i x.def x.there out g x.part x.within d of)) (count d) j r h in
          let l : r < count d = (let q = (counted_above 0 (count d) r o.1).1 in omega (arith, q)) in
          let v = tree_at d r q l in
          let zero_on : 0 + r ≡ r = omega arith in
          let w = subst (λ (z : ℕ). FoldsHere z (bare (node_or d r))) zero_on (before.2 r (bare (node_or d r)) v) o.0 in
          let e : w.0 ≡ u = same_Some w.0 u (sym w.1 ∙ ap (slice_get us) num ∙ k) in
          one_fold bs f (gained (box_slot f n out) i r) (taken_at x.part.ports r) (bare (node_or d r))
          (bare (folded_node t.defs bs F x.def i out g x.part d of
          (low t F over n i x.def x.there out g x.part x.within d of) n r)) u
          (is_folded t F over n i x.def x.there out g x.part x.within d of r m)
          (subst (λ (y : Tree). IsFoldedTree bs f (gained (box_slot f n out) i r) (taken_at x.part.ports r)
          (bare (node_or d r)) y) e w.2)))

      roots_there : (d : Nodes) (of : OfForest t.defs F d)
          → length us ≡ count (e t F over n i x.def x.there out g x.part x.within d of) → (vs : List Target)
          → ((r : ℕ) → IsIn (At r) vs → r < length F.autos) → ((r : ℕ) → IsIn (At r) vs → IsIn r inner → ⊥)
          → Every (IsRoot (length us)) (map (moved_target f) vs)
      roots_there d of q [] h k = tt
      roots_there d of q (v ∷ vs) h k = (one v h k, roots_there d of q vs (λ r j. h r (inr j)) (λ r j. k r (inr j)))
        where
          kind : Target → ℕ
          kind Null = 0
          kind Uninit = 0
          kind Dangling = 0
          kind (At r) = suc r

          one : (v : Target) → ((r : ℕ) → IsIn (At r) (v ∷ vs) → r < length F.autos)
              → ((r : ℕ) → IsIn (At r) (v ∷ vs) → IsIn r inner → ⊥) → IsRoot (length us) (moved_target f v)
          one Null h k = λ r e. absurd (let z : 0 ≡ suc r = ap kind e in omega (arith, z))
          one Uninit h k = λ r e. absurd (let z : 0 ≡ suc r = ap kind e in omega (arith, z))
          one Dangling h k = λ r e. absurd (let z : 0 ≡ suc r = ap kind e in omega (arith, z))
          one (At s) h k = λ r e.
              (let z : suc (f s) ≡ suc r = ap kind e in
              let l = new_below t F over n i x.def x.there out g x.part x.within d of s
              (subst (λ (m : ℕ). s < m) (sym (as_many t.defs F.autos d of)) (h s (inl refl))) (k s (inl refl)) in
              omega (arith, z, l, q))

-- whichever trees are taken, the folded forest is filled
pub folds_filled : (t : Boxes) (F G : Forest) (n i : ℕ) (out : Option ℕ) (g : BoxDef) → IsOver t F
    → FoldOf t.face.boxes t.defs F G n i out g → (us : List Tree) → Choice G.autos us → ChoiceFilled t.face G us
folds_filled t F G n i out g over x us c =
    let y = subst (λ (bs : List BoxFace). FoldOf bs t.defs F G n i out g) over.table.faces x in
    let same : record { shapes = t.face.shapes; boxes = faces_of t.defs } ≡ t.face =
    ap (λ (z : List BoxFace). record { shapes = t.face.shapes; boxes = z }) (sym over.table.faces) in
    subst (λ (z : Face). ChoiceFilled z G us) same (trees_filled_here t F G over n i out g y us c y.vars)
