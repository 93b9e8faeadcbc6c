-- Each dressed forest is, with its part put inside a box edge, one of the folded forest; so each member is one of it.
use Rattle.std.proofs.Common.{◌≡◌, ◌<◌, ◌+◌, ◌-◌, inl, inr, ℕ, suc, length-append}
use Rattle.std.proofs.Common.{length, List, [], ◌∷◌, ◌++◌, map, refl, sym, ap, ap₂, subst, ◌∙◌}
use Rattle.std.proofs.Common.{Option, Some, slice_get, arith}
use Rattle.std.proofs.lemmas.Option.{same_Some}
use Rattle.fore_base.specs.Lists.{IsIn, IsDistinct}
use Rattle.fore_base.specs.declared.shape.Shape.{Shape}
use Rattle.fore_base.specs.declared.store.Store.{Store}
use Rattle.fore_base.specs.declared.store.Value.{Value}
use Rattle.fore_base.proofs.ListLemmas.{in_from_place}
use Rattle.ta_core.specs.Auto.{Automaton}
use Rattle.ta_core.specs.Language.{InLanguage}
use Rattle.fa_core.specs.declared.boxes.BoxDef.{BoxDef}
use Rattle.fa_core.specs.declared.faces.BoxFace.{BoxFace}
use Rattle.fa_core.specs.declared.forest.Forest.{Forest}
use Rattle.fa_core.specs.declared.forest.Target.{Target}
use Rattle.fa_core.specs.declared.forest.Target.TheVariants.{Null, Uninit, Dangling, At}
use Rattle.fa_core.specs.Boxes.{Boxes, faces_of}
use Rattle.fa_core.specs.Choices.{bares, count}
use Rattle.fa_core.specs.Dressed.{Node, Nodes, refs}
use Rattle.fa_core.specs.Dressed.{roots_of, value_in}
use Rattle.fa_core.specs.Folding.{FoldOf}
use Rattle.fa_core.specs.Folding.{moved_target, number_without}
use Rattle.fa_core.specs.Member.{InsidesOf, OfForest, Stands, TreesOf, bare}
use Rattle.fa_core.specs.Rearranged.{Rearranged}
use Rattle.fa_core.proofs.Dressing.{choice_of}
use Rattle.fa_core.proofs.Rearranging.{long_same}
use Rattle.fa_unfold.specs.Sites.{IsOver}
use Rattle.fa_unfold.proofs.Opening.{opens_facts}
use Rattle.fa_unfold.proofs.UnfoldedMembers.{stands_again}
use Rattle.fa_folding.specs.Folded.{each_node, node_or}
use Rattle.fa_folding.specs.Folds.{FoldsInto, IsFolded}
use Rattle.fa_split.proofs.SplitCells.{refers_well}
use Rattle.fa_folding.proofs.FoldedPlaces.{is_folded, kept_below}
use Rattle.fa_folding.proofs.FoldedTables.{e, edge, kept_there, low, node_inside, opens}
use Rattle.fa_folding.proofs.FoldedTrees.{folded_node, moves}
use Rattle.fa_folding.proofs.Folding.{as_many, low_here, once_here}
use Rattle.fa_folding.proofs.Insides.{tree_there}
use Rattle.fa_merge.specs.Reordered.{counted}
use Rattle.fa_folding.proofs.Numbers.{all_roots, in_kept, kept_number}
use Rattle.fa_folding.proofs.Reached.{root_there}
use Rattle.fa_merge.proofs.OtherOrders.{counted_length}
use Rattle.fa_merge.proofs.Signatures.{one_more}

-- the trees are in the components in their places
trees_by_place : (T : List BoxDef) (autos : List Automaton) (m : ℕ → Node) (rs : List ℕ) → length autos ≡ length rs
    → ((j r : ℕ) → slice_get rs j ≡ Some r → (c : Automaton) × (slice_get autos j ≡ Some c)
    × InLanguage c (bare (m r)) × InsidesOf T (m r)) → TreesOf T autos (each_node m rs)
trees_by_place T [] m [] l h = tt
trees_by_place T [] m (r ∷ rs) l h = absurd (omega (arith, l))
trees_by_place T (a ∷ autos) m [] l h = absurd (omega (arith, l))
trees_by_place T (a ∷ autos) m (r ∷ rs) l h =
    let w = h 0 r refl in (
      subst (λ (z : Automaton). InLanguage z (bare (m r))) (sym (same_Some a w.0 w.1)) w.2,
      w.3,
      trees_by_place T autos m rs (omega (arith, l)) (λ j k q. h (suc j) k q),
    )

module _ (t : Boxes) (F G : Forest) (over : IsOver t F) (n i : ℕ) (out : Option ℕ) (g : BoxDef)
    (x : FoldOf (faces_of t.defs) t.defs F G n i out g) (d : Nodes) (of : OfForest t.defs F d) where
  abbrev bs : List BoxFace
  bs = faces_of t.defs

  abbrev lo : (r k : ℕ) → IsIn k (refs (node_or d r)) → k < count d
  lo = low t F over n i x.def x.there out g x.part x.within d of

  abbrev k : Nodes
  k = e t F over n i x.def x.there out g x.part x.within d of

  abbrev kept : List ℕ
  kept = kept_there t F over n i x.def x.there out g x.part x.within d of

  abbrev m : ℕ → Node
  m = folded_node t.defs bs F x.def i out g x.part d of lo n

  abbrev f : ℕ → ℕ
  f = number_without x.part.inner

  differ : IsDistinct x.part.inner
  differ = once_here t.defs bs F x.def i out g x.part d of lo

  kept_many : length kept + length x.part.inner ≡ length F.autos
  kept_many =
      let a = long_same (gone_and_kept_all) in
      let b = length-append x.part.inner kept in
      let c = counted_length 0 (count d) in
      let e = as_many t.defs F.autos d of in
      omega (arith, a, b, c, e)
    where
      gone_and_kept_all : Rearranged (counted 0 (count d)) (x.part.inner ++ kept)
      gone_and_kept_all = all_roots x.part.inner (count d) differ (low_here t.defs bs F x.def i out g x.part d of lo)

  pub same_many : length G.autos ≡ length kept
  same_many = let a = kept_many in let b = x.count in omega (arith, a, b)

  component_there : (j r : ℕ) → slice_get kept j ≡ Some r → (c : Automaton) × (slice_get G.autos j ≡ Some c)
      × InLanguage c (bare (m r)) × InsidesOf t.defs (m r)
  component_there j r h =
      let w = in_from_place kept j r h in
      let z = in_kept x.part.inner (counted 0 (count d)) r w in
      let a = one_more F.autos r (let l = kept_below t F over n i x.def x.there out g x.part x.within d of r w in
      let q = as_many t.defs F.autos d of in
      subst (λ (z : ℕ). r < z) q l) in
      let v = x.autos r a.0 a.1 z.0 in
      let num : f r ≡ j = kept_number x.part.inner differ (count d) j r h in
      let u = tree_there t.defs F.autos d r a.0 of a.1 in (
        v.0,
        subst (λ (s : ℕ). slice_get G.autos s ≡ Some v.0) num v.1,
        (v.2 (bare (m r))).1 (
          bare (node_or d r),
          u.0,
          is_folded t F over n i x.def x.there out g x.part x.within d of r w,
        ),
        node_inside t F over n i x.def x.there out g x.part x.within d of r,
      )

  pub of_fold : OfForest t.defs G k
  of_fold = trees_by_place t.defs G.autos m kept same_many component_there

  some_var : (us : List Target) → ((r : ℕ) → IsIn (At r) us → (r < count d) × (IsIn r x.part.inner → ⊥))
      → map (value_in (roots_of d)) us ≡ map (value_in (roots_of k)) (map (moved_target f) us)
  some_var [] h = refl
  some_var (Null ∷ us) h = ap (λ (z : List Value). value_in (roots_of d) Null ∷ z) (some_var us (λ r j. h r (inr j)))
  some_var (Uninit ∷ us) h = ap (λ (z : List Value). value_in (roots_of d) Uninit ∷ z)
      (some_var us (λ r j. h r (inr j)))
  some_var (Dangling ∷ us) h = ap (λ (z : List Value). value_in (roots_of d) Dangling ∷ z)
      (some_var us (λ r j. h r (inr j)))
  some_var (At r ∷ us) h =
      let w = h r (inl refl) in
      ap₂ (λ (v : Value) (z : List Value). v ∷ z)
      (root_there d r w.0 ∙ sym (moves t.defs bs F x.def i out g x.part d of lo n r w.0 w.1))
      (some_var us (λ r j. h r (inr j)))

  pub fold_is : IsFolded F G d k
  fold_is =
      let w = x.part.reached (bares d) (choice_of t.defs F.autos d of) in
      let refer = refers_well t.face F over.sound in
      record {
        edge = edge t F over n i x.def x.there out g x.part x.within d of;
        opens = opens t F over n i x.def x.there out g x.part x.within d of;
        vars = some_var F.vars
            (λ r j. (
              subst (λ (z : ℕ). r < z) (sym (as_many t.defs F.autos d of)) (refer.vars r j),
              (λ q. w.no_var r q j),
            ))
            ∙ ap (map (value_in (roots_of k))) (sym x.vars);
        data_vars = sym x.data_vars;
      }

-- a fold keeps the dressed forests, over the boxes of the table
pub folds_into : (t : Boxes) (F G : Forest) (n i : ℕ) (out : Option ℕ) (g : BoxDef) → IsOver t F
    → FoldOf t.face.boxes t.defs F G n i out g → FoldsInto t.defs F G
folds_into t F G n i out g over x d of =
    let y = subst (λ (bs : List BoxFace). FoldOf bs t.defs F G n i out g) over.table.faces x in (
      e t F over n i y.def y.there out g y.part y.within d of,
      of_fold t F G over n i out g y d of,
      fold_is t F G over n i out g y d of,
    )

-- so each member of the forest before is one of the forest after
pub members_kept : (hs : List Shape) (T : List BoxDef) (F G : Forest) (s : Store) → FoldsInto T F G → Stands hs T F s
    → Stands hs T G s
members_kept hs T F G s u h =
    let w = u h.0 h.1.of in (
      w.0,
      stands_again hs T F G h.0 w.0 s h.1 w.1 (opens_facts w.2.edge w.0 h.0 w.2.opens) w.2.vars w.2.data_vars,
    )
