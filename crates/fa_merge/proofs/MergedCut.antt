-- A piece of the merged component with one signature in its place: the forest is sound, and has the same trees.
use Rattle.std.proofs.Common.{◌≡◌, ℕ, zero, suc, ◌<◌, List, [], ◌∷◌, ◌++◌, length, refl, sym, ap}
use Rattle.std.proofs.Common.{subst, ◌∙◌}
use Rattle.std.proofs.Common.{map, slice_set, length-set, arith}
use Rattle.fore_base.specs.Lists.{IsIn, Every, Paired}
use Rattle.fore_base.proofs.ListLemmas.{every_in, every_parts, in_every}
use Rattle.ta_core.specs.Auto.{Automaton}
use Rattle.ta_core.specs.Language.{InLanguage, HasSameLanguage}
use Rattle.ta_core.specs.declared.auto.Rule.{Rule}
use Rattle.ta_core.specs.declared.tree.Tree.{Tree}
use Rattle.fa_core.specs.declared.boxes.BoxDef.{BoxDef}
use Rattle.fa_core.specs.declared.faces.Face.{Face}
use Rattle.fa_core.specs.declared.forest.Forest.{Forest}
use Rattle.fa_core.specs.declared.signature.RefMark.{RefMark}
use Rattle.fa_core.specs.Dressed.{Nodes, no_nodes, more, cells, roots_of, value_in}
use Rattle.fa_core.specs.Filled.{Choice, HasSignatures, HasSome, IsSound, RulesFit, SymbolFits}
use Rattle.fa_core.specs.Member.{Regroups, TreesOf, bare}
use Rattle.fa_core.proofs.Composed.{regroups_on}
use Rattle.fa_core.proofs.Rearranging.{same}
use Rattle.fa_core.proofs.Regrouped.{members_regrouped}
use Rattle.fa_signatures.specs.CutPieces.{AreCut, IsPiece, IsPieceBy}
use Rattle.fa_sound.specs.Components.{component_at, with_component}
use Rattle.fa_merge.specs.Merged.{HasSameMembers, HasTreesOf, lowered, merged, merged_at, to_last}
use Rattle.fa_merge.specs.inner.Lone.{IsLone}
use Rattle.fa_merge.proofs.Lowered.{to_last_lowered}
use Rattle.fa_merge.proofs.MergedAnywhere.{new, others_new, last_new, place_less, merge_any, unmerge_any}
use Rattle.fa_merge.proofs.PlacedForests.{component_has}
use Rattle.fa_merge.proofs.MergedSound.{each_with, merged_filled, merged_full, new_fits, new_signed, new_some}
use Rattle.fa_merge.proofs.MergedSound.{one_signature}

-- One component set.

set_twice : (xs : List Automaton) (p : ℕ) (x y : Automaton) → slice_set (slice_set xs p x) p y ≡ slice_set xs p y
set_twice [] p x y = refl
set_twice (z ∷ xs) zero x y = refl
set_twice (z ∷ xs) (suc p) x y = ap (λ (l : List Automaton). z ∷ l) (set_twice xs p x y)

set_at : (xs : List Automaton) (p : ℕ) (x : Automaton) → p < length xs → component_at (slice_set xs p x) p ≡ x
set_at [] p x l = absurd (omega (arith, l))
set_at (z ∷ xs) zero x l = refl
set_at (z ∷ xs) (suc p) x l = set_at xs p x (omega (arith, l))

own_language : (xs : List Automaton) → Paired HasSameLanguage xs xs
own_language [] = tt
own_language (x ∷ xs) = ((λ t. ((λ w. w), (λ w. w))), own_language xs)

set_language : (xs : List Automaton) (p : ℕ) (x y : Automaton) → HasSameLanguage x y
    → Paired HasSameLanguage (slice_set xs p x) (slice_set xs p y)
set_language [] p x y h = tt
set_language (z ∷ xs) zero x y h = (h, own_language xs)
set_language (z ∷ xs) (suc p) x y h = ((λ t. ((λ w. w), (λ w. w))), set_language xs p x y h)

pub languages_back : (xs ys : List Automaton) → Paired HasSameLanguage xs ys → Paired HasSameLanguage ys xs
languages_back [] [] h = tt
languages_back [] (y ∷ ys) h = absurd h
languages_back (x ∷ xs) [] h = absurd h
languages_back (x ∷ xs) (y ∷ ys) h = ((λ t. ((h.0 t).1, (h.0 t).0)), languages_back xs ys h.1)

-- a choice of trees is one of components with the same languages
pub choice_over : (xs ys : List Automaton) (ts : List Tree) → Paired HasSameLanguage xs ys → Choice xs ts → Choice ys ts
choice_over [] [] ts h c = c
choice_over [] (y ∷ ys) ts h c = absurd h
choice_over (x ∷ xs) [] ts h c = absurd h
choice_over (x ∷ xs) (y ∷ ys) [] h c = c
choice_over (x ∷ xs) (y ∷ ys) (t ∷ ts) h c = ((h.0 t).0 c.0, choice_over xs ys ts h.1 c.1)

trees_over : (T : List BoxDef) (xs ys : List Automaton) (d : Nodes) → Paired HasSameLanguage xs ys → TreesOf T xs d
    → TreesOf T ys d
trees_over T [] [] d h c = c
trees_over T [] (y ∷ ys) d h c = absurd h
trees_over T (x ∷ xs) [] d h c = absurd h
trees_over T (x ∷ xs) (y ∷ ys) no_nodes h c = c
trees_over T (x ∷ xs) (y ∷ ys) (more n ns) h c =
    ((h.0 (bare n)).0 c.0, c.1, trees_over T xs ys ns h.1 c.2)

-- forests with the same trees regroup each other
pub trees_regroup : (T : List BoxDef) (F G : Forest) → HasTreesOf F G → Regroups T F G
trees_regroup T F G h d of = (
  d,
  record {
    of = trees_over T G.autos F.autos d (languages_back F.autos G.autos h.autos) of;
    same_cells = same (cells d);
    vars = ap (map (value_in (roots_of d))) h.vars;
    data_vars = h.data_vars;
  },
)

pub trees_regroup_back : (T : List BoxDef) (F G : Forest) → HasTreesOf F G → Regroups T G F
trees_regroup_back T F G h = trees_regroup T G F
    (record { autos = languages_back F.autos G.autos h.autos; vars = sym h.vars; data_vars = sym h.data_vars })

own_trees : (F : Forest) → HasTreesOf F F
own_trees F = record { autos = own_language F.autos; vars = refl; data_vars = refl }

pub equal_trees : (F G : Forest) → G ≡ F → HasTreesOf F G
equal_trees F G e = subst (HasTreesOf F) (sym e) (own_trees F)

module _ (face : Face) (F : Forest) (r i : ℕ) (h : IsLone F r i) (sound : IsSound face F) where
  abbrev R : ℕ
  R = length (others_new F r i h)

  abbrev both : Automaton
  both = merged R (new F r i h i) (new F r i h r)

  abbrev place : ℕ
  place = to_last (length F.autos) r i

  abbrev G : Forest
  G = merged_at r i F

  pub place_within : to_last (length F.autos) r i < length (merged_at r i F).autos
  place_within =
      let a = place_less F r i h i h.into h.apart in
      let b : to_last (length F.autos) r r ≡ R = last_new F r i h in
      let c = length-set (others_new F r i h) place both in
      omega (arith, a, b, c)

  -- the component that was merged
  pub merged_here : component_at (merged_at r i F).autos (to_last (length F.autos) r i)
      ≡ merged (length (others_new F r i h)) (new F r i h i) (new F r i h r)
  merged_here =
      set_at (others_new F r i h) place both
      (let a = place_less F r i h i h.into h.apart in
      let b : to_last (length F.autos) r r ≡ R = last_new F r i h in
      omega (arith, a, b))

  module _ (marks : List RefMark) (piece : Automaton)
      (is : IsPieceBy face.boxes (component_at (merged_at r i F).autos (to_last (length F.autos) r i)) marks piece)
    where
      abbrev whole : Automaton
      whole = component_at (merged_at r i F).autos (to_last (length F.autos) r i)

      same_language : HasSameLanguage (merged (length (others_new F r i h)) (new F r i h i) (new F r i h r)) piece
      same_language t = (
        λ w.
            (let u = is.some in
            let k = (is.trees u.0).0 u.1 in
            (is.trees t).1 (
              subst (λ (a : Automaton). InLanguage a t) (sym merged_here) w,
              one_signature face F r i h sound t u.0 w (subst (λ (a : Automaton). InLanguage a u.0) merged_here k.0)
                  ∙ k.1,
            )),
        λ w. subst (λ (a : Automaton). InLanguage a t) merged_here ((is.trees t).0 w).0,
      )

      abbrev H : Forest
      H = with_component (merged_at r i F) (to_last (length F.autos) r i) piece

      autos_are : H.autos ≡ slice_set (others_new F r i h) (to_last (length F.autos) r i) piece
      autos_are = set_twice (others_new F r i h) place both piece

      -- the same trees
      pub cut_trees : HasTreesOf (merged_at r i F)
          (with_component (merged_at r i F) (to_last (length F.autos) r i) piece)
      cut_trees = record {
        autos = subst (λ (z : List Automaton). Paired HasSameLanguage (merged_at r i F).autos z) (sym autos_are)
            (set_language (others_new F r i h) place both piece same_language);
        vars = refl;
        data_vars = refl;
      }

      piece_fits : RulesFit face piece
      piece_fits = in_every (λ (x : Rule). SymbolFits face x.symbol) piece.rules
          (λ x j. (let o = every_in (λ (y : Rule). (o : Rule) × IsIn o whole.rules × (o.symbol ≡ y.symbol))
          piece.rules x is.symbols j in
          subst (SymbolFits face) o.2
          (every_in (λ (y : Rule). SymbolFits face y.symbol) whole.rules o.0 whole_fits o.1)))
        where
          whole_fits : RulesFit face (component_at (merged_at r i F).autos (to_last (length F.autos) r i))
          whole_fits = component_has (RulesFit face) (merged_at r i F).autos (to_last (length F.autos) r i)
              (merged_filled face F r i h sound).rules place_within

      each_cut : (P : Automaton → Type 0) → ((k : ℕ) → k < length F.autos → P (new F r i h k)) → P piece
          → Every P H.autos
      each_cut P old one = subst (λ (z : List Automaton). Every P z) (sym autos_are)
          (each_with face F r i h sound P piece (λ k l d e. old k l) one)

      -- and sound
      pub cut_sound : IsSound face (with_component (merged_at r i F) (to_last (length F.autos) r i) piece)
      cut_sound = record {
        well_formed = record {
          filled = record {
            data_vars = (merged_filled face F r i h sound).data_vars;
            rules = each_cut (RulesFit face) (new_fits face F r i h sound) piece_fits;
            trees = λ ts c.
                (let q = (merged_filled face F r i h sound).trees ts
                (choice_over H.autos G.autos ts (languages_back G.autos H.autos cut_trees.autos) c) in
                record { tops = q.tops; are = q.are; vars = q.vars; cells = q.cells });
          };
          signatures = each_cut (HasSignatures face.boxes) (new_signed face F r i h sound) is.uniform;
        };
        full = each_cut HasSome (new_some face F r i h sound) is.some;
      }

  -- The same, where the place is told by the number of the root, and the merged forest by its name.

  module _ (made : Forest) (e : made ≡ merged_at r i F) (p : ℕ) (q : p ≡ lowered r i) where
    place_is : to_last (length F.autos) r i ≡ p
    place_is = to_last_lowered (length F.autos) r i h.into h.apart ∙ sym q

    pub piece_within : p < length made.autos
    piece_within = subst (λ (z : Forest). p < length z.autos) (sym e)
        (subst (λ (k : ℕ). k < length (merged_at r i F).autos) place_is place_within)

    pub some_piece : (pieces : List Automaton) → AreCut face.boxes (component_at made.autos p) pieces → pieces ≡ [] → ⊥
    some_piece pieces cut none =
        let some : HasSome (component_at made.autos p) =
        subst (λ (z : Forest). HasSome (component_at z.autos p)) (sym e)
        (component_has HasSome (merged_at r i F).autos p (merged_full face F r i h sound)
        (subst (λ (k : ℕ). k < length (merged_at r i F).autos) place_is place_within)) in
        let b = cut.whole some.0 some.1 in
        subst (λ (z : List Automaton). IsIn b.0 z) none b.1

    pub last_piece : (pieces others : List Automaton) (piece : Automaton)
        → AreCut face.boxes (component_at made.autos p) pieces
        → pieces ≡ others ++ piece ∷ [] → IsPiece face.boxes (component_at made.autos p) piece
    last_piece pieces others piece cut is =
        (every_parts (IsPiece face.boxes (component_at made.autos p)) others (piece ∷ [])
        (subst (λ (z : List Automaton). Every (IsPiece face.boxes (component_at made.autos p)) z) is cut.each)).1.0

    module _ (piece : Automaton) (is : IsPiece face.boxes (component_at made.autos p) piece) where
      here : IsPieceBy face.boxes (component_at (merged_at r i F).autos (to_last (length F.autos) r i)) is.0 piece
      here = subst (λ (k : ℕ). IsPieceBy face.boxes (component_at (merged_at r i F).autos k) is.0 piece) (sym place_is)
          (subst (λ (z : Forest). IsPieceBy face.boxes (component_at z.autos p) is.0 piece) e is.1)

      pub piece_sound : IsSound face (with_component made p piece)
      piece_sound = subst (λ (z : Forest). IsSound face (with_component z p piece)) (sym e)
          (subst (λ (k : ℕ). IsSound face (with_component (merged_at r i F) k piece)) place_is
          (cut_sound is.0 piece here))

      pub piece_trees : HasTreesOf made (with_component made p piece)
      piece_trees = subst (λ (z : Forest). HasTreesOf z (with_component z p piece)) (sym e)
          (subst (λ (k : ℕ). HasTreesOf (merged_at r i F) (with_component (merged_at r i F) k piece)) place_is
          (cut_trees is.0 piece here))

-- What has the trees of the merged forest is regrouped with the old one.
module _ (F : Forest) (r i : ℕ) (h : IsLone F r i) (M : Forest) (trees : HasTreesOf (merged_at r i F) M) where
  pub merged_whole : (T : List BoxDef) → Regroups T M F
  merged_whole T = regroups_on T M (merged_at r i F) F (trees_regroup_back T (merged_at r i F) M trees)
      (merge_any F r i h T)

  pub merged_regroups : (T : List BoxDef) → Regroups T F M
  merged_regroups T = regroups_on T F (merged_at r i F) M (unmerge_any F r i h T)
      (trees_regroup T (merged_at r i F) M trees)

  pub merged_members : HasSameMembers M F
  merged_members hs T m = (
    members_regrouped hs T F M (merged_regroups T) m,
    members_regrouped hs T M F
        (merged_whole T) m,
  )
