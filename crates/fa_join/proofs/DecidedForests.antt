-- Where two forests differ that can be joined, and where they differ too much.
use Rattle.std.proofs.Common.{◌≡◌, inl, inr, ℕ, ◌<◌, length, List, [], ◌∷◌, sym, ap, subst, ◌∙◌, slice_get, Some}
use Rattle.std.proofs.lemmas.Option.{same_Some}
use Rattle.fore_base.specs.Lists.{Every, Paired, PairedBut}
use Rattle.fore_base.proofs.ListLemmas.{every_in, paired_long}
use Rattle.ta_core.specs.Arity.{arity}
use Rattle.ta_core.specs.Auto.{Automaton, IsRanked, IsRankedRule}
use Rattle.ta_core.specs.Language.{HasSameLanguage}
use Rattle.ta_core.specs.Single.{HasOneTop}
use Rattle.ta_core.specs.declared.tree.Tree.{out-Tree}
use Rattle.fa_core.specs.Filled.{HasSome}
use Rattle.fa_core.specs.declared.faces.BoxFace.{BoxFace}
use Rattle.fa_core.specs.declared.forest.Forest.{Forest}
use Rattle.fa_sound.specs.Components.{component_at}
use Rattle.fa_merge.proofs.PlacedForests.{component_has}
use Rattle.fa_sound.proofs.ComponentLemmas.{component_got}
use Rattle.fa_split.specs.Split.{CanSplit, top_rule, child_state}
use Rattle.fa_split.proofs.RunPlaces.{at_index}
use Rattle.fa_split.proofs.TopRules.{top_in, tree_by_top, top_by_tree}
use Rattle.fa_join.specs.Joinable.{PairedButOne, SameRuns, SameSignatures, DifferInChild, Joinable}
use Rattle.fa_join.specs.declared.comparing.Apart.{Apart}
use Rattle.fa_join.specs.declared.comparing.Apart.TheVariants.{Nowhere, At, More}
use Rattle.fa_join.specs.declared.differing.Difference.TheVariants.{Nowhere as SameAll, Child}
use Rattle.fa_join.specs.inner.Apart.{IsApart}
use Rattle.fa_join.specs.inner.Differing.{SameTops, LookAlike, CanJoin, IsBelow}
use Rattle.fa_join.proofs.Deciding.{paired_there, same_paired, same_but, paired_one, but_one, one_there, never_two}
use Rattle.fa_join.proofs.JoinedAutos.{same_each, same_back}

-- Tops.

-- automata with the same trees have the same symbol at the top
same_top : (a b : Automaton) → HasOneTop a → HasOneTop b → HasSome a → HasSameLanguage a b → SameTops a b
same_top a b one_a one_b some h = (tree_by_top a one_a some.0 some.1).0
    ∙ sym (tree_by_top b one_b some.0 ((h some.0).0 some.1)).0

same_tops : (xs ys : List Automaton) → Every HasOneTop xs → Every HasOneTop ys → Every HasSome xs
    → Paired HasSameLanguage xs ys → Paired SameTops xs ys
same_tops [] [] x y s h = tt
same_tops [] (b ∷ ys) x y s h = absurd h
same_tops (a ∷ xs) [] x y s h = absurd h
same_tops (a ∷ xs) (b ∷ ys) x y s h = (same_top a b x.0 y.0 s.0 h.0, same_tops xs ys x.1 y.1 s.1 h.1)

one_tops : (faces : List BoxFace) (xs ys : List Automaton) → Every HasOneTop xs → Every HasOneTop ys → Every HasSome xs
    → PairedButOne HasSameLanguage (DifferInChild faces) xs ys → Paired SameTops xs ys
one_tops faces [] [] x y s h = tt
one_tops faces [] (b ∷ ys) x y s h = absurd h
one_tops faces (a ∷ xs) [] x y s h = absurd h
one_tops faces (a ∷ xs) (b ∷ ys) x y s (inl h) = (same_top a b x.0 y.0 s.0 h.0, one_tops faces xs ys x.1 y.1 s.1 h.1)
one_tops faces (a ∷ xs) (b ∷ ys) x y s (inr h) = (h.0.symbols, same_tops xs ys x.1 y.1 s.1 h.1)

-- forests that can be joined look alike
pub joinable_alike : (faces : List BoxFace) (F G : Forest) → Every HasOneTop F.autos → Every HasOneTop G.autos
    → Every HasSome F.autos → Joinable faces F G → LookAlike F G
joinable_alike faces F G x y s h =
    record { vars = h.vars; data_vars = h.data_vars; tops = one_tops faces F.autos G.autos x y s h.components }

-- automata whose rules at the top have one symbol and children with the same trees have the same trees
pub same_below : (a b : Automaton) → HasOneTop a → HasOneTop b → SameTops a b
    → Paired (SameRuns a b) (top_rule a).children (top_rule b).children → HasSameLanguage a b
same_below a b one_a one_b e h t = (
  (λ l.
      (let k = tree_by_top a one_a t l in
      top_by_tree b one_b t (
        sym e ∙ k.0,
        same_each a b (top_rule a).children (top_rule b).children (out-Tree t).children h k.1,
      ))),
  (λ l.
      (let k = tree_by_top b one_b t l in
      top_by_tree a one_a t (
        e ∙ k.0,
        same_back a b (top_rule a).children (top_rule b).children (out-Tree t).children h k.1,
      ))),
)

-- rules at the top with one symbol have as many children
tops_long : (a b : Automaton) → IsRanked a → IsRanked b → HasOneTop a → HasOneTop b → SameTops a b
    → length (top_rule a).children ≡ length (top_rule b).children
tops_long a b ranked_a ranked_b one_a one_b e =
    (every_in (IsRankedRule a.states) a.rules (top_rule a) ranked_a.1 (top_in a one_a)).2 ∙ ap arity e
    ∙ sym (every_in (IsRankedRule b.states) b.rules (top_rule b) ranked_b.1 (top_in b one_b)).2

-- The languages differ at no root, or at two.

pub nowhere_can : (faces : List BoxFace) (F G : Forest) → LookAlike F G
    → IsApart HasSameLanguage F.autos G.autos (length F.autos) Nowhere → CanJoin faces F G SameAll
nowhere_can faces F G h k =
    let same = same_paired HasSameLanguage F.autos G.autos (paired_long SameTops F.autos G.autos h.tops) k in (
      record {
        vars = h.vars;
        data_vars = h.data_vars;
        components = paired_one HasSameLanguage (DifferInChild faces) F.autos G.autos same;
      },
      same,
    )

pub more_cannot : (faces : List BoxFace) (F G : Forest) → IsApart HasSameLanguage F.autos G.autos (length F.autos) More
    → Joinable faces F G → ⊥
more_cannot faces F G k h =
    never_two HasSameLanguage (DifferInChild faces) F.autos G.autos k.0 k.1 h.components k.3 k.4 k.2

-- They differ at one root.

module _ (faces : List BoxFace) (F G : Forest) (r : ℕ) (tops_F : Every HasOneTop F.autos)
    (tops_G : Every HasOneTop G.autos) (alike : LookAlike F G)
    (apart : IsApart HasSameLanguage F.autos G.autos (length F.autos) (At r)) where
  abbrev a : Automaton
  a = component_at F.autos r

  abbrev b : Automaton
  b = component_at G.autos r

  long : length F.autos ≡ length G.autos
  long = paired_long SameTops F.autos G.autos alike.tops

  pub left : r < length F.autos
  left = apart.0

  pub right : r < length G.autos
  right = subst (λ (n : ℕ). r < n) long apart.0

  is_a : slice_get F.autos r ≡ Some a
  is_a = component_got F.autos r left

  is_b : slice_get G.autos r ≡ Some b
  is_b = component_got G.autos r right

  pub one_a : HasOneTop a
  one_a = component_has HasOneTop F.autos r tops_F left

  pub one_b : HasOneTop b
  one_b = component_has HasOneTop G.autos r tops_G right

  same_symbol : SameTops a b
  same_symbol = paired_there SameTops F.autos G.autos r a b alike.tops is_a is_b

  other : HasSameLanguage a b → ⊥
  other h =
      let d = apart.1 in
      let e : d.0 ≡ a = same_Some d.0 a (sym d.2 ∙ is_a) in
      let f : d.1 ≡ b = same_Some d.1 b (sym d.3 ∙ is_b) in
      d.4
      (subst (λ (z : Automaton). HasSameLanguage z d.1) (sym e)
      (subst (λ (z : Automaton). HasSameLanguage a z) (sym f) h))

  others : PairedBut HasSameLanguage r a b F.autos G.autos
  others = same_but HasSameLanguage F.autos G.autos r a b long is_a is_b apart.2

  -- what holds of the roots where the forests can be joined
  differ : Joinable faces F G → DifferInChild faces a b
  differ h = one_there HasSameLanguage (DifferInChild faces) F.autos G.autos r a b h.components is_a is_b other

  module _ (ranked_a : IsRanked a) (ranked_b : IsRanked b) where
    pub children_long : length (top_rule a).children ≡ length (top_rule b).children
    children_long = tops_long a b ranked_a ranked_b one_a one_b same_symbol

    abbrev IsPlaced : Apart → Type 0
    IsPlaced found = IsApart (SameRuns a b) (top_rule a).children (top_rule b).children
        (length (top_rule a).children) found

    module _ (p : ℕ) (at : IsPlaced (At p)) where
      child : slice_get (top_rule a).children p ≡ Some (child_state a p)
      child = at_index (top_rule a).children p at.0

      place : p < length (top_rule b).children
      place = subst (λ (n : ℕ). p < n) children_long at.0

      other_child : slice_get (top_rule b).children p ≡ Some (child_state b p)
      other_child = at_index (top_rule b).children p place

      can_left : CanSplit F r p
      can_left = record { root = left; top = one_a; place = at.0 }

      can_right : CanSplit G r p
      can_right = record { root = right; top = one_b; place = place }

      child_differs : SameRuns a b (child_state a p) (child_state b p) → ⊥
      child_differs h =
          let d = at.1 in
          let e : d.0 ≡ child_state a p = same_Some d.0 (child_state a p) (sym d.2 ∙ child) in
          let f : d.1 ≡ child_state b p = same_Some d.1 (child_state b p) (sym d.3 ∙ other_child) in
          d.4
          (subst (λ (z : ℕ). SameRuns a b z d.1) (sym e)
          (subst (λ (z : ℕ). SameRuns a b (child_state a p) z) (sym f) h))

      below_cannot : (SameSignatures faces a b (child_state a p) (child_state b p) → ⊥) → Joinable faces F G → ⊥
      below_cannot n h =
          n
          (one_there (SameRuns a b) (SameSignatures faces a b) (top_rule a).children (top_rule b).children p
          (child_state a p) (child_state b p) (differ h).children child other_child child_differs)

      below_can : SameSignatures faces a b (child_state a p) (child_state b p) → CanJoin faces F G (Child r p)
      below_can marks =
          let but : PairedBut (SameRuns a b) p (child_state a p) (child_state b p) (top_rule a).children
          (top_rule b).children = same_but (SameRuns a b) (top_rule a).children (top_rule b).children p
          (child_state a p) (child_state b p) children_long child other_child at.2 in (
            record {
              vars = alike.vars;
              data_vars = alike.data_vars;
              components = but_one HasSameLanguage (DifferInChild faces) r F.autos G.autos a b others (record {
                symbols = same_symbol;
                children = but_one (SameRuns a b) (SameSignatures faces a b) p (top_rule a).children
                    (top_rule b).children (child_state a p) (child_state b p) but marks;
              });
            },
            record {
              root = left;
              others = others;
              below = record { place = at.0; symbols = same_symbol; children = but; marks = marks };
            },
          )

    pub below : (found : Apart) → IsPlaced found → IsBelow faces F G r found
    below Nowhere k =
        other
        (same_below a b one_a one_b same_symbol
        (same_paired (SameRuns a b) (top_rule a).children (top_rule b).children children_long k))
    below (At p) k = (can_left p k, can_right p k, below_can p k, below_cannot p k)
    below More k = λ h.
        never_two (SameRuns a b) (SameSignatures faces a b) (top_rule a).children (top_rule b).children k.0 k.1
        (differ h).children k.3 k.4 k.2
