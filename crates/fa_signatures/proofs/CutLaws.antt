-- A forest that is cut: its parts are sound, regroup it, and lose none of its stores.
use Rattle.std.proofs.Common.{◌≡◌, inl, inr, List, [], ◌∷◌, ◌++◌, map, length, refl, sym, ap, ap₂}
use Rattle.std.proofs.Common.{subst, ◌∙◌}
use Rattle.std.proofs.lemmas.List.{map-append}
use Rattle.fore_base.specs.Lists.{IsIn, Every, Paired}
use Rattle.fore_base.specs.declared.store.Datum.{Datum}
use Rattle.fore_base.proofs.ListLemmas.{in_map, every_in, in_every, every_weaker, every_map, every_mapped, partner_of}
use Rattle.fore_base.proofs.ListLemmas.{partner_for}
use Rattle.ta_core.specs.Auto.{Automaton}
use Rattle.ta_core.specs.Language.{InLanguage, IsBarren}
use Rattle.ta_core.specs.declared.auto.Rule.{Rule}
use Rattle.ta_core.specs.declared.tree.Tree.{Tree}
use Rattle.fa_core.specs.declared.boxes.BoxDef.{BoxDef}
use Rattle.fa_core.specs.declared.faces.BoxFace.{BoxFace}
use Rattle.fa_core.specs.declared.faces.Face.{Face}
use Rattle.fa_core.specs.declared.forest.Forest.{Forest}
use Rattle.fa_core.specs.declared.forest.Target.{Target}
use Rattle.fa_core.specs.Boxless.{HasNoBoxes}
use Rattle.fa_core.specs.Choices.{bares}
use Rattle.fa_core.specs.Dressed.{Nodes, no_nodes, more, cells, value_in, roots_of}
use Rattle.fa_core.specs.Filled.{Choice, ChoiceFilled, IsRoot, IsFilled, IsSound, HasSome, HasSignatures, DatumFits}
use Rattle.fa_core.specs.Filled.{RulesFit, SymbolFits}
use Rattle.fa_core.specs.Member.{TreesOf, Regroups, RegroupsInto}
use Rattle.fa_core.proofs.Dressing.{choice_of}
use Rattle.fa_core.proofs.Rearranging.{same}
use Rattle.fa_core.proofs.Regrouped.{members_regrouped, members_split}
use Rattle.fa_sound.specs.Soundness.{SoundForest}
use Rattle.fa_sound.specs.Unions.{forests, IsUnionOf}
use Rattle.fa_signatures.specs.CutForests.{IsCutForest, ShareSignatures, AreCutForests}
use Rattle.fa_signatures.specs.CutPieces.{IsPiece, ShareSignature, AreApart, AreCut}
use Rattle.fa_signatures.specs.inner.CutProducts.{product, with_autos}
use Rattle.fa_signatures.proofs.PieceLists.{piece_plain}
use Rattle.fa_signatures.proofs.ProductItems.{IsOfEach, in_product, product_in, apart_map, apart_product}

-- Dressed forests xs choices of trees

-- where its trees are a choice from other components, it is a dressed forest of these
trees_by : (T : List BoxDef) (xs ys : List Automaton) (d : Nodes) → TreesOf T xs d → Choice ys (bares d)
    → TreesOf T ys d
trees_by T [] [] no_nodes h c = tt
trees_by T [] (b ∷ ys) no_nodes h c = absurd c
trees_by T [] ys (more n ns) h c = absurd h
trees_by T (a ∷ xs) ys no_nodes h c = absurd h
trees_by T (a ∷ xs) [] (more n ns) h c = absurd c
trees_by T (a ∷ xs) (b ∷ ys) (more n ns) h c = (c.0, h.1, trees_by T xs ys ns h.2 c.1)

-- a choice has a tree of each component
chosen_for : (autos : List Automaton) (ts : List Tree) (a : Automaton) → Choice autos ts → IsIn a autos → HasSome a
chosen_for [] ts a c i = absurd i
chosen_for (b ∷ autos) [] a c i = absurd c
chosen_for (b ∷ autos) (t ∷ ts) a c (inl e) = (t, subst (λ (x : Automaton). InLanguage x t) (sym e) c.0)
chosen_for (b ∷ autos) (t ∷ ts) a c (inr i) = chosen_for autos ts a c.1 i

module _ (fs : List BoxFace) where
  -- a choice of trees from pieces is one from what they are pieces of
  pub choice_back : (xs ys : List Automaton) (ts : List Tree) → Paired (IsPiece fs) xs ys → Choice ys ts → Choice xs ts
  choice_back [] [] [] p c = tt
  choice_back [] [] (t ∷ ts) p c = absurd c
  choice_back [] (b ∷ ys) ts p c = absurd p
  choice_back (a ∷ xs) [] ts p c = absurd p
  choice_back (a ∷ xs) (b ∷ ys) [] p c = absurd c
  choice_back (a ∷ xs) (b ∷ ys) (t ∷ ts) p c = (((p.0.1.trees t).0 c.0).0, choice_back xs ys ts p.1 c.1)

  module _ (F : Forest) where
    -- a forest that is cut regroups into each part
    pub cut_regroups : (T : List BoxDef) (G : Forest) → IsCutForest fs F G → Regroups T F G
    cut_regroups T G h d o = (
      d,
      record {
        of = trees_by T G.autos F.autos d o (choice_back F.autos G.autos (bares d) h.autos (choice_of T G.autos d o));
        same_cells = same (cells d);
        vars = ap (λ (vs : List Target). map (value_in (roots_of d)) vs) h.vars;
        data_vars = h.data_vars;
      },
    )

    -- and none of its dressed forests is lost
    pub cut_into : (T : List BoxDef) (Gs : List Forest) → AreCutForests fs F Gs → RegroupsInto T F Gs
    cut_into T Gs h d o =
        let w = h.whole (bares d) (choice_of T F.autos d o) in
        let g = every_in (IsCutForest fs F) Gs w.0 h.each w.1 in (
          w.0,
          w.1,
          (
            d,
            record {
              of = trees_by T F.autos w.0.autos d o w.2;
              same_cells = same (cells d);
              vars = ap (λ (vs : List Target). map (value_in (roots_of d)) vs) (sym g.vars);
              data_vars = sym g.data_vars;
            },
          ),
        )

    -- so its members are those of its parts
    pub cut_union : (Gs : List Forest) → AreCutForests fs F Gs → IsUnionOf F Gs
    cut_union Gs h hs T s = (
      λ m. members_split hs T F Gs (cut_into T Gs h) s m,
      λ w. members_regrouped hs T F w.0 (cut_regroups T w.0 (every_in (IsCutForest fs F) Gs w.0 h.each w.1)) s w.2,
    )

    -- where a component is empty there is no part
    pub cut_empty : (list : List SoundForest) (a : Automaton) → AreCutForests fs F (forests list) → IsIn a F.autos
        → IsBarren a → list ≡ []
    cut_empty [] a h i e = refl
    cut_empty (s ∷ list) a h i e =
        let w = partner_for (IsPiece fs) F.autos s.forest.autos a h.each.0.autos i in
        absurd (e w.2.1.some.0 ((w.2.1.trees w.2.1.some.0).0 w.2.1.some.1).0)

    -- and none is needed
    pub none_cut : (a : Automaton) → IsIn a F.autos → IsBarren a → AreCutForests fs F []
    none_cut a i e = record {
      each = tt;
      whole = λ ts c. absurd (e (chosen_for F.autos ts a c i).0 (chosen_for F.autos ts a c i).1);
      apart = tt;
    }

    -- the same of a list of sound forests
    pub regroups_all : (list : List SoundForest) → AreCutForests fs F (forests list)
        → Every (λ (s : SoundForest). (T : List BoxDef) → Regroups T F s.forest) list
    regroups_all list h = every_weaker (λ (s : SoundForest). IsCutForest fs F s.forest)
        (λ (s : SoundForest). (T : List BoxDef) → Regroups T F s.forest) list (λ s w T. cut_regroups T s.forest w)
        (every_mapped (λ (s : SoundForest). s.forest) (IsCutForest fs F) list h.each)

    -- The product of pieces

    pub pieces_chosen : (autos : List Automaton) (xs : List Automaton) (pieces : List (List Automaton))
        → Paired (AreCut fs) xs pieces → IsOfEach autos pieces → Paired (IsPiece fs) xs autos
    pieces_chosen [] [] [] h c = tt
    pieces_chosen [] [] (p ∷ pieces) h c = absurd h
    pieces_chosen [] (a ∷ xs) [] h c = absurd h
    pieces_chosen [] (a ∷ xs) (p ∷ pieces) h c = absurd c
    pieces_chosen (b ∷ autos) [] [] h c = absurd c
    pieces_chosen (b ∷ autos) [] (p ∷ pieces) h c = absurd h
    pieces_chosen (b ∷ autos) (a ∷ xs) [] h c = absurd h
    pieces_chosen (b ∷ autos) (a ∷ xs) (p ∷ pieces) h c =
        (every_in (IsPiece fs a) p b h.0.each c.0, pieces_chosen autos xs pieces h.1 c.1)

    choice_pieces : (ts : List Tree) (xs : List Automaton) (pieces : List (List Automaton))
        → Paired (AreCut fs) xs pieces → Choice xs ts → (autos : List Automaton) × IsOfEach autos pieces
        × Choice autos ts
    choice_pieces [] [] [] h c = ([], tt, tt)
    choice_pieces ts [] (p ∷ pieces) h c = absurd h
    choice_pieces ts (a ∷ xs) [] h c = absurd h
    choice_pieces (t ∷ ts) [] [] h c = absurd c
    choice_pieces [] (a ∷ xs) (p ∷ pieces) h c = absurd c
    choice_pieces (t ∷ ts) (a ∷ xs) (p ∷ pieces) h c =
        let w = h.0.whole t c.0 in
        let v = choice_pieces ts xs pieces h.1 c.1 in
        (w.0 ∷ v.0, (w.1, v.1), (w.2, v.2))

    apart_each : (xs : List Automaton) (pieces : List (List Automaton)) → Paired (AreCut fs) xs pieces
        → Every (AreApart (ShareSignature fs)) pieces
    apart_each [] [] h = tt
    apart_each [] (p ∷ pieces) h = absurd h
    apart_each (a ∷ xs) [] h = absurd h
    apart_each (a ∷ xs) (p ∷ pieces) h = (h.0.apart, apart_each xs pieces h.1)

    -- the forests with one piece of each component cut the forest
    pub product_cuts : (pieces : List (List Automaton)) → Paired (AreCut fs) F.autos pieces
        → AreCutForests fs F (map (with_autos F) (product pieces))
    product_cuts pieces h = record {
      each = every_map (with_autos F) (IsCutForest fs F) (product pieces)
          (in_every (λ (autos : List Automaton). IsCutForest fs F (with_autos F autos)) (product pieces) (λ autos i.
          record {
            autos = pieces_chosen autos F.autos pieces h (product_in autos pieces i);
            vars = refl;
            data_vars = refl;
          }));
      whole = λ ts c.
          let w = choice_pieces ts F.autos pieces h c in
          (with_autos F w.0, in_map (with_autos F) w.0 (product pieces) (in_product w.0 pieces w.1), w.2);
      apart = apart_map (ShareSignatures fs) (with_autos F) (product pieces)
          (apart_product (ShareSignature fs) pieces (apart_each F.autos pieces h));
    }

    -- each choice of the product has a piece of each component
    pub product_pieces : (pieces : List (List Automaton)) → Paired (AreCut fs) F.autos pieces
        → Every (Paired (IsPiece fs) F.autos) (product pieces)
    product_pieces pieces h =
        in_every (Paired (IsPiece fs) F.autos) (product pieces)
        (λ autos i. pieces_chosen autos F.autos pieces h (product_in autos pieces i))

-- one more forest with its components
pub forests_push : (F : Forest) (list : List SoundForest) (s : SoundForest) (done : List (List Automaton))
    (autos : List Automaton) → forests list ≡ map (with_autos F) done → s.forest ≡ with_autos F autos
    → forests (list ++ s ∷ []) ≡ map (with_autos F) (done ++ autos ∷ [])
forests_push F list s done autos h e = map-append (λ (x : SoundForest). x.forest) list (s ∷ [])
    ∙ ap₂ (λ (u v : List Forest). u ++ v) h (ap (λ (x : Forest). x ∷ []) e)
    ∙ sym (map-append (with_autos F) done (autos ∷ []))

-- Soundness

-- what the partner of each item of the first list meets, each item of the second one meets
carried : {X : Type 0} (P Q : X → Type 0) (R : X → X → Type 0) → ((x y : X) → R x y → P x → Q y) → (xs ys : List X)
    → Paired R xs ys → Every P xs → Every Q ys
carried P Q R f xs ys p h =
    in_every Q ys (λ y i. let w = partner_of R xs ys y p i in f w.0 y w.2 (every_in P xs w.0 h w.1))

module _ (face : Face) (F G : Forest) (h : IsCutForest face.boxes F G) where
  rules_fit : Every (RulesFit face) F.autos → Every (RulesFit face) G.autos
  rules_fit fits = carried (RulesFit face) (RulesFit face) (IsPiece face.boxes) (λ a b w fit.
      every_weaker (λ (r : Rule). (o : Rule) × IsIn o a.rules × (o.symbol ≡ r.symbol))
      (λ (r : Rule). SymbolFits face r.symbol) b.rules
      (λ r v. subst (SymbolFits face) v.2 (every_in (λ (o : Rule). SymbolFits face o.symbol) a.rules v.0 fit v.1))
      w.1.symbols) F.autos G.autos h.autos fits

  still_filled : (ts : List Tree) → ChoiceFilled face F ts → ChoiceFilled face G ts
  still_filled ts k = record {
    tops = k.tops;
    are = k.are;
    vars = subst (λ (vs : List Target). Every (IsRoot (length ts)) vs) (sym h.vars) k.vars;
    cells = k.cells;
  }

  -- a part is sound where each field of the forest is given exactly once
  pub part_sound : IsFilled face F → IsSound face G
  part_sound k = record {
    well_formed = record {
      filled = record {
        data_vars = subst (λ (ds : List Datum). Every DatumFits ds) (sym h.data_vars) k.data_vars;
        rules = rules_fit k.rules;
        trees = λ ts c. still_filled ts (k.trees ts (choice_back face.boxes F.autos G.autos ts h.autos c));
      };
      signatures = in_every (HasSignatures face.boxes) G.autos
          (λ b i. let w = partner_of (IsPiece face.boxes) F.autos G.autos b h.autos i in w.2.1.uniform);
    };
    full = in_every HasSome G.autos
        (λ b i. let w = partner_of (IsPiece face.boxes) F.autos G.autos b h.autos i in w.2.1.some);
  }

-- the other way round, each field is given exactly once if the parts are sound, and rules and data fit the face
pub whole_filled : (face : Face) (F : Forest) (Gs : List Forest) → AreCutForests face.boxes F Gs
    → Every (IsSound face) Gs → Every (RulesFit face) F.autos → Every DatumFits F.data_vars → IsFilled face F
whole_filled face F Gs h sounds rules data_vars = record {
  data_vars = data_vars;
  rules = rules;
  trees = λ ts c.
      let w = h.whole ts c in
      let g = every_in (IsCutForest face.boxes F) Gs w.0 h.each w.1 in
      let k = (every_in (IsSound face) Gs w.0 sounds w.1).well_formed.filled.trees ts w.2 in
      record {
        tops = k.tops;
        are = k.are;
        vars = subst (λ (vs : List Target). Every (IsRoot (length ts)) vs) g.vars k.vars;
        cells = k.cells;
      };
}

pub product_fills : (face : Face) (F : Forest) (pieces : List (List Automaton))
    → Paired (AreCut face.boxes) F.autos pieces
    → Every (λ (autos : List Automaton). IsSound face (with_autos F autos)) (product pieces)
    → Every (RulesFit face) F.autos → Every DatumFits F.data_vars → IsFilled face F
product_fills face F pieces h sounds =
    whole_filled face F (map (with_autos F) (product pieces)) (product_cuts face.boxes F pieces h)
    (every_map (with_autos F) (IsSound face) (product pieces) sounds)

-- so it is with pieces of all components
module _ (face : Face) (F : Forest) (autos : List Automaton) (p : Paired (IsPiece face.boxes) F.autos autos) where
  cut_with : IsCutForest face.boxes F (with_autos F autos)
  cut_with = record { autos = p; vars = refl; data_vars = refl }

  pub pieces_sound : IsFilled face F → IsSound face (with_autos F autos)
  pieces_sound filled = part_sound face F (with_autos F autos) cut_with filled

-- no rule of the parts has a box edge
pub plain_all : (fs : List BoxFace) (F : Forest) (list : List SoundForest) → Every HasNoBoxes F.autos
    → AreCutForests fs F (forests list) → Every (λ (s : SoundForest). Every HasNoBoxes s.forest.autos) list
plain_all fs F list plain h =
    every_weaker (λ (s : SoundForest). IsCutForest fs F s.forest) (λ (s : SoundForest). Every HasNoBoxes s.forest.autos)
    list
    (λ s w. carried HasNoBoxes HasNoBoxes (IsPiece fs) (λ a b v p. piece_plain a b p v.1.symbols) F.autos s.forest.autos
    w.autos plain) (every_mapped (λ (s : SoundForest). s.forest) (IsCutForest fs F) list h.each)

-- each choice of pieces gives a sound forest where each field is given exactly once
pub product_sound : (face : Face) (F : Forest) (pieces : List (List Automaton))
    → Paired (AreCut face.boxes) F.autos pieces → IsFilled face F
    → Every (λ (autos : List Automaton). IsSound face (with_autos F autos)) (product pieces)
product_sound face F pieces h filled = every_weaker (Paired (IsPiece face.boxes) F.autos)
    (λ (autos : List Automaton). IsSound face (with_autos F autos)) (product pieces)
    (λ autos p. pieces_sound face F autos p filled) (product_pieces face.boxes F pieces h)
