-- The lifted cell is a root with one rule, whose child in the edge's place is the reference.
use Rattle.std.proofs.Common.{◌≡◌, inl, inr, ℕ, ◌<◌, length, List, [], ◌∷◌, refl, sym, ap, subst, ◌∙◌}
use Rattle.std.proofs.Common.{slice_set, length-set, length-append, arith}
use Rattle.fore_base.specs.Lists.{IsIn, Every}
use Rattle.ta_core.specs.Auto.{Automaton, IsRanked}
use Rattle.ta_core.specs.Language.{InLanguage}
use Rattle.ta_core.specs.Single.{HasOneTop}
use Rattle.ta_core.specs.declared.auto.Rule.{Rule}
use Rattle.fa_core.specs.declared.faces.BoxFace.{BoxFace}
use Rattle.fa_core.specs.declared.forest.Forest.{Forest}
use Rattle.fa_core.specs.Folding.{symbol_slots}
use Rattle.fa_merge.proofs.PlacedForests.{component_has}
use Rattle.fa_sound.specs.Components.{component_at}
use Rattle.fa_signatures.specs.CutPieces.{IsPiece}
use Rattle.fa_split.specs.Split.{top_rule}
use Rattle.fa_split.proofs.OtherComponent.{component_set, component_last, set_less}
use Rattle.fa_lift.specs.Lift.{Owns, owner, hatted, lift_top, lift_in, child_gives, IsLiftedAt, IsLiftOf}
use Rattle.fa_lift.proofs.LiftOwners.{owner_one, owner_gives, owner_leaf}

module _ (bs : List BoxFace) (F : Forest) (r f t : ℕ) (ranked : Every IsRanked F.autos) (there : t < length F.autos)
    (x : Rule) (p : ℕ) (own : Owns bs r f (component_at F.autos t) x p) where
  abbrev a : Automaton
  a = component_at F.autos t

  abbrev O : Automaton
  O = owner a x p r

  a_ranked : IsRanked a
  a_ranked = component_has IsRanked F.autos t ranked there

  lifted_at : (G : Forest) (u : ℕ) → u < length G.autos → component_at G.autos u ≡ O → IsLiftedAt bs r f G u p
  lifted_at G u l e = record {
    root = l;
    top = subst HasOneTop (sym e) (owner_one bs r f a a_ranked x p own);
    gives = ap (λ (b : Automaton). child_gives bs f (symbol_slots (top_rule b).symbol) p) e
        ∙ owner_gives bs r f a a_ranked x p own;
    ends = λ u k. owner_leaf bs r f a a_ranked x p own u (subst (λ (b : Automaton). InLanguage b u) e k);
  }

  pub top_is_lift : IsIn x.state a.roots → (G : Forest) → G ≡ lift_top F r t x p → IsLiftOf bs F r f t G
  top_is_lift i G e = subst (IsLiftOf bs F r f t) (sym e) (
    x,
    p,
    t,
    own,
    inl (i, refl, refl),
    lifted_at (lift_top F r t x p) t (set_less F.autos t O there) (component_set F.autos t O there),
  )

  pub in_is_lift : (c : Automaton) → IsPiece bs (hatted a x.state (length F.autos)) c → (G : Forest)
      → G ≡ lift_in F r t x p c → IsLiftOf bs F r f t G
  in_is_lift c piece G e = subst (IsLiftOf bs F r f t) (sym e) (
    x,
    p,
    length F.autos,
    own,
    inr (c, piece, refl, refl),
    lifted_at (lift_in F r t x p c) (length F.autos) last
        (ap (λ (n : ℕ). component_at (lift_in F r t x p c).autos n) (sym (length-set F.autos t c))
        ∙ component_last (slice_set F.autos t c) O),
  )
    where
      last : length F.autos < length (lift_in F r t x p c).autos
      last =
          let n = length-append (slice_set F.autos t c) (O ∷ []) in
          let m = length-set F.autos t c in
          omega (arith, n, m)
