-- Lists of forests that are taken apart, one after the other and again.
use Rattle.std.proofs.Common.{◌≡◌, inl, inr, List, [], ◌∷◌, ◌++◌, map, refl, sym, subst, ◌∙◌}
use Rattle.std.proofs.lemmas.List.{map-append}
use Rattle.fore_base.specs.Lists.{IsIn, Every}
use Rattle.fore_base.proofs.ListLemmas.{in_append, in_left, in_right, in_mapped, in_every}
use Rattle.fa_core.specs.declared.boxes.BoxDef.{BoxDef}
use Rattle.fa_core.specs.declared.forest.Forest.{Forest}
use Rattle.fa_core.specs.Member.{RegroupsInto}
use Rattle.fa_core.proofs.Composed.{regroups_on, regroups_same, split_on}
use Rattle.fa_sound.specs.Soundness.{SoundForest}
use Rattle.fa_order.specs.Placing.{DoEdgesGive}
use Rattle.fa_canon.specs.inner.Steps.{IsPiece, IsSplitEach}

abbrev the_forest : SoundForest → Forest
the_forest s = s.forest

pub piece_same : (F : SoundForest) → IsPiece F F
piece_same F =
    record { plain = λ p. p; face = refl; vars = refl; data_vars = refl; regroups = λ T. regroups_same T F.forest }

pub piece_on : (F G H : SoundForest) → IsPiece F G → IsPiece G H → IsPiece F H
piece_on F G H a b = record {
  plain = λ p. b.plain (a.plain p);
  face = b.face ∙ a.face;
  vars = b.vars ∙ a.vars;
  data_vars = b.data_vars ∙ a.data_vars;
  regroups = λ T. regroups_on T F.forest G.forest H.forest (a.regroups T) (b.regroups T);
}

-- box edges that lead back give something as before
pub gives_on : (F G : SoundForest) → IsPiece F G → DoEdgesGive F.face F.forest → DoEdgesGive G.face G.forest
gives_on F G p (inl h) = inl (rw p.face h)
gives_on F G p (inr h) = inr (p.plain h)

-- more forests on the right side lose nothing
into_more : (T : List BoxDef) (F : Forest) (Gs Hs : List Forest) → ((G : Forest) → IsIn G Gs → IsIn G Hs)
    → RegroupsInto T F Gs → RegroupsInto T F Hs
into_more T F Gs Hs m w d h = let k = w d h in (k.0, m k.0 k.1, k.2)

-- into itself alone
into_same : (T : List BoxDef) (F : Forest) (Gs : List Forest) → IsIn F Gs → RegroupsInto T F Gs
into_same T F Gs i d h = (F, i, regroups_same T F d h)

pub only_one : (F : SoundForest) (G : SoundForest) → IsIn F (G ∷ []) → F ≡ G
only_one F G (inl e) = e
only_one F G (inr e) = absurd e

module _ (R : SoundForest → SoundForest → Type 0) where
  pub split_same : (F : SoundForest) → R F F → IsSplitEach R (F ∷ []) (F ∷ [])
  split_same F r = record {
    each =
        λ G i. (
          F,
          inl refl,
          subst (λ (z : SoundForest). IsPiece F z) (sym (only_one G F i)) (piece_same F),
          subst (λ (z : SoundForest). R F z) (sym (only_one G F i)) r,
        );
    whole = λ G i T. into_same T G.forest (F.forest ∷ []) (inl (let e = only_one G F i in rw e refl));
  }

  pub split_both : (Fs Gs Hs : List SoundForest) (F : SoundForest) → IsSplitEach R Fs Gs → IsSplitEach R (F ∷ []) Hs
      → IsSplitEach R (Fs ++ F ∷ []) (Gs ++ Hs)
  split_both Fs Gs Hs F a b = record {
    each = λ G i. elim (in_append G Gs Hs i) [
      | inl j ↦ (let k = a.each G j in (k.0, in_left k.0 Fs (F ∷ []) k.1, k.2, k.3))
      | inr j ↦ (let k = b.each G j in (k.0, in_right k.0 Fs (F ∷ []) k.1, k.2, k.3))
    ];
    whole = λ G i T. subst (λ (z : List Forest). RegroupsInto T G.forest z) (sym (map-append the_forest Gs Hs))
        (elim (in_append G Fs (F ∷ []) i) [
          | inl j ↦ into_more T G.forest (map the_forest Gs) (map the_forest Gs ++ map the_forest Hs)
              (λ x m. in_left x (map the_forest Gs) (map the_forest Hs) m) (a.whole G j T)
          | inr j ↦ into_more T G.forest (map the_forest Hs) (map the_forest Gs ++ map the_forest Hs)
              (λ x m. in_right x (map the_forest Gs) (map the_forest Hs) m) (b.whole G j T)
        ]);
  }

-- taken apart twice
pub split_twice : (R S Q : SoundForest → SoundForest → Type 0) (Fs Gs Hs : List SoundForest)
    → ((F G H : SoundForest) → IsIn F Fs → IsPiece F G → R F G → IsPiece G H → S G H → Q F H)
    → IsSplitEach R Fs Gs → IsSplitEach S Gs Hs → IsSplitEach Q Fs Hs
split_twice R S Q Fs Gs Hs m a b = record {
  each =
      λ H i.
      (let k = b.each H i in let l = a.each k.0 k.1 in
      (l.0, l.1, piece_on l.0 k.0 H l.2 k.2, m l.0 k.0 H l.1 l.2 l.3 k.2 k.3));
  whole = λ F i T. split_on T F.forest (map the_forest Gs) (map the_forest Hs) (a.whole F i T)
      (λ G j.
      (let k = in_mapped the_forest G Gs j in
      subst (λ (z : Forest). RegroupsInto T z (map the_forest Hs)) (sym k.2) (b.whole k.0 k.1 T)));
}

pub split_weaker : (R S : SoundForest → SoundForest → Type 0) (Fs Gs : List SoundForest)
    → ((F G : SoundForest) → IsIn F Fs → IsPiece F G → R F G → S F G) → IsSplitEach R Fs Gs → IsSplitEach S Fs Gs
split_weaker R S Fs Gs m a = record {
  each = λ G i. (let k = a.each G i in (k.0, k.1, k.2, m k.0 G k.1 k.2 k.3));
  whole = a.whole;
}

-- what each forest of the list is by the one that was taken apart
pub each_piece : (R : SoundForest → SoundForest → Type 0) (P : SoundForest → Type 0) (F : SoundForest)
    (Gs : List SoundForest) → IsSplitEach R (F ∷ []) Gs → ((G : SoundForest) → IsPiece F G → R F G → P G) → Every P Gs
each_piece R P F Gs a m =
    in_every P Gs
    (λ G i.
    (let k = a.each G i in m G (subst (λ (z : SoundForest). IsPiece z G) (only_one k.0 F k.1) k.2)
    (subst (λ (z : SoundForest). R z G) (only_one k.0 F k.1) k.3)))
