-- A sound forest with another component at one root: where each tree of that gives the roots what some tree of the old
-- one gives, and is filled as that is, the forest is sound.
use Rattle.std.proofs.Common.{◌≡◌, ℕ, zero, suc, length, List, [], ◌∷◌, ◌++◌, refl, ap, subst, slice_set}
use Rattle.fore_base.specs.Lists.{Every}
use Rattle.ta_core.specs.Auto.{Automaton}
use Rattle.ta_core.specs.Language.{InLanguage}
use Rattle.ta_core.specs.declared.tree.Tree.{Tree}
use Rattle.fa_core.specs.declared.faces.Face.{Face}
use Rattle.fa_core.specs.declared.forest.Forest.{Forest}
use Rattle.fa_core.specs.Boxless.{HasNoBoxes}
use Rattle.fa_core.specs.Filled.{Choice, ChoiceFilled, TopsAre, IsTopped, IsRoot, IsFilledSpot, spots, RulesFit}
use Rattle.fa_core.specs.Filled.{HasSignatures, HasSome, IsSound, TreesFilled, given_at}
use Rattle.fa_core.specs.declared.faces.BoxFace.{BoxFace}
use Rattle.fa_merge.proofs.IdleRoots.{gift}
use Rattle.fa_sound.specs.Components.{component_at, with_component}
use Rattle.fa_split.proofs.OtherComponent.{every_put}

-- the r-th tree changed by g
abbrev pub changed : (Tree → Tree) → ℕ → List Tree → List Tree
changed g r [] = []
changed g zero (t ∷ ts) = g t ∷ ts
changed g (suc r) (t ∷ ts) = t ∷ changed g r ts

pub changed_length : (g : Tree → Tree) (r : ℕ) (ts : List Tree) → length (changed g r ts) ≡ length ts
changed_length g r [] = refl
changed_length g zero (t ∷ ts) = refl
changed_length g (suc r) (t ∷ ts) = ap (λ (n : ℕ). suc n) (changed_length g r ts)

-- each cell of the tree is filled, where these fields are given to its top
abbrev pub IsFilledTree : Face → List ℕ → List ℕ → Tree → Type 0
IsFilledTree face tops above t = Every (IsFilledSpot face tops) (spots face.boxes t above)

module _ (b : Automaton) (g : Tree → Tree) where
  pub choice_changed : (autos : List Automaton) (r : ℕ)
      → ((t : Tree) → InLanguage b t → InLanguage (component_at autos r) (g t)) → (ts : List Tree)
      → Choice (slice_set autos r b) ts → Choice autos (changed g r ts)
  choice_changed [] r h [] c = c
  choice_changed [] r h (t ∷ ts) c = absurd c
  choice_changed (a ∷ autos) zero h [] c = absurd c
  choice_changed (a ∷ autos) (suc r) h [] c = absurd c
  choice_changed (a ∷ autos) zero h (t ∷ ts) c = (h t c.0, c.1)
  choice_changed (a ∷ autos) (suc r) h (t ∷ ts) c = (c.0, choice_changed autos r h ts c.1)

  -- where each tree gives the roots what its changed one gives, so do all
  pub given_back : (bs : List BoxFace) (k : ℕ) → ((t : Tree) → InLanguage b t → gift bs k (g t) ≡ gift bs k t)
      → (autos : List Automaton) (r : ℕ) (ts : List Tree) → Choice (slice_set autos r b) ts
      → given_at bs (changed g r ts) k ≡ given_at bs ts k
  given_back bs k h [] r [] c = refl
  given_back bs k h [] r (t ∷ ts) c = absurd c
  given_back bs k h (a ∷ autos) r [] c = refl
  given_back bs k h (a ∷ autos) zero (t ∷ ts) c = ap (λ (xs : List ℕ). xs ++ given_at bs ts k) (h t c.0)
  given_back bs k h (a ∷ autos) (suc r) (t ∷ ts) c =
      ap (λ (xs : List ℕ). gift bs k t ++ xs) (given_back bs k h autos r ts c.1)

  module _ (face : Face) (tops : List ℕ) (all new : List Tree)
      (same : (k : ℕ) → given_at face.boxes all k ≡ given_at face.boxes new k)
      (cells : (t : Tree) (above : List ℕ) → InLanguage b t → IsFilledTree face tops above (g t)
      → IsFilledTree face tops above t) where
    filled_same : (k : ℕ) (ts : List Tree) → TreesFilled face all tops k ts → TreesFilled face new tops k ts
    filled_same k [] h = tt
    filled_same k (t ∷ ts) h = (
      subst (λ (xs : List ℕ). IsFilledTree face tops xs t) (same k) h.0,
      filled_same (suc k) ts h.1,
    )

    -- the trees from root k on, of which the r-th is of b
    pub filled_back : (autos : List Automaton) (r k : ℕ) (ts : List Tree) → Choice (slice_set autos r b) ts
        → TreesFilled face all tops k (changed g r ts) → TreesFilled face new tops k ts
    filled_back [] r k [] c h = tt
    filled_back [] r k (t ∷ ts) c h = absurd c
    filled_back (a ∷ autos) r k [] c h = tt
    filled_back (a ∷ autos) zero k (t ∷ ts) c h = (
      cells t (given_at face.boxes new k) c.0 (subst (λ (xs : List ℕ). IsFilledTree face tops xs (g t)) (same k) h.0),
      filled_same (suc k) ts h.1,
    )
    filled_back (a ∷ autos) (suc r) k (t ∷ ts) c h = (
      subst (λ (xs : List ℕ). IsFilledTree face tops xs t) (same k) h.0,
      filled_back autos r (suc k) ts c.1 h.1,
    )

  tops_back : ((t : Tree) (s : ℕ) → InLanguage b t → IsTopped s (g t) → IsTopped s t)
      → (autos : List Automaton) (r : ℕ) (ts : List Tree) (tops : List ℕ) → Choice (slice_set autos r b) ts
      → TopsAre (changed g r ts) tops → TopsAre ts tops
  tops_back k [] r [] tops c h = h
  tops_back k [] r (t ∷ ts) tops c h = absurd c
  tops_back k (a ∷ autos) r [] tops c h = h
  tops_back k (a ∷ autos) zero (t ∷ ts) [] c h = absurd h
  tops_back k (a ∷ autos) (suc r) (t ∷ ts) [] c h = absurd h
  tops_back k (a ∷ autos) zero (t ∷ ts) (s ∷ tops) c h = (k t s c.0 h.0, h.1)
  tops_back k (a ∷ autos) (suc r) (t ∷ ts) (s ∷ tops) c h = (h.0, tops_back k autos r ts tops c.1 h.1)

module _ (face : Face) (F : Forest) (r : ℕ) (b : Automaton) (g : Tree → Tree) where
  abbrev G : Forest
  G = with_component F r b

  pub edited_plain : Every HasNoBoxes F.autos → HasNoBoxes b → Every HasNoBoxes G.autos
  edited_plain plain boxless = every_put HasNoBoxes F.autos r b plain boxless

  pub edited_sound : IsSound face F → RulesFit face b → HasSignatures face.boxes b → HasSome b
      → ((t : Tree) → InLanguage b t → InLanguage (component_at F.autos r) (g t))
      → ((t : Tree) (s : ℕ) → InLanguage b t → IsTopped s (g t) → IsTopped s t)
      → ((k : ℕ) (t : Tree) → InLanguage b t → gift face.boxes k (g t) ≡ gift face.boxes k t)
      → ((us : List Tree) (tops : List ℕ) → Choice F.autos us → TopsAre us tops → (t : Tree) (above : List ℕ)
      → InLanguage b t → IsFilledTree face tops above (g t) → IsFilledTree face tops above t)
      → IsSound face G
  edited_sound sound fit signed some low top gives cells = record {
    well_formed = record {
      filled = record {
        data_vars = sound.well_formed.filled.data_vars;
        rules = every_put (RulesFit face) F.autos r b sound.well_formed.filled.rules fit;
        trees = choice_filled;
      };
      signatures = every_put (HasSignatures face.boxes) F.autos r b sound.well_formed.signatures signed;
    };
    full = every_put HasSome F.autos r b sound.full some;
  }
    where
      choice_filled : (ts : List Tree) → Choice G.autos ts → ChoiceFilled face G ts
      choice_filled ts c =
          let us = changed g r ts in
          let old : Choice F.autos us = choice_changed b g F.autos r low ts c in
          let f = sound.well_formed.filled.trees us old in
          record {
            tops = f.tops;
            are = tops_back b g top F.autos r ts f.tops c f.are;
            vars = subst (λ (n : ℕ). Every (IsRoot n) F.vars) (changed_length g r ts) f.vars;
            cells = filled_back b g face f.tops us ts (λ k. given_back b g face.boxes k (gives k) F.autos r ts c)
                (λ t above. cells us f.tops old f.are t above) F.autos r 0 ts c f.cells;
          }
