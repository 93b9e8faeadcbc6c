-- Forests in which the component of one root is another automaton.
use Rattle.std.proofs.Common.{◌≡◌, ◌≢◌, ℕ, zero, suc, ◌<◌, length, List, [], ◌∷◌, ◌++◌, refl, sym, ap, subst, slice_set}
use Rattle.std.proofs.Common.{Some, length-set, arith}
use Rattle.std.proofs.lemmas.Option.{same_Some}
use Rattle.fore_base.specs.Lists.{Every, Paired}
use Rattle.fore_base.proofs.ListLemmas.{every_set}
use Rattle.ta_core.specs.Auto.{Automaton}
use Rattle.ta_core.specs.Language.{InLanguage, IsWithin}
use Rattle.ta_core.specs.declared.tree.Tree.{Tree}
use Rattle.fa_core.specs.declared.boxes.BoxDef.{BoxDef}
use Rattle.fa_core.specs.declared.faces.Face.{Face}
use Rattle.fa_core.specs.declared.forest.Forest.{Forest}
use Rattle.fa_core.specs.Covering.{Covers}
use Rattle.fa_core.specs.Dressed.{Node, Nodes, no_nodes, more, cells}
use Rattle.fa_core.specs.Filled.{Choice, RulesFit, HasSignatures, HasSome, IsSound}
use Rattle.fa_core.specs.Member.{TreesOf, OfForest, InsidesOf, Regroups, bare}
use Rattle.fa_core.proofs.Rearranging.{same}
use Rattle.fa_back.specs.Reached.{node_at}
use Rattle.fa_sound.specs.Components.{component_at, with_component}
use Rattle.fa_sound.proofs.ComponentLemmas.{component_got}
use Rattle.fa_split.specs.Split.{set_node}
use Rattle.fa_split.proofs.RunPlaces.{set_back}

-- Components.

pub component_set : (autos : List Automaton) (r : ℕ) (b : Automaton) → r < length autos
    → component_at (slice_set autos r b) r ≡ b
component_set [] r b l = absurd (omega (arith, l))
component_set (a ∷ autos) zero b l = refl
component_set (a ∷ autos) (suc r) b l = component_set autos r b (omega (arith, l))

pub component_other : (autos : List Automaton) (r k : ℕ) (b : Automaton) → k ≢ r → component_at (slice_set autos r b) k
    ≡ component_at autos k
component_other [] r k b d = refl
component_other (a ∷ autos) zero zero b d = absurd (d refl)
component_other (a ∷ autos) zero (suc k) b d = refl
component_other (a ∷ autos) (suc r) zero b d = refl
component_other (a ∷ autos) (suc r) (suc k) b d = component_other autos r k b (λ e. d (ap (λ n. suc n) e))

-- the components before a last one
pub component_first : (autos : List Automaton) (b : Automaton) (k : ℕ) → k < length autos
    → component_at (autos ++ b ∷ []) k ≡ component_at autos k
component_first [] b k l = absurd (omega (arith, l))
component_first (a ∷ autos) b zero l = refl
component_first (a ∷ autos) b (suc k) l = component_first autos b k (omega (arith, l))

-- and that last one
pub component_last : (autos : List Automaton) (b : Automaton) → component_at (autos ++ b ∷ []) (length autos) ≡ b
component_last [] b = refl
component_last (a ∷ autos) b = component_last autos b

pub set_less : (autos : List Automaton) (r : ℕ) (b : Automaton) → r < length autos → r < length (slice_set autos r b)
set_less autos r b l = subst (λ (n : ℕ). r < n) (sym (length-set autos r b)) l

pub set_components : (autos : List Automaton) (r : ℕ) (b : Automaton) → r < length autos
    → slice_set (slice_set autos r b) r (component_at autos r) ≡ autos
set_components autos r b l = set_back autos r (component_at autos r) b (component_got autos r l)

-- Trees.

module _ (T : List BoxDef) where
  -- the tree of a root
  pub tree_at : (autos : List Automaton) (r : ℕ) (d : Nodes) → r < length autos → TreesOf T autos d → (n : Node)
      × (node_at d r ≡ Some n) × InLanguage (component_at autos r) (bare n) × InsidesOf T n
  tree_at [] r d l h = absurd (omega (arith, l))
  tree_at (a ∷ autos) r no_nodes l h = absurd h
  tree_at (a ∷ autos) zero (more n ns) l h = (n, refl, h.0, h.1)
  tree_at (a ∷ autos) (suc r) (more n ns) l h = tree_at autos r ns (omega (arith, l)) h.2

  -- another tree at the root
  pub trees_set : (autos : List Automaton) (r : ℕ) (b : Automaton) (d : Nodes) (n : Node) → TreesOf T autos d
      → InLanguage b (bare n) → InsidesOf T n → TreesOf T (slice_set autos r b) (set_node r n d)
  trees_set [] r b no_nodes n h l i = h
  trees_set [] r b (more m ns) n h l i = absurd h
  trees_set (a ∷ autos) r b no_nodes n h l i = absurd h
  trees_set (a ∷ autos) zero b (more m ns) n h l i = (l, i, h.2)
  trees_set (a ∷ autos) (suc r) b (more m ns) n h l i = (h.0, h.1, trees_set autos r b ns n h.2 l i)

  -- the same trees, where the one at the root is one of the other automaton
  pub trees_keep : (autos : List Automaton) (r : ℕ) (b : Automaton) (d : Nodes) (n : Node) → TreesOf T autos d
      → node_at d r ≡ Some n → InLanguage b (bare n) → TreesOf T (slice_set autos r b) d
  trees_keep [] r b d n h e l = h
  trees_keep (a ∷ autos) r b no_nodes n h e l = absurd h
  trees_keep (a ∷ autos) zero b (more m ns) n h e l =
      (subst (λ (z : Node). InLanguage b (bare z)) (sym (same_Some m n e)) l, h.1, h.2)
  trees_keep (a ∷ autos) (suc r) b (more m ns) n h e l = (h.0, h.1, trees_keep autos r b ns n h.2 e l)

  -- and back
  pub trees_back : (autos : List Automaton) (r : ℕ) (b : Automaton) (d : Nodes) (n : Node) → r < length autos
      → TreesOf T (slice_set autos r b) d → node_at d r ≡ Some n → InLanguage (component_at autos r) (bare n)
      → TreesOf T autos d
  trees_back autos r b d n w h e l =
      subst (λ (z : List Automaton). TreesOf T z d) (set_components autos r b w)
      (trees_keep (slice_set autos r b) r (component_at autos r) d n h e l)

  -- the tree of the other automaton
  pub tree_in : (autos : List Automaton) (r : ℕ) (b : Automaton) (d : Nodes) → r < length autos
      → TreesOf T (slice_set autos r b) d → (n : Node) × (node_at d r ≡ Some n) × InLanguage b (bare n) × InsidesOf T n
  tree_in autos r b d l h =
      let k = tree_at (slice_set autos r b) r d (set_less autos r b l) h in
      (k.0, k.1, subst (λ (z : Automaton). InLanguage z (bare k.0)) (component_set autos r b l) k.2, k.3)

-- Fewer trees.

pub choice_within : (autos : List Automaton) (r : ℕ) (b : Automaton) → IsWithin b (component_at autos r)
    → (ts : List Tree) → Choice (slice_set autos r b) ts → Choice autos ts
choice_within [] r b w [] c = c
choice_within [] r b w (t ∷ ts) c = absurd c
choice_within (a ∷ autos) zero b w [] c = absurd c
choice_within (a ∷ autos) (suc r) b w [] c = absurd c
choice_within (a ∷ autos) zero b w (t ∷ ts) c = (w t c.0, c.1)
choice_within (a ∷ autos) (suc r) b w (t ∷ ts) c = (c.0, choice_within autos r b w ts c.1)

-- what the components and the other automaton have, the components of the new forest have
pub every_put : (P : Automaton → Type 0) (autos : List Automaton) (r : ℕ) (b : Automaton) → Every P autos → P b
    → Every P (slice_set autos r b)
every_put P autos r b h k = every_set P autos r b h k

module _ (F : Forest) (r : ℕ) (b : Automaton) (within : IsWithin b (component_at F.autos r)) where
  abbrev G : Forest
  G = with_component F r b

  -- a sound forest with fewer trees at one root is sound
  pub within_sound : (face : Face) → RulesFit face b → HasSignatures face.boxes b → HasSome b → IsSound face F
      → IsSound face G
  within_sound face fit signed some sound = record {
    well_formed = record {
      filled = record {
        data_vars = sound.well_formed.filled.data_vars;
        rules = every_put (RulesFit face) F.autos r b sound.well_formed.filled.rules fit;
        trees =
            λ ts c. (let f = sound.well_formed.filled.trees ts (choice_within F.autos r b within ts c) in
            record { tops = f.tops; are = f.are; vars = f.vars; cells = f.cells });
      };
      signatures = every_put (HasSignatures face.boxes) F.autos r b sound.well_formed.signatures signed;
    };
    full = every_put HasSome F.autos r b sound.full some;
  }

  -- the first covers it
  pub within_covers : Covers F G
  within_covers = record { vars = refl; data_vars = refl; within = each_within F.autos r within }
    where
      same_autos : (autos : List Automaton) → Paired IsWithin autos autos
      same_autos [] = tt
      same_autos (a ∷ autos) = ((λ t h. h), same_autos autos)

      each_within : (autos : List Automaton) (r : ℕ) → IsWithin b (component_at autos r)
          → Paired IsWithin (slice_set autos r b) autos
      each_within [] r w = tt
      each_within (a ∷ autos) zero w = (w, same_autos autos)
      each_within (a ∷ autos) (suc r) w = ((λ t h. h), each_within autos r w)

  -- its dressed forests are some of the first one's
  pub within_dressed : (T : List BoxDef) (d : Nodes) → r < length F.autos → OfForest T G d → OfForest T F d
  within_dressed T d l h =
      (let k = tree_in T F.autos r b d l h in trees_back T F.autos r b d k.0 l h k.1 (within (bare k.0) k.2))

  pub within_regroups : (T : List BoxDef) → r < length F.autos → Regroups T F G
  within_regroups T l d h =
      (d, record { of = within_dressed T d l h; same_cells = same (cells d); vars = refl; data_vars = refl })
