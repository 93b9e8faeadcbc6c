-- The children of the one rule at the top: their states and their trees.
use Rattle.std.proofs.Common.{◌≡◌, ℕ, ◌<◌, length, slice_get, Some}
use Rattle.fore_base.specs.Lists.{Every}
use Rattle.fore_base.proofs.ListLemmas.{every_in, in_from_place}
use Rattle.ta_core.specs.Auto.{Automaton, IsRanked, IsRankedRule}
use Rattle.ta_core.specs.Language.{HasTree}
use Rattle.ta_core.specs.Single.{HasOneTop}
use Rattle.ta_core.specs.declared.tree.Tree.{out-Tree}
use Rattle.fa_core.specs.Filled.{HasSome, IsSound}
use Rattle.fa_core.specs.declared.faces.Face.{Face}
use Rattle.fa_core.specs.declared.forest.Forest.{Forest}
use Rattle.fa_sound.specs.Soundness.{IsStateOf}
use Rattle.fa_sound.specs.Components.{component_at}
use Rattle.fa_sound.proofs.ComponentLemmas.{component_got}
use Rattle.fa_merge.proofs.PlacedForests.{component_has}
use Rattle.fa_split.specs.Split.{CanSplit, top_rule, child_state}
use Rattle.fa_split.proofs.RunPlaces.{at_index, each_at}
use Rattle.fa_split.proofs.TopRules.{top_in, tree_by_top}

pub children_within : (a : Automaton) → IsRanked a → HasOneTop a → Every (λ q. q < a.states) (top_rule a).children
children_within a ranked one = (every_in (IsRankedRule a.states) a.rules (top_rule a) ranked.1 (top_in a one)).1

pub child_below : (a : Automaton) (p : ℕ) → IsRanked a → HasOneTop a → p < length (top_rule a).children
    → child_state a p < a.states
child_below a p ranked one place =
    every_in (λ q. q < a.states) (top_rule a).children (child_state a p) (children_within a ranked one)
    (in_from_place (top_rule a).children p (child_state a p) (at_index (top_rule a).children p place))

module _ (F : Forest) (r p : ℕ) (can : CanSplit F r p) where
  abbrev a : Automaton
  a = component_at F.autos r

  child_there : slice_get (top_rule a).children p ≡ Some (child_state a p)
  child_there = at_index (top_rule a).children p can.place

  pub child_within : IsRanked a → child_state a p < a.states
  child_within ranked = child_below a p ranked can.top can.place

  pub child_tree : (face : Face) → IsSound face F → HasTree a.rules (child_state a p)
  child_tree face sound =
      let t = component_has HasSome F.autos r sound.full can.root in
      let c = each_at a.rules (top_rule a).children (out-Tree t.0).children p (child_state a p)
      (tree_by_top a can.top t.0 t.1).1 child_there in
      (c.0, c.2)

  pub child_is_state : (q : ℕ) → q < a.states → IsStateOf (slice_get F.autos r) q
  child_is_state q l = rw (component_got F.autos r can.root) l
