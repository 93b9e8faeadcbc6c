-- One tree of a dressed forest changed, and with it the component of its root.
use Rattle.std.proofs.Common.{◌≡◌, ℕ, zero, suc, ◌<◌, length, List, sym, ap, subst, slice_set, Some}
use Rattle.std.proofs.lemmas.Option.{none-some, same_Some}
use Rattle.ta_core.specs.Auto.{Automaton}
use Rattle.ta_core.specs.Language.{InLanguage}
use Rattle.fa_core.specs.declared.boxes.BoxDef.{BoxDef}
use Rattle.fa_core.specs.Dressed.{Node, Nodes, no_nodes, more}
use Rattle.fa_core.specs.Member.{TreesOf, InsidesOf, bare}
use Rattle.fa_edit.specs.Leaves.{put_at}
use Rattle.fa_back.specs.Reached.{node_at}
use Rattle.fa_sound.specs.Components.{component_at}
use Rattle.fa_split.specs.Split.{set_node}
use Rattle.fa_split.proofs.OtherComponent.{trees_set, set_components}

put_set : (r : ℕ) (g : Node → Node) (d : Nodes) (n : Node) → node_at d r ≡ Some n → put_at r g d ≡ set_node r (g n) d
put_set r g no_nodes n e = absurd (none-some n e)
put_set zero g (more m ns) n e = ap (λ (z : Node). more (g z) ns) (same_Some m n e)
put_set (suc r) g (more m ns) n e = ap (more m) (put_set r g ns n e)

module _ (T : List BoxDef) (autos : List Automaton) (r : ℕ) (b : Automaton) (g : Node → Node) (d : Nodes) (n : Node)
    (there : node_at d r ≡ Some n) where
  -- where the changed tree is one of b, with b as the component
  pub put_forth : TreesOf T autos d → InLanguage b (bare (g n)) → InsidesOf T (g n)
      → TreesOf T (slice_set autos r b) (put_at r g d)
  put_forth h l i = subst (λ (z : Nodes). TreesOf T (slice_set autos r b) z) (sym (put_set r g d n there))
      (trees_set T autos r b d (g n) h l i)

  -- and back
  pub put_back : r < length autos → TreesOf T (slice_set autos r b) d → InLanguage (component_at autos r) (bare (g n))
      → InsidesOf T (g n) → TreesOf T autos (put_at r g d)
  put_back w h l i =
      subst (λ (z : List Automaton). TreesOf T z (put_at r g d)) (set_components autos r b w)
      (subst (λ (z : Nodes). TreesOf T (slice_set (slice_set autos r b) r (component_at autos r)) z)
      (sym (put_set r g d n there)) (trees_set T (slice_set autos r b) r (component_at autos r) d (g n) h l i))
