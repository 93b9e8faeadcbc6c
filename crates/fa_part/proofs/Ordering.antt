-- The order of the roots of a part, by the walk through the references of the components.
use Rattle.std.proofs.Common.{◌≡◌, ℕ, zero, suc, length, List, [], ◌∷◌, ◌++◌, drop, refl, sym, subst}
use Rattle.fore_base.specs.Lists.{Every, Paired}
use Rattle.fore_base.proofs.ListLemmas.{paired_long}
use Rattle.ta_core.specs.Auto.{Automaton}
use Rattle.ta_core.specs.declared.tree.Tree.{Tree}
use Rattle.fa_core.specs.Canonical.{refs_at}
use Rattle.fa_core.specs.Filled.{Choice, IsSound}
use Rattle.fa_core.specs.Folding.{Placing}
use Rattle.fa_core.specs.References.{AllBelow}
use Rattle.fa_core.specs.declared.faces.Face.{Face}
use Rattle.fa_core.specs.declared.forest.Forest.{Forest}
use Rattle.fa_back.proofs.Dressable.{some_choice}
use Rattle.fa_order.specs.inner.Stacks.{nth_refs}
use Rattle.fa_order.proofs.WalkOrder.{every_listed, refs_below}
use Rattle.fa_part.specs.inner.Found.{IsPartOrder}
use Rattle.fa_part.specs.inner.Referring.{AreRootRefs}
use Rattle.fa_part.proofs.Thinned.{goes_on, same_walk, thick, thin_same}

-- the references of the components are those of their trees
listed : (autos : List Automaton) (rss : List (List ℕ)) (ts : List Tree) → Paired AreRootRefs autos rss
    → Choice autos ts → (r : ℕ) → nth_refs rss r ≡ refs_at ts r
listed [] [] [] h c r = refl
listed [] [] (t ∷ ts) h c r = absurd c
listed [] (rs ∷ rss) ts h c r = absurd h
listed (a ∷ autos) [] ts h c r = absurd h
listed (a ∷ autos) (rs ∷ rss) [] h c r = absurd c
listed (a ∷ autos) (rs ∷ rss) (t ∷ ts) h c zero = h.0 t c.0
listed (a ∷ autos) (rs ∷ rss) (t ∷ ts) h c (suc r) = listed autos rss ts h.1 c.1 r

module _ (F : Forest) (rss : List (List ℕ)) (refs : Paired AreRootRefs F.autos rss) where
  -- the components refer to roots that are there
  pub lists_below : (face : Face) → IsSound face F → Every (AllBelow (length rss)) rss
  lists_below face sound =
      let c = some_choice F.autos sound.full in
      subst (λ (n : ℕ). Every (AllBelow n) rss) (paired_long AreRootRefs F.autos rss refs)
      (every_listed (AllBelow (length F.autos)) rss
      (λ r. subst (AllBelow (length F.autos)) (sym (listed F.autos rss c.0 refs c.1 r))
      (refs_below face F sound c.0 c.1 r)))

  -- the walk is that through the trees
  pub order_from : (ports from order : List ℕ) → Placing (nth_refs rss) from ports order
      → IsPartOrder F ports from order
  order_from ports from order walk ts c all h =
      thick (refs_at ts) (same_walk (nth_refs rss) (refs_at ts) (listed F.autos rss ts refs c) walk) all [] h
      (λ k i. absurd i)

-- the ports stand first in the order
pub ports_first : (face : Face) (F : Forest) → IsSound face F → (ports from order : List ℕ)
    → IsPartOrder F ports from order → (inner : List ℕ) × (order ≡ ports ++ inner)
ports_first face F sound ports from order h =
    let c = some_choice F.autos sound.full in
    goes_on (refs_at c.0) (h c.0 c.1 from (thin_same from))

pub behind_front : (xs ys : List ℕ) → drop (length xs) (xs ++ ys) ≡ ys
behind_front [] ys = refl
behind_front (x ∷ xs) ys = behind_front xs ys
