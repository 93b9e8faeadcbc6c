-- The inner roots of a part, as the walk finds them.
use Rattle.std.proofs.Common.{◌≡◌, ℕ, List, [], ◌∷◌, ◌++◌, map, length, sym, ap, subst, ◌∙◌}
use Rattle.fore_base.specs.Lists.{Every, IsIn}
use Rattle.fore_base.proofs.ListLemmas.{every_in, in_every}
use Rattle.ta_core.specs.declared.tree.Tree.{Tree}
use Rattle.fa_back.proofs.Dressable.{some_choice}
use Rattle.fa_core.specs.Canonical.{refs_at}
use Rattle.fa_core.specs.Filled.{Choice, IsSound}
use Rattle.fa_core.specs.Folding.{ArePartRoots, Placing, Ports, port_refs}
use Rattle.fa_core.specs.References.{AllBelow}
use Rattle.fa_core.specs.declared.faces.Face.{Face}
use Rattle.fa_core.specs.declared.forest.Forest.{Forest}
use Rattle.fa_core.specs.declared.forest.Target.{Target}
use Rattle.fa_core.specs.declared.forest.Target.TheVariants.{Null, Uninit, Dangling, At}
use Rattle.fa_order.proofs.WalkOrder.{refs_below}
use Rattle.fa_part.specs.declared.ports.Port.{Port}
use Rattle.fa_part.specs.Ports.{AreInnerRoots, IsPortOf, ports_of, roots_of}
use Rattle.fa_part.specs.inner.Found.{ArePortRefs, HasNoVariable, IsAlone, IsNotAt, IsPartOrder}
use Rattle.fa_part.proofs.OuterRefs.{port_refs_below, port_there}
use Rattle.fa_part.proofs.PortLists.{port_roots}
use Rattle.fa_part.proofs.Walks.{one_order, order_below, same_end}

-- no variable is at one of the roots where each target is at none of them
pub free_vars : (vars : List Target) (inner : List ℕ) → Every (IsNotAt inner) vars → HasNoVariable vars inner
free_vars vars inner h r i j = every_in (IsNotAt inner) vars (At r) h j i

pub each_free : (vars : List Target) (inner : List ℕ) → HasNoVariable vars inner → Every (IsNotAt inner) vars
each_free vars inner h = in_every (IsNotAt inner) vars here
  where
    here : (v : Target) → IsIn v vars → IsNotAt inner v
    here Null i = tt
    here Uninit i = tt
    here Dangling i = tt
    here (At r) i = λ k. h r k i

-- the part of a list behind a front that is below
below_right : (m : ℕ) (xs ys : List ℕ) → AllBelow m (xs ++ ys) → AllBelow m ys
below_right m [] ys h = h
below_right m (x ∷ xs) ys h = below_right m xs ys h.1

-- for one choice of trees, the inner roots are determined
pub one_inner : (vars : List Target) (ts : List Tree) (ps : Ports) (inner other : List ℕ)
    → ArePartRoots vars ts ps inner → ArePartRoots vars ts ps other → inner ≡ other
one_inner vars ts ps inner other h k =
    same_end (map (λ p. p.0) ps) inner other
    (sym h.are ∙ one_order (refs_at ts) h.reached k.reached ∙ k.are)

module _ (face : Face) (F : Forest) (sound : IsSound face F) (ps : List Port) (from inner : List ℕ)
    (refs : ArePortRefs F.autos (ports_of ps) from)
    (order : IsPartOrder F (roots_of ps) from (roots_of ps ++ inner)) where
  reached : (ts : List Tree) → Choice F.autos ts → Placing (refs_at ts) (port_refs ts (ports_of ps))
      (map (λ p. p.0) (ports_of ps)) (roots_of ps ++ inner)
  reached ts c =
      subst (λ (l : List ℕ). Placing (refs_at ts) (port_refs ts (ports_of ps)) l (roots_of ps ++ inner))
      (sym (port_roots ps)) (order ts c (port_refs ts (ports_of ps)) (refs ts c))

  -- they are the inner roots where they are reached no other way
  pub are_inner : HasNoVariable F.vars inner → ((ts : List Tree) → Choice F.autos ts → IsAlone ts (ports_of ps) inner)
      → AreInnerRoots F (ports_of ps) inner
  are_inner free alone ts c = record {
    order = roots_of ps ++ inner;
    reached = reached ts c;
    are = ap (λ (l : List ℕ). l ++ inner) (sym (port_roots ps));
    no_var = free;
    alone = λ r k i n l j. alone ts c r l (n, (k, i, j));
  }

  -- no others are
  pub only_inner : (other : List ℕ) → AreInnerRoots F (ports_of ps) other → other ≡ inner
  only_inner other h =
      let c = some_choice F.autos sound.full in
      let w = h c.0 c.1 in
      same_end (map (λ p. p.0) (ports_of ps)) other inner
      (sym w.are ∙ one_order (refs_at c.0) w.reached (reached c.0 c.1)
      ∙ ap (λ (l : List ℕ). l ++ inner) (sym (port_roots ps)))

  -- where a variable is at one of them, there are none
  pub not_free : (HasNoVariable F.vars inner → ⊥) → (other : List ℕ) → AreInnerRoots F (ports_of ps) other → ⊥
  not_free n other h =
      let c = some_choice F.autos sound.full in
      n (subst (HasNoVariable F.vars) (only_inner other h) (h c.0 c.1).no_var)

  -- nor where a slot outside of the part refers to one
  pub not_alone : ((ts : List Tree) → Choice F.autos ts → IsAlone ts (ports_of ps) inner → ⊥) → (other : List ℕ)
      → AreInnerRoots F (ports_of ps) other → ⊥
  not_alone n other h =
      let c = some_choice F.autos sound.full in
      let w = h c.0 c.1 in
      n c.0 c.1 (subst (IsAlone c.0 (ports_of ps)) (only_inner other h)
      (λ r l k. w.alone r k.1.0 k.1.1 k.0 l k.1.2))

-- the inner roots are there
pub inner_below : (face : Face) (F : Forest) → IsSound face F → (ps : List Port) (inner : List ℕ)
    → Every (IsPortOf F.autos) ps → AreInnerRoots F (ports_of ps) inner
    → AllBelow (length F.autos) inner
inner_below face F sound ps inner ports h =
    let c = some_choice F.autos sound.full in
    let w = h c.0 c.1 in
    below_right (length F.autos) (map (λ p. p.0) (ports_of ps)) inner
    (subst (AllBelow (length F.autos)) w.are
    (order_below (refs_at c.0) (length F.autos) (λ r. refs_below face F sound c.0 c.1 r) w.reached
    (port_refs_below face F sound ps ports c.0 c.1)
    (subst (AllBelow (length F.autos)) (sym (port_roots ps)) (roots_below ps ports))))
  where
    roots_below : (ps : List Port) → Every (IsPortOf F.autos) ps
        → AllBelow (length F.autos) (roots_of ps)
    roots_below [] h = tt
    roots_below (p ∷ ps) h = (port_there F.autos p h.0, roots_below ps h.1)
