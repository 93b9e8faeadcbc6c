-- Whether a forest is canonical, by what its trees show and by the order of the walk.
use Rattle.std.proofs.Common.{◌≡◌, ◌↔◌, ℕ, true, List, length, sym, subst}
use Rattle.fore_base.specs.Lists.{Every, Paired}
use Rattle.ta_core.specs.Single.{HasOneTop}
use Rattle.fa_core.specs.Canonical.{IsCanonical, var_roots}
use Rattle.fa_core.specs.Filled.{IsSound}
use Rattle.fa_core.specs.declared.faces.Face.{Face}
use Rattle.fa_core.specs.declared.forest.Forest.{Forest}
use Rattle.fa_merge.specs.Reordered.{counted}
use Rattle.fa_order.specs.Kinds.{HasRootKinds}
use Rattle.fa_order.specs.Placing.{IsWalkOrder}
use Rattle.fa_order.specs.declared.showing.Shown.{Shown}
use Rattle.fa_order.specs.inner.Deciding.{roots_by}
use Rattle.fa_order.specs.inner.Showing.{IsShownBy}
use Rattle.fa_order.proofs.Decided.{roots_are, are_roots}
use Rattle.fa_order.proofs.Shows.{AreChosen, choose_shown}
use Rattle.fa_order.proofs.Tame.{kinds_too, untied_too}
use Rattle.fa_order.proofs.WalkOrder.{walks_in_order, in_order_walks}

module _ (face : Face) (F : Forest) (ss : List Shown)
    (shown : Paired (IsShownBy face.boxes) F.autos ss) where
  chosen : AreChosen face.boxes F.autos ss
  chosen = choose_shown face.boxes F.autos ss shown

  -- the roots are those of a canonical forest exactly where what the trees show passes
  pub roots_decided : Every HasOneTop F.autos → (roots_by (var_roots F.vars) ss 0 ss ≡ true) ↔ HasRootKinds face F
  roots_decided tops = (
    (λ passes.
        let ts = chosen.0 in
        let h = roots_are face.boxes F.vars ts
        (subst (λ (z : List Shown). roots_by (var_roots F.vars) z 0 z ≡ true) (sym chosen.2) passes) in
        record {
          tops = tops;
          kinds = λ us c. kinds_too face.boxes F.vars ts us (chosen.3 us c) h.0;
          untied = λ us c. untied_too face.boxes F.vars ts us (chosen.3 us c) h.1;
        }),
    (λ h.
        let ts = chosen.0 in
        let c = chosen.1 in
        subst (λ (z : List Shown). roots_by (var_roots F.vars) z 0 z ≡ true) chosen.2
        (are_roots face.boxes F.vars ts (h.kinds ts c) (h.untied ts c))),
  )

module _ (face : Face) (F : Forest) (sound : IsSound face F) where
  pub roots_of_canonical : IsCanonical face F → HasRootKinds face F
  roots_of_canonical can = record { tops = can.tops; kinds = can.kinds; untied = can.untied }

  -- a forest with the roots of a canonical one is canonical exactly where these stand in the order of the walk
  pub order_decided : HasRootKinds face F → (order : List ℕ) → IsWalkOrder face F order
      → (order ≡ counted 0 (length F.autos)) ↔ IsCanonical face F
  order_decided h order walk = (
    (λ e. record {
      well_formed = sound.well_formed;
      tops = h.tops;
      kinds = h.kinds;
      untied = h.untied;
      order = walks_in_order face F sound order walk e;
    }),
    in_order_walks face F sound order walk,
  )
