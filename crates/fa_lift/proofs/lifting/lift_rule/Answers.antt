use Rattle.std.proofs.Common.{◌≡◌, ◌∙◌, ℕ, List, Some, inl, inr, ap, sym, subst, true≢false, slice_get, length, arith}
use Rattle.fore_base.proofs.ListLemmas.{every_append}
use Rattle.ta_core.specs.Auto.{Automaton, IsRanked}
use Rattle.ta_core.specs.declared.auto.Rule.{Rule}
use Rattle.ta_core.specs.declared.symbol.Slot.{Slot}
use Rattle.fa_core.specs.declared.faces.BoxFace.{BoxFace}
use Rattle.fa_core.specs.declared.forest.Forest.{Forest}
use Rattle.fa_core.specs.Cells.{edges}
use Rattle.fa_core.specs.Folding.{symbol_slots}
use Rattle.fa_merge.proofs.MergedAnywhere.{nat_cases}
use Rattle.fa_merge.proofs.PlacedForests.{component_has}
use Rattle.fa_sound.specs.Components.{component_at}
use Rattle.fa_lift.specs.Lift.{MayRefer, Owns, slot_gives}
use Rattle.fa_lift.specs.inner.Lifting.{HasLifts, IsLift}
use Rattle.fa_lift.proofs.LiftLists.{lifts_left, lifts_right, owns_at, owned_at, owned_within}
use Rattle.fa_lift.proofs.lifting.lift_rule.Goals as goal
use Rattle.fa_lift.proofs.lifting.lift_rule.Goals.{then-slot_gives+then-may_refer+in_ok-more+in_ok-append}
use Rattle.fa_lift.proofs.lifting.lift_rule.Goals.{else-slot_gives}
use Rattle.fa_lift.proofs.lifting.lift_rule.Goals.{else-slot_gives-via-then-slot_gives+else-may_refer}
use Rattle.fa_lift.proofs.lifting.lift_rule.Goals.{else-slot_gives-via-else-slot_gives}

pub lift_at-requires-clause-owns : goal.lift_at-requires-clause-owns
lift_at-requires-clause-owns c =
    let s = c.args.forest.now in
    let F = s.forest in
    let a = component_at F.autos c.args.from in
    let x = c.args.rule.now in
    let ranked = component_has IsRanked F.autos c.args.from c.known.ensures.ranked c.requires.from in
    let here : slice_get (edges (symbol_slots x.symbol) x.children) c.loop-place.place ≡ Some c.at-edge.result.now =
    ap (λ (es : List (Slot × ℕ)). slice_get es c.loop-place.place) (sym c.in_ok-edges.ensures) ∙ c.at-edge.ensures in
    let boxes : c.as_slice-boxes.result.now ≡ s.face.boxes = rw c.face.ensures at c.as_slice-boxes.ensures in
    let rules : c.rules_of.result.now ≡ a.rules = c.rules_of.ensures
    ∙ ap (λ (b : Automaton). b.rules)
    (c.component-auto.ensures ∙ ap (λ (G : Forest). component_at G.autos c.args.from) c.forest.ensures) in
    owns_at s.face.boxes c.args.root c.args.field a ranked x c.requires.rule c.loop-place.place c.at-edge.result.now
    here
    (ap (λ (bs : List BoxFace). slot_gives bs c.args.field c.at-edge.result.now.0) (sym boxes)
    ∙ sym c.slot_gives.ensures ∙ c.if-slot_gives.true)
    (subst (λ (rs : List Rule). MayRefer rs c.args.root c.at-edge.result.now.1) rules
    (c.may_refer.ensures.0 c.if-may_refer.true))

pub loop-place-preserved : goal.loop-place-preserved
loop-place-preserved c =
    let s = c.args.forest.now in
    let F = s.forest in
    let a = component_at F.autos c.args.from in
    let x = c.args.rule.now in
    let r = c.args.root in
    let f = c.args.field in
    let t = c.args.from in
    let n = c.loop-place.place in
    let ranked = component_has IsRanked F.autos t c.known.ensures.ranked c.requires.from in
    let here : slice_get (edges (symbol_slots x.symbol) x.children) n ≡ Some c.at-edge.result.now =
    ap (λ (es : List (Slot × ℕ)). slice_get es n) (sym c.in_ok-edges.ensures) ∙ c.at-edge.ensures in
    let boxes : c.as_slice-boxes.result.now ≡ s.face.boxes = rw c.face.ensures at c.as_slice-boxes.ensures in
    let inv = c.loop-place.invariant in
    elim c.if-slot_gives.branch [
      | then-slot_gives+then-may_refer+in_ok-more+in_ok-append w ↦ rw (w.made-is, w.in_ok-append.ensures.ok) (
        every_append (IsLift s.face F r f t) c.loop-place.made w.in_ok-more.more inv.0 w.in_ok-more.ensures.each,
        (λ p l own. elim (nat_cases p n) [
          | inl k ↦ lifts_left F r t x p c.loop-place.made w.in_ok-more.more (inv.1 p k own)
          | inr k ↦
              let e : n ≡ p = omega (arith, l, k) in
              lifts_right F r t x p c.loop-place.made w.in_ok-more.more
              (subst (λ (z : ℕ). HasLifts F r t x z w.in_ok-more.more) e w.in_ok-more.ensures.all)
        ]),
      )
      | else-slot_gives w ↦
          let none : Owns s.face.boxes r f a x n → ⊥ = λ own.
          let k = owned_at s.face.boxes r f a ranked x c.requires.rule n c.at-edge.result.now here own in
          elim w.else-slot_gives.branch [
            | else-slot_gives-via-then-slot_gives+else-may_refer v ↦
                let rules : v.rules_of.result.now ≡ a.rules = v.rules_of.ensures
                ∙ ap (λ (b : Automaton). b.rules)
                (c.component-auto.ensures ∙ ap (λ (G : Forest). component_at G.autos t) c.forest.ensures) in
                true≢false
                (sym (v.may_refer.ensures.1
                (subst (λ (rs : List Rule). MayRefer rs r c.at-edge.result.now.1) (sym rules) k.1))
                ∙ v.if-may_refer.false)
            | else-slot_gives-via-else-slot_gives v ↦ true≢false
                (sym (ap (λ (bs : List BoxFace). slot_gives bs f c.at-edge.result.now.0) boxes ∙ k.0)
                ∙ sym c.slot_gives.ensures ∙ v.if-slot_gives.false)
          ] in
          rw w.made-is (
            inv.0,
            (λ p l own. elim (nat_cases p n) [
              | inl k ↦ inv.1 p k own
              | inr k ↦
                  let e : p ≡ n = omega (arith, l, k) in
                  absurd (none (subst (λ (z : ℕ). Owns s.face.boxes r f a x z) e own))
            ]),
          )
    ]

pub returns-clause-all : goal.returns-clause-all
returns-clause-all c = λ p own.
    let s = c.args.forest.now in
    let a = component_at s.forest.autos c.args.from in
    let x = c.args.rule.now in
    let ranked = component_has IsRanked s.forest.autos c.args.from c.known.ensures.ranked c.requires.from in
    let l = owned_within s.face.boxes c.args.root c.args.field a ranked x c.requires.rule p own in
    let m : length c.in_ok-edges.edges ≡ length (edges (symbol_slots x.symbol) x.children) =
    ap (λ (es : List (Slot × ℕ)). length es) c.in_ok-edges.ensures in
    let n = c.len-place-end.ensures in
    let end = c.loop-place-test.false in
    c.loop-place.invariant.1 p (omega (arith, l, m, n, end)) own
