use Rattle.std.proofs.Common.{ℕ, List, refl, sym, ◌∙◌, subst, true≢false}
use Rattle.std.proofs.lemmas.Result.{on_ok_weaker}
use Rattle.ta_core.specs.Auto.{automaton}
use Rattle.ta_core.proofs.Smaller.{states_low}
use Rattle.ta_incl.specs.declared.found.Found.{Found}
use Rattle.ta_incl.specs.inner.Founds.{AreAt, IsProper}
use Rattle.ta_incl.proofs.Covering.{widens_push, given_here, covered_by, cover_new, cover_same}
use Rattle.ta_incl.proofs.Places.{places_low}
use Rattle.ta_incl.proofs.exploring.add.Goals as goal

pub sets_at-requires : goal.sets_at-requires
sets_at-requires c = places_low c.args.found.now c.args.from.now c.requires.full.0 c.requires.full.1

pub top_states-requires : goal.top_states-requires
top_states-requires c = rw c.as_slice.ensures (states_low _ c.right.inside.rules c.right.invariant.1)

pub returns-then-is_covered-clause-covers : goal.returns-then-is_covered-clause-covers
returns-then-is_covered-clause-covers c =
    let b = automaton c.right.inside.states c.right.inside.roots c.right.inside.rules in
    let x : Found = record {
      state = c.args.rule.now.state;
      marks = c.in_ok-marks.marks;
      under = c.in_ok-under.under;
      rule = c.args.place;
      from = c.in_ok-from.from;
    } in
    let m = rw c.as_slice.ensures at c.in_ok-marks.ensures in
    let u = rw c.as_slice-2.ensures at c.in_ok-under.ensures in
    let v = rw c.as_slice-3.ensures at c.is_covered.ensures in
    rw (← c.right.view_is)
    (λ items a. covered_by b c.args.orders.now _ c.args.rule.now items x c.in_ok-sets.sets refl m u
    (c.in_ok-sets.ensures items a) (v.0 c.if-is_covered.true))

pub returns-clause-widens : goal.returns-clause-widens
returns-clause-widens c =
    let b = automaton c.right.inside.states c.right.inside.roots c.right.inside.rules in
    let m = rw c.as_slice.ensures at c.in_ok-marks.ensures in
    let u = rw c.as_slice-2.ensures at c.in_ok-under.ensures in
    let v = rw c.as_slice-3.ensures at c.is_covered.ensures in
    let a = subst (λ (is : List ℕ). AreAt c.args.found.now is c.requires.full.0) (sym c.in_ok-from.ensures)
    c.requires.full.1 in
    rw (← c.right.view_is)
    (on_ok_weaker c.push.result
    (λ e. widens_push c.args.orders.now.left _ c.args.found.now c.args.added.now c.push.new.self _ e (
      given_here b c.args.orders.now c.args.found.now c.args.place c.args.rule.now c.in_ok-from.from c.requires.full.0
          c.in_ok-marks.marks c.in_ok-under.under c.in_ok-sets.sets a c.requires.full.2 m
          (c.in_ok-sets.ensures c.requires.full.0 c.requires.full.1),
      u,
    ) (λ h. true≢false (sym (v.1 h) ∙ c.if-is_covered.false))) c.push.ensures.ok)

pub returns-clause-covers : goal.returns-clause-covers
returns-clause-covers c =
    let b = automaton c.right.inside.states c.right.inside.roots c.right.inside.rules in
    let x : Found = record {
      state = c.args.rule.now.state;
      marks = c.in_ok-marks.marks;
      under = c.in_ok-under.under;
      rule = c.args.place;
      from = c.in_ok-from.from;
    } in
    let m = rw c.as_slice.ensures at c.in_ok-marks.ensures in
    let u = rw c.as_slice-2.ensures at c.in_ok-under.ensures in
    let up = rw (← c.right.view_is) at c.requires.upward.1 in
    let proper : IsProper c.requires.upward.0 b c.args.orders.now x =
    record { state = c.requires.upward.2; long = m.long; under = u } in
    rw (← c.right.view_is)
    (on_ok_weaker c.push.result
    (λ e items a. covered_by b c.args.orders.now _ c.args.rule.now items x c.in_ok-sets.sets refl m u
    (c.in_ok-sets.ensures items a)
    (cover_new c.args.orders.now.left c.args.found.now c.args.added.now c.push.new.self x
    (cover_same b c.args.orders.now c.requires.upward.0 up x proper) e)) c.push.ensures.ok)
