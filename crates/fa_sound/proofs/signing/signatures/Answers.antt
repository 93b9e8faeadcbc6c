use Rattle.std.proofs.Common.{◌<◌, length, true, false, true≢false, sym, ◌∙◌}
use Rattle.fore_base.specs.Lists.{Every}
use Rattle.ta_core.specs.Auto.{Automaton}
use Rattle.ta_core.specs.declared.auto.Rule.{Rule}
use Rattle.ta_core.proofs.Smaller.{states_low}
use Rattle.fa_sound.proofs.Mixed.{signed_mixed, mixed_signed, mixed_one, mixed_listed}
use Rattle.fa_sound.proofs.signing.signatures.Goals as goal

pub learn-requires : goal.learn-requires
learn-requires c = rw c.as_slice.ensures (states_low _ c.auto.inside.rules c.auto.invariant.1)

pub are_mixed-requires : goal.are_mixed-requires
are_mixed-requires c =
    let l = rw c.as_slice.ensures at c.in_ok-table.ensures in
    rw (c.as_slice-2.ensures, c.as_slice-3.ensures, l.long) (states_low _ c.auto.inside.rules c.auto.invariant.1)

pub returns-then-not-branch : goal.returns-then-not-branch
returns-then-not-branch c =
    let bs = c.args.boxes.now in
    let t = c.in_ok-table.table in
    let a : Automaton = record
    { states = c.auto.inside.states; roots = c.auto.inside.roots; rules = c.auto.inside.rules } in
    let l = rw c.as_slice.ensures at c.in_ok-table.ensures in
    let w : Every (λ (r : Rule). r.state < length t) a.rules =
    rw l.long (states_low _ c.auto.inside.rules c.auto.invariant.1) in
    let s = rw (c.as_slice-2.ensures, c.as_slice-3.ensures) at c.in_ok-are_mixed.ensures in
    rw (← c.auto.view_is)
    (λ h. true≢false (sym (s.1 (mixed_signed bs a t l w h false, mixed_signed bs a t l w h true))
    ∙ c.if-not-branch.true))

pub returns-then-not-are_one : goal.returns-then-not-are_one
returns-then-not-are_one c =
    let bs = c.args.boxes.now in
    let t = c.in_ok-table.table in
    let a : Automaton = record
    { states = c.auto.inside.states; roots = c.auto.inside.roots; rules = c.auto.inside.rules } in
    let l = rw c.as_slice.ensures at c.in_ok-table.ensures in
    let w : Every (λ (r : Rule). r.state < length t) a.rules =
    rw l.long (states_low _ c.auto.inside.rules c.auto.invariant.1) in
    let s = rw (c.as_slice-4.ensures, c.as_slice-5.ensures) at c.are_one.ensures in
    rw (← c.auto.view_is) (λ h. true≢false (sym (s.1 (mixed_one bs a t l w h)) ∙ c.if-not-are_one.true))

pub returns : goal.returns
returns c =
    let bs = c.args.boxes.now in
    let t = c.in_ok-table.table in
    let a : Automaton = record
    { states = c.auto.inside.states; roots = c.auto.inside.roots; rules = c.auto.inside.rules } in
    let l = rw c.as_slice.ensures at c.in_ok-table.ensures in
    let w : Every (λ (r : Rule). r.state < length t) a.rules =
    rw l.long (states_low _ c.auto.inside.rules c.auto.invariant.1) in
    let s = rw (c.as_slice-2.ensures, c.as_slice-3.ensures) at c.in_ok-are_mixed.ensures in
    let o = rw (c.as_slice-4.ensures, c.as_slice-5.ensures) at c.are_one.ensures in
    let k = s.0 c.if-not-branch.false in
    let e = rw c.as_slice-6.ensures at c.in_ok-list.ensures in
    rw (← c.auto.view_is, e) (
      signed_mixed bs a t l w k.0 k.1 (o.0 c.if-not-are_one.false),
      mixed_listed bs a t l w k.0 k.1,
    )
