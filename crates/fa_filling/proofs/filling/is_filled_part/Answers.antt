use Rattle.std.proofs.Common.{Bool, true≢false, sym, ◌∙◌, ◌↔◌}
use Rattle.std.specs.Bool.{IsTrue}
use Rattle.std.proofs.lemmas.Result.{IfOk-weaker}
use Rattle.fore_base.specs.Lists.{Every}
use Rattle.ta_core.specs.Auto.{Automaton}
use Rattle.fa_filling.specs.Ruled.{IsOnceBelow, IsFilledPart}
use Rattle.fa_filling.proofs.FilledRules.{part_fills, fills_part}
use Rattle.fa_filling.proofs.filling.is_filled_part.Goals as goal

pub returns-then-not-branch : goal.returns-then-not-branch
returns-then-not-branch c =
    let a : Automaton = record
    { states = c.auto.inside.states; roots = c.auto.inside.roots; rules = c.auto.inside.rules } in
    let s = rw c.as_slice-rules.ensures at c.in_ok-are_shaped_rules.ensures in
    let t = rw (← c.auto.view_is) at c.requires.trim in
    rw (← c.auto.view_is) (
      (λ h. absurd (true≢false (sym h))),
      (λ f. absurd (true≢false (sym (s.1
          (fills_part c.args.face.now c.args.topss.now a c.args.above.now c.auto.invariant t c.requires.full f).shapes)
          ∙ c.if-not-branch.true))),
    )

pub returns-then-not-branch-2 : goal.returns-then-not-branch-2
returns-then-not-branch-2 c =
    let a : Automaton = record
    { states = c.auto.inside.states; roots = c.auto.inside.roots; rules = c.auto.inside.rules } in
    let s = rw (c.as_slice-rules.ensures, c.as_slice.ensures) at c.in_ok-are_roots_once.ensures in
    let t = rw (← c.auto.view_is) at c.requires.trim in
    rw (← c.auto.view_is) (
      (λ h. absurd (true≢false (sym h))),
      (λ f. absurd (true≢false (sym (s.1
          (fills_part c.args.face.now c.args.topss.now a c.args.above.now c.auto.invariant t c.requires.full f).roots)
          ∙ c.if-not-branch-2.true))),
    )

pub returns : goal.returns
returns c =
    let a : Automaton = record
    { states = c.auto.inside.states; roots = c.auto.inside.roots; rules = c.auto.inside.rules } in
    let s = rw c.as_slice-rules.ensures at c.in_ok-are_shaped_rules.ensures in
    let o = rw (c.as_slice-rules.ensures, c.as_slice.ensures) at c.in_ok-are_roots_once.ensures in
    let e = rw c.as_slice-rules.ensures at c.are_edges_once.ensures in
    let t = rw (← c.auto.view_is) at c.requires.trim in
    rw (← c.auto.view_is) (IfOk-weaker c.are_edges_once.result
    (λ (yes : Bool). IsTrue yes ↔ Every (IsOnceBelow c.args.face.now a.rules) a.rules)
    (λ (yes : Bool). IsTrue yes ↔ IsFilledPart c.args.face.now c.args.topss.now a c.args.above.now)
    (λ yes h. (
      (λ y. part_fills c.args.face.now c.args.topss.now a c.args.above.now c.auto.invariant (record {
        shapes = s.0 c.if-not-branch.false;
        roots = o.0 c.if-not-branch-2.false;
        edges = h.0 y;
      })),
      (λ f. h.1
          (fills_part c.args.face.now c.args.topss.now a c.args.above.now c.auto.invariant t c.requires.full f).edges),
    )) e)
