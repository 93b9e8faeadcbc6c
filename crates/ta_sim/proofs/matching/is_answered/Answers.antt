use Rattle.std.proofs.Common.{true≢false, ◌≤◌, length, refl, sym, subst, arith}
use Rattle.std.proofs.lemmas.List.{take_all}
use Rattle.fore_base.specs.Lists.{Every}
use Rattle.fore_base.proofs.ListLemmas.{every_in, in_at}
use Rattle.ta_sim.proofs.matching.is_answered.Goals as goal

pub returns-then-is_match : goal.returns-then-is_match
returns-then-is_match g c =
    let m = c.is_match.ensures.0 c.if-is_match.true in (
      (λ y. (
        c.other-item.result,
        in_at c.args.others.now c.loop-other.other-index c.other-item.result
            c.loop-other-test.true c.other-item.is,
        m,
      )),
      λ w. refl,
    )

pub returns : goal.returns
returns g c =
    let end : length c.args.others.now ≤ c.loop-other.other-index = omega (arith, c.loop-other-test.false) in
    let none = subst (Every (λ s. g.M.Matching.matches c.args.matching.now c.args.item.now s → ⊥))
    (take_all c.loop-other.other-index c.args.others.now end) c.loop-other.invariant in (
      (λ y. absurd (true≢false (sym y))),
      λ w.
          absurd
          (every_in (λ (s : g.row.T.Denot). g.M.Matching.matches c.args.matching.now c.args.item.now s → ⊥)
          c.args.others.now w.0 none w.1 w.2),
    )
