use Rattle.std.proofs.Common.{◌≡◌}
use Rattle.std.proofs.lemmas.Option.{MatchOption-at_none, MatchOption-at_some}
use Rattle.fix_core.specs.Covered.{IsCovered, NoneCovers}
use Rattle.fix_core.specs.Held.{nodes_of}
use Rattle.fix_core.specs.inner.Holding.{IsKeptAs}
use Rattle.fix_core.proofs.HeldSteps.{any_err, err_then, placed_then}
use Rattle.fix_core.proofs.held.Held.place.Goals as goal

pub returns-in_err-keep_uncovered-clause-err : goal.returns-in_err-keep_uncovered-clause-err
returns-in_err-keep_uncovered-clause-err g c =
    let face = c.args.state.now.face in
    any_err c.from_residual.result (nodes_of face c.keep_uncovered.new.self ≡ nodes_of face c.args.self.now)
    c.keep_uncovered.ensures.held.1

pub returns-in-None-clause-placed : goal.returns-in-None-clause-placed
returns-in-None-clause-placed g c =
    let a = c.args.state.now in
    let before = nodes_of a.face c.args.self.now in (
      MatchOption-at_none (IsCovered before c.args.head.location a.forest)
          (λ kept. NoneCovers before c.args.head.location a.forest
          × IsKeptAs c.keep_uncovered.new.self.pool a.forest kept) c.in-None.is c.in_ok-keep_uncovered.ensures.kept,
      c.keep_uncovered.ensures.held.1,
    )

pub add_within-requires-clause-kept : goal.add_within-requires-clause-kept
add_within-requires-clause-kept g c =
    let a = c.args.state.now in
    let before = nodes_of a.face c.args.self.now in
    (MatchOption-at_some (IsCovered before c.args.head.location a.forest)
    (λ kept. NoneCovers before c.args.head.location a.forest × IsKeptAs c.keep_uncovered.new.self.pool a.forest kept)
    c.in-Some.forest c.in-Some.is c.in_ok-keep_uncovered.ensures.kept).1

pub returns-in-Some-clause-placed : goal.returns-in-Some-clause-placed
returns-in-Some-clause-placed g c =
    let a = c.args.state.now in
    let before = nodes_of a.face c.args.self.now in
    let found = MatchOption-at_some (IsCovered before c.args.head.location a.forest)
    (λ kept. NoneCovers before c.args.head.location a.forest × IsKeptAs c.keep_uncovered.new.self.pool a.forest kept)
    c.in-Some.forest c.in-Some.is c.in_ok-keep_uncovered.ensures.kept in
    placed_then a.face c.args.self.now c.add_within.new.self (record { head = c.args.head; state = a }) c.args.budget
    c.keep_uncovered.new.self c.add_within.result c.keep_uncovered.ensures.held found.0 c.add_within.ensures.placed

pub returns-in-Some-clause-err : goal.returns-in-Some-clause-err
returns-in-Some-clause-err g c =
    let a = c.args.state.now in
    err_then a.face c.args.self.now c.add_within.new.self (record { head = c.args.head; state = a }) c.args.budget
    c.keep_uncovered.new.self c.add_within.result c.keep_uncovered.ensures.held c.add_within.ensures.err
