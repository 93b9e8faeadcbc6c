use Rattle.std.proofs.Common.{subst}
use Rattle.fa_core.specs.declared.forest.Forest.{Forest}
use Rattle.fix_core.specs.Covered.{CoversOrNot}
use Rattle.fix_core.specs.Held.{nodes_of}
use Rattle.fix_core.specs.inner.Holding.{IsKeptAs}
use Rattle.fix_core.proofs.HeldSteps.{covered_before}
use Rattle.fix_core.proofs.Holding.{grows_then, held_still, kept_still, stays_held}
use Rattle.fix_core.proofs.held.Held.keep_uncovered.Goals as goal

pub returns-in_err-forest-clause-held : goal.returns-in_err-forest-clause-held
returns-in_err-forest-clause-held g c =
    stays_held c.args.state.now.face c.args.self.now c.keep.new.self c.keep.ensures.grows c.requires.held

pub is_covered-requires-clause-held : goal.is_covered-requires-clause-held
is_covered-requires-clause-held g c κs within = (
  c.args.state.now.face,
  held_still c.args.state.now.face c.args.self.now c.keep.new.self c.keep.ensures.grows c.requires.held,
)

pub returns-in_err-is_covered-clause-held : goal.returns-in_err-is_covered-clause-held
returns-in_err-is_covered-clause-held g c =
    stays_held c.args.state.now.face c.args.self.now c.is_covered.new.self
    (grows_then c.args.self.now c.keep.new.self c.is_covered.new.self c.keep.ensures.grows c.is_covered.ensures.grows)
    c.requires.held

pub returns-then-branch-clause-held : goal.returns-then-branch-clause-held
returns-then-branch-clause-held g c =
    stays_held c.args.state.now.face c.args.self.now c.is_covered.new.self
    (grows_then c.args.self.now c.keep.new.self c.is_covered.new.self c.keep.ensures.grows c.is_covered.ensures.grows)
    c.requires.held

pub returns-then-branch-clause-kept : goal.returns-then-branch-clause-kept
returns-then-branch-clause-kept g c =
    let a = c.args.state.now in
    subst (CoversOrNot (nodes_of a.face c.args.self.now) c.args.location a.forest) c.if-branch.true
    (covered_before a.face c.args.self.now c.keep.new.self c.args.location a.forest c.in_ok-forest.forest
    c.in_ok-is_covered.field-0 c.keep.ensures.grows c.requires.held
    (subst (λ (F : Forest). IsKeptAs c.keep.new.self.pool F c.in_ok-forest.forest) c.forest.ensures.forest
    c.in_ok-forest.ensures.kept) c.in_ok-is_covered.ensures.covers)

pub returns-clause-held : goal.returns-clause-held
returns-clause-held g c =
    stays_held c.args.state.now.face c.args.self.now c.is_covered.new.self
    (grows_then c.args.self.now c.keep.new.self c.is_covered.new.self c.keep.ensures.grows c.is_covered.ensures.grows)
    c.requires.held

pub returns-clause-kept : goal.returns-clause-kept
returns-clause-kept g c =
    let a = c.args.state.now in
    let kept = subst (λ (F : Forest). IsKeptAs c.keep.new.self.pool F c.in_ok-forest.forest) c.forest.ensures.forest
    c.in_ok-forest.ensures.kept in (
      subst (CoversOrNot (nodes_of a.face c.args.self.now) c.args.location a.forest) c.if-branch.false
          (covered_before a.face c.args.self.now c.keep.new.self c.args.location a.forest c.in_ok-forest.forest
          c.in_ok-is_covered.field-0 c.keep.ensures.grows c.requires.held kept c.in_ok-is_covered.ensures.covers),
      kept_still c.keep.new.self c.is_covered.new.self a.forest c.in_ok-forest.forest c.is_covered.ensures.grows kept,
    )
