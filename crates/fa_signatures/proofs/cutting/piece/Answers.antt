use Rattle.ta_core.specs.Auto.{Automaton}
use Rattle.fa_signatures.proofs.PieceTrees.{none_there, is_piece}
use Rattle.fa_signatures.proofs.cutting.piece.Goals as goal

pub returns-then-branch : goal.returns-then-branch
returns-then-branch c =
    let a : Automaton = record
    { states = c.whole.inside.states; roots = c.whole.inside.roots; rules = c.whole.inside.rules } in
    let o = rw c.as_slice.ensures at c.in_ok-over.ensures in
    let made = c.in_ok-made.ensures in
    rw (← c.whole.view_is)
    (λ bs h. none_there bs a c.args.found.now.pairs c.args.found.now.rules h c.requires.found.apart
    c.args.marks.now c.in_ok-over.over o c.in_ok-made.made made.language made.trim made.parts c.known.ensures
    c.whole.invariant (c.in_ok-is_empty.ensures.empty.0 c.if-branch.true))

pub returns : goal.returns
returns c =
    let a : Automaton = record
    { states = c.whole.inside.states; roots = c.whole.inside.roots; rules = c.whole.inside.rules } in
    let o = rw c.as_slice.ensures at c.in_ok-over.ensures in
    let made = c.in_ok-made.ensures in
    rw (← c.whole.view_is)
    (λ bs h. (
      is_piece bs a c.args.found.now.pairs c.args.found.now.rules h c.requires.found.apart c.args.marks.now
          c.in_ok-over.over o c.in_ok-made.made made.language made.trim made.parts c.known.ensures c.whole.invariant
          (c.in_ok-is_empty.ensures.tree c.if-branch.false),
      made.trim,
    ))
