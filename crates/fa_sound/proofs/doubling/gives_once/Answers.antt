use Rattle.std.proofs.lemmas.Bool.{not-false}
use Rattle.ta_core.specs.Auto.{Automaton}
use Rattle.fa_sound.proofs.GivenTwice.{some_twice}
use Rattle.fa_sound.proofs.doubling.gives_once.Goals as goal

pub returns : goal.returns
returns c =
    let i = c.part.inside in
    let p : Automaton = record { states = i.states; roots = i.roots; rules = i.rules } in
    let same = rw (← c.part.view_is) at c.in_ok-part.ensures.language in
    let trim = rw (← c.part.view_is) at c.in_ok-part.ensures.trim in
    let known = rw (← c.part.view_is) at c.known.ensures in
    let l = rw c.as_slice.ensures at c.in_ok-learnt.ensures in
    λ e. some_twice c.args.boxes.now c.args.limit c.args.auto.now p same known trim c.in_ok-learnt.learnt.table l.0 l.1
    (l.2 (not-false c.in_ok-learnt.learnt.doubled e))
