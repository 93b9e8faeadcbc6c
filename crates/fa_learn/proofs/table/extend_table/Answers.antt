use Rattle.std.proofs.Common.{subst}
use Rattle.fa_core.specs.declared.faces.Face.{Face}
use Rattle.fa_core.specs.Filled.{IsSound}
use Rattle.fa_learn.proofs.Candidates.{candidate_sound, named_word}
use Rattle.fa_learn.proofs.Copies.{extended}
use Rattle.fa_learn.proofs.table.extend_table.Goals as goal

pub add-requires-clause-word : goal.add-requires-clause-word
add-requires-clause-word c = named_word c.args.table.now c.known.ensures c.args.def.now c.requires.learnt.5.named

pub add-requires-clause-new : goal.add-requires-clause-new
add-requires-clause-new c = rw c.in_ok-made.ensures c.requires.learnt.5.named.new

pub add-requires-clause-inside : goal.add-requires-clause-inside
add-requires-clause-inside c = c.requires.learnt.5.is.no_variables

pub add-requires-clause-sound : goal.add-requires-clause-sound
add-requires-clause-sound c =
    let h = c.requires.learnt in
    rw c.in_ok-made.ensures
    (candidate_sound c.args.table.now c.known.ensures h.0.forest
    (subst (λ (f : Face). IsSound f h.0.forest) h.4 h.3.sound) h.3.ranked h.1 h.2 c.args.def.now h.5)

pub returns : goal.returns
returns c =
    extended c.args.table.now _ c.add.new.self c.args.def.now c.in_ok-made.ensures c.in_ok-add.ensures.defs
    c.in_ok-add.ensures.faces c.add.ensures.shapes
