use Rattle.fa_edit.proofs.OtherVars.{vars_sound, vars_canonical}
use Rattle.fa_edit.proofs.vars.with_vars.Goals as goal

pub with_vars-requires : goal.with_vars-requires
with_vars-requires c =
    let s = c.args.forest.now in
    let r = c.requires in
    vars_sound s.face s.forest c.args.vars c.args.data_vars r.targets r.data c.known.ensures.sound

pub returns-clause-canonical : goal.returns-clause-canonical
returns-clause-canonical c = λ e can.
    let s = c.args.forest.now in
    let r = c.requires in
    rw (c.in_ok-made.ensures.forest, c.in_ok-made.ensures.face)
    (vars_canonical s.face s.forest c.args.vars c.args.data_vars r.targets r.data e can)
