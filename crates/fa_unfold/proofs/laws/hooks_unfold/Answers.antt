use Rattle.fore_base.proofs.ListLemmas.{in_every}
use Rattle.fa_split.proofs.SplitCells.{refers_well, all_below}
use Rattle.fa_unfold.specs.Unfolded.{UnfoldsFrom}
use Rattle.fa_unfold.specs.Unfolding.{hook_unfoldings}
use Rattle.fa_unfold.proofs.HookUnfoldings.{hook_from, hook_into}
use Rattle.fa_unfold.proofs.TableInsides.{ranked_inside, vars_there}
use Rattle.fa_unfold.proofs.laws.hooks_unfold.Goals as goal

pub returns-clause-each : goal.returns-clause-each
returns-clause-each c = λ t F i p b input inner ins over at is are.
    let w = refers_well t.face F over.sound in
    let r = ranked_inside t.defs b _ over.insides is in
    in_every (UnfoldsFrom t.defs F i p) (hook_unfoldings t.face.boxes F i p input inner ins)
    (hook_from t.face.boxes t.defs F over.ranked (λ d h. all_below t.defs F d w h) (vars_there F w) i p at.root at.top b
    at.slot input inner r.0 is ins are)

pub returns-clause-whole : goal.returns-clause-whole
returns-clause-whole c = λ t F i p b input inner ins over at is are.
    let w = refers_well t.face F over.sound in
    let r = ranked_inside t.defs b _ over.insides is in
    hook_into t.face.boxes t.defs F over.ranked (λ d h. all_below t.defs F d w h) (vars_there F w) i p at.root at.top b
    at.slot input inner r.0 is ins are
