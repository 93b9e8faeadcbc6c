use Rattle.fore_base.proofs.ListLemmas.{in_every}
use Rattle.fa_split.proofs.SplitCells.{refers_well, all_below}
use Rattle.fa_unfold.specs.Unfolded.{UnfoldsFrom}
use Rattle.fa_unfold.specs.Unfolding.{link_unfoldings}
use Rattle.fa_unfold.proofs.LinkUnfoldings.{link_from, link_into}
use Rattle.fa_unfold.proofs.TableInsides.{ranked_inside, output_dressed, vars_there}
use Rattle.fa_unfold.proofs.laws.links_unfold.Goals as goal

pub returns-clause-each : goal.returns-clause-each
returns-clause-each c = λ t F i p b y input output inner tops over at is are.
    let w = refers_well t.face F over.sound in
    let r = ranked_inside t.defs b _ over.insides is in
    in_every (UnfoldsFrom t.defs F i p) (link_unfoldings t.face.boxes F i p y input output inner tops)
    (link_from t.face.boxes t.defs F over.ranked (λ d h. all_below t.defs F d w h) (vars_there F w) i p at.root at.top b
    at.state at.slot y at.run at.only at.end input output inner r.0 r.1.0 is
    (output_dressed t over.table over.insides b input output inner is) tops are)

pub returns-clause-whole : goal.returns-clause-whole
returns-clause-whole c = λ t F i p b y input output inner tops over at is are.
    let w = refers_well t.face F over.sound in
    let r = ranked_inside t.defs b _ over.insides is in
    link_into t.face.boxes t.defs F over.ranked (λ d h. all_below t.defs F d w h) (vars_there F w) i p at.root at.top b
    at.state at.slot y at.run at.only at.end input output inner r.0 r.1.0 is
    (output_dressed t over.table over.insides b input output inner is) tops are
