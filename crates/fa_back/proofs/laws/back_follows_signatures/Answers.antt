use Rattle.fa_back.proofs.InsideLaws.{closure_up, closure_nowhere, up_closure, nowhere_closure}
use Rattle.fa_back.proofs.laws.back_follows_signatures.Goals as goal

pub returns-clause-up : goal.returns-clause-up
returns-clause-up c = λ t x out autos table inside e h. closure_up t table x autos inside out e h

pub returns-clause-nowhere : goal.returns-clause-nowhere
returns-clause-nowhere c = λ t x out autos table inside e h. closure_nowhere t table x autos inside out e h

pub returns-clause-always : goal.returns-clause-always
returns-clause-always c =
    λ t x out autos table inside insides ranked e h. up_closure t table x autos inside ranked insides out e h

pub returns-clause-never : goal.returns-clause-never
returns-clause-never c =
    λ t x out autos table inside insides ranked e h. nowhere_closure t table x autos inside ranked insides out e h
