use Rattle.fa_back.proofs.InsideLaws.{closure_reached, reached_closure}
use Rattle.fa_back.proofs.laws.insides_follow_signatures.Goals as goal

pub returns-clause-reached : goal.returns-clause-reached
returns-clause-reached c = λ t x autos table inside h. closure_reached t table x autos inside h

pub returns-clause-closed : goal.returns-clause-closed
returns-clause-closed c =
    λ t x autos table inside insides ranked h. reached_closure t table x autos inside ranked insides h
