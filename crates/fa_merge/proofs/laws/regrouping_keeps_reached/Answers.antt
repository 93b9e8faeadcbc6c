use Rattle.fa_merge.proofs.ReachedKept.{reached_kept, unreached_kept}
use Rattle.fa_merge.proofs.laws.regrouping_keeps_reached.Goals as goal

pub returns-clause-kept : goal.returns-clause-kept
returns-clause-kept c = λ face F G gives filled filled_new ranked regroups all.
    reached_kept face F G gives filled filled_new ranked regroups all

pub returns-clause-unreached : goal.returns-clause-unreached
returns-clause-unreached c = λ face F G r gives sound sound_new ranked regroups h.
    unreached_kept face F G gives sound sound_new ranked regroups r h
