use Rattle.c_scopes.proofs.ScopeLemmas.{grown_kept, grown_same}
use Rattle.c_scopes.proofs.scopes.Table.number.Goals as goal

pub returns-in_err-number-clause-kept : goal.returns-in_err-number-clause-kept
returns-in_err-number-clause-kept c =
    grown_kept c.args.self.now c.number_of.new.names c.number_of.new.meant c.args.name.now c.requires
    c.number_of.ensures.names c.number_of.ensures.meant c.number_of.ensures.room

pub returns-in_err-number-clause-same : goal.returns-in_err-number-clause-same
returns-in_err-number-clause-same c =
    grown_same c.args.self.now c.number_of.new.names c.number_of.new.meant c.args.name.now c.requires
    c.number_of.ensures.names

pub returns-clause-kept : goal.returns-clause-kept
returns-clause-kept c = grown_kept c.args.self.now c.number_of.new.names c.number_of.new.meant c.args.name.now
    c.requires c.number_of.ensures.names c.number_of.ensures.meant c.number_of.ensures.room

pub returns-clause-same : goal.returns-clause-same
returns-clause-same c = grown_same c.args.self.now c.number_of.new.names c.number_of.new.meant c.args.name.now
    c.requires c.number_of.ensures.names
