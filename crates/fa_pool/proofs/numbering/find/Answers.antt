use Rattle.std.proofs.Common.{◌++◌, rules}
use Rattle.fa_pool.proofs.Listing.{no_list_none_there}
use Rattle.fa_pool.proofs.Numbers.{found_or_not_there}
use Rattle.fa_pool.proofs.numbering.find.Goals as goal

pub returns-in-Some : goal.returns-in-Some
returns-in-Some c =
    found_or_not_there c.args.index.now (c.args.held.now ++ c.args.more.now) c.args.auto.now c.in-Some.numbers.now
    c.find_in.result c.requires.indexed (search rules) (rw c.as_slice.ensures at c.find_in.ensures)

pub returns-in-None : goal.returns-in-None
returns-in-None c =
    no_list_none_there c.args.index.now (c.args.held.now ++ c.args.more.now) c.args.auto.now c.requires.indexed
    (search rules)
