use Rattle.std.proofs.Common.{rules}
use Rattle.fa_pool.specs.Indexes.{IsListed}
use Rattle.fa_pool.proofs.Listing.{more_listed, new_listed, pushed_stays, pushed_is_there}
use Rattle.fa_pool.proofs.indexes.push.Goals as goal

pub returns-clause-more : goal.returns-clause-more
returns-clause-more c =
    let old = c.in-Some.numbers.now in
    let new = c.push.new.self in
    more_listed c.args.index.now (c.get_mut.follows.lender new) c.args.key old new (search rules)
    ((c.get_mut.follows.holds new).3 (search rules))
    (pushed_stays old new c.args.number c.push.result c.push.ensures.ok c.push.ensures.err)

pub returns-clause-ok : goal.returns-clause-ok
returns-clause-ok c =
    let old = c.in-Some.numbers.now in
    let new = c.push.new.self in
    let after = c.get_mut.follows.lender new in
    pushed_is_there old new c.args.number c.push.result (IsListed after c.args.key c.args.number)
    (new_listed c.args.index.now after c.args.key old new (search rules)
    ((c.get_mut.follows.holds new).3 (search rules)) c.args.number)
    c.push.ensures.ok
