use Rattle.par_kit.proofs.Halves.{whole, least_left, least_right, found_in, none_in}
use Rattle.par_kit.proofs.finding.+find.Goals as goal

pub returns-in-Some : goal.returns-in-Some
returns-in-Some g t c =
    let meets = g.P.Test.meets c.args.test.now in
    let items = c.args.items.now in
    let front = c.split_at.result.0.now in
    let back = c.split_at.result.1.now in
    let e = whole c.share.result items front back c.split_at.ensures.front c.split_at.ensures.back in
    least_left meets items front back c.in-Some.index e
    (found_in meets front c.join-first.result.0 c.in_ok-index.field-0 c.in-Some.index c.in_ok-index.was c.in-Some.is
    c.join-first.ensures.first)

pub returns-in-Some-2 : goal.returns-in-Some-2
returns-in-Some-2 g t c =
    let meets = g.P.Test.meets c.args.test.now in
    let items = c.args.items.now in
    let front = c.split_at.result.0.now in
    let back = c.split_at.result.1.now in
    let e = whole c.share.result items front back c.split_at.ensures.front c.split_at.ensures.back in
    least_right meets items front back c.in-Some-2.index e
    (none_in meets front c.join-first.result.0 c.in_ok-index.field-0 c.in_ok-index.was c.in-None.is
    c.join-first.ensures.first)
    (found_in meets back c.join-first.result.1 c.in_ok-index-in-None.field-0 c.in-Some-2.index
    c.in_ok-index-in-None.was c.in-Some-2.is c.join-first.ensures.second)
