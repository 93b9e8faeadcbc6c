use Rattle.par_kit.proofs.Halves.{whole, made_in, joined_in}
use Rattle.par_kit.proofs.making.+make.Goals as goal

pub returns : goal.returns
returns g t c =
    let relates = g.M.Maker.relates c.args.maker.now in
    let items = c.args.items.now in
    let front = c.split_at.result.0.now in
    let back = c.split_at.result.1.now in
    let made = c.in_ok-made.made in
    let more = c.in_ok-more.more in
    let e = whole c.share.result items front back c.split_at.ensures.front c.split_at.ensures.back in
    joined_in relates items front back made more c.joined.result e
    (made_in relates front c.join-first.result.0 made c.in_ok-made.was c.join-first.ensures.first)
    (made_in relates back c.join-first.result.1 more c.in_ok-more.was c.join-first.ensures.second)
    c.joined.ensures
