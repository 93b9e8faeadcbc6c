use Rattle.std.proofs.Common.{◌≡◌, ◌+◌, ◌-◌, length, ap, ◌∙◌, arith}
use Rattle.c_lower.proofs.Closing.{rests-long, rest-is}
use Rattle.c_lower.proofs.site.Site.rest_at.Goals as goal

pub at-requires : goal.at-requires
at-requires c =
    let site = c.args.self.now in
    omega (
      arith,
      c.requires.within,
      ap length c.requires.rests ∙ rests-long site.funcs.now site.calls c.args.around.now c.args.body.now,
    )

pub returns : goal.returns
returns c =
    let site = c.args.self.now in
    let body = c.args.body.now in
    let at = c.args.at in
    let i = length body - 1 - at in
    let place : i + 1 + at ≡ length body = omega (arith, c.requires.within) in
    rest-is site.funcs.now site.calls c.args.around.now body at i c.args.rests.now c.at.result.now c.requires.rests
    c.at.ensures place
