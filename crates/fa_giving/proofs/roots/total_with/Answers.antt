use Rattle.std.proofs.Common.{length, sym, ap, ◌∙◌, arith, set}
use Rattle.fa_giving.specs.declared.totals.Extremes.{Extremes}
use Rattle.fa_giving.specs.declared.totals.Given.{Given}
use Rattle.fa_giving.specs.inner.Totals.{added, extremes_in, none_given, total}
use Rattle.fa_giving.proofs.NoneGiven.{total_one}
use Rattle.fa_giving.proofs.roots.total_with.Goals as goal

pub returns-in-Nothing : goal.returns-in-Nothing
returns-in-Nothing c =
    let n = length c.args._autos.now in
    let all = total_one n c.args.root none_given c.args.own c.requires (omega arith) in
    let rest = ap (λ (g : Given). total none_given (set (extremes_in n g) c.args.root c.args.own)) c.in-Nothing.is in
    c.added.ensures ∙ ap (λ (x : Extremes). added x c.args.own) c.none_given.ensures ∙ sym all ∙ sym rest
