use Rattle.std.proofs.Common.{◌≡◌, ◌⊎◌, List, subst}
use Rattle.fore_base.specs.Lists.{IsIn}
use Rattle.fa_kept.specs.Memos.{Answer, answer}
use Rattle.fa_kept.proofs.Entries.{new_is_there, others_were_there}
use Rattle.fa_kept.proofs.memo.Memo.add.Goals as goal

pub returns-clause-ok : goal.returns-clause-ok
returns-clause-ok c =
    let there = new_is_there (c.args.narrow, c.args.wide) c.args.yes c.self.inside.answers.entries in
    rw (← c.in_ok-insert.ensures.entries) at there

pub returns-clause-others : goal.returns-clause-others
returns-clause-others c = λ a i.
    let were = others_were_there (c.args.narrow, c.args.wide) c.args.yes c.self.inside.answers.entries a
    (subst (λ (es : List Answer). IsIn a es) c.in_ok-insert.ensures.entries i) in
    subst (λ (es : List Answer). IsIn a es ⊎ (a ≡ answer c.args.narrow c.args.wide c.args.yes)) c.self.view_is were
