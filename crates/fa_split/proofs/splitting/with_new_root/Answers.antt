use Rattle.std.proofs.Common.{◌≡◌, ◌∙◌, ap, sym, subst}
use Rattle.std.proofs.lemmas.Result.{IfOk-weaker}
use Rattle.fore_base.specs.Lists.{Every}
use Rattle.ta_core.specs.Auto.{IsRanked}
use Rattle.fa_core.specs.Filled.{IsSound}
use Rattle.fa_core.specs.declared.forest.Forest.{Forest}
use Rattle.fa_split.specs.Split.{split_cells}
use Rattle.fa_split.proofs.SplitSound.{cells_sound}
use Rattle.fa_split.proofs.splitting.with_new_root.Goals as goal

pub of-requires : goal.of-requires
of-requires c =
    let F = c.args.forest.now.forest in
    let made : c.in_ok-made.made ≡ split_cells F c.args.root c.args.place = c.in_ok-made.ensures ∙ ap
    (λ (z : Forest). split_cells z c.args.root c.args.place) c.forest.ensures in
    let ranked : Every IsRanked F.autos = c.known.ensures.ranked in
    rw c.face.ensures
    (subst (λ (z : Forest). IsSound c.args.forest.now.face z) (sym made)
    (cells_sound c.args.forest.now.face F c.args.root c.args.place ranked c.requires.can c.known.ensures.sound
    c.requires.may c.requires.gives))

pub returns-clause-forest : goal.returns-clause-forest
returns-clause-forest c =
    let F = c.args.forest.now.forest in
    let made : c.in_ok-made.made ≡ split_cells F c.args.root c.args.place = c.in_ok-made.ensures ∙ ap
    (λ (z : Forest). split_cells z c.args.root c.args.place) c.forest.ensures in
    IfOk-weaker c.of.result (λ s. s.forest ≡ c.in_ok-made.made)
    (λ s. s.forest ≡ split_cells F c.args.root c.args.place) (λ s e. e ∙ made) c.of.ensures.forest
