use Rattle.std.proofs.Common.{List, Option, ℕ}
use Rattle.std.proofs.lemmas.Result.{IfOk-weaker}
use Rattle.fore_base.specs.Lists.{Paired}
use Rattle.par_kit.specs.Phases.{IsFirst}
use Rattle.fa_core.specs.declared.forest.Forest.{Forest}
use Rattle.fa_sound.specs.Soundness.{SoundForest}
use Rattle.fa_cover.specs.Firsts.{FirstCover}
use Rattle.fa_pool.specs.Pools.{ReadsAs}
use Rattle.fa_kept.specs.inner.Within.{CoversByNumbers}
use Rattle.fa_kept.proofs.Reading.{first_as_read}
use Rattle.fa_kept.proofs.covering.first_kept.Goals as goal

pub returns-clause-first : goal.returns-clause-first
returns-clause-first g c =
    let pool = c.args.pool.now in
    let nodes = c.args.nodes.now in
    let kept = c.args.forest.now in
    IfOk-weaker c.first_among.result (IsFirst (λ node. CoversByNumbers pool node kept) nodes)
    (λ (found : Option ℕ). (all : List SoundForest) (F : Forest)
    → Paired (λ k node. ReadsAs pool k node.forest) nodes all → ReadsAs pool kept F → FirstCover all F found)
    (λ found first all F read is. first_as_read pool kept F is nodes all found read first)
    c.first_among.ensures.first
