use Rattle.std.proofs.Common.{◌∙◌, ◌≡◌, subst, sym}
use Rattle.std.proofs.lemmas.Result.{IfOk-weaker}
use Rattle.fa_core.specs.Filled.{IsSound}
use Rattle.fix_core.specs.Reads.{read}
use Rattle.fix_core.proofs.Reading.{is_read}
use Rattle.fa_sound.specs.Soundness.{SoundForest}
use Rattle.fix_core.proofs.nodes.sound_of.Goals as goal

pub of-requires : goal.of-requires
of-requires c =
    subst (IsSound c.args.face.now)
    (sym (is_read c.args.pool.now c.args.kept.now c.in_ok-forest.forest c.in_ok-forest.ensures)) c.requires.sound

pub returns-clause-forest : goal.returns-clause-forest
returns-clause-forest c =
    IfOk-weaker c.of.result (λ (s : SoundForest). s.forest ≡ c.in_ok-forest.forest)
    (λ (s : SoundForest). s.forest ≡ read c.args.pool.now c.args.kept.now)
    (λ s e. e ∙ is_read c.args.pool.now c.args.kept.now c.in_ok-forest.forest c.in_ok-forest.ensures)
    c.of.ensures.forest
