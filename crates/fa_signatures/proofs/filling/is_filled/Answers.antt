use Rattle.std.proofs.Common.{◌↔◌, List, IsTrue}
use Rattle.std.proofs.lemmas.Result.{IfOk-weaker}
use Rattle.fore_base.specs.Lists.{Every}
use Rattle.ta_core.specs.Auto.{Automaton}
use Rattle.fa_core.specs.Filled.{IsFilled, IsSound}
use Rattle.fa_signatures.specs.inner.CutProducts.{product, with_autos}
use Rattle.fa_signatures.proofs.CutLaws.{product_fills, product_sound}
use Rattle.fa_signatures.proofs.filling.is_filled.Goals as goal

pub returns : goal.returns
returns c =
    let F = c.args.forest.now in
    let face = c.args.face.now in
    let data_fit = rw c.as_slice.ensures at (c.are_data_right.ensures.0 c.if-not-are_data_right.false) in
    let rules = rw c.as_slice-2.ensures at (c.are_rules_right.ensures.0 c.if-not-are_rules_right.false) in
    let h = rw (c.as_slice-3.ensures, c.as_slice-4.ensures) at c.in_ok-pieces.ensures in
    let sounds = rw (c.as_slice-6.ensures, c.in_ok-choices.ensures, c.as_slice-5.ensures) at c.are_sound.ensures in
    IfOk-weaker c.are_sound.result
    (λ yes. IsTrue yes ↔ Every (λ (autos : List Automaton). IsSound face (with_autos F autos))
    (product c.in_ok-pieces.pieces)) (λ yes. IsTrue yes ↔ IsFilled face F)
    (λ yes f. (
      λ e. product_fills face F c.in_ok-pieces.pieces h (f.0 e) rules data_fit,
      λ filled. f.1 (product_sound face F c.in_ok-pieces.pieces h filled),
    )) sounds
