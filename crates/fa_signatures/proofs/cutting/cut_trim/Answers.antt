use Rattle.std.proofs.Common.{List}
use Rattle.std.proofs.lemmas.Result.{IfOk-weaker}
use Rattle.fore_base.specs.Lists.{Every}
use Rattle.ta_core.specs.Auto.{Automaton}
use Rattle.ta_core.specs.Language.{IsTrim}
use Rattle.fa_core.specs.declared.faces.BoxFace.{BoxFace}
use Rattle.fa_signatures.specs.CutPieces.{AreCut}
use Rattle.fa_signatures.specs.inner.CutPairs.{ArePairRules, AreCutBy}
use Rattle.fa_signatures.specs.inner.Telling.{told_states}
use Rattle.fa_signatures.proofs.PairRules.{over_ranked}
use Rattle.fa_signatures.proofs.PieceLists.{cut_whole, all_trim}
use Rattle.fa_signatures.proofs.PieceTrees.{all_found}
use Rattle.fa_signatures.proofs.cutting.cut_trim.Goals as goal

pub pieces-requires-clause-found : goal.pieces-requires-clause-found
pieces-requires-clause-found c =
    let h = rw c.as_slice.ensures at c.in_ok-found.ensures.rules in
    record {
      apart = c.in_ok-found.ensures.apart;
      rules = over_ranked c.in_ok-found.found.pairs c.args.boxes.now
          (told_states c.args.boxes.now c.whole.inside.rules) c.whole.inside.states c.whole.inside.rules
          c.in_ok-found.found.rules h c.whole.invariant.1;
    }

pub returns-clause-cut : goal.returns-clause-cut
returns-clause-cut c =
    let a : Automaton = record
    { states = c.whole.inside.states; roots = c.whole.inside.roots; rules = c.whole.inside.rules } in
    let bs = c.args.boxes.now in
    let found = c.in_ok-found.found in
    let all = c.in_ok-all.all in
    let h = rw c.as_slice.ensures at c.in_ok-found.ensures.rules in
    let m = rw (c.as_slice-2.ensures, c.as_slice-3.ensures) at c.in_ok-all.ensures.marks in
    let p = rw (← c.whole.view_is, c.as_slice-4.ensures) at c.pieces.ensures in
    rw (← c.whole.view_is)
    (IfOk-weaker c.pieces.result
    (λ (ps : List Automaton). (fs : List BoxFace)
    → ArePairRules fs (told_states fs a.rules) found.pairs a.rules found.rules → AreCutBy fs a all ps) (AreCut bs a)
    (λ ps f. cut_whole bs a all ps (all_found bs a found.pairs found.rules h c.in_ok-found.ensures.apart all m)
    (f bs h)) p)

pub returns-clause-trim : goal.returns-clause-trim
returns-clause-trim c =
    let a : Automaton = record
    { states = c.whole.inside.states; roots = c.whole.inside.roots; rules = c.whole.inside.rules } in
    let bs = c.args.boxes.now in
    let found = c.in_ok-found.found in
    let all = c.in_ok-all.all in
    let h = rw c.as_slice.ensures at c.in_ok-found.ensures.rules in
    let p = rw (← c.whole.view_is, c.as_slice-4.ensures) at c.pieces.ensures in
    IfOk-weaker c.pieces.result
    (λ (ps : List Automaton). (fs : List BoxFace)
    → ArePairRules fs (told_states fs a.rules) found.pairs a.rules found.rules → AreCutBy fs a all ps) (Every IsTrim)
    (λ ps f. all_trim bs a all ps (f bs h)) p
