use Rattle.std.proofs.lemmas.Result.{IfOk-weaker}
use Rattle.fore_base.specs.Lists.{IsDistinct}
use Rattle.ta_core.specs.Language.{InLanguage, HasSameLanguage}
use Rattle.ta_core.specs.Simulations.{AutoReduced}
use Rattle.ta_core.specs.Single.{HasOneTop, HasSameTop}
use Rattle.ta_core.specs.States.{KeepsStates}
use Rattle.ta_core.specs.declared.tree.Tree.{Tree}
use Rattle.ta_reduce.specs.inner.Reduction.{HasRootsOnce, IsReduction}
use Rattle.ta_reduce.proofs.Steps.{preserved_through, trimmed_preserves, reduction_from}
use Rattle.ta_reduce.proofs.reducing.reduce.Goals as goal

pub returns : goal.returns
returns g c =
    let a = c.args.auto.now in
    let t = c.in_ok-trimmed.ensures in
    let m = c.in_ok-made.ensures in
    let h = preserved_through a c.in_ok-trimmed.trimmed c.in_ok-made.made
    (trimmed_preserves a c.in_ok-trimmed.trimmed c.known.ensures t.language t.parts t.trim c.known-2.ensures) m.0 in
    let result = c.with_roots_once.result in
    let all = IfOk-weaker result (HasRootsOnce c.in_ok-made.made) (IsReduction a)
    (λ made o. reduction_from a c.in_ok-made.made made h m.1 o) c.with_roots_once.ensures in
    record {
      language = IfOk-weaker result (IsReduction a) (λ made. HasSameLanguage a made) (λ made r. r.language) all;
      reduced = IfOk-weaker result (IsReduction a) (λ made. AutoReduced made) (λ made r. r.reduced) all;
      states = IfOk-weaker result (IsReduction a) (λ made. KeepsStates a made) (λ made r. r.states) all;
      roots = IfOk-weaker result (IsReduction a) (λ made. IsDistinct made.roots) (λ made r. r.roots) all;
      top = IfOk-weaker result (IsReduction a) (λ made. (t : Tree) → InLanguage a t → HasSameTop a → HasOneTop made)
          (λ made r. r.top) all;
    }
