use Rattle.std.proofs.Common.{List, Option, ℕ, ap, ◌∙◌}
use Rattle.std.proofs.lemmas.Result.{IfOk-weaker}
use Rattle.std.specs.Option.{MatchOption}
use Rattle.fore_base.specs.Lists.{Every}
use Rattle.ta_core.specs.Auto.{Automaton}
use Rattle.fa_core.specs.Rearranged.{Rearranged}
use Rattle.fa_boxes.specs.inner.Parts.{ArePartsOf, PartsApart, HaveApart}
use Rattle.fa_boxes.proofs.AllParts.{match_weaker, own_parts, own_apart}
use Rattle.fa_boxes.proofs.ports.own_fields.Goals as goal

pub returns-in_ok-all-in-Some : goal.returns-in_ok-all-in-Some
returns-in_ok-all-in-Some c =
    let bs = c.args.boxes.now in
    let a = c.args.auto.now in
    let r = c.args.port in
    let t = rw c.in-Some.is at c.in_ok-seen_each.ensures in
    let all = c.in_ok-all-in-Some.all in
    let l = rw (
      c.as_slice.ensures,
      c.as_slice-roots.ensures ∙ ap (λ (b : Automaton). b.roots) c.auto.view_is,
      c.as_slice-in-Some.ensures ∙ ap (λ (b : Automaton). b.rules) c.auto.view_is,
    ) at c.in_ok-all-in-Some.ensures in
    let e = rw c.as_slice-in-Some-2.ensures at c.common.ensures in
    IfOk-weaker c.common.result
    (λ (found : Option (List ℕ)). MatchOption found (HaveApart all) (λ fields. Every (Rearranged fields) all))
    (λ (found : Option (List ℕ)). MatchOption found (PartsApart bs r r a) (ArePartsOf bs r r a))
    (λ found h. match_weaker (HaveApart all) (PartsApart bs r r a) (λ fields. Every (Rearranged fields) all)
    (ArePartsOf bs r r a) (own_apart bs a c.in-Some.table t r c.known.ensures c.requires.trim all l)
    (λ fields m. own_parts bs a c.in-Some.table t r all fields l m) found h) e
