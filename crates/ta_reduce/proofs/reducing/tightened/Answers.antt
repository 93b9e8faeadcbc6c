use Rattle.std.proofs.Common.{◌≡◌, length, ap, ◌∙◌}
use Rattle.std.proofs.lemmas.Result.{IfOk-weaker}
use Rattle.ta_core.specs.Auto.{Automaton}
use Rattle.ta_reduce.specs.inner.Reduction.{IsLeft, IsTight, Preserves}
use Rattle.ta_reduce.proofs.Steps.{among_greatest, tightened_from}
use Rattle.ta_reduce.proofs.Tight.{greatest_preorder}
use Rattle.ta_reduce.proofs.reducing.tightened.Goals as goal

pub without_needless-requires-clause-greatest : goal.without_needless-requires-clause-greatest
without_needless-requires-clause-greatest c =
    let rel = c.args.relation.now in
    let made = c.in_ok-classes.classes in
    let classes = rw c.requires.greatest.size at c.in_ok-classes.ensures in
    let joined = c.in_ok-joined.joined in
    let size : c.in_ok-among.among.size ≡ length made.firsts =
    c.in_ok-among.ensures.size
    ∙ ap (λ (x : Automaton). x.states) (c.joined.view_is ∙ c.in_ok-joined.ensures) in
    let rows = rw c.as_slice.ensures at c.in_ok-among.ensures.among in
    among_greatest c.args.auto.now rel made.numbers made.firsts joined c.in_ok-among.among c.known.ensures
    c.requires.greatest classes c.in_ok-joined.ensures size rows

pub without_needless-requires-clause-preorder : goal.without_needless-requires-clause-preorder
without_needless-requires-clause-preorder c =
    greatest_preorder c.in_ok-joined.joined c.in_ok-among.among c.known-2.ensures
    (without_needless-requires-clause-greatest c) c.known-3.ensures

pub returns : goal.returns
returns c =
    let rel = c.args.relation.now in
    let made = c.in_ok-classes.classes in
    let classes = rw c.requires.greatest.size at c.in_ok-classes.ensures in
    let joined = c.in_ok-joined.joined in
    let among = c.in_ok-among.among in
    let size : among.size ≡ length made.firsts =
    c.in_ok-among.ensures.size
    ∙ ap (λ (x : Automaton). x.states) (c.joined.view_is ∙ c.in_ok-joined.ensures) in
    let rows = rw c.as_slice.ensures at c.in_ok-among.ensures.among in
    IfOk-weaker c.without_needless.result (IsLeft among joined)
    (λ (x : Automaton). Preserves c.args.auto.now x × IsTight x)
    (λ x left. tightened_from c.args.auto.now rel made.numbers made.firsts joined among x c.known.ensures
    c.requires.greatest classes c.in_ok-joined.ensures size rows left) c.without_needless.ensures
