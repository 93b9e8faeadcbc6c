use Rattle.std.proofs.Common.{[], ◌∷◌, ◌++◌, ◌+◌, map, drop, sym, ap, ◌∙◌}
use Rattle.std.proofs.lemmas.List.{append_assoc}
use Rattle.fore_base.proofs.ListLemmas.{drop_item}
use Rattle.fa_signatures.specs.inner.CutProducts.{longer}
use Rattle.fa_signatures.proofs.products.longer.Goals as goal

pub loop-list-preserved : goal.loop-list-preserved
loop-list-preserved g c =
    let xs = c.args.items.now in
    let d = drop_item c.args.lists.now c.loop-list.list-index c.list-item.result c.loop-list-test.true c.list-item.is in
    let rest = longer (drop (c.loop-list.list-index + 1) c.args.lists.now) xs in
    rw (c.in_ok-append.ensures.ok, c.in_ok-more.ensures)
    (append_assoc c.loop-list.made (map (λ x. c.list-item.result ++ x ∷ []) xs) rest
    ∙ ap (λ v. c.loop-list.made ++ longer v xs) (sym d) ∙ c.loop-list.invariant)
