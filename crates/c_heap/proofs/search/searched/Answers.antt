use Rattle.std.proofs.Common.{rules, ◌∙◌}
use Rattle.std.proofs.lemmas.List.Sorted.{answers_always}
use Rattle.c_heap.proofs.Searching.{searched_cells}
use Rattle.c_heap.proofs.search.searched.Goals as goal

pub returns-clause-position : goal.returns-clause-position
returns-clause-position c =
    c.ok.ensures.value
    ∙ searched_cells c.args.cells.now c.args.number c.binary_search_by_key.result c.requires
    c.binary_search_by_key.ensures.bound
    (c.binary_search_by_key.ensures.position (λ cell. cell.number) (answers_always _ _ _ (λ f a r g h. search rules)))
