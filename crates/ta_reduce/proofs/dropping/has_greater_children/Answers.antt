use Rattle.ta_reduce.proofs.dropping.has_greater_children.Goals as goal

pub returns : goal.returns
returns c = rw (← c.relation.view_is)
    (rw (c.as_slice.ensures, c.as_slice-2.ensures, c.as_slice-3.ensures) at c.are_related.ensures)
