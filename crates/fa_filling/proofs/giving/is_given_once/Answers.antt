use Rattle.fa_filling.proofs.giving.is_given_once.Goals as goal

pub returns : goal.returns
returns c =
    rw (
      c.as_slice-3.ensures,
      c.as_slice-4.ensures,
      c.in_ok-fields.ensures,
      c.in_ok-append.ensures.ok,
      c.in_ok-from_slice.ensures,
      c.in_ok-given.ensures,
      c.as_slice-2.ensures,
      c.as_slice.ensures,
    ) at c.are_rearranged.ensures
