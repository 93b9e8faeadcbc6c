use Rattle.fa_filling.proofs.Partition.{leaf_of, parts_of}
use Rattle.fa_filling.proofs.parts.parts.Goals as goal

pub returns-in-None : goal.returns-in-None
returns-in-None c =
    let l = rw (c.in-None.is, c.as_slice.ensures) at c.in_ok-structs_of.ensures in
    leaf_of c.args.auto.now c.in_ok-tops.tops c.in_ok-tops.ensures l

pub parts_for-requires : goal.parts_for-requires
parts_for-requires c = λ r i. (c.in_ok-tops.ensures.only r (rw c.as_slice-in-Some.ensures at i)).0

pub returns : goal.returns
returns c =
    let g = rw (c.in-Some.is, c.as_slice.ensures) at c.in_ok-structs_of.ensures in
    let w = rw (c.as_slice-in-Some.ensures, c.as_slice-in-Some-2.ensures) at c.in_ok-parts-in-Some.ensures in
    parts_of c.args.auto.now c.in_ok-tops.tops c.in_ok-tops.ensures c.in-Some.structs c.in_ok-parts-in-Some.parts g w
