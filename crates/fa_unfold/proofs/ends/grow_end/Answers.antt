use Rattle.std.proofs.Common.{refl}
use Rattle.fa_unfold.proofs.ends.grow_end.Goals as goal

pub end_rules-requires-clause-root : goal.end_rules-requires-clause-root
end_rules-requires-clause-root c = c.requires.root

pub end_rules-requires-clause-top : goal.end_rules-requires-clause-top
end_rules-requires-clause-top c = c.requires.top

pub grown_roots-requires-clause-root : goal.grown_roots-requires-clause-root
grown_roots-requires-clause-root c = c.requires.end c.args.end refl

pub grown_roots-requires-clause-ranked : goal.grown_roots-requires-clause-ranked
grown_roots-requires-clause-ranked c =
    rw (c.as_slice.ensures, c.in_ok-own.ensures) (c.requires.ranked c.args.end refl)
