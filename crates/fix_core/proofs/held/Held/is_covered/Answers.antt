use Rattle.std.proofs.lemmas.Result.{IfOk-weaker}
use Rattle.fa_core.specs.declared.faces.Face.{Face}
use Rattle.fix_core.specs.Covered.{CoversOrNot}
use Rattle.fix_core.specs.Held.{nodes_of, IsHeld}
use Rattle.fix_core.specs.Reads.{read}
use Rattle.fix_core.specs.inner.Holding.{IsCoveredBy}
use Rattle.fix_core.proofs.Holding.{alike_kept, alike_say, memo_grows, numbers_low}
use Rattle.fix_core.proofs.held.Held.is_covered.Goals as goal

pub forests_of-requires : goal.forests_of-requires
forests_of-requires g c =
    rw (c.numbers_of-numbers.ensures, c.key_at.ensures)
    (numbers_low c.requires.held.0 c.args.self.now c.requires.held.1 c.args.location c.args.forest.now)

pub is_covered_by-requires-clause-alike : goal.is_covered_by-requires-clause-alike
is_covered_by-requires-clause-alike g c κs within =
    let are = rw (c.numbers_of-numbers.ensures, c.key_at.ensures) at c.in_ok-alike.ensures in
    rw c.as_slice.ensures
    (alike_kept c.requires.held.0 c.args.self.now c.requires.held.1 c.args.location c.args.forest.now
    c.in_ok-alike.alike are)

pub is_covered_by-requires-clause-agrees : goal.is_covered_by-requires-clause-agrees
is_covered_by-requires-clause-agrees g c κs within = c.requires.held.1.agrees

pub returns-clause-grows : goal.returns-clause-grows
returns-clause-grows g c = memo_grows c.args.self.now c.is_covered_by.new.memo c.is_covered_by.ensures.agrees

pub returns-clause-covers : goal.returns-clause-covers
returns-clause-covers g c =
    let held = c.args.self.now in
    let narrow = c.args.forest.now in
    let are = rw (c.numbers_of-numbers.ensures, c.key_at.ensures) at c.in_ok-alike.ensures in
    IfOk-weaker c.is_covered_by.result (IsCoveredBy held.pool c.in_ok-alike.alike narrow)
    (λ yes. (face : Face) → IsHeld face held
    → CoversOrNot (nodes_of face held) c.args.location (read held.pool narrow) yes)
    (λ yes says face is. alike_say face held is c.args.location narrow c.in_ok-alike.alike are yes says)
    (rw c.as_slice.ensures at c.is_covered_by.ensures.exact)
