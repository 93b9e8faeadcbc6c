use Rattle.std.proofs.Common.{◌≡◌, ◌++◌, drop, map}
use Rattle.fa_core.specs.declared.signature.RefMark.{RefMark}
use Rattle.fa_reach.proofs.parting.roots_of.Given as goal

abbrev pub invariant-loop-mark : goal.invariant-loop-mark
invariant-loop-mark l = l.roots ++ map (λ (m : RefMark). m.root) (drop l.mark-index l.marks)
    ≡ map (λ (m : RefMark). m.root) l.marks
