use Rattle.std.proofs.Common.{sym, true≢false}
use Rattle.fa_lift.proofs.lifting.can_lift.Goals as goal

pub returns-in-None : goal.returns-in-None
returns-in-None c =
    let none = rw c.in-None.is at c.in_ok-_from.ensures in
    ((λ t. absurd (true≢false (sym t))), (λ h. absurd (none h.0 h.1)))
