use Rattle.std.proofs.Common.{ap, sym, ◌∙◌, true≢false}
use Rattle.fa_back.proofs.RootMarks.{has_in, in_has}
use Rattle.fa_core.specs.Ways.{has}
use Rattle.fa_order.specs.Visits.{was_placed, placed_now}
use Rattle.fa_order.proofs.walking.visit.Goals as goal

pub returns-then-has : goal.returns-then-has
returns-then-has c = was_placed (has_in c.args.root c.args.placed.now
    (ap (has c.args.root) (sym c.as_slice.ensures) ∙ sym c.if-has.ensures))

pub returns-in_ok-push_all : goal.returns-in_ok-push_all
returns-in_ok-push_all c =
    rw (c.in_ok-push_all.ensures, c.as_slice-else-has.ensures, c.in_ok-push.ensures.ok)
    (placed_now (λ i. true≢false (sym (in_has c.args.root c.args.placed.now i)
    ∙ (ap (has c.args.root) (sym c.as_slice.ensures) ∙ sym c.if-has.ensures))) c.at.ensures)
