use Rattle.fa_opening.proofs.giving.refers_only.Goals as goal

pub returns-then-may_refer : goal.returns-then-may_refer
returns-then-may_refer c = (
  (λ t. record { there = c.may_refer.ensures.0 c.if-may_refer.true; only = c.are_refs.ensures.0 t }),
  (λ h. c.are_refs.ensures.1 h.only),
)
