use Rattle.std.proofs.Common.{◌∙◌, sym, true≢false}
use Rattle.fa_part.proofs.WholeParts.{is_part, no_inner, no_once, no_roots}
use Rattle.fa_part.proofs.parts.part_at.Goals as goal

pub returns-then-not-are_port_roots : goal.returns-then-not-are_port_roots
returns-then-not-are_port_roots c = λ bs i out are.
    let found = rw c.forest.ensures at c.are_port_roots.ensures in
    no_roots bs c.args.forest.now.forest c.args.def.now i out c.args.ports.now are
    (λ h. true≢false (sym (found.1 h) ∙ c.if-not-are_port_roots.true))

pub returns-then-not-branch : goal.returns-then-not-branch
returns-then-not-branch c = λ bs i out are.
    no_once bs c.args.forest.now.forest c.args.def.now i out c.args.ports.now are
    (λ h. true≢false (sym (c.in_ok-are_taken_once.ensures.1 h) ∙ c.if-not-branch.true))

pub returns-in-None : goal.returns-in-None
returns-in-None c = λ bs i out are.
    no_inner bs c.args.forest.now.forest c.args.def.now i out c.args.ports.now are
    (rw c.in-None.is at c.in_ok-lone_roots.ensures)

pub returns-in_ok-made_part-in-Some : goal.returns-in_ok-made_part-in-Some
returns-in_ok-made_part-in-Some c = λ bs i out are.
    let found = rw c.forest.ensures at c.are_port_roots.ensures in
    is_part bs c.args.forest.now.forest c.args.def.now i out c.args.ports.now are c.in-Some.inner
    c.in_ok-made_part-in-Some.field-0 (found.0 c.if-not-are_port_roots.false)
    (c.in_ok-are_taken_once.ensures.0 c.if-not-branch.false) (rw c.in-Some.is at c.in_ok-lone_roots.ensures)
    c.in_ok-made_part-in-Some.ensures
