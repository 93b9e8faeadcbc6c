use Rattle.std.proofs.Common.{◌∙◌, sym, true≢false}
use Rattle.fa_part.specs.Ports.{ports_of}
use Rattle.fa_part.proofs.Sharing.{inside_decided}
use Rattle.fa_part.proofs.finding.refers_inside.Goals as goal

pub returns : goal.returns
returns c = λ ts h.
    inside_decided ts (ports_of c.args.ports.now) c.args.inner.now c.in_ok-refs.refs c.args.root c.are_apart.result
    (λ i. true≢false (sym (c.is_one_of.ensures.1 i) ∙ c.if-is_one_of.false))
    (rw c.as_slice.ensures at c.are_apart.ensures) (c.in_ok-refs.ensures ts h)
