use Rattle.std.proofs.Common.{true≢false, sym, ◌∙◌}
use Rattle.fa_giving.proofs.NoneGiven.{no_weight}
use Rattle.fa_giving.proofs.Sums.{none_of_each}
use Rattle.fa_giving.proofs.roots.given_each.Goals as goal

pub returns-then-not-is_one_of : goal.returns-then-not-is_one_of
returns-then-not-is_one_of c =
    none_of_each c.args.boxes.now c.args.root c.args.field
    (no_weight c.args.field c.args.boxes.now (λ i. true≢false (sym (c.is_one_of.ensures.1
    (rw (c.as_slice.ensures, c.in_ok-fields.ensures) i)) ∙ c.if-not-is_one_of.true))) c.args.autos.now c.requires.full
