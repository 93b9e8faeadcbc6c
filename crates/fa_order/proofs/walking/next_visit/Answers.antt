use Rattle.std.proofs.Common.{ap, ◌∙◌, inl, reverse}
use Rattle.fa_order.proofs.Weights.{reverse_last}
use Rattle.fa_order.proofs.walking.next_visit.Goals as goal

pub returns-in-Some : goal.returns-in-Some
returns-in-Some c = inl (ap reverse c.in-Some.ensures ∙ reverse_last c.pop.new.self c.in-Some.root)
