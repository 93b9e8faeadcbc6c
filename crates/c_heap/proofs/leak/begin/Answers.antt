use Rattle.std.proofs.Common.{rules, ◌≡◌, false, replicate, length, sym, ap, ◌∙◌, arith}
use Rattle.std.proofs.lemmas.List.{length-replicate}
use Rattle.fore_base.specs.Marks.{marked_count}
use Rattle.fore_base.proofs.MarkLemmas.{count_none}
use Rattle.c_heap.proofs.leak.begin.Goals as goal

pub returns-clause-counted : goal.returns-clause-counted
returns-clause-counted c =
    let n = c.args.count in
    let is : c.resize.new.self.items ≡ replicate n false = search (rules, c.in-Ok.ensures.items) in
    let none : length c.clear.new.self.items ≡ 0 = ap length c.clear.ensures.items in
    let long : length c.resize.new.self.items ≡ n = ap length is ∙ length-replicate n false in
    (none ∙ sym (count_none n) ∙ sym (ap marked_count is), omega (arith, long, c.clear.ensures.capacity, c.requires.1))
