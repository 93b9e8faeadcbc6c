use Rattle.fa_text.proofs.Firsts.{one_first}
use Rattle.fa_text.proofs.laws.one_rule_is_first.Goals as goal

pub returns : goal.returns
returns c = λ text shapes one other p q.
    one_first (record {
      lists = c.texts_write_one_list.ensures;
      lines = c.one_line_is_first.ensures;
      neither = c.no_line_is_in_the_way.ensures;
    }) text shapes one other p q
