use Rattle.fa_text.proofs.Firsts.{not_first}
use Rattle.fa_text.proofs.laws.tables_break_none.Goals as goal

pub returns : goal.returns
returns c = λ text shapes table fault p q.
    not_first (record {
      lists = c.texts_write_one_list.ensures;
      lines = c.one_line_is_first.ensures;
      neither = c.no_line_is_in_the_way.ensures;
    }) text shapes table fault p q
