use Rattle.fa_text.proofs.Firsts.{only_table, only_first}
use Rattle.fa_text.proofs.reader.read_boxes.Goals as goal

pub returns-clause-table : goal.returns-clause-table
returns-clause-table c = λ table f.
    only_table (record {
      lists = c.texts_write_one_list.ensures;
      lines = c.one_line_is_first.ensures;
      neither = c.no_line_is_in_the_way.ensures;
    }) c.args.text.now c.args.shapes.now table c.read_table.result c.read_table.ensures.ok c.read_table.ensures.err f

pub returns-clause-first : goal.returns-clause-first
returns-clause-first c = λ fault f.
    only_first (record {
      lists = c.texts_write_one_list.ensures;
      lines = c.one_line_is_first.ensures;
      neither = c.no_line_is_in_the_way.ensures;
    }) c.args.text.now c.args.shapes.now fault c.read_table.result c.read_table.ensures.ok c.read_table.ensures.err f
