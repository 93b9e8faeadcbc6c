use Rattle.std.proofs.Common.{length}
use Rattle.c_grammar.specs.words.Parted.{begins_item}
use Rattle.c_grammar.specs.words.Sets.{no_sign, elses}
use Rattle.c_parser.specs.inner.Shapes.{read_all_items, read_item}
use Rattle.c_grammar.proofs.Lists.{Leads}
use Rattle.c_grammar.proofs.Repeats.{cont_many}
use Rattle.c_parser.proofs.items.all_items.Given as goal

abbrev pub invariant-items : goal.invariant-items
invariant-items l = Leads read_item.rule begins_item no_sign elses no_sign read_all_items.rule
    (cont_many begins_item no_sign) elses no_sign l.bounds.room l.bounds.end l.left l.rest l.all

abbrev pub decreases-items : goal.decreases-items
decreases-items l = length l.rest
