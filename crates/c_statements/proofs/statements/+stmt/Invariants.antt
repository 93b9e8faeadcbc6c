use Rattle.std.proofs.Common.{length, ◌≤◌, ◌+◌, ◌*◌}
use Rattle.c_grammar.specs.words.Parted.{begins_part, begins_level}
use Rattle.c_grammar.specs.words.Sets.{no_sign, elses}
use Rattle.c_statements.specs.Shapes.{read_part, read_parts}
use Rattle.c_grammar.proofs.Lists.{Leads}
use Rattle.c_grammar.proofs.Repeats.{cont_many}
use Rattle.c_statements.proofs.statements.«+stmt».Given as goal

abbrev pub invariant-parts-parts : goal.invariant-parts-parts
invariant-parts-parts l =
    record {
      shorter : length l.rest ≤ length l.left;
      leads : Leads read_part.rule begins_part no_sign elses begins_level read_parts.rule
          (cont_many begins_part no_sign)
          elses begins_level l.bounds.room l.bounds.end l.left l.rest l.all;
    }

abbrev pub decreases-parts-parts : goal.decreases-parts-parts
decreases-parts-parts l = length l.rest

abbrev pub decreases-nested : goal.decreases-nested
decreases-nested l = 16 * l.bounds.now.room + 15

abbrev pub decreases-block_stmt : goal.decreases-block_stmt
decreases-block_stmt l = 16 * l.bounds.now.room + 14

abbrev pub decreases-if_stmt : goal.decreases-if_stmt
decreases-if_stmt l = 16 * l.bounds.now.room + 14

abbrev pub decreases-while_stmt : goal.decreases-while_stmt
decreases-while_stmt l = 16 * l.bounds.now.room + 14

abbrev pub decreases-do_stmt : goal.decreases-do_stmt
decreases-do_stmt l = 16 * l.bounds.now.room + 14

abbrev pub decreases-for_stmt : goal.decreases-for_stmt
decreases-for_stmt l = 16 * l.bounds.now.room + 14

abbrev pub decreases-block : goal.decreases-block
decreases-block l = 16 * l.bounds.now.room + 13

abbrev pub decreases-parts : goal.decreases-parts
decreases-parts l = 16 * l.bounds.now.room + 12

abbrev pub decreases-other : goal.decreases-other
decreases-other l = 16 * l.bounds.now.room + 12

abbrev pub decreases-part : goal.decreases-part
decreases-part l = 16 * l.bounds.now.room + 11

abbrev pub decreases-stmt : goal.decreases-stmt
decreases-stmt l = 16 * l.bounds.now.room + 9
