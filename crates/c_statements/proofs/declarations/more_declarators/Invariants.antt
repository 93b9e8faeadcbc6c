use Rattle.std.proofs.Common.{length, ◌≤◌}
use Rattle.c_grammar.specs.words.Parted.{declarator_goes_on}
use Rattle.c_grammar.specs.words.Sets.{no_sign, commas}
use Rattle.c_statements.specs.Shapes.{read_more_declarators, read_next_declarator}
use Rattle.c_grammar.proofs.Lists.{Leads}
use Rattle.c_grammar.proofs.Repeats.{cont_many}
use Rattle.c_statements.proofs.declarations.more_declarators.Given as goal

abbrev pub invariant-declarators : goal.invariant-declarators
invariant-declarators l = record {
  shorter : length l.rest ≤ length l.left;
  leads : Leads (read_next_declarator l.starred).rule commas declarator_goes_on no_sign no_sign
      (read_more_declarators l.starred).rule (cont_many commas declarator_goes_on) no_sign no_sign l.bounds.room
      l.bounds.end l.left l.rest l.all;
}

abbrev pub decreases-declarators : goal.decreases-declarators
decreases-declarators l = length l.rest
