use Rattle.std.proofs.Common.{length, ◌<◌}
use Rattle.c_grammar.specs.words.Sets.{no_sign, commas}
use Rattle.c_parser.specs.inner.Shapes.{read_names, read_next_name}
use Rattle.c_grammar.proofs.Lists.{Leads}
use Rattle.c_parser.proofs.fields.names.Given as goal

abbrev pub invariant-names : goal.invariant-names
invariant-names l = record {
  shorter : length l.rest < length l.left;
  leads : Leads (read_next_name l.starred).rule commas no_sign no_sign no_sign (read_names l.starred).rule commas
      no_sign no_sign l.bounds.room l.bounds.end l.left l.rest l.all;
}

abbrev pub decreases-names : goal.decreases-names
decreases-names l = length l.rest
