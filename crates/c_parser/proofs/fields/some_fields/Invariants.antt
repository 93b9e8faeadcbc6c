use Rattle.std.proofs.Common.{length, ◌<◌}
use Rattle.c_grammar.specs.words.Sets.{no_sign, begins_declare}
use Rattle.c_parser.specs.inner.Shapes.{read_field, read_some_fields}
use Rattle.c_grammar.proofs.Lists.{Leads}
use Rattle.c_parser.proofs.fields.some_fields.Given as goal

abbrev pub invariant-fields : goal.invariant-fields
invariant-fields l = record {
  shorter : length l.rest < length l.left;
  leads : Leads read_field.rule begins_declare no_sign no_sign no_sign read_some_fields.rule begins_declare no_sign
      no_sign l.bounds.room l.bounds.end l.left l.rest l.all;
}

abbrev pub decreases-fields : goal.decreases-fields
decreases-fields l = length l.rest
