use Rattle.std.proofs.Common.{length, ◌∷◌, [], ◌<◌}
use Rattle.c_grammar.specs.declared.signs.Sign.TheVariants as sign
use Rattle.c_grammar.specs.words.Sets.{among, no_sign, commas}
use Rattle.c_parser.specs.inner.Shapes.{read_all_params, read_next_param}
use Rattle.c_grammar.proofs.Lists.{Leads}
use Rattle.c_parser.proofs.heads.all_params.Given as goal

abbrev pub invariant-params : goal.invariant-params
invariant-params l = record {
  shorter : length l.rest < length l.left;
  leads : Leads read_next_param.rule (among (sign.Comma ∷ [])) no_sign no_sign no_sign read_all_params.rule commas
      no_sign no_sign l.bounds.room l.bounds.end l.left l.rest l.all;
}

abbrev pub decreases-params : goal.decreases-params
decreases-params l = length l.rest
