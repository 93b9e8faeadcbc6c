use Rattle.std.proofs.Common.{◌∙◌, ap, ◌∷◌, []}
use Rattle.c_grammar.specs.words.Sets.{among}
use Rattle.c_grammar.proofs.Tokens.{among_one}
use Rattle.c_reader.proofs.reader.is_next.Goals as goal

pub returns : goal.returns
returns c = among_one c.same.result c.args.sign c.peek.result c.same.ensures
    ∙ ap (λ s. among (c.args.sign ∷ []) s) c.peek.ensures
