use Rattle.std.proofs.Common.{List, ◌+◌, ◌∷◌, ◌++◌, take, drop, refl, sym, ap, ◌∙◌}
use Rattle.std.proofs.lemmas.List.{drop_more, take-append-drop}
use Rattle.c_lexer.specs.declared.token.Token.{Token}
use Rattle.c_refused.proofs.refused.first_refused.Goals as goal

pub returns-in-Some : goal.returns-in-Some
returns-in-Some c =
    let i = c.loop-token.token-index in
    let ts = c.args.tokens.now in
    record {
      before = take i ts;
      token = c.token-item.result;
      after = drop (i + 1) ts;
      are = sym (take-append-drop i ts)
          ∙ ap (λ (rest : List Token). take i ts ++ rest) (drop_more ts i c.token-item.result c.loop-token-test.true)
          ∙ ap (λ (t : Token). take i ts ++ t ∷ drop (i + 1) ts) (sym c.token-item.is);
      none = c.loop-token.invariant;
      rule = sym c.rule_of.ensures ∙ c.in-Some.is;
      at = refl;
    }
