-- The names of an enumeration, one by one.
use Rattle.std.proofs.Common.{◌≡◌, ℕ, List, [], ◌∷◌, ◌++◌, Option, Some, None, subst}
use Rattle.fore_base.specs.declared.place.Place.{Place}
use Rattle.c_ast.specs.declared.operands.Name.{Name}
use Rattle.c_lexer.specs.declared.token.Token.{Token}
use Rattle.c_grammar.specs.Grammar.{Made}
use Rattle.c_grammar.specs.Items.{more_names}
use Rattle.c_grammar.specs.Syntax.{first}
use Rattle.c_grammar.specs.words.Faults.{Takes}
use Rattle.c_grammar.specs.words.Sets.{no_sign}
use Rattle.c_grammar.proofs.Enumerators.{Walks, walks_more, names_ends}
use Rattle.c_parser.specs.inner.Values.{ValueStep}

module _ (n : ℕ) (end : Place) (ts mid after : List Token) (xs : List Name) (w : Walks n end ts mid xs) where
  on : (x : Name) → ValueStep n mid after (Some x) → Walks n end ts after (xs ++ x ∷ [])
  on x s = walks_more n end ts mid after xs s.0 s.1 x w s.2 s.3 s.4 s.5

  pub walk_on : (o : Option Name) → ValueStep n mid after o → (x : Name) → o ≡ Some x
      → Walks n end ts after (xs ++ x ∷ [])
  walk_on o s x e = on x (subst (λ o. ValueStep n mid after o) e s)

  over : ValueStep n mid after None → Takes (λ n. Made first more_names) no_sign no_sign n ts after xs
  over s = names_ends n end ts mid xs w after s.0 s.1 s.2

  pub walk_end : (o : Option Name) → ValueStep n mid after o → o ≡ None
      → Takes (λ n. Made first more_names) no_sign no_sign n ts after xs
  walk_end o s e = over (subst (λ o. ValueStep n mid after o) e s)
