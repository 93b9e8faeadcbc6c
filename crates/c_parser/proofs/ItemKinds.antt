-- The kinds of items, by their first token.
use Rattle.std.proofs.Common.{ℕ, List, [], ◌∷◌, refl}
use Rattle.c_ast.specs.declared.items.Item.{Item}
use Rattle.c_lexer.specs.declared.token.Token.{Token}
use Rattle.c_grammar.specs.Grammar.{Rule}
use Rattle.c_grammar.specs.Signs.{sign_at}
use Rattle.c_grammar.specs.declared.signs.Sign.TheVariants as sign
use Rattle.c_grammar.specs.words.Parted.{extern_of, void_of, int_of, enum_item_of, struct_item_of}
use Rattle.c_grammar.specs.words.Sets.{among, no_sign, elses}
use Rattle.c_parser.specs.inner.Shapes.{read_item}
use Rattle.c_grammar.proofs.Carrying.{Carries, over, same_carries}
use Rattle.c_grammar.proofs.Goods.{named}
use Rattle.c_grammar.proofs.ItemForms.{same_item}
use Rattle.c_grammar.proofs.Items.{good_enum_item, good_extern_item, good_int_item, good_struct_item, good_void_item}
use Rattle.c_grammar.proofs.Parts.{good_made}
use Rattle.c_statements.proofs.Alternatives.{Alternatives, Picks, picked}
use Rattle.c_statements.proofs.Alternatives.Alternatives.{last, before}

-- the kinds, as the grammar has them one after another where they are parted
abbrev pub kinds : Alternatives Item elses
kinds =
    before (named (among (sign.Extern ∷ [])) no_sign elses (good_made good_extern_item extern_of) refl refl refl)
    (before (good_made good_void_item void_of)
    (before (good_made good_int_item int_of)
    (before (good_made good_enum_item enum_item_of) (last (good_made good_struct_item struct_item_of)))))

-- what the kind reads that the next token begins, is read as an item
pub at_kind : {A : Rule Item} {n : ℕ} {ts : List Token} → Picks (sign_at ts) A kinds
    → Carries A no_sign elses read_item.rule no_sign elses n ts
at_kind p = over (picked refl kinds refl p) (same_carries same_item)
