-- Every rule of items reads something.
use Rattle.std.proofs.Common.{ℕ, List, [], ◌∷◌, None, refl, inl, inr}
use Rattle.c_ast.specs.declared.items.ReturnType.TheVariants as return'
use Rattle.c_ast.specs.declared.operands.Name.{Name}
use Rattle.c_ast.specs.declared.statements.Data.TheVariants as data'
use Rattle.c_lexer.specs.declared.token.Token.{Token}
use Rattle.c_ast.specs.declared.statements.Declarator.{Declarator}
use Rattle.c_grammar.specs.Grammar.{Rule, Many}
use Rattle.c_grammar.specs.Items as i
use Rattle.c_grammar.specs.Syntax as s
use Rattle.c_grammar.specs.Syntax.{declarator}
use Rattle.c_grammar.specs.declared.signs.Sign.TheVariants as sign
use Rattle.c_grammar.specs.words.Faults.{Alive}
use Rattle.c_grammar.specs.words.Parted.{ending, called, data_rest, pointer_rest, rest_with, star_declarator, enum_rest}
use Rattle.c_grammar.specs.words.Parted.{struct_rest, no_block}
use Rattle.c_grammar.specs.words.Sets.{no_sign, elses}
use Rattle.c_grammar.proofs.Families.{make, and_then}
use Rattle.c_grammar.proofs.Readings.{tok, at_tok}
use Rattle.c_grammar.proofs.Tokens.{sample, real}

abbrev a_name : Name
a_name = s.name_of (sample sign.Id)

named : (y : List Token) → s.name (sample sign.Id ∷ y) y a_name
named y = make s.name_of (tok sign.Id (real sign.Id tt) y)

int_data : (y : List Token) → s.data_part (sample sign.Int ∷ y) y (data'.Int (sample sign.Int).at)
int_data y = inl (make data'.Int (at_tok sign.Int (real sign.Int tt) y))

-- int a ;
pub least_field : (n : ℕ) → Alive (λ n. i.field) no_sign n []
least_field n = record {
  more = sample sign.Int ∷ (sample sign.Id ∷ (sample sign.Semicolon ∷ []));
  tree = i.datum_fields_of (data'.Int (sample sign.Int).at, (a_name ∷ [], sample sign.Semicolon));
  reads =
      λ y h.
      inr
      (make i.datum_fields_of
      (and_then _ (int_data _)
      (and_then _ (make s.joined (and_then _ (named _) Many.none)) (tok sign.Semicolon (real sign.Semicolon tt) y))));
}

-- int a
pub least_param : (n : ℕ) → Alive (λ n. i.param) no_sign n []
least_param n = record {
  more = sample sign.Int ∷ (sample sign.Id ∷ []);
  tree = i.datum_param_of (data'.Int (sample sign.Int).at, a_name);
  reads = λ y h. inr (make i.datum_param_of (and_then _ (int_data _) (named y)));
}

no_params : (y : List Token) → i.closed_params (sample sign.Open ∷ (sample sign.Close ∷ y)) y None
no_params y = make s.middle
    (and_then _ (tok sign.Open (real sign.Open tt) _)
    (and_then _ (inr (refl, refl)) (tok sign.Close (real sign.Close tt) y)))

-- void a ( )
pub least_head : (n : ℕ) → Alive (λ n. i.head) no_sign n []
least_head n = record {
  more = sample sign.Void ∷ (sample sign.Id ∷ (sample sign.Open ∷ (sample sign.Close ∷ [])));
  tree = i.head_of (return'.Void (sample sign.Void).at, (a_name, None));
  reads = λ y h. make i.head_of
      (and_then _ (inl (make return'.Void (at_tok sign.Void (real sign.Void tt) _)))
      (and_then _ (named _) (no_params y)));
}

-- }
pub least_names : (n : ℕ) → Alive (λ n. i.more_names) no_sign n []
least_names n = record {
  more = sample sign.CloseBrace ∷ [];
  tree = ([], (None, sample sign.CloseBrace));
  reads = λ y h. and_then _ Many.none (and_then _ (inr (refl, refl)) (tok sign.CloseBrace (real sign.CloseBrace tt) y));
}

-- ;
pub least_ending : (n : ℕ) → Alive ending elses n []
least_ending n =
    record {
      more = sample sign.Semicolon ∷ [];
      tree = None;
      reads = λ y h. inl (make no_block (tok sign.Semicolon (real sign.Semicolon tt) y));
    }

-- ( ) ;
pub least_called : (n : ℕ) → Alive called elses n []
least_called n = record {
  more = sample sign.Open ∷ (sample sign.Close ∷ (sample sign.Semicolon ∷ []));
  tree = (None, None);
  reads = λ y h. and_then _ (no_params _) (inl (make no_block (tok sign.Semicolon (real sign.Semicolon tt) y)));
}

-- ;
no_declared : (A : Rule Declarator) (n : ℕ) (y : List Token)
    → rest_with A n (sample sign.Semicolon ∷ y) y (inr (None, ([], sample sign.Semicolon)))
no_declared A n y = inr
    (make inr (and_then _ (inr (refl, refl)) (and_then _ Many.none (tok sign.Semicolon (real sign.Semicolon tt) y))))

least_rest_with : (A : Rule Declarator) (n : ℕ) → Alive (rest_with A) elses n []
least_rest_with A n = record {
  more = sample sign.Semicolon ∷ [];
  tree = inr (None, ([], sample sign.Semicolon));
  reads = λ y h. no_declared A n y;
}

pub least_data_rest : (n : ℕ) → Alive data_rest elses n []
least_data_rest = least_rest_with declarator

pub least_pointer_rest : (n : ℕ) → Alive pointer_rest elses n []
least_pointer_rest = least_rest_with star_declarator

-- a ;
pub least_enum_rest : (n : ℕ) → Alive enum_rest elses n []
least_enum_rest n = record {
  more = sample sign.Id ∷ (sample sign.Semicolon ∷ []);
  tree = inr (a_name, inr (None, ([], sample sign.Semicolon)));
  reads = λ y h. inr (make inr (and_then _ (named _) (no_declared declarator n y)));
}

-- ;
pub least_struct_rest : (n : ℕ) → Alive struct_rest elses n []
least_struct_rest n = record {
  more = sample sign.Semicolon ∷ [];
  tree = inl (None, sample sign.Semicolon);
  reads = λ y h. inl (make inl (and_then _ (inr (refl, refl)) (tok sign.Semicolon (real sign.Semicolon tt) y)));
}
