-- Every rule reads something.
use Rattle.std.proofs.Common.{ℕ, List, [], ◌∷◌, None, refl, inl, inr}
use Rattle.c_ast.specs.declared.simples.Rhs.TheVariants as rhs'
use Rattle.c_ast.specs.declared.statements.First.TheVariants as first'
use Rattle.c_lexer.specs.declared.token.Token.{Token}
use Rattle.c_grammar.specs.Grammar.{Rule, Many, ◌then◌}
use Rattle.c_grammar.specs.Syntax as syntax
use Rattle.c_grammar.specs.declared.signs.Sign.TheVariants as sign
use Rattle.c_grammar.specs.words.Faults.{Alive}
use Rattle.c_grammar.specs.words.Parted.{inside_part, sized_part, after_part}
use Rattle.c_grammar.specs.words.Sets.{Signs, no_sign}
use Rattle.c_grammar.proofs.Conditions.{least_operand}
use Rattle.c_grammar.proofs.Parts.{least_token, alive_made}
use Rattle.c_grammar.proofs.Families.{one, make, and_then}
use Rattle.c_grammar.proofs.Readings.{tok, at_tok}
use Rattle.c_grammar.proofs.Tokens.{sample, sampled, real}

pub least_name : (n : ℕ) → Alive (λ n. syntax.name) no_sign n []
least_name n = alive_made {A = one sign.Id} syntax.name_of
    (least_token sign.Id (sample sign.Id) (sampled sign.Id (real sign.Id tt)) n)

single : (y : List Token) → syntax.path (sample sign.Id ∷ y) y (syntax.path_of (syntax.name_of (sample sign.Id), []))
single y = make syntax.path_of (and_then _ (make syntax.name_of (tok sign.Id (real sign.Id tt) y)) Many.none)

pub least_path : (n : ℕ) → Alive (λ n. syntax.path) no_sign n []
least_path n =
    record {
      more = sample sign.Id ∷ [];
      tree = syntax.path_of (syntax.name_of (sample sign.Id), []);
      reads = λ y h. single y;
    }

starred : (y : List Token)
    → (syntax.at sign.Star then syntax.path) (sample sign.Star ∷ (sample sign.Id ∷ y)) y
    ((sample sign.Star).at, syntax.path_of (syntax.name_of (sample sign.Id), []))
starred y = and_then _ (at_tok sign.Star (real sign.Star tt) _) (single y)

pub least_inside : (n : ℕ) → Alive (λ n. inside_part) no_sign n []
least_inside n =
    record {
      more = sample sign.Star ∷ (sample sign.Id ∷ []);
      tree = inr ((sample sign.Star).at, syntax.path_of (syntax.name_of (sample sign.Id), []));
      reads =
          λ y h. inr (make inr (starred y));
    }

pub least_sized : (n : ℕ) → Alive (λ n. sized_part) no_sign n []
least_sized n =
    record {
      more = sample sign.Star ∷ (sample sign.Id ∷ []);
      tree = inr ((sample sign.Star).at, syntax.path_of (syntax.name_of (sample sign.Id), []));
      reads =
          λ y h. inr (make inr (starred y));
    }

pub least_size : (n : ℕ) → Alive (λ n. syntax.size) no_sign n []
least_size n = record {
  more = sample sign.Sizeof ∷ (sample sign.Star ∷ (sample sign.Id ∷ []));
  tree =
      syntax.size_bare (
        (sample sign.Sizeof).at,
        ((sample sign.Star).at, syntax.path_of (syntax.name_of (sample sign.Id), [])),
      );
  reads =
      λ y h. inr (inr (make syntax.size_bare (and_then _ (at_tok sign.Sizeof (real sign.Sizeof tt) _) (starred y))));
}

pub least_after : (n : ℕ) → Alive (λ n. after_part (syntax.arguments (syntax.argument n)) (syntax.rhs n)) no_sign n []
least_after n = record {
  more = sample sign.Open ∷ (sample sign.Close ∷ []);
  tree = inl [];
  reads =
      λ y h.
      inl
      (make inl
      (make syntax.middle
      (and_then _ (tok sign.Open (real sign.Open tt) _)
      (and_then _ (inr (refl, refl)) (tok sign.Close (real sign.Close tt) y)))));
}

pub least_rhs : (n : ℕ) → Alive syntax.rhs no_sign n []
least_rhs n = let o = least_operand n in
    record { more = o.more; tree = rhs'.Operand o.tree; reads = λ y h. inl (make rhs'.Operand (o.reads y h)) }

pub least_simple : (n : ℕ) → Alive syntax.simple no_sign n []
least_simple n = record {
  more = sample sign.Free ∷ (sample sign.Open ∷ (sample sign.Id ∷ (sample sign.Close ∷ [])));
  tree = syntax.free_of ((sample sign.Free).at, syntax.path_of (syntax.name_of (sample sign.Id), []));
  reads =
      λ y h.
      inr
      (inr
      (make syntax.free_of
      (and_then _ (at_tok sign.Free (real sign.Free tt) _)
      (make syntax.middle
      (and_then _ (tok sign.Open (real sign.Open tt) _)
      (and_then _ (single _) (tok sign.Close (real sign.Close tt) y)))))));
}

-- what may be left out
pub least_absent : {X : Type 0} {A : Rule X} {bars : Signs} (n : ℕ) → Alive (λ n. syntax.optional (A n)) bars n []
least_absent n = record { more = []; tree = None; reads = λ y h. inr (refl, refl) }

pub least_first : (n : ℕ) → Alive (λ n. syntax.first_part (syntax.declare n) (syntax.simple n)) no_sign n []
least_first n =
    record {
      more = sample sign.Semicolon ∷ [];
      tree = first'.Nothing;
      reads =
          λ y h.
          inr (make syntax.first (and_then _ (inr (refl, refl)) (tok sign.Semicolon (real sign.Semicolon tt) y)));
    }
