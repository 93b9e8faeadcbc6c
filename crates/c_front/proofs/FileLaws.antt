-- The bytes of a file are those of one program, or break one first rule, and not both.
use Rattle.std.proofs.Common.{◌≡◌, ◌≢◌, ◌⊎◌, inl, inr, ℕ, List, sym, ◌∙◌, ap, subst, refl}
use Rattle.std.proofs.Common.{Result, Ok, Err, IfOk, IfErr}
use Rattle.fore_base.specs.declared.place.Place.{Place}
use Rattle.c_ast.specs.declared.items.Unit as whole
use Rattle.c_grammar.specs.declared.fault.SyntaxFault.{SyntaxFault}
use Rattle.c_grammar.specs.declared.fault.SyntaxFault.TheVariants as syntax'
use Rattle.c_lexer.proofs.Unique.{one_reading, same_no_token, same_unclosed, no_token_unclosed, whole_no_token}
use Rattle.c_lexer.proofs.Unique.{whole_unclosed}
use Rattle.c_lexer.specs.Places.{place_after}
use Rattle.c_lexer.specs.Refusals.{IsRefusal}
use Rattle.c_lexer.specs.Tokens.{Tokens}
use Rattle.c_lexer.specs.declared.fault.LexFault.{LexFault}
use Rattle.c_lexer.specs.declared.fault.LexFault.TheVariants as lexical
use Rattle.c_lexer.specs.declared.token.Token.{Token}
use Rattle.c_parser.proofs.ParseLemmas.{one_parse, parsed_or_fault, one_fault}
use Rattle.c_parser.specs.Parses as parses
use Rattle.c_types.specs.Program.{Program}
use Rattle.c_typing.proofs.TypingLaws as types
use Rattle.c_typing.specs.Typing.{TypedOf, IsFirstFault}
use Rattle.c_typing.specs.declared.fault.TypeFault.{TypeFault}
use Rattle.c_typing.specs.declared.fault.TypeFault.TheVariants as typing
use Rattle.c_front.specs.declared.broken.Broken.{Broken}
use Rattle.c_front.specs.declared.broken.FileFault.{FileFault}
use Rattle.c_front.specs.declared.broken.FileFault.TheVariants.{Breaks, Memory}
use Rattle.c_front.specs.Files.{IsProgramOf, BreaksFirst, no_tokens, no_tree, no_types, IsFault, lexical_fault}
use Rattle.c_front.specs.Files.{syntax_fault, type_fault}

-- want of memory is no rule
no_rule : (b : Broken) → Memory ≡ Breaks b → ⊥
no_rule b e = cc e

same_rule : (b c : Broken) → Breaks b ≡ Breaks c → b ≡ c
same_rule b c e = cc e

grammar_no_memory : (e : SyntaxFault) (b : Broken) → syntax_fault e ≡ Breaks b → e ≢ syntax'.Memory
grammar_no_memory e b is memory = no_rule b (sym (ap syntax_fault memory) ∙ is)

-- Tokens

one_list : (bytes : List ℕ) (ts us : List Token) → Tokens bytes ts → Tokens bytes us → ts ≡ us
one_list bytes ts us p q = (one_reading bytes p q).0

tokens_or_refusal : (bytes : List ℕ) (ts : List Token) (e : LexFault) (b : Broken) → Tokens bytes ts → IsRefusal bytes e
    → lexical_fault e ≡ Breaks b → ⊥
tokens_or_refusal bytes ts (lexical.L1 at) b p q is = whole_no_token (one_reading bytes p q.1).1
tokens_or_refusal bytes ts (lexical.L2 at) b p q is = whole_unclosed (one_reading bytes p q.1).1
tokens_or_refusal bytes ts lexical.Memory b p q is = no_rule b is

one_refusal : (bytes : List ℕ) (d e : LexFault) (b c : Broken) → IsRefusal bytes d → IsRefusal bytes e → lexical_fault d
    ≡ Breaks b → lexical_fault e ≡ Breaks c → d ≡ e
one_refusal bytes (lexical.L1 a) (lexical.L1 a') b c p q is js =
    ap (λ at. lexical.L1 at) (same_no_token (one_reading bytes p.1 q.1).1)
one_refusal bytes (lexical.L1 a) (lexical.L2 a') b c p q is js =
    absurd (no_token_unclosed (one_reading bytes p.1 q.1).1)
one_refusal bytes (lexical.L1 a) lexical.Memory b c p q is js = absurd (no_rule c js)
one_refusal bytes (lexical.L2 a) (lexical.L1 a') b c p q is js =
    absurd (no_token_unclosed (sym (one_reading bytes p.1 q.1).1))
one_refusal bytes (lexical.L2 a) (lexical.L2 a') b c p q is js =
    ap (λ at. lexical.L2 at) (same_unclosed (one_reading bytes p.1 q.1).1)
one_refusal bytes (lexical.L2 a) lexical.Memory b c p q is js = absurd (no_rule c js)
one_refusal bytes lexical.Memory e b c p q is js = absurd (no_rule b is)

-- Trees of one list of tokens

module _ (bytes : List ℕ) (ts us : List Token) (p : Tokens bytes ts) (q : Tokens bytes us) where
  abbrev end : Place
  end = place_after bytes

  one_tree : (u v : whole.Unit) → parses.IsParsed ts end u → parses.IsParsed us end v → u ≡ v
  one_tree u v f g = one_parse ts end u v f (subst (λ l. parses.IsParsed l end v) (sym (one_list bytes ts us p q)) g)

  tree_or_fault : (u : whole.Unit) (e : SyntaxFault) (b : Broken) → syntax_fault e ≡ Breaks b → parses.IsParsed ts end u
      → parses.IsFault us end e → ⊥
  tree_or_fault u e b is f g =
      parsed_or_fault ts end u e (grammar_no_memory e b is) f
      (subst (λ l. parses.IsFault l end e) (sym (one_list bytes ts us p q)) g)

  one_syntax : (d e : SyntaxFault) (b c : Broken) → syntax_fault d ≡ Breaks b → syntax_fault e ≡ Breaks c
      → parses.IsFault ts end d → parses.IsFault us end e → d ≡ e
  one_syntax d e b c is js f g =
      one_fault ts end d e (grammar_no_memory d b is) (grammar_no_memory e c js) f
      (subst (λ l. parses.IsFault l end e) (sym (one_list bytes ts us p q)) g)

-- Files

pub one_program : (bytes : List ℕ) (p q : Program) → IsProgramOf bytes p → IsProgramOf bytes q → p ≡ q
one_program bytes p q f g =
    types.one_program f.unit p q f.typed
    (subst (λ u. TypedOf u q) (sym (one_tree bytes f.tokens g.tokens f.lexed g.lexed f.unit g.unit f.parsed g.parsed))
    g.typed)

pub program_or_breach : (bytes : List ℕ) (p : Program) (b : Broken) → IsProgramOf bytes p → BreaksFirst bytes b → ⊥
program_or_breach bytes p b f (no_tokens e refusal is) = tokens_or_refusal bytes f.tokens e b f.lexed refusal is
program_or_breach bytes p b f (no_tree ts e lexed fault is) =
    tree_or_fault bytes f.tokens ts f.lexed lexed f.unit e b is f.parsed fault
program_or_breach bytes p b f (no_types ts u e lexed parsed fault is) =
    types.typed_or_fault f.unit p e f.typed
    (subst (λ v. IsFirstFault v e) (sym (one_tree bytes f.tokens ts f.lexed lexed f.unit u f.parsed parsed)) fault)

pub one_breach : (bytes : List ℕ) (b c : Broken) → BreaksFirst bytes b → BreaksFirst bytes c → b ≡ c
one_breach bytes b c (no_tokens d f is) (no_tokens e g js) =
    same_rule b c (sym is ∙ ap lexical_fault (one_refusal bytes d e b c f g is js) ∙ js)
one_breach bytes b c (no_tokens d f is) (no_tree ts e lexed g js) = absurd (tokens_or_refusal bytes ts d b lexed f is)
one_breach bytes b c (no_tokens d f is) (no_types ts u e lexed parsed g js) =
    absurd (tokens_or_refusal bytes ts d b lexed f is)
one_breach bytes b c (no_tree ts d lexed f is) (no_tokens e g js) = absurd (tokens_or_refusal bytes ts e c lexed g js)
one_breach bytes b c (no_tree ts d lexed f is) (no_tree us e lexed' g js) =
    same_rule b c (sym is ∙ ap syntax_fault (one_syntax bytes ts us lexed lexed' d e b c is js f g) ∙ js)
one_breach bytes b c (no_tree ts d lexed f is) (no_types us u e lexed' parsed g js) =
    absurd (tree_or_fault bytes us ts lexed' lexed u d b is parsed f)
one_breach bytes b c (no_types ts u d lexed parsed f is) (no_tokens e g js) =
    absurd (tokens_or_refusal bytes ts e c lexed g js)
one_breach bytes b c (no_types ts u d lexed parsed f is) (no_tree us e lexed' g js) =
    absurd (tree_or_fault bytes ts us lexed lexed' u e c js parsed g)
one_breach bytes b c (no_types ts u d lexed parsed f is) (no_types us v e lexed' parsed' g js) =
    same_rule b c
    (sym is
    ∙ ap type_fault
    (types.one_first_fault u d e f
    (subst (λ w. IsFirstFault w e) (sym (one_tree bytes ts us lexed lexed' u v parsed parsed')) g)) ∙ js)

-- What each of the three calls refuses is what the file breaks first.

pub from_tokens : (bytes : List ℕ) (e : LexFault) → IsRefusal bytes e → IsFault bytes (lexical_fault e)
from_tokens bytes (lexical.L1 at) h = no_tokens (lexical.L1 at) h refl
from_tokens bytes (lexical.L2 at) h = no_tokens (lexical.L2 at) h refl
from_tokens bytes lexical.Memory h = tt

pub from_grammar : (bytes : List ℕ) (ts : List Token) (e : SyntaxFault) → Tokens bytes ts
    → parses.IsFault ts (place_after bytes) e → IsFault bytes (syntax_fault e)
from_grammar bytes ts (syntax'.Refused rule at) lexed h = no_tree ts (syntax'.Refused rule at) lexed h refl
from_grammar bytes ts (syntax'.Syntax at) lexed h = no_tree ts (syntax'.Syntax at) lexed h refl
from_grammar bytes ts (syntax'.Deep at) lexed h = no_tree ts (syntax'.Deep at) lexed h refl
from_grammar bytes ts syntax'.Memory lexed h = tt

pub from_types : (bytes : List ℕ) (ts : List Token) (u : whole.Unit) (e : TypeFault) → Tokens bytes ts
    → parses.IsParsed ts (place_after bytes) u
    → (e ≡ typing.Memory) ⊎ IsFirstFault u e → IsFault bytes (type_fault e)
from_types bytes ts u (typing.Rule rule at) lexed parsed (inl memory) = absurd (cc memory)
from_types bytes ts u (typing.Rule rule at) lexed parsed (inr first) =
    no_types ts u (typing.Rule rule at) lexed parsed first refl
from_types bytes ts u (typing.Limit limit at) lexed parsed (inl memory) = absurd (cc memory)
from_types bytes ts u (typing.Limit limit at) lexed parsed (inr first) =
    no_types ts u (typing.Limit limit at) lexed parsed first refl
from_types bytes ts u typing.Memory lexed parsed h = tt

-- What holds of an answer tells it.

pub reads_all : (bytes : List ℕ) (r : Result Program FileFault) → IfOk r (IsProgramOf bytes) → IfErr r (IsFault bytes)
    → (p : Program) → IsProgramOf bytes p
    → (r ≡ Ok p) ⊎ (r ≡ Err Memory)
reads_all bytes (Ok q) ok err p is = inl (ap (λ x. Ok x) (one_program bytes q p ok is))
reads_all bytes (Err (Breaks b)) ok err p is = absurd (program_or_breach bytes p b is err)
reads_all bytes (Err Memory) ok err p is = inr refl

pub finds_all : (bytes : List ℕ) (r : Result Program FileFault) → IfOk r (IsProgramOf bytes) → IfErr r (IsFault bytes)
    → (b : Broken) → BreaksFirst bytes b
    → (r ≡ Err (Breaks b)) ⊎ (r ≡ Err Memory)
finds_all bytes (Ok q) ok err b is = absurd (program_or_breach bytes q b ok is)
finds_all bytes (Err (Breaks c)) ok err b is = inl (ap (λ x. Err (Breaks x)) (one_breach bytes c b err is))
finds_all bytes (Err Memory) ok err b is = inr refl
