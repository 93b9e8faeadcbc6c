-- A token of each sign, and signs that are told apart.
use Rattle.std.proofs.Common.{◌≡◌, ◌≢◌, ◌↔◌, IsTrue, ℕ, Bool, true, false, List, [], ◌∷◌, refl, sym, ap, ◌∙◌, subst}
use Rattle.std.specs.Prelude.{codes}
use Rattle.fore_base.specs.declared.place.Place.{Place}
use Rattle.c_lexer.specs.declared.token.TokKind.TheVariants as kind
use Rattle.c_lexer.specs.declared.token.Token.{Token}
use Rattle.c_grammar.specs.words.Faults.{Fails, Takes}
use Rattle.c_grammar.specs.words.Sets.{among, no_sign}
use Rattle.c_grammar.specs.Signs.{sign_of, sign_at, or_on, same_sign}
use Rattle.c_ast.specs.declared.operands.Name.{Name}
use Rattle.c_grammar.specs.words.Shapes.{IsName}
use Rattle.c_grammar.specs.Syntax.{at, at_of, name, name_of}
use Rattle.c_grammar.specs.declared.fault.SyntaxFault.{SyntaxFault}
use Rattle.c_grammar.specs.declared.fault.SyntaxFault.TheVariants.{Syntax}
use Rattle.c_grammar.specs.declared.signs.Sign.{Sign}
use Rattle.c_grammar.specs.declared.signs.Sign.TheVariants.{Id, Number, Struct, Enum, Int, Void, Extern, If, Else}
use Rattle.c_grammar.specs.declared.signs.Sign.TheVariants.{While, Do, For, Return, Break, Continue, Sizeof, Malloc}
use Rattle.c_grammar.specs.declared.signs.Sign.TheVariants.{Free, Assert, Null, True, False, Arrow, Equal, Unequal, And}
use Rattle.c_grammar.specs.declared.signs.Sign.TheVariants.{Or, OpenBrace, CloseBrace, Open, Close, Semicolon, Comma}
use Rattle.c_grammar.specs.declared.signs.Sign.TheVariants.{Star, Assign, Not, Other, End}
use Rattle.c_grammar.proofs.Families.{one}
use Rattle.c_grammar.proofs.Decide.{holds}
use Rattle.c_grammar.proofs.Goods.{good_one}
use Rattle.c_grammar.proofs.Parts.{fails_first, fails_made, least_token, takes_token, takes_made}
use Rattle.c_grammar.specs.Hopeless.{place_at}
use Rattle.c_grammar.proofs.SignLemmas.{clash, told_apart}

abbrev start : Place
start = record { offset = 0; line = 1; column = 1 }

abbrev word : List ℕ → Token
word text = record { kind = kind.Word; text = text; at = start }

abbrev mark : List ℕ → Token
mark text = record { kind = kind.Mark; text = text; at = start }

abbrev pub sample : Sign → Token
sample Id = word (codes "a")
sample Number = record { kind = kind.Number; text = codes "1"; at = start }
sample Struct = word (codes "struct")
sample Enum = word (codes "enum")
sample Int = word (codes "int")
sample Void = word (codes "void")
sample Extern = word (codes "extern")
sample If = word (codes "if")
sample Else = word (codes "else")
sample While = word (codes "while")
sample Do = word (codes "do")
sample For = word (codes "for")
sample Return = word (codes "return")
sample Break = word (codes "break")
sample Continue = word (codes "continue")
sample Sizeof = word (codes "sizeof")
sample Malloc = word (codes "malloc")
sample Free = word (codes "free")
sample Assert = word (codes "assert")
sample Null = word (codes "NULL")
sample True = word (codes "true")
sample False = word (codes "false")
sample Arrow = mark (codes "->")
sample Equal = mark (codes "==")
sample Unequal = mark (codes "!=")
sample And = mark (codes "&&")
sample Or = mark (codes "||")
sample OpenBrace = mark (codes "{")
sample CloseBrace = mark (codes "}")
sample Open = mark (codes "(")
sample Close = mark (codes ")")
sample Semicolon = mark (codes ";")
sample Comma = mark (codes ",")
sample Star = mark (codes "*")
sample Assign = mark (codes "=")
sample Not = mark (codes "!")
sample Other = record { kind = kind.Hash; text = codes "#"; at = start }
sample End = record { kind = kind.Hash; text = codes "#"; at = start }

pub sampled : (s : Sign) → s ≢ End → sign_of (sample s) ≡ s
unfolding sign_of
sampled Id h = refl
sampled Number h = refl
sampled Struct h = refl
sampled Enum h = refl
sampled Int h = refl
sampled Void h = refl
sampled Extern h = refl
sampled If h = refl
sampled Else h = refl
sampled While h = refl
sampled Do h = refl
sampled For h = refl
sampled Return h = refl
sampled Break h = refl
sampled Continue h = refl
sampled Sizeof h = refl
sampled Malloc h = refl
sampled Free h = refl
sampled Assert h = refl
sampled Null h = refl
sampled True h = refl
sampled False h = refl
sampled Arrow h = refl
sampled Equal h = refl
sampled Unequal h = refl
sampled And h = refl
sampled Or h = refl
sampled OpenBrace h = refl
sampled CloseBrace h = refl
sampled Open h = refl
sampled Close h = refl
sampled Semicolon h = refl
sampled Comma h = refl
sampled Star h = refl
sampled Assign h = refl
sampled Not h = refl
sampled Other h = refl
sampled End h = absurd (h refl)

-- no token of the sign is there
pub fails_one : (s : Sign) → s ≢ End → (n : ℕ) (end : Place) (ts : List Token) (e : SyntaxFault)
    → e ≡ Syntax (place_at end ts) → sign_at ts ≢ s → Fails (one s) no_sign no_sign no_sign n end ts e
fails_one s real n end ts e is other = subst (λ e. Fails (one s) no_sign no_sign no_sign n end ts e) (sym is)
    (fails_first (good_one s) n end ts (least_token s (sample s) (sampled s real) n)
    (ap (λ b. or_on b false) (told_apart s (sign_at ts) other)))

pub takes_at : (s : Sign) (n : ℕ) (ts rest : List Token) (t : Token) → ts ≡ t ∷ rest → sign_of t ≡ s
    → Takes (λ n. at s) no_sign no_sign n ts rest t.at
takes_at s n ts rest t is sign = takes_made at_of (takes_token s n ts rest t is sign)

-- the next token has this sign, or another one, as the one that takes it tells
pub fails_token : (s : Sign) → s ≢ End → {n : ℕ} {end : Place} {ts : List Token} {e : SyntaxFault}
    → (e ≡ Syntax (place_at end ts)) × (sign_at ts ≢ s) → Fails (one s) no_sign no_sign no_sign n end ts e
fails_token s real {n = n} {end = end} {ts = ts} {e = e} h = fails_one s real n end ts e h.0 h.1

pub fails_at : (s : Sign) → s ≢ End → {n : ℕ} {end : Place} {ts : List Token} {e : SyntaxFault}
    → (e ≡ Syntax (place_at end ts)) × (sign_at ts ≢ s) → Fails (λ n. at s) no_sign no_sign no_sign n end ts e
fails_at s real h = fails_made at_of _ (fails_token s real h)

pub reads_token : (s : Sign) → {n : ℕ} {ts rest : List Token} {t : Token} → (ts ≡ t ∷ rest) × (sign_of t ≡ s)
    → Takes (one s) no_sign no_sign n ts rest t
reads_token s {n = n} {ts = ts} {rest = rest} {t = t} h = takes_token s n ts rest t h.0 h.1

pub reads_at : (s : Sign) → {n : ℕ} {ts rest : List Token} {t : Token} → (ts ≡ t ∷ rest) × (sign_of t ≡ s)
    → Takes (λ n. at s) no_sign no_sign n ts rest t.at
reads_at s h = takes_made at_of (reads_token s h)

-- no sign of a token is the end's
abbrev Differs : Sign → Type 0
Differs End = ⊥
Differs s = Unit {0}

pub real : (s : Sign) → Differs s → s ≢ End
real s d e = subst Differs e d

pub id_real : Id ≢ End
id_real = real Id tt

pub among_one : (b : Bool) (s t : Sign) → IsTrue b ↔ (t ≡ s) → b ≡ among (s ∷ []) t
among_one true s t h = sym
    (ap (λ x. among (s ∷ []) x) (h.0 refl) ∙ ap (λ b. or_on b false) (holds (λ s. same_sign s s) refl s))
among_one false s t h = sym (ap (λ b. or_on b false) (told_apart s t (λ e. clash (sym (h.1 e)))))

pub takes_name : (n : ℕ) (ts rest : List Token) (x : Name) → IsName ts rest x
    → Takes (λ n. name) no_sign no_sign n ts rest x
takes_name n ts rest x (t, is, sign, same) =
    subst (λ x. Takes (λ n. name) no_sign no_sign n ts rest x) (sym same)
    (takes_made name_of (takes_token Id n ts rest t is sign))
