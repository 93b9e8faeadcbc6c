-- Worked rows of the grammar: small texts with their trees, made by hand from the rules, and texts that are none.
use Rattle.std.proofs.Common.{◌≡◌, ℕ, zero, suc, true, false, List, [], ◌∷◌, Option, Some, None, refl, sym, ap, ◌∙◌}
use Rattle.std.proofs.Common.{inl, inr}
use Rattle.fore_base.specs.declared.place.Place.{Place}
use Rattle.c_ast.specs.declared.conditions.Cond.{Cond}
use Rattle.c_ast.specs.declared.conditions.Test.TheVariants as test
use Rattle.c_ast.specs.declared.conditions.Unary.TheVariants as unary'
use Rattle.c_ast.specs.declared.items.Item.TheVariants as item'
use Rattle.c_ast.specs.declared.items.Params.TheVariants as params'
use Rattle.c_ast.specs.declared.items.ReturnType.TheVariants as return'
use Rattle.c_ast.specs.declared.operands.Name.{Name}
use Rattle.c_ast.specs.declared.operands.Operand.TheVariants as operand'
use Rattle.c_ast.specs.declared.operands.Path.{Path}
use Rattle.c_ast.specs.declared.simples.Cast.{Cast}
use Rattle.c_ast.specs.declared.simples.Rhs.{Rhs}
use Rattle.c_ast.specs.declared.simples.Rhs.TheVariants as rhs'
use Rattle.c_ast.specs.declared.simples.Size.TheVariants as size'
use Rattle.c_ast.specs.declared.statements.Block.{Block}
use Rattle.c_ast.specs.declared.statements.Data.TheVariants as data'
use Rattle.c_ast.specs.declared.statements.First.TheVariants as first'
use Rattle.c_ast.specs.declared.statements.Stmt.{Stmt}
use Rattle.c_ast.specs.declared.statements.Stmt.TheVariants as stmt'
use Rattle.c_lexer.specs.declared.token.Token.{Token}
use Rattle.c_grammar.specs.Grammar.{◌then◌}
use Rattle.c_grammar.specs.Grammar.Many.{none, more}
use Rattle.c_grammar.specs.Hopeless.{opener}
use Rattle.c_grammar.specs.Items as i
use Rattle.c_grammar.specs.Items.{item}
use Rattle.c_grammar.specs.Signs.{sign_of, sign_at}
use Rattle.c_grammar.specs.Syntax as s
use Rattle.c_grammar.specs.Syntax.{at, name, name_of, path, bracketed, middle, second, joined, operand, cond, rhs, stmt}
use Rattle.c_grammar.specs.declared.signs.Sign.TheVariants as sign
use Rattle.c_grammar.specs.words.Sets.{among, begins_operand}
use Rattle.c_grammar.proofs.Goods.{good_operand}
use Rattle.c_grammar.proofs.Families.{make, and_then}
use Rattle.c_grammar.proofs.Readings.{tok, at_tok}
use Rattle.c_grammar.proofs.SignLemmas.{clash}
use Rattle.c_grammar.proofs.Statements.{good_cast}
use Rattle.c_grammar.proofs.Tokens.{sample, sampled, real}

-- the name a
abbrev a_name : Name
a_name = name_of (sample sign.Id)

abbrev a_path : Path
a_path = s.path_of (a_name, [])

named : (y : List Token) → name (sample sign.Id ∷ y) y a_name
named y = make name_of (tok sign.Id (real sign.Id tt) y)

single : (y : List Token) → path (sample sign.Id ∷ y) y a_path
single y = make s.path_of (and_then _ (named y) none)

inner_path : (n : ℕ) (y : List Token) → operand n (sample sign.Id ∷ y) y (operand'.Path a_path)
inner_path n y = inl (make operand'.Path (single y))

-- a -> a
abbrev two_names : List Token → List Token
two_names y = sample sign.Id ∷ (sample sign.Arrow ∷ (sample sign.Id ∷ y))

pub path_row : (y : List Token)
    → path (two_names y) y (s.path_of (a_name, s.arrow_of ((sample sign.Arrow).at, a_name) ∷ []))
path_row y = make s.path_of
    (and_then _ (named _)
    (more (make s.arrow_of (and_then _ (at_tok sign.Arrow (real sign.Arrow tt) _) (named y))) none))

-- sizeof ( struct a ), sizeof ( * a ), sizeof * a
pub size_struct_row : (y : List Token)
    → s.size (sample sign.Sizeof
    ∷ (sample sign.Open ∷ (sample sign.Struct ∷ (sample sign.Id ∷ (sample sign.Close ∷ y))))) y
    (size'.Struct (sample sign.Sizeof).at a_name)
size_struct_row y =
    inl
    (make s.size_struct
    (and_then _ (at_tok sign.Sizeof (real sign.Sizeof tt) _)
    (make middle (and_then _ (tok sign.Open (real sign.Open tt) _)
    (and_then _ (make second (and_then _ (tok sign.Struct (real sign.Struct tt) _) (named _)))
    (tok sign.Close (real sign.Close tt) y))))))

pub size_bracketed_row : (y : List Token)
    → s.size (sample sign.Sizeof ∷ (sample sign.Open ∷ (sample sign.Star ∷ (sample sign.Id ∷ (sample sign.Close ∷ y)))))
    y
    (size'.Bracketed (sample sign.Sizeof).at (sample sign.Star).at a_path)
size_bracketed_row y = inr
    (inl
    (make s.size_bracketed
    (and_then _ (at_tok sign.Sizeof (real sign.Sizeof tt) _)
    (make middle (and_then _ (tok sign.Open (real sign.Open tt) _)
    (and_then _ (and_then _ (at_tok sign.Star (real sign.Star tt) _) (single _))
    (tok sign.Close (real sign.Close tt) y)))))))

pub size_bare_row : (y : List Token)
    → s.size (sample sign.Sizeof ∷ (sample sign.Star ∷ (sample sign.Id ∷ y))) y
    (size'.Bare (sample sign.Sizeof).at (sample sign.Star).at a_path)
size_bare_row y =
    inr
    (inr
    (make s.size_bare
    (and_then _ (at_tok sign.Sizeof (real sign.Sizeof tt) _)
    (and_then _ (at_tok sign.Star (real sign.Star tt) _) (single y)))))

-- ( struct a * )
abbrev a_cast : List Token → List Token
a_cast y = sample sign.Open ∷ (sample sign.Struct ∷ (sample sign.Id ∷ (sample sign.Star ∷ (sample sign.Close ∷ y))))

cast_row : (y : List Token) → s.cast (a_cast y) y (record { at = (sample sign.Open).at; name = a_name })
cast_row y = make s.cast_of
    (and_then _ (at_tok sign.Open (real sign.Open tt) _)
    (and_then _ (tok sign.Struct (real sign.Struct tt) _) (and_then _ (named _)
    (and_then _ (tok sign.Star (real sign.Star tt) _) (tok sign.Close (real sign.Close tt) y)))))

-- ( struct a * ) malloc ( sizeof * a )
pub malloc_row : (n : ℕ) (y : List Token) →
    rhs n
    (a_cast (sample sign.Malloc
    ∷ (sample sign.Open ∷ (sample sign.Sizeof ∷ (sample sign.Star ∷ (sample sign.Id ∷ (sample sign.Close ∷ y)))))))
    y
    (rhs'.Malloc (Some (record { at = (sample sign.Open).at; name = a_name })) (sample sign.Malloc).at
    (size'.Bare (sample sign.Sizeof).at (sample sign.Star).at a_path))
malloc_row n y =
    inr
    (make s.malloc_of
    (and_then _ (inl (make Some (cast_row _))) (and_then _ (at_tok sign.Malloc (real sign.Malloc tt) _)
    (make middle
    (and_then _ (tok sign.Open (real sign.Open tt) _)
    (and_then _ (size_bare_row _) (tok sign.Close (real sign.Close tt) y)))))))

-- ( struct a * ) NULL is no right side: a cast stands before malloc alone
pub cast_alone_row : (n : ℕ) (x : Rhs) → rhs n (a_cast (sample sign.Null ∷ [])) [] x → ⊥
cast_alone_row n x (inl r) = elim (good_operand.starts n (a_cast (sample sign.Null ∷ [])) [] r.part r.read)
    [ inl f ↦ clash (sym f ∙ begins) | inr e ↦ clash (sym e.0) ]
  where
    begins : begins_operand (sign_at (a_cast (sample sign.Null ∷ []))) ≡ false
    begins = ap begins_operand (sampled sign.Open (real sign.Open tt))
cast_alone_row n x (inr r) = first r.part.0 r.read.front r.read.back
  where
    one : (p : Place) (m k : List Token) → at sign.Malloc m k p → sign_at m ≡ sign.Malloc
    one p m k q = ap sign_at q.read.0 ∙ q.read.1

    first : (c : Option Cast) → s.optional s.cast (a_cast (sample sign.Null ∷ [])) r.read.mid c
        → (at sign.Malloc then bracketed s.size) r.read.mid [] r.part.1 → ⊥
    first c (inl q) m = let e = (good_cast.det n n _ _ _ _ _ (cast_row (sample sign.Null ∷ [])) q.read refl refl).0 in
        differ (sym (sampled sign.Null (real sign.Null tt)) ∙ ap sign_at e ∙ one _ _ _ m.front)
      where
        differ : sign.Null ≡ sign.Malloc → ⊥
        differ h = clash (ap (among (sign.Null ∷ [])) h)
    first c (inr q) m = differ (sym (sampled sign.Open (real sign.Open tt)) ∙ ap sign_at q.0 ∙ one _ _ _ m.front)
      where
        differ : sign.Open ≡ sign.Malloc → ⊥
        differ h = clash (ap (among (sign.Open ∷ [])) h)

-- a == NULL && ! a || ( a )
pub cond_row : (y : List Token) → sign_at y ≡ sign.Close
    → cond 1
    (sample sign.Id
    ∷ (sample sign.Equal ∷ (sample sign.Null ∷ (sample sign.And ∷ (sample sign.Not ∷ (sample sign.Id ∷ (sample sign.Or ∷
    (sample sign.Open ∷ (sample sign.Id ∷ (sample sign.Close ∷ y)))))))))) y
    (s.cond_of (s.and_of (test.Compare (operand'.Path a_path) true (operand'.Null (sample sign.Null).at)
    ∷ (test.Unary (unary'.Not (sample sign.Not).at (unary'.Operand (operand'.Path a_path))) ∷ []))
    ∷ (s.and_of (test.Unary (unary'.Bracket (sample sign.Open).at
    (s.cond_of (s.and_of (test.Unary (unary'.Operand (operand'.Path a_path)) ∷ []) ∷ []))) ∷ []) ∷ [])))
cond_row y h = make s.cond_of (make joined (and_then _
    (make s.and_of
    (make joined
    (and_then _
    (inl
    (make s.compare_of
    (and_then _ (inner_path 1 _) (and_then _ (inl (make s.yes_of (tok sign.Equal (real sign.Equal tt) _))) null))))
    (more
    (make second
    (and_then _ (tok sign.And (real sign.And tt) _)
    (inr
    (make test.Unary
    (inl
    (inl
    (make s.not_of
    (and_then _ (at_tok sign.Not (real sign.Not tt) _) (inr (make unary'.Operand (inner_path 0 _))))))))))) none))))
    (more
    (make second
    (and_then _ (tok sign.Or (real sign.Or tt) _)
    (make s.and_of
    (make joined
    (and_then _
    (inr (make test.Unary (inl (inr (make s.bracket_of (and_then _ (at_tok sign.Open (real sign.Open tt) _)
    (and_then _
    (make s.cond_of
    (make joined
    (and_then _
    (make s.and_of
    (make joined (and_then _ (inr (make test.Unary (inr (make unary'.Operand (inner_path 0 _))))) none))) none)))
    (tok sign.Close (real sign.Close tt) y)))))))) none))))) none)))
  where
    null : {z : List Token} → operand 1 (sample sign.Null ∷ z) z (operand'.Null (sample sign.Null).at)
    null {z} = inr (inr (inr (inl (make operand'.Null (at_tok sign.Null (real sign.Null tt) z)))))

-- for ( ; ; ) ; is a level
empty_stmt : (n : ℕ) (y : List Token) → stmt n (sample sign.Semicolon ∷ y) y (stmt'.Empty (sample sign.Semicolon).at)
empty_stmt zero y = inr (inl (make stmt'.Empty (at_tok sign.Semicolon (real sign.Semicolon tt) y)))
empty_stmt (suc n) y = inr (inl (make stmt'.Empty (at_tok sign.Semicolon (real sign.Semicolon tt) y)))

pub for_row : (n : ℕ) (y : List Token)
    → stmt (suc n)
    (sample sign.For
    ∷
    (sample sign.Open
    ∷ (sample sign.Semicolon ∷ (sample sign.Semicolon ∷ (sample sign.Close ∷ (sample sign.Semicolon ∷ y)))))) y
    (stmt'.For (sample sign.For).at first'.Nothing None None (stmt'.Empty (sample sign.Semicolon).at))
for_row n y =
    inl
    (inr
    (inr
    (inr
    (inr
    (make s.for_of (and_then _ (at_tok sign.For (real sign.For tt) _) (and_then _ (tok sign.Open (real sign.Open tt) _)
    (and_then _ (inr (make s.first (and_then _ (inr (refl, refl)) (tok sign.Semicolon (real sign.Semicolon tt) _))))
    (and_then _ (inr (refl, refl)) (and_then _ (tok sign.Semicolon (real sign.Semicolon tt) _)
    (and_then _ (inr (refl, refl)) (and_then _ (tok sign.Close (real sign.Close tt) _) (empty_stmt n y)))))))))))))

-- if ( a ) if ( a ) ; else ; gives the else to the inner if, and to no other
abbrev if_a : List Token → List Token
if_a y = sample sign.If ∷ (sample sign.Open ∷ (sample sign.Id ∷ (sample sign.Close ∷ y)))

abbrev a_cond : Cond
a_cond = s.cond_of (s.and_of (test.Unary (unary'.Operand (operand'.Path a_path)) ∷ []) ∷ [])

a_read : (n : ℕ) (y : List Token) → cond n (sample sign.Id ∷ y) y a_cond
a_read zero y = make s.cond_of
    (make joined
    (and_then _
    (make s.and_of
    (make joined (and_then _ (inr (make test.Unary (inr (make unary'.Operand (inner_path zero y))))) none))) none))
a_read (suc n) y = make s.cond_of
    (make joined
    (and_then _
    (make s.and_of
    (make joined (and_then _ (inr (make test.Unary (inr (make unary'.Operand (inner_path (suc n) y))))) none))) none))

abbrev nothing : Stmt
nothing = stmt'.Empty (sample sign.Semicolon).at

abbrev inner_if : Stmt
inner_if = stmt'.If (sample sign.If).at a_cond nothing (Some nothing)

pub else_row : stmt 2 (if_a (if_a (sample sign.Semicolon ∷ (sample sign.Else ∷ (sample sign.Semicolon ∷ []))))) []
    (stmt'.If (sample sign.If).at a_cond inner_if None)
else_row =
    inl
    (inr
    (inl
    (make s.if_of
    (and_then _ (at_tok sign.If (real sign.If tt) _)
    (and_then _
    (make middle
    (and_then _ (tok sign.Open (real sign.Open tt) _)
    (and_then _ (a_read 1 _) (tok sign.Close (real sign.Close tt) _))))
    (and_then _
    (inl
    (inr
    (inl
    (make s.if_of
    (and_then _ (at_tok sign.If (real sign.If tt) _)
    (and_then _
    (make middle
    (and_then _ (tok sign.Open (real sign.Open tt) _)
    (and_then _ (a_read 0 _) (tok sign.Close (real sign.Close tt) _))))
    (and_then _ (empty_stmt 0 _)
    (inl (make Some (make second (and_then _ (tok sign.Else (real sign.Else tt) _) (empty_stmt 0 []))))))))))))
    (inr ((refl, refl), λ e. clash (ap (among (sign.End ∷ [])) e)))))))))

-- items: struct a ;  extern void a ( ) ;  enum a { a , } ;  int a ( void ) { }
pub struct_row : (n : ℕ) (y : List Token)
    → item n (sample sign.Struct ∷ (sample sign.Id ∷ (sample sign.Semicolon ∷ y))) y
    (item'.Struct (sample sign.Struct).at a_name None)
struct_row n y =
    inl
    (make i.struct_of
    (and_then _ (at_tok sign.Struct (real sign.Struct tt) _)
    (and_then _ (named _) (and_then _ (inr (refl, refl)) (tok sign.Semicolon (real sign.Semicolon tt) y)))))

pub extern_row : (n : ℕ) (y : List Token)
    → item n (sample sign.Extern
    ∷ (sample sign.Void ∷ (sample sign.Id ∷ (sample sign.Open ∷ (sample sign.Close ∷ (sample sign.Semicolon ∷ y)))))) y
    (item'.Proto (Some (sample sign.Extern).at)
    (record { gives = return'.Void (sample sign.Void).at; name = a_name; params = None }))
extern_row n y =
    inr
    (inr
    (inl
    (make i.proto_of
    (and_then _ (inl (make Some (at_tok sign.Extern (real sign.Extern tt) _)))
    (and_then _ (make i.head_of (and_then _ (inl (make return'.Void (at_tok sign.Void (real sign.Void tt) _)))
    (and_then _ (named _)
    (make middle
    (and_then _ (tok sign.Open (real sign.Open tt) _)
    (and_then _ (inr (refl, refl)) (tok sign.Close (real sign.Close tt) _)))))))
    (tok sign.Semicolon (real sign.Semicolon tt) y))))))

pub enum_row : (n : ℕ) (y : List Token)
    → item n
    (sample sign.Enum
    ∷
    (sample sign.Id
    ∷ (sample sign.OpenBrace
    ∷ (sample sign.Id ∷ (sample sign.Comma ∷ (sample sign.CloseBrace ∷ (sample sign.Semicolon ∷ y))))))) y
    (item'.Enum (sample sign.Enum).at a_name (a_name ∷ []))
enum_row n y =
    inr
    (inl
    (make i.enum_of
    (and_then _ (at_tok sign.Enum (real sign.Enum tt) _)
    (and_then _ (named _) (and_then _ (tok sign.OpenBrace (real sign.OpenBrace tt) _) (and_then _ (named _)
    (and_then _
    (and_then _ none
    (and_then _ (inl (make Some (tok sign.Comma (real sign.Comma tt) _)))
    (tok sign.CloseBrace (real sign.CloseBrace tt) _))) (tok sign.Semicolon (real sign.Semicolon tt) y))))))))

pub function_row : (y : List Token)
    → item 1
    (sample sign.Int
    ∷
    (sample sign.Id
    ∷
    (sample sign.Open
    ∷ (sample sign.Void ∷ (sample sign.Close ∷ (sample sign.OpenBrace ∷ (sample sign.CloseBrace ∷ y))))))) y
    (item'.Function
    (record {
      gives = return'.Data (data'.Int (sample sign.Int).at);
      name = a_name;
      params = Some (params'.Void (sample sign.Void).at);
    })
    (s.block_of ((sample sign.OpenBrace).at, ([], sample sign.CloseBrace))))
function_row y =
    inr
    (inr
    (inr
    (inl
    (make i.function_of
    (and_then _
    (make i.head_of
    (and_then _ (inr (inl (make return'.Data (inl (make data'.Int (at_tok sign.Int (real sign.Int tt) _))))))
    (and_then _ (named _)
    (make middle
    (and_then _ (tok sign.Open (real sign.Open tt) _)
    (and_then _ (inl (make Some (inl (make params'.Void (at_tok sign.Void (real sign.Void tt) _)))))
    (tok sign.Close (real sign.Close tt) _)))))))
    (make s.block_of
    (and_then _ (at_tok sign.OpenBrace (real sign.OpenBrace tt) _)
    (and_then _ none (tok sign.CloseBrace (real sign.CloseBrace tt) y)))))))))

-- a function is one level: with none it is nothing that the rule reads
pub no_level_row : (y : List Token) (x : Block) → s.block 0 (sample sign.OpenBrace ∷ (sample sign.CloseBrace ∷ y)) y x
    → ⊥
no_level_row y x r = r

-- a call's bracket opens its level at the name, any other opening token at itself
pub opener_call_row : opener (sample sign.Comma ∷ (sample sign.Id ∷ [])) (sample sign.Open) ≡ sample sign.Id
unfolding sign_of
opener_call_row = refl

pub opener_bracket_row : opener (sample sign.Id ∷ (sample sign.And ∷ [])) (sample sign.Open) ≡ sample sign.Open
unfolding sign_of
opener_bracket_row = refl

pub opener_not_row : opener (sample sign.Id ∷ []) (sample sign.Not) ≡ sample sign.Not
unfolding sign_of
opener_not_row = refl
