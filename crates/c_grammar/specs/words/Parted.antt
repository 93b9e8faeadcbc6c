-- Rules whose alternatives begin alike, parted where they part: what the parser reads in each step, with what the whole
-- makes of it.
use Rattle.std.specs.Prelude.{◌⊎◌, List, [], ◌∷◌, Option, Some, None}
use Rattle.std.proofs.Common.{inl, inr}
use Rattle.fore_base.specs.declared.place.Place.{Place}
use Rattle.c_ast.specs.declared.conditions.Cond.{Cond}
use Rattle.c_ast.specs.declared.items.Field.{Field}
use Rattle.c_ast.specs.declared.items.Head.{Head}
use Rattle.c_ast.specs.declared.items.Item.{Item}
use Rattle.c_ast.specs.declared.items.Item.TheVariants as item'
use Rattle.c_ast.specs.declared.items.Params.{Params}
use Rattle.c_ast.specs.declared.items.ReturnType.{ReturnType}
use Rattle.c_ast.specs.declared.items.ReturnType.TheVariants as return'
use Rattle.c_ast.specs.declared.operands.Arrow.{Arrow}
use Rattle.c_ast.specs.declared.operands.Name.{Name}
use Rattle.c_ast.specs.declared.operands.Operand.{Operand}
use Rattle.c_ast.specs.declared.operands.Path.{Path}
use Rattle.c_ast.specs.declared.simples.Rhs.{Rhs}
use Rattle.c_ast.specs.declared.simples.Simple.{Simple}
use Rattle.c_ast.specs.declared.simples.Simple.TheVariants as simple'
use Rattle.c_ast.specs.declared.simples.Size.{Size}
use Rattle.c_ast.specs.declared.simples.Size.TheVariants as size'
use Rattle.c_ast.specs.declared.statements.Block.{Block}
use Rattle.c_ast.specs.declared.statements.Data.{Data}
use Rattle.c_ast.specs.declared.statements.Data.TheVariants as data'
use Rattle.c_ast.specs.declared.statements.Declarator.{Declarator}
use Rattle.c_ast.specs.declared.statements.Declare.TheVariants as declare'
use Rattle.c_ast.specs.declared.statements.First.{First}
use Rattle.c_lexer.specs.declared.token.Token.{Token}
use Rattle.c_grammar.specs.Grammar.{Part, Rule, token, ◌then◌, ◌or◌, Many, Made}
use Rattle.c_grammar.specs.Items as i
use Rattle.c_grammar.specs.Items.{braced_fields, Enumerated, enum_body, closed_params, head, head_of}
use Rattle.c_grammar.specs.Signs.{or_on}
use Rattle.c_grammar.specs.Syntax as s
use Rattle.c_grammar.specs.Syntax.{at, name, path, arrow, behind, bracketed, optional, declarator, declarator_of}
use Rattle.c_grammar.specs.Syntax.{declare, simple, cond, first_part, block, rhs}
use Rattle.c_grammar.specs.declared.signs.Sign.TheVariants as sign
use Rattle.c_grammar.specs.words.Sets.{Signs, among, commas, begins_declare, begins_stmt, begins_cond, cond_goes_on}

-- sizes
abbrev pub Inside : Type 0
Inside = Name ⊎ (Place × Path)

abbrev pub inside_part : Part Inside
inside_part = Made inl (behind sign.Struct name) or Made inr (at sign.Star then path)

abbrev pub Sized : Type 0
Sized = Inside ⊎ (Place × Path)

abbrev pub sized_part : Part Sized
sized_part = Made inl (bracketed inside_part) or Made inr (at sign.Star then path)

abbrev pub size_of : Place × Sized → Size
size_of p =
    elim p.1 [
      | inl i ↦ (elim i [ inl x ↦ size'.Struct p.0 x | inr q ↦ size'.Bracketed p.0 q.0 q.1 ])
      | inr q ↦ size'.Bare p.0 q.0
          q.1
    ]

-- simple statements: an assignment and a call begin alike
abbrev pub After : Type 0
After = List Operand ⊎ (List Arrow × (Token × Rhs))

abbrev pub after_part : Part (List Operand) → Part Rhs → Part After
after_part os r = Made inl os or Made inr (Many arrow then token sign.Assign then r)

abbrev pub simple_word : Name × After → Simple
simple_word p = elim p.1
    [ inl os ↦ simple'.Call (s.call_of (p.0, os)) | inr q ↦ simple'.Assign (s.path_of (p.0, q.0)) q.1.1 ]

abbrev pub declarator_goes_on : Signs
declarator_goes_on = among (sign.Assign ∷ (sign.Arrow ∷ (sign.Open ∷ [])))

abbrev pub declarators_go_on : Signs
declarators_go_on = among (sign.Assign ∷ (sign.Arrow ∷ (sign.Open ∷ (sign.Comma ∷ []))))

-- statements that are no level
abbrev pub begins_flat : Signs
begins_flat =
    among
    (sign.Semicolon ∷ (sign.Id ∷ (sign.Free ∷ (sign.Return ∷ (sign.Break ∷ (sign.Continue ∷ (sign.Assert ∷ [])))))))

abbrev pub begins_part : Signs
begins_part s = or_on (begins_declare s) (begins_stmt s)

abbrev pub begins_level : Signs
begins_level = among (sign.OpenBrace ∷ (sign.If ∷ (sign.While ∷ (sign.Do ∷ (sign.For ∷ [])))))

abbrev pub begins_first : Signs
begins_first = among (sign.Struct ∷ (sign.Enum ∷ (sign.Int ∷ (sign.Id ∷ (sign.Free ∷ (sign.Semicolon ∷ []))))))

abbrev pub begins_data : Signs
begins_data = among (sign.Int ∷ (sign.Enum ∷ []))

abbrev pub stars : Signs
stars = among (sign.Star ∷ [])

abbrev pub braces : Signs
braces = among (sign.OpenBrace ∷ [])

-- heads
abbrev pub begins_params : Signs
begins_params = among (sign.Void ∷ (sign.Struct ∷ (sign.Int ∷ (sign.Enum ∷ []))))

abbrev pub params_go_on : Signs
params_go_on s = or_on (commas s) (begins_params s)

abbrev pub begins_rtype : Signs
begins_rtype = among (sign.Void ∷ (sign.Struct ∷ (sign.Int ∷ (sign.Enum ∷ []))))

-- what comes after a head: a semicolon or a block
abbrev pub no_block : Token → Option Block
no_block t = None

abbrev pub ending : Rule (Option Block)
ending n = Made no_block (token sign.Semicolon) or Made Some (block n)

abbrev pub begins_ending : Signs
begins_ending = among (sign.Semicolon ∷ (sign.OpenBrace ∷ []))

abbrev pub Called : Type 0
Called = Option Params × Option Block

abbrev pub called : Rule Called
called n = closed_params then ending n

-- what comes after the first name of a declaration
abbrev pub Declared : Type 0
Declared = Option Rhs × (List Declarator × Token)

abbrev pub maybe_from : Rule (Option Rhs)
maybe_from n = optional (behind sign.Assign (rhs n))

abbrev pub Rest : Type 0
Rest = Called ⊎ Declared

abbrev pub star_declarator : Rule Declarator
star_declarator n = behind sign.Star (declarator n)

-- what the first name starts with, and more declarators of this rule
abbrev pub declared_with : Rule Declarator → Rule Declared
declared_with A n = maybe_from n then Many (behind sign.Comma (A n)) then token sign.Semicolon

abbrev pub rest_with : Rule Declarator → Rule Rest
rest_with A n = Made inl (called n) or Made inr (declared_with A n)

abbrev pub data_rest : Rule Rest
data_rest = rest_with declarator

abbrev pub pointer_rest : Rule Rest
pointer_rest = rest_with star_declarator

abbrev pub begins_rest : Signs
begins_rest = among (sign.Open ∷ (sign.Assign ∷ (sign.Comma ∷ (sign.Semicolon ∷ []))))

abbrev pub begins_declared : Signs
begins_declared = among (sign.Assign ∷ (sign.Comma ∷ (sign.Semicolon ∷ [])))

-- the five beginnings of an item
abbrev pub head_item : ReturnType → Name → Called → Item
head_item g v q = elim q.1
    [ None ↦ item'.Proto None (head_of (g, (v, q.0))) | Some b ↦ item'.Function (head_of (g, (v, q.0))) b ]

abbrev pub data_item : Data → Name → Rest → Item
data_item d v q = elim q [
  | inl c ↦ head_item (return'.Data d) v c
  | inr r ↦ item'.Declare
      (declare'.Datums d (declarator_of (v, r.0) ∷ r.1.0))
]

abbrev pub pointer_item : Place → Name → Name → Rest → Item
pointer_item p t v q = elim q [
  | inl c ↦ head_item (return'.Pointer p t) v c
  | inr r ↦ item'.Declare
      (declare'.Pointers p t (declarator_of (v, r.0) ∷ r.1.0))
]

abbrev pub extern_of : Place × (Head × Token) → Item
extern_of p = item'.Proto (Some p.0) p.1.0

abbrev pub void_of : Place × (Name × Called) → Item
void_of p = head_item (return'.Void p.0) p.1.0 p.1.1

abbrev pub int_of : Place × (Name × Rest) → Item
int_of p = data_item (data'.Int p.0) p.1.0 p.1.1

abbrev pub EnumRest : Type 0
EnumRest = Enumerated ⊎ (Name × Rest)

abbrev pub enum_rest : Rule EnumRest
enum_rest n = Made inl enum_body or Made inr (name then data_rest n)

abbrev pub enum_item_of : Place × (Name × EnumRest) → Item
enum_item_of p = elim p.1.1 [ inl q ↦ i.enum_of (p.0, (p.1.0, q)) | inr q ↦ data_item (data'.Enum p.0 p.1.0) q.0 q.1 ]

abbrev pub StructRest : Type 0
StructRest = (Option (List Field) × Token) ⊎ (Token × (Name × Rest))

abbrev pub struct_rest : Rule StructRest
struct_rest n = Made inl (optional braced_fields then token sign.Semicolon) or Made inr
    (token sign.Star then name then pointer_rest n)

abbrev pub struct_item_of : Place × (Name × StructRest) → Item
struct_item_of p = elim p.1.1 [ inl q ↦ i.struct_of (p.0, (p.1.0, q)) | inr q ↦ pointer_item p.0 p.1.0 q.1.0 q.1.1 ]

abbrev pub parted_item : Rule Item
parted_item n = Made extern_of (at sign.Extern then head then token sign.Semicolon) or Made void_of
    (at sign.Void then name then called n)
    or Made int_of (at sign.Int then name then data_rest n) or Made enum_item_of
    (at sign.Enum then name then enum_rest n)
    or Made struct_item_of (at sign.Struct then name then struct_rest n)

abbrev pub begins_item : Signs
begins_item = among (sign.Extern ∷ (sign.Void ∷ (sign.Int ∷ (sign.Enum ∷ (sign.Struct ∷ [])))))

abbrev pub begins_struct_rest : Signs
begins_struct_rest = among (sign.Semicolon ∷ (sign.OpenBrace ∷ (sign.Star ∷ [])))

abbrev pub simple_goes_on : Signs
simple_goes_on = among (sign.Arrow ∷ (sign.Open ∷ (sign.Id ∷ (sign.Free ∷ []))))

abbrev pub maybe_cond_goes_on : Signs
maybe_cond_goes_on s = or_on (cond_goes_on s) (begins_cond s)

-- the head of a `for`: its place, what stands first, its condition and its step
abbrev pub HeadOfFor : Type 0
HeadOfFor = Place × First × Option Cond × Option Simple

abbrev pub for_head_of : Place × (Token × (First × (Option Cond × (Token × (Option Simple × Token))))) → HeadOfFor
for_head_of p = (p.0, p.1.1.0, p.1.1.1.0, p.1.1.1.1.1.0)

abbrev pub for_head : Rule HeadOfFor
for_head n = Made for_head_of
    (at sign.For then token sign.Open then first_part (declare n) (simple n) then optional (cond n)
    then token sign.Semicolon then optional (simple n) then token sign.Close)
