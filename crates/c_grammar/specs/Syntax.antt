-- The grammar of the accepted C (ISO/IEC 9899:2011, 6.5 to 6.9, cut down), rule by rule.
use Rattle.std.specs.Prelude.{zero, suc, Bool, true, false, List, [], ◌∷◌, Option, Some, None}
use Rattle.fore_base.specs.declared.place.Place.{Place}
use Rattle.c_ast.specs.declared.conditions.And.{And, roll-And}
use Rattle.c_ast.specs.declared.conditions.Cond.{Cond, roll-Cond}
use Rattle.c_ast.specs.declared.conditions.Test.{Test}
use Rattle.c_ast.specs.declared.conditions.Test.TheVariants as test
use Rattle.c_ast.specs.declared.conditions.Unary.{Unary}
use Rattle.c_ast.specs.declared.conditions.Unary.TheVariants as unary'
use Rattle.c_ast.specs.declared.operands.Arrow.{Arrow}
use Rattle.c_ast.specs.declared.operands.Call.{Call, roll-Call}
use Rattle.c_ast.specs.declared.operands.Name.{Name}
use Rattle.c_ast.specs.declared.operands.Operand.{Operand}
use Rattle.c_ast.specs.declared.operands.Operand.TheVariants as operand'
use Rattle.c_ast.specs.declared.operands.Path.{Path}
use Rattle.c_ast.specs.declared.simples.Cast.{Cast}
use Rattle.c_ast.specs.declared.simples.Rhs.{Rhs}
use Rattle.c_ast.specs.declared.simples.Rhs.TheVariants as rhs'
use Rattle.c_ast.specs.declared.simples.Simple.{Simple}
use Rattle.c_ast.specs.declared.simples.Simple.TheVariants as simple'
use Rattle.c_ast.specs.declared.simples.Size.{Size}
use Rattle.c_ast.specs.declared.simples.Size.TheVariants as size'
use Rattle.c_ast.specs.declared.statements.Block.{Block, roll-Block}
use Rattle.c_ast.specs.declared.statements.Data.{Data}
use Rattle.c_ast.specs.declared.statements.Data.TheVariants as data'
use Rattle.c_ast.specs.declared.statements.Declarator.{Declarator}
use Rattle.c_ast.specs.declared.statements.Declare.{Declare}
use Rattle.c_ast.specs.declared.statements.Declare.TheVariants as declare'
use Rattle.c_ast.specs.declared.statements.First.{First}
use Rattle.c_ast.specs.declared.statements.First.TheVariants as first'
use Rattle.c_ast.specs.declared.statements.Part as part
use Rattle.c_ast.specs.declared.statements.Part.TheVariants as part'
use Rattle.c_ast.specs.declared.statements.Stmt.{Stmt}
use Rattle.c_ast.specs.declared.statements.Stmt.TheVariants as stmt'
use Rattle.c_lexer.specs.declared.token.Token.{Token}
use Rattle.c_grammar.specs.Grammar.{Part, Rule, token, empty, nowhere, ◌then◌, ◌or◌, Many, Made, unless, level}
use Rattle.c_grammar.specs.declared.signs.Sign.{Sign}
use Rattle.c_grammar.specs.declared.signs.Sign.TheVariants as sign

-- the place of a token of this sign
abbrev pub at_of : Token → Place
at_of t = t.at

abbrev pub at : Sign → Part Place
at s = Made at_of (token s)

abbrev pub second : {X Y : Type 0} → X × Y → Y
second p = p.1

abbrev pub first : {X Y : Type 0} → X × Y → X
first p = p.0

-- what stands between two tokens, or before one
abbrev pub middle : {X Y Z : Type 0} → X × (Y × Z) → Y
middle p = p.1.0

abbrev pub optional : {X : Type 0} → Part X → Part (Option X)
optional A = Made Some A or empty None

-- a token, and a part behind it, which alone is kept
abbrev pub behind : {X : Type 0} → Sign → Part X → Part X
behind s A = Made second (token s then A)

abbrev pub joined : {X : Type 0} → X × List X → List X
joined p = p.0 ∷ p.1

-- one or more, with a token between two of them
abbrev pub series : {X : Type 0} → Sign → Part X → Part (List X)
series sep A = Made joined (A then Many (behind sep A))

abbrev pub bracketed : {X : Type 0} → Part X → Part X
bracketed A = Made middle (token sign.Open then A then token sign.Close)

abbrev pub name_of : Token → Name
name_of t = record { text = t.text; at = t.at }

abbrev pub name : Part Name
name = Made name_of (token sign.Id)

abbrev pub number : Part Name
number = Made name_of (token sign.Number)

abbrev pub arrow_of : Place × Name → Arrow
arrow_of p = record { at = p.0; field = p.1 }

abbrev pub arrow : Part Arrow
arrow = Made arrow_of (at sign.Arrow then name)

-- path = id { "->" id }
abbrev pub path_of : Name × List Arrow → Path
path_of p = record { head = p.0; arrows = p.1 }

abbrev pub path : Part Path
path = Made path_of (name then Many arrow)

-- call = id "(" [ operand { "," operand } ] ")"
abbrev pub call_of : Name × List Operand → Call
call_of p = roll-Call (record { name = p.0; operands = p.1 })

abbrev pub arguments : Part Operand → Part (List Operand)
arguments inner = bracketed (series sign.Comma inner or empty [])

abbrev pub call_with : Part Operand → Part Call
call_with inner = Made call_of (name then arguments inner)

-- operand = path | call | number | "NULL" | "true" | "false"
abbrev pub literal_part : Part Operand
literal_part = Made operand'.Number number or Made operand'.Null (at sign.Null) or Made operand'.True (at sign.True) or
    Made operand'.False (at sign.False)

abbrev pub operand_with : Part Call → Part Operand
operand_with c = Made operand'.Path path or Made operand'.Call c or literal_part

-- a call that is an operand of a call is a level
abbrev pub call : Rule Call
call zero = call_with (operand_with nowhere)
call (suc n) = call_with (operand_with (call n))

abbrev pub operand : Rule Operand
operand n = operand_with (call n)

-- an operand of a call
abbrev pub argument : Rule Operand
argument n = operand_with (level call n)

-- size = "sizeof" "(" "struct" id ")" | "sizeof" "(" "*" path ")" | "sizeof" "*" path
abbrev pub size_struct : Place × Name → Size
size_struct p = size'.Struct p.0 p.1

abbrev pub size_bracketed : Place × (Place × Path) → Size
size_bracketed p = size'.Bracketed p.0 p.1.0 p.1.1

abbrev pub size_bare : Place × (Place × Path) → Size
size_bare p = size'.Bare p.0 p.1.0 p.1.1

abbrev pub size : Part Size
size = Made size_struct (at sign.Sizeof then bracketed (behind sign.Struct name))
    or Made size_bracketed (at sign.Sizeof then bracketed (at sign.Star then path)) or Made size_bare
    (at sign.Sizeof then at sign.Star then path)

-- rhs = operand | [ "(" "struct" id "*" ")" ] "malloc" "(" size ")"
abbrev pub cast_of : Place × (Token × (Name × (Token × Token))) → Cast
cast_of p = record { at = p.0; name = p.1.1.0 }

abbrev pub cast : Part Cast
cast = Made cast_of (at sign.Open then token sign.Struct then name then token sign.Star then token sign.Close)

abbrev pub malloc_of : Option Cast × (Place × Size) → Rhs
malloc_of p = rhs'.Malloc p.0 p.1.0 p.1.1

abbrev pub rhs : Rule Rhs
rhs n = Made rhs'.Operand (operand n) or Made malloc_of (optional cast then at sign.Malloc then bracketed size)

-- simple = path "=" rhs | call | "free" "(" path ")"
abbrev pub assign_of : Path × (Token × Rhs) → Simple
assign_of p = simple'.Assign p.0 p.1.1

abbrev pub free_of : Place × Path → Simple
free_of p = simple'.Free p.0 p.1

abbrev pub simple : Rule Simple
simple n = Made assign_of (path then token sign.Assign then rhs n) or Made simple'.Call (call n) or Made free_of
    (at sign.Free then bracketed path)

-- test = operand ( "==" | "!=" ) operand | unary
abbrev pub yes_of : Token → Bool
yes_of t = true

abbrev pub no_of : Token → Bool
no_of t = false

abbrev pub compare_of : Operand × (Bool × Operand) → Test
compare_of p = test.Compare p.0 p.1.0 p.1.1

abbrev pub test_with : Part Operand → Part Unary → Part Test
test_with o u = Made compare_of (o then (Made yes_of (token sign.Equal) or Made no_of (token sign.Unequal)) then o) or
    Made test.Unary u

-- a comparison, or an operand alone: they begin alike
abbrev pub sides : Part Bool
sides = Made yes_of (token sign.Equal) or Made no_of (token sign.Unequal)

abbrev pub test_of : Operand × Option (Bool × Operand) → Test
test_of p = elim p.1 [ None ↦ test.Unary (unary'.Operand p.0) | Some q ↦ test.Compare p.0 q.0 q.1 ]

abbrev pub compared_part : Part Operand → Part Test
compared_part o = Made test_of (o then optional (sides then o))

-- cond = and { "||" and }, and = test { "&&" test }
abbrev pub and_of : List Test → And
and_of tests = roll-And (record { tests = tests })

abbrev pub cond_of : List And → Cond
cond_of ands = roll-Cond (record { ands = ands })

abbrev pub and_with : Part Operand → Part Unary → Part And
and_with o u = Made and_of (series sign.And (test_with o u))

abbrev pub cond_with : Part Operand → Part Unary → Part Cond
cond_with o u = Made cond_of (series sign.Or (and_with o u))

-- unary = "!" unary | "(" cond ")" | operand; the first two are levels
abbrev pub not_of : Place × Unary → Unary
not_of p = unary'.Not p.0 p.1

abbrev pub bracket_of : Place × (Cond × Token) → Unary
bracket_of p = unary'.Bracket p.0 p.1.0

abbrev pub nested_unary : Part Operand → Part Unary → Part Unary
nested_unary o u = Made not_of (at sign.Not then u) or Made bracket_of
    (at sign.Open then cond_with o u then token sign.Close)

abbrev pub unary : Rule Unary
unary zero = nowhere or Made unary'.Operand (operand zero)
unary (suc n) = nested_unary (operand n) (unary n) or Made unary'.Operand (operand (suc n))

-- a unary that is a level, without that level
abbrev pub inner_unary : Rule Unary
inner_unary n = nested_unary (operand n) (unary n)

abbrev pub cond : Rule Cond
cond n = cond_with (operand n) (unary n)

-- data = "int" | "enum" id
abbrev pub enum_of : Place × Name → Data
enum_of p = data'.Enum p.0 p.1

abbrev pub data_part : Part Data
data_part = Made data'.Int (at sign.Int) or Made enum_of (at sign.Enum then name)

-- declare = "struct" id "*" id [ "=" rhs ] { "," "*" id [ "=" rhs ] } ";" | data id [ "=" rhs ] { "," id [ "=" rhs ] }
-- ";"
abbrev pub declarator_of : Name × Option Rhs → Declarator
declarator_of p = record { name = p.0; from = p.1 }

abbrev pub declarator : Rule Declarator
declarator n = Made declarator_of (name then optional (behind sign.Assign (rhs n)))

abbrev pub pointers_of : Place × (Name × (List Declarator × Token)) → Declare
pointers_of p = declare'.Pointers p.0 p.1.0 p.1.1.0

abbrev pub datums_of : Data × (List Declarator × Token) → Declare
datums_of p = declare'.Datums p.0 p.1.0

abbrev pub declare : Rule Declare
declare n = Made pointers_of
    (at sign.Struct then name then series sign.Comma (behind sign.Star (declarator n))
    then token sign.Semicolon)
    or Made datums_of (data_part then series sign.Comma (declarator n) then token sign.Semicolon)

-- block = "{" { declare | stmt } "}"
abbrev pub block_of : Place × (List part.Part × Token) → Block
block_of p = roll-Block (record { at = p.0; parts = p.1.0; close = p.1.1.at })

abbrev pub block_with : Part Declare → Part Stmt → Part Block
block_with d s = Made block_of
    (at sign.OpenBrace then Many (Made part'.Declare d or Made part'.Stmt s) then token sign.CloseBrace)

-- what a statement may be that is no level
abbrev pub return_of : Place × (Option Operand × Token) → Stmt
return_of p = stmt'.Return p.0 p.1.0

abbrev pub break_of : Place × Token → Stmt
break_of p = stmt'.Break p.0

abbrev pub continue_of : Place × Token → Stmt
continue_of p = stmt'.Continue p.0

abbrev pub assert_of : Place × (Cond × Token) → Stmt
assert_of p = stmt'.Assert p.0 p.1.0

abbrev pub simple_of : Simple × Token → Stmt
simple_of p = stmt'.Simple p.0

abbrev pub flat_stmt : Rule Stmt
flat_stmt n = Made stmt'.Empty (at sign.Semicolon) or Made simple_of (simple n then token sign.Semicolon)
    or Made return_of (at sign.Return then optional (operand n) then token sign.Semicolon) or Made break_of
    (at sign.Break then token sign.Semicolon)
    or Made continue_of (at sign.Continue then token sign.Semicolon) or Made assert_of
    (at sign.Assert then bracketed (cond n) then token sign.Semicolon)

-- what a statement may be that is a level; an else belongs to the nearest if that has none, so none stands after an if
-- without one
abbrev pub if_of : Place × (Cond × (Stmt × Option Stmt)) → Stmt
if_of p = stmt'.If p.0 p.1.0 p.1.1.0 p.1.1.1

abbrev pub while_of : Place × (Cond × Stmt) → Stmt
while_of p = stmt'.While p.0 p.1.0 p.1.1

abbrev pub do_of : Place × (Stmt × (Token × (Cond × Token))) → Stmt
do_of p = stmt'.Do p.0 p.1.0 p.1.1.1.0

abbrev pub for_of : Place × (Token × (First × (Option Cond × (Token × (Option Simple × (Token × Stmt)))))) → Stmt
for_of p = stmt'.For p.0 p.1.1.0 p.1.1.1.0 p.1.1.1.1.1.0 p.1.1.1.1.1.1.1

abbrev pub other_part : Part Stmt → Part (Option Stmt)
other_part s = Made Some (behind sign.Else s) or unless sign.Else (empty None)

abbrev pub first_part : Part Declare → Part Simple → Part First
first_part d m = Made first'.Declare d or Made first
    ((Made first'.Simple m or empty first'.Nothing) then token sign.Semicolon)

abbrev pub nested_stmt : Part Declare → Part Simple → Part Cond → Part Stmt → Part Stmt
nested_stmt d m c s = Made stmt'.Block (block_with d s) or Made if_of
    (at sign.If then bracketed c then s then other_part s)
    or Made while_of (at sign.While then bracketed c then s) or Made do_of
    (at sign.Do then s then token sign.While then bracketed c then token sign.Semicolon)
    or Made for_of (at sign.For then token sign.Open then first_part d m then optional c then token sign.Semicolon
    then optional m then token sign.Close then s)

abbrev pub stmt : Rule Stmt
stmt zero = nowhere or flat_stmt zero
stmt (suc n) = nested_stmt (declare n) (simple n) (cond n) (stmt n) or flat_stmt (suc n)

-- a block is a level
abbrev pub inner_block : Rule Block
inner_block n = block_with (declare n) (stmt n)

abbrev pub block : Rule Block
block = level inner_block
