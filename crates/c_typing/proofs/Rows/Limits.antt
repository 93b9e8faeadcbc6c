-- Rows on limits: as many as there may be, and one more.
use Rattle.std.proofs.Common.{◌≡◌, ℕ, zero, suc, ◌+◌, false, List, [], ◌∷◌, ◌++◌, Some, None, codes, refl}
use Rattle.c_ast.specs.declared.conditions.Test.TheVariants as test
use Rattle.c_ast.specs.declared.conditions.Unary.TheVariants as unary
use Rattle.c_ast.specs.declared.items.Field.{Field}
use Rattle.c_ast.specs.declared.items.Field.TheVariants as field
use Rattle.c_ast.specs.declared.items.Item.{Item}
use Rattle.c_ast.specs.declared.items.Item.TheVariants as item
use Rattle.c_ast.specs.declared.items.ReturnType.TheVariants as gives
use Rattle.c_ast.specs.declared.operands.Name.{Name}
use Rattle.c_ast.specs.declared.operands.Operand.TheVariants as operand
use Rattle.c_ast.specs.declared.simples.Rhs.TheVariants as rhs
use Rattle.c_ast.specs.declared.simples.Simple.TheVariants as simple
use Rattle.c_ast.specs.declared.statements.Data.TheVariants as data'
use Rattle.c_ast.specs.declared.statements.Declare.TheVariants as declare
use Rattle.c_ast.specs.declared.statements.First.TheVariants as first
use Rattle.c_ast.specs.declared.statements.Part.TheVariants as part'
use Rattle.c_ast.specs.declared.statements.Stmt.TheVariants as stmt
use Rattle.c_typing.specs.Typing.{breaches, site_breaches, overweight}
use Rattle.c_typing.specs.declared.fault.TypeFault.TheVariants.{Rule, Limit}
use Rattle.c_typing.proofs.Layers.{layers}
use Rattle.c_typing.proofs.PlaceLayers.{place_layers}
use Rattle.c_typing.proofs.ScopeLayers.{scope_layers}
use Rattle.c_typing.proofs.SiteLayers.{site_layers}
use Rattle.c_typing.proofs.Rows.Forms.{at, name, var, call, number, condition, conjunction, plain, begun, block, head}
use Rattle.c_typing.proofs.Rows.Forms.{unit, file}
use Rattle.fore_base.specs.declared.place.Place.{Place}
use Rattle.c_ast.specs.declared.statements.Stmt.{Stmt}
use Rattle.c_typing.specs.BodySites.{stmt_places, block_places}
use Rattle.c_typing.specs.Globals.{Globals}
use Rattle.c_typing.specs.BodySites.{stmt_sites}
use Rattle.c_typing.specs.ItemSites.{body_sites}
use Rattle.c_typing.specs.Rules.{k7, k8}
use Rattle.c_typing.specs.Scopes.{Scope}
use Rattle.c_typing.specs.Sites.{Counts, Overflows}
use Rattle.c_typing.specs.Texts.{Text}
use Rattle.c_typing.specs.Typing.{breaches_of}
use Rattle.c_typing.specs.declared.fault.TypeFault.{TypeFault}

-- int main() { }
abbrev main_item : Item
main_item = item.Function (head (gives.Data (data'.Int (at 200))) (name (codes "main") 201) None) (block 204 [] 205)

-- so many names that begin so, all different: the first has this number, and each is the next token but one
abbrev names : Text → ℕ → ℕ → ℕ → List Name
names text zero k n = []
names text (suc m) k n = name (text ++ (48 + k) ∷ []) n ∷ names text m (suc k) (n + 2)

-- so many fields of one line, f0 the first
abbrev fields : ℕ → ℕ → Field
fields m n = field.Datums (data'.Int (at n)) (names (codes "f") m 0 (n + 1))

-- so many structs with one field, all different: the first has this number, and each begins 8 tokens later
abbrev structs : ℕ → ℕ → ℕ → List Item
structs zero k n = []
structs (suc m) k n =
    item.Struct (at n) (name (codes "s" ++ (48 + k) ∷ []) (n + 1))
    (Some (field.Datums (data'.Int (at (n + 3))) (name (codes "a") (n + 4) ∷ []) ∷ []))
    ∷ structs m (suc k) (n + 8)

-- a struct of 16 fields
fields_16 :
    breaches
    (unit (main_item ∷ item.Struct (at 206) (name (codes "s") 207) (Some (fields 16 209 ∷ [])) ∷ []) 244) ≡ []
unfolding breaches site_breaches overweight
fields_16 = simp layers refl

-- the 17th field; the 18th breaks nothing more
fields_17 :
    breaches
    (unit
    (main_item ∷ item.Struct (at 206) (name (codes "s") 207)
    (Some
    (fields 16 209
    ∷ field.Pointers (at 242) (name (codes "s") 243) (name (codes "f16") 245 ∷ name (codes "f17") 248 ∷ []) ∷ []))
    ∷ []) 252) ≡ Limit 3 (at 245) ∷ []
unfolding breaches site_breaches
fields_17 = simp layers refl

-- 15 fields in one struct and 2 in another
fields_of_two :
    breaches
    (unit
    (main_item ∷ item.Struct (at 206) (name (codes "s") 207) (Some (fields 15 209 ∷ []))
    ∷ item.Struct (at 242) (name (codes "t") 243)
    (Some (field.Datums (data'.Int (at 245)) (name (codes "g") 246 ∷ name (codes "h") 248 ∷ []) ∷ [])) ∷ []) 252) ≡ []
unfolding breaches site_breaches overweight
fields_of_two = simp layers refl

-- a repeated field counts too
fields_17_again :
    breaches
    (unit
    (main_item ∷ item.Struct (at 206) (name (codes "s") 207)
    (Some (field.Datums (data'.Int (at 209)) (names (codes "f") 16 0 210 ++ name (codes "f0") 242 ∷ []) ∷ [])) ∷ [])
    246) ≡ Rule 5 (at 242) ∷ Limit 3 (at 242) ∷ []
unfolding breaches site_breaches
fields_17_again = simp layers refl

-- each struct is counted by itself
fields_17_twice :
    breaches
    (unit
    (main_item ∷ item.Struct (at 206) (name (codes "s") 207) (Some (fields 17 209 ∷ []))
    ∷ item.Struct (at 246) (name (codes "t") 247) (Some (fields 17 249 ∷ [])) ∷ []) 286) ≡ Limit 3 (at 242)
    ∷ Limit 3 (at 282) ∷ []
unfolding breaches site_breaches
fields_17_twice = simp layers refl

-- an enumeration of 16 enumerators
values_16 :
    breaches (unit (main_item ∷ item.Enum (at 206) (name (codes "e") 207) (names (codes "A") 16 0 209) ∷ []) 242) ≡ []
unfolding breaches site_breaches overweight
values_16 = simp layers refl

-- the 17th enumerator
values_17 :
    breaches (unit (main_item ∷ item.Enum (at 206) (name (codes "e") 207) (names (codes "A") 18 0 209) ∷ []) 246)
    ≡ Limit 5 (at 241) ∷ []
unfolding breaches site_breaches
values_17 = simp (place_layers, scope_layers, site_layers) refl

-- 15 enumerators in each of two enumerations
values_of_two :
    breaches
    (unit
    (main_item ∷ item.Enum (at 206) (name (codes "e") 207) (names (codes "A") 15 0 209)
    ∷ item.Enum (at 240) (name (codes "f") 241) (names (codes "B") 15 0 243) ∷ []) 274) ≡ []
unfolding breaches site_breaches overweight
values_of_two = simp layers refl

-- 32 structs
structs_32 : breaches (unit (main_item ∷ structs 32 0 206) 462) ≡ []
unfolding breaches site_breaches overweight
structs_32 = simp layers refl

-- the 33rd struct with braces; those without do not count
structs_33 :
    breaches
    (unit
    (main_item ∷ item.Struct (at 206) (name (codes "s0") 207) None
    ∷ structs 32 0 209 ++ item.Struct (at 465) (name (codes "s0") 466) None ∷ structs 2 32 468) 484)
    ≡ Limit 2 (at 469) ∷ []
unfolding breaches site_breaches
structs_33 = simp layers refl

-- a repeated struct counts too
structs_33_again : breaches (unit (main_item ∷ structs 32 0 206 ++ structs 1 0 462) 470) ≡ Rule 5 (at 463)
    ∷ Limit 2 (at 463) ∷ []
unfolding breaches site_breaches
structs_33_again = simp layers refl

-- after so many data variables, in blocks that are closed
abbrev texts : ℕ → List (List ℕ)
texts zero = []
texts (suc n) = [] ∷ texts n

abbrev crowded : ℕ → Scope
crowded n = record { home = None; blocks = []; vars = []; data_vars = texts n }

abbrev breaks_after : ℕ → Stmt → List TypeFault
breaks_after n s = breaches_of file (stmt_sites file s false (crowded n))

-- 64 variables: pointers, data and those of a `for`
variables_64 : breaks_after 62
    (stmt.Block
    (block 200 (part'.Declare (declare.Pointers (at 201) (name (codes "node") 202) (plain (codes "p") 204 ∷ []))
    ∷ part'.Stmt
    (stmt.For (at 206) (first.Declare (declare.Datums (data'.Int (at 208)) (plain (codes "w") 209 ∷ []))) None None
    (stmt.Empty (at 213))) ∷ []) 214)) ≡ []
variables_64 = simp layers refl

-- the 65th, in a block of its own; the 66th breaks nothing more
variables_65 : breaks_after 62
    (stmt.Block
    (block 200 (part'.Declare (declare.Pointers (at 201) (name (codes "node") 202) (plain (codes "p") 204 ∷ []))
    ∷ part'.Stmt
    (stmt.For (at 206) (first.Declare (declare.Datums (data'.Int (at 208)) (plain (codes "w") 209 ∷ []))) None None
    (stmt.Empty (at 213))) ∷ part'.Stmt
    (stmt.Block (block 214 (part'.Declare (declare.Datums (data'.Int (at 215)) (plain (codes "z") 216 ∷ [])) ∷ []) 218))
    ∷ part'.Declare (declare.Datums (data'.Int (at 219)) (plain (codes "y") 220 ∷ [])) ∷ []) 222)) ≡ Limit 4 (at 216)
    ∷ []
variables_65 = simp layers refl

-- the 65th, in the head of a `for`
variables_65_in_a_for : breaks_after 63
    (stmt.Block
    (block 200 (part'.Declare (declare.Pointers (at 201) (name (codes "node") 202) (plain (codes "p") 204 ∷ []))
    ∷ part'.Stmt
    (stmt.For (at 206)
    (first.Declare (declare.Pointers (at 208) (name (codes "node") 209) (plain (codes "w") 211 ∷ []))) None None
    (stmt.Empty (at 215))) ∷ []) 216)) ≡ Limit 4 (at 211) ∷ []
variables_65_in_a_for = simp layers refl

-- the 65th, in one declaration with others
variables_65_in_one_declaration :
    breaks_after 61
    (stmt.Block
    (block 200
    (part'.Declare
    (declare.Datums (data'.Int (at 201))
    (plain (codes "a") 202 ∷ plain (codes "b") 204 ∷ plain (codes "c") 206 ∷ plain (codes "d") 208
    ∷ plain (codes "e") 210 ∷ [])) ∷ []) 212)) ≡ Limit 4 (at 208) ∷ []
variables_65_in_one_declaration = simp layers refl

-- a repeated variable counts too
variable_again_counts : breaks_after 62
    (stmt.Block
    (block 200
    (part'.Declare
    (declare.Datums (data'.Int (at 201)) (plain (codes "x") 202 ∷ plain (codes "x") 204 ∷ plain (codes "y") 206 ∷ []))
    ∷ []) 208)) ≡ Rule 5 (at 204) ∷ Limit 4 (at 206) ∷ []
variable_again_counts = simp layers refl

-- the token above the limit, if there is one (K8)
no_token_above : (g : Globals) → k8 g (Overflows None) ≡ []
no_token_above g = refl

token_above : (g : Globals) → k8 g (Overflows (Some (at 7))) ≡ at 7 ∷ []
token_above g = refl

-- the statement number 4,097 (K7)
abbrev many : ℕ → List Place
many zero = []
many (suc n) = at n ∷ many n

statements_4096 : (g : Globals) → k7 g (Counts (many 4096)) ≡ []
statements_4096 g = refl

statements_4097 : (g : Globals) → k7 g (Counts (many 4096 ++ at 9999 ∷ [])) ≡ at 9999 ∷ []
statements_4097 g = refl

statements_4099 : (g : Globals) → k7 g (Counts (many 4096 ++ at 9999 ∷ at 1 ∷ at 2 ∷ [])) ≡ at 9999 ∷ []
statements_4099 g = refl

-- What counts as a statement, and where it begins

-- ;
empty_counts : stmt_places (stmt.Empty (at 200)) ≡ at 200 ∷ []
empty_counts = simp layers refl

-- { p = q; abort(); free(p); }: a block and what is in it
simples_count : stmt_places
    (stmt.Block
    (block 200
    (part'.Stmt (stmt.Simple (simple.Assign (var (codes "p") 201) (rhs.Operand (operand.Path (var (codes "q") 203)))))
    ∷ part'.Stmt (stmt.Simple (simple.Call (call (codes "abort") 205 [])))
    ∷ part'.Stmt (stmt.Simple (simple.Free (at 209) (var (codes "p") 211))) ∷ []) 214)) ≡ at 200 ∷ at 201 ∷ at 205
    ∷ at 209 ∷ []
simples_count = simp layers refl

-- { int z, w; struct node *v; enum color c = RED; }: one for each, however many variables it has
declarations_count : stmt_places
    (stmt.Block
    (block 200 (part'.Declare (declare.Datums (data'.Int (at 201)) (plain (codes "z") 202 ∷ plain (codes "w") 204 ∷ []))
    ∷ part'.Declare (declare.Pointers (at 206) (name (codes "node") 207) (plain (codes "v") 209 ∷ []))
    ∷ part'.Declare
    (declare.Datums (data'.Enum (at 211) (name (codes "color") 212))
    (begun (codes "c") 213 (rhs.Operand (operand.Path (var (codes "RED") 215))) ∷ [])) ∷ []) 217)) ≡ at 200 ∷ at 201
    ∷ at 206 ∷ at 211 ∷ []
declarations_count = simp layers refl

-- if (x) p = q; else if (y) break;
if_counts :
    stmt_places
    (stmt.If (at 200)
    (condition (conjunction (test.Unary (unary.Operand (operand.Path (var (codes "x") 202))) ∷ []) ∷ []))
    (stmt.Simple (simple.Assign (var (codes "p") 204) (rhs.Operand (operand.Path (var (codes "q") 206)))))
    (Some
    (stmt.If (at 209)
    (condition (conjunction (test.Unary (unary.Operand (operand.Path (var (codes "y") 211))) ∷ []) ∷ []))
    (stmt.Break (at 213)) None))) ≡ at 200 ∷ at 204 ∷ at 209 ∷ at 213 ∷ []
if_counts = simp layers refl

-- while (x) { }
while_counts : stmt_places
    (stmt.While (at 200)
    (condition (conjunction (test.Unary (unary.Operand (operand.Path (var (codes "x") 202))) ∷ []) ∷ []))
    (stmt.Block (block 204 [] 205))) ≡ at 200 ∷ at 204 ∷ []
while_counts = simp layers refl

-- do continue; while (x);
do_counts :
    stmt_places
    (stmt.Do (at 200) (stmt.Continue (at 201))
    (condition (conjunction (test.Unary (unary.Operand (operand.Path (var (codes "x") 205))) ∷ []) ∷ []))) ≡ at 200
    ∷ at 201 ∷ []
do_counts = simp layers refl

-- for (;;) ;
for_counts : stmt_places (stmt.For (at 200) first.Nothing None None (stmt.Empty (at 205))) ≡ at 200 ∷ at 205 ∷ []
for_counts = simp layers refl

-- for (p = q; x; abort()) return;: what stands in the head is no statement
for_simples_do_not : stmt_places
    (stmt.For (at 200)
    (first.Simple (simple.Assign (var (codes "p") 202) (rhs.Operand (operand.Path (var (codes "q") 204)))))
    (Some (condition (conjunction (test.Unary (unary.Operand (operand.Path (var (codes "x") 206))) ∷ []) ∷ [])))
    (Some (simple.Call (call (codes "abort") 208 []))) (stmt.Return (at 212) None)) ≡ at 200 ∷ at 212 ∷ []
for_simples_do_not = simp layers refl

-- for (int i = 0; i; ) assert(x);: but a declaration there is one
for_declaration_counts :
    stmt_places
    (stmt.For (at 200)
    (first.Declare
    (declare.Datums (data'.Int (at 202)) (begun (codes "i") 203 (rhs.Operand (number (codes "0") 205)) ∷ [])))
    (Some (condition (conjunction (test.Unary (unary.Operand (operand.Path (var (codes "i") 207))) ∷ []) ∷ []))) None
    (stmt.Assert (at 210)
    (condition (conjunction (test.Unary (unary.Operand (operand.Path (var (codes "x") 212))) ∷ []) ∷ [])))) ≡ at 200
    ∷ at 202 ∷ at 210 ∷ []
for_declaration_counts = simp layers refl

-- { int z; { } return; } as the block of main does not count itself
main_block :
    (block_places
    (block 200 (part'.Declare (declare.Datums (data'.Int (at 201)) (plain (codes "z") 202 ∷ []))
    ∷ part'.Stmt (stmt.Block (block 204 [] 205)) ∷ part'.Stmt (stmt.Return (at 206) None) ∷ []) 208)).within ≡ at 201
    ∷ at 204 ∷ at 206 ∷ []
main_block = simp layers refl

-- int main() { ; ; } has two statements, and its own block is none
body_counts : (g : Globals) (scope : Scope)
    → body_sites g (block 200 (part'.Stmt (stmt.Empty (at 201)) ∷ part'.Stmt (stmt.Empty (at 202)) ∷ []) 203) scope
    ≡ Counts (at 201 ∷ at 202 ∷ []) ∷ []
body_counts g scope = simp layers refl
