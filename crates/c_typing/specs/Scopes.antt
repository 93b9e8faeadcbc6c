-- The variables that are in scope at a place of a body, and those that were declared before it (ISO/IEC 9899:2011,
-- 6.2.1).
use Rattle.std.specs.Prelude.{ℕ, ◌+◌, Bool, cond, nat_lt, List, [], ◌∷◌, ◌++◌, map, length, codes, Option, Some, None}
use Rattle.c_ast.specs.declared.items.Head.{Head}
use Rattle.c_ast.specs.declared.items.Item.{Item}
use Rattle.c_ast.specs.declared.items.Item.TheVariants as item
use Rattle.c_ast.specs.declared.items.Param.{Param}
use Rattle.c_ast.specs.declared.items.Param.TheVariants as param
use Rattle.c_ast.specs.declared.operands.Name.{Name}
use Rattle.c_ast.specs.declared.statements.Block.{Block, fold-Block, Block-F}
use Rattle.c_ast.specs.declared.statements.Declarator.{Declarator}
use Rattle.c_ast.specs.declared.statements.Declare.{Declare}
use Rattle.c_ast.specs.declared.statements.Declare.TheVariants as declare
use Rattle.c_ast.specs.declared.statements.First.{First}
use Rattle.c_ast.specs.declared.statements.First.TheVariants as first
use Rattle.c_ast.specs.declared.statements.Part as part
use Rattle.c_ast.specs.declared.statements.Part.TheOpen as stmt
use Rattle.c_ast.specs.declared.statements.Stmt.{Stmt, fold-Stmt, Stmt-F}
use Rattle.c_types.specs.declared.program.VarDef.{VarDef}
use Rattle.c_types.specs.declared.program.VarRef.{VarRef}
use Rattle.c_types.specs.declared.program.VarRef.TheVariants as ref
use Rattle.c_typing.specs.Globals.{Globals, struct_number, struct_names, function_number, is_main, result_kind}
use Rattle.c_typing.specs.Globals.{param_kind, params_of}
use Rattle.c_typing.specs.Texts.{Text, same, has, joined}
use Rattle.c_typing.specs.declared.meaning.Kind.{Kind}
use Rattle.c_typing.specs.declared.meaning.Kind.TheVariants.{Points, Datum}

-- a variable with its number among those of its kind
pub record Var : Type 0 where
  pub name : Text
  pub kind : Kind
  pub number : ℕ

-- The number of the function around, none being that of `main`. The blocks that are open, innermost first, each with
-- the variables that it has declared so far, the last one first. And all variables of the file so far, also those of
-- blocks that are closed: pointers and data apart, in order.
pub record Scope : Type 0 where
  pub home : Option ℕ
  pub blocks : List (List Var)
  pub vars : List VarDef
  pub data_vars : List Text

abbrev pub empty_scope : Scope
empty_scope = record { home = None; blocks = []; vars = []; data_vars = [] }

abbrev pub var_name : Var → Text
var_name v = v.name

abbrev pub var_in : Text → List Var → Option Var
var_in x [] = None
var_in x (v ∷ vs) = cond (same x v.name) (Some v) (var_in x vs)

-- the innermost variable of this name
abbrev pub look_up : Scope → Text → Option Var
look_up scope x = var_in x (joined scope.blocks)

abbrev pub innermost : List (List Var) → List Var
innermost [] = []
innermost (b ∷ bs) = b

-- all blocks but the innermost one
abbrev pub outer : {X : Type 0} → List (List X) → List (List X)
outer [] = []
outer (b ∷ bs) = bs

-- how many variables were declared
abbrev pub declared_so_far : Scope → ℕ
declared_so_far scope = length scope.vars + length scope.data_vars

-- the variable is one of those that were declared
abbrev pub is_declared : Scope → VarRef → Bool
is_declared scope (ref.Ptr x) = nat_lt x (length scope.vars)
is_declared scope (ref.Data x) = nat_lt x (length scope.data_vars)

-- one more block is open
abbrev pub opened : Scope → Scope
opened scope = record
    { home = scope.home; blocks = [] ∷ scope.blocks; vars = scope.vars; data_vars = scope.data_vars }

-- the blocks that were open before, after what was declared within
abbrev pub closed : Scope → Scope → Scope
closed before within = record
    { home = before.home; blocks = before.blocks; vars = within.vars; data_vars = within.data_vars }

-- The innermost block with one more variable. Of two variables of one name in one block the first counts.
abbrev pub with_var : Var → List (List Var) → List (List Var)
with_var v [] = []
with_var v (b ∷ bs) = cond (has v.name (map var_name b)) (b ∷ bs) ((v ∷ b) ∷ bs)

-- the struct of this number; 0 where there is none, which breaks a rule
abbrev pub or_zero : Option ℕ → ℕ
or_zero None = 0
or_zero (Some n) = n

-- after a declarator
abbrev pub declared : Scope → Text → Kind → Scope
declared scope x (Points to) = record {
  home = scope.home;
  blocks = with_var (record { name = x; kind = Points to; number = length scope.vars }) scope.blocks;
  vars = scope.vars ++ (record { name = x; shape = or_zero to }) ∷ [];
  data_vars = scope.data_vars;
}
declared scope x Datum = record {
  home = scope.home;
  blocks = with_var (record { name = x; kind = Datum; number = length scope.data_vars }) scope.blocks;
  vars = scope.vars;
  data_vars = scope.data_vars ++ x ∷ [];
}

-- after declarators of one kind
abbrev pub all_declared : Kind → List Declarator → Scope → Scope
all_declared kind [] scope = scope
all_declared kind (d ∷ ds) scope = all_declared kind ds (declared scope d.name.text kind)

-- what a declaration declares
abbrev pub kind_of : Globals → Declare → Kind
kind_of g (declare.Pointers at name vars) = Points (struct_number g name.text)
kind_of g (declare.Datums base vars) = Datum

abbrev pub declarators_of : Declare → List Declarator
declarators_of (declare.Pointers at name vars) = vars
declarators_of (declare.Datums base vars) = vars

-- the variable that comes next
abbrev pub next_ref : Kind → Scope → VarRef
next_ref (Points to) scope = ref.Ptr (length scope.vars)
next_ref Datum scope = ref.Data (length scope.data_vars)

-- The result of `f` is a variable that is printed as `f()`. It is declared where no block is open, so it is in scope
-- nowhere.
abbrev pub result_declared : Option Kind → Text → Scope → Scope
result_declared None x scope = scope
result_declared (Some k) x scope = declared scope (x ++ codes "()") k

abbrev pub param_name : Param → Name
param_name (param.Pointer at shape name) = name
param_name (param.Datum base name) = name

-- between functions no block is open
abbrev pub outside : Scope → Scope
outside scope = record { home = None; blocks = []; vars = scope.vars; data_vars = scope.data_vars }

module _ (g : Globals) where
  abbrev pub past_declare : Declare → Scope → Scope
  past_declare d = all_declared (kind_of g d) (declarators_of d)

  -- after what stands first in the head of a `for`
  abbrev pub past_first : First → Scope → Scope
  past_first (first.Declare d) scope = past_declare d scope
  past_first (first.Simple s) scope = scope
  past_first first.Nothing scope = scope

  -- after parts of a block
  abbrev pub past_each : List (Scope → Scope) → Scope → Scope
  past_each [] scope = scope
  past_each (p ∷ ps) scope = past_each ps (p scope)

  abbrev pub past_else : Option (Scope → Scope) → Scope → Scope
  past_else None scope = scope
  past_else (Some s) scope = s scope

  abbrev pub past_part_step : part.Part-F (Scope → Scope) (Scope → Scope) (Scope → Scope) → Scope → Scope
  past_part_step (stmt.Declare d) scope = past_declare d scope
  past_part_step (stmt.Stmt s) scope = s scope

  abbrev pub past_block_step : Block-F (Scope → Scope) (Scope → Scope) (Scope → Scope) → Scope → Scope
  past_block_step b scope = closed scope (past_each b.parts (opened scope))

  -- a `for` is a block of its own
  abbrev pub past_stmt_step : Stmt-F (Scope → Scope) (Scope → Scope) (Scope → Scope) → Scope → Scope
  past_stmt_step (stmt.Empty at) scope = scope
  past_stmt_step (stmt.Block b) scope = b scope
  past_stmt_step (stmt.Simple s) scope = scope
  past_stmt_step (stmt.If at c then_ other) scope = past_else other (then_ scope)
  past_stmt_step (stmt.While at c body) scope = body scope
  past_stmt_step (stmt.Do at body c) scope = body scope
  past_stmt_step (stmt.For at f c next body) scope = closed scope (body (past_first f (opened scope)))
  past_stmt_step (stmt.Return at o) scope = scope
  past_stmt_step (stmt.Break at) scope = scope
  past_stmt_step (stmt.Continue at) scope = scope
  past_stmt_step (stmt.Assert at c) scope = scope

  -- after a part of a block, after a statement, and after a block: what is in scope, and what was declared
  abbrev pub past_part : part.Part → Scope → Scope
  past_part = part.fold-Part (Scope → Scope) (Scope → Scope) (Scope → Scope) past_part_step past_stmt_step
      past_block_step

  abbrev pub past_stmt : Stmt → Scope → Scope
  past_stmt = fold-Stmt (Scope → Scope) (Scope → Scope) (Scope → Scope) past_part_step past_stmt_step past_block_step

  abbrev pub past_block : Block → Scope → Scope
  past_block = fold-Block (Scope → Scope) (Scope → Scope) (Scope → Scope) past_part_step past_stmt_step past_block_step

  abbrev pub past_parts : List part.Part → Scope → Scope
  past_parts ps = past_each (map past_part ps)

  abbrev pub past_other : Option Stmt → Scope → Scope
  past_other None scope = scope
  past_other (Some s) scope = past_stmt s scope

  -- Functions (6.9.1): what was declared so far is handed on from one to the next, also from one that is refused.

  -- in a function with this head, of which nothing is declared yet
  abbrev pub begun : Head → Scope → Scope
  begun h scope = record
      { home = function_number g h.name.text; blocks = []; vars = scope.vars; data_vars = scope.data_vars }

  -- what the result of a function with this head is, if it has one; that of `main` is no variable
  abbrev pub result_of : Head → Option Kind
  result_of h = cond (is_main h) None (result_kind (struct_names g) h.gives)

  abbrev pub past_result : Head → Scope → Scope
  past_result h scope = result_declared (result_of h) h.name.text (begun h scope)

  abbrev pub past_params : List Param → Scope → Scope
  past_params [] scope = scope
  past_params (p ∷ ps) scope =
      past_params ps (declared scope (param_name p).text (param_kind (struct_names g) p))

  -- where the body of a function begins: its parameters are in a block of their own
  abbrev pub past_head : Head → Scope → Scope
  past_head h scope = past_params (params_of h.params) (opened (past_result h scope))

  -- after an item
  abbrev pub past_item : Item → Scope → Scope
  past_item (item.Struct at name fields) scope = scope
  past_item (item.Enum at name values) scope = scope
  past_item (item.Proto outer head) scope = scope
  past_item (item.Function head body) scope = outside (past_block body (past_head head scope))
  past_item (item.Declare d) scope = scope

  abbrev pub past_items : List Item → Scope → Scope
  past_items [] scope = scope
  past_items (i ∷ is) scope = past_items is (past_item i scope)
