-- Which trees can be moved to another thread, and which can be shared: part by part, since a statement has too many
-- parts for one search.
use denote.RattleType.{RattleType}
use denote.Param.Send.{IsSend, IsSync, view_send, view_sync, struct_send as fields_send, struct_sync as fields_sync}
use denote.Param.Send.{recorded_send, recorded_sync, enum_send as variants_send, enum_sync as variants_sync, sendable}
use denote.Struct.Declared as struct
use denote.Enum.Declared as enum
use Rattle.std.proofs.Crossing as heap
use Rattle.std.specs.contracts.option.Option as Option
use Rattle.fore_base.specs.contracts.boxed.Boxed as Boxed
use Rattle.fore_base.specs.contracts.boxed.Boxed.TheInside as BoxedInside
use Rattle.fore_base.specs.contracts.list.List as List
use Rattle.fore_base.specs.contracts.list.List.TheInside as ListInside
use Rattle.fore_base.specs.contracts.place.Place as Place
use Rattle.c_ast.specs.contracts.conditions.Cond as Cond
use Rattle.c_ast.specs.contracts.items.Field as Field
use Rattle.c_ast.specs.contracts.items.Head as Head
use Rattle.c_ast.specs.contracts.items.Item as Item
use Rattle.c_ast.specs.contracts.items.Param as Param
use Rattle.c_ast.specs.contracts.items.Params as Params
use Rattle.c_ast.specs.contracts.items.ReturnType as ReturnType
use Rattle.c_ast.specs.contracts.items.Unit as Whole
use Rattle.c_ast.specs.contracts.operands.Call as Call
use Rattle.c_ast.specs.contracts.operands.Name as Name
use Rattle.c_ast.specs.contracts.operands.Operand as Operand
use Rattle.c_ast.specs.contracts.operands.Path as Path
use Rattle.c_ast.specs.contracts.simples.Rhs as Rhs
use Rattle.c_ast.specs.contracts.simples.Simple as Simple
use Rattle.c_ast.specs.contracts.statements.Block as Block
use Rattle.c_ast.specs.contracts.statements.Data as Data
use Rattle.c_ast.specs.contracts.statements.Declarator as Declarator
use Rattle.c_ast.specs.contracts.statements.Declare as Declare
use Rattle.c_ast.specs.contracts.statements.First as First
use Rattle.c_ast.specs.contracts.statements.Stmt as Stmt
use Rattle.c_ast.proofs.operands.Operand.TheLaws.TheKnot as operands
use Rattle.c_ast.proofs.conditions.Test.TheLaws.TheKnot as conditions
use Rattle.c_ast.proofs.statements.Part.TheLaws.TheKnot as statements

-- a declared type crosses as its parts do
struct_send : (T : struct.Declared) → IsSend (struct.field T).row → IsSend (struct.row T)
struct_send T is = recorded_send (struct.field T).row T.D T.to T.to_one is

enum_send : (T : enum.Declared) → IsSend (enum.field T).row → IsSend (enum.row T)
enum_send T is = recorded_send (enum.field T).row T.D T.to T.to_one is

pub list_send : (item : RattleType) → IsSend item → IsSend (List.the_row item)
list_send item is = let T = ListInside.the_type item in
    view_send (ListInside.the_row item) _ _ _ _
    (struct_send T (fields_send (struct.shape T) (heap.Vec-send item is, tt)))

pub boxed_send : (item : RattleType) → IsSend item → IsSend (Boxed.the_row item)
boxed_send item is = let T = BoxedInside.the_type item in
    view_send (BoxedInside.the_row item) _ _ _ _
    (struct_send T (fields_send (struct.shape T) (heap.Box-send item is, tt)))

pub option_send : (item : RattleType) → IsSend item → IsSend (Option.the_field item).row
option_send item is = variants_send (enum.shape (Option.the_type item)) (tt, ((is, tt), tt))

maybe_boxed_send : (item : RattleType) → IsSend item → IsSend (Option.the_row (Boxed.the_row item))
maybe_boxed_send item is =
    enum_send (Option.the_type (Boxed.the_row item)) (option_send (Boxed.the_row item) (boxed_send item is))

-- names, paths, calls and operands
pub place_send : IsSend (Place.the_field).row
place_send = search sendable depth 20

pub name_send : IsSend (Name.the_field).row
name_send = search (heap.crosses, sendable, place_send) depth 20

pub path_send : IsSend (Path.the_field).row
path_send = search (list_send, name_send, place_send, sendable) depth 20

pub operand_send : IsSend (Operand.the_field).row
operand_send = search (operands.crosses, list_send, name_send, place_send, sendable) depth 20

pub call_send : IsSend (Call.the_field).row
call_send = search (operands.crosses, list_send, name_send, place_send, sendable) depth 20

-- conditions
pub cond_send : IsSend (Cond.the_field).row
cond_send = search (conditions.crosses, list_send, boxed_send, operand_send, place_send, sendable) depth 20

-- right sides, simple statements and declarations
pub rhs_send : IsSend (Rhs.the_field).row
rhs_send = search (operand_send, path_send, name_send, place_send, sendable) depth 20

pub simple_send : IsSend (Simple.the_field).row
simple_send = variants_send (enum.shape Simple.the_type)
    ((path_send, (rhs_send, tt)), ((call_send, tt), ((place_send, (path_send, tt)), tt)))

pub data_send : IsSend (Data.the_field).row
data_send = search (name_send, place_send, sendable) depth 20

pub declarator_send : IsSend (Declarator.the_field).row
declarator_send = fields_send (struct.shape Declarator.the_type)
    (name_send, (option_send Rhs.the_row (enum_send Rhs.the_type rhs_send), tt))

declarators_send : IsSend (List.the_row Declarator.the_row)
declarators_send = list_send Declarator.the_row (struct_send Declarator.the_type declarator_send)

pub declare_send : IsSend (Declare.the_field).row
declare_send = variants_send (enum.shape Declare.the_type)
    ((place_send, (name_send, (declarators_send, tt))), ((data_send, (declarators_send, tt)), tt))

pub first_send : IsSend (First.the_field).row
first_send = variants_send (enum.shape First.the_type) ((declare_send, tt), ((simple_send, tt), (tt, tt)))

-- statements and blocks
maybe_cond_send : IsSend (Option.the_field Cond.the_row).row
maybe_cond_send = option_send Cond.the_row (struct_send Cond.the_type cond_send)

boxed_simple_send : IsSend (Boxed.the_field Simple.the_row).row
boxed_simple_send = boxed_send Simple.the_row (enum_send Simple.the_type simple_send)

boxed_first_send : IsSend (Boxed.the_field First.the_row).row
boxed_first_send = boxed_send First.the_row (enum_send First.the_type first_send)

maybe_simple_send : IsSend (Option.the_field (Boxed.the_row Simple.the_row)).row
maybe_simple_send = option_send (Boxed.the_row Simple.the_row) boxed_simple_send

maybe_operand_send : IsSend (Option.the_field Operand.the_row).row
maybe_operand_send = option_send Operand.the_row (enum_send Operand.the_type operand_send)

pub block_send : IsSend (Block.the_field).row
block_send = statements.send-Block declare_send place_send boxed_simple_send cond_send boxed_send maybe_boxed_send
    boxed_first_send maybe_cond_send maybe_simple_send maybe_operand_send list_send

pub stmt_send : IsSend (Stmt.the_field).row
stmt_send = statements.send-Stmt declare_send place_send boxed_simple_send cond_send boxed_send maybe_boxed_send
    boxed_first_send maybe_cond_send maybe_simple_send maybe_operand_send list_send

-- items and whole texts
names_send : IsSend (List.the_row Name.the_row)
names_send = list_send Name.the_row (struct_send Name.the_type name_send)

pub field_send : IsSend (Field.the_field).row
field_send = variants_send (enum.shape Field.the_type)
    ((place_send, (name_send, (names_send, tt))), ((data_send, (names_send, tt)), tt))

maybe_fields_send : IsSend (Option.the_field (List.the_row Field.the_row)).row
maybe_fields_send = option_send (List.the_row Field.the_row)
    (list_send Field.the_row (enum_send Field.the_type field_send))

maybe_place_send : IsSend (Option.the_field Place.the_row).row
maybe_place_send = option_send Place.the_row (struct_send Place.the_type place_send)

return_send : IsSend (ReturnType.the_field).row
return_send = search (data_send, name_send, place_send, sendable) depth 20

param_send : IsSend (Param.the_field).row
param_send = search (data_send, name_send, place_send, sendable) depth 20

params_send : IsSend (Params.the_field).row
params_send = variants_send (enum.shape Params.the_type)
    ((place_send, tt), ((list_send Param.the_row (enum_send Param.the_type param_send), tt), tt))

pub head_send : IsSend (Head.the_field).row
head_send = fields_send (struct.shape Head.the_type)
    (return_send, (name_send, (option_send Params.the_row (enum_send Params.the_type params_send), tt)))

pub item_send : IsSend (Item.the_field).row
item_send = variants_send (enum.shape Item.the_type) (
  (place_send, (name_send, (maybe_fields_send, tt))),
  (
    (place_send, (name_send, (names_send, tt))),
    ((maybe_place_send, (head_send, tt)), ((head_send, (block_send, tt)), ((declare_send, tt), tt))),
  ),
)

pub unit_send : IsSend (Whole.the_field).row
unit_send = fields_send (struct.shape Whole.the_type)
    (list_send Item.the_row (enum_send Item.the_type item_send), (maybe_place_send, (place_send, tt)))

-- a declared type crosses as its parts do
struct_sync : (T : struct.Declared) → IsSync (struct.field T).row → IsSync (struct.row T)
struct_sync T is = recorded_sync (struct.field T).row T.D T.to T.to_one is

enum_sync : (T : enum.Declared) → IsSync (enum.field T).row → IsSync (enum.row T)
enum_sync T is = recorded_sync (enum.field T).row T.D T.to T.to_one is

pub list_sync : (item : RattleType) → IsSync item → IsSync (List.the_row item)
list_sync item is = let T = ListInside.the_type item in
    view_sync (ListInside.the_row item) _ _ _ _
    (struct_sync T (fields_sync (struct.shape T) (heap.Vec-sync item is, tt)))

pub boxed_sync : (item : RattleType) → IsSync item → IsSync (Boxed.the_row item)
boxed_sync item is = let T = BoxedInside.the_type item in
    view_sync (BoxedInside.the_row item) _ _ _ _
    (struct_sync T (fields_sync (struct.shape T) (heap.Box-sync item is, tt)))

pub option_sync : (item : RattleType) → IsSync item → IsSync (Option.the_field item).row
option_sync item is = variants_sync (enum.shape (Option.the_type item)) (tt, ((is, tt), tt))

maybe_boxed_sync : (item : RattleType) → IsSync item → IsSync (Option.the_row (Boxed.the_row item))
maybe_boxed_sync item is =
    enum_sync (Option.the_type (Boxed.the_row item)) (option_sync (Boxed.the_row item) (boxed_sync item is))

-- names, paths, calls and operands
pub place_sync : IsSync (Place.the_field).row
place_sync = search sendable depth 20

pub name_sync : IsSync (Name.the_field).row
name_sync = search (heap.crosses, sendable, place_sync) depth 20

pub path_sync : IsSync (Path.the_field).row
path_sync = search (list_sync, name_sync, place_sync, sendable) depth 20

pub operand_sync : IsSync (Operand.the_field).row
operand_sync = search (operands.crosses, list_sync, name_sync, place_sync, sendable) depth 20

pub call_sync : IsSync (Call.the_field).row
call_sync = search (operands.crosses, list_sync, name_sync, place_sync, sendable) depth 20

-- conditions
pub cond_sync : IsSync (Cond.the_field).row
cond_sync = search (conditions.crosses, list_sync, boxed_sync, operand_sync, place_sync, sendable) depth 20

-- right sides, simple statements and declarations
pub rhs_sync : IsSync (Rhs.the_field).row
rhs_sync = search (operand_sync, path_sync, name_sync, place_sync, sendable) depth 20

pub simple_sync : IsSync (Simple.the_field).row
simple_sync = variants_sync (enum.shape Simple.the_type)
    ((path_sync, (rhs_sync, tt)), ((call_sync, tt), ((place_sync, (path_sync, tt)), tt)))

pub data_sync : IsSync (Data.the_field).row
data_sync = search (name_sync, place_sync, sendable) depth 20

pub declarator_sync : IsSync (Declarator.the_field).row
declarator_sync = fields_sync (struct.shape Declarator.the_type)
    (name_sync, (option_sync Rhs.the_row (enum_sync Rhs.the_type rhs_sync), tt))

declarators_sync : IsSync (List.the_row Declarator.the_row)
declarators_sync = list_sync Declarator.the_row (struct_sync Declarator.the_type declarator_sync)

pub declare_sync : IsSync (Declare.the_field).row
declare_sync = variants_sync (enum.shape Declare.the_type)
    ((place_sync, (name_sync, (declarators_sync, tt))), ((data_sync, (declarators_sync, tt)), tt))

pub first_sync : IsSync (First.the_field).row
first_sync = variants_sync (enum.shape First.the_type) ((declare_sync, tt), ((simple_sync, tt), (tt, tt)))

-- statements and blocks
maybe_cond_sync : IsSync (Option.the_field Cond.the_row).row
maybe_cond_sync = option_sync Cond.the_row (struct_sync Cond.the_type cond_sync)

boxed_simple_sync : IsSync (Boxed.the_field Simple.the_row).row
boxed_simple_sync = boxed_sync Simple.the_row (enum_sync Simple.the_type simple_sync)

boxed_first_sync : IsSync (Boxed.the_field First.the_row).row
boxed_first_sync = boxed_sync First.the_row (enum_sync First.the_type first_sync)

maybe_simple_sync : IsSync (Option.the_field (Boxed.the_row Simple.the_row)).row
maybe_simple_sync = option_sync (Boxed.the_row Simple.the_row) boxed_simple_sync

maybe_operand_sync : IsSync (Option.the_field Operand.the_row).row
maybe_operand_sync = option_sync Operand.the_row (enum_sync Operand.the_type operand_sync)

pub block_sync : IsSync (Block.the_field).row
block_sync = statements.sync-Block declare_sync place_sync boxed_simple_sync cond_sync boxed_sync maybe_boxed_sync
    boxed_first_sync maybe_cond_sync maybe_simple_sync maybe_operand_sync list_sync

pub stmt_sync : IsSync (Stmt.the_field).row
stmt_sync = statements.sync-Stmt declare_sync place_sync boxed_simple_sync cond_sync boxed_sync maybe_boxed_sync
    boxed_first_sync maybe_cond_sync maybe_simple_sync maybe_operand_sync list_sync

-- items and whole texts
names_sync : IsSync (List.the_row Name.the_row)
names_sync = list_sync Name.the_row (struct_sync Name.the_type name_sync)

pub field_sync : IsSync (Field.the_field).row
field_sync = variants_sync (enum.shape Field.the_type)
    ((place_sync, (name_sync, (names_sync, tt))), ((data_sync, (names_sync, tt)), tt))

maybe_fields_sync : IsSync (Option.the_field (List.the_row Field.the_row)).row
maybe_fields_sync = option_sync (List.the_row Field.the_row)
    (list_sync Field.the_row (enum_sync Field.the_type field_sync))

maybe_place_sync : IsSync (Option.the_field Place.the_row).row
maybe_place_sync = option_sync Place.the_row (struct_sync Place.the_type place_sync)

return_sync : IsSync (ReturnType.the_field).row
return_sync = search (data_sync, name_sync, place_sync, sendable) depth 20

param_sync : IsSync (Param.the_field).row
param_sync = search (data_sync, name_sync, place_sync, sendable) depth 20

params_sync : IsSync (Params.the_field).row
params_sync = variants_sync (enum.shape Params.the_type)
    ((place_sync, tt), ((list_sync Param.the_row (enum_sync Param.the_type param_sync), tt), tt))

pub head_sync : IsSync (Head.the_field).row
head_sync = fields_sync (struct.shape Head.the_type)
    (return_sync, (name_sync, (option_sync Params.the_row (enum_sync Params.the_type params_sync), tt)))

pub item_sync : IsSync (Item.the_field).row
item_sync = variants_sync (enum.shape Item.the_type) (
  (place_sync, (name_sync, (maybe_fields_sync, tt))),
  (
    (place_sync, (name_sync, (names_sync, tt))),
    ((maybe_place_sync, (head_sync, tt)), ((head_sync, (block_sync, tt)), ((declare_sync, tt), tt))),
  ),
)

pub unit_sync : IsSync (Whole.the_field).row
unit_sync = fields_sync (struct.shape Whole.the_type)
    (list_sync Item.the_row (enum_sync Item.the_type item_sync), (maybe_place_sync, (place_sync, tt)))
