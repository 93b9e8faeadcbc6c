-- Short forms of trees for the rows: each token has a number, which is its offset, its line and its column.
use Rattle.std.proofs.Common.{ℕ, suc, false, List, [], ◌∷◌, Option, Some, None, codes}
use Rattle.fore_base.specs.declared.place.Place.{Place}
use Rattle.c_ast.specs.declared.conditions.And.{And, roll-And}
use Rattle.c_ast.specs.declared.conditions.Cond.{Cond, roll-Cond}
use Rattle.c_ast.specs.declared.conditions.Test.{Test}
use Rattle.c_ast.specs.declared.items.Item.{Item}
use Rattle.c_ast.specs.declared.items.ReturnType.{ReturnType}
use Rattle.c_ast.specs.declared.operands.Arrow.{Arrow}
use Rattle.c_ast.specs.declared.operands.Call.{Call, roll-Call}
use Rattle.c_ast.specs.declared.operands.Name.{Name}
use Rattle.c_ast.specs.declared.operands.Operand.{Operand}
use Rattle.c_ast.specs.declared.operands.Operand.TheVariants as operand
use Rattle.c_ast.specs.declared.operands.Path.{Path}
use Rattle.c_ast.specs.declared.simples.Rhs.{Rhs}
use Rattle.c_ast.specs.declared.statements.Block.{Block, roll-Block}
use Rattle.c_ast.specs.declared.statements.Declarator.{Declarator}
use Rattle.c_ast.specs.declared.statements.Part as part
use Rattle.c_ast.specs.declared.statements.Stmt.{Stmt}
use Rattle.c_ast.specs.declared.items.Head.{Head}
use Rattle.c_ast.specs.declared.items.Params.{Params}
use Rattle.c_ast.specs.declared.items.Unit.{Unit}
use Rattle.c_typing.specs.BodySites.{stmt_sites}
use Rattle.c_typing.specs.Globals.{Globals}
use Rattle.c_typing.specs.Scopes.{Scope}
use Rattle.c_typing.specs.declared.meaning.Kind.TheVariants.{Points, Datum}
use Rattle.c_typing.specs.Texts.{Text}
use Rattle.c_typing.specs.Typing.{breaches_of}
use Rattle.c_typing.specs.declared.fault.TypeFault.{TypeFault}

abbrev pub at : ℕ → Place
at n = record { offset = n; line = n; column = n }

abbrev pub name : Text → ℕ → Name
name x n = record { text = x; at = at n }

-- v, v->f and v->f->h
abbrev pub var : Text → ℕ → Path
var x n = record { head = name x n; arrows = [] }

abbrev pub arrow : Text → ℕ → Arrow
arrow f n = record { at = at n; field = name f (suc n) }

abbrev pub path : Text → ℕ → List Arrow → Path
path x n arrows = record { head = name x n; arrows = arrows }

abbrev pub call : Text → ℕ → List Operand → Call
call x n os = roll-Call (record { name = name x n; operands = os })

abbrev pub number : Text → ℕ → Operand
number x n = operand.Number (name x n)

abbrev pub conjunction : List Test → And
conjunction tests = roll-And (record { tests = tests })

abbrev pub condition : List And → Cond
condition ands = roll-Cond (record { ands = ands })

abbrev pub plain : Text → ℕ → Declarator
plain x n = record { name = name x n; from = None }

abbrev pub begun : Text → ℕ → Rhs → Declarator
begun x n r = record { name = name x n; from = Some r }

abbrev pub block : ℕ → List part.Part → ℕ → Block
block n ps m = roll-Block (record { at = at n; parts = ps; close = at m })

abbrev pub head : ReturnType → Name → Option Params → Head
head gives name params = record { gives = gives; name = name; params = params }

-- a file of these items, whose end is token n
abbrev pub unit : List Item → ℕ → Unit
unit items n = record { items = items; over = None; end = at n }

-- struct node { struct node *next; int key; };
-- struct item { struct node *head; struct item *twin; struct none *lost; int mark; };
-- enum color { RED, BLUE };
abbrev pub file : Globals
file = record {
  structs =
      record {
        name = codes "node";
        fields = record { name = codes "next"; kind = Points (Some 0) }
            ∷ record { name = codes "key"; kind = Datum } ∷ [];
      }
      ∷ record {
        name = codes "item";
        fields = record { name = codes "head"; kind = Points (Some 0) }
            ∷ record { name = codes "twin"; kind = Points (Some 1) }
            ∷ record { name = codes "lost"; kind = Points None } ∷ record { name = codes "mark"; kind = Datum } ∷ [];
      } ∷ [];
  enums = codes "color" ∷ [];
  values = record { name = codes "RED"; value = 0 } ∷ record { name = codes "BLUE"; value = 1 } ∷ [];
  functions = [];
  main = None;
  calls = [] ∷ [];
}

-- in a block: struct node *p; struct item *q, *r; int x, y;
abbrev pub here : Scope
here = record {
  home = None;
  blocks =
      (record { name = codes "y"; kind = Datum; number = 1 } ∷ record { name = codes "x"; kind = Datum; number = 0 }
      ∷ record { name = codes "r"; kind = Points (Some 1); number = 2 }
      ∷ record { name = codes "q"; kind = Points (Some 1); number = 1 }
      ∷ record { name = codes "p"; kind = Points (Some 0); number = 0 } ∷ []) ∷ [];
  vars = record { name = codes "p"; shape = 0 } ∷ record { name = codes "q"; shape = 1 }
      ∷ record { name = codes "r"; shape = 1 } ∷ [];
  data_vars = codes "x" ∷ codes "y" ∷ [];
}

-- what a statement there breaks, outside loops
abbrev pub breaks : Stmt → List TypeFault
breaks s = breaches_of file (stmt_sites file s false here)
