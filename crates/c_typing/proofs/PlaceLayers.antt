-- The places of each kind of part, statement and block.
use Rattle.std.proofs.Common.{◌≡◌, List, [], ◌∷◌, ◌++◌, Option, Some, None, map, sym, ap, ◌∙◌}
use Rattle.fore_base.specs.declared.place.Place.{Place}
use Rattle.c_ast.specs.declared.conditions.Cond.{Cond}
use Rattle.c_ast.specs.declared.operands.Operand.{Operand}
use Rattle.c_ast.specs.declared.simples.Simple.{Simple}
use Rattle.c_ast.specs.declared.statements.Block.{Block, roll-Block, fold-roll-Block}
use Rattle.c_ast.specs.declared.statements.Declare.{Declare}
use Rattle.c_ast.specs.declared.statements.First.{First}
use Rattle.c_ast.specs.declared.statements.Part as part
use Rattle.c_ast.specs.declared.statements.Part.TheOpen as layer
use Rattle.c_ast.specs.declared.statements.Part.TheVariants as part'
use Rattle.c_ast.specs.declared.statements.Stmt.{Stmt, Stmt-F, roll-Stmt, map-Stmt, fold-roll-Stmt}
use Rattle.c_ast.specs.declared.statements.Stmt.TheVariants as stmt
use Rattle.c_typing.specs.BodySites.{declare_place, simple_place, first_places, BlockPlaces, part_places_step}
use Rattle.c_typing.specs.BodySites.{block_places_step, stmt_places_step, part_places, stmt_places, block_places}
use Rattle.c_typing.specs.BodySites.{other_places}
use Rattle.c_typing.specs.Texts.{joined}

pub places-Declare : (d : Declare) → part_places (part'.Declare d) ≡ declare_place d ∷ []
places-Declare d = ap part_places (sym (part'.rolls-Declare d))
    ∙ part.fold-roll-Part (List Place) (List Place) BlockPlaces part_places_step stmt_places_step block_places_step
    (layer.Declare d)

pub places-Stmt : (s : Stmt) → part_places (part'.Stmt s) ≡ stmt_places s
places-Stmt s = ap part_places (sym (part'.rolls-Stmt s))
    ∙ part.fold-roll-Part (List Place) (List Place) BlockPlaces part_places_step stmt_places_step block_places_step
    (layer.Stmt s)

pub places-parts : (at close : Place) (parts : List part.Part)
    → block_places (roll-Block (record { at = at; parts = parts; close = close }))
    ≡ record { at = at; within = joined (map part_places parts) }
places-parts at close parts =
    fold-roll-Block (List Place) (List Place) BlockPlaces part_places_step stmt_places_step block_places_step
    (record { at = at; parts = parts; close = close })

-- the places of a statement, by its layer
places_layer : (y : Stmt-F part.Part Stmt Block) {s : Stmt} → roll-Stmt y ≡ s → stmt_places s
    ≡ stmt_places_step (map-Stmt _ _ _ _ _ _ part_places stmt_places block_places y)
places_layer y is = ap stmt_places (sym is)
    ∙ fold-roll-Stmt (List Place) (List Place) BlockPlaces part_places_step stmt_places_step block_places_step y

pub places-Empty-stmt : (at : Place) → stmt_places (stmt.Empty at) ≡ at ∷ []
places-Empty-stmt at = places_layer (layer.Empty at) (stmt.rolls-Empty at)

pub places-Block-stmt : (b : Block) → stmt_places (stmt.Block b) ≡ (block_places b).at ∷ (block_places b).within
places-Block-stmt b = places_layer (layer.Block b) (stmt.rolls-Block b)

pub places-Simple-stmt : (s : Simple) → stmt_places (stmt.Simple s) ≡ simple_place s ∷ []
places-Simple-stmt s = places_layer (layer.Simple s) (stmt.rolls-Simple s)

pub places-While-stmt : (at : Place) (c : Cond) (body : Stmt) → stmt_places (stmt.While at c body)
    ≡ at ∷ stmt_places body
places-While-stmt at c body = places_layer (layer.While at c body) (stmt.rolls-While at c body)

pub places-Do-stmt : (at : Place) (body : Stmt) (c : Cond) → stmt_places (stmt.Do at body c) ≡ at ∷ stmt_places body
places-Do-stmt at body c = places_layer (layer.Do at body c) (stmt.rolls-Do at body c)

pub places-For-stmt : (at : Place) (f : First) (c : Option Cond) (next : Option Simple) (body : Stmt)
    → stmt_places (stmt.For at f c next body) ≡ at ∷ first_places f ++ stmt_places body
places-For-stmt at f c next body = places_layer (layer.For at f c next body) (stmt.rolls-For at f c next body)

pub places-Return-stmt : (at : Place) (o : Option Operand) → stmt_places (stmt.Return at o) ≡ at ∷ []
places-Return-stmt at o = places_layer (layer.Return at o) (stmt.rolls-Return at o)

pub places-Break-stmt : (at : Place) → stmt_places (stmt.Break at) ≡ at ∷ []
places-Break-stmt at = places_layer (layer.Break at) (stmt.rolls-Break at)

pub places-Continue-stmt : (at : Place) → stmt_places (stmt.Continue at) ≡ at ∷ []
places-Continue-stmt at = places_layer (layer.Continue at) (stmt.rolls-Continue at)

pub places-Assert-stmt : (at : Place) (c : Cond) → stmt_places (stmt.Assert at c) ≡ at ∷ []
places-Assert-stmt at c = places_layer (layer.Assert at c) (stmt.rolls-Assert at c)

pub places-If-stmt : (at : Place) (c : Cond) (s : Stmt) (other : Option Stmt) → stmt_places (stmt.If at c s other)
    ≡ at ∷ stmt_places s ++ other_places other
places-If-stmt at c s None = places_layer (layer.If at c s None) (stmt.rolls-If at c s None)
places-If-stmt at c s (Some o) = places_layer (layer.If at c s (Some o)) (stmt.rolls-If at c s (Some o))

pub ruleset place_layers = (
  places-Declare,
  places-Stmt,
  places-parts,
  places-Empty-stmt,
  places-Block-stmt,
  places-Simple-stmt,
  places-While-stmt,
  places-Do-stmt,
  places-For-stmt,
  places-Return-stmt,
  places-Break-stmt,
  places-Continue-stmt,
  places-Assert-stmt,
  places-If-stmt,
)
