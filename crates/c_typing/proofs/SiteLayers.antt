-- The sites of each kind of part, statement and block.
use Rattle.std.proofs.Common.{◌≡◌, Bool, true, List, [], ◌∷◌, ◌++◌, Option, Some, None, is_some, map, refl, sym, ap}
use Rattle.std.proofs.Common.{◌∙◌}
use Rattle.fore_base.specs.declared.place.Place.{Place}
use Rattle.c_ast.specs.declared.conditions.Cond.{Cond}
use Rattle.c_ast.specs.declared.operands.Operand.{Operand}
use Rattle.c_ast.specs.declared.simples.Simple.{Simple}
use Rattle.c_ast.specs.declared.statements.Block.{Block, roll-Block, para-roll-Block}
use Rattle.c_ast.specs.declared.statements.Declare.{Declare}
use Rattle.c_ast.specs.declared.statements.First.{First}
use Rattle.c_ast.specs.declared.statements.Part as part
use Rattle.c_ast.specs.declared.statements.Part.TheOpen as layer
use Rattle.c_ast.specs.declared.statements.Part.TheVariants as part'
use Rattle.c_ast.specs.declared.statements.Stmt.{Stmt, Stmt-F, roll-Stmt, map-Stmt, para-roll-Stmt}
use Rattle.c_ast.specs.declared.statements.Stmt.TheVariants as stmt
use Rattle.c_typing.specs.BodySites.{maybe_sites, declare_sites, first_sites, rest_sites, Sites, part_step, each_sites}
use Rattle.c_typing.specs.BodySites.{block_step, stmt_step, part_sites, stmt_sites, block_sites, parts_sites}
use Rattle.c_typing.specs.BodySites.{other_sites}
use Rattle.c_typing.specs.Globals.{Globals}
use Rattle.c_typing.specs.Scopes.{Scope, opened, past_first, past_part, past_stmt}
use Rattle.c_typing.specs.Sites.{Returns, Jumps, want_of_return, wanted_sites, simple_sites, cond_sites}
use Rattle.c_typing.specs.declared.meaning.Spot.TheVariants.{Elsewhere}

module _ (g : Globals) where
  each_parts : (parts : List part.Part) (loop : Bool) (scope : Scope)
      → each_sites g (map (λ p. (p, part_sites g p)) parts) loop scope ≡ parts_sites g parts loop scope
  each_parts [] loop scope = refl
  each_parts (p ∷ ps) loop scope = ap (λ k. part_sites g p loop scope ++ k) (each_parts ps loop (past_part g p scope))

  pub part-Declare : (d : Declare) (loop : Bool) (scope : Scope) → part_sites g (part'.Declare d) loop scope
      ≡ declare_sites g d scope
  part-Declare d loop scope = ap (λ p. part_sites g p loop scope) (sym (part'.rolls-Declare d))
      ∙ ap (λ f. f loop scope)
      (part.para-roll-Part (Sites g) (Sites g) (Sites g) (part_step g) (stmt_step g) (block_step g) (layer.Declare d))

  pub part-Stmt : (s : Stmt) (loop : Bool) (scope : Scope) → part_sites g (part'.Stmt s) loop scope
      ≡ stmt_sites g s loop scope
  part-Stmt s loop scope = ap (λ p. part_sites g p loop scope) (sym (part'.rolls-Stmt s))
      ∙ ap (λ f. f loop scope)
      (part.para-roll-Part (Sites g) (Sites g) (Sites g) (part_step g) (stmt_step g) (block_step g) (layer.Stmt s))

  pub block-parts : (at close : Place) (parts : List part.Part) (loop : Bool) (scope : Scope)
      → block_sites g (roll-Block (record { at = at; parts = parts; close = close })) loop scope
      ≡ parts_sites g parts loop (opened scope)
  block-parts at close parts loop scope =
      ap (λ f. f loop scope)
      (para-roll-Block (Sites g) (Sites g) (Sites g) (part_step g) (stmt_step g) (block_step g)
      (record { at = at; parts = parts; close = close })) ∙ each_parts parts loop (opened scope)

  -- the sites of a statement, by its layer
  sites_layer : (y : Stmt-F part.Part Stmt Block) {s : Stmt} → roll-Stmt y ≡ s → (loop : Bool) (scope : Scope)
      → stmt_sites g s loop scope
      ≡ stmt_step g
      (map-Stmt _ _ _ _ _ _ (λ p. (p, part_sites g p)) (λ s. (s, stmt_sites g s)) (λ b. (b, block_sites g b)) y)
      loop scope
  sites_layer y is loop scope = ap (λ s. stmt_sites g s loop scope) (sym is)
      ∙ ap (λ f. f loop scope)
      (para-roll-Stmt (Sites g) (Sites g) (Sites g) (part_step g) (stmt_step g) (block_step g) y)

  pub stmt-Empty : (at : Place) (loop : Bool) (scope : Scope) → stmt_sites g (stmt.Empty at) loop scope ≡ []
  stmt-Empty at = sites_layer (layer.Empty at) (stmt.rolls-Empty at)

  pub stmt-Block : (b : Block) (loop : Bool) (scope : Scope) → stmt_sites g (stmt.Block b) loop scope
      ≡ block_sites g b loop scope
  stmt-Block b = sites_layer (layer.Block b) (stmt.rolls-Block b)

  pub stmt-Simple : (s : Simple) (loop : Bool) (scope : Scope) → stmt_sites g (stmt.Simple s) loop scope
      ≡ simple_sites g scope s
  stmt-Simple s = sites_layer (layer.Simple s) (stmt.rolls-Simple s)

  pub stmt-While : (at : Place) (c : Cond) (body : Stmt) (loop : Bool) (scope : Scope)
      → stmt_sites g (stmt.While at c body) loop scope ≡ cond_sites g scope c ++ stmt_sites g body true scope
  stmt-While at c body = sites_layer (layer.While at c body) (stmt.rolls-While at c body)

  pub stmt-Do : (at : Place) (body : Stmt) (c : Cond) (loop : Bool) (scope : Scope)
      → stmt_sites g (stmt.Do at body c) loop scope ≡ stmt_sites g body true scope ++ cond_sites g scope c
  stmt-Do at body c = sites_layer (layer.Do at body c) (stmt.rolls-Do at body c)

  pub stmt-For : (at : Place) (f : First) (c : Option Cond) (next : Option Simple) (body : Stmt) (loop : Bool)
      (scope : Scope) → stmt_sites g (stmt.For at f c next body) loop scope ≡ first_sites g f (opened scope)
      ++ rest_sites g c next (body, stmt_sites g body) (past_first g f (opened scope))
  stmt-For at f c next body = sites_layer (layer.For at f c next body) (stmt.rolls-For at f c next body)

  pub stmt-Return : (at : Place) (o : Option Operand) (loop : Bool) (scope : Scope)
      → stmt_sites g (stmt.Return at o) loop scope ≡ Returns scope.home (is_some o) at
      ∷ maybe_sites (wanted_sites g scope Elsewhere (want_of_return g scope.home)) o
  stmt-Return at o = sites_layer (layer.Return at o) (stmt.rolls-Return at o)

  pub stmt-Break : (at : Place) (loop : Bool) (scope : Scope) → stmt_sites g (stmt.Break at) loop scope ≡ Jumps loop at
      ∷ []
  stmt-Break at = sites_layer (layer.Break at) (stmt.rolls-Break at)

  pub stmt-Continue : (at : Place) (loop : Bool) (scope : Scope) → stmt_sites g (stmt.Continue at) loop scope
      ≡ Jumps loop at ∷ []
  stmt-Continue at = sites_layer (layer.Continue at) (stmt.rolls-Continue at)

  pub stmt-Assert : (at : Place) (c : Cond) (loop : Bool) (scope : Scope) → stmt_sites g (stmt.Assert at c) loop scope
      ≡ cond_sites g scope c
  stmt-Assert at c = sites_layer (layer.Assert at c) (stmt.rolls-Assert at c)

  pub stmt-If : (at : Place) (c : Cond) (s : Stmt) (other : Option Stmt) (loop : Bool) (scope : Scope)
      → stmt_sites g (stmt.If at c s other) loop scope ≡ cond_sites g scope c ++ stmt_sites g s loop scope
      ++ other_sites g other loop (past_stmt g s scope)
  stmt-If at c s None = sites_layer (layer.If at c s None) (stmt.rolls-If at c s None)
  stmt-If at c s (Some o) = sites_layer (layer.If at c s (Some o)) (stmt.rolls-If at c s (Some o))

pub ruleset site_layers = (
  part-Declare,
  part-Stmt,
  block-parts,
  stmt-Empty,
  stmt-Block,
  stmt-Simple,
  stmt-While,
  stmt-Do,
  stmt-For,
  stmt-Return,
  stmt-Break,
  stmt-Continue,
  stmt-Assert,
  stmt-If,
)
