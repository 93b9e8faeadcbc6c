-- Induction over statements, blocks and their parts: a fact for each kind of tree, given the facts for its parts.
use Rattle.std.proofs.Common.{List, [], ◌∷◌, Option, Some, None, map, sym, subst}
use Rattle.fore_base.specs.Lists.{Every}
use Rattle.fore_base.specs.declared.place.Place.{Place}
use Rattle.c_ast.specs.declared.conditions.Cond.{Cond}
use Rattle.c_ast.specs.declared.operands.Operand.{Operand}
use Rattle.c_ast.specs.declared.simples.Simple.{Simple}
use Rattle.c_ast.specs.declared.statements.Block.{Block, Block-F, roll-Block, map-Block, ind-Block}
use Rattle.c_ast.specs.declared.statements.Declare.{Declare}
use Rattle.c_ast.specs.declared.statements.First.{First}
use Rattle.c_ast.specs.declared.statements.Part as part
use Rattle.c_ast.specs.declared.statements.Part.TheOpen as layer
use Rattle.c_ast.specs.declared.statements.Part.TheVariants as part'
use Rattle.c_ast.specs.declared.statements.Stmt.{Stmt, Stmt-F, roll-Stmt, map-Stmt, ind-Stmt}
use Rattle.c_ast.specs.declared.statements.Stmt.TheVariants as stmt

-- the fact for what may be missing
abbrev pub OfOption : {X : Type 0} → (X → Type 0) → Option X → Type 0
OfOption P None = Unit {0}
OfOption P (Some x) = P x

pub record Cases (P : part.Part → Type 0) (S : Stmt → Type 0) (B : Block → Type 0) : Type 0 where
  pub of_Declare : (d : Declare) → P (part'.Declare d)
  pub of_Stmt : (s : Stmt) → S s → P (part'.Stmt s)
  pub of_parts : (at close : Place) (parts : List part.Part) → Every P parts
      → B (roll-Block (record { at = at; parts = parts; close = close }))
  pub of_Empty : (at : Place) → S (stmt.Empty at)
  pub of_Block : (b : Block) → B b → S (stmt.Block b)
  pub of_Simple : (s : Simple) → S (stmt.Simple s)
  pub of_If : (at : Place) (c : Cond) (s : Stmt) (other : Option Stmt) → S s → OfOption S other
      → S (stmt.If at c s other)
  pub of_While : (at : Place) (c : Cond) (body : Stmt) → S body → S (stmt.While at c body)
  pub of_Do : (at : Place) (body : Stmt) (c : Cond) → S body → S (stmt.Do at body c)
  pub of_For : (at : Place) (f : First) (c : Option Cond) (next : Option Simple) (body : Stmt) → S body
      → S (stmt.For at f c next body)
  pub of_Return : (at : Place) (o : Option Operand) → S (stmt.Return at o)
  pub of_Break : (at : Place) → S (stmt.Break at)
  pub of_Continue : (at : Place) → S (stmt.Continue at)
  pub of_Assert : (at : Place) (c : Cond) → S (stmt.Assert at c)

module _ (P : part.Part → Type 0) (S : Stmt → Type 0) (B : Block → Type 0) (cases : Cases P S B) where
  abbrev PartHeld : Type 0
  PartHeld = (p : part.Part) × P p

  abbrev StmtHeld : Type 0
  StmtHeld = (s : Stmt) × S s

  abbrev BlockHeld : Type 0
  BlockHeld = (b : Block) × B b

  each : (ps : List PartHeld) → Every P (map (λ e. e.0) ps)
  each [] = tt
  each (p ∷ ps) = (p.1, each ps)

  part_layer : (y : part.Part-F PartHeld StmtHeld BlockHeld)
      → P
      (part.roll-Part
      (part.map-Part PartHeld StmtHeld BlockHeld part.Part Stmt Block (λ e. e.0) (λ e. e.0) (λ e. e.0) y))
  part_layer (layer.Declare d) = subst P (sym (part'.rolls-Declare d)) (cases.of_Declare d)
  part_layer (layer.Stmt s) = subst P (sym (part'.rolls-Stmt s.0)) (cases.of_Stmt s.0 s.1)

  block_layer : (y : Block-F PartHeld StmtHeld BlockHeld)
      → B (roll-Block (map-Block PartHeld StmtHeld BlockHeld part.Part Stmt Block (λ e. e.0) (λ e. e.0) (λ e. e.0) y))
  block_layer y = cases.of_parts y.at y.close (map (λ e. e.0) y.parts) (each y.parts)

  stmt_layer : (y : Stmt-F PartHeld StmtHeld BlockHeld)
      → S (roll-Stmt (map-Stmt PartHeld StmtHeld BlockHeld part.Part Stmt Block (λ e. e.0) (λ e. e.0) (λ e. e.0) y))
  stmt_layer (layer.Empty at) = subst S (sym (stmt.rolls-Empty at)) (cases.of_Empty at)
  stmt_layer (layer.Block b) = subst S (sym (stmt.rolls-Block b.0)) (cases.of_Block b.0 b.1)
  stmt_layer (layer.Simple s) = subst S (sym (stmt.rolls-Simple s)) (cases.of_Simple s)
  stmt_layer (layer.While at c s) = subst S (sym (stmt.rolls-While at c s.0)) (cases.of_While at c s.0 s.1)
  stmt_layer (layer.Do at s c) = subst S (sym (stmt.rolls-Do at s.0 c)) (cases.of_Do at s.0 c s.1)
  stmt_layer (layer.For at f c n s) = subst S (sym (stmt.rolls-For at f c n s.0)) (cases.of_For at f c n s.0 s.1)
  stmt_layer (layer.Return at o) = subst S (sym (stmt.rolls-Return at o)) (cases.of_Return at o)
  stmt_layer (layer.Break at) = subst S (sym (stmt.rolls-Break at)) (cases.of_Break at)
  stmt_layer (layer.Continue at) = subst S (sym (stmt.rolls-Continue at)) (cases.of_Continue at)
  stmt_layer (layer.Assert at c) = subst S (sym (stmt.rolls-Assert at c)) (cases.of_Assert at c)
  stmt_layer (layer.If at c s None) = subst S (sym (stmt.rolls-If at c s.0 None)) (cases.of_If at c s.0 None s.1 tt)
  stmt_layer (layer.If at c s (Some t)) =
      subst S (sym (stmt.rolls-If at c s.0 (Some t.0))) (cases.of_If at c s.0 (Some t.0) s.1 t.1)

  pub stmt_holds : (s : Stmt) → S s
  stmt_holds = ind-Stmt P S B (λ x y is. subst (λ z. P (part.roll-Part z)) is (part_layer y))
      (λ x y is. subst (λ z. S (roll-Stmt z)) is (stmt_layer y))
      (λ x y is. subst (λ z. B (roll-Block z)) is (block_layer y))

  pub part_holds : (p : part.Part) → P p
  part_holds = part.ind-Part P S B (λ x y is. subst (λ z. P (part.roll-Part z)) is (part_layer y))
      (λ x y is. subst (λ z. S (roll-Stmt z)) is (stmt_layer y))
      (λ x y is. subst (λ z. B (roll-Block z)) is (block_layer y))

  pub block_holds : (b : Block) → B b
  block_holds = ind-Block P S B (λ x y is. subst (λ z. P (part.roll-Part z)) is (part_layer y))
      (λ x y is. subst (λ z. S (roll-Stmt z)) is (stmt_layer y))
      (λ x y is. subst (λ z. B (roll-Block z)) is (block_layer y))
