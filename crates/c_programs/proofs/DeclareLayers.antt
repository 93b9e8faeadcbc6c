-- The variables that each kind of statement declares.
use Rattle.std.proofs.Common.{◌≡◌, ℕ, List, [], ◌∷◌, ◌++◌, Option, map, refl, ap, sym}
use Rattle.std.proofs.Common.{◌∙◌, append_assoc, append-nil}
use Rattle.c_types.specs.Bodies.{body_declares, declares_step, in_turn, stmt_declares}
use Rattle.c_types.specs.declared.program.Act.{Act}
use Rattle.c_types.specs.declared.program.Arg.{Arg}
use Rattle.c_types.specs.declared.program.Cond.{Cond}
use Rattle.c_types.specs.declared.program.Dest.{Dest}
use Rattle.c_types.specs.declared.program.Stmt.{Stmt, fold-roll-Stmt}
use Rattle.c_types.specs.declared.program.Stmt.TheOpen as layer
use Rattle.c_types.specs.declared.program.Stmt.TheVariants as stmt
use Rattle.c_types.specs.declared.program.VarRef.{VarRef}
use Rattle.c_types.specs.declared.program.VarRef.TheVariants.{Ptr as PtrVar, Data as DatumVar}

turned : (ss : List Stmt) → in_turn (map stmt_declares ss) ≡ body_declares ss
turned [] = refl
turned (s ∷ ss) = ap (λ vs. stmt_declares s ++ vs) (turned ss)

pub declares-Do : (a : Act) (line : ℕ) → stmt_declares (stmt.Do a line) ≡ []
declares-Do a line = ap stmt_declares (sym (stmt.rolls-Do a line))
    ∙ fold-roll-Stmt (List VarRef) declares_step (layer.Do a line)

pub declares-Call : (f : ℕ) (args : List Arg) (to : Option Dest) (line : ℕ)
    → stmt_declares (stmt.Call f args to line) ≡ []
declares-Call f args to line = ap stmt_declares (sym (stmt.rolls-Call f args to line))
    ∙ fold-roll-Stmt (List VarRef) declares_step (layer.Call f args to line)

pub declares-Branch : (c : Cond) (xs ys : List Stmt) → stmt_declares (stmt.Branch c xs ys)
    ≡ body_declares xs ++ body_declares ys
declares-Branch c xs ys = ap stmt_declares (sym (stmt.rolls-Branch c xs ys))
    ∙ fold-roll-Stmt (List VarRef) declares_step (layer.Branch c xs ys)
    ∙ ap (λ vs. vs ++ in_turn (map stmt_declares ys)) (turned xs) ∙ ap (λ vs. body_declares xs ++ vs) (turned ys)

pub declares-While : (c : Cond) (xs : List Stmt) → stmt_declares (stmt.While c xs) ≡ body_declares xs
declares-While c xs = ap stmt_declares (sym (stmt.rolls-While c xs))
    ∙ fold-roll-Stmt (List VarRef) declares_step (layer.While c xs) ∙ turned xs

pub declares-DoWhile : (c : Cond) (xs : List Stmt) → stmt_declares (stmt.DoWhile c xs) ≡ body_declares xs
declares-DoWhile c xs = ap stmt_declares (sym (stmt.rolls-DoWhile c xs))
    ∙ fold-roll-Stmt (List VarRef) declares_step (layer.DoWhile c xs) ∙ turned xs

pub declares-For : (c : Cond) (xs ys : List Stmt) → stmt_declares (stmt.For c xs ys)
    ≡ body_declares xs ++ body_declares ys
declares-For c xs ys = ap stmt_declares (sym (stmt.rolls-For c xs ys))
    ∙ fold-roll-Stmt (List VarRef) declares_step (layer.For c xs ys)
    ∙ ap (λ vs. vs ++ in_turn (map stmt_declares ys)) (turned xs) ∙ ap (λ vs. body_declares xs ++ vs) (turned ys)

pub declares-Group : (xs : List Stmt) (ps ds : List ℕ) (line : ℕ) → stmt_declares (stmt.Group xs ps ds line)
    ≡ map (λ x. PtrVar x) ps ++ map (λ x. DatumVar x) ds ++ body_declares xs
declares-Group xs ps ds line = ap stmt_declares (sym (stmt.rolls-Group xs ps ds line))
    ∙ fold-roll-Stmt (List VarRef) declares_step (layer.Group xs ps ds line)
    ∙ ap (λ vs. map (λ x. PtrVar x) ps ++ map (λ x. DatumVar x) ds ++ vs) (turned xs)

-- lists of variables one after the other

pub appended : (xs ys zs : List VarRef) → xs ++ (ys ++ zs) ≡ (xs ++ ys) ++ zs
appended xs ys zs = sym (append_assoc xs ys zs)

pub appended-none : (xs : List VarRef) → xs ++ [] ≡ xs
appended-none xs = append-nil xs

pub ruleset declare_layers = (
  appended,
  appended-none,
  declares-Do,
  declares-Call,
  declares-Branch,
  declares-While,
  declares-DoWhile,
  declares-For,
  declares-Group,
)
