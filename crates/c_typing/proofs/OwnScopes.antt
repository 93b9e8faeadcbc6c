-- What is in scope in the body of a function are variables of its own.
use Rattle.std.proofs.Common.{◌≡◌, Bool, true, false, cond, List, [], ◌∷◌, map, refl, ◌∙◌, subst}
use Rattle.fore_base.proofs.ListLemmas.{every_append}
use Rattle.fore_base.specs.Lists.{Every}
use Rattle.c_ast.specs.declared.statements.Declarator.{Declarator}
use Rattle.c_types.specs.declared.program.VarRef.{VarRef}
use Rattle.c_typing.specs.Scopes.{Var, Scope, all_declared, declared, innermost, next_ref, outer, var_name, with_var}
use Rattle.c_typing.specs.Texts.{Text, has, joined}
use Rattle.c_typing.specs.declared.meaning.Kind.{Kind}
use Rattle.c_typing.specs.declared.meaning.Kind.TheVariants.{Points, Datum}
use Rattle.c_typing.proofs.OwnVariables.{ref}

-- a block is open
abbrev pub IsOpen : List (List Var) → Type 0
IsOpen [] = ⊥
IsOpen (b ∷ bs) = Unit {0}

open_with : (v : Var) (bs : List (List Var)) → IsOpen bs → IsOpen (with_var v bs)
open_with v [] o = o
open_with v (b ∷ bs) o = either (has v.name (map var_name b))
  where
    either : (t : Bool) → IsOpen (cond t (b ∷ bs) ((v ∷ b) ∷ bs))
    either true = tt
    either false = tt

pub open_declared : (scope : Scope) (x : Text) (k : Kind) → IsOpen scope.blocks → IsOpen (declared scope x k).blocks
open_declared scope x (Points to) o = open_with _ scope.blocks o
open_declared scope x Datum o = open_with _ scope.blocks o

pub open_all : (k : Kind) (ds : List Declarator) (scope : Scope) → IsOpen scope.blocks
    → IsOpen (all_declared k ds scope).blocks
open_all k [] scope o = o
open_all k (d ∷ ds) scope o = open_all k ds (declared scope d.name.text k) (open_declared scope d.name.text k o)

outer-with_var : (v : Var) (bs : List (List Var)) → outer (with_var v bs) ≡ outer bs
outer-with_var v [] = refl
outer-with_var v (b ∷ bs) = either (has v.name (map var_name b))
  where
    either : (t : Bool) → outer (cond t (b ∷ bs) ((v ∷ b) ∷ bs)) ≡ bs
    either true = refl
    either false = refl

pub outer-declared : (scope : Scope) (x : Text) (k : Kind) → outer (declared scope x k).blocks ≡ outer scope.blocks
outer-declared scope x (Points to) = outer-with_var _ scope.blocks
outer-declared scope x Datum = outer-with_var _ scope.blocks

pub outer-all_declared : (k : Kind) (ds : List Declarator) (scope : Scope)
    → outer (all_declared k ds scope).blocks ≡ outer scope.blocks
outer-all_declared k [] scope = refl
outer-all_declared k (d ∷ ds) scope =
    outer-all_declared k ds (declared scope d.name.text k) ∙ outer-declared scope d.name.text k

module _ (A : VarRef → Type 0) where
  abbrev pub OwnVar : Var → Type 0
  OwnVar v = A (ref v.kind v.number)

  -- what is in scope is of A
  abbrev pub Own : List (List Var) → Type 0
  Own bs = Every OwnVar (joined bs)

  own_before : (v : Var) (bs : List (List Var)) → Own (with_var v bs) → Own bs
  own_before v [] own = tt
  own_before v (b ∷ bs) own = either (has v.name (map var_name b)) own
    where
      either : (t : Bool) → Own (cond t (b ∷ bs) ((v ∷ b) ∷ bs)) → Own (b ∷ bs)
      either true own = own
      either false own = own.1

  pub own_back : (scope : Scope) (x : Text) (k : Kind) → Own (declared scope x k).blocks → Own scope.blocks
  own_back scope x (Points to) own = own_before _ scope.blocks own
  own_back scope x Datum own = own_before _ scope.blocks own

  pub own_back_all : (k : Kind) (ds : List Declarator) (scope : Scope) → Own (all_declared k ds scope).blocks
      → Own scope.blocks
  own_back_all k [] scope own = own
  own_back_all k (d ∷ ds) scope own =
      own_back scope d.name.text k (own_back_all k ds (declared scope d.name.text k) own)

  own_with : (v : Var) (bs : List (List Var)) → Own bs → OwnVar v → Own (with_var v bs)
  own_with v [] own one = tt
  own_with v (b ∷ bs) own one = either (has v.name (map var_name b))
    where
      either : (t : Bool) → Own (cond t (b ∷ bs) ((v ∷ b) ∷ bs))
      either true = own
      either false = (one, own)

  -- what is declared is of A where its variable is
  pub declared_own : (scope : Scope) (x : Text) (k : Kind) → Own scope.blocks → A (next_ref k scope)
      → Own (declared scope x k).blocks
  declared_own scope x (Points to) own one = own_with _ scope.blocks own one
  declared_own scope x Datum own one = own_with _ scope.blocks own one

  new_own : (v : Var) (bs : List (List Var)) → IsOpen bs → has v.name (map var_name (innermost bs)) ≡ false
      → Own (with_var v bs) → OwnVar v
  new_own v [] o new own = absurd o
  new_own v (b ∷ bs) o new own = (subst (λ t. Own (cond t (b ∷ bs) ((v ∷ b) ∷ bs))) new own).0

  -- a variable that is declared where its name is new is one of the innermost block
  pub next_own : (scope : Scope) (x : Text) (k : Kind) → IsOpen scope.blocks
      → has x (map var_name (innermost scope.blocks)) ≡ false → Own (declared scope x k).blocks
      → A (next_ref k scope)
  next_own scope x (Points to) o new own = new_own _ scope.blocks o new own
  next_own scope x Datum o new own = new_own _ scope.blocks o new own

  -- the variables of the innermost block, and those of the others
  pub own_together : (bs : List (List Var)) → Every OwnVar (innermost bs) → Own (outer bs) → Own bs
  own_together [] inner rest = tt
  own_together (b ∷ bs) inner rest = every_append OwnVar b (joined bs) inner rest
