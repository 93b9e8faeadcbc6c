-- Scopes grow: what is declared stays, and a statement leaves the open blocks as they were.
use Rattle.std.proofs.Common.{◌≡◌, ◌≤◌, ◌<◌, ℕ, zero, suc, Bool, true, false, ◌&&◌, cond, nat_lt, List, [], ◌∷◌, ◌++◌}
use Rattle.std.proofs.Common.{length, map, Option, Some, None, refl, sym, ap, ◌∙◌, subst, arith}
use Rattle.std.proofs.lemmas.Bool.{and_parts, lt-ltb}
use Rattle.std.proofs.lemmas.List.{append_assoc, length-append}
use Rattle.fore_base.specs.Lists.{Every}
use Rattle.c_ast.specs.declared.statements.Block.{Block}
use Rattle.c_ast.specs.declared.statements.Declarator.{Declarator}
use Rattle.c_ast.specs.declared.statements.First.{First}
use Rattle.c_ast.specs.declared.statements.First.TheVariants as first
use Rattle.c_ast.specs.declared.statements.Part as part
use Rattle.c_ast.specs.declared.statements.Stmt.{Stmt}
use Rattle.c_types.specs.Program.{var_target, vars_typed, all_below}
use Rattle.c_types.specs.declared.program.VarDef.{VarDef}
use Rattle.c_typing.specs.Globals.{Globals}
use Rattle.c_typing.specs.Programs.{ptr_before, datum_before, ptrs_of, datums_of, next_variable}
use Rattle.c_typing.specs.Scopes.{Var, Scope, innermost, opened, with_var, var_name, or_zero, declared, all_declared}
use Rattle.c_typing.specs.Scopes.{kind_of, declarators_of, past_first, past_part, past_parts, past_stmt, past_block}
use Rattle.c_typing.specs.Scopes.{past_other}
use Rattle.c_typing.specs.Texts.{Text, has, joined}
use Rattle.c_typing.specs.declared.meaning.Kind.{Kind}
use Rattle.c_typing.specs.declared.meaning.Kind.TheVariants.{Points, Datum}
use Rattle.c_typing.proofs.ScopeLayers.{past-Declare, past-Stmt, past-parts, past-Empty-stmt, past-Block-stmt}
use Rattle.c_typing.proofs.ScopeLayers.{past-Simple-stmt, past-While-stmt, past-Do-stmt, past-For-stmt}
use Rattle.c_typing.proofs.ScopeLayers.{past-Return-stmt, past-Break-stmt, past-Continue-stmt, past-Assert-stmt}
use Rattle.c_typing.proofs.ScopeLayers.{past-If-stmt}
use Rattle.c_typing.proofs.Sound.{GoodKind, GoodMeaning, GoodVar, GoodBlocks}
use Rattle.c_typing.proofs.Trees.{OfOption, Cases, block_holds, part_holds, stmt_holds}

var-at : (vs : List VarDef) (d : VarDef) (rest : List VarDef) → var_target ((vs ++ d ∷ []) ++ rest) (length vs)
    ≡ Some d.shape
var-at [] d rest = refl
var-at (v ∷ vs) d rest = var-at vs d rest

var_below : (vs : List VarDef) (x t : ℕ) → var_target vs x ≡ Some t → x < length vs
var_below [] x t e = cc
var_below (v ∷ vs) zero t e = omega (arith)
var_below (v ∷ vs) (suc x) t e = omega (arith, var_below vs x t e)

vars_more : (n : ℕ) (vs : List VarDef) (d : VarDef) → vars_typed n vs ≡ true → nat_lt d.shape n ≡ true
    → vars_typed n (vs ++ d ∷ []) ≡ true
vars_more n [] d all one = ap (λ b. b && true) one
vars_more n (v ∷ vs) d all one =
    let halves : (nat_lt v.shape n ≡ true) × (vars_typed n vs ≡ true) =
    and_parts (nat_lt v.shape n) (vars_typed n vs) all in
    ap (λ b. b && vars_typed n (vs ++ d ∷ [])) halves.0 ∙ vars_more n vs d halves.1 one

below_append : (n : ℕ) (xs ys : List ℕ) → all_below n xs ≡ true → all_below n ys ≡ true → all_below n (xs ++ ys) ≡ true
below_append n [] ys left right = right
below_append n (x ∷ xs) ys left right =
    let halves : (nat_lt x n ≡ true) × (all_below n xs ≡ true) = and_parts (nat_lt x n) (all_below n xs) left in
    ap (λ b. b && all_below n (xs ++ ys)) halves.0 ∙ below_append n xs ys halves.1 right

pub home-declared : (scope : Scope) (x : Text) (k : Kind) → (declared scope x k).home ≡ scope.home
home-declared scope x (Points to) = refl
home-declared scope x Datum = refl

pub home-all_declared : (k : Kind) (ds : List Declarator) (scope : Scope)
    → (all_declared k ds scope).home ≡ scope.home
home-all_declared k [] scope = refl
home-all_declared k (d ∷ ds) scope =
    home-all_declared k ds (declared scope d.name.text k) ∙ home-declared scope d.name.text k

module _ (g : Globals) (V : List VarDef) (D : ℕ) where
  -- what was declared is among the variables of the program
  abbrev pub Within : Scope → Type 0
  Within scope = ((rest : List VarDef) × (V ≡ scope.vars ++ rest)) × (length scope.data_vars ≤ D)

  pub back_declared : (scope : Scope) (x : Text) (k : Kind) → Within (declared scope x k) → Within scope
  back_declared scope x (Points to) w =
      ((_, w.0.1 ∙ append_assoc scope.vars (record { name = x; shape = or_zero to } ∷ []) w.0.0), w.1)
  back_declared scope x Datum w = (w.0, omega (arith, w.1, length-append scope.data_vars (x ∷ [])))

  pub back_all : (k : Kind) (ds : List Declarator) (scope : Scope) → Within (all_declared k ds scope) → Within scope
  back_all k [] scope w = w
  back_all k (d ∷ ds) scope w = back_declared scope d.name.text k (back_all k ds (declared scope d.name.text k) w)

  pub back_first : (f : First) (scope : Scope) → Within (past_first g f scope) → Within scope
  back_first (first.Declare d) scope w = back_all (kind_of g d) (declarators_of d) scope w
  back_first (first.Simple s) scope w = w
  back_first first.Nothing scope w = w

  -- A statement keeps the open blocks and what was declared before it.

  abbrev PartBack : part.Part → Type 0
  PartBack p = (scope : Scope) → (Within (past_part g p scope) → Within scope)
      × ((past_part g p scope).home ≡ scope.home)

  abbrev Keeps : Scope → Scope → Type 0
  Keeps before after = (after.blocks ≡ before.blocks) × ((Within after → Within before) × (after.home ≡ before.home))

  abbrev StmtKeeps : Stmt → Type 0
  StmtKeeps s = (scope : Scope) → Keeps scope (past_stmt g s scope)

  abbrev BlockKeeps : Block → Type 0
  BlockKeeps b = (scope : Scope) → Keeps scope (past_block g b scope)

  carried : (before after told : Scope) → told ≡ after → Keeps before after → Keeps before told
  carried before after told is k = subst (λ s. Keeps before s) (sym is) k

  unmoved : (scope : Scope) → Keeps scope scope
  unmoved scope = (refl, (λ w. w, refl))

  parts_back : (ps : List part.Part) → Every PartBack ps → (scope : Scope) → Within (past_parts g ps scope)
      → Within scope
  parts_back [] all scope w = w
  parts_back (p ∷ ps) all scope w = (all.0 scope).0 (parts_back ps all.1 (past_part g p scope) w)

  other_keeps : (other : Option Stmt) → OfOption StmtKeeps other → (scope : Scope)
      → Keeps scope (past_other g other scope)
  other_keeps None ok scope = unmoved scope
  other_keeps (Some s) ok scope = ok scope

  chained : (a b c : Scope) → Keeps a b → Keeps b c → Keeps a c
  chained a b c left right = (right.0 ∙ left.0, (λ w. left.1.0 (right.1.0 w), right.1.1 ∙ left.1.1))

  keep_cases : Cases PartBack StmtKeeps BlockKeeps
  keep_cases = record {
    of_Declare = λ d scope. (
      λ w. back_all (kind_of g d) (declarators_of d) scope (subst Within (past-Declare g d scope) w),
      ap (λ s. s.home) (past-Declare g d scope) ∙ home-all_declared (kind_of g d) (declarators_of d) scope,
    );
    of_Stmt = λ s ok scope. (
      λ w. (ok scope).1.0 (subst Within (past-Stmt g s scope) w),
      ap (λ s. s.home) (past-Stmt g s scope)
          ∙ (ok scope).1.1,
    );
    of_parts = λ at close parts all scope.
        carried scope _ _ (past-parts g at close parts scope)
        (refl, (λ w. parts_back parts all (opened scope) w, refl));
    of_Empty = λ at scope. carried scope _ _ (past-Empty-stmt g at scope) (unmoved scope);
    of_Block = λ b ok scope. carried scope _ _ (past-Block-stmt g b scope) (ok scope);
    of_Simple = λ s scope. carried scope _ _ (past-Simple-stmt g s scope) (unmoved scope);
    of_If = λ at c s other ok ok' scope.
        carried scope _ _ (past-If-stmt g at c s other scope)
        (chained scope (past_stmt g s scope) (past_other g other (past_stmt g s scope)) (ok scope)
        (other_keeps other ok' (past_stmt g s scope)));
    of_While = λ at c body ok scope. carried scope _ _ (past-While-stmt g at c body scope) (ok scope);
    of_Do = λ at body c ok scope. carried scope _ _ (past-Do-stmt g at body c scope) (ok scope);
    of_For = λ at f c next body ok scope.
        carried scope _ _ (past-For-stmt g at f c next body scope)
        (refl, (λ w. back_first f (opened scope) ((ok (past_first g f (opened scope))).1.0 w), refl));
    of_Return = λ at o scope. carried scope _ _ (past-Return-stmt g at o scope) (unmoved scope);
    of_Break = λ at scope. carried scope _ _ (past-Break-stmt g at scope) (unmoved scope);
    of_Continue = λ at scope. carried scope _ _ (past-Continue-stmt g at scope) (unmoved scope);
    of_Assert = λ at c scope. carried scope _ _ (past-Assert-stmt g at c scope) (unmoved scope);
  }

  pub stmt_keeps : (s : Stmt) (scope : Scope) → Keeps scope (past_stmt g s scope)
  stmt_keeps = stmt_holds PartBack StmtKeeps BlockKeeps keep_cases

  pub other_kept : (other : Option Stmt) (scope : Scope) → Keeps scope (past_other g other scope)
  other_kept None scope = unmoved scope
  other_kept (Some s) scope = stmt_keeps s scope

  pub part_back : (p : part.Part) → PartBack p
  part_back = part_holds PartBack StmtKeeps BlockKeeps keep_cases

  pub block_keeps : (b : Block) (scope : Scope) → Keeps scope (past_block g b scope)
  block_keeps = block_holds PartBack StmtKeeps BlockKeeps keep_cases

  -- A variable that is declared is one of the program's.

  pub next_good : (n : ℕ) (scope : Scope) (x : Text) (k : Kind) → GoodKind n k → Within (declared scope x k)
      → GoodMeaning g V D (next_variable scope k)
  next_good n scope x (Points None) good w = absurd good
  next_good n scope x (Points (Some s)) good w = ap (λ vs. var_target vs (length scope.vars)) w.0.1
      ∙ var-at scope.vars (record { name = x; shape = s }) w.0.0
  next_good n scope x Datum good w =
      lt-ltb (length scope.data_vars) D (omega (arith, w.1, length-append scope.data_vars (x ∷ [])))

  with_good : (v : Var) (blocks : List (List Var)) → GoodVar g V D v → GoodBlocks g V D blocks
      → GoodBlocks g V D (with_var v blocks)
  with_good v [] one all = tt
  with_good v (b ∷ bs) one all = either (has v.name (map var_name b))
    where
      either : (there : Bool) → GoodBlocks g V D (cond there (b ∷ bs) ((v ∷ b) ∷ bs))
      either true = all
      either false = (one, all)

  pub declared_good : (n : ℕ) (scope : Scope) (x : Text) (k : Kind) → GoodKind n k → Within (declared scope x k)
      → GoodBlocks g V D scope.blocks → GoodBlocks g V D (declared scope x k).blocks
  declared_good n scope x (Points to) good w all = with_good _ scope.blocks (next_good n scope x (Points to) good w) all
  declared_good n scope x Datum good w all = with_good _ scope.blocks (next_good n scope x Datum good w) all

  pub declared_vars : (n : ℕ) (scope : Scope) (x : Text) (k : Kind) → GoodKind n k → vars_typed n scope.vars ≡ true
      → vars_typed n (declared scope x k).vars ≡ true
  declared_vars n scope x (Points None) good all = absurd good
  declared_vars n scope x (Points (Some s)) good all = vars_more n scope.vars (record { name = x; shape = s }) all good
  declared_vars n scope x Datum good all = all

  -- The variables of the innermost block are numbers of the program's.

  front_good : (vs ws : List Var) → Every (GoodVar g V D) (vs ++ ws) → Every (GoodVar g V D) vs
  front_good [] ws all = tt
  front_good (v ∷ vs) ws all = (all.0, front_good vs ws all.1)

  pub innermost_good : (blocks : List (List Var)) → GoodBlocks g V D blocks → Every (GoodVar g V D) (innermost blocks)
  innermost_good [] all = tt
  innermost_good (b ∷ bs) all = front_good b (joined bs) all

  ptr_below : (k : Kind) (x : ℕ) (name : Text) → GoodVar g V D (record { name = name; kind = k; number = x })
      → all_below (length V) (ptr_before k x) ≡ true
  ptr_below (Points None) x name good = absurd good
  ptr_below (Points (Some s)) x name good = ap (λ b. b && true) (lt-ltb x (length V) (var_below V x s good))
  ptr_below Datum x name good = refl

  datum_below : (k : Kind) (x : ℕ) (name : Text) → GoodVar g V D (record { name = name; kind = k; number = x })
      → all_below D (datum_before k x) ≡ true
  datum_below (Points to) x name good = refl
  datum_below Datum x name good = ap (λ b. b && true) good

  pub ptrs_below : (vs : List Var) → Every (GoodVar g V D) vs → all_below (length V) (ptrs_of vs) ≡ true
  ptrs_below [] all = refl
  ptrs_below (v ∷ vs) all =
      below_append (length V) (ptrs_of vs) (ptr_before v.kind v.number) (ptrs_below vs all.1)
      (ptr_below v.kind v.number v.name all.0)

  pub datums_below : (vs : List Var) → Every (GoodVar g V D) vs → all_below D (datums_of vs) ≡ true
  datums_below [] all = refl
  datums_below (v ∷ vs) all =
      below_append D (datums_of vs) (datum_before v.kind v.number) (datums_below vs all.1)
      (datum_below v.kind v.number v.name all.0)

-- No part of a body leaves the function around.

pub home-past_first : (g : Globals) (f : First) (scope : Scope) → (past_first g f scope).home ≡ scope.home
home-past_first g (first.Declare d) scope = home-all_declared (kind_of g d) (declarators_of d) scope
home-past_first g (first.Simple s) scope = refl
home-past_first g first.Nothing scope = refl

pub home-past_stmt : (g : Globals) (s : Stmt) (scope : Scope) → (past_stmt g s scope).home ≡ scope.home
home-past_stmt g s scope = (stmt_keeps g [] 0 s scope).1.1

pub home-past_parts : (g : Globals) (ps : List part.Part) (scope : Scope) → (past_parts g ps scope).home ≡ scope.home
home-past_parts g [] scope = refl
home-past_parts g (p ∷ ps) scope = home-past_parts g ps (past_part g p scope) ∙ (part_back g [] 0 p scope).1
