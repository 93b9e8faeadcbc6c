-- Paths, operands and conditions name variables that are in scope.
use Rattle.std.proofs.Common.{ℕ, zero, suc, Bool, true, false, cond, List, [], ◌∷◌, map, Option, Some, None, sym}
use Rattle.std.proofs.Common.{subst}
use Rattle.std.specs.List.{flat_map}
use Rattle.fore_base.proofs.ListLemmas.{every_append, every_parts}
use Rattle.fore_base.specs.Lists.{Every}
use Rattle.c_ast.specs.declared.conditions.And.{And}
use Rattle.c_ast.specs.declared.conditions.Cond as tree
use Rattle.c_ast.specs.declared.conditions.Test.{Test}
use Rattle.c_ast.specs.declared.operands.Arrow.{Arrow}
use Rattle.c_ast.specs.declared.operands.Call.{Call}
use Rattle.c_ast.specs.declared.operands.Operand.{Operand, Operand-F, out-Operand}
use Rattle.c_ast.specs.declared.operands.Operand.TheOpen as operand
use Rattle.c_ast.specs.declared.operands.Path as tree'
use Rattle.c_types.specs.Bodies.{act_names, arg_names, atom_names, cond_names, data_names, data_op_names}
use Rattle.c_types.specs.Bodies.{data_rhs_names, dest_names, in_turn, maybe_names, op_names, rhs_names}
use Rattle.c_types.specs.declared.program.Atom.TheVariants as atom
use Rattle.c_types.specs.declared.program.Cond.{Cond}
use Rattle.c_types.specs.declared.program.DataRhs.{DataRhs}
use Rattle.c_types.specs.declared.program.Path.{Path}
use Rattle.c_types.specs.declared.program.PtrRhs.{PtrRhs}
use Rattle.c_types.specs.declared.program.VarRef.{VarRef}
use Rattle.c_types.specs.declared.program.VarRef.TheVariants.{Ptr}
use Rattle.c_types.proofs.Layers.{names-Atom, names-Not, names-All, names-Any}
use Rattle.c_typing.specs.Globals.{Globals, value_of, field_use}
use Rattle.c_typing.specs.Meanings.{all_followed, field_meaning, followed, meaning_of_operand, meaning_of_path}
use Rattle.c_typing.specs.Meanings.{name_meaning, number_meaning, numeral, operand_meaning, place_of_operand}
use Rattle.c_typing.specs.Meanings.{value_meaning}
use Rattle.c_typing.specs.Meanings.{variable}
use Rattle.c_typing.specs.Programs.{all_of, and_of, any_of, arg_of, args_of, assigned, compares_pointers, comparison}
use Rattle.c_typing.specs.Programs.{cond_of, data_op_of, data_rhs_of, dest_of, freed, maybe_cond, ptr_op_of, ptr_rhs_of}
use Rattle.c_typing.specs.Programs.{returned, test_of, truth, unary_of}
use Rattle.c_typing.specs.Scopes.{Scope, Var, look_up, var_in}
use Rattle.c_typing.specs.Texts.{Text, joined, same}
use Rattle.c_typing.specs.declared.meaning.FieldUse.{FieldUse}
use Rattle.c_typing.specs.declared.meaning.FieldUse.TheVariants as use_of
use Rattle.c_typing.specs.declared.meaning.Kind.{Kind}
use Rattle.c_typing.specs.declared.meaning.Kind.TheVariants.{Points, Datum as DatumKind}
use Rattle.c_typing.specs.declared.meaning.Meaning.{Meaning}
use Rattle.c_typing.specs.declared.meaning.Meaning.TheVariants as meaning
use Rattle.c_typing.proofs.ConditionLayers.{made-Compare, made-Unary, made-Not, made-Bracket, made-Operand}
use Rattle.c_typing.proofs.ConditionLayers.{made-tests, made-ands}
use Rattle.c_typing.proofs.Formulas.{CondCases, cond_holds}
use Rattle.c_typing.proofs.OwnScopes.{Own, OwnVar}
use Rattle.c_typing.proofs.OwnVariables.{ref}
use Rattle.c_typing.proofs.Trees.{OfOption}

-- what holds of each list holds of all of them in turn
pub turned : {Y Z : Type 0} (P : Y → Type 0) (f : Z → List Y) (xs : List Z) → Every (λ x. Every P (f x)) xs
    → Every P (in_turn (map f xs))
turned P f [] all = tt
turned P f (x ∷ xs) all = every_append P (f x) (in_turn (map f xs)) all.0 (turned P f xs all.1)

pub turned_back : {Y Z : Type 0} (P : Y → Type 0) (f : Z → List Y) (xs : List Z) → Every P (in_turn (map f xs))
    → Every (λ x. Every P (f x)) xs
turned_back P f [] all = tt
turned_back P f (x ∷ xs) all =
    let halves : Every P (f x) × Every P (in_turn (map f xs)) = every_parts P (f x) (in_turn (map f xs)) all in
    (halves.0, turned_back P f xs halves.1)

turned_map : {X Y Z : Type 0} (P : Y → Type 0) (f : Z → List Y) (h : X → Z) (xs : List X)
    → Every (λ x. Every P (f (h x))) xs → Every P (in_turn (map f (map h xs)))
turned_map P f h [] all = tt
turned_map P f h (x ∷ xs) all =
    every_append P (f (h x)) (in_turn (map f (map h xs))) all.0 (turned_map P f h xs all.1)

module _ (g : Globals) (A : VarRef → Type 0) where
  abbrev pub OwnMeaning : Meaning → Type 0
  OwnMeaning (meaning.Pointer p to) = A (Ptr p.var)
  OwnMeaning (meaning.Datum d) = Every A (data_names d)
  OwnMeaning (meaning.Known k) = Unit {0}
  OwnMeaning meaning.Zero = Unit {0}
  OwnMeaning meaning.Null = Unit {0}
  OwnMeaning meaning.Call = Unit {0}
  OwnMeaning meaning.Broken = Unit {0}

  pub variable_own : (k : Kind) (n : ℕ) → A (ref k n) → OwnMeaning (variable k n)
  variable_own (Points to) n own = own
  variable_own DatumKind n own = (own, tt)

  var_own : (x : Text) (vs : List Var) → Every (OwnVar A) vs → OfOption (OwnVar A) (var_in x vs)
  var_own x [] all = tt
  var_own x (v ∷ vs) all = either (same x v.name) (var_own x vs all.1)
    where
      either : (found : Bool) → OfOption (OwnVar A) (var_in x vs)
          → OfOption (OwnVar A) (cond found (Some v) (var_in x vs))
      either true rest = all.0
      either false rest = rest

  value_own : (value : Option ℕ) → OwnMeaning (value_meaning value)
  value_own None = tt
  value_own (Some k) = tt

  name_own : (v : Option Var) (value : Option ℕ) → OfOption (OwnVar A) v → OwnMeaning (name_meaning v value)
  name_own None value own = value_own value
  name_own (Some v) value own = variable_own v.kind v.number own

  field_own : (p : Path) (u : Option FieldUse) → A (Ptr p.var) → OwnMeaning (field_meaning p u)
  field_own p None own = tt
  field_own p (Some (use_of.Pointer number to)) own = own
  field_own p (Some (use_of.Datum number)) own = (own, tt)

  followed_own : (m : Meaning) (x : Text) → OwnMeaning m → OwnMeaning (followed g m x)
  followed_own (meaning.Pointer p (Some s)) x own = field_own p (field_use g s x) own
  followed_own _ x own = tt

  all_own : (m : Meaning) (rest : List Arrow) → OwnMeaning m → OwnMeaning (all_followed g m rest)
  all_own m [] own = own
  all_own m (a ∷ rest) own = all_own (followed g m a.field.text) rest (followed_own m a.field.text own)

  -- What is made of what is own

  pub ptr_op_own : (m : Meaning) → OwnMeaning m → Every A (op_names (ptr_op_of m))
  ptr_op_own (meaning.Pointer p to) own = (own, tt)
  ptr_op_own _ own = tt

  pub data_op_own : (m : Meaning) → OwnMeaning m → Every A (data_op_names (data_op_of m))
  data_op_own (meaning.Datum d) own = own
  data_op_own _ own = tt

  pub ptr_rhs_own : (m : Meaning) → OwnMeaning m → Every A (rhs_names (ptr_rhs_of m))
  ptr_rhs_own (meaning.Pointer p to) own = (own, tt)
  ptr_rhs_own _ own = tt

  pub data_rhs_own : (m : Meaning) → OwnMeaning m → Every A (data_rhs_names (data_rhs_of m))
  data_rhs_own (meaning.Datum d) own = own
  data_rhs_own _ own = tt

  pub assigned_own : (target : Meaning) (p : PtrRhs) (d : DataRhs) → OwnMeaning target → Every A (rhs_names p)
      → Every A (data_rhs_names d) → Every A (act_names (assigned target p d))
  assigned_own (meaning.Pointer q to) p d own left right = (own, left)
  assigned_own (meaning.Datum e) p d own left right = every_append A (data_names e) (data_rhs_names d) own right
  assigned_own _ p d own left right = tt

  pub freed_own : (m : Meaning) → OwnMeaning m → Every A (act_names (freed m))
  freed_own (meaning.Pointer p to) own = (own, tt)
  freed_own _ own = tt

  pub returned_own : (m : Meaning) → OwnMeaning m → Every A (maybe_names data_names (returned m))
  returned_own (meaning.Datum d) own = own
  returned_own _ own = tt

  pub dest_own : (m : Meaning) → OwnMeaning m → Every A (maybe_names dest_names (dest_of m))
  dest_own (meaning.Pointer p to) own = (own, tt)
  dest_own (meaning.Datum d) own = own
  dest_own _ own = tt

  pub arg_own : (k : Kind) (m : Meaning) → OwnMeaning m → Every A (arg_names (arg_of k m))
  arg_own (Points to) m own = ptr_op_own m own
  arg_own DatumKind m own = data_op_own m own

  truth_own : (m : Meaning) → OwnMeaning m → Every A (atom_names (truth m))
  truth_own (meaning.Pointer p to) own = (own, tt)
  truth_own (meaning.Datum d) own = every_append A (data_names d) [] own tt
  truth_own _ own = tt

  comparison_own : (e : Bool) (l r : Meaning) → OwnMeaning l → OwnMeaning r
      → Every A (atom_names (comparison e l r))
  comparison_own e l r left right = either (compares_pointers l r)
    where
      either : (b : Bool) → Every A (atom_names (cond b (atom.Ptr (ptr_op_of l) (ptr_op_of r) e)
          (atom.Data (data_op_of l) (data_op_of r) e)))
      either true = every_append A (op_names (ptr_op_of l)) (op_names (ptr_op_of r)) (ptr_op_own l left)
          (ptr_op_own r right)
      either false = every_append A (data_op_names (data_op_of l)) (data_op_names (data_op_of r)) (data_op_own l left)
          (data_op_own r right)

  module _ (scope : Scope) (own : Own A scope.blocks) where
    pub path_own : (p : tree'.Path) → OwnMeaning (meaning_of_path g scope p)
    path_own p = all_own (name_meaning (look_up scope p.head.text) (value_of g p.head.text)) p.arrows
        (name_own (look_up scope p.head.text) (value_of g p.head.text)
        (var_own p.head.text (joined scope.blocks) own))

    number_own : (k : ℕ) → OwnMeaning (number_meaning k)
    number_own zero = tt
    number_own (suc k) = tt

    layer_own : (o : Operand-F Operand Call) → OwnMeaning (operand_meaning g scope o)
    layer_own (operand.Path p) = path_own p
    layer_own (operand.Number x) = number_own (numeral x.text)
    layer_own _ = tt

    pub operand_own : (o : Operand) → OwnMeaning (meaning_of_operand g scope o)
    operand_own o = layer_own (out-Operand o)

    pub args_own : (ks : List Kind) (os : List Operand) → Every A (flat_map arg_names (args_of g scope ks os))
    args_own [] os = tt
    args_own (k ∷ ks) [] = tt
    args_own (k ∷ ks) (o ∷ os) =
        every_append A (arg_names (arg_of k (meaning_of_operand g scope o)))
        (flat_map arg_names (args_of g scope ks os)) (arg_own k (meaning_of_operand g scope o) (operand_own o))
        (args_own ks os)

    -- Conditions

    abbrev Named : Cond → Type 0
    Named c = Every A (cond_names c)

    tests_own : (ts : List Test) → Every (λ t. Named (test_of g scope t)) ts
        → Named (all_of (map (test_of g scope) ts))
    tests_own [] all = subst (Every A) (sym (names-Atom (atom.Known true) 0)) tt
    tests_own (t ∷ ts) all = subst (Every A) (sym (names-All (map (test_of g scope) (t ∷ ts))))
        (turned_map A cond_names (test_of g scope) (t ∷ ts) all)

    ands_own : (xs : List And) → Every (λ x. Named (and_of g scope x)) xs → Named (any_of (map (and_of g scope) xs))
    ands_own [] all = subst (Every A) (sym (names-Atom (atom.Known false) 0)) tt
    ands_own (x ∷ xs) all = subst (Every A) (sym (names-Any (map (and_of g scope) (x ∷ xs))))
        (turned_map A cond_names (and_of g scope) (x ∷ xs) all)

    own_cases : CondCases (λ t. Named (test_of g scope t)) (λ u. Named (unary_of g scope u))
        (λ a. Named (and_of g scope a)) (λ c. Named (cond_of g scope c))
    own_cases = record {
      of_Compare = λ l e r. subst Named (sym (made-Compare g scope l e r))
          (subst (Every A)
          (sym (names-Atom (comparison e (meaning_of_operand g scope l) (meaning_of_operand g scope r))
          (place_of_operand l).line))
          (comparison_own e (meaning_of_operand g scope l) (meaning_of_operand g scope r) (operand_own l)
          (operand_own r)));
      of_Unary = λ u ok. subst Named (sym (made-Unary g scope u)) ok;
      of_Not = λ at u ok. subst Named (sym (made-Not g scope at u))
          (subst (Every A) (sym (names-Not (unary_of g scope u))) ok);
      of_Bracket = λ at x ok. subst Named (sym (made-Bracket g scope at x)) ok;
      of_Operand = λ o. subst Named (sym (made-Operand g scope o))
          (subst (Every A) (sym (names-Atom (truth (meaning_of_operand g scope o)) (place_of_operand o).line))
          (truth_own (meaning_of_operand g scope o) (operand_own o)));
      of_tests = λ ts all. subst Named (sym (made-tests g scope ts)) (tests_own ts all);
      of_ands = λ xs all. subst Named (sym (made-ands g scope xs)) (ands_own xs all);
    }

    pub cond_own : (c : tree.Cond) → Every A (cond_names (cond_of g scope c))
    cond_own = cond_holds (λ t. Named (test_of g scope t)) (λ u. Named (unary_of g scope u))
        (λ a. Named (and_of g scope a)) (λ c. Named (cond_of g scope c)) own_cases

    pub maybe_cond_own : (line : ℕ) (c : Option tree.Cond) → Every A (cond_names (maybe_cond g scope line c))
    maybe_cond_own line None = subst (Every A) (sym (names-Atom (atom.Known true) line)) tt
    maybe_cond_own line (Some c) = cond_own c
