-- What the type of programs keeps.
use Rattle.std.proofs.Common.{◌≡◌, ℕ, suc, Bool, true, ◌&&◌, Option, Some, None, List, [], ◌∷◌, length, inl, inr, ap}
use Rattle.std.proofs.Common.{◌∙◌}
use Rattle.std.proofs.lemmas.Bool.{and_parts}
use Rattle.std.specs.List.{list_all}
use Rattle.fore_base.specs.Lists.{IsIn}
use Rattle.c_calls.specs.Calls.{none_recurs}
use Rattle.c_types.specs.declared.program.Func.{Func}
use Rattle.c_types.specs.Bodies.{calls_of, func_vars, all_different, keeps_to_own, keeps_to_main}
use Rattle.c_types.specs.Program.{Program, body_typed, bodies_typed, shapes_typed, vars_typed, funcs_typed, var_typed}
use Rattle.c_types.specs.Program.{is_typed}

module _ (p : Program) where
  abbrev all_shapes_typed : Bool
  all_shapes_typed = shapes_typed (length p.shapes.structs) p.shapes.structs

  abbrev all_vars_typed : Bool
  all_vars_typed = vars_typed (length p.shapes.structs) p.vars

  abbrev main_typed : Bool
  main_typed = body_typed p.shapes.structs p.vars (length p.data_vars) p.funcs None p.body

  pub has_shapes_typed : is_typed p ≡ true → all_shapes_typed ≡ true
  unfolding is_typed
  has_shapes_typed e =
      let first = (and_parts ((all_shapes_typed && all_vars_typed) && main_typed) (funcs_typed p) e).0 in
      (and_parts all_shapes_typed all_vars_typed (and_parts (all_shapes_typed && all_vars_typed) main_typed first).0).0

  pub has_vars_typed : is_typed p ≡ true → all_vars_typed ≡ true
  unfolding is_typed
  has_vars_typed e =
      let first = (and_parts ((all_shapes_typed && all_vars_typed) && main_typed) (funcs_typed p) e).0 in
      (and_parts all_shapes_typed all_vars_typed (and_parts (all_shapes_typed && all_vars_typed) main_typed first).0).1

  pub has_body_typed : is_typed p ≡ true → main_typed ≡ true
  unfolding is_typed
  has_body_typed e =
      (and_parts (all_shapes_typed && all_vars_typed) main_typed
      (and_parts ((all_shapes_typed && all_vars_typed) && main_typed) (funcs_typed p) e).0).1

  pub has_funcs_typed : is_typed p ≡ true → funcs_typed p ≡ true
  unfolding is_typed
  has_funcs_typed e = (and_parts ((all_shapes_typed && all_vars_typed) && main_typed) (funcs_typed p) e).1

  abbrev func_bodies : ℕ → List Func → Bool
  func_bodies = bodies_typed p.shapes.structs p.vars (length p.data_vars) p.funcs

  abbrev vars_known : Bool
  vars_known = list_all (var_typed p.shapes.structs p.vars (length p.data_vars)) (func_vars p.funcs)

  abbrev vars_apart : Bool
  vars_apart = all_different (func_vars p.funcs) && keeps_to_main p.funcs p.body

  -- no function leads to itself
  pub has_none_recurs : is_typed p ≡ true → none_recurs (calls_of p.funcs) ≡ true
  has_none_recurs e =
      (and_parts (none_recurs (calls_of p.funcs)) (func_bodies 0 p.funcs && (vars_known && vars_apart))
      (has_funcs_typed e)).0

  pub has_bodies_typed : is_typed p ≡ true → func_bodies 0 p.funcs ≡ true
  has_bodies_typed e =
      (and_parts (func_bodies 0 p.funcs) (vars_known && vars_apart)
      (and_parts (none_recurs (calls_of p.funcs)) (func_bodies 0 p.funcs && (vars_known && vars_apart))
      (has_funcs_typed e)).1).0

  pub has_vars_known : is_typed p ≡ true → vars_known ≡ true
  has_vars_known e =
      (and_parts vars_known vars_apart
      (and_parts (func_bodies 0 p.funcs) (vars_known && vars_apart)
      (and_parts (none_recurs (calls_of p.funcs)) (func_bodies 0 p.funcs && (vars_known && vars_apart))
      (has_funcs_typed e)).1).1).0

  abbrev pub body_fits : Option ℕ → Func → Bool
  body_fits home g = body_typed p.shapes.structs p.vars (length p.data_vars) p.funcs home g.body

  body_at : (n : ℕ) (fs : List Func) (g : Func) → func_bodies n fs ≡ true → IsIn g fs → (home : Option ℕ)
      × (body_fits home g ≡ true) × (keeps_to_own g ≡ true)
  body_at n [] g e i = absurd i
  body_at n (f ∷ fs) g e i =
      let both = and_parts (body_fits (Some n) f && keeps_to_own f) (func_bodies (suc n) fs) e in
      let parts = and_parts (body_fits (Some n) f) (keeps_to_own f) both.0 in
      elim i [
        | inl is ↦ (Some n, ap (body_fits (Some n)) is ∙ parts.0, ap keeps_to_own is ∙ parts.1)
        | inr j ↦ body_at (suc n) fs g both.1 j
      ]

  -- each function's body is typed at some number, and names its own variables
  pub own_body : is_typed p ≡ true → (g : Func) → IsIn g p.funcs → (home : Option ℕ) × (body_fits home g ≡ true)
      × (keeps_to_own g ≡ true)
  own_body e g there = body_at 0 p.funcs g (has_bodies_typed e) there
