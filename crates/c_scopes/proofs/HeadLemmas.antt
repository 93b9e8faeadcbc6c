-- Parameters that are declared one after the other.
use Rattle.std.proofs.Common.{◌≡◌, ℕ, ◌+◌, ◌<◌, ◌≤◌, List, [], ◌∷◌, ◌++◌, length, get_or, drop, refl, sym, ap}
use Rattle.std.proofs.Common.{◌∙◌, append_assoc, append-nil}
use Rattle.std.proofs.lemmas.List.{drop_all}
use Rattle.fore_base.proofs.ListLemmas.{drop_item}
use Rattle.c_ast.specs.declared.items.Param.{Param}
use Rattle.c_types.specs.declared.program.VarRef.{VarRef}
use Rattle.c_typing.specs.Globals.{Globals, param_kind, struct_names}
use Rattle.c_typing.specs.Programs.{param_refs}
use Rattle.c_typing.specs.Scopes.{Scope, declared, next_ref, param_name, past_params}

module _ (g : Globals) (params : List Param) (i : ℕ) where
  -- with the parameter, what is in scope
  abbrev pub with_param : Param → Scope → Scope
  with_param p scope = declared scope (param_name p).text (param_kind (struct_names g) p)

  pub past_more : (p : Param) (scope : Scope) → i < length params → p ≡ get_or params i p →
      past_params g (drop (i + 1) params) (with_param p scope) ≡ past_params g (drop i params) scope
  past_more p scope within is = ap (λ (ps : List Param). past_params g ps scope) (sym (drop_item params i p within is))

  pub refs_more : (refs : List VarRef) (p : Param) (scope : Scope) → i < length params → p ≡ get_or params i p →
      (refs ++ next_ref (param_kind (struct_names g) p) scope ∷ [])
      ++ param_refs g (drop (i + 1) params) (with_param p scope)
      ≡ refs ++ param_refs g (drop i params) scope
  refs_more refs p scope within is =
      append_assoc refs (next_ref (param_kind (struct_names g) p) scope ∷ [])
      (param_refs g (drop (i + 1) params) (with_param p scope))
      ∙ ap (λ (ps : List Param). refs ++ param_refs g ps scope) (sym (drop_item params i p within is))

  pub past_over : (scope : Scope) → length params ≤ i → past_params g (drop i params) scope ≡ scope
  past_over scope past = ap (λ (ps : List Param). past_params g ps scope) (drop_all i params past)

  pub refs_over : (refs : List VarRef) (scope : Scope) → length params ≤ i
      → refs ++ param_refs g (drop i params) scope ≡ refs
  refs_over refs scope past =
      ap (λ (ps : List Param). refs ++ param_refs g ps scope) (drop_all i params past) ∙ append-nil refs
