-- Declarators, one after the other: the scope, and the first fault so far.
use Rattle.std.proofs.Common.{◌≡◌, ℕ, ◌+◌, ◌<◌, ◌≤◌, List, Option, length, drop, get_or, ap, ◌∙◌}
use Rattle.std.proofs.lemmas.List.{drop_all}
use Rattle.fore_base.proofs.ListLemmas.{drop_item}
use Rattle.c_ast.specs.declared.statements.Declarator.{Declarator}
use Rattle.c_typing.specs.BodySites.{declarator_sites, declarators_sites}
use Rattle.c_typing.specs.Globals.{Globals}
use Rattle.c_typing.specs.Scopes.{Scope, declared, all_declared}
use Rattle.c_typing.specs.declared.fault.TypeFault.{TypeFault}
use Rattle.c_typing.specs.declared.meaning.Kind.{Kind}
use Rattle.c_expressions.specs.Meeting.{met}
use Rattle.c_expressions.proofs.MeetingLemmas.{met-nil, met-append}

module _ (kind : Kind) (ds : List Declarator) (i : ℕ) (d : Declarator) (within : i < length ds) (is : d ≡ get_or ds i d)
  where
    pub declared_step : (scope : Scope) → all_declared kind (drop i ds) scope
        ≡ all_declared kind (drop (i + 1) ds) (declared scope d.name.text kind)
    declared_step scope = ap (λ xs. all_declared kind xs scope) (drop_item ds i d within is)

    pub declarators_step : (g : Globals) (found : Option TypeFault) (scope : Scope) →
        met g found (declarators_sites g kind (drop i ds) scope)
        ≡ met g (met g found (declarator_sites g kind scope d))
        (declarators_sites g kind (drop (i + 1) ds) (declared scope d.name.text kind))
    declarators_step g found scope =
        ap (λ xs. met g found (declarators_sites g kind xs scope)) (drop_item ds i d within is)
        ∙ met-append g found (declarator_sites g kind scope d)
        (declarators_sites g kind (drop (i + 1) ds) (declared scope d.name.text kind))

module _ (kind : Kind) (ds : List Declarator) (i : ℕ) (past : length ds ≤ i) where
  pub declared_end : (scope : Scope) → all_declared kind (drop i ds) scope ≡ scope
  declared_end scope = ap (λ xs. all_declared kind xs scope) (drop_all i ds past)

  pub declarators_end : (g : Globals) (found : Option TypeFault) (scope : Scope)
      → met g found (declarators_sites g kind (drop i ds) scope) ≡ found
  declarators_end g found scope = ap (λ xs. met g found (declarators_sites g kind xs scope)) (drop_all i ds past)
      ∙ met-nil g found
