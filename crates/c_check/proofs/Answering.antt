-- From what a traversal of a unit found to the answer.
use Rattle.std.proofs.Common.{◌≡◌, ◌⊎◌, inl, inr, ℕ, Bool, true, false, List, [], ◌∷◌, map, Option, Some, None}
use Rattle.std.proofs.Common.{Result, Ok, Err, IfOk, IfErr, IsErrAnd, refl, sym, ap, ◌∙◌}
use Rattle.std.specs.Prelude.{nat_lt}
use Rattle.c_ast.specs.declared.items.Head.{Head}
use Rattle.c_ast.specs.declared.items.Item.{Item}
use Rattle.c_ast.specs.declared.items.Unit as whole
use Rattle.c_types.specs.Program.{Program, is_typed}
use Rattle.c_typing.specs.Globals.{Globals, globals_of, main_head}
use Rattle.c_typing.specs.ItemSites.{unit_sites}
use Rattle.c_typing.specs.Programs.{program_in, program_of}
use Rattle.c_typing.specs.Rules.{when}
use Rattle.c_typing.specs.Typing.{breaches, breaches_of, k9, or_else, overweight, site_breaches, IsFirstFault, TypedOf}
use Rattle.c_typing.specs.Weights.{main_weight}
use Rattle.c_typing.proofs.SoundFiles.{file_typed}
use Rattle.c_typing.specs.declared.fault.TypeFault.{TypeFault}
use Rattle.c_typing.specs.declared.fault.TypeFault.TheVariants.{Limit, Memory}
use Rattle.c_typing.specs.declared.limits.TheConstants.{WEIGHT}
use Rattle.c_expressions.specs.First.{first_from}
use Rattle.c_expressions.specs.Meeting.{met}
use Rattle.c_bodies.proofs.FirstFaults.{found_first, found_none}
use Rattle.c_check.specs.inner.Heavy.{heavy_at, or_fault}
use Rattle.c_expressions.proofs.MeetingLemmas.{met-breaches}

-- the first fault of one list, or else of another
first_or_else : (xs ys : List TypeFault) → first_from None (or_else xs ys)
    ≡ or_fault (first_from None xs) (first_from None ys)
first_or_else [] ys = refl
first_or_else (x ∷ xs) ys = by (first_from None (x ∷ xs)) refl
  where
    by : (o : Option TypeFault) → first_from None (x ∷ xs) ≡ o → first_from None (x ∷ xs)
        ≡ or_fault o (first_from None ys)
    by (Some e) is = is
    by None is = absurd (there (found_none (x ∷ xs) is))
      where
        there : x ∷ xs ≡ [] → ⊥
        there e = cc e

heavy_first : (heavy : Bool) (h : Head) → heavy_at heavy (Some h)
    ≡ first_from None (map (Limit 9) (when heavy h.name.at))
heavy_first true h = refl
heavy_first false h = refl

heavy_k9 : (weight : ℕ) (o : Option Head) → heavy_at (nat_lt WEIGHT weight) o
    ≡ first_from None (map (Limit 9) (k9 weight o))
heavy_k9 weight None = refl
heavy_k9 weight (Some h) = heavy_first (nat_lt WEIGHT weight) h

-- the weight of a file is a fault of its own
abbrev pub heavy_in : List Item → Option TypeFault
heavy_in items = heavy_at (nat_lt WEIGHT (main_weight items)) (main_head items)

abbrev pub heavy_of : whole.Unit → Option TypeFault
heavy_of u = heavy_in u.items

heavy_unit : (u : whole.Unit) → heavy_of u ≡ first_from None (overweight u)
unfolding overweight
heavy_unit u = heavy_k9 (main_weight u.items) (main_head u.items)

module _ (u : whole.Unit) (g : Globals) (tables : g ≡ globals_of u.items) where
  found_sites : (o : Option TypeFault) → o ≡ met g None (unit_sites g u) → o ≡ first_from None (site_breaches u)
  unfolding site_breaches
  found_sites o h = h ∙ met-breaches g None (unit_sites g u)
      ∙ ap (λ (f : Globals). first_from None (breaches_of f (unit_sites f u))) tables

  found_unit : (o w : Option TypeFault) → o ≡ met g None (unit_sites g u) → w ≡ or_fault o (heavy_of u)
      → w ≡ first_from None (breaches u)
  unfolding breaches
  found_unit o w h k =
      k ∙ ap (λ f. or_fault f (heavy_of u)) (found_sites o h)
      ∙ ap (or_fault (first_from None (site_breaches u))) (heavy_unit u)
      ∙ sym (first_or_else (site_breaches u) (overweight u))

  program_unit : program_in g u.items ≡ program_of u
  unfolding program_of
  program_unit = ap (λ (f : Globals). program_in f u.items) tables

  module _ (o w : Option TypeFault) (h : o ≡ met g None (unit_sites g u)) (k : w ≡ or_fault o (heavy_of u)) where
    unbroken : w ≡ None → breaches u ≡ []
    unbroken none = found_none (breaches u) (sym (found_unit o w h k) ∙ none)

    pub typed_unit : w ≡ None → is_typed (program_in g u.items) ≡ true
    typed_unit none = ap is_typed program_unit ∙ file_typed u (unbroken none)

    pub ok_unit : (r : Result Program TypeFault) → IfOk r (λ p. (w ≡ None) × (p ≡ program_in g u.items))
        → IfOk r (TypedOf u)
    ok_unit (Ok p) ok = (unbroken ok.0, ok.1 ∙ program_unit)
    ok_unit (Err e) ok = tt

    pub err_unit : (r : Result Program TypeFault) → IfErr r (λ e. (e ≡ Memory) ⊎ (w ≡ Some e))
        → IfErr r (λ e. (e ≡ Memory) ⊎ IsFirstFault u e)
    err_unit (Ok p) err = tt
    err_unit (Err e) (inl is) = inl is
    err_unit (Err e) (inr is) = inr (found_first (breaches u) e (sym (found_unit o w h k) ∙ is))

-- want of memory is passed on
pub memory_passed : (u : whole.Unit) (r : Result Program TypeFault) → IsErrAnd r (λ e. e ≡ Memory)
    → IfErr r (λ e. (e ≡ Memory) ⊎ IsFirstFault u e)
memory_passed u (Ok p) h = absurd h
memory_passed u (Err e) h = inl h
