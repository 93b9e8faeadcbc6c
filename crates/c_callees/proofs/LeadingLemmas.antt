-- Which functions lead to which, as marks and as a test.
use Rattle.std.proofs.Common.{◌≡◌, ◌⊎◌, inl, inr, ◌<◌, ◌≤◌, ℕ, zero, suc, Bool, true, false, List, [], ◌∷◌, ◌++◌}
use Rattle.std.proofs.Common.{length, slice_get, get_or, Some, refl, sym, ap, subst, arith}
use Rattle.std.proofs.lemmas.Bool.{false_from_ne_true, true≢false}
use Rattle.std.proofs.lemmas.Option.{none-some, same_Some}
use Rattle.fore_base.specs.Marks.{MarksOf}
use Rattle.fore_base.proofs.ListLemmas.{every_in}
use Rattle.c_calls.specs.Calls.{AreCalls, Leads, at_once, through, called_by, leads_within}
use Rattle.c_calls.proofs.FewCalls.{leads_few, within_leads}
use Rattle.c_calls.proofs.Places.{every_called}
use Rattle.c_callees.specs.Leading.{AreLeading}

-- a test that is exact
exact : (told test : Bool) → (told ≡ true → test ≡ true) → (test ≡ true → told ≡ true) → told ≡ test
exact true test h k = sym (h refl)
exact false test h k = sym (false_from_ne_true test (λ e. true≢false (sym (k e))))

-- what stands in a list with one item more
get_pushed : (ls : List (List Bool)) (marks : List Bool) (to : ℕ) (other : List Bool)
    → slice_get (ls ++ marks ∷ []) to ≡ Some other
    → (slice_get ls to ≡ Some other) ⊎ ((to ≡ length ls) × (marks ≡ other))
get_pushed [] marks zero other e = inr (refl, same_Some marks other e)
get_pushed [] marks (suc to) other e = absurd (none-some other e)
get_pushed (l ∷ ls) marks zero other e = inl e
get_pushed (l ∷ ls) marks (suc to) other e = elim (get_pushed ls marks to other e) [
  | inl there ↦ inl there
  | inr last ↦ inr (ap suc last.0, last.1)
]

module _ (calls : List (List ℕ)) where
  pub leads_tested : (told : Bool) (f g : ℕ) → (told ≡ true → Leads calls f g) → (Leads calls f g → told ≡ true)
      → told ≡ leads_within calls (length calls) f g
  leads_tested told f g h k = exact told _ (λ e. leads_few calls f g (h e))
      (λ e. k (within_leads calls (length calls) f g e))

  pub leads_marked : (marks : List Bool) (f g : ℕ) → MarksOf (length calls) (λ x. Leads calls x g) marks
      → get_or marks f false ≡ leads_within calls (length calls) f g
  leads_marked marks f g m = leads_tested (get_or marks f false) f g (m.only f) (m.each f)

  -- what is called by f
  leads_inside : AreCalls calls → (f g : ℕ) → Leads calls f g → g < length calls
  leads_inside are f g (at_once i) =
      every_in (λ x. x < length calls) (called_by calls f) g (every_called (λ x. x < length calls) calls f are) i
  leads_inside are f g (through h i l) = leads_inside are h g l

  -- a number past the functions is led to by none
  pub leads_past : AreCalls calls → (f g : ℕ) → length calls ≤ g → false ≡ leads_within calls (length calls) f g
  leads_past are f g past =
      leads_tested false f g (λ e. absurd (true≢false (sym e)))
      (λ l. let n = leads_inside are f g l in absurd (omega (arith, n, past)))

  -- marks of one function more
  pub leading_none : AreLeading calls []
  leading_none = record { each = λ to marks e. absurd (none-some marks e) }

  pub leading_more : (leading : List (List Bool)) (marks : List Bool) → AreLeading calls leading
      → MarksOf (length calls) (λ f. Leads calls f (length leading)) marks → AreLeading calls (leading ++ marks ∷ [])
  leading_more leading marks are m = record {
    each = λ to other e. elim (get_pushed leading marks to other e) [
      | inl there ↦ are.each to other there
      | inr last ↦ subst (λ (t : ℕ). MarksOf (length calls) (λ f. Leads calls f t) other) (sym last.0)
          (subst (λ (ms : List Bool). MarksOf (length calls) (λ f. Leads calls f (length leading)) ms) last.1 m)
    ];
  }
