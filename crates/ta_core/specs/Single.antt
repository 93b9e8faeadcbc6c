-- Automata of which one rule stands at the top of each tree.
use Rattle.std.specs.Prelude.{◌≡◌, ℕ, [], ◌∷◌, slice_get, Some}
use Rattle.fore_base.specs.Lists.{IsIn, Every}
use Rattle.ta_core.specs.Auto.{Automaton}
use Rattle.ta_core.specs.declared.auto.Rule.{Rule}

-- there is one root state, listed once, and that state has one rule, listed once
pub record HasOneTop (a : Automaton) : Type 0 where
  pub root : ℕ
  pub alone : a.roots ≡ root ∷ []
  pub place : ℕ
  pub rule : Rule
  pub there : slice_get a.rules place ≡ Some rule
  pub top : rule.state ≡ root
  pub only : (i : ℕ) (r : Rule) → slice_get a.rules i ≡ Some r → r.state ≡ root → i ≡ place

-- there is one root state, and that state has one rule, however often each is listed
pub record HasSameTop (a : Automaton) : Type 0 where
  pub root : ℕ
  pub listed : IsIn root a.roots
  pub alone : Every (λ q. q ≡ root) a.roots
  pub rule : Rule
  pub there : IsIn rule a.rules
  pub top : rule.state ≡ root
  pub only : (r : Rule) → IsIn r a.rules → r.state ≡ root → r ≡ rule
