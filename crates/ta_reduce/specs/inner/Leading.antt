-- Automata in which one rule of the only root state matches the others of it.
use Rattle.std.specs.Prelude.{◌≡◌, ℕ}
use Rattle.fore_base.specs.Lists.{IsIn, Every, Paired}
use Rattle.ta_core.specs.Auto.{Automaton}
use Rattle.ta_core.specs.Language.{HasTree}
use Rattle.ta_core.specs.Simulations.{IsSimulated}
use Rattle.ta_core.specs.declared.auto.Rule.{Rule}

-- there is one root state, however often it is listed; it has a tree, and a rule that each rule of it is matched by:
-- one with the same symbol, and with children that simulate its children
pub record IsLed (a : Automaton) : Type 0 where
  pub root : ℕ
  pub listed : IsIn root a.roots
  pub alone : Every (λ q. q ≡ root) a.roots
  pub tree : HasTree a.rules root
  pub rule : Rule
  pub there : IsIn rule a.rules
  pub top : rule.state ≡ root
  pub leads : (r : Rule) → IsIn r a.rules → r.state ≡ root → (rule.symbol ≡ r.symbol)
      × Paired (IsSimulated a.rules) r.children rule.children

-- where a is led, b is
abbrev pub KeepsLead : Automaton → Automaton → Type 0
KeepsLead a b = IsLed a → IsLed b
