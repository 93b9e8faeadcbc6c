-- Lists of rules of which none matches another.
use Rattle.std.specs.Prelude.{◌≡◌, List, [], ◌∷◌, reverse}
use Rattle.fore_base.specs.Lists.{IsIn, Every, Paired}
use Rattle.ta_core.specs.Renumbered.{IsSublist}
use Rattle.ta_core.specs.declared.auto.Rule.{Rule}
use Rattle.ta_sim.specs.Relations.{Table, Holds}

-- rule s matches rule r: it has the same state and symbol, and children to which those of r are related
abbrev pub Matches : Table → Rule → Rule → Type 0
Matches rel s r = (r.state ≡ s.state) × (r.symbol ≡ s.symbol) × Paired (Holds rel) r.children s.children

-- one of the rules matches r
abbrev pub HasMatch : Table → List Rule → Rule → Type 0
HasMatch rel rules r = (s : Rule) × IsIn s rules × Matches rel s r

-- each item is related to all that come later
abbrev pub EachLater : {X : Type 0} → (X → X → Type 0) → List X → Type 0
EachLater R [] = Unit {0}
EachLater R (x ∷ xs) = Every (R x) xs × EachLater R xs

-- rule s does not match r
abbrev pub Misses : Table → Rule → Rule → Type 0
Misses rel r s = Matches rel s r → ⊥

-- some of the rules, in the opposite order: one that matches each, and none that matches one before it
pub record IsThinned (rel : Table) (rules made : List Rule) : Type 0 where
  pub part : IsSublist made (reverse rules)
  pub whole : Every (HasMatch rel made) rules
  pub apart : EachLater (λ r s. Misses rel s r) made

-- some of the rules, in their order: one that matches each, and none that matches another
pub record AreNeeded (rel : Table) (rules made : List Rule) : Type 0 where
  pub part : IsSublist made rules
  pub whole : Every (HasMatch rel made) rules
  pub ahead : EachLater (λ r s. Misses rel s r) made
  pub behind : EachLater (λ r s. Misses rel r s) made
