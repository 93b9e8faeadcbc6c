-- References counted: how often each root is named, and what alone decides a signature where there is no box edge.
use Rattle.std.specs.Prelude.{◌≡◌, ◌<◌, ◌⊎◌, ℕ, zero, suc, true, false, nat_eq, nat_le, List, [], ◌∷◌, map}
use Rattle.fore_base.specs.Lists.{Every}
use Rattle.ta_core.specs.Auto.{Automaton}
use Rattle.ta_core.specs.Language.{InLanguage, RunOf}
use Rattle.ta_core.specs.declared.auto.Rule.{Rule}
use Rattle.ta_core.specs.declared.tree.Tree.{Tree}
use Rattle.fa_core.specs.declared.signature.RefMark.{RefMark}
use Rattle.fa_core.specs.Rearranged.{often}
use Rattle.fa_core.specs.Ways.{ways, once}

-- each number is below n
abbrev pub AllBelow : ℕ → List ℕ → Type 0
AllBelow n ks = Every (λ k. k < n) ks

-- the number does not stand in the list
abbrev pub IsNever : ℕ → List ℕ → Type 0
IsNever n [] = Unit {0}
IsNever n (k ∷ ks) = (nat_eq n k ≡ false) × IsNever n ks

-- the number stands in the list once
abbrev pub IsOnce : ℕ → List ℕ → Type 0
IsOnce n [] = ⊥
IsOnce n (k ∷ ks) = ((nat_eq n k ≡ true) × IsNever n ks) ⊎ ((nat_eq n k ≡ false) × IsOnce n ks)

-- the roots to which the leaves of a tree refer, in the order of a walk through it
abbrev pub tree_refs : Tree → List ℕ
tree_refs t = map (λ w. w.root) (ways t)

-- a count of which no more is told than none, one, or more
abbrev pub to_two : ℕ → ℕ
to_two zero = 0
to_two (suc zero) = 1
to_two (suc (suc n)) = 2

-- the same roots in the order of first visit, and each of them once in both, or more often in both
pub record AreAlike (xs ys : List ℕ) : Type 0 where
  pub order : once xs ≡ once ys
  pub times : (k : ℕ) → to_two (often k xs) ≡ to_two (often k ys)

-- the mark of root r among references to the roots xs, where no edge is a box edge
abbrev pub plain_mark : List ℕ → ℕ → RefMark
plain_mark xs r = record { root = r; many = nat_le 2 (often r xs); provided = []; back = false; reach = [] }

-- the signature that references to the roots xs give where no edge is a box edge
abbrev pub plain_marks : List ℕ → List RefMark
plain_marks xs = map (plain_mark xs) (once xs)

-- what runs to state q refers alike
abbrev pub StateAlike : List Rule → ℕ → Type 0
StateAlike rules q = (t u : Tree) → RunOf rules q t → RunOf rules q u → AreAlike (tree_refs t) (tree_refs u)

-- what runs to one state refers alike, and so does what the automaton accepts
pub record RefersAlike (a : Automaton) : Type 0 where
  pub states : (q : ℕ) → StateAlike a.rules q
  pub component : (t u : Tree) → InLanguage a t → InLanguage a u → AreAlike (tree_refs t) (tree_refs u)
