-- What is made of a component is an automaton.
use Rattle.std.proofs.Common.{arith, ℕ, suc, List, [], ◌∷◌, ◌++◌, ◌≡◌, ◌≤◌, ◌<◌, ◌+◌, map, refl, sym, ap, ◌∙◌, length}
use Rattle.std.proofs.Common.{subst}
use Rattle.fore_base.specs.Lists.{Every}
use Rattle.ta_core.specs.Arity.{arity, child_slots}
use Rattle.ta_core.specs.Auto.{IsRanked, IsRankedRule, automaton}
use Rattle.ta_core.specs.declared.auto.Rule.{Rule}
use Rattle.fa_lines.specs.declared.line.SlotText.{SlotText}
use Rattle.fa_lines.specs.declared.line.SlotText.TheVariants.{Field, Link, Hook}
use Rattle.fa_lines.specs.declared.line.Term.{Term}
use Rattle.fa_lines.specs.declared.line.Term.TheVariants.{Null, Uninit, Dangling, Ref, Cell}
use Rattle.fa_written.specs.declared.draft.RuleDraft.{RuleDraft}
use Rattle.fa_written.specs.declared.draft.PartDraft.{PartDraft}
use Rattle.fa_named.specs.Insides.{children_of, below_term, below_rules, bound_from, rule_states, state_count}
use Rattle.fa_named.specs.Insides.{slot_of, symbol_of, rule_of, auto_of}
use Rattle.fa_named.specs.Places.{Texts}
use Rattle.fa_named.specs.declared.named.Known.{Known}
use Rattle.fa_named.proofs.MarkedLemmas.{bound_least, bound_above}

as_many : (pointers boxes : Texts) (ss : List SlotText)
    → length (children_of ss) ≡ child_slots (map (slot_of pointers boxes) ss)
as_many pointers boxes [] = refl
as_many pointers boxes (Field name q ∷ ss) = let h = as_many pointers boxes ss in omega (arith, h)
as_many pointers boxes (Link name q ∷ ss) = let h = as_many pointers boxes ss in omega (arith, h)
as_many pointers boxes (Hook name ∷ ss) = as_many pointers boxes ss

fits_term : (known : Known) (boxes : Texts) (t : Term) → length (below_term t) ≡ arity (symbol_of known boxes t)
fits_term known boxes Null = refl
fits_term known boxes Uninit = refl
fits_term known boxes Dangling = refl
fits_term known boxes (Ref r) = refl
fits_term known boxes (Cell shape ds slots) = as_many _ boxes slots

front : {X : Type 0} (P : X → Type 0) (xs ys : List X) → Every P (xs ++ ys) → Every P xs
front P [] ys h = tt
front P (x ∷ xs) ys h = (h.0, front P xs ys h.1)

behind : {X : Type 0} (P : X → Type 0) (xs ys : List X) → Every P (xs ++ ys) → Every P ys
behind P [] ys h = h
behind P (x ∷ xs) ys h = behind P xs ys h.1

below_more : (n m : ℕ) (qs : List ℕ) → n ≤ m → Every (λ q. q < n) qs → Every (λ q. q < m) qs
below_more n m [] le h = tt
below_more n m (q ∷ qs) le h = (omega (arith, le, h.0), below_more n m qs le h.1)

rules_ranked : (known : Known) (boxes : Texts) (n : ℕ) (rs : List RuleDraft) → Every (λ q. q < n) (rule_states rs)
    → Every (λ q. q < n) (below_rules rs) → Every (IsRankedRule n) (map (rule_of known boxes) rs)
rules_ranked known boxes n [] h k = tt
rules_ranked known boxes n (r ∷ rs) h k = (
  (h.0, front (λ q. q < n) (below_term r.term) (below_rules rs) k, fits_term known boxes r.term),
  rules_ranked known boxes n rs h.1 (behind (λ q. q < n) (below_term r.term) (below_rules rs) k),
)

pub ranked : (known : Known) (boxes : Texts) (p : PartDraft) → IsRanked (auto_of known boxes p)
ranked known boxes p =
    let roots = bound_from 0 p.roots in
    let states = bound_from roots (rule_states p.rules) in
    let n = state_count p in
    let first = bound_least roots (rule_states p.rules) in
    let second : states ≤ n = bound_least states (below_rules p.rules) in
    let both : roots ≤ n = omega (arith, first, second) in (
      below_more roots n p.roots both (bound_above 0 p.roots),
      rules_ranked known boxes n p.rules
          (below_more states n (rule_states p.rules) second (bound_above roots (rule_states p.rules)))
          (bound_above states (below_rules p.rules)),
    )

pub ranked_by : (known : Known) (boxes : Texts) (p : PartDraft) (n : ℕ) (qs : List ℕ) (rs : List Rule)
    → n ≡ state_count p → qs ≡ p.roots → rs ≡ map (rule_of known boxes) p.rules → IsRanked (automaton n qs rs)
ranked_by known boxes p n qs rs e f g =
    subst IsRanked
    (sym (ap (λ k. automaton k qs rs) e ∙ ap (λ xs. automaton (state_count p) xs rs) f
    ∙ ap (λ xs. automaton (state_count p) p.roots xs) g))
    (ranked known boxes p)
