-- The merged automaton keeps its ranges, and what the code of merging needs of lists.
use Rattle.std.proofs.Common.{◌≡◌, ℕ, suc, ◌<◌, ◌+◌, length, List, [], ◌∷◌, ◌++◌, map, refl, sym, ap, ap₂, ◌∙◌, arith}
use Rattle.fore_base.specs.Lists.{IsIn, Every}
use Rattle.fore_base.proofs.ListLemmas.{in_every, every_in, every_append}
use Rattle.ta_core.specs.Auto.{Automaton, IsRanked, IsRankedRule}
use Rattle.ta_core.specs.Joined.{shift}
use Rattle.ta_core.specs.declared.auto.Rule.{Rule}
pub use Rattle.fa_sound.proofs.ComponentLemmas.{item_component}
use Rattle.fa_merge.specs.Merged.{kept, moved, bridges, merged}
use Rattle.fa_merge.proofs.MergedTrees.{kept_in, moved_in, bridges_in}
use Rattle.fa_merge.proofs.OtherOrders.{mapped_length}

states_up : (m n : ℕ) (qs : List ℕ) → Every (λ q. q < n) qs → Every (λ q. q < m + n) (map (shift m) qs)
states_up m n [] h = tt
states_up m n (q ∷ qs) h = (let l = h.0 in omega (arith, l), states_up m n qs h.1)

states_more : (m n : ℕ) (qs : List ℕ) → Every (λ q. q < m) qs → Every (λ q. q < m + n) qs
states_more m n [] h = tt
states_more m n (q ∷ qs) h = (let l = h.0 in omega (arith, l), states_more m n qs h.1)

pub merged_ranked : (r : ℕ) (t l : Automaton) → IsRanked t → IsRanked l → IsRanked (merged r t l)
merged_ranked r t l p q = (
  states_more t.states l.states t.roots p.0,
  every_append (IsRankedRule (t.states + l.states)) (kept r t.rules)
      (moved t.states l.rules ++ bridges t.states r l t.rules)
      (in_every (IsRankedRule (t.states + l.states)) (kept r t.rules) old)
      (every_append (IsRankedRule (t.states + l.states)) (moved t.states l.rules) (bridges t.states r l t.rules)
      (in_every (IsRankedRule (t.states + l.states)) (moved t.states l.rules) up)
      (in_every (IsRankedRule (t.states + l.states)) (bridges t.states r l t.rules) between)),
)
  where
    old : (x : Rule) → IsIn x (kept r t.rules) → IsRankedRule (t.states + l.states) x
    old x i = let w = every_in (IsRankedRule t.states) t.rules x p.1 (kept_in r t.rules x i).0 in let a = w.0 in
        (omega (arith, a), states_more t.states l.states x.children w.1, w.2)

    up : (x : Rule) → IsIn x (moved t.states l.rules) → IsRankedRule (t.states + l.states) x
    up x i =
        let m = moved_in t.states l.rules x i in
        let w = every_in (IsRankedRule l.states) l.rules m.0 q.1 m.1 in
        let a = w.0 in
        rw m.2 (
          omega (arith, a),
          states_up t.states l.states m.0.children w.1,
          mapped_length (shift t.states) m.0.children ∙ w.2,
        )

    between : (x : Rule) → IsIn x (bridges t.states r l t.rules) → IsRankedRule (t.states + l.states) x
    between x i =
        let m = bridges_in t.states r l t.rules x i in
        let w = every_in (IsRankedRule l.states) l.rules m.1 q.1 m.4 in
        let a = (every_in (IsRankedRule t.states) t.rules m.0 p.1 m.2).0 in
        rw m.6 (
          omega (arith, a),
          states_up t.states l.states m.1.children w.1,
          mapped_length (shift t.states) m.1.children ∙ w.2,
        )

-- lists with a last item
abbrev head_or : Automaton → List Automaton → Automaton
head_or d [] = d
head_or d (z ∷ zs) = z

abbrev tail_of : List Automaton → List Automaton
tail_of [] = []
tail_of (z ∷ zs) = zs

long : (xs : List Automaton) (x : Automaton) → [] ≡ xs ++ (x ∷ []) → ⊥
long [] x e = let z : 0 ≡ 1 = ap length e in omega (arith, z)
long (y ∷ xs) x e = let z : 0 ≡ suc (length (xs ++ (x ∷ []))) = ap length e in omega (arith, z)

pub same_last : (xs ys : List Automaton) (x y : Automaton) → xs ++ (x ∷ []) ≡ ys ++ (y ∷ []) → (xs ≡ ys) × (x ≡ y)
same_last [] [] x y e = (refl, ap (head_or y) e)
same_last [] (b ∷ ys) x y e = absurd (long ys y (ap tail_of e))
same_last (a ∷ xs) [] x y e = absurd (long xs x (sym (ap tail_of e)))
same_last (a ∷ xs) (b ∷ ys) x y e =
    let k = same_last xs ys x y (ap tail_of e) in
    (ap₂ (λ (u : Automaton) (v : List Automaton). u ∷ v) (ap (head_or b) e) k.0, k.1)
