-- What is reported of a file is one fault or one program.
use Rattle.std.proofs.Common.{◌≡◌, ◌≤◌, ◌<◌, ◌⊎◌, inl, inr, ℕ, zero, suc, Bool, true, false, ◌&&◌, ◌||◌, nat_eq, nat_lt}
use Rattle.std.proofs.Common.{List, [], ◌∷◌, refl, sym, ap, ◌∙◌, subst, true≢false, arith}
use Rattle.std.proofs.lemmas.Bool.{and_parts, cases_lt, eq-eqb, eqb-true, false_from_ne_true, le-ltb, ltb-false}
use Rattle.std.proofs.lemmas.Bool.{ltb-true, or_cases, or_from, or_parts}
use Rattle.fore_base.proofs.ListLemmas.{every_in}
use Rattle.fore_base.specs.Lists.{IsIn, Every}
use Rattle.c_ast.specs.declared.items.Unit as whole
use Rattle.c_types.specs.Program.{Program}
use Rattle.c_typing.specs.Orders.{ranks, less, before}
use Rattle.c_typing.specs.Typing.{breaches, Breaks, IsFirst, IsFirstFault, TypedOf}
use Rattle.c_typing.specs.declared.fault.TypeFault.{TypeFault}
use Rattle.c_typing.specs.declared.fault.TypeFault.TheVariants.{Rule, Limit, Memory}

-- The order is total: two faults of which none is before the other are one.

same_head : (m n : ℕ) (b c : Bool) → (nat_lt m n || (nat_eq m n && b)) ≡ false → (nat_lt n m || (nat_eq n m && c))
    ≡ false → (m ≡ n) × ((b ≡ false) × (c ≡ false))
same_head m n b c e f =
    let left : (nat_lt m n ≡ false) × ((nat_eq m n && b) ≡ false) = or_parts (nat_lt m n) (nat_eq m n && b) e in
    let right : (nat_lt n m ≡ false) × ((nat_eq n m && c) ≡ false) = or_parts (nat_lt n m) (nat_eq n m && c) f in
    let up : n ≤ m = ltb-false m n left.0 in
    let down : m ≤ n = ltb-false n m right.0 in
    let is : m ≡ n = omega (arith, up, down) in
    (is, (ap (λ k. k && b) (sym (eq-eqb m n is)) ∙ left.1, ap (λ k. k && c) (sym (eq-eqb n m (sym is))) ∙ right.1))

less_level : (xs ys : List ℕ) → less xs ys ≡ false → less ys xs ≡ false → xs ≡ ys
less_level [] [] e f = refl
less_level [] (y ∷ ys) e f = absurd (true≢false e)
less_level (x ∷ xs) [] e f = absurd (true≢false f)
less_level (x ∷ xs) (y ∷ ys) e f =
    let h : (x ≡ y) × ((less xs ys ≡ false) × (less ys xs ≡ false)) = same_head x y (less xs ys) (less ys xs) e f in
    ap (λ k. k ∷ xs) h.0 ∙ ap (λ ks. y ∷ ks) (less_level xs ys h.1.0 h.1.1)

abbrev fault_of : List ℕ → TypeFault
fault_of (offset ∷ zero ∷ rule ∷ line ∷ column ∷ []) =
    Rule rule (record { offset = offset; line = line; column = column })
fault_of (offset ∷ suc k ∷ limit ∷ line ∷ column ∷ []) =
    Limit limit (record { offset = offset; line = line; column = column })
fault_of ns = Memory

fault-ranks : (e : TypeFault) → fault_of (ranks e) ≡ e
fault-ranks (Rule rule at) = refl
fault-ranks (Limit limit at) = refl
fault-ranks Memory = refl

pub level_faults : (d e : TypeFault) → before d e ≡ false → before e d ≡ false → d ≡ e
level_faults d e b c = sym (fault-ranks d) ∙ ap fault_of (less_level (ranks d) (ranks e) b c) ∙ fault-ranks e

pub one_first : (es : List TypeFault) (d e : TypeFault) → IsFirst d es → IsFirst e es → d ≡ e
one_first es d e p q = level_faults d e (every_in (λ f. before f e ≡ false) es d q.1 p.0)
    (every_in (λ f. before f d ≡ false) es e p.1 q.0)

pub one_first_fault : (u : whole.Unit) (d e : TypeFault) → IsFirstFault u d → IsFirstFault u e → d ≡ e
one_first_fault u d e p q = one_first (breaches u) d e p q

pub no_breach : (u : whole.Unit) (p : Program) (e : TypeFault) → TypedOf u p → Breaks u e → ⊥
no_breach u p e typed broken = subst (λ es. IsIn e es) typed.0 broken

pub typed_or_fault : (u : whole.Unit) (p : Program) (e : TypeFault) → TypedOf u p → IsFirstFault u e → ⊥
typed_or_fault u p e typed first = no_breach u p e typed first.0

pub one_program : (u : whole.Unit) (p q : Program) → TypedOf u p → TypedOf u q → p ≡ q
one_program u p q left right = left.1 ∙ sym right.1

-- Of faults, if there are any, one is the first.

less_itself : (xs : List ℕ) → less xs xs ≡ false
less_itself [] = refl
less_itself (x ∷ xs) = or_from (nat_lt x x) (nat_eq x x && less xs xs) (le-ltb x x (omega (arith)))
    (ap (λ k. k && less xs xs) (eq-eqb x x refl) ∙ less_itself xs)

differs : (x z : ℕ) → z < x → nat_eq x z ≡ false
differs x z below = false_from_ne_true (nat_eq x z)
    (λ same. let is : x ≡ z = eqb-true x z same in omega (arith, below, is))

less_chain : (xs ys zs : List ℕ) → less xs ys ≡ false → less zs ys ≡ true → less xs zs ≡ false
less_chain [] [] [] e f = refl
less_chain [] [] (z ∷ zs) e f = absurd (true≢false (sym f))
less_chain [] (y ∷ ys) zs e f = absurd (true≢false e)
less_chain (x ∷ xs) [] [] e f = refl
less_chain (x ∷ xs) [] (z ∷ zs) e f = absurd (true≢false (sym f))
less_chain (x ∷ xs) (y ∷ ys) [] e f = refl
less_chain (x ∷ xs) (y ∷ ys) (z ∷ zs) e f = elim (cases_lt z x) [
  | inl above ↦ or_from (nat_lt x z) (nat_eq x z && less xs zs) (le-ltb x z (omega (arith, above)))
      (ap (λ k. k && less xs zs) (differs x z above))
  | inr below ↦ level (λ rest within. less_chain xs ys zs rest within) below
      (or_cases (nat_lt z y) (nat_eq z y && less zs ys) f)
]
  where
    left : (nat_lt x y ≡ false) × ((nat_eq x y && less xs ys) ≡ false)
    left = or_parts (nat_lt x y) (nat_eq x y && less xs ys) e

    up : y ≤ x
    up = ltb-false x y left.0

    level : (less xs ys ≡ false → less zs ys ≡ true → less xs zs ≡ false) → x ≤ z → (nat_lt z y ≡ true)
        ⊎ ((nat_eq z y && less zs ys) ≡ true) → less (x ∷ xs) (z ∷ zs) ≡ false
    level further below (inl less_than) = let down : z < y = ltb-true z y less_than in
        absurd (omega (arith, up, below, down))
    level further below (inr same) =
        let halves : (nat_eq z y ≡ true) × (less zs ys ≡ true) = and_parts (nat_eq z y) (less zs ys) same in
        let is : z ≡ y = eqb-true z y halves.0 in
        let one : x ≡ y = omega (arith, up, below, is) in
        let rest : less xs ys ≡ false = ap (λ k. k && less xs ys) (sym (eq-eqb x y one)) ∙ left.1 in
        let two : x ≡ z = one ∙ sym is in
        or_from (nat_lt x z) (nat_eq x z && less xs zs) (le-ltb x z (omega (arith, two)))
        (ap (λ k. k && less xs zs) (eq-eqb x z two) ∙ further rest halves.1)

none_before : (d e : TypeFault) (es : List TypeFault) → before e d ≡ true → Every (λ f. before f d ≡ false) es
    → Every (λ f. before f e ≡ false) es
none_before d e [] b all = tt
none_before d e (f ∷ fs) b all = (less_chain (ranks f) (ranks d) (ranks e) all.0 b, none_before d e fs b all.1)

pub first_there : (e : TypeFault) (es : List TypeFault) → (d : TypeFault) × IsFirst d (e ∷ es)
first_there e [] = (e, (inl refl, (less_itself (ranks e), tt)))
first_there e (f ∷ fs) = choose (first_there f fs) (before e (first_there f fs).0) refl
  where
    choose : (first : (d : TypeFault) × IsFirst d (f ∷ fs)) (b : Bool) → before e first.0 ≡ b → (d : TypeFault)
        × IsFirst d (e ∷ f ∷ fs)
    choose first true is = (e, (inl refl, (less_itself (ranks e), none_before first.0 e (f ∷ fs) is first.1.1)))
    choose first false is = (first.0, (inr first.1.0, (is, first.1.1)))

-- a file breaks nothing, or has a first fault
pub breaks_or_not : (u : whole.Unit) → (breaches u ≡ []) ⊎ ((e : TypeFault) × IsFirstFault u e)
breaks_or_not u = here (breaches u) refl
  where
    here : (es : List TypeFault) → breaches u ≡ es → (breaches u ≡ []) ⊎ ((e : TypeFault) × IsFirstFault u e)
    here [] is = inl is
    here (e ∷ es) is = let first : (d : TypeFault) × IsFirst d (e ∷ es) = first_there e es in
        inr (first.0, subst (λ fs. IsFirst first.0 fs) (sym is) first.1)
