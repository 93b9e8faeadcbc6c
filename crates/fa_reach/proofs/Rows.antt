-- Worked values: what is reached for choices of signatures.
use Rattle.std.proofs.Common.{◌≡◌, ◌⊎◌, inl, inr, ℕ, zero, suc, ◌<◌, Bool, true, false, true≢false, List, [], ◌∷◌}
use Rattle.std.proofs.Common.{refl, sym, ap, subst, ◌∙◌, arith}
use Rattle.fore_base.specs.Lists.{Every}
use Rattle.fore_base.proofs.ListLemmas.{every_in, in_from_place}
use Rattle.fa_core.specs.declared.signature.RefMark.{RefMark}
use Rattle.fa_core.specs.declared.signature.Signature.{Signature}
use Rattle.fa_back.specs.Reached.{SignReached, from_there, down_to, back_to, reach_to, IsMarkAt}
use Rattle.fa_box_rules.specs.Signs.{Picks}
use Rattle.fa_reach.specs.declared.answer.Lead.TheVariants.{Always, Never, Sometimes}
use Rattle.fa_reach.specs.declared.part.Part.{Part}
use Rattle.fa_reach.specs.Choices.{AllReach, SomeMissed, MayLead, MayMiss, IsLead, HasSign}
use Rattle.fa_back.specs.BackHops.{hop}
use Rattle.fa_reach.specs.inner.Parts.{hops_of, roots_of, choice_count, picked}
use Rattle.fa_reach.specs.inner.Going.{flat}
use Rattle.fa_reach.specs.inner.Sweeps.{sweep_parts}

abbrev marked : ℕ → Bool → List ℕ → RefMark
marked r back reach = record { root = r; many = false; provided = []; back = back; reach = reach }

abbrev sign : List RefMark → Signature
sign ms = record { refs = ms }

-- a tree that refers to no root, and one that refers to root r
abbrev none : Signature
none = sign []

abbrev refers : ℕ → Signature
refers r = sign (marked r false [] ∷ [])

-- Roots from which nothing leads out of Q, where no mark leads back.

abbrev Within : (ℕ → Type 0) → RefMark → Type 0
Within Q m = Q m.root × (m.back ≡ false) × Every Q m.reach

mark_within : (Q : ℕ → Type 0) (ss : List Signature) (j : ℕ) (m : RefMark)
    → Every (λ (s : Signature). Every (Within Q) s.refs) ss → IsMarkAt ss j m → Within Q m
mark_within Q ss j m h k = every_in (Within Q) k.0.refs m
    (every_in (λ (s : Signature). Every (Within Q) s.refs) ss k.0 h (in_from_place ss j k.0 k.1)) k.2

kept_in : (Q : ℕ → Type 0) (ss : List Signature) (i r : ℕ) → Q i
    → Every (λ (s : Signature). Every (Within Q) s.refs) ss → SignReached ss (i ∷ []) r → Q r
kept_in Q ss i r q h (from_there k) = elim k [ inl e ↦ subst Q (sym e) q | inr z ↦ absurd z ]
kept_in Q ss i r q h (down_to j m g k e) = subst Q e (mark_within Q ss j m h k).0
kept_in Q ss i r q h (back_to m g k b) = absurd (true≢false (sym b ∙ (mark_within Q ss r m h k).1))
kept_in Q ss i r q h (reach_to j m g k l) = every_in Q m.reach r (mark_within Q ss j m h k).2 l

one_zero : suc zero ≡ zero → ⊥
one_zero e = omega (arith, e)

zero_one : zero ≡ suc zero → ⊥
zero_one e = omega (arith, e)

-- The first component has a signature that refers to the second, and one that does not.

abbrev apart : List (List Signature)
apart = (refers 1 ∷ (none ∷ [])) ∷ ((none ∷ []) ∷ [])

abbrev apart_led : MayLead apart 0 1
apart_led = (
  refers 1 ∷ (none ∷ []),
  (inl refl, (inl refl, tt)),
  down_to 0 (marked 1 false []) (from_there (inl refl)) (refers 1, refl, inl refl) refl,
)

apart_not : SignReached (none ∷ (none ∷ [])) (0 ∷ []) 1 → ⊥
apart_not h = one_zero (kept_in (λ n. n ≡ 0) (none ∷ (none ∷ [])) 0 1 refl (tt, (tt, tt)) h)

abbrev apart_missed : MayMiss apart 0 1
apart_missed = (none ∷ (none ∷ []), (inr (inl refl), (inl refl, tt)), apart_not)

apart_sometimes : IsLead apart 0 1 Sometimes
apart_sometimes = (apart_led, apart_missed)

apart_some : SomeMissed apart 0
apart_some = (apart_missed.0, apart_missed.1, 1, omega arith, apart_not)

apart_not_always : IsLead apart 0 1 Always → ⊥
apart_not_always h = apart_not (h apart_missed.0 apart_missed.1)

apart_not_never : IsLead apart 0 1 Never → ⊥
apart_not_never h = h apart_led.0 apart_led.1 apart_led.2

apart_not_all : AllReach apart 0 → ⊥
apart_not_all h = apart_not (h apart_missed.0 apart_missed.1 1 (omega arith))

-- With the one signature alone: the second is always reached from the first, and the first never from the second.

abbrev chain : List (List Signature)
chain = (refers 1 ∷ []) ∷ ((none ∷ []) ∷ [])

chain_pick : (ss : List Signature) → Picks chain ss → ss ≡ refers 1 ∷ (none ∷ [])
chain_pick [] p = absurd p
chain_pick (a ∷ []) p = absurd p.1
chain_pick (a ∷ (b ∷ (c ∷ ss))) p = absurd p.1.1
chain_pick (a ∷ (b ∷ [])) (inl d, (inl e, t)) =
    ap (λ (s : Signature). s ∷ (b ∷ [])) d ∙ ap (λ (s : Signature). refers 1 ∷ (s ∷ [])) e
chain_pick (a ∷ (b ∷ [])) (inl d, (inr z, t)) = absurd z
chain_pick (a ∷ (b ∷ [])) (inr z, q) = absurd z

chain_second : SignReached (refers 1 ∷ (none ∷ [])) (0 ∷ []) 1
chain_second = down_to 0 (marked 1 false []) (from_there (inl refl)) (refers 1, refl, inl refl) refl

chain_all : AllReach chain 0
chain_all ss p r l = subst (λ (z : List Signature). SignReached z (0 ∷ []) r) (sym (chain_pick ss p)) (each r l)
  where
    each : (n : ℕ) → n < 2 → SignReached (refers 1 ∷ (none ∷ [])) (0 ∷ []) n
    each zero k = from_there (inl refl)
    each (suc zero) k = chain_second
    each (suc (suc n)) k = absurd (omega (arith, k))

chain_always : IsLead chain 0 1 Always
chain_always ss p = chain_all ss p 1 (omega arith)

chain_never : IsLead chain 1 0 Never
chain_never ss p h = zero_one (kept_in (λ n. n ≡ 1) (refers 1 ∷ (none ∷ [])) 1 0 refl
    (((refl, refl, tt), tt), (tt, tt)) (subst (λ (z : List Signature). SignReached z (1 ∷ []) 0) (chain_pick ss p) h))

chain_not_missed : SomeMissed chain 0 → ⊥
chain_not_missed w = w.4 (chain_all w.0 w.1 w.2 w.3)

-- A way back from the first component leads to the second, in one of its two signatures.

abbrev turning : Signature
turning = sign (marked 0 true [] ∷ [])

abbrev turned : List (List Signature)
turned = (none ∷ []) ∷ ((turning ∷ (refers 0 ∷ [])) ∷ [])

turned_sometimes : IsLead turned 0 1 Sometimes
turned_sometimes = (
  (
    none ∷ (turning ∷ []),
    (inl refl, (inl refl, tt)),
    back_to (marked 0 true []) (from_there (inl refl)) (turning, refl, inl refl) refl,
  ),
  (
    none ∷ (refers 0 ∷ []),
    (inl refl, (inr (inl refl), tt)),
    λ h. one_zero (kept_in (λ n. n ≡ 0) (none ∷ (refers 0 ∷ [])) 0 1 refl
        (tt, (((refl, refl, tt), tt), tt)) h),
  ),
)

-- The way back leads to the third component, which the mark tells, and not to the second.

abbrev telling : Signature
telling = sign (marked 0 false (2 ∷ []) ∷ [])

abbrev told : List (List Signature)
told = (none ∷ []) ∷ ((telling ∷ []) ∷ ((none ∷ []) ∷ []))

told_third : MayLead told 0 2
told_third = (
  none ∷ (telling ∷ (none ∷ [])),
  (inl refl, (inl refl, (inl refl, tt))),
  reach_to 1 (marked 0 false (2 ∷ [])) (from_there (inl refl)) (telling, refl, inl refl) (inl refl),
)

told_second : MayMiss told 0 1
told_second = (
  none ∷ (telling ∷ (none ∷ [])),
  (inl refl, (inl refl, (inl refl, tt))),
  λ h. elim (kept_in (λ n. (n ≡ 0) ⊎ (n ≡ 2)) (none ∷ (telling ∷ (none ∷ []))) 0 1 (inl refl)
      (tt, (((inl refl, refl, (inr refl, tt)), tt), (tt, tt))) h)
      [ inl e ↦ one_zero e | inr e ↦ absurd (omega (arith, e)) ],
)

-- Signatures that are there.

has_one : HasSign (none ∷ [])
has_one = (none, inl refl)

has_none : HasSign [] → ⊥
has_none h = h.1

-- Parts and their choices.

turning_hops : hops_of 1 turning ≡ hop 0 1 ∷ []
turning_hops = refl

telling_hops : hops_of 1 telling ≡ hop 0 2 ∷ []
telling_hops = refl

both_roots : roots_of (sign (marked 2 true [] ∷ (marked 0 false (1 ∷ []) ∷ []))) ≡ 2 ∷ (0 ∷ [])
both_roots = refl

abbrev part : ℕ → Part
part n = record { hops = []; downs = (n ∷ []) ∷ [] }

abbrev three : List (List Part)
three = (part 0 ∷ (part 1 ∷ [])) ∷ ((part 2 ∷ []) ∷ ((part 3 ∷ (part 4 ∷ [])) ∷ []))

three_count : choice_count three ≡ 4
three_count = refl

three_last : picked three 3 ≡ part 1 ∷ (part 2 ∷ (part 4 ∷ []))
three_last = refl

three_first : picked three 0 ≡ part 0 ∷ (part 2 ∷ (part 3 ∷ []))
three_first = refl

three_flat : flat ((1 ∷ (2 ∷ [])) ∷ ((3 ∷ []) ∷ [])) ≡ 1 ∷ (2 ∷ (3 ∷ []))
three_flat = refl

-- the first two refer to the third, which is to be avoided; the last refers to itself
three_swept : sweep_parts 0 (part 2 ∷ (part 0 ∷ (part 3 ∷ (part 3 ∷ [])))) (true ∷ (true ∷ (false ∷ (true ∷ []))))
    ≡ false ∷ (false ∷ (false ∷ (true ∷ [])))
three_swept = refl
