-- Joined states, and the component that they give.
use Rattle.std.proofs.Common.{◌≡◌, inl, inr, ℕ, zero, suc, ◌<◌, ◌+◌, List, [], ◌∷◌, ◌++◌, Some, slice_get, slice_index}
use Rattle.std.proofs.Common.{length, take, refl, sym, ap, subst, ◌∙◌, arith}
use Rattle.std.proofs.lemmas.Option.{none-some, same_Some}
use Rattle.fore_base.specs.Lists.{IsIn}
use Rattle.fore_base.proofs.ListLemmas.{every_in}
use Rattle.ta_core.specs.Auto.{Automaton, IsRanked}
use Rattle.ta_core.specs.Language.{HasTree}
use Rattle.ta_core.specs.Renumbered.{image}
use Rattle.fa_core.specs.declared.faces.BoxFace.{BoxFace}
use Rattle.fa_core.specs.declared.signature.RefMark.{RefMark}
use Rattle.fa_core.specs.declared.signature.Signature.{Signature}
use Rattle.fa_sound.specs.Signatures.{AreSignatures}
use Rattle.fa_height.specs.Quotients.{Agree, AreMarksOf, SameSignature, IsInner, IsQuotient}
use Rattle.fa_height.specs.inner.Agreeing.{IsAgreement}
use Rattle.ta_classes.specs.Classes.{IsEquivalence, AreClasses}
use Rattle.fa_height.specs.inner.Joining.{marks_at, AreMarksEach, IsJoined}
use Rattle.ta_classes.proofs.Classing.{one_class, first_in}

-- The marks of the states.

-- an item that is there
pub get_there : {X : Type 0} (xs : List X) (i : ℕ) → i < length xs → (x : X) × (slice_get xs i ≡ Some x)
get_there [] i l = absurd (omega (arith, l))
get_there (x ∷ xs) zero l = (x, refl)
get_there (x ∷ xs) (suc i) l = get_there xs i (omega (arith, l))

pub take_there : {X : Type 0} (xs : List X) (i : ℕ) (x : X) → slice_get xs i ≡ Some x → take (i + 1) xs ≡ take i xs
    ++ x ∷ []
take_there [] i x e = absurd (none-some x e)
take_there (y ∷ xs) zero x e = ap (λ (z : _). z ∷ []) (same_Some y x e)
take_there (y ∷ xs) (suc i) x e =
    let k : suc i + 1 ≡ suc (i + 1) = omega arith in
    rw k (ap (λ (l : _). y ∷ l) (take_there xs i x e))

-- Joining is an equivalence.

module _ (roots classes : List ℕ) (table : List (List RefMark)) where
  pub joined_equivalence : (count : ℕ) → IsEquivalence count (IsJoined roots classes table)
  joined_equivalence count = record {
    same = λ p l. inl refl;
    turned = λ p q h. elim h [
      | inl e ↦ inl (sym e)
      | inr j ↦ inr (j.1, j.0, sym j.2, sym j.3)
    ];
    through = λ p q r h k. elim h [
      | inl e ↦ subst (λ (x : ℕ). IsJoined roots classes table x r) (sym e) k
      | inr i ↦ elim k [
        | inl e ↦ subst (λ (x : ℕ). IsJoined roots classes table p x) e (inr i)
        | inr j ↦ inr (i.0, j.1, i.2 ∙ j.2, i.3 ∙ j.3)
      ]
    ];
  }

-- The quotient.

module _ (bs : List BoxFace) (k : ℕ) (a : Automaton) (ranked : IsRanked a)
    (trees : (q : ℕ) → q < a.states → HasTree a.rules q)
    (classes : List ℕ) (agreed : IsAgreement a.rules a.states k classes)
    (list : List Signature) (signed : AreSignatures bs a list)
    (table : List (List RefMark)) (marked : AreMarksEach list a.states table)
    (numbers firsts : List ℕ) (joined : AreClasses (IsJoined a.roots classes table) a.states numbers firsts) where
  -- the marks of a state are those of all its trees
  marks_are : (q : ℕ) → q < a.states → AreMarksOf bs a.rules q (marks_at table q)
  marks_are q l =
      let there = get_there list q (rw signed.long l) in
      let is = marked q there.0 l there.1 in (
        (λ t r. is ∙ signed.each q there.0 t there.1 r),
        (λ f. absurd (f (trees q l))),
      )

  joined_to : (p q : ℕ) → IsInner a p → IsInner a q → slice_index numbers p ≡ slice_index numbers q
      → Agree a.rules k p q × SameSignature bs a.rules p q
  joined_to p q i j e = elim
      ((one_class (IsJoined a.roots classes table) a.states numbers firsts joined a.states
      (joined_equivalence a.roots classes table a.states) p q i.0 j.0).0 e) [
        | inl d ↦ subst (λ (x : ℕ). Agree a.rules k p x × SameSignature bs a.rules p x) d
            ((agreed p p i.0 i.0).0 refl, (marks_at table p, marks_are p i.0, marks_are p i.0))
        | inr h ↦ (
          (agreed p q i.0 j.0).0 h.2,
          (marks_at table p, marks_are p i.0, subst (AreMarksOf bs a.rules q) (sym h.3) (marks_are q j.0)),
        )
      ]

  to_joined : (p q : ℕ) → IsInner a p → IsInner a q → Agree a.rules k p q × SameSignature bs a.rules p q
      → slice_index numbers p ≡ slice_index numbers q
  to_joined p q i j h =
      let t = trees p i.0 in
      let u = trees q j.0 in
      let e : marks_at table p ≡ marks_at table q = (marks_are p i.0).0 t.0 t.1 ∙ sym (h.1.1.0 t.0 t.1)
      ∙ h.1.2.0 u.0 u.1 ∙ sym ((marks_are q j.0).0 u.0 u.1) in
      (one_class (IsJoined a.roots classes table) a.states numbers firsts joined a.states
      (joined_equivalence a.roots classes table a.states) p q i.0 j.0).1 (inr (i.1, j.1, (agreed p q i.0 j.0).1 h.0, e))

  root_alone : (p q : ℕ) → IsIn p a.roots → q < a.states → slice_index numbers p ≡ slice_index numbers q → p ≡ q
  root_alone p q i l e = elim
      ((one_class (IsJoined a.roots classes table) a.states numbers firsts joined a.states
      (joined_equivalence a.roots classes table a.states) p q
      (every_in (λ (x : ℕ). x < a.states) a.roots p ranked.0 i) l).0 e) [
        | inl d ↦ d
        | inr h ↦ absurd (h.0 i)
      ]

  pub joined_quotient : IsQuotient bs k a (image (length firsts) (λ q. slice_index numbers q) a)
  joined_quotient = record {
    to = λ q. slice_index numbers q;
    joins = λ p q i j. (joined_to p q i j, to_joined p q i j);
    lone = root_alone;
    below = joined.fits;
    onto =
        λ v l. (
          slice_index firsts v,
          joined.low v l,
          first_in (IsJoined a.roots classes table) a.states numbers firsts joined v l,
        );
    images = refl;
  }
