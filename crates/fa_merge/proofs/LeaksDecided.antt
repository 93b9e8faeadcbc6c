-- In a sound forest each root is reached whichever trees are taken, or never; every member leaks where some root is
-- not, and none does where each is.
use Rattle.std.proofs.Common.{◌≡◌, ◌⊎◌, inl, inr, ℕ, zero, suc, ◌<◌, Bool, true, false, true≢false, nat_eq, List, []}
use Rattle.std.proofs.Common.{◌∷◌, length, map, refl, sym, subst, ◌∙◌, None, Some, Option, arith}
use Rattle.std.specs.Option.{MatchOption}
use Rattle.std.proofs.lemmas.Bool.{eqb-true, eq-eqb}
use Rattle.fore_base.specs.Heap.{Leaked}
use Rattle.fore_base.specs.Lists.{Every, Paired}
use Rattle.fore_base.specs.Marks.{MarksOf, IsMarked}
use Rattle.fore_base.specs.declared.shape.Shape.{Shape}
use Rattle.fore_base.specs.declared.store.Store.{Store}
use Rattle.fore_base.proofs.ListLemmas.{in_every, paired_long, place_of}
use Rattle.ta_core.specs.Auto.{Automaton}
use Rattle.ta_core.specs.declared.tree.Tree.{Tree}
use Rattle.fa_core.specs.declared.boxes.BoxDef.{BoxDef}
use Rattle.fa_core.specs.declared.faces.BoxFace.{BoxFace}
use Rattle.fa_core.specs.declared.faces.Face.{Face}
use Rattle.fa_core.specs.declared.forest.Forest.{Forest}
use Rattle.fa_core.specs.declared.forest.Target.{Target}
use Rattle.fa_core.specs.declared.signature.Signature.{Signature}
use Rattle.fa_core.specs.Boxless.{HasNoBoxes}
use Rattle.fa_core.specs.Canonical.{var_roots}
use Rattle.fa_core.specs.Choices.{bares}
use Rattle.fa_core.specs.Dressed.{roots_of}
use Rattle.fa_core.specs.Filled.{Choice, HasSignatures, IsFilled, IsSound}
use Rattle.fa_core.specs.Member.{Stands}
use Rattle.fa_core.specs.References.{AllBelow}
use Rattle.fa_core.specs.Ways.{signature}
use Rattle.fa_core.proofs.Dressing.{choice_of}
use Rattle.fa_core.proofs.PlainNodes.{trees_no_edges}
use Rattle.fa_back.specs.Reached.{RootReached, SignReached, IsSignedBy, AllNameBelow}
use Rattle.fa_back.proofs.ByMarks.{met_signed, signed_met, var_roots_in}
use Rattle.fa_back.proofs.Decided.{reached_or_not}
use Rattle.fa_back.proofs.Dressable.{some_choice}
use Rattle.fa_back.proofs.ForestLaws.{signs_within}
use Rattle.fa_back.proofs.StoreLaws.{unreached_by, reached_by, unreached_store, reached_store, none_sound}
use Rattle.fa_merge.specs.Reached.{AlwaysLeaks, NeverLeaks, IsReached, IsUnreached, AreAllReached, IsLeastUnreached}
use Rattle.fa_merge.specs.Signed.{IsSignatureOf}
use Rattle.fa_merge.specs.inner.Signed.{AreReachMarks, IsFirstUnmarked}
use Rattle.fa_merge.proofs.Named.{refers_below, var_below}
use Rattle.fa_merge.proofs.RootTrees.{tree_there, tree_below}

-- The signature of each component.

module _ (bs : List BoxFace) where
  abbrev pub sign_of : Tree → Signature
  sign_of t = record { refs = signature bs t }

  pub signed_each : (autos : List Automaton) (ts : List Tree) → Every (HasSignatures bs) autos → Choice autos ts
      → Paired (IsSignatureOf bs) autos (map sign_of ts)
  signed_each [] [] h c = tt
  signed_each [] (t ∷ ts) h c = absurd c
  signed_each (a ∷ autos) [] h c = absurd c
  signed_each (a ∷ autos) (t ∷ ts) h c = ((λ u i. h.0.component u t i c.0), signed_each autos ts h.1 c.1)

  pub signed_choice : (autos : List Automaton) (ss : List Signature) (ts : List Tree)
      → Paired (IsSignatureOf bs) autos ss → Choice autos ts → Paired (IsSignedBy bs) ts ss
  signed_choice [] [] [] h c = tt
  signed_choice [] [] (t ∷ ts) h c = absurd c
  signed_choice [] (s ∷ ss) ts h c = absurd h
  signed_choice (a ∷ autos) [] ts h c = absurd h
  signed_choice (a ∷ autos) (s ∷ ss) [] h c = absurd c
  signed_choice (a ∷ autos) (s ∷ ss) (t ∷ ts) h c = (h.0 t c.0, signed_choice autos ss ts h.1 c.1)

  own_signs : (ts : List Tree) → Paired (IsSignedBy bs) ts (map sign_of ts)
  own_signs [] = tt
  own_signs (t ∷ ts) = (refl, own_signs ts)

  other_signs : (ts us : List Tree) → Paired (λ t u. signature bs t ≡ signature bs u) ts us
      → Paired (IsSignedBy bs) ts (map sign_of us)
  other_signs [] [] h = tt
  other_signs [] (u ∷ us) h = absurd h
  other_signs (t ∷ ts) [] h = absurd h
  other_signs (t ∷ ts) (u ∷ us) h = (h.0, other_signs ts us h.1)

-- trees of the same signatures reach the same roots
pub same_reached : (bs : List BoxFace) (vs : List Target) (ts us : List Tree) (r : ℕ)
    → Paired (λ t u. signature bs t ≡ signature bs u) ts us → RootReached bs vs ts r → RootReached bs vs us r
same_reached bs vs ts us r same h =
    signed_met bs vs us (map (sign_of bs) us) (own_signs bs us) r
    (met_signed bs vs ts (map (sign_of bs) us) (other_signs bs ts us same) r h)

-- The roots that are reached, by the signatures.

module _ (face : Face) (F : Forest) (ss : List Signature) (signed : Paired (IsSignatureOf face.boxes) F.autos ss) where
  pub signed_is_reached : (r : ℕ) → SignReached ss (var_roots F.vars) r → IsReached face F r
  signed_is_reached r h ts c =
      signed_met face.boxes F.vars ts ss (signed_choice face.boxes F.autos ss ts signed c) r h

  pub not_signed_unreached : (r : ℕ) → (SignReached ss (var_roots F.vars) r → ⊥) → IsUnreached face F r
  not_signed_unreached r h ts c w =
      h (met_signed face.boxes F.vars ts ss (signed_choice face.boxes F.autos ss ts signed c) r w)

  module _ (sound : IsSound face F) where
    abbrev one : (ts : List Tree) × Choice F.autos ts
    one = some_choice F.autos sound.full

    long : length F.autos ≡ length ss
    long = paired_long (IsSignatureOf face.boxes) F.autos ss signed

    -- the signatures and the variables name roots that are there
    pub signs_name_below : AllNameBelow (length ss) ss
    signs_name_below =
        signs_within face.boxes (length ss) one.0 ss (signed_choice face.boxes F.autos ss one.0 signed one.1)
        (λ t k i w. (let p = place_of one.0 t i in
        subst (λ (n : ℕ). k < n) long
        (refers_below face F sound.well_formed.filled one.0 one.1 p.0 k t p.1 w)))

    pub vars_name_below : AllBelow (length ss) (var_roots F.vars)
    vars_name_below = in_every (λ r. r < length ss) (var_roots F.vars)
        (λ r i. subst (λ (n : ℕ). r < n) long
        (var_below face F sound.well_formed.filled one.0 one.1 r (var_roots_in F.vars r i)))

  pub signed_marks : (marks : List Bool) → MarksOf (length ss) (SignReached ss (var_roots F.vars)) marks
      → AreReachMarks face F marks
  signed_marks marks m = record {
    long = m.long ∙ sym (paired_long (IsSignatureOf face.boxes) F.autos ss signed);
    marked = λ r h. signed_is_reached r (m.only r h);
    unmarked = λ r h. not_signed_unreached r (λ w. h (m.each r w));
  }

-- what is decided of each number below n is decided of all, with the least one of which it does not hold
first_not : (P Q : ℕ → Type 0) → ((k : ℕ) → P k ⊎ Q k) → (n : ℕ) → ((k : ℕ) → k < n → P k)
    ⊎ ((k : ℕ) × (k < n) × Q k × ((j : ℕ) → j < k → P j))
first_not P Q d zero = inl (λ k l. absurd (omega (arith, l)))
first_not P Q d (suc n) = step (first_not P Q d n)
  where
    step : ((k : ℕ) → k < n → P k) ⊎ ((k : ℕ) × (k < n) × Q k × ((j : ℕ) → j < k → P j)) → ((k : ℕ) → k < suc n → P k)
        ⊎ ((k : ℕ) × (k < suc n) × Q k × ((j : ℕ) → j < k → P j))
    step (inr h) = (let l = h.1 in inr (h.0, omega (arith, l), h.2, h.3))
    step (inl h) = elim (d n) [
      | inl p ↦ inl (λ k l. below_or_last h p k l)
      | inr q ↦ inr (n, omega arith, q, h)
    ]
      where
        below_or_last : ((k : ℕ) → k < n → P k) → P n → (k : ℕ) → k < suc n → P k
        below_or_last h p k l = here k (nat_eq k n) refl l
          where
            here : (k : ℕ) (b : Bool) → nat_eq k n ≡ b → k < suc n → P k
            here k true e l = subst P (sym (eqb-true k n e)) p
            here k false e l = h k (omega (arith, l, (λ (z : k ≡ n). true≢false (sym (eq-eqb k n z) ∙ e))))

module _ (face : Face) (F : Forest) (sound : IsSound face F) where
  abbrev some_signatures : (ss : List Signature) × Paired (IsSignatureOf face.boxes) F.autos ss
  some_signatures = let c = some_choice F.autos sound.full in
      (map (sign_of face.boxes) c.0, signed_each face.boxes F.autos c.0 sound.well_formed.signatures c.1)

  -- each root is reached, whichever trees are taken, or is not
  pub root_decided : (r : ℕ) → IsReached face F r ⊎ IsUnreached face F r
  root_decided r =
      let s = some_signatures in
      elim (reached_or_not s.0 (signs_name_below face F s.0 s.1 sound) (var_roots F.vars) r) [
        | inl h ↦ inl (signed_is_reached face F s.0 s.1 r h)
        | inr h ↦ inr (not_signed_unreached face F s.0 s.1 r h)
      ]

  pub roots_decided : AreAllReached face F ⊎ ((r : ℕ) × IsLeastUnreached face F r)
  roots_decided = elim (first_not (IsReached face F) (IsUnreached face F) root_decided (length F.autos)) [
    | inl h ↦ inl h
    | inr h ↦ inr (h.0, record { root = h.1; unreached = h.2; least = h.3 })
  ]

-- Leaks.

module _ (face : Face) (F : Forest) (filled : IsFilled face F) where
  -- where each root is reached no member leaks
  pub all_never_leak : AreAllReached face F → NeverLeaks face F
  all_never_leak all T t s (d, h) =
      reached_store (record { face = face; defs = T }) t F filled d s h
      (λ r x e. all r (tree_below T F.autos d r x h.of e) (bares d) (choice_of T F.autos d h.of))

  -- where some root is not every member leaks
  pub one_always_leaks : (r : ℕ) → r < length F.autos → IsUnreached face F r → AlwaysLeaks face F
  one_always_leaks r l never T t s (d, h) =
      let x = tree_there T F.autos d r h.of l in
      unreached_store (record { face = face; defs = T }) t F filled d s h r x.0 x.1
      (λ w. never (bares d) (choice_of T F.autos d h.of) w)

-- no member of a sound forest leaks, or every one does
pub leak_decided : (face : Face) (F : Forest) → IsSound face F → NeverLeaks face F ⊎ AlwaysLeaks face F
leak_decided face F sound = elim (roots_decided face F sound) [
  | inl all ↦ inl (all_never_leak face F sound.well_formed.filled all)
  | inr h ↦ inr (one_always_leaks face F sound.well_formed.filled h.0 h.1.root h.1.unreached)
]

module _ (face : Face) (F : Forest) (marks : List Bool) (m : AreReachMarks face F marks) where
  pub roots_found : (found : Option ℕ)
      → MatchOption found ((k : ℕ) → k < length marks → IsMarked marks k) (IsFirstUnmarked marks)
      → MatchOption found (AreAllReached face F) (IsLeastUnreached face F)
  roots_found None h = λ r l. m.marked r (h r (subst (λ (n : ℕ). r < n) (sym m.long) l))
  roots_found (Some r) h = record {
    root = subst (λ (n : ℕ). r < n) m.long h.within;
    unreached = m.unmarked r (λ w. true≢false (sym w ∙ h.unmarked));
    least = λ k l. m.marked k (h.first k l);
  }

  pub leaks_found : IsFilled face F → (found : Option ℕ)
      → MatchOption found ((k : ℕ) → k < length marks → IsMarked marks k) (IsFirstUnmarked marks)
      → MatchOption found (NeverLeaks face F) (λ x. AlwaysLeaks face F)
  leaks_found filled None h = all_never_leak face F filled (roots_found None h)
  leaks_found filled (Some r) h = let k = roots_found (Some r) h in
      one_always_leaks face F filled r k.root k.unreached

-- Without box edges what holds of the members holds for every list of boxes.

-- each member leaks
abbrev pub AllLeak : Forest → Type 0
AllLeak F = (hs : List Shape) (T : List BoxDef) (s : Store) → Stands hs T F s → Leaked s

-- no member leaks
abbrev pub NoneLeaks : Forest → Type 0
NoneLeaks F = (hs : List Shape) (T : List BoxDef) (s : Store) → Stands hs T F s → Leaked s → ⊥

module _ (face : Face) (F : Forest) (plain : Every HasNoBoxes F.autos) where
  -- where each root is reached no member leaks
  pub reached_never_leaks : AreAllReached face F → NoneLeaks F
  reached_never_leaks all hs T s (d, h) =
      let no_edges = trees_no_edges T F.autos d plain h.of in
      reached_by hs T F d s h face.boxes (none_sound face.boxes (roots_of d) d no_edges)
      (λ r x e. all r (tree_below T F.autos d r x h.of e) (bares d) (choice_of T F.autos d h.of))

  -- where some root is not every member leaks
  pub unreached_leaks : (r : ℕ) → r < length F.autos → IsUnreached face F r → AllLeak F
  unreached_leaks r l never hs T s (d, h) =
      let x = tree_there T F.autos d r h.of l in
      unreached_by hs T F d s h face.boxes
      (none_sound face.boxes (roots_of d) d (trees_no_edges T F.autos d plain h.of)) r x.0 x.1
      (λ w. never (bares d) (choice_of T F.autos d h.of) w)
