-- The quotient of a sound forest is sound, and covers the forest.
use Rattle.std.proofs.Common.{◌≡◌, inl, ℕ, zero, suc, ◌<◌, ◌≤◌, List, [], ◌∷◌, ◌++◌, length, refl, sym, ap, subst, ◌∙◌}
use Rattle.std.proofs.Common.{arith}
use Rattle.fore_base.specs.Lists.{IsIn, Every, Paired}
use Rattle.fore_base.proofs.ListLemmas.{every_append, every_in, paired_long}
use Rattle.ta_core.specs.Auto.{Automaton, IsRanked, IsRankedRule}
use Rattle.ta_core.specs.Language.{RunOf, run, InLanguage, IsTrim, IsWithin}
use Rattle.ta_core.specs.declared.auto.Rule.{Rule}
use Rattle.ta_core.specs.declared.tree.Tree.{Tree}
use Rattle.fa_core.specs.Boxless.{HasNoBoxes}
use Rattle.fa_core.specs.Covering.{Covers}
use Rattle.fa_core.specs.Filled.{DatumFits, IsRoot, IsTopped, RulesFit, HasSignatures, HasSome, IsSound}
use Rattle.fa_core.specs.declared.faces.Face.{Face}
use Rattle.fa_core.specs.declared.forest.Forest.{Forest}
use Rattle.fa_core.specs.declared.signature.RefMark.{RefMark}
use Rattle.fa_core.specs.Ways.{signature}
use Rattle.fa_filling.specs.declared.parts.Part.{Part}
use Rattle.fa_filling.specs.Parted.{AreParts, ArePartsFilled, all_tops}
use Rattle.fa_filling.specs.Ruled.{IsFilledPart}
use Rattle.fa_filling.proofs.FilledRules.{AreFull}
use Rattle.fa_filling.proofs.Fillings.{by_parts, all_parts, all_vars}
use Rattle.fa_filling.specs.Given.{IsGivenAt}
use Rattle.fa_sound.specs.inner.Owned.{IsOwn, given_of}
use Rattle.fa_sound.proofs.Given.{all_given}
use Rattle.fa_height.specs.Quotients.{IsQuotient, Quotient}
use Rattle.fa_height.specs.Structs.{HasOneStruct}
use Rattle.fa_height.proofs.Filled.{lone_part, is_lone, part_kept, plain_kept, rules_fit, topped}
use Rattle.fa_height.proofs.Images.{looked, outlined, rule_of, within, image_trim}

module _ (face : Face) (k : ℕ) where
  -- Signatures.

  signatures_kept : (a b : Automaton) → IsRanked a → IsTrim a → IsQuotient face.boxes (suc k) a b
      → HasSignatures face.boxes a → HasSignatures face.boxes b
  signatures_kept a b ranked trim h s = record {
    states = λ v t u x y. (
        let q = state_of v t x in
        let l = looked face.boxes k a b ranked trim h q.0 (sym q.2, q.1) x in
        let m = looked face.boxes k a b ranked trim h q.0 (sym q.2, q.1) y in
        l.2.1 ∙ s.states q.0 l.0 m.0 l.1 m.1 ∙ sym m.2.1);
    component = λ t u x y. (
        let l = outlined face.boxes k a b ranked trim h t x in
        let m = outlined face.boxes k a b ranked trim h u y in
        l.2.1 ∙ s.component l.0 m.0 l.1 m.1 ∙ sym m.2.1);
  }
    where
      -- a state of the quotient with a tree is an image
      state_of : (v : ℕ) (t : Tree) → RunOf b.rules v t → (q : ℕ) × (q < a.states) × (h.to q ≡ v)
      state_of v t (run r i e s w) =
          let o = rule_of face.boxes k a b ranked trim h r i in (
            o.0.state,
            (every_in (IsRankedRule a.states) a.rules o.0 ranked.1 o.1).0,
            sym (ap (λ (x : Rule). x.state) o.2) ∙ e,
          )

  -- Parts.

  -- each component as the one part of itself
  abbrev lone_parts : List Automaton → List ℕ → List (List Part)
  lone_parts [] tops = []
  lone_parts (a ∷ autos) [] = []
  lone_parts (a ∷ autos) (s ∷ tops) = (lone_part a s ∷ []) ∷ lone_parts autos tops

  abbrev HasTop : Automaton → ℕ → Type 0
  HasTop a s = (t : Tree) → InLanguage a t → IsTopped s t

  tops_from : (autos : List Automaton) → Every HasOneStruct autos → (tops : List ℕ) × Paired HasTop autos tops
  tops_from [] h = ([], tt)
  tops_from (a ∷ autos) h = let w = tops_from autos h.1 in (h.0.0 ∷ w.0, (h.0.1, w.1))

  parts_are : (autos : List Automaton) (tops : List ℕ) → Every IsTrim autos → Every HasSome autos
      → Paired HasTop autos tops → AreParts autos (lone_parts autos tops)
  parts_are [] [] r f t = tt
  parts_are [] (s ∷ tops) r f t = absurd t
  parts_are (a ∷ autos) [] r f t = absurd t
  parts_are (a ∷ autos) (s ∷ tops) r f t = (is_lone a s r.0 t.0 f.0, parts_are autos tops r.1 f.1 t.1)

  abbrev AreQuotients : List Automaton → List Automaton → Type 0
  AreQuotients autos made = Paired (IsQuotient face.boxes (suc k)) autos made

  tops_same : (autos made : List Automaton) (tops : List ℕ) → AreQuotients autos made → all_tops (lone_parts autos tops)
      ≡ all_tops (lone_parts made tops)
  tops_same [] [] tops h = refl
  tops_same [] (b ∷ made) tops h = absurd h
  tops_same (a ∷ autos) [] tops h = absurd h
  tops_same (a ∷ autos) (b ∷ made) [] h = refl
  tops_same (a ∷ autos) (b ∷ made) (s ∷ tops) h =
      ap (λ (z : List (List ℕ)). (s ∷ []) ∷ z) (tops_same autos made tops h.1)

  tops_full : (autos : List Automaton) (tops : List ℕ) → AreFull (all_tops (lone_parts autos tops))
  tops_full [] tops = tt
  tops_full (a ∷ autos) [] = tt
  tops_full (a ∷ autos) (s ∷ tops) = ((s, inl refl), tops_full autos tops)

  filled_kept : (above : ℕ → List ℕ) (n : ℕ) (front : List (List ℕ)) (autos made : List Automaton) (tops : List ℕ)
      → AreFull front → AreQuotients autos made → Every IsRanked autos → Every IsTrim autos → Every IsRanked made
      → ArePartsFilled face above n front (lone_parts autos tops)
      → ArePartsFilled face above n front (lone_parts made tops)
  filled_kept above n front [] [] tops l h r t m f = tt
  filled_kept above n front [] (b ∷ made) tops l h r t m f = absurd h
  filled_kept above n front (a ∷ autos) [] tops l h r t m f = absurd h
  filled_kept above n front (a ∷ autos) (b ∷ made) [] l h r t m f = tt
  filled_kept above n front (a ∷ autos) (b ∷ made) (s ∷ tops) l h r t m f =
      let topss = front ++ (s ∷ []) ∷ all_tops (lone_parts autos tops) in
      let full : AreFull topss =
      every_append (λ (ts : List ℕ). (t : ℕ) × IsIn t ts) front ((s ∷ []) ∷ all_tops (lone_parts autos tops)) l
      ((s, inl refl), tops_full autos tops) in
      let one = part_kept face k a b r.0 t.0 h.0 topss (above n) m.0 full f.0.0 in (
        (
          subst (λ (z : List (List ℕ)). IsFilledPart face (front ++ (s ∷ []) ∷ z) b (above n))
              (tops_same autos made tops h.1) one,
          tt,
        ),
        filled_kept above (suc n) (front ++ (s ∷ []) ∷ []) autos made tops
            (every_append (λ (ts : List ℕ). (t : ℕ) × IsIn t ts) front ((s ∷ []) ∷ []) l ((s, inl refl), tt)) h.1 r.1
            t.1 m.1 f.1,
      )

  -- the signatures of the components, by which it is told what box edges give at the roots, stay
  owns_of : (autos : List Automaton) → Every HasSome autos → Every (HasSignatures face.boxes) autos
      → (sigs : List (List RefMark)) × Paired (IsOwn face.boxes) autos sigs
  owns_of [] f s = ([], tt)
  owns_of (a ∷ autos) f s =
      let w = owns_of autos f.1 s.1 in
      (signature face.boxes f.0.0 ∷ w.0, ((λ t l. s.0.component t f.0.0 l f.0.1), w.1))

  owns_kept : (autos made : List Automaton) (sigs : List (List RefMark)) → AreQuotients autos made
      → Every IsRanked autos → Every IsTrim autos → Paired (IsOwn face.boxes) autos sigs
      → Paired (IsOwn face.boxes) made sigs
  owns_kept [] [] sigs h r t o = o
  owns_kept [] (b ∷ made) sigs h r t o = absurd h
  owns_kept (a ∷ autos) [] sigs h r t o = absurd h
  owns_kept (a ∷ autos) (b ∷ made) [] h r t o = absurd o
  owns_kept (a ∷ autos) (b ∷ made) (s ∷ sigs) h r t o = (
    (λ u l. (let w = outlined face.boxes k a b r.0 t.0 h.0 u l in w.2.1 ∙ o.0 w.0 w.1)),
    owns_kept autos made sigs h.1 r.1 t.1 o.1,
  )

  given_by_own : (autos : List Automaton) (sigs : List (List RefMark)) → Paired (IsOwn face.boxes) autos sigs
      → IsGivenAt face.boxes autos (given_of sigs)
  given_by_own autos sigs o ts c r l = all_given face.boxes autos ts sigs c o r

  -- All components.

  each_kept : (P : Automaton → Type 0)
      → ((a b : Automaton) → IsRanked a → IsTrim a → IsQuotient face.boxes (suc k) a b → P a → P b)
      → (autos made : List Automaton) → AreQuotients autos made → Every IsRanked autos → Every IsTrim autos
      → Every P autos → Every P made
  each_kept P f [] [] h r t p = tt
  each_kept P f [] (b ∷ made) h r t p = absurd h
  each_kept P f (a ∷ autos) [] h r t p = absurd h
  each_kept P f (a ∷ autos) (b ∷ made) h r t p = (f a b r.0 t.0 h.0 p.0, each_kept P f autos made h.1 r.1 t.1 p.1)

  tops_kept : (autos made : List Automaton) (tops : List ℕ) → AreQuotients autos made → Every IsRanked autos
      → Every IsTrim autos → Paired HasTop autos tops → Paired HasTop made tops
  tops_kept [] [] tops h r t p = p
  tops_kept [] (b ∷ made) tops h r t p = absurd h
  tops_kept (a ∷ autos) [] tops h r t p = absurd h
  tops_kept (a ∷ autos) (b ∷ made) [] h r t p = absurd p
  tops_kept (a ∷ autos) (b ∷ made) (s ∷ tops) h r t p =
      (topped face k a b r.0 t.0 h.0 s p.0, tops_kept autos made tops h.1 r.1 t.1 p.1)

  all_within : (autos made : List Automaton) → AreQuotients autos made → Every IsRanked autos → Every IsTrim autos
      → Paired IsWithin autos made
  all_within [] [] h r t = tt
  all_within [] (b ∷ made) h r t = absurd h
  all_within (a ∷ autos) [] h r t = absurd h
  all_within (a ∷ autos) (b ∷ made) h r t = (within face.boxes k a b r.0 t.0 h.0, all_within autos made h.1 r.1 t.1)

  module _ (F G : Forest) (h : Quotient face.boxes F (suc k) G) (ranked : Every IsRanked F.autos)
      (trim : Every IsTrim F.autos) where
    pub quotient_covers : Covers G F
    quotient_covers = record
        { vars = sym h.vars; data_vars = sym h.data_vars; within = all_within F.autos G.autos h.autos ranked trim }

    pub quotient_plain : Every HasNoBoxes F.autos → Every HasNoBoxes G.autos
    quotient_plain plain = each_kept HasNoBoxes (λ a b r t q p. plain_kept face k a b r t q p) F.autos G.autos h.autos
        ranked trim plain

    pub quotient_sound : Every HasOneStruct F.autos → Every IsRanked G.autos → IsSound face F → IsSound face G
    quotient_sound structs right s =
        let tops = tops_from F.autos structs in
        let full = each_kept HasSome (λ a b r t q p. (p.0, within face.boxes k a b r t q p.0 p.1)) F.autos G.autos
        h.autos ranked trim s.full in
        let trims = each_kept IsTrim (λ a b r t q p. image_trim face.boxes k a b r t q) F.autos G.autos h.autos ranked
        trim trim in
        let own = owns_of F.autos s.full s.well_formed.signatures in
        let kept = owns_kept F.autos G.autos own.0 h.autos ranked trim own.1 in
        let before = all_parts face F s.full (given_of own.0) (given_by_own F.autos own.0 own.1)
        (lone_parts F.autos tops.0) (parts_are F.autos tops.0 trim s.full tops.1) s.well_formed.filled.trees in
        let after = filled_kept (given_of own.0) 0 [] F.autos G.autos tops.0 tt h.autos ranked trim right before in
        let vars = all_vars face F s.full s.well_formed.filled.trees in
        let roots : Every (IsRoot (length G.autos)) G.vars =
        subst (λ (n : ℕ). Every (IsRoot n) G.vars)
        (paired_long (IsQuotient face.boxes (suc k)) F.autos G.autos h.autos)
        (subst (Every (IsRoot (length F.autos))) (sym h.vars) vars) in
        record {
          well_formed = record {
            filled = record {
              data_vars = subst (Every DatumFits) (sym h.data_vars) s.well_formed.filled.data_vars;
              rules = each_kept (RulesFit face) (λ a b r t q p. rules_fit face k a b r t q p) F.autos G.autos h.autos
                  ranked trim s.well_formed.filled.rules;
              trees = by_parts face G full (given_of own.0) (given_by_own G.autos own.0 kept)
                  (lone_parts G.autos tops.0)
                  (parts_are G.autos tops.0 trims full (tops_kept F.autos G.autos tops.0 h.autos ranked trim tops.1))
                  roots after;
            };
            signatures = each_kept (HasSignatures face.boxes) signatures_kept F.autos G.autos h.autos ranked trim
                s.well_formed.signatures;
          };
          full = full;
        }

-- a height of at least 1 is one more than a height
height_over : (n : ℕ) → 1 ≤ n → (k : ℕ) × (n ≡ suc k)
height_over zero l = absurd (omega (arith, l))
height_over (suc k) l = (k, refl)

-- The forest of the quotients of the components.

module _ (face : Face) (F : Forest) (n : ℕ) (high : 1 ≤ n) (made : List Automaton)
    (h : Paired (IsQuotient face.boxes n) F.autos made) (ranked : Every IsRanked F.autos) (trim : Every IsTrim F.autos)
  where
    abbrev pub G : Forest
    G = record { autos = made; vars = F.vars; data_vars = F.data_vars }

    pub is_quotient : Quotient face.boxes F n G
    is_quotient = record { autos = h; vars = refl; data_vars = refl }

    higher : (k : ℕ) × Quotient face.boxes F (suc k) G
    higher = let w = height_over n high in (w.0, subst (λ (m : ℕ). Quotient face.boxes F m G) w.1 is_quotient)

    pub made_covers : Covers G F
    made_covers = quotient_covers face higher.0 F G higher.1 ranked trim

    pub made_plain : Every HasNoBoxes F.autos → Every HasNoBoxes made
    made_plain plain = quotient_plain face higher.0 F G higher.1 ranked trim plain

    pub made_sound : Every HasOneStruct F.autos → Every IsRanked made → IsSound face F → IsSound face G
    made_sound structs right s = quotient_sound face higher.0 F G higher.1 ranked trim structs right s
