-- Choices of signatures of lists are those of trees of components.
use Rattle.std.proofs.Common.{◌≡◌, ℕ, ◌<◌, inl, inr, ◌↔◌, List, [], ◌∷◌, length, refl, sym, ap, subst, ◌∙◌}
use Rattle.fore_base.specs.Lists.{IsIn, Every, Paired}
use Rattle.fore_base.proofs.ListLemmas.{in_every, paired_long}
use Rattle.ta_core.specs.Auto.{Automaton}
use Rattle.ta_core.specs.Language.{InLanguage}
use Rattle.ta_core.specs.declared.tree.Tree.{Tree}
use Rattle.fa_core.specs.Canonical.{RefersTo}
use Rattle.fa_core.specs.declared.faces.BoxFace.{BoxFace}
use Rattle.fa_core.specs.declared.signature.RefMark.{RefMark}
use Rattle.fa_core.specs.declared.signature.Signature.{Signature}
use Rattle.fa_core.specs.Filled.{Choice, HasSome}
use Rattle.fa_back.specs.Insides.{ReachesAll, AlwaysReaches, NeverReaches}
use Rattle.fa_back.specs.Reached.{AreSignaturesOf, IsSignedBy, AllNameBelow, NamesBelow}
use Rattle.fa_back.proofs.ForestLaws.{signs_within}
use Rattle.fa_box_rules.specs.Signs.{AreSignsOf, AreSigns, Picks}
use Rattle.fa_reach.specs.Choices.{AllReach, AlwaysLeads, NeverLeads, HasSign}

module _ (bs : List BoxFace) where
  -- trees with the signatures of a choice
  record Trees (autos : List Automaton) (ss : List Signature) : Type 0 where
    pub trees : List Tree
    pub choice : Choice autos trees
    pub signed : Paired (IsSignedBy bs) trees ss

  trees_of : (autos : List Automaton) (lists : List (List Signature)) (ss : List Signature) → AreSigns bs autos lists
      → Picks lists ss → Trees autos ss
  trees_of [] [] [] a p = record { trees = []; choice = tt; signed = tt }
  trees_of [] [] (s ∷ ss) a p = absurd p
  trees_of [] (list ∷ lists) ss a p = absurd a
  trees_of (x ∷ autos) [] ss a p = absurd a
  trees_of (x ∷ autos) (list ∷ lists) [] a p = absurd p
  trees_of (x ∷ autos) (list ∷ lists) (s ∷ ss) a p =
      let rest = trees_of autos lists ss a.1 p.1 in
      let w = a.0.some s p.0 in
      record { trees = w.0 ∷ rest.trees; choice = (w.1, rest.choice); signed = (sym w.2, rest.signed) }

  pub signatures_of : (autos : List Automaton) (lists : List (List Signature)) (ss : List Signature)
      → AreSigns bs autos lists → Picks lists ss → AreSignaturesOf bs autos ss
  signatures_of autos lists ss a p =
      let w = trees_of autos lists ss a p in
      record { trees = w.trees; choice = w.choice; signed = w.signed }

  picks_by : (autos : List Automaton) (lists : List (List Signature)) (ss : List Signature) (ts : List Tree)
      → AreSigns bs autos lists → Choice autos ts → Paired (IsSignedBy bs) ts ss → Picks lists ss
  picks_by [] [] [] [] a c s = tt
  picks_by [] [] (y ∷ ss) [] a c s = absurd s
  picks_by [] [] ss (t ∷ ts) a c s = absurd c
  picks_by [] (list ∷ lists) ss ts a c s = absurd a
  picks_by (x ∷ autos) [] ss ts a c s = absurd a
  picks_by (x ∷ autos) (list ∷ lists) ss [] a c s = absurd c
  picks_by (x ∷ autos) (list ∷ lists) [] (t ∷ ts) a c s = absurd s
  picks_by (x ∷ autos) (list ∷ lists) (y ∷ ss) (t ∷ ts) a c s =
      let w = a.0.each t c.0 in
      let same : w.0 ≡ y = ap (λ (z : List RefMark). same_refs z) (w.2 ∙ s.0) in
      (subst (λ (z : Signature). IsIn z list) same w.1, picks_by autos lists ss ts a.1 c.1 s.1)
    where
      same_refs : List RefMark → Signature
      same_refs z = record { refs = z }

  pub picks_of : (autos : List Automaton) (lists : List (List Signature)) (ss : List Signature)
      → AreSigns bs autos lists → AreSignaturesOf bs autos ss → Picks lists ss
  picks_of autos lists ss a h = picks_by autos lists ss h.trees a h.choice h.signed

  module _ (autos : List Automaton) (lists : List (List Signature)) (i : ℕ) (signs : AreSigns bs autos lists) where
    long : length autos ≡ length lists
    long = paired_long (AreSignsOf bs) autos lists signs

    pub all_both : AllReach lists i ↔ ReachesAll bs autos i
    all_both = (
      λ h ss w r l. h ss (picks_of autos lists ss signs w) r (subst (λ (n : ℕ). r < n) long l),
      λ h ss p r l. h ss (signatures_of autos lists ss signs p) r (subst (λ (n : ℕ). r < n) (sym long) l),
    )

    pub always_both : (j : ℕ) → AlwaysLeads lists i j ↔ AlwaysReaches bs autos i j
    always_both j = (
      λ h ss w. h ss (picks_of autos lists ss signs w),
      λ h ss p. h ss (signatures_of autos lists ss signs p),
    )

    pub never_both : (j : ℕ) → NeverLeads lists i j ↔ NeverReaches bs autos i j
    never_both j = (
      λ h ss w g. h ss (picks_of autos lists ss signs w) g,
      λ h ss p g. h ss (signatures_of autos lists ss signs p) g,
    )

  -- Lists as they are asked for.

  pub signs_long : (autos : List Automaton) (lists : List (List Signature)) → AreSigns bs autos lists
      → length lists ≡ length autos
  signs_long autos lists a = sym (paired_long (AreSignsOf bs) autos lists a)

  pub signs_full : (autos : List Automaton) (lists : List (List Signature)) → AreSigns bs autos lists
      → Every HasSome autos → Every HasSign lists
  signs_full [] [] a h = tt
  signs_full [] (list ∷ lists) a h = absurd a
  signs_full (x ∷ autos) [] a h = absurd a
  signs_full (x ∷ autos) (list ∷ lists) a h =
      let w = a.0.each h.0.0 h.0.1 in ((w.0, w.1), signs_full autos lists a.1 h.1)

  pub signs_named : (n : ℕ) (autos : List Automaton) (lists : List (List Signature)) → AreSigns bs autos lists
      → ((a : Automaton) (t : Tree) (k : ℕ) → IsIn a autos → InLanguage a t → RefersTo t k → k < n)
      → Every (AllNameBelow n) lists
  signs_named n [] [] a h = tt
  signs_named n [] (list ∷ lists) a h = absurd a
  signs_named n (x ∷ autos) [] a h = absurd a
  signs_named n (x ∷ autos) (list ∷ lists) a h = (
    in_every (λ (s : Signature). Every (NamesBelow n) s.refs) list (λ s i. (let w = a.0.some s i in
        (signs_within bs n (w.0 ∷ []) (s ∷ []) (sym w.2, tt) (λ t k j r.
        elim j [ inl e ↦ h x w.0 k (inl refl) w.1 (subst (λ (z : Tree). RefersTo z k) e r) | inr z ↦ absurd z ])).0)),
    signs_named n autos lists a.1 (λ b t k i l r. h b t k (inr i) l r),
  )
