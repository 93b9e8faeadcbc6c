-- What lists of signatures say of the components whose signatures they are.
use Rattle.std.proofs.Common.{◌≡◌, inl, inr, ℕ, List, [], ◌∷◌, length, sym, subst}
use Rattle.fore_base.specs.Lists.{IsIn, Every}
use Rattle.fore_base.proofs.ListLemmas.{in_every, paired_long}
use Rattle.ta_core.specs.Auto.{Automaton}
use Rattle.ta_core.specs.declared.tree.Tree.{Tree}
use Rattle.fa_core.specs.declared.faces.BoxFace.{BoxFace}
use Rattle.fa_core.specs.declared.signature.Signature.{Signature}
use Rattle.fa_core.specs.Canonical.{RefersTo}
use Rattle.fa_back.specs.Reached.{AllNameBelow, NamesBelow}
use Rattle.fa_back.proofs.ForestLaws.{signs_within}
use Rattle.fa_box_rules.specs.Rules.{AreRefsBelow}
use Rattle.fa_box_rules.specs.Signs.{AreSignsOf, AreSigns}
use Rattle.fa_faces.proofs.Named.{tree_low}

module _ (bs : List BoxFace) where
  -- each list names roots below n
  pub signs_low : (n : ℕ) (autos : List Automaton) (lists : List (List Signature)) → AreSigns bs autos lists
      → Every (AreRefsBelow n) autos → Every (AllNameBelow n) lists
  signs_low n [] [] h f = tt
  signs_low n [] (l ∷ lists) h f = absurd h
  signs_low n (a ∷ autos) [] h f = absurd h
  signs_low n (a ∷ autos) (l ∷ lists) h f =
      (in_every (λ (s : Signature). Every (NamesBelow n) s.refs) l one, signs_low n autos lists h.1 f.1)
    where
      one : (s : Signature) → IsIn s l → Every (NamesBelow n) s.refs
      one s i =
          let w = h.0.some s i in
          let b : AllNameBelow n (s ∷ []) = signs_within bs n (w.0 ∷ []) (s ∷ []) (sym w.2, tt)
          (λ t k j m. elim j [
            | inl e ↦ tree_low n a f.0 w.0 k w.1 (subst (λ (z : Tree). RefersTo z k) e m)
            | inr z ↦ absurd z
          ]) in
          b.0

  pub signs_long : (autos : List Automaton) (lists : List (List Signature)) → AreSigns bs autos lists
      → length autos ≡ length lists
  signs_long autos lists h = paired_long (AreSignsOf bs) autos lists h
