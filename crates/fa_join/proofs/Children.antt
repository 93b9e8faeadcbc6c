-- The states of children: their languages and their signatures.
use Rattle.std.proofs.Common.{◌≡◌, ◌↔◌, inl, inr, ℕ, zero, suc, ◌<◌, length, List, [], ◌∷◌, refl, sym, ap, subst, ◌∙◌}
use Rattle.std.proofs.Common.{slice_get, get_or, Some, arith}
use Rattle.fore_base.specs.Lists.{IsIn}
use Rattle.ta_core.specs.Auto.{Automaton}
use Rattle.ta_core.specs.Language.{RunOf, InLanguage, HasSameLanguage}
use Rattle.ta_core.specs.declared.tree.Tree.{Tree}
use Rattle.fa_core.specs.declared.faces.BoxFace.{BoxFace}
use Rattle.fa_core.specs.declared.signature.RefMark.{RefMark}
use Rattle.fa_join.specs.Joinable.{SameRuns, SameSignatures}
use Rattle.fa_join.specs.inner.Apart.{at_state}
use Rattle.fa_split.specs.Marks.{HasMarks}

-- the item that is read at a place
pub item_got : {X : Type 0} (xs : List X) (i : ℕ) (x : X) → i < length xs → x ≡ get_or xs i x → slice_get xs i ≡ Some x
item_got [] i x l e = absurd (omega (arith, l))
item_got {X} (y ∷ xs) zero x l e = ap (λ (z : X). Some z) (sym e)
item_got (y ∷ xs) (suc i) x l e = item_got xs i x (omega (arith, l)) e

-- The automaton of the trees of a state.

pub state_tree : (a : Automaton) (q : ℕ) (t : Tree) → InLanguage (at_state a q) t ↔ RunOf a.rules q t
state_tree a q t = ((λ h. one h.0 h.1 h.2), (λ w. (q, inl refl, w)))
  where
    one : (p : ℕ) → IsIn p (q ∷ []) → RunOf a.rules p t → RunOf a.rules q t
    one p (inl e) w = subst (λ (z : ℕ). RunOf a.rules z t) e w
    one p (inr e) w = absurd e

pub same_states : (a b : Automaton) (p q : ℕ) → HasSameLanguage (at_state a p) (at_state b q) ↔ SameRuns a b p q
same_states a b p q = (
  (λ h t. (
    (λ w. (state_tree b q t).0 ((h t).0 ((state_tree a p t).1 w))),
    (λ w. (state_tree a p t).0 ((h t).1 ((state_tree b q t).1 w))),
  )),
  (λ h t. (
    (λ w. (state_tree b q t).1 ((h t).0 ((state_tree a p t).0 w))),
    (λ w. (state_tree a p t).1 ((h t).1 ((state_tree b q t).0 w))),
  )),
)

-- Signatures.

pub marks_decide : (bs : List BoxFace) (a b : Automaton) (p q : ℕ) (ms ns : List RefMark) → HasMarks bs a p ms
    → HasMarks bs b q ns → (ms ≡ ns) ↔ SameSignatures bs a b p q
marks_decide bs a b p q ms ns h k = (
  (λ e t u x y. sym (h.each t x) ∙ e ∙ k.each u y),
  (λ s. h.each h.some.0 h.some.1 ∙ s h.some.0 k.some.0 h.some.1 k.some.1 ∙ sym (k.each k.some.0 k.some.1)),
)
