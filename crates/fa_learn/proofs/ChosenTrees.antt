-- Choices of trees of a forest, with given trees at two roots; the struct and the filled cells at a root.
use Rattle.std.proofs.Common.{◌≡◌, ◌≢◌, ℕ, zero, suc, ◌+◌, List, [], ◌∷◌, Some, slice_get, refl, sym, ap, subst, arith}
use Rattle.std.proofs.lemmas.Option.{none-some, same_Some}
use Rattle.fore_base.specs.Lists.{Every}
use Rattle.ta_core.specs.Auto.{Automaton}
use Rattle.ta_core.specs.Language.{InLanguage}
use Rattle.ta_core.specs.declared.tree.Tree.{Tree}
use Rattle.fa_core.specs.declared.faces.Face.{Face}
use Rattle.fa_core.specs.Filled.{Choice, HasSome, IsFilledSpot, IsTopped, TopsAre, TreesFilled, given_at, spots}
use Rattle.fa_back.proofs.Dressable.{some_choice}
use Rattle.fa_box_rules.proofs.SoundBoxes.{top_same}

-- the tree of one root is given
pub one_tree : (a : Automaton) (t : Tree) → InLanguage a t → (autos : List Automaton) → Every HasSome autos → (i : ℕ)
    → slice_get autos i ≡ Some a → (ts : List Tree) × Choice autos ts × (slice_get ts i ≡ Some t)
one_tree a t h [] full i e = absurd (none-some a e)
one_tree a t h (x ∷ autos) full zero e =
    let k = some_choice autos full.1 in
    (t ∷ k.0, (subst (λ (z : Automaton). InLanguage z t) (sym (same_Some x a e)) h, k.1), refl)
one_tree a t h (x ∷ autos) full (suc i) e =
    let k = one_tree a t h autos full.1 i e in (full.0.0 ∷ k.0, (full.0.1, k.1), k.2)

-- those of two are
pub two_trees : (a c : Automaton) (t u : Tree) → InLanguage a t → InLanguage c u → (autos : List Automaton)
    → Every HasSome autos → (i j : ℕ) → i ≢ j → slice_get autos i ≡ Some a → slice_get autos j ≡ Some c
    → (ts : List Tree) × Choice autos ts × (slice_get ts i ≡ Some t) × (slice_get ts j ≡ Some u)
two_trees a c t u h k [] full i j differ e g = absurd (none-some a e)
two_trees a c t u h k (x ∷ autos) full zero zero differ e g = absurd (differ refl)
two_trees a c t u h k (x ∷ autos) full zero (suc j) differ e g =
    let w = one_tree c u k autos full.1 j g in
    (t ∷ w.0, (subst (λ (z : Automaton). InLanguage z t) (sym (same_Some x a e)) h, w.1), refl, w.2)
two_trees a c t u h k (x ∷ autos) full (suc i) zero differ e g =
    let w = one_tree a t h autos full.1 i e in
    (u ∷ w.0, (subst (λ (z : Automaton). InLanguage z u) (sym (same_Some x c g)) k, w.1), w.2, refl)
two_trees a c t u h k (x ∷ autos) full (suc i) (suc j) differ e g =
    let w = two_trees a c t u h k autos full.1 i j (λ d. differ (ap (λ (n : ℕ). suc n) d)) e g in
    (full.0.0 ∷ w.0, (full.0.1, w.1), w.2, w.3)

-- the struct at a root is that of the cell at the top of its tree
pub top_at : (ts : List Tree) (tops : List ℕ) (r s : ℕ) (t : Tree) → TopsAre ts tops → slice_get ts r ≡ Some t
    → IsTopped s t → slice_get tops r ≡ Some s
top_at [] tops r s t h e k = absurd (none-some t e)
top_at (u ∷ ts) [] r s t h e k = absurd h
top_at (u ∷ ts) (x ∷ tops) zero s t h e k =
    ap (λ (z : ℕ). Some z) (top_same t x s (subst (λ (z : Tree). IsTopped x z) (same_Some u t e) h.0) k)
top_at (u ∷ ts) (x ∷ tops) (suc r) s t h e k = top_at ts tops r s t h.1 e k

-- the cells of the tree at a root are filled
pub filled_at : (face : Face) (all : List Tree) (tops : List ℕ) (k : ℕ) (ts : List Tree) (r : ℕ) (t : Tree)
    → TreesFilled face all tops k ts → slice_get ts r ≡ Some t
    → Every (IsFilledSpot face tops) (spots face.boxes t (given_at face.boxes all (k + r)))
filled_at face all tops k [] r t h e = absurd (none-some t e)
filled_at face all tops k (u ∷ ts) zero t h e =
    let n : k + 0 ≡ k = omega arith in
    rw n (subst (λ (z : Tree). Every (IsFilledSpot face tops) (spots face.boxes z (given_at face.boxes all k)))
    (same_Some u t e) h.0)
filled_at face all tops k (u ∷ ts) (suc r) t h e =
    let n : k + suc r ≡ suc k + r = omega arith in rw n (filled_at face all tops (suc k) ts r t h.1 e)
