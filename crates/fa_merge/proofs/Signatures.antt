-- The signature of a component from that of a root state which has a tree.
use Rattle.std.proofs.Common.{◌≡◌, ◌∙◌, ℕ, zero, suc, ◌<◌, ◌+◌, List, [], ◌∷◌}
use Rattle.std.proofs.Common.{◌++◌, length, take, Option, Some, slice_get, refl, sym, ap, subst, arith}
use Rattle.std.proofs.lemmas.Option.{none-some, same_Some}
use Rattle.fore_base.specs.Lists.{Every}
use Rattle.ta_core.specs.Auto.{Automaton}
use Rattle.ta_core.specs.Language.{RunOf}
use Rattle.ta_core.specs.declared.tree.Tree.{Tree}
use Rattle.fa_core.specs.declared.faces.BoxFace.{BoxFace}
use Rattle.fa_core.specs.declared.signature.Signature.{Signature}
use Rattle.fa_core.specs.Filled.{HasSignatures}
use Rattle.fa_core.specs.Ways.{signature}
use Rattle.fa_sound.specs.Soundness.{IsStateOf}
use Rattle.fa_merge.specs.Signed.{IsSignatureOf}
use Rattle.fa_merge.specs.inner.Signed.{IsLiveRoot}

pub is_state : (o : Option Automaton) (a : Automaton) (q : ℕ) → o ≡ Some a → q < a.states → IsStateOf o q
is_state o a q e l = subst (λ (x : Option Automaton). IsStateOf x q) (sym e) l

-- the component at a place
pub signatures_at : (bs : List BoxFace) (autos : List Automaton) (i : ℕ) (a : Automaton)
    → Every (HasSignatures bs) autos → slice_get autos i ≡ Some a → HasSignatures bs a
signatures_at bs [] i a h e = absurd (none-some a e)
signatures_at bs (b ∷ autos) zero a h e = subst (HasSignatures bs) (same_Some b a e) h.0
signatures_at bs (b ∷ autos) (suc i) a h e = signatures_at bs autos i a h.1 e

-- all trees have the signature of those of one root state
pub live_signature : (bs : List BoxFace) (a : Automaton) (q : ℕ) (s : Signature) → HasSignatures bs a → IsLiveRoot a q
    → ((t : Tree) → RunOf a.rules q t → s.refs ≡ signature bs t) → IsSignatureOf bs a s
live_signature bs a q s h l f = λ t i. h.component t l.1.0 i (q, l.0, l.1.1) ∙ sym (f l.1.0 l.1.1)

-- one more item of a list
pub one_more : {X : Type 0} (xs : List X) (i : ℕ) → i < length xs → (x : X) × (slice_get xs i ≡ Some x)
    × (take (i + 1) xs ≡ take i xs ++ x ∷ [])
one_more [] i l = absurd (omega (arith, l))
one_more (x ∷ xs) zero l = (x, refl, refl)
one_more {X} (x ∷ xs) (suc i) l =
    let k = one_more xs i (omega (arith, l)) in
    let e : suc (i + 1) ≡ suc i + 1 = omega arith in (
      k.0,
      k.1,
      subst (λ (n : ℕ). take n (x ∷ xs) ≡ take (suc i) (x ∷ xs) ++ k.0 ∷ []) e
          (ap (λ (z : List X). x ∷ z) k.2),
    )
