-- A root is idle exactly where its own signature provides nothing, and none provides anything at it.
use Rattle.std.proofs.Common.{◌≡◌, ◌↔◌, ℕ, ◌<◌, Bool, true, false, true≢false, ◌||◌, nat_eq, length, List, []}
use Rattle.std.proofs.Common.{◌∷◌, ◌++◌, map, flat_map, Some, slice_get, append-nil, refl, sym, ap, ap₂, subst, ◌∙◌}
use Rattle.std.proofs.lemmas.Bool.{eqb-true}
use Rattle.fore_base.specs.Lists.{Every, Paired}
use Rattle.ta_core.specs.Auto.{Automaton}
use Rattle.ta_core.specs.declared.tree.Tree.{Tree}
use Rattle.fa_core.specs.declared.faces.BoxFace.{BoxFace}
use Rattle.fa_core.specs.declared.faces.Face.{Face}
use Rattle.fa_core.specs.declared.forest.Forest.{Forest}
use Rattle.fa_core.specs.declared.signature.RefMark.{RefMark}
use Rattle.fa_core.specs.declared.signature.Signature.{Signature}
use Rattle.fa_core.specs.Filled.{Choice, HasSome, IsSound, given_at}
use Rattle.fa_core.specs.Rearranged.{Rearranged, empty, keep, swap, chain, in_order}
use Rattle.fa_core.specs.Ways.{Way, ways, to_root, given, has, mark, roots_met, signature}
use Rattle.fa_core.proofs.FilledKept.{choice_with}
use Rattle.fa_core.proofs.Numbers.{has_once}
use Rattle.fa_core.proofs.Sorting.{ordered}
use Rattle.fa_core.proofs.WayParts.{way_roots}
use Rattle.fa_leaves.proofs.SameWays.{none_there}
use Rattle.fa_sound.specs.Components.{component_at}
use Rattle.fa_sound.proofs.ComponentLemmas.{component_got}
use Rattle.fa_merge.specs.Dropped.{IsIdle}
use Rattle.fa_merge.specs.inner.Idle.{GivesNone, GivesNoneTo}
use Rattle.fa_merge.specs.Signed.{IsSignatureOf}
use Rattle.fa_merge.proofs.DroppedSound.{tree_in}
use Rattle.fa_merge.proofs.FieldFacts.{no_list}
use Rattle.fa_merge.proofs.PlacedForests.{component_has}

-- the fields that box edges of the tree give to root k
abbrev pub gift : List BoxFace → ℕ → Tree → List ℕ
gift bs k t = flat_map (λ w. given bs w.steps) (to_root k (ways t))

-- numbers in order are none exactly where the numbers are none
moved_none : {xs ys : List ℕ} → Rearranged xs ys → ys ≡ [] → xs ≡ []
moved_none empty e = refl
moved_none (keep x r) e = absurd (no_list (sym e))
moved_none (swap x y xs) e = absurd (no_list (sym e))
moved_none (chain a b) e = moved_none a (moved_none b e)

none_in_order : (xs : List ℕ) → in_order xs ≡ [] → xs ≡ []
none_in_order xs e = moved_none (ordered xs) e

module _ (bs : List BoxFace) (ws : List Way) (r : ℕ) where
  abbrev gifts : ℕ → List ℕ
  gifts k = flat_map (λ w. given bs w.steps) (to_root k ws)

  there_none : (rs : List ℕ) → GivesNoneTo r (map (mark bs ws) rs) → has r rs ≡ true → in_order (gifts r) ≡ []
  there_none [] h e = absurd (true≢false (sym e))
  there_none (k ∷ rs) h e = here (nat_eq r k) refl e (there_none rs h.1)
    where
      here : (b : Bool) → nat_eq r k ≡ b → (b || has r rs) ≡ true
          → (has r rs ≡ true → in_order (gifts r) ≡ []) → in_order (gifts r) ≡ []
      here true q z later = ap (λ (n : ℕ). in_order (gifts n)) (eqb-true r k q) ∙ h.0 (sym (eqb-true r k q))
      here false q z later = later z

  none_marked : (rs : List ℕ) → gifts r ≡ [] → GivesNoneTo r (map (mark bs ws) rs)
  none_marked [] e = tt
  none_marked (k ∷ rs) e = ((λ q. ap (λ (n : ℕ). in_order (gifts n)) q ∙ ap in_order e), none_marked rs e)

  none_by_marks : GivesNoneTo r (map (mark bs ws) (roots_met ws)) → gifts r ≡ []
  none_by_marks h = here (has r (way_roots ws)) refl
    where
      here : (b : Bool) → has r (way_roots ws) ≡ b → gifts r ≡ []
      here true e = none_in_order (gifts r) (there_none (roots_met ws) h (has_once r (way_roots ws) ∙ e))
      here false e = ap (λ (us : List Way). flat_map (λ w. given bs w.steps) us) (none_there r ws e)

-- a tree gives nothing to a root exactly where its signature provides nothing there
none_signed : (bs : List BoxFace) (r : ℕ) (t : Tree) → GivesNoneTo r (signature bs t) → gift bs r t ≡ []
none_signed bs r t h = none_by_marks bs (ways t) r h

signed_none : (bs : List BoxFace) (r : ℕ) (t : Tree) → gift bs r t ≡ [] → GivesNoneTo r (signature bs t)
signed_none bs r t e = none_marked bs (ways t) r (roots_met (ways t)) e

none_to : (r : ℕ) (ms : List RefMark) → GivesNone ms → GivesNoneTo r ms
none_to r [] h = tt
none_to r (m ∷ ms) h = ((λ e. h.0), none_to r ms h.1)

none_of_each : (ms : List RefMark) → ((r : ℕ) → GivesNoneTo r ms) → GivesNone ms
none_of_each [] h = tt
none_of_each (m ∷ ms) h = ((h m.root).0 refl, none_of_each ms (λ r. (h r).1))

-- Choices.

module _ (bs : List BoxFace) (r : ℕ) where
  all_give_none : (autos : List Automaton) (ss : List Signature) → Paired (IsSignatureOf bs) autos ss
      → Every (λ (s : Signature). GivesNoneTo r s.refs) ss → (ts : List Tree) → Choice autos ts
      → given_at bs ts r ≡ []
  all_give_none [] [] p h [] c = refl
  all_give_none [] [] p h (t ∷ ts) c = absurd c
  all_give_none [] (s ∷ ss) p h ts c = absurd p
  all_give_none (a ∷ autos) [] p h ts c = absurd p
  all_give_none (a ∷ autos) (s ∷ ss) p h [] c = absurd c
  all_give_none (a ∷ autos) (s ∷ ss) p h (t ∷ ts) c =
      ap₂ (λ (xs ys : List ℕ). xs ++ ys)
      (none_signed bs r t (subst (GivesNoneTo r) (sym (p.0 t c.0)) h.0))
      (all_give_none autos ss p.1 h.1 ts c.1)

  each_gives_none : (autos : List Automaton) (ss : List Signature) → Paired (IsSignatureOf bs) autos ss
      → (ts : List Tree) → Choice autos ts → given_at bs ts r ≡ []
      → Every (λ (s : Signature). GivesNoneTo r s.refs) ss
  each_gives_none [] [] p ts c e = tt
  each_gives_none [] (s ∷ ss) p ts c e = absurd p
  each_gives_none (a ∷ autos) [] p ts c e = absurd p
  each_gives_none (a ∷ autos) (s ∷ ss) p [] c e = absurd c
  each_gives_none (a ∷ autos) (s ∷ ss) p (t ∷ ts) c e =
      let q = parted (gift bs r t) (given_at bs ts r) e in
      (subst (GivesNoneTo r) (p.0 t c.0) (signed_none bs r t q.0), each_gives_none autos ss p.1 ts c.1 q.1)
    where
      parted : (xs ys : List ℕ) → xs ++ ys ≡ [] → (xs ≡ []) × (ys ≡ [])
      parted [] ys e = (refl, e)
      parted (x ∷ xs) ys e = absurd (no_list (sym e))

pub idle_decided : (face : Face) (F : Forest) (r : ℕ) → IsSound face F → r < length F.autos → (own : Signature)
    → ((a : Automaton) → slice_get F.autos r ≡ Some a → IsSignatureOf face.boxes a own) → (ss : List Signature)
    → Paired (IsSignatureOf face.boxes) F.autos ss
    → (GivesNone own.refs × Every (λ (s : Signature). GivesNoneTo r s.refs) ss) ↔ IsIdle face.boxes F r
idle_decided face F r sound root own is ss signed = (
  (λ h. record {
    own = λ ts c. all_give_none face.boxes r F.autos ss signed h.1 ts c;
    out = λ ts t c e k.
        (let w = tree_in F.autos ts r t c e in
        append-nil (gift face.boxes k t)
        ∙ none_signed face.boxes k t
        (subst (GivesNoneTo k) (sym (is (component_at F.autos r) (component_got F.autos r root) t w))
        (none_to k own.refs h.0)));
  }),
  (λ idle.
      let some : HasSome (component_at F.autos r) = component_has HasSome F.autos r sound.full root in
      let c = choice_with F.autos sound.full r (component_at F.autos r) some.0 (component_got F.autos r root) some.1
      in (
        none_of_each own.refs
            (λ k. subst (GivesNoneTo k) (is (component_at F.autos r) (component_got F.autos r root) some.0 some.1)
            (signed_none face.boxes k some.0
            (sym (append-nil (gift face.boxes k some.0)) ∙ idle.out c.0 some.0 c.1 c.2 k))),
        each_gives_none face.boxes r F.autos ss signed c.0 c.1 (idle.own c.0 c.1),
      )),
)
