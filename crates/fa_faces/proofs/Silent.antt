-- From a port whose trees give it nothing no other root is reached.
use Rattle.std.proofs.Common.{◌≡◌, ◌⊎◌, inl, inr, ℕ, suc, Bool, true, false, true≢false, cond, ◌&&◌}
use Rattle.std.proofs.Common.{List, [], ◌∷◌, ◌++◌, map, flat_map, length, Option, Some, None, slice_get, refl, sym, ap}
use Rattle.std.proofs.Common.{subst, ◌∙◌, arith}
use Rattle.std.proofs.lemmas.Option.{none-some, same_Some}
use Rattle.fore_base.specs.Lists.{IsIn, Every, Paired}
use Rattle.fore_base.proofs.ListLemmas.{every_in, in_from_place}
use Rattle.ta_core.specs.Auto.{Automaton}
use Rattle.ta_core.specs.declared.symbol.Slot.{Slot}
use Rattle.ta_core.specs.declared.symbol.Slot.TheVariants.{Field, Link, Hook}
use Rattle.ta_core.specs.declared.tree.Tree.{Tree}
use Rattle.fa_core.specs.declared.faces.BoxFace.{BoxFace}
use Rattle.fa_core.specs.declared.faces.Face.{Face}
use Rattle.fa_core.specs.declared.forest.Target.TheVariants.{At}
use Rattle.fa_core.specs.declared.signature.Signature.{Signature}
use Rattle.fa_core.specs.Faces.{IsGiving}
use Rattle.fa_core.specs.Filled.{Choice, HasSome, HasField, IsTopped, IsInOrder, covers, given_at, spots}
use Rattle.fa_core.specs.Folding.{covered_fields}
use Rattle.fa_core.specs.Ways.{Step, Way, ways, to_root, given, given_by, leads_through}
use Rattle.fa_core.specs.Ways.{fields_out, is_back, all_back, leads_back, led_to, signature}
use Rattle.fa_core.proofs.Rearranging.{back}
use Rattle.fa_core.proofs.NodeSpots.{spots_out}
use Rattle.fa_core.proofs.WayParts.{ways_out}
use Rattle.fa_back.specs.Insides.{AlwaysReaches}
use Rattle.fa_back.specs.Reached.{RootReached, by_var, by_tree, by_way, IsSignedBy}
use Rattle.fa_back.proofs.ByMarks.{in_var_roots, signed_met}
use Rattle.fa_back.proofs.Dressable.{some_choice}
use Rattle.fa_box_rules.specs.Cells.{AreRight, IsRightUnder}
use Rattle.fa_box_rules.specs.Rules.{Gives, root_fields, covered_at}
use Rattle.fa_back.proofs.RootMarks.{in_to_root}
use Rattle.fa_box_rules.proofs.SoundBoxes.{nil_only}

-- Lists that are empty.

none_left : (xs ys : List ℕ) → xs ++ ys ≡ [] → xs ≡ []
none_left [] ys e = refl
none_left (x ∷ xs) ys e = absurd (let l : suc (length (xs ++ ys)) ≡ 0 = ap (λ (z : List ℕ). length z) e in
    omega (arith, l))

none_right : (xs ys : List ℕ) → xs ++ ys ≡ [] → ys ≡ []
none_right [] ys e = e
none_right (x ∷ xs) ys e = absurd (let l : suc (length (xs ++ ys)) ≡ 0 = ap (λ (z : List ℕ). length z) e in
    omega (arith, l))

none_of : {X : Type 0} (f : X → List ℕ) (xs : List X) (x : X) → flat_map f xs ≡ [] → IsIn x xs → f x ≡ []
none_of f [] x e i = absurd i
none_of f (y ∷ ys) x e (inl q) = let z = none_left (f y) (flat_map f ys) e in rw q z
none_of f (y ∷ ys) x e (inr i) = none_of f ys x (none_right (f y) (flat_map f ys) e) i

and_none : (b : Bool) → (b && false) ≡ false
and_none true = refl
and_none false = refl

-- Edges that give nothing lead nowhere.

module _ (bs : List BoxFace) (giving : Every IsGiving bs) where
  face_silent : (x : Option BoxFace) → ((y : BoxFace) → x ≡ Some y → IsGiving y) → fields_out x ≡ []
      → leads_through x ≡ false
  face_silent None g e = refl
  face_silent (Some y) g e = here y.back refl
    where
      here : (v : Bool) → y.back ≡ v → y.back ≡ false
      here true q = absurd (g y refl q e)
      here false q = q

  slot_silent : (s : Slot) → given_by bs s ≡ [] → is_back bs s ≡ false
  slot_silent (Field f) e = refl
  slot_silent (Link b) e =
      face_silent (slice_get bs b) (λ y q. every_in IsGiving bs y giving (in_from_place bs b y q)) e
  slot_silent (Hook b) e = refl

  steps_silent : (ss : List Step) → given bs ss ≡ [] → (led_to bs ss ≡ []) × (all_back bs ss ≡ false) ⊎ (ss ≡ [])
  steps_silent [] e = inr refl
  steps_silent (s ∷ []) e = let k = slot_silent s.slot e in inl (rw k refl, rw k refl)
  steps_silent (s ∷ (t ∷ ss)) e = elim (steps_silent (t ∷ ss) e) [
    | inl r ↦ (let k : all_back bs (s ∷ (t ∷ ss)) ≡ false =
        ap (λ (v : Bool). is_back bs s.slot && v) r.1 ∙ and_none (is_back bs s.slot) in
        inl (ap (λ (v : Bool). cond v s.refers (led_to bs (t ∷ ss))) k ∙ r.0, k))
    | inr n ↦ absurd (let l : suc (length ss) ≡ 0 = ap (λ (z : List Step). length z) n in omega (arith, l))
  ]

  led_silent : (ss : List Step) → given bs ss ≡ [] → (k : ℕ) → IsIn k (led_to bs ss) → ⊥
  led_silent ss e k i = elim (steps_silent ss e) [
    | inl r ↦ (let n = r.0 in rw n at i)
    | inr n ↦ (let j = rw n at i in j)
  ]

  back_silent : (ss : List Step) → given bs ss ≡ [] → leads_back bs ss ≡ true → ⊥
  back_silent [] e b = true≢false (sym b)
  back_silent (s ∷ ss) e b = elim (steps_silent (s ∷ ss) e) [
    | inl r ↦ true≢false (sym b ∙ r.1)
    | inr n ↦ absurd (let l : suc (length ss) ≡ 0 = ap (λ (z : List Step). length z) n in omega (arith, l))
  ]

  -- a root that no edge gives anything, and whose tree refers to none
  module _ (ts : List Tree) (r : ℕ) (silent : given_at bs ts r ≡ [])
      (mute : (t : Tree) → slice_get ts r ≡ Some t → ways t ≡ []) where
    stays : (k : ℕ) → RootReached bs (At r ∷ []) ts k → k ≡ r
    stays k (by_var i) = elim (in_var_roots (At r ∷ []) k i) [ inl e ↦ e | inr n ↦ absurd n ]
    stays k (by_tree i t m e h) =
        let q = stays i m in
        let n = mute t (subst (λ (z : ℕ). slice_get ts z ≡ Some t) q e) in
        absurd (rw n at h)
    stays k (by_way i j m (t, e, (w, h, q, z))) =
        let p : w.root ≡ r = q ∙ stays i m in
        let all = none_of (λ (u : Tree). flat_map (λ (v : Way). given bs v.steps) (to_root r (ways u))) ts t silent
        (in_from_place ts j t e) in
        let n = none_of (λ (v : Way). given bs v.steps) (to_root r (ways t)) w all (in_to_root r (ways t) w h p) in
        elim z [
          | inl b ↦ absurd (back_silent w.steps n b.1)
          | inr l ↦ absurd (led_silent w.steps n k l)
        ]

-- Ports.

-- slots in order that cover nothing are none
no_slots : (bs : List BoxFace) (ss : List Slot) → IsInOrder bs ss → flat_map (covers bs) ss ≡ [] → ss ≡ []
no_slots bs [] o e = refl
no_slots bs (s ∷ ss) o e = absurd (let n = none_left (covers bs s) (flat_map (covers bs) ss) e in
    subst HasField n o.0.0)

-- the tree at the top of a right port, where its slots cover nothing, is a cell alone
port_mute : (face : Face) (all : List Tree) (t : Tree) (above : List ℕ) (s : ℕ) → IsTopped s t
    → IsRightUnder face all (spots face.boxes t above) → covered_fields face.boxes t ≡ [] → ways t ≡ []
port_mute face all t above s h k n =
    let e = h.2 in
    let o = spots_out face.boxes t above in
    let v = rw e at (rw o at k) in
    let m = rw e at n in
    let z = no_slots face.boxes h.1 v.0.order m in
    let w = ways_out t in
    rw w (rw e (rw z refl))

second_port : (face : Face) (all : List Tree) (ts : List Tree) (t : Tree) → AreRight face all 0 2 ts
    → slice_get ts 1 ≡ Some t → IsRightUnder face all (spots face.boxes t (given_at face.boxes all 1))
second_port face all [] t h e = absurd (none-some t e)
second_port face all (u ∷ []) t h e = absurd (none-some t e)
second_port face all (u ∷ (v ∷ ts)) t h e =
    subst (λ (z : Tree). IsRightUnder face all (spots face.boxes z (given_at face.boxes all 1))) (same_Some v t e)
    h.1.0

abbrev sign : List BoxFace → Tree → Signature
sign bs t = record { refs = signature bs t }

-- an output that is given nothing does not lead back
pub silent_port : (face : Face) (autos : List Automaton) → Every IsGiving face.boxes → Every HasSome autos
    → ((ts : List Tree) → Choice autos ts → AreRight face ts 0 2 ts)
    → ((ts : List Tree) → Choice autos ts → (t : Tree) → slice_get ts 1 ≡ Some t → (s : ℕ) × IsTopped s t)
    → Gives face.boxes autos 1 [] → AlwaysReaches face.boxes autos 1 0 → ⊥
silent_port face autos giving full right topped gives leads =
    let c = some_choice autos full in
    let e : root_fields face.boxes c.0 1 ≡ [] = nil_only (back (gives c.0 c.1)) in
    let covered : covered_at face.boxes (slice_get c.0 1) ≡ [] =
    none_left (covered_at face.boxes (slice_get c.0 1)) (given_at face.boxes c.0 1) e in
    let silent : given_at face.boxes c.0 1 ≡ [] =
    none_right (covered_at face.boxes (slice_get c.0 1)) (given_at face.boxes c.0 1) e in
    let p = all_signed c.0 in
    let ss = map (sign face.boxes) c.0 in
    let r = leads ss (record { trees = c.0; choice = c.1; signed = p }) in
    let m = signed_met face.boxes (At 1 ∷ []) c.0 ss p 0 r in
    let z : 0 ≡ 1 = stays face.boxes giving c.0 1 silent
    (λ t q. (let s = topped c.0 c.1 t q in
    port_mute face c.0 t (given_at face.boxes c.0 1) s.0 s.1 (second_port face c.0 c.0 t (right c.0 c.1) q)
    (subst (λ (x : Option Tree). covered_at face.boxes x ≡ []) q covered))) 0 m in
    omega (arith, z)
  where
    all_signed : (ts : List Tree) → Paired (IsSignedBy face.boxes) ts (map (sign face.boxes) ts)
    all_signed [] = tt
    all_signed (t ∷ ts) = (refl, all_signed ts)
