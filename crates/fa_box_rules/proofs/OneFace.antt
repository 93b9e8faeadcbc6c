-- A box has one face.
use Rattle.std.proofs.Common.{◌≡◌, ℕ, Bool, true, false, nat_le, List, [], ◌∷◌, map, Option, Some, None}
use Rattle.std.proofs.Common.{slice_get, refl, sym, ap, subst, ◌∙◌, arith}
use Rattle.std.proofs.lemmas.Bool.{leb-false}
use Rattle.fore_base.specs.Lists.{Every, Paired}
use Rattle.ta_core.specs.Auto.{Automaton, IsRanked}
use Rattle.ta_core.specs.declared.tree.Tree.{Tree}
use Rattle.fa_core.specs.declared.boxes.BoxDef.{BoxDef}
use Rattle.fa_core.specs.declared.faces.BoxFace.{BoxFace}
use Rattle.fa_core.specs.declared.forest.Forest.{Forest}
use Rattle.fa_core.specs.declared.signature.Signature.{Signature}
use Rattle.fa_core.specs.Boxes.{Boxes, IsBoxTable, SoundBox, BackHolds, LeadsUp, LeadsNowhere, port_structs}
use Rattle.fa_core.specs.Filled.{Choice, TopsAre}
use Rattle.fa_core.specs.Rearranged.{Rearranged, chain, insert, in_order, RisesFrom, IsRising}
use Rattle.fa_core.specs.Ways.{signature}
use Rattle.fa_core.proofs.Rearranging.{back}
use Rattle.fa_core.proofs.Sorting.{order_same}
use Rattle.fa_back.specs.Insides.{IsInside, AreRankedInsides, AlwaysReaches, NeverReaches}
use Rattle.fa_back.specs.Reached.{IsSignedBy, AreSignaturesOf}
use Rattle.fa_back.proofs.Dressable.{some_choice}
use Rattle.fa_back.proofs.InsideLaws.{up_closure, nowhere_closure}
use Rattle.fa_box_rules.specs.Rules.{GivesOutput}
use Rattle.fa_box_rules.proofs.SoundBoxes.{begin_at, face_is, place_tree, top_is, top_same}

-- Numbers in rising order are the only ones with these items.

sorted_from : (m : ℕ) (xs : List ℕ) → RisesFrom m xs → insert m xs ≡ m ∷ xs
sorted_from m [] h = refl
sorted_from m (x ∷ xs) h = here (nat_le m x) refl
  where
    here : (b : Bool) → nat_le m x ≡ b → insert m (x ∷ xs) ≡ m ∷ (x ∷ xs)
    here true e = rw e refl
    here false e = absurd (let l = leb-false m x e in let k = h.0 in omega (arith, l, k))

rising_tail : (m : ℕ) (xs : List ℕ) → RisesFrom m xs → IsRising xs
rising_tail m [] h = tt
rising_tail m (x ∷ xs) h = h.1

rising_sorted : (xs : List ℕ) → IsRising xs → in_order xs ≡ xs
rising_sorted [] h = refl
rising_sorted (x ∷ xs) h = ap (insert x) (rising_sorted xs (rising_tail x xs h)) ∙ sorted_from x xs h

rising_same : (xs ys : List ℕ) → IsRising xs → IsRising ys → Rearranged xs ys → xs ≡ ys
rising_same xs ys h k r = sym (rising_sorted xs h) ∙ order_same r ∙ rising_sorted ys k

-- Signatures of trees.

signed : (bs : List BoxFace) (autos : List Automaton) (ts : List Tree) → Choice autos ts
    → (ss : List Signature) × AreSignaturesOf bs autos ss
signed bs autos ts c = (
  map (λ t. record { refs = signature bs t }) ts,
  record { trees = ts; choice = c; signed = each ts },
)
  where
    each : (us : List Tree) → Paired (IsSignedBy bs) us (map (λ t. record { refs = signature bs t }) us)
    each [] = tt
    each (u ∷ us) = (refl, each us)

-- Faces.

-- faces are one where their parts are
alike : (x y : BoxFace) → x.input ≡ y.input → x.output ≡ y.output → x.gives_in ≡ y.gives_in
    → x.gives_out ≡ y.gives_out → x.back ≡ y.back → x ≡ y
alike x y a b c d e =
    ap (λ (i : ℕ). record {
      input = i;
      output = x.output;
      gives_in = x.gives_in;
      gives_out = x.gives_out;
      back = x.back;
    }) a
    ∙ ap (λ (i : Option ℕ). record {
      input = y.input;
      output = i;
      gives_in = x.gives_in;
      gives_out = x.gives_out;
      back = x.back;
    }) b
    ∙ ap (λ (i : List ℕ). record {
      input = y.input;
      output = y.output;
      gives_in = i;
      gives_out = x.gives_out;
      back = x.back;
    }) c
    ∙ ap (λ (i : List ℕ). record {
      input = y.input;
      output = y.output;
      gives_in = y.gives_in;
      gives_out = i;
      back = x.back;
    }) d
    ∙ ap (λ (i : Bool). record {
      input = y.input;
      output = y.output;
      gives_in = y.gives_in;
      gives_out = y.gives_out;
      back = i;
    }) e

-- the structs at the top of the first tree are one
tops_same : (ts : List Tree) (xs ys : List ℕ) → TopsAre ts xs → TopsAre ts ys → {a b : ℕ} → slice_get xs 0 ≡ Some a
    → slice_get ys 0 ≡ Some b → a ≡ b
tops_same ts xs ys h k {a} {b} e i =
    let p = place_tree ts xs 0 a h e in
    top_same p.0 a b (top_is ts xs 0 a p.0 h p.1 e) (top_is ts ys 0 b p.0 k p.1 i)

abbrev sound_with : List ℕ → BoxFace → Forest → BoxDef
sound_with n x inside = record { name = n; face = x; inside = inside }

first_struct : (x : BoxFace) (out : Option ℕ) → slice_get (port_structs x out) 0 ≡ Some x.input
first_struct x None = refl
first_struct x (Some o) = refl

module _ (t : Boxes) (table : IsBoxTable t) (insides : AreRankedInsides t.defs) (n m : List ℕ) (x y : BoxFace)
    (inside : Forest) (ranked : Every IsRanked inside.autos) (same : x.output ≡ y.output)
    (sx : SoundBox t.face t.defs (sound_with n x inside)) (sy : SoundBox t.face t.defs (sound_with m y inside)) where
  same_input : x.input ≡ y.input
  same_input =
      let c = some_choice inside.autos sx.full in
      let f = sx.fits c.0 c.1 in
      let g = sy.fits c.0 c.1 in
      let p = begin_at (port_structs x x.output) f.tops 0 x.input f.ports (first_struct x x.output) in
      let q = begin_at (port_structs y y.output) g.tops 0 y.input g.ports (first_struct y y.output) in
      tops_same c.0 f.tops g.tops f.are g.are p q

  same_in : x.gives_in ≡ y.gives_in
  same_in =
      let c = some_choice inside.autos sx.full in
      let f = face_is t.face t.defs (sound_with n x inside) sx in
      let g = face_is t.face t.defs (sound_with m y inside) sy in
      rising_same x.gives_in y.gives_in sx.in_order.0 sy.in_order.0
      (chain (f.gives_in c.0 c.1) (back (g.gives_in c.0 c.1)))

  out_same : (out : Option ℕ) → GivesOutput t.face.boxes inside.autos out x.gives_out
      → GivesOutput t.face.boxes inside.autos out y.gives_out → x.gives_out ≡ y.gives_out
  out_same None f g = f ∙ sym g
  out_same (Some o) f g =
      let c = some_choice inside.autos sx.full in
      rising_same x.gives_out y.gives_out sx.in_order.1 sy.in_order.1 (chain (f c.0 c.1) (back (g c.0 c.1)))

  same_out : x.gives_out ≡ y.gives_out
  same_out =
      let f = face_is t.face t.defs (sound_with n x inside) sx in
      let g = face_is t.face t.defs (sound_with m y inside) sy in
      out_same y.output
      (subst (λ (o : Option ℕ). GivesOutput t.face.boxes inside.autos o x.gives_out) same f.gives_out) g.gives_out

  -- no box leads back in each inside and in none
  not_both : (z w : BoxFace) (o : ℕ) → IsInside t.face z inside.autos → IsInside t.face w inside.autos
      → z.output ≡ Some o → w.output ≡ Some o → LeadsUp t.defs inside.autos → LeadsNowhere t.defs inside.autos → ⊥
  not_both z w o iz iw ez ew up nowhere =
      let c = some_choice inside.autos sx.full in
      let s = signed t.face.boxes inside.autos c.0 c.1 in
      let a : AlwaysReaches t.face.boxes inside.autos 1 0 =
      up_closure t table z inside.autos iz ranked insides o ez up in
      let b : NeverReaches t.face.boxes inside.autos 1 0 =
      nowhere_closure t table w inside.autos iw ranked insides o ew nowhere in
      b s.0 s.1 (a s.0 s.1)

  inside_x : IsInside t.face x inside.autos
  inside_x = record { rules = sx.rules; fits = sx.fits }

  inside_y : IsInside t.face y inside.autos
  inside_y = record { rules = sy.rules; fits = sy.fits }

  back_same : (out : Option ℕ) → x.output ≡ out → y.output ≡ out → BackHolds t.defs x out inside.autos
      → BackHolds t.defs y out inside.autos → x.back ≡ y.back
  back_same None ex ey f g = f.1 ∙ sym g.1
  back_same (Some o) ex ey f g = here x.back refl y.back refl
    where
      here : (p : Bool) → x.back ≡ p → (q : Bool) → y.back ≡ q → x.back ≡ y.back
      here true e true k = e ∙ sym k
      here false e false k = e ∙ sym k
      here true e false k = absurd (not_both x y o inside_x inside_y ex ey (f.0 e).1 (g.1 k))
      here false e true k = absurd (not_both y x o inside_y inside_x ey ex (g.0 k).1 (f.1 e))

  same_back : x.back ≡ y.back
  same_back = back_same y.output same refl
      (subst (λ (o : Option ℕ). BackHolds t.defs x o inside.autos) same sx.back) sy.back

  pub one_face : x ≡ y
  one_face = alike x y same_input same same_in same_out same_back
