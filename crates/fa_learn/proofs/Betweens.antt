-- What stands between two roots of a sound forest, as a box: it breaks none of the rules of boxes, and has a face.
use Rattle.std.proofs.Common.{◌≡◌, ◌≢◌, ◌<◌, ◌≤◌, inl, inr, ℕ, zero, suc, Bool, true, false, true≢false, nat_le, if◌then◌else◌}
use Rattle.std.proofs.Common.{List, [], ◌∷◌, length, Option, Some, slice_get, refl, sym, ap, subst, ◌∙◌, arith}
use Rattle.std.proofs.lemmas.Bool.{leb-true, leb-false}
use Rattle.std.proofs.lemmas.Option.{none-some, same_Some}
use Rattle.fore_base.specs.Lists.{IsIn, Every, IsDistinct}
use Rattle.fore_base.proofs.ListLemmas.{every_in, in_from_place, in_left}
use Rattle.ta_core.specs.Auto.{Automaton, IsRanked}
use Rattle.ta_core.specs.Language.{InLanguage, IsTrim}
use Rattle.ta_core.specs.declared.tree.Tree.{Tree}
use Rattle.fa_core.specs.declared.faces.BoxFace.{BoxFace}
use Rattle.fa_core.specs.declared.faces.Face.{Face}
use Rattle.fa_core.specs.declared.forest.Forest.{Forest}
use Rattle.fa_core.specs.Boxes.{Boxes, IsBoxTable, InsideRulesFit, PortsCover, BackHolds, IsReached}
use Rattle.fa_core.specs.Canonical.{RefersTo}
use Rattle.fa_core.specs.Filled.{Choice, HasSignatures, HasSome, IsSound, IsTopped}
use Rattle.fa_core.specs.Folding.{IsLanguageOf, covered_fields, port_tree}
use Rattle.fa_core.specs.Rearranged.{Rearranged, IsRising, RisesFrom, chain, in_order, insert}
use Rattle.fa_core.proofs.Permuted.{in_rearranged}
use Rattle.fa_core.proofs.Rearranging.{back}
use Rattle.fa_core.proofs.Sorting.{ordered}
use Rattle.fa_back.specs.Insides.{IsInside}
use Rattle.fa_back.proofs.InsideLaws.{closure_nowhere, closure_reached, closure_up}
use Rattle.fa_box_rules.specs.Cells.{AreRight}
use Rattle.fa_box_rules.specs.Rules.{AreRefsThere, Gives, HaveSignatures, IsFaceOf, IsUnbroken, root_fields, structs_of}
use Rattle.fa_box_rules.proofs.SoundBoxes.{top_same}
use Rattle.fa_box_rules.proofs.Unbroken.{inside_fits}
use Rattle.fa_learn.specs.Learning.{IsBetween, port_of}
use Rattle.fa_learn.proofs.PortRules.{port_rules}
use Rattle.fa_learn.proofs.PortsFields.{input_some, output_covers, same_covers0, same_covers1, same_fields0, same_fields1}
use Rattle.fa_learn.proofs.PortsFields.{some_in}
use Rattle.fa_learn.proofs.PortsReach.{always_back, never_back, reaches_all, refs_input, refs_output}
use Rattle.fa_learn.proofs.PortsRight.{once_input, once_output, seen_right, top0, top1}
use Rattle.fa_learn.proofs.PortsSeen.{AreSeen, in0, in1, seen}

-- Different numbers in order rise.

in_insert : (k x : ℕ) (ys : List ℕ) → IsIn k (insert x ys) → IsIn k (x ∷ ys)
in_insert k x [] h = h
in_insert k x (y ∷ ys) h = here (nat_le x y) h (in_insert k x ys)
  where
    here : (b : Bool) → IsIn k (if b then x ∷ (y ∷ ys) else y ∷ insert x ys)
        → (IsIn k (insert x ys) → IsIn k (x ∷ ys)) → IsIn k (x ∷ (y ∷ ys))
    here true i go = i
    here false (inl e) go = inr (inl e)
    here false (inr i) go = elim (go i) [ inl e ↦ inl e | inr m ↦ inr (inr m) ]

lowest : (m : ℕ) (ys : List ℕ) → ((k : ℕ) → IsIn k ys → m < k) → IsRising ys → RisesFrom m ys
lowest m [] low h = tt
lowest m (y ∷ ys) low h = (low y (inl refl), h)

above : (n : ℕ) (ys : List ℕ) → RisesFrom n ys → (k : ℕ) → IsIn k ys → n < k
above n [] h k i = absurd i
above n (y ∷ ys) h k (inl e) = let l = h.0 in omega (arith, l, e)
above n (y ∷ ys) h k (inr i) = let l = h.0 in let m = above y ys h.1 k i in omega (arith, l, m)

rises_on : (n : ℕ) (ys : List ℕ) → RisesFrom n ys → IsRising ys
rises_on n [] h = tt
rises_on n (y ∷ ys) h = h.1

insert_rises : (x : ℕ) (ys : List ℕ) → (IsIn x ys → ⊥) → IsRising ys → IsRising (insert x ys)
insert_rises x [] n h = tt
insert_rises x (y ∷ ys) n h =
    here (nat_le x y) refl (insert_rises x ys (λ i. n (inr i)) (rises_on y ys h))
  where
    here : (b : Bool) → nat_le x y ≡ b → IsRising (insert x ys)
        → IsRising (if b then x ∷ (y ∷ ys) else y ∷ insert x ys)
    here true e r = let l = leb-true x y e in let d : x ≢ y = λ s. n (inl s) in (less x y l d, h)
      where
        less : (p q : ℕ) → p ≤ q → p ≢ q → p < q
        less zero zero l d = absurd (d refl)
        less zero (suc q) l d = omega arith
        less (suc p) zero l d = absurd (omega (arith, l))
        less (suc p) (suc q) l d =
            let k = less p q (omega (arith, l)) (λ s. d (ap (λ (z : ℕ). suc z) s)) in omega (arith, k)
    here false e r = let l = leb-false x y e in
        lowest y (insert x ys) (λ k i. (elim (in_insert k x ys i)
        [ inl s ↦ omega (arith, l, s) | inr m ↦ above y ys h k m ])) r

order_rises : (xs : List ℕ) → IsDistinct xs → IsRising (in_order xs)
order_rises [] h = tt
order_rises (x ∷ xs) h =
    insert_rises x (in_order xs) (λ i. h.0 (in_rearranged x (back (ordered xs)) i)) (order_rises xs h.1)

-- whether there is one
abbrev pub is_some : List ℕ → Bool
is_some [] = false
is_some (x ∷ xs) = true

-- The box.
module _ (t : Boxes) (F : Forest) (sound : IsSound t.face F) (ranked : Every IsRanked F.autos) (i j : ℕ)
    (ins outs : List ℕ) (b : IsBetween F i j ins outs) (first second : Automaton)
    (at_input : IsLanguageOf (port_tree (port_of i j) b.in_shape ins) b.input.auto first)
    (at_output : IsLanguageOf (port_tree (port_of i j) b.out_shape outs) b.output.auto second) where
  abbrev face : Face
  face = t.face

  abbrev bs : List BoxFace
  bs = face.boxes

  abbrev autos : List Automaton
  autos = first ∷ second ∷ []

  abbrev Seen : Tree → Tree → Type 0
  Seen u0 u1 = AreSeen F i j ins outs b u0 u1

  pub see : (u0 u1 : Tree) → Choice autos (u0 ∷ u1 ∷ []) → Seen u0 u1
  see u0 u1 c = seen F i j ins outs b face sound ranked first second at_input at_output u0 u1 c.0 c.1.0

  in_input : IsIn b.input.auto F.autos
  in_input = in_from_place F.autos i b.input.auto b.input.there

  in_output : IsIn b.output.auto F.autos
  in_output = in_from_place F.autos j b.output.auto b.output.there

  pub some0 : HasSome first
  some0 =
      let s = every_in HasSome F.autos b.input.auto sound.full in_input in
      let u = port_tree (port_of i j) b.in_shape ins s.0 in (u, (at_input u).1 (s.0, s.1, refl))

  pub some1 : HasSome second
  some1 =
      let s = every_in HasSome F.autos b.output.auto sound.full in_output in
      let u = port_tree (port_of i j) b.out_shape outs s.0 in (u, (at_output u).1 (s.0, s.1, refl))

  pub full : Every HasSome autos
  full = (some0, (some1, tt))

  see0 : (u0 : Tree) → InLanguage first u0 → Seen u0 some1.0
  see0 u0 h = see u0 some1.0 (h, (some1.1, tt))

  see1 : (u1 : Tree) → InLanguage second u1 → Seen some0.0 u1
  see1 u1 h = see some0.0 u1 (some0.1, (h, tt))

  -- by the trees of the two components
  by_trees : (P : List Tree → Type 0) → ((u0 u1 : Tree) → Seen u0 u1 → P (u0 ∷ u1 ∷ [])) → (ts : List Tree)
      → Choice autos ts → P ts
  by_trees P go [] c = absurd c
  by_trees P go (u0 ∷ []) c = absurd c.1
  by_trees P go (u0 ∷ u1 ∷ []) c = go u0 u1 (see u0 u1 c)
  by_trees P go (u0 ∷ u1 ∷ u2 ∷ ts) c = absurd c.1.1

  pub right : (ts : List Tree) → Choice autos ts → AreRight face ts 0 2 ts
  right = by_trees (λ (ts : List Tree). AreRight face ts 0 2 ts)
      (λ u0 u1 w. seen_right face F i j ins outs b u0 u1 w sound.well_formed.filled)

  pub refs : AreRefsThere autos
  refs = by_trees (λ (ts : List Tree). (u : Tree) (k : ℕ) → IsIn u ts → RefersTo u k → k < length ts)
      (λ u0 u1 w u k h r. (elim h [
        | inl e ↦ (let n = refs_input bs F i j ins outs b u0 u1 w k (subst (λ (z : Tree). RefersTo z k) e r) in
            omega (arith, n))
        | inr m ↦ (elim m [
          | inl e ↦ (let n = refs_output bs F i j ins outs b u0 u1 w k (subst (λ (z : Tree). RefersTo z k) e r) in
              omega (arith, n))
          | inr x ↦ absurd x
        ])
      ]))

  topped0 : (u : Tree) → InLanguage first u → IsTopped b.in_shape u
  topped0 u h =
      let w = see0 u h in
      subst (IsTopped b.in_shape) (sym w.is0) (top0 face F i j ins outs b u some1.0 w)

  topped1 : (u : Tree) → InLanguage second u → IsTopped b.out_shape u
  topped1 u h =
      let w = see1 u h in
      subst (IsTopped b.out_shape) (sym w.is1) (top1 face F i j ins outs b some0.0 u w)

  pub tops : (a : Automaton) (u : Tree) → IsIn a autos → InLanguage a u → (s : ℕ) × IsTopped s u
  tops a u (inl e) h = (b.in_shape, topped0 u (subst (λ (z : Automaton). InLanguage z u) e h))
  tops a u (inr (inl e)) h = (b.out_shape, topped1 u (subst (λ (z : Automaton). InLanguage z u) e h))
  tops a u (inr (inr x)) h = absurd x

  pub structs : (r s v : ℕ) (a : Automaton) (u : Tree) → slice_get (structs_of b.in_shape (Some b.out_shape)) r ≡ Some s
      → slice_get autos r ≡ Some a → InLanguage a u → IsTopped v u → v ≡ s
  structs zero s v a u e k h o =
      top_same u v b.in_shape o (topped0 u (subst (λ (z : Automaton). InLanguage z u) (sym (same_Some first a k)) h))
      ∙ same_Some b.in_shape s e
  structs (suc zero) s v a u e k h o =
      top_same u v b.out_shape o (topped1 u (subst (λ (z : Automaton). InLanguage z u) (sym (same_Some second a k)) h))
      ∙ same_Some b.out_shape s e
  structs (suc (suc r)) s v a u e k h o = absurd (none-some s e)

  signed0 : HasSignatures bs b.input.auto
  signed0 = every_in (HasSignatures bs) F.autos b.input.auto sound.well_formed.signatures in_input

  signed1 : HasSignatures bs b.output.auto
  signed1 = every_in (HasSignatures bs) F.autos b.output.auto sound.well_formed.signatures in_output

  pub covers : PortsCover bs (Some b.out_shape) autos
  covers = (
    (λ u v h k f m. subst (λ (l : List ℕ). IsIn f l)
        (same_covers0 face F i j ins outs b signed0 signed1 u some1.0 (see0 u h) v some1.0 (see0 v k)) m),
    (λ u h. input_some face F i j ins outs b signed0 signed1 u some1.0 (see0 u h)),
    (λ u v h k f m. subst (λ (l : List ℕ). IsIn f l)
        (same_covers1 face F i j ins outs b signed0 signed1 some0.0 u (see1 u h) some0.0 v (see1 v k)) m),
  )

  -- one choice
  abbrev one : List Tree
  one = some0.0 ∷ some1.0 ∷ []

  pub one_seen : Seen some0.0 some1.0
  one_seen = see some0.0 some1.0 (some0.1, (some1.1, tt))

  pub same0 : (ts : List Tree) → Choice autos ts → Rearranged (root_fields bs one 0) (root_fields bs ts 0)
  same0 = by_trees (λ (ts : List Tree). Rearranged (root_fields bs one 0) (root_fields bs ts 0))
      (λ u0 u1 w. same_fields0 face F i j ins outs b signed0 signed1 some0.0 some1.0 one_seen u0 u1 w)

  pub same1 : (ts : List Tree) → Choice autos ts → Rearranged (root_fields bs one 1) (root_fields bs ts 1)
  same1 = by_trees (λ (ts : List Tree). Rearranged (root_fields bs one 1) (root_fields bs ts 1))
      (λ u0 u1 w. same_fields1 face F i j ins outs b signed0 signed1 some0.0 some1.0 one_seen u0 u1 w)

  module _ (trim0 : IsTrim first) (trim1 : IsTrim second) (ranked0 : IsRanked first) (ranked1 : IsRanked second) where
    pub rules : (fields : List (List ℕ)) → length fields ≡ 2 → InsideRulesFit face fields autos
    rules [] e = absurd (omega (arith, e))
    rules (x ∷ []) e = absurd (omega (arith, e))
    rules (x ∷ y ∷ z ∷ zs) e = absurd (omega (arith, e))
    rules (x ∷ y ∷ []) e = (
      port_rules face b.input.auto (every_in _ F.autos b.input.auto sound.well_formed.filled.rules in_input)
          (port_of i j) b.in_shape ins first trim0 ranked0
          (λ u h. (let w = see0 u h in
          (w.c0, w.ds0, w.ps0, in0 F i j ins outs b u some1.0 w, w.is0))),
      (
        port_rules face b.output.auto (every_in _ F.autos b.output.auto sound.well_formed.filled.rules in_output)
            (port_of i j) b.out_shape outs second trim1 ranked1
            (λ u h. (let w = see1 u h in
            (w.c1, w.ds1, w.ps1, in1 F i j ins outs b some0.0 u w, w.is1))),
        tt,
      ),
    )

    -- a face with these structs that gives what the trees show
    module _ (x : BoxFace) (in_is : x.input ≡ b.in_shape) (out_is : x.output ≡ Some b.out_shape)
        (gin : Gives bs autos 0 x.gives_in) (gout : Gives bs autos 1 x.gives_out) where
      structs_x : (out : Option ℕ) → out ≡ Some b.out_shape → (r s v : ℕ) (a : Automaton) (u : Tree)
          → slice_get (structs_of x.input out) r ≡ Some s → slice_get autos r ≡ Some a → InLanguage a u
          → IsTopped v u → v ≡ s
      structs_x out e r s v a u k l h o =
          structs r s v a u (rw (in_is, e) at k) l h o

      pub inside : IsInside face x autos
      inside = record {
        rules = rw out_is (rules (x.gives_in ∷ x.gives_out ∷ []) refl);
        fits = inside_fits face x autos tops (structs_x x.output out_is) (rw out_is covers) (rw out_is right) gin
            (rw out_is gout) refs;
      }

      pub reached : IsBoxTable t → IsReached t.defs x autos
      reached table =
          let g = some_in face F i j ins outs b signed0 signed1 in
          closure_reached t table x autos inside
          (reaches_all bs F i j ins outs b first second see g.0 g.1)

    -- The face.

    abbrev pub shown : BoxFace
    shown = record {
      input = b.in_shape;
      output = Some b.out_shape;
      gives_in = in_order (root_fields bs one 0);
      gives_out = in_order (root_fields bs one 1);
      back = is_some outs;
    }

    gives0 : Gives bs autos 0 shown.gives_in
    gives0 ts c = chain (back (ordered (root_fields bs one 0))) (same0 ts c)

    gives1 : Gives bs autos 1 shown.gives_out
    gives1 ts c = chain (back (ordered (root_fields bs one 1))) (same1 ts c)

    module _ (table : IsBoxTable t) where
      backs : (os : List ℕ) → outs ≡ os → BackHolds t.defs (record shown { back = is_some os }) (Some b.out_shape) autos
      backs [] e = (
        (λ w. absurd (true≢false (sym w))),
        (λ w. closure_nowhere t table shown autos (inside shown refl refl gives0 gives1) b.out_shape refl
            (never_back bs F i j ins outs b first second see e)),
      )
      backs (g ∷ os) e =
          let m : IsIn g outs = subst (λ (l : List ℕ). IsIn g l) (sym e) (inl refl) in (
            (λ w. (
              (λ n. subst (λ (l : List ℕ). IsIn g l) n
                  (in_rearranged g (ordered (root_fields bs one 1))
                  (in_left g (covered_fields bs some1.0) _
                  (output_covers face F i j ins outs b signed0 signed1 g m some0.0 some1.0 one_seen)))),
              closure_up t table shown autos (inside shown refl refl gives0 gives1) b.out_shape refl
                  (always_back bs F i j ins outs b first second see g m),
            )),
            (λ w. absurd (true≢false w)),
          )

      pub has_face : IsFaceOf face t.defs (record { input = b.in_shape; output = Some b.out_shape; autos = autos }) shown
      has_face = record {
        input = refl;
        output = refl;
        gives_in = gives0;
        gives_out = gives1;
        in_order = (
          order_rises (root_fields bs one 0) (once_input face F i j ins outs b some0.0 some1.0 one_seen
              sound.well_formed.filled),
          order_rises (root_fields bs one 1) (once_output face F i j ins outs b some0.0 some1.0 one_seen
              sound.well_formed.filled),
        );
        back = backs outs refl;
      }

      -- the rules of boxes, for any face that its trees show
      pub unbroken : (x : BoxFace) → Every (HaveSignatures bs) autos
          → IsFaceOf face t.defs (record { input = b.in_shape; output = Some b.out_shape; autos = autos }) x
          → IsUnbroken face t.defs (record { input = b.in_shape; output = Some b.out_shape; autos = autos }) x
      unbroken x signs h = record {
        full = full;
        right = right;
        tops = tops;
        structs = structs;
        covers = covers;
        signatures = signs;
        one = h;
        reached = reached x h.input h.output h.gives_in h.gives_out table;
      }
