-- Of one pair of roots all candidates have one name, one face and the same trees.
use Rattle.std.proofs.Common.{◌≡◌, ◌≢◌, ◌<◌, ◌≤◌, ◌⊎◌, inl, inr, ℕ, zero, suc, Bool, true, false, nat_le, List, [], ◌∷◌, map}
use Rattle.std.proofs.Common.{Option, Some, slice_get, refl, sym, ap, ap₂, subst, ◌∙◌, arith}
use Rattle.std.proofs.lemmas.Bool.{cases_lt, le-leb}
use Rattle.fore_base.specs.Lists.{IsIn, Every, Paired}
use Rattle.fore_base.proofs.ListLemmas.{same_item}
use Rattle.ta_core.specs.Auto.{Automaton, IsRanked}
use Rattle.ta_core.specs.Language.{HasSameLanguage, InLanguage, IsTrim, IsWithin}
use Rattle.ta_core.specs.declared.auto.Rule.{Rule}
use Rattle.ta_core.specs.declared.symbol.Symbol.{Symbol}
use Rattle.ta_core.specs.declared.symbol.Symbol.TheVariants.{Cell as CellSymbol}
use Rattle.ta_core.specs.declared.tree.Tree.{Tree}
use Rattle.fa_core.specs.declared.boxes.BoxDef.{BoxDef}
use Rattle.fa_core.specs.declared.faces.BoxFace.{BoxFace}
use Rattle.fa_core.specs.declared.forest.Forest.{Forest}
use Rattle.fa_core.specs.declared.signature.Signature.{Signature}
use Rattle.fa_core.specs.Boxes.{BackHolds, Boxes, IsBoxTable, names_of}
use Rattle.fa_core.specs.Filled.{Choice, IsSound}
use Rattle.fa_core.specs.Folding.{IsLanguageOf, port_tree}
use Rattle.fa_core.specs.Rearranged.{IsRising, Rearranged, RisesFrom, chain, in_order, insert}
use Rattle.fa_core.specs.Ways.{signature}
use Rattle.fa_core.proofs.Composed.{within_trees}
use Rattle.fa_core.proofs.Sorting.{order_same, ordered}
use Rattle.fa_back.specs.Insides.{AreRankedInsides, IsInside}
use Rattle.fa_back.specs.Reached.{AreSignaturesOf}
use Rattle.fa_back.proofs.InsideLaws.{nowhere_closure, up_closure}
use Rattle.fa_box_rules.specs.Rules.{Inside, IsFaceOf, inside_of}
use Rattle.fa_split.specs.Split.{top_rule}
use Rattle.fa_split.proofs.TopRules.{top_is}
use Rattle.fa_learn.specs.Learning.{AreFieldsTo, HasLearntName, IsBetween, IsBoxBetween, IsCandidate, IsPort, IsSameBox}
use Rattle.fa_learn.specs.Learning.{learnt_name, port_of}
use Rattle.fa_learn.proofs.Betweens.{has_face, inside, is_some, see, shown, some0, some1}
use Rattle.fa_learn.proofs.Candidates.{same_inside}
use Rattle.fa_learn.proofs.PortsReach.{always_back, never_back}

-- Rising numbers.

rises_on : (n : ℕ) (xs : List ℕ) → RisesFrom n xs → IsRising xs
rises_on n [] h = tt
rises_on n (x ∷ xs) h = h.1

above : (n : ℕ) (xs : List ℕ) → RisesFrom n xs → (k : ℕ) → IsIn k xs → n < k
above n [] h k i = absurd i
above n (x ∷ xs) h k (inl e) = let l = h.0 in omega (arith, l, e)
above n (x ∷ xs) h k (inr i) = let l = h.0 in let m = above x xs h.1 k i in omega (arith, l, m)

insert_low : (m : ℕ) (xs : List ℕ) → RisesFrom m xs → insert m xs ≡ m ∷ xs
insert_low m [] h = refl
insert_low m (x ∷ xs) h =
    let l = h.0 in let k : m ≤ x = omega (arith, l) in let e : nat_le m x ≡ true = le-leb m x k in rw e refl

rising_sorted : (xs : List ℕ) → IsRising xs → in_order xs ≡ xs
rising_sorted [] h = refl
rising_sorted (x ∷ xs) h = ap (insert x) (rising_sorted xs (rises_on x xs h)) ∙ insert_low x xs h

-- those in another order are the same
rising_same : (xs ys : List ℕ) → IsRising xs → IsRising ys → Rearranged xs ys → xs ≡ ys
rising_same xs ys h k r = sym (rising_sorted xs h) ∙ order_same r ∙ rising_sorted ys k

first_same : (x y : ℕ) (xs ys : List ℕ) → RisesFrom x xs → RisesFrom y ys → IsIn x (y ∷ ys) → IsIn y (x ∷ xs) → x ≡ y
first_same x y xs ys h k (inl e) j = e
first_same x y xs ys h k (inr i) (inl e) = sym e
first_same x y xs ys h k (inr i) (inr j) =
    let l = above y ys k x i in let m = above x xs h y j in absurd (omega (arith, l, m))

-- and so are those with the same items
items_same : (xs ys : List ℕ) → IsRising xs → IsRising ys → ((k : ℕ) → IsIn k xs → IsIn k ys)
    → ((k : ℕ) → IsIn k ys → IsIn k xs) → xs ≡ ys
items_same [] [] h k f g = refl
items_same [] (y ∷ ys) h k f g = absurd (g y (inl refl))
items_same (x ∷ xs) [] h k f g = absurd (f x (inl refl))
items_same (x ∷ xs) (y ∷ ys) h k f g =
    let e = first_same x y xs ys h k (f x (inl refl)) (g y (inl refl)) in
    ap₂ (λ (z : ℕ) (zs : List ℕ). z ∷ zs) e
    (items_same xs ys (rises_on x xs h) (rises_on y ys k)
    (λ n i. later n y ys (above x xs h n i) e (f n (inr i)))
    (λ n i. later n x xs (above y ys k n i) (sym e) (g n (inr i))))
  where
    later : {m : ℕ} (n z : ℕ) (zs : List ℕ) → m < n → m ≡ z → IsIn n (z ∷ zs) → IsIn n zs
    later n z zs l e (inl d) = absurd (omega (arith, l, e, d))
    later n z zs l e (inr i) = i

-- Faces.

alike : (x y : BoxFace) → x.input ≡ y.input → x.output ≡ y.output → x.gives_in ≡ y.gives_in
    → x.gives_out ≡ y.gives_out → x.back ≡ y.back → x ≡ y
alike x y a b c d e =
    ap₂ (λ (m : ℕ) (o : Option ℕ). record {
      input = m;
      output = o;
      gives_in = x.gives_in;
      gives_out = x.gives_out;
      back = x.back;
    }) a b
    ∙ ap₂ (λ (l m : List ℕ). record {
      input = y.input;
      output = y.output;
      gives_in = l;
      gives_out = m;
      back = x.back;
    }) c d
    ∙ ap (λ (v : Bool). record {
      input = y.input;
      output = y.output;
      gives_in = y.gives_in;
      gives_out = y.gives_out;
      back = v;
    }) e

module _ (t : Boxes) (table : IsBoxTable t) (insides : AreRankedInsides t.defs) (F : Forest) (sound : IsSound t.face F)
    (ranked : Every IsRanked F.autos) (i j : ℕ) (ins outs : List ℕ) (b : IsBetween F i j ins outs)
    (first second : Automaton) (at_input : IsLanguageOf (port_tree (port_of i j) b.in_shape ins) b.input.auto first)
    (at_output : IsLanguageOf (port_tree (port_of i j) b.out_shape outs) b.output.auto second) (trim0 : IsTrim first)
    (trim1 : IsTrim second) (ranked0 : IsRanked first) (ranked1 : IsRanked second) where
  abbrev autos : List Automaton
  autos = first ∷ second ∷ []

  abbrev pub bare_box : Inside
  bare_box = record { input = b.in_shape; output = Some b.out_shape; autos = autos }

  the_face_is : IsFaceOf t.face t.defs bare_box
      (shown t F sound ranked i j ins outs b first second at_input at_output trim0 trim1 ranked0 ranked1)
  the_face_is =
      has_face t F sound ranked i j ins outs b first second at_input at_output trim0 trim1 ranked0 ranked1 table

  module _ (x : BoxFace) (h : IsFaceOf t.face t.defs bare_box x) where
    inner : IsInside t.face x autos
    inner =
        inside t F sound ranked i j ins outs b first second at_input at_output trim0 trim1 ranked0 ranked1 x h.input
        h.output h.gives_in h.gives_out

    signs : (ss : List Signature) × AreSignaturesOf t.face.boxes autos ss
    signs =
        let s0 = some0 t F sound ranked i j ins outs b first second at_input at_output in
        let s1 = some1 t F sound ranked i j ins outs b first second at_input at_output in (
          record { refs = signature t.face.boxes s0.0 } ∷ record { refs = signature t.face.boxes s1.0 } ∷ [],
          record {
            trees = s0.0 ∷ s1.0 ∷ [];
            choice = (s0.1, (s1.1, tt));
            signed = (refl, (refl, tt));
          },
        )

    both : Every IsRanked autos
    both = (ranked0, (ranked1, tt))

    -- it leads back exactly where some field of the output does
    back_is : (os : List ℕ) → outs ≡ os → (v : Bool) → x.back ≡ v → v ≡ is_some os
    back_is [] e false w = refl
    back_is [] e true w =
        absurd
        (never_back t.face.boxes F i j ins outs b first second
        (see t F sound ranked i j ins outs b first second at_input at_output) e signs.0 signs.1
        (up_closure t table x autos inner both insides b.out_shape h.output (h.back.0 w).1 signs.0 signs.1))
    back_is (g ∷ os) e true w = refl
    back_is (g ∷ os) e false w =
        absurd
        (nowhere_closure t table x autos inner both insides b.out_shape h.output (h.back.1 w) signs.0 signs.1
        (always_back t.face.boxes F i j ins outs b first second
        (see t F sound ranked i j ins outs b first second at_input at_output) g
        (subst (λ (l : List ℕ). IsIn g l) (sym e) (inl refl)) signs.0 signs.1))

    -- so it is the one that the trees show
    pub face_is : x
        ≡ shown t F sound ranked i j ins outs b first second at_input at_output trim0 trim1 ranked0 ranked1
    face_is =
        let y = shown t F sound ranked i j ins outs b first second at_input at_output trim0 trim1 ranked0 ranked1 in
        let s0 = some0 t F sound ranked i j ins outs b first second at_input at_output in
        let s1 = some1 t F sound ranked i j ins outs b first second at_input at_output in
        let c : Choice autos (s0.0 ∷ s1.0 ∷ []) = (s0.1, (s1.1, tt)) in
        alike x y h.input h.output
        (rising_same x.gives_in y.gives_in h.in_order.0 the_face_is.in_order.0
        (chain (h.gives_in (s0.0 ∷ s1.0 ∷ []) c) (ordered _)))
        (rising_same x.gives_out y.gives_out h.in_order.1 the_face_is.in_order.1
        (chain (h.gives_out (s0.0 ∷ s1.0 ∷ []) c) (ordered _)))
        (back_is outs refl x.back refl)

-- Two boxes of one pair.

abbrev struct_of : Symbol → ℕ
struct_of (CellSymbol s ds ss) = s
struct_of y = 0

one_struct : (F : Forest) (r s u : ℕ) (p : IsPort F r s) (q : IsPort F r u) → p.auto ≡ q.auto → s ≡ u
one_struct F r s u p q e =
    ap struct_of
    (sym p.symbol ∙ sym (ap (λ (x : Rule). x.symbol) (top_is p.auto p.one))
    ∙ ap (λ (a : Automaton). (top_rule a).symbol) e ∙ ap (λ (x : Rule). x.symbol) (top_is q.auto q.one) ∙ q.symbol)

one_fields : (a c : Automaton) (j : ℕ) (fs gs : List ℕ) → a ≡ c → AreFieldsTo a j fs → AreFieldsTo c j gs → fs ≡ gs
one_fields a c j fs gs e h k =
    let w = subst (λ (z : Automaton). AreFieldsTo z j fs) e h in
    items_same fs gs w.rising k.rising (λ f i. (k.are f).1 ((w.are f).0 i)) (λ f i. (w.are f).1 ((k.are f).0 i))

within : (f : ℕ → ℕ) (a c : Automaton) (s u : ℕ) (fs gs : List ℕ) (x y : Automaton) → a ≡ c → s ≡ u → fs ≡ gs
    → IsLanguageOf (port_tree f s fs) a x → IsLanguageOf (port_tree f u gs) c y → IsWithin x y
within f a c s u fs gs x y d e k h m w i =
    let n = (h w).0 i in
    (m w).1 (
      n.0,
      subst (λ (z : Automaton). InLanguage z n.0) d n.1,
      n.2 ∙ ap₂ (λ (z : ℕ) (l : List ℕ). port_tree f z l n.0) e k,
    )

module _ (F : Forest) (i j : ℕ) (g h : BoxDef) (x : IsBoxBetween F i j g) (y : IsBoxBetween F i j h) where
  autos0 : x.between.input.auto ≡ y.between.input.auto
  autos0 = same_item F.autos i x.between.input.auto y.between.input.auto x.between.input.there y.between.input.there

  autos1 : x.between.output.auto ≡ y.between.output.auto
  autos1 = same_item F.autos j x.between.output.auto y.between.output.auto x.between.output.there y.between.output.there

  shapes0 : x.between.in_shape ≡ y.between.in_shape
  shapes0 = one_struct F i x.between.in_shape y.between.in_shape x.between.input y.between.input autos0

  shapes1 : x.between.out_shape ≡ y.between.out_shape
  shapes1 = one_struct F j x.between.out_shape y.between.out_shape x.between.output y.between.output autos1

  fields0 : x.ins ≡ y.ins
  fields0 = one_fields x.between.input.auto y.between.input.auto j x.ins y.ins autos0 x.between.are_in y.between.are_in

  fields1 : x.outs ≡ y.outs
  fields1 = one_fields x.between.output.auto y.between.output.auto i x.outs y.outs autos1 x.between.are_out
      y.between.are_out

  first_within : IsWithin x.first y.first
  first_within = within (port_of i j) x.between.input.auto y.between.input.auto x.between.in_shape y.between.in_shape
      x.ins y.ins x.first y.first autos0 shapes0 fields0 x.at_input y.at_input

  first_back : IsWithin y.first x.first
  first_back = within (port_of i j) y.between.input.auto x.between.input.auto y.between.in_shape x.between.in_shape
      y.ins x.ins y.first x.first (sym autos0) (sym shapes0) (sym fields0) y.at_input x.at_input

  second_within : IsWithin x.second y.second
  second_within = within (port_of i j) x.between.output.auto y.between.output.auto x.between.out_shape
      y.between.out_shape x.outs y.outs x.second y.second autos1 shapes1 fields1 x.at_output y.at_output

  second_back : IsWithin y.second x.second
  second_back = within (port_of i j) y.between.output.auto x.between.output.auto y.between.out_shape
      x.between.out_shape y.outs x.outs y.second x.second (sym autos1) (sym shapes1) (sym fields1) y.at_output
      x.at_output

  pub same_trees : Paired HasSameLanguage g.inside.autos h.inside.autos
  same_trees =
      subst (λ (l : List Automaton). Paired HasSameLanguage l h.inside.autos) (sym x.autos)
      (subst (λ (l : List Automaton). Paired HasSameLanguage (x.first ∷ x.second ∷ []) l) (sym y.autos)
      ((λ u. (first_within u, first_back u)), ((λ u. (second_within u, second_back u)), tt)))

  module _ (t : Boxes) (table : IsBoxTable t) (insides : AreRankedInsides t.defs) (sound : IsSound t.face F)
      (ranked : Every IsRanked F.autos) where
    abbrev box_of : (k : BoxDef) → IsBoxBetween F i j k → Inside
    box_of k z = record {
      input = z.between.in_shape;
      output = Some z.between.out_shape;
      autos = z.first ∷ z.second ∷ [];
    }

    choice_over : (ts : List Tree) → Choice (x.first ∷ x.second ∷ []) ts → Choice (y.first ∷ y.second ∷ []) ts
    choice_over [] c = absurd c
    choice_over (u0 ∷ []) c = absurd c.1
    choice_over (u0 ∷ u1 ∷ []) c = (first_within u0 c.0, (second_within u1 c.1.0, tt))
    choice_over (u0 ∷ u1 ∷ u2 ∷ ts) c = absurd c.1.1

    both_within : Paired IsWithin (x.first ∷ x.second ∷ []) (y.first ∷ y.second ∷ [])
    both_within = (first_within, (second_within, tt))

    -- a face of the one is a face of the other
    face_over : (z : BoxFace) → IsFaceOf t.face t.defs (box_of h y) z → IsFaceOf t.face t.defs (box_of g x) z
    face_over z k = record {
      input = k.input ∙ sym shapes0;
      output = k.output ∙ ap (λ (n : ℕ). Some n) (sym shapes1);
      gives_in = λ ts c. k.gives_in ts (choice_over ts c);
      gives_out = λ ts c. k.gives_out ts (choice_over ts c);
      in_order = k.in_order;
      back = (
        (λ w. ((k.back.0 w).0, (λ d of. (k.back.0 w).1 d (within_trees t.defs _ _ both_within d of)))),
        (λ w d of. k.back.1 w d (within_trees t.defs _ _ both_within d of)),
      );
    }

    face_of_box : (z : BoxFace) → IsFaceOf t.face t.defs (box_of g x) z → z
        ≡ shown t F sound ranked i j x.ins x.outs x.between x.first x.second x.at_input x.at_output
        (subst (λ (l : List Automaton). Every IsTrim l) x.autos x.trim).0
        (subst (λ (l : List Automaton). Every IsTrim l) x.autos x.trim).1.0
        (subst (λ (l : List Automaton). Every IsRanked l) x.autos x.ranked).0
        (subst (λ (l : List Automaton). Every IsRanked l) x.autos x.ranked).1.0
    face_of_box z k =
        let trim = subst (λ (l : List Automaton). Every IsTrim l) x.autos x.trim in
        let rank = subst (λ (l : List Automaton). Every IsRanked l) x.autos x.ranked in
        face_is t table insides F sound ranked i j x.ins x.outs x.between x.first x.second x.at_input x.at_output trim.0
        trim.1.0 rank.0 rank.1.0 z k

    pub same_face : IsFaceOf t.face t.defs (inside_of g) g.face → IsFaceOf t.face t.defs (inside_of h) h.face
        → g.face ≡ h.face
    same_face k m =
        face_of_box g.face
        (subst (λ (b : Inside). IsFaceOf t.face t.defs b g.face) (same_inside t table F sound ranked i j g x) k)
        ∙ sym (face_of_box h.face (face_over h.face
        (subst (λ (b : Inside). IsFaceOf t.face t.defs b h.face) (same_inside t table F sound ranked i j h y) m)))

-- Names.

one_name : (t : Boxes) (g h : BoxDef) → HasLearntName t g → HasLearntName t h → g.name ≡ h.name
one_name t g h x y = elim (cases_lt x.number y.number) [
  | inl l ↦ absurd (x.new (subst (λ (n : List ℕ). IsIn n (names_of t.defs)) (sym x.name) (y.least x.number l)))
  | inr l ↦ elim (cases_lt y.number x.number) [
    | inl m ↦ absurd (y.new (subst (λ (n : List ℕ). IsIn n (names_of t.defs)) (sym y.name) (x.least y.number m)))
    | inr m ↦ (let e : x.number ≡ y.number = omega (arith, l, m) in x.name ∙ ap learnt_name e ∙ sym y.name)
  ]
]

-- the law
pub one_candidate : (t : Boxes) → IsBoxTable t → AreRankedInsides t.defs → (F : Forest) → IsSound t.face F
    → Every IsRanked F.autos → (i j : ℕ) (g h : BoxDef) → IsCandidate t F i j g → IsCandidate t F i j h
    → (g.name ≡ h.name) × IsSameBox g h
one_candidate t table insides F sound ranked i j g h x y = (
  one_name t g h x.named y.named,
  record {
    face = same_face F i j g h x.is y.is t table insides sound ranked x.face y.face;
    trees = same_trees F i j g h x.is y.is;
  },
)

-- and each box of what stands between two roots has a face
pub some_face : (t : Boxes) → IsBoxTable t → (F : Forest) → IsSound t.face F → Every IsRanked F.autos → (i j : ℕ)
    (g : BoxDef) → IsBoxBetween F i j g → (x : BoxFace) × IsFaceOf t.face t.defs (inside_of g) x
some_face t table F sound ranked i j g h =
    let trim = subst (λ (l : List Automaton). Every IsTrim l) h.autos h.trim in
    let rank = subst (λ (l : List Automaton). Every IsRanked l) h.autos h.ranked in
    let x = has_face t F sound ranked i j h.ins h.outs h.between h.first h.second h.at_input h.at_output trim.0 trim.1.0
    rank.0 rank.1.0 table in (
      shown t F sound ranked i j h.ins h.outs h.between h.first h.second h.at_input h.at_output trim.0 trim.1.0 rank.0
          rank.1.0,
      subst (λ (b : Inside). IsFaceOf t.face t.defs b
          (shown t F sound ranked i j h.ins h.outs h.between h.first h.second h.at_input h.at_output trim.0 trim.1.0
          rank.0 rank.1.0)) (sym (same_inside t table F sound ranked i j g h)) x,
    )
