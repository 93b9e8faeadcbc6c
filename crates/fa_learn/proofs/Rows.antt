-- Worked values of what a candidate is, each made by hand from two cells of a doubly linked list, and what is none.
use Rattle.std.proofs.Common.{◌≡◌, inl, inr, ℕ, zero, suc, true, false, true≢false, List, [], ◌∷◌, ◌++◌, length, Some, refl, sym, ap}
use Rattle.std.proofs.Common.{subst, ◌∙◌, slice_get, arith}
use Rattle.std.proofs.Common.{Bool, nat_eq}
use Rattle.std.proofs.lemmas.Bool.{eqb-true, eq-eqb}
use Rattle.std.proofs.lemmas.Fmt.{decimal_digit, decimal_step}
use Rattle.std.proofs.lemmas.Option.{none-some, same_Some}
use Rattle.std.specs.Prelude.{codes}
use Rattle.fore_base.specs.Lists.{IsIn}
use Rattle.ta_core.specs.Language.{InLanguage}
use Rattle.ta_core.specs.Single.{HasOneTop}
use Rattle.ta_core.specs.declared.auto.Rule.{Rule}
use Rattle.ta_core.specs.declared.symbol.Slot.TheVariants.{Field}
use Rattle.ta_core.specs.declared.symbol.Symbol.TheVariants.{Ref, Cell}
use Rattle.ta_core.specs.declared.tree.Tree.{Tree}
use Rattle.fa_core.specs.declared.boxes.BoxDef.{BoxDef}
use Rattle.fa_core.specs.declared.faces.BoxFace.{BoxFace}
use Rattle.fa_core.specs.declared.forest.Forest.{Forest}
use Rattle.fa_core.specs.declared.forest.Target.TheVariants.{Null as NullTarget, At}
use Rattle.fa_core.specs.Boxes.{Boxes}
use Rattle.fa_core.specs.Dressed.{Parts, node, no_parts, field, link, under, leaf, no_nodes, refs_of}
use Rattle.fa_core.specs.Member.{bare}
use Rattle.fa_core.proofs.RowsBoxes.{port, port_node, port_runs, port_single}
use Rattle.fa_core.proofs.RowsCanonical.{rule}
use Rattle.fa_core.proofs.SingleTrees.{single_tree}
use Rattle.fa_folding.specs.Folded.{taken_parts}
use Rattle.fa_learn.specs.Learning.{AreFieldsTo, ComesBefore, HasLearntName, IsBetween, IsCandidate, IsPort, IsSameBox, LeadsTo}
use Rattle.fa_learn.specs.Learning.{field_refs, learnt_name, port_of, with_box}
use Rattle.fa_learn.proofs.LeadFields.{field_refs_are}

-- What is under a field.

-- a cell with next to root 1, and null before
abbrev first : Parts
first = field 0 (leaf (At 1)) (field 1 (leaf NullTarget) no_parts)

under_next : field_refs 0 (bare (node 0 0 [] first)) ≡ 1 ∷ []
under_next = field_refs_are 0 0 [] first 0

under_null : field_refs 1 (bare (node 0 0 [] first)) ≡ []
under_null = field_refs_are 0 0 [] first 1

no_such_field : field_refs 2 (bare (node 0 0 [] first)) ≡ []
no_such_field = field_refs_are 0 0 [] first 2

-- what stands deeper counts, in the order of a walk
abbrev deep : Parts
deep = field 0 (under (node 1 0 [] (field 0 (leaf (At 1)) (field 1 (leaf (At 0)) no_parts)))) no_parts

under_deep : field_refs 0 (bare (node 0 0 [] deep)) ≡ 1 ∷ 0 ∷ []
under_deep = field_refs_are 0 0 [] deep 0

-- a box edge that covers the field is no slot of the field's own
abbrev linked : Parts
linked = link 0 no_nodes (leaf (At 1)) no_parts

under_link : field_refs 0 (bare (node 0 0 [] linked)) ≡ []
under_link = field_refs_are 0 0 [] linked 0

-- What leads from a root to another.

only : (f r : ℕ) (t : Tree) → InLanguage (port f r) t → bare (port_node 0 f r) ≡ t
only f r t h = single_tree (port f r) (bare (port_node 0 f r)) t (port_single f r) (port_runs 0 f r) h

refs_at : (g f r : ℕ) (t : Tree) → InLanguage (port f r) t
    → field_refs g t ≡ refs_of (taken_parts (g ∷ []) (field f (leaf (At r)) no_parts))
refs_at g f r t h = ap (field_refs g) (sym (only f r t h)) ∙ field_refs_are 0 0 [] (field f (leaf (At r)) no_parts) g

next_leads : LeadsTo (port 0 1) 1 0
next_leads t h =
    let e : field_refs 0 t ≡ 1 ∷ [] = refs_at 0 0 1 t h in
    rw e (inl refl, (λ k i. elim i [ inl d ↦ d | inr n ↦ absurd n ]))

-- not to another root, nor from another field
next_leads_there_alone : LeadsTo (port 0 1) 2 0 → ⊥
next_leads_there_alone h =
    let e : field_refs 0 (bare (port_node 0 0 1)) ≡ 1 ∷ [] = refs_at 0 0 1 _ (port_runs 0 0 1) in
    let w = (h (bare (port_node 0 0 1)) (port_runs 0 0 1)).0 in
    elim (rw e at w) [ inl d ↦ omega (arith, d) | inr n ↦ n ]

prev_is_not_there : LeadsTo (port 0 1) 1 1 → ⊥
prev_is_not_there h =
    let e : field_refs 1 (bare (port_node 0 0 1)) ≡ [] = refs_at 1 0 1 _ (port_runs 0 0 1) in
    rw e at (h (bare (port_node 0 0 1)) (port_runs 0 0 1)).0

-- Names.

name_zero : learnt_name 0 ≡ codes "learn" ++ 48 ∷ []
name_zero = ap (λ (l : List ℕ). codes "learn" ++ l) (decimal_digit 0 (omega arith))

name_twelve : learnt_name 12 ≡ codes "learn" ++ 49 ∷ 50 ∷ []
name_twelve = ap (λ (l : List ℕ). codes "learn" ++ l)
    (decimal_step 12 (omega arith) (omega arith)
    ∙ ap (λ (l : List ℕ). l ++ 50 ∷ []) (decimal_digit 1 (omega arith)))

-- Orders.

lower_input_first : ComesBefore 0 9 1 0
lower_input_first = inl (omega arith)

lower_output_then : ComesBefore 1 0 1 9
lower_output_then = inr (refl, omega arith)

not_by_output_alone : ComesBefore 1 0 0 9 → ⊥
not_by_output_alone (inl l) = omega (arith, l)
not_by_output_alone (inr e) = let d = e.0 in omega (arith, d)

not_itself : ComesBefore 1 2 1 2 → ⊥
not_itself (inl l) = omega (arith, l)
not_itself (inr e) = let l = e.1 in omega (arith, l)

-- Numbers of ports.

to_input : port_of 4 7 4 ≡ 0
to_input = refl

to_output : port_of 4 7 7 ≡ 1
to_output = refl

-- What stands between two roots.

-- two cells that lead to each other: the first by prev, the second by next
abbrev two : Forest
two = record { autos = port 1 1 ∷ port 0 0 ∷ []; vars = []; data_vars = [] }

abbrev port_top : (f r : ℕ) → HasOneTop (port f r)
port_top f r = record {
  root = 0;
  alone = refl;
  place = 0;
  rule = rule 0 (Cell 0 [] (Field f ∷ [])) (1 ∷ []);
  there = refl;
  top = refl;
  only = first_alone;
}
  where
    first_alone : (i : ℕ) (r2 : Rule) → slice_get (port f r).rules i ≡ Some r2 → r2.state ≡ 0 → i ≡ 0
    first_alone zero o e s = refl
    first_alone (suc zero) o e s =
        let d : 1 ≡ o.state = ap (λ (z : Rule). z.state) (same_Some (rule 1 (Ref r) []) o e) in
        absurd (omega (arith, d, s))
    first_alone (suc (suc i)) o e s = absurd (none-some o e)

abbrev at_port : (F : Forest) (i f r : ℕ) → slice_get F.autos i ≡ Some (port f r) → IsPort F i 0
at_port F i f r e = record {
  auto = port f r;
  there = e;
  one = port_top f r;
  datums = [];
  slots = Field f ∷ [];
  symbol = refl;
}

fields_there : (f r : ℕ) → AreFieldsTo (port f r) r (f ∷ [])
fields_there f r = record {
  rising = tt;
  are = λ g. (
    (λ i. elim i [
      | inl e ↦ subst (LeadsTo (port f r) r) (sym e) (λ t h. leads t h (refs_at f f r t h))
      | inr n ↦ absurd n
    ]),
    (λ h. here g (nat_eq f g) refl (subst (λ (l : List ℕ). IsIn r l) (refs_at g f r _ (port_runs 0 f r))
        (h (bare (port_node 0 f r)) (port_runs 0 f r)).0)),
  );
}
  where
    leads : (t : Tree) → InLanguage (port f r) t
        → field_refs f t ≡ refs_of (taken_parts (f ∷ []) (field f (leaf (At r)) no_parts))
        → IsIn r (field_refs f t) × ((k : ℕ) → IsIn k (field_refs f t) → k ≡ r)
    leads t h e =
        let s : nat_eq f f ≡ true = eq-eqb f f refl in
        let d : field_refs f t ≡ r ∷ [] = rw s at e in
        rw d (inl refl, (λ k i. elim i [ inl x ↦ x | inr n ↦ absurd n ]))

    here : (g : ℕ) (b : Bool) → nat_eq f g ≡ b
        → IsIn r (refs_of (taken_parts (g ∷ []) (field f (leaf (At r)) no_parts))) → IsIn g (f ∷ [])
    here g true e i = inl (sym (eqb-true f g e))
    here g false e i = absurd (rw e at i)

next_fields : AreFieldsTo (port 0 1) 1 (0 ∷ [])
next_fields = fields_there 0 1

between_both : IsBetween two 0 1 (1 ∷ []) (0 ∷ [])
between_both = record {
  differ = λ e. omega (arith, e);
  in_shape = 0;
  out_shape = 0;
  input = at_port two 0 1 1 refl;
  output = at_port two 1 0 0 refl;
  are_in = fields_there 1 1;
  are_out = fields_there 0 0;
  some = λ e. (let n = ap (λ (l : List ℕ). length l) e in omega (arith, n));
  enough = inl (λ e. (let n = ap (λ (l : List ℕ). length l) e in omega (arith, n)));
}

-- a root is in no pair with itself
not_with_itself : (F : Forest) (i : ℕ) (ins outs : List ℕ) → IsBetween F i i ins outs → ⊥
not_with_itself F i ins outs h = h.differ refl

-- one field one way is too little, and none is nothing
too_little : (F : Forest) (i j f : ℕ) → IsBetween F i j (f ∷ []) [] → ⊥
too_little F i j f h = elim h.enough [ inl n ↦ n refl | inr l ↦ omega (arith, l) ]

nothing : (F : Forest) (i j : ℕ) (outs : List ℕ) → IsBetween F i j [] outs → ⊥
nothing F i j outs h = h.some refl

-- Boxes.

abbrev face_of_two : BoxFace
face_of_two = record { input = 0; output = Some 0; gives_in = 1 ∷ []; gives_out = 0 ∷ []; back = true }

-- what is between two cells of a doubly linked list, from the side of its end
abbrev between_two : List ℕ → BoxDef
between_two name = record {
  name = name;
  face = face_of_two;
  inside = record { autos = port 1 1 ∷ port 0 0 ∷ []; vars = []; data_vars = [] };
}

-- the name of a box is no part of what it is
same_but_for_the_name : (n m : List ℕ) → IsSameBox (between_two n) (between_two m)
same_but_for_the_name n m = record {
  face = refl;
  trees = ((λ t. ((λ h. h), (λ h. h))), ((λ t. ((λ h. h), (λ h. h))), tt));
}

-- its face is
other_face : (n : List ℕ) → IsSameBox (between_two n) (record (between_two n) { face = record face_of_two { back = false } })
    → ⊥
other_face n h = true≢false (ap (λ (x : BoxFace). x.back) h.face)

-- a box that the table has, under whatever name, is no candidate
module _ (t : Boxes) (F : Forest) (i j : ℕ) (n m : List ℕ) where
  abbrev having : Boxes
  having = record t { defs = between_two m ∷ [] }

  there_already : IsCandidate having F i j (between_two n) → ⊥
  there_already h = h.other (between_two m) (inl refl) (same_but_for_the_name n m)

-- the box comes last
last_box : (t : Boxes) (n m : List ℕ) → t.defs ≡ between_two m ∷ [] → (with_box t (between_two n)).defs
    ≡ between_two m ∷ between_two n ∷ []
last_box t n m e = ap (λ (l : List BoxDef). l ++ between_two n ∷ []) e

-- the first name that the table has not
abbrev named : List ℕ → Boxes → Boxes
named n t = record t { defs = between_two n ∷ [] }

zero_is_free : (t : Boxes) → HasLearntName (named (codes "dll") t) (between_two (learnt_name 0))
zero_is_free t = record {
  number = 0;
  name = refl;
  new = λ i. elim i [ inl e ↦ differ (sym name_zero ∙ e) | inr n ↦ n ];
  least = λ k l. absurd (omega (arith, l));
}
  where
    differ : codes "learn" ++ 48 ∷ [] ≡ codes "dll" → ⊥
    differ e = let n = ap (λ (l : List ℕ). length l) e in omega (arith, n)

zero_is_taken : (t : Boxes) → HasLearntName (named (learnt_name 0) t) (between_two (learnt_name 0)) → ⊥
zero_is_taken t h = h.new (inl refl)

-- a later name is not taken before the first
one_is_not_first : (t : Boxes) (h : HasLearntName (named (codes "dll") t) (between_two (learnt_name 1))) → h.number ≡ 1 → ⊥
one_is_not_first t h e =
    elim (h.least 0 (omega (arith, e))) [ inl d ↦ differ (sym name_zero ∙ d) | inr n ↦ n ]
  where
    differ : codes "learn" ++ 48 ∷ [] ≡ codes "dll" → ⊥
    differ e = let n = ap (λ (l : List ℕ). length l) e in omega (arith, n)
