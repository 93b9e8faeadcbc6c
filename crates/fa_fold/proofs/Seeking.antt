-- Where something can be folded: the box and the roots are there, and places come in an order.
use Rattle.std.proofs.Common.{◌≡◌, ◌<◌, ◌≤◌, inl, inr, ℕ, List, [], ◌∷◌, length, sym, subst, ◌∙◌, Option, Some, None}
use Rattle.std.proofs.Common.{slice_get, IfSome, IsSome, ◌+◌, arith, refl, true≢false}
use Rattle.std.proofs.lemmas.Bool.{cases_lt, cases_order}
use Rattle.std.proofs.lemmas.Option.{slice_get_within}
use Rattle.ta_core.specs.Auto.{Automaton}
use Rattle.fa_core.specs.Boxes.{Boxes}
use Rattle.fa_core.specs.Folding.{ArePortRoots, IsPortRoot, Ports, PortsAre}
use Rattle.fa_core.specs.LeastFolds.{CanFold, OutputUpTo}
use Rattle.fa_core.specs.declared.boxes.BoxDef.{BoxDef}
use Rattle.fa_core.specs.declared.faces.BoxFace.{BoxFace}
use Rattle.fa_core.specs.declared.forest.Forest.{Forest}
use Rattle.fa_fold.specs.Least.{IsLeastSite}
use Rattle.fa_part.specs.Sites.{BoxFits, IsSite, OutputFits}
use Rattle.fa_fold.specs.declared.least.FoldSite.{FoldSite}
use Rattle.fa_fold.specs.inner.Seeking.{CanNotFold, CanNotFoldAt, HasNoEnd, HasOutput, IsLeastAt, IsLeastEnd, IsLeastOf}
use Rattle.fa_fold.proofs.FoldSites.{output_right}

-- a port's root is there
root_low : (autos : List Automaton) (r s : ℕ) (fs : List ℕ) → IsPortRoot autos r s fs → r < length autos
root_low autos r s fs h = slice_get_within autos r h.auto h.there

-- so are the roots of ports
input_low : (bs : List BoxFace) (b : BoxDef) (autos : List Automaton) (i : ℕ) (out : Option ℕ) (ps : Ports)
    (shapes : List ℕ) → PortsAre bs b i out ps shapes → ArePortRoots autos ps shapes
    → (i < length autos) × IfSome out (λ j. j < length autos)
input_low bs b autos i None ps shapes (a, ins, there, fields, ports, none, shaped) roots =
    let one = subst (λ (ss : List ℕ). ArePortRoots autos ((i, ins) ∷ []) ss) shaped
    (subst (λ (qs : Ports). ArePortRoots autos qs shapes) ports roots) in
    (root_low autos i b.face.input ins one.0, tt)
input_low bs b autos i (Some j) ps shapes (a, c, ins, outs, t, there, to, fields, fields_out, ports, some, shaped)
    roots =
    let two = subst (λ (ss : List ℕ). ArePortRoots autos ((i, ins) ∷ ((j, outs) ∷ [])) ss) shaped
    (subst (λ (qs : Ports). ArePortRoots autos qs shapes) ports roots) in
    (root_low autos i b.face.input ins two.0, root_low autos j t outs two.1.0)

-- the box and the roots of what can be folded are there
pub site_of : (T : Boxes) (F : Forest) (n i : ℕ) (out : Option ℕ) → CanFold T F n i out → IsSite T F n i out
site_of T F n i out can =
    let def = can.0 in
    let part = can.2.1 in
    let low = input_low T.face.boxes def F.autos i out part.ports part.shapes part.are_ports part.roots in
    record {
      fits = subst (λ (z : Option BoxDef). BoxFits z out) (sym can.1) (output_right T F n i out def can.1 can);
      input = low.0;
      output = low.1;
    }

module _ (T : Boxes) (F : Forest) (n i : ℕ) where
  -- where the box has an output, one is named
  pub end_named : (o : Option ℕ) → HasOutput (slice_get T.defs n) → CanFold T F n i o → (j : ℕ) × (o ≡ Some j)
  end_named o has can = by (slice_get T.defs n) has (site_of T F n i o can).fits
    where
      by_out : (own : Option ℕ) (q : Option ℕ) → IsSome own → OutputFits own q → (j : ℕ) × (q ≡ Some j)
      by_out None q h fits = absurd (true≢false (sym h))
      by_out (Some t) None h fits = absurd fits
      by_out (Some t) (Some j) h fits = (j, refl)

      by : (z : Option BoxDef) → HasOutput z → BoxFits z o → (j : ℕ) × (o ≡ Some j)
      by None h fits = absurd h
      by (Some b) h fits = by_out b.face.output o h fits

-- Searches from below.

-- what is at none below k, and not at k, is at none up to k
pub none_up_to : (P : ℕ → Type 0) (k : ℕ) → ((j : ℕ) → j < k → P j → ⊥) → (P k → ⊥) → (j : ℕ) → j < k + 1 → P j → ⊥
none_up_to P k below here j l p = elim (cases_order j k) [
  | inl e ↦ here (subst P e p)
  | inr (inl low) ↦ below j low p
  | inr (inr high) ↦ absurd (omega (arith, l, high))
]

-- what is at none below k is at none before it
pub none_before : (P : ℕ → Type 0) (k : ℕ) → ((j : ℕ) → j < k → P j → ⊥) → (j : ℕ) → P j → k ≤ j
none_before P k below j p = elim (cases_lt j k) [
  | inl low ↦ absurd (below j low p)
  | inr high ↦ high
]

module _ (T : Boxes) (F : Forest) (n : ℕ) where
  -- the least place at root k is the least of the box, where there is none at a root below
  pub least_by_roots : (k : ℕ) (x : FoldSite) → ((i : ℕ) → i < k → CanNotFoldAt T F n i) → IsLeastAt T F n k x
      → IsLeastOf T F n x
  least_by_roots k x below s = record {
    box = s.box;
    can = s.can;
    least = λ i o can. elim (cases_order k i) [
      | inl e ↦ inr
          (s.input ∙ e, s.least o (subst (λ (z : ℕ). CanFold T F n z o) (sym e) can))
      | inr (inl low) ↦ inl (subst (λ (z : ℕ). z < i) (sym s.input) low)
      | inr (inr high) ↦ absurd (below i high o can)
    ];
  }

-- the least place of box k is the least of all, where there is none of a box below
pub least_by_boxes : (T : Boxes) (F : Forest) (k : ℕ) (x : FoldSite) → ((n : ℕ) → n < k → CanNotFold T F n)
    → IsLeastOf T F k x → IsLeastSite T F x
least_by_boxes T F k x below s = record {
  can = s.can;
  least = λ n i o can. elim (cases_order k n) [
    | inl e ↦ inr (s.box ∙ e, s.least i o (subst (λ (z : ℕ). CanFold T F z i o) (sym e) can))
    | inr (inl low) ↦ inl (subst (λ (z : ℕ). z < n) (sym s.box) low)
    | inr (inr high) ↦ absurd (below n high i o can)
  ];
}

-- the least output is that of the least place at the root, where the box has an output
pub least_by_end : (T : Boxes) (F : Forest) (n i k : ℕ) → HasOutput (slice_get T.defs n) → IsLeastEnd T F n i k
    → IsLeastAt T F n i (record { box_no = n; input = i; output = Some k })
least_by_end T F n i k has s = record {
  box = refl;
  input = refl;
  can = s.can;
  least = λ o can. let named = end_named T F n i o has can in
      subst (λ (z : Option ℕ). OutputUpTo (Some k) z) (sym named.1)
      (s.least named.0 (subst (λ (z : Option ℕ). CanFold T F n i z) named.1 can));
}

-- where no root is an output, the box can't be folded at the root
pub none_by_end : (T : Boxes) (F : Forest) (n i : ℕ) → HasOutput (slice_get T.defs n) → HasNoEnd T F n i
    → CanNotFoldAt T F n i
none_by_end T F n i has none o can =
    let named = end_named T F n i o has can in
    none named.0 (subst (λ (z : Option ℕ). CanFold T F n i z) named.1 can)

-- the box has an output, if its definition has
pub has_output : (T : Boxes) (n t : ℕ) (b : BoxDef) → slice_get T.defs n ≡ Some b → b.face.output ≡ Some t
    → HasOutput (slice_get T.defs n)
has_output T n t b at some =
    subst HasOutput (sym at) (subst (λ (z : Option ℕ). IsSome z) (sym some) refl)
