-- Worked values of the definitions.
use Rattle.std.proofs.Common.{◌≡◌, inl, inr, ℕ, Bool, true, false, true≢false, List, [], ◌∷◌, map, Some, refl, sym, ap}
use Rattle.std.proofs.Common.{ap₂, subst, ◌∙◌, arith}
use Rattle.fore_base.specs.Lists.{IsIn}
use Rattle.ta_core.specs.Auto.{Automaton}
use Rattle.ta_core.specs.Language.{RunOf, run, RunEach, run_none, run_more}
use Rattle.ta_core.specs.declared.auto.Rule.{Rule}
use Rattle.ta_core.specs.declared.symbol.Slot.TheVariants.{Field, Link, Hook}
use Rattle.ta_core.specs.declared.symbol.Symbol.{Symbol}
use Rattle.ta_core.specs.declared.symbol.Symbol.TheVariants.{Null, Ref, Cell}
use Rattle.ta_core.specs.declared.tree.Tree.{Tree, Tree-F, out-Tree, roll-Tree, out-roll-Tree}
use Rattle.fa_core.specs.declared.faces.BoxFace.{BoxFace}
use Rattle.fa_core.specs.declared.signature.Below.{Below}
use Rattle.fa_core.specs.declared.signature.RefMark.{RefMark}
use Rattle.fa_core.specs.Cells.{is_leaf, below_of, leaf_mark, marks_by}
use Rattle.fa_core.specs.Ways.{signature}
use Rattle.fa_core.proofs.CellMarks.{tree_signature}
use Rattle.fa_signatures.specs.CutPieces.{seen, CutsState, CutsStates, IsPiece, ShareSignature, AreApart}
use Rattle.fa_signatures.specs.inner.CutPairs.{seen_over}
use Rattle.fa_signatures.specs.inner.CutProducts.{product}
use Rattle.fa_signatures.specs.inner.Telling.{tells, told_states}

-- Products

one_of_two_and_one : product {X = ℕ} ((1 ∷ 2 ∷ []) ∷ (3 ∷ []) ∷ []) ≡ (1 ∷ 3 ∷ []) ∷ (2 ∷ 3 ∷ []) ∷ []
one_of_two_and_one = refl

one_of_nothing : product {X = ℕ} [] ≡ [] ∷ []
one_of_nothing = refl

one_of_none : product {X = ℕ} ((1 ∷ 2 ∷ []) ∷ [] ∷ []) ≡ []
one_of_none = refl

-- Items that are apart

abbrev Same : ℕ → ℕ → Type 0
Same x y = x ≡ y

different_numbers : AreApart Same (1 ∷ 2 ∷ [])
different_numbers = (((λ e. absurd (omega (arith, e))), tt), (tt, tt))

-- the first and the last are equal
equal_numbers : AreApart Same (1 ∷ 2 ∷ 1 ∷ []) → ⊥
equal_numbers h = h.0.1.0 refl

-- Boxes: one that leads back and gives its output a field, one that does neither, and one for each of the two

abbrev box : List ℕ → Bool → BoxFace
box out back = record { input = 0; output = Some 0; gives_in = 0 ∷ []; gives_out = out; back = back }

abbrev faces : List BoxFace
faces = box (1 ∷ []) true ∷ box [] false ∷ box [] true ∷ box (1 ∷ []) false ∷ []

-- a leaf is told from a cell by each of these but the one that does neither; a box that is not there, a field and a
-- hook tell nothing
slots_that_tell : map (tells faces)
    (Link 0 ∷ Link 1 ∷ Link 2 ∷ Link 3 ∷ Link 4 ∷ Field 0 ∷ Hook 0 ∷ []) ≡ true ∷ false ∷ true ∷ true ∷ false ∷ false
    ∷ false ∷ []
slots_that_tell = refl

-- a hook has no child
told_below_links : told_states faces
    (record { state = 9; symbol = Cell 0 [] (Field 2 ∷ Hook 0 ∷ Link 0 ∷ Link 1 ∷ []); children = 5 ∷ 6 ∷ 7 ∷ [] }
    ∷ record { state = 9; symbol = Ref 3; children = [] }
    ∷ record { state = 4; symbol = Cell 0 [] (Link 3 ∷ []); children = 8 ∷ [] } ∷ []) ≡ 6 ∷ 8 ∷ []
told_below_links = refl

-- what is seen of trees with one mark, that of root 3
abbrev marked : Bool → Below
marked leaf = record { leaf = leaf; marks = leaf_mark 3 ∷ [] }

-- a leaf of a state is seen to be one where the state's leaves are told from cells
told_leaf : seen_over faces (7 ∷ 4 ∷ []) [] (record { state = 4; symbol = Ref 3; children = [] }) [] ≡ marked true
told_leaf = refl

other_leaf : seen_over faces (7 ∷ []) [] (record { state = 4; symbol = Ref 3; children = [] }) [] ≡ marked false
other_leaf = refl

-- a leaf below the link is given the field, and the way back is open; a cell of the same signature is another matter
over_leaf : seen_over faces (4 ∷ []) ((4, marked false) ∷ (4, marked true) ∷ [])
    (record { state = 5; symbol = Cell 0 [] (Link 0 ∷ []); children = 4 ∷ [] }) (1 ∷ [])
    ≡ record {
      leaf = false;
      marks = record { root = 3; many = false; provided = 1 ∷ []; back = true; reach = 3 ∷ [] }
          ∷ [];
    }
over_leaf = refl

over_cell : seen_over faces (4 ∷ []) ((4, marked false) ∷ (4, marked true) ∷ [])
    (record { state = 5; symbol = Cell 0 [] (Link 0 ∷ []); children = 4 ∷ [] }) (0 ∷ []) ≡ marked false
over_cell = refl

-- Pieces: of the two leaves, one that refers to root 3 and null, each alone is a piece, and both together are none

abbrev rule : Symbol → Rule
rule y = record { state = 0; symbol = y; children = [] }

abbrev both : Automaton
both = record { states = 1; roots = 0 ∷ []; rules = rule (Ref 3) ∷ rule Null ∷ [] }

abbrev reference : Automaton
reference = record { states = 1; roots = 0 ∷ []; rules = rule (Ref 3) ∷ [] }

-- root 3, or a cell over such a tree: one signature
abbrev cell : Symbol
cell = Cell 0 [] (Field 0 ∷ [])

abbrev chain : Automaton
chain = record {
  states = 1;
  roots = 0 ∷ [];
  rules = rule (Ref 3) ∷ record { state = 0; symbol = cell; children = 0 ∷ [] } ∷ [];
}

abbrev leaf : Symbol → Tree
leaf y = roll-Tree (record { symbol = y; children = [] })

leaf_top : (y : Symbol) → y ≡ (out-Tree (leaf y)).symbol
leaf_top y = rw (out-roll-Tree (record { symbol = y; children = [] })) refl

abbrev one_cell : Tree
one_cell = roll-Tree (record { symbol = cell; children = leaf (Ref 3) ∷ [] })

cell_top : (out-Tree one_cell).symbol ≡ cell
cell_top = rw (out-roll-Tree (record { symbol = cell; children = leaf (Ref 3) ∷ [] })) refl

leaf_run : (rules : List Rule) (y : Symbol) → IsIn (rule y) rules → RunOf rules 0 (leaf y)
leaf_run rules y i = run (rule y) i refl (leaf_top y)
    (rw (out-roll-Tree (record { symbol = y; children = [] })) run_none)

cell_run : RunOf chain.rules 0 one_cell
cell_run = run (record { state = 0; symbol = cell; children = 0 ∷ [] }) (inr (inl refl)) refl (sym cell_top)
    (rw (out-roll-Tree (record { symbol = cell; children = leaf (Ref 3) ∷ [] }))
    (run_more (leaf_run chain.rules (Ref 3) (inl refl)) run_none))

no_reference : RunOf reference.rules 0 one_cell → ⊥
no_reference (run r (inl i) e s k) =
    let other : Ref 3 ≡ cell = sym (ap (λ (o : Rule). o.symbol) i) ∙ s ∙ cell_top in
    true≢false (ap (λ (y : Symbol). is_leaf y) other)
no_reference (run r (inr i) e s k) = absurd i

-- a rule of a leaf is the same over other rules
no_children : (rules others : List Rule) (qs : List ℕ) (ts : List Tree) → qs ≡ [] → RunEach rules qs ts
    → RunEach others qs ts
no_children rules others qs ts e run_none = run_none
no_children rules others qs ts e (run_more a b) = absurd cc

module _ (bs : List BoxFace) where
  signature_of : (t : Tree) (y : Symbol) → y ≡ (out-Tree t).symbol
      → signature bs t ≡ marks_by bs y (map (below_of bs) (out-Tree t).children)
  signature_of t y e = tree_signature bs t
      ∙ ap (λ (z : Symbol). marks_by bs z (map (below_of bs) (out-Tree t).children)) (sym e)

  -- a leaf that refers to root 3 has its mark, and null has none
  reference_marks : signature bs (leaf (Ref 3)) ≡ leaf_mark 3 ∷ []
  reference_marks = signature_of (leaf (Ref 3)) (Ref 3) (leaf_top (Ref 3))

  null_marks : signature bs (leaf Null) ≡ []
  null_marks = signature_of (leaf Null) Null (leaf_top Null)

  -- the trees of the one state are those of the other of which the mark of root 3 is seen
  the_reference : CutsState bs both 0 false (marked false) reference 0
  the_reference t = (λ r. refers r, λ w. is_reference w.0 (ap (λ (x : Below). x.marks) w.1))
    where
      refers : RunOf reference.rules 0 t → RunOf both.rules 0 t × (seen bs false t ≡ marked false)
      refers (run r (inl i) e s k) = (
        run r (inl i) e s
            (no_children reference.rules both.rules r.children (out-Tree t).children (ap (λ (o : Rule). o.children) i)
            k),
        ap (λ (m : List RefMark). record { leaf = false; marks = m })
            (signature_of t (Ref 3) (sym (ap (λ (o : Rule). o.symbol) i) ∙ s)),
      )
      refers (run r (inr i) e s k) = absurd i

      is_reference : RunOf both.rules 0 t → signature bs t ≡ leaf_mark 3 ∷ [] → RunOf reference.rules 0 t
      is_reference (run r (inl i) e s k) m =
          run r (inl i) e s
          (no_children both.rules reference.rules r.children (out-Tree t).children (ap (λ (o : Rule). o.children) i) k)
      is_reference (run r (inr (inl i)) e s k) m =
          let none : [] ≡ leaf_mark 3 ∷ [] = sym (signature_of t Null (sym (ap (λ (o : Rule). o.symbol) i) ∙ s)) ∙ m in
          cc
      is_reference (run r (inr (inr i)) e s k) m = absurd i

  -- so they are those of a chain that are leaves, where leaves are told from cells
  the_leaf : CutsState bs chain 0 true (marked true) reference 0
  the_leaf t = (λ r. is_told r, λ w. is_alone w.0 (ap (λ (x : Below). x.leaf) w.1))
    where
      is_told : RunOf reference.rules 0 t → RunOf chain.rules 0 t × (seen bs true t ≡ marked true)
      is_told (run r (inl i) e s k) =
          let top : Ref 3 ≡ (out-Tree t).symbol = sym (ap (λ (o : Rule). o.symbol) i) ∙ s in (
            run r (inl i) e s
                (no_children reference.rules chain.rules r.children (out-Tree t).children
                (ap (λ (o : Rule). o.children) i) k),
            ap₂ (λ (l : Bool) (m : List RefMark). record { leaf = l; marks = m })
                (ap (λ (y : Symbol). is_leaf y) (sym top)) (signature_of t (Ref 3) top),
          )
      is_told (run r (inr i) e s k) = absurd i

      is_alone : RunOf chain.rules 0 t → is_leaf (out-Tree t).symbol ≡ true → RunOf reference.rules 0 t
      is_alone (run r (inl i) e s k) l =
          run r (inl i) e s
          (no_children chain.rules reference.rules r.children (out-Tree t).children (ap (λ (o : Rule). o.children) i) k)
      is_alone (run r (inr (inl i)) e s k) l =
          let top : cell ≡ (out-Tree t).symbol = sym (ap (λ (o : Rule). o.symbol) i) ∙ s in
          absurd (true≢false (sym l ∙ ap (λ (y : Symbol). is_leaf y) (sym top)))
      is_alone (run r (inr (inr i)) e s k) l = absurd i

  below_leaf : below_of bs (leaf (Ref 3)) ≡ marked true
  below_leaf = ap₂ (λ (l : Bool) (m : List RefMark). record { leaf = l; marks = m })
      (ap (λ (y : Symbol). is_leaf y) (sym (leaf_top (Ref 3)))) reference_marks

  cell_marked : signature bs one_cell ≡ leaf_mark 3 ∷ []
  cell_marked = tree_signature bs one_cell
      ∙ ap (λ (o : Tree-F Tree). marks_by bs o.symbol (map (below_of bs) o.children))
      (out-roll-Tree (record { symbol = cell; children = leaf (Ref 3) ∷ [] }))
      ∙ ap (λ (x : Below). marks_by bs cell (x ∷ [])) below_leaf

  -- without box edges they are not told, and the leaves of a chain alone cut no state of it
  no_leaves_alone : CutsStates bs chain reference → ⊥
  no_leaves_alone h =
      let w = h 0 (omega arith) in
      let first : w.0 ≡ 0 = omega (arith, w.3) in
      let plain = w.4 (tt, ((tt, tt), tt)) in
      let cuts : CutsState bs chain 0 false w.2 reference 0 =
      subst (λ (q : ℕ). CutsState bs chain q false w.2 reference 0) first
      (subst (λ (b : Bool). CutsState bs chain w.0 b w.2 reference 0) plain w.5) in
      let x = ((cuts (leaf (Ref 3))).0 (leaf_run reference.rules (Ref 3) (inl refl))).1 in
      let same : seen bs false one_cell ≡ w.2 =
      ap (λ (m : List RefMark). record { leaf = false; marks = m }) (cell_marked ∙ sym reference_marks) ∙ x in
      no_reference ((cuts one_cell).1 (cell_run, same))

  -- both leaves together are no piece: they have two signatures
  no_piece : IsPiece bs both both → ⊥
  no_piece p =
      let x = ((p.1.trees (leaf (Ref 3))).0 (0, inl refl, leaf_run both.rules (Ref 3) (inl refl))).1 in
      let y = ((p.1.trees (leaf Null)).0 (0, inl refl, leaf_run both.rules Null (inr (inl refl)))).1 in
      let differ : leaf_mark 3 ∷ [] ≡ [] = sym reference_marks ∙ x ∙ sym y ∙ null_marks in
      cc

  -- the piece and the whole share a signature
  shared : ShareSignature bs both reference
  shared = (
    leaf (Ref 3),
    leaf (Ref 3),
    (0, inl refl, leaf_run both.rules (Ref 3) (inl refl)),
    (0, inl refl, leaf_run reference.rules (Ref 3) (inl refl)),
    refl,
  )
