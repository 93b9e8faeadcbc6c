-- Trees that run to the children's states of one rule add the same to the marks of the cell above them, place by place.
use Rattle.std.proofs.Common.{◌≡◌, inl, inr, ℕ, true, true≢false, List, [], ◌∷◌, ◌++◌, map, refl, sym}
use Rattle.std.proofs.Common.{ap, ◌∙◌, slice_set, append_assoc}
use Rattle.std.proofs.lemmas.List.{length-map}
use Rattle.fore_base.specs.Lists.{Every}
use Rattle.ta_core.specs.Language.{RunOf, RunEach, run_none, run_more}
use Rattle.ta_core.specs.declared.auto.Rule.{Rule}
use Rattle.ta_core.specs.declared.symbol.Slot.{Slot}
use Rattle.ta_core.specs.declared.symbol.Slot.TheVariants.{Field, Link, Hook}
use Rattle.ta_core.specs.declared.symbol.Symbol.{Symbol}
use Rattle.ta_core.specs.declared.symbol.Symbol.TheVariants.{Null, Uninit, Dangling, Ref, Cell}
use Rattle.ta_core.specs.declared.tree.Tree.{Tree, out-Tree}
use Rattle.fa_core.specs.declared.faces.BoxFace.{BoxFace}
use Rattle.fa_core.specs.declared.signature.Below.{Below}
use Rattle.fa_core.specs.Cells.{edges, is_leaf, below_of, cell_marks, marks_by}
use Rattle.fa_core.specs.Ways.{signature}
use Rattle.fa_core.proofs.CellMarks.{tree_signature}
use Rattle.fa_core.proofs.Dressing.{each_length}
use Rattle.fa_sound.proofs.Between.{AreLeafs}
use Rattle.fa_split.specs.Giving.{SlotGives, SymbolGives}
use Rattle.fa_split.proofs.EdgeMarks.{EdgesSame, no_edges, an_edge, cell_kept, set_edges, field_same, link_same}

-- the marks of a leaf
leafs : (bs : List BoxFace) (t : Tree) → is_leaf (out-Tree t).symbol ≡ true → AreLeafs (signature bs t)
leafs bs t l = here (out-Tree t).symbol refl
  where
    by : (y : Symbol) → (out-Tree t).symbol ≡ y
        → signature bs t ≡ marks_by bs y (map (below_of bs) (out-Tree t).children)
    by y e = tree_signature bs t ∙ ap (λ (z : Symbol). marks_by bs z (map (below_of bs) (out-Tree t).children)) e

    here : (y : Symbol) → (out-Tree t).symbol ≡ y → AreLeafs (signature bs t)
    here Null e = inl (by Null e)
    here Uninit e = inl (by Uninit e)
    here Dangling e = inl (by Dangling e)
    here (Ref r) e = inr (r, by (Ref r) e)
    here (Cell s ds ss) e = absurd (true≢false (sym l ∙ ap is_leaf e))

module _ (bs : List BoxFace) (rules : List Rule)
    (signed : (q : ℕ) (t u : Tree) → RunOf rules q t → RunOf rules q u → signature bs t ≡ signature bs u) where
  abbrev pub seen : List Tree → List Below
  seen ts = map (below_of bs) ts

  -- where the trees that run to these states make the same marks behind these edges, whichever they are
  abbrev pub MakeSame : List (Slot × Below) → List Slot → List ℕ → Type 0
  MakeSame pre ss qs = (vs ws : List Tree) → RunEach rules qs vs → RunEach rules qs ws
      → cell_marks bs (pre ++ edges ss (seen vs)) ≡ cell_marks bs (pre ++ edges ss (seen ws))

  abbrev edge : Slot → Tree → Slot × Below
  edge s t = (s, below_of bs t)

  -- with one more edge before
  one_more : (pre : List (Slot × Below)) (s : Slot) (t : Tree) (ss : List Slot) (qs : List ℕ)
      → ((vs ws : List Tree) → RunEach rules qs vs → RunEach rules qs ws
      → cell_marks bs (pre ++ edge s t ∷ edges ss (seen vs)) ≡ cell_marks bs (pre ++ edge s t ∷ edges ss (seen ws)))
      → MakeSame (pre ++ edge s t ∷ []) ss qs
  one_more pre s t ss qs h vs ws x y =
      ap (λ (es : List (Slot × Below)). cell_marks bs es) (append_assoc pre (edge s t ∷ []) (edges ss (seen vs)))
      ∙ h vs ws x y
      ∙ ap (λ (es : List (Slot × Below)). cell_marks bs es)
      (sym (append_assoc pre (edge s t ∷ []) (edges ss (seen ws))))

  pub runs_same : (pre : List (Slot × Below)) (ss : List Slot) {qs : List ℕ} {ts us : List Tree}
      → Every (SlotGives bs) ss
      → MakeSame pre ss qs → RunEach rules qs ts → RunEach rules qs us
      → EdgesSame bs (edges ss (seen ts)) (edges ss (seen us))
  runs_same pre [] g h a b = no_edges
  runs_same pre (Hook n ∷ ss) g h a b = runs_same pre ss g.1 h a b
  runs_same pre (Field f ∷ ss) g h run_none run_none = no_edges
  runs_same pre (Field f ∷ ss) g h (run_more {q = q} {qs = qs} {t = t} {ts = ts} a c) (run_more {t = u} {ts = us} b d) =
      an_edge (Field f) (below_of bs t) (below_of bs u)
      (field_same bs f (below_of bs t) (below_of bs u) (signed q t u a b))
      (runs_same (pre ++ edge (Field f) t ∷ []) ss g.1
      (one_more pre (Field f) t ss qs (λ vs ws x y. h (t ∷ vs) (t ∷ ws) (run_more a x) (run_more a y))) c d)
  runs_same pre (Link n ∷ ss) g h run_none run_none = no_edges
  runs_same pre (Link n ∷ ss) g h (run_more {q = q} {qs = qs} {t = t} {ts = ts} a c) (run_more {t = u} {ts = us} b d) =
      an_edge (Link n) (below_of bs t) (below_of bs u)
      (link_same bs n g.0 (below_of bs t) (below_of bs u) (signed q t u a b) (leafs bs t) (leafs bs u) pre
      (edges ss (seen ts)) (h (t ∷ ts) (u ∷ ts) (run_more a c) (run_more b c)))
      (runs_same (pre ++ edge (Link n) t ∷ []) ss g.1
      (one_more pre (Link n) t ss qs (λ vs ws x y. h (t ∷ vs) (t ∷ ws) (run_more a x) (run_more a y))) c d)

  -- so with another end in one place of both
  pub marks_with : (y : Symbol) → SymbolGives bs y → (p : ℕ) (z : Below) {qs : List ℕ} {ts us : List Tree}
      → ((vs ws : List Tree) → RunEach rules qs vs → RunEach rules qs ws → marks_by bs y (seen vs)
      ≡ marks_by bs y (seen ws)) → RunEach rules qs ts → RunEach rules qs us
      → marks_by bs y (slice_set (seen ts) p z) ≡ marks_by bs y (slice_set (seen us) p z)
  marks_with Null g p z h a b = refl
  marks_with Uninit g p z h a b = refl
  marks_with Dangling g p z h a b = refl
  marks_with (Ref r) g p z h a b = refl
  marks_with (Cell s ds ss) g p z {qs = qs} {ts = ts} {us = us} h a b =
      cell_kept bs (set_edges bs p z ss (seen ts) (seen us) (runs_same [] ss g h a b)
      (length-map ts (below_of bs) ∙ sym (each_length rules a) ∙ each_length rules b
      ∙ sym (length-map us (below_of bs))))
