-- A pointer field that the struct of a root does not have is none of its cell.
use Rattle.std.proofs.Common.{◌≡◌, ◌∙◌, inl, inr, ℕ, Bool, true, false, nat_eq, if◌then◌else◌, List, [], ◌∷◌, length}
use Rattle.std.proofs.Common.{Option, Some, None, slice_get, refl, sym, subst, arith}
use Rattle.std.proofs.lemmas.Option.{none-some, same_Some, slice_get_past, slice_get_cases}
use Rattle.fore_base.specs.Lists.{Every}
use Rattle.fore_base.specs.Shapes.{targets_of}
use Rattle.fore_base.specs.declared.shape.Shape.{Shape}
use Rattle.fore_base.specs.declared.store.CellRec.{CellRec}
use Rattle.fa_core.specs.declared.boxes.BoxDef.{BoxDef}
use Rattle.fa_core.specs.declared.forest.Forest.{Forest}
use Rattle.fa_core.specs.Dressed.{Node, Nodes, node, number}
use Rattle.fa_core.specs.Filled.{target_of}
use Rattle.fa_core.specs.Member.{OfForest, HasItsFields}
use Rattle.fa_back.specs.Reached.{node_at}
use Rattle.fa_edit.specs.Fits.{shape_at}
use Rattle.fa_edit.specs.Plain.{StructLacks}
use Rattle.c_cfg.specs.Edges.{field_of, struct_of}
use Rattle.sym_transfer.specs.inner.Tops.{HasTop}
use Rattle.sym_transfer.proofs.Fitting.{shape_is}
use Rattle.sym_transfer.proofs.Standing.{IsHeap, struct_is}

-- what is past the end of a list is past the end of one that is as long
none_past : {X Y : Type 0} (xs : List X) (ys : List Y) (k : ℕ) → length ys ≡ length xs → slice_get xs k ≡ None
    → slice_get ys k ≡ None
none_past {X} xs ys k long e = elim (slice_get_cases xs k).1 [
  | inl w ↦ absurd (none-some w.0 (sym e ∙ w.2))
  | inr w ↦ slice_get_past ys k (let l = w.0 in omega (arith, l, long))
]

module _ (hs : List Shape) where
  -- a cell of the struct has not the field
  lacked : (cs : List CellRec) (n s f : ℕ) → Every (HasItsFields hs) cs → struct_of cs n ≡ Some s
      → target_of hs s f ≡ None → field_of cs n f ≡ None
  lacked [] n s f w e l = refl
  lacked (c ∷ cs) n s f w e l = here (nat_eq c.number n) e (lacked cs n s f w.1)
    where
      here : (b : Bool) → (if b then Some c.shape else struct_of cs n) ≡ Some s
          → (struct_of cs n ≡ Some s → target_of hs s f ≡ None → field_of cs n f ≡ None)
          → (if b then slice_get c.fields f else field_of cs n f) ≡ None
      here true q rest =
          none_past (targets_of hs s) c.fields f
          (subst (λ (t : ℕ). length c.fields ≡ length (targets_of hs t)) (same_Some c.shape s q) w.0) l
      here false q rest = rest q l

module _ (hs : List Shape) (T : List BoxDef) (H : Forest) (d : Nodes) (o : OfForest T H d) (cs : List CellRec)
    (next : ℕ) (h : IsHeap hs d cs next) where
  -- the store has no such field
  pub field_lacks : (r f : ℕ) → HasTop H r → StructLacks hs (shape_at H r) f → (n : Node) → node_at d r ≡ Some n
      → field_of cs (number n) f ≡ None
  field_lacks r f top l (node c s ds ps) e =
      lacked hs cs c s f h.filled (struct_is hs d cs next h r c s ds ps e)
      (subst (λ (q : Option ℕ). StructLacks hs q f) (shape_is T H d o r top c s ds ps e) l)
