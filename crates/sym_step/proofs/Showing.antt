-- Forests that show what an edge needs.
use Rattle.std.proofs.Common.{◌≡◌, ◌⊎◌, inl, inr, ℕ, zero, suc, ◌+◌, ◌<◌, List, [], ◌∷◌, length, refl, sym, ap, subst}
use Rattle.std.proofs.Common.{◌∙◌, None, slice_index_or, arith}
use Rattle.fore_base.specs.Lists.{IsIn, Every}
use Rattle.fore_base.specs.declared.shape.Shape.{Shape}
use Rattle.ta_core.specs.Auto.{IsRanked}
use Rattle.ta_core.specs.Single.{HasOneTop}
use Rattle.ta_core.specs.declared.symbol.Symbol.{Symbol}
use Rattle.fa_core.specs.declared.forest.Forest.{Forest}
use Rattle.fa_core.specs.declared.forest.Target.{Target}
use Rattle.fa_core.specs.declared.forest.Target.TheVariants.{Null, Uninit, Dangling, At}
use Rattle.fa_core.specs.Folding.{symbol_slots}
use Rattle.fa_merge.specs.Reordered.{component_at}
use Rattle.fa_merge.proofs.PlacedForests.{component_has}
use Rattle.fa_split.specs.Split.{CanSplit}
use Rattle.fa_split.proofs.SplitCells.{RefersWell}
use Rattle.c_cfg.specs.declared.graph.Instr.{Instr}
use Rattle.fa_edit.specs.Fits.{shape_at, symbol_shape}
use Rattle.fa_edit.specs.Plain.{StructLacks, field_place, place_at, IsLeafPlace, IsPlainAt}
use Rattle.sym_core.specs.Explicit.{target_at, IsExplicit}
use Rattle.sym_step.specs.inner.Needing.{AreNeeds}
use Rattle.sym_step.specs.declared.needs.Needed.TheVariants.{Nothing, Field, Cell}
use Rattle.sym_step.specs.inner.Opening.{width, IsShown}
use Rattle.sym_step.proofs.FieldPlaces.{field_within}
use Rattle.sym_step.proofs.Pieces.{IsPiece, leaf_kept, leaf_there, symbol_there, top_there, width_there}

abbrev pub root_number : Target → ℕ
root_number Null = 0
root_number Uninit = 0
root_number Dangling = 0
root_number (At r) = r

abbrev IsAt : Target → Type 0
IsAt Null = ⊥
IsAt Uninit = ⊥
IsAt Dangling = ⊥
IsAt (At r) = Unit {0}

-- where a variable is at a root, that is one of the targets
pub target_in : (vs : List Target) (b r : ℕ) → slice_index_or vs b Uninit ≡ At r → IsIn (At r) vs
target_in [] b r h = absurd (subst IsAt (sym h) tt)
target_in (v ∷ vs) zero r h = inl (sym h)
target_in (v ∷ vs) (suc b) r h = inr (target_in vs b r h)

below_next : (k p : ℕ) → k < p + 1 → (k ≡ p) ⊎ (k < p)
below_next zero zero l = inl refl
below_next zero (suc p) l = inr (omega arith)
below_next (suc k) zero l = absurd (omega (arith, l))
below_next (suc k) (suc p) l =
    elim (below_next k p (omega (arith, l))) [ inl e ↦ inl (ap (λ (n : ℕ). suc n) e) | inr m ↦ inr (omega (arith, m)) ]

module _ (hs : List Shape) (F : Forest) (well : RefersWell F) (tops : Every HasOneTop F.autos) where
  var_tops : (r : ℕ) → IsIn (At r) F.vars → HasOneTop (component_at F.autos r)
  var_tops r i = component_has HasOneTop F.autos r tops (well.vars r i)

  -- where the edge needs no field, the forest shows all
  pub nothing_shown : (i : Instr) → AreNeeds i Nothing → IsExplicit hs F i
  nothing_shown i none = record { tops = var_tops; plain = λ b r f e t n. absurd (none b f e n) }

  -- where the variable is at no root, there is nothing to show
  pub no_root_shown : (i : Instr) (b f : ℕ) → AreNeeds i (Field b f) → ((r : ℕ) → target_at F b ≡ At r → ⊥)
      → IsExplicit hs F i
  no_root_shown i b f needs none =
      record {
        tops = var_tops;
        plain = λ c r g e t n.
            absurd (none r (subst (λ (x : ℕ). target_at F x ≡ At r) (needs c g e n).0 t));
      }

  pub no_cell_shown : (i : Instr) (b : ℕ) → AreNeeds i (Cell b) → ((r : ℕ) → target_at F b ≡ At r → ⊥) → IsExplicit hs
      F i
  no_cell_shown i b needs none =
      record {
        tops = var_tops;
        plain = λ c r g e t n.
            absurd (none r (subst (λ (x : ℕ). target_at F x ≡ At r) (needs.1 c e) t));
      }

-- The places of a root, one after the other.

pub shown_first : (F : Forest) (r : ℕ) → r < length F.autos → HasOneTop (component_at F.autos r) → IsShown F r 0 F
shown_first F r root top = record {
  root = root;
  top = top;
  vars = refl;
  symbol = refl;
  wide = refl;
  leaves = λ k l. absurd (omega (arith, l));
}

pub shown_next : (F : Forest) (r p : ℕ) → Every IsRanked F.autos → (can : CanSplit F r p) → IsShown F r p F
    → (y : Target) (G : Forest) → IsPiece F r p y G → IsShown F r (p + 1) G
shown_next F r p ranked can shown y G piece = record {
  root = (let l = can.root in let w = piece.few in omega (arith, l, w));
  top = top_there F r p ranked can y G piece;
  vars = piece.vars;
  symbol = symbol_there F r p ranked can y G piece;
  wide = width_there F r p ranked can y G piece;
  leaves = λ k l. elim (below_next k p l) [
    | inl e ↦ (y, subst (λ (x : ℕ). IsLeafPlace G r x y) (sym e) (leaf_there F r p ranked can y G piece))
    | inr m ↦ (
      (shown.leaves k m).0,
      leaf_kept F r p ranked can y G piece k (shown.leaves k m).0 (λ e. omega (arith, e, m))
          (let q = can.place in omega (arith, m, q)) (shown.leaves k m).1,
    )
  ];
}

-- where each place is shown, each field of the root is
pub cell_shown : (hs : List Shape) (F : Forest) (r : ℕ) → Every IsRanked F.autos → r < length F.autos
    → HasOneTop (component_at F.autos r) → ((g : ℕ) → place_at F r g ≡ None → StructLacks hs (shape_at F r) g)
    → (G : Forest) → IsShown F r (width F r) G → (g : ℕ) → IsPlainAt hs G r g
cell_shown hs F r ranked root top lacked G shown g = record {
  root = shown.root;
  top = shown.top;
  leaf = λ k h. shown.leaves k
      (field_within (component_at F.autos r) g k (component_has IsRanked F.autos r ranked root) top
      (ap (λ (x : Symbol). field_place g (symbol_slots x)) (sym shown.symbol) ∙ h));
  lacks = λ h.
      subst (λ (x : Symbol). StructLacks hs (symbol_shape x) g) (sym shown.symbol)
      (lacked g (ap (λ (x : Symbol). field_place g (symbol_slots x)) (sym shown.symbol) ∙ h));
}

-- first to the one place, then to the other
pub shown_on : (F G H : Forest) (r p q : ℕ) → IsShown F r p G → IsShown G r q H → IsShown F r q H
shown_on F G H r p q a b =
    record {
      root = b.root;
      top = b.top;
      vars = b.vars ∙ a.vars;
      symbol = b.symbol ∙ a.symbol;
      wide = b.wide ∙ a.wide;
      leaves = b.leaves;
    }

-- what was shown is shown of the forest itself
pub shown_self : (F G : Forest) (r p : ℕ) → IsShown F r p G → IsShown G r p G
shown_self F G r p a =
    record { root = a.root; top = a.top; vars = refl; symbol = refl; wide = refl; leaves = a.leaves }
