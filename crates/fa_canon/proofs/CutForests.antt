-- The steps that cut knots, on forests: whichever trees are taken.
use Rattle.std.proofs.Common.{◌≡◌, ◌≢◌, inl, inr, ℕ, suc, ◌<◌, ◌≤◌, ◌+◌, true, false, true≢false, length, List, sym, ap}
use Rattle.std.proofs.Common.{subst, ◌∙◌, slice_get, slice_set, Some, length-set, arith}
use Rattle.std.proofs.lemmas.Option.{same_Some}
use Rattle.fore_base.specs.Lists.{IsIn, Every}
use Rattle.ta_core.specs.Auto.{IsRanked}
use Rattle.ta_core.specs.Language.{RunOf}
use Rattle.ta_core.specs.Single.{HasOneTop}
use Rattle.ta_core.specs.declared.symbol.Symbol.{Symbol}
use Rattle.ta_core.specs.declared.symbol.Symbol.TheVariants.{Ref}
use Rattle.ta_core.specs.declared.tree.Tree.{Tree, out-Tree}
use Rattle.fa_core.specs.Canonical.{IsUntied, RefersTo, IsRootKind}
use Rattle.fa_core.specs.Cells.{is_leaf}
use Rattle.fa_core.specs.Covering.{Covers}
use Rattle.fa_core.specs.Dressed.{leaf, leaf_refs}
use Rattle.fa_core.specs.Filled.{Choice, IsSound}
use Rattle.fa_core.specs.Member.{bare_end, leaf_symbol}
use Rattle.fa_core.specs.declared.faces.Face.{Face}
use Rattle.fa_core.specs.declared.forest.Forest.{Forest}
use Rattle.fa_core.specs.declared.forest.Target.{Target}
use Rattle.fa_core.specs.declared.forest.Target.TheVariants.{Null, Uninit, Dangling, At}
use Rattle.fa_core.proofs.Dressing.{choice_length, leaf_top}
use Rattle.fa_core.proofs.WaysOf.{end_roots}
use Rattle.fa_sound.specs.Components.{component_at}
use Rattle.fa_merge.specs.Reached.{AreAllReached}
use Rattle.fa_merge.proofs.LoneFound.{choice_component}
use Rattle.fa_merge.proofs.Named.{refers_below}
use Rattle.fa_merge.proofs.PlacedForests.{component_has}
use Rattle.fa_order.specs.Kinds.{IsSharedRoot, IsUnsharedRoot}
use Rattle.fa_split.specs.Split.{CanSplit, MayBeLeaf, child_state, split_cells, split_leaf, top_rule}
use Rattle.fa_split.proofs.FixedTrees.{child_run}
use Rattle.fa_split.proofs.TopRules.{tree_by_top}
use Rattle.fa_canon.specs.inner.Cutting.{HasWidth, IsCutting, IsRankedCell, child_at, has_field_at, ref_leaf}
use Rattle.fa_canon.specs.inner.Cutting.{with_child}
use Rattle.fa_canon.specs.inner.Merges.{AreSettled}
use Rattle.fa_canon.proofs.CutOff.{cut_step, cut_tree, root_shared}
use Rattle.fa_canon.proofs.Knots.{cut_start, end_kinds, end_untied, loose_step, next_root, skip_root}
use Rattle.fa_canon.proofs.ListPlaces.{push_long}
use Rattle.fa_canon.proofs.RootTrees.{root_cell}
use Rattle.fa_canon.proofs.SplitTrees.{cells_choice, covers_choice, leaf_choice}
use Rattle.fa_canon.proofs.TopCells.{put_children}

-- the symbol at the top of the trees of a root with one rule
pub top_of_tree : (F : Forest) (r : ℕ) (ts : List Tree) (t : Tree) → HasOneTop (component_at F.autos r)
    → Choice F.autos ts → slice_get ts r ≡ Some t → (top_rule (component_at F.autos r)).symbol ≡ (out-Tree t).symbol
top_of_tree F r ts t top d e =
    (tree_by_top (component_at F.autos r) top t (choice_component F.autos ts r t d e).1).0

-- fewer trees
pub within_cutting : (n r p : ℕ) (F G : Forest) → Covers F G → length G.autos ≡ length F.autos → IsCutting n r p F
    → IsCutting n r p G
within_cutting n r p F G h e c = record {
  few = rw e c.few;
  vars = rw h.vars c.vars;
  trees = λ ts d. rw h.vars (c.trees ts (covers_choice F G h ts d));
}

pub within_shared : (r : ℕ) (F G : Forest) → Covers F G → IsSharedRoot F r → IsSharedRoot G r
within_shared r F G h s ts c = rw h.vars (s ts (covers_choice F G h ts c))

pub within_width : (r m : ℕ) (F G : Forest) → Covers F G → HasWidth F r m → HasWidth G r m
within_width r m F G h w ts t c e = w ts t (covers_choice F G h ts c) e

-- nothing is cut
pub start_cutting : (F : Forest) → ((k : ℕ) → IsIn (At k) F.vars → k < length F.autos) → AreSettled F
    → IsCutting (length F.autos) 0 0 F
start_cutting F vars settled = record {
  few = omega arith;
  vars = vars;
  trees = λ ts c. cut_start F.vars (length F.autos) 0 ts (choice_length F.autos ts c) (settled ts c);
}

-- the next root
pub root_cutting : (n r m : ℕ) (F : Forest) → HasWidth F r m → IsCutting n r m F → IsCutting n (r + 1) 0 F
root_cutting n r m F w c = record {
  few = c.few;
  vars = c.vars;
  trees = λ ts d. next_root F.vars n r ts m (λ t e. w ts t d e) (c.trees ts d);
}

-- a root that is not shared
pub unshared_cutting : (n r : ℕ) (F : Forest) → IsUnsharedRoot F r → IsCutting n r 0 F → IsCutting n (r + 1) 0 F
unshared_cutting n r F none c = record {
  few = c.few;
  vars = c.vars;
  trees = λ ts d. skip_root F.vars n r ts (none ts d) (c.trees ts d);
}

-- a child to which no field leads, or that does not refer to the root
pub skip_cutting : (n r p : ℕ) (F : Forest)
    → ((ts : List Tree) (t u : Tree) → Choice F.autos ts → slice_get ts r ≡ Some t
    → has_field_at (out-Tree t).symbol p ≡ true → child_at t p ≡ Some u → RefersTo u r → ⊥) → IsCutting n r p F
    → IsCutting n r (p + 1) F
skip_cutting n r p F none c = record {
  few = c.few;
  vars = c.vars;
  trees = λ ts d. loose_step F.vars n r ts p (λ t u e y f x h. none ts t u d e y f h) (c.trees ts d);
}

-- a leaf that refers to a root is the reference
leaf_names : (y : Target) (r : ℕ) → RefersTo (bare_end (leaf y)) r → (out-Tree (bare_end (leaf y))).symbol ≡ Ref r
leaf_names y r h = leaf_top y ∙ here y (subst (λ (ks : List ℕ). IsIn r ks) (end_roots (leaf y)) h)
  where
    here : (y : Target) → IsIn r (leaf_refs y) → leaf_symbol y ≡ Ref r
    here Null i = absurd i
    here Uninit i = absurd i
    here Dangling i = absurd i
    here (At k) (inl e) = ap Ref (sym e)
    here (At k) (inr e) = absurd e

cell_no_ref : (y : Symbol) → is_leaf y ≡ false → (i : ℕ) → y ≢ Ref i
cell_no_ref y e i w = true≢false (sym (ap is_leaf w) ∙ e)

module _ (face : Face) (n r p m : ℕ) (F : Forest) (sound : IsSound face F) (ranked : Every IsRanked F.autos)
    (can : CanSplit F r p) (less : r < n) (width : HasWidth F r m) (shared : IsSharedRoot F r)
    (c : IsCutting n r p F) where
  abbrev q : ℕ
  q = child_state (component_at F.autos r) p

  -- the child is a leaf
  leaf_runs : (y : Target) → MayBeLeaf F r p y → RunOf (component_at F.autos r).rules q (bare_end (leaf y))
  leaf_runs y h =
      let right = component_has IsRanked F.autos r ranked can.root in
      child_run (component_at F.autos r) p y right can.top can.place h.0 (bare_end (leaf y)) h.1 h.2

  pub leaf_cutting : (y : Target) → MayBeLeaf F r p y → IsCutting n r (p + 1) (split_leaf F r p y)
      × HasWidth (split_leaf F r p y) r m × IsSharedRoot (split_leaf F r p y) r
  leaf_cutting y may =
      let back = leaf_choice F r p ranked can y (leaf_runs y may) in (
        record {
          few = rw (length-set F.autos r _) c.few;
          vars = c.vars;
          trees = λ us d. loose_step F.vars n r us p (λ t u e g f x h. (let w = back us d in
              let is : bare_end (leaf y) ≡ u = same_Some (bare_end (leaf y)) u (sym (w.1 t e) ∙ f) in
              x
              (subst (λ (z : Tree). (out-Tree z).symbol ≡ Ref r) is
              (leaf_names y r (subst (λ (z : Tree). RefersTo z r) (sym is) h))))) (c.trees us (back us d).0);
        },
        (λ us t d e. width us t (back us d).0 e),
        (λ us d. shared us (back us d).0),
      )

  -- the symbol at the top of the root's trees
  top_symbol : (ts : List Tree) (t : Tree) → Choice F.autos ts → slice_get ts r ≡ Some t
      → (top_rule (component_at F.autos r)).symbol ≡ (out-Tree t).symbol
  top_symbol ts t d e = top_of_tree F r ts t can.top d e

  -- the child is a cell at the end of a field, and refers to the root
  pub cells_cutting : has_field_at (top_rule (component_at F.autos r)).symbol p ≡ true
      → ((u : Tree) → RunOf (component_at F.autos r).rules q u → RefersTo u r)
      → IsCutting n r (p + 1) (split_cells F r p) × HasWidth (split_cells F r p) r m
      × IsSharedRoot (split_cells F r p) r
  cells_cutting in_field ties = (
    record {
      few =
          (let z : length (split_cells F r p).autos ≡ suc (length F.autos) = push_long (slice_set F.autos r _) _
          ∙ ap (λ (x : ℕ). suc x) (length-set F.autos r _) in let s = c.few in rw z (omega (arith, s)));
      vars = c.vars;
      trees = λ us d. (let w = cells_choice F r p ranked can us d in
          cut_step r p w.0 us w.2.0 (cell w.0 w.1 w.2.0.above w.2.0.is_above)
          (at_end w.0 w.1 w.2.0.above w.2.0.is_above) (below w.0 w.1) F.vars n (long w.0 w.1) less
          (cell_no_ref (out-Tree w.2.0.child).symbol w.2.1) (ties w.2.0.child w.2.2) (shared w.0 w.1)
          (c.trees w.0 w.1));
    },
    (λ us t d e. (let w = cells_choice F r p ranked can us d in
        let k = w.2.0 in
        let is : with_child k.above p (ref_leaf (length w.0)) ≡ t =
        same_Some (with_child k.above p (ref_leaf (length w.0))) t
        (sym
        (cut_tree r p w.0 us k (cell w.0 w.1 k.above k.is_above) (at_end w.0 w.1 k.above k.is_above)
        (below w.0 w.1)) ∙ e) in
        sym (ap (λ (z : Tree). length (out-Tree z).children) is)
        ∙ ap length (put_children k.above p (ref_leaf (length w.0)))
        ∙ length-set (out-Tree k.above).children p (ref_leaf (length w.0)) ∙ width w.0 k.above w.1 k.is_above)),
    (λ us d. (let w = cells_choice F r p ranked can us d in
        root_shared r p w.0 us w.2.0 (cell w.0 w.1 w.2.0.above w.2.0.is_above)
        (at_end w.0 w.1 w.2.0.above w.2.0.is_above) (below w.0 w.1) F.vars (shared w.0 w.1))),
  )
    where
      cell : (ts : List Tree) → Choice F.autos ts → (t : Tree) → slice_get ts r ≡ Some t → IsRankedCell t
      cell ts d t e = root_cell face F sound ranked ts d r t e

      at_end : (ts : List Tree) → Choice F.autos ts → (t : Tree) → slice_get ts r ≡ Some t
          → has_field_at (out-Tree t).symbol p ≡ true
      at_end ts d t e = ap (λ (y : Symbol). has_field_at y p) (sym (top_symbol ts t d e)) ∙ in_field

      below : (ts : List Tree) → Choice F.autos ts → (i j : ℕ) (t : Tree) → slice_get ts i ≡ Some t → RefersTo t j
          → j < length ts
      below ts d i j t e h = subst (λ (x : ℕ). j < x) (sym (choice_length F.autos ts d))
          (refers_below face F sound.well_formed.filled ts d i j t e h)

      long : (ts : List Tree) → Choice F.autos ts → n ≤ length ts
      long ts d = let l = choice_length F.autos ts d in let s = c.few in omega (arith, l, s)

-- At the end.

module _ (face : Face) (n : ℕ) (F : Forest) (c : IsCutting n n 0 F) where
  pub cut_kinds : AreAllReached face F → (ts : List Tree) → Choice F.autos ts → (r : ℕ) → r < length ts
      → IsRootKind face.boxes F.vars ts r
  cut_kinds all ts d = end_kinds face.boxes F.vars n ts c.vars (c.trees ts d)
      (λ k l. all k (let e = choice_length F.autos ts d in omega (arith, e, l)) ts d)

  pub cut_untied : (ts : List Tree) → Choice F.autos ts → IsUntied F.vars ts
  cut_untied ts d = end_untied face.boxes F.vars n ts c.vars (c.trees ts d)
