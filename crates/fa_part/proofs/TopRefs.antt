-- What the slots at the top of a root's tree refer to is what the tree refers to.
use Rattle.std.proofs.Common.{◌≡◌, ℕ, zero, suc, Bool, true, false, cond, List, [], ◌∷◌, ◌++◌, map, filter, refl, sym}
use Rattle.std.proofs.Common.{ap, ap₂, subst, ◌∙◌, append-nil, flat_map, slice_get, Some, inl, inr}
use Rattle.std.proofs.lemmas.Option.{none-some, same_Some}
use Rattle.fore_base.specs.Lists.{IsIn}
use Rattle.fore_base.proofs.ListLemmas.{in_left, in_right, in_append}
use Rattle.ta_core.specs.declared.symbol.Slot.{Slot}
use Rattle.ta_core.specs.declared.symbol.Slot.TheVariants.{Field, Link, Hook}
use Rattle.ta_core.specs.declared.symbol.Symbol.{Symbol}
use Rattle.ta_core.specs.declared.tree.Tree.{Tree, out-Tree}
use Rattle.fa_core.specs.Filled.{IsTopped, TopsAre}
use Rattle.fa_core.specs.Folding.{left, place_refs, places, places_at, symbol_slots, top_places}
use Rattle.fa_core.specs.References.{tree_refs}
use Rattle.fa_core.specs.Ways.{Way, child_ways, longer, ways, ways_at}
use Rattle.fa_core.proofs.WayParts.{ways_out}

roots_front : (s : Slot) (ws : List Way) (rest : List (Slot × Way))
    → map (λ p. p.1.root) (map (λ (p : Way). (s, p)) ws ++ rest)
    ≡ map (λ (w : Way). w.root) ws ++ map (λ p. p.1.root) rest
roots_front s [] rest = refl
roots_front s (w ∷ ws) rest = ap (λ (l : List ℕ). w.root ∷ l) (roots_front s ws rest)

child_refs : (ss : List Slot) (ts : List Tree) → map (λ p. p.1.root) (child_ways ss (map ways ts))
    ≡ place_refs (places ss ts)
child_refs [] ts = refl
child_refs (Hook b ∷ ss) ts = child_refs ss ts
child_refs (Field f ∷ ss) [] = refl
child_refs (Field f ∷ ss) (t ∷ ts) = roots_front (Field f) (ways t) (child_ways ss (map ways ts))
    ∙ ap₂ (λ (x y : List ℕ). x ++ y) (sym (append-nil (tree_refs t))) (child_refs ss ts)
child_refs (Link b ∷ ss) [] = refl
child_refs (Link b ∷ ss) (t ∷ ts) = roots_front (Link b) (ways t) (child_ways ss (map ways ts))
    ∙ ap₂ (λ (x y : List ℕ). x ++ y) (sym (append-nil (tree_refs t))) (child_refs ss ts)

roots_longer : (rs : List ℕ) (ps : List (Slot × Way)) → map (λ (w : Way). w.root) (map (longer rs) ps)
    ≡ map (λ p. p.1.root) ps
roots_longer rs [] = refl
roots_longer rs (p ∷ ps) = ap (λ (l : List ℕ). p.1.root ∷ l) (roots_longer rs ps)

-- the references of a tree with a cell at its top
pub cell_refs : (s : ℕ) (t : Tree) → IsTopped s t → tree_refs t ≡ place_refs (top_places t)
cell_refs s t (ds, ss, e) =
    let cs = (out-Tree t).children in
    let all = child_ways ss (map ways cs) in
    ap (λ (ws : List Way). map (λ (w : Way). w.root) ws)
    (ways_out t ∙ ap (λ (y : Symbol). ways_at y (map ways cs)) e)
    ∙ roots_longer (map (λ p. p.1.root) all) all
    ∙ child_refs ss cs
    ∙ ap (λ (y : Symbol). place_refs (places (symbol_slots y) cs)) (sym e)

abbrev All : Type 0
All = List (Slot × List Tree)

-- where nothing is taken, all is left
pub left_all : (ps : All) → left [] ps ≡ ps
left_all [] = refl
left_all ((Field f, ts) ∷ ps) = ap (λ (l : All). (Field f, ts) ∷ l) (left_all ps)
left_all ((Link b, ts) ∷ ps) = ap (λ (l : All). (Link b, ts) ∷ l) (left_all ps)
left_all ((Hook b, ts) ∷ ps) = ap (λ (l : All). (Hook b, ts) ∷ l) (left_all ps)

-- some of the slots refer to no other roots
pub some_refs : (p : Slot × List Tree → Bool) (ps : All) (k : ℕ) → IsIn k (place_refs (filter p ps))
    → IsIn k (place_refs ps)
some_refs p [] k i = i
some_refs p (x ∷ ps) k i = here (p x) (some_refs p ps k) i
  where
    here : (b : Bool) → (IsIn k (place_refs (filter p ps)) → IsIn k (place_refs ps))
        → IsIn k (place_refs (cond b (x ∷ filter p ps) (filter p ps))) → IsIn k (place_refs (x ∷ ps))
    here true go i = elim (in_append k (flat_map tree_refs x.1) (place_refs (filter p ps)) i) [
      | inl j ↦ in_left k (flat_map tree_refs x.1) (place_refs ps) j
      | inr j ↦ in_right k (flat_map tree_refs x.1) (place_refs ps) (go j)
    ]
    here false go i = in_right k (flat_map tree_refs x.1) (place_refs ps) (go i)

-- the slots of the tree at a place
pub places_got : (ts : List Tree) (r : ℕ) (t : Tree) → slice_get ts r ≡ Some t → places_at ts r ≡ top_places t
places_got [] r t e = absurd (none-some t e)
places_got (u ∷ ts) zero t e = ap top_places (same_Some u t e)
places_got (u ∷ ts) (suc r) t e = places_got ts r t e

-- the tree at a place has a cell at its top
pub topped_at : (ts : List Tree) (tops : List ℕ) (r : ℕ) (t : Tree) → TopsAre ts tops → slice_get ts r ≡ Some t
    → (s : ℕ) × IsTopped s t
topped_at [] tops r t h e = absurd (none-some t e)
topped_at (u ∷ ts) [] r t h e = absurd h
topped_at (u ∷ ts) (s ∷ tops) zero t h e = (s, subst (IsTopped s) (same_Some u t e) h.0)
topped_at (u ∷ ts) (s ∷ tops) (suc r) t h e = topped_at ts tops r t h.1 e
