-- In a filled forest box edges of one tree at most give a field to a root.
use Rattle.std.proofs.Common.{◌≡◌, ℕ, zero, suc, ◌<◌, ◌+◌, List, [], ◌∷◌, ◌++◌, map, flat_map, refl, sym, ap, subst}
use Rattle.std.proofs.Common.{◌∙◌, Some, slice_get, length, arith}
use Rattle.std.proofs.lemmas.Option.{none-some, same_Some}
use Rattle.fore_base.specs.Lists.{IsIn, IsDistinct, Every}
use Rattle.fore_base.specs.Shapes.{targets_of}
use Rattle.fore_base.proofs.ListLemmas.{in_left, in_right, in_map}
use Rattle.ta_core.specs.declared.symbol.Symbol.{Symbol}
use Rattle.ta_core.specs.declared.symbol.Symbol.TheVariants.{Cell}
use Rattle.ta_core.specs.declared.tree.Tree.{Tree, out-Tree, roll-out-Tree, para-roll-Tree}
use Rattle.fa_back.proofs.RootMarks.{flat_in, to_root_in}
use Rattle.fa_core.specs.Canonical.{provides, RefersTo}
use Rattle.fa_core.specs.Filled.{Choice, IsFilled, IsFilledSpot, IsTopped, Spot, TopsAre, TreesFilled, covers}
use Rattle.fa_core.specs.Filled.{given_at, spots, spots_at}
use Rattle.fa_core.specs.Ways.{Way, ways, to_root, given}
use Rattle.fa_core.specs.declared.faces.BoxFace.{BoxFace}
use Rattle.fa_core.specs.declared.faces.Face.{Face}
use Rattle.fa_core.specs.declared.forest.Forest.{Forest}
use Rattle.fa_core.proofs.Dressing.{numbered_distinct}
use Rattle.fa_core.proofs.Permuted.{distinct_moved, distinct_parts, none_in_both}
use Rattle.fa_merge.proofs.Named.{choice_long, refers_below}

module _ (bs : List BoxFace) (r : ℕ) where
  -- what the tree gives to root r
  abbrev gift : Tree → List ℕ
  gift t = flat_map (λ (w : Way). given bs w.steps) (to_root r (ways t))

  gift_there : (ts : List Tree) (j : ℕ) (t : Tree) (f : ℕ) → slice_get ts j ≡ Some t → IsIn f (gift t)
      → IsIn f (given_at bs ts r)
  gift_there [] j t f e h = absurd (none-some t e)
  gift_there (u ∷ ts) zero t f e h =
      in_left f (gift u) (given_at bs ts r) (subst (λ (z : Tree). IsIn f (gift z)) (sym (same_Some u t e)) h)
  gift_there (u ∷ ts) (suc j) t f e h = in_right f (gift u) (given_at bs ts r) (gift_there ts j t f e h)

  -- where what is given is given once, it is given by one tree
  pub one_giver : (ts : List Tree) → IsDistinct (given_at bs ts r) → (j k : ℕ) (t u : Tree) (f : ℕ)
      → slice_get ts j ≡ Some t → slice_get ts k ≡ Some u → IsIn f (gift t) → IsIn f (gift u) → j ≡ k
  one_giver [] d j k t u f e g h i = absurd (none-some t e)
  one_giver (x ∷ ts) d zero zero t u f e g h i = refl
  one_giver (x ∷ ts) d zero (suc k) t u f e g h i =
      absurd (none_in_both f (gift x) (given_at bs ts r) d
      (subst (λ (z : Tree). IsIn f (gift z)) (sym (same_Some x t e)) h) (gift_there ts k u f g i))
  one_giver (x ∷ ts) d (suc j) zero t u f e g h i =
      absurd (none_in_both f (gift x) (given_at bs ts r) d
      (subst (λ (z : Tree). IsIn f (gift z)) (sym (same_Some x u g)) i) (gift_there ts j t f e h))
  one_giver (x ∷ ts) d (suc j) (suc k) t u f e g h i =
      ap (λ (n : ℕ). suc n) (one_giver ts (distinct_parts (gift x) (given_at bs ts r) d).1 j k t u f e g h i)

-- The cell at the top of a root's tree.

abbrev with_spots : List BoxFace → Tree → Tree × (List ℕ → List Spot)
with_spots bs t = (t, spots bs t)

spots_out : (bs : List BoxFace) (t : Tree) (above : List ℕ) → spots bs t above
    ≡ spots_at bs (out-Tree t).symbol (map (with_spots bs) (out-Tree t).children) above
spots_out bs t above =
    ap (λ (z : Tree). spots bs z above) (sym (roll-out-Tree t))
    ∙ ap (λ (g : List ℕ → List Spot). g above)
    (para-roll-Tree (List ℕ → List Spot) (λ x. spots_at bs x.symbol x.children) (out-Tree t))

has_first : (face : Face) (tops : List ℕ) (s : ℕ) (t : Tree) (above : List ℕ) → IsTopped s t
    → Every (IsFilledSpot face tops) (spots face.boxes t above) → IsDistinct above
has_first face tops s t above top h =
    let x = out-Tree t in
    let e : spots face.boxes t above ≡ spots_at face.boxes x.symbol (map (with_spots face.boxes) x.children) above =
    spots_out face.boxes t above in
    let g : Every (IsFilledSpot face tops) (spots_at face.boxes (Cell s top.0 top.1)
    (map (with_spots face.boxes) x.children) above) =
    subst (λ (y : Symbol). Every (IsFilledSpot face tops) (spots_at face.boxes y
    (map (with_spots face.boxes) x.children) above)) top.2
    (subst (λ (z : List Spot). Every (IsFilledSpot face tops) z) e h) in
    let d : IsDistinct (flat_map (covers face.boxes) top.1 ++ above) =
    distinct_moved g.0.once (numbered_distinct 0 (targets_of face.shapes.structs s)) in
    (distinct_parts (flat_map (covers face.boxes) top.1) above d).1

root_first : (face : Face) (all : List Tree) (tops own : List ℕ) (r : ℕ) (ts : List Tree) (k : ℕ)
    → k < length ts → TopsAre ts own → TreesFilled face all tops r ts → IsDistinct (given_at face.boxes all (r + k))
root_first face all tops own r [] k l a h = absurd (omega (arith, l))
root_first face all tops [] r (t ∷ ts) k l a h = absurd a
root_first face all tops (s ∷ own) r (t ∷ ts) zero l a h =
    let z : r ≡ r + 0 = omega arith in
    subst (λ (n : ℕ). IsDistinct (given_at face.boxes all n)) z
    (has_first face tops s t (given_at face.boxes all r) a.0 h.0)
root_first face all tops (s ∷ own) r (t ∷ ts) (suc k) l a h =
    let z : suc r + k ≡ r + suc k = omega arith in
    subst (λ (n : ℕ). IsDistinct (given_at face.boxes all n)) z
    (root_first face all tops own (suc r) ts k (omega (arith, l)) a.1 h.1)

module _ (face : Face) (F : Forest) (filled : IsFilled face F) (ts : List Tree) (choice : Choice F.autos ts) where
  -- the law: what box edges of two trees give to a root differs
  pub given_once : (i j k f : ℕ) → provides face.boxes ts i j f → provides face.boxes ts i k f → j ≡ k
  given_once i j k f g h =
      let c = filled.trees ts choice in
      let w = flat_in (λ (x : Way). given face.boxes x.steps) (to_root i (ways g.0)) f g.2 in
      let v = to_root_in i (ways g.0) w.0 w.1 in
      let refers : RefersTo g.0 i =
      subst (λ (n : ℕ). RefersTo g.0 n) v.1 (in_map (λ (x : Way). x.root) w.0 (ways g.0) v.0) in
      let low : i < length ts =
      subst (λ (n : ℕ). i < n) (sym (choice_long F.autos ts choice))
      (refers_below face F filled ts choice j i g.0 g.1 refers) in
      let d : IsDistinct (given_at face.boxes ts i) =
      (let z : 0 + i ≡ i = omega arith in
      subst (λ (n : ℕ). IsDistinct (given_at face.boxes ts n)) z
      (root_first face ts c.tops c.tops 0 ts i low c.are c.cells)) in
      one_giver face.boxes i ts d j k g.0 h.0 f g.1 h.1 g.2 h.2
