-- Two filled forests that differ at one root, where the cells at the top have one symbol: the trees there give each
-- root as many fields.
use Rattle.std.proofs.Common.{◌≡◌, ℕ, zero, suc, ◌<◌, ◌+◌, length, List, [], ◌∷◌, map, flat_map, refl, sym, ap}
use Rattle.std.proofs.Common.{subst, ◌∙◌, slice_get, slice_set, Some, length-append, arith}
use Rattle.std.proofs.lemmas.Option.{none-some, same_Some}
use Rattle.fore_base.specs.Lists.{Every, Paired, PairedBut}
use Rattle.ta_core.specs.Auto.{Automaton}
use Rattle.ta_core.specs.Language.{InLanguage, HasSameLanguage}
use Rattle.ta_core.specs.declared.symbol.Symbol.{Symbol}
use Rattle.ta_core.specs.declared.symbol.Symbol.TheVariants.{Cell}
use Rattle.ta_core.specs.declared.tree.Tree.{Tree, out-Tree, roll-out-Tree, para-roll-Tree}
use Rattle.fa_core.specs.Canonical.{RefersTo}
use Rattle.fa_core.specs.Filled.{Choice, ChoiceFilled, IsFilled, IsFilledSpot, IsSound, IsTopped, Spot, TopsAre}
use Rattle.fa_core.specs.Filled.{TreesFilled, covers, fields_of, given_at, spots, spots_at}
use Rattle.fa_core.specs.Ways.{Way, ways, to_root, given}
use Rattle.fa_core.specs.declared.faces.BoxFace.{BoxFace}
use Rattle.fa_core.specs.declared.faces.Face.{Face}
use Rattle.fa_core.specs.declared.forest.Forest.{Forest}
use Rattle.fa_core.proofs.FilledKept.{choice_with}
use Rattle.fa_core.proofs.Rearranging.{long_same}
use Rattle.fa_merge.proofs.Named.{choice_long, refers_below}
use Rattle.fa_merge.proofs.MergedCut.{choice_over}

-- the trees have one symbol at the top
abbrev pub SameTop : Tree → Tree → Type 0
SameTop t u = (out-Tree t).symbol ≡ (out-Tree u).symbol

-- the fields that box edges of the tree give to root n
abbrev pub gift : List BoxFace → ℕ → Tree → List ℕ
gift bs n t = flat_map (λ (w : Way). given bs w.steps) (to_root n (ways t))

-- u gives each root to which t refers as many fields
abbrev pub GiveAlike : List BoxFace → Tree → Tree → Type 0
GiveAlike bs t u = (n : ℕ) → RefersTo t n → length (gift bs n t) ≡ length (gift bs n u)

-- with another tree in one place
gifts_set : (bs : List BoxFace) (n : ℕ) (ts : List Tree) (r : ℕ) (t u : Tree) → slice_get ts r ≡ Some t
    → length (given_at bs (slice_set ts r u) n) + length (gift bs n t)
    ≡ length (given_at bs ts n) + length (gift bs n u)
gifts_set bs n [] r t u e = absurd (none-some t e)
gifts_set bs n (x ∷ ts) zero t u e =
    let a = length-append (gift bs n u) (given_at bs ts n) in
    let b = length-append (gift bs n x) (given_at bs ts n) in
    let c = ap (λ (z : Tree). length (gift bs n z)) (same_Some x t e) in
    omega (arith, a, b, c)
gifts_set bs n (x ∷ ts) (suc r) t u e =
    let a = length-append (gift bs n x) (given_at bs (slice_set ts r u) n) in
    let b = length-append (gift bs n x) (given_at bs ts n) in
    let c = gifts_set bs n ts r t u e in
    omega (arith, a, b, c)

-- what is given to a cell and what its slots cover are its fields
abbrev with_spots : List BoxFace → Tree → Tree × (List ℕ → List Spot)
with_spots bs t = (t, spots bs t)

top_counts : (face : Face) (tops : List ℕ) (s : ℕ) (t : Tree) (above : List ℕ) → (top : IsTopped s t)
    → Every (IsFilledSpot face tops) (spots face.boxes t above)
    → length (fields_of face.shapes.structs s) ≡ length (flat_map (covers face.boxes) top.1) + length above
top_counts face tops s t above top h =
    let x = out-Tree t in
    let e : spots face.boxes t above ≡ spots_at face.boxes x.symbol (map (with_spots face.boxes) x.children) above =
    ap (λ (z : Tree). spots face.boxes z above) (sym (roll-out-Tree t))
    ∙ ap (λ (g : List ℕ → List Spot). g above)
    (para-roll-Tree (List ℕ → List Spot) (λ x. spots_at face.boxes x.symbol x.children) (out-Tree t)) in
    let g : Every (IsFilledSpot face tops) (spots_at face.boxes (Cell s top.0 top.1)
    (map (with_spots face.boxes) x.children) above) =
    subst (λ (y : Symbol). Every (IsFilledSpot face tops) (spots_at face.boxes y
    (map (with_spots face.boxes) x.children) above)) top.2
    (subst (λ (z : List Spot). Every (IsFilledSpot face tops) z) e h) in
    long_same g.0.once ∙ length-append (flat_map (covers face.boxes) top.1) above

-- so two cells with one symbol are given as many
given_counts : (face : Face) (tops other : List ℕ) (s : ℕ) (t u : Tree) (above below : List ℕ) → IsTopped s t
    → SameTop t u → Every (IsFilledSpot face tops) (spots face.boxes t above)
    → Every (IsFilledSpot face other) (spots face.boxes u below) → length above ≡ length below
given_counts face tops other s t u above below top e h k =
    let a = top_counts face tops s t above top h in
    let b = top_counts face other s u below (top.0, top.1, sym e ∙ top.2) k in
    omega (arith, a, b)

-- place by place
as_many : (face : Face) (all more : List Tree) (tops other own : List ℕ) (k : ℕ) (ts us : List Tree) (n : ℕ)
    → n < length ts → TopsAre ts own → Paired SameTop ts us → TreesFilled face all tops k ts
    → TreesFilled face more other k us
    → length (given_at face.boxes all (k + n)) ≡ length (given_at face.boxes more (k + n))
as_many face all more tops other own k [] us n l a s h g = absurd (omega (arith, l))
as_many face all more tops other own k (t ∷ ts) [] n l a s h g = absurd s
as_many face all more tops other [] k (t ∷ ts) (u ∷ us) n l a s h g = absurd a
as_many face all more tops other (x ∷ own) k (t ∷ ts) (u ∷ us) zero l a s h g =
    let z : k ≡ k + 0 = omega arith in
    subst (λ (m : ℕ). length (given_at face.boxes all m) ≡ length (given_at face.boxes more m)) z
    (given_counts face tops other x t u (given_at face.boxes all k) (given_at face.boxes more k) a.0 s.0 h.0 g.0)
as_many face all more tops other (x ∷ own) k (t ∷ ts) (u ∷ us) (suc n) l a s h g =
    let z : suc k + n ≡ k + suc n = omega arith in
    subst (λ (m : ℕ). length (given_at face.boxes all m) ≡ length (given_at face.boxes more m)) z
    (as_many face all more tops other own (suc k) ts us n (omega (arith, l)) a.1 s.1 h.1 g.1)

-- Choices of trees that differ in one place.

tops_same : (ts : List Tree) → Paired SameTop ts ts
tops_same [] = tt
tops_same (t ∷ ts) = (refl, tops_same ts)

tops_set : (ts : List Tree) (r : ℕ) (t u : Tree) → slice_get ts r ≡ Some t → SameTop t u
    → Paired SameTop ts (slice_set ts r u)
tops_set [] r t u e s = tt
tops_set (x ∷ ts) zero t u e s = (ap (λ (z : Tree). (out-Tree z).symbol) (same_Some x t e) ∙ s, tops_same ts)
tops_set (x ∷ ts) (suc r) t u e s = (refl, tops_set ts r t u e s)

choice_set : (a b : Automaton) (r : ℕ) (xs ys : List Automaton) → PairedBut HasSameLanguage r a b xs ys
    → (ts : List Tree) → Choice xs ts → (u : Tree) → InLanguage b u → Choice ys (slice_set ts r u)
choice_set a b r [] ys h ts k u l = absurd h
choice_set a b r (x ∷ xs) [] h ts k u l = absurd h
choice_set a b zero (x ∷ xs) (y ∷ ys) h [] k u l = absurd k
choice_set a b (suc r) (x ∷ xs) (y ∷ ys) h [] k u l = absurd k
choice_set a b zero (x ∷ xs) (y ∷ ys) h (t ∷ ts) k u l =
    (subst (λ (z : Automaton). InLanguage z u) (sym h.1) l, choice_over xs ys ts h.2 k.1)
choice_set a b (suc r) (x ∷ xs) (y ∷ ys) h (t ∷ ts) k u l = ((h.0 t).0 k.0, choice_set a b r xs ys h.1 ts k.1 u l)

module _ (face : Face) (F G : Forest) (r : ℕ) (a b : Automaton) (there : slice_get F.autos r ≡ Some a)
    (others : PairedBut HasSameLanguage r a b F.autos G.autos) (f : IsSound face F) (g : IsFilled face G) where
  -- the law: the trees of both at that root give as much
  pub give_alike : (t u : Tree) → InLanguage a t → InLanguage b u → SameTop t u → GiveAlike face.boxes t u
  give_alike t u l m top n refers =
      let c = choice_with F.autos f.full r a t there l in
      let us = slice_set c.0 r u in
      let x : ChoiceFilled face F c.0 = f.well_formed.filled.trees c.0 c.1 in
      let y : ChoiceFilled face G us = g.trees us (choice_set a b r F.autos G.autos others c.0 c.1 u m) in
      let low : n < length c.0 =
      subst (λ (k : ℕ). n < k) (sym (choice_long F.autos c.0 c.1))
      (refers_below face F f.well_formed.filled c.0 c.1 r n t c.2 refers) in
      let many : length (given_at face.boxes c.0 (0 + n)) ≡ length (given_at face.boxes us (0 + n)) =
      as_many face c.0 us x.tops y.tops x.tops 0 c.0 us n low x.are (tops_set c.0 r t u c.2 top) x.cells y.cells in
      let set = gifts_set face.boxes n c.0 r t u c.2 in
      let z : 0 + n ≡ n = omega arith in
      let more : length (given_at face.boxes c.0 n) ≡ length (given_at face.boxes us n) =
      subst (λ (k : ℕ). length (given_at face.boxes c.0 k) ≡ length (given_at face.boxes us k)) z many in
      omega (arith, more, set)
