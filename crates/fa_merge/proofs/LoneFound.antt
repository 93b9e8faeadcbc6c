-- A root that can be merged: by the signatures one component refers to it, each tree of it once, and no other does.
use Rattle.std.proofs.Common.{◌≡◌, ◌≢◌, ℕ, zero, suc, ◌<◌, ◌≤◌, ◌+◌, Bool, true, false, true≢false, nat_eq, length}
use Rattle.std.proofs.Common.{List, [], ◌∷◌, flat_map, refl, sym, ap, subst, ◌∙◌, slice_get, Some, length-append, arith}
use Rattle.std.specs.Bool.{MatchBool}
use Rattle.std.proofs.lemmas.Bool.{eqb-true, eq-eqb}
use Rattle.std.proofs.lemmas.Option.{none-some, same_Some}
use Rattle.fore_base.specs.Lists.{IsIn, Every}
use Rattle.fore_base.proofs.ListLemmas.{every_in, in_mapped, in_map}
use Rattle.ta_core.specs.Arity.{arity}
use Rattle.ta_core.specs.Auto.{Automaton, IsRanked, IsRankedRule}
use Rattle.ta_core.specs.Language.{InLanguage}
use Rattle.ta_core.specs.declared.tree.Tree.{Tree}
use Rattle.fa_core.specs.declared.faces.BoxFace.{BoxFace}
use Rattle.fa_core.specs.declared.faces.Face.{Face}
use Rattle.fa_core.specs.declared.forest.Forest.{Forest}
use Rattle.fa_core.specs.declared.forest.Target.{Target}
use Rattle.fa_core.specs.declared.forest.Target.TheVariants.{Null, Uninit, Dangling, At}
use Rattle.fa_core.specs.declared.signature.RefMark.{RefMark}
use Rattle.fa_core.specs.declared.signature.Signature.{Signature}
use Rattle.fa_core.specs.Canonical.{RefersTo, references}
use Rattle.fa_core.specs.Cells.{roots_in}
use Rattle.fa_core.specs.Dressed.{Node, leaf, refs}
use Rattle.fa_core.specs.Filled.{Choice, HasSome, IsSound}
use Rattle.fa_core.specs.Member.{bare, bare_end, leaf_symbol}
use Rattle.fa_core.specs.Rearranged.{often}
use Rattle.fa_core.specs.References.{IsOnce, IsNever, tree_refs}
use Rattle.fa_core.specs.Ways.{ways, to_root, mark, has}
use Rattle.fa_core.proofs.Counts.{once_often, never_often, often_in, often_out}
use Rattle.fa_core.proofs.Dressing.{IsCellSymbol, leaf_is_no_cell, leaf_top}
use Rattle.fa_core.proofs.FilledKept.{choice_with, top_of_filled, refs_of_filled}
use Rattle.fa_core.proofs.NodeRuns.{end_bare}
use Rattle.fa_core.proofs.PlainWays.{to_often}
use Rattle.fa_core.proofs.WaysOf.{tree_roots}
use Rattle.fa_merge.specs.Merged.{CanMerge, Refers}
use Rattle.fa_sound.specs.Components.{component_at}
use Rattle.fa_merge.specs.Signed.{IsSignatureOf}
use Rattle.fa_merge.specs.inner.Lone.{AllRefer, NoneRefer, IsReferrer, TopsAreCells, IsLone}
use Rattle.fa_back.proofs.RootMarks.{has_in, in_has, in_mark, mark_in}
use Rattle.fa_back.proofs.Dressable.{some_choice}
use Rattle.fa_merge.proofs.Named.{var_below}
use Rattle.fa_merge.proofs.PlacedForests.{component_has}
use Rattle.fa_sound.proofs.ComponentLemmas.{component_got}

-- References among the trees of a choice, tree by tree.

abbrev in_tree : ℕ → Tree → ℕ
in_tree r t = length (to_root r (ways t))

one_of_them : (r : ℕ) (ts : List Tree) (i : ℕ) (t : Tree) → slice_get ts i ≡ Some t → in_tree r t ≤ references ts r
one_of_them r [] i t e = absurd (none-some t e)
one_of_them r (u ∷ ts) zero t e =
    let sum : references (u ∷ ts) r ≡ in_tree r u + references ts r =
    length-append (to_root r (ways u)) (flat_map (λ (t : Tree). to_root r (ways t)) ts) in
    let same : in_tree r u ≡ in_tree r t = ap (in_tree r) (same_Some u t e) in
    omega (arith, sum, same)
one_of_them r (u ∷ ts) (suc i) t e =
    let sum : references (u ∷ ts) r ≡ in_tree r u + references ts r =
    length-append (to_root r (ways u)) (flat_map (λ (t : Tree). to_root r (ways t)) ts) in
    let rest = one_of_them r ts i t e in
    omega (arith, sum, rest)

two_of_them : (r : ℕ) (ts : List Tree) (i k : ℕ) (t u : Tree) → i ≢ k → slice_get ts i ≡ Some t
    → slice_get ts k ≡ Some u → in_tree r t + in_tree r u ≤ references ts r
two_of_them r [] i k t u d e f = absurd (none-some t e)
two_of_them r (v ∷ ts) zero zero t u d e f = absurd (d refl)
two_of_them r (v ∷ ts) zero (suc k) t u d e f =
    let sum : references (v ∷ ts) r ≡ in_tree r v + references ts r =
    length-append (to_root r (ways v)) (flat_map (λ (t : Tree). to_root r (ways t)) ts) in
    let same : in_tree r v ≡ in_tree r t = ap (in_tree r) (same_Some v t e) in
    let rest = one_of_them r ts k u f in
    omega (arith, sum, same, rest)
two_of_them r (v ∷ ts) (suc i) zero t u d e f =
    let sum : references (v ∷ ts) r ≡ in_tree r v + references ts r =
    length-append (to_root r (ways v)) (flat_map (λ (t : Tree). to_root r (ways t)) ts) in
    let same : in_tree r v ≡ in_tree r u = ap (in_tree r) (same_Some v u f) in
    let rest = one_of_them r ts i t e in
    omega (arith, sum, same, rest)
two_of_them r (v ∷ ts) (suc i) (suc k) t u d e f =
    let sum : references (v ∷ ts) r ≡ in_tree r v + references ts r =
    length-append (to_root r (ways v)) (flat_map (λ (t : Tree). to_root r (ways t)) ts) in
    let rest = two_of_them r ts i k t u (λ z. d (ap (λ (n : ℕ). suc n) z)) e f in
    omega (arith, sum, rest)

none_of_them : (r : ℕ) (ts : List Tree) → ((i : ℕ) (t : Tree) → slice_get ts i ≡ Some t → RefersTo t r → ⊥)
    → references ts r ≡ 0
none_of_them r [] h = refl
none_of_them r (t ∷ ts) h =
    let sum : references (t ∷ ts) r ≡ in_tree r t + references ts r =
    length-append (to_root r (ways t)) (flat_map (λ (t : Tree). to_root r (ways t)) ts) in
    let own : in_tree r t ≡ 0 = none_here (tree_refs t) (λ i. h 0 t refl i) (to_often r (ways t)) in
    let rest : references ts r ≡ 0 = none_of_them r ts (λ i u e. h (suc i) u e) in
    omega (arith, sum, own, rest)
  where
    none_here : (ks : List ℕ) → (IsIn r ks → ⊥) → in_tree r t ≡ often r ks → in_tree r t ≡ 0
    none_here ks h e = e ∙ often_out r ks h

-- the tree at a place of a choice
pub choice_at : (autos : List Automaton) (ts : List Tree) (i : ℕ) → Choice autos ts → i < length autos → (t : Tree)
    × (slice_get ts i ≡ Some t) × InLanguage (component_at autos i) t
choice_at [] ts i c l = absurd (omega (arith, l))
choice_at (a ∷ autos) [] i c l = absurd c
choice_at (a ∷ autos) (t ∷ ts) zero c l = (t, refl, c.0)
choice_at (a ∷ autos) (t ∷ ts) (suc i) c l = choice_at autos ts i c.1 (omega (arith, l))

pub choice_component : (autos : List Automaton) (ts : List Tree) (i : ℕ) (t : Tree) → Choice autos ts
    → slice_get ts i ≡ Some t → (i < length autos) × InLanguage (component_at autos i) t
choice_component [] [] i t c e = absurd (none-some t e)
choice_component [] (u ∷ ts) i t c e = absurd c
choice_component (a ∷ autos) [] i t c e = absurd c
choice_component (a ∷ autos) (u ∷ ts) zero t c e =
    (omega arith, subst (λ (z : Tree). InLanguage a z) (same_Some u t e) c.0)
choice_component (a ∷ autos) (u ∷ ts) (suc i) t c e = let k = choice_component autos ts i t c.1 e in
    (let l = k.0 in omega (arith, l), k.1)

-- what holds below n and of n holds below the next number
pub below_or_last : (P : ℕ → Type 0) (n : ℕ) → ((k : ℕ) → k < n → P k) → P n → (k : ℕ) → k < n + 1 → P k
below_or_last P n h p k l = here (nat_eq k n) refl
  where
    here : (b : Bool) → nat_eq k n ≡ b → P k
    here true e = subst P (sym (eqb-true k n e)) p
    here false e = (let d : k ≢ n = (λ z. true≢false (sym (eq-eqb k n z) ∙ e)) in h k (omega (arith, l, d)))

-- What a signature says of the trees.

pub named_refer : (bs : List BoxFace) (a : Automaton) (s : Signature) (r : ℕ) → IsSignatureOf bs a s
    → has r (roots_in s.refs) ≡ true → AllRefer a r
named_refer bs a s r h e t i =
    let m = in_mapped (λ (m : RefMark). m.root) r s.refs (has_in r (roots_in s.refs) e) in
    let k = in_mark bs t m.0 (subst (λ (ms : List RefMark). IsIn m.0 ms) (sym (h t i)) m.1) in
    subst (λ (n : ℕ). RefersTo t n) (sym (m.2 ∙ ap (λ (x : RefMark). x.root) k.2)) k.1

pub unnamed_refer : (bs : List BoxFace) (a : Automaton) (s : Signature) (r : ℕ) → IsSignatureOf bs a s
    → has r (roots_in s.refs) ≡ false → NoneRefer a r
unnamed_refer bs a s r h e t i w =
    true≢false
    (sym
    (in_has r (roots_in s.refs)
    (in_map (λ (m : RefMark). m.root) (mark bs (ways t) r) s.refs
    (subst (λ (ms : List RefMark). IsIn (mark bs (ways t) r) ms) (h t i) (mark_in bs t r w)))) ∙ e)

pub refer_or_not : (bs : List BoxFace) (a : Automaton) (s : Signature) (r : ℕ) (yes_or_no : Bool) → IsSignatureOf bs a s
    → yes_or_no ≡ has r (roots_in s.refs) → MatchBool yes_or_no (AllRefer a r) (NoneRefer a r)
refer_or_not bs a s r true h e = named_refer bs a s r h (sym e)
refer_or_not bs a s r false h e = unnamed_refer bs a s r h (sym e)

-- a root whose trees refer, by its component and by choices
pub refers_of : (F : Forest) (r i : ℕ) → IsReferrer F r i → Refers F i r
refers_of F r i h = record { there = h.0; refer = λ ts t c e. h.1 t (choice_component F.autos ts i t c e).1 }

pub referrer_of : (F : Forest) (r i : ℕ) → Every HasSome F.autos → Refers F i r → IsReferrer F r i
referrer_of F r i full h = (
  h.there,
  λ t w. (let c = choice_with F.autos full i (component_at F.autos i) t (component_got F.autos i h.there) w in
      h.refer c.0 t c.1 c.2),
)

module _ (face : Face) (F : Forest) (r : ℕ) (sound : IsSound face F) (ranked : Every IsRanked F.autos)
    (can : CanMerge F r) where
  with_tree : (k : ℕ) → k < length F.autos → (t : Tree) → InLanguage (component_at F.autos k) t → (ts : List Tree)
      × Choice F.autos ts × (slice_get ts k ≡ Some t)
  with_tree k l t h = choice_with F.autos sound.full k (component_at F.autos k) t (component_got F.autos k l) h

  tops_cells : (k : ℕ) → k < length F.autos → TopsAreCells (component_at F.autos k)
  tops_cells k l o i j y e =
      let a = component_at F.autos k in
      let ranks = every_in (IsRankedRule a.states) a.rules o (component_has IsRanked F.autos k ranked l).1 i in
      let none : o.children ≡ [] = no_items o.children (ranks.2 ∙ ap arity e ∙ leaf_arity y) in
      let t = top_of_filled face F sound.well_formed.filled sound.full k a (bare_end (leaf y))
      (component_got F.autos k l) (o.state, j, end_bare a.rules o.state (leaf y) (o, i, refl, e, none)) in
      leaf_is_no_cell y (subst IsCellSymbol (sym (sym (leaf_top y) ∙ t.1.2)) tt)
    where
      no_items : (qs : List ℕ) → length qs ≡ 0 → qs ≡ []
      no_items [] h = refl
      no_items (q ∷ qs) h = let z : suc (length qs) ≡ 0 = h in absurd (omega (arith, z))

      leaf_arity : (u : Target) → arity (leaf_symbol u) ≡ 0
      leaf_arity Null = refl
      leaf_arity Uninit = refl
      leaf_arity Dangling = refl
      leaf_arity (At k) = refl

  refs_often : (n : Node) → in_tree r (bare n) ≡ often r (refs n)
  refs_often n = to_often r (ways (bare n)) ∙ ap (often r) (tree_roots n)

  module _ (i : ℕ) (into : i < length F.autos) (refer : AllRefer (component_at F.autos i) r) where
    at_least : (t : Tree) → InLanguage (component_at F.autos i) t → 1 ≤ in_tree r t
    at_least t h =
        let a : 1 ≤ often r (tree_refs t) = often_in r (tree_refs t) (refer t h) in
        let b : in_tree r t ≡ often r (tree_refs t) = to_often r (ways t) in
        omega (arith, a, b)

    lone_apart : i ≢ r
    lone_apart e =
        let c = some_choice F.autos sound.full in
        let t = choice_at F.autos c.0 i c.1 into in
        can.other c.0 t.0 c.1 (subst (λ (n : ℕ). slice_get c.0 n ≡ Some t.0) e t.1) (refer t.0 t.2)

    lone_once : (n : Node) → InLanguage (component_at F.autos i) (bare n) → IsOnce r (refs n)
    lone_once n h =
        let c = with_tree i into (bare n) h in
        let one = can.one c.0 c.1 in
        let most = one_of_them r c.0 i (bare n) c.2 in
        let least = at_least (bare n) h in
        let same = refs_often n in
        once_often r (refs n) (omega (arith, one, most, least, same))

    lone_never : (k : ℕ) (n : Node) → k < length F.autos → k ≢ i → InLanguage (component_at F.autos k) (bare n)
        → IsNever r (refs n)
    lone_never k n l d h =
        let c = with_tree k l (bare n) h in
        let t = choice_at F.autos c.0 i c.1 into in
        let one = can.one c.0 c.1 in
        let most = two_of_them r c.0 i k t.0 (bare n) (λ e. d (sym e)) t.1 c.2 in
        let least = at_least t.0 t.2 in
        let same = refs_often n in
        never_often r (refs n) (omega (arith, one, most, least, same))

    pub lone_found : IsLone F r i
    lone_found = record {
      root = can.root;
      into = into;
      apart = lone_apart;
      ranked = ranked;
      tops = tops_cells;
      refers = λ k n l h. refs_of_filled face F sound.well_formed.filled sound.full k (component_at F.autos k) n
          (component_got F.autos k l) h;
      once = lone_once;
      never = lone_never;
      vars =
          λ k x.
          (let c = some_choice F.autos sound.full in (
            var_below face F sound.well_formed.filled c.0 c.1 k x,
            λ e. can.no_var (subst (λ (n : ℕ). IsIn (At n) F.vars) e x),
          ));
    }

  -- some component refers to it
  pub some_refers : ((k : ℕ) → k < length F.autos → NoneRefer (component_at F.autos k) r) → ⊥
  some_refers h =
      let c = some_choice F.autos sound.full in
      let one = can.one c.0 c.1 in
      let none = none_of_them r c.0 (λ i t e w. (let k = choice_component F.autos c.0 i t c.1 e in h i k.0 t k.1 w)) in
      omega (arith, one, none)

-- the same where the trees of root i refer to it
pub lone_refers : (face : Face) (F : Forest) (r i : ℕ) → IsSound face F → Every IsRanked F.autos → CanMerge F r
    → Refers F i r → IsLone F r i
lone_refers face F r i sound ranked can h = let k = referrer_of F r i sound.full h in
    lone_found face F r sound ranked can i k.0 k.1
