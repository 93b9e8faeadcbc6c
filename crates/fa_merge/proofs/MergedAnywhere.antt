-- A component merged into another at any root: both ways each dressed forest can be regrouped.
use Rattle.std.proofs.Common.{◌≡◌, ◌≢◌, ◌⊎◌, inl, inr, ℕ, zero, suc, ◌<◌, ◌≤◌, ◌+◌, Bool, true, false, true≢false}
use Rattle.std.proofs.Common.{if◌then◌else◌, nat_eq, length, List, [], ◌∷◌, ◌++◌, map, flat_map, refl, sym, ap, subst}
use Rattle.std.proofs.Common.{◌∙◌, slice_get, Some, not-suc-le-zero, le_of_suc-le-suc, arith}
use Rattle.std.proofs.lemmas.Bool.{eqb-true, eq-eqb}
use Rattle.std.proofs.lemmas.Option.{none-some, same_Some}
use Rattle.fore_base.specs.Lists.{IsIn, Every, IsDistinct}
use Rattle.fore_base.proofs.ListLemmas.{in_mapped, every_in, in_left, in_from_place}
use Rattle.ta_core.specs.Arity.{arity}
use Rattle.ta_core.specs.Auto.{Automaton, IsRanked, IsRankedRule}
use Rattle.ta_core.specs.Language.{InLanguage}
use Rattle.ta_core.specs.declared.auto.Rule.{Rule}
use Rattle.ta_core.specs.declared.symbol.Symbol.{Symbol}
use Rattle.ta_core.specs.declared.symbol.Symbol.TheVariants.{Null as NullSymbol, Uninit as UninitSymbol}
use Rattle.ta_core.specs.declared.symbol.Symbol.TheVariants.{Dangling as DanglingSymbol, Ref, Cell as CellSymbol}
use Rattle.fa_core.specs.declared.boxes.BoxDef.{BoxDef}
use Rattle.fa_core.specs.declared.forest.Forest.{Forest}
use Rattle.fa_core.specs.declared.forest.Target.{Target}
use Rattle.fa_core.specs.declared.forest.Target.TheVariants.{Null, Uninit, Dangling, At}
use Rattle.fa_core.specs.Dressed.{Node, refs, leaf_refs}
use Rattle.fa_core.specs.Member.{Regroups, bare, leaf_symbol}
use Rattle.fa_core.specs.Placed.{placed, placed_leaf, placed_symbol, placed_rule, placed_auto}
use Rattle.fa_core.specs.Rearranged.{Rearranged, keep, swap, chain}
use Rattle.fa_core.specs.References.{AllBelow, IsOnce, IsNever}
use Rattle.fa_core.proofs.Composed.{regroups_on}
use Rattle.fa_core.proofs.Permuted.{in_rearranged, distinct_moved}
use Rattle.fa_core.proofs.Placing.{in_placed, placed_ranked, refs_placed}
use Rattle.fa_core.proofs.Rearranging.{same, back}
use Rattle.fa_merge.specs.Merged.{others, last_order, to_last, merged_at}
use Rattle.fa_merge.specs.Reordered.{renumber, counted, place_from, place_of, reordered_by}
use Rattle.fa_sound.specs.Components.{component_at}
use Rattle.fa_merge.specs.inner.Lone.{TopsAreCells, IsLone}
use Rattle.fa_merge.specs.inner.Orders.{IsOrder}
use Rattle.fa_merge.proofs.MergedLast.{MeetsOnce, MeetsNever, MetIn, RootsBelow, merged_both}
use Rattle.fa_merge.proofs.OtherOrders.{counted_below, counted_differ, root_at, root_place, place_root, auto_again}
use Rattle.fa_merge.proofs.OtherOrders.{reorder_onto, reorder_back, get_mapped, mapped_length, order_length}
use Rattle.fa_merge.proofs.OtherOrders.{place_turned, place_below}

-- Places in a list

pub nat_cases : (k n : ℕ) → (k < n) ⊎ (n ≤ k)
nat_cases k zero = inr (omega arith)
nat_cases zero (suc n) = inl (omega arith)
nat_cases (suc k) (suc n) = elim (nat_cases k n) [ inl l ↦ inl (omega (arith, l)) | inr l ↦ inr (omega (arith, l)) ]

pub in_counted : (k n j : ℕ) → k ≤ j → j < k + n → IsIn j (counted k n)
in_counted k zero j a b = absurd (omega (arith, a, b))
in_counted k (suc n) j a b =
    elim (nat_cases k j) [
      | inl l ↦ inr (in_counted (suc k) n j (omega (arith, l)) (omega (arith, b)))
      | inr l ↦ inl
          (let e : j ≡ k = omega (arith, a, l) in e)
    ]

place_in : (i : ℕ) (xs : List ℕ) (k : ℕ) → IsIn k xs → (j : ℕ) × (place_from i xs k ≡ i + j) × (slice_get xs j ≡ Some k)
place_in i [] k h = absurd h
place_in i (x ∷ xs) k h = here (nat_eq x k) refl h (place_in (suc i) xs k)
  where
    here : (b : Bool) → nat_eq x k ≡ b → IsIn k (x ∷ xs)
        → (IsIn k xs → (j : ℕ) × (place_from (suc i) xs k ≡ suc i + j) × (slice_get xs j ≡ Some k)) → (j : ℕ)
        × ((if b then i else place_from (suc i) xs k) ≡ i + j) × (slice_get (x ∷ xs) j ≡ Some k)
    here true e h r = (0, omega arith, ap (λ (z : ℕ). Some z) (eqb-true x k e))
    here false e (inl w) r = absurd (true≢false (sym (eq-eqb x k (sym w)) ∙ e))
    here false e (inr w) r = let m = r w in (suc m.0, (let z = m.1 in omega (arith, z)), m.2)

place_out : (i : ℕ) (xs : List ℕ) (k : ℕ) → (IsIn k xs → ⊥) → place_from i xs k ≡ k
place_out i [] k h = refl
place_out i (x ∷ xs) k h = here (nat_eq x k) refl (place_out (suc i) xs k (λ w. h (inr w)))
  where
    here : (b : Bool) → nat_eq x k ≡ b → place_from (suc i) xs k ≡ k → (if b then i else place_from (suc i) xs k) ≡ k
    here true e r = absurd (h (inl (sym (eqb-true x k e))))
    here false e r = r

-- a list of the roots below n, each once, is an order
pub an_order : (n : ℕ) (order : List ℕ) → Rearranged order (counted 0 n) → IsOrder n (place_of order) order
an_order n order r = record { all = r; finds = λ k. there k (nat_cases k n) }
  where
    there : (k : ℕ) → (k < n) ⊎ (n ≤ k) → ((k < n) × (slice_get order (place_of order k) ≡ Some k))
        ⊎ ((n ≤ k) × (place_of order k ≡ k))
    there k (inl l) =
        let m = place_in 0 order k (in_rearranged k (back r) (in_counted 0 n k (omega arith) (omega (arith, l)))) in
        let e : place_of order k ≡ m.0 = (let z = m.1 in omega (arith, z)) in
        inl (l, rw e m.2)
    there k (inr l) =
        inr (
          l,
          place_out 0 order k
              (λ i.
              let w : k < n = every_in (λ j. j < n) (counted 0 n) k (counted_below 0 n n (omega arith))
              (in_rearranged k r i)
              in omega (arith, l, w)),
        )

others_same : (r : ℕ) (xs : List ℕ) → (IsIn r xs → ⊥) → others r xs ≡ xs
others_same r [] h = refl
others_same r (x ∷ xs) h = here (nat_eq x r) refl (others_same r xs (λ i. h (inr i)))
  where
    here : (b : Bool) → nat_eq x r ≡ b → others r xs ≡ xs → (if b then others r xs else x ∷ others r xs) ≡ x ∷ xs
    here true e k = absurd (h (inl (sym (eqb-true x r e))))
    here false e k = ap (λ (z : List ℕ). x ∷ z) k

pub push_last : {X : Type 0} (xs : List X) (x : X) → Rearranged (xs ++ (x ∷ [])) (x ∷ xs)
push_last [] x = same (x ∷ [])
push_last (y ∷ xs) x = chain (keep y (push_last xs x)) (swap y x xs)

pub others_last : (r : ℕ) (xs : List ℕ) → IsDistinct xs → IsIn r xs → Rearranged (others r xs ++ (r ∷ [])) xs
others_last r [] a h = absurd h
others_last r (x ∷ xs) a h = here (nat_eq x r) refl h (others_last r xs a.1)
  where
    here : (b : Bool) → nat_eq x r ≡ b → IsIn r (x ∷ xs) → (IsIn r xs → Rearranged (others r xs ++ (r ∷ [])) xs)
        → Rearranged ((if b then others r xs else x ∷ others r xs) ++ (r ∷ [])) (x ∷ xs)
    here true e h k =
        let w : x ≡ r = eqb-true x r e in
        rw (others_same r xs (λ i. a.0 (rw w i)), w) (push_last xs r)
    here false e (inl w) k = absurd (true≢false (sym (eq-eqb x r (sym w)) ∙ e))
    here false e (inr w) k = keep x (k w)

-- each of the others is not r, and is one of the list
pub others_in : (r : ℕ) (xs : List ℕ) (k : ℕ) → IsIn k (others r xs) → IsIn k xs × (k ≢ r)
others_in r [] k h = absurd h
others_in r (x ∷ xs) k h = here (nat_eq x r) refl h (others_in r xs k)
  where
    here : (b : Bool) → nat_eq x r ≡ b → IsIn k (if b then others r xs else x ∷ others r xs)
        → (IsIn k (others r xs) → IsIn k xs × (k ≢ r)) → IsIn k (x ∷ xs) × (k ≢ r)
    here true e h w = (inr (w h).0, (w h).1)
    here false e (inl z) w = (inl z, λ v. true≢false (sym (eq-eqb x r (sym z ∙ v)) ∙ e))
    here false e (inr h) w = (inr (w h).0, (w h).1)

pub last_is_order : (n r : ℕ) → r < n → IsOrder n (to_last n r) (last_order n r)
last_is_order n r l = an_order n (last_order n r)
    (others_last r (counted 0 n) (counted_differ 0 n) (in_counted 0 n r (omega arith) (omega (arith, l))))

-- References under the new numbers.

module _ (f : ℕ → ℕ) where
  pub numbers_mapped : (ks : List ℕ) → flat_map (λ k. leaf_refs (renumber f k)) ks ≡ map f ks
  numbers_mapped [] = refl
  numbers_mapped (k ∷ ks) = ap (λ (z : List ℕ). f k ∷ z) (numbers_mapped ks)

  pub refs_renumbered : (n : Node) → refs (placed (renumber f) n) ≡ map f (refs n)
  refs_renumbered n = refs_placed (renumber f) n ∙ numbers_mapped (refs n)

  abbrev IsLeafSymbol : Symbol → Type 0
  IsLeafSymbol NullSymbol = Unit {0}
  IsLeafSymbol UninitSymbol = Unit {0}
  IsLeafSymbol DanglingSymbol = Unit {0}
  IsLeafSymbol (Ref k) = Unit {0}
  IsLeafSymbol (CellSymbol s ds ss) = ⊥

  is_leaf : (y : Target) → IsLeafSymbol (leaf_symbol y)
  is_leaf Null = tt
  is_leaf Uninit = tt
  is_leaf Dangling = tt
  is_leaf (At k) = tt

  leaf_before : (y : Symbol) → IsLeafSymbol (placed_symbol (renumber f) y) → (u : Target) × (y ≡ leaf_symbol u)
  leaf_before NullSymbol h = (Null, refl)
  leaf_before UninitSymbol h = (Uninit, refl)
  leaf_before DanglingSymbol h = (Dangling, refl)
  leaf_before (Ref k) h = (At k, refl)
  leaf_before (CellSymbol s ds ss) h = absurd h

  pub renumbered_tops : (a : Automaton) → TopsAreCells a → TopsAreCells (placed_auto (renumber f) a)
  renumbered_tops a h o i j y e =
      let m = in_mapped (placed_rule (renumber f)) o a.rules i in
      let z : IsLeafSymbol (placed_symbol (renumber f) m.0.symbol) =
      subst IsLeafSymbol (sym e ∙ ap (λ (x : Rule). x.symbol) m.2) (is_leaf y) in
      let u = leaf_before m.0.symbol z in
      h m.0 m.1 (rw (ap (λ (x : Rule). x.state) m.2) at j) u.0 u.1

-- Lists of lists

get_left : {X : Type 0} (xs ys : List X) (j : ℕ) (x : X) → slice_get (xs ++ ys) j ≡ Some x → j < length xs
    → slice_get xs j ≡ Some x
get_left [] ys j x e l = absurd (not-suc-le-zero l)
get_left (y ∷ xs) ys zero x e l = e
get_left (y ∷ xs) ys (suc j) x e l = get_left xs ys j x e (le_of_suc-le-suc l)

get_last : {X : Type 0} (xs : List X) (x : X) → slice_get (xs ++ (x ∷ [])) (length xs) ≡ Some x
get_last [] x = refl
get_last (y ∷ xs) x = get_last xs x

length_last : {X : Type 0} (xs : List X) (x : X) → length (xs ++ (x ∷ [])) ≡ suc (length xs)
length_last [] x = refl
length_last (y ∷ xs) x = ap (λ k. suc k) (length_last xs x)

pub autos_last : (h : ℕ → Automaton) (xs : List ℕ) (r : ℕ) → map h (xs ++ (r ∷ [])) ≡ map h xs ++ (h r ∷ [])
autos_last h [] r = refl
autos_last h (x ∷ xs) r = ap (λ (z : List Automaton). h x ∷ z) (autos_last h xs r)

differ_left : (xs ys : List ℕ) → IsDistinct (xs ++ ys) → IsDistinct xs
differ_left [] ys a = tt
differ_left (x ∷ xs) ys a = ((λ i. a.0 (in_left x xs ys i)), differ_left xs ys a.1)

below_never : (m : ℕ) (ks : List ℕ) → AllBelow (suc m) ks → IsNever m ks → AllBelow m ks
below_never m [] h k = tt
below_never m (x ∷ xs) h k =
    let d : x ≢ m = (λ e. true≢false (sym (eq-eqb m x (sym e)) ∙ k.0)) in
    let l = h.0 in
    (omega (arith, d, l), below_never m xs h.1 k.1)

module _ (g : ℕ → ℕ) (r s : ℕ) (one : (k : ℕ) → nat_eq s k ≡ nat_eq r (g k)) where
  never_back : (ks : List ℕ) → IsNever r (map g ks) → IsNever s ks
  never_back [] h = tt
  never_back (k ∷ ks) h = (one k ∙ h.0, never_back ks h.1)

  once_back : (ks : List ℕ) → IsOnce r (map g ks) → IsOnce s ks
  once_back [] h = absurd h
  once_back (k ∷ ks) (inl h) = inl (one k ∙ h.0, never_back ks h.1)
  once_back (k ∷ ks) (inr h) = inr (one k ∙ h.0, once_back ks h.1)

-- the component at place j meets r once, the others never
met_in : (R : ℕ) (h : ℕ → Automaton) (i : ℕ) (ks : List ℕ) (j : ℕ) → IsDistinct ks → slice_get ks j ≡ Some i
    → MeetsOnce R (h i) → ((k : ℕ) → IsIn k ks → k ≢ i → MeetsNever R (h k)) → MetIn R j (map h ks)
met_in R h i [] j a e o n = absurd (none-some i e)
met_in R h i (k ∷ ks) zero a e o n =
    let w : k ≡ i = same_Some k i e in
    (rw w o, rest ks (λ m x. n m (inr x) (λ v. a.0 (rw (sym w) at (rw v at x)))))
  where
    rest : (ms : List ℕ) → ((m : ℕ) → IsIn m ms → MeetsNever R (h m)) → Every (MeetsNever R) (map h ms)
    rest [] p = tt
    rest (m ∷ ms) p = (p m (inl refl), rest ms (λ z x. p z (inr x)))
met_in R h i (k ∷ ks) (suc j) a e o n =
    (n k (inl refl) (λ v. a.0 (rw (sym v) at (in_from_place ks j i e))), met_in R h i ks j a.1 e o (λ m x. n m (inr x)))

roots_below : (f : ℕ → ℕ) (m : ℕ) (us : List Target) → ((k : ℕ) → IsIn (At k) us → f k < m)
    → RootsBelow m (map (placed_leaf (renumber f)) us)
roots_below f m [] h = tt
roots_below f m (Null ∷ us) h = roots_below f m us (λ k i. h k (inr i))
roots_below f m (Uninit ∷ us) h = roots_below f m us (λ k i. h k (inr i))
roots_below f m (Dangling ∷ us) h = roots_below f m us (λ k i. h k (inr i))
roots_below f m (At k ∷ us) h = (h k (inl refl), roots_below f m us (λ k i. h k (inr i)))

pub no_children : (a : Automaton) → IsRanked a → (r : ℕ) (x : Rule) → IsIn x a.rules → x.symbol ≡ Ref r
    → x.children ≡ []
no_children a p r x i e = none x.children ((every_in (IsRankedRule a.states) a.rules x p.1 i).2 ∙ ap arity e)
  where
    none : (qs : List ℕ) → length qs ≡ 0 → qs ≡ []
    none [] h = refl
    none (q ∷ qs) h = let z : suc (length qs) ≡ 0 = h in absurd (omega (arith, z))

module _ (F : Forest) (r i : ℕ) (h : IsLone F r i) where
  abbrev pub size : ℕ
  size = length F.autos

  abbrev pub f : ℕ → ℕ
  f = to_last size r

  abbrev pub rest : List ℕ
  rest = others r (counted 0 size)

  abbrev order : List ℕ
  order = last_order size r

  pub is : IsOrder size f order
  is = last_is_order size r h.root

  abbrev g : ℕ → ℕ
  g = root_at size f order is

  abbrev pub new : ℕ → Automaton
  new k = placed_auto (renumber f) (component_at F.autos k)

  abbrev pub others_new : List Automaton
  others_new = map new rest

  abbrev turned : Forest
  turned = reordered_by f order F

  rest_length : suc (length rest) ≡ size
  rest_length = sym (length_last rest r) ∙ order_length size f order is

  last_place : f r ≡ length rest
  last_place = place_root size f order is (length rest) r (get_last rest r)

  pub last_new : f r ≡ length others_new
  last_new = last_place ∙ sym (mapped_length new rest)

  one : (k : ℕ) → nat_eq (f r) k ≡ nat_eq r (g k)
  one k = here (nat_eq r (g k)) refl (nat_eq (f r) k) refl
    where
      here : (b : Bool) → nat_eq r (g k) ≡ b → (c : Bool) → nat_eq (f r) k ≡ c → c ≡ b
      here true e true w = refl
      here false e false w = refl
      here true e false w = absurd
          (true≢false (sym (eq-eqb (f r) k (ap f (eqb-true r (g k) e) ∙ place_turned size f order is k)) ∙ w))
      here false e true w = absurd
          (true≢false (sym (eq-eqb r (g k) (sym (root_place size f order is r) ∙ ap g (eqb-true (f r) k w))) ∙ e))

  -- a tree with the new numbers is one with the old
  before : (k : ℕ) (n : Node) → InLanguage (new k) (bare n)
      → InLanguage (component_at F.autos k) (bare (placed (renumber g) n))
  before k n w = let z = in_placed (renumber g) (new k) n w in
      subst (λ (a : Automaton). InLanguage a (bare (placed (renumber g) n)))
      (auto_again f g (root_place size f order is) (component_at F.autos k)) z

  below_new : (ks : List ℕ) → AllBelow size (map g ks) → AllBelow size ks
  below_new [] w = tt
  below_new (k ∷ ks) w = (
    let l : f (g k) < size = place_below size f order is (g k) w.0 in rw (place_turned size f order is k) at l,
    below_new ks w.1,
  )

  pub size_is : suc (f r) ≡ size
  size_is = ap (λ m. suc m) last_place ∙ rest_length

  pub refers_new : (k : ℕ) (n : Node) → k < size → InLanguage (new k) (bare n) → AllBelow (suc (f r)) (refs n)
  refers_new k n l w =
      let z : AllBelow size (refs (placed (renumber g) n)) = h.refers k (placed (renumber g) n) l (before k n w) in
      rw size_is (below_new (refs n) (rw (refs_renumbered g n) at z))

  pub once_new : (n : Node) → InLanguage (new i) (bare n) → IsOnce (f r) (refs n)
  once_new n w =
      let z : IsOnce r (refs (placed (renumber g) n)) = h.once (placed (renumber g) n) (before i n w) in
      once_back g r (f r) one (refs n) (rw (refs_renumbered g n) at z)

  never_new : (k : ℕ) (n : Node) → k < size → k ≢ i → InLanguage (new k) (bare n) → IsNever (f r) (refs n)
  never_new k n l d w =
      let z : IsNever r (refs (placed (renumber g) n)) = h.never k (placed (renumber g) n) l d (before k n w) in
      never_back g r (f r) one (refs n) (rw (refs_renumbered g n) at z)

  pub place_less : (k : ℕ) → k < size → k ≢ r → f k < f r
  place_less k l d =
      let a = place_below size f order is k l in
      let b = size_is in
      let c : f k ≢ f r = (λ e. d (sym (root_place size f order is k) ∙ ap g e ∙ root_place size f order is r)) in
      omega (arith, a, b, c)

  pub at_place : slice_get rest (f i) ≡ Some i
  at_place =
      let l : f i < length rest = (let a = place_less i h.into h.apart in rw last_place at a) in
      get_left rest (r ∷ []) (f i) i (found (is.finds i)) l
    where
      found : ((i < size) × (slice_get order (f i) ≡ Some i)) ⊎ ((size ≤ i) × (f i ≡ i)) → slice_get order (f i)
          ≡ Some i
      found (inl w) = w.1
      found (inr w) = let a = w.0 in let b = h.into in absurd (omega (arith, a, b))

  pub rest_differ : IsDistinct rest
  rest_differ = differ_left rest (r ∷ []) (distinct_moved (back is.all) (counted_differ 0 size))

  met : MetIn (f r) (f i) others_new
  met = met_in (f r) new i rest (f i) rest_differ at_place (λ n w. (once_new n w, refers_new i n h.into w))
      (λ k x d n w.
      (let l : k < size = every_in (λ j. j < size) (counted 0 size) k (counted_below 0 size size (omega arith))
      (others_in r (counted 0 size) k x).0 in (never_new k n l d w, refers_new k n l w)))

  pub alone : (n : Node) → InLanguage (new r) (bare n) → AllBelow (f r) (refs n)
  alone n w = below_never (f r) (refs n) (refers_new r n h.root w) (never_new r n h.root (λ e. h.apart (sym e)) w)

  nth_ranked : (autos : List Automaton) (k : ℕ) → Every IsRanked autos → IsRanked (component_at autos k)
  nth_ranked [] k p = (tt, tt)
  nth_ranked (a ∷ autos) zero p = p.0
  nth_ranked (a ∷ autos) (suc k) p = nth_ranked autos k p.1

  pub new_ranked : (k : ℕ) → IsRanked (new k)
  new_ranked k = placed_ranked (renumber f) (component_at F.autos k) (nth_ranked F.autos k h.ranked)

  -- the turned forest, merged at its last root
  turned_both : (T : List BoxDef) → Regroups T (merged_at r i F) turned × Regroups T turned (merged_at r i F)
  turned_both T = merged_both T turned others_new (f i) (new i) (new r) (autos_last new rest r)
      (get_mapped new rest (f i) i at_place) (new_ranked i).1 (new_ranked i).0
      (renumbered_tops f (component_at F.autos r) (h.tops r h.root))
      (λ o x j. renumbered_tops f (component_at F.autos i) (h.tops i h.into) o x j (At (length others_new)))
      (λ x j e. no_children (new i) (new_ranked i) (length others_new) x j e)
      (subst (λ (m : ℕ). MetIn m (f i) others_new) last_new met)
      (subst (λ (m : ℕ). (n : Node) → InLanguage (new r) (bare n) → AllBelow m (refs n)) last_new alone)
      (subst (λ (m : ℕ). RootsBelow m (map (placed_leaf (renumber f)) F.vars)) last_new
      (roots_below f (f r) F.vars (λ k x. place_less k (h.vars k x).0 (h.vars k x).1)))

  -- merged at any root: each dressed forest has its graft
  pub merge_any : (T : List BoxDef) → Regroups T (merged_at r i F) F
  merge_any T = regroups_on T (merged_at r i F) turned F (turned_both T).0 (reorder_onto T F f order is)

  -- and the other way
  pub unmerge_any : (T : List BoxDef) → Regroups T F (merged_at r i F)
  unmerge_any T = regroups_on T F turned (merged_at r i F) (reorder_back F f order is T) (turned_both T).1
