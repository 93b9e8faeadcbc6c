-- What the walk places: each root that is reached, each once. It gives one order.
use Rattle.std.proofs.Common.{◌≡◌, ◌≢◌, ◌⊎◌, inl, inr, ℕ, ◌<◌, ◌≤◌, List, [], ◌∷◌, ◌++◌, refl, sym, subst}
use Rattle.std.proofs.Common.{◌∙◌, append_assoc, append-nil, arith}
use Rattle.fore_base.specs.Lists.{IsIn, IsDistinct}
use Rattle.fore_base.proofs.ListLemmas.{in_left, in_right, in_push, in_last, every_push, every_in, distinct_push}
use Rattle.fa_core.specs.Rearranged.{Rearranged, empty, keep, chain}
use Rattle.fa_core.specs.References.{AllBelow}
use Rattle.fa_core.proofs.Counts.{below_both, in_or_out}
use Rattle.fa_core.proofs.Permuted.{distinct_moved, in_rearranged}
use Rattle.fa_core.proofs.Rearranging.{back}
use Rattle.fa_merge.specs.Merged.{others}
use Rattle.fa_merge.specs.Reordered.{counted, place_of}
use Rattle.fa_merge.proofs.MergedAnywhere.{in_counted, push_last, others_last, others_in}
use Rattle.fa_merge.proofs.OtherOrders.{counted_differ}
use Rattle.fa_order.specs.Placing.{
  IsOpenAt,
  NoneOpen,
  IsLowestOpen,
  GivesLeast,
  IsFirstLed,
  IsLedOn,
  GoesOnFrom,
  IsStuck,
}
use Rattle.fa_order.specs.Placing.{PlacingOn, all_placed, stuck, is_placed, place_now, goes_on}
use Rattle.fa_order.proofs.Places.{counted_is_below, one_place}

-- it is decided whether a way back leads to a root
abbrev pub IsDecided : (ℕ → ℕ → ℕ → Type 0) → Type 0
IsDecided Leads = (i j r : ℕ) → Leads i j r ⊎ (Leads i j r → ⊥)

-- each field is given to a root by one tree at most
abbrev pub IsGivenOnce : (ℕ → ℕ → ℕ → Type 0) → Type 0
IsGivenOnce Gives = (i j k f : ℕ) → Gives i j f → Gives i k f → j ≡ k

-- a way back into a tree gives a field
abbrev pub IsBackGiving : (ℕ → ℕ → ℕ → Type 0) → (ℕ → ℕ → ℕ → Type 0) → Type 0
IsBackGiving Leads Gives = (i j r : ℕ) → Leads i j r → (f : ℕ) × Gives i j f

both_ways : (m n : ℕ) → m ≤ n → n ≤ m → m ≡ n
both_ways m n a b = omega (arith, a, b)

-- Lists with the same items, each once.

pub same_items : (xs ys : List ℕ) → IsDistinct xs → IsDistinct ys → ((k : ℕ) → IsIn k xs → IsIn k ys)
    → ((k : ℕ) → IsIn k ys → IsIn k xs) → Rearranged xs ys
same_items [] [] a b f g = empty
same_items [] (y ∷ ys) a b f g = absurd (g y (inl refl))
same_items (x ∷ xs) ys a b f g =
    let r : Rearranged (x ∷ others x ys) ys =
    chain (back (push_last (others x ys) x)) (others_last x ys b (f x (inl refl))) in
    let c : IsDistinct (x ∷ others x ys) = distinct_moved (back r) b in
    chain
    (keep x
    (same_items xs (others x ys) a.1 c.1
    (λ k j. there k (in_rearranged k (back r) (f k (inr j))) (λ e. a.0 (subst (λ (z : ℕ). IsIn z xs) e j)))
    (λ k j. before k (others_in x ys k j)))) r
  where
    there : (k : ℕ) → IsIn k (x ∷ others x ys) → (k ≡ x → ⊥) → IsIn k (others x ys)
    there k (inl e) n = absurd (n e)
    there k (inr i) n = i

    before : (k : ℕ) → IsIn k ys × (k ≢ x) → IsIn k xs
    before k h = elim (g k h.0) [ inl e ↦ absurd (h.1 e) | inr i ↦ i ]

module _ (refers : ℕ → List ℕ) (Leads Gives : ℕ → ℕ → ℕ → Type 0) where
  abbrev pub On : List ℕ → List ℕ → List ℕ → Type 0
  On = PlacingOn refers Leads Gives

  -- what is placed stands first
  pub placed_first : {todo placed order : List ℕ} → On todo placed order → (rest : List ℕ) × (order ≡ placed ++ rest)
  placed_first {placed = placed} (all_placed n) = ([], sym (append-nil placed))
  placed_first {placed = placed} (stuck n) = ([], sym (append-nil placed))
  placed_first (is_placed i w) = placed_first w
  placed_first {placed = placed} (place_now {r} i w) = let k = placed_first w in
      (r ∷ k.0, k.1 ∙ append_assoc placed (r ∷ []) k.0)
  placed_first (goes_on i g w) = placed_first w

  pub placed_stays : {todo placed order : List ℕ} → On todo placed order → (r : ℕ) → IsIn r placed → IsIn r order
  placed_stays {placed = placed} w r i = let k = placed_first w in rw k.1 (in_left r placed k.0 i)

  -- what is to be visited is placed in the end
  pub todo_placed : {todo placed order : List ℕ} → On todo placed order → (r : ℕ) → IsIn r todo → IsIn r order
  todo_placed (all_placed n) r i = absurd i
  todo_placed (stuck n) r i = absurd i
  todo_placed (is_placed j w) r (inl e) = rw e (placed_stays w _ j)
  todo_placed (is_placed j w) r (inr i) = todo_placed w r i
  todo_placed {placed = placed} (place_now {r = x} j w) r (inl e) = rw e (placed_stays w x (in_last x placed))
  todo_placed {todo = _ ∷ todo} (place_now {r = x} j w) r (inr i) = todo_placed w r (in_right r (refers x) todo i)
  todo_placed (goes_on o g w) r i = absurd i

  -- the roots to which a root that was placed on the way refers are placed too
  pub placed_closed : {todo placed order : List ℕ} → On todo placed order → (r : ℕ) → IsIn r order
      → IsIn r placed ⊎ ((k : ℕ) → IsIn k (refers r) → IsIn k order)
  placed_closed (all_placed n) r i = inl i
  placed_closed (stuck n) r i = inl i
  placed_closed (is_placed j w) r i = placed_closed w r i
  placed_closed {todo = _ ∷ todo} {placed = placed} {order = order} (place_now {r = x} j w) r i =
      here (placed_closed w r i)
    where
      here : IsIn r (placed ++ x ∷ []) ⊎ ((k : ℕ) → IsIn k (refers r) → IsIn k order) → IsIn r placed
          ⊎ ((k : ℕ) → IsIn k (refers r) → IsIn k order)
      here (inr f) = inr f
      here (inl l) = elim (in_push x r placed l) [
        | inl m ↦ inl m
        | inr e ↦ inr (λ k v. todo_placed w k (in_left k (refers x) todo (subst (λ (z : ℕ). IsIn k (refers z)) e v)))
      ]
  placed_closed (goes_on o g w) r i = placed_closed w r i

  -- at its end no way back is open, where each gives a field
  pub none_left : IsBackGiving Leads Gives → {todo placed order : List ℕ} → On todo placed order → NoneOpen Leads order
  none_left gives (all_placed n) = n
  none_left gives (stuck n) =
      let o = n.lowest.some in
      let f = gives n.from o.0 o.1.0 o.1.2 in absurd (n.no_field o.0 f.0 o.1 f.1)
  none_left gives (is_placed j w) = none_left gives w
  none_left gives (place_now j w) = none_left gives w
  none_left gives (goes_on o g w) = none_left gives w

  pub placed_differ : {todo placed order : List ℕ} → On todo placed order → IsDistinct placed → IsDistinct order
  placed_differ (all_placed n) a = a
  placed_differ (stuck n) a = a
  placed_differ (is_placed j w) a = placed_differ w a
  placed_differ {placed = placed} (place_now {r = x} j w) a = placed_differ w (distinct_push placed x a j)
  placed_differ (goes_on o g w) a = placed_differ w a

  module _ (decided : IsDecided Leads) where
    first_leads : (P : ℕ → Type 0) (placed : List ℕ) (r : ℕ) (xs : List ℕ) → IsFirstLed P placed r xs → P r
    first_leads P placed r [] h = absurd h
    first_leads P placed r (x ∷ xs) (inl h) = h.1
    first_leads P placed r (x ∷ xs) (inr h) = first_leads P placed r xs h.1

    -- the way back leads to the root at which the walk goes on
    pub led_leads : (placed : List ℕ) (i j r : ℕ) → IsLedOn refers Leads placed i j r → Leads i j r
    led_leads placed i j r h = elim (decided i j j) [
      | inr n ↦ first_leads (λ x. Leads i j x) placed r (refers j) (h.then_list (λ w. absurd (n w)))
      | inl own ↦ elim (in_or_out j placed) [
        | inl k ↦ first_leads (λ x. Leads i j x) placed r (refers j) (h.then_list (λ w. k))
        | inr o ↦ subst (λ (z : ℕ). Leads i j z) (sym (h.own_first o own)) own
      ]
    ]

    pub placed_below : (n : ℕ) → ((r : ℕ) → AllBelow n (refers r)) → ((i j r : ℕ) → Leads i j r → r < n)
        → {todo placed order : List ℕ} → On todo placed order → AllBelow n todo → AllBelow n placed → AllBelow n order
    placed_below n f low (all_placed x) t p = p
    placed_below n f low (stuck x) t p = p
    placed_below n f low (is_placed j w) t p = placed_below n f low w t.1 p
    placed_below n f low {todo = _ ∷ todo} {placed = placed} (place_now {r = x} j w) t p =
        placed_below n f low w (below_both n (refers x) todo (f x) t.1) (every_push (λ k. k < n) placed x p t.0)
    placed_below n f low {placed = placed} (goes_on {r = x} o g w) t p =
        placed_below n f low w (low g.from g.into x (led_leads placed g.from g.into x g.led), tt) p

    -- where all roots below n are placed, and no others, the walk's list has each of them once
    pub walk_is_order : (from : List ℕ) (n : ℕ) (order : List ℕ) → On from [] order → AllBelow n from
        → ((r : ℕ) → AllBelow n (refers r)) → ((i j r : ℕ) → Leads i j r → r < n) → ((r : ℕ) → r < n → IsIn r order)
        → Rearranged order (counted 0 n)
    walk_is_order from n order w v f low all =
        same_items order (counted 0 n) (placed_differ w tt) (counted_differ 0 n)
        (λ k i. let l : k < n = every_in (λ j. j < n) order k (placed_below n f low w v tt) i in
        in_counted 0 n k (omega arith) (omega (arith, l)))
        (λ k i. all k (counted_is_below n k i))

    -- the first root of a list is one
    first_one : (P : ℕ → Type 0) (placed : List ℕ) (r s : ℕ) → (IsIn r placed → ⊥) → (IsIn s placed → ⊥)
        → (xs : List ℕ) → IsFirstLed P placed r xs → IsFirstLed P placed s xs → r ≡ s
    first_one P placed r s nr ns [] h k = absurd h
    first_one P placed r s nr ns (x ∷ xs) (inl h) (inl k) = sym h.0 ∙ k.0
    first_one P placed r s nr ns (x ∷ xs) (inl h) (inr k) =
        absurd (k.0 (λ i. nr (subst (λ (z : ℕ). IsIn z placed) h.0 i)) (subst P (sym h.0) h.1))
    first_one P placed r s nr ns (x ∷ xs) (inr h) (inl k) =
        absurd (h.0 (λ i. ns (subst (λ (z : ℕ). IsIn z placed) k.0 i)) (subst P (sym k.0) k.1))
    first_one P placed r s nr ns (x ∷ xs) (inr h) (inr k) = first_one P placed r s nr ns xs h.1 k.1

    pub led_one : (placed : List ℕ) (i j r s : ℕ) → (IsIn r placed → ⊥) → (IsIn s placed → ⊥)
        → IsLedOn refers Leads placed i j r → IsLedOn refers Leads placed i j s → r ≡ s
    led_one placed i j r s nr ns g h = elim (decided i j j) [
      | inr n ↦ by_list (λ w. absurd (n w))
      | inl own ↦ elim (in_or_out j placed) [
        | inl k ↦ by_list (λ w. k)
        | inr o ↦ g.own_first o own ∙ sym (h.own_first o own)
      ]
    ]
      where
        by_list : (Leads i j j → IsIn j placed) → r ≡ s
        by_list f = first_one (λ x. Leads i j x) placed r s nr ns (refers j) (g.then_list f) (h.then_list f)

    -- the lowest root with an open way back is one
    pub lowest_one : (placed : List ℕ) (i k : ℕ) → IsLowestOpen Leads placed i → IsLowestOpen Leads placed k → i ≡ k
    lowest_one placed i k g h = one_place 0 placed i k g.is_placed h.is_placed
        (both_ways (place_of placed i) (place_of placed k) (g.lowest k h.some.0 h.is_placed h.some.1)
        (h.lowest i g.some.0 g.is_placed g.some.1))

    module _ (once : IsGivenOnce Gives) where
      gives_one : (placed : List ℕ) (i j k : ℕ) → GivesLeast Leads Gives placed i j → GivesLeast Leads Gives placed i k
          → j ≡ k
      gives_one placed i j k g h =
          let e = both_ways g.field h.field (g.least k h.field h.open_way h.given)
          (h.least j g.field g.open_way g.given) in
          once i j k h.field (subst (λ (z : ℕ). Gives i j z) e g.given) h.given

      -- the walk goes on from one root
      pub next_one : (placed : List ℕ) (r s : ℕ) → (IsIn r placed → ⊥) → (IsIn s placed → ⊥)
          → GoesOnFrom refers Leads Gives placed r → GoesOnFrom refers Leads Gives placed s → r ≡ s
      next_one placed r s nr ns g h =
          let e : h.from ≡ g.from = lowest_one placed h.from g.from h.lowest g.lowest in
          let hg : GivesLeast Leads Gives placed g.from h.into =
          subst (λ (z : ℕ). GivesLeast Leads Gives placed z h.into) e h.gives in
          let i : h.into ≡ g.into = gives_one placed g.from h.into g.into hg g.gives in
          let l : IsLedOn refers Leads placed g.from g.into s =
          subst (λ (z : ℕ). IsLedOn refers Leads placed g.from z s) i
          (subst (λ (z : ℕ). IsLedOn refers Leads placed z h.into s) e h.led) in
          led_one placed g.from g.into r s nr ns g.led l

      -- a walk that goes on is not stuck
      not_stuck : (placed : List ℕ) (r : ℕ) → GoesOnFrom refers Leads Gives placed r → IsStuck Leads Gives placed → ⊥
      not_stuck placed r g h =
          let e : g.from ≡ h.from = lowest_one placed g.from h.from g.lowest h.lowest in
          h.no_field g.into g.gives.field (subst (λ (z : ℕ). IsOpenAt Leads placed z g.into) e g.gives.open_way)
          (subst (λ (z : ℕ). Gives z g.into g.gives.field) e g.gives.given)

      none_goes_on : (placed : List ℕ) (r : ℕ) → GoesOnFrom refers Leads Gives placed r → NoneOpen Leads placed → ⊥
      none_goes_on placed r g n = n g.from g.into g.lowest.is_placed g.gives.open_way

      -- the walk gives one order
      pub one_order : {todo placed first second : List ℕ} → On todo placed first → On todo placed second
          → first ≡ second
      one_order (all_placed n) (all_placed m) = refl
      one_order (all_placed n) (stuck m) = refl
      one_order (stuck n) (all_placed m) = refl
      one_order (stuck n) (stuck m) = refl
      one_order {placed = placed} (all_placed n) (goes_on {r = r} o h w) = absurd (none_goes_on placed r h n)
      one_order {placed = placed} (goes_on {r = r} o h w) (all_placed n) = absurd (none_goes_on placed r h n)
      one_order {placed = placed} (stuck n) (goes_on {r = r} o h w) = absurd (not_stuck placed r h n)
      one_order {placed = placed} (goes_on {r = r} o h w) (stuck n) = absurd (not_stuck placed r h n)
      one_order {placed = placed} {second = second} (goes_on {r = r} o h w) (goes_on {r = s} p k v) =
          one_order w (subst (λ (z : ℕ). On (z ∷ []) placed second) (sym (next_one placed r s o p h k)) v)
      one_order (is_placed i w) (is_placed j v) = one_order w v
      one_order (is_placed i w) (place_now j v) = absurd (j i)
      one_order (place_now i w) (is_placed j v) = absurd (i j)
      one_order (place_now i w) (place_now j v) = one_order w v

-- Walks by the same references and ways back.
module _ (f g : ℕ → List ℕ) (same : (r : ℕ) → f r ≡ g r) (L M G H : ℕ → ℕ → ℕ → Type 0)
    (on : (i j r : ℕ) → L i j r → M i j r) (from : (i j r : ℕ) → M i j r → L i j r)
    (gives : (i j r : ℕ) → G i j r → H i j r) (given : (i j r : ℕ) → H i j r → G i j r) where
  open_same : (placed : List ℕ) (i j : ℕ) → IsOpenAt L placed i j → IsOpenAt M placed i j
  open_same placed i j o = (o.0, o.1, on i j o.0 o.2)

  open_other : (placed : List ℕ) (i j : ℕ) → IsOpenAt M placed i j → IsOpenAt L placed i j
  open_other placed i j o = (o.0, o.1, from i j o.0 o.2)

  lowest_same : (placed : List ℕ) (i : ℕ) → IsLowestOpen L placed i → IsLowestOpen M placed i
  lowest_same placed i h = record {
    is_placed = h.is_placed;
    some = (h.some.0, open_same placed i h.some.0 h.some.1);
    lowest = λ k j p o. h.lowest k j p (open_other placed k j o);
  }

  first_same : (P Q : ℕ → Type 0) → ((x : ℕ) → P x → Q x) → ((x : ℕ) → Q x → P x) → (placed : List ℕ) (r : ℕ)
      (xs : List ℕ) → IsFirstLed P placed r xs → IsFirstLed Q placed r xs
  first_same P Q p q placed r [] h = h
  first_same P Q p q placed r (x ∷ xs) (inl h) = inl (h.0, p r h.1)
  first_same P Q p q placed r (x ∷ xs) (inr h) = inr ((λ o y. h.0 o (q x y)), first_same P Q p q placed r xs h.1)

  led_same : (placed : List ℕ) (i j r : ℕ) → IsLedOn f L placed i j r → IsLedOn g M placed i j r
  led_same placed i j r h = record {
    own_first = λ o w. h.own_first o (from i j j w);
    then_list = λ w. subst (λ (z : List ℕ). IsFirstLed (λ x. M i j x) placed r z) (same j)
        (first_same (λ x. L i j x) (λ x. M i j x) (on i j) (from i j) placed r (f j)
        (h.then_list (λ v. w (on i j j v))));
  }

  gives_same : (placed : List ℕ) (i j : ℕ) → GivesLeast L G placed i j → GivesLeast M H placed i j
  gives_same placed i j h = record {
    open_way = open_same placed i j h.open_way;
    field = h.field;
    given = gives i j h.field h.given;
    least = λ k x o y. h.least k x (open_other placed i k o) (given i k x y);
  }

  stuck_same : (placed : List ℕ) → IsStuck L G placed → IsStuck M H placed
  stuck_same placed h = record {
    from = h.from;
    lowest = lowest_same placed h.from h.lowest;
    no_field = λ j x o y. h.no_field j x (open_other placed h.from j o) (given h.from j x y);
  }

  goes_same : (placed : List ℕ) (r : ℕ) → GoesOnFrom f L G placed r → GoesOnFrom g M H placed r
  goes_same placed r h = record {
    from = h.from;
    into = h.into;
    lowest = lowest_same placed h.from h.lowest;
    gives = gives_same placed h.from h.into h.gives;
    led = led_same placed h.from h.into r h.led;
  }

  pub same_placing : {todo placed order : List ℕ} → PlacingOn f L G todo placed order
      → PlacingOn g M H todo placed order
  same_placing (all_placed n) = all_placed (λ i j p o. n i j p (open_other _ i j o))
  same_placing (stuck n) = stuck (stuck_same _ n)
  same_placing (is_placed i w) = is_placed i (same_placing w)
  same_placing {todo = _ ∷ todo} {placed = placed} {order = order} (place_now {r = x} i w) =
      place_now i (subst (λ (z : List ℕ). PlacingOn g M H (z ++ todo) (placed ++ x ∷ []) order) (same x)
      (same_placing w))
  same_placing (goes_on o h w) = goes_on o (goes_same _ _ h) (same_placing w)
