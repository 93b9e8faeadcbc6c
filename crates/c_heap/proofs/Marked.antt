-- Where all that was marked has been looked at, the marked cells are those that can be reached.
use Rattle.std.proofs.Common.{◌≡◌, ◌≤◌, ◌<◌, ◌⊎◌, inl, inr, ℕ, zero, suc, Bool, true, false, nat_lt, if◌then◌else◌}
use Rattle.std.proofs.Common.{Option, Some, None, List, [], ◌∷◌, ◌++◌, length, get_or, set, drop, replicate, refl, sym}
use Rattle.std.proofs.Common.{ap, ◌∙◌, subst, true≢false, arith}
use Rattle.std.proofs.lemmas.Bool.{eqb-true, cases_lt}
use Rattle.std.proofs.lemmas.Bool.Decides.{nat_tests}
use Rattle.std.proofs.lemmas.List.{drop-append-le, get_or_append_left, get_or_push, length-replicate, length-set}
use Rattle.std.proofs.lemmas.List.{length_push}
use Rattle.fore_base.specs.declared.store.Value.{Value}
use Rattle.fore_base.specs.declared.store.Value.TheVariants.{Cell}
use Rattle.fore_base.specs.declared.store.CellRec.{CellRec}
use Rattle.fore_base.specs.declared.store.Store.{Store}
use Rattle.fore_base.specs.Lists.{IsIn}
use Rattle.fore_base.specs.Marks.{marked_count}
use Rattle.fore_base.specs.Heap.{Reach, by_var, by_field, Leaked, leaks}
use Rattle.fore_base.proofs.Leaks.{leaks_leaked, sound_reached}
use Rattle.fore_base.proofs.ListLemmas.{in_left, in_last, past_end}
use Rattle.fore_base.proofs.MarkLemmas.{marked_still, marked_new, marked_set, unmarked_none, marked_default}
use Rattle.fore_base.proofs.MarkLemmas.{unmarked_within, count_within, count_none, count_set}
use Rattle.c_heap.specs.Rising.{CellsRiseFrom, position_in}
use Rattle.c_heap.specs.inner.Marking.{Marked, noted_at, noted, noted_all}
use Rattle.c_heap.proofs.CellLemmas.{FoundAt, first, further, Position, found, missing, positioned}
use Rattle.c_heap.proofs.Searching.{no_cell, position_at}

abbrev pub is_marked : Marked → ℕ → Bool
is_marked m i = get_or m.reached i false

abbrev pub cell_at : List CellRec → ℕ → CellRec
cell_at cs i = get_or cs i no_cell

-- each cell that one of the values names is marked
abbrev pub AllNoted : List CellRec → List Value → Marked → Type 0
AllNoted cs vs m = (n i : ℕ) → IsIn (Cell n) vs → position_in cs n ≡ Some i → is_marked m i ≡ true

-- Marked in the middle of the walk: the fields of the first k marked cells were looked at, and so were the values vs.
pub record Walked (s : Store) (vs : List Value) (k : ℕ) (m : Marked) : Type 0 where
  pub long : length m.reached ≡ length s.cells
  pub within : (j : ℕ) → j < length m.order → get_or m.order j 0 < length s.cells
  pub counted : length m.order ≡ marked_count m.reached
  pub ordered : (j : ℕ) → j < length m.order → is_marked m (get_or m.order j 0) ≡ true
  pub sound : (i : ℕ) → is_marked m i ≡ true → Reach s (cell_at s.cells i).number
  pub values : AllNoted s.cells vs m
  pub done : (i : ℕ) → is_marked m i ≡ true → IsIn i (drop k m.order) ⊎ AllNoted s.cells (cell_at s.cells i).fields m
  pub begun : k ≤ length m.order

-- where fewer are true than there are, one is not
pub fewer_true : (bs : List Bool) → marked_count bs < length bs → (i : ℕ) × (i < length bs)
    × (get_or bs i false ≡ false)
fewer_true [] less = absurd (omega (arith, less))
fewer_true (false ∷ bs) less = (zero, omega arith, refl)
fewer_true (true ∷ bs) less =
    let rest : (i : ℕ) × (i < length bs) × (get_or bs i false ≡ false) = fewer_true bs (omega (arith, less)) in
    (suc rest.0, omega (arith, rest.1), rest.2)

-- where as many are true as there are, each is
pub all_true : (bs : List Bool) → length bs ≤ marked_count bs → (i : ℕ) → i < length bs → get_or bs i false ≡ true
all_true [] all i less = absurd (omega (arith, less))
all_true (true ∷ bs) all zero less = refl
all_true (true ∷ bs) all (suc i) less = all_true bs (omega (arith, all)) i (omega (arith, less))
all_true (false ∷ bs) all i less = absurd (omega (arith, all, count_within bs))

-- Marking one cell

module _ (s : Store) (vs : List Value) (k i : ℕ) (m : Marked) where
  abbrev marked_one : Marked
  marked_one = record { reached = set m.reached i true; order = m.order ++ i ∷ [] }

  still : (us : List Value) → AllNoted s.cells us m → AllNoted s.cells us marked_one
  still us h n j here is = marked_still m.reached i j (h n j here is)

  new_within : Walked s vs k m → get_or m.reached i true ≡ false → (j : ℕ) → j < length (m.order ++ i ∷ [])
      → get_or (m.order ++ i ∷ []) j 0 < length s.cells
  new_within w fresh j less = elim (cases_lt j (length m.order)) [
    | inl old ↦ rw (get_or_append_left m.order (i ∷ []) 0 j old) (w.within j old)
    | inr last ↦ (let same : j ≡ length m.order = omega (arith, length_push m.order i) in
        rw (same, get_or_push m.order i 0 (length m.order) refl)
        (omega (arith, unmarked_within m.reached i fresh, w.long)))
  ]

  new_ordered : Walked s vs k m → get_or m.reached i true ≡ false → (j : ℕ) → j < length (m.order ++ i ∷ [])
      → get_or (set m.reached i true) (get_or (m.order ++ i ∷ []) j 0) false ≡ true
  new_ordered w fresh j less = elim (cases_lt j (length m.order)) [
    | inl old ↦ rw (get_or_append_left m.order (i ∷ []) 0 j old)
        (marked_still m.reached i (get_or m.order j 0) (w.ordered j old))
    | inr last ↦ (let same : j ≡ length m.order = omega (arith, length_push m.order i) in
        rw (same, get_or_push m.order i 0 (length m.order) refl)
        (marked_set m.reached i (unmarked_within m.reached i fresh)))
  ]

  new_sound : Walked s vs k m → Reach s (cell_at s.cells i).number → (j : ℕ) → get_or (set m.reached i true) j false
      ≡ true → Reach s (cell_at s.cells j).number
  new_sound w reach j e = elim (marked_new m.reached i j e) [
    | inl same ↦ subst (λ x. Reach s (cell_at s.cells x).number) (sym same) reach
    | inr old ↦ w.sound j old
  ]

  new_done : Walked s vs k m → (j : ℕ) → get_or (set m.reached i true) j false ≡ true
      → IsIn j (drop k (m.order ++ i ∷ [])) ⊎ AllNoted s.cells (cell_at s.cells j).fields marked_one
  new_done w j e = rw (drop-append-le k m.order (i ∷ []) w.begun) (elim (marked_new m.reached i j e) [
    | inl same ↦ inl (subst (λ x. IsIn x (drop k m.order ++ i ∷ [])) (sym same) (in_last i (drop k m.order)))
    | inr old ↦ (elim (w.done j old) [
      | inl open' ↦ inl (in_left j (drop k m.order) (i ∷ []) open')
      | inr noted' ↦ inr (still (cell_at s.cells j).fields noted')
    ])
  ])

  mark_one : Walked s vs k m → get_or m.reached i true ≡ false → Reach s (cell_at s.cells i).number
      → Walked s vs k marked_one
  mark_one w fresh reach = record {
    long = length-set m.reached i true ∙ w.long;
    within = new_within w fresh;
    counted = omega (arith, length_push m.order i, w.counted, count_set m.reached i fresh);
    ordered = new_ordered w fresh;
    sound = new_sound w reach;
    values = still vs w.values;
    done = new_done w;
    begun = omega (arith, w.begun, length_push m.order i);
  }

-- Marking what a value names

-- what is still marked, and what is now
pub record Noting (s : Store) (vs : List Value) (k : ℕ) (m after : Marked) : Type 0 where
  pub walked : Walked s vs k after
  pub grows : (i : ℕ) → is_marked m i ≡ true → is_marked after i ≡ true
  pub longer : length m.order ≤ length after.order
  pub kept : (j : ℕ) → j < length m.order → get_or after.order j 0 ≡ get_or m.order j 0

unchanged : (s : Store) (vs : List Value) (k : ℕ) (m : Marked) → Walked s vs k m → Noting s vs k m m
unchanged s vs k m w = record { walked = w; grows = λ i e. e; longer = omega arith; kept = λ j less. refl }

note_at : (s : Store) (vs : List Value) (k i : ℕ) (m : Marked) → Walked s vs k m → Reach s (cell_at s.cells i).number
    → i < length s.cells → Noting s vs k m (noted_at (Some i) m) × (is_marked (noted_at (Some i) m) i ≡ true)
note_at s vs k i m w reach less = here (get_or m.reached i true) refl
  where
    here : (b : Bool) → get_or m.reached i true ≡ b
        → Noting s vs k m (if b then m else record { reached = set m.reached i true; order = m.order ++ i ∷ [] })
        × (is_marked (if b then m else record { reached = set m.reached i true; order = m.order ++ i ∷ [] }) i ≡ true)
    here true old = (unchanged s vs k m w, marked_default m.reached i (omega (arith, less, w.long)) old)
    here false fresh = (
      record {
        walked = mark_one s vs k i m w fresh reach;
        grows = λ j e. marked_still m.reached i j e;
        longer = omega (arith, length_push m.order i);
        kept =
            λ j old. get_or_append_left m.order (i ∷ []) 0 j old;
      },
      marked_set m.reached i (unmarked_within m.reached i fresh),
    )

-- the cell found for a number has this number
found_number : (n : ℕ) (cs : List CellRec) (i : ℕ) → Position n cs (Some i) → ((cell_at cs i).number ≡ n)
    × (i < length cs)
found_number n cs i (found c at) = there at
  where
    there : {ds : List CellRec} {j : ℕ} {d : CellRec} → FoundAt n ds j d → ((cell_at ds j).number ≡ n) × (j < length ds)
    there (first {c} {cs} is) = (eqb-true c.number n is, omega arith)
    there (further is rest) = ((there rest).0, omega (arith, (there rest).1))

note_found : (s : Store) (vs : List Value) (k n : ℕ) (m : Marked) → Walked s vs k m → Reach s n → (p : Option ℕ)
    → Position n s.cells p → Noting s vs k m (noted_at p m) × ((i : ℕ) → p ≡ Some i → is_marked (noted_at p m) i ≡ true)
note_found s vs k n m w reach None (missing apart) = (unchanged s vs k m w, λ i e. cc)
note_found s vs k n m w reach (Some i) (found c at) =
    let number : ((cell_at s.cells i).number ≡ n) × (i < length s.cells) = found_number n s.cells i (found c at) in
    let one : Noting s vs k m (noted_at (Some i) m) × (is_marked (noted_at (Some i) m) i ≡ true) =
    note_at s vs k i m w (subst (Reach s) (sym number.0) reach) number.1 in
    (one.0, λ j e. let same : i ≡ j = cc in subst (λ x. is_marked (noted_at (Some i) m) x ≡ true) same one.1)

note_value : (s : Store) (vs : List Value) (k : ℕ) (m : Marked) (v : Value) → Walked s vs k m
    → ((n : ℕ) → v ≡ Cell n → Reach s n) → Noting s vs k m (noted s.cells v m)
    × ((n i : ℕ) → v ≡ Cell n → position_in s.cells n ≡ Some i → is_marked (noted s.cells v m) i ≡ true)
note_value s vs k m (Cell n) w reach =
    let one : Noting s vs k m (noted_at (position_in s.cells n) m)
    × ((i : ℕ) → position_in s.cells n ≡ Some i → is_marked (noted_at (position_in s.cells n) m) i ≡ true) =
    note_found s vs k n m w (reach n refl) (position_in s.cells n) (positioned n s.cells) in
    (one.0, λ n' i e is. let same : n ≡ n' = cc in one.1 i (subst (λ x. position_in s.cells x ≡ Some i) (sym same) is))
note_value s vs k m _ w reach = (unchanged s vs k m w, λ n i e is. cc)

-- all the values were noted
pub note_values : (s : Store) (vs us : List Value) (k : ℕ) (m : Marked) → Walked s vs k m
    → ((n : ℕ) → IsIn (Cell n) us → Reach s n) → Noting s vs k m (noted_all s.cells us m)
    × AllNoted s.cells us (noted_all s.cells us m)
note_values s vs [] k m w reach = (unchanged s vs k m w, λ n i here is. absurd here)
note_values s vs (u ∷ us) k m w reach =
    let one : Noting s vs k m (noted s.cells u m)
    × ((n i : ℕ) → u ≡ Cell n → position_in s.cells n ≡ Some i → is_marked (noted s.cells u m) i ≡ true) =
    note_value s vs k m u w (λ n e. reach n (inl (sym e))) in
    let rest : Noting s vs k (noted s.cells u m) (noted_all s.cells us (noted s.cells u m))
    × AllNoted s.cells us (noted_all s.cells us (noted s.cells u m)) =
    note_values s vs us k (noted s.cells u m) one.0.walked (λ n here. reach n (inr here)) in (
      record {
        walked = rest.0.walked;
        grows = λ i e. rest.0.grows i (one.0.grows i e);
        longer = omega (arith, one.0.longer, rest.0.longer);
        kept = λ j less. rest.0.kept j (omega (arith, less, one.0.longer)) ∙ one.0.kept j less;
      },
      noted' one rest,
    )
  where
    noted' : Noting s vs k m (noted s.cells u m)
        × ((n i : ℕ) → u ≡ Cell n → position_in s.cells n ≡ Some i → is_marked (noted s.cells u m) i ≡ true)
        → Noting s vs k (noted s.cells u m) (noted_all s.cells us (noted s.cells u m))
        × AllNoted s.cells us (noted_all s.cells us (noted s.cells u m))
        → AllNoted s.cells (u ∷ us) (noted_all s.cells us (noted s.cells u m))
    noted' one rest n i (inl e) is = rest.0.grows i (one.1 n i (sym e) is)
    noted' one rest n i (inr here) is = rest.1 n i here is

-- The walk

-- nothing is marked at first
pub walk_begins : (s : Store) → Walked s [] 0 (record { reached = replicate (length s.cells) false; order = [] })
walk_begins s = record {
  long = length-replicate (length s.cells) false;
  within = λ j less. absurd (omega (arith, less));
  counted = sym (count_none (length s.cells));
  ordered = λ j less. absurd (omega (arith, less));
  sound = λ i e. absurd (unmarked_none (length s.cells) i e);
  values = λ n i here is. absurd here;
  done = λ i e. absurd (unmarked_none (length s.cells) i e);
  begun = omega arith;
}

-- then the values of the variables
pub walk_vars : (s : Store) (m : Marked) → Walked s [] 0 m → Walked s s.vars 0 (noted_all s.cells s.vars m)
walk_vars s m w =
    let all : Noting s [] 0 m (noted_all s.cells s.vars m) × AllNoted s.cells s.vars (noted_all s.cells s.vars m) =
    note_values s [] s.vars 0 m w (λ n here. by_var here) in
    let after : Walked s [] 0 (noted_all s.cells s.vars m) = all.0.walked in
    record {
      long = after.long;
      within = after.within;
      counted = after.counted;
      ordered = after.ordered;
      sound = after.sound;
      values = all.1;
      done = after.done;
      begun = after.begun;
    }

drop_here : (k : ℕ) (xs : List ℕ) (x : ℕ) → k < length xs → IsIn x (drop k xs) → (x ≡ get_or xs k 0)
    ⊎ IsIn x (drop (suc k) xs)
drop_here k [] x less h = absurd (omega (arith, less))
drop_here zero (y ∷ ys) x less h = h
drop_here (suc k) (y ∷ ys) x less h = drop_here k ys x (omega (arith, less)) h

in_cells : (cs : List CellRec) (i : ℕ) → i < length cs → IsIn (cell_at cs i) cs
in_cells [] i less = absurd (omega (arith, less))
in_cells (c ∷ cs) zero less = inl refl
in_cells (c ∷ cs) (suc i) less = inr (in_cells cs i (omega (arith, less)))

-- the fields of the next marked cell
pub walk_more : (s : Store) (vs : List Value) (k at : ℕ) (m : Marked) → Walked s vs k m → k < length m.order
    → at ≡ get_or m.order k 0 → Walked s vs (suc k) (noted_all s.cells (cell_at s.cells at).fields m)
walk_more s vs k at m w less is = record {
  long = after.long;
  within = after.within;
  counted = after.counted;
  ordered = after.ordered;
  sound = after.sound;
  values = after.values;
  done = done;
  begun = longer;
}
  where
    fields : List Value
    fields = (cell_at s.cells at).fields

    next : Marked
    next = noted_all s.cells fields m

    marked : is_marked m at ≡ true
    marked = subst (λ x. is_marked m x ≡ true) (sym is) (w.ordered k less)

    inside : at < length s.cells
    inside = subst (λ x. x < length s.cells) (sym is) (w.within k less)

    all : Noting s vs k m next × AllNoted s.cells fields next
    all = note_values s vs fields k m w
        (λ n here. by_field (cell_at s.cells at) (in_cells s.cells at inside) (w.sound at marked) here)

    after : Walked s vs k next
    after = all.0.walked

    longer : suc k ≤ length next.order
    longer = omega (arith, less, all.0.longer)

    first_or_later : (i : ℕ) → (i ≡ get_or next.order k 0) ⊎ IsIn i (drop (suc k) next.order)
        → IsIn i (drop (suc k) next.order) ⊎ AllNoted s.cells (cell_at s.cells i).fields next
    first_or_later i (inl same) =
        let this : i ≡ at = same ∙ all.0.kept k less ∙ sym is in
        inr (subst (λ x. AllNoted s.cells (cell_at s.cells x).fields next) (sym this) all.1)
    first_or_later i (inr later) = inl later

    done : (i : ℕ) → is_marked next i ≡ true → IsIn i (drop (suc k) next.order)
        ⊎ AllNoted s.cells (cell_at s.cells i).fields next
    done i e = elim (after.done i e) [
      | inl open' ↦ first_or_later i (drop_here k next.order i longer open')
      | inr noted' ↦ inr noted'
    ]

-- The end of the walk

module _ (s : Store) (k : ℕ) (m : Marked) (rising : CellsRiseFrom 0 s.cells) (w : Walked s s.vars k m)
    (ended : length m.order ≤ k) where
  -- a cell stands at a position of its own
  own_position : (c : CellRec) (cs : List CellRec) (low : ℕ) → CellsRiseFrom low cs → IsIn c cs → (j : ℕ)
      × (cell_at cs j ≡ c) × (j < length cs)
  own_position c [] low h here = absurd here
  own_position c (d ∷ cs) low h (inl e) = (zero, sym e, omega arith)
  own_position c (d ∷ cs) low h (inr here) =
      let rest : (j : ℕ) × (cell_at cs j ≡ c) × (j < length cs) = own_position c cs (suc d.number) h.1 here in
      (suc rest.0, rest.1, omega (arith, rest.2))

  reached_marked : (n : ℕ) → Reach s n → (i : ℕ) → position_in s.cells n ≡ Some i → is_marked m i ≡ true
  reached_marked n (by_var here) i is = w.values n i here is
  reached_marked n (by_field c there reach field) i is = after (reached_marked c.number reach)
    where
      own : (j : ℕ) × (cell_at s.cells j ≡ c) × (j < length s.cells)
      own = own_position c s.cells 0 rising there

      found_at : position_in s.cells c.number ≡ Some own.0
      found_at = position_at 0 s.cells c.number own.0 no_cell rising own.2 (ap (λ (x : CellRec). x.number) own.1)

      after : ((j : ℕ) → position_in s.cells c.number ≡ Some j → is_marked m j ≡ true) → is_marked m i ≡ true
      after before = elim (w.done own.0 (before own.0 found_at)) [
        | inl open' ↦ absurd (past_end k m.order own.0 ended open')
        | inr noted' ↦ noted' n i (subst (λ (x : CellRec). IsIn (Cell n) x.fields) (sym own.1) field) is
      ]

  some_left : length m.order < length s.cells → Leaked s
  some_left less =
      let free : (i : ℕ) × (i < length m.reached) × (get_or m.reached i false ≡ false) =
      fewer_true m.reached (omega (arith, less, w.counted, w.long)) in
      let inside : free.0 < length s.cells = omega (arith, free.1, w.long) in
      let at : position_in s.cells (cell_at s.cells free.0).number ≡ Some free.0 =
      position_at 0 s.cells (cell_at s.cells free.0).number free.0 no_cell rising inside refl in
      record {
        cell = cell_at s.cells free.0;
        is_there = in_cells s.cells free.0 inside;
        unreached = λ reach. true≢false (sym (reached_marked (cell_at s.cells free.0).number reach free.0 at) ∙ free.2);
      }

  none_left : length s.cells ≤ length m.order → Leaked s → ⊥
  none_left all leaked = leaked.unreached reach
    where
      own : (j : ℕ) × (cell_at s.cells j ≡ leaked.cell) × (j < length s.cells)
      own = own_position leaked.cell s.cells 0 rising leaked.is_there

      marked : is_marked m own.0 ≡ true
      marked = all_true m.reached (omega (arith, all, w.counted, w.long)) own.0 (omega (arith, own.2, w.long))

      reach : Reach s leaked.cell.number
      reach = subst (λ (x : CellRec). Reach s x.number) own.1 (w.sound own.0 marked)

  pub walk_decides : (b : Bool) → b ≡ nat_lt (length m.order) (length s.cells) → b ≡ leaks s
  walk_decides b e = e ∙ here (leaks s) refl (cases_lt (length m.order) (length s.cells))
    where
      here : (l : Bool) → leaks s ≡ l → (length m.order < length s.cells) ⊎ (length s.cells ≤ length m.order)
          → nat_lt (length m.order) (length s.cells) ≡ l
      here true is (inl less) = grind (arith, nat_tests)
      here true is (inr all) = absurd (none_left all (leaks_leaked s is))
      here false is (inl less) =
          absurd ((some_left less).unreached (sound_reached s is (some_left less).cell (some_left less).is_there))
      here false is (inr all) = grind (arith, nat_tests)

-- a position that is there needs no default
pub cell_there : (cs : List CellRec) (i : ℕ) (d : CellRec) → i < length cs → get_or cs i d ≡ cell_at cs i
cell_there [] i d less = absurd (omega (arith, less))
cell_there (c ∷ cs) zero d less = refl
cell_there (c ∷ cs) (suc i) d less = cell_there cs i d (omega (arith, less))

-- the marked cells are at most all cells
pub walk_within : (s : Store) (vs : List Value) (k : ℕ) (m : Marked) → Walked s vs k m → length m.order ≤ length s.cells
walk_within s vs k m w = omega (arith, w.counted, w.long, count_within m.reached)

-- with one more mark there is still room for each
pub counted_more : (order : List ℕ) (reached : List Bool) (at room room' : ℕ) → (length order ≡ marked_count reached)
    × (length reached ≤ room) → room ≤ room' → get_or reached at true ≡ false
    → (length (order ++ at ∷ []) ≡ marked_count (set reached at true)) × (length (set reached at true) ≤ room')
counted_more order reached at room room' h less fresh = (
  omega (arith, length_push order at, h.0, count_set reached at fresh),
  omega (arith, h.1, less, length-set reached at true),
)

-- where one is not marked, there is room for it
pub fresh_room : (order : List ℕ) (reached : List Bool) (at room : ℕ) → (length order ≡ marked_count reached)
    × (length reached ≤ room) → get_or reached at true ≡ false → length order < room
fresh_room order reached at room h fresh =
    omega (arith, h.0, h.1, count_set reached at fresh, length-set reached at true, count_within (set reached at true))
