-- Open ways back, by one signature and by all: which root is the lowest, which tree gives it the least field, and to
-- which root the way back goes on.
use Rattle.std.proofs.Common.{
  ◌≡◌,
  ◌⊎◌,
  inl,
  inr,
  ℕ,
  zero,
  suc,
  ◌<◌,
  ◌≤◌,
  ◌+◌,
  Bool,
  true,
  false,
  true≢false,
  nat_eq,
  cond,
}
use Rattle.std.proofs.Common.{
  List,
  [],
  ◌∷◌,
  take,
  length,
  not,
  refl,
  sym,
  ap,
  subst,
  ◌∙◌,
  Option,
  Some,
  None,
  MatchOption,
  MatchBool,
}
use Rattle.std.proofs.Common.{slice_get, get_or, not-suc-le-zero, le_of_suc-le-suc, arith}
use Rattle.std.proofs.lemmas.Bool.{eqb-true, eq-eqb}
use Rattle.std.proofs.lemmas.Option.{none-some, same_Some, slice_get_within}
use Rattle.fore_base.specs.Lists.{IsIn, Every}
use Rattle.std.proofs.lemmas.List.{take_more, take_all}
use Rattle.fore_base.proofs.ListLemmas.{every_in, every_push, in_push}
use Rattle.fa_core.specs.declared.signature.RefMark.{RefMark}
use Rattle.fa_core.specs.declared.signature.Signature.{Signature}
use Rattle.fa_merge.specs.Reordered.{place_from}
use Rattle.fa_order.specs.declared.ways_back.Giver.{Giver}
use Rattle.fa_order.specs.Placing.{GivesLeast, IsFirstLed, IsLedOn, IsLowestOpen, IsOpenAt}
use Rattle.fa_order.specs.inner.Backs.{AreLedWithin, GivesBy, IsBetter, IsLeastIn, IsLesser, LeadsBy, SignGives}
use Rattle.fa_order.specs.inner.Backs.{MarkLeads, SignLeads, SignOpen, fields_to}
use Rattle.fa_order.proofs.LeastFields.{fields_give, give_fields}
use Rattle.fa_order.specs.inner.Stacks.{nth_refs}
use Rattle.fa_order.proofs.Places.{place_no_less}

module _ (ss : List Signature) (j : ℕ) (s : Signature) (at : slice_get ss j ≡ Some s) where
  pub at_leads : (i r : ℕ) → SignLeads s.refs i j r → LeadsBy ss i j r
  at_leads i r (m, h, q, l) = (m, (s, at, h), q, l)

  pub leads_at : (i r : ℕ) → LeadsBy ss i j r → SignLeads s.refs i j r
  leads_at i r (m, (z, e, h), q, l) =
      (m, subst (λ (y : Signature). IsIn m y.refs) (same_Some z s (sym e ∙ at)) h, q, l)

  pub at_gives : (i f : ℕ) → SignGives s.refs i f → GivesBy ss i j f
  at_gives i f (m, h, q, l) = (m, (s, at, h), q, l)

  pub gives_at : (i f : ℕ) → GivesBy ss i j f → SignGives s.refs i f
  gives_at i f (m, (z, e, h), q, l) =
      (m, subst (λ (y : Signature). IsIn m y.refs) (same_Some z s (sym e ∙ at)) h, q, l)

  pub at_open : (placed : List ℕ) (i : ℕ) → SignOpen s.refs placed i j → IsOpenAt (LeadsBy ss) placed i j
  at_open placed i (r, n, l) = (r, n, at_leads i r l)

  pub open_at : (placed : List ℕ) (i : ℕ) → IsOpenAt (LeadsBy ss) placed i j → SignOpen s.refs placed i j
  open_at placed i (r, n, l) = (r, n, leads_at i r l)

-- an open way back is by a signature
pub open_below : (ss : List Signature) (placed : List ℕ) (i j : ℕ) → IsOpenAt (LeadsBy ss) placed i j
    → (s : Signature) × (slice_get ss j ≡ Some s)
open_below ss placed i j (r, n, (m, (s, e, h), q, l)) = (s, e)

-- Lists.

pub got : (xs : List ℕ) (k : ℕ) → k < length xs → slice_get xs k ≡ Some (get_or xs k 0)
got [] k l = absurd (not-suc-le-zero l)
got (x ∷ xs) zero l = refl
got (x ∷ xs) (suc k) l = got xs k (le_of_suc-le-suc l)

pub get_item : {X : Type 0} (xs : List X) (k : ℕ) (x : X) → k < length xs → x ≡ get_or xs k x → slice_get xs k ≡ Some x
get_item [] k x l e = absurd (not-suc-le-zero l)
get_item (y ∷ xs) zero x l e = ap (λ (z : _). Some z) (sym e)
get_item (y ∷ xs) (suc k) x l e = get_item xs k x (le_of_suc-le-suc l) e

pub one_more_in : (xs ys : List ℕ) (k : ℕ) → k < length xs → IsIn (get_or xs k 0) ys
    → ((r : ℕ) → IsIn r (take k xs) → IsIn r ys) → (r : ℕ) → IsIn r (take (k + 1) xs) → IsIn r ys
one_more_in xs ys k l h f r i =
    elim (in_push (get_or xs k 0) r (take k xs) (subst (λ (z : List ℕ). IsIn r z) (take_more xs k 0 l) i))
    [ inl j ↦ f r j | inr e ↦ subst (λ (z : ℕ). IsIn z ys) (sym e) h ]

-- what is true of all that were looked at is true of all, where none is left
pub all_of : (xs ys : List ℕ) (k : ℕ) → length xs ≤ k → ((r : ℕ) → IsIn r (take k xs) → IsIn r ys) → (r : ℕ)
    → IsIn r xs → IsIn r ys
all_of xs ys k l f r i = f r (subst (λ (z : List ℕ). IsIn r z) (sym (take_all k xs l)) i)

pub whole_every : {X : Type 0} (xs : List X) (k : ℕ) (P : X → Type 0) → length xs ≤ k → Every P (take k xs)
    → Every P xs
whole_every xs k P l h = subst (Every P) (take_all k xs l) h

pub more_every : (xs : List ℕ) (k : ℕ) (P : ℕ → Type 0) → k < length xs → Every P (take k xs) → P (get_or xs k 0)
    → Every P (take (k + 1) xs)
more_every xs k P l h p = subst (Every P) (sym (take_more xs k 0 l)) (every_push P (take k xs) (get_or xs k 0) h p)

-- what stands at a place is the first of the list that is meant, where none before it is
pub first_found : (P : ℕ → Type 0) (placed : List ℕ) (xs : List ℕ) (k x : ℕ) → slice_get xs k ≡ Some x → P x
    → Every (λ r. (IsIn r placed → ⊥) → P r → ⊥) (take k xs) → IsFirstLed P placed x xs
first_found P placed [] k x e p h = absurd (none-some x e)
first_found P placed (y ∷ xs) zero x e p h = inl (same_Some y x e, p)
first_found P placed (y ∷ xs) (suc k) x e p h = inr (h.0, first_found P placed xs k x e p h.1)

-- the place of what stands at place k is at most k
place_at_most : (i : ℕ) (xs : List ℕ) (k x : ℕ) → slice_get xs k ≡ Some x → place_from i xs x ≤ i + k
place_at_most i [] k x e = absurd (none-some x e)
place_at_most i (y ∷ xs) zero x e = rw (eq-eqb y x (same_Some y x e)) (omega arith)
place_at_most i (y ∷ xs) (suc k) x e = here (nat_eq y x) (place_at_most (suc i) xs k x e)
  where
    here : (b : Bool) → place_from (suc i) xs x ≤ suc i + k → cond b i (place_from (suc i) xs x) ≤ i + suc k
    here true l = omega arith
    here false l = omega (arith, l)

-- the place of what does not stand before place k is at least k
place_at_least : (i : ℕ) (xs : List ℕ) (k y : ℕ) → IsIn y xs → (IsIn y (take k xs) → ⊥) → i + k ≤ place_from i xs y
place_at_least i [] k y h n = absurd h
place_at_least i (x ∷ xs) zero y h n = let l = place_no_less i (x ∷ xs) y h in omega (arith, l)
place_at_least i (x ∷ xs) (suc k) y h n = here (nat_eq x y) refl h
    (λ g. place_at_least (suc i) xs k y g (λ w. n (inr w)))
  where
    here : (b : Bool) → nat_eq x y ≡ b → IsIn y (x ∷ xs) → (IsIn y xs → suc i + k ≤ place_from (suc i) xs y)
        → i + suc k ≤ cond b i (place_from (suc i) xs y)
    here true e g f = absurd (n (inl (sym (eqb-true x y e))))
    here false e (inl g) f = absurd (true≢false (sym (eq-eqb x y (sym g)) ∙ e))
    here false e (inr g) f = let l = f g in omega (arith, l)

-- the first placed root with an open way back
pub lowest_found : (Leads : ℕ → ℕ → ℕ → Type 0) (placed : List ℕ) (k i : ℕ) → slice_get placed k ≡ Some i
    → IsIn i placed → ((j : ℕ) × IsOpenAt Leads placed i j)
    → Every (λ x. (j : ℕ) → IsOpenAt Leads placed x j → ⊥) (take k placed) → IsLowestOpen Leads placed i
lowest_found Leads placed k i e h o before = record {
  is_placed = h;
  some = o;
  lowest = λ x j g w. (let a = place_at_most 0 placed k i e in
      let b = place_at_least 0 placed k x g
      (λ y. every_in (λ z. (j : ℕ) → IsOpenAt Leads placed z j → ⊥) (take k placed) x before y j w) in
      omega (arith, a, b));
}

-- The tree that gives the least field.

-- of the first k trees
abbrev pub IsBest : List Signature → List ℕ → ℕ → ℕ → Option Giver → Type 0
IsBest ss placed i k best = MatchOption best
    ((j f : ℕ) → j < k → IsOpenAt (LeadsBy ss) placed i j → GivesBy ss i j f → ⊥)
    (λ g. IsOpenAt (LeadsBy ss) placed i g.into × GivesBy ss i g.into g.field
    × ((j f : ℕ) → j < k → IsOpenAt (LeadsBy ss) placed i j → GivesBy ss i j f → g.field ≤ f))

module _ (ss : List Signature) (placed : List ℕ) (i k : ℕ) (s : Signature) (at : slice_get ss k ≡ Some s) where
  next_or : (j : ℕ) → j < k + 1 → (j < k) ⊎ (j ≡ k)
  next_or j l = here (nat_eq j k) refl
    where
      here : (b : Bool) → nat_eq j k ≡ b → (j < k) ⊎ (j ≡ k)
      here true e = inr (eqb-true j k e)
      here false e = inl (omega (arith, l, (λ (z : j ≡ k). true≢false (sym (eq-eqb j k z) ∙ e))))

  pub better_best : (best made : Option Giver) → IsBest ss placed i k best → IsBetter s.refs placed i k best made
      → IsBest ss placed i (k + 1) made
  better_best best made h (inl (same, kept)) =
      subst (IsBest ss placed i (k + 1)) (sym same) (stays best h kept)
    where
      here : (P : ℕ → ℕ → Type 0) → ((f : ℕ) → SignOpen s.refs placed i k → SignGives s.refs i f → P k f)
          → ((j f : ℕ) → j < k → IsOpenAt (LeadsBy ss) placed i j → GivesBy ss i j f → P j f) → (j f : ℕ) → j < k + 1
          → IsOpenAt (LeadsBy ss) placed i j → GivesBy ss i j f → P j f
      here P now before j f l o g = elim (next_or j l) [
        | inl m ↦ before j f m o g
        | inr e ↦ subst (λ (z : ℕ). P z f) (sym e)
            (now f (open_at ss k s at placed i (subst (λ (z : ℕ). IsOpenAt (LeadsBy ss) placed i z) e o))
            (gives_at ss k s at i f (subst (λ (z : ℕ). GivesBy ss i z f) e g)))
      ]

      stays : (o : Option Giver) → IsBest ss placed i k o
          → ((f : ℕ) → SignOpen s.refs placed i k → SignGives s.refs i f → (b : Giver) × (o ≡ Some b) × (b.field ≤ f))
          → IsBest ss placed i (k + 1) o
      stays None h kept = here (λ j f. ⊥) (λ f o g. none-some (kept f o g).0 (kept f o g).1) h
      stays (Some b) h kept = (
        h.0,
        h.1,
        here (λ j f. b.field ≤ f)
            (λ f o g. let w = kept f o g in subst (λ (x : Giver). x.field ≤ f) (sym (same_Some b w.0 w.1)) w.2) h.2,
      )
  better_best best made h (inr (g, is, into, o, gives, least, less)) =
      subst (IsBest ss placed i (k + 1)) (sym is) (
        subst (λ (z : ℕ). IsOpenAt (LeadsBy ss) placed i z) (sym into) (at_open ss k s at placed i o),
        subst (λ (z : ℕ). GivesBy ss i z g.field) (sym into) (at_gives ss k s at i g.field gives),
        (λ j f l w v. elim (next_or j l) [
          | inl m ↦ earlier best h less j f m w v
          | inr e ↦ least f (gives_at ss k s at i f (subst (λ (z : ℕ). GivesBy ss i z f) e v))
        ]),
      )
    where
      earlier : (b : Option Giver) → IsBest ss placed i k b → ((x : Giver) → b ≡ Some x → g.field ≤ x.field)
          → (j f : ℕ) → j < k → IsOpenAt (LeadsBy ss) placed i j → GivesBy ss i j f → g.field ≤ f
      earlier None h less j f m w v = absurd (h j f m w v)
      earlier (Some x) h less j f m w v = let a = less x refl in let b = h.2 j f m w v in omega (arith, a, b)

-- of all trees
pub none_best : (ss : List Signature) (placed : List ℕ) (i k : ℕ) → length ss ≤ k → IsBest ss placed i k None
    → (j f : ℕ) → IsOpenAt (LeadsBy ss) placed i j → GivesBy ss i j f → ⊥
none_best ss placed i k l h j f o g =
    let s = open_below ss placed i j o in
    let m = slice_get_within ss j s.0 s.1 in h j f (omega (arith, l, m)) o g

pub best_least : (ss : List Signature) (placed : List ℕ) (i k : ℕ) → length ss ≤ k → (g : Giver)
    → IsBest ss placed i k (Some g) → GivesLeast (LeadsBy ss) (GivesBy ss) placed i g.into
best_least ss placed i k l g h = record {
  open_way = h.0;
  field = g.field;
  given = h.1;
  least = λ j f o w. (let s = open_below ss placed i j o in
      let m = slice_get_within ss j s.0 s.1 in h.2 j f (omega (arith, l, m)) o w);
}

-- Whether a way back is open.

pub none_further : (ss : List Signature) (placed : List ℕ) (i k : ℕ) (s : Signature) → slice_get ss k ≡ Some s
    → (SignOpen s.refs placed i k → ⊥) → ((j : ℕ) → j < k → IsOpenAt (LeadsBy ss) placed i j → ⊥) → (j : ℕ) → j < k + 1
    → IsOpenAt (LeadsBy ss) placed i j → ⊥
none_further ss placed i k s at n before j l o = elim (next_or ss placed i k s at j l) [
  | inl m ↦ before j m o
  | inr e ↦ n (open_at ss k s at placed i (subst (λ (z : ℕ). IsOpenAt (LeadsBy ss) placed i z) e o))
]

pub none_open_left : (ss : List Signature) (placed : List ℕ) (i k : ℕ) → length ss ≤ k
    → ((j : ℕ) → j < k → IsOpenAt (LeadsBy ss) placed i j → ⊥) → (j : ℕ) → IsOpenAt (LeadsBy ss) placed i j → ⊥
none_open_left ss placed i k l h j o =
    let s = open_below ss placed i j o in
    let m = slice_get_within ss j s.0 s.1 in h j (omega (arith, l, m)) o

pub first_here : (P : ℕ → Type 0) (placed : List ℕ) (r : ℕ) (xs : List ℕ) → IsFirstLed P placed r xs → IsIn r xs
first_here P placed r [] h = absurd h
first_here P placed r (x ∷ xs) (inl h) = inl (sym h.0)
first_here P placed r (x ∷ xs) (inr h) = inr (first_here P placed r xs h.1)

-- The least field of those that a signature gives.

pub lesser_better : (ms : List RefMark) (placed : List ℕ) (i j field : ℕ) (best : Option Giver) (made : Giver)
    → IsLeastIn (fields_to i ms) (Some field) → SignOpen ms placed i j
    → IsLesser best (record { into = j; field = field }) made → IsBetter ms placed i j best (Some made)
lesser_better ms placed i j field best made least o (inl h) =
    inr (
      made,
      refl,
      ap (λ (g : Giver). g.into) h.0,
      o,
      subst (λ (g : Giver). SignGives ms i g.field) (sym h.0) (fields_give i ms field least.0),
      (λ f g. subst (λ (z : Giver). z.field ≤ f) (sym h.0) (every_in (λ y. field ≤ y) (fields_to i ms) f least.1
          (give_fields i ms f g))),
      (λ b e. subst (λ (z : Giver). z.field ≤ b.field) (sym h.0) (h.1 b e)),
    )
lesser_better ms placed i j field best made least o (inr h) =
    inl (
      sym h.0,
      (λ f p g. (
        made,
        h.0,
        (let a = every_in (λ y. field ≤ y) (fields_to i ms) f least.1 (give_fields i ms f g)
            in let b = h.1 in omega (arith, a, b)),
      )),
    )

pub none_better : (ms : List RefMark) (placed : List ℕ) (i j : ℕ) (best : Option Giver) → fields_to i ms ≡ []
    → IsBetter ms placed i j best best
none_better ms placed i j best none =
    inl (refl, (λ f o g. absurd (subst (IsIn f) none (give_fields i ms f g))))

pub closed_better : (ms : List RefMark) (placed : List ℕ) (i j : ℕ) (best : Option Giver)
    → (SignOpen ms placed i j → ⊥) → IsBetter ms placed i j best best
closed_better ms placed i j best n = inl (refl, (λ f o g. absurd (n o)))

-- Where the way back goes on.

pub led_own : (refers : ℕ → List ℕ) (Leads : ℕ → ℕ → ℕ → Type 0) (placed : List ℕ) (i j : ℕ) → (IsIn j placed → ⊥)
    → Leads i j j → IsLedOn refers Leads placed i j j
led_own refers Leads placed i j n l = record { own_first = λ o w. refl; then_list = λ w. absurd (n (w l)) }

pub led_list : (refers : ℕ → List ℕ) (Leads : ℕ → ℕ → ℕ → Type 0) (placed : List ℕ) (i j r : ℕ)
    → ((IsIn j placed → ⊥) → Leads i j j → ⊥) → IsFirstLed (λ x. Leads i j x) placed r (refers j)
    → IsLedOn refers Leads placed i j r
led_list refers Leads placed i j r n h = record { own_first = λ o w. absurd (n o w); then_list = λ w. h }

-- the way back is open, so it leads to the tree's own root, or to one of those to which the tree refers
pub some_led : (ss : List Signature) (refers : List (List ℕ)) (placed : List ℕ) (i j : ℕ) → AreLedWithin ss refers
    → IsOpenAt (LeadsBy ss) placed i j → ((IsIn j placed → ⊥) → LeadsBy ss i j j → ⊥)
    → ((r : ℕ) → IsIn r (nth_refs refers j) → (IsIn r placed → ⊥) → LeadsBy ss i j r → ⊥) → ⊥
some_led ss refers placed i j within (r, n, l) own list = elim (within i j r l) [
  | inl e ↦ own (λ k. n (subst (λ (z : ℕ). IsIn z placed) (sym e) k)) (subst (λ (z : ℕ). LeadsBy ss i j z) e l)
  | inr k ↦ list r k n l
]

pub first_by : (ss : List Signature) (j : ℕ) (s : Signature) → slice_get ss j ≡ Some s → (placed : List ℕ) (i r : ℕ)
    (xs : List ℕ) → IsFirstLed (λ x. SignLeads s.refs i j x) placed r xs
    → IsFirstLed (λ x. LeadsBy ss i j x) placed r xs
first_by ss j s at placed i r [] h = h
first_by ss j s at placed i r (x ∷ xs) (inl h) = inl (h.0, at_leads ss j s at i r h.1)
first_by ss j s at placed i r (x ∷ xs) (inr h) =
    inr ((λ n l. h.0 n (leads_at ss j s at i x l)), first_by ss j s at placed i r xs h.1)

-- A mark by which a way back is open.

pub none_or_some : (m : RefMark) (placed : List ℕ) (j : ℕ) (b : Bool)
    → MatchBool b ((r : ℕ) → IsIn r m.reach → IsIn r placed) ((r : ℕ) × IsIn r m.reach × (IsIn r placed → ⊥))
    → (m.back ≡ true → IsIn j placed)
    → ((not b ≡ true) → (r : ℕ) × (IsIn r placed → ⊥) × MarkLeads j r m)
    × ((r : ℕ) × (IsIn r placed → ⊥) × MarkLeads j r m → not b ≡ true)
none_or_some m placed j true all back = (
  (λ t. absurd (true≢false (sym t))),
  (λ o. elim o.2 [
    | inl h ↦ absurd (o.1 (subst (λ (z : ℕ). IsIn z placed) (sym h.0) (back h.1)))
    | inr h ↦ absurd (o.1 (all o.0 h))
  ]),
)
none_or_some m placed j false some back = ((λ t. (some.0, some.2, inr some.1)), (λ o. refl))
