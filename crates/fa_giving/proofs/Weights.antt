-- What a table says of states is true of their trees.
use Rattle.std.proofs.Common.{◌≡◌, ◌⊎◌, inl, inr, ℕ, zero, suc, ◌<◌, ◌≤◌, ◌+◌, ◌-◌, Bool, true, false, true≢false, not}
use Rattle.std.proofs.Common.{
  ◌&&◌,
  ◌||◌,
  nat_eq,
  nat_lt,
  cond,
  List,
  [],
  ◌∷◌,
  length,
  map,
  set,
  replicate,
  refl,
  sym,
  ap,
}
use Rattle.std.proofs.Common.{subst, ◌∙◌, arith, length-set}
use Rattle.std.proofs.lemmas.Bool.{ltb-true, ltb-false, eqb-true, eq-eqb, and_parts, and_from, or_left, or_right}
use Rattle.std.proofs.lemmas.Bool.{cases_Bool}
use Rattle.std.proofs.lemmas.Bool.{or_cases, or_parts}
use Rattle.std.proofs.lemmas.List.{length-replicate}
use Rattle.std.specs.Bool.{MatchBool}
use Rattle.fore_base.specs.Lists.{IsIn, Every, Paired, sum_of}
use Rattle.fore_base.specs.declared.store.Datum.{Datum}
use Rattle.ta_core.specs.Auto.{Automaton, IsRanked, IsRankedRule}
use Rattle.ta_core.specs.Language.{RunOf, run, RunEach, run_none, run_more, HasTree}
use Rattle.ta_core.specs.declared.auto.Rule.{Rule}
use Rattle.ta_core.specs.declared.symbol.Slot.{Slot}
use Rattle.ta_core.specs.declared.symbol.Slot.TheVariants.{Field, Link, Hook}
use Rattle.ta_core.specs.declared.symbol.Symbol.{Symbol}
use Rattle.ta_core.specs.declared.symbol.Symbol.TheVariants.{Null, Uninit, Dangling, Ref, Cell}
use Rattle.ta_core.specs.declared.tree.Tree.{Tree, Tree-F, out-Tree, out-roll-Tree, fold_out-Tree}
use Rattle.fore_base.proofs.ListLemmas.{every_in}
use Rattle.ta_core.proofs.Rounding.{copies_or, set_or}
use Rattle.ta_core.proofs.Runs.{tree_of}
use Rattle.fa_core.specs.declared.faces.BoxFace.{BoxFace}
use Rattle.fa_core.specs.Cells.{edges}
use Rattle.fa_filling.specs.Parted.{RunBy}
use Rattle.fa_giving.specs.declared.worths.Worth.{Worth}
use Rattle.fa_giving.specs.inner.Worths.{
  weight,
  weigh_at,
  weigh,
  refers,
  capped,
  greater,
  nothing,
  leaf_worth,
  worth_at,
}
use Rattle.fa_giving.specs.inner.Worths.{most_below, none_below, with_edge, with_edges, worth_by, rule_worth, joined}
use Rattle.fa_giving.specs.inner.Worths.{adds, IsSettled, IsReal, AreReal, IsBound, AreWorths, Takes, room_of, rooms}

-- NUMBERS

pub capped_cases : (n : ℕ) → ((capped n ≡ n) × (n ≤ 2)) ⊎ ((capped n ≡ 2) × (2 ≤ n))
capped_cases n = here (nat_lt 2 n) refl
  where
    here : (b : Bool) → nat_lt 2 n ≡ b → ((cond b 2 n ≡ n) × (n ≤ 2)) ⊎ ((cond b 2 n ≡ 2) × (2 ≤ n))
    here true e = let l = ltb-true 2 n e in inr (refl, omega (arith, l))
    here false e = inl (refl, ltb-false 2 n e)

pub greater_cases : (m n : ℕ) → ((greater m n ≡ n) × (m ≤ n)) ⊎ ((greater m n ≡ m) × (n ≤ m))
greater_cases m n = here (nat_lt m n) refl
  where
    here : (b : Bool) → nat_lt m n ≡ b → ((cond b n m ≡ n) × (m ≤ n)) ⊎ ((cond b n m ≡ m) × (n ≤ m))
    here true e = let l = ltb-true m n e in inl (refl, omega (arith, l))
    here false e = inr (refl, ltb-false m n e)

pub capped_low : (n : ℕ) → capped n ≤ 2
capped_low n = elim (capped_cases n) [
  | inl c ↦ (let e = c.0 in let l = c.1 in omega (arith, e, l))
  | inr c ↦ (let e = c.0 in omega (arith, e))
]

pub capped_less : (n : ℕ) → capped n ≤ n
capped_less n = elim (capped_cases n) [
  | inl c ↦ (let e = c.0 in omega (arith, e))
  | inr c ↦ (let e = c.0 in let l = c.1 in omega (arith, e, l))
]

-- sums of numbers that are counted up to 2
pub capped_step : (n m a b : ℕ) → (n ≤ a) ⊎ (a ≡ 2) → (m ≤ b) ⊎ (b ≡ 2)
    → (n + m ≤ capped (a + b)) ⊎ (capped (a + b) ≡ 2)
capped_step n m a b h k = elim (capped_cases (a + b)) [
  | inr c ↦ inr c.0
  | inl c ↦ here c h k
]
  where
    here : (capped (a + b) ≡ a + b) × (a + b ≤ 2) → (n ≤ a) ⊎ (a ≡ 2) → (m ≤ b) ⊎ (b ≡ 2)
        → (n + m ≤ capped (a + b)) ⊎ (capped (a + b) ≡ 2)
    here c (inl h) (inl k) = let e = c.0 in inl (omega (arith, e, h, k))
    here c (inl h) (inr k) = let e = c.0 in let l = c.1 in inr (omega (arith, e, l, k))
    here c (inr h) k = let e = c.0 in let l = c.1 in inr (omega (arith, e, l, h))

follows : (a b : Bool) → (a && not b) ≡ false → a ≡ true → b ≡ true
follows a true h k = refl
follows true false h k = absurd (true≢false h)
follows false false h k = k

-- x says all that y does
abbrev Says : Worth → Worth → Type 0
Says x y = (y.leaf ≡ true → x.leaf ≡ true) × (y.most ≤ x.most) × (y.none ≡ true → x.none ≡ true)

-- what a rule says that says nothing new
settled_parts : (x y : Worth) → adds x y ≡ false → (y.leaf ≡ true → x.leaf ≡ true) × (y.most ≤ x.most)
    × (y.none ≡ true → x.none ≡ true)
settled_parts x y h =
    let a = or_parts (y.leaf && not x.leaf) _ h in
    let b = or_parts (nat_lt x.most y.most) (y.none && not x.none) a.1 in
    (follows y.leaf x.leaf a.0, ltb-false x.most y.most b.0, follows y.none x.none b.1)

below_most : (w : ℕ) (x : Worth) → x.most ≤ most_below w x
below_most w x = here x.leaf
  where
    here : (b : Bool) → x.most ≤ cond b (greater (capped w) x.most) x.most
    here true = elim (greater_cases (capped w) x.most) [
      | inl c ↦ (let e = c.0 in omega (arith, e))
      | inr c ↦ (let e = c.0 in let l = c.1 in omega (arith, e, l))
    ]
    here false = omega arith

pub below_low : (w : ℕ) (x : Worth) → x.most ≤ 2 → most_below w x ≤ 2
below_low w x h = here x.leaf
  where
    here : (b : Bool) → cond b (greater (capped w) x.most) x.most ≤ 2
    here true = let k = capped_low w in elim (greater_cases (capped w) x.most) [
      | inl c ↦ (let e = c.0 in omega (arith, e, h))
      | inr c ↦ (let e = c.0 in omega (arith, e, k))
    ]
    here false = h

-- the greater of two says both
says_left : (x y : Worth) → Says (joined x y) x
says_left x y = (
  or_left x.leaf y.leaf,
  elim (greater_cases x.most y.most) [
    | inl c ↦ (let e = c.0 in let l = c.1 in omega (arith, e, l))
    | inr c ↦ (let e = c.0 in omega (arith, e))
  ],
  or_left x.none y.none,
)

says_right : (x y : Worth) → Says (joined x y) y
says_right x y = (
  or_right x.leaf y.leaf,
  elim (greater_cases x.most y.most) [
    | inl c ↦ (let e = c.0 in omega (arith, e))
    | inr c ↦ (let e = c.0 in let l = c.1 in omega (arith, e, l))
  ],
  or_right x.none y.none,
)

below_grows : (w : ℕ) (x y : Worth) → Says x y → most_below w y ≤ most_below w x
below_grows w x y h = here y.leaf refl
  where
    here : (b : Bool) → y.leaf ≡ b → cond b (greater (capped w) y.most) y.most ≤ most_below w x
    here false e = let a = below_most w x in let b = h.1 in omega (arith, a, b)
    here true e = subst (λ (v : Bool). greater (capped w) y.most ≤ cond v (greater (capped w) x.most) x.most)
        (sym (h.0 e)) (let b = h.1 in elim (greater_cases (capped w) y.most) [
          | inl c ↦ elim (greater_cases (capped w) x.most) [
            | inl d ↦ (let u = c.0 in let v = d.0 in omega (arith, u, v, b))
            | inr d ↦ (let u = c.0 in let v = d.0 in let l = d.1 in omega (arith, u, v, l, b))
          ]
          | inr c ↦ elim (greater_cases (capped w) x.most) [
            | inl d ↦ (let u = c.0 in let v = d.0 in let l = d.1 in omega (arith, u, v, l))
            | inr d ↦ (let u = c.0 in let v = d.0 in omega (arith, u, v))
          ]
        ])

none_grows : (w : ℕ) (x y : Worth) → Says x y → none_below w y ≡ true → none_below w x ≡ true
none_grows w x y h e = elim (or_cases y.none (y.leaf && nat_eq w 0) e) [
  | inl d ↦ or_left x.none _ (h.2 d)
  | inr d ↦ or_right x.none _ (and_from x.leaf _ (h.0 (and_parts y.leaf _ d).0) (and_parts y.leaf _ d).1)
]

module _ (bs : List BoxFace) (r f : ℕ) where
  bound_more : (x y : Worth) (t : Tree) → x.most ≤ 2 → Says x y → IsBound bs r f y t → IsBound bs r f x t
  bound_more x y t l h b = record {
    most = λ w. (let a = below_grows w x y h in let c = below_low w x l in elim (b.most w) [
      | inl k ↦ inl (omega (arith, k, a))
      | inr k ↦ inr (omega (arith, k, a, c))
    ]);
    none = λ w e. none_grows w x y h (b.none w e);
  }

  pub bound_left : (x y : Worth) (t : Tree) → x.most ≤ 2 → y.most ≤ 2 → IsBound bs r f x t
      → IsBound bs r f (joined x y) t
  bound_left x y t l m b = bound_more (joined x y) x t (both x y l m) (says_left x y) b
    where
      both : (x y : Worth) → x.most ≤ 2 → y.most ≤ 2 → greater x.most y.most ≤ 2
      both x y l m = elim (greater_cases x.most y.most) [
        | inl c ↦ (let e = c.0 in omega (arith, e, m))
        | inr c ↦ (let e = c.0 in omega (arith, e, l))
      ]

  pub bound_right : (x y : Worth) (t : Tree) → x.most ≤ 2 → y.most ≤ 2 → IsBound bs r f y t
      → IsBound bs r f (joined x y) t
  bound_right x y t l m b = bound_more (joined x y) y t (both x y l m) (says_right x y) b
    where
      both : (x y : Worth) → x.most ≤ 2 → y.most ≤ 2 → greater x.most y.most ≤ 2
      both x y l m = elim (greater_cases x.most y.most) [
        | inl c ↦ (let e = c.0 in omega (arith, e, m))
        | inr c ↦ (let e = c.0 in omega (arith, e, l))
      ]

  bound_plain : (x : Worth) (t : Tree) → x.most ≤ 2 → ((w : ℕ) → (weigh bs r f t w ≤ x.most) ⊎ (x.most ≡ 2))
      → ((w : ℕ) → weigh bs r f t w ≡ 0 → x.none ≡ true) → IsBound bs r f x t
  bound_plain x t l h g = record {
    most = λ w. (let a = below_most w x in let b = below_low w x l in elim (h w) [
      | inl k ↦ inl (omega (arith, k, a))
      | inr k ↦ inr (omega (arith, k, a, b))
    ]);
    none = λ w e. or_left x.none _ (g w e);
  }

  bound_leaf : (t : Tree) → ((w : ℕ) → weigh bs r f t w ≡ w) → IsBound bs r f (leaf_worth true) t
  bound_leaf t e = record {
    most = λ w. (let k = e w in let l = capped_low w in elim (greater_cases (capped w) 0) [
      | inl c ↦ (let d = c.0 in let j = c.1 in elim (capped_cases w) [
        | inl v ↦ (let u = v.0 in inl (omega (arith, d, j, u, k)))
        | inr v ↦ (let u = v.0 in absurd (omega (arith, j, u)))
      ])
      | inr c ↦ (let d = c.0 in elim (capped_cases w) [
        | inl v ↦ (let u = v.0 in inl (omega (arith, d, u, k)))
        | inr v ↦ (let u = v.0 in inr (omega (arith, d, u)))
      ])
    ]);
    none = λ w d. eq-eqb w 0 (sym (e w) ∙ d);
  }

module _ (bs : List BoxFace) (r f : ℕ) where
  -- WEIGHTS

  abbrev W : Tree → ℕ → ℕ
  W = weigh bs r f

  -- how often the trees below the slots give it
  abbrev pub below_slots : List Slot → List Tree → ℕ
  below_slots ss ts = sum_of (map (λ e. weigh bs r f e.1 (weight bs f e.0)) (edges ss ts))

  sum_mapped : (ss : List Slot) (ts : List Tree)
      → sum_of (map (λ (e : Slot × (ℕ → ℕ)). e.1 (weight bs f e.0)) (edges ss (map W ts))) ≡ below_slots ss ts
  sum_mapped [] ts = refl
  sum_mapped (Hook b ∷ ss) ts = sum_mapped ss ts
  sum_mapped (Field g ∷ ss) [] = refl
  sum_mapped (Field g ∷ ss) (t ∷ ts) = ap (λ (n : ℕ). W t (weight bs f (Field g)) + n) (sum_mapped ss ts)
  sum_mapped (Link b ∷ ss) [] = refl
  sum_mapped (Link b ∷ ss) (t ∷ ts) = ap (λ (n : ℕ). W t (weight bs f (Link b)) + n) (sum_mapped ss ts)

  -- by the symbol at the top
  pub weigh_is : (t : Tree) (y : Symbol) (w : ℕ) → (out-Tree t).symbol ≡ y
      → W t w ≡ weigh_at bs r f y (map W (out-Tree t).children) w
  weigh_is t y w e = ap (λ (g : ℕ → ℕ). g w) (fold_out-Tree (ℕ → ℕ) (λ x. weigh_at bs r f x.symbol x.children) t)
      ∙ ap (λ (z : Symbol). weigh_at bs r f z (map W (out-Tree t).children) w) e

  pub weigh_cell : (t : Tree) (s : ℕ) (ds : List Datum) (ss : List Slot) (w : ℕ) → (out-Tree t).symbol ≡ Cell s ds ss
      → W t w ≡ below_slots ss (out-Tree t).children
  weigh_cell t s ds ss w e = weigh_is t (Cell s ds ss) w e ∙ sum_mapped ss (out-Tree t).children

  pub weigh_ref : (t : Tree) (w : ℕ) → refers r (out-Tree t).symbol ≡ true → W t w ≡ w
  weigh_ref t w h = here (out-Tree t).symbol refl h
    where
      here : (y : Symbol) → (out-Tree t).symbol ≡ y → refers r y ≡ true → W t w ≡ w
      here Null e k = absurd (true≢false (sym k))
      here Uninit e k = absurd (true≢false (sym k))
      here Dangling e k = absurd (true≢false (sym k))
      here (Ref n) e k = weigh_is t (Ref n) w e ∙ ap (λ (b : Bool). cond b w 0) k
      here (Cell s ds ss) e k = absurd (true≢false (sym k))

  pub weigh_not : (t : Tree) (w : ℕ) → refers r (out-Tree t).symbol ≡ false → W t w ≡ W t 0
  weigh_not t w h = here (out-Tree t).symbol refl h
    where
      here : (y : Symbol) → (out-Tree t).symbol ≡ y → refers r y ≡ false → W t w ≡ W t 0
      here Null e k = weigh_is t Null w e ∙ sym (weigh_is t Null 0 e)
      here Uninit e k = weigh_is t Uninit w e ∙ sym (weigh_is t Uninit 0 e)
      here Dangling e k = weigh_is t Dangling w e ∙ sym (weigh_is t Dangling 0 e)
      here (Ref n) e k = weigh_is t (Ref n) w e ∙ ap (λ (b : Bool). cond b w 0) k
          ∙ sym (weigh_is t (Ref n) 0 e ∙ ap (λ (b : Bool). cond b 0 0) k)
      here (Cell s ds ss) e k = weigh_is t (Cell s ds ss) w e ∙ sym (weigh_is t (Cell s ds ss) 0 e)

  grows : (t : Tree) (w : ℕ) → W t 0 ≤ W t w
  grows t w = elim (cases_Bool (refers r (out-Tree t).symbol)) [
    | inl e ↦ (let a = weigh_ref t 0 e in omega (arith, a))
    | inr e ↦ (let a = weigh_not t w e in omega (arith, a))
  ]

  bound_other : (t : Tree) → refers r (out-Tree t).symbol ≡ false → W t 0 ≡ 0 → IsBound bs r f (leaf_worth false) t
  bound_other t n z = bound_plain bs r f (leaf_worth false) t (omega arith)
      (λ w. (let v = weigh_not t w n in inl (omega (arith, v, z)))) (λ w e. refl)

  -- REAL

  module _ (L : Tree → Type 0) where
    pub most_real : (x : Worth) → IsReal bs r f L x → (w : ℕ) → (t : Tree) × L t × (most_below w x ≤ W t w)
    most_real x h w = here x.leaf refl
      where
        own : (m : ℕ) → m ≡ x.most → (t : Tree) × L t × (m ≤ W t w)
        own m e = let t = h.most in let l = t.2 in let g = grows t.0 w in (t.0, t.1, omega (arith, e, l, g))

        here : (b : Bool) → x.leaf ≡ b → (t : Tree) × L t × (cond b (greater (capped w) x.most) x.most ≤ W t w)
        here false e = own x.most refl
        here true e = elim (greater_cases (capped w) x.most) [
          | inl c ↦ own _ c.0
          | inr c ↦ (let t = h.leaf e in let l = capped_less w in let k = weigh_ref t.0 w t.2 in let d = c.0 in
              (t.0, t.1, omega (arith, d, l, k)))
        ]

    pub none_real : (x : Worth) → IsReal bs r f L x → (w : ℕ) → none_below w x ≡ true → (t : Tree) × L t × (W t w ≡ 0)
    none_real x h w n = elim (or_cases x.none (x.leaf && nat_eq w 0) n) [
      | inl e ↦ (let t = h.none e in (t.0, t.1, weigh_not t.0 w t.2 ∙ t.3))
      | inr e ↦ (let t = h.leaf (and_parts x.leaf (nat_eq w 0) e).0 in
          (t.0, t.1, weigh_ref t.0 w t.2 ∙ eqb-true w 0 (and_parts x.leaf (nat_eq w 0) e).1))
    ]

    pub joined_real : (x y : Worth) → IsReal bs r f L x → IsReal bs r f L y → IsReal bs r f L (joined x y)
    joined_real x y h k = record {
      low = elim (greater_cases x.most y.most) [
        | inl c ↦ (let e = c.0 in let l = k.low in omega (arith, e, l))
        | inr c ↦ (let e = c.0 in let l = h.low in omega (arith, e, l))
      ];
      most = elim (greater_cases x.most y.most) [
        | inl c ↦ (let t = k.most in let e = c.0 in let l = t.2 in (t.0, t.1, omega (arith, e, l)))
        | inr c ↦ (let t = h.most in let e = c.0 in let l = t.2 in (t.0, t.1, omega (arith, e, l)))
      ];
      leaf = λ e. elim (or_cases x.leaf y.leaf e) [ inl d ↦ h.leaf d | inr d ↦ k.leaf d ];
      none = λ e. elim (or_cases x.none y.none e) [ inl d ↦ h.none d | inr d ↦ k.none d ];
    }

  pub real_map : (L M : Tree → Type 0) (x : Worth) → ((t : Tree) → L t → M t) → IsReal bs r f L x → IsReal bs r f M x
  real_map L M x g h = record {
    low = h.low;
    most = (let t = h.most in (t.0, g t.0 t.1, t.2));
    leaf = λ e. (let t = h.leaf e in (t.0, g t.0 t.1, t.2));
    none = λ e. (let t = h.none e in (t.0, g t.0 t.1, t.2, t.3));
  }

  module _ (rules : List Rule) where
    module _ (n : ℕ) (trees : (q : ℕ) → q < n → HasTree rules q) (table : List Worth)
        (real : (q : ℕ) → q < n → IsReal bs r f (RunOf rules q) (worth_at table q)) where
      any_trees : (qs : List ℕ) → Every (λ q. q < n) qs → (ts : List Tree) × RunEach rules qs ts
      any_trees [] h = ([], run_none)
      any_trees (q ∷ qs) h = let t = trees q h.0 in let k = any_trees qs h.1 in (t.0 ∷ k.0, run_more t.1 k.1)

      edges_most : (ss : List Slot) (qs : List ℕ) → Every (λ q. q < n) qs → (x : Worth) → (ts : List Tree)
          × RunEach rules qs ts × ((with_edges bs f table x (edges ss qs)).most ≤ x.most + below_slots ss ts)
      edges_most [] qs h x = let k = any_trees qs h in (k.0, k.1, omega arith)
      edges_most (Hook b ∷ ss) qs h x = edges_most ss qs h x
      edges_most (Field g ∷ ss) [] h x = ([], run_none, omega arith)
      edges_most (Field g ∷ ss) (q ∷ qs) h x =
          let t = most_real (RunOf rules q) (worth_at table q) (real q h.0) (weight bs f (Field g)) in
          let k = edges_most ss qs h.1 (with_edge bs f table x (Field g, q)) in
          let c = capped_less (x.most + most_below (weight bs f (Field g)) (worth_at table q)) in
          let a = t.2 in let b = k.2 in
          (t.0 ∷ k.0, run_more t.1 k.1, omega (arith, a, b, c))
      edges_most (Link g ∷ ss) [] h x = ([], run_none, omega arith)
      edges_most (Link g ∷ ss) (q ∷ qs) h x =
          let t = most_real (RunOf rules q) (worth_at table q) (real q h.0) (weight bs f (Link g)) in
          let k = edges_most ss qs h.1 (with_edge bs f table x (Link g, q)) in
          let c = capped_less (x.most + most_below (weight bs f (Link g)) (worth_at table q)) in
          let a = t.2 in let b = k.2 in
          (t.0 ∷ k.0, run_more t.1 k.1, omega (arith, a, b, c))

      edges_none : (ss : List Slot) (qs : List ℕ) → Every (λ q. q < n) qs → (x : Worth)
          → (with_edges bs f table x (edges ss qs)).none ≡ true → (x.none ≡ true) × ((ts : List Tree)
          × RunEach rules qs ts × (below_slots ss ts ≡ 0))
      edges_none [] qs h x e = let k = any_trees qs h in (e, (k.0, k.1, refl))
      edges_none (Hook b ∷ ss) qs h x e = edges_none ss qs h x e
      edges_none (Field g ∷ ss) [] h x e = (e, ([], run_none, refl))
      edges_none (Field g ∷ ss) (q ∷ qs) h x e =
          let k = edges_none ss qs h.1 (with_edge bs f table x (Field g, q)) e in
          let t = none_real (RunOf rules q) (worth_at table q) (real q h.0) (weight bs f (Field g))
          (and_parts x.none _ k.0).1 in
          let a = t.2 in let b = k.1.2 in
          ((and_parts x.none _ k.0).0, (t.0 ∷ k.1.0, run_more t.1 k.1.1, omega (arith, a, b)))
      edges_none (Link g ∷ ss) [] h x e = (e, ([], run_none, refl))
      edges_none (Link g ∷ ss) (q ∷ qs) h x e =
          let k = edges_none ss qs h.1 (with_edge bs f table x (Link g, q)) e in
          let t = none_real (RunOf rules q) (worth_at table q) (real q h.0) (weight bs f (Link g))
          (and_parts x.none _ k.0).1 in
          let a = t.2 in let b = k.1.2 in
          ((and_parts x.none _ k.0).0, (t.0 ∷ k.1.0, run_more t.1 k.1.1, omega (arith, a, b)))

      no_leaf : (es : List (Slot × ℕ)) (x : Worth) → x.leaf ≡ false → (with_edges bs f table x es).leaf ≡ false
      no_leaf [] x h = h
      no_leaf (e ∷ es) x h = no_leaf es (with_edge bs f table x e) refl

      low_edges : (es : List (Slot × ℕ)) (x : Worth) → x.most ≤ 2 → (with_edges bs f table x es).most ≤ 2
      low_edges [] x h = h
      low_edges (e ∷ es) x h = low_edges es (with_edge bs f table x e)
          (capped_low (x.most + most_below (weight bs f e.0) (worth_at table e.1)))

      -- the tree by a rule: its symbol, and its weight
      rolled : (y : Symbol) (ts : List Tree) → (out-Tree (tree_of y ts)).symbol ≡ y
      rolled y ts = let x : Tree-F Tree = record { symbol = y; children = ts } in
          ap (λ (z : Tree-F Tree). z.symbol) (out-roll-Tree x)

      rolled_cell : (s : ℕ) (ds : List Datum) (ss : List Slot) (ts : List Tree) (w : ℕ)
          → W (tree_of (Cell s ds ss) ts) w ≡ below_slots ss ts
      rolled_cell s ds ss ts w =
          let x : Tree-F Tree = record { symbol = Cell s ds ss; children = ts } in
          weigh_cell (tree_of (Cell s ds ss) ts) s ds ss w (rolled (Cell s ds ss) ts)
          ∙ ap (λ (z : Tree-F Tree). below_slots ss z.children) (out-roll-Tree x)

      rolled_leaf : (y : Symbol) (ts : List Tree) → ((cs : List (ℕ → ℕ)) → weigh_at bs r f y cs 0 ≡ 0)
          → W (tree_of y ts) 0 ≡ 0
      rolled_leaf y ts h = weigh_is (tree_of y ts) y 0 (rolled y ts) ∙ h (map W (out-Tree (tree_of y ts)).children)

      abbrev OfSymbol : List ℕ → Symbol → Worth → Type 0
      OfSymbol qs y x = (x.most ≤ 2)
          × ((ts : List Tree) × RunEach rules qs ts × (x.most ≤ W (tree_of y ts) 0))
          × (x.leaf ≡ true → (ts : List Tree) × RunEach rules qs ts × (refers r y ≡ true))
          × (x.none ≡ true → (ts : List Tree) × RunEach rules qs ts × (refers r y ≡ false)
          × (W (tree_of y ts) 0 ≡ 0))

      of_leaf : (qs : List ℕ) → Every (λ q. q < n) qs → (y : Symbol) (b : Bool) → refers r y ≡ b
          → ((cs : List (ℕ → ℕ)) → weigh_at bs r f y cs 0 ≡ 0) → OfSymbol qs y (leaf_worth b)
      of_leaf qs h y b e w =
          let k = any_trees qs h in (
            omega arith,
            (k.0, k.1, omega arith),
            (λ d. (k.0, k.1, e ∙ d)),
            (λ d. (k.0, k.1, e ∙ not_true b d, rolled_leaf y k.0 w)),
          )
        where
          not_true : (b : Bool) → not b ≡ true → b ≡ false
          not_true true d = absurd (true≢false (sym d))
          not_true false d = refl

      of_symbol : (qs : List ℕ) → Every (λ q. q < n) qs → (y : Symbol) → OfSymbol qs y (worth_by bs r f table y qs)
      of_symbol qs h Null = of_leaf qs h Null false refl (λ cs. refl)
      of_symbol qs h Uninit = of_leaf qs h Uninit false refl (λ cs. refl)
      of_symbol qs h Dangling = of_leaf qs h Dangling false refl (λ cs. refl)
      of_symbol qs h (Ref k) = of_leaf qs h (Ref k) (nat_eq r k) refl (λ cs. either 0 (nat_eq r k))
        where
          either : (z : ℕ) (b : Bool) → cond b z z ≡ z
          either z true = refl
          either z false = refl
      of_symbol qs h (Cell s ds ss) =
          let m = edges_most ss qs h (leaf_worth false) in
          let l = m.2 in let c = rolled_cell s ds ss m.0 0 in (
            low_edges (edges ss qs) (leaf_worth false) (omega arith),
            (m.0, m.1, omega (arith, l, c)),
            (λ d. absurd (true≢false (sym d ∙ no_leaf (edges ss qs) (leaf_worth false) refl))),
            (λ d. (let k = edges_none ss qs h (leaf_worth false) d in
                (k.1.0, k.1.1, refl, rolled_cell s ds ss k.1.0 0 ∙ k.1.2))),
          )

      -- the trees by a rule
      pub by_rule_real : (o : Rule) → IsRankedRule n o → IsReal bs r f (RunBy rules o) (rule_worth bs r f table o)
      by_rule_real o h =
          let k = of_symbol o.children h.1 o.symbol in
          record {
            low = k.0;
            most = (tree_of o.symbol k.1.0, by o.symbol k.1.0 k.1.1, k.1.2);
            leaf = λ e. (let t = k.2 e in
                (tree_of o.symbol t.0, by o.symbol t.0 t.1, ap (refers r) (rolled o.symbol t.0) ∙ t.2));
            none = λ e. (let t = k.3 e in
                (tree_of o.symbol t.0, by o.symbol t.0 t.1, ap (refers r) (rolled o.symbol t.0) ∙ t.2, t.3));
          }
        where
          by : (y : Symbol) (ts : List Tree) → RunEach rules o.children ts
              → (y ≡ (out-Tree (tree_of y ts)).symbol) × RunEach rules o.children (out-Tree (tree_of y ts)).children
          by y ts k = let x : Tree-F Tree = record { symbol = y; children = ts } in rw (out-roll-Tree x) (refl, k)

      pub rule_real : (o : Rule) → IsIn o rules → IsRankedRule n o
          → IsReal bs r f (RunOf rules o.state) (rule_worth bs r f table o)
      rule_real o i h = real_map (RunBy rules o) (RunOf rules o.state) (rule_worth bs r f table o)
          (λ t k. run o i refl k.0 k.1) (by_rule_real o h)

      -- BOUNDS

      module _ (settled : Every (IsSettled bs r f table) rules) (ranked : Every (IsRankedRule n) rules) where
        edges_bound : (ss : List Slot) (qs : List ℕ) (ts : List Tree)
            → Paired (λ q t. IsBound bs r f (worth_at table q) t) qs ts → (x : Worth) (m : ℕ)
            → (m ≤ x.most) ⊎ (x.most ≡ 2) → (m + below_slots ss ts ≤ (with_edges bs f table x (edges ss qs)).most)
            ⊎ ((with_edges bs f table x (edges ss qs)).most ≡ 2)
        edges_bound [] qs ts p x m h = subst (λ (k : ℕ). (k ≤ x.most) ⊎ (x.most ≡ 2)) (omega arith) h
        edges_bound (Hook b ∷ ss) qs ts p x m h = edges_bound ss qs ts p x m h
        edges_bound (Field g ∷ ss) [] [] p x m h = subst (λ (k : ℕ). (k ≤ x.most) ⊎ (x.most ≡ 2)) (omega arith) h
        edges_bound (Field g ∷ ss) [] (t ∷ ts) p x m h = absurd p
        edges_bound (Field g ∷ ss) (q ∷ qs) [] p x m h = absurd p
        edges_bound (Field g ∷ ss) (q ∷ qs) (t ∷ ts) p x m h =
            let y = with_edge bs f table x (Field g, q) in
            let w = weight bs f (Field g) in
            let k = capped_step m (W t w) x.most (most_below w (worth_at table q)) h (p.0.most w) in
            let z = edges_bound ss qs ts p.1 y (m + W t w) k in
            subst (λ (k : ℕ). (k ≤ (with_edges bs f table y (edges ss qs)).most)
            ⊎ ((with_edges bs f table y (edges ss qs)).most ≡ 2)) (omega arith) z
        edges_bound (Link g ∷ ss) [] [] p x m h = subst (λ (k : ℕ). (k ≤ x.most) ⊎ (x.most ≡ 2)) (omega arith) h
        edges_bound (Link g ∷ ss) [] (t ∷ ts) p x m h = absurd p
        edges_bound (Link g ∷ ss) (q ∷ qs) [] p x m h = absurd p
        edges_bound (Link g ∷ ss) (q ∷ qs) (t ∷ ts) p x m h =
            let y = with_edge bs f table x (Link g, q) in
            let w = weight bs f (Link g) in
            let k = capped_step m (W t w) x.most (most_below w (worth_at table q)) h (p.0.most w) in
            let z = edges_bound ss qs ts p.1 y (m + W t w) k in
            subst (λ (k : ℕ). (k ≤ (with_edges bs f table y (edges ss qs)).most)
            ⊎ ((with_edges bs f table y (edges ss qs)).most ≡ 2)) (omega arith) z

        edges_free : (ss : List Slot) (qs : List ℕ) (ts : List Tree)
            → Paired (λ q t. IsBound bs r f (worth_at table q) t) qs ts → (x : Worth) → x.none ≡ true
            → below_slots ss ts ≡ 0 → (with_edges bs f table x (edges ss qs)).none ≡ true
        edges_free [] qs ts p x h e = h
        edges_free (Hook b ∷ ss) qs ts p x h e = edges_free ss qs ts p x h e
        edges_free (Field g ∷ ss) [] ts p x h e = h
        edges_free (Field g ∷ ss) (q ∷ qs) [] p x h e = absurd p
        edges_free (Field g ∷ ss) (q ∷ qs) (t ∷ ts) p x h e =
            edges_free ss qs ts p.1 (with_edge bs f table x (Field g, q))
            (and_from x.none _ h (p.0.none (weight bs f (Field g)) (omega (arith, e)))) (omega (arith, e))
        edges_free (Link g ∷ ss) [] ts p x h e = h
        edges_free (Link g ∷ ss) (q ∷ qs) [] p x h e = absurd p
        edges_free (Link g ∷ ss) (q ∷ qs) (t ∷ ts) p x h e =
            edges_free ss qs ts p.1 (with_edge bs f table x (Link g, q))
            (and_from x.none _ h (p.0.none (weight bs f (Link g)) (omega (arith, e)))) (omega (arith, e))

        bound_by : (qs : List ℕ) (y : Symbol) (t : Tree) → (out-Tree t).symbol ≡ y
            → Paired (λ q t. IsBound bs r f (worth_at table q) t) qs (out-Tree t).children
            → IsBound bs r f (worth_by bs r f table y qs) t
        bound_by qs Null t d p = bound_other t (ap (refers r) d) (weigh_is t Null 0 d)
        bound_by qs Uninit t d p = bound_other t (ap (refers r) d) (weigh_is t Uninit 0 d)
        bound_by qs Dangling t d p = bound_other t (ap (refers r) d) (weigh_is t Dangling 0 d)
        bound_by qs (Ref m) t d p = ref (nat_eq r m) (ap (refers r) d)
          where
            ref : (b : Bool) → refers r (out-Tree t).symbol ≡ b → IsBound bs r f (leaf_worth b) t
            ref true g = bound_leaf bs r f t (λ w. weigh_ref t w g)
            ref false g = bound_other t g (weigh_is t (Ref m) 0 d ∙ either 0 (nat_eq r m))
              where
                either : (z : ℕ) (b : Bool) → cond b z z ≡ z
                either z true = refl
                either z false = refl
        bound_by qs (Cell h ds ss) t d p =
            let z : (w : ℕ) → W t w ≡ below_slots ss (out-Tree t).children = λ w. weigh_cell t h ds ss w d in
            let x = with_edges bs f table (leaf_worth false) (edges ss qs) in
            bound_plain bs r f x t (low_edges (edges ss qs) (leaf_worth false) (omega arith))
            (λ w. (let u = z w in
            elim (edges_bound ss qs (out-Tree t).children p (leaf_worth false) 0 (inl (omega arith))) [
              | inl l ↦ inl (omega (arith, l, u))
              | inr l ↦ inr l
            ]))
            (λ w e. edges_free ss qs (out-Tree t).children p (leaf_worth false) refl (sym (z w) ∙ e))

        mutual
          pub bound_run : {q : ℕ} {t : Tree} → RunOf rules q t → IsBound bs r f (worth_at table q) t
          bound_run {q} {t} (run o i e s k) =
              let b = bound_by o.children o.symbol t (sym s) (bound_each k) in
              subst (λ (p : ℕ). IsBound bs r f (worth_at table p) t) e
              (bound_more bs r f (worth_at table o.state) (rule_worth bs r f table o) t
              (real o.state (every_in (IsRankedRule n) rules o ranked i).0).low
              (settled_parts (worth_at table o.state) (rule_worth bs r f table o)
              (every_in (IsSettled bs r f table) rules o settled i)) b)

          pub bound_each : {qs : List ℕ} {ts : List Tree} → RunEach rules qs ts
              → Paired (λ q t. IsBound bs r f (worth_at table q) t) qs ts
          bound_each run_none = tt
          bound_each (run_more k ks) = (bound_run k, bound_each ks)

        -- so of the trees by a rule
        pub bound_rule : (o : Rule) (t : Tree) → RunBy rules o t → IsBound bs r f (rule_worth bs r f table o) t
        bound_rule o t k = bound_by o.children o.symbol t (sym k.0) (bound_each k.1)

-- TABLES

-- what is said anew leaves less to say
room_falls : (x y : Worth) → y.most ≤ 2 → adds x y ≡ true → room_of (joined x y) < room_of x
room_falls x y l h = here x.leaf y.leaf x.none y.none (nat_lt x.most y.most) refl h
  where
    here : (a b c d m : Bool) → nat_lt x.most y.most ≡ m → ((b && not a) || (m || (d && not c))) ≡ true
        → cond (a || b) 0 1 + ((2 - cond m y.most x.most) + cond (c || d) 0 1)
        < cond a 0 1 + ((2 - x.most) + cond c 0 1)
    here a b c d true e k = let j = ltb-true x.most y.most e in rest a b c d
      where
        rest : (a b c d : Bool) → cond (a || b) 0 1 + ((2 - y.most) + cond (c || d) 0 1)
            < cond a 0 1 + ((2 - x.most) + cond c 0 1)
        rest a b c d =
            let j = ltb-true x.most y.most e in
            let p = less a b in let q = less c d in
            omega (arith, j, p, q, l)
          where
            less : (a b : Bool) → cond (a || b) 0 1 ≤ cond a 0 1
            less true b = omega arith
            less false true = omega arith
            less false false = omega arith
    here true b true d false e k = absurd (true≢false (sym k ∙ both b d))
      where
        both : (b d : Bool) → ((b && not true) || (false || (d && not true))) ≡ false
        both true true = refl
        both true false = refl
        both false true = refl
        both false false = refl
    here true b false true false e k = omega arith
    here true true false false false e k = absurd (true≢false (sym k))
    here true false false false false e k = absurd (true≢false (sym k))
    here false true c d false e k = less c d
      where
        less : (c d : Bool) → 0 + ((2 - x.most) + cond (c || d) 0 1) < 1 + ((2 - x.most) + cond c 0 1)
        less true d = omega arith
        less false true = omega arith
        less false false = omega arith
    here false false true true false e k = absurd (true≢false (sym k))
    here false false true false false e k = absurd (true≢false (sym k))
    here false false false true false e k = omega arith
    here false false false false false e k = absurd (true≢false (sym k))

rooms_fall : (table : List Worth) (i : ℕ) (y : Worth) → i < length table → y.most ≤ 2
    → adds (worth_at table i) y ≡ true → rooms (set table i (joined (worth_at table i) y)) < rooms table
rooms_fall [] i y l h k = absurd (omega arith)
rooms_fall (x ∷ xs) zero y l h k = let f = room_falls x y h k in omega (arith, f)
rooms_fall (x ∷ xs) (suc i) y l h k = let f = rooms_fall xs i y (omega arith) h k in omega (arith, f)

module _ (bs : List BoxFace) (r f : ℕ) (rules : List Rule) where
  pub nothing_real : (n : ℕ) → ((q : ℕ) → q < n → HasTree rules q) → AreReal bs r f rules (replicate n nothing)
  nothing_real n trees q l = subst (IsReal bs r f (RunOf rules q)) (sym (copies_or n q nothing))
      (let t = trees q (subst (λ (m : ℕ). q < m) (length-replicate n nothing) l) in record {
        low = omega arith;
        most = (t.0, t.1, omega arith);
        leaf = λ e. absurd (true≢false (sym e));
        none = λ e. absurd (true≢false (sym e));
      })

  -- a rule that is taken says something new of its state, or says nothing new
  pub rule_taken : (n : ℕ) (o : Rule) (now new : List Worth) (added : Bool) → IsIn o rules × IsRankedRule n o
      → ((q : ℕ) → q < n → HasTree rules q) × (length now ≡ n) × AreReal bs r f rules now
      → Takes bs r f o now new added
      → (((q : ℕ) → q < n → HasTree rules q) × (length new ≡ n) × AreReal bs r f rules new)
      × MatchBool added (rooms new < rooms now) ((new ≡ now) × IsSettled bs r f now o)
  rule_taken n o now new true given kept taken =
      let trees : (q : ℕ) → q < length now → HasTree rules q =
      subst (λ (m : ℕ). (q : ℕ) → q < m → HasTree rules q) (sym kept.1) kept.0 in
      let ranked : IsRankedRule (length now) o = subst (λ (m : ℕ). IsRankedRule m o) (sym kept.1) given.1 in
      let x = joined (worth_at now o.state) (rule_worth bs r f now o) in
      let k = rule_real bs r f rules (length now) trees now kept.2 o given.0 ranked in
      let g = rooms_fall now o.state (rule_worth bs r f now o) ranked.0 k.low taken.0 in
      let e = ap rooms taken.1 in (
        (
          kept.0,
          ap length taken.1 ∙ length-set now o.state x ∙ kept.1,
          subst (AreReal bs r f rules) (sym taken.1) (λ q j. elim (set_or now o.state q x nothing) [
            | inl d ↦ subst (λ (p : ℕ). IsReal bs r f (RunOf rules p) (worth_at (set now o.state x) q)) (sym d.0)
                (subst (IsReal bs r f (RunOf rules o.state)) (sym d.1)
                (joined_real bs r f (RunOf rules o.state) (worth_at now o.state) (rule_worth bs r f now o)
                (kept.2 o.state ranked.0) k))
            | inr d ↦ subst (IsReal bs r f (RunOf rules q)) (sym d)
                (kept.2 q (subst (λ (m : ℕ). q < m) (length-set now o.state x) j))
          ]),
        ),
        omega (arith, g, e),
      )
  rule_taken n o now new false given kept taken =
      ((kept.0, ap length taken.0 ∙ kept.1, subst (AreReal bs r f rules) (sym taken.0) kept.2), taken)

-- a settled table is right
pub settled_right : (bs : List BoxFace) (r f : ℕ) (a : Automaton) (table : List Worth) → IsRanked a
    → ((q : ℕ) → q < a.states → HasTree a.rules q) → length table ≡ a.states → AreReal bs r f a.rules table
    → Every (IsSettled bs r f table) a.rules → AreWorths bs r f a table
settled_right bs r f a table ranked trees long real settled = record {
  long = long;
  real = real;
  bound = λ q t k. bound_run bs r f a.rules a.states trees table
      (λ p l. real p (subst (λ (m : ℕ). p < m) (sym long) l)) settled ranked.1 k;
  settled = settled;
}
