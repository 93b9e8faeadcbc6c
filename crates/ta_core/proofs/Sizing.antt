-- Sizes are those of trees, and no tree is smaller.
use Rattle.std.proofs.Common.{◌≡◌, inl, inr, ℕ, zero, suc, ◌<◌, ◌≤◌, ◌+◌, ◌^◌, Bool, true, false, true≢false}
use Rattle.std.proofs.Common.{nat_lt, cond, List, [], ◌∷◌, length, map, set, replicate, Option, Some, None, refl}
use Rattle.std.proofs.Common.{sym, ap, subst, ◌∙◌, arith, length-set}
use Rattle.std.proofs.lemmas.Bool.{ltb-true, lt-ltb, ltb-false}
use Rattle.std.proofs.lemmas.Option.{none-some, same_Some}
use Rattle.std.specs.Bool.{MatchBool}
use Rattle.std.specs.Option.{IsSome}
use Rattle.fore_base.specs.Lists.{IsIn, Every, sum_of}
use Rattle.ta_core.specs.declared.auto.Rule.{Rule}
use Rattle.ta_core.specs.declared.symbol.Symbol.{Symbol}
use Rattle.ta_core.specs.declared.tree.Tree.{Tree, out-Tree, fold-roll-Tree, fold_out-Tree}
use Rattle.ta_core.specs.Language.{RunOf, run, RunEach, run_none, run_more, nodes, nodes_step}
use Rattle.ta_core.specs.inner.Sizes.{size_at, capped, plus, total, rule_size, is_less, IsSettled, HasTreeOf, AreReal}
use Rattle.ta_core.specs.inner.Sizes.{Improves, size_sum, IsLeastRule, number, sum_at}
use Rattle.fore_base.proofs.ListLemmas.{every_in}
use Rattle.ta_core.proofs.Rounding.{copies_or, set_or}
use Rattle.ta_core.proofs.Runs.{tree_of, run_tree}

pub nodes_out : (t : Tree) → nodes t ≡ sum_of (map nodes (out-Tree t).children) + 1
nodes_out t = fold_out-Tree ℕ nodes_step t

pub nodes_tree : (y : Symbol) (ts : List Tree) → nodes (tree_of y ts) ≡ sum_of (map nodes ts) + 1
nodes_tree y ts = fold-roll-Tree ℕ nodes_step (record { symbol = y; children = ts })

pub capped_some : (n : ℕ) → n < 2 ^ 64 → capped n ≡ Some n
capped_some n h = let e = lt-ltb n (2 ^ 64) h in rw e refl

-- each state has a size, and n is their sum
abbrev pub Sums : List (Option ℕ) → List ℕ → ℕ → Type 0
Sums sizes [] n = n ≡ 0
Sums sizes (q ∷ qs) n = (a : ℕ) × (m : ℕ) × (size_at sizes q ≡ Some a) × Sums sizes qs m × (n ≡ a + m)

total_none : (sizes : List (Option ℕ)) (qs : List ℕ) → total sizes None qs ≡ None
total_none sizes [] = refl
total_none sizes (q ∷ qs) = total_none sizes qs

pub total_sum : (sizes : List (Option ℕ)) (qs : List ℕ) (n a : ℕ) → Sums sizes qs n → a + n < 2 ^ 64
    → total sizes (Some a) qs ≡ Some (a + n)
total_sum sizes [] n a h l = ap Some (omega (arith, h))
total_sum sizes (q ∷ qs) n a (b, m, e, r, d) l =
    let c = capped_some (a + b) (omega (arith, d, l)) in
    let t = total_sum sizes qs m (a + b) r (omega (arith, d, l)) in
    let s : (a + b) + m ≡ a + n = omega (arith, d) in
    ap (λ (o : Option ℕ). total sizes (plus (Some a) o) qs) e ∙ ap (λ (o : Option ℕ). total sizes o qs) c ∙ t
    ∙ ap Some s

module _ (sizes : List (Option ℕ)) where
  -- a total is a sum of sizes, and 64 bits count it
  pub sum_total : (qs : List ℕ) (n a : ℕ) → a < 2 ^ 64 → total sizes (Some a) qs ≡ Some n → (m : ℕ) × Sums sizes qs m
      × (n ≡ a + m) × (n < 2 ^ 64)
  sum_total [] n a l h = let e = same_Some a n h in (0, refl, omega (arith, e), omega (arith, e))
  sum_total (q ∷ qs) n a l h = there (size_at sizes q) refl h (sum_total qs n)
    where
      fits : (b : ℕ) → size_at sizes q ≡ Some b → (c : Bool) → nat_lt (a + b) (2 ^ 64) ≡ c
          → total sizes (cond c (Some (a + b)) None) qs ≡ Some n
          → ((x : ℕ) → x < 2 ^ 64 → total sizes (Some x) qs ≡ Some n → (m : ℕ) × Sums sizes qs m × (n ≡ x + m)
          × (n < 2 ^ 64)) → (m : ℕ) × Sums sizes (q ∷ qs) m × (n ≡ a + m) × (n < 2 ^ 64)
      fits b e true c g k = let w = k (a + b) (ltb-true (a + b) (2 ^ 64) c) g in let d = w.2 in
          (b + w.0, (b, w.0, e, w.1, refl), omega (arith, d), w.3)
      fits b e false c g k = absurd (none-some n (sym (total_none sizes qs) ∙ g))

      there : (o : Option ℕ) → size_at sizes q ≡ o → total sizes (plus (Some a) o) qs ≡ Some n
          → ((x : ℕ) → x < 2 ^ 64 → total sizes (Some x) qs ≡ Some n → (m : ℕ) × Sums sizes qs m × (n ≡ x + m)
          × (n < 2 ^ 64)) → (m : ℕ) × Sums sizes (q ∷ qs) m × (n ≡ a + m) × (n < 2 ^ 64)
      there None e g k = absurd (none-some n (sym (total_none sizes qs) ∙ g))
      there (Some b) e g k = fits b e (nat_lt (a + b) (2 ^ 64)) refl g k

  pub sum_at_sums : (qs : List ℕ) (n : ℕ) → Sums sizes qs n → sum_at sizes qs ≡ n
  sum_at_sums [] n h = sym h
  sum_at_sums (q ∷ qs) n (a, m, e, r, d) = let f = ap number e in let s = sum_at_sums qs m r in omega (arith, f, s, d)

  pub sums_there : (qs : List ℕ) (n : ℕ) → Sums sizes qs n → Every (λ q. IsSome (size_at sizes q)) qs
  sums_there [] n h = tt
  sums_there (q ∷ qs) n (a, m, e, r, d) =
      (let P : Option ℕ → Type 0 = λ o. IsSome o in subst P (sym e) refl, sums_there qs m r)

  pub sum_at_in : (qs : List ℕ) (q : ℕ) → IsIn q qs → number (size_at sizes q) ≤ sum_at sizes qs
  sum_at_in (p ∷ qs) q (inl e) = let f = ap (λ (x : ℕ). number (size_at sizes x)) e in omega (arith, f)
  sum_at_in (p ∷ qs) q (inr i) = let l = sum_at_in qs q i in omega (arith, l)
  sum_at_in [] q i = absurd i

module _ (rules : List Rule) (sizes : List (Option ℕ)) where
  each_real : AreReal rules sizes → (qs : List ℕ) (n : ℕ) → Sums sizes qs n → (ts : List Tree) × RunEach rules qs ts
      × (sum_of (map nodes ts) ≡ n)
  each_real real [] n h = ([], run_none, sym h)
  each_real real (q ∷ qs) n (a, m, e, r, d) =
      let t = real q a e in
      let ts = each_real real qs m r in
      let x = t.2 in let y = ts.2 in
      (t.0 ∷ ts.0, run_more t.1 ts.1, omega (arith, x, y, d))

  -- a rule's size is that of some tree
  pub rule_real : AreReal rules sizes → (r : Rule) (s : ℕ) → IsIn r rules → rule_size sizes r ≡ Some s
      → HasTreeOf rules r.state s
  rule_real real r s i h =
      let w = sum_total sizes r.children s 1 (omega arith) h in
      let ts = each_real real r.children w.0 w.1 in
      let x = ts.2 in let y = w.2 in let z = nodes_tree r.symbol ts.0 in
      (tree_of r.symbol ts.0, run_tree rules r ts.0 i ts.1, omega (arith, x, y, z), w.3)

pub real_set : (rules : List Rule) (sizes : List (Option ℕ)) (r : Rule) → IsIn r rules → AreReal rules sizes
    → AreReal rules (set sizes r.state (rule_size sizes r))
real_set rules sizes r i real q s h = elim (set_or sizes r.state q (rule_size sizes r) None) [
  | inl n ↦ subst (λ (p : ℕ). HasTreeOf rules p s) (sym n.0) (rule_real rules sizes real r s i (sym n.1 ∙ h))
  | inr o ↦ real q s (sym o ∙ h)
]

pub none_real : (rules : List Rule) (n : ℕ) → AreReal rules (replicate n None)
none_real rules n q s h = absurd (none-some s (sym (copies_or n q None) ∙ h))

-- a smaller size is one
pub less_some : (o p : Option ℕ) → is_less o p ≡ true → (s : ℕ) × (o ≡ Some s)
less_some None p h = absurd (true≢false (sym h))
less_some (Some s) p h = (s, refl)

size_sum_falls : (sizes : List (Option ℕ)) (i s : ℕ) → i < length sizes → s < 2 ^ 64
    → is_less (Some s) (size_at sizes i) ≡ true → size_sum (set sizes i (Some s)) < size_sum sizes
size_sum_falls [] i s l k h = absurd (omega arith)
size_sum_falls (None ∷ xs) zero s l k h = omega (arith, k)
size_sum_falls (Some o ∷ xs) zero s l k h = let m = ltb-true s o h in omega (arith, m)
size_sum_falls (None ∷ xs) (suc i) s l k h = let w = size_sum_falls xs i s (omega arith) k h in omega (arith, w)
size_sum_falls (Some o ∷ xs) (suc i) s l k h = let w = size_sum_falls xs i s (omega arith) k h in omega (arith, w)

-- a rule that is taken gives its state a smaller size, or gives none
pub rule_taken : (rules : List Rule) (n : ℕ) (r : Rule) (now new : List (Option ℕ)) (better : Bool)
    → IsIn r rules × (r.state < n) → (length now ≡ n) × AreReal rules now → Improves r now new better
    → ((length new ≡ n) × AreReal rules new)
    × MatchBool better (size_sum new < size_sum now) ((new ≡ now) × IsSettled now r)
rule_taken rules n r now new true given kept taken =
    let k = kept.0 in let low = given.1 in
    let o = less_some (rule_size now r) (size_at now r.state) taken.0 in
    let w = sum_total now r.children o.0 1 (omega arith) o.1 in
    let f = size_sum_falls now r.state o.0 (omega (arith, k, low)) w.3
    (subst (λ (x : Option ℕ). is_less x (size_at now r.state) ≡ true) o.1 taken.0) in
    let e = ap size_sum (taken.1 ∙ ap (λ (x : Option ℕ). set now r.state x) o.1) in (
      (
        ap length taken.1 ∙ length-set now r.state (rule_size now r) ∙ kept.0,
        subst (AreReal rules) (sym taken.1) (real_set rules now r given.0 kept.1),
      ),
      omega (arith, f, e),
    )
rule_taken rules n r now new false given kept taken =
    ((ap length taken.0 ∙ kept.0, subst (AreReal rules) (sym taken.0) kept.1), taken)

at_most : (m : ℕ) (o : Option ℕ) → is_less (Some m) o ≡ false → (s : ℕ) × (o ≡ Some s) × (s ≤ m)
at_most m None h = absurd (true≢false h)
at_most m (Some s) h = (s, refl, ltb-false m s h)

module _ (rules : List Rule) (sizes : List (Option ℕ)) (settled : Every (IsSettled sizes) rules) where
  mutual
    -- a tree that 64 bits count has no fewer nodes than the table says
    pub lower : {q : ℕ} {t : Tree} → RunOf rules q t → nodes t < 2 ^ 64 → (s : ℕ) × (size_at sizes q ≡ Some s)
        × (s ≤ nodes t)
    lower {q} {t} (run r i e y k) l =
        let d = nodes_out t in
        let w = lower_each k (omega (arith, d, l)) in
        let b = w.2 in
        let z = total_sum sizes r.children w.0 1 w.1 (omega (arith, d, l, b)) in
        let f = every_in (IsSettled sizes) rules r settled i in
        let g : is_less (Some (1 + w.0)) (size_at sizes r.state) ≡ false =
        subst (λ (o : Option ℕ). is_less o (size_at sizes r.state) ≡ false) z f in
        let m = at_most (1 + w.0) (size_at sizes r.state) g in
        let c = m.2 in
        (m.0, ap (size_at sizes) (sym e) ∙ m.1, omega (arith, b, c, d))

    lower_each : {qs : List ℕ} {ts : List Tree} → RunEach rules qs ts → sum_of (map nodes ts) < 2 ^ 64 → (n : ℕ)
        × Sums sizes qs n × (n ≤ sum_of (map nodes ts))
    lower_each run_none l = (0, refl, omega arith)
    lower_each (run_more {t = t} {ts = ts} r rs) l =
        let a = lower r (omega arith) in
        let w = lower_each rs (omega arith) in
        let b = a.2 in let c = w.2 in
        (a.0 + w.0, (a.0, w.0, a.1, w.1, refl), omega (arith, b, c))

  -- some rule gives the size
  pub has_rule : AreReal rules sizes → (q s : ℕ) → size_at sizes q ≡ Some s → (r : Rule) × IsIn r rules
      × IsLeastRule sizes q r
  has_rule real q s h = let t = real q s h in there t.0 t.1 t.2 t.3
    where
      there : (t : Tree) → RunOf rules q t → nodes t ≡ s → s < 2 ^ 64 → (r : Rule) × IsIn r rules
          × IsLeastRule sizes q r
      there t (run r i e y k) n l =
          let d = nodes_out t in
          let w = lower_each k (omega (arith, d, n, l)) in
          let b = w.2 in
          let z = total_sum sizes r.children w.0 1 w.1 (omega (arith, d, n, l, b)) in
          let f = every_in (IsSettled sizes) rules r settled i in
          let g : is_less (Some (1 + w.0)) (size_at sizes r.state) ≡ false =
          subst (λ (o : Option ℕ). is_less o (size_at sizes r.state) ≡ false) z f in
          let m = at_most (1 + w.0) (size_at sizes r.state) g in
          let c = m.2 in
          let x : m.0 ≡ s = same_Some m.0 s (sym m.1 ∙ ap (size_at sizes) e ∙ h) in
          let v : 1 + w.0 ≡ s = omega (arith, b, c, d, n, x) in
          (r, i, (e, z ∙ ap Some v ∙ sym h))
