-- Extremes are those of trees, and add up over choices.
use Rattle.std.proofs.Common.{◌≡◌, ◌⊎◌, inl, inr, ℕ, ◌<◌, ◌≤◌, ◌+◌, Bool, true, false, true≢false, ◌||◌, List}
use Rattle.std.proofs.Common.{[], ◌∷◌, cond, nat_eq, refl, sym, ap}
use Rattle.std.proofs.Common.{subst, ◌∙◌, arith, replicate, length}
use Rattle.std.proofs.lemmas.Bool.{and_parts, and_from}
use Rattle.fore_base.specs.Lists.{IsIn, Every, Paired}
use Rattle.ta_core.specs.Auto.{Automaton, IsRanked, IsRankedRule}
use Rattle.ta_core.specs.Language.{InLanguage, IsTrim, RunOf, run, RunEach, run_none, run_more, HasTree}
use Rattle.ta_core.specs.declared.auto.Rule.{Rule}
use Rattle.ta_core.specs.declared.symbol.Slot.{Slot}
use Rattle.ta_core.specs.declared.symbol.Slot.TheVariants.{Field, Link, Hook}
use Rattle.ta_core.specs.declared.symbol.Symbol.{Symbol}
use Rattle.ta_core.specs.declared.symbol.Symbol.TheVariants.{Null, Uninit, Dangling, Ref, Cell}
use Rattle.ta_core.specs.declared.tree.Tree.{Tree, out-Tree}
use Rattle.fore_base.proofs.ListLemmas.{every_in}
use Rattle.fa_core.specs.declared.faces.BoxFace.{BoxFace}
use Rattle.fa_core.specs.Filled.{Choice, HasSome}
use Rattle.fa_filling.proofs.SpotRules.{passed}
use Rattle.fa_filling.proofs.Chosen.{chosen_runs, runs_chosen}
use Rattle.fa_filling.specs.Parted.{RunBy, chosen}
use Rattle.fa_giving.specs.declared.totals.Extremes.{Extremes}
use Rattle.fa_giving.specs.declared.worths.Worth.{Worth}
use Rattle.fa_giving.specs.inner.Totals.{
  gives,
  IsExtremes,
  AreExtremes,
  extremes_of,
  none_given,
  added,
  total,
  worth_of,
}
use Rattle.fa_giving.specs.inner.Totals.{names_root, all_give}
use Rattle.fa_giving.specs.inner.Worths.{weigh, weight, refers, worth_at, nothing, joined, IsReal, IsBound, AreWorths}
use Rattle.fa_giving.specs.inner.Worths.{rule_worth}
use Rattle.fa_giving.proofs.Weights.{most_real, none_real, joined_real, real_map, bound_left, bound_right, bound_rule}
use Rattle.fa_giving.proofs.Weights.{
  by_rule_real,
  capped_low,
  capped_less,
  capped_step,
  below_low,
  weigh_ref,
  weigh_not,
}
use Rattle.fa_giving.proofs.Weights.{weigh_cell, weigh_is, below_slots}

-- each state of a trimmed automaton has a tree
pub state_trees : (a : Automaton) → IsTrim a → (q : ℕ) → q < a.states → HasTree a.rules q
state_trees a trim q l = let p = trim q l in passed a.rules p.3

module _ (bs : List BoxFace) (r f : ℕ) where
  -- ONE COMPONENT

  pub from_worth : (L : Tree → Type 0) (x : Worth) → IsReal bs r f L x → ((t : Tree) → L t → IsBound bs r f x t)
      → IsExtremes (gives bs r f) L (extremes_of x)
  from_worth L x h b = record {
    low = below_low 0 x h.low;
    most_real = most_real bs r f L x h 0;
    most_all = λ t l. (b t l).most 0;
    none_real = λ e. none_real bs r f L x h 0 e;
    none_all = λ t l e. (b t l).none 0 e;
  }

  module _ (a : Automaton) (ranked : IsRanked a) (table : List Worth) (h : AreWorths bs r f a table) where
    state_real : (q : ℕ) → q < a.states → IsReal bs r f (RunOf a.rules q) (worth_at table q)
    state_real q l = h.real q (subst (λ (n : ℕ). q < n) (sym h.long) l)

    -- what the table says of root states is true of trees of the language
    roots_real : (qs : List ℕ) → Every (λ q. q < a.states) qs → ((q : ℕ) → IsIn q qs → IsIn q a.roots) → (x : Worth)
        → IsReal bs r f (InLanguage a) x → IsReal bs r f (InLanguage a) (worth_of table x qs)
    roots_real [] l i x k = k
    roots_real (q ∷ qs) l i x k = roots_real qs l.1 (λ p j. i p (inr j)) (joined x (worth_at table q))
        (joined_real bs r f (InLanguage a) x (worth_at table q) k
        (real_map bs r f (RunOf a.rules q) (InLanguage a) (worth_at table q) (λ t d. (q, i q (inl refl), d))
        (state_real q l.0)))

    joined_low : (x y : Worth) → IsReal bs r f (InLanguage a) x → (q : ℕ) → IsReal bs r f (RunOf a.rules q) y
        → IsIn q a.roots → IsReal bs r f (InLanguage a) (joined x y)
    joined_low x y k q m i = joined_real bs r f (InLanguage a) x y k
        (real_map bs r f (RunOf a.rules q) (InLanguage a) y (λ t d. (q, i, d)) m)

    stays_bound : (qs : List ℕ) → Every (λ q. q < a.states) qs → ((q : ℕ) → IsIn q qs → IsIn q a.roots) → (x : Worth)
        → IsReal bs r f (InLanguage a) x → (t : Tree) → IsBound bs r f x t → IsBound bs r f (worth_of table x qs) t
    stays_bound [] l i x k t b = b
    stays_bound (q ∷ qs) l i x k t b = let m = state_real q l.0 in
        stays_bound qs l.1 (λ p j. i p (inr j)) (joined x (worth_at table q))
        (joined_low x (worth_at table q) k q m (i q (inl refl))) t
        (bound_left bs r f x (worth_at table q) t k.low m.low b)

    roots_bound : (qs : List ℕ) → Every (λ q. q < a.states) qs → ((q : ℕ) → IsIn q qs → IsIn q a.roots) → (x : Worth)
        → IsReal bs r f (InLanguage a) x → (t : Tree) (p : ℕ) → IsIn p qs → RunOf a.rules p t
        → IsBound bs r f (worth_of table x qs) t
    roots_bound [] l i x k t p j d = absurd j
    roots_bound (q ∷ qs) l i x k t p (inl e) d = let m = state_real q l.0 in
        stays_bound qs l.1 (λ p j. i p (inr j)) (joined x (worth_at table q))
        (joined_low x (worth_at table q) k q m (i q (inl refl))) t
        (bound_right bs r f x (worth_at table q) t k.low m.low (h.bound q t (subst (λ (z : ℕ). RunOf a.rules z t) e d)))
    roots_bound (q ∷ qs) l i x k t p (inr j) d = let m = state_real q l.0 in
        roots_bound qs l.1 (λ p j. i p (inr j)) (joined x (worth_at table q))
        (joined_low x (worth_at table q) k q m (i q (inl refl))) t p j d

    pub whole : HasSome a → AreExtremes bs r f a (extremes_of (worth_of table nothing a.roots))
    whole some = from_worth (InLanguage a) (worth_of table nothing a.roots)
        (roots_real a.roots ranked.0 (λ q i. i) nothing start)
        (λ t l. roots_bound a.roots ranked.0 (λ q i. i) nothing start t l.0 l.1 l.2)
      where
        start : IsReal bs r f (InLanguage a) nothing
        start = record {
          low = omega arith;
          most = (some.0, some.1, omega arith);
          leaf = λ e. absurd (true≢false (sym e));
          none = λ e. absurd (true≢false (sym e));
        }

    -- the trees by one rule
    pub by_rule : (o : Rule) → IsIn o a.rules → IsTrim a
        → AreExtremes bs r f (chosen a (o ∷ [])) (extremes_of (rule_worth bs r f table o))
    by_rule o i trim =
        from_worth (InLanguage (chosen a (o ∷ []))) (rule_worth bs r f table o)
        (real_map bs r f (RunBy a.rules o) (InLanguage (chosen a (o ∷ []))) (rule_worth bs r f table o)
        (λ t k. runs_chosen a (o ∷ []) ranked.1 right t o (inl refl) k)
        (by_rule_real bs r f a.rules a.states trees table state_real o
        (every_in (IsRankedRule a.states) a.rules o ranked.1 i)))
        (λ t l. (let k = chosen_runs a (o ∷ []) ranked.1 right t l in
        bound_rule bs r f a.rules a.states trees table state_real h.settled ranked.1 o t (this k.0 k.1 t k.2)))
      where
        right : (x : Rule) → IsIn x (o ∷ []) → IsIn x a.rules
        right x (inl e) = subst (λ (y : Rule). IsIn y a.rules) (sym e) i
        right x (inr n) = absurd n

        trees : (q : ℕ) → q < a.states → HasTree a.rules q
        trees = state_trees a trim

        this : (x : Rule) → IsIn x (o ∷ []) → (t : Tree) → RunBy a.rules x t → RunBy a.rules o t
        this x (inl e) t k = subst (λ (y : Rule). RunBy a.rules y t) e k
        this x (inr n) t k = absurd n

  -- NOTHING GIVEN

  either : (z : ℕ) (b : Bool) → cond b z z ≡ z
  either z true = refl
  either z false = refl

  -- where no rule is the reference, or no edge gives the field, no tree gives it
  module _ (rules : List Rule)
      (free : (o : Rule) (x : Slot) → IsIn o rules → refers r o.symbol ≡ true → weight bs f x ≡ 0) where
    mutual
      never : {q : ℕ} {t : Tree} → RunOf rules q t → (gives bs r f t ≡ 0)
          × ((x : Slot) → weigh bs r f t (weight bs f x) ≡ 0)
      never {q} {t} (run o i e s k) = let z = slots_none k in let g = by z (out-Tree t).symbol refl in
          (g, λ x. edge g x (refers r o.symbol) refl)
        where
          by : ((ss : List Slot) → below_slots bs r f ss (out-Tree t).children ≡ 0) → (y : Symbol)
              → (out-Tree t).symbol ≡ y → gives bs r f t ≡ 0
          by z Null d = weigh_is bs r f t Null 0 d
          by z Uninit d = weigh_is bs r f t Uninit 0 d
          by z Dangling d = weigh_is bs r f t Dangling 0 d
          by z (Ref m) d = weigh_is bs r f t (Ref m) 0 d ∙ either 0 (nat_eq r m)
          by z (Cell h ds ss) d = weigh_cell bs r f t h ds ss 0 d ∙ z ss

          edge : gives bs r f t ≡ 0 → (x : Slot) → (b : Bool) → refers r o.symbol ≡ b
              → weigh bs r f t (weight bs f x) ≡ 0
          edge g x true d = weigh_ref bs r f t (weight bs f x) (ap (refers r) (sym s) ∙ d) ∙ free o x i d
          edge g x false d = weigh_not bs r f t (weight bs f x) (ap (refers r) (sym s) ∙ d) ∙ g

      slots_none : {qs : List ℕ} {ts : List Tree} → RunEach rules qs ts → (ss : List Slot)
          → below_slots bs r f ss ts ≡ 0
      slots_none k [] = refl
      slots_none k (Hook b ∷ ss) = slots_none k ss
      slots_none run_none (Field g ∷ ss) = refl
      slots_none run_none (Link g ∷ ss) = refl
      slots_none (run_more k ks) (Field g ∷ ss) =
          let a = (never k).1 (Field g) in let b = slots_none ks ss in omega (arith, a, b)
      slots_none (run_more k ks) (Link g ∷ ss) =
          let a = (never k).1 (Link g) in let b = slots_none ks ss in omega (arith, a, b)

    pub gives_none : {q : ℕ} {t : Tree} → RunOf rules q t → gives bs r f t ≡ 0
    gives_none k = (never k).0

  unnamed_rule : (rules : List Rule) (o : Rule) → names_root r rules ≡ false → IsIn o rules → refers r o.symbol ≡ false
  unnamed_rule [] o n i = absurd i
  unnamed_rule (x ∷ rules) o n (inl e) = ap (λ (y : Rule). refers r y.symbol) e ∙ left (refers r x.symbol) n
    where
      left : (b : Bool) → (b || names_root r rules) ≡ false → b ≡ false
      left true h = absurd (true≢false h)
      left false h = refl
  unnamed_rule (x ∷ rules) o n (inr i) = unnamed_rule rules o (right (refers r x.symbol) n) i
    where
      right : (b : Bool) → (b || names_root r rules) ≡ false → names_root r rules ≡ false
      right true h = absurd (true≢false h)
      right false h = h

  -- so for a component
  none_gives : (a : Automaton) → HasSome a
      → ((o : Rule) (x : Slot) → IsIn o a.rules → refers r o.symbol ≡ true → weight bs f x ≡ 0)
      → AreExtremes bs r f a none_given
  none_gives a some free = record {
    low = omega arith;
    most_real = (some.0, some.1, omega arith);
    most_all = λ t l. (let e = none l.1 l.2 in inl (omega (arith, e)));
    none_real = λ e. (some.0, some.1, none some.1.1 some.1.2);
    none_all = λ t l e. refl;
  }
    where
      none : {t : Tree} {q : ℕ} → IsIn q a.roots → RunOf a.rules q t → gives bs r f t ≡ 0
      none i k = gives_none a.rules free k

  pub unnamed : (a : Automaton) → HasSome a → names_root r a.rules ≡ false → AreExtremes bs r f a none_given
  unnamed a some n =
      none_gives a some (λ o x j e. absurd (true≢false (sym e ∙ unnamed_rule a.rules o n j)))

  -- for components where no edge gives the field
  pub none_of_each : ((x : Slot) → weight bs f x ≡ 0) → (autos : List Automaton) → Every HasSome autos
      → Paired (AreExtremes bs r f) autos (replicate (length autos) none_given)
  none_of_each free [] h = tt
  none_of_each free (a ∷ autos) h = (none_gives a h.0 (λ o x j e. free x), none_of_each free autos h.1)

  -- CHOICES

  abbrev pub TotalOf : List Automaton → Extremes → Type 0
  TotalOf autos e = IsExtremes (all_give bs r f) (Choice autos) e

  -- more components behind some whose trees give m together
  most_more : (autos : List Automaton) (es : List Extremes) (x : Extremes) → x.most ≤ 2
      → Paired (AreExtremes bs r f) autos es → ((total x es).most ≤ 2) × ((ts : List Tree) × Choice autos ts
      × ((total x es).most ≤ x.most + all_give bs r f ts))
  most_more [] [] x l p = (l, ([], tt, omega arith))
  most_more [] (e ∷ es) x l p = absurd p
  most_more (a ∷ autos) [] x l p = absurd p
  most_more (a ∷ autos) (e ∷ es) x l p =
      let k = most_more autos es (added x e) (capped_low (x.most + e.most)) p.1 in
      let t = p.0.most_real in
      let c = capped_less (x.most + e.most) in
      let u = k.1.2 in let v = t.2 in
      (k.0, (t.0 ∷ k.1.0, (t.1, k.1.1), omega (arith, c, u, v)))

  most_bound : (autos : List Automaton) (es : List Extremes) (x : Extremes) (m : ℕ) → (m ≤ x.most) ⊎ (x.most ≡ 2)
      → Paired (AreExtremes bs r f) autos es → (ts : List Tree) → Choice autos ts
      → (m + all_give bs r f ts ≤ (total x es).most) ⊎ ((total x es).most ≡ 2)
  most_bound [] [] x m h p [] c = subst (λ (k : ℕ). (k ≤ x.most) ⊎ (x.most ≡ 2)) (omega arith) h
  most_bound [] [] x m h p (t ∷ ts) c = absurd c
  most_bound [] (e ∷ es) x m h p ts c = absurd p
  most_bound (a ∷ autos) [] x m h p ts c = absurd p
  most_bound (a ∷ autos) (e ∷ es) x m h p [] c = absurd c
  most_bound (a ∷ autos) (e ∷ es) x m h p (t ∷ ts) c =
      let k = capped_step m (gives bs r f t) x.most e.most h (p.0.most_all t c.0) in
      let z = most_bound autos es (added x e) (m + gives bs r f t) k p.1 ts c.1 in
      subst (λ (k : ℕ). (k ≤ (total (added x e) es).most) ⊎ ((total (added x e) es).most ≡ 2)) (omega arith) z

  none_more : (autos : List Automaton) (es : List Extremes) (x : Extremes) → Paired (AreExtremes bs r f) autos es
      → (total x es).none ≡ true → (x.none ≡ true) × ((ts : List Tree) × Choice autos ts × (all_give bs r f ts ≡ 0))
  none_more [] [] x p h = (h, ([], tt, refl))
  none_more [] (e ∷ es) x p h = absurd p
  none_more (a ∷ autos) [] x p h = absurd p
  none_more (a ∷ autos) (e ∷ es) x p h =
      let k = none_more autos es (added x e) p.1 h in
      let t = p.0.none_real (and_parts x.none e.none k.0).1 in
      let u = k.1.2 in let v = t.2 in
      ((and_parts x.none e.none k.0).0, (t.0 ∷ k.1.0, (t.1, k.1.1), omega (arith, u, v)))

  none_bound : (autos : List Automaton) (es : List Extremes) (x : Extremes) → Paired (AreExtremes bs r f) autos es
      → (ts : List Tree) → Choice autos ts → x.none ≡ true → all_give bs r f ts ≡ 0 → (total x es).none ≡ true
  none_bound [] [] x p ts c h z = h
  none_bound [] (e ∷ es) x p ts c h z = absurd p
  none_bound (a ∷ autos) [] x p ts c h z = absurd p
  none_bound (a ∷ autos) (e ∷ es) x p [] c h z = absurd c
  none_bound (a ∷ autos) (e ∷ es) x p (t ∷ ts) c h z =
      none_bound autos es (added x e) p.1 ts c.1 (and_from x.none e.none h (p.0.none_all t c.0 (omega (arith, z))))
      (omega (arith, z))

  pub totals : (autos : List Automaton) (es : List Extremes) → Paired (AreExtremes bs r f) autos es
      → TotalOf autos (total none_given es)
  totals autos es p = let m = most_more autos es none_given (omega arith) p in record {
    low = m.0;
    most_real = (let k = m.1 in let l = k.2 in (k.0, k.1, omega (arith, l)));
    most_all = λ ts c. subst (λ (k : ℕ).
        (k ≤ (total none_given es).most) ⊎ ((total none_given es).most ≡ 2)) (omega arith)
        (most_bound autos es none_given 0 (inl (omega arith)) p ts c);
    none_real = λ h. (none_more autos es none_given p h).1;
    none_all = λ ts c z. none_bound autos es none_given p ts c refl z;
  }
