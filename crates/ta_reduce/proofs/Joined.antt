-- Where states that simulate each other get one number, the language is the same.
use Rattle.std.proofs.Common.{◌≡◌, ℕ, ◌<◌, Bool, true, ◌&&◌, List, [], ◌∷◌, length, map, nat_lt, slice_index, refl, sym}
use Rattle.std.proofs.Common.{ap, subst, ◌∙◌, arith}
use Rattle.std.proofs.lemmas.Bool.{ltb-true, lt-ltb, and_parts, and_from}
use Rattle.std.proofs.lemmas.List.{length-map}
use Rattle.fore_base.specs.Lists.{IsIn, Every, Paired}
use Rattle.fore_base.proofs.ListLemmas.{every_in, every_place, every_map, every_weaker, in_every, in_map}
use Rattle.fore_base.proofs.ListLemmas.{in_mapped}
use Rattle.ta_core.specs.declared.auto.Rule.{Rule}
use Rattle.ta_core.specs.declared.tree.Tree.{Tree}
use Rattle.ta_core.specs.Auto.{Automaton, IsRanked, IsRankedRule}
use Rattle.ta_core.specs.Language.{RunEach, HasSameLanguage}
use Rattle.ta_core.specs.Renumbered.{renumbered, image}
use Rattle.ta_core.specs.Simulations.{IsSimulated, IsMatched, IsDownward}
use Rattle.ta_core.specs.States.{SameTrees}
use Rattle.ta_core.proofs.Runs.{along}
use Rattle.ta_sim.specs.Relations.{Table, AreRowsOf, Holds, entry}
use Rattle.ta_sim.proofs.Simulated.{simulated_downward, simulated_same, simulated_through, paired_through, through}
use Rattle.ta_sim.proofs.Simulated.{each_through, go_through, through_from}
use Rattle.ta_reduce.specs.inner.Leading.{KeepsLead}
use Rattle.ta_classes.specs.Classes.{AreClasses}
use Rattle.ta_classes.proofs.Classing.{first_in}
use Rattle.ta_reduce.specs.inner.Reduction.{AreMutual, IsAmong, IsGreatest, Preserves}
use Rattle.ta_reduce.proofs.Leads.{tree_kept}
use Rattle.ta_reduce.proofs.Tight.{related_each}

module _ (a : Automaton) (m : ℕ) (f : ℕ → ℕ) (proper : IsRanked a)
    (one : (x y : ℕ) → x < a.states → y < a.states → f x ≡ f y → IsSimulated a.rules x y) where
  abbrev IsNumber : ℕ → ℕ → Type 0
  IsNumber x y = f x ≡ y

  numbers_each : (qs : List ℕ) → Paired IsNumber qs (map f qs)
  numbers_each [] = tt
  numbers_each (q ∷ qs) = (refl, numbers_each qs)

  match_image : (r : Rule) (y : ℕ) (ts : List Tree) → IsIn r a.rules → IsNumber r.state y
      → RunEach a.rules r.children ts → IsMatched (image m f a).rules IsNumber r y
  match_image r y ts i e k = (renumbered f r, in_map (renumbered f) r a.rules i, e, refl, numbers_each r.children)

  -- y is the number of a state that x simulates
  abbrev IsBelow : ℕ → ℕ → Type 0
  IsBelow y x = (z : ℕ) × (z < a.states) × (x < a.states) × (f z ≡ y) × IsSimulated a.rules z x

  below_each : (ps qs : List ℕ) → Every (λ q. q < a.states) ps → Every (λ q. q < a.states) qs
      → Paired (IsSimulated a.rules) ps qs → Paired IsBelow (map f ps) qs
  below_each [] [] l k h = tt
  below_each [] (q ∷ qs) l k h = absurd h
  below_each (p ∷ ps) [] l k h = absurd h
  below_each (p ∷ ps) (q ∷ qs) l k h = ((p, l.0, k.0, refl, h.0), below_each ps qs l.1 k.1 h.1)

  low : (r : Rule) → IsIn r a.rules → IsRankedRule a.states r
  low r i = every_in (IsRankedRule a.states) a.rules r proper.1 i

  match_below : (o : Rule) (x : ℕ) (ts : List Tree) → IsIn o (image m f a).rules → IsBelow o.state x
      → RunEach (image m f a).rules o.children ts → IsMatched a.rules IsBelow o x
  match_below o x ts i b k =
      let w = in_mapped (renumbered f) o a.rules i in
      let e : f w.0.state ≡ f b.0 = sym (ap (λ (y : Rule). y.state) w.2) ∙ sym b.3 in
      let up = simulated_through a.states a.rules proper.1 w.0.state b.0 x b.1 (one w.0.state b.0 (low w.0 w.1).0 b.1 e)
      b.4 in
      let s = simulated_downward a.rules w.0 x w.1 up in (
        s.0,
        s.1,
        s.2,
        s.3 ∙ sym (ap (λ (y : Rule). y.symbol) w.2),
        subst (λ (y : Rule). Paired IsBelow y.children s.0.children) (sym w.2)
            (below_each w.0.children s.0.children (low w.0 w.1).1 (low s.0 s.1).1 s.4),
      )

  pub image_same_language : HasSameLanguage a (image m f a)
  image_same_language t = (
    λ l. (f l.0, in_map f l.0 a.roots l.1, along a.rules (image m f a).rules IsNumber match_image (f l.0) refl l.2),
    λ l. (let w = in_mapped f l.0 a.roots l.1 in
        let k = every_in (λ (q : ℕ). q < a.states) a.roots w.0 proper.0 w.1 in (
          w.0,
          w.1,
          along (image m f a).rules a.rules IsBelow match_below w.0
              (w.0, k, k, sym w.2, simulated_same a.rules w.0) l.2,
        )),
  )

  -- each number has the trees of a state of which it is the number
  pub image_runs : (v x : ℕ) → x < a.states → f x ≡ v → SameTrees a x (image m f a) v
  image_runs v x l e t = (
    λ k. along (image m f a).rules a.rules IsBelow match_below x (x, l, l, e, simulated_same a.rules x) k,
    λ k. along a.rules (image m f a).rules IsNumber match_image v e k,
  )

-- the numbers as far as they are simulated: each number stands for a state, which back gives
module _ (a : Automaton) (m : ℕ) (f back : ℕ → ℕ) (proper : IsRanked a)
    (one : (x y : ℕ) → x < a.states → y < a.states → f x ≡ f y → IsSimulated a.rules x y) (rel : Table)
    (greatest : IsGreatest a rel) (fits : (x : ℕ) → x < a.states → f x < m)
    (back_low : (v : ℕ) → v < m → back v < a.states) (back_is : (v : ℕ) → v < m → f (back v) ≡ v) where
  abbrev numbers_relate : ℕ → ℕ → Bool
  numbers_relate u v = nat_lt v m && entry rel.rows (back u) (back v)

  rule_low : (r : Rule) → IsIn r a.rules → IsRankedRule a.states r
  rule_low r i = every_in (IsRankedRule a.states) a.rules r proper.1 i

  -- a state and the one that its number stands for simulate each other
  go_back : (x : ℕ) → x < a.states → IsSimulated a.rules x (back (f x))
  go_back x l = one x (back (f x)) l (back_low (f x) (fits x l)) (sym (back_is (f x) (fits x l)))

  come_back : (x : ℕ) → x < a.states → IsSimulated a.rules (back (f x)) x
  come_back x l = one (back (f x)) x (back_low (f x) (fits x l)) l (back_is (f x) (fits x l))

  relate : (x y : ℕ) → x < a.states → y < a.states → IsSimulated a.rules x y → numbers_relate (f x) (f y) ≡ true
  relate x y l k h =
      let bx = back_low (f x) (fits x l) in
      let by = back_low (f y) (fits y k) in
      let first = simulated_through a.states a.rules proper.1 (back (f x)) x y l (come_back x l) h in
      let all = simulated_through a.states a.rules proper.1 (back (f x)) y (back (f y)) k first (go_back y k) in
      and_from (nat_lt (f y) m) (entry rel.rows (back (f x)) (back (f y))) (lt-ltb (f y) m (fits y k))
      (greatest.each (back (f x)) (back (f y)) bx by all)

  relate_each : (R : ℕ → ℕ → Type 0)
      → ((x y : ℕ) → x < a.states → y < a.states → IsSimulated a.rules x y → R (f x) (f y)) → (ps qs : List ℕ)
      → Every (λ q. q < a.states) ps → Every (λ q. q < a.states) qs → Paired (IsSimulated a.rules) ps qs
      → Paired R (map f ps) (map f qs)
  relate_each R g [] [] l k h = tt
  relate_each R g [] (q ∷ qs) l k h = absurd h
  relate_each R g (p ∷ ps) [] l k h = absurd h
  relate_each R g (p ∷ ps) (q ∷ qs) l k h = (g p q l.0 k.0 h.0, relate_each R g ps qs l.1 k.1 h.1)

  numbers_downward : IsDownward (image m f a).rules (λ u v. numbers_relate u v ≡ true)
  numbers_downward o v i h =
      let w = in_mapped (renumbered f) o a.rules i in
      let l = ltb-true v m (and_parts (nat_lt v m) (entry rel.rows (back o.state) (back v)) h).0 in
      let e : o.state ≡ f w.0.state = ap (λ (x : Rule). x.state) w.2 in
      let g = greatest.only (back (f w.0.state)) (back v)
      (subst (λ (x : ℕ). entry rel.rows (back x) (back v) ≡ true) e
      (and_parts (nat_lt v m) (entry rel.rows (back o.state) (back v)) h).1) in
      let lw = (rule_low w.0 w.1).0 in
      let up = simulated_through a.states a.rules proper.1 w.0.state (back (f w.0.state)) (back v)
      (back_low (f w.0.state) (fits w.0.state lw)) (go_back w.0.state lw) g in
      let s = simulated_downward a.rules w.0 (back v) w.1 up in (
        renumbered f s.0,
        in_map (renumbered f) s.0 a.rules s.1,
        ap f s.2 ∙ back_is v l,
        s.3 ∙ sym (ap (λ (x : Rule). x.symbol) w.2),
        subst (λ (x : Rule). Paired (λ u v. numbers_relate u v ≡ true) x.children (map f s.0.children)) (sym w.2)
            (relate_each (λ u v. numbers_relate u v ≡ true) relate w.0.children s.0.children (rule_low w.0 w.1).1
            (rule_low s.0 s.1).1 s.4),
      )

  -- what is simulated, is so with the numbers
  numbers_simulated : (x y : ℕ) → x < a.states → y < a.states → IsSimulated a.rules x y
      → IsSimulated (image m f a).rules (f x) (f y)
  numbers_simulated x y l k h = (numbers_relate, numbers_downward, relate x y l k h)

  -- from a relation on numbers, one on the states: it goes on to what simulates
  abbrev drawn : (ℕ → ℕ → Bool) → ℕ → ℕ → Bool
  drawn R = through a.states (λ x z. R (f x) (f z)) (entry rel.rows)

  -- lists of numbers are related as their states are
  drawn_each : (R : ℕ → ℕ → Bool) (ps qs : List ℕ) → Paired (λ u v. R u v ≡ true) (map f ps) (map f qs)
      → Paired (λ x z. R (f x) (f z) ≡ true) ps qs
  drawn_each R [] [] h = tt
  drawn_each R [] (q ∷ qs) h = absurd h
  drawn_each R (p ∷ ps) [] h = absurd h
  drawn_each R (p ∷ ps) (q ∷ qs) h = (h.0, drawn_each R ps qs h.1)

  drawn_downward : (R : ℕ → ℕ → Bool) → IsDownward (image m f a).rules (λ u v. R u v ≡ true)
      → IsDownward a.rules (λ x y. drawn R x y ≡ true)
  drawn_downward R d r q i h =
      let w = through_from a.states (λ x z. R (f x) (f z)) (entry rel.rows) r.state q h in
      let o = d (renumbered f r) (f w.0) (in_map (renumbered f) r a.rules i) w.2 in
      let s = in_mapped (renumbered f) o.0 a.rules o.1 in
      let e : f s.0.state ≡ f w.0 = sym (ap (λ (x : Rule). x.state) s.2) ∙ o.2 in
      let up = simulated_through a.states a.rules proper.1 s.0.state w.0 q w.1
      (one s.0.state w.0 (rule_low s.0 s.1).0 w.1 e) (greatest.only w.0 q w.3) in
      let t = simulated_downward a.rules s.0 q s.1 up in (
        t.0,
        t.1,
        t.2,
        t.3 ∙ sym (ap (λ (x : Rule). x.symbol) s.2) ∙ o.3,
        each_through a.states (λ x z. R (f x) (f z)) (entry rel.rows) r.children s.0.children t.0.children
            (rule_low s.0 s.1).1
            (drawn_each R r.children s.0.children
            (subst (λ (x : Rule). Paired (λ u v. R u v ≡ true) (map f r.children) x.children) s.2 o.4))
            (related_each a rel proper greatest s.0.children t.0.children (rule_low s.0 s.1).1
            (rule_low t.0 t.1).1 t.4),
      )

  -- the greatest simulation of the joined states is the image of that of the states
  pub image_greatest : (made : Table) → made.size ≡ m
      → AreRowsOf m (λ u v. Holds rel (back u) (back v)) made.rows → IsGreatest (image m f a) made
  image_greatest made e rows = record {
    size = e;
    only = λ u v h. (let w = rows.only u v h in (
      numbers_relate,
      numbers_downward,
      and_from (nat_lt v m) (entry rel.rows (back u) (back v)) (lt-ltb v m w.1) w.2,
    ));
    each = λ u v l k h. rows.each u v l k
        (greatest.each (back u) (back v) (back_low u l) (back_low v k) (
          drawn h.0,
          drawn_downward h.0 h.1,
          go_through a.states (λ x z. h.0 (f x) (f z)) (entry rel.rows) (back u) (back v) (back v) (back_low v k)
              (subst (λ (x : ℕ). h.0 (f (back u)) x ≡ true) (sym (back_is v k))
              (subst (λ (x : ℕ). h.0 x v ≡ true) (sym (back_is u l)) h.2))
              (greatest.each (back v) (back v) (back_low v k) (back_low v k) (simulated_same a.rules (back v))),
        ));
  }

  pub image_ranked : IsRanked (image m f a)
  image_ranked = (
    every_map f (λ v. v < m) a.roots (in_every (λ q. f q < m) a.roots (λ q i.
        fits q (every_in (λ (x : ℕ). x < a.states) a.roots q proper.0 i))),
    every_map (renumbered f) (IsRankedRule m) a.rules (in_every (λ r. IsRankedRule m (renumbered f r)) a.rules (λ r i.
        (let l = rule_low r i in (
          fits r.state l.0,
          every_map f (λ v. v < m) r.children
              (every_weaker (λ q. q < a.states) (λ q. f q < m) r.children fits l.1),
          length-map r.children f ∙ l.2,
        )))),
  )

  pub image_led : KeepsLead a (image m f a)
  image_led l =
      let c = image m f a in
      let lr = every_in (λ q. q < a.states) a.roots l.root proper.0 l.listed in
      let listed = in_map f l.root a.roots l.listed in
      let alone = every_map f (λ v. v ≡ f l.root) a.roots
      (every_weaker (λ x. x ≡ l.root) (λ x. f x ≡ f l.root) a.roots (λ x e. ap f e) l.alone) in
      record {
        root = f l.root;
        listed = listed;
        alone = alone;
        tree = tree_kept a c l.root (f l.root) (image_same_language a m f proper one) l.listed alone l.tree;
        rule = renumbered f l.rule;
        there = in_map (renumbered f) l.rule a.rules l.there;
        top = ap f l.top;
        leads = λ o i e. (let w = in_mapped (renumbered f) o a.rules i in
            let up = one w.0.state l.root (rule_low w.0 w.1).0 lr (sym (ap (λ (x : Rule). x.state) w.2) ∙ e) in
            let s = simulated_downward a.rules w.0 l.root w.1 up in
            let k = l.leads s.0 s.1 s.2 in
            let below = paired_through a.states a.rules proper.1 w.0.children s.0.children l.rule.children
            (rule_low s.0 s.1).1 s.4 k.1 in (
              k.0 ∙ s.3 ∙ sym (ap (λ (x : Rule). x.symbol) w.2),
              subst (λ (x : Rule). Paired (IsSimulated c.rules) x.children (map f l.rule.children)) (sym w.2)
                  (relate_each (IsSimulated c.rules) numbers_simulated w.0.children l.rule.children (rule_low w.0 w.1).1
                  (rule_low l.rule l.there).1 below),
            ));
      }

-- the numbers of classes are below how many there are
pub numbers_low : (rel : Table) (n : ℕ) (numbers firsts : List ℕ) → AreClasses (AreMutual rel) n numbers firsts
    → Every (λ v. v < length firsts) numbers
numbers_low rel n numbers firsts h =
    every_place (λ v. v < length firsts) numbers 0 (λ x l. h.fits x (rw (← h.long) l))

-- a table of classes gives such numbers
module _ (a : Automaton) (rel : Table) (proper : IsRanked a) (greatest : IsGreatest a rel) (numbers firsts : List ℕ)
    (h : AreClasses (AreMutual rel) a.states numbers firsts) where
  abbrev number : ℕ → ℕ
  number x = slice_index numbers x

  -- states with one number simulate each other
  same_class : (x y : ℕ) → x < a.states → y < a.states → number x ≡ number y → IsSimulated a.rules x y
  same_class x y l k e =
      let first = slice_index firsts (number x) in
      let down = greatest.only x first (h.first x l).1 in
      let up = greatest.only first y (subst (λ (v : ℕ). Holds rel (slice_index firsts v) y) (sym e) (h.first y k).0) in
      simulated_through a.states a.rules proper.1 x first y (h.low (number x) (h.fits x l)) down up

  -- the states of which each class is made one
  pub joined_preserves : Preserves a (image (length firsts) number a)
  joined_preserves = record {
    language = image_same_language a (length firsts) number proper same_class;
    states =
        λ v l. (
          slice_index firsts v,
          h.low v l,
          image_runs a (length firsts) number proper same_class v (slice_index firsts v) (h.low v l)
              (first_in (AreMutual rel) a.states numbers firsts h v l),
        );
    lead = image_led a (length firsts) number (λ v. slice_index firsts v) proper same_class rel greatest h.fits h.low
        (first_in (AreMutual rel) a.states numbers firsts h);
  }

  pub joined_ranked : IsRanked (image (length firsts) number a)
  joined_ranked = image_ranked a (length firsts) number (λ v. slice_index firsts v) proper same_class rel greatest
      h.fits h.low (first_in (AreMutual rel) a.states numbers firsts h)

  pub joined_greatest : (made : Table) → made.size ≡ length firsts → IsAmong rel firsts made
      → IsGreatest (image (length firsts) number a) made
  joined_greatest made e rows =
      image_greatest a (length firsts) number (λ v. slice_index firsts v) proper same_class rel greatest h.fits h.low
      (first_in (AreMutual rel) a.states numbers firsts h) made e
      (subst (λ (n : ℕ). AreRowsOf n (λ v w. Holds rel (slice_index firsts v) (slice_index firsts w)) made.rows) e rows)

  -- two classes do not simulate each other
  pub joined_apart : (made : Table) → made.size ≡ length firsts → IsAmong rel firsts made → (v w : ℕ) → Holds made v w
      → Holds made w v → v ≡ w
  joined_apart made e rows v w i j =
      let k = rows.only v w i in
      let o = rows.only w v j in
      let lv = k.0 in
      let lw = k.1 in
      h.apart v w (omega (arith, lv, e)) (omega (arith, lw, e)) (k.2, o.2)
