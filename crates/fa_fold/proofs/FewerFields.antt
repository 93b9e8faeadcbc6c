-- A component that loses fields has as many Field slots at its top at most, and fewer where it loses one that is there.
use Rattle.std.proofs.Common.{◌≡◌, inl, inr, ℕ, suc, ◌<◌, ◌≤◌, ◌+◌, not, Bool, true, false, cond, nat_le, nat_eq}
use Rattle.std.proofs.Common.{if◌then◌else◌, length, List, [], ◌∷◌, ◌++◌, map, filter, refl, sym, ap, subst, ◌∙◌, arith}
use Rattle.fore_base.specs.Lists.{IsIn, Every}
use Rattle.fore_base.specs.declared.store.Datum.{Datum}
use Rattle.fore_base.proofs.ListLemmas.{every_append, every_in}
use Rattle.ta_core.specs.Arity.{arity, child_slots}
use Rattle.ta_core.specs.Auto.{Automaton, IsRanked, IsRankedRule}
use Rattle.ta_core.specs.Single.{HasOneTop}
use Rattle.ta_core.specs.declared.auto.Rule.{Rule}
use Rattle.ta_core.specs.declared.symbol.Slot.{Slot}
use Rattle.ta_core.specs.declared.symbol.Slot.TheVariants.{Field, Link, Hook}
use Rattle.ta_core.specs.declared.symbol.Symbol.{Symbol}
use Rattle.ta_core.specs.declared.symbol.Symbol.TheVariants.{Null, Uninit, Dangling, Ref, Cell}
use Rattle.fa_back.proofs.RootMarks.{in_has}
use Rattle.fa_core.specs.Folding.{is_one_of, symbol_slots}
use Rattle.fa_core.specs.Placed.{placed_rule, placed_symbol}
use Rattle.fa_core.specs.Ways.{has}
use Rattle.fa_core.specs.declared.faces.BoxFace.{BoxFace}
use Rattle.fa_core.specs.declared.forest.Target.TheVariants.{At}
use Rattle.fa_split.specs.Split.{first_of, top_rule}
use Rattle.fa_split.proofs.TopRules.{top_in}
use Rattle.fa_unfold.specs.Slots.{Place, joined, place_key, put_in, rule_places, state_places, with_places, with_slots}
use Rattle.fa_unfold.proofs.PlaceRuns.{places_apart}
use Rattle.fa_folding.specs.Gaining.{gained_auto, left_places}
use Rattle.fa_folding.proofs.Lists.{eq_not, eq_self}
use Rattle.fa_folding.proofs.Moving.{moved_auto}
use Rattle.fa_fold.specs.TopFields.{field_slots, top_fields}

-- Slots.

one_more : (s : Slot) (ss : List Slot) → field_slots (s ∷ ss) ≡ field_slots (s ∷ []) + field_slots ss
one_more (Field f) ss = omega arith
one_more (Link b) ss = omega arith
one_more (Hook b) ss = omega arith

abbrev pub place_fields : List Place → ℕ
place_fields ps = field_slots (map (λ p. p.0) ps)

put_fields : (key : Place → ℕ) (x : Place) (xs : List Place)
    → place_fields (put_in key x xs) ≡ place_fields (x ∷ []) + place_fields xs
put_fields key x [] = omega arith
put_fields key x (y ∷ ys) = here (nat_le (key x) (key y)) (put_fields key x ys)
  where
    here : (b : Bool) → place_fields (put_in key x ys) ≡ place_fields (x ∷ []) + place_fields ys
        → place_fields (if b then x ∷ (y ∷ ys) else y ∷ put_in key x ys)
        ≡ place_fields (x ∷ []) + place_fields (y ∷ ys)
    here true e = one_more x.0 (map (λ p. p.0) (y ∷ ys))
    here false e =
        let a = one_more y.0 (map (λ p. p.0) (put_in key x ys)) in
        let c = one_more y.0 (map (λ p. p.0) ys) in
        omega (arith, a, c, e)

pub joined_fields : (key : Place → ℕ) (xs ys : List Place)
    → place_fields (joined key xs ys) ≡ place_fields xs + place_fields ys
joined_fields key xs [] = omega arith
joined_fields key xs (y ∷ ys) =
    let a = put_fields key y (joined key xs ys) in
    let c = joined_fields key xs ys in
    let e = one_more y.0 (map (λ p. p.0) ys) in
    omega (arith, a, c, e)

module _ (fs : List ℕ) where
  abbrev others : List Place → List Place
  others ps = filter (λ p. not (is_one_of fs p.0)) ps

  others_most : (ps : List Place) → place_fields (others ps) ≤ place_fields ps
  others_most [] = omega arith
  others_most (p ∷ ps) = here (not (is_one_of fs p.0)) (others_most ps)
    where
      here : (b : Bool) → place_fields (others ps) ≤ place_fields ps
          → place_fields (cond b (p ∷ others ps) (others ps)) ≤ place_fields (p ∷ ps)
      here true l =
          let a = one_more p.0 (map (λ q. q.0) (others ps)) in
          let c = one_more p.0 (map (λ q. q.0) ps) in
          omega (arith, a, c, l)
      here false l = let c = one_more p.0 (map (λ q. q.0) ps) in omega (arith, c, l)

  others_fewer : (f : ℕ) → IsIn f fs → (ps : List Place) → IsIn (Field f) (map (λ p. p.0) ps)
      → place_fields (others ps) < place_fields ps
  others_fewer f i [] j = absurd j
  others_fewer f i (p ∷ ps) (inl e) =
      let one : not (is_one_of fs p.0) ≡ false = ap (λ (s : Slot). not (is_one_of fs s)) (sym e)
      ∙ ap (λ (b : Bool). not b) (in_has f fs i) in
      let l = others_most ps in
      let c : place_fields (p ∷ ps) ≡ suc (place_fields ps) =
      ap (λ (s : Slot). field_slots (s ∷ map (λ q. q.0) ps)) (sym e) in
      rw one (omega (arith, l, c))
  others_fewer f i (p ∷ ps) (inr j) = here (not (is_one_of fs p.0)) (others_fewer f i ps j)
    where
      here : (b : Bool) → place_fields (others ps) < place_fields ps
          → place_fields (cond b (p ∷ others ps) (others ps)) < place_fields (p ∷ ps)
      here true l =
          let a = one_more p.0 (map (λ q. q.0) (others ps)) in
          let c = one_more p.0 (map (λ q. q.0) ps) in
          omega (arith, a, c, l)
      here false l = let c = one_more p.0 (map (λ q. q.0) ps) in omega (arith, c, l)

-- Tops.

-- other numbers of roots change nothing
pub moved_fields : (h : ℕ → ℕ) (a : Automaton) → top_fields (moved_auto h a) ≡ top_fields a
moved_fields h a = ap field_slots (first_moved a.rules)
  where
    slots_moved : (y : Symbol) → symbol_slots (placed_symbol (λ k. At (h k)) y) ≡ symbol_slots y
    slots_moved Null = refl
    slots_moved Uninit = refl
    slots_moved Dangling = refl
    slots_moved (Ref r) = refl
    slots_moved (Cell s ds ss) = refl

    first_moved : (xs : List Rule) → symbol_slots (first_of a.roots (map (placed_rule (λ k. At (h k))) xs)).symbol
        ≡ symbol_slots (first_of a.roots xs).symbol
    first_moved [] = refl
    first_moved (x ∷ xs) = here (has x.state a.roots) (first_moved xs)
      where
        here : (b : Bool) → symbol_slots (first_of a.roots (map (placed_rule (λ k. At (h k))) xs)).symbol
            ≡ symbol_slots (first_of a.roots xs).symbol
            → symbol_slots (cond b (placed_rule (λ k. At (h k)) x)
            (first_of a.roots (map (placed_rule (λ k. At (h k))) xs))).symbol
            ≡ symbol_slots (cond b x (first_of a.roots xs)).symbol
        here true e = slots_moved x.symbol
        here false e = e

-- the rule behind rules of lower states is the first at its state
first_fresh : (n : ℕ) (xs : List Rule) (y : Rule) → Every (λ (o : Rule). o.state < n) xs → y.state ≡ n
    → first_of (n ∷ []) (xs ++ y ∷ []) ≡ y
first_fresh n [] y low e =
    let w : nat_eq y.state n ≡ true = subst (λ (z : ℕ). nat_eq z n ≡ true) (sym e) (eq_self n) in rw w refl
first_fresh n (x ∷ xs) y low e =
    let l = low.0 in
    let w : nat_eq x.state n ≡ false = eq_not x.state n (λ q. omega (arith, l, q)) in
    rw w (first_fresh n xs y low.1 e)

module _ (bs : List BoxFace) (a : Automaton) (ranked : IsRanked a) (one : HasOneTop a) (s : ℕ) (ds : List Datum)
    (ss : List Slot) (top : (top_rule a).symbol ≡ Cell s ds ss) (fs : List ℕ) (xs : List Rule) (gain : List Place)
    (above : (x : Rule) → IsIn x xs → x.state ≡ a.states) where
  abbrev made : List Place
  made = joined (place_key bs) (left_places fs a) gain

  low : Every (λ (o : Rule). o.state < a.states + 1) (a.rules ++ xs)
  low = every_append (λ (o : Rule). o.state < a.states + 1) a.rules xs (old a.rules ranked.1) (new xs above)
    where
      old : (rs : List Rule) → Every (IsRankedRule a.states) rs → Every (λ (o : Rule). o.state < a.states + 1) rs
      old [] k = tt
      old (r ∷ rs) k = ((let l = k.0.0 in omega (arith, l)), old rs k.1)

      new : (rs : List Rule) → ((x : Rule) → IsIn x rs → x.state ≡ a.states)
          → Every (λ (o : Rule). o.state < a.states + 1) rs
      new [] k = tt
      new (r ∷ rs) k = ((let e = k r (inl refl) in omega (arith, e)), new rs (λ x i. k x (inr i)))

  abbrev made_rule : Rule
  made_rule =
      record {
        state = a.states + 1;
        symbol = with_slots (top_rule a).symbol (map (λ p. p.0) made);
        children = (with_places (top_rule a) made).children;
      }

  top_made : top_rule (gained_auto bs fs xs gain a) ≡ made_rule
  top_made = first_fresh (a.states + 1) (a.rules ++ xs) made_rule low refl

  made_slots : symbol_slots (with_slots (top_rule a).symbol (map (λ p. p.0) made)) ≡ map (λ p. p.0) made
  made_slots = ap (λ (y : Symbol). symbol_slots (with_slots y (map (λ p. p.0) made))) top

  gained_fields : top_fields (gained_auto bs fs xs gain a) ≡ place_fields (left_places fs a) + place_fields gain
  gained_fields = ap (λ (x : Rule). field_slots (symbol_slots x.symbol)) top_made
      ∙ ap field_slots made_slots
      ∙ joined_fields (place_key bs) (left_places fs a) gain

  slots_here : symbol_slots (top_rule a).symbol ≡ ss
  slots_here = ap symbol_slots top

  own_slots : map (λ p. p.0) (rule_places (top_rule a)) ≡ ss
  own_slots =
      let r : IsRankedRule a.states (top_rule a) = every_in (IsRankedRule a.states) a.rules (top_rule a) ranked.1
      (top_in a one) in
      let many : length (top_rule a).children ≡ child_slots ss = r.2 ∙ ap arity top in
      ap (λ (z : List Slot). map (λ p. p.0) (state_places z (top_rule a).children)) slots_here
      ∙ (places_apart ss (top_rule a).children many).0

  own_fields : place_fields (rule_places (top_rule a)) ≡ top_fields a
  own_fields = ap field_slots (own_slots ∙ sym slots_here)

  pub gained_most : place_fields gain ≡ 0 → top_fields (gained_auto bs fs xs gain a) ≤ top_fields a
  gained_most none =
      let l = others_most fs (rule_places (top_rule a)) in
      omega (arith, l, gained_fields, own_fields, none)

  pub gained_fewer : place_fields gain ≡ 0 → (f : ℕ) → IsIn f fs → IsIn (Field f) ss
      → top_fields (gained_auto bs fs xs gain a) < top_fields a
  gained_fewer none f i j =
      let l = others_fewer fs f i (rule_places (top_rule a))
      (subst (λ (z : List Slot). IsIn (Field f) z) (sym own_slots) j) in
      omega (arith, l, gained_fields, own_fields, none)
