-- What the trees of the components give to a root, one component after the other.
use Rattle.std.proofs.Common.{◌≡◌, inl, inr, ℕ, zero, suc, ◌<◌, ◌≤◌, ◌+◌, Bool, true, false, true≢false, nat_eq}
use Rattle.std.proofs.Common.{nat_le, if◌then◌else◌, List, [], ◌∷◌, ◌++◌, map, flat_map, length, Option, Some, None}
use Rattle.std.proofs.Common.{slice_get, slice_index_or, refl, sym, ap, ap₂, subst, ◌∙◌, arith, append-nil}
use Rattle.std.proofs.Common.{append_assoc}
use Rattle.std.proofs.lemmas.Bool.{eqb-true, eq-eqb, leb-true, leb-false}
use Rattle.std.proofs.lemmas.Option.{none-some, same_Some}
use Rattle.std.specs.Option.{MatchOption}
use Rattle.fore_base.specs.Lists.{IsIn, Every, IsDistinct, Paired}
use Rattle.fore_base.proofs.ListLemmas.{every_in, every_push, every_weaker, in_left, in_last, in_map, in_mapped}
use Rattle.ta_core.specs.Auto.{Automaton, IsRanked}
use Rattle.ta_core.specs.Language.{InLanguage, RunOf, run, IsTrim}
use Rattle.ta_core.specs.declared.auto.Rule.{Rule}
use Rattle.ta_core.specs.declared.symbol.Symbol.{Symbol}
use Rattle.ta_core.specs.declared.symbol.Symbol.TheVariants.{Null, Uninit, Dangling, Ref, Cell}
use Rattle.ta_core.specs.declared.tree.Tree.{Tree, out-Tree}
use Rattle.fa_core.specs.declared.faces.BoxFace.{BoxFace}
use Rattle.fa_core.specs.declared.faces.Face.{Face}
use Rattle.fa_core.specs.declared.signature.RefMark.{RefMark}
use Rattle.fa_core.specs.declared.signature.Signature.{Signature}
use Rattle.fa_core.specs.Cells.{is_leaf, mark_of}
use Rattle.fa_core.specs.Filled.{Choice, HasSome, Spot, spots_at, covers, given_at}
use Rattle.fa_core.specs.Folding.{covered_fields, symbol_slots}
use Rattle.fa_core.specs.Rearranged.{Rearranged, empty, keep, chain, in_order, insert, RisesFrom, IsRising}
use Rattle.fa_core.specs.Ways.{signature}
use Rattle.fa_core.proofs.Permuted.{cancel_all, distinct_moved, in_rearranged}
use Rattle.fa_core.proofs.NodeSpots.{spots_out, with_spots}
use Rattle.fa_core.proofs.Rearranging.{equal, back, after, both, middle, exchange}
use Rattle.fa_core.proofs.Sorting.{ordered}
use Rattle.fa_filling.proofs.Fillings.{choice_long}
use Rattle.fa_box_rules.specs.Cells.{IsRightUnder, AreRight}
use Rattle.fa_box_rules.specs.Rules.{covered_at, root_fields, Gives}
use Rattle.fa_box_rules.specs.Signs.{AreSignsOf}
use Rattle.fa_filling.proofs.Fillings.{some_choice}
use Rattle.fa_sound.proofs.Given.{given_tree}
use Rattle.fa_sound.specs.inner.Owned.{fields_of_mark}
use Rattle.fa_boxes.specs.Ports.{GivesApart}
use Rattle.fa_boxes.specs.Tops.{HasNoLeaf}
use Rattle.fa_boxes.specs.declared.seeing.Seen.{Seen}
use Rattle.fa_boxes.specs.inner.Seeing.{IsTable}
use Rattle.fa_boxes.specs.inner.TopRules.{fields_by}
use Rattle.fa_boxes.specs.inner.Parts.{tree_given, part_at, parts_from, ArePartsOf, PartsApart, SomePartsApart}
use Rattle.fa_boxes.specs.inner.Parts.{HaveApart}
use Rattle.fa_boxes.specs.inner.Parts.{provided_by, rule_fields, IsTopAdded, IsTopFields, AreTopFields}
use Rattle.fa_boxes.proofs.TopRules.{rule_run}

-- Pairs and answers.

pub paired_got : {X Y : Type 0} (R : X → Y → Type 0) (xs : List X) (ys : List Y) (i : ℕ) (x : X) (y : Y)
    → Paired R xs ys → slice_get xs i ≡ Some x → slice_get ys i ≡ Some y → R x y
paired_got R [] ys i x y h e f = absurd (none-some x e)
paired_got R (u ∷ xs) [] i x y h e f = absurd h
paired_got R (u ∷ xs) (v ∷ ys) zero x y h e f =
    subst (λ z. R z y) (same_Some u x e) (subst (λ z. R u z) (same_Some v y f) h.0)
paired_got R (u ∷ xs) (v ∷ ys) (suc i) x y h e f = paired_got R xs ys i x y h.1 e f

pub match_weaker : {X : Type 0} (N M : Type 0) (P Q : X → Type 0) → (N → M) → ((x : X) → P x → Q x) → (o : Option X)
    → MatchOption o N P → MatchOption o M Q
match_weaker N M P Q f g None h = f h
match_weaker N M P Q f g (Some x) h = g x h

pub first_in : (ys : List ℕ) (all : List (List ℕ)) → IsIn ys all → IsIn (slice_index_or all 0 []) all
first_in ys [] i = absurd i
first_in ys (x ∷ all) i = inl refl

-- Numbers in order.

below_other : (x y : ℕ) → x ≤ y → (x ≡ y → ⊥) → x < y
below_other zero zero l n = absurd (n refl)
below_other zero (suc y) l n = omega arith
below_other (suc x) zero l n = absurd (omega (arith, l))
below_other (suc x) (suc y) l n = let k = below_other x y (omega (arith, l)) (λ e. n (ap suc e)) in omega (arith, k)

insert_from : (n x : ℕ) (xs : List ℕ) → n < x → RisesFrom n xs → (IsIn x xs → ⊥) → RisesFrom n (insert x xs)
insert_from n x [] l h d = (l, tt)
insert_from n x (y ∷ ys) l h d = here (nat_le x y) refl (λ k. insert_from y x ys k h.1 (λ i. d (inr i)))
  where
    here : (b : Bool) → nat_le x y ≡ b → (y < x → RisesFrom y (insert x ys))
        → RisesFrom n (if b then x ∷ (y ∷ ys) else y ∷ insert x ys)
    here true e f = (l, (below_other x y (leb-true x y e) (λ g. d (inl g)), h.1))
    here false e f = (h.0, f (let k = leb-false x y e in omega (arith, k)))

insert_rising : (x : ℕ) (xs : List ℕ) → IsRising xs → (IsIn x xs → ⊥) → IsRising (insert x xs)
insert_rising x [] h d = tt
insert_rising x (y ∷ ys) h d = here (nat_le x y) refl
  where
    here : (b : Bool) → nat_le x y ≡ b → IsRising (if b then x ∷ (y ∷ ys) else y ∷ insert x ys)
    here true e = (below_other x y (leb-true x y e) (λ f. d (inl f)), h)
    here false e = insert_from y x ys (let k = leb-false x y e in omega (arith, k)) h (λ i. d (inr i))

order_rising : (xs : List ℕ) → IsDistinct xs → IsRising (in_order xs)
order_rising [] d = tt
order_rising (x ∷ xs) d = insert_rising x (in_order xs) (order_rising xs d.1)
    (λ i. d.0 (in_rearranged x (back (ordered xs)) i))

-- Lists on both sides.

turn : (xs ys : List ℕ) → Rearranged (xs ++ ys) (ys ++ xs)
turn [] ys = equal (sym (append-nil ys))
turn (x ∷ xs) ys = chain (keep x (turn xs ys)) (back (middle ys x xs))

cancel_back : (zs xs ys : List ℕ) → Rearranged (xs ++ zs) (ys ++ zs) → Rearranged xs ys
cancel_back zs xs ys h = cancel_all zs xs ys (chain (turn zs xs) (chain h (turn ys zs)))

-- Choices.

choice_push : (autos : List Automaton) (a : Automaton) (ts : List Tree) → Choice (autos ++ a ∷ []) ts
    → (us : List Tree) × (t : Tree) × (ts ≡ us ++ t ∷ []) × Choice autos us × InLanguage a t
choice_push [] a [] c = absurd c
choice_push [] a (t ∷ []) c = ([], t, refl, tt, c.0)
choice_push [] a (t ∷ (u ∷ ts)) c = absurd c.1
choice_push (b ∷ autos) a [] c = absurd c
choice_push (b ∷ autos) a (t ∷ ts) c =
    let w = choice_push autos a ts c.1 in
    (t ∷ w.0, w.1, ap (λ (l : List Tree). t ∷ l) w.2, (c.0, w.3), w.4)

pub differ : (i k : ℕ) → (i ≡ k → ⊥) → nat_eq i k ≡ false
differ i k n = here (nat_eq i k) refl
  where
    here : (b : Bool) → nat_eq i k ≡ b → nat_eq i k ≡ false
    here true e = absurd (n (eqb-true i k e))
    here false e = e

module _ (bs : List BoxFace) (r : ℕ) where
  -- the tree of another root gives what its box edges give
  part_other : (i : ℕ) (t : Tree) → nat_eq i r ≡ false → part_at bs r i t ≡ tree_given bs r t
  part_other i t e = rw e refl

  part_own : (i : ℕ) (t : Tree) → nat_eq i r ≡ true → part_at bs r i t ≡ covered_fields bs t ++ tree_given bs r t
  part_own i t e = rw e refl

  beyond : (i : ℕ) (ts : List Tree) → r < i → parts_from bs r i ts ≡ given_at bs ts r
  beyond i [] l = refl
  beyond i (t ∷ ts) l =
      ap₂ (λ (xs ys : List ℕ). xs ++ ys) (part_other i t (differ i r (λ e. omega (arith, e, l))))
      (beyond (suc i) ts (omega (arith, l)))

  -- all parts are the fields of the root
  up_to : (i k : ℕ) (ts : List Tree) → i + k ≡ r → Rearranged (parts_from bs r i ts)
      (covered_at bs (slice_get ts k) ++ given_at bs ts r)
  up_to i k [] e = empty
  up_to i zero (t ∷ ts) e =
      let o = part_own i t (eq-eqb i r (omega (arith, e))) in
      let b = beyond (suc i) ts (omega (arith, e)) in
      equal (ap₂ (λ (xs ys : List ℕ). xs ++ ys) o b
      ∙ append_assoc (covered_fields bs t) (tree_given bs r t) (given_at bs ts r))
  up_to i (suc k) (t ∷ ts) e =
      let o = part_other i t (differ i r (λ d. omega (arith, d, e))) in
      chain (equal (ap (λ (xs : List ℕ). xs ++ parts_from bs r (suc i) ts) o))
      (chain (after (tree_given bs r t) (up_to (suc i) k ts (omega (arith, e))))
      (exchange (tree_given bs r t) (covered_at bs (slice_get ts k)) (given_at bs ts r)))

  two_choices : (autos : List Automaton) → Every HasSome autos → (i k n : ℕ) → n ≡ i + k → (a : Automaton)
      → slice_get autos k ≡ Some a → PartsApart bs r n a → (ts : List Tree) × (us : List Tree) × Choice autos ts
      × Choice autos us × (Rearranged (parts_from bs r i ts) (parts_from bs r i us) → ⊥)
  two_choices [] f i k n m a e p = absurd (none-some a e)
  two_choices (b ∷ autos) f i zero n m a e (t, u, j, l, x) =
      let c = some_choice autos f.1 in
      let same : b ≡ a = same_Some b a e in
      let z : i ≡ n = omega (arith, m) in (
        t ∷ c.0,
        u ∷ c.0,
        (subst (λ (y : Automaton). InLanguage y t) (sym same) j, c.1),
        (subst (λ (y : Automaton). InLanguage y u) (sym same) l, c.1),
        (λ h. x (subst (λ (y : ℕ). Rearranged (part_at bs r y t) (part_at bs r y u)) z
            (cancel_back (parts_from bs r (suc i) c.0) (part_at bs r i t) (part_at bs r i u) h))),
      )
  two_choices (b ∷ autos) f i (suc k) n m a e p =
      let w = two_choices autos f.1 (suc i) k n (omega (arith, m)) a e p in (
        f.0.0 ∷ w.0,
        f.0.0 ∷ w.1,
        (f.0.1, w.2),
        (f.0.1, w.3),
        (λ h. w.4 (cancel_all (part_at bs r i f.0.0) (parts_from bs r (suc i) w.0) (parts_from bs r (suc i) w.1) h)),
      )

  pub apart_given : (autos : List Automaton) → Every HasSome autos → SomePartsApart bs r autos → GivesApart bs autos r
  apart_given autos f (k, a, e, p) =
      let w = two_choices autos f 0 k k (omega arith) a e p in (
        w.0,
        w.1,
        w.2,
        w.3,
        (λ h. w.4 (chain (up_to 0 r w.0 (omega arith)) (chain h (back (up_to 0 r w.1 (omega arith)))))),
      )

  pub all_given : (autos : List Automaton) (fields : List ℕ)
      → ((ts : List Tree) → Choice autos ts → Rearranged fields (parts_from bs r 0 ts))
      → Gives bs autos r (in_order fields)
  all_given autos fields h ts c = chain (back (ordered fields)) (chain (h ts c) (up_to 0 r ts (omega arith)))

  pub given_rising : (autos : List Automaton) (fields : List ℕ) → Every HasSome autos
      → Gives bs autos r (in_order fields) → ((ts : List Tree) → Choice autos ts → IsDistinct (root_fields bs ts r))
      → IsRising (in_order fields)
  given_rising autos fields f g d =
      let c = some_choice autos f in
      order_rising fields (distinct_moved (back (chain (ordered fields) (g c.0 c.1))) (d c.0 c.1))

  parts_push : (i n : ℕ) (us : List Tree) (t : Tree) → n ≡ i + length us → parts_from bs r i (us ++ t ∷ [])
      ≡ parts_from bs r i us ++ part_at bs r n t
  parts_push i n [] t e =
      append-nil (part_at bs r i t) ∙ ap (λ (k : ℕ). part_at bs r k t) (let z : i ≡ n = omega (arith, e) in z)
  parts_push i n (u ∷ us) t e =
      ap (λ (l : List ℕ). part_at bs r i u ++ l) (parts_push (suc i) n us t (omega (arith, e)))
      ∙ sym (append_assoc (part_at bs r i u) (parts_from bs r (suc i) us) (part_at bs r n t))

  pub none_given : (ts : List Tree) → Choice [] ts → Rearranged [] (parts_from bs r 0 ts)
  none_given [] c = empty
  none_given (t ∷ ts) c = absurd c

  -- one component more
  pub parts_more : (autos : List Automaton) (a : Automaton) (n : ℕ) (fields more : List ℕ) → n ≡ length autos
      → ((ts : List Tree) → Choice autos ts → Rearranged fields (parts_from bs r 0 ts)) → ArePartsOf bs r n a more
      → (ts : List Tree) → Choice (autos ++ a ∷ []) ts → Rearranged (fields ++ more) (parts_from bs r 0 ts)
  parts_more autos a n fields more e h m ts c =
      let w = choice_push autos a ts c in
      let l = choice_long autos w.0 w.3 in
      subst (λ (z : List Tree). Rearranged (fields ++ more) (parts_from bs r 0 z)) (sym w.2)
      (subst (λ (z : List ℕ). Rearranged (fields ++ more) z) (sym (parts_push 0 n w.0 w.1 (omega (arith, e, l))))
      (both (h w.0 w.3) (m w.1 w.4)))

-- The rules of root states.

module _ (bs : List BoxFace) (table : List (Option Seen)) (r : ℕ) (roots : List ℕ) (rules : List Rule) where
  pub top_added : (done : List Rule) (o : Rule) (old new : List (List ℕ)) → IsIn o rules
      → IsTopAdded bs table r roots o old new → AreTopFields bs table r roots rules done old
      → AreTopFields bs table r roots rules (done ++ o ∷ []) new
  top_added done o old new i (inl (n, e)) h = subst (AreTopFields bs table r roots rules (done ++ o ∷ [])) (sym e) (
    every_push (λ (x : Rule). IsIn x.state roots → IsIn (rule_fields bs table r x) old) done o h.0
        (λ j. absurd (n j)),
    h.1,
  )
  top_added done o old new i (inr (j, e)) h = subst (AreTopFields bs table r roots rules (done ++ o ∷ [])) (sym e) (
    every_push (λ (x : Rule). IsIn x.state roots → IsIn (rule_fields bs table r x) (old ++ own_fields ∷ []))
        done o
        (every_weaker (λ (x : Rule). IsIn x.state roots → IsIn (rule_fields bs table r x) old)
        (λ (x : Rule). IsIn x.state roots → IsIn (rule_fields bs table r x) (old ++ own_fields ∷ [])) done
        (λ x g k. in_left (rule_fields bs table r x) old (own_fields ∷ []) (g k)) h.0)
        (λ k. in_last own_fields old),
    every_push (IsTopFields bs table r roots rules) old own_fields h.1 (o, (i, j), refl),
  )
    where
      own_fields : List ℕ
      own_fields = rule_fields bs table r o

-- The root's own component.

module _ (bs : List BoxFace) (a : Automaton) (table : List (Option Seen)) (l : IsTable bs a table) (r : ℕ) where
  part_rule : (o : Rule) (t : Tree) → RunOf a.rules o.state t → o.symbol ≡ (out-Tree t).symbol
      → Rearranged (rule_fields bs table r o) (part_at bs r r t)
  part_rule o t k s =
      chain (equal (ap₂ (λ (y : Symbol) (ms : List RefMark). fields_by bs y ++ fields_of_mark (mark_of r ms)) s
      (l.trees o.state t k).1))
      (chain (after (covered_fields bs t) (back (given_tree bs t r)))
      (equal (sym (part_own bs r r t (eq-eqb r r refl)))))

  pub own_parts : (all : List (List ℕ)) (fields : List ℕ) → AreTopFields bs table r a.roots a.rules a.rules all
      → Every (Rearranged fields) all → ArePartsOf bs r r a fields
  own_parts all fields h e t (q, i, run o j d s k) =
      let m = every_in (λ (x : Rule). IsIn x.state a.roots → IsIn (rule_fields bs table r x) all) a.rules o h.0 j
      (subst (λ (x : ℕ). IsIn x a.roots) (sym d) i) in
      chain (every_in (Rearranged fields) all (rule_fields bs table r o) e m)
      (part_rule o t (run o j refl s k) s)

  pub own_apart : IsRanked a → IsTrim a → (all : List (List ℕ)) → AreTopFields bs table r a.roots a.rules a.rules all
      → HaveApart all → PartsApart bs r r a
  own_apart ranked trim all h (xs, ys, i, j, n) =
      let o = every_in (IsTopFields bs table r a.roots a.rules) all xs h.1 i in
      let p = every_in (IsTopFields bs table r a.roots a.rules) all ys h.1 j in
      let t = rule_run a ranked trim o.0 o.1.0 in
      let u = rule_run a ranked trim p.0 p.1.0 in (
        t.0,
        u.0,
        (o.0.state, o.1.1, t.1),
        (p.0.state, p.1.1, u.1),
        (λ d. n (chain (equal o.2) (chain (part_rule o.0 t.0 t.1 (sym t.2))
            (chain d (chain (back (part_rule p.0 u.0 u.1 (sym u.2))) (equal (sym p.2))))))),
      )

-- Another component.

module _ (bs : List BoxFace) (a : Automaton) (list : List Signature) (s : AreSignsOf bs a list) (r i : ℕ)
    (n : nat_eq i r ≡ false) where
  part_sign : (x : Signature) (t : Tree) → x.refs ≡ signature bs t → Rearranged (provided_by r x) (part_at bs r i t)
  part_sign x t e =
      chain (equal (ap (λ (ms : List RefMark). fields_of_mark (mark_of r ms)) e))
      (chain (back (given_tree bs t r)) (equal (sym (part_other bs r i t n))))

  pub other_parts : (fields : List ℕ) → Every (Rearranged fields) (map (provided_by r) list)
      → ArePartsOf bs r i a fields
  other_parts fields e t j =
      let w = s.each t j in
      chain (every_in (Rearranged fields) (map (provided_by r) list) (provided_by r w.0) e
      (in_map (provided_by r) w.0 list w.1)) (part_sign w.0 t w.2)

  pub other_apart : HaveApart (map (provided_by r) list) → PartsApart bs r i a
  other_apart (xs, ys, j, k, d) =
      let x = in_mapped (provided_by r) xs list j in
      let y = in_mapped (provided_by r) ys list k in
      let t = s.some x.0 x.1 in
      let u = s.some y.0 y.1 in (
        t.0,
        u.0,
        t.1,
        u.1,
        (λ h. d (chain (equal x.2) (chain (part_sign x.0 t.0 t.2)
            (chain h (chain (back (part_sign y.0 u.0 u.2)) (equal (sym y.2))))))),
      )

-- No port is given a field twice.

module _ (face : Face) (all : List Tree) where
  under_once : (y : Symbol) (cs : List (Tree × (List ℕ → List Spot))) (above : List ℕ) → is_leaf y ≡ false
      → IsRightUnder face all (spots_at face.boxes y cs above)
      → IsDistinct (flat_map (covers face.boxes) (symbol_slots y) ++ above)
  under_once Null cs above e h = absurd (true≢false e)
  under_once Uninit cs above e h = absurd (true≢false e)
  under_once Dangling cs above e h = absurd (true≢false e)
  under_once (Ref n) cs above e h = absurd (true≢false e)
  under_once (Cell s ds ss) cs above e h = h.0.once

  port_once : (autos : List Automaton) → Every HasNoLeaf autos → (ts : List Tree) → Choice autos ts → (i n k m : ℕ)
      → AreRight face all i n ts → k < n → k < length autos → m ≡ i + k
      → IsDistinct (covered_at face.boxes (slice_get ts k) ++ given_at face.boxes all m)
  port_once [] f ts c i n k m h l j e = absurd (omega (arith, j))
  port_once (a ∷ autos) f [] c i n k m h l j e = absurd c
  port_once (a ∷ autos) f (t ∷ ts) c i zero k m h l j e = absurd (omega (arith, l))
  port_once (a ∷ autos) f (t ∷ ts) c i (suc n) zero m h l j e =
      let w = under_once (out-Tree t).symbol (with_spots face.boxes (out-Tree t).children)
      (given_at face.boxes all i) (f.0 t c.0)
      (subst (IsRightUnder face all) (spots_out face.boxes t (given_at face.boxes all i)) h.0) in
      let z : i ≡ m = omega (arith, e) in
      subst (λ (x : ℕ). IsDistinct (covered_fields face.boxes t ++ given_at face.boxes all x)) z w
  port_once (a ∷ autos) f (t ∷ ts) c i (suc n) (suc k) m h l j e =
      port_once autos f.1 ts c.1 (suc i) n k m h.1 (omega (arith, l)) (omega (arith, j)) (omega (arith, e))

pub fields_once : (face : Face) (autos : List Automaton) (n r : ℕ) → Every HasNoLeaf autos → r < n → r < length autos
    → ((ts : List Tree) → Choice autos ts → AreRight face ts 0 n ts) → (ts : List Tree) → Choice autos ts
    → IsDistinct (root_fields face.boxes ts r)
fields_once face autos n r f l j h ts c = port_once face ts autos f ts c 0 n r r (h ts c) l j (omega arith)
