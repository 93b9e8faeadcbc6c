-- Products of lists: which lists they have, and when no two of these are related.
use Rattle.std.proofs.Common.{◌≡◌, inl, inr, List, [], ◌∷◌, ◌++◌, map, refl, sym, ap, subst, ◌∙◌}
use Rattle.std.proofs.lemmas.List.{append_assoc, append-nil}
use Rattle.fore_base.specs.Lists.{IsIn, Every, Paired}
use Rattle.fore_base.proofs.ListLemmas.{in_left, in_right, in_append, in_map, in_mapped, only_item, every_in, in_every}
use Rattle.fore_base.proofs.ListLemmas.{every_append}
use Rattle.fa_signatures.specs.CutPieces.{AreApart}
use Rattle.fa_signatures.specs.inner.CutProducts.{longer, product_on, product}

module _ {X : Type 0} where
  -- one item of each of the options
  abbrev pub IsOfEach : List X → List (List X) → Type 0
  IsOfEach = Paired (λ (x : X) (xs : List X). IsIn x xs)

  in_longer : (l : List X) (x : X) (lists : List (List X)) (xs : List X) → IsIn l lists → IsIn x xs
      → IsIn (l ++ x ∷ []) (longer lists xs)
  in_longer l x [] xs i j = absurd i
  in_longer l x (k ∷ lists) xs (inl e) j =
      in_left _ (map (λ (y : X). k ++ y ∷ []) xs) (longer lists xs)
      (subst (λ (v : List X). IsIn (v ++ x ∷ []) (map (λ (y : X). k ++ y ∷ []) xs)) (sym e)
      (in_map (λ (y : X). k ++ y ∷ []) x xs j))
  in_longer l x (k ∷ lists) xs (inr i) j =
      in_right _ (map (λ (y : X). k ++ y ∷ []) xs) (longer lists xs) (in_longer l x lists xs i j)

  longer_in : (v : List X) (lists : List (List X)) (xs : List X) → IsIn v (longer lists xs) → (l : List X) × (x : X)
      × IsIn l lists × IsIn x xs × (v ≡ l ++ x ∷ [])
  longer_in v [] xs i = absurd i
  longer_in v (k ∷ lists) xs i = elim (in_append v (map (λ (y : X). k ++ y ∷ []) xs) (longer lists xs) i) [
    | inl a ↦ (let m = in_mapped (λ (y : X). k ++ y ∷ []) v xs a in (k, m.0, inl refl, m.1, m.2))
    | inr b ↦ (let m = longer_in v lists xs b in (m.0, m.1, inr m.2, m.3, m.4))
  ]

  in_product_on : (l ys : List X) (lists options : List (List X)) → IsIn l lists → IsOfEach ys options
      → IsIn (l ++ ys) (product_on lists options)
  in_product_on l [] lists [] i p = subst (λ (v : List X). IsIn v lists) (sym (append-nil l)) i
  in_product_on l [] lists (xs ∷ options) i p = absurd p
  in_product_on l (y ∷ ys) lists [] i p = absurd p
  in_product_on l (y ∷ ys) lists (xs ∷ options) i p =
      subst (λ (v : List X). IsIn v (product_on (longer lists xs) options)) (append_assoc l (y ∷ []) ys)
      (in_product_on (l ++ y ∷ []) ys (longer lists xs) options (in_longer l y lists xs i p.0) p.1)

  product_on_in : (v : List X) (lists options : List (List X)) → IsIn v (product_on lists options) → (l : List X)
      × (ys : List X) × IsIn l lists × IsOfEach ys options × (v ≡ l ++ ys)
  product_on_in v lists [] i = (v, [], i, tt, sym (append-nil v))
  product_on_in v lists (xs ∷ options) i =
      let m = product_on_in v (longer lists xs) options i in
      let n = longer_in m.0 lists xs m.2 in
      (n.0, n.1 ∷ m.1, n.2, (n.3, m.3), m.4 ∙ ap (λ (k : List X). k ++ m.1) n.4 ∙ append_assoc n.0 (n.1 ∷ []) m.1)

  -- a list with one item of each of the options is in the product, and each list of the product is one
  pub in_product : (ys : List X) (options : List (List X)) → IsOfEach ys options → IsIn ys (product options)
  in_product ys options p = in_product_on [] ys ([] ∷ []) options (inl refl) p

  pub product_in : (v : List X) (options : List (List X)) → IsIn v (product options) → IsOfEach v options
  product_in v options i =
      let m = product_on_in v ([] ∷ []) options i in
      let none : m.0 ≡ [] = only_item m.0 [] ([] ∷ []) refl m.2 in
      subst (λ (w : List X). IsOfEach w options) (sym (m.4 ∙ ap (λ (k : List X). k ++ m.1) none)) m.3

  module _ (S : X → X → Type 0) where
    -- two lists put together, of which no item of the first is related to one of the second
    pub apart_append : (xs ys : List X) → AreApart S xs → AreApart S ys
        → Every (λ (x : X). Every (λ (y : X). S x y → ⊥) ys) xs → AreApart S (xs ++ ys)
    apart_append [] ys h k e = k
    apart_append (x ∷ xs) ys h k e = (every_append (λ (y : X). S x y → ⊥) xs ys h.0 e.0, apart_append xs ys h.1 k e.1)

    -- one more item, to which none is related
    pub apart_push : (xs : List X) (y : X) → AreApart S xs → Every (λ (x : X). S x y → ⊥) xs → AreApart S (xs ++ y ∷ [])
    apart_push [] y h e = (tt, tt)
    apart_push (x ∷ xs) y h e = (every_append (λ (z : X). S x z → ⊥) xs (y ∷ []) h.0 (e.0, tt), apart_push xs y h.1 e.1)

-- items that are apart by what f makes of them
pub apart_map : {X Y : Type 0} (S : Y → Y → Type 0) (f : X → Y) (xs : List X) → AreApart (λ (x y : X). S (f x) (f y)) xs
    → AreApart S (map f xs)
apart_map S f [] h = tt
apart_map {X} {Y} S f (x ∷ xs) h = (
  in_every (λ (y : Y). S (f x) y → ⊥) (map f xs)
      (λ y i. let m = in_mapped f y xs i in
      subst (λ (v : Y). S (f x) v → ⊥) (sym m.2) (every_in (λ (z : X). S (f x) (f z) → ⊥) xs m.0 h.0 m.1)),
  apart_map S f xs h.1,
)

module _ {X : Type 0} (R : X → X → Type 0) where
  none_behind : (b : List X) (y : X) → Paired R [] (b ++ y ∷ []) → ⊥
  none_behind [] y p = p
  none_behind (w ∷ b) y p = p

  behind_none : (a : List X) (x : X) → Paired R (a ++ x ∷ []) [] → ⊥
  behind_none [] x p = p
  behind_none (w ∷ a) x p = p

  -- the lists without their last items, and these
  paired_last : (a b : List X) (x y : X) → Paired R (a ++ x ∷ []) (b ++ y ∷ []) → Paired R a b × R x y
  paired_last [] [] x y p = (tt, p.0)
  paired_last [] (z ∷ b) x y p = absurd (none_behind b y p.1)
  paired_last (z ∷ a) [] x y p = absurd (behind_none a x p.1)
  paired_last (z ∷ a) (w ∷ b) x y p = let r = paired_last a b x y p.1 in ((p.0, r.0), r.1)

  apart_extended : (l : List X) (xs : List X) → AreApart R xs → AreApart (Paired R) (map (λ (x : X). l ++ x ∷ []) xs)
  apart_extended l [] h = tt
  apart_extended l (x ∷ xs) h = (
    in_every (λ (v : List X). Paired R (l ++ x ∷ []) v → ⊥) (map (λ (y : X). l ++ y ∷ []) xs) (λ v i p.
        let m = in_mapped (λ (y : X). l ++ y ∷ []) v xs i in
        every_in (λ (y : X). R x y → ⊥) xs m.0 h.0 m.1
        (paired_last l l x m.0 (subst (λ (w : List X). Paired R (l ++ x ∷ []) w) m.2 p)).1),
    apart_extended l xs h.1,
  )

  apart_longer : (lists : List (List X)) (xs : List X) → AreApart (Paired R) lists → AreApart R xs
      → AreApart (Paired R) (longer lists xs)
  apart_longer [] xs h g = tt
  apart_longer (l ∷ lists) xs h g =
      apart_append (Paired R) (map (λ (x : X). l ++ x ∷ []) xs) (longer lists xs) (apart_extended l xs g)
      (apart_longer lists xs h.1 g)
      (in_every (λ (v : List X). Every (λ (w : List X). Paired R v w → ⊥) (longer lists xs))
      (map (λ (x : X). l ++ x ∷ []) xs) (λ v i.
      in_every (λ (w : List X). Paired R v w → ⊥) (longer lists xs) (λ w j p.
      let m = in_mapped (λ (y : X). l ++ y ∷ []) v xs i in
      let n = longer_in w lists xs j in
      every_in (λ (k : List X). Paired R l k → ⊥) lists n.0 h.0 n.2
      (paired_last l n.0 m.0 n.1
      (subst (λ (z : List X). Paired R (l ++ m.0 ∷ []) z) n.4 (subst (λ (z : List X). Paired R z w) m.2 p))).0)))

  apart_product_on : (lists options : List (List X)) → AreApart (Paired R) lists → Every (AreApart R) options
      → AreApart (Paired R) (product_on lists options)
  apart_product_on lists [] h g = h
  apart_product_on lists (xs ∷ options) h g =
      apart_product_on (longer lists xs) options (apart_longer lists xs h g.0) g.1

  -- where no two items of one option are related, no two lists of the product are related place by place
  pub apart_product : (options : List (List X)) → Every (AreApart R) options → AreApart (Paired R) (product options)
  apart_product options g = apart_product_on ([] ∷ []) options (tt, tt) g
