-- Laws of rearranged lists.
use Rattle.std.proofs.Common.{◌≡◌, suc, List, [], ◌∷◌, ◌++◌, length, map, refl, sym, ap, subst, ◌∙◌, append_assoc}
use Rattle.std.proofs.Common.{flat_map}
use Rattle.fore_base.specs.Lists.{Every}
use Rattle.fa_core.specs.Rearranged.{Rearranged, empty, keep, swap, chain}

module _ {X : Type 0} where
  pub same : (xs : List X) → Rearranged xs xs
  same [] = empty
  same (x ∷ xs) = keep x (same xs)

  pub equal : {xs ys : List X} → xs ≡ ys → Rearranged xs ys
  equal {xs} e = subst (λ (zs : List X). Rearranged xs zs) e (same xs)

  pub back : {xs ys : List X} → Rearranged xs ys → Rearranged ys xs
  back empty = empty
  back (keep x r) = keep x (back r)
  back (swap x y xs) = swap y x xs
  back (chain a b) = chain (back b) (back a)

  pub after : (zs : List X) {xs ys : List X} → Rearranged xs ys → Rearranged (zs ++ xs) (zs ++ ys)
  after [] r = r
  after (z ∷ zs) r = keep z (after zs r)

  pub before : (zs : List X) {xs ys : List X} → Rearranged xs ys → Rearranged (xs ++ zs) (ys ++ zs)
  before zs empty = same zs
  before zs (keep x r) = keep x (before zs r)
  before zs (swap x y xs) = swap x y (xs ++ zs)
  before zs (chain a b) = chain (before zs a) (before zs b)

  pub both : {us ws xs ys : List X} → Rearranged us ws → Rearranged xs ys → Rearranged (us ++ xs) (ws ++ ys)
  both {ws = ws} {xs = xs} a b = chain (before xs a) (after ws b)

  pub middle : (xs : List X) (y : X) (zs : List X) → Rearranged (xs ++ (y ∷ zs)) (y ∷ (xs ++ zs))
  middle [] y zs = same (y ∷ zs)
  middle (x ∷ xs) y zs = chain (keep x (middle xs y zs)) (swap x y (xs ++ zs))

  pub exchange : (xs ys zs : List X) → Rearranged (xs ++ (ys ++ zs)) (ys ++ (xs ++ zs))
  exchange xs [] zs = same (xs ++ zs)
  exchange xs (y ∷ ys) zs = chain (middle xs y (ys ++ zs)) (keep y (exchange xs ys zs))

  pub long_same : {xs ys : List X} → Rearranged xs ys → length xs ≡ length ys
  long_same empty = refl
  long_same (keep x r) = ap suc (long_same r)
  long_same (swap x y xs) = refl
  long_same (chain a b) = long_same a ∙ long_same b

  pub every_moved : (P : X → Type 0) {xs ys : List X} → Rearranged xs ys → Every P xs → Every P ys
  every_moved P empty h = h
  every_moved P (keep x r) h = (h.0, every_moved P r h.1)
  every_moved P (swap x y xs) h = (h.1.0, (h.0, h.1.1))
  every_moved P (chain a b) h = every_moved P b (every_moved P a h)

module _ {X Y : Type 0} (f : X → Y) where
  pub mapped : {xs ys : List X} → Rearranged xs ys → Rearranged (map f xs) (map f ys)
  mapped empty = empty
  mapped (keep x r) = keep (f x) (mapped r)
  mapped (swap x y xs) = swap (f x) (f y) (map f xs)
  mapped (chain a b) = chain (mapped a) (mapped b)

module _ {X Y : Type 0} (f : X → List Y) where
  pub flat_map-append : (xs ys : List X) → flat_map f (xs ++ ys) ≡ flat_map f xs ++ flat_map f ys
  flat_map-append [] ys = refl
  flat_map-append (x ∷ xs) ys = rw (flat_map-append xs ys) (sym (append_assoc (f x) (flat_map f xs) (flat_map f ys)))

  pub flat_mapped : {xs ys : List X} → Rearranged xs ys → Rearranged (flat_map f xs) (flat_map f ys)
  flat_mapped empty = empty
  flat_mapped (keep x r) = after (f x) (flat_mapped r)
  flat_mapped (swap x y xs) = exchange (f x) (f y) (flat_map f xs)
  flat_mapped (chain a b) = chain (flat_mapped a) (flat_mapped b)
