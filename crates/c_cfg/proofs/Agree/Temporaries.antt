-- Stores with the temporaries behind the program's variables.
use Rattle.std.proofs.Common.{◌≡◌, ◌<◌, ◌+◌, ℕ, zero, suc, List, [], ◌∷◌, ◌++◌, length, slice_index_or, slice_get, Some}
use Rattle.std.proofs.Common.{slice_set, length-set, refl, sym, ap, ◌∙◌, arith}
use Rattle.fore_base.specs.Lists.{Every}
use Rattle.fore_base.specs.declared.store.Value.{Value}
use Rattle.fore_base.specs.declared.store.Value.TheVariants.{Uninit}
use Rattle.fore_base.specs.declared.store.Datum.{Datum}
use Rattle.fore_base.specs.declared.store.Datum.TheVariants.{Undefined}
use Rattle.fore_base.specs.declared.store.Store.{Store}
use Rattle.fore_base.specs.Stores.{var_of, datum_of, set_var, set_datum, set_each, kill}
use Rattle.c_cfg.specs.Temporaries.{TemporariesUnset}
use Rattle.c_types.specs.Steps.{below, all_dead}
use Rattle.c_types.proofs.CellsFit.{length_set_each}

-- Lists with two items more

pub get_front : {A : Type 0} (d : A) (xs ys : List A) (n : ℕ) → n < length xs → slice_index_or (xs ++ ys) n d
    ≡ slice_index_or xs n d
get_front d [] ys n less = absurd (omega (arith, less))
get_front d (x ∷ xs) ys zero less = refl
get_front d (x ∷ xs) ys (suc n) less = get_front d xs ys n (omega (arith, less))

pub get_first : {A : Type 0} (d : A) (xs : List A) (x y : A) (n : ℕ) → n ≡ length xs
    → slice_index_or (xs ++ x ∷ y ∷ []) n d ≡ x
get_first d [] x y n e = rw e refl
get_first d (z ∷ xs) x y zero e = absurd (omega (arith, e))
get_first d (z ∷ xs) x y (suc n) e = get_first d xs x y n (omega (arith, e))

pub get_second : {A : Type 0} (d : A) (xs : List A) (x y : A) (n : ℕ) → n ≡ length xs + 1
    → slice_index_or (xs ++ x ∷ y ∷ []) n d ≡ y
get_second d [] x y n e = let one : n ≡ 1 = omega (arith, e) in rw one refl
get_second d (z ∷ xs) x y zero e = absurd (omega (arith, e))
get_second d (z ∷ xs) x y (suc n) e = get_second d xs x y n (omega (arith, e))

pub there_first : {A : Type 0} (xs : List A) (x y : A) (n : ℕ) → n ≡ length xs → slice_get (xs ++ x ∷ y ∷ []) n ≡ Some x
there_first [] x y n e = rw e refl
there_first (z ∷ xs) x y zero e = absurd (omega (arith, e))
there_first (z ∷ xs) x y (suc n) e = there_first xs x y n (omega (arith, e))

pub there_second : {A : Type 0} (xs : List A) (x y : A) (n : ℕ) → n ≡ length xs + 1 → slice_get (xs ++ x ∷ y ∷ []) n
    ≡ Some y
there_second [] x y n e = let one : n ≡ 1 = omega (arith, e) in rw one refl
there_second (z ∷ xs) x y zero e = absurd (omega (arith, e))
there_second (z ∷ xs) x y (suc n) e = there_second xs x y n (omega (arith, e))

pub set_front : {A : Type 0} (xs ys : List A) (n : ℕ) (v : A) → n < length xs → slice_set (xs ++ ys) n v
    ≡ slice_set xs n v ++ ys
set_front [] ys n v less = absurd (omega (arith, less))
set_front (x ∷ xs) ys zero v less = refl
set_front (x ∷ xs) ys (suc n) v less = ap (λ zs. x ∷ zs) (set_front xs ys n v (omega (arith, less)))

pub set_first : {A : Type 0} (xs : List A) (x y : A) (n : ℕ) (v : A) → n ≡ length xs → slice_set (xs ++ x ∷ y ∷ []) n v
    ≡ xs ++ v ∷ y ∷ []
set_first [] x y n v e = rw e refl
set_first (z ∷ xs) x y zero v e = absurd (omega (arith, e))
set_first (z ∷ xs) x y (suc n) v e = ap (λ zs. z ∷ zs) (set_first xs x y n v (omega (arith, e)))

pub set_second : {A : Type 0} (xs : List A) (x y : A) (n : ℕ) (v : A) → n ≡ length xs + 1
    → slice_set (xs ++ x ∷ y ∷ []) n v ≡ xs ++ x ∷ v ∷ []
set_second [] x y n v e = let one : n ≡ 1 = omega (arith, e) in rw one refl
set_second (z ∷ xs) x y zero v e = absurd (omega (arith, e))
set_second (z ∷ xs) x y (suc n) v e = ap (λ zs. z ∷ zs) (set_second xs x y n v (omega (arith, e)))

-- two items that hold nothing stay so
set_anywhere : {A : Type 0} (xs : List A) (n : ℕ) (u : A) → slice_set (xs ++ u ∷ u ∷ []) n u ≡ slice_set xs n u ++ u ∷ u
    ∷ []
set_anywhere [] zero u = refl
set_anywhere [] (suc zero) u = refl
set_anywhere [] (suc (suc n)) u = refl
set_anywhere (x ∷ xs) zero u = refl
set_anywhere (x ∷ xs) (suc n) u = ap (λ zs. x ∷ zs) (set_anywhere xs n u)

pub each_anywhere : {A : Type 0} (xs : List A) (ns : List ℕ) (u : A) → set_each (xs ++ u ∷ u ∷ []) ns u
    ≡ set_each xs ns u ++ u ∷ u ∷ []
each_anywhere xs [] u = refl
each_anywhere xs (n ∷ ns) u = ap (λ zs. set_each zs ns u) (set_anywhere xs n u) ∙ each_anywhere (slice_set xs n u) ns u

pub each_front : {A : Type 0} (m : ℕ) (xs ys : List A) (ns : List ℕ) (v : A) → length xs ≡ m → Every (λ n. n < m) ns
    → set_each (xs ++ ys) ns v ≡ set_each xs ns v ++ ys
each_front m xs ys [] v e less = refl
each_front m xs ys (n ∷ ns) v e less =
    ap (λ zs. set_each zs ns v) (set_front xs ys n v (omega (arith, e, less.0)))
    ∙ each_front m (slice_set xs n v) ys ns v (length-set xs n v ∙ e) less.1

pub each_append : {A : Type 0} (xs : List A) (ns ms : List ℕ) (v : A) → set_each xs (ns ++ ms) v
    ≡ set_each (set_each xs ns v) ms v
each_append xs [] ms v = refl
each_append xs (n ∷ ns) ms v = each_append (slice_set xs n v) ns ms v

less_more : (m n : ℕ) (ks : List ℕ) → m < n + 1 → Every (λ k. k < m) ks → Every (λ k. k < n) ks
less_more m n [] h less = tt
less_more m n (k ∷ ks) h less = (omega (arith, h, less.0), less_more m n ks h less.1)

less_both : (n : ℕ) (ks ms : List ℕ) → Every (λ k. k < n) ks → Every (λ k. k < n) ms → Every (λ k. k < n) (ks ++ ms)
less_both n [] ms h k = k
less_both n (x ∷ ks) ms h k = (h.0, less_both n ks ms h.1 k)

below_less : (n : ℕ) → Every (λ k. k < n) (below n)
below_less zero = tt
below_less (suc n) = less_both (suc n) (below n) (n ∷ []) (less_more n (suc n) (below n) (omega arith) (below_less n))
    (omega arith, tt)

-- all items of a list and the two after it are set
all_set : {A : Type 0} (m : ℕ) (xs : List A) (x y u : A) → length xs ≡ m → set_each (xs ++ x ∷ y ∷ []) (below (m + 2)) u
    ≡ set_each xs (below m) u ++ u ∷ u ∷ []
all_set m xs x y u e =
    let two : m + 2 ≡ suc (suc m) = omega arith in
    ap (λ k. set_each (xs ++ x ∷ y ∷ []) (below k) u) two
    ∙ each_append (xs ++ x ∷ y ∷ []) (below m ++ m ∷ []) (suc m ∷ []) u
    ∙ ap (λ zs. slice_set zs (suc m) u)
    (each_append (xs ++ x ∷ y ∷ []) (below m) (m ∷ []) u
    ∙ ap (λ zs. slice_set zs m u) (each_front m xs (x ∷ y ∷ []) (below m) u e (below_less m)))
    ∙ ap (λ zs. slice_set zs (suc m) u)
    (set_first (set_each xs (below m) u) x y m u (sym e ∙ sym (length_set_each xs (below m) u)))
    ∙ set_second (set_each xs (below m) u) u y (suc m) u (omega (arith, e, length_set_each xs (below m) u))

-- Stores

-- a store with two pointer and two data variables more
abbrev pub ext : Store → Value → Value → Datum → Datum → Store
ext s x y d e = record s { vars = s.vars ++ x ∷ y ∷ []; data_vars = s.data_vars ++ d ∷ e ∷ [] }

-- as it is between the steps
abbrev pub ext0 : Store → Store
ext0 s = ext s Uninit Uninit Undefined Undefined

-- the program's part of a store has the program's variables
pub record Sized (nv nd : ℕ) (s : Store) : Type 0 where
  pub ptrs : length s.vars ≡ nv
  pub datums : length s.data_vars ≡ nd

pub ext_unset : (nv nd : ℕ) (t s : Store) → s ≡ ext0 t → Sized nv nd t → TemporariesUnset nv nd s
ext_unset nv nd t s e z = rw e (record {
  first_ptr = there_first t.vars Uninit Uninit nv (sym z.ptrs);
  second_ptr = there_second t.vars Uninit Uninit (nv + 1) (omega (arith, z.ptrs));
  first_datum = there_first t.data_vars Undefined Undefined nd (sym z.datums);
  second_datum = there_second t.data_vars Undefined Undefined (nd + 1) (omega (arith, z.datums));
})

-- a store with other variables
abbrev pub with_vars : Store → List Value → List Datum → Store
with_vars s vs ds = record s { vars = vs; data_vars = ds }

-- variables die, the temporaries holding nothing
pub kill_ext0 : (ps ds : List ℕ) (s : Store) → kill ps ds (ext0 s) ≡ ext0 (kill ps ds s)
kill_ext0 ps ds s =
    ap (λ vs. with_vars s vs (set_each (s.data_vars ++ Undefined ∷ Undefined ∷ []) ds Undefined))
    (each_anywhere s.vars ps Uninit)
    ∙ ap (λ us. with_vars s (set_each s.vars ps Uninit ++ Uninit ∷ Uninit ∷ []) us)
    (each_anywhere s.data_vars ds Undefined)

-- all variables die, the temporaries with them
pub all_die : (nv nd : ℕ) (s : Store) → Sized nv nd s → (x y : Value) (d e : Datum)
    → kill (below (nv + 2)) (below (nd + 2)) (ext s x y d e) ≡ ext0 (all_dead s)
all_die nv nd s z x y d e =
    ap (λ vs. with_vars s vs (set_each (s.data_vars ++ d ∷ e ∷ []) (below (nd + 2)) Undefined))
    (all_set nv s.vars x y Uninit z.ptrs
    ∙ ap (λ k. set_each s.vars (below k) Uninit ++ Uninit ∷ Uninit ∷ []) (sym z.ptrs))
    ∙ ap (λ us. with_vars s (set_each s.vars (below (length s.vars)) Uninit ++ Uninit ∷ Uninit ∷ []) us)
    (all_set nd s.data_vars d e Undefined z.datums
    ∙ ap (λ k. set_each s.data_vars (below k) Undefined ++ Undefined ∷ Undefined ∷ []) (sym z.datums))

module _ (nv nd : ℕ) (s : Store) (z : Sized nv nd s) (x y : Value) (d e : Datum) where
  -- the program's variables

  pub var_ext : (b : ℕ) → b < nv → var_of (ext s x y d e) b ≡ var_of s b
  var_ext b less = get_front Uninit s.vars (x ∷ y ∷ []) b (omega (arith, less, z.ptrs))

  pub datum_ext : (b : ℕ) → b < nd → datum_of (ext s x y d e) b ≡ datum_of s b
  datum_ext b less = get_front Undefined s.data_vars (d ∷ e ∷ []) b (omega (arith, less, z.datums))

  pub set_ext : (b : ℕ) (v : Value) → b < nv → set_var (ext s x y d e) b v ≡ ext (set_var s b v) x y d e
  set_ext b v less = ap (λ vs. with_vars s vs (s.data_vars ++ d ∷ e ∷ []))
      (set_front s.vars (x ∷ y ∷ []) b v (omega (arith, less, z.ptrs)))

  pub set_datum_ext : (b : ℕ) (v : Datum) → b < nd → set_datum (ext s x y d e) b v ≡ ext (set_datum s b v) x y d e
  set_datum_ext b v less =
      ap (λ us. with_vars s (s.vars ++ x ∷ y ∷ []) us)
      (set_front s.data_vars (d ∷ e ∷ []) b v (omega (arith, less, z.datums)))

  -- the temporaries

  pub p0_holds : var_of (ext s x y d e) nv ≡ x
  p0_holds = get_first Uninit s.vars x y nv (sym z.ptrs)

  pub p1_holds : var_of (ext s x y d e) (nv + 1) ≡ y
  p1_holds = get_second Uninit s.vars x y (nv + 1) (omega (arith, z.ptrs))

  pub d0_holds : datum_of (ext s x y d e) nd ≡ d
  d0_holds = get_first Undefined s.data_vars d e nd (sym z.datums)

  pub d1_holds : datum_of (ext s x y d e) (nd + 1) ≡ e
  d1_holds = get_second Undefined s.data_vars d e (nd + 1) (omega (arith, z.datums))

  pub p0_set : (v : Value) → set_var (ext s x y d e) nv v ≡ ext s v y d e
  p0_set v = ap (λ vs. with_vars s vs (s.data_vars ++ d ∷ e ∷ [])) (set_first s.vars x y nv v (sym z.ptrs))

  pub p1_set : (v : Value) → set_var (ext s x y d e) (nv + 1) v ≡ ext s x v d e
  p1_set v = ap (λ vs. with_vars s vs (s.data_vars ++ d ∷ e ∷ []))
      (set_second s.vars x y (nv + 1) v (omega (arith, z.ptrs)))

  pub d0_set : (v : Datum) → set_datum (ext s x y d e) nd v ≡ ext s x y v e
  d0_set v = ap (λ us. with_vars s (s.vars ++ x ∷ y ∷ []) us) (set_first s.data_vars d e nd v (sym z.datums))

  pub d1_set : (v : Datum) → set_datum (ext s x y d e) (nd + 1) v ≡ ext s x y d v
  d1_set v = ap (λ us. with_vars s (s.vars ++ x ∷ y ∷ []) us)
      (set_second s.data_vars d e (nd + 1) v (omega (arith, z.datums)))
