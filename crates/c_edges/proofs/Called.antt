-- What a call gives, an argument at a time, and which variables die, from the last one on.
use Rattle.std.specs.Prelude.{get_or, drop}
use Rattle.std.proofs.Common.{◌≡◌, ℕ, zero, suc, ◌+◌, ◌<◌, ◌≤◌, List, [], ◌∷◌, ◌++◌, length, Some, refl, sym, ap, ◌∙◌}
use Rattle.std.proofs.Common.{arith}
use Rattle.c_types.specs.declared.program.VarRef.{VarRef}
use Rattle.c_types.specs.declared.program.VarRef.TheVariants.{Ptr as PtrVar, Data as DatumVar}
use Rattle.c_types.specs.declared.program.Arg.{Arg}
use Rattle.c_types.specs.declared.program.Arg.TheVariants.{Ptr as GivenPtr, Data as GivenData}
use Rattle.c_types.specs.declared.program.PtrOp.TheVariants.{Path as OpPath, Null as OpNull}
use Rattle.c_types.specs.declared.program.DataOp.TheVariants.{Path as DataOpPath, Known as DataOpKnown}
use Rattle.c_types.specs.declared.program.DataPath.TheVariants.{Var as DataVar, Field as DataField}
use Rattle.c_types.specs.Control.{ptr_vars, datum_vars, with_result}
use Rattle.c_cfg.specs.Links.{ends, used, used_before, enter_row, give_links, give_each, given_used, each_used}
use Rattle.c_cfg.specs.Links.{one_used}
use Rattle.c_edges.specs.Calling.{nothing_links, with_ptr, with_datum}
use Rattle.std.proofs.lemmas.List.{drop_all, append-nil}
use Rattle.c_cfg.specs.declared.link.Link.{Link}

module _ (nv nd : ℕ) where
  -- Giving

  pub each-drop : (i : ℕ) (vs : List VarRef) (ws : List Arg) (v : VarRef) (a : Arg) → i < length vs → i < length ws
      → v ≡ get_or vs i v → a ≡ get_or ws i a
      → give_each nv nd (drop i vs) (drop i ws)
      ≡ give_links nv nd v a ++ give_each nv nd (drop (i + 1) vs) (drop (i + 1) ws)
  each-drop i [] ws v a h k e f = absurd (omega (arith, h))
  each-drop i (x ∷ vs) [] v a h k e f = absurd (omega (arith, k))
  each-drop zero (x ∷ vs) (y ∷ ws) v a h k e f =
      ap (λ z. give_links nv nd z y ++ give_each nv nd vs ws) (sym e)
      ∙ ap (λ z. give_links nv nd v z ++ give_each nv nd vs ws) (sym f)
  each-drop (suc i) (x ∷ vs) (y ∷ ws) v a h k e f = let q : suc i + 1 ≡ suc (i + 1) = omega arith in
      rw q (each-drop i vs ws v a (omega (arith, h)) (omega (arith, k)) e f)

  -- no parameter is left
  pub each-params : (i : ℕ) (vs : List VarRef) (ws : List Arg) → length vs ≤ i
      → give_each nv nd (drop i vs) (drop i ws) ≡ []
  each-params i vs ws h = ap (λ (z : List VarRef). give_each nv nd z (drop i ws)) (drop_all i vs h)

  none_given : (vs : List VarRef) → give_each nv nd vs [] ≡ []
  none_given [] = refl
  none_given (v ∷ vs) = refl

  -- no argument is left
  pub each-args : (i : ℕ) (vs : List VarRef) (ws : List Arg) → length ws ≤ i
      → give_each nv nd (drop i vs) (drop i ws) ≡ []
  each-args i vs ws h = ap (λ (z : List Arg). give_each nv nd (drop i vs) z) (drop_all i ws h)
      ∙ none_given (drop i vs)

  -- all is given that has an argument
  pub given_all : (i : ℕ) (vs : List VarRef) (ws : List Arg) (old now : List Link) → length ws ≤ i
      → now ++ give_each nv nd (drop i vs) (drop i ws) ≡ old ++ give_each nv nd vs ws
      → now ≡ old ++ give_each nv nd vs ws
  given_all i vs ws old now h e = sym (append-nil now) ∙ ap (λ ls. now ++ ls) (sym (each-args i vs ws h)) ∙ e

  -- Entering

  pub enter-params : (vs : List VarRef) (ws : List Arg) → length vs ≡ 0 → enter_row nv nd vs ws ≡ nothing_links
  enter-params [] ws h = refl
  enter-params (v ∷ vs) ws h = absurd (omega (arith, h))

  pub enter-args : (vs : List VarRef) (ws : List Arg) → length ws ≡ 0 → enter_row nv nd vs ws ≡ nothing_links
  enter-args [] ws h = refl
  enter-args (v ∷ vs) [] h = refl
  enter-args (v ∷ vs) (a ∷ ws) h = absurd (omega (arith, h))

  pub enter-both : (vs : List VarRef) (ws : List Arg) → 0 < length vs → 0 < length ws
      → enter_row nv nd vs ws ≡ give_each nv nd vs ws ++ ends (each_used nv nd ws) []
  enter-both [] ws h k = absurd (omega (arith, h))
  enter-both (v ∷ vs) [] h k = absurd (omega (arith, k))
  enter-both (v ∷ vs) (a ∷ ws) h k = refl

  -- The temporary

  pub used-drop : (i : ℕ) (ws : List Arg) (a : Arg) → i < length ws → a ≡ get_or ws i a
      → each_used nv nd (drop i ws)
      ≡ one_used nv nd (given_used nv nd a) (each_used nv nd (drop (i + 1) ws))
  used-drop i [] a h e = absurd (omega (arith, h))
  used-drop zero (x ∷ ws) a h e = ap (λ z. one_used nv nd (given_used nv nd z) (each_used nv nd ws)) (sym e)
  used-drop (suc i) (x ∷ ws) a h e = let q : suc i + 1 ≡ suc (i + 1) = omega arith in
      rw q (used-drop i ws a (omega (arith, h)) e)

  pub used-end : (i : ℕ) (ws : List Arg) → length ws ≤ i → each_used nv nd (drop i ws) ≡ []
  used-end i ws h = ap (λ (z : List Arg). each_used nv nd z) (drop_all i ws h)

  none_of : (t : ℕ) (fs : List ℕ) (ts : List ℕ) → 0 < length (used t fs) → one_used nv nd (used t fs) ts ≡ used t fs
  none_of t [] ts h = absurd (omega (arith, h))
  none_of t (f ∷ fs) ts h = refl

  none_before : (t : ℕ) (fs : List ℕ) (ts : List ℕ) → 0 < length (used_before t fs)
      → one_used nv nd (used_before t fs) ts ≡ used_before t fs
  none_before t [] ts h = absurd (omega (arith, h))
  none_before t (f ∷ fs) ts h = none_of t fs ts h

  -- one that is used is used alone
  pub used-one : (a : Arg) (ts : List ℕ) → 0 < length (given_used nv nd a)
      → one_used nv nd (given_used nv nd a) ts ≡ given_used nv nd a
  used-one (GivenPtr (OpPath q)) ts h = none_before nv q.fields ts h
  used-one (GivenPtr OpNull) ts h = absurd (omega (arith, h))
  used-one (GivenData (DataOpPath (DataVar x))) ts h = absurd (omega (arith, h))
  used-one (GivenData (DataOpPath (DataField base f))) ts h = none_of nv base.fields ts h
  used-one (GivenData (DataOpKnown k)) ts h = absurd (omega (arith, h))

  pub used-none : (us ts : List ℕ) → length us ≡ 0 → one_used nv nd us ts ≡ ts
  used-none [] ts h = refl
  used-none (u ∷ us) ts h = absurd (omega (arith, h))

-- Dying

pub ptrs-more : (v : VarRef) (vs : List VarRef) → ptr_vars (v ∷ vs) ≡ with_ptr v (ptr_vars vs)
ptrs-more (PtrVar x) vs = refl
ptrs-more (DatumVar x) vs = refl

pub datums-more : (v : VarRef) (vs : List VarRef) → datum_vars (v ∷ vs) ≡ with_datum v (datum_vars vs)
datums-more (PtrVar x) vs = refl
datums-more (DatumVar x) vs = refl

pub ptrs-drop : (i : ℕ) (vs : List VarRef) (v : VarRef) → i < length vs → v ≡ get_or vs i v
    → ptr_vars (drop i vs) ≡ with_ptr v (ptr_vars (drop (i + 1) vs))
ptrs-drop i [] v h e = absurd (omega (arith, h))
ptrs-drop zero (x ∷ vs) v h e = ptrs-more x vs ∙ ap (λ z. with_ptr z (ptr_vars vs)) (sym e)
ptrs-drop (suc i) (x ∷ vs) v h e = let q : suc i + 1 ≡ suc (i + 1) = omega arith in
    rw q (ptrs-drop i vs v (omega (arith, h)) e)

pub datums-drop : (i : ℕ) (vs : List VarRef) (v : VarRef) → i < length vs → v ≡ get_or vs i v
    → datum_vars (drop i vs) ≡ with_datum v (datum_vars (drop (i + 1) vs))
datums-drop i [] v h e = absurd (omega (arith, h))
datums-drop zero (x ∷ vs) v h e = datums-more x vs ∙ ap (λ z. with_datum z (datum_vars vs)) (sym e)
datums-drop (suc i) (x ∷ vs) v h e = let q : suc i + 1 ≡ suc (i + 1) = omega arith in
    rw q (datums-drop i vs v (omega (arith, h)) e)

pub ptrs-end : (n : ℕ) (vs : List VarRef) → length vs ≤ n → ptr_vars (drop n vs) ≡ []
ptrs-end n vs h = ap ptr_vars (drop_all n vs h)

pub datums-end : (n : ℕ) (vs : List VarRef) → length vs ≤ n → datum_vars (drop n vs) ≡ []
datums-end n vs h = ap datum_vars (drop_all n vs h)

pub ptrs-first : (v : VarRef) (vs : List VarRef) → ptr_vars (with_result (Some v) vs) ≡ with_ptr v (ptr_vars vs)
ptrs-first = ptrs-more

pub datums-first : (v : VarRef) (vs : List VarRef) → datum_vars (with_result (Some v) vs)
    ≡ with_datum v (datum_vars vs)
datums-first = datums-more

pub ruleset giving = (each-drop, each-params, each-args)

pub ruleset entering = (enter-params, enter-args, enter-both)

pub ruleset using_temps = (used-drop, used-end, used-one, used-none)

pub ruleset dying = (ptrs-drop, datums-drop, ptrs-end, datums-end, ptrs-first, datums-first)
