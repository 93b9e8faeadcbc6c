-- Variables that die, in any order.
use Rattle.std.proofs.Common.{◌≡◌, ℕ, zero, suc, List, [], ◌∷◌, Bool, true, false, nat_lt, if◌then◌else◌, refl, ap, ◌∙◌}
use Rattle.std.specs.Prelude.{slice_set}
use Rattle.fore_base.specs.declared.store.Store.{Store}
use Rattle.fore_base.specs.declared.store.Value.TheVariants.{Uninit}
use Rattle.fore_base.specs.declared.store.Datum.TheVariants.{Undefined}
use Rattle.fore_base.specs.Stores.{set_each, kill}
use Rattle.c_types.specs.declared.program.VarRef.{VarRef}
use Rattle.c_types.specs.declared.program.VarRef.TheVariants.{Ptr as PtrVar, Data as DatumVar}
use Rattle.c_types.specs.Control.{insert, merged, ptr_vars, datum_vars}
use Rattle.c_types.specs.Steps.{without}

set_twice : {A : Type 0} (xs : List A) (m n : ℕ) (v : A) → slice_set (slice_set xs m v) n v
    ≡ slice_set (slice_set xs n v) m v
set_twice (x ∷ xs) (suc m) (suc n) v = ap (λ ys. x ∷ ys) (set_twice xs m n v)
set_twice (x ∷ xs) zero zero v = refl
set_twice _ _ _ v = refl

pub set_insert : {A : Type 0} (xs : List A) (n : ℕ) (ms : List ℕ) (v : A) → set_each xs (insert n ms) v
    ≡ set_each (slice_set xs n v) ms v
set_insert xs n [] v = refl
set_insert xs n (m ∷ ms) v = here (nat_lt n m) (set_insert (slice_set xs m v) n ms v)
  where
    here : (b : Bool) → set_each (slice_set xs m v) (insert n ms) v ≡ set_each (slice_set (slice_set xs m v) n v) ms v
        → set_each xs (if b then n ∷ (m ∷ ms) else m ∷ insert n ms) v ≡ set_each (slice_set xs n v) (m ∷ ms) v
    here true rest = refl
    here false rest = rest ∙ ap (λ ys. set_each ys ms v) (set_twice xs m n v)

set_merged : {A : Type 0} (xs : List A) (ns ms : List ℕ) (v : A) → set_each xs (merged ns ms) v
    ≡ set_each (set_each xs ns v) ms v
set_merged xs [] ms v = refl
set_merged xs (n ∷ ns) ms v = set_insert xs n (merged ns ms) v ∙ set_merged (slice_set xs n v) ns ms v

pub kill_merged : (ps qs ds es : List ℕ) (s : Store) → kill (merged ps qs) (merged ds es) s ≡ kill qs es (kill ps ds s)
kill_merged ps qs ds es s =
    ap (λ vs. record s { vars = vs; data_vars = set_each s.data_vars (merged ds es) Undefined })
    (set_merged s.vars ps qs Uninit)
    ∙ ap (λ vs. record s { vars = set_each (set_each s.vars ps Uninit) qs Uninit; data_vars = vs })
    (set_merged s.data_vars ds es Undefined)

-- the first of some variables, and the others
pub without_first : (v : VarRef) (vs : List VarRef) (s : Store) → without (v ∷ vs) s ≡ without vs (without (v ∷ []) s)
without_first (PtrVar x) vs s =
    ap (λ ws. record s { vars = ws; data_vars = set_each s.data_vars (datum_vars vs) Undefined })
    (set_insert s.vars x (ptr_vars vs) Uninit)
without_first (DatumVar x) vs s =
    ap (λ ds. record s { vars = set_each s.vars (ptr_vars vs) Uninit; data_vars = ds })
    (set_insert s.data_vars x (datum_vars vs) Undefined)
