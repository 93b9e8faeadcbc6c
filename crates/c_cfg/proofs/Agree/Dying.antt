-- The Kill at the end of a step kills exactly the temporaries that the step used.
use Rattle.std.proofs.Common.{◌≡◌, ◌+◌, ℕ, List, [], ◌∷◌, ◌++◌, length, slice_set, refl, ap, ◌∙◌, arith}
use Rattle.fore_base.specs.declared.store.Value.{Value}
use Rattle.fore_base.specs.declared.store.Value.TheVariants.{Uninit}
use Rattle.fore_base.specs.declared.store.Datum.{Datum}
use Rattle.fore_base.specs.declared.store.Datum.TheVariants.{Undefined}
use Rattle.fore_base.specs.declared.store.Store.{Store}
use Rattle.fore_base.specs.Stores.{set_each, kill}
use Rattle.c_types.specs.declared.program.DataPath.{DataPath}
use Rattle.c_types.specs.declared.program.DataPath.TheVariants.{Var as DataVar, Field as DataField}
use Rattle.c_types.specs.declared.program.PtrOp.{PtrOp}
use Rattle.c_types.specs.declared.program.PtrOp.TheVariants.{Path as OpPath, Null as OpNull}
use Rattle.c_types.specs.declared.program.DataOp.{DataOp}
use Rattle.c_types.specs.declared.program.DataOp.TheVariants.{Path as DataOpPath, Known as DataOpKnown}
use Rattle.c_cfg.specs.Links.{used, base_used, data_used, op_used, op_base_used, op_data_used}
use Rattle.c_cfg.proofs.Agree.Temporaries.{with_vars, ext, ext0, Sized, set_first, set_second}
use Rattle.c_cfg.proofs.Agree.Reading.{held, base_held, data_held}

-- a temporary that is killed, or is not and holds nothing
abbrev pub IsCleared : {A : Type 0} → ℕ → A → List ℕ → A → Type 0
IsCleared t u [] x = x ≡ u
IsCleared t u (n ∷ []) x = n ≡ t
IsCleared t u (n ∷ m ∷ ns) x = ⊥

pub both_cleared : {A : Type 0} (m : ℕ) (xs : List A) (u : A) → length xs ≡ m → (ps qs : List ℕ) (x y : A)
    → IsCleared m u ps x → IsCleared (m + 1) u qs y → set_each (xs ++ x ∷ y ∷ []) (ps ++ qs) u ≡ xs ++ u ∷ u ∷ []
both_cleared m xs u e [] [] x y a b = ap (λ z. xs ++ z ∷ y ∷ []) a ∙ ap (λ z. xs ++ u ∷ z ∷ []) b
both_cleared m xs u e [] (n ∷ []) x y a b = set_second xs x y n u (omega (arith, e, b)) ∙ ap (λ z. xs ++ z ∷ u ∷ []) a
both_cleared m xs u e (n ∷ []) [] x y a b = set_first xs x y n u (omega (arith, e, a)) ∙ ap (λ z. xs ++ u ∷ z ∷ []) b
both_cleared m xs u e (n ∷ []) (k ∷ []) x y a b =
    ap (λ zs. slice_set zs k u) (set_first xs x y n u (omega (arith, e, a)))
    ∙ set_second xs u y k u (omega (arith, e, b))
both_cleared m xs u e [] (n ∷ k ∷ ns) x y a b = absurd b
both_cleared m xs u e (n ∷ []) (k ∷ j ∷ ns) x y a b = absurd b
both_cleared m xs u e (n ∷ k ∷ ns) qs x y a b = absurd a

module _ (nv nd : ℕ) where
  -- the lists of the Kill, as they are made up of those of each temporary
  pub all_cleared : (t : Store) → Sized nv nd t
      → (x y : Value) (d e : Datum) (ps qs ds es killed killed_datums : List ℕ) → killed ≡ ps ++ qs → killed_datums ≡ ds
      ++ es
      → IsCleared nv Uninit ps x → IsCleared (nv + 1) Uninit qs y → IsCleared nd Undefined ds d
      → IsCleared (nd + 1) Undefined es e → kill killed killed_datums (ext t x y d e) ≡ ext0 t
  all_cleared t z x y d e ps qs ds es killed killed_datums ep ed a b c f =
      ap (λ ks. kill ks killed_datums (ext t x y d e)) ep
      ∙ ap (λ ks. kill (ps ++ qs) ks (ext t x y d e)) ed
      ∙ ap (λ vs. with_vars t vs (set_each (t.data_vars ++ d ∷ e ∷ []) (ds ++ es) Undefined))
      (both_cleared nv t.vars Uninit z.ptrs ps qs x y a b)
      ∙ ap (λ us. with_vars t (t.vars ++ Uninit ∷ Uninit ∷ []) us)
      (both_cleared nd t.data_vars Undefined z.datums ds es d e c f)

pub held_cleared : (t : ℕ) (fs : List ℕ) (v : Value) → IsCleared t Uninit (used t fs) (held fs v)
held_cleared t [] v = refl
held_cleared t (f ∷ fs) v = refl

pub base_cleared : (t : ℕ) (s : Store) (q : DataPath) → IsCleared t Uninit (base_used t q) (base_held s q)
base_cleared t s (DataVar x) = refl
base_cleared t s (DataField base f) = held_cleared t base.fields _

pub data_cleared : (d : ℕ) (q : DataPath) (k : Datum) → IsCleared d Undefined (data_used d q) (data_held q k)
data_cleared d (DataVar x) k = refl
data_cleared d (DataField base f) k = refl

-- Operands of comparisons

abbrev pub op_held : PtrOp → Value → Value
op_held (OpPath q) v = held q.fields v
op_held OpNull v = Uninit

abbrev pub op_base_held : Store → DataOp → Value
op_base_held s (DataOpPath q) = base_held s q
op_base_held s (DataOpKnown k) = Uninit

abbrev pub op_data_held : DataOp → Datum → Datum
op_data_held (DataOpPath q) d = data_held q d
op_data_held (DataOpKnown k) d = Undefined

pub op_cleared : (t : ℕ) (q : PtrOp) (v : Value) → IsCleared t Uninit (op_used t q) (op_held q v)
op_cleared t (OpPath q) v = held_cleared t q.fields v
op_cleared t OpNull v = refl

pub op_base_cleared : (t : ℕ) (s : Store) (q : DataOp) → IsCleared t Uninit (op_base_used t q) (op_base_held s q)
op_base_cleared t s (DataOpPath q) = base_cleared t s q
op_base_cleared t s (DataOpKnown k) = refl

pub op_data_cleared : (d : ℕ) (q : DataOp) (k : Datum) → IsCleared d Undefined (op_data_used d q) (op_data_held q k)
op_data_cleared d (DataOpPath q) k = data_cleared d q k
op_data_cleared d (DataOpKnown n) k = refl
