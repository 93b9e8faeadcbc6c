-- What a sound forest says of its variables: each target is a root of it or none, and each datum fits.
use Rattle.std.proofs.Common.{◌≡◌, ◌∙◌, ◌<◌, inl, inr, ℕ, zero, suc, Bool, true, false, true≢false, List, [], ◌∷◌}
use Rattle.std.proofs.Common.{length, slice_set, slice_index_or, Result, Ok, Err, refl, sym, ap, subst}
use Rattle.std.specs.Result.{IfOk}
use Rattle.fore_base.specs.Lists.{IsIn, Every}
use Rattle.fore_base.specs.Stores.{set_each}
use Rattle.fore_base.specs.declared.fault.Fault.{Fault}
use Rattle.fore_base.specs.declared.store.Datum.{Datum}
use Rattle.fore_base.specs.declared.store.Datum.TheVariants.{Undefined}
use Rattle.fore_base.proofs.ListLemmas.{in_every}
use Rattle.fa_core.specs.declared.faces.Face.{Face}
use Rattle.fa_core.specs.declared.forest.Forest.{Forest}
use Rattle.fa_core.specs.declared.forest.Target.{Target}
use Rattle.fa_core.specs.declared.forest.Target.TheVariants.{Null, Uninit, Dangling, At}
use Rattle.fa_core.specs.Filled.{DatumFits, IsRoot, IsSound}
use Rattle.fa_back.proofs.Dressable.{some_choice}
use Rattle.fa_merge.proofs.Named.{var_below}
use Rattle.c_cfg.specs.declared.graph.DataArg.{DataArg}
use Rattle.c_cfg.specs.declared.graph.DataArg.TheVariants.{Var as ArgVar, Known as ArgKnown}
use Rattle.c_cfg.specs.declared.graph.PtrArg.{PtrArg}
use Rattle.c_cfg.specs.declared.graph.PtrArg.TheVariants.{Var as PtrVar, Null as PtrNull}
use Rattle.c_cfg.specs.Ranges.{DataArgFits}
use Rattle.sym_core.specs.Explicit.{target_at}
use Rattle.sym_transfer.specs.inner.Targets.{datum_at, target_of_arg, datum_of_arg, root_of}
use Rattle.sym_transfer.specs.inner.Tops.{HasTop, AreTopped}
use Rattle.sym_transfer.proofs.Following.{root_is}
use Rattle.sym_transfer.proofs.Places.{every_set, length_set}

abbrev is_root : Target → Bool
is_root Null = false
is_root Uninit = false
is_root Dangling = false
is_root (At r) = true

-- what is no root is below any number of roots
pub null_below : (n : ℕ) → IsRoot n Null
null_below n r e = absurd (true≢false (sym (ap is_root e)))

pub uninit_below : (n : ℕ) → IsRoot n Uninit
uninit_below n r e = absurd (true≢false (sym (ap is_root e)))

pub at_in : (vs : List Target) (x r : ℕ) → slice_index_or vs x Uninit ≡ At r → IsIn (At r) vs
at_in [] zero r e = absurd (true≢false (sym (ap is_root e)))
at_in [] (suc x) r e = absurd (true≢false (sym (ap is_root e)))
at_in (v ∷ vs) zero r e = inl (sym e)
at_in (v ∷ vs) (suc x) r e = inr (at_in vs x r e)

get_fits : (ys : List Datum) (x : ℕ) → Every DatumFits ys → DatumFits (slice_index_or ys x Undefined)
get_fits [] zero h = tt
get_fits [] (suc x) h = tt
get_fits (y ∷ ys) zero h = h.0
get_fits (y ∷ ys) (suc x) h = get_fits ys x h.1

pub every_each : {X : Type 0} (P : X → Type 0) (xs : List X) (ns : List ℕ) (x : X) → Every P xs → P x
    → Every P (set_each xs ns x)
every_each P xs [] x h p = h
every_each P xs (n ∷ ns) x h p = every_each P (slice_set xs n x) ns x (every_set P xs n x h p) p

pub length_each : {X : Type 0} (xs : List X) (ns : List ℕ) (x : X) → length (set_each xs ns x) ≡ length xs
length_each xs [] x = refl
length_each xs (n ∷ ns) x = length_each (slice_set xs n x) ns x ∙ length_set xs n x

module _ (face : Face) (F : Forest) (sound : IsSound face F) where
  pub root_below : (r : ℕ) → IsIn (At r) F.vars → r < length F.autos
  root_below r i =
      let c = some_choice F.autos sound.full in
      var_below face F sound.well_formed.filled c.0 c.1 r i

  pub targets_below : Every (IsRoot (length F.autos)) F.vars
  targets_below = in_every (IsRoot (length F.autos)) F.vars
      (λ t i r e. root_below r (subst (λ (u : Target). IsIn u F.vars) e i))

  pub arg_below : (a : PtrArg) → IsRoot (length F.autos) (target_of_arg F a)
  arg_below (PtrVar x) r e = root_below r (at_in F.vars x r e)
  arg_below PtrNull r e = null_below (length F.autos) r e

  pub data_fit : Every DatumFits F.data_vars
  data_fit = sound.well_formed.filled.data_vars

  pub datum_fits : (x : ℕ) → DatumFits (datum_at F x)
  datum_fits x = get_fits F.data_vars x data_fit

  pub data_arg_fits : (n m : ℕ) (a : DataArg) → DataArgFits n m [] a → DatumFits (datum_of_arg F a)
  data_arg_fits n m (ArgVar x) h = datum_fits x
  data_arg_fits n m (ArgKnown k) h = h

  -- a root at which a variable is
  pub top_at : AreTopped F → (x r : ℕ) → target_at F x ≡ At r → HasTop F r
  top_at tops x r e = let i = at_in F.vars x r e in record { root = root_below r i; top = tops r i }

  pub followed_top : AreTopped F → (x : ℕ) (q : Result ℕ Fault) → q ≡ root_of (target_at F x) → IfOk q (λ r. HasTop F r)
  followed_top tops x (Ok r) e = top_at tops x r (root_is (target_at F x) r (sym e))
  followed_top tops x (Err k) e = tt
