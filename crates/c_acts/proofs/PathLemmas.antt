-- A write meets the fault of its first arrow.
use Rattle.std.proofs.Common.{◌≡◌, ℕ, List, [], ◌∷◌, Err, ap}
use Rattle.fore_base.specs.declared.fault.Fault.{Fault}
use Rattle.fore_base.specs.declared.store.Value.{Value}
use Rattle.fore_base.specs.declared.store.Value.TheVariants.{Null}
use Rattle.fore_base.specs.declared.store.Store.{Store}
use Rattle.fore_base.specs.Stores.{onward, load, store_at, write_from}

store_fails : (s : Store) (v w : Value) (f : ℕ) (k : Fault) → load s v f ≡ Err k → store_at s v f w ≡ Err k
store_fails s Null w f k e = cc
store_fails s _ w f k e = cc

pub write_fails : (s : Store) (v w : Value) (f : ℕ) (gs : List ℕ) (k : Fault) → load s v f ≡ Err k
    → write_from s v f gs w ≡ Err k
write_fails s v w f [] k e = store_fails s v w f k e
write_fails s v w f (g ∷ gs) k e = ap (λ r. onward r (λ u. write_from s u g gs w)) e
