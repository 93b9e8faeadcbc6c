-- Forests as which kept ones read, in a pool that grows, and which of them cover others.
use Rattle.std.proofs.Common.{◌≡◌, ℕ, zero, suc, ◌<◌, Bool, false, List, [], ◌∷◌, ◌++◌, map, length}
use Rattle.std.proofs.Common.{Option, Some, None, slice_get, refl, sym, ap, ◌∙◌, subst, arith, inl, inr}
use Rattle.std.specs.Option.{is_some}
use Rattle.std.proofs.lemmas.List.{length-append}
use Rattle.std.proofs.lemmas.Option.{none-some, same_Some}
use Rattle.fore_base.specs.Lists.{IsIn, Every, Paired}
use Rattle.ta_core.specs.Auto.{Automaton}
use Rattle.fa_core.specs.Covering.{Covers}
use Rattle.fa_core.specs.declared.faces.Face.{Face}
use Rattle.fa_core.specs.declared.forest.Forest.{Forest}
use Rattle.fa_core.specs.declared.forest.Target.{Target}
use Rattle.fore_base.specs.declared.store.Datum.{Datum}
use Rattle.fa_sound.specs.Soundness.{SoundForest}
use Rattle.fa_cover.specs.Firsts.{FirstCover}
use Rattle.fa_pool.specs.Pools.{IsNumber, ReadsAs, IsKeptIn}
use Rattle.fa_pool.specs.declared.kept.Kept.{Kept}
use Rattle.fix_core.specs.Reads.{auto_at, read}
use Rattle.fix_core.specs.inner.Holding.{IsCoveredBy}

-- the automaton of a number is that at its place
is_at_place : (pool : List Automaton) (n : ℕ) → n < length pool → IsNumber pool n (auto_at pool n)
is_at_place [] n low = absurd (omega (arith, low))
is_at_place (a ∷ pool) zero low = refl
is_at_place (a ∷ pool) (suc n) low = is_at_place pool n (omega (arith, low))

pub at_its_place : (pool : List Automaton) (n : ℕ) (a : Automaton) → IsNumber pool n a → a ≡ auto_at pool n
at_its_place [] n a is = absurd (none-some a is)
at_its_place (b ∷ pool) zero a is = sym (same_Some b a is)
at_its_place (b ∷ pool) (suc n) a is = at_its_place pool n a is

-- it stays where others come behind it
stays_at : (pool more : List Automaton) (n : ℕ) → n < length pool → auto_at (pool ++ more) n ≡ auto_at pool n
stays_at [] more n low = absurd (omega (arith, low))
stays_at (a ∷ pool) more zero low = refl
stays_at (a ∷ pool) more (suc n) low = stays_at pool more n (omega (arith, low))

module _ (pool : List Automaton) where
  numbers_read : (ns : List ℕ) → Every (λ n. n < length pool) ns → Paired (IsNumber pool) ns (map (auto_at pool) ns)
  numbers_read [] low = tt
  numbers_read (n ∷ ns) low = (is_at_place pool n low.0, numbers_read ns low.1)

  -- the forest as which the kept one reads
  pub reads : (kept : Kept) → IsKeptIn pool kept → ReadsAs pool kept (read pool kept)
  reads kept low = record { parts = numbers_read kept.parts low; vars = refl; data_vars = refl }

  autos_read : (ns : List ℕ) (autos : List Automaton) → Paired (IsNumber pool) ns autos → autos ≡ map (auto_at pool) ns
  autos_read [] [] h = refl
  autos_read [] (a ∷ autos) h = absurd h
  autos_read (n ∷ ns) [] h = absurd h
  autos_read (n ∷ ns) (a ∷ autos) h =
      ap (λ (x : Automaton). x ∷ autos) (at_its_place pool n a h.0)
      ∙ ap (λ (xs : List Automaton). auto_at pool n ∷ xs) (autos_read ns autos h.1)

  -- and no other one
  pub is_read : (kept : Kept) (F : Forest) → ReadsAs pool kept F → F ≡ read pool kept
  is_read kept F r =
      ap (λ (xs : List Automaton). record { autos = xs; vars = F.vars; data_vars = F.data_vars })
      (autos_read kept.parts F.autos r.parts)
      ∙ ap (λ (vs : List Target). record { autos = map (auto_at pool) kept.parts; vars = vs; data_vars = F.data_vars })
      r.vars
      ∙ ap (λ (ds : List Datum). record { autos = map (auto_at pool) kept.parts; vars = kept.vars; data_vars = ds })
      r.data_vars

  module _ (more : List Automaton) where
    autos_stay : (ns : List ℕ) → Every (λ n. n < length pool) ns → map (auto_at (pool ++ more)) ns
        ≡ map (auto_at pool) ns
    autos_stay [] low = refl
    autos_stay (n ∷ ns) low =
        ap (λ (x : Automaton). x ∷ map (auto_at (pool ++ more)) ns) (stays_at pool more n low.0)
        ∙ ap (λ (xs : List Automaton). auto_at pool n ∷ xs) (autos_stay ns low.1)

    low_stay : (ns : List ℕ) → Every (λ n. n < length pool) ns → Every (λ n. n < length (pool ++ more)) ns
    low_stay [] low = tt
    low_stay (n ∷ ns) low =
        let long = length-append pool more in (omega (arith, low.0, long), low_stay ns low.1)

-- where the pool has grown, a kept forest reads as it did
pub read_grown : (pool more new : List Automaton) (kept : Kept) → new ≡ pool ++ more → IsKeptIn pool kept
    → read new kept ≡ read pool kept
read_grown pool more new kept grown low =
    subst (λ (z : List Automaton). read z kept ≡ read pool kept) (sym grown)
    (ap (λ (xs : List Automaton). record { autos = xs; vars = kept.vars; data_vars = kept.data_vars })
    (autos_stay pool more kept.parts low))

pub kept_grown : (pool more new : List Automaton) (kept : Kept) → new ≡ pool ++ more → IsKeptIn pool kept
    → IsKeptIn new kept
kept_grown pool more new kept grown low =
    subst (λ (z : List Automaton). IsKeptIn z kept) (sym grown) (low_stay pool more kept.parts low)

-- the first that covers

abbrev no_face : Face
no_face = record { shapes = record { structs = [] }; boxes = [] }

module _ (pool : List Automaton) where
  -- a kept forest as a node
  abbrev sound_as : Kept → SoundForest
  sound_as kept = record { forest = read pool kept; face = no_face; signatures = [] }

  all_read : (group : List Kept) → Every (IsKeptIn pool) group
      → Paired (λ kept node. ReadsAs pool kept node.forest) group (map sound_as group)
  all_read [] low = tt
  all_read (k ∷ group) low = (reads pool k low.0, all_read group low.1)

  at_mapped : (group : List Kept) (i : ℕ) (node : SoundForest) → slice_get (map sound_as group) i ≡ Some node
      → (wide : Kept) × IsIn wide group × (sound_as wide ≡ node)
  at_mapped [] i node is = absurd (none-some node is)
  at_mapped (k ∷ group) zero node is = (k, inl refl, same_Some (sound_as k) node is)
  at_mapped (k ∷ group) (suc i) node is =
      let r = at_mapped group i node is in (r.0, inr r.1, r.2)

  none_in : (group : List Kept) (narrow : Kept)
      → Every (λ node. Covers node.forest (read pool narrow) → ⊥) (map sound_as group)
      → IsCoveredBy pool group narrow false
  none_in [] narrow none wide i c = absurd i
  none_in (k ∷ group) narrow none wide (inl same) c =
      none.0 (subst (λ (x : Kept). Covers (read pool x) (read pool narrow)) same c)
  none_in (k ∷ group) narrow none wide (inr i) c = none_in group narrow none.1 wide i c

  found_covers : (group : List Kept) (narrow : Kept) (found : Option ℕ)
      → FirstCover (map sound_as group) (read pool narrow) found → IsCoveredBy pool group narrow (is_some found)
  found_covers group narrow None none = none_in group narrow none
  found_covers group narrow (Some i) first =
      let r = at_mapped group i first.0 first.1 in (
        r.0,
        r.1,
        subst (λ (x : SoundForest). Covers x.forest (read pool narrow)) (sym r.2) first.2,
      )

  -- what the first that covers says of the group
  pub first_covers : (group : List Kept) (narrow : Kept) (found : Option ℕ) (b : Bool)
      → Every (IsKeptIn pool) group → IsKeptIn pool narrow
      → ((all : List SoundForest) (F : Forest) → Paired (λ kept node. ReadsAs pool kept node.forest) group all
      → ReadsAs pool narrow F → FirstCover all F found)
      → b ≡ is_some found → IsCoveredBy pool group narrow b
  first_covers group narrow found b low own first is =
      subst (IsCoveredBy pool group narrow) (sym is)
      (found_covers group narrow found
      (first (map sound_as group) (read pool narrow) (all_read group low) (reads pool narrow own)))
