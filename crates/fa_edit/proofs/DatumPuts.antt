-- The forest with another datum in a data field of a root: its dressed forests are those with that datum there.
use Rattle.std.proofs.Common.{◌≡◌, ℕ, zero, suc, ◌<◌, length, List, [], ◌∷◌, refl, sym, ap, subst, ◌∙◌, slice_get}
use Rattle.std.proofs.Common.{Option, Some, None, MatchOption, arith}
use Rattle.std.proofs.lemmas.Option.{same_Some}
use Rattle.fore_base.specs.Lists.{Every}
use Rattle.fore_base.specs.declared.store.Datum.{Datum}
use Rattle.ta_core.specs.Auto.{Automaton, IsRanked}
use Rattle.ta_core.specs.Language.{InLanguage}
use Rattle.ta_core.specs.Single.{HasOneTop}
use Rattle.fa_core.specs.declared.boxes.BoxDef.{BoxDef}
use Rattle.fa_core.specs.declared.forest.Forest.{Forest}
use Rattle.fa_core.specs.Dressed.{Node, Nodes, node}
use Rattle.fa_core.specs.Member.{OfForest, InsidesOf, bare}
use Rattle.fa_edit.specs.Data.{AllHaveDatum, AllLackDatum, HasDatum, IsDatumPut, datum_put, datums_at, symbol_datums}
use Rattle.fa_edit.specs.Data.{top_datums, with_datum}
use Rattle.fa_edit.specs.inner.Edited.{dated, dated_at}
use Rattle.fa_edit.proofs.ChangedRoots.{put_forth, put_back}
use Rattle.fa_edit.proofs.DatumTrees.{datums_top, put_dated, dated_has, from_dated}
use Rattle.fa_sound.specs.Components.{component_at}
use Rattle.fa_merge.proofs.PlacedForests.{component_has}
use Rattle.fa_split.proofs.OtherComponent.{tree_at, tree_in}
use Rattle.fa_split.proofs.TopRules.{tree_by_top}

datum_insides : (T : List BoxDef) (f : ℕ) (z : Datum) (n : Node) → InsidesOf T n → InsidesOf T (with_datum f z n)
datum_insides T f z (node c s ds ps) h = h

-- an item in range is there
pub there_at : {X : Type 0} (xs : List X) (i : ℕ) → i < length xs → (x : X) × (slice_get xs i ≡ Some x)
there_at [] i l = absurd (omega (arith, l))
there_at (x ∷ xs) zero l = (x, refl)
there_at (x ∷ xs) (suc i) l = there_at xs i (omega (arith, l))

module _ (F : Forest) (r f : ℕ) (root : r < length F.autos) (one : HasOneTop (component_at F.autos r)) where
  abbrev a : Automaton
  a = component_at F.autos r

  -- each tree has the data of the one rule
  data_are : (n : Node) → InLanguage a (bare n) → datums_at F r ≡ top_datums n
  data_are n l = ap symbol_datums (tree_by_top a one (bare n) l).0 ∙ datums_top n

  pub data_have : (y : Datum) → slice_get (datums_at F r) f ≡ Some y → (T : List BoxDef) → AllHaveDatum T F r f y
  data_have y e T d o =
      (let n = tree_at T F.autos r d root o in
      (n.0, n.1, subst (λ (ds : List Datum). slice_get ds f ≡ Some y) (data_are n.0 n.2) e))

  pub data_lack : slice_get (datums_at F r) f ≡ None → (T : List BoxDef) → AllLackDatum T F r f
  data_lack e T d o =
      (let n = tree_at T F.autos r d root o in
      (n.0, n.1, subst (λ (ds : List Datum). slice_get ds f ≡ None) (data_are n.0 n.2) e))

  -- what is read of the one rule, each dressed forest has
  pub data_held : (o : Option Datum) → o ≡ slice_get (datums_at F r) f
      → MatchOption o ((T : List BoxDef) → AllLackDatum T F r f) (λ y. (T : List BoxDef) → AllHaveDatum T F r f y)
  data_held None e = data_lack (sym e)
  data_held (Some y) e = data_have y (sym e)

  module _ (ranked : Every IsRanked F.autos) (y : Datum) (is : slice_get (datums_at F r) f ≡ Some y) (z : Datum) where
    abbrev b : Automaton
    b = dated a f z

    abbrev G : Forest
    G = dated_at F r f z

    a_ranked : IsRanked a
    a_ranked = component_has IsRanked F.autos r ranked root

    module _ (T : List BoxDef) where
      forth : (d : Nodes) → OfForest T F d → OfForest T G (datum_put r f z d)
      forth d o =
          let n = tree_at T F.autos r d root o in
          put_forth T F.autos r b (with_datum f z) d n.0 n.1 o (put_dated a a_ranked one f z n.0 n.2)
          (datum_insides T f z n.0 n.3)

      has : AllHaveDatum T G r f z
      has d o = (let n = tree_in T F.autos r b d root o in (n.0, n.1, dated_has a a_ranked one f z y is n.0 n.2))

      back : (d : Nodes) → OfForest T G d → OfForest T F (datum_put r f y d)
      back d o =
          let n = tree_in T F.autos r b d root o in
          put_back T F.autos r b (with_datum f y) d n.0 n.1 root o (from_dated a a_ranked one f z y is n.0 n.2)
          (datum_insides T f y n.0 n.3)

      same_datum : (v : Datum) (d : Nodes) → HasDatum d r f y → HasDatum d r f v → y ≡ v
      same_datum v d (n, e, h) (m, k, j) =
          same_Some y v (sym h ∙ ap (λ (x : Node). slice_get (top_datums x) f) (same_Some n m (sym e ∙ k)) ∙ j)

      -- whichever datum stands there in each dressed forest, it is that of the rule
      pub is_datum_put : (v : Datum) → AllHaveDatum T F r f v → IsDatumPut T F G r f v z
      is_datum_put v old = record {
        vars = refl;
        data_vars = refl;
        old = old;
        forth = forth;
        new = has;
        back = λ d o. (let e = back d o in
            let s : y ≡ v = same_datum v (datum_put r f y d) (data_have y is T (datum_put r f y d) e)
            (old (datum_put r f y d) e) in
            subst (λ (x : Datum). OfForest T F (datum_put r f x d)) s e);
      }
