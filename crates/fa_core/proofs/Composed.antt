-- Regroupings in a row, and languages within languages.
use Rattle.std.proofs.Common.{List, [], ◌∷◌, refl, sym, ◌∙◌}
use Rattle.ta_core.specs.Auto.{Automaton}
use Rattle.fore_base.specs.Lists.{IsIn, Paired}
use Rattle.ta_core.specs.Language.{IsWithin}
use Rattle.fore_base.specs.declared.shape.Shape.{Shape}
use Rattle.fore_base.specs.declared.store.Store.{Store}
use Rattle.fa_core.specs.declared.forest.Forest.{Forest}
use Rattle.fa_core.specs.declared.boxes.BoxDef.{BoxDef}
use Rattle.fa_core.specs.Dressed.{Nodes, no_nodes, more, cells}
use Rattle.fa_core.specs.Rearranged.{chain}
use Rattle.fa_core.specs.Member.{TreesOf, Regroups, RegroupsInto, Regrouping, StandsBy, Stands, bare}
use Rattle.fa_core.specs.Covering.{Covers}
use Rattle.fa_core.proofs.Rearranging.{same}

module _ (T : List BoxDef) (F G H : Forest) where
  pub regrouping_on : (d e f : Nodes) → Regrouping T G H d e → Regrouping T F G e f → Regrouping T F H d f
  regrouping_on d e f a b =
      record {
        of = b.of;
        same_cells = chain a.same_cells b.same_cells;
        vars = a.vars ∙ b.vars;
        data_vars = a.data_vars
            ∙ b.data_vars;
      }

  pub regroups_on : Regroups T F G → Regroups T G H → Regroups T F H
  regroups_on a b d h =
      let k = b d h in
      let l = a k.0 k.1.of in
      (l.0, regrouping_on d k.0 l.0 k.1 l.1)

-- what each forest of a list is regrouped into, in one list
pub split_on : (T : List BoxDef) (F : Forest) (Gs Hs : List Forest) → RegroupsInto T F Gs
    → ((G : Forest) → IsIn G Gs → RegroupsInto T G Hs) → RegroupsInto T F Hs
split_on T F Gs Hs a b d h =
    let k = a d h in
    let l = b k.0 k.1 k.2.0 k.2.1.of in
    (l.0, l.1, (l.2.0, regrouping_on T l.0 k.0 F d k.2.0 l.2.0 k.2.1 l.2.1))

-- a forest is regrouped into itself
pub regroups_same : (T : List BoxDef) (F : Forest) → Regroups T F F
regroups_same T F d h = (d, record { of = h; same_cells = same (cells d); vars = refl; data_vars = refl })

-- the dressed trees of components are those of components with larger languages
pub within_trees : (T : List BoxDef) (xs ys : List Automaton) → Paired IsWithin xs ys → (d : Nodes) → TreesOf T xs d
    → TreesOf T ys d
within_trees T [] [] w d h = h
within_trees T [] (b ∷ bs) w d h = absurd w
within_trees T (a ∷ xs) [] w d h = absurd w
within_trees T (a ∷ xs) (b ∷ bs) w no_nodes h = absurd h
within_trees T (a ∷ xs) (b ∷ bs) w (more n ns) h = (w.0 (bare n) h.0, h.1, within_trees T xs bs w.1 ns h.2)

-- a store for which G stands is one for which a forest that covers it stands, by the same dressed forest
pub covered_by : (hs : List Shape) (T : List BoxDef) (F G : Forest) → Covers F G → (d : Nodes) (s : Store)
    → StandsBy hs T G d s → StandsBy hs T F d s
covered_by hs T F G c d s h =
    record {
      proper = h.proper;
      fields = h.fields;
      of = within_trees T G.autos F.autos c.within d h.of;
      same_facts = h.same_facts;
      vars = rw (sym c.vars) h.vars;
      data_vars = h.data_vars ∙ c.data_vars;
    }

pub covered_members : (hs : List Shape) (T : List BoxDef) (F G : Forest) → Covers F G → (s : Store) → Stands hs T G s
    → Stands hs T F s
covered_members hs T F G c s h = (h.0, covered_by hs T F G c h.0 s h.1)
