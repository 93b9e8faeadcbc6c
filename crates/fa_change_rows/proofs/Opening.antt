-- What a box edge opens into, and which forests those are in which one is replaced. Box 0 is a field from the input to
-- the output.
use Rattle.std.proofs.Common.{◌≡◌, [], ◌∷◌, refl, sym, ap, subst, arith, Option, Some, None}
use Rattle.std.proofs.Common.{slice_get}
use Rattle.std.proofs.lemmas.List.{length-append}
use Rattle.std.proofs.lemmas.Option.{none-some}
use Rattle.fore_base.specs.declared.store.Value.TheVariants.{Dangling as DanglingValue}
use Rattle.fa_core.specs.declared.forest.Forest.{Forest}
use Rattle.fa_core.specs.declared.forest.Target.TheVariants.{Dangling as DanglingTarget, At}
use Rattle.fa_core.specs.Dressed.{Node, Nodes, Parts, node, no_parts, field, link, leaf, no_nodes, more}
use Rattle.fa_core.specs.Dressed.{SeenField, SeenLink}
use Rattle.fa_core.specs.Member.{OfForest}
use Rattle.fa_core.specs.Rearranged.{swap}
use Rattle.fa_core.proofs.Rearranging.{long_same}
use Rattle.fa_core.proofs.RowsForests.{bare_cell, bare_runs}
use Rattle.fa_unfold.specs.Opens.{Item, IsCell, HasSlot, Opens}
use Rattle.fa_unfold.specs.Parts.{listed}
use Rattle.fa_unfold.specs.Unfolded.{UnfoldsInto}

-- Opens.

abbrev inside : Nodes
inside = more (node 8 0 [] (field 0 (leaf (At 1)) no_parts)) (more (node 9 0 [] no_parts) no_nodes)

-- cell 3 with an edge that dangles, and with the field that it stands for
abbrev with_edge : Nodes
with_edge = more (node 3 0 [] (link 0 inside (leaf DanglingTarget) no_parts)) no_nodes

abbrev with_field : Nodes
with_field = more (node 3 0 [] (field 0 (leaf DanglingTarget) no_parts)) no_nodes

abbrev edge : Item
edge = HasSlot 3 (SeenLink 0 inside DanglingValue)

into_its_field : Opens edge with_edge with_field
into_its_field = record {
  others = IsCell 3 0 [] ∷ [];
  gained = HasSlot 3 (SeenField 0 DanglingValue) ∷ [];
  before = swap _ _ [];
  after = swap _ _ [];
  same = refl;
  inner = λ b i. i;
}

-- the item must be there, and what is beside it stays
of_nothing : (x : Item) (e : Nodes) → Opens x no_nodes e → ⊥
of_nothing x e h = let l = long_same h.before in omega (arith, l)

loses_the_cell : (x : Item) → Opens x with_edge no_nodes → ⊥
loses_the_cell x h =
    let b = long_same h.before in
    let a = long_same h.after in
    let l = length-append h.gained h.others in
    omega (arith, a, b, l)

-- UnfoldsInto.

-- one cell without slots
abbrev one : Forest
one = record { autos = bare_cell ∷ []; vars = []; data_vars = [] }

abbrev cell_5 : Nodes
cell_5 = more (node 5 0 [] no_parts) no_nodes

of_one : OfForest [] one cell_5
of_one = (bare_runs, tt, tt)

-- a dressed forest is lost where there is no forest
into_none : UnfoldsInto [] one 0 0 [] → ⊥
into_none h = (h cell_5 of_one).1

abbrev parts_at : Option Node → Parts
parts_at None = no_parts
parts_at (Some (node c s ds ps)) = ps

-- there must be an edge: not where the cell has no such slot, nor where the root is not there
no_slot_there : UnfoldsInto [] one 0 0 (one ∷ []) → ⊥
no_slot_there h =
    let at = (h cell_5 of_one).2.2.at in
    none-some at.part (subst (λ (ps : Parts). slice_get (listed ps) 0 ≡ Some at.part) (ap parts_at (sym at.at)) at.has)

no_root_there : UnfoldsInto [] one 1 0 (one ∷ []) → ⊥
no_root_there h = none-some _ (h cell_5 of_one).2.2.at.at
