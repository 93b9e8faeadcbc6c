-- What a table says of the inside of one of its boxes, and a sound forest of its references.
use Rattle.std.proofs.Common.{◌≡◌, ℕ, zero, suc, ◌<◌, length, List, [], ◌∷◌, sym, subst, ◌∙◌, Some, arith}
use Rattle.std.proofs.lemmas.Option.{none-some, same_Some}
use Rattle.fore_base.specs.Lists.{IsIn, Every}
use Rattle.fore_base.proofs.ListLemmas.{in_every}
use Rattle.ta_core.specs.Auto.{Automaton, IsRanked}
use Rattle.fa_core.specs.declared.boxes.BoxDef.{BoxDef}
use Rattle.fa_core.specs.declared.forest.Forest.{Forest}
use Rattle.fa_core.specs.declared.forest.Target.{Target}
use Rattle.fa_core.specs.Boxes.{Boxes, IsBoxTable}
use Rattle.fa_core.specs.Dressed.{Nodes, no_nodes, more}
use Rattle.fa_core.specs.Filled.{IsRoot}
use Rattle.fa_core.specs.Member.{TreesOf, inside_of}
use Rattle.fa_back.specs.Insides.{AreRankedInsides}
use Rattle.fa_back.proofs.Dressable.{tables_dressed}
use Rattle.fa_split.proofs.SplitCells.{RefersWell}
use Rattle.fa_unfold.proofs.LinkUnfoldings.{IsDressable}

pub ranked_inside : (T : List BoxDef) (b : ℕ) (autos : List Automaton) → AreRankedInsides T → inside_of T b ≡ Some autos
    → Every IsRanked autos
ranked_inside [] b autos r e = absurd (none-some autos e)
ranked_inside (x ∷ T) zero autos r e = subst (Every IsRanked) (same_Some x.inside.autos autos e) r.0
ranked_inside (x ∷ T) (suc b) autos r e = ranked_inside T b autos r.1 e

box_there : (T : List BoxDef) (b : ℕ) (autos : List Automaton) → inside_of T b ≡ Some autos → b < length T
box_there [] b autos e = absurd (none-some autos e)
box_there (x ∷ T) zero autos e = omega arith
box_there (x ∷ T) (suc b) autos e = let k = box_there T b autos e in omega (arith, k)

-- the second component of an inside has a tree
pub output_dressed : (t : Boxes) → IsBoxTable t → AreRankedInsides t.defs → (b : ℕ) (input output : Automaton)
    (inner : List Automaton) → inside_of t.defs b ≡ Some (input ∷ (output ∷ inner)) → IsDressable t.defs output
output_dressed t table r b input output inner e =
    let h = tables_dressed t.face.shapes t.defs table.sound r b (box_there t.defs b (input ∷ (output ∷ inner)) e) in
    told h.0
    (subst (λ (v : List Automaton). TreesOf t.defs v h.0) (same_Some h.1 (input ∷ (output ∷ inner)) (sym h.2 ∙ e)) h.3)
  where
    told : (d : Nodes) → TreesOf t.defs (input ∷ (output ∷ inner)) d → IsDressable t.defs output
    told no_nodes h = absurd h
    told (more n no_nodes) h = absurd h.2
    told (more n (more m ns)) h = (m, h.2.0, h.2.1)

-- the targets of a sound forest name roots that are there
pub vars_there : (F : Forest) → RefersWell F → Every (IsRoot (length F.autos)) F.vars
vars_there F w = in_every (IsRoot (length F.autos)) F.vars
    (λ x i r e. w.vars r (subst (λ (v : Target). IsIn v F.vars) e i))
