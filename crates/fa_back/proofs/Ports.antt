-- An inside as a forest of its own, whose first roots carry the numbers of the ports: what is reached in it by facts is
-- what is reached by references and ways back.
use Rattle.std.proofs.Common.{◌≡◌, inl, inr, ℕ, List, [], ◌∷◌, ◌++◌, sym, subst}
use Rattle.std.proofs.Common.{Some}
use Rattle.fore_base.specs.Lists.{IsIn, IsDistinct}
use Rattle.fore_base.specs.declared.store.Datum.{Datum}
use Rattle.fore_base.specs.declared.store.Value.{Value}
use Rattle.fore_base.specs.declared.store.Value.TheVariants.{Cell}
use Rattle.fore_base.proofs.ListLemmas.{in_append, in_right}
use Rattle.ta_core.specs.Auto.{Automaton}
use Rattle.fa_core.specs.declared.boxes.BoxDef.{BoxDef}
use Rattle.fa_core.specs.declared.faces.BoxFace.{BoxFace}
use Rattle.fa_core.specs.declared.forest.Target.TheVariants.{At}
use Rattle.fa_core.specs.Boxes.{Reaches, named, through, head_of, heads}
use Rattle.fa_core.specs.Choices.{bares}
use Rattle.fa_core.specs.Dressed.{Node, Parts, Nodes, node, more, Fact, Head, Points, facts}
use Rattle.fa_core.specs.Dressed.{slot_facts, forest_facts, nth_value, roots_of, inside_facts}
use Rattle.fa_core.specs.Member.{TreesOf}
use Rattle.fa_core.specs.Rearranged.{Rearranged, keep}
use Rattle.fa_core.proofs.Permuted.{in_rearranged, distinct_moved}
use Rattle.fa_core.proofs.Rearranging.{back, middle, flat_mapped, same}
use Rattle.fa_back.specs.Reached.{RootReached}
use Rattle.fa_back.specs.Reached.{node_at}
use Rattle.fa_back.proofs.CellsReached.{met_reached, reached_met, all_reached}
use Rattle.fa_back.proofs.EdgesWorth.{TableKnown, AllFit, forest_sound}
use Rattle.fa_back.proofs.FactParts.{IsPointer}

-- more facts, more is reached
pub moved : (vars : List Value) (fs gs : List Fact) (n : ℕ)
    → ((m f k : ℕ) → IsIn (Points m f (Cell k)) fs → IsIn (Points m f (Cell k)) gs) → Reaches vars fs n
    → Reaches vars gs n
moved vars fs gs n all (named i) = named i
moved vars fs gs n all (through m f h i) = through m f (moved vars fs gs m all h) (all m f n i)

-- the facts are heads
abbrev pub AreHeads : List Fact → Type 0
AreHeads fs = (m f n : ℕ) → IsIn (Points m f (Cell n)) fs → ⊥

module _ (bs : List BoxFace) (T : List BoxDef) (known : TableKnown bs T) (autos : List Automaton) (own : Nodes)
    (first inside : List Fact) (kept : Rearranged (facts own) (first ++ inside)) (plain : AreHeads first)
    (of : TreesOf T autos own) (fit : AllFit bs (roots_of own) own) where
  drop : (k f n : ℕ) → IsIn (Points k f (Cell n)) (facts own) → IsIn (Points k f (Cell n)) inside
  drop k f n i = elim (in_append (Points k f (Cell n)) first inside (in_rearranged (Points k f (Cell n)) kept i)) [
    | inl j ↦ absurd (plain k f n j)
    | inr j ↦ j
  ]

  raise : (k f n : ℕ) → IsIn (Points k f (Cell n)) inside → IsIn (Points k f (Cell n)) (facts own)
  raise k f n i = in_rearranged (Points k f (Cell n)) (back kept) (in_right (Points k f (Cell n)) first inside i)

  module _ (i a : ℕ) (from : nth_value (roots_of own) i ≡ Cell a) where
    -- a root that is met from another is reached from it
    pub up_of_met : (r b : ℕ) → nth_value (roots_of own) r ≡ Cell b → RootReached bs (At i ∷ []) (bares own) r
        → Reaches (Cell a ∷ []) inside b
    up_of_met r b e h =
        let start : Reaches (nth_value (roots_of own) i ∷ []) (facts own) b =
        met_reached bs (At i ∷ []) own (forest_sound bs T known (roots_of own) autos own of fit) r b h e in
        moved (Cell a ∷ []) (facts own) inside b drop
        (subst (λ (v : Value). Reaches (v ∷ []) (facts own) b) from start)

    -- where each root is met, all is reached
    pub all_of_met : ((r : ℕ) (x : Node) → node_at own r ≡ Some x → RootReached bs (At i ∷ []) (bares own) r)
        → (n : ℕ) → IsIn n (heads (first ++ inside)) → Reaches (Cell a ∷ []) inside n
    all_of_met met n h =
        let start : Reaches (nth_value (roots_of own) i ∷ []) (facts own) n =
        all_reached bs (At i ∷ []) own (forest_sound bs T known (roots_of own) autos own of fit) met n
        (in_rearranged n (back (flat_mapped head_of kept)) h) in
        moved (Cell a ∷ []) (facts own) inside n drop
        (subst (λ (v : Value). Reaches (v ∷ []) (facts own) n) from start)

    -- a root that is reached from another is met from it, where all cells differ
    pub met_of_up : IsDistinct (heads (first ++ inside)) → (r b : ℕ) → nth_value (roots_of own) r ≡ Cell b
        → Reaches (Cell a ∷ []) inside b → RootReached bs (At i ∷ []) (bares own) r
    met_of_up differ r b e h =
        reached_met bs (At i ∷ []) own (forest_sound bs T known (roots_of own) autos own of fit)
        (distinct_moved (back (flat_mapped head_of kept)) differ) r b
        (subst (λ (v : Value). Reaches (v ∷ []) (facts own) b) (sym from)
        (moved (Cell a ∷ []) inside (facts own) b raise h)) e

-- the heads of the ports
abbrev pub one_head : ℕ → ℕ → List Datum → List Fact
one_head c s ds = Head c s ds ∷ []

abbrev pub two_heads : ℕ → ℕ → List Datum → ℕ → ℕ → List Datum → List Fact
two_heads c s ds m t es = Head c s ds ∷ (Head m t es ∷ [])

pub one_plain : (c s : ℕ) (ds : List Datum) → AreHeads (one_head c s ds)
one_plain c s ds m f n (inl e) = subst IsPointer e tt
one_plain c s ds m f n (inr i) = i

pub two_plain : (c s : ℕ) (ds : List Datum) (m t : ℕ) (es : List Datum) → AreHeads (two_heads c s ds m t es)
two_plain c s ds m t es k f n (inl e) = subst IsPointer e tt
two_plain c s ds m t es k f n (inr (inl e)) = subst IsPointer e tt
two_plain c s ds m t es k f n (inr (inr i)) = i

-- the inside of a box without an output, and that of one with
pub one_kept : (a c s : ℕ) (ds : List Datum) (ps : Parts) (ns : Nodes) → Rearranged (facts (more (node c s ds ps) ns))
    (one_head c s ds ++ inside_facts (Cell c ∷ []) (more (node a s ds ps) ns))
one_kept a c s ds ps ns = same (facts (more (node c s ds ps) ns))

pub two_kept : (a b c m s t : ℕ) (ds es : List Datum) (ps qs : Parts) (ns : Nodes)
    → Rearranged (facts (more (node c s ds ps) (more (node m t es qs) ns)))
    (two_heads c s ds m t es
    ++ inside_facts (Cell c ∷ (Cell m ∷ [])) (more (node a s ds ps) (more (node b t es qs) ns)))
two_kept a b c m s t ds es ps qs ns =
    keep (Head c s ds)
    (middle (slot_facts (Cell c ∷ (Cell m ∷ roots_of ns)) c ps) (Head m t es)
    (slot_facts (Cell c ∷ (Cell m ∷ roots_of ns)) m qs ++ forest_facts (Cell c ∷ (Cell m ∷ roots_of ns)) [] ns))
