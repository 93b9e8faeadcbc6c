-- The lines with names that stand for nothing, by what they break. A line that breaks both rules breaks B2.
use Rattle.std.specs.Prelude.{ℕ, suc, Bool, true, false, ◌&&◌, ◌||◌, not, List, [], ◌∷◌, ◌++◌, map, cond, nat_eq}
use Rattle.std.specs.Prelude.{nat_lt}
use Rattle.std.specs.Prelude.{slice_get, Option, Some, None}
use Rattle.std.specs.Cmp.Lexicographic.{pointwise}
use Rattle.std.specs.List.{list_all}
use Rattle.fore_base.specs.declared.limits.TheConstants.{BOXES}
use Rattle.fa_core.specs.Ways.{has}
use Rattle.fa_lines.specs.declared.line.DatumText.{DatumText}
use Rattle.fa_lines.specs.declared.line.SlotText.{SlotText}
use Rattle.fa_lines.specs.declared.line.SlotText.TheVariants.{Field, Link, Hook}
use Rattle.fa_lines.specs.declared.line.Term.{Term}
use Rattle.fa_lines.specs.declared.line.Term.TheVariants.{Null, Uninit, Dangling, Ref, Cell}
use Rattle.fa_written.specs.Forms.{port_count}
use Rattle.fa_written.specs.declared.draft.RuleDraft.{RuleDraft}
use Rattle.fa_written.specs.declared.draft.PartDraft.{PartDraft}
use Rattle.fa_written.specs.declared.draft.Head.{Head}
use Rattle.fa_written.specs.declared.draft.BoxDraft.{BoxDraft}
use Rattle.fa_named.specs.Places.{Texts, place, is_there}
use Rattle.fa_named.specs.Earlier.{with_box}
use Rattle.fa_named.specs.Insides.{below_rules}
use Rattle.fa_named.specs.declared.fault.NameFault.{NameFault}
use Rattle.fa_named.specs.declared.fault.NameFault.TheVariants.{K6, B2, B3}
use Rattle.fa_named.specs.declared.named.Boxes.{Boxes}
use Rattle.fa_named.specs.declared.named.Fields.{Fields}
use Rattle.fa_named.specs.declared.named.Known.{Known}

-- B2 on a rule's line.

-- a slot that is no edge of a box is a pointer field of the struct
abbrev pub is_field : Texts → SlotText → Bool
is_field pointers (Field name q) = is_there name pointers
is_field pointers (Link name q) = true
is_field pointers (Hook name) = true

abbrev pub is_none : {X : Type 0} → List X → Bool
is_none [] = true
is_none (x ∷ xs) = false

-- the data are these, in their order
abbrev pub are_data : Texts → List DatumText → Bool
are_data names ds = pointwise (pointwise nat_eq) (map (λ d. d.name) ds) names

-- a port's cell has no data, and another cell those of its struct; where a state is both, both
abbrev pub data_fit : Bool → Bool → List DatumText → Texts → Bool
data_fit top inner ds names = (not top || is_none ds) && (not inner || are_data names ds)

-- B3 on a rule's line.

-- there is such a box, which has an output or has none, as is asked
abbrev pub says : Bool → Option Bool → Bool
says output None = false
says output (Some has_one) = cond output has_one (not has_one)

-- an edge of a box names an earlier box, and has a state where the box has an output
abbrev pub is_formed : Boxes → SlotText → Bool
is_formed boxes (Field name q) = true
is_formed boxes (Link name q) = says true (slice_get boxes.outputs (place name boxes.names))
is_formed boxes (Hook name) = says false (slice_get boxes.outputs (place name boxes.names))

-- The lines of rules. A state is top where it is a root state of a port, inner where it is none or stands below a cell.

abbrev pub cell_faults : ℕ → Option Fields → Boxes → Bool → Bool → List DatumText → List SlotText → List NameFault
cell_faults line None boxes top inner ds slots = B2 line ∷ []
cell_faults line (Some f) boxes top inner ds slots =
    cond (list_all (is_field f.pointers) slots && data_fit top inner ds f.datums)
    (cond (list_all (is_formed boxes) slots) [] (B3 line ∷ [])) (B2 line ∷ [])

abbrev pub term_faults : ℕ → Known → Boxes → Bool → Bool → Term → List NameFault
term_faults line known boxes top inner Null = []
term_faults line known boxes top inner Uninit = []
term_faults line known boxes top inner Dangling = []
term_faults line known boxes top inner (Ref r) = []
term_faults line known boxes top inner (Cell shape ds slots) =
    cell_faults line (slice_get known.fields (place shape known.names)) boxes top inner ds slots

abbrev pub rules_faults : Known → Boxes → (ℕ → Bool) → (ℕ → Bool) → List RuleDraft → List NameFault
rules_faults known boxes is_top is_below [] = []
rules_faults known boxes is_top is_below (r ∷ rs) =
    term_faults r.line known boxes (is_top r.state) (not (is_top r.state) || is_below r.state) r.term
    ++ rules_faults known boxes is_top is_below rs

abbrev pub part_faults : Known → Boxes → Bool → PartDraft → List NameFault
part_faults known boxes port p =
    rules_faults known boxes (λ q. port && has q p.roots) (λ q. has q (below_rules p.rules)) p.rules

-- the first of the components has number k; those of numbers below n are ports
abbrev pub parts_faults : Known → Boxes → ℕ → ℕ → List PartDraft → List NameFault
parts_faults known boxes n k [] = []
parts_faults known boxes n k (p ∷ ps) = part_faults known boxes (nat_lt k n) p ++ parts_faults known boxes n (suc k) ps

-- The lines of boxes.

abbrev pub is_output : Texts → Option (List ℕ) → Bool
is_output names None = true
is_output names (Some name) = is_there name names

-- the structs of the ports are there, and no earlier box has the name
abbrev pub head_faults : Known → Boxes → Head → List NameFault
head_faults known boxes h =
    cond (is_there h.input known.names && is_output known.names h.output)
    (cond (is_there h.name boxes.names) (B3 h.line ∷ []) []) (B2 h.line ∷ [])

abbrev pub box_faults : Known → Boxes → BoxDraft → List NameFault
box_faults known boxes b =
    head_faults known boxes b.head ++ parts_faults known boxes (port_count b.head.output) 0 b.parts

-- line by line, each box over those before it
abbrev pub file_faults : Known → Boxes → List BoxDraft → List NameFault
file_faults known boxes [] = []
file_faults known boxes (b ∷ bs) = box_faults known boxes b ++ file_faults known (with_box boxes b.head) bs

abbrev pub limit_at : Option BoxDraft → List NameFault
limit_at None = []
limit_at (Some b) = K6 b.head.line ∷ []

-- the 33rd box comes first
abbrev pub limit_faults : List BoxDraft → List NameFault
limit_faults bs = limit_at (slice_get bs BOXES)
