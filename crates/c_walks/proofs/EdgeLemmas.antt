-- What edges find in cells and structs.
use Rattle.std.proofs.Common.{◌≡◌, ◌+◌, ℕ, suc, zero, ◌<◌, ◌≤◌, length, arith, slice_index_or, Bool}
use Rattle.std.proofs.Common.{Option, Some, None, Result, Ok, Err, IfOk, List, [], ◌∷◌, drop, get_or, slice_get, refl}
use Rattle.std.proofs.Common.{ap, ◌∙◌}
use Rattle.std.proofs.lemmas.Option.{slice_get_past}
use Rattle.fore_base.specs.declared.shape.Shape.{Shape}
use Rattle.fore_base.specs.declared.store.CellRec.{CellRec}
use Rattle.fore_base.specs.Shapes.{targets_in, fields_at}
use Rattle.fore_base.proofs.ShapeLemmas.{targets_there}
use Rattle.c_types.specs.declared.outcome.Outcome.{Outcome}
use Rattle.c_types.specs.declared.outcome.Outcome.TheVariants.{Ended}
use Rattle.c_types.specs.Runs.{supply, empty_store}
use Rattle.fore_base.specs.declared.store.Store.{Store}
use Rattle.c_cfg.specs.declared.graph.Edge.{Edge}
use Rattle.c_cfg.specs.Graphs.{ControlGraph, has_choice}
use Rattle.c_cfg.specs.Edges.{field_of, datum_field_of, struct_of, target_of}
use Rattle.c_cfg.specs.GraphRuns.{out_of, unless_left, at_location, first_pass, leave, ggo, grun}
use Rattle.c_walks.specs.inner.Outgoing.{asked, or_rest, rest_of}
use Rattle.c_heap.proofs.CellLemmas.{Position, look_some, look_none}

-- The cell of a number

pub field_some : (n f i : ℕ) (cs : List CellRec) (d : CellRec) → Position n cs (Some i) → field_of cs n f
    ≡ slice_get (get_or cs i d).fields f
field_some n f = look_some n (λ (c : CellRec). slice_get c.fields f) None (λ (cs : List CellRec). field_of cs n f) refl
    (λ c cs. refl)

pub field_none : (n f : ℕ) (cs : List CellRec) → Position n cs None → field_of cs n f ≡ None
field_none n f = look_none n (λ (c : CellRec). slice_get c.fields f) None (λ (cs : List CellRec). field_of cs n f) refl
    (λ c cs. refl)

pub datum_some : (n f i : ℕ) (cs : List CellRec) (d : CellRec) → Position n cs (Some i) → datum_field_of cs n f
    ≡ slice_get (get_or cs i d).datums f
datum_some n f = look_some n (λ (c : CellRec). slice_get c.datums f) None
    (λ (cs : List CellRec). datum_field_of cs n f) refl (λ c cs. refl)

pub datum_none : (n f : ℕ) (cs : List CellRec) → Position n cs None → datum_field_of cs n f ≡ None
datum_none n f = look_none n (λ (c : CellRec). slice_get c.datums f) None
    (λ (cs : List CellRec). datum_field_of cs n f) refl (λ c cs. refl)

pub struct_some : (n i : ℕ) (cs : List CellRec) (d : CellRec) → Position n cs (Some i)
    → struct_of cs n ≡ Some (get_or cs i d).shape
struct_some n = look_some n (λ (c : CellRec). Some c.shape) None (λ (cs : List CellRec). struct_of cs n) refl
    (λ c cs. refl)

pub struct_none : (n : ℕ) (cs : List CellRec) → Position n cs None → struct_of cs n ≡ None
struct_none n = look_none n (λ (c : CellRec). Some c.shape) None (λ (cs : List CellRec). struct_of cs n) refl
    (λ c cs. refl)

-- Items

pub item-there : {X : Type 0} (xs : List X) (i : ℕ) (d : X) → i < length xs
    → slice_get xs i ≡ Some (slice_index_or xs i d)
item-there [] i d h = absurd (omega (arith, h))
item-there (x ∷ xs) zero d h = refl
item-there (x ∷ xs) (suc i) d h = item-there xs i d (omega (arith, h))

pub item-past : {X : Type 0} (xs : List X) (i : ℕ) → length xs ≤ i → slice_get xs i ≡ None
item-past = slice_get_past

pub ruleset items = (item-there, item-past)

-- Structs

pub target-there : (shapes : List Shape) (shape field : ℕ) → target_of shapes (Some shape) field
    ≡ slice_get (targets_in (fields_at shapes shape)) field
target-there shapes shape field = ap (λ ts. slice_get ts field) (targets_there shapes shape)

pub ruleset targets = (target-there)

-- The edges of a location

pub leave_none : (shapes : List Shape) (es : List Edge) (next : ℕ → ℕ → Store → List ℕ → ℕ → Outcome) (step : ℕ)
    (s : Store) (cs : List ℕ) (used : ℕ) → asked es ≡ None → leave shapes es next step s cs used ≡ Ended step
leave_none shapes [] next step s cs used e = refl
leave_none shapes (d ∷ ds) next step s cs used e = cc

pub leave_asked : (shapes : List Shape) (es : List Edge) (next : ℕ → ℕ → Store → List ℕ → ℕ → Outcome) (step : ℕ)
    (s : Store) (cs : List ℕ) (used : ℕ) (b : Bool) → asked es ≡ Some b
    → leave shapes es next step s cs used
    ≡ supply b cs (step + 1) used (λ x ds u. first_pass shapes es x (λ k t. next (step + 1) k t ds u) (step + 1) s)
leave_asked shapes [] next step s cs used b e = cc
leave_asked shapes (d ∷ ds) next step s cs used b e =
    ap
    (λ z. supply z cs (step + 1) used
    (λ x vs u. first_pass shapes (d ∷ ds) x (λ k t. next (step + 1) k t vs u) (step + 1) s)) (same d e)
  where
    same : (d : Edge) → asked (d ∷ ds) ≡ Some b → has_choice d.choice ≡ b
    same d e = cc

pub left_none : (es : List Edge) (step : ℕ) (o : Outcome) → asked es ≡ None → unless_left es step o ≡ Ended step
left_none [] step o e = refl
left_none (d ∷ ds) step o e = cc

pub left_some : (es : List Edge) (step : ℕ) (o : Outcome) (b : Bool) → asked es ≡ Some b → unless_left es step o ≡ o
left_some [] step o b e = cc
left_some (d ∷ ds) step o b e = refl

-- Runs

pub run_rest : (g : ControlGraph) (cs : List ℕ) (limit left : ℕ) (h : Store) → left ≡ limit
    → h ≡ empty_store g.ptrs g.datums → grun g cs limit ≡ rest_of g left 0 0 h cs 0
unfolding grun
run_rest g cs limit left h e f = rw (e, f) refl

-- one edge more

pub ok_more : {A E : Type 0} (P Q : A → Type 0) (r : Result A E) → ((a : A) → P a → Q a) → IfOk r P → IfOk r Q
ok_more P Q (Ok a) f h = f a h
ok_more P Q (Err e) f h = tt

pub one_more : (g : ControlGraph) (cs : List ℕ) (left step k : ℕ) (s : Store) (used : ℕ) (b : Bool) (x later k' : ℕ)
    (s' : Store) (o : Option Outcome) → asked (out_of g.edges k) ≡ Some b
    → ((next : ℕ → List ℕ → ℕ → Outcome) → supply b (drop used cs) (step + 1) used next ≡ next x (drop later cs) later)
    → ((next : ℕ → Store → Outcome) → first_pass g.shapes.structs (out_of g.edges k) x next (step + 1) s
    ≡ or_rest o (next k' s'))
    → rest_of g (suc left) step k s cs used ≡ or_rest o (rest_of g left (step + 1) k' s' cs later)
one_more g cs left step k s used b x later k' s' o is given leads =
    let rest : ℕ → ℕ → Store → List ℕ → ℕ → Outcome =
    λ step' j t ds u. ggo g.shapes.structs g.edges (at_location g.edges) left step' j t ds u in
    leave_asked g.shapes.structs (out_of g.edges k) rest step s (drop used cs) used b is
    ∙ given (λ y ds u. first_pass g.shapes.structs (out_of g.edges k) y (λ j t. rest (step + 1) j t ds u) (step + 1) s)
    ∙ leads (λ j t. rest (step + 1) j t (drop later cs) later)
