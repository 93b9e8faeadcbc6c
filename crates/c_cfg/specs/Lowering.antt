-- When a control graph is one of a program. Only the numbers of locations are free.
use Rattle.std.specs.Prelude.{◌≡◌, ◌≤◌, ◌<◌, ℕ, ◌+◌, List, [], ◌∷◌, ◌++◌, length, map, nat_eq, Bool, true, false}
use Rattle.std.specs.Prelude.{Option, Some, None}
use Rattle.std.specs.List.{list_any}
use Rattle.std.specs.List.Sorted.{IsPermutation}
use Rattle.fore_base.specs.Lists.{Every, IsDistinct}
use Rattle.c_types.specs.declared.mode.MallocMode.{MallocMode}
use Rattle.c_types.specs.declared.program.Act.{Act}
use Rattle.c_types.specs.declared.program.Act.TheVariants.{SetPtr, SetData, Free, Error, Halt, Return, Break, Continue}
use Rattle.c_types.specs.declared.program.Act.TheVariants.{Leave as LeaveAct}
use Rattle.c_types.specs.declared.program.Atom.{Atom}
use Rattle.c_types.specs.declared.program.Atom.TheVariants.{Choice as ChoiceAtom, Known as KnownAtom, Ptr as PtrAtom}
use Rattle.c_types.specs.declared.program.Atom.TheVariants.{Data as DataAtom}
use Rattle.c_types.specs.Program.{Program}
use Rattle.c_types.specs.Control.{Items, Done, Do, Close, If, Loop, Again, DoLoop, DoAgain, Ask, Not, Both, Either}
use Rattle.c_types.specs.Control.{Enter, Leave, Exit, ◌then◌, opened, after_again, from_again, from_exit, start_of}
use Rattle.c_types.specs.Steps.{below, mark_of}
use Rattle.c_cfg.specs.declared.graph.Instr.{Instr}
use Rattle.c_cfg.specs.declared.graph.Instr.TheVariants.{Kill, Choose}
use Rattle.c_cfg.specs.declared.graph.Edge.{Edge}
use Rattle.c_cfg.specs.Graphs.{ControlGraph}
use Rattle.c_cfg.specs.GraphRuns.{out_of}
use Rattle.c_cfg.specs.Links.{Link, One, Two, links_in, act_row, ptr_loads, ptr_test, ptr_ends, cmp_loads, data_test}
use Rattle.c_cfg.specs.Links.{data_ends, enter_row, leave_row, exit_row}
use Rattle.c_cfg.specs.Places.{places, heads, remark}

-- an edge of a line from k, with its choice if it has one
abbrev pub edge : ℕ → ℕ → ℕ → Instr → Option ℕ → Edge
edge line k to i choice = record { from = k; to = to; instr = i; choice = choice; line = line }

-- the edges of a link
abbrev pub link_edges : ℕ → ℕ → ℕ → Link → List Edge
link_edges line k to (One i) = edge line k to i None ∷ []
link_edges line k to (Two i j) = edge line k to i (Some 0) ∷ edge line k to j (Some 1) ∷ []

-- The links lead from k over these locations, of which the last is `to`. Exactly their edges begin at k and on the way.
abbrev pub IsWay : List Edge → ℕ → List Link → ℕ → List ℕ → ℕ → Type 0
IsWay edges line [] k [] to = k ≡ to
IsWay edges line [] k (m ∷ ms) to = ⊥
IsWay edges line (l ∷ ls) k [] to = ⊥
IsWay edges line (l ∷ ls) k (m ∷ ms) to = (out_of edges k ≡ link_edges line k m l) × IsWay edges line ls m ms to

-- the locations between the two ends of a way
abbrev pub but_last : List ℕ → List ℕ
but_last [] = []
but_last (k ∷ []) = []
but_last (k ∷ m ∷ ms) = k ∷ but_last (m ∷ ms)

-- A way whose locations in the middle are `mids`.
pub record IsWayOver (edges : List Edge) (line : ℕ) (links : List Link) (k : ℕ) (mids : List ℕ) (to : ℕ) : Type 0 where
  pub way : List ℕ
  pub leads : IsWay edges line links k way to
  pub middle : mids ≡ but_last way

-- A comparison: the loads from k to `tested`; there the edge for equal, and then the one for not equal; after each of
-- them its own ends.
pub record IsTestRow (edges : List Edge) (line : ℕ) (loads : List Link) (test : Bool → Instr) (ends : List Link) (k : ℕ)
    (mids : List ℕ) (same other : ℕ) : Type 0 where
  pub tested : ℕ
  pub if_same : ℕ
  pub if_other : ℕ
  pub front : List ℕ
  pub after_same : List ℕ
  pub after_other : List ℕ
  pub reads : IsWay edges line loads k front tested
  pub compares : out_of edges tested ≡ edge line tested if_same (test true) None
      ∷ edge line tested if_other (test false) None ∷ []
  pub same_ends : IsWay edges line ends if_same after_same same
  pub other_ends : IsWay edges line ends if_other after_other other
  pub middle : mids ≡ front ++ (but_last (if_same ∷ after_same) ++ but_last (if_other ∷ after_other))

-- what is left after an act; where a run ends, nothing
abbrev pub followed_by : Act → Items → Items
followed_by (SetPtr to from) is = is
followed_by (SetData to from) is = is
followed_by (Free p) is = is
followed_by Error is = Done
followed_by Halt is = Done
followed_by (Return operand) is = Done
followed_by (LeaveAct f value) is = Done
followed_by Break is = after_again is
followed_by Continue is = from_again is

-- Of a program with nv pointer and nd data variables, whose graph has these edges
module _ (nv nd : ℕ) (edges : List Edge) where
  -- the edges of an atom at k whose sides are at `yes'` and `no'`
  abbrev pub IsAtomRow : Atom → ℕ → ℕ → List ℕ → ℕ → ℕ → Type 0
  IsAtomRow ChoiceAtom line k mids yes' no' =
      (out_of edges k ≡ edge line k no' (Choose None) (Some 0) ∷ edge line k yes' (Choose None) (Some 1) ∷ [])
      × (mids ≡ [])
  IsAtomRow (KnownAtom true) line k mids yes' no' = (out_of edges k ≡ edge line k yes' (Kill [] []) None ∷ [])
      × (mids ≡ [])
  IsAtomRow (KnownAtom false) line k mids yes' no' = (out_of edges k ≡ edge line k no' (Kill [] []) None ∷ [])
      × (mids ≡ [])
  IsAtomRow (PtrAtom l r true) line k mids yes' no' =
      IsTestRow edges line (ptr_loads nv nd l r) (ptr_test nv nd l r) (ptr_ends nv nd l r) k mids yes' no'
  IsAtomRow (PtrAtom l r false) line k mids yes' no' =
      IsTestRow edges line (ptr_loads nv nd l r) (ptr_test nv nd l r) (ptr_ends nv nd l r) k mids no' yes'
  IsAtomRow (DataAtom l r true) line k mids yes' no' =
      IsTestRow edges line (cmp_loads nv nd l r) (data_test nv nd l r) (data_ends nv nd l r) k mids yes' no'
  IsAtomRow (DataAtom l r false) line k mids yes' no' =
      IsTestRow edges line (cmp_loads nv nd l r) (data_test nv nd l r) (data_ends nv nd l r) k mids no' yes'

  module _ (mode : MallocMode) (line : ℕ → ℕ) (at : Items → ℕ) (mids : Items → List ℕ) where
    -- At a place begin exactly the edges of its step, which lead to the places where its step leads. (An opened list
    -- begins with none of the others.)
    abbrev pub IsRow : Items → Type 0
    IsRow Done = out_of edges (at Done) ≡ []
    IsRow (Do a m is) =
        IsWayOver edges (line m) (links_in mode (act_row nv nd a is)) (at (Do a m is)) (mids (Do a m is))
        (at (opened (followed_by a is)))
    IsRow (Close ps ds m is) =
        IsWayOver edges (line m) (One (Kill ps ds) ∷ []) (at (Close ps ds m is)) (mids (Close ps ds m is))
        (at (opened is))
    IsRow (If (Ask a m) x y is) =
        IsAtomRow a (line m) (at (If (Ask a m) x y is)) (mids (If (Ask a m) x y is)) (at (opened (x then is)))
        (at (opened (y then is)))
    IsRow (If (Not c) x y is) = ⊥
    IsRow (If (Both c d) x y is) = ⊥
    IsRow (If (Either c d) x y is) = ⊥
    IsRow (Loop c n b is) = ⊥
    IsRow (Again c n b is) = ⊥
    IsRow (DoLoop c b is) = ⊥
    IsRow (DoAgain c b is) = ⊥
    IsRow (Enter vs ws m is) =
        IsWayOver edges (line m) (enter_row nv nd vs ws) (at (Enter vs ws m is)) (mids (Enter vs ws m is))
        (at (opened is))
    IsRow (Leave v vs a m is) =
        IsWayOver edges (line m) (leave_row nv nd v vs a) (at (Leave v vs a m is)) (mids (Leave v vs a m is))
        (at (opened (from_exit is)))
    IsRow (Exit v vs d m is) =
        IsWayOver edges (line m) (exit_row nv nd v vs d) (at (Exit v vs d m is)) (mids (Exit v vs d m is))
        (at (opened is))

-- the locations of the exit and of the places, each place with those in the middle of its step
abbrev pub numbers : (Items → ℕ) → (Items → List ℕ) → List Items → List ℕ
numbers at mids [] = at Done ∷ []
numbers at mids (c ∷ cs) = at c ∷ mids c ++ numbers at mids cs

-- listed by the locations at which they begin
abbrev pub InOrder : List Edge → Type 0
InOrder [] = Unit {0}
InOrder (e ∷ es) = Every (λ f. e.from ≤ f.from) es × InOrder es

-- whether a location is one of these
abbrev pub is_one_of : List ℕ → ℕ → Bool
is_one_of ks k = list_any (λ other. nat_eq other k) ks

-- The graph is one of the program, where `malloc` has this mode: each act, atom, Close, Enter, Leave and Exit of the
-- program's items gets a mark of its own, and the mark tells its line. Each pending list has a location. So two places
-- have one location exactly if they are equal as occurrences: joins are shared, a loop is tested at one location, two
-- calls of one function have places of their own, and there is one exit.
pub record LowerOf (p : Program) (mode : MallocMode) (g : ControlGraph) : Type 0 where
  -- the program's items with marks of their own
  pub items : Items
  pub line : ℕ → ℕ
  pub is_program : remark line items ≡ start_of p
  pub own_marks : IsDistinct (map mark_of (places items Done))
  -- the location of an opened list, and those in the middle of its step
  pub at : Items → ℕ
  pub mids : Items → List ℕ
  pub entry : at (opened items) ≡ 0
  pub exit : IsRow (length p.vars) (length p.data_vars) g.edges mode line at mids Done
  pub rows : Every (IsRow (length p.vars) (length p.data_vars) g.edges mode line at mids) (places items Done)
  -- these are all locations, each once
  pub all_numbers : IsPermutation (numbers at mids (places items Done)) (below g.locations)
  -- and these are all edges
  pub each_from : Every (λ e. e.from < g.locations) g.edges
  pub in_order : InOrder g.edges
  pub ptrs : g.ptrs ≡ length p.vars + 2
  pub datums : g.datums ≡ length p.data_vars + 2
  pub heads_are : g.heads ≡ map (is_one_of (map at (heads items Done))) (below g.locations)
  pub shapes : g.shapes ≡ p.shapes
