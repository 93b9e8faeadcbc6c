-- One lowering: locations are numbered in order of the text, those in the middle of a step after the one at which it
-- begins, and the exit last.
use Rattle.std.specs.Prelude.{ℕ, zero, suc, pred, ◌+◌, List, [], ◌∷◌, ◌++◌, length, map, replicate, Bool, true, false}
use Rattle.std.specs.Prelude.{Option, Some, None, slice_index_or}
use Rattle.c_types.specs.declared.program.Act.{Act}
use Rattle.c_types.specs.declared.program.VarRef.{VarRef}
use Rattle.c_types.specs.declared.program.Arg.{Arg}
use Rattle.c_types.specs.declared.program.Dest.{Dest}
use Rattle.c_types.specs.declared.program.Atom.{Atom}
use Rattle.c_types.specs.declared.program.Atom.TheVariants.{Choice as ChoiceAtom, Known as KnownAtom, Ptr as PtrAtom}
use Rattle.c_types.specs.declared.program.Atom.TheVariants.{Data as DataAtom}
use Rattle.c_types.specs.Program.{Program}
use Rattle.c_types.specs.Control.{Items, Done, Do, Close, If, Loop, Again, DoLoop, DoAgain, Test, Ask, Not, Both}
use Rattle.c_types.specs.Control.{Either, Enter, Leave, Exit, ◌then◌, opened, from_exit, start_of}
use Rattle.c_types.specs.Steps.{below, mark_of}
use Rattle.c_cfg.specs.declared.graph.Instr.TheVariants.{Kill, Choose}
use Rattle.c_cfg.specs.declared.graph.Edge.{Edge}
use Rattle.c_cfg.specs.Graphs.{ControlGraph}
use Rattle.c_cfg.specs.declared.link.Link.{Link}
use Rattle.c_cfg.specs.Links.{act_row, ptr_loads, ptr_test, ptr_ends, cmp_loads, data_test, data_ends, enter_row}
use Rattle.c_cfg.specs.Links.{leave_row, exit_row}
use Rattle.c_cfg.specs.Places.{places, heads}
use Rattle.c_cfg.specs.Lowering.{edge, followed_by, is_one_of}
use Rattle.c_links.specs.Chains.{chain}
use Rattle.c_edges.specs.Comparing.{test_edges}

-- the numbers k, k + 1, .., as many as n
abbrev pub span : ℕ → ℕ → List ℕ
span k zero = []
span k (suc n) = k ∷ span (k + 1) n

-- how many locations a comparison takes
abbrev pub test_room : List Link → List Link → ℕ
test_room loads ends = suc (length loads + (length ends + length ends))

module _ (nv nd : ℕ) where
  -- how many locations a step takes
  abbrev pub act_width : Act → ℕ
  act_width a = suc (pred (length (act_row nv nd a Done)))

  abbrev pub enter_width : List VarRef → List Arg → ℕ
  enter_width vs ws = suc (pred (length (enter_row nv nd vs ws)))

  abbrev pub leave_width : Option VarRef → List VarRef → Option Arg → ℕ
  leave_width v vs a = suc (pred (length (leave_row nv nd v vs a)))

  abbrev pub exit_width : Option VarRef → List VarRef → Option Dest → ℕ
  exit_width v vs d = suc (pred (length (exit_row nv nd v vs d)))

  abbrev pub atom_width : Atom → ℕ
  atom_width ChoiceAtom = 1
  atom_width (KnownAtom b) = 1
  atom_width (PtrAtom l r e) = test_room (ptr_loads nv nd l r) (ptr_ends nv nd l r)
  atom_width (DataAtom l r e) = test_room (cmp_loads nv nd l r) (data_ends nv nd l r)

  abbrev pub test_width : Test → ℕ
  test_width (Ask a m) = atom_width a
  test_width (Not c) = test_width c
  test_width (Both c d) = test_width c + test_width d
  test_width (Either c d) = test_width c + test_width d

  abbrev pub width : Items → ℕ
  width Done = 0
  width (Do a m is) = act_width a + width is
  width (Close ps ds m is) = suc (width is)
  width (If c x y is) = test_width c + (width x + (width y + width is))
  width (Loop c n b is) = test_width c + (width b + (width n + width is))
  width (Again c n b is) = width n + (test_width c + (width b + width is))
  width (DoLoop c b is) = width b + (test_width c + width is)
  width (DoAgain c b is) = test_width c + (width b + width is)
  width (Enter vs ws m is) = enter_width vs ws + width is
  width (Leave v vs a m is) = leave_width v vs a + width is
  width (Exit v vs d m is) = exit_width v vs d + width is

  -- marks that are the locations, from i on
  abbrev pub number_test : Test → ℕ → Test
  number_test (Ask a m) i = Ask a i
  number_test (Not c) i = Not (number_test c i)
  number_test (Both c d) i = Both (number_test c i) (number_test d (i + test_width c))
  number_test (Either c d) i = Either (number_test c i) (number_test d (i + test_width c))

  abbrev pub number : Items → ℕ → Items
  number Done i = Done
  number (Do a m is) i = Do a i (number is (i + act_width a))
  number (Close ps ds m is) i = Close ps ds i (number is (i + 1))
  number (If c x y is) i =
      If (number_test c i) (number x (i + test_width c)) (number y (i + test_width c + width x))
      (number is (i + test_width c + width x + width y))
  number (Loop c n b is) i =
      Loop (number_test c i) (number n (i + test_width c + width b)) (number b (i + test_width c))
      (number is (i + test_width c + width b + width n))
  number (Again c n b is) i =
      Again (number_test c (i + width n)) (number n i) (number b (i + width n + test_width c))
      (number is (i + width n + test_width c + width b))
  number (DoLoop c b is) i = DoLoop (number_test c (i + width b)) (number b i) (number is (i + width b + test_width c))
  number (DoAgain c b is) i =
      DoAgain (number_test c i) (number b (i + test_width c)) (number is (i + test_width c + width b))
  number (Enter vs ws m is) i = Enter vs ws i (number is (i + enter_width vs ws))
  number (Leave v vs a m is) i = Leave v vs a i (number is (i + leave_width v vs a))
  number (Exit v vs d m is) i = Exit v vs d i (number is (i + exit_width v vs d))

  -- each location's line
  abbrev pub test_lines : Test → List ℕ
  test_lines (Ask a m) = replicate (atom_width a) m
  test_lines (Not c) = test_lines c
  test_lines (Both c d) = test_lines c ++ test_lines d
  test_lines (Either c d) = test_lines c ++ test_lines d

  abbrev pub lines : Items → List ℕ
  lines Done = []
  lines (Do a m is) = replicate (act_width a) m ++ lines is
  lines (Close ps ds m is) = m ∷ lines is
  lines (If c x y is) = test_lines c ++ (lines x ++ (lines y ++ lines is))
  lines (Loop c n b is) = test_lines c ++ (lines b ++ (lines n ++ lines is))
  lines (Again c n b is) = lines n ++ (test_lines c ++ (lines b ++ lines is))
  lines (DoLoop c b is) = lines b ++ (test_lines c ++ lines is)
  lines (DoAgain c b is) = test_lines c ++ (lines b ++ lines is)
  lines (Enter vs ws m is) = replicate (enter_width vs ws) m ++ lines is
  lines (Leave v vs a m is) = replicate (leave_width v vs a) m ++ lines is
  lines (Exit v vs d m is) = replicate (exit_width v vs d) m ++ lines is

  abbrev pub place_width : Items → ℕ
  place_width Done = 0
  place_width (Do a m is) = act_width a
  place_width (Close ps ds m is) = 1
  place_width (If (Ask a m) x y is) = atom_width a
  place_width (If (Not c) x y is) = 0
  place_width (If (Both c d) x y is) = 0
  place_width (If (Either c d) x y is) = 0
  place_width (Loop c n b is) = 0
  place_width (Again c n b is) = 0
  place_width (DoLoop c b is) = 0
  place_width (DoAgain c b is) = 0
  place_width (Enter vs ws m is) = enter_width vs ws
  place_width (Leave v vs a m is) = leave_width v vs a
  place_width (Exit v vs d m is) = exit_width v vs d

  abbrev pub mids_of : Items → List ℕ
  mids_of c = span (mark_of c + 1) (pred (place_width c))

  abbrev pub atom_edges : Atom → ℕ → ℕ → ℕ → ℕ → List Edge
  atom_edges ChoiceAtom line k yes' no' = edge line k no' (Choose None) (Some 0)
      ∷ edge line k yes' (Choose None) (Some 1) ∷ []
  atom_edges (KnownAtom true) line k yes' no' = edge line k yes' (Kill [] []) None ∷ []
  atom_edges (KnownAtom false) line k yes' no' = edge line k no' (Kill [] []) None ∷ []
  atom_edges (PtrAtom l r true) line k yes' no' =
      test_edges line (ptr_loads nv nd l r) (ptr_test nv nd l r) (ptr_ends nv nd l r) k yes' no'
  atom_edges (PtrAtom l r false) line k yes' no' =
      test_edges line (ptr_loads nv nd l r) (ptr_test nv nd l r) (ptr_ends nv nd l r) k no' yes'
  atom_edges (DataAtom l r true) line k yes' no' =
      test_edges line (cmp_loads nv nd l r) (data_test nv nd l r) (data_ends nv nd l r) k yes' no'
  atom_edges (DataAtom l r false) line k yes' no' =
      test_edges line (cmp_loads nv nd l r) (data_test nv nd l r) (data_ends nv nd l r) k no' yes'

  module _ (exit : ℕ) where
    -- the location of an opened list whose marks are the locations
    abbrev pub loc : Items → ℕ
    loc Done = exit
    loc (Do a m is) = m
    loc (Close ps ds m is) = m
    loc (If (Ask a m) x y is) = m
    loc (If (Not c) x y is) = 0
    loc (If (Both c d) x y is) = 0
    loc (If (Either c d) x y is) = 0
    loc (Loop c n b is) = 0
    loc (Again c n b is) = 0
    loc (DoLoop c b is) = 0
    loc (DoAgain c b is) = 0
    loc (Enter vs ws m is) = m
    loc (Leave v vs a m is) = m
    loc (Exit v vs d m is) = m

    -- the edges of a place
    abbrev pub place_edges : (ℕ → ℕ) → Items → List Edge
    place_edges line Done = []
    place_edges line (Do a m is) = chain (line m) (act_row nv nd a is) m (loc (opened (followed_by a is)))
    place_edges line (Close ps ds m is) = edge (line m) m (loc (opened is)) (Kill ps ds) None ∷ []
    place_edges line (If (Ask a m) x y is) =
        atom_edges a (line m) m (loc (opened (x then is))) (loc (opened (y then is)))
    place_edges line (If (Not c) x y is) = []
    place_edges line (If (Both c d) x y is) = []
    place_edges line (If (Either c d) x y is) = []
    place_edges line (Loop c n b is) = []
    place_edges line (Again c n b is) = []
    place_edges line (DoLoop c b is) = []
    place_edges line (DoAgain c b is) = []
    place_edges line (Enter vs ws m is) = chain (line m) (enter_row nv nd vs ws) m (loc (opened is))
    place_edges line (Leave v vs a m is) = chain (line m) (leave_row nv nd v vs a) m (loc (opened (from_exit is)))
    place_edges line (Exit v vs d m is) = chain (line m) (exit_row nv nd v vs d) m (loc (opened is))

    abbrev pub all_edges : (ℕ → ℕ) → List Items → List Edge
    all_edges line [] = []
    all_edges line (c ∷ cs) = place_edges line c ++ all_edges line cs

-- the graph of a program with nv pointer and nd data variables
module _ (nv nd : ℕ) (items : Items) where
  -- the exit is after all other locations
  abbrev pub exit_of : ℕ
  exit_of = width nv nd items

  abbrev pub line_of : ℕ → ℕ
  line_of k = slice_index_or (lines nv nd items) k 0

  abbrev pub numbered : Items
  numbered = number nv nd items 0

  abbrev pub edges_of : List Edge
  edges_of = all_edges nv nd exit_of line_of (places numbered Done)

  abbrev pub heads_of : List Bool
  heads_of = map (is_one_of (map (loc nv nd exit_of) (heads numbered Done))) (below (exit_of + 1))

-- a graph for these items, with a program's variables and structs
abbrev pub graph_for : Program → Items → ControlGraph
graph_for p is = record {
  locations = exit_of (length p.vars) (length p.data_vars) is + 1;
  ptrs = length p.vars + 2;
  datums = length p.data_vars + 2;
  edges = edges_of (length p.vars) (length p.data_vars) is;
  heads = heads_of (length p.vars) (length p.data_vars) is;
  shapes = p.shapes;
}

abbrev pub lowered : Program → ControlGraph
lowered p = graph_for p (start_of p)
