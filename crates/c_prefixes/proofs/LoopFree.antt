-- The graph of a program without loops has a number of prefixes: each of its edges leads on in the text. The number is
-- that of the program.
use Rattle.std.proofs.Common.{◌≡◌, ℕ, zero, suc, Bool, true, false, List, [], ◌∷◌, ◌++◌, length, Option, Some, refl}
use Rattle.std.proofs.Common.{sym, ap, subst, ◌∙◌}
use Rattle.fore_base.specs.Lists.{Every}
use Rattle.fore_base.proofs.ListLemmas.{every_parts}
use Rattle.c_types.specs.declared.mode.MallocMode.{MallocMode}
use Rattle.c_types.specs.declared.program.Act.{Act}
use Rattle.c_types.specs.declared.program.Act.TheVariants.{SetPtr, SetData, Free, Break}
use Rattle.c_types.specs.declared.program.Act.TheVariants.{Continue}
use Rattle.c_types.specs.declared.program.VarRef.{VarRef}
use Rattle.c_types.specs.declared.program.Dest.{Dest}
use Rattle.c_types.specs.declared.program.Atom.{Atom}
use Rattle.c_types.specs.declared.program.Atom.TheVariants.{Choice as ChoiceAtom, Known as KnownAtom, Ptr as PtrAtom}
use Rattle.c_types.specs.declared.program.Atom.TheVariants.{Data as DataAtom}
use Rattle.c_types.specs.Control.{Items, Done, Do, Close, If, Enter, Leave, Exit, Test}
use Rattle.c_types.specs.Control.{Ask, Not, Both, Either}
use Rattle.c_types.specs.Control.{◌then◌, ask, opened, open_before, exit_after, from_exit, start_of}
use Rattle.c_types.specs.Program.{Program}
use Rattle.c_cfg.specs.declared.graph.Edge.{Edge}
use Rattle.c_cfg.specs.declared.graph.Instr.{Instr}
use Rattle.c_cfg.specs.declared.graph.Instr.TheVariants.{Kill}
use Rattle.c_cfg.specs.GraphRuns.{out_of}
use Rattle.c_cfg.specs.Graphs.{ControlGraph}
use Rattle.c_cfg.specs.declared.link.Link.{Link}
use Rattle.c_cfg.specs.declared.link.Link.TheVariants.{One, Two}
use Rattle.c_cfg.specs.Links.{act_row, links_in, enter_row, leave_row, exit_row}
use Rattle.c_cfg.specs.LoopFree.{has_no_loop}
use Rattle.c_cfg.specs.Lowering.{LowerOf, IsWay, IsTestRow, IsAtomRow, IsRow, edge, followed_by}
use Rattle.c_cfg.specs.Places.{test_places, places}
use Rattle.c_cfg.proofs.FreeOfLoops.{free_graph}
use Rattle.c_types.proofs.Standing.{open_then}
use Rattle.c_types.proofs.Turns.{then_done}
use Rattle.c_prefixes.specs.Prefixes.{paths_from}
use Rattle.c_prefixes.proofs.FreeItems.{IsFree, then_free, nothing_left, free_items}
use Rattle.c_prefixes.proofs.ItemCounts.{act_after, act_same, atom_count, count_remarked, counts, exits_from, row_count}
use Rattle.c_prefixes.proofs.ItemCounts.{test_count, way_count}
use Rattle.c_prefixes.proofs.Sums.{IsNumber, none_here, one_here, one_only, two_here}

module _ (nv nd : ℕ) (edges : List Edge) where
  -- along a way
  way_number : (line : ℕ) (links : List Link) (k : ℕ) (way : List ℕ) (to n : ℕ) → IsWay edges line links k way to
      → IsNumber edges to n → IsNumber edges k (way_count links n)
  way_number line [] k [] to n w h = subst (λ (j : ℕ). IsNumber edges j n) (sym w) h
  way_number line [] k (m ∷ ms) to n w h = absurd w
  way_number line (l ∷ ls) k [] to n w h = absurd w
  way_number line (One i ∷ ls) k (m ∷ ms) to n w h =
      one_here edges k (edge line k m i _) (way_count ls n) w.0 (way_number line ls m ms to n w.1 h)
  way_number line (Two i j ∷ ls) k (m ∷ ms) to n w h =
      let c = way_number line ls m ms to n w.1 h in
      two_here edges k (edge line k m i _) (edge line k m j _) (way_count ls n) (way_count ls n) w.0 c c

  -- a comparison
  row_number : (line : ℕ) (loads : List Link) (test : Bool → Instr) (ends : List Link) (k : ℕ) (mids : List ℕ)
      (same other a b : ℕ) → IsTestRow edges line loads test ends k mids same other → IsNumber edges same a
      → IsNumber edges other b → IsNumber edges k (row_count loads ends a b)
  row_number line loads test ends k mids same other a b r h g =
      way_number line loads k r.front r.tested _ r.reads
      (two_here edges r.tested (edge line r.tested r.if_same (test true) _)
      (edge line r.tested r.if_other (test false) _) (way_count ends a) (way_count ends b) r.compares
      (way_number line ends r.if_same r.after_same same a r.same_ends h)
      (way_number line ends r.if_other r.after_other other b r.other_ends g))

  -- an atom
  atom_number : (x : Atom) (line k : ℕ) (mids : List ℕ) (yes' no' a b : ℕ)
      → IsAtomRow nv nd edges x line k mids yes' no' → IsNumber edges yes' a → IsNumber edges no' b
      → IsNumber edges k (atom_count nv nd x a b)
  atom_number ChoiceAtom line k mids yes' no' a b r h g =
      two_here edges k (edge line k no' _ _) (edge line k yes' _ _) b a r.0 g h
  atom_number (KnownAtom true) line k mids yes' no' a b r h g = one_here edges k (edge line k yes' _ _) a r.0 h
  atom_number (KnownAtom false) line k mids yes' no' a b r h g = one_here edges k (edge line k no' _ _) b r.0 g
  atom_number (PtrAtom l r true) line k mids yes' no' a b t h g =
      row_number line _ _ _ k mids yes' no' a b t h g
  atom_number (PtrAtom l r false) line k mids yes' no' a b t h g =
      row_number line _ _ _ k mids no' yes' b a t g h
  atom_number (DataAtom l r true) line k mids yes' no' a b t h g =
      row_number line _ _ _ k mids yes' no' a b t h g
  atom_number (DataAtom l r false) line k mids yes' no' a b t h g =
      row_number line _ _ _ k mids no' yes' b a t g h

  module _ (mode : MallocMode) (line : ℕ → ℕ) (at : Items → ℕ) (mids : Items → List ℕ)
      (exit : out_of edges (at Done) ≡ []) where
    abbrev Row : Items → Type 0
    Row = IsRow nv nd edges mode line at mids

    exit_number : IsNumber edges (at Done) 1
    exit_number = none_here edges (at Done) exit

    -- a test, by its sides
    test_number : (c : Test) (x y r : Items) (a b : ℕ) → Every Row (test_places c x y r)
        → IsNumber edges (at (opened (x then r))) a → IsNumber edges (at (opened (y then r))) b
        → IsNumber edges (at (ask c x y r)) (test_count nv nd c a b)
    test_number (Ask z m) x y r a b h hx hy =
        atom_number z (line m) (at (If (Ask z m) x y r)) (mids (If (Ask z m) x y r)) (at (opened (x then r)))
        (at (opened (y then r))) a b h.0 hx hy
    test_number (Not c) x y r a b h hx hy = test_number c y x r b a h hy hx
    test_number (Both c d) x y r a b h hx hy =
        let k = every_parts Row (test_places c (If d x y Done) y r) (test_places d x y r) h in
        let z : IsNumber edges (at (opened ((If d x y Done) then r))) (test_count nv nd d a b) =
        subst (λ (z : Items). IsNumber edges (at (ask d x y z)) (test_count nv nd d a b)) (sym (then_done r))
        (test_number d x y r a b k.1 hx hy) in
        test_number c (If d x y Done) y r (test_count nv nd d a b) b k.0 z hy
    test_number (Either c d) x y r a b h hx hy =
        let k = every_parts Row (test_places c x (If d x y Done) r) (test_places d x y r) h in
        let z : IsNumber edges (at (opened ((If d x y Done) then r))) (test_count nv nd d a b) =
        subst (λ (z : Items). IsNumber edges (at (ask d x y z)) (test_count nv nd d a b)) (sym (then_done r))
        (test_number d x y r a b k.1 hx hy) in
        test_number c x (If d x y Done) r a (test_count nv nd d a b) k.0 hx z

    -- what some items open to before others, and what the whole opens to
    whole : (is r : Items) (n : ℕ) → IsNumber edges (at (open_before is r (opened r))) n
        → IsNumber edges (at (opened (is then r))) n
    whole is r n h = subst (λ (z : Items). IsNumber edges (at z) n)
        (sym (open_then is r Done Done ∙ ap (λ (z : Items). open_before is z (opened r)) (then_done r))) h

    -- after an act
    act_number : (a : Act) (is : Items) (n : ℕ) → IsFree is → IsNumber edges (at (opened is)) n
        → IsNumber edges (at (opened (followed_by a is))) (act_after a n)
    act_number (SetPtr to from) is n f h = h
    act_number (SetData to from) is n f h = h
    act_number (Free p) is n f h = h
    act_number Break is n f h = subst (λ (z : Items). IsNumber edges (at (opened z)) 1)
        (sym (nothing_left is f).0) exit_number
    act_number Continue is n f h =
        subst (λ (z : Items). IsNumber edges (at (opened z)) 1) (sym (nothing_left is f).1) exit_number
    act_number _ is n f h = exit_number

    -- each Exit behind some items that ends none of their own calls
    abbrev ExitsNumbered : Items → (ℕ → ℕ) → Type 0
    ExitsNumbered is e = (k : ℕ) → IsNumber edges (at (opened (exit_after k is))) (e k)

    exits_number : (v : Option VarRef) (vs : List VarRef) (d : Option Dest) (m : ℕ) (is : Items) (n : ℕ) (e : ℕ → ℕ)
        → IsNumber edges (at (opened (Exit v vs d m is))) n → ExitsNumbered is e
        → ExitsNumbered (Exit v vs d m is) (exits_from n e)
    exits_number v vs d m is n e own later zero = own
    exits_number v vs d m is n e own later (suc k) = later k

    -- what some items open to before others has a number, and so has each Exit among both
    abbrev AreNumbered : Items → Items → ℕ × (ℕ → ℕ) → Type 0
    AreNumbered is r c = IsNumber edges (at (open_before is r (opened r))) c.0 × ExitsNumbered (is then r) c.1

    -- items without a loop, before others
    items_number : (is r : Items) (n : ℕ) (e : ℕ → ℕ) → IsFree is → IsFree r → Every Row (places is r)
        → IsNumber edges (at (opened r)) n → ExitsNumbered r e → AreNumbered is r (counts nv nd mode is n e)
    items_number Done r n e f g rows h x = (h, x)
    items_number (Do a m is) r n e f g rows h x =
        let c = counts nv nd mode is n e in
        let q = items_number is r n e f g rows.1 h x in
        let w = whole is r c.0 q.0 in (
          subst (λ (j : ℕ). IsNumber edges (at (Do a m (is then r))) j)
              (sym (act_same nv nd mode a (is then r) (act_after a c.0)))
              (way_number (line m) (links_in mode (act_row nv nd a (is then r))) (at (Do a m (is then r))) rows.0.way
              (at (opened (followed_by a (is then r)))) (act_after a c.0) rows.0.leads
              (act_number a (is then r) c.0 (then_free is r f g) w)),
          q.1,
        )
    items_number (Close ps ds m is) r n e f g rows h x =
        let c = counts nv nd mode is n e in
        let q = items_number is r n e f g rows.1 h x in (
          way_number (line m) (One (Kill ps ds) ∷ []) (at (Close ps ds m (is then r))) rows.0.way
              (at (opened (is then r))) c.0 rows.0.leads (whole is r c.0 q.0),
          q.1,
        )
    items_number (If c y z is) r n e f g rows h x =
        let i = every_parts Row (test_places c y z (is then r))
        (places y (is then r) ++ (places z (is then r) ++ places is r)) rows in
        let j = every_parts Row (places y (is then r)) (places z (is then r) ++ places is r) i.1 in
        let k = every_parts Row (places z (is then r)) (places is r) j.1 in
        let d = counts nv nd mode is n e in
        let a = (counts nv nd mode y d.0 d.1).0 in
        let b = (counts nv nd mode z d.0 d.1).0 in
        let q = items_number is r n e f.2 g k.1 h x in
        let w = whole is r d.0 q.0 in
        let t = then_free is r f.2 g in (
          test_number c y z (is then r) a b i.0
              (whole y (is then r) a (items_number y (is then r) d.0 d.1 f.0 t j.0 w q.1).0)
              (whole z (is then r) b (items_number z (is then r) d.0 d.1 f.1 t k.0 w q.1).0),
          q.1,
        )
    items_number (Enter vs ws m is) r n e f g rows h x =
        let c = counts nv nd mode is n e in
        let q = items_number is r n e f g rows.1 h x in (
          way_number (line m) (enter_row nv nd vs ws) (at (Enter vs ws m (is then r))) rows.0.way
              (at (opened (is then r))) c.0 rows.0.leads (whole is r c.0 q.0),
          (λ k. q.1 (suc k)),
        )
    items_number (Leave v vs a m is) r n e f g rows h x =
        let c = counts nv nd mode is n e in
        let q = items_number is r n e f g rows.1 h x in (
          way_number (line m) (leave_row nv nd v vs a) (at (Leave v vs a m (is then r))) rows.0.way
              (at (opened (from_exit (is then r)))) (c.1 0) rows.0.leads (q.1 0),
          q.1,
        )
    items_number (Exit v vs d m is) r n e f g rows h x =
        let c = counts nv nd mode is n e in
        let q = items_number is r n e f g rows.1 h x in
        let own = way_number (line m) (exit_row nv nd v vs d) (at (Exit v vs d m (is then r))) rows.0.way
        (at (opened (is then r))) c.0 rows.0.leads (whole is r c.0 q.0) in
        let same : opened (Exit v vs d m (is then r)) ≡ Exit v vs d m (is then r) =
        ap (Exit v vs d m) (then_done (is then r)) in
        let first = way_count (exit_row nv nd v vs d) c.0 in
        let opens = subst (λ (z : Items). IsNumber edges (at z) first) (sym same) own in
        (own, exits_number v vs d m (is then r) first c.1 opens q.1)
    items_number _ r n e f g rows h x = absurd f

-- the number of prefixes of each graph of a program without loops
abbrev program_count : Program → MallocMode → ℕ
program_count p mode = (counts (length p.vars) (length p.data_vars) mode (start_of p) 1 (λ k. 1)).0

program_number : (p : Program) (mode : MallocMode) (g : ControlGraph) → LowerOf p mode g → has_no_loop p ≡ true
    → IsNumber g.edges 0 (program_count p mode)
program_number p mode g low none =
    let nv = length p.vars in
    let nd = length p.data_vars in
    let f = free_items p mode g low (free_graph p mode g low ∙ none) in
    let e : (counts nv nd mode low.items 1 (λ k. 1)).0 ≡ program_count p mode =
    sym (count_remarked nv nd mode low.line low.items 1 1 (λ k. 1) (λ k. 1) (refl, λ k. refl)).0
    ∙ ap (λ (z : Items). (counts nv nd mode z 1 (λ k. 1)).0) low.is_program in
    let last = exit_number nv nd g.edges mode low.line low.at low.mids low.exit in
    subst (IsNumber g.edges 0) e
    (subst (λ (k : ℕ). IsNumber g.edges k (counts nv nd mode low.items 1 (λ k. 1)).0) low.entry
    (items_number nv nd g.edges mode low.line low.at low.mids low.exit low.items Done 1 (λ k. 1) f tt low.rows last
    (λ k. last)).0)

pub loop_free_number : (p : Program) (mode : MallocMode) (g : ControlGraph) → LowerOf p mode g → has_no_loop p ≡ true
    → (n : ℕ) × (b : ℕ) × (paths_from g.edges n 0 ≡ Some b)
loop_free_number p mode g low none =
    let w = program_number p mode g low none in (w.0, program_count p mode, w.1)

-- two graphs of one program
pub same_number : (p : Program) (mode : MallocMode) (g h : ControlGraph) (n b : ℕ) → LowerOf p mode g
    → LowerOf p mode h → has_no_loop p ≡ true → paths_from g.edges n 0 ≡ Some b
    → (m : ℕ) × (paths_from h.edges m 0 ≡ Some b)
same_number p mode g h n b low other none e =
    subst (IsNumber h.edges 0)
    (one_only g.edges 0 (program_count p mode) b (program_number p mode g low none) (n, e))
    (program_number p mode h other none)
