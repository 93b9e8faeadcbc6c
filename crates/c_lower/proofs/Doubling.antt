-- The graph where `malloc` may fail is that where each `malloc` gives a cell, with two edges for each New.
use Rattle.std.proofs.Common.{◌≡◌, ◌≤◌, ◌<◌, ℕ, List, [], ◌∷◌, ◌++◌, append-nil, length, Bool, true, false}
use Rattle.std.proofs.Common.{if◌then◌else◌, Option, Some, None, refl, ap, ◌∙◌, subst, arith}
use Rattle.std.specs.Prelude.{nat_eq}
use Rattle.fore_base.specs.Lists.{Every}
use Rattle.fore_base.proofs.ListLemmas.{every_append}
use Rattle.c_types.specs.declared.mode.MallocMode.{MallocMode}
use Rattle.c_types.specs.declared.mode.MallocMode.TheVariants.{Always, MayFail}
use Rattle.c_types.specs.declared.program.Atom.{Atom}
use Rattle.c_types.specs.declared.program.Atom.TheVariants.{Choice as ChoiceAtom, Known as KnownAtom, Ptr as PtrAtom}
use Rattle.c_types.specs.declared.program.Atom.TheVariants.{Data as DataAtom}
use Rattle.c_types.specs.Program.{Program}
use Rattle.c_types.specs.Control.{Items, Done, Do, Close, If, Enter, Leave, Exit, Ask}
use Rattle.c_cfg.specs.declared.graph.Instr.{Instr}
use Rattle.c_cfg.specs.declared.graph.Instr.TheVariants.{New, Kill}
use Rattle.c_cfg.specs.declared.graph.Edge.{Edge}
use Rattle.c_cfg.specs.Graphs.{ControlGraph, may_have, HasItsChoice}
use Rattle.c_cfg.specs.GraphRuns.{out_of}
use Rattle.c_cfg.specs.declared.link.Link.{Link}
use Rattle.c_cfg.specs.declared.link.Link.TheVariants.{One, Two}
use Rattle.c_cfg.specs.Links.{failing, failing_link, links_in, ptr_loads, ptr_test, ptr_ends, cmp_loads}
use Rattle.c_cfg.specs.Links.{data_test, data_ends, enter_row, leave_row, exit_row}
use Rattle.c_cfg.specs.Places.{places}
use Rattle.c_cfg.specs.Lowering.{edge, link_edges, IsWay, IsWayOver, IsTestRow, IsAtomRow, IsRow, InOrder, LowerOf}
use Rattle.c_links.specs.Failing.{edges_for, failing_edges, edges_in}
use Rattle.c_cfg.proofs.PlainLinks.{ArePlain, kept, ends_plain, ptr_plain, cmp_plain, enter_plain, leave_plain}
use Rattle.c_cfg.proofs.PlainLinks.{exit_plain}
use Rattle.c_cfg.proofs.Spans.{out_more}

-- Which edges begin at a location

link_out_if : (line k to q : ℕ) (l : Link)
    → out_of (link_edges line k to l) q ≡ (if nat_eq k q then link_edges line k to l else [])
link_out_if line k to q (One i) = refl
link_out_if line k to q (Two i j) = by (nat_eq k q)
  where
    by : (b : Bool)
        → (if b then edge line k to i (Some 0) ∷ (if b then edge line k to j (Some 1) ∷ [] else [])
        else (if b then edge line k to j (Some 1) ∷ [] else []))
        ≡ (if b then edge line k to i (Some 0) ∷ edge line k to j (Some 1) ∷ [] else [])
    by true = refl
    by false = refl

failing_out : (o : Option ℕ) (e : Edge) (q : ℕ)
    → out_of (edges_for o e) q ≡ (if nat_eq e.from q then edges_for o e else [])
failing_out None e q = link_out_if e.line e.from e.to q (failing e.instr)
failing_out (Some x) e q = refl

pub out_in : (es : List Edge) (q : ℕ) → out_of (edges_in MayFail es) q ≡ edges_in MayFail (out_of es q)
out_in [] q = refl
out_in (e ∷ es) q =
    out_more (failing_edges e) (edges_in MayFail es) q
    ∙ ap (λ fs. fs ++ out_of (edges_in MayFail es) q) (failing_out e.choice e q)
    ∙ ap (λ fs. (if nat_eq e.from q then failing_edges e else []) ++ fs) (out_in es q) ∙ by (nat_eq e.from q)
  where
    by : (b : Bool) → (if b then failing_edges e else []) ++ edges_in MayFail (out_of es q)
        ≡ edges_in MayFail (if b then e ∷ out_of es q else out_of es q)
    by true = refl
    by false = refl

-- Rows

link_in : (line k to : ℕ) (l : Link) → edges_in MayFail (link_edges line k to l) ≡ link_edges line k to (failing_link l)
link_in line k to (One i) = append-nil (link_edges line k to (failing i))
link_in line k to (Two i j) = refl

module _ (es : List Edge) where
  way_in : (line : ℕ) (ls : List Link) (k : ℕ) (ms : List ℕ) (to : ℕ) → IsWay es line ls k ms to
      → IsWay (edges_in MayFail es) line (links_in MayFail ls) k ms to
  way_in line [] k [] to w = w
  way_in line [] k (m ∷ ms) to w = absurd w
  way_in line (l ∷ ls) k [] to w = absurd w
  way_in line (l ∷ ls) k (m ∷ ms) to w =
      (out_in es k ∙ ap (edges_in MayFail) w.0 ∙ link_in line k m l, way_in line ls m ms to w.1)

  over_in : (line : ℕ) (ls : List Link) (k : ℕ) (mids : List ℕ) (to : ℕ) → IsWayOver es line ls k mids to
      → IsWayOver (edges_in MayFail es) line (links_in MayFail ls) k mids to
  over_in line ls k mids to o = record
      { way = o.way; leads = way_in line ls k o.way to o.leads; middle = o.middle }

  plain_in : (line : ℕ) (ls : List Link) (k : ℕ) (ms : List ℕ) (to : ℕ) → ArePlain ls → IsWay es line ls k ms to
      → IsWay (edges_in MayFail es) line ls k ms to
  plain_in line ls k ms to h w =
      subst (λ ns. IsWay (edges_in MayFail es) line ns k ms to) (kept ls h) (way_in line ls k ms to w)

  over_plain : (line : ℕ) (ls : List Link) (k : ℕ) (mids : List ℕ) (to : ℕ) → ArePlain ls
      → IsWayOver es line ls k mids to → IsWayOver (edges_in MayFail es) line ls k mids to
  over_plain line ls k mids to h o = record
      { way = o.way; leads = plain_in line ls k o.way to h o.leads; middle = o.middle }

  test_in : (line : ℕ) (loads : List Link) (test : Bool → Instr) (ends : List Link) (k : ℕ) (mids : List ℕ)
      (same other : ℕ) → ArePlain loads → ArePlain ends → ((b : Bool) → failing (test b) ≡ One (test b))
      → IsTestRow es line loads test ends k mids same other
      → IsTestRow (edges_in MayFail es) line loads test ends k mids same other
  test_in line loads test ends k mids same other hl he ht r = record {
    tested = r.tested;
    if_same = r.if_same;
    if_other = r.if_other;
    front = r.front;
    after_same = r.after_same;
    after_other = r.after_other;
    reads = plain_in line loads k r.front r.tested hl r.reads;
    compares =
        out_in es r.tested ∙ ap (edges_in MayFail) r.compares
        ∙ ap (λ l. link_edges line r.tested r.if_same l ++ (link_edges line r.tested r.if_other (failing (test false))
        ++ [])) (ht true)
        ∙ ap (λ l. edge line r.tested r.if_same (test true) None ∷ (link_edges line r.tested r.if_other l ++ []))
        (ht false);
    same_ends = plain_in line ends r.if_same r.after_same same he r.same_ends;
    other_ends = plain_in line ends r.if_other r.after_other other he r.other_ends;
    middle = r.middle;
  }

  module _ (nv nd : ℕ) where
    atom_in : (a : Atom) (line k : ℕ) (mids : List ℕ) (x y : ℕ) → IsAtomRow nv nd es a line k mids x y
        → IsAtomRow nv nd (edges_in MayFail es) a line k mids x y
    atom_in ChoiceAtom line k mids x y r = (out_in es k ∙ ap (edges_in MayFail) r.0, r.1)
    atom_in (KnownAtom true) line k mids x y r = (out_in es k ∙ ap (edges_in MayFail) r.0, r.1)
    atom_in (KnownAtom false) line k mids x y r = (out_in es k ∙ ap (edges_in MayFail) r.0, r.1)
    atom_in (PtrAtom l r true) line k mids x y h =
        test_in line (ptr_loads nv nd l r) (ptr_test nv nd l r) (ptr_ends nv nd l r) k mids x y (ptr_plain nv nd l r)
        (ends_plain _ []) (λ b. refl) h
    atom_in (PtrAtom l r false) line k mids x y h =
        test_in line (ptr_loads nv nd l r) (ptr_test nv nd l r) (ptr_ends nv nd l r) k mids y x (ptr_plain nv nd l r)
        (ends_plain _ []) (λ b. refl) h
    atom_in (DataAtom l r true) line k mids x y h =
        test_in line (cmp_loads nv nd l r) (data_test nv nd l r) (data_ends nv nd l r) k mids x y (cmp_plain nv nd l r)
        (ends_plain _ _) (λ b. refl) h
    atom_in (DataAtom l r false) line k mids x y h =
        test_in line (cmp_loads nv nd l r) (data_test nv nd l r) (data_ends nv nd l r) k mids y x (cmp_plain nv nd l r)
        (ends_plain _ _) (λ b. refl) h

    module _ (line : ℕ → ℕ) (at : Items → ℕ) (mids : Items → List ℕ) where
      row_in : (c : Items) → IsRow nv nd es Always line at mids c
          → IsRow nv nd (edges_in MayFail es) MayFail line at mids c
      row_in Done h = out_in es (at Done) ∙ ap (edges_in MayFail) h
      row_in (Do a m is) h = over_in (line m) _ (at (Do a m is)) (mids (Do a m is)) _ h
      row_in (Close ps ds m is) h =
          over_in (line m) (One (Kill ps ds) ∷ []) (at (Close ps ds m is)) (mids (Close ps ds m is)) _ h
      row_in (If (Ask a m) x y is) h = atom_in a (line m) (at (If (Ask a m) x y is)) (mids (If (Ask a m) x y is)) _ _ h
      row_in (Enter vs ws m is) h =
          over_plain (line m) (enter_row nv nd vs ws) (at (Enter vs ws m is)) (mids (Enter vs ws m is)) _
          (enter_plain nv nd vs ws) h
      row_in (Leave v vs a m is) h =
          over_plain (line m) (leave_row nv nd v vs a) (at (Leave v vs a m is)) (mids (Leave v vs a m is)) _
          (leave_plain nv nd v vs a) h
      row_in (Exit v vs d m is) h =
          over_plain (line m) (exit_row nv nd v vs d) (at (Exit v vs d m is)) (mids (Exit v vs d m is)) _
          (exit_plain nv nd v vs d) h
      row_in _ h = h

      rows_in : (cs : List Items) → Every (IsRow nv nd es Always line at mids) cs
          → Every (IsRow nv nd (edges_in MayFail es) MayFail line at mids) cs
      rows_in [] h = tt
      rows_in (c ∷ cs) h = (row_in c h.0, rows_in cs h.1)

-- Lists of edges

-- what is so of the ends at which edges begin
module _ (P : ℕ → Type 0) where
  link_begins : (line k to : ℕ) (l : Link) → P k → Every (λ f. P f.from) (link_edges line k to l)
  link_begins line k to (One i) h = (h, tt)
  link_begins line k to (Two i j) h = (h, (h, tt))

  for_begins : (o : Option ℕ) (e : Edge) → P e.from → Every (λ f. P f.from) (edges_for o e)
  for_begins None e h = link_begins e.line e.from e.to (failing e.instr) h
  for_begins (Some x) e h = (h, tt)

  begins_in : (es : List Edge) → Every (λ f. P f.from) es → Every (λ f. P f.from) (edges_in MayFail es)
  begins_in [] h = tt
  begins_in (e ∷ es) h = every_append (λ (f : Edge). P f.from) (failing_edges e) (edges_in MayFail es)
      (for_begins e.choice e h.0) (begins_in es h.1)

link_first : (line k to : ℕ) (l : Link) (es : List Edge) → Every (λ f. k ≤ f.from) es → InOrder es
    → InOrder (link_edges line k to l ++ es)
link_first line k to (One i) es h o = (h, o)
link_first line k to (Two i j) es h o = ((omega arith, h), (h, o))

for_first : (o : Option ℕ) (e : Edge) (es : List Edge) → Every (λ f. e.from ≤ f.from) es → InOrder es
    → InOrder (edges_for o e ++ es)
for_first None e es h k = link_first e.line e.from e.to (failing e.instr) es h k
for_first (Some x) e es h k = (h, k)

order_in : (es : List Edge) → InOrder es → InOrder (edges_in MayFail es)
order_in [] h = tt
order_in (e ∷ es) h =
    for_first e.choice e (edges_in MayFail es) (begins_in (λ k. e.from ≤ k) es h.0) (order_in es h.1)

-- the choices of the two edges are their own
failing_told : (line k to : ℕ) (i : Instr) → may_have i None ≡ true
    → Every HasItsChoice (link_edges line k to (failing i))
failing_told line k to (New x shape) h = (refl, (refl, tt))
failing_told line k to _ h = (h, tt)

for_told : (o : Option ℕ) (e : Edge) → may_have e.instr o ≡ true → Every HasItsChoice (edges_for o e)
for_told None e h = failing_told e.line e.from e.to e.instr h
for_told (Some x) e h = (h, tt)

pub told_in : (mode : MallocMode) (es : List Edge) → Every HasItsChoice es → Every HasItsChoice (edges_in mode es)
told_in Always es h = h
told_in MayFail [] h = tt
told_in MayFail (e ∷ es) h =
    every_append HasItsChoice (failing_edges e) (edges_in MayFail es) (for_told e.choice e h.0) (told_in MayFail es h.1)

-- Graphs

abbrev pub graph_in : MallocMode → ControlGraph → ControlGraph
graph_in mode g = record g { edges = edges_in mode g.edges }

pub lowers_in : (mode : MallocMode) (p : Program) (g : ControlGraph) → LowerOf p Always g
    → LowerOf p mode (graph_in mode g)
lowers_in Always p g low = low
lowers_in MayFail p g low = record {
  items = low.items;
  line = low.line;
  is_program = low.is_program;
  own_marks = low.own_marks;
  at = low.at;
  mids = low.mids;
  entry = low.entry;
  exit = out_in g.edges (low.at Done) ∙ ap (edges_in MayFail) low.exit;
  rows = rows_in g.edges (length p.vars) (length p.data_vars) low.line low.at low.mids (places low.items Done) low.rows;
  all_numbers = low.all_numbers;
  each_from = begins_in (λ k. k < g.locations) g.edges low.each_from;
  in_order = order_in g.edges low.in_order;
  ptrs = low.ptrs;
  datums = low.datums;
  heads_are = low.heads_are;
  shapes = low.shapes;
}
