-- The edges of statements, as the code adds them.
use Rattle.std.specs.Prelude.{ℕ, pred, ◌+◌, List, length, Option, Bool, true, false, replicate}
use Rattle.c_types.specs.declared.program.Act.{Act}
use Rattle.c_types.specs.declared.program.Cond.{Cond}
use Rattle.c_types.specs.declared.program.Stmt.{Stmt}
use Rattle.c_types.specs.declared.program.Arg.{Arg}
use Rattle.c_types.specs.declared.program.Dest.{Dest}
use Rattle.c_types.specs.declared.program.Func.{Func}
use Rattle.c_types.specs.Control.{Done, test_of, act_items}
use Rattle.c_cfg.specs.Links.{enter_row, exit_row}
use Rattle.c_edges.specs.ActLinks.{links_of}
use Rattle.c_cfg.specs.declared.graph.Edge.{Edge}
use Rattle.c_lower.specs.declared.around.Around.{Around}
use Rattle.c_lower.specs.declared.site.Site.{Site}
use Rattle.c_lower.specs.declared.site.Span.{Span}
use Rattle.c_lower.specs.declared.site.TwoSpans.{TwoSpans}
use Rattle.c_links.specs.Chains.{chain}
use Rattle.c_links.specs.declared.counts.Counts.{Counts}
use Rattle.c_lower.specs.inner.Emitting.{first_of, in_loop, close_width, step_to, emit_test, reached, wide_all}
use Rattle.c_lower.specs.inner.Emitting.{emit_stmt, emit_all, heads_stmt, heads_all, inside_stmt, inside_all, rests_all}
use Rattle.fore_base.specs.Stores.{set_each}
use Rattle.c_types.specs.declared.program.Atom.{Atom}
use Rattle.c_joints.specs.declared.sides.Joint.{Joint}
use Rattle.c_lower.specs.inner.Numbering.{width, test_width, atom_width, atom_edges, enter_width, exit_width}
use Rattle.c_lower.specs.inner.Emitting.{joined_width, emit_parts, wide_stmt}

abbrev pub act_room : Site → Act → ℕ
act_room site a = width site.counts.ptrs site.counts.datums (act_items site.funcs.now a 0 Done)

abbrev pub atom_room : Site → Atom → ℕ
atom_room site a = atom_width site.counts.ptrs site.counts.datums a

abbrev pub atom_edges_at : Site → Atom → ℕ → ℕ → ℕ → ℕ → List Edge
atom_edges_at site a line i yes' no' = atom_edges site.counts.ptrs site.counts.datums a line i yes' no'

abbrev pub joined_room : Site → List Cond → ℕ
joined_room site cs = joined_width site.counts.ptrs site.counts.datums cs

abbrev pub joined_edges : Site → Joint → List Cond → ℕ → ℕ → ℕ → List Edge
joined_edges site joint cs i yes' no' = emit_parts site.counts.ptrs site.counts.datums joint cs i yes' no'

abbrev pub stmt_room : Site → Stmt → ℕ
stmt_room site s = wide_stmt site.funcs.now site.calls site.counts.ptrs site.counts.datums s

abbrev pub test_room : Site → Cond → ℕ
test_room site c = test_width site.counts.ptrs site.counts.datums (test_of c)

abbrev pub room : Site → List Stmt → ℕ
room site body = wide_all site.funcs.now site.calls site.counts.ptrs site.counts.datums body

abbrev pub test_edges : Site → Cond → ℕ → ℕ → ℕ → List Edge
test_edges site c i yes' no' = emit_test site.counts.ptrs site.counts.datums (test_of c) i yes' no'

abbrev pub edges_at : Site → List Stmt → Around → ℕ → ℕ → List Edge
edges_at site body w i k = emit_all site.funcs.now site.calls site.counts.ptrs site.counts.datums site.exit body w i k

abbrev pub act_edges : Site → Act → ℕ → Around → Span → List Edge
act_edges site a line w span =
    chain line (links_of site.funcs.now site.counts.ptrs site.counts.datums w.ptrs w.datums a) span.from
    (step_to site.funcs.now site.exit w a span.then)

abbrev pub stmt_edges : Site → Stmt → Around → Span → List Edge
stmt_edges site s w span = emit_stmt site.funcs.now site.calls site.counts.ptrs site.counts.datums site.exit s w
    span.from span.then

abbrev pub all_edges : Site → List Stmt → Around → Span → List Edge
all_edges site body w span = edges_at site body w span.from span.then

-- The parts of statements

abbrev pub span_of : ℕ → ℕ → Span
span_of from then' = record { from = from; then = then' }

abbrev pub branch_test : Site → Cond → List Stmt → List Stmt → Span → List Edge
branch_test site c x y span =
    test_edges site c span.from (first_of (room site x) (span.from + test_room site c) span.then)
    (first_of (room site y) (span.from + test_room site c + room site x) span.then)

abbrev pub branch_spans : Site → Cond → List Stmt → Span → TwoSpans
branch_spans site c x span =
    record {
      first = span_of (span.from + test_room site c) span.then;
      second = span_of (span.from + test_room site c + room site x) span.then;
    }

-- where a round of a loop goes on after its body
abbrev pub again_at : Site → Cond → List Stmt → List Stmt → Span → ℕ
again_at site c n b span = first_of (room site n) (span.from + test_room site c + room site b) span.from

abbrev pub loop_test : Site → Cond → List Stmt → List Stmt → Span → List Edge
loop_test site c n b span =
    test_edges site c span.from (first_of (room site b) (span.from + test_room site c) (again_at site c n b span))
    span.then

abbrev pub loop_spans : Site → Cond → List Stmt → List Stmt → Span → TwoSpans
loop_spans site c n b span = record {
  first = span_of (span.from + test_room site c) (again_at site c n b span);
  second = span_of (span.from + test_room site c + room site b) span.from;
}

abbrev pub do_span : Site → List Stmt → ℕ → Span
do_span site b from = span_of from (from + room site b)

abbrev pub do_test : Site → Cond → List Stmt → Span → ℕ → List Edge
do_test site c b round then' = test_edges site c round.then (first_of (room site b) round.from round.then) then'

abbrev pub group_spans : Site → List Stmt → List ℕ → List ℕ → Span → TwoSpans
group_spans site b ps ds span = record {
  first = span_of span.from (first_of (close_width ps ds) (span.from + room site b) span.then);
  second = span_of (span.from + room site b) span.then;
}

-- Calls

-- a function's body is lowered where calls are followed one less deep
abbrev pub deeper : Site → Site
deeper site = record site { calls = pred site.calls }

abbrev pub enter_room : Site → Func → List Arg → ℕ
enter_room site g args = enter_width site.counts.ptrs site.counts.datums g.params args

abbrev pub body_room : Site → Func → ℕ
body_room site g = room (deeper site) (reached site.calls g.body)

abbrev pub exit_room : Site → Func → Option Dest → ℕ
exit_room site g to' = exit_width site.counts.ptrs site.counts.datums g.result g.params to'

-- a call's body stands after its enter, and its exit after its body
abbrev pub call_spans : Site → Func → List Arg → Span → TwoSpans
call_spans site g args span = record {
  first = span_of (span.from + enter_room site g args) (span.from + enter_room site g args + body_room site g);
  second = span_of (span.from + enter_room site g args + body_room site g) span.then;
}

abbrev pub enter_edges : Site → Func → List Arg → ℕ → ℕ → ℕ → List Edge
enter_edges site g args line from to' =
    chain line (enter_row site.counts.ptrs site.counts.datums g.params args) from to'

abbrev pub exit_edges : Site → Func → Option Dest → ℕ → Span → List Edge
exit_edges site g dest line span =
    chain line (exit_row site.counts.ptrs site.counts.datums g.result g.params dest) span.from span.then

-- Loop heads

abbrev pub stmt_heads : Site → Stmt → ℕ → List ℕ
stmt_heads site s i = heads_stmt site.funcs.now site.calls site.counts.ptrs site.counts.datums s i

abbrev pub all_heads : Site → List Stmt → ℕ → List ℕ
all_heads site body i = heads_all site.funcs.now site.calls site.counts.ptrs site.counts.datums body i

-- Programs: calls are followed as deep as there are functions, and what is around main's body leads to the exit

abbrev pub program_room : Counts → List Func → List Stmt → ℕ
program_room n funcs body = wide_all funcs (length funcs) n.ptrs n.datums body

abbrev pub program_edges : Site → List Stmt → List Edge
program_edges site body = edges_at site body (in_loop site.exit site.exit site.exit) 0 site.exit

-- the entries of their loop heads
abbrev pub entries_of : Site → List Stmt → List Bool
entries_of site body = set_each (replicate (site.exit + 1) false) (all_heads site body 0) true

-- What is around statements that stand before others

abbrev pub inside_one : Site → Around → Stmt → Around
inside_one site w s = inside_stmt site.funcs.now site.calls w s

abbrev pub inside_each : Site → Around → List Stmt → Around
inside_each site w body = inside_all site.funcs.now site.calls w body

-- what is around each of some statements, the last first
abbrev pub rests_of : Site → Around → List Stmt → List Around
rests_of site w body = rests_all site.funcs.now site.calls w body
