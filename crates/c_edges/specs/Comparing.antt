-- The parts of comparisons, and their edges.
use Rattle.std.specs.Prelude.{ℕ, ◌+◌, List, [], ◌∷◌, ◌++◌, length, Bool, true, false, None}
use Rattle.c_types.specs.declared.program.PtrOp.{PtrOp}
use Rattle.c_types.specs.declared.program.DataOp.{DataOp}
use Rattle.c_cfg.specs.declared.graph.Instr.{Instr}
use Rattle.c_cfg.specs.declared.graph.Instr.TheVariants.{TestPtr, TestData}
use Rattle.c_cfg.specs.declared.graph.Edge.{Edge}
use Rattle.c_edges.specs.declared.comparison.Compared.{Compared}
use Rattle.c_edges.specs.declared.comparison.Compared.TheVariants.{Ptrs, Data}
use Rattle.c_edges.specs.declared.comparison.Comparison.{Comparison}
use Rattle.c_cfg.specs.Links.{ends, op_arg, op_used, data_op_arg, op_base_used, op_data_used, ptr_loads, cmp_loads}
use Rattle.c_cfg.specs.declared.link.Link.{Link}
use Rattle.c_links.specs.Chains.{chain}
use Rattle.c_cfg.specs.declared.graph.Instr.TheVariants.{Kill}
use Rattle.c_links.specs.declared.counts.Counts.{Counts}
use Rattle.c_cfg.specs.Lowering.{edge, link_edges}

-- a comparison from k on
abbrev pub test_edges : ℕ → List Link → (Bool → Instr) → List Link → ℕ → ℕ → ℕ → List Edge
test_edges line loads test [] k same other =
    chain line loads k (k + length loads)
    ++ edge line (k + length loads) same (test true) None ∷ edge line (k + length loads) other (test false) None ∷ []
test_edges line loads test (l ∷ ls) k same other =
    chain line loads k (k + length loads)
    ++
    ((edge line (k + length loads) (k + length loads + 1) (test true) None
    ∷ edge line (k + length loads) (k + length loads + 2) (test false) None ∷ [])
    ++ (link_edges line (k + length loads + 1) same l ++ link_edges line (k + length loads + 2) other l))

abbrev pub test_of : Compared → Bool → Instr
test_of (Ptrs l r) equal = TestPtr l r equal
test_of (Data l r) equal = TestData l r equal

module _ (n : Counts) where
  abbrev pub ptr_parts : PtrOp → PtrOp → Comparison
  ptr_parts l r = record {
    loads = ptr_loads n.ptrs n.datums l r;
    compared = Ptrs (op_arg n.ptrs l) (op_arg (n.ptrs + 1) r);
    ptrs = op_used n.ptrs l ++ op_used (n.ptrs + 1) r;
    datums = [];
  }

  abbrev pub data_parts : DataOp → DataOp → Comparison
  data_parts l r = record {
    loads = cmp_loads n.ptrs n.datums l r;
    compared = Data (data_op_arg n.datums l) (data_op_arg (n.datums + 1) r);
    ptrs = op_base_used n.ptrs l ++ op_base_used (n.ptrs + 1) r;
    datums = op_data_used n.datums l ++ op_data_used (n.datums + 1) r;
  }

abbrev pub parts_edges : Comparison → ℕ → ℕ → ℕ → ℕ → List Edge
parts_edges parts line k same other =
    test_edges line parts.loads (test_of parts.compared) (ends parts.ptrs parts.datums) k same other

-- the two edges of the test
abbrev pub tests_of : Compared → ℕ → ℕ → ℕ → ℕ → List Edge
tests_of compared line k same other = edge line k same (test_of compared true) None
    ∷ edge line k other (test_of compared false) None ∷ []

-- what ends a branch
abbrev pub end_of : Comparison → ℕ → ℕ → ℕ → List Edge
end_of parts line k to = edge line k to (Kill parts.ptrs parts.datums) None ∷ []
