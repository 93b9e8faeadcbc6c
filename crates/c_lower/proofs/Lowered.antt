-- The lowering by consecutive numbers is one of its program.
use Rattle.std.proofs.Common.{◌≡◌, inr, ℕ, zero, suc, ◌+◌, ◌<◌, Bool, true, false, List, [], ◌∷◌, ◌++◌, length, map}
use Rattle.std.proofs.Common.{replicate, refl, sym, ap, ◌∙◌, subst, arith}
use Rattle.std.proofs.lemmas.List.{length-replicate}
use Rattle.std.specs.List.Sorted.{IsPermutation}
use Rattle.fore_base.specs.Lists.{Every}
use Rattle.c_types.specs.declared.mode.MallocMode.{MallocMode}
use Rattle.c_types.specs.declared.mode.MallocMode.TheVariants.{Always}
use Rattle.c_types.specs.Program.{Program}
use Rattle.c_types.specs.Control.{Items, Done, start_of}
use Rattle.c_types.specs.Steps.{below}
use Rattle.c_cfg.specs.declared.graph.Edge.{Edge}
use Rattle.c_cfg.specs.Places.{places}
use Rattle.c_cfg.specs.Lowering.{LowerOf}
use Rattle.c_lower.specs.inner.Numbering.{span, loc, mids_of, lines, exit_of, line_of, numbered, edges_of, lowered}
use Rattle.c_lower.specs.inner.Emitting.{first_of}
use Rattle.fore_base.specs.declared.shape.Shapes.{Shapes}
use Rattle.fore_base.specs.Stores.{set_each}
use Rattle.c_types.proofs.CellsFit.{length_set_each}
use Rattle.c_cfg.specs.Graphs.{ControlGraph, HasItsChoice, HasChoiceAsChoose}
use Rattle.c_cfg.specs.Lowering.{is_one_of}
use Rattle.c_lower.specs.inner.Numbering.{heads_of, graph_for}
use Rattle.c_lower.specs.inner.Emitting.{in_loop, wide_all, emit_all, head_numbers, heads_all}
use Rattle.c_links.specs.Failing.{edges_in}
use Rattle.c_lower.proofs.Compiled.{emits}
use Rattle.c_lower.proofs.Doubling.{told_in, lowers_in}
use Rattle.c_lower.proofs.Told.{all_told, all_have}
use Rattle.c_lower.proofs.LoopHeads.{heads_numbered}
use Rattle.c_lower.proofs.Marking.{entries_are}
use Rattle.c_lower.proofs.Standing.{all_whole}
use Rattle.c_lower.proofs.Lines.{lined_all, back}
use Rattle.c_lower.proofs.Numbers.{total, total_is, numbers_are, span_below, marks_differ}
use Rattle.c_lower.proofs.Ordered.{good_all, rows_all}
use Rattle.c_cfg.proofs.Spans.{Within, out_off}
use Rattle.c_lower.proofs.Stacking.{Stacked, stacked, loc_open}

first_zero : (e : ℕ) → first_of e 0 e ≡ 0
first_zero zero = refl
first_zero (suc n) = refl

same_list : {xs ys : List ℕ} → xs ≡ ys → IsPermutation xs ys
same_list {xs} {ys} h = record { moves = []; below = tt; is = sym h }

below_all : (e : ℕ) (es : List Edge) → Within 0 e es → Every (λ f. f.from < e + 1) es
below_all e [] h = tt
below_all e (f ∷ es) h = (omega (arith, h.0.1), below_all e es h.1)

pub lowers : (p : Program) → LowerOf p Always (lowered p)
lowers p =
    let nv = length p.vars in let nd = length p.data_vars in
    let items = start_of p in
    let q = numbered nv nd items in
    let e = exit_of nv nd items in
    let line : ℕ → ℕ = line_of nv nd items in
    let zero_e : 0 + e ≡ e = omega arith in
    let st : Stacked nv nd 0 (places q Done) e =
    subst (λ k. Stacked nv nd 0 (places q Done) k) zero_e (stacked nv nd items 0 Done) in
    let good = good_all nv nd e line (places q Done) 0 e st in
    record {
      items = q;
      line = line;
      is_program = back nv nd line items 0
          (lined_all nv nd (lines nv nd items) (lines nv nd items) 0
          (λ k. let z : 0 + k ≡ k = omega arith in ap line z));
      own_marks = marks_differ nv nd (places q Done) 0 e st;
      at = loc nv nd e;
      mids = mids_of nv nd;
      entry = loc_open nv nd e items 0 Done Done ∙ first_zero e;
      exit = out_off 0 e (edges_of nv nd items) e good.0 (inr (omega arith));
      rows = rows_all nv nd (edges_of nv nd items) e line (places q Done) 0 e st (λ k x y. refl);
      all_numbers = same_list (
          numbers_are nv nd e (places q Done) 0 e st
          ∙ ap (λ n. span 0 n ++ e ∷ [])
          (let t : total nv nd (places q Done) ≡ e = omega (arith, total_is nv nd (places q Done) 0 e st) in t)
          ∙ ap (λ ns. ns ++ e ∷ []) (span_below nv nd e) ∙ (let z : suc e ≡ e + 1 = omega arith in ap below z));
      each_from = below_all e (edges_of nv nd items) good.0;
      in_order = good.1;
      ptrs = refl;
      datums = refl;
      heads_are = refl;
      shapes = refl;
    }

-- What the code makes of a program is this lowering.

module _ (p : Program) where
  abbrev own : Items
  own = start_of p

  -- calls are followed as deep as there are functions
  abbrev deep : ℕ
  deep = length p.funcs

  abbrev nv : ℕ
  nv = length p.vars

  abbrev nd : ℕ
  nd = length p.data_vars

  edges_emitted : edges_of nv nd own
      ≡ emit_all p.funcs deep nv nd (exit_of nv nd own) p.body
      (in_loop (exit_of nv nd own) (exit_of nv nd own) (exit_of nv nd own)) 0 (exit_of nv nd own)
  unfolding emit_all
  edges_emitted =
      let e = exit_of nv nd own in let line : ℕ → ℕ = line_of nv nd own in
      emits nv nd e line 0 own (all_whole p.funcs deep p.body 0 Done refl) 0 Done (in_loop e e e) e refl
      (record { leaves = refl; agains = refl; ptrs = refl; datums = refl; backs = refl })
      (lined_all nv nd (lines nv nd own) (lines nv nd own) 0
      (λ k. let z : 0 + k ≡ k = omega arith in ap line z))

  heads_entered : heads_of nv nd own
      ≡ set_each (replicate (exit_of nv nd own + 1) false) (heads_all p.funcs deep nv nd p.body 0) true
  unfolding heads_all
  heads_entered =
      ap (λ (ks : List ℕ). map (is_one_of ks) (below (exit_of nv nd own + 1)))
      (heads_numbered nv nd (exit_of nv nd own) 0 own (all_whole p.funcs deep p.body 0 Done refl) 0 Done)
      ∙ sym (entries_are (head_numbers nv nd own 0) (exit_of nv nd own + 1))

  exit_wide : wide_all p.funcs deep nv nd p.body ≡ exit_of nv nd own
  unfolding wide_all
  exit_wide = refl

  abbrev pub graph_of : ℕ → ℕ → ℕ → List Edge → List Bool → Shapes → ControlGraph
  graph_of l q d es hs shapes = record { locations = l; ptrs = q; datums = d; edges = es; heads = hs; shapes = shapes }

  module _ (e : ℕ) (exit : e ≡ wide_all p.funcs deep nv nd p.body) where
    pub edges_are : (es : List Edge) → es ≡ emit_all p.funcs deep nv nd e p.body (in_loop e e e) 0 e → es
        ≡ edges_of nv nd own
    edges_are es h = h ∙ ap (λ k. emit_all p.funcs deep nv nd k p.body (in_loop k k k) 0 k) (exit ∙ exit_wide)
        ∙ sym edges_emitted

    pub heads_have : (hs : List Bool) → hs ≡ set_each (replicate (e + 1) false) (heads_all p.funcs deep nv nd p.body 0)
        true
        → hs ≡ heads_of nv nd own
    heads_have hs h = h ∙ ap (λ k. set_each (replicate (k + 1) false) (heads_all p.funcs deep nv nd p.body 0) true)
        (exit ∙ exit_wide) ∙ sym heads_entered

    pub heads_long : (hs : List Bool) → hs ≡ set_each (replicate (e + 1) false) (heads_all p.funcs deep nv nd p.body 0)
        true
        → length hs ≡ e + 1
    heads_long hs h = ap length h ∙ length_set_each (replicate (e + 1) false) (heads_all p.funcs deep nv nd p.body 0)
        true
        ∙ length-replicate (e + 1) false

    pub choices_told : (mode : MallocMode) (es : List Edge) → es
        ≡ emit_all p.funcs deep nv nd e p.body (in_loop e e e) 0 e
        → Every HasItsChoice (edges_in mode es)
    choices_told mode es h = told_in mode es (all_have es (subst (Every HasChoiceAsChoose) (sym (edges_are es h))
        (all_told nv nd (exit_of nv nd own) (line_of nv nd own)
        (places (numbered nv nd own) Done))))

    pub built : (mode : MallocMode) (l q d : ℕ) (es : List Edge) (hs : List Bool) (shapes : Shapes) → l ≡ e + 1
        → q ≡ nv + 2 → d ≡ nd + 2 → es ≡ emit_all p.funcs deep nv nd e p.body (in_loop e e e) 0 e
        → hs ≡ set_each (replicate (e + 1) false) (heads_all p.funcs deep nv nd p.body 0) true → shapes ≡ p.shapes
        → LowerOf p mode (graph_of l q d (edges_in mode es) hs shapes)
    built mode l q d es hs shapes el eq ed ee eh es2 =
        let path : graph_of l q d es hs shapes ≡ graph_for p own =
        ap (λ z. graph_of z q d es hs shapes) (el ∙ ap (λ k. k + 1) (exit ∙ exit_wide))
        ∙ ap (λ z. graph_of (exit_of nv nd own + 1) z d es hs shapes) eq
        ∙ ap (λ z. graph_of (exit_of nv nd own + 1) (nv + 2) z es hs shapes) ed
        ∙ ap (λ z. graph_of (exit_of nv nd own + 1) (nv + 2) (nd + 2) z hs shapes) (edges_are es ee)
        ∙ ap (λ z. graph_of (exit_of nv nd own + 1) (nv + 2) (nd + 2) (edges_of nv nd own) z shapes)
        (heads_have hs eh)
        ∙ ap
        (λ z. graph_of (exit_of nv nd own + 1) (nv + 2) (nd + 2) (edges_of nv nd own)
        (heads_of nv nd own) z) es2 in
        lowers_in mode p (graph_of l q d es hs shapes)
        (subst (LowerOf p Always) (sym path) (lowers p))
