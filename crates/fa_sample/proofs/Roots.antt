-- The roots of a forest are reserved, and then the slots of each are walked.
use Rattle.std.proofs.Common.{◌≡◌, ℕ, zero, suc, ◌<◌, ◌≤◌, ◌+◌, List, [], ◌∷◌, ◌++◌, map, length, length-append, refl}
use Rattle.std.proofs.Common.{◌-◌, drop, get_or, slice_index_or, sym, ap, ap₂, ◌∙◌, arith}
use Rattle.fore_base.specs.declared.store.Value.{Value}
use Rattle.fore_base.specs.declared.store.Value.TheVariants.{Null as NullValue, Uninit as UninitValue}
use Rattle.fore_base.specs.declared.store.Value.TheVariants.{Dangling as DanglingValue, Cell as CellValue}
use Rattle.ta_core.specs.declared.symbol.Symbol.{Symbol}
use Rattle.ta_core.specs.declared.symbol.Symbol.TheVariants.{Null, Uninit, Dangling, Ref, Cell}
use Rattle.ta_core.specs.declared.tree.Tree.{Tree, out-Tree, fold_out-Tree}
use Rattle.fa_core.specs.Dressed.{Node, Nodes, node, Fact, with_ports}
use Rattle.fa_sample.specs.declared.drafts.Draft.{Draft}
use Rattle.fa_sample.specs.inner.Dressing.{Making, Insides, made_at, made, root_made, roots_made, port_made}
use Rattle.fa_sample.specs.inner.Dressing.{ports_made, root_values, roots_begun, forest_made, insides_made}
use Rattle.fa_sample.specs.inner.Emitted.{node_head, root_heads, slots_out, node_out, trees_out, port_out, forest_out}
use Rattle.fa_sample.specs.inner.Walk.{ends, followed_by, followed, root_draft, roots_reserved, top_made, root_out}
use Rattle.fa_sample.specs.inner.Walk.{roots_out, root_ended, roots_ended}
use Rattle.fa_sample.specs.inner.Written.{written}
use Rattle.fa_sample.proofs.Forests.{ports_values}
use Rattle.fa_sample.proofs.Steps.{written_both}

-- facts or cells, and the number that is free after them
abbrev Out : Type 0
Out = List Fact × ℕ

abbrev out : List Fact → ℕ → Out
out fs k = (fs, k)

abbrev cells_and : List Draft → ℕ → List Draft × ℕ
cells_and cs k = (cs, k)

module _ (ins : Insides) (vs : List Value) where
  made_out : (t : Tree) → made ins vs t ≡ made_at ins vs (out-Tree t).symbol (map (made ins vs) (out-Tree t).children)
  made_out t = fold_out-Tree Making (λ t. made_at ins vs t.symbol t.children) t

  abbrev made_by : Symbol → List Tree → Making
  made_by y ws = made_at ins vs y (map (made ins vs) ws)

  -- Heads.

  head_by : (y : Symbol) (ws : List Tree) (own k : ℕ) (cs : List Draft)
      → written (node_head (root_made (made_by y ws) own k).0) cs ≡ cs ++ root_draft y ∷ []
  head_by Null ws own k cs = refl
  head_by Uninit ws own k cs = refl
  head_by Dangling ws own k cs = refl
  head_by (Ref r) ws own k cs = refl
  head_by (Cell s ds ss) ws own k cs = refl

  one_head : (t : Tree) (own k : ℕ) (cs : List Draft)
      → written (node_head (root_made (made ins vs t) own k).0) cs ≡ cs ++ root_draft (out-Tree t).symbol ∷ []
  one_head t own k cs = ap (λ (m : Making). written (node_head (root_made m own k).0) cs) (made_out t)
      ∙ head_by (out-Tree t).symbol (out-Tree t).children own k cs

  roots_written : (ts : List Tree) (own k : ℕ) (cs : List Draft)
      → written (root_heads [] (roots_made (map (made ins vs) ts) own k).0) cs ≡ roots_reserved [] ts cs
  roots_written [] own k cs = refl
  roots_written (t ∷ ts) own k cs =
      let next : ℕ = (root_made (made ins vs t) own k).1 in
      written_both (node_head (root_made (made ins vs t) own k).0)
      (root_heads [] (roots_made (map (made ins vs) ts) (suc own) (root_made (made ins vs t) own k).1).0) cs
      ∙ ap (written (root_heads [] (roots_made (map (made ins vs) ts) (suc own) (root_made (made ins vs t) own k).1).0))
      (one_head t own k cs)
      ∙ roots_written ts (suc own) (root_made (made ins vs t) own k).1 (cs ++ root_draft (out-Tree t).symbol ∷ [])

  heads_written : (ports : List Value) (ts : List Tree) (own k : ℕ) (cs : List Draft)
      → written (root_heads ports (ports_made ports (map (made ins vs) ts) own k).0) cs ≡ roots_reserved ports ts cs
  heads_written [] ts own k cs = roots_written ts own k cs
  heads_written (v ∷ ports) [] own k cs = refl
  heads_written (v ∷ ports) (t ∷ ts) own k cs =
      heads_written ports ts own (port_made v (made ins vs t) k).1 cs

  -- Slots.

  abbrev same_out : List Fact × ℕ → List Fact × ℕ → Type 0
  same_out a b = a ≡ b

  one_by : (y : Symbol) (ws : List Tree) (own k : ℕ)
      → out (node_out vs (root_made (made_by y ws) own k).0) (root_made (made_by y ws) own k).1
      ≡ out (slots_out vs own (top_made ins vs y ws own k).0) (top_made ins vs y ws own k).1
  one_by Null ws own k = refl
  one_by Uninit ws own k = refl
  one_by Dangling ws own k = refl
  one_by (Ref r) ws own k = refl
  one_by (Cell s ds ss) ws own k = refl

  one_out : (t : Tree) (own k : ℕ)
      → out (node_out vs (root_made (made ins vs t) own k).0) (root_made (made ins vs t) own k).1
      ≡ root_out ins vs (CellValue own) t k
  one_out t own k =
      ap (λ (m : Making). out (node_out vs (root_made m own k).0) (root_made m own k).1) (made_out t)
      ∙ one_by (out-Tree t).symbol (out-Tree t).children own k

  port_by : (y : Symbol) (ws : List Tree) (c k : ℕ)
      → out (port_out vs (CellValue c) (root_made (made_by y ws) c k).0) (root_made (made_by y ws) c k).1
      ≡ out (slots_out vs c (top_made ins vs y ws c k).0) (top_made ins vs y ws c k).1
  port_by Null ws c k = refl
  port_by Uninit ws c k = refl
  port_by Dangling ws c k = refl
  port_by (Ref r) ws c k = refl
  port_by (Cell s ds ss) ws c k = refl

  idle : (v : Value) (n : Node) (k : ℕ) → ((n : Node) → port_out vs v n ≡ []) → out (port_out vs v n) k ≡ out [] k
  idle v n k h = ap (λ (z : List Fact). out z k) (h n)

  port_same : (v : Value) (t : Tree) (k : ℕ)
      → out (port_out vs v (port_made v (made ins vs t) k).0) (port_made v (made ins vs t) k).1 ≡ root_out ins vs v t k
  port_same (CellValue c) t k =
      ap (λ (m : Making). out (port_out vs (CellValue c) (root_made m c k).0) (root_made m c k).1) (made_out t)
      ∙ port_by (out-Tree t).symbol (out-Tree t).children c k
  port_same NullValue t k = idle NullValue (root_made (made ins vs t) 0 k).0 k none
    where
      none : (n : Node) → port_out vs NullValue n ≡ []
      none (node c s ds ps) = refl
  port_same UninitValue t k = idle UninitValue (root_made (made ins vs t) 0 k).0 k none
    where
      none : (n : Node) → port_out vs UninitValue n ≡ []
      none (node c s ds ps) = refl
  port_same DanglingValue t k = idle DanglingValue (root_made (made ins vs t) 0 k).0 k none
    where
      none : (n : Node) → port_out vs DanglingValue n ≡ []
      none (node c s ds ps) = refl

  roots_walked : (ts : List Tree) (own k : ℕ)
      → out (trees_out vs [] (roots_made (map (made ins vs) ts) own k).0) (roots_made (map (made ins vs) ts) own k).1
      ≡ roots_out ins vs (root_values [] ts own) ts k
  roots_walked [] own k = refl
  roots_walked (t ∷ ts) own k =
      ap (λ (p : Out). out (p.0 ++ trees_out vs [] (roots_made (map (made ins vs) ts) (suc own) p.1).0)
      (roots_made (map (made ins vs) ts) (suc own) p.1).1) (one_out t own k)
      ∙ ap (λ (p : Out). out ((root_out ins vs (CellValue own) t k).0 ++ p.0) p.1)
      (roots_walked ts (suc own) (root_out ins vs (CellValue own) t k).1)

  trees_walked : (ports : List Value) (ts : List Tree) (own k : ℕ)
      → out (trees_out vs ports (ports_made ports (map (made ins vs) ts) own k).0)
      (ports_made ports (map (made ins vs) ts) own k).1 ≡ roots_out ins vs (root_values ports ts own) ts k
  trees_walked [] ts own k = roots_walked ts own k
  trees_walked (v ∷ ports) [] own k = refl
  trees_walked (v ∷ ports) (t ∷ ts) own k =
      ap (λ (p : Out). out (p.0 ++ trees_out vs ports (ports_made ports (map (made ins vs) ts) own p.1).0)
      (ports_made ports (map (made ins vs) ts) own p.1).1) (port_same v t k)
      ∙ ap (λ (p : Out). out ((root_out ins vs v t k).0 ++ p.0) p.1)
      (trees_walked ports ts own (root_out ins vs v t k).1)

roots_long : (ports : List Value) (ts : List Tree) (cs : List Draft)
    → suc (length (roots_reserved ports ts cs)) ≡ roots_begun ports ts (suc (length cs))
roots_long ports [] cs = refl
roots_long (v ∷ ports) (t ∷ ts) cs = roots_long ports ts cs
roots_long [] (t ∷ ts) cs =
    let e : length (cs ++ root_draft (out-Tree t).symbol ∷ []) ≡ suc (length cs) =
    (let z = length-append cs (root_draft (out-Tree t).symbol ∷ []) in omega (arith, z)) in
    roots_long [] ts (cs ++ root_draft (out-Tree t).symbol ∷ []) ∙ ap (λ (n : ℕ). roots_begun [] ts (suc n)) e

-- what a forest writes: its roots, and then what is walked below them
pub forest_walked : (ins : Insides) (ports : List Value) (ts : List Tree) (cs : List Draft)
    → (let vs = root_values ports ts (suc (length cs)) in
    let r = roots_out ins vs vs ts (suc (length (roots_reserved ports ts cs))) in
    let f = forest_made ins ports ts (suc (length cs)) in
    cells_and (written r.0 (roots_reserved ports ts cs)) r.1 ≡ cells_and (written (forest_out ports f.0) cs) f.1)
forest_walked ins ports ts cs =
    let k : ℕ = suc (length cs) in
    let vs : List Value = root_values ports ts (suc (length cs)) in
    let n : ℕ = roots_begun ports ts (suc (length cs)) in
    let w = trees_walked ins (root_values ports ts (suc (length cs))) ports ts (suc (length cs))
    (roots_begun ports ts (suc (length cs))) in
    let h = heads_written ins (root_values ports ts (suc (length cs))) ports ts (suc (length cs))
    (roots_begun ports ts (suc (length cs))) cs in
    let p = ports_values ports (made ins (root_values ports ts (suc (length cs)))) ts (suc (length cs))
    (roots_begun ports ts (suc (length cs))) in
    let d : Nodes = (forest_made ins ports ts (suc (length cs))).0 in
    ap (λ (j : ℕ). (let r = roots_out ins (root_values ports ts (suc (length cs)))
    (root_values ports ts (suc (length cs))) ts j in
    cells_and (written r.0 (roots_reserved ports ts cs)) r.1)) (roots_long ports ts cs)
    ∙ ap (λ (r : Out). cells_and (written r.0 (roots_reserved ports ts cs)) r.1) (sym w)
    ∙ ap₂ (λ (z : List Draft) (ws : List Value).
    cells_and (written (trees_out ws ports (forest_made ins ports ts (suc (length cs))).0) z)
    (forest_made ins ports ts (suc (length cs))).1) (sym h) (sym p)
    ∙ ap (λ (z : List Draft). cells_and z (forest_made ins ports ts (suc (length cs))).1)
    (sym (written_both (root_heads ports (forest_made ins ports ts (suc (length cs))).0)
    (trees_out (with_ports ports (forest_made ins ports ts (suc (length cs))).0) ports
    (forest_made ins ports ts (suc (length cs))).0) cs))

-- What the code knows of one root, and of a forest.

module _ (ins : Insides) (vs : List Value) where
  pub root_step : (w : Value) (t : Tree) (cs new : List Draft)
      → cells_and new (suc (length new)) ≡ root_ended ins vs w t cs → (ws : List Value) (ts : List Tree)
      → roots_ended ins vs (w ∷ ws) (t ∷ ts) cs ≡ roots_ended ins vs ws ts new
  root_step w t cs new e ws ts =
      let n : suc (length new) ≡ (root_out ins vs w t (suc (length cs))).1 = ap (λ (z : List Draft × ℕ). z.1) e in
      let c : new ≡ written (root_out ins vs w t (suc (length cs))).0 cs = ap (λ (z : List Draft × ℕ). z.0) e in
      ap (λ (z : List Draft). cells_and z (roots_out ins vs ws ts (root_out ins vs w t (suc (length cs))).1).1)
      (written_both (root_out ins vs w t (suc (length cs))).0
      (roots_out ins vs ws ts (root_out ins vs w t (suc (length cs))).1).0 cs)
      ∙ ap₂ (λ (k : ℕ) (z : List Draft).
      cells_and (written (roots_out ins vs ws ts k).0 z) (roots_out ins vs ws ts k).1) (sym n) (sym c)

  pub roots_none : (ws : List Value) (cs : List Draft) → roots_ended ins vs ws [] cs ≡ cells_and cs (suc (length cs))
  roots_none [] cs = refl
  roots_none (w ∷ ws) cs = refl

  -- where there is no tree nothing is done
  pub roots_past : (w : Value) (ws : List Value) (ts : List Tree) (cs : List Draft) → length ts ≡ 0
      → roots_ended ins vs (w ∷ ws) ts cs ≡ roots_ended ins vs ws ts cs
  roots_past w ws [] cs e = sym (roots_none ws cs)
  roots_past w ws (t ∷ ts) cs e = let z : suc (length ts) ≡ 0 = e in absurd (omega (arith, z))

  -- nor where there is no root
  pub root_past : (ws : List Value) (n : ℕ) (ts : List Tree) (cs : List Draft) → length ws ≤ n
      → roots_ended ins vs (drop n ws) ts cs ≡ roots_ended ins vs (drop (n + 1) ws) ts cs
  root_past ws n ts cs l =
      ap (λ (z : List Value). roots_ended ins vs z ts cs)
      (drop_past ws n l ∙ sym (drop_past ws (n + 1) (omega (arith, l))))
    where
      drop_past : (ws : List Value) (n : ℕ) → length ws ≤ n → drop n ws ≡ []
      drop_past [] zero l = refl
      drop_past [] (suc n) l = refl
      drop_past (w ∷ ws) zero l = absurd (let z : suc (length ws) ≤ 0 = l in omega (arith, z))
      drop_past (w ∷ ws) (suc n) l = drop_past ws n (let z : suc (length ws) ≤ suc n = l in omega (arith, z))

  -- nor where the root is no cell
  abbrev pub IsNoCell : Value → Type 0
  IsNoCell NullValue = Unit {0}
  IsNoCell UninitValue = Unit {0}
  IsNoCell DanglingValue = Unit {0}
  IsNoCell (CellValue c) = ⊥

  pub root_skipped : (w : Value) (ws : List Value) (ts us : List Tree) (t : Tree) (cs : List Draft) → IsNoCell w
      → ts ≡ t ∷ us → roots_ended ins vs (w ∷ ws) ts cs ≡ roots_ended ins vs ws us cs
  root_skipped w ws ts us t cs n e =
      ap (λ (z : List Tree). roots_ended ins vs (w ∷ ws) z cs) e ∙ root_step w t cs cs (same w n) ws us
    where
      same : (w : Value) → IsNoCell w → cells_and cs (suc (length cs)) ≡ root_ended ins vs w t cs
      same NullValue n = refl
      same UninitValue n = refl
      same DanglingValue n = refl
      same (CellValue c) n = absurd n

  pub root_done : (w : Value) (c : ℕ) (ws : List Value) (ts us : List Tree) (t : Tree) (cs new : List Draft)
      → w ≡ CellValue c → ts ≡ t ∷ us → cells_and new (suc (length new)) ≡ root_ended ins vs (CellValue c) t cs
      → roots_ended ins vs (w ∷ ws) ts cs ≡ roots_ended ins vs ws us new
  root_done w c ws ts us t cs new a e h =
      ap₂ (λ (x : Value) (z : List Tree). roots_ended ins vs (x ∷ ws) z cs) a e
      ∙ root_step (CellValue c) t cs new h ws us

  -- a cell as a root
  pub root_walked : (own : ℕ) (t : Tree) (cs : List Draft)
      → ends ins vs (followed t own []) cs ≡ root_ended ins vs (CellValue own) t cs
  root_walked own t cs = by (out-Tree t).symbol (out-Tree t).children
    where
      by : (y : Symbol) (us : List Tree)
          → ends ins vs (followed_by y us own []) cs
          ≡ cells_and (written (slots_out vs own (top_made ins vs y us own (suc (length cs))).0) cs)
          (top_made ins vs y us own (suc (length cs))).1
      by Null us = refl
      by Uninit us = refl
      by Dangling us = refl
      by (Ref r) us = refl
      by (Cell s ds ss) us = refl

pub forest_cells : (ins : Insides) (ports vs : List Value) (ts : List Tree) (cs mid new : List Draft)
    → vs ≡ root_values ports ts (suc (length cs)) → mid ≡ roots_reserved ports ts cs
    → cells_and new (suc (length new)) ≡ roots_ended ins vs vs ts mid
    → cells_and new (suc (length new))
    ≡ cells_and (written (forest_out ports (forest_made ins ports ts (suc (length cs))).0) cs)
    (forest_made ins ports ts (suc (length cs))).1
forest_cells ins ports vs ts cs mid new a b e =
    e ∙ ap₂ (λ (ws : List Value) (z : List Draft). roots_ended ins ws ws ts z) a b ∙ forest_walked ins ports ts cs

-- where no box is, nothing is written
pub nothing_made : (ins : Insides) (ports : List Value) (k : ℕ) (cs : List Draft)
    → cells_and (written (forest_out ports (forest_made ins ports [] k).0) cs) (forest_made ins ports [] k).1
    ≡ cells_and cs k
nothing_made ins [] k cs = refl
nothing_made ins (v ∷ ports) k cs = refl

-- an inside that is not there, and one that is
pub inside_missing : (boxes : List (List Tree)) (depth b : ℕ) (ports : List Value) (cs : List Draft)
    → length boxes ≤ b
    → cells_and cs (suc (length cs))
    ≡ cells_and (written (forest_out ports (insides_made boxes depth b ports (suc (length cs))).0) cs)
    (insides_made boxes depth b ports (suc (length cs))).1
inside_missing boxes zero b [] cs l = refl
inside_missing boxes zero b (v ∷ ports) cs l = refl
inside_missing boxes (suc n) b ports cs l =
    sym
    (ap (λ (ts : List Tree). cells_and
    (written (forest_out ports (forest_made (insides_made boxes n) ports ts (suc (length cs))).0) cs)
    (forest_made (insides_made boxes n) ports ts (suc (length cs))).1) (past boxes b l)
    ∙ nothing_made (insides_made boxes n) ports (suc (length cs)) cs)
  where
    past : (boxes : List (List Tree)) (b : ℕ) → length boxes ≤ b → slice_index_or boxes b [] ≡ []
    past [] b l = refl
    past (ts ∷ boxes) zero l = absurd (let z : suc (length boxes) ≤ 0 = l in omega (arith, z))
    past (ts ∷ boxes) (suc b) l = past boxes b (let z : suc (length boxes) ≤ suc b = l in omega (arith, z))

pub inside_there : (boxes : List (List Tree)) (depth less b : ℕ) (ports : List Value) (ts : List Tree)
    (cs new : List Draft) → depth ≡ suc less → b < length boxes → ts ≡ get_or boxes b ts
    → new ≡ written (forest_out ports (forest_made (insides_made boxes less) ports ts (suc (length cs))).0) cs
    → suc (length new) ≡ (forest_made (insides_made boxes less) ports ts (suc (length cs))).1
    → cells_and new (suc (length new))
    ≡ cells_and (written (forest_out ports (insides_made boxes depth b ports (suc (length cs))).0) cs)
    (insides_made boxes depth b ports (suc (length cs))).1
inside_there boxes depth less b ports ts cs new d l g e n =
    ap₂ (λ (z : List Draft) (k : ℕ). cells_and z k) e n
    ∙ ap (λ (us : List Tree). cells_and
    (written (forest_out ports (forest_made (insides_made boxes less) ports us (suc (length cs))).0) cs)
    (forest_made (insides_made boxes less) ports us (suc (length cs))).1) (found boxes b ts l g)
    ∙ ap (λ (k : ℕ). cells_and (written (forest_out ports (insides_made boxes k b ports (suc (length cs))).0) cs)
    (insides_made boxes k b ports (suc (length cs))).1) (sym d)
  where
    found : (boxes : List (List Tree)) (b : ℕ) (ts : List Tree) → b < length boxes → ts ≡ get_or boxes b ts
        → ts ≡ slice_index_or boxes b []
    found [] b ts l e = absurd (omega (arith, l))
    found (us ∷ boxes) zero ts l e = e
    found (us ∷ boxes) (suc b) ts l e = found boxes b ts (let z : suc b < suc (length boxes) = l in omega (arith, z)) e

pub one_less : (n : ℕ) → (n ≡ 0 → ⊥) → n ≡ suc (n - 1)
one_less zero h = absurd (h refl)
one_less (suc n) h = omega arith
