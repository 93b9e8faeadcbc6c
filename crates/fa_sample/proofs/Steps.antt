-- One step of a walk leaves the facts that the tasks write as they are, and does some of what is to be done.
use Rattle.std.proofs.Common.{◌≡◌, ℕ, zero, suc, ◌<◌, ◌≤◌, ◌+◌, List, [], ◌∷◌, ◌++◌, map, length, length-append, refl}
use Rattle.std.proofs.Common.{sym, ap, ap₂, subst, ◌∙◌, arith, append_assoc, append-nil}
use Rattle.std.proofs.lemmas.List.{nil_from_length}
use Rattle.fore_base.specs.Lists.{sum_of}
use Rattle.fore_base.specs.declared.store.Value.{Value}
use Rattle.fore_base.specs.declared.store.Value.TheVariants.{Cell as CellValue}
use Rattle.ta_core.specs.declared.symbol.Slot.{Slot}
use Rattle.ta_core.specs.declared.symbol.Slot.TheVariants.{Field, Link, Hook}
use Rattle.ta_core.specs.declared.symbol.Symbol.{Symbol}
use Rattle.ta_core.specs.declared.symbol.Symbol.TheVariants.{Null, Uninit, Dangling, Ref, Cell}
use Rattle.ta_core.specs.declared.tree.Tree.{Tree, out-Tree, fold_out-Tree}
use Rattle.fa_core.specs.Dressed.{Nodes, Fact, Head, Points, end_value}
use Rattle.fa_sample.specs.declared.drafts.Draft.{Draft}
use Rattle.fa_sample.specs.declared.drafts.FieldValue.{FieldValue}
use Rattle.fa_sample.specs.inner.Dressing.{Making, Insides, begun, top_of, ended, parts_made, made_at, made}
use Rattle.fa_sample.specs.inner.Emitted.{end_head, slots_out, below_out, forest_out}
use Rattle.fa_sample.specs.inner.Walk.{Todo, task_made, pending, value_by, top_value, reserved_by, reserved}
use Rattle.fa_sample.specs.inner.Walk.{followed_by}
use Rattle.fa_sample.specs.inner.Walk.{followed, slot_count, made_from, ends}
use Rattle.fa_sample.specs.inner.Walk.{size, task_weight, weight}
use Rattle.fa_sample.specs.inner.Written.{put_field, new_draft, written}
use Rattle.fa_sample.proofs.Writing.{put_at_long}

pub written_both : (xs ys : List Fact) (cs : List Draft) → written (xs ++ ys) cs ≡ written ys (written xs cs)
written_both [] ys cs = refl
written_both (Head c s ds ∷ xs) ys cs = written_both xs ys (cs ++ new_draft s ds ∷ [])
written_both (Points c f v ∷ xs) ys cs = written_both xs ys (put_field c (record { field = f; value = v }) cs)

module _ (ins : Insides) (vs : List Value) where
  -- the last task comes first
  pub pending_last : (ts : List Todo) (t : Todo) (k : ℕ)
      → pending ins vs (ts ++ t ∷ []) k ≡ (
        slots_out vs t.cell (task_made ins vs t k).0 ++ (pending ins vs ts (task_made ins vs t k).1).0,
        (pending ins vs ts (task_made ins vs t k).1).1,
      )
  pending_last [] t k = ap (λ (z : List Fact). (z, (task_made ins vs t k).1))
      (sym (append-nil (slots_out vs t.cell (task_made ins vs t k).0)))
  pending_last (u ∷ ts) t k =
      ap (λ (p : List Fact × ℕ). (p.0 ++ slots_out vs u.cell (task_made ins vs u p.1).0, (task_made ins vs u p.1).1))
      (pending_last ts t k)
      ∙ ap (λ (z : List Fact). (z, (task_made ins vs u (pending ins vs ts (task_made ins vs t k).1).1).1))
      (append_assoc (slots_out vs t.cell (task_made ins vs t k).0) (pending ins vs ts (task_made ins vs t k).1).0
      (slots_out vs u.cell (task_made ins vs u (pending ins vs ts (task_made ins vs t k).1).1).0))

  made_out : (t : Tree) → made ins vs t ≡ made_at ins vs (out-Tree t).symbol (map (made ins vs) (out-Tree t).children)
  made_out t = fold_out-Tree Making (λ t. made_at ins vs t.symbol t.children) t

  abbrev MadeFrom : List Todo → ℕ → List Draft → List Draft × ℕ
  MadeFrom = made_from ins vs

  abbrev Ends : List Todo → List Draft → List Draft × ℕ
  Ends = ends ins vs

  -- the last task, and then the others, from a number on
  finish_from : (ts : List Todo) (t : Todo) (k : ℕ) (cs : List Draft) → MadeFrom (ts ++ t ∷ []) k cs
      ≡ MadeFrom ts (task_made ins vs t k).1 (written (slots_out vs t.cell (task_made ins vs t k).0) cs)
  finish_from ts t k cs =
      ap (λ (p : List Fact × ℕ). (written p.0 cs, p.1)) (pending_last ts t k)
      ∙ ap (λ (z : List Draft). (z, (pending ins vs ts (task_made ins vs t k).1).1))
      (written_both (slots_out vs t.cell (task_made ins vs t k).0) (pending ins vs ts (task_made ins vs t k).1).0 cs)

  finish_after : (ts : List Todo) (t : Todo) (cs : List Draft) → Ends (ts ++ t ∷ []) cs
      ≡ MadeFrom ts (task_made ins vs t (suc (length cs))).1
      (written (slots_out vs t.cell (task_made ins vs t (suc (length cs))).0) cs)
  finish_after ts t cs = finish_from ts t (suc (length cs)) cs

  -- a task without slots does nothing
  pub ends_none : (ts : List Todo) (c : ℕ) (us : List Tree) (cs : List Draft)
      → Ends (ts ++ record { cell = c; slots = []; trees = us } ∷ []) cs ≡ Ends ts cs
  ends_none ts c us cs = finish_after ts (record { cell = c; slots = []; trees = us }) cs

  -- nor does one whose trees are at their end
  pub ends_field : (ts : List Todo) (c f : ℕ) (ss : List Slot) (cs : List Draft)
      → Ends (ts ++ record { cell = c; slots = Field f ∷ ss; trees = [] } ∷ []) cs ≡ Ends ts cs
  ends_field ts c f ss cs = finish_after ts (record { cell = c; slots = Field f ∷ ss; trees = [] }) cs

  pub ends_link : (ts : List Todo) (c b : ℕ) (ss : List Slot) (cs : List Draft)
      → Ends (ts ++ record { cell = c; slots = Link b ∷ ss; trees = [] } ∷ []) cs ≡ Ends ts cs
  ends_link ts c b ss cs = finish_after ts (record { cell = c; slots = Link b ∷ ss; trees = [] }) cs

  -- a Hook: its inside is written first
  pub ends_hook : (ts : List Todo) (c b : ℕ) (ss : List Slot) (us : List Tree) (cs new : List Draft)
      → new ≡ written (forest_out (CellValue c ∷ []) (ins b (CellValue c ∷ []) (suc (length cs))).0) cs
      → suc (length new) ≡ (ins b (CellValue c ∷ []) (suc (length cs))).1
      → Ends (ts ++ record { cell = c; slots = ss; trees = us } ∷ []) new
      ≡ Ends (ts ++ record { cell = c; slots = Hook b ∷ ss; trees = us } ∷ []) cs
  ends_hook ts c b ss us cs new e l =
      let t : Todo = record { cell = c; slots = ss; trees = us } in
      let i : List Fact = forest_out (CellValue c ∷ []) (ins b (CellValue c ∷ []) (suc (length cs))).0 in
      finish_after ts (record { cell = c; slots = ss; trees = us }) new
      ∙ ap₂ (λ (k : ℕ) (z : List Draft). (
        written (pending ins vs ts (task_made ins vs (record { cell = c; slots = ss; trees = us }) k).1).0
            (written (slots_out vs c (task_made ins vs (record { cell = c; slots = ss; trees = us }) k).0) z),
        (pending ins vs ts (task_made ins vs (record { cell = c; slots = ss; trees = us }) k).1).1,
      )) l e
      ∙ ap (λ (z : List Draft). (
        written (pending ins vs ts
            (task_made ins vs (record { cell = c; slots = Hook b ∷ ss; trees = us }) (suc (length cs))).1).0 z,
        (pending ins vs ts (task_made ins vs (record { cell = c; slots = Hook b ∷ ss; trees = us })
            (suc (length cs))).1).1,
      ))
      (sym
      (written_both (forest_out (CellValue c ∷ []) (ins b (CellValue c ∷ []) (suc (length cs))).0)
      (slots_out vs c (task_made ins vs (record { cell = c; slots = ss; trees = us })
      (ins b (CellValue c ∷ []) (suc (length cs))).1).0)
      cs))
      ∙ sym (finish_after ts (record { cell = c; slots = Hook b ∷ ss; trees = us }) cs)

  -- A slot with a tree below it: what is made of the tree by its symbol and its children.

  abbrev made_by : Symbol → List Tree → Making
  made_by y ws = made_at ins vs y (map (made ins vs) ws)

  head_written : (y : Symbol) (ws : List Tree) (n : ℕ) (cs : List Draft)
      → written (end_head (ended (made_by y ws) (suc (length cs)) n).0) cs ≡ reserved_by y cs
  head_written Null ws n cs = refl
  head_written Uninit ws n cs = refl
  head_written Dangling ws n cs = refl
  head_written (Ref r) ws n cs = refl
  head_written (Cell s ds ss) ws n cs = refl

  value_is : (y : Symbol) (ws : List Tree) (own n : ℕ)
      → end_value vs (ended (made_by y ws) own n).0 ≡ value_by vs y own
  value_is Null ws own n = refl
  value_is Uninit ws own n = refl
  value_is Dangling ws own n = refl
  value_is (Ref r) ws own n = refl
  value_is (Cell s ds ss) ws own n = refl

  top_is : (y : Symbol) (ws : List Tree) (own : ℕ) → top_of vs (made_by y ws) own ≡ value_by vs y own
  top_is Null ws own = refl
  top_is Uninit ws own = refl
  top_is Dangling ws own = refl
  top_is (Ref r) ws own = refl
  top_is (Cell s ds ss) ws own = refl

  pub reserved_long : (y : Symbol) (ws : List Tree) (cs : List Draft)
      → suc (length (reserved_by y cs)) ≡ begun (made_by y ws) (suc (length cs))
  reserved_long Null ws cs = refl
  reserved_long Uninit ws cs = refl
  reserved_long Dangling ws cs = refl
  reserved_long (Ref r) ws cs = refl
  reserved_long (Cell s ds ss) ws cs = let e = length-append cs (new_draft s ds ∷ []) in omega (arith, e)

  -- the tree below is walked first, and then the slots that are left
  after_child : (y : Symbol) (ws : List Tree) (own : ℕ) (ts : List Todo) (t : Todo) (n : ℕ) (cs : List Draft)
      → MadeFrom (followed_by y ws own (ts ++ t ∷ [])) n cs
      ≡ MadeFrom ts (task_made ins vs t (ended (made_by y ws) own n).1).1
      (written (below_out vs (ended (made_by y ws) own n).0
      ++ slots_out vs t.cell (task_made ins vs t (ended (made_by y ws) own n).1).0) cs)
  after_child Null ws own ts t n cs = finish_from ts t n cs
  after_child Uninit ws own ts t n cs = finish_from ts t n cs
  after_child Dangling ws own ts t n cs = finish_from ts t n cs
  after_child (Ref r) ws own ts t n cs = finish_from ts t n cs
  after_child (Cell s ds ss) ws own ts t n cs =
      let c : Todo = record { cell = own; slots = ss; trees = ws } in
      finish_from (ts ++ t ∷ []) (record { cell = own; slots = ss; trees = ws }) n cs
      ∙ finish_from ts t (ended (made_by (Cell s ds ss) ws) own n).1
      (written (below_out vs (ended (made_by (Cell s ds ss) ws) own n).0) cs)
      ∙ ap (λ (z : List Draft). MadeFrom ts (task_made ins vs t (ended (made_by (Cell s ds ss) ws) own n).1).1 z)
      (sym
      (written_both (below_out vs (ended (made_by (Cell s ds ss) ws) own n).0)
      (slots_out vs t.cell (task_made ins vs t (ended (made_by (Cell s ds ss) ws) own n).1).0) cs))

  field_task : (m : Making) (ts : List Todo) (c f : ℕ) (ss : List Slot) (us : List Tree) (cs : List Draft)
      → (let k : ℕ = suc (length cs) in let e = ended m (suc (length cs)) (begun m (suc (length cs))) in
      let x = parts_made ins vs (Field f ∷ ss) (m ∷ map (made ins vs) us) c (suc (length cs)) in
      let rest : Todo = record { cell = c; slots = ss; trees = us } in
      MadeFrom ts x.1 (written (slots_out vs c x.0) cs)
      ≡ MadeFrom ts (task_made ins vs rest e.1).1
      (written (below_out vs e.0 ++ slots_out vs c (task_made ins vs rest e.1).0)
      (put_field c (record { field = f; value = end_value vs e.0 }) (written (end_head e.0) cs))))
  field_task m ts c f ss us cs =
      let e = ended m (suc (length cs)) (begun m (suc (length cs))) in
      let rest : Todo = record { cell = c; slots = ss; trees = us } in
      ap (λ (z : List Draft). MadeFrom ts (task_made ins vs (record { cell = c; slots = ss; trees = us })
      (ended m (suc (length cs)) (begun m (suc (length cs)))).1).1 z)
      (written_both (end_head (ended m (suc (length cs)) (begun m (suc (length cs)))).0)
      (Points c f (end_value vs (ended m (suc (length cs)) (begun m (suc (length cs)))).0)
      ∷ (below_out vs (ended m (suc (length cs)) (begun m (suc (length cs)))).0
      ++ slots_out vs c (task_made ins vs (record { cell = c; slots = ss; trees = us })
      (ended m (suc (length cs)) (begun m (suc (length cs)))).1).0)) cs)

  put_field_long : (n : ℕ) (x : FieldValue) (cs : List Draft) → length (put_field n x cs) ≡ length cs
  put_field_long zero x cs = refl
  put_field_long (suc at) x cs = put_at_long at x cs

  field_by : (y : Symbol) (ws : List Tree) (ts : List Todo) (c f : ℕ) (ss : List Slot) (us : List Tree)
      (cs : List Draft)
      → (let x = parts_made ins vs (Field f ∷ ss) (made_by y ws ∷ map (made ins vs) us) c (suc (length cs)) in
      let rest : Todo = record { cell = c; slots = ss; trees = us } in
      let new = put_field c (record { field = f; value = value_by vs y (suc (length cs)) }) (reserved_by y cs) in
      Ends (followed_by y ws (suc (length cs)) (ts ++ rest ∷ [])) new
      ≡ MadeFrom ts x.1 (written (slots_out vs c x.0) cs))
  field_by y ws ts c f ss us cs =
      let k : ℕ = suc (length cs) in
      let m : Making = made_by y ws in
      let rest : Todo = record { cell = c; slots = ss; trees = us } in
      let x : FieldValue = record { field = f; value = value_by vs y (suc (length cs)) } in
      let new : List Draft = put_field c (record { field = f; value = value_by vs y (suc (length cs)) })
      (reserved_by y cs) in
      let n : suc (length (put_field c (record { field = f; value = value_by vs y (suc (length cs)) })
      (reserved_by y cs)))
      ≡ begun (made_by y ws) (suc (length cs)) =
      ap suc (put_field_long c (record { field = f; value = value_by vs y (suc (length cs)) }) (reserved_by y cs))
      ∙ reserved_long y ws cs in
      ap (λ (q : ℕ). MadeFrom
      (followed_by y ws (suc (length cs)) (ts ++ record { cell = c; slots = ss; trees = us } ∷ [])) q
      (put_field c (record { field = f; value = value_by vs y (suc (length cs)) }) (reserved_by y cs))) n
      ∙ after_child y ws (suc (length cs)) ts (record { cell = c; slots = ss; trees = us })
      (begun (made_by y ws) (suc (length cs)))
      (put_field c (record { field = f; value = value_by vs y (suc (length cs)) }) (reserved_by y cs))
      ∙ ap₂ (λ (v : Value) (z : List Draft). MadeFrom ts (task_made ins vs (record { cell = c; slots = ss; trees = us })
      (ended (made_by y ws) (suc (length cs)) (begun (made_by y ws) (suc (length cs)))).1).1
      (written (below_out vs (ended (made_by y ws) (suc (length cs)) (begun (made_by y ws) (suc (length cs)))).0
      ++ slots_out vs c (task_made ins vs (record { cell = c; slots = ss; trees = us })
      (ended (made_by y ws) (suc (length cs)) (begun (made_by y ws) (suc (length cs)))).1).0)
      (put_field c (record { field = f; value = v }) z)))
      (sym (value_is y ws (suc (length cs)) (begun (made_by y ws) (suc (length cs)))))
      (sym (head_written y ws (begun (made_by y ws) (suc (length cs))) cs))
      ∙ sym (field_task (made_by y ws) ts c f ss us cs)

  -- a field: the tree's top is reserved, its value is put, and its slots are to be walked
  pub ends_at_field : (ts : List Todo) (c f : ℕ) (ss : List Slot) (t : Tree) (us : List Tree) (cs : List Draft)
      → Ends (followed t (suc (length cs)) (ts ++ record { cell = c; slots = ss; trees = us } ∷ []))
      (put_field c (record { field = f; value = top_value vs t (suc (length cs)) }) (reserved t cs))
      ≡ Ends (ts ++ record { cell = c; slots = Field f ∷ ss; trees = t ∷ us } ∷ []) cs
  ends_at_field ts c f ss t us cs =
      field_by (out-Tree t).symbol (out-Tree t).children ts c f ss us cs
      ∙ ap (λ (m : Making).
      (let x = parts_made ins vs (Field f ∷ ss) (m ∷ map (made ins vs) us) c (suc (length cs)) in
      MadeFrom ts x.1 (written (slots_out vs c x.0) cs))) (sym (made_out t))
      ∙ sym (finish_after ts (record { cell = c; slots = Field f ∷ ss; trees = t ∷ us }) cs)

  link_task : (m : Making) (ts : List Todo) (c b : ℕ) (ss : List Slot) (us : List Tree) (cs : List Draft)
      → (let k : ℕ = suc (length cs) in
      let i = ins b (CellValue c ∷ (top_of vs m (suc (length cs)) ∷ [])) (begun m (suc (length cs))) in
      let e = ended m (suc (length cs)) i.1 in
      let x = parts_made ins vs (Link b ∷ ss) (m ∷ map (made ins vs) us) c (suc (length cs)) in
      let rest : Todo = record { cell = c; slots = ss; trees = us } in
      MadeFrom ts x.1 (written (slots_out vs c x.0) cs)
      ≡ MadeFrom ts (task_made ins vs rest e.1).1
      (written (below_out vs e.0 ++ slots_out vs c (task_made ins vs rest e.1).0)
      (written (forest_out (CellValue c ∷ (end_value vs e.0 ∷ [])) i.0) (written (end_head e.0) cs))))
  link_task m ts c b ss us cs =
      here (ins b (CellValue c ∷ (top_of vs m (suc (length cs)) ∷ [])) (begun m (suc (length cs))))
    where
      here : (i : Nodes × ℕ) → (let e = ended m (suc (length cs)) i.1 in
          let rest : Todo = record { cell = c; slots = ss; trees = us } in
          let q = task_made ins vs rest e.1 in
          MadeFrom ts q.1 (written
          (end_head e.0 ++ (forest_out (CellValue c ∷ (end_value vs e.0 ∷ [])) i.0
          ++ (below_out vs e.0 ++ slots_out vs c q.0))) cs)
          ≡ MadeFrom ts q.1 (written (below_out vs e.0 ++ slots_out vs c q.0)
          (written (forest_out (CellValue c ∷ (end_value vs e.0 ∷ [])) i.0) (written (end_head e.0) cs))))
      here i =
          let e = ended m (suc (length cs)) i.1 in
          let rest : Todo = record { cell = c; slots = ss; trees = us } in
          let q = task_made ins vs rest e.1 in
          ap (λ (z : List Draft). MadeFrom ts q.1 z)
          (written_both (end_head e.0) (forest_out (CellValue c ∷ (end_value vs e.0 ∷ [])) i.0
          ++ (below_out vs e.0 ++ slots_out vs c q.0)) cs
          ∙ written_both (forest_out (CellValue c ∷ (end_value vs e.0 ∷ [])) i.0)
          (below_out vs e.0 ++ slots_out vs c q.0) (written (end_head e.0) cs))

  -- a Link: the tree's top is reserved, the inside is written, and the tree's slots are to be walked
  link_by : (y : Symbol) (ws : List Tree) (ts : List Todo) (c b : ℕ) (ss : List Slot) (us : List Tree)
      (cs new : List Draft) → (let v = value_by vs y (suc (length cs)) in
      let i = ins b (CellValue c ∷ (v ∷ [])) (suc (length (reserved_by y cs))) in
      new ≡ written (forest_out (CellValue c ∷ (v ∷ [])) i.0) (reserved_by y cs) → suc (length new) ≡ i.1
      → (let x = parts_made ins vs (Link b ∷ ss) (made_by y ws ∷ map (made ins vs) us) c (suc (length cs)) in
      Ends (followed_by y ws (suc (length cs)) (ts ++ record { cell = c; slots = ss; trees = us } ∷ [])) new
      ≡ MadeFrom ts x.1 (written (slots_out vs c x.0) cs)))
  link_by y ws ts c b ss us cs new e l =
      here (suc (length (reserved_by y cs))) (reserved_long y ws cs) (value_by vs y (suc (length cs)))
      (sym (top_is y ws (suc (length cs)))) e l
    where
      rest : Todo
      rest = record { cell = c; slots = ss; trees = us }

      here : (n : ℕ) → n ≡ begun (made_by y ws) (suc (length cs)) → (v : Value)
          → v ≡ top_of vs (made_by y ws) (suc (length cs))
          → new ≡ written (forest_out (CellValue c ∷ (v ∷ [])) (ins b (CellValue c ∷ (v ∷ [])) n).0) (reserved_by y cs)
          → suc (length new) ≡ (ins b (CellValue c ∷ (v ∷ [])) n).1
          → (let x = parts_made ins vs (Link b ∷ ss) (made_by y ws ∷ map (made ins vs) us) c (suc (length cs)) in
          Ends (followed_by y ws (suc (length cs)) (ts ++ rest ∷ [])) new
          ≡ MadeFrom ts x.1 (written (slots_out vs c x.0) cs))
      here n p v q e l =
          let m : Making = made_by y ws in
          let i = ins b (CellValue c ∷ (top_of vs m (suc (length cs)) ∷ [])) (begun m (suc (length cs))) in
          let r : ins b (CellValue c ∷ (v ∷ [])) n ≡ i =
          ap₂ (λ (w : Value) (j : ℕ). ins b (CellValue c ∷ (w ∷ [])) j) q p in
          let l2 : suc (length new) ≡ i.1 = l ∙ ap (λ (z : Nodes × ℕ). z.1) r in
          let e2 : new ≡ written (forest_out (CellValue c ∷ (top_of vs m (suc (length cs)) ∷ [])) i.0)
          (reserved_by y cs) =
          e ∙ ap₂ (λ (w : Value) (z : Nodes × ℕ). written (forest_out (CellValue c ∷ (w ∷ [])) z.0) (reserved_by y cs))
          q r in
          let z = inner i l2 e2 in
          z.0
          ∙ ap (λ (z : List Draft). MadeFrom ts (task_made ins vs rest (ended m (suc (length cs)) i.1).1).1
          (written (below_out vs (ended m (suc (length cs)) i.1).0
          ++ slots_out vs c (task_made ins vs rest (ended m (suc (length cs)) i.1).1).0) z)) z.1
          ∙ sym (link_task m ts c b ss us cs)
        where
          inner : (i : Nodes × ℕ) → suc (length new) ≡ i.1
              → new ≡ written (forest_out (CellValue c ∷ (top_of vs (made_by y ws) (suc (length cs)) ∷ [])) i.0)
              (reserved_by y cs)
              → (let f = ended (made_by y ws) (suc (length cs)) i.1 in
              Ends (followed_by y ws (suc (length cs)) (ts ++ rest ∷ [])) new
              ≡ MadeFrom ts (task_made ins vs rest f.1).1
              (written (below_out vs f.0 ++ slots_out vs c (task_made ins vs rest f.1).0) new))
              × (new ≡ written (forest_out
              (CellValue c ∷ (end_value vs (ended (made_by y ws) (suc (length cs)) i.1).0 ∷ [])) i.0)
              (written (end_head (ended (made_by y ws) (suc (length cs)) i.1).0) cs))
          inner i l e = (
            ap (λ (q : ℕ). MadeFrom (followed_by y ws (suc (length cs)) (ts ++ rest ∷ [])) q new) l
                ∙ after_child y ws (suc (length cs)) ts rest i.1 new,
            e ∙ ap₂ (λ (w : Value) (z : List Draft). written (forest_out (CellValue c ∷ (w ∷ [])) i.0) z)
                (top_is y ws (suc (length cs)) ∙ sym (value_is y ws (suc (length cs)) i.1))
                (sym (head_written y ws i.1 cs)),
          )

  pub ends_at_link : (ts : List Todo) (c b : ℕ) (ss : List Slot) (t : Tree) (us : List Tree) (cs new : List Draft)
      → new ≡ written (forest_out (CellValue c ∷ (top_value vs t (suc (length cs)) ∷ []))
      (ins b (CellValue c ∷ (top_value vs t (suc (length cs)) ∷ [])) (suc (length (reserved t cs)))).0) (reserved t cs)
      → suc (length new) ≡ (ins b (CellValue c ∷ (top_value vs t (suc (length cs)) ∷ []))
      (suc (length (reserved t cs)))).1
      → Ends (followed t (suc (length cs)) (ts ++ record { cell = c; slots = ss; trees = us } ∷ [])) new
      ≡ Ends (ts ++ record { cell = c; slots = Link b ∷ ss; trees = t ∷ us } ∷ []) cs
  ends_at_link ts c b ss t us cs new e l =
      link_by (out-Tree t).symbol (out-Tree t).children ts c b ss us cs new e l
      ∙ ap (λ (m : Making).
      (let x = parts_made ins vs (Link b ∷ ss) (m ∷ map (made ins vs) us) c (suc (length cs)) in
      MadeFrom ts x.1 (written (slots_out vs c x.0) cs))) (sym (made_out t))
      ∙ sym (finish_after ts (record { cell = c; slots = Link b ∷ ss; trees = t ∷ us }) cs)

-- How much is still to be done.

weight_both : (xs ys : List Todo) → weight (xs ++ ys) ≡ weight xs + weight ys
weight_both [] ys = omega arith
weight_both (x ∷ xs) ys = let e = weight_both xs ys in omega (arith, e)

weight_last : (ts : List Todo) (t : Todo) → weight (ts ++ t ∷ []) ≡ weight ts + task_weight t
weight_last ts t = let e = weight_both ts (t ∷ []) in omega (arith, e)

size_out : (t : Tree) → size t ≡ suc (slot_count (out-Tree t).symbol + sum_of (map size (out-Tree t).children))
size_out t = fold_out-Tree ℕ (λ t. suc (slot_count t.symbol + sum_of t.children)) t

followed_by_weight : (y : Symbol) (ws : List Tree) (own : ℕ) (ts : List Todo)
    → weight (followed_by y ws own ts) ≤ weight ts + suc (slot_count y + sum_of (map size ws))
followed_by_weight Null ws own ts = omega arith
followed_by_weight Uninit ws own ts = omega arith
followed_by_weight Dangling ws own ts = omega arith
followed_by_weight (Ref r) ws own ts = omega arith
followed_by_weight (Cell s ds ss) ws own ts =
    let e = weight_last ts (record { cell = own; slots = ss; trees = ws }) in omega (arith, e)

-- a task of which a slot and its tree are done
pub less_slot : (ts : List Todo) (c own : ℕ) (s : Slot) (ss : List Slot) (t : Tree) (us : List Tree)
    → weight (followed t own (ts ++ record { cell = c; slots = ss; trees = us } ∷ []))
    < weight (ts ++ record { cell = c; slots = s ∷ ss; trees = t ∷ us } ∷ [])
less_slot ts c own s ss t us =
    let a = weight_last ts (record { cell = c; slots = ss; trees = us }) in
    let b = weight_last ts (record { cell = c; slots = s ∷ ss; trees = t ∷ us }) in
    let d = followed_by_weight (out-Tree t).symbol (out-Tree t).children own
    (ts ++ record { cell = c; slots = ss; trees = us } ∷ []) in
    let e = size_out t in
    omega (arith, a, b, d, e)

pub less_hook : (ts : List Todo) (c : ℕ) (s : Slot) (ss : List Slot) (us : List Tree)
    → weight (ts ++ record { cell = c; slots = ss; trees = us } ∷ [])
    < weight (ts ++ record { cell = c; slots = s ∷ ss; trees = us } ∷ [])
less_hook ts c s ss us =
    let a = weight_last ts (record { cell = c; slots = ss; trees = us }) in
    let b = weight_last ts (record { cell = c; slots = s ∷ ss; trees = us }) in
    omega (arith, a, b)

pub less_none : (ts : List Todo) (t : Todo) → weight ts < weight (ts ++ t ∷ [])
less_none ts t = let a = weight_last ts t in omega (arith, a)

-- One task done, by what the code knows.

module _ (ins : Insides) (vs : List Value) where
  task_is : (t : Todo) (ss : List Slot) (us : List Tree) → t.slots ≡ ss → t.trees ≡ us
      → t ≡ record { cell = t.cell; slots = ss; trees = us }
  task_is t ss us a b = ap₂ (λ (x : List Slot) (y : List Tree). record { cell = t.cell; slots = x; trees = y }) a b

  pub none_done : (ts : List Todo) (t : Todo) (cs : List Draft) → length t.slots ≡ 0
      → ends ins vs ts cs ≡ ends ins vs (ts ++ t ∷ []) cs
  none_done ts t cs e =
      sym
      (ap (λ (z : Todo). ends ins vs (ts ++ z ∷ []) cs)
      (task_is t [] t.trees (nil_from_length t.slots e) refl)
      ∙ ends_none ins vs ts t.cell t.trees cs)

  pub field_missing : (ts : List Todo) (t : Todo) (cs : List Draft) (s : Slot) (ss : List Slot) (f : ℕ)
      → t.slots ≡ s ∷ ss → s ≡ Field f → length t.trees ≡ 0 → ends ins vs ts cs ≡ ends ins vs (ts ++ t ∷ []) cs
  field_missing ts t cs s ss f a b e =
      sym
      (ap (λ (z : Todo). ends ins vs (ts ++ z ∷ []) cs)
      (task_is t (Field f ∷ ss) [] (a ∙ ap (λ (z : Slot). z ∷ ss) b) (nil_from_length t.trees e))
      ∙ ends_field ins vs ts t.cell f ss cs)

  pub link_missing : (ts : List Todo) (t : Todo) (cs : List Draft) (s : Slot) (ss : List Slot) (b : ℕ)
      → t.slots ≡ s ∷ ss → s ≡ Link b → length t.trees ≡ 0 → ends ins vs ts cs ≡ ends ins vs (ts ++ t ∷ []) cs
  link_missing ts t cs s ss b a h e =
      sym
      (ap (λ (z : Todo). ends ins vs (ts ++ z ∷ []) cs)
      (task_is t (Link b ∷ ss) [] (a ∙ ap (λ (z : Slot). z ∷ ss) h) (nil_from_length t.trees e))
      ∙ ends_link ins vs ts t.cell b ss cs)

  -- the task, the slots that are left, the tasks with these, and the tasks afterwards
  pub hook_done : (ts : List Todo) (t : Todo) (s : Slot) (ss : List Slot) (b : ℕ) (pushed : List Todo)
      (cs new : List Draft) → t.slots ≡ s ∷ ss → s ≡ Hook b
      → pushed ≡ ts ++ record { cell = t.cell; slots = ss; trees = t.trees } ∷ []
      → new ≡ written (forest_out (CellValue t.cell ∷ []) (ins b (CellValue t.cell ∷ []) (suc (length cs))).0) cs
      → suc (length new) ≡ (ins b (CellValue t.cell ∷ []) (suc (length cs))).1
      → (ends ins vs pushed new ≡ ends ins vs (ts ++ t ∷ []) cs) × (weight pushed < weight (ts ++ t ∷ []))
  hook_done ts t s ss b pushed cs new a h p e l =
      let z = task_is t (Hook b ∷ ss) t.trees (a ∙ ap (λ (z : Slot). z ∷ ss) h) refl in (
        ap (λ (x : List Todo). ends ins vs x new) p ∙ ends_hook ins vs ts t.cell b ss t.trees cs new e l
            ∙ sym (ap (λ (x : Todo). ends ins vs (ts ++ x ∷ []) cs) z),
        subst (λ (x : Todo). weight pushed < weight (ts ++ x ∷ [])) (sym z)
            (subst (λ (x : List Todo). weight x < weight
            (ts ++ record { cell = t.cell; slots = Hook b ∷ ss; trees = t.trees } ∷ []))
            (sym p) (less_hook ts t.cell (Hook b) ss t.trees)),
      )

  less_done : (ts : List Todo) (t : Todo) (s : Slot) (ss : List Slot) (u : Tree) (us : List Tree) (own : ℕ)
      (pushed after : List Todo) → t ≡ record { cell = t.cell; slots = s ∷ ss; trees = u ∷ us }
      → pushed ≡ ts ++ record { cell = t.cell; slots = ss; trees = us } ∷ [] → after ≡ followed u own pushed
      → weight after < weight (ts ++ t ∷ [])
  less_done ts t s ss u us own pushed after z p q =
      subst (λ (x : Todo). weight after < weight (ts ++ x ∷ [])) (sym z)
      (subst (λ (x : List Todo). weight x < weight
      (ts ++ record { cell = t.cell; slots = s ∷ ss; trees = u ∷ us } ∷ []))
      (sym (q ∙ ap (followed u own) p)) (less_slot ts t.cell own s ss u us))

  pub field_done : (ts : List Todo) (t : Todo) (s : Slot) (ss : List Slot) (f : ℕ) (u : Tree) (us : List Tree)
      (pushed after : List Todo) (own : ℕ) (v : Value) (cs one new : List Draft)
      → t.slots ≡ s ∷ ss → s ≡ Field f → t.trees ≡ u ∷ us
      → pushed ≡ ts ++ record { cell = t.cell; slots = ss; trees = us } ∷ [] → own ≡ suc (length cs)
      → v ≡ top_value vs u own → one ≡ reserved u cs → new ≡ put_field t.cell (record { field = f; value = v }) one
      → after ≡ followed u own pushed
      → (ends ins vs after new ≡ ends ins vs (ts ++ t ∷ []) cs) × (weight after < weight (ts ++ t ∷ []))
  field_done ts t s ss f u us pushed after own v cs one new a h b p o w r n q =
      let z = task_is t (Field f ∷ ss) (u ∷ us) (a ∙ ap (λ (z : Slot). z ∷ ss) h) b in
      let m : new ≡ put_field t.cell (record { field = f; value = top_value vs u (suc (length cs)) }) (reserved u cs) =
      n ∙ ap₂ (λ (x : Value) (y : List Draft). put_field t.cell (record { field = f; value = x }) y)
      (w ∙ ap (top_value vs u) o) r in
      let g : after ≡ followed u (suc (length cs)) (ts ++ record { cell = t.cell; slots = ss; trees = us } ∷ []) =
      q ∙ ap₂ (λ (x : ℕ) (y : List Todo). followed u x y) o p in (
        ap₂ (λ (x : List Todo) (y : List Draft). ends ins vs x y) g m ∙ ends_at_field ins vs ts t.cell f ss u us cs
            ∙ sym (ap (λ (x : Todo). ends ins vs (ts ++ x ∷ []) cs) z),
        less_done ts t (Field f) ss u us own pushed after z p q,
      )

  pub link_done : (ts : List Todo) (t : Todo) (s : Slot) (ss : List Slot) (b : ℕ) (u : Tree) (us : List Tree)
      (pushed after : List Todo) (own : ℕ) (v : Value) (cs one new : List Draft)
      → t.slots ≡ s ∷ ss → s ≡ Link b → t.trees ≡ u ∷ us
      → pushed ≡ ts ++ record { cell = t.cell; slots = ss; trees = us } ∷ [] → own ≡ suc (length cs)
      → v ≡ top_value vs u own → one ≡ reserved u cs
      → new ≡ written (forest_out (CellValue t.cell ∷ (v ∷ []))
      (ins b (CellValue t.cell ∷ (v ∷ [])) (suc (length one))).0) one
      → suc (length new) ≡ (ins b (CellValue t.cell ∷ (v ∷ [])) (suc (length one))).1
      → after ≡ followed u own pushed
      → (ends ins vs after new ≡ ends ins vs (ts ++ t ∷ []) cs) × (weight after < weight (ts ++ t ∷ []))
  link_done ts t s ss b u us pushed after own v cs one new a h d p o w r n l q =
      let z = task_is t (Link b ∷ ss) (u ∷ us) (a ∙ ap (λ (z : Slot). z ∷ ss) h) d in
      let x : v ≡ top_value vs u (suc (length cs)) = w ∙ ap (top_value vs u) o in
      let g : after ≡ followed u (suc (length cs)) (ts ++ record { cell = t.cell; slots = ss; trees = us } ∷ []) =
      q ∙ ap₂ (λ (x : ℕ) (y : List Todo). followed u x y) o p in
      let n2 = n ∙ ap₂ (λ (v : Value) (one : List Draft). written (forest_out (CellValue t.cell ∷ (v ∷ []))
      (ins b (CellValue t.cell ∷ (v ∷ [])) (suc (length one))).0) one) x r in
      let l2 = l ∙ ap₂ (λ (v : Value) (one : List Draft). (ins b (CellValue t.cell ∷ (v ∷ [])) (suc (length one))).1) x
      r in (
        ap (λ (x : List Todo). ends ins vs x new) g ∙ ends_at_link ins vs ts t.cell b ss u us cs new n2 l2
            ∙ sym (ap (λ (x : Todo). ends ins vs (ts ++ x ∷ []) cs) z),
        less_done ts t (Link b) ss u us own pushed after z p q,
      )
