-- A fold takes Field slots from the tops of the forest.
use Rattle.std.proofs.Common.{◌≡◌, ◌<◌, ◌≤◌, inl, ℕ, zero, suc, ◌+◌, Bool, true, false, length}
use Rattle.std.proofs.Common.{List, [], ◌∷◌, ◌++◌, map, cond, refl, sym, subst, ◌∙◌, Option, Some, None}
use Rattle.std.proofs.Common.{slice_get, inr, arith}
use Rattle.std.proofs.lemmas.Option.{slice_get_within}
use Rattle.fore_base.specs.Lists.{IsIn}
use Rattle.fore_base.proofs.ListLemmas.{in_left}
use Rattle.ta_core.specs.Auto.{Automaton, IsRanked}
use Rattle.ta_core.specs.Single.{HasOneTop}
use Rattle.ta_core.specs.declared.symbol.Symbol.TheVariants.{Cell as CellSymbol}
use Rattle.fa_back.proofs.Dressable.{some_choice}
use Rattle.fa_core.specs.Boxes.{Boxes, faces_of}
use Rattle.fa_core.specs.Canonical.{refs_at}
use Rattle.fa_core.specs.Folding.{ArePortRoots, IsPart, IsPartWithin, IsPortRoot, Ports, PortsAre, taken_at}
use Rattle.fa_core.specs.Placed.{placed_auto}
use Rattle.fa_core.specs.declared.boxes.BoxDef.{BoxDef}
use Rattle.fa_core.specs.declared.faces.BoxFace.{BoxFace}
use Rattle.fa_core.specs.declared.forest.Forest.{Forest}
use Rattle.fa_core.specs.Ways.{has}
use Rattle.fa_sound.proofs.ComponentLemmas.{component_got}
use Rattle.fa_merge.specs.Reordered.{component_at, counted, place_of, renumber, reordered}
use Rattle.fa_unfold.specs.Sites.{IsOver}
use Rattle.fa_folding.specs.Gaining.{edge_place, edge_rules, input_auto, output_auto}
use Rattle.fa_folding.specs.Made.{folded_autos, folded_component, folded_forest, kept_first, kept_of, new_output}
use Rattle.fa_folding.proofs.FoldMade.{edge_above}
use Rattle.fa_folding.proofs.FoldWhole.{kept_ranked, kept_one, kept_top, folded_has}
use Rattle.fa_folding.proofs.Lists.{eq_self}
use Rattle.fa_folding.proofs.Moving.{moved_auto}
use Rattle.fa_folding.proofs.Numbers.{counted_above, in_counted, in_kept, kept_in}
use Rattle.fa_folding.proofs.Orders.{are_further, same_end}
use Rattle.fa_fold.specs.TopFields.{all_top_fields, top_fields}
use Rattle.fa_fold.proofs.FewerFields.{gained_fewer, gained_most, moved_fields, place_fields}
use Rattle.fa_fold.proofs.InputCovers.{IsCovered, input_covers}
use Rattle.fa_split.specs.Split.{top_rule}

-- Sums.

abbrev sum_by : (ℕ → ℕ) → List ℕ → ℕ
sum_by w [] = 0
sum_by w (r ∷ rs) = w r + sum_by w rs

-- all roots together
all_sum : (autos : List Automaton) → sum_by (λ r. top_fields (component_at autos r)) (counted 0 (length autos))
    ≡ all_top_fields autos
all_sum [] = refl
all_sum (a ∷ autos) =
    let later = shifted (λ r. top_fields (component_at (a ∷ autos) r)) 0 (length autos) in
    let rest = all_sum autos in
    omega (arith, later, rest)
  where
    shifted : (w : ℕ → ℕ) (k n : ℕ) → sum_by w (counted (suc k) n) ≡ sum_by (λ r. w (suc r)) (counted k n)
    shifted w k zero = refl
    shifted w k (suc n) = let e = shifted w (suc k) n in omega (arith, e)

-- those that are kept
kept_sum : (w : ℕ → ℕ) (inner rs : List ℕ) → sum_by w (kept_of inner rs) ≤ sum_by w rs
kept_sum w inner [] = omega arith
kept_sum w inner (r ∷ rs) = here (has r inner) (kept_sum w inner rs)
  where
    here : (b : Bool) → sum_by w (kept_of inner rs) ≤ sum_by w rs
        → sum_by w (cond b (kept_of inner rs) (r ∷ kept_of inner rs)) ≤ w r + sum_by w rs
    here true l = omega (arith, l)
    here false l = omega (arith, l)

module _ (bs : List BoxFace) (ps : Ports) (n i : ℕ) (o : Option ℕ) (inner : List ℕ) (w : ℕ → ℕ)
    (m : ℕ → Automaton) where
  abbrev AtMost : ℕ → Type 0
  AtMost r = top_fields (folded_component bs ps n i o r (m r)) ≤ w r

  folded_most : (rs : List ℕ) → ((r : ℕ) → IsIn r rs → AtMost r)
      → all_top_fields (folded_autos bs ps n i o rs (map m (rs ++ inner))) ≤ sum_by w rs
  folded_most [] h = omega arith
  folded_most (r ∷ rs) h =
      let a = h r (inl refl) in
      let l = folded_most rs (λ k j. h k (inr j)) in
      omega (arith, a, l)

  folded_fewer : (rs : List ℕ) → ((r : ℕ) → IsIn r rs → AtMost r) → (k : ℕ) → IsIn k rs
      → top_fields (folded_component bs ps n i o k (m k)) < w k
      → all_top_fields (folded_autos bs ps n i o rs (map m (rs ++ inner))) < sum_by w rs
  folded_fewer [] h k j s = absurd j
  folded_fewer (r ∷ rs) h k (inl e) s =
      let a = subst (λ (z : ℕ). top_fields (folded_component bs ps n i o z (m z)) < w z) e s in
      let l = folded_most rs (λ q c. h q (inr c)) in
      omega (arith, a, l)
  folded_fewer (r ∷ rs) h k (inr j) s =
      let a = h r (inl refl) in
      let l = folded_fewer rs (λ q c. h q (inr c)) k j s in
      omega (arith, a, l)

-- What is taken at the input.

pub record TakesSome (autos : List Automaton) (i : ℕ) (ps : Ports) : Type 0 where
  pub shape : ℕ
  pub ins : List ℕ
  pub port : IsPortRoot autos i shape ins
  pub field : ℕ
  pub own : IsIn field ins
  pub there : IsIn field (taken_at ps i)
  pub first : IsIn i (map (λ p. p.0) ps)

takes_some : (bs : List BoxFace) (b : BoxDef) (i : ℕ) (o : Option ℕ) (ps : Ports) (ss : List ℕ)
    (autos : List Automaton) → PortsAre bs b i o ps ss → ArePortRoots autos ps ss
    → ((a : Automaton) → slice_get b.inside.autos 0 ≡ Some a → IsCovered bs a) → TakesSome autos i ps
takes_some bs b i None ps ss autos (a, ins, at, fields, ports, none, shapes) h cover =
    let c = cover a at in
    let own = (fields.are c.field).1 (c.tree, c.is, c.covered) in
    subst (TakesSome autos i) (sym ports)
    (record {
      shape = b.face.input;
      ins = ins;
      port = (subst (λ (z : List ℕ). ArePortRoots autos ((i, ins) ∷ []) z) shapes
          (subst (λ (z : Ports). ArePortRoots autos z ss) ports h)).0;
      field = c.field;
      own = own;
      there = rw (eq_self i) (in_left c.field ins [] own);
      first = inl refl;
    })
takes_some bs b i (Some j) ps ss autos (a, d, ins, outs, t, at, to, fields, fields_out, ports, some, shapes) h cover =
    let c = cover a at in
    let own = (fields.are c.field).1 (c.tree, c.is, c.covered) in
    subst (TakesSome autos i) (sym ports)
    (record {
      shape = b.face.input;
      ins = ins;
      port = (subst (λ (z : List ℕ). ArePortRoots autos ((i, ins) ∷ ((j, outs) ∷ [])) z) shapes
          (subst (λ (z : Ports). ArePortRoots autos z ss) ports h)).0;
      field = c.field;
      own = own;
      there = rw (eq_self i) (in_left c.field ins (taken_at ((j, outs) ∷ []) i) own);
      first = inl refl;
    })

edge_none : (n q : ℕ) (o : Option ℕ) → place_fields (edge_place n q o ∷ []) ≡ 0
edge_none n q None = refl
edge_none n q (Some j) = refl

module _ (t : Boxes) (F : Forest) (over : IsOver t F) (n i : ℕ) (def : BoxDef) (there : slice_get t.defs n ≡ Some def)
    (out : Option ℕ) (g : BoxDef) (p : IsPart (faces_of t.defs) F def i out g) (fit : IsPartWithin g def) where
  abbrev bs : List BoxFace
  bs = faces_of t.defs

  abbrev kept : List ℕ
  kept = kept_of p.inner (counted 0 (length F.autos))

  abbrev h : ℕ → ℕ
  h = place_of (kept_first F p.inner)

  abbrev o : Option ℕ
  o = new_output p.inner out

  abbrev w : ℕ → ℕ
  w r = top_fields (component_at F.autos r)

  abbrev m : ℕ → Automaton
  m r = placed_auto (renumber h) (component_at F.autos r)

  module _ (r : ℕ) (a : Automaton) (at : slice_get F.autos r ≡ Some a) (low_r : r < length F.autos)
      (own : IsIn r p.inner → ⊥) where
    abbrev b : Automaton
    b = moved_auto h a

    abbrev fs : List ℕ
    fs = taken_at p.ports r

    ranked : IsRanked b
    ranked = kept_ranked t F over n i def there out g p fit r a at low_r own

    module _ (shape : ℕ) (own_fields : List ℕ) (port : IsPortRoot F.autos r shape own_fields) where
      one_port : HasOneTop b
      one_port = kept_one t F over n i def there out g p fit r a at low_r own shape own_fields port

      top : (top_rule b).symbol ≡ CellSymbol shape port.datums port.slots
      top = kept_top t F over n i def there out g p fit r a at low_r own shape own_fields port

      input_most : top_fields (input_auto bs fs n o b) ≤ top_fields b
      input_most = gained_most bs b ranked one_port shape port.datums port.slots top fs (edge_rules b.states o)
          (edge_place n b.states o ∷ []) (λ x j. (edge_above b ranked n o x j).0) (edge_none n b.states o)

      input_fewer : (f : ℕ) → IsIn f fs → IsIn f own_fields → top_fields (input_auto bs fs n o b) < top_fields b
      input_fewer f j k = gained_fewer bs b ranked one_port shape port.datums port.slots top fs (edge_rules b.states o)
          (edge_place n b.states o ∷ []) (λ x j. (edge_above b ranked n o x j).0) (edge_none n b.states o) f j
          (port.fields f k)

      output_most : top_fields (output_auto bs fs b) ≤ top_fields b
      output_most = gained_most bs b ranked one_port shape port.datums port.slots top fs [] [] (λ x j. absurd j) refl

    component_most : top_fields (folded_component bs p.ports n i o r b) ≤ top_fields b
    component_most = folded_has t F over n i def there out g p fit (λ c. top_fields c ≤ top_fields b) r b (omega arith)
        input_most output_most

  each_most : (r : ℕ) → IsIn r kept → top_fields (folded_component bs p.ports n i o r (m r)) ≤ w r
  each_most r j =
      let k = in_kept p.inner (counted 0 (length F.autos)) r j in
      let l = (counted_above 0 (length F.autos) r k.1).1 in
      let low : r < length F.autos = omega (arith, l) in
      let a = component_at F.autos r in
      let c = component_most r a (component_got F.autos r low) low k.0 in
      let e = moved_fields h a in
      omega (arith, c, e)

  taking : TakesSome F.autos i p.ports
  taking = takes_some bs def i out p.ports p.shapes F.autos p.are_ports p.roots
      (λ a first. input_covers t.face.shapes t.defs n def a over.table.sound there first)

  not_inner : IsIn i p.inner → ⊥
  not_inner j =
      let c = some_choice F.autos over.sound.full in
      let roots = p.reached c.0 c.1 in
      let z = are_further (refs_at c.0) roots.reached in
      z.3 i (subst (λ (y : List ℕ). IsIn i y) (same_end (map (λ q. q.0) p.ports) p.inner z.0 (sym roots.are ∙ z.1)) j)
      taking.first

  input_low : i < length F.autos
  input_low = slice_get_within F.autos i taking.port.auto taking.port.there

  input_less : top_fields (folded_component bs p.ports n i o i (m i)) < w i
  input_less =
      let a = component_at F.autos i in
      let c = input_fewer i a (component_got F.autos i input_low) input_low not_inner taking.shape taking.ins
      taking.port taking.field taking.there taking.own in
      let e = moved_fields h a in
      let l : top_fields (input_auto bs (taken_at p.ports i) n o (m i)) < w i = omega (arith, c, e) in
      rw (eq_self i) l

  fall : all_top_fields (folded_forest bs p.ports n i o kept (reordered (kept_first F p.inner) F)).autos
      < all_top_fields F.autos
  fall =
      let here = kept_in p.inner (counted 0 (length F.autos)) i not_inner
      (in_counted 0 (length F.autos) i (omega arith) (let l = input_low in omega (arith, l))) in
      let a = folded_fewer bs p.ports n i o p.inner w m kept each_most i here input_less in
      let c = kept_sum w p.inner (counted 0 (length F.autos)) in
      let e = all_sum F.autos in
      omega (arith, a, c, e)

-- so it is over the table's face
pub folds_fall : (t : Boxes) (F : Forest) (n i : ℕ) (out : Option ℕ) (def g : BoxDef) → IsOver t F
    → slice_get t.defs n ≡ Some def → (p : IsPart t.face.boxes F def i out g) → IsPartWithin g def
    → all_top_fields (folded_forest t.face.boxes p.ports n i (new_output p.inner out)
    (kept_of p.inner (counted 0 (length F.autos))) (reordered (kept_first F p.inner) F)).autos < all_top_fields F.autos
folds_fall t F n i out def g over there p fit =
    subst
    (λ (bs : List BoxFace). (p : IsPart bs F def i out g)
    → all_top_fields (folded_forest bs p.ports n i (new_output p.inner out)
    (kept_of p.inner (counted 0 (length F.autos))) (reordered (kept_first F p.inner) F)).autos < all_top_fields F.autos)
    (sym over.table.faces)
    (λ p. fall t F over n i def there out g p fit) p
