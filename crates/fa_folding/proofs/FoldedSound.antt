-- The forest that is made is sound.
use Rattle.std.proofs.Common.{◌≡◌, ◌<◌, ◌+◌, ℕ, suc, length}
use Rattle.std.proofs.Common.{List, [], ◌∷◌, ◌++◌}
use Rattle.std.proofs.Common.{refl, sym, subst, ◌∙◌, Option, Some, None, IsSome, IsNone, slice_get, arith}
use Rattle.std.proofs.lemmas.Option.{none-some, same_Some}
use Rattle.fore_base.specs.Lists.{IsIn, Every, Paired}
use Rattle.fore_base.proofs.ListLemmas.{every_in, every_weaker, in_from_place}
use Rattle.ta_core.specs.Auto.{Automaton, IsRanked}
use Rattle.ta_core.specs.Language.{RunOf}
use Rattle.ta_core.specs.declared.auto.Rule.{Rule}
use Rattle.ta_core.specs.Single.{HasOneTop}
use Rattle.ta_core.specs.declared.symbol.Symbol.TheVariants.{Cell as CellSymbol}
use Rattle.ta_core.specs.declared.tree.Tree.{Tree}
use Rattle.fa_split.specs.Split.{top_rule}
use Rattle.fa_core.specs.declared.boxes.BoxDef.{BoxDef}
use Rattle.fa_core.specs.declared.faces.BoxFace.{BoxFace}
use Rattle.fa_core.specs.declared.faces.Face.{Face}
use Rattle.fa_core.specs.declared.forest.Forest.{Forest}
use Rattle.fa_core.specs.Boxes.{Boxes, faces_of}
use Rattle.fa_core.specs.Faces.{IsGiving}
use Rattle.fa_core.specs.Filled.{HasNoOutput, HasOutput, HasSignatures, HasSome, IsSound, RulesFit, SlotFits}
use Rattle.fa_core.specs.Filled.{SymbolFits, face_of}
use Rattle.fa_core.specs.Folding.{IsPart, IsPartWithin, IsPortRoot, PortsAre, box_slot, taken_at}
use Rattle.fa_core.specs.Placed.{placed_auto}
use Rattle.fa_sound.proofs.ComponentLemmas.{component_got}
use Rattle.fa_merge.specs.Reordered.{component_at, counted, place_of, renumber, reordered}
use Rattle.fa_split.proofs.FreshStates.{fresh_run}
use Rattle.fa_unfold.specs.Sites.{IsOver}
use Rattle.fa_unfold.specs.Slots.{Place}
use Rattle.fa_folding.specs.Gaining.{edge_place, edge_rules, input_auto, output_auto}
use Rattle.fa_folding.specs.Made.{folded_autos, folded_component, folded_forest, kept_first, kept_of, new_output}
use Rattle.fa_folding.proofs.FoldMade.{edge_above, edge_only, edge_right, edge_runs, one_leaf}
use Rattle.fa_folding.proofs.FoldSound.{IsGood, gained_good, table_gives}
use Rattle.fa_folding.proofs.FoldWhole.{fold_made, got_left, kept_here, kept_ranked, kept_one, kept_top}
use Rattle.fa_folding.proofs.FoldedForests.{trees_filled_here}
use Rattle.fa_folding.proofs.FoldedOrder.{face_there}
use Rattle.fa_folding.proofs.GainedSigned.{IsGrown}
use Rattle.fa_folding.proofs.Moving.{moved_auto}
use Rattle.fa_folding.proofs.SlotRuns.{Grown, SlotRuns}
use Rattle.fa_folding.proofs.FoldWhole.{folded_has}
use Rattle.fa_merge.proofs.OtherOrders.{get_mapped}

-- The slot of a box.

module _ (face : Face) (n : ℕ) (x : BoxFace) (there : face_of face.boxes n ≡ Some x) (s : ℕ) (q : ℕ) where
  edge_slots_fit : (o : Option ℕ) → (o ≡ None → x.output ≡ None) → ((j : ℕ) → o ≡ Some j → IsSome x.output)
      → Every (λ (p : Place). SlotFits face s p.0) (edge_place n q o ∷ [])
  edge_slots_fit None h k = (subst HasNoOutput (sym there) (subst IsNone (sym (h refl)) refl), tt)
  edge_slots_fit (Some j) h k = (subst HasOutput (sym there) (k j refl), tt)

edge_rules_fit : (face : Face) (q : ℕ) (o : Option ℕ) → Every (λ (r : Rule). SymbolFits face r.symbol) (edge_rules q o)
edge_rules_fit face q None = tt
edge_rules_fit face q (Some j) = (tt, tt)

edge_grown : (n : ℕ) (o : Option ℕ) → Every IsGrown (box_slot (λ k. k) n o ∷ [])
edge_grown n None = (refl, tt)
edge_grown n (Some j) = ((_, refl), tt)

-- no run goes to a state without rules
none_runs : (a : Automaton) → IsRanked a → (t : Tree) → RunOf (a.rules ++ []) a.states t → ⊥
none_runs a ranked t h =
    (fresh_run a [] ranked (λ o i. absurd i) a.states t (omega arith) h).1

one_tree : (a : Automaton) → IsRanked a → (n : ℕ) (o : Option ℕ) (t u : Tree)
    → RunOf (a.rules ++ edge_rules a.states o) a.states t → RunOf (a.rules ++ edge_rules a.states o) a.states u → t ≡ u
one_tree a ranked n None t u v w = absurd (none_runs a ranked t v)
one_tree a ranked n (Some j) t u v w = one_leaf a ranked n j t v ∙ sym (one_leaf a ranked n j u w)

output_known : (bs : List BoxFace) (b : BoxDef) (i : ℕ) (o : Option ℕ) (ps : List (ℕ × List ℕ)) (ss : List ℕ)
    → PortsAre bs b i o ps ss
    → (o ≡ None → b.face.output ≡ None) × ((j : ℕ) → o ≡ Some j → IsSome b.face.output)
output_known bs b i None ps ss (a, ins, at, fields, ports, none, shapes) =
    ((λ e. none), (λ j e. absurd (none-some j e)))
output_known bs b i (Some j) ps ss (a, c, ins, outs, t, at, to, fields, fields_out, ports, some, shapes) =
    ((λ e. absurd (none-some j (sym e))), (λ k e. subst IsSome (sym some) refl))

new_known : (inner : List ℕ) (o : Option ℕ) (x : Option ℕ)
    → (o ≡ None → x ≡ None) × ((j : ℕ) → o ≡ Some j → IsSome x)
    → (new_output inner o ≡ None → x ≡ None) × ((j : ℕ) → new_output inner o ≡ Some j → IsSome x)
new_known inner None x h = ((λ e. h.0 refl), (λ j e. absurd (none-some j e)))
new_known inner (Some k) x h = ((λ e. absurd (none-some _ (sym e))), (λ j e. h.1 k refl))

module _ (bs : List BoxFace) (P : Automaton → Type 0) (ps : List (ℕ × List ℕ)) (n i : ℕ) (out : Option ℕ) where
  each_folded : (rs : List ℕ) (autos : List Automaton)
      → ((j r : ℕ) (a : Automaton) → slice_get rs j ≡ Some r → slice_get autos j ≡ Some a
      → P (folded_component bs ps n i out r a)) → Every P (folded_autos bs ps n i out rs autos)
  each_folded [] autos h = tt
  each_folded (r ∷ rs) [] h = tt
  each_folded (r ∷ rs) (a ∷ autos) h = (h 0 r a refl refl, each_folded rs autos (λ j k b e q. h (suc j) k b e q))

module _ (t : Boxes) (F : Forest) (over : IsOver t F) (n i : ℕ) (def : BoxDef) (there : slice_get t.defs n ≡ Some def)
    (out : Option ℕ) (g : BoxDef) (p : IsPart (faces_of t.defs) F def i out g) (fit : IsPartWithin g def) where
  abbrev bs : List BoxFace
  bs = faces_of t.defs

  abbrev face : Face
  face = record { shapes = t.face.shapes; boxes = bs }

  abbrev kept : List ℕ
  kept = kept_of p.inner (counted 0 (length F.autos))

  abbrev order : List ℕ
  order = kept ++ p.inner

  abbrev h : ℕ → ℕ
  h = place_of order

  abbrev P : Forest
  P = reordered order F

  abbrev o : Option ℕ
  o = new_output p.inner out

  abbrev made : Forest
  made = folded_forest bs p.ports n i o kept P

  module _ (sound : IsSound face P) where
    good_in : (b : Automaton) → IsIn b P.autos → IsGood face b
    good_in b j = record {
      fits = every_in (RulesFit face) P.autos b sound.well_formed.filled.rules j;
      signed = every_in (HasSignatures bs) P.autos b sound.well_formed.signatures j;
      some = every_in HasSome P.autos b sound.full j;
    }

    giving : Every IsGiving bs
    giving = table_gives t.face.shapes [] t.defs over.table.sound

    known : (o ≡ None → def.face.output ≡ None) × ((j : ℕ) → o ≡ Some j → IsSome def.face.output)
    known = new_known p.inner out def.face.output (output_known bs def i out p.ports p.shapes p.are_ports)

    module _ (r : ℕ) (a : Automaton) (at : slice_get F.autos r ≡ Some a) (low_r : r < length F.autos)
        (own : IsIn r p.inner → ⊥) (good : IsGood face (moved_auto h a)) where
      abbrev b : Automaton
      b = moved_auto h a

      abbrev fs : List ℕ
      fs = taken_at p.ports r

      ranked : IsRanked b
      ranked = kept_ranked t F over n i def there out g p fit r a at low_r own

      module _ (shape : ℕ) (own_fields : List ℕ) (port : IsPortRoot F.autos r shape own_fields) where
        one_b : HasOneTop b
        one_b = kept_one t F over n i def there out g p fit r a at low_r own shape own_fields port

        top_b : (top_rule b).symbol ≡ CellSymbol shape port.datums port.slots
        top_b = kept_top t F over n i def there out g p fit r a at low_r own shape own_fields port

        input_good : IsGood face (input_auto bs fs n o b)
        input_good = gained_good face giving b ranked one_b shape port.datums port.slots top_b fs good
            (edge_rules b.states o) (edge_place n b.states o ∷ []) (box_slot (λ k. k) n o ∷ []) (edge_grown n o)
            (edge_above b ranked n o) (edge_right b ranked n o) (edge_runs b ranked n o) (edge_only b ranked n o)
            (one_tree b ranked n o) (edge_rules_fit face b.states o)
            (edge_slots_fit face n def.face (face_there t.defs n def there) shape b.states o known.0 known.1)

        output_good : IsGood face (output_auto bs fs b)
        output_good = gained_good face giving b ranked one_b shape port.datums port.slots top_b fs good [] [] [] tt
            (λ x j. absurd j) tt tt none_only (λ v w x y. absurd (none_runs b ranked v x)) tt tt
          where
            none_only : (vs : List Grown) → Paired (SlotRuns (b.rules ++ [])) [] vs → vs ≡ []
            none_only [] k = refl
            none_only (v ∷ vs) k = absurd k

      component_good : IsGood face (folded_component bs p.ports n i o r b)
      component_good = folded_has t F over n i def there out g p fit (IsGood face) r b good input_good output_good

    all_good : Every (IsGood face) made.autos
    all_good = each_folded bs (IsGood face) p.ports n i o kept P.autos one
      where
        one : (j r : ℕ) (b : Automaton) → slice_get kept j ≡ Some r → slice_get P.autos j ≡ Some b
            → IsGood face (folded_component bs p.ports n i o r b)
        one j r b e q =
            let w = kept_here t F over n i def there out g p fit j r e in
            let a = component_at F.autos r in
            let z : b ≡ moved_auto h a =
            same_Some b (moved_auto h a) (sym q
            ∙ get_mapped (λ (k : ℕ). placed_auto (renumber h) (component_at F.autos k)) order j r
            (got_left kept p.inner j r e)) in
            let there_b : IsGood face (moved_auto h a) =
            subst (IsGood face) z (good_in b (in_from_place P.autos j b q)) in
            subst (λ (c : Automaton). IsGood face (folded_component bs p.ports n i o r c)) (sym z)
            (component_good r a (component_got F.autos r w.0) w.0 w.1 there_b)

    pub made_sound : IsSound face made
    made_sound = record {
      well_formed = record {
        filled = record {
          data_vars = sound.well_formed.filled.data_vars;
          rules = every_weaker (IsGood face) (RulesFit face) made.autos (λ b k. k.fits) all_good;
          trees = λ us c.
              (let x = fold_made t F over n i def there out g p fit in
              trees_filled_here t F made over n i out g x us c x.vars);
        };
        signatures = every_weaker (IsGood face) (HasSignatures bs) made.autos (λ b k. k.signed) all_good;
      };
      full = every_weaker (IsGood face) HasSome made.autos (λ b k. k.some) all_good;
    }

-- so it is over the table's face
pub folds_sound : (t : Boxes) (F : Forest) (n i : ℕ) (out : Option ℕ) (def g : BoxDef) → IsOver t F
    → slice_get t.defs n ≡ Some def → (p : IsPart t.face.boxes F def i out g) → IsPartWithin g def
    → IsSound t.face (reordered (kept_first F p.inner) F)
    → IsSound t.face (folded_forest t.face.boxes p.ports n i (new_output p.inner out)
    (kept_of p.inner (counted 0 (length F.autos))) (reordered (kept_first F p.inner) F))
folds_sound t F n i out def g over there p fit sound =
    subst
    (λ (bs : List BoxFace). (p : IsPart bs F def i out g)
    → IsSound (record { shapes = t.face.shapes; boxes = bs }) (reordered (kept_first F p.inner) F)
    → IsSound (record { shapes = t.face.shapes; boxes = bs }) (folded_forest bs p.ports n i (new_output p.inner out)
    (kept_of p.inner (counted 0 (length F.autos))) (reordered (kept_first F p.inner) F)))
    (sym over.table.faces)
    (λ p s. made_sound t F over n i def there out g p fit s) p sound
