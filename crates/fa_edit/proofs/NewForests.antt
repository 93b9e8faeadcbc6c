-- The forest with a new cell: its dressed forests, and that it is sound.
use Rattle.std.proofs.Common.{◌≡◌, inl, inr, ℕ, zero, suc, ◌<◌, ◌+◌, length, replicate, List, [], ◌∷◌, ◌++◌, map}
use Rattle.std.proofs.Common.{flat_map, refl, sym, ap, subst, ◌∙◌, slice_get, Some, IsSome, length-append, append-nil}
use Rattle.std.proofs.Common.{arith}
use Rattle.std.proofs.lemmas.Option.{none-some}
use Rattle.fore_base.specs.Lists.{IsIn, Every}
use Rattle.fore_base.specs.Shapes.{targets_of, datums_of}
use Rattle.fore_base.specs.declared.shape.Shape.{Shape}
use Rattle.fore_base.specs.declared.store.Datum.TheVariants.{Undefined}
use Rattle.fore_base.proofs.ListLemmas.{in_every, every_append, every_weaker, every_set, every_copy}
use Rattle.ta_core.specs.Auto.{Automaton, IsRanked}
use Rattle.ta_core.specs.Language.{InLanguage}
use Rattle.ta_core.specs.declared.symbol.Slot.{Slot}
use Rattle.ta_core.specs.declared.symbol.Slot.TheVariants.{Field, Link, Hook}
use Rattle.ta_core.specs.declared.symbol.Symbol.{Symbol}
use Rattle.ta_core.specs.declared.symbol.Symbol.TheVariants.{Null as NullSymbol, Uninit as UninitSymbol}
use Rattle.ta_core.specs.declared.symbol.Symbol.TheVariants.{Dangling as DanglingSymbol, Ref, Cell}
use Rattle.ta_core.specs.declared.tree.Tree.{Tree, out-Tree, out-roll-Tree}
use Rattle.fa_core.specs.declared.boxes.BoxDef.{BoxDef}
use Rattle.fa_core.specs.declared.faces.Face.{Face}
use Rattle.fa_core.specs.declared.forest.Forest.{Forest}
use Rattle.fa_core.specs.declared.forest.Target.{Target}
use Rattle.fa_core.specs.declared.forest.Target.TheVariants.{Null, Uninit, Dangling, At}
use Rattle.fa_core.specs.Boxless.{HasNoBoxes}
use Rattle.fa_core.specs.Dressed.{Nodes, number, all_refs}
use Rattle.fa_core.specs.Filled.{Spot, spots, target_of, numbered, covers, least, HasField, NamesStruct, FieldEnds}
use Rattle.fa_core.specs.Filled.{EndFits, EndsFit, IsFilledSpot, Choice, ChoiceFilled, TopsAre, IsTopped, IsRoot}
use Rattle.fa_core.specs.Filled.{TreesFilled, given_at}
use Rattle.fa_core.specs.Filled.{DatumFits, SlotFits, RulesFit, HasSignatures, HasSome, IsSound}
use Rattle.fa_core.specs.Member.{TreesOf, slots_of}
use Rattle.fa_core.specs.Rearranged.{RisesFrom, IsRising}
use Rattle.fa_core.specs.References.{AllBelow}
use Rattle.fa_core.proofs.Dressing.{leaf_top, choice_length}
use Rattle.fa_core.proofs.NodeSpots.{end_symbols, parts_spots, spots_are}
use Rattle.fa_core.proofs.Given.{tip_to, tips_of}
use Rattle.fa_core.proofs.Rearranging.{equal, flat_map-append}
use Rattle.fa_edit.specs.Cells.{IsNewed, blank_parts, new_node}
use Rattle.fa_edit.specs.inner.News.{field_slots, blank_symbol, blank, newed}
use Rattle.fa_edit.proofs.NewTrees.{blank_insides, blank_tree, blank_plain, blank_some, blank_signed, bare_new, is_new}
use Rattle.fa_edit.proofs.NewTrees.{new_is, tree_is}
use Rattle.fa_edit.proofs.Gifts.{one_given, gift_low, given_low}
use Rattle.fa_merge.proofs.IdleRoots.{gift}
use Rattle.fa_merge.proofs.MergedLast.{split_last, join_last}
use Rattle.fa_merge.proofs.OtherOrders.{count_trees}
use Rattle.fa_merge.proofs.PutForests.{node_of_tree}
use Rattle.fa_sound.specs.Components.{component_at}
use Rattle.fa_split.specs.Split.{with_last}
use Rattle.fa_split.proofs.Places.{last_is}
use Rattle.fa_split.proofs.SplitCells.{RefersWell, refers_well, all_below}

-- More roots: what was named is named still.

get_more : (xs ys : List ℕ) (r s : ℕ) → slice_get xs r ≡ Some s → slice_get (xs ++ ys) r ≡ Some s
get_more [] ys r s e = absurd (none-some s e)
get_more (x ∷ xs) ys zero s e = e
get_more (x ∷ xs) ys (suc r) s e = get_more xs ys r s e

module _ (face : Face) (tops others : List ℕ) where
  field_more : (t : ℕ) (y : Symbol) → FieldEnds tops t y → FieldEnds (tops ++ others) t y
  field_more t NullSymbol h = tt
  field_more t UninitSymbol h = tt
  field_more t DanglingSymbol h = tt
  field_more t (Ref r) h = get_more tops others r t h
  field_more t (Cell s ds ss) h = h

  names_more : (t : ℕ) (y : Symbol) → NamesStruct tops y t → NamesStruct (tops ++ others) y t
  names_more t NullSymbol h = h
  names_more t UninitSymbol h = h
  names_more t DanglingSymbol h = h
  names_more t (Ref r) h = get_more tops others r t h
  names_more t (Cell s ds ss) h = h

  link_more : (s b : ℕ) (y : Symbol) → EndFits face tops s (Link b) y → EndFits face (tops ++ others) s (Link b) y
  link_more s b y (x, t, i, j, k, inl h) = (x, t, i, j, k, inl (names_more t y h))
  link_more s b y (x, t, i, j, k, inr h) = (x, t, i, j, k, inr h)

  ends_more : (s : ℕ) (ss : List Slot) (ys : List Symbol) → EndsFit face tops s ss ys
      → EndsFit face (tops ++ others) s ss ys
  ends_more s [] [] h = tt
  ends_more s [] (y ∷ ys) h = h
  ends_more s (Hook b ∷ ss) ys h = (h.0, ends_more s ss ys h.1)
  ends_more s (Field f ∷ ss) [] h = h
  ends_more s (Field f ∷ ss) (y ∷ ys) h = ((h.0.0, h.0.1, field_more h.0.0 y h.0.2), ends_more s ss ys h.1)
  ends_more s (Link b ∷ ss) [] h = h
  ends_more s (Link b ∷ ss) (y ∷ ys) h = (link_more s b y h.0, ends_more s ss ys h.1)

  spot_more : (p : Spot) → IsFilledSpot face tops p → IsFilledSpot face (tops ++ others) p
  spot_more p h = record { ends = ends_more p.shape p.slots p.ends h.ends; order = h.order; once = h.once }

  -- the trees of the roots from r on, and one more
  pub filled_more : (all new : List Tree) → ((k : ℕ) → given_at face.boxes all k ≡ given_at face.boxes new k)
      → (t : Tree) (r : ℕ) (ts : List Tree) → TreesFilled face all tops r ts
      → ((m : ℕ) → m ≡ r + length ts → Every (IsFilledSpot face (tops ++ others))
      (spots face.boxes t (given_at face.boxes new m))) → TreesFilled face new (tops ++ others) r (ts ++ t ∷ [])
  filled_more all new same t r [] h l = (l r (omega arith), tt)
  filled_more all new same t r (u ∷ ts) h l = (
    every_weaker (IsFilledSpot face tops) (IsFilledSpot face (tops ++ others))
        (spots face.boxes u (given_at face.boxes new r)) spot_more
        (subst (λ (xs : List ℕ). Every (IsFilledSpot face tops) (spots face.boxes u xs)) (same r) h.0),
    filled_more all new same t (suc r) ts h.1 (λ m e. l m (omega (arith, e))),
  )

-- One more tree.

choice_last : (cs : List Automaton) (l : Automaton) (us : List Tree) → Choice (cs ++ l ∷ []) us → (ts : List Tree)
    × (t : Tree) × (us ≡ ts ++ t ∷ []) × Choice cs ts × InLanguage l t
choice_last [] l [] c = absurd c
choice_last [] l (t ∷ []) c = ([], t, refl, tt, c.0)
choice_last [] l (t ∷ (u ∷ us)) c = absurd c.1
choice_last (a ∷ cs) l [] c = absurd c
choice_last (a ∷ cs) l (t ∷ us) c =
    let k = choice_last cs l us c.1 in
    (t ∷ k.0, k.1, ap (λ (ts : List Tree). t ∷ ts) k.2, (c.0, k.3), k.4)

tops_last : (ts : List Tree) (tops : List ℕ) (t : Tree) (s : ℕ) → TopsAre ts tops → IsTopped s t
    → TopsAre (ts ++ t ∷ []) (tops ++ s ∷ [])
tops_last [] [] t s h k = (k, tt)
tops_last [] (x ∷ tops) t s h k = absurd h
tops_last (u ∷ ts) [] t s h k = absurd h
tops_last (u ∷ ts) (x ∷ tops) t s h k = (h.0, tops_last ts tops t s h.1 k)

-- The new cell is filled.

module _ (face : Face) (shape : ℕ) where
  abbrev hs : List Shape
  hs = face.shapes.structs

  abbrev targets : List ℕ
  targets = targets_of hs shape

  -- the rest of the fields, from field k on
  abbrev AreRest : ℕ → List ℕ → Type 0
  AreRest k ys = (i : ℕ) → slice_get targets (k + i) ≡ slice_get ys i

  next_rest : (k y : ℕ) (ys : List ℕ) → AreRest k (y ∷ ys) → AreRest (suc k) ys
  next_rest k y ys h i = let e : suc k + i ≡ k + suc i = omega arith in ap (λ (n : ℕ). slice_get targets n) e
      ∙ h (suc i)

  first_rest : (k y : ℕ) (ys : List ℕ) → AreRest k (y ∷ ys) → target_of hs shape k ≡ Some y
  first_rest k y ys h = let e : k ≡ k + 0 = omega arith in ap (λ (n : ℕ). slice_get targets n) e ∙ h 0

  all_rest : AreRest 0 targets
  all_rest i = let e : 0 + i ≡ i = omega arith in ap (λ (n : ℕ). slice_get targets n) e

  blank_ends : (tops : List ℕ) (k : ℕ) (ys : List ℕ) → AreRest k ys
      → EndsFit face tops shape (slots_of (blank_parts k (length ys))) (end_symbols (blank_parts k (length ys)))
  blank_ends tops k [] h = tt
  blank_ends tops k (y ∷ ys) h = (
    (y, first_rest k y ys h, subst (λ (x : Symbol). FieldEnds tops y x) (sym (leaf_top Uninit)) tt),
    blank_ends tops (suc k) ys (next_rest k y ys h),
  )

  slots_fit : (k : ℕ) (ys : List ℕ) → AreRest k ys → Every (SlotFits face shape) (field_slots k (length ys))
  slots_fit k [] h = tt
  slots_fit k (y ∷ ys) h = (subst IsSome (sym (first_rest k y ys h)) refl, slots_fit (suc k) ys (next_rest k y ys h))

  blank_has : (k n : ℕ) → Every (λ s. HasField (covers face.boxes s)) (slots_of (blank_parts k n))
  blank_has k zero = tt
  blank_has k (suc n) = (tt, blank_has (suc k) n)

  rises : (j k n : ℕ) → j < k → RisesFrom j (map (λ s. least (covers face.boxes s)) (slots_of (blank_parts k n)))
  rises j k zero l = tt
  rises j k (suc n) l = (l, rises k (suc k) n (omega arith))

  rising : (k n : ℕ) → IsRising (map (λ s. least (covers face.boxes s)) (slots_of (blank_parts k n)))
  rising k zero = tt
  rising k (suc n) = rises k (suc k) n (omega arith)

  covered : (k : ℕ) (ys : List ℕ) → numbered k ys ≡ flat_map (covers face.boxes) (slots_of (blank_parts k (length ys)))
      ++ []
  covered k [] = refl
  covered k (y ∷ ys) = ap (λ (ns : List ℕ). k ∷ ns) (covered (suc k) ys)

  no_spots : (k n : ℕ) → parts_spots face.boxes (blank_parts k n) ≡ []
  no_spots k zero = refl
  no_spots k (suc n) = no_spots (suc k) n

  pub blank_filled : (tops : List ℕ) → Every (IsFilledSpot face tops) (spots face.boxes (blank_tree hs shape) [])
  blank_filled tops =
      let n = new_node hs shape 0 in
      subst (λ (t : Tree). Every (IsFilledSpot face tops) (spots face.boxes t [])) (bare_new hs shape 0)
      (subst (λ (l : List Spot). Every (IsFilledSpot face tops) l) (sym (spots_are face.boxes n [])) (
        record {
          ends = blank_ends tops 0 targets all_rest;
          order = (blank_has 0 (length targets), rising 0 (length targets));
          once = equal (covered 0 targets);
        },
        subst (λ (l : List Spot). Every (IsFilledSpot face tops) l) (sym (no_spots 0 (length targets))) tt,
      ))

  no_gifts : (r k n : ℕ) → flat_map (tip_to r) (tips_of face.boxes (blank_parts k n)) ≡ []
  no_gifts r k zero = refl
  no_gifts r k (suc n) = no_gifts r (suc k) n

  pub blank_gives : (r : ℕ) → gift face.boxes r (blank_tree hs shape) ≡ []
  blank_gives r =
      subst (λ (t : Tree). gift face.boxes r t ≡ []) (bare_new hs shape 0)
      (one_given face.boxes r (new_node hs shape 0) ∙ no_gifts r 0 (length targets))

  data_count : (n : ℕ) → length (replicate n Undefined) ≡ n
  data_count zero = refl
  data_count (suc n) = ap (λ (k : ℕ). suc k) (data_count n)

  pub blank_fits : shape < length hs → RulesFit face (blank hs shape)
  blank_fits l = (
    (
      l,
      data_count (datums_of hs shape),
      every_copy DatumFits (datums_of hs shape) Undefined tt,
      slots_fit 0 targets all_rest,
    ),
    (tt, tt),
  )

  pub blank_topped : (t : Tree) → InLanguage (blank hs shape) t → IsTopped shape t
  blank_topped t l = (
    replicate (datums_of hs shape) Undefined,
    field_slots 0 (length targets),
    ap (λ (u : Tree). (out-Tree u).symbol) (tree_is hs shape t l)
        ∙ rw (out-roll-Tree (record { symbol = blank_symbol hs shape; children = _ })) refl,
  )

-- The forest.

module _ (face : Face) (F : Forest) (to shape : ℕ) (sound : IsSound face F) where
  abbrev structs : List Shape
  structs = face.shapes.structs

  abbrev N : ℕ
  N = length F.autos

  abbrev own : Automaton
  own = blank structs shape

  abbrev G : Forest
  G = newed structs F to shape

  well : RefersWell F
  well = refers_well face F sound

  targets_in : Every (IsRoot N) F.vars
  targets_in = in_every (IsRoot N) F.vars (λ u i k e. well.vars k (subst (λ (z : Target). IsIn z F.vars) e i))

  each_more : (P : Automaton → Type 0) → Every P F.autos → P own → Every P G.autos
  each_more P h k = every_append P F.autos (own ∷ []) h (k, tt)

  pub new_plain : Every HasNoBoxes F.autos → Every HasNoBoxes G.autos
  new_plain plain = each_more HasNoBoxes plain (blank_plain structs shape)

  pub is_newed : (T : List BoxDef) → IsNewed structs T F G to shape
  is_newed T = record {
    roots = N;
    vars = refl;
    data_vars = refl;
    targets = targets_in;
    counted = count_trees T F.autos;
    refs = λ d o. subst (λ (n : ℕ). AllBelow n (all_refs d)) (count_trees T F.autos d o) (all_below T F d well o);
    forth = λ d o c. (let n = new_node structs shape c in
        subst (λ (e : Nodes). TreesOf T G.autos e) (sym (last_is d n))
        (join_last T F.autos own d n o (is_new structs shape c)
        (blank_insides T 0 (length (targets_of structs shape)))));
    back = λ d o. (let k = split_last T F.autos own d o in
        (k.0, number k.1, k.2 ∙ sym (last_is k.0 k.1) ∙ ap (with_last k.0) (new_is structs shape k.1 k.4), k.3));
  }

  new_vars : Every (IsRoot (suc N)) G.vars
  new_vars = every_set (IsRoot (suc N)) F.vars to (At N)
      (every_weaker (IsRoot N) (IsRoot (suc N)) F.vars (λ u h k e. (let l = h k e in omega (arith, l))) targets_in)
      (λ k e. (let s : N ≡ k = ap at_of e in omega (arith, s)))
    where
      at_of : Target → ℕ
      at_of Null = 0
      at_of Uninit = 0
      at_of Dangling = 0
      at_of (At k) = k

  module _ (ranked : Every IsRanked F.autos) where
    -- the new root is given nothing
    low_gift : (k : ℕ) (t : Tree) → k < N → InLanguage (component_at F.autos k) t → gift face.boxes N t ≡ []
    low_gift k t l w =
        let n = node_of_tree face F sound.well_formed.filled sound.full ranked k l t w in
        subst (λ (z : Tree). gift face.boxes N z ≡ []) n.1
        (gift_low face.boxes N n.0
        (well.trees k n.0 l (subst (λ (z : Tree). InLanguage (component_at F.autos k) z) (sym n.1) w)))

    choice_filled : (us : List Tree) → Choice G.autos us → ChoiceFilled face G us
    choice_filled us c =
        let k = choice_last F.autos own us c in
        let f = sound.well_formed.filled.trees k.0 k.3 in
        let tops = f.tops ++ shape ∷ [] in
        let is : k.1 ≡ blank_tree structs shape = tree_is structs shape k.1 k.4 in
        let same : ((r : ℕ) → given_at face.boxes k.0 r ≡ given_at face.boxes (k.0 ++ k.1 ∷ []) r) =
        (λ r. sym (flat_map-append (gift face.boxes r) k.0 (k.1 ∷ [])
        ∙ ap (λ (z : Tree). given_at face.boxes k.0 r ++ (gift face.boxes r z ++ [])) is
        ∙ ap (λ (z : List ℕ). given_at face.boxes k.0 r ++ (z ++ [])) (blank_gives face shape r)
        ∙ append-nil (given_at face.boxes k.0 r))) in
        let size : N ≡ length k.0 = sym (choice_length F.autos k.0 k.3) in
        let none : given_at face.boxes (k.0 ++ k.1 ∷ []) N ≡ [] =
        sym (same N) ∙ given_low face.boxes N F.autos low_gift k.0 k.3 in
        let last : ((m : ℕ) → m ≡ 0 + length k.0 → Every (IsFilledSpot face tops)
        (spots face.boxes k.1 (given_at face.boxes (k.0 ++ k.1 ∷ []) m))) =
        (λ m e. (let q : N ≡ m = omega (arith, e, size) in
        subst (λ (x : ℕ). Every (IsFilledSpot face tops)
        (spots face.boxes k.1 (given_at face.boxes (k.0 ++ k.1 ∷ []) x))) q
        (subst (λ (xs : List ℕ). Every (IsFilledSpot face tops) (spots face.boxes k.1 xs)) (sym none)
        (subst (λ (t : Tree). Every (IsFilledSpot face tops) (spots face.boxes t [])) (sym is)
        (blank_filled face shape tops))))) in
        let both : TreesFilled face (k.0 ++ k.1 ∷ []) tops 0 (k.0 ++ k.1 ∷ []) =
        filled_more face f.tops (shape ∷ []) k.0 (k.0 ++ k.1 ∷ []) same k.1 0 k.0 f.cells last in
        let long : suc N ≡ length us =
        (let e = choice_length G.autos us c in
        let m : length G.autos ≡ N + 1 = length-append F.autos (own ∷ []) in omega (arith, e, m)) in
        record {
          tops = tops;
          are = subst (λ (ts : List Tree). TopsAre ts tops) (sym k.2)
              (tops_last k.0 f.tops k.1 shape f.are (blank_topped face shape k.1 k.4));
          vars = subst (λ (n : ℕ). Every (IsRoot n) G.vars) long new_vars;
          cells = subst (λ (ts : List Tree). TreesFilled face ts tops 0 ts) (sym k.2) both;
        }

    pub new_sound : shape < length structs → IsSound face G
    new_sound l = record {
      well_formed = record {
        filled = record {
          data_vars = sound.well_formed.filled.data_vars;
          rules = each_more (RulesFit face) sound.well_formed.filled.rules (blank_fits face shape l);
          trees = choice_filled;
        };
        signatures = each_more (HasSignatures face.boxes) sound.well_formed.signatures
            (blank_signed structs shape face.boxes);
      };
      full = each_more HasSome sound.full (blank_some structs shape);
    }
