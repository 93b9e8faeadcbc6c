-- The forest that joins two has the dressed forests of both; it is sound and canonical where they are.
use Rattle.std.proofs.Common.{◌≡◌, ◌↔◌, ◌⊎◌, inl, inr, ℕ, zero, suc, ◌<◌, length, List, [], ◌∷◌, refl, sym, subst}
use Rattle.std.proofs.Common.{slice_set, arith}
use Rattle.fore_base.specs.Lists.{Every, Paired, PairedBut}
use Rattle.fore_base.proofs.ListLemmas.{every_in}
use Rattle.ta_core.specs.Auto.{Automaton, IsRanked}
use Rattle.ta_core.specs.Joined.{IsUnion}
use Rattle.ta_core.specs.Language.{InLanguage, HasSameLanguage}
use Rattle.ta_core.specs.Single.{HasOneTop}
use Rattle.ta_core.specs.declared.auto.Rule.{Rule}
use Rattle.ta_core.specs.declared.tree.Tree.{Tree}
use Rattle.fa_core.specs.Boxless.{HasNoBoxes}
use Rattle.fa_core.specs.Canonical.{IsCanonical, IsRootKind, IsUntied, Walks, GoesOn, refs_at, var_roots}
use Rattle.fa_core.specs.Dressed.{Nodes, no_nodes, more}
use Rattle.fa_core.specs.Faces.{IsGiving}
use Rattle.fa_core.specs.Filled.{Choice, ChoiceFilled, IsRoot, SymbolFits, RulesFit, HasSignatures, HasSome, IsSound}
use Rattle.fa_core.specs.Member.{TreesOf, bare}
use Rattle.fa_core.specs.declared.boxes.BoxDef.{BoxDef}
use Rattle.fa_core.specs.declared.faces.Face.{Face}
use Rattle.fa_core.specs.declared.forest.Forest.{Forest}
use Rattle.fa_core.specs.declared.forest.Target.{Target}
use Rattle.fa_sound.specs.Components.{component_at}
use Rattle.fa_sound.proofs.ComponentLemmas.{component_got}
use Rattle.fa_merge.proofs.PlacedForests.{component_has}
use Rattle.fa_merge.proofs.MergedCut.{choice_over}
use Rattle.fa_split.specs.Divided.{HasVarsOf}
use Rattle.fa_split.specs.Giving.{SymbolGives}
use Rattle.fa_split.specs.Split.{CanSplit, top_rule, child_state}
use Rattle.fa_split.proofs.LinksGive.{faces_give}
use Rattle.fa_split.proofs.OtherComponent.{every_put}
use Rattle.fa_split.proofs.TopRules.{top_in}
use Rattle.fa_join.specs.Joinable.{SameRuns}
use Rattle.fa_join.specs.Joined.{Joins}
use Rattle.fa_join.specs.inner.Differing.{DifferAtRoot}
use Rattle.fa_join.specs.inner.Joining.{JoinsBelow, joined, joined_at}
use Rattle.fa_join.proofs.JoinedAutos.{joined_union, joined_symbols, joined_one}
use Rattle.fa_join.proofs.GivenAlike.{SameTop, give_alike}
use Rattle.fa_join.proofs.JoinedSigned.{joined_plain, joined_signed, same_tops}

-- Dressed forests, tree by tree.

module _ (T : List BoxDef) where
  pub same_trees : (xs ys : List Automaton) → Paired HasSameLanguage xs ys → (d : Nodes) → TreesOf T xs d
      ↔ TreesOf T ys d
  same_trees [] [] h d = ((λ k. k), (λ k. k))
  same_trees [] (y ∷ ys) h d = absurd h
  same_trees (x ∷ xs) [] h d = absurd h
  same_trees (x ∷ xs) (y ∷ ys) h no_nodes = ((λ k. k), (λ k. k))
  same_trees (x ∷ xs) (y ∷ ys) h (more n ns) = (let e = same_trees xs ys h.1 ns in (
    (λ k. ((h.0 (bare n)).0 k.0, k.1, e.0 k.2)),
    (λ k. ((h.0 (bare n)).1 k.0, k.1, e.1 k.2)),
  ))

  module _ (a b c : Automaton) (union : IsUnion a b c) where
    trees_from : (r : ℕ) (xs ys : List Automaton) → PairedBut HasSameLanguage r a b xs ys → (d : Nodes)
        → TreesOf T (slice_set xs r c) d → TreesOf T xs d ⊎ TreesOf T ys d
    trees_from r [] ys h d k = absurd h
    trees_from r (x ∷ xs) [] h d k = absurd h
    trees_from zero (x ∷ xs) (y ∷ ys) h no_nodes k = absurd k
    trees_from (suc r) (x ∷ xs) (y ∷ ys) h no_nodes k = absurd k
    trees_from zero (x ∷ xs) (y ∷ ys) h (more n ns) k = elim ((union (bare n)).0 k.0) [
      | inl l ↦ inl (subst (λ (z : Automaton). InLanguage z (bare n)) (sym h.0) l, k.1, k.2)
      | inr l ↦ inr (subst (λ (z : Automaton). InLanguage z (bare n)) (sym h.1) l, k.1, (same_trees xs ys h.2 ns).0 k.2)
    ]
    trees_from (suc r) (x ∷ xs) (y ∷ ys) h (more n ns) k = elim (trees_from r xs ys h.1 ns k.2) [
      | inl l ↦ inl (k.0, k.1, l)
      | inr l ↦ inr ((h.0 (bare n)).0 k.0, k.1, l)
    ]

    trees_first : (r : ℕ) (xs ys : List Automaton) → PairedBut HasSameLanguage r a b xs ys → (d : Nodes)
        → TreesOf T xs d → TreesOf T (slice_set xs r c) d
    trees_first r [] ys h d k = absurd h
    trees_first r (x ∷ xs) [] h d k = absurd h
    trees_first zero (x ∷ xs) (y ∷ ys) h no_nodes k = absurd k
    trees_first (suc r) (x ∷ xs) (y ∷ ys) h no_nodes k = absurd k
    trees_first zero (x ∷ xs) (y ∷ ys) h (more n ns) k =
        ((union (bare n)).1 (inl (subst (λ (z : Automaton). InLanguage z (bare n)) h.0 k.0)), k.1, k.2)
    trees_first (suc r) (x ∷ xs) (y ∷ ys) h (more n ns) k = (k.0, k.1, trees_first r xs ys h.1 ns k.2)

    trees_second : (r : ℕ) (xs ys : List Automaton) → PairedBut HasSameLanguage r a b xs ys → (d : Nodes)
        → TreesOf T ys d → TreesOf T (slice_set xs r c) d
    trees_second r [] ys h d k = absurd h
    trees_second r (x ∷ xs) [] h d k = absurd h
    trees_second zero (x ∷ xs) (y ∷ ys) h no_nodes k = absurd k
    trees_second (suc r) (x ∷ xs) (y ∷ ys) h no_nodes k = absurd k
    trees_second zero (x ∷ xs) (y ∷ ys) h (more n ns) k = (
      (union (bare n)).1 (inr (subst (λ (z : Automaton). InLanguage z (bare n)) h.1 k.0)),
      k.1,
      (same_trees xs ys h.2 ns).1 k.2,
    )
    trees_second (suc r) (x ∷ xs) (y ∷ ys) h (more n ns) k =
        ((h.0 (bare n)).1 k.0, k.1, trees_second r xs ys h.1 ns k.2)

-- Choices of trees.

module _ (a b c : Automaton) (union : IsUnion a b c) where
  choice_from : (r : ℕ) (xs ys : List Automaton) → PairedBut HasSameLanguage r a b xs ys → (ts : List Tree)
      → Choice (slice_set xs r c) ts → Choice xs ts ⊎ Choice ys ts
  choice_from r [] ys h ts k = absurd h
  choice_from r (x ∷ xs) [] h ts k = absurd h
  choice_from zero (x ∷ xs) (y ∷ ys) h [] k = absurd k
  choice_from (suc r) (x ∷ xs) (y ∷ ys) h [] k = absurd k
  choice_from zero (x ∷ xs) (y ∷ ys) h (t ∷ ts) k = elim ((union t).0 k.0) [
    | inl l ↦ inl (subst (λ (z : Automaton). InLanguage z t) (sym h.0) l, k.1)
    | inr l ↦ inr (subst (λ (z : Automaton). InLanguage z t) (sym h.1) l, choice_over xs ys ts h.2 k.1)
  ]
  choice_from (suc r) (x ∷ xs) (y ∷ ys) h (t ∷ ts) k = elim (choice_from r xs ys h.1 ts k.1) [
    | inl l ↦ inl (k.0, l)
    | inr l ↦ inr ((h.0 t).0 k.0, l)
  ]

pub but_long : {X Y : Type 0} (R : X → Y → Type 0) (i : ℕ) (x : X) (y : Y) (xs : List X) (ys : List Y)
    → PairedBut R i x y xs ys → i < length ys
but_long R i x y [] ys h = absurd h
but_long R i x y (v ∷ xs) [] h = absurd h
but_long R zero x y (v ∷ xs) (w ∷ ys) h = omega arith
but_long R (suc i) x y (v ∷ xs) (w ∷ ys) h = (let l = but_long R i x y xs ys h.1 in omega (arith, l))

-- The forest.

module _ (face : Face) (F G : Forest) (r p : ℕ) (vars : HasVarsOf F G) (ranked_F : Every IsRanked F.autos)
    (ranked_G : Every IsRanked G.autos)
    (tops_F : Every HasOneTop F.autos) (tops_G : Every HasOneTop G.autos)
    (differ : DifferAtRoot face.boxes F G r p) where
  abbrev a : Automaton
  a = component_at F.autos r

  abbrev b : Automaton
  b = component_at G.autos r

  abbrev J : Forest
  J = joined_at F G r p

  other : r < length G.autos
  other = but_long HasSameLanguage r a b F.autos G.autos differ.others

  ranked_a : IsRanked a
  ranked_a = component_has IsRanked F.autos r ranked_F differ.root

  ranked_b : IsRanked b
  ranked_b = component_has IsRanked G.autos r ranked_G other

  one_a : HasOneTop a
  one_a = component_has HasOneTop F.autos r tops_F differ.root

  one_b : HasOneTop b
  one_b = component_has HasOneTop G.autos r tops_G other

  split_first : CanSplit F r p
  split_first =
      record {
        root = differ.root;
        top = one_a;
        place = differ.below.place;
      }

  split_second : CanSplit G r p
  split_second =
      record {
        root = other;
        top = one_b;
        place = but_long (SameRuns a b) p (child_state a p) (child_state b p) (top_rule a).children
            (top_rule b).children
            differ.below.children;
      }

  union : IsUnion a b (joined a b p)
  union = joined_union a b p ranked_a ranked_b one_a one_b differ.below.symbols differ.below.children

  joined_joins : Joins F G J
  joined_joins = record {
    first = (refl, refl);
    second = (sym vars.0, sym vars.1);
    dressed = λ T d. (
      trees_from T a b (joined a b p) union r F.autos G.autos differ.others d,
      (λ h. elim h [
        | inl k ↦ trees_first T a b (joined a b p) union r F.autos G.autos differ.others d k
        | inr k ↦ trees_second T a b (joined a b p) union r F.autos G.autos differ.others d k
      ]),
    );
  }

  from : (ts : List Tree) → Choice J.autos ts → Choice F.autos ts ⊎ Choice G.autos ts
  from ts k = choice_from a b (joined a b p) union r F.autos G.autos differ.others ts k

  joined_no_boxes : Every HasNoBoxes F.autos → Every HasNoBoxes G.autos → Every HasNoBoxes J.autos
  joined_no_boxes plain_F plain_G = every_put HasNoBoxes F.autos r (joined a b p) plain_F
      (joined_plain a b p ranked_a ranked_b one_a one_b differ.below.symbols differ.below.children differ.below.place
      (component_has HasNoBoxes F.autos r plain_F differ.root) (component_has HasNoBoxes G.autos r plain_G other))

  joined_tops : Every HasOneTop J.autos
  joined_tops = every_put HasOneTop F.autos r (joined a b p) tops_F
      (joined_one a b p ranked_a ranked_b one_a one_b differ.below.symbols differ.below.children)

  tops_alike : (t u : Tree) → InLanguage a t → InLanguage b u → SameTop t u
  tops_alike =
      same_tops a b p ranked_a ranked_b one_a one_b differ.below.symbols differ.below.children differ.below.place

  filled_by : (E : Forest) → F.vars ≡ E.vars → (ts : List Tree) → ChoiceFilled face E ts → ChoiceFilled face J ts
  filled_by E e ts f = record {
    tops = f.tops;
    are = f.are;
    vars = subst (λ (vs : List Target). Every (IsRoot (length ts)) vs) (sym e) f.vars;
    cells = f.cells;
  }

  -- the rule at the top gives where it leads back
  top_gives : Every IsGiving face.boxes → SymbolGives face.boxes (top_rule a).symbol
  top_gives giving = every_in (λ (o : Rule). SymbolGives face.boxes o.symbol) a.rules (top_rule a)
      (faces_give face.boxes giving (a ∷ [])).0 (top_in a one_a)

  joined_sound : Every IsGiving face.boxes → IsSound face F → IsSound face G → IsSound face J
  joined_sound giving f g = record {
    well_formed = record {
      filled = record {
        data_vars = f.well_formed.filled.data_vars;
        rules = every_put (RulesFit face) F.autos r (joined a b p) f.well_formed.filled.rules
            (joined_symbols a b p ranked_a ranked_b one_a one_b differ.below.symbols differ.below.children
            (SymbolFits face) (component_has (RulesFit face) F.autos r f.well_formed.filled.rules differ.root)
            (component_has (RulesFit face) G.autos r g.well_formed.filled.rules other));
        trees = λ ts k. elim (from ts k) [
          | inl l ↦ filled_by F refl ts (f.well_formed.filled.trees ts l)
          | inr l ↦ filled_by G (sym vars.0) ts (g.well_formed.filled.trees ts l)
        ];
      };
      signatures = every_put (HasSignatures face.boxes) F.autos r (joined a b p) f.well_formed.signatures
          (joined_signed a b p ranked_a ranked_b one_a one_b differ.below.symbols differ.below.children
          differ.below.place face.boxes (top_gives giving) differ.below.marks
          (component_has (HasSignatures face.boxes) F.autos r f.well_formed.signatures differ.root)
          (component_has (HasSignatures face.boxes) G.autos r g.well_formed.signatures other)
          (λ t u l m. give_alike face F G r a b (component_got F.autos r differ.root) differ.others f
          g.well_formed.filled t u l m (tops_alike t u l m)));
    };
    full = every_put HasSome F.autos r (joined a b p) f.full
        (let t = component_has HasSome F.autos r f.full differ.root in (t.0, (union t.0).1 (inl t.1)));
  }

  joined_canonical : Every IsGiving face.boxes → IsSound face F → IsSound face G → IsCanonical face F
      → IsCanonical face G → IsCanonical face J
  joined_canonical giving f g can other_can = record {
    well_formed = (joined_sound giving f g).well_formed;
    tops = joined_tops;
    kinds = λ ts k. elim (from ts k) [
      | inl l ↦ can.kinds ts l
      | inr l ↦ subst (λ (vs : List Target). (n : ℕ) → n < length ts → IsRootKind face.boxes vs ts n) vars.0
          (other_can.kinds ts l)
    ];
    untied = λ ts k. elim (from ts k) [
      | inl l ↦ can.untied ts l
      | inr l ↦ subst (λ (vs : List Target). IsUntied vs ts) vars.0 (other_can.untied ts l)
    ];
    order = λ ts k. elim (from ts k) [
      | inl l ↦ can.order ts l
      | inr l ↦ subst (λ (vs : List Target). Walks (refs_at ts) (GoesOn face.boxes ts) (var_roots vs) 0 (length ts))
          vars.0 (other_can.order ts l)
    ];
  }

  -- all of it
  pub joined_below : Every IsGiving face.boxes → IsSound face F → IsSound face G → IsCanonical face F
      → IsCanonical face G → JoinsBelow face F G r p
  joined_below giving f g can other_can = record {
    first = split_first;
    second = split_second;
    sound = joined_sound giving f g;
    canonical = joined_canonical giving f g can other_can;
    joins = joined_joins;
    plain = joined_no_boxes;
  }

-- Forests with the same languages: the first has the dressed forests of both.
pub same_joins : (F G : Forest) → HasVarsOf F G → Paired HasSameLanguage F.autos G.autos → Joins F G F
same_joins F G vars h = record {
  first = (refl, refl);
  second = (sym vars.0, sym vars.1);
  dressed = λ T d. ((λ k. inl k), (λ k. elim k [ inl l ↦ l | inr l ↦ (same_trees T F.autos G.autos h d).1 l ]));
}
