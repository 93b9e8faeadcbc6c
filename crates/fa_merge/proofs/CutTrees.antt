-- A run that passes over from old states to the trees of another automaton is cut there.
use Rattle.std.proofs.Common.{◌≡◌, ◌≢◌, ◌⊎◌, inl, inr, ℕ, Bool, true, false, true≢false, nat_eq, List, [], ◌∷◌, ◌++◌}
use Rattle.std.proofs.Common.{refl, sym, ap, ap₂, subst, ◌∙◌}
use Rattle.std.proofs.lemmas.Bool.{eqb-true, eq-eqb}
use Rattle.fore_base.specs.Lists.{IsIn, Every}
use Rattle.fore_base.specs.declared.store.Datum.{Datum}
use Rattle.fore_base.proofs.ListLemmas.{every_append}
use Rattle.ta_core.specs.declared.auto.Rule.{Rule}
use Rattle.ta_core.specs.declared.symbol.Slot.{Slot}
use Rattle.ta_core.specs.declared.symbol.Slot.TheVariants.{Field, Link, Hook}
use Rattle.ta_core.specs.declared.symbol.Symbol.TheVariants.{Ref, Cell as CellSymbol}
use Rattle.fa_core.specs.declared.forest.Target.{Target}
use Rattle.fa_core.specs.declared.forest.Target.TheVariants.{Null, Uninit, Dangling, At}
use Rattle.fa_core.specs.Dressed.{Node, Parts, End, node, no_parts, field, link, hook, under, leaf, leaf_refs, refs}
use Rattle.fa_core.specs.Dressed.{refs_of, end_refs}
use Rattle.fa_core.specs.Member.{slots_of, leaf_symbol}
use Rattle.fa_core.specs.References.{IsOnce, IsNever}
use Rattle.fa_core.proofs.Counts.{never_left, never_right, once_cases}
use Rattle.fa_core.proofs.NodeRuns.{PartsRun, EndRun}
use Rattle.fa_merge.specs.inner.Grafting.{plug, plug_parts, plug_end}

module _ (r : ℕ) where
  abbrev mutual
    -- n is the tree t with the trees ms, in order, in the place of the leaves that refer to root r
    pub Fills : Node → List Node → Node → Type 0
    Fills (node c s ds ps) ms n = (rest : Parts) × (n ≡ node c s ds rest) × FillsParts ps ms rest

    pub FillsParts : Parts → List Node → Parts → Type 0
    FillsParts no_parts ms rest = (ms ≡ []) × (rest ≡ no_parts)
    FillsParts (field f e ps) ms rest = (us : List Node) × (ws : List Node) × (x : End) × (y : Parts) × (ms ≡ us ++ ws)
        × (rest ≡ field f x y) × FillsEnd e us x × FillsParts ps ws y
    FillsParts (link b inside e ps) ms rest = (us : List Node) × (ws : List Node) × (x : End) × (y : Parts)
        × (ms ≡ us ++ ws) × (rest ≡ link b inside x y) × FillsEnd e us x × FillsParts ps ws y
    FillsParts (hook b inside ps) ms rest = (y : Parts) × (rest ≡ hook b inside y) × FillsParts ps ms y

    pub FillsEnd : End → List Node → End → Type 0
    FillsEnd (under n) ms x = (m : Node) × (x ≡ under m) × Fills n ms m
    FillsEnd (leaf t) ms x = ((m : Node) × (t ≡ At r) × (ms ≡ m ∷ []) × (x ≡ under m))
        ⊎ (IsNever r (leaf_refs t) × (ms ≡ []) × (x ≡ leaf t))

  -- where no leaf refers to r nothing is filled
  mutual
    never_tree : (n : Node) (ms : List Node) (m : Node) → Fills n ms m → IsNever r (refs n) → (ms ≡ []) × (m ≡ n)
    never_tree (node c s ds ps) ms m h o = let k = never_parts ps ms h.0 h.2 o in (k.0, h.1 ∙ ap (node c s ds) k.1)

    never_parts : (ps : Parts) (ms : List Node) (rest : Parts) → FillsParts ps ms rest → IsNever r (refs_of ps)
        → (ms ≡ []) × (rest ≡ ps)
    never_parts no_parts ms rest h o = h
    never_parts (field f e ps) ms rest h o =
        let k = never_end e h.0 h.2 h.6 (never_left r (end_refs e) (refs_of ps) o) in
        let l = never_parts ps h.1 h.3 h.7 (never_right r (end_refs e) (refs_of ps) o) in
        (h.4 ∙ ap₂ (λ (x y : List Node). x ++ y) k.0 l.0, h.5 ∙ ap₂ (field f) k.1 l.1)
    never_parts (link b inside e ps) ms rest h o =
        let k = never_end e h.0 h.2 h.6 (never_left r (end_refs e) (refs_of ps) o) in
        let l = never_parts ps h.1 h.3 h.7 (never_right r (end_refs e) (refs_of ps) o) in
        (h.4 ∙ ap₂ (λ (x y : List Node). x ++ y) k.0 l.0, h.5 ∙ ap₂ (link b inside) k.1 l.1)
    never_parts (hook b inside ps) ms rest h o = let k = never_parts ps ms h.0 h.2 o in
        (k.0, h.1 ∙ ap (hook b inside) k.1)

    never_end : (e : End) (ms : List Node) (x : End) → FillsEnd e ms x → IsNever r (end_refs e) → (ms ≡ []) × (x ≡ e)
    never_end (under n) ms x h o = let k = never_tree n ms h.0 h.2 o in (k.0, h.1 ∙ ap under k.1)
    never_end (leaf t) ms x (inl h) o =
        absurd (true≢false (sym (eq-eqb r r refl) ∙ (let z : IsNever r (leaf_refs (At r)) = rw h.1 at o in z.0)))
    never_end (leaf t) ms x (inr h) o = (h.1, h.2)

  -- and grafting changes nothing
  mutual
    pub plug_never_tree : (m : Node) (n : Node) → IsNever r (refs n) → plug r m n ≡ n
    plug_never_tree m (node c s ds ps) o = ap (node c s ds) (plug_never_parts m ps o)

    pub plug_never_parts : (m : Node) (ps : Parts) → IsNever r (refs_of ps) → plug_parts r m ps ≡ ps
    plug_never_parts m no_parts o = refl
    plug_never_parts m (field f e ps) o =
        ap₂ (field f) (plug_never_end m e (never_left r (end_refs e) (refs_of ps) o))
        (plug_never_parts m ps (never_right r (end_refs e) (refs_of ps) o))
    plug_never_parts m (link b inside e ps) o =
        ap₂ (link b inside) (plug_never_end m e (never_left r (end_refs e) (refs_of ps) o))
        (plug_never_parts m ps (never_right r (end_refs e) (refs_of ps) o))
    plug_never_parts m (hook b inside ps) o = ap (hook b inside) (plug_never_parts m ps o)

    pub plug_never_end : (m : Node) (e : End) → IsNever r (end_refs e) → plug_end r m e ≡ e
    plug_never_end m (under n) o = ap under (plug_never_tree m n o)
    plug_never_end m (leaf Null) o = refl
    plug_never_end m (leaf Uninit) o = refl
    plug_never_end m (leaf Dangling) o = refl
    plug_never_end m (leaf (At k)) o = rw o.0 refl

  -- where one leaf refers to r it is filled by one tree, which is a graft
  mutual
    pub once_tree : (n : Node) (ms : List Node) (x : Node) → Fills n ms x → IsOnce r (refs n) → (m : Node)
        × (ms ≡ m ∷ []) × (x ≡ plug r m n)
    once_tree (node c s ds ps) ms x h o = let k = once_parts ps ms h.0 h.2 o in (k.0, k.1, h.1 ∙ ap (node c s ds) k.2)

    pub once_parts : (ps : Parts) (ms : List Node) (rest : Parts) → FillsParts ps ms rest → IsOnce r (refs_of ps)
        → (m : Node) × (ms ≡ m ∷ []) × (rest ≡ plug_parts r m ps)
    once_parts no_parts ms rest h o = absurd o
    once_parts (field f e ps) ms rest h o = elim (once_cases r (end_refs e) (refs_of ps) o) [
      | inl p ↦ (let k = once_end e h.0 h.2 h.6 p.0 in let l = never_parts ps h.1 h.3 h.7 p.1 in (
        k.0,
        h.4 ∙ ap₂ (λ (x y : List Node). x ++ y) k.1 l.0,
        h.5
            ∙ ap₂ (field f) k.2 (l.1 ∙ sym (plug_never_parts k.0 ps p.1)),
      ))
      | inr p ↦ (let k = never_end e h.0 h.2 h.6 p.0 in let l = once_parts ps h.1 h.3 h.7 p.1 in (
        l.0,
        h.4 ∙ ap₂ (λ (x y : List Node). x ++ y) k.0 l.1,
        h.5
            ∙ ap₂ (field f) (k.1 ∙ sym (plug_never_end l.0 e p.0)) l.2,
      ))
    ]
    once_parts (link b inside e ps) ms rest h o = elim (once_cases r (end_refs e) (refs_of ps) o) [
      | inl p ↦ (let k = once_end e h.0 h.2 h.6 p.0 in let l = never_parts ps h.1 h.3 h.7 p.1 in (
        k.0,
        h.4 ∙ ap₂ (λ (x y : List Node). x ++ y) k.1 l.0,
        h.5
            ∙ ap₂ (link b inside) k.2 (l.1 ∙ sym (plug_never_parts k.0 ps p.1)),
      ))
      | inr p ↦ (let k = never_end e h.0 h.2 h.6 p.0 in let l = once_parts ps h.1 h.3 h.7 p.1 in (
        l.0,
        h.4 ∙ ap₂ (λ (x y : List Node). x ++ y) k.0 l.1,
        h.5
            ∙ ap₂ (link b inside) (k.1 ∙ sym (plug_never_end l.0 e p.0)) l.2,
      ))
    ]
    once_parts (hook b inside ps) ms rest h o = let k = once_parts ps ms h.0 h.2 o in
        (k.0, k.1, h.1 ∙ ap (hook b inside) k.2)

    pub once_end : (e : End) (ms : List Node) (x : End) → FillsEnd e ms x → IsOnce r (end_refs e) → (m : Node)
        × (ms ≡ m ∷ []) × (x ≡ plug_end r m e)
    once_end (under n) ms x h o = let k = once_tree n ms h.0 h.2 o in (k.0, k.1, h.1 ∙ ap under k.2)
    once_end (leaf t) ms x (inl h) o =
        let w : nat_eq r r ≡ true = eq-eqb r r refl in
        let z : plug_end r h.0 (leaf t) ≡ under h.0 =
        subst (λ (y : Target). plug_end r h.0 (leaf y) ≡ under h.0) (sym h.1) (rw w refl) in
        (h.0, h.2, h.3 ∙ sym z)
    once_end (leaf t) ms x (inr h) o = absurd (never_once (leaf_refs t) h.0 o)
      where
        never_once : (ks : List ℕ) → IsNever r ks → IsOnce r ks → ⊥
        never_once [] a b = b
        never_once (k ∷ ks) a (inl b) = true≢false (sym b.0 ∙ a.0)
        never_once (k ∷ ks) a (inr b) = never_once ks a.1 b.1

  abbrev pub LeafRule : List Rule → ℕ → Type 0
  LeafRule rules q = (o : Rule) × IsIn o rules × (o.state ≡ q) × (o.symbol ≡ Ref r) × (o.children ≡ [])

  -- each new rule of an old state is an old rule over old states, or stands for a reference to r and is the top of a
  -- tree of another kind
  module _ (old new : List Rule) (IsOld : ℕ → Type 0) (Top : Node → Type 0)
      (step : (x : Rule) → IsIn x new → IsOld x.state →
      (IsIn x old × Every IsOld x.children × (x.symbol ≢ Ref r))
      ⊎ (LeafRule old x.state × ((t : Target) → x.symbol ≢ leaf_symbol t)
      × ((c s : ℕ) (ds : List Datum) (ps : Parts) → x.symbol ≡ CellSymbol s ds (slots_of ps)
      → PartsRun new x.children ps → Top (node c s ds ps)))) where
    mutual
      pub cut_end : (q : ℕ) (x : End) → IsOld q → EndRun new q x → (e : End) × (ms : List Node) × EndRun old q e
          × Every Top ms × FillsEnd e ms x
      cut_end q (under (node c s ds ps)) o h = elim (step h.0 h.1 (rw (sym h.2) at o)) [
        | inl w ↦ (let k = cut_parts h.0.children ps w.1 h.4 in (
          under (node c s ds k.0),
          k.1,
          (h.0, w.0, h.2, h.3 ∙ ap (CellSymbol s ds) k.5, k.2),
          k.3,
          (node c s ds ps, refl, (ps, refl, k.4)),
        ))
        | inr w ↦ (
          leaf (At r),
          node c s ds ps ∷ [],
          rw h.2 at w.0,
          (w.2 c s ds ps h.3 h.4, tt),
          inl (node c s ds ps, refl, refl, refl),
        )
      ]
      cut_end q (leaf t) o h = elim (step h.0 h.1 (rw (sym h.2) at o)) [
        | inl w ↦ (leaf t, [], (h.0, w.0, h.2, h.3, h.4), tt, inr (leaf_never t (λ e. w.2 (h.3 ∙ e)), refl, refl))
        | inr w ↦ absurd (w.1 t h.3)
      ]
        where
          leaf_never : (t : Target) → leaf_symbol t ≢ Ref r → IsNever r (leaf_refs t)
          leaf_never Null d = tt
          leaf_never Uninit d = tt
          leaf_never Dangling d = tt
          leaf_never (At k) d = (differ (nat_eq r k) refl, tt)
            where
              differ : (b : Bool) → nat_eq r k ≡ b → nat_eq r k ≡ false
              differ true e = absurd (d (ap Ref (sym (eqb-true r k e))))
              differ false e = e

      pub cut_parts : (qs : List ℕ) (xs : Parts) → Every IsOld qs → PartsRun new qs xs → (ps : Parts) × (ms : List Node)
          × PartsRun old qs ps × Every Top ms × FillsParts ps ms xs × (slots_of xs ≡ slots_of ps)
      cut_parts [] no_parts o h = (no_parts, [], tt, tt, (refl, refl), refl)
      cut_parts (q ∷ qs) no_parts o h = absurd h
      cut_parts [] (field f e ps) o h = absurd h
      cut_parts (q ∷ qs) (field f e ps) o h =
          let k = cut_end q e o.0 h.0 in
          let l = cut_parts qs ps o.1 h.1 in (
            field f k.0 l.0,
            k.1 ++ l.1,
            (k.2, l.2),
            every_append Top k.1 l.1 k.3 l.3,
            (k.1, l.1, e, ps, refl, refl, k.4, l.4),
            ap (λ (z : List Slot). Field f ∷ z) l.5,
          )
      cut_parts [] (link b inside e ps) o h = absurd h
      cut_parts (q ∷ qs) (link b inside e ps) o h =
          let k = cut_end q e o.0 h.0 in
          let l = cut_parts qs ps o.1 h.1 in (
            link b inside k.0 l.0,
            k.1 ++ l.1,
            (k.2, l.2),
            every_append Top k.1 l.1 k.3 l.3,
            (k.1, l.1, e, ps, refl, refl, k.4, l.4),
            ap (λ (z : List Slot). Link b ∷ z) l.5,
          )
      cut_parts qs (hook b inside ps) o h =
          let l = cut_parts qs ps o h in
          (hook b inside l.0, l.1, l.2, l.3, (ps, refl, l.4), ap (λ (z : List Slot). Hook b ∷ z) l.5)
