-- The cells of an automaton's trees are filled exactly where its rules say so.
use Rattle.std.proofs.Common.{◌≡◌, ◌⊎◌, inl, inr, ℕ, zero, suc, ◌<◌, Bool, true, false, true≢false, List, [], ◌∷◌}
use Rattle.std.proofs.Common.{length, Option, Some, None, slice_get, refl, sym, ap, subst, ◌∙◌, arith}
use Rattle.fore_base.specs.Lists.{IsIn, Every, Paired}
use Rattle.fore_base.specs.declared.store.Datum.{Datum}
use Rattle.ta_core.specs.declared.auto.Rule.{Rule}
use Rattle.ta_core.specs.declared.symbol.Slot.{Slot}
use Rattle.ta_core.specs.declared.symbol.Slot.TheVariants.{Field, Link, Hook}
use Rattle.ta_core.specs.declared.symbol.Symbol.{Symbol}
use Rattle.ta_core.specs.declared.symbol.Symbol.TheVariants.{Null, Uninit, Dangling, Ref, Cell}
use Rattle.ta_core.specs.declared.tree.Tree.{Tree}
use Rattle.ta_core.specs.Arity.{child_slots, arity}
use Rattle.ta_core.specs.Auto.{Automaton, IsRanked, IsRankedRule}
use Rattle.ta_core.specs.Language.{RunOf, run, PassesBy, at_top, below, OnePasses, this_one, later_one, IsTrim}
use Rattle.fore_base.proofs.ListLemmas.{every_in, in_every}
use Rattle.fa_core.specs.declared.faces.Face.{Face}
use Rattle.fa_core.specs.declared.faces.BoxFace.{BoxFace}
use Rattle.fa_core.specs.Ways.{given_by}
use Rattle.fa_core.specs.Cells.{edges}
use Rattle.fa_core.specs.Filled.{IsFilledSpot, FieldEnds, EndFits, EndsFit, NamesStruct, HookFits, face_of}
use Rattle.fa_filling.specs.Ruled.{SymbolsOf, RuleSpots, SpotsFromRules, AreTops, IsAlone, FieldAlways, EndAlways}
use Rattle.fa_filling.specs.Ruled.{LinkAlways, OutputAlways, BoxAlways, HookAlways, SlotAlways, RuleAlways}
use Rattle.fa_filling.specs.Ruled.{EdgeAlways, IsShapedCell, ShapedBy, IsShapedRule, OnceBy, StateOnce, RootOnce}
use Rattle.fa_filling.specs.Ruled.{EdgeOnce, OnceBelow, IsOnceBelow, AreRulesFilled, IsFilledPart}
use Rattle.ta_core.proofs.Runs.{passed_tree}
use Rattle.fa_filling.proofs.SpotRules.{spots_by_rules, rules_by_spots, at_edge}

-- TOPS

top_at : (topss : List (List ℕ)) (tops : List ℕ) (r s : ℕ) → AreTops topss tops → IsAlone s (slice_get topss r)
    → slice_get tops r ≡ Some s
top_at [] [] r s h k = absurd k
top_at [] (t ∷ tops) r s h k = absurd h
top_at (x ∷ xs) [] r s h k = absurd h
top_at (x ∷ xs) (t ∷ tops) zero s h k = ap Some (every_in (λ (n : ℕ). n ≡ s) x t k h.0)
top_at (x ∷ xs) (t ∷ tops) (suc r) s h k = top_at xs tops r s h.1 k

abbrev pub AreFull : List (List ℕ) → Type 0
AreFull topss = Every (λ (ts : List ℕ). (t : ℕ) × IsIn t ts) topss

-- some structs at the tops
pub some_tops : (topss : List (List ℕ)) → AreFull topss → (tops : List ℕ) × AreTops topss tops
some_tops [] f = ([], tt)
some_tops (x ∷ xs) f = let k = some_tops xs f.1 in (f.0.0 ∷ k.0, (f.0.1, k.1))

-- some with a struct that may stand at the root
tops_with : (topss : List (List ℕ)) (r : ℕ) (ts : List ℕ) (t : ℕ) → AreFull topss → slice_get topss r ≡ Some ts
    → IsIn t ts → (tops : List ℕ) × AreTops topss tops × (slice_get tops r ≡ Some t)
tops_with [] r ts t f e i = absurd (true≢false (sym (ap there e)))
  where
    there : Option (List ℕ) → Bool
    there None = false
    there (Some x) = true
tops_with (x ∷ xs) zero ts t f e i = let k = some_tops xs f.1 in
    (t ∷ k.0, (subst (λ (o : Option (List ℕ)). IsIn t (said o)) (sym e) i, k.1), refl)
  where
    said : Option (List ℕ) → List ℕ
    said None = []
    said (Some y) = y
tops_with (x ∷ xs) (suc r) ts t f e i = let k = tops_with xs r ts t f.1 e i in (f.0.0 ∷ k.0, (f.0.1, k.1), k.2)

-- a root that has a top is there
top_there : (topss : List (List ℕ)) (tops : List ℕ) (r s : ℕ) → AreTops topss tops → slice_get tops r ≡ Some s
    → (ts : List ℕ) × (slice_get topss r ≡ Some ts)
top_there [] [] r s h e = absurd (true≢false (sym (ap there e)))
  where
    there : Option ℕ → Bool
    there None = false
    there (Some x) = true
top_there [] (t ∷ tops) r s h e = absurd h
top_there (x ∷ xs) [] r s h e = absurd h
top_there (x ∷ xs) (t ∷ tops) zero s h e = (x, refl)
top_there (x ∷ xs) (t ∷ tops) (suc r) s h e = top_there xs tops r s h.1 e

some_same : (s t : ℕ) → Some s ≡ Some t → s ≡ t
some_same s t e = ap number e
  where
    number : Option ℕ → ℕ
    number None = 0
    number (Some n) = n

-- ENDS

abbrev pub is_dangling : Symbol → Bool
is_dangling Null = false
is_dangling Uninit = false
is_dangling Dangling = true
is_dangling (Ref r) = false
is_dangling (Cell s ds ss) = false

not_dangling : (y : Symbol) → is_dangling y ≡ false → y ≡ Dangling → ⊥
not_dangling y h e = true≢false (sym (ap is_dangling e) ∙ h)

face_same : (x y : BoxFace) → Some x ≡ Some y → x ≡ y
face_same x y e = ap the e
  where
    the : Option BoxFace → BoxFace
    the None = x
    the (Some z) = z

-- what an edge of a box allows at its end, from what is said of the face
end_by : (face : Face) (tops : List ℕ) (topss : List (List ℕ)) (s b : ℕ) (y : Symbol) → AreTops topss tops
    → (o : Option BoxFace) → face_of face.boxes b ≡ o → BoxAlways topss s o y → EndFits face tops s (Link b) y
end_by face tops topss s b y h None e k = absurd k
end_by face tops topss s b y h (Some x) e (i, k) = out x.output refl k
  where
    out : (p : Option ℕ) → x.output ≡ p → OutputAlways topss x.gives_out p y → EndFits face tops s (Link b) y
    out None f k = absurd k
    out (Some t) f k = (x, t, e, i, f, here y k)
      where
        here : (y : Symbol) → LinkAlways topss t x.gives_out y
            → NamesStruct tops y t ⊎ ((y ≡ Dangling) × (x.gives_out ≡ []))
        here Null a = absurd a
        here Uninit a = absurd a
        here Dangling a = inr (refl, a)
        here (Ref r) a = inl (top_at topss tops r t h a)
        here (Cell u ds ss) a = inl a

end_always : (face : Face) (topss : List (List ℕ)) (tops : List ℕ) (s : ℕ) (x : Slot) (y : Symbol)
    → AreTops topss tops → EndAlways face topss s x y → EndFits face tops s x y
end_always face topss tops s (Field f) y h (t, k, a) = (t, k, here y a)
  where
    here : (y : Symbol) → FieldAlways topss t y → FieldEnds tops t y
    here Null a = tt
    here Uninit a = tt
    here Dangling a = tt
    here (Ref r) a = top_at topss tops r t h a
    here (Cell u ds ss) a = a
end_always face topss tops s (Link b) y h k = end_by face tops topss s b y h (face_of face.boxes b) refl k
end_always face topss tops s (Hook b) y h k = absurd k

module _ (face : Face) (topss : List (List ℕ)) (full : AreFull topss) where
  some : (tops : List ℕ) × AreTops topss tops
  some = some_tops topss full

  field_end : (s n : ℕ) (y : Symbol) → ((tops : List ℕ) → AreTops topss tops → EndFits face tops s (Field n) y)
      → EndAlways face topss s (Field n) y
  field_end s n y g = (first.0, first.1, here y g first.2)
    where
      first : EndFits face some.0 s (Field n) y
      first = g some.0 some.1

      here : (y : Symbol) → ((tops : List ℕ) → AreTops topss tops → EndFits face tops s (Field n) y)
          → FieldEnds some.0 first.0 y → FieldAlways topss first.0 y
      here Null g e = tt
      here Uninit g e = tt
      here Dangling g e = tt
      here (Cell u ds ss) g e = e
      here (Ref r) g e =
          let t = top_there topss some.0 r first.0 some.1 e in
          let a : IsAlone first.0 (Some t.0) = in_every (λ (m : ℕ). m ≡ first.0) t.0 (λ m i. (
          let w = tops_with topss r t.0 m full t.1 i in
          let b = g w.0 w.1 in
          some_same m b.0 (sym w.2 ∙ b.2) ∙ some_same b.0 first.0 (sym b.1 ∙ first.1))) in
          subst (λ (o : Option (List ℕ)). IsAlone first.0 o) (sym t.1) a

  link_end : (s b : ℕ) (y : Symbol) → ((tops : List ℕ) → AreTops topss tops → EndFits face tops s (Link b) y)
      → BoxAlways topss s (face_of face.boxes b) y
  link_end s b y g = found (g some.0 some.1)
    where
      ends : (x : BoxFace) (t : ℕ) → face_of face.boxes b ≡ Some x → x.output ≡ Some t → (y : Symbol)
          → ((tops : List ℕ) → AreTops topss tops → EndFits face tops s (Link b) y)
          → NamesStruct some.0 y t ⊎ ((y ≡ Dangling) × (x.gives_out ≡ [])) → LinkAlways topss t x.gives_out y
      ends x t e f Null g (inl a) = a
      ends x t e f Null g (inr p) = not_dangling Null refl p.0
      ends x t e f Uninit g (inl a) = a
      ends x t e f Uninit g (inr p) = not_dangling Uninit refl p.0
      ends x t e f Dangling g (inl a) = absurd a
      ends x t e f Dangling g (inr p) = p.1
      ends x t e f (Cell u ds ss) g (inl a) = a
      ends x t e f (Cell u ds ss) g (inr p) = absurd (not_dangling (Cell u ds ss) refl p.0)
      ends x t e f (Ref r) g (inr p) = absurd (not_dangling (Ref r) refl p.0)
      ends x t e f (Ref r) g (inl a) =
          let w = top_there topss some.0 r t some.1 a in
          let k : IsAlone t (Some w.0) = in_every (λ (m : ℕ). m ≡ t) w.0 (λ m i. (
          let v = tops_with topss r w.0 m full w.1 i in
          let d = g v.0 v.1 in
          let n : d.0 ≡ x = face_same d.0 x (sym d.2 ∙ e) in
          let o : d.1 ≡ t = some_same d.1 t (sym d.4 ∙ ap (λ (z : BoxFace). z.output) n ∙ f) in
          elim d.5 [
            | inl c ↦ some_same m d.1 (sym v.2 ∙ c) ∙ o
            | inr c ↦ absurd (not_dangling (Ref r) refl c.0)
          ])) in
          subst (λ (z : Option (List ℕ)). IsAlone t z) (sym w.1) k

      found : EndFits face some.0 s (Link b) y → BoxAlways topss s (face_of face.boxes b) y
      found (x, t, e, i, f, a) = subst (λ (o : Option BoxFace). BoxAlways topss s o y) (sym e)
          (i, subst (λ (p : Option ℕ). OutputAlways topss x.gives_out p y) (sym f) (ends x t e f y g a))

  always_end : (s : ℕ) (x : Slot) (y : Symbol)
      → ((tops : List ℕ) → AreTops topss tops → EndFits face tops s x y) → EndAlways face topss s x y
  always_end s (Field f) y g = field_end s f y g
  always_end s (Link b) y g = link_end s b y g
  always_end s (Hook b) y g = g some.0 some.1

hook_fits : (face : Face) (s b : ℕ) (o : Option BoxFace) → face_of face.boxes b ≡ o → HookAlways s o
    → HookFits face s b
hook_fits face s b None e k = absurd k
hook_fits face s b (Some x) e k = (x, e, k.0, k.1)

-- CELLS

module _ (face : Face) (topss : List (List ℕ)) (rules : List Rule) where
  -- a symbol of a state stands at the end as each of the state's rules does
  rule_end : (s q : ℕ) (x : Slot) (y : Symbol) → EdgeAlways face topss rules s (x, q) → SymbolsOf rules q y
      → EndAlways face topss s x y
  rule_end s q x y k (o, i, e, d) =
      subst (λ (z : Symbol). EndAlways face topss s x z) d
      (every_in (RuleAlways face topss s (x, q)) rules o k i e)

  -- the ends of a cell, edge by edge, hooks with them
  ends_always : (tops : List ℕ) (s : ℕ) (ss : List Slot) (qs : List ℕ) (ys : List Symbol) → AreTops topss tops
      → Every (SlotAlways face s) ss → length qs ≡ child_slots ss → Every (EdgeAlways face topss rules s) (edges ss qs)
      → Paired (SymbolsOf rules) qs ys → EndsFit face tops s ss ys
  ends_always tops s [] [] [] h p l k d = tt
  ends_always tops s [] [] (y ∷ ys) h p l k d = absurd d
  ends_always tops s [] (q ∷ qs) ys h p l k d = absurd (omega (arith, l))
  ends_always tops s (Hook b ∷ ss) qs ys h p l k d =
      (hook_fits face s b (face_of face.boxes b) refl p.0, ends_always tops s ss qs ys h p.1 l k d)
  ends_always tops s (Link b ∷ ss) [] ys h p l k d = absurd (omega (arith, l))
  ends_always tops s (Link b ∷ ss) (q ∷ qs) [] h p l k d = absurd d
  ends_always tops s (Link b ∷ ss) (q ∷ qs) (y ∷ ys) h p l k d = (
    end_always face topss tops s (Link b) y h (rule_end s q (Link b) y k.0 d.0),
    ends_always tops s ss qs ys h p.1 (omega (arith, l)) k.1 d.1,
  )
  ends_always tops s (Field f ∷ ss) [] ys h p l k d = absurd (omega (arith, l))
  ends_always tops s (Field f ∷ ss) (q ∷ qs) [] h p l k d = absurd d
  ends_always tops s (Field f ∷ ss) (q ∷ qs) (y ∷ ys) h p l k d = (
    end_always face topss tops s (Field f) y h (rule_end s q (Field f) y k.0 d.0),
    ends_always tops s ss qs ys h p.1 (omega (arith, l)) k.1 d.1,
  )

  ends_hooks : (tops : List ℕ) (s : ℕ) (ss : List Slot) (ys : List Symbol) → EndsFit face tops s ss ys
      → Every (SlotAlways face s) ss
  ends_hooks tops s [] ys h = tt
  ends_hooks tops s (Hook b ∷ ss) ys ((x, e, i, o), r) =
      (subst (λ (z : Option BoxFace). HookAlways s z) (sym e) (i, o), ends_hooks tops s ss ys r)
  ends_hooks tops s (Field f ∷ ss) [] h = absurd h
  ends_hooks tops s (Field f ∷ ss) (y ∷ ys) h = (tt, ends_hooks tops s ss ys h.1)
  ends_hooks tops s (Link b ∷ ss) [] h = absurd h
  ends_hooks tops s (Link b ∷ ss) (y ∷ ys) h = (tt, ends_hooks tops s ss ys h.1)

  end_of : (tops : List ℕ) (s : ℕ) (ss : List Slot) (ys : List Symbol) (x : Slot) (y : Symbol)
      → EndsFit face tops s ss ys → IsIn (x, y) (edges ss ys) → EndFits face tops s x y
  end_of tops s [] ys x y h i = absurd i
  end_of tops s (Hook b ∷ ss) ys x y h i = end_of tops s ss ys x y h.1 i
  end_of tops s (Field f ∷ ss) [] x y h i = absurd i
  end_of tops s (Field f ∷ ss) (z ∷ ys) x y h (inl e) =
      subst (λ (d : Slot × Symbol). EndFits face tops s d.0 d.1) (sym e) h.0
  end_of tops s (Field f ∷ ss) (z ∷ ys) x y h (inr i) = end_of tops s ss ys x y h.1 i
  end_of tops s (Link b ∷ ss) [] x y h i = absurd i
  end_of tops s (Link b ∷ ss) (z ∷ ys) x y h (inl e) =
      subst (λ (d : Slot × Symbol). EndFits face tops s d.0 d.1) (sym e) h.0
  end_of tops s (Link b ∷ ss) (z ∷ ys) x y h (inr i) = end_of tops s ss ys x y h.1 i

  -- the symbols below a rule, with a given one at an edge
  module _ (n : ℕ) (symbols : (q : ℕ) → q < n → (y : Symbol) × SymbolsOf rules q y) where
    pub all_symbols : (qs : List ℕ) → Every (λ q. q < n) qs → (ys : List Symbol) × Paired (SymbolsOf rules) qs ys
    all_symbols [] h = ([], tt)
    all_symbols (q ∷ qs) h = let a = symbols q h.0 in let k = all_symbols qs h.1 in (a.0 ∷ k.0, (a.1, k.1))

    pub symbols_with : (ss : List Slot) (qs : List ℕ) → Every (λ q. q < n) qs → (e : Slot × ℕ) → IsIn e (edges ss qs)
        → (y : Symbol) → SymbolsOf rules e.1 y → (ys : List Symbol) × Paired (SymbolsOf rules) qs ys
        × IsIn (e.0, y) (edges ss ys)
    symbols_with [] qs h e i y k = absurd i
    symbols_with (Hook b ∷ ss) qs h e i y k = symbols_with ss qs h e i y k
    symbols_with (Field f ∷ ss) [] h e i y k = absurd i
    symbols_with (Field f ∷ ss) (q ∷ qs) h e (inl x) y k = let l = all_symbols qs h.1 in
        (y ∷ l.0, (subst (λ (z : Slot × ℕ). SymbolsOf rules z.1 y) x k, l.1), inl (ap (λ (z : Slot × ℕ). (z.0, y)) x))
    symbols_with (Field f ∷ ss) (q ∷ qs) h e (inr j) y k = let a = symbols q h.0 in
        let l = symbols_with ss qs h.1 e j y k in (a.0 ∷ l.0, (a.1, l.1), inr l.2)
    symbols_with (Link b ∷ ss) [] h e i y k = absurd i
    symbols_with (Link b ∷ ss) (q ∷ qs) h e (inl x) y k = let l = all_symbols qs h.1 in
        (y ∷ l.0, (subst (λ (z : Slot × ℕ). SymbolsOf rules z.1 y) x k, l.1), inl (ap (λ (z : Slot × ℕ). (z.0, y)) x))
    symbols_with (Link b ∷ ss) (q ∷ qs) h e (inr j) y k = let a = symbols q h.0 in
        let l = symbols_with ss qs h.1 e j y k in (a.0 ∷ l.0, (a.1, l.1), inr l.2)

-- a state that takes part is a root state, or a child of a rule
mutual
  placed : (rules : List Rule) {q p : ℕ} {t : Tree} → PassesBy rules q p t → (p ≡ q)
      ⊎ ((r : Rule) × IsIn r rules × IsIn q r.children)
  placed rules (at_top e r) = inl e
  placed rules (below r i e s o) = elim (placed_one rules o) [ inl j ↦ inr (r, i, j) | inr k ↦ inr k ]

  placed_one : (rules : List Rule) {q : ℕ} {ps : List ℕ} {ts : List Tree} → OnePasses rules q ps ts → IsIn q ps
      ⊎ ((r : Rule) × IsIn r rules × IsIn q r.children)
  placed_one rules (this_one h rs) = elim (placed rules h) [ inl e ↦ inl (inl (sym e)) | inr k ↦ inr k ]
  placed_one rules (later_one r o) = elim (placed_one rules o) [ inl j ↦ inl (inr j) | inr k ↦ inr k ]

nothing : (q : ℕ) (qs : List ℕ) → length qs ≡ 0 → IsIn q qs → ⊥
nothing q [] l i = i
nothing q (x ∷ qs) l i = omega (arith, l)

-- FROM RULES TO TREES, AND BACK

module _ (face : Face) (topss : List (List ℕ)) (a : Automaton) (above : List ℕ) (proper : IsRanked a) where
  ranked_rule : (r : Rule) → IsIn r a.rules → IsRankedRule a.states r
  ranked_rule r i = every_in (IsRankedRule a.states) a.rules r proper.1 i

  -- what is said of the rule's cells, where the fields g are given to them
  abbrev Spots : List ℕ → Rule → Type 0
  Spots g r = (tops : List ℕ) → AreTops topss tops → RuleSpots (IsFilledSpot face tops) a.rules r g

  -- where the rules say so, the part is filled
  pub part_fills : AreRulesFilled face topss a above → IsFilledPart face topss a above
  part_fills h tops k = spots_by_rules face.boxes (IsFilledSpot face tops) a above (
    (λ r i j. each r i above (every_in (RootOnce face above a.roots) a.rules r h.roots i j)),
    (λ r i s ds ss e. in_every _ (edges ss r.children)
        (λ d j o m x. each o m (given_by face.boxes d.0) (once r i s ds ss e d j o m x))),
  )
    where
      each : (r : Rule) → IsIn r a.rules → (g : List ℕ) → OnceBy face g r.symbol
          → RuleSpots (IsFilledSpot face tops) a.rules r g
      each r i g o s ds ss e ys d =
          let c : IsShapedCell face topss a.rules s ss r.children =
          subst (λ (y : Symbol). ShapedBy face topss a.rules y r.children) e
          (every_in (IsShapedRule face topss a.rules) a.rules r h.shapes i) in
          record {
            ends = ends_always face topss a.rules tops s ss r.children ys k c.hooks ((ranked_rule r i).2 ∙ ap arity e)
                c.ends d;
            order = c.order;
            once = subst (λ (y : Symbol). OnceBy face g y) e o;
          }

      once : (r : Rule) → IsIn r a.rules → (s : ℕ) (ds : List Datum) (ss : List Slot) → r.symbol ≡ Cell s ds ss
          → (d : Slot × ℕ) → IsIn d (edges ss r.children) → (o : Rule) → IsIn o a.rules → o.state ≡ d.1
          → OnceBy face (given_by face.boxes d.0) o.symbol
      once r i s ds ss e d j o m x =
          let c : OnceBelow face a.rules (Cell s ds ss) r.children =
          subst (λ (y : Symbol). OnceBelow face a.rules y r.children) e
          (every_in (IsOnceBelow face a.rules) a.rules r h.edges i) in
          every_in (StateOnce face (given_by face.boxes d.0) d.1) a.rules o
          (every_in (EdgeOnce face a.rules) (edges ss r.children) d c j) m x

  -- where the part is filled and trimmed, the rules say so
  pub fills_part : IsTrim a → AreFull topss → IsFilledPart face topss a above → AreRulesFilled face topss a above
  fills_part trim full h = record {
    shapes = in_every (IsShapedRule face topss a.rules) a.rules
        (λ r i. (let w = at_rule r i in shape r i w.0 w.1 r.symbol refl));
    roots = in_every (RootOnce face above a.roots) a.rules
        (λ r i j. once_of r i above ((all any.0 any.1).0 r i j));
    edges = in_every (IsOnceBelow face a.rules) a.rules (λ r i. under r i r.symbol refl);
  }
    where
      any : (tops : List ℕ) × AreTops topss tops
      any = some_tops topss full

      symbols : (q : ℕ) → q < a.states → (y : Symbol) × SymbolsOf a.rules q y
      symbols q l = let p = trim q l in let w = passed_tree p.3 in of_run w.0 w.1
        where
          of_run : {q : ℕ} (t : Tree) → RunOf a.rules q t → (y : Symbol) × SymbolsOf a.rules q y
          of_run t (run r i e s k) = (r.symbol, (r, i, e, refl))

      all : (tops : List ℕ) → AreTops topss tops → SpotsFromRules face.boxes (IsFilledSpot face tops) a above
      all tops t = rules_by_spots face.boxes (IsFilledSpot face tops) a above proper trim (h tops t)

      once_of : (r : Rule) → IsIn r a.rules → (g : List ℕ) → RuleSpots (IsFilledSpot face any.0) a.rules r g
          → OnceBy face g r.symbol
      once_of r i g f = here r.symbol refl
        where
          here : (y : Symbol) → r.symbol ≡ y → OnceBy face g y
          here Null e = tt
          here Uninit e = tt
          here Dangling e = tt
          here (Ref m) e = tt
          here (Cell s ds ss) e =
              let ys = all_symbols face topss a.rules a.states symbols r.children (ranked_rule r i).1 in
              let c = f s ds ss e ys.0 ys.1 in
              c.once

      under : (r : Rule) → IsIn r a.rules → (y : Symbol) → r.symbol ≡ y → OnceBelow face a.rules y r.children
      under r i Null e = tt
      under r i Uninit e = tt
      under r i Dangling e = tt
      under r i (Ref m) e = tt
      under r i (Cell s ds ss) e = in_every _ (edges ss r.children)
          (λ d j. in_every _ a.rules
          (λ o m x. once_of o m (given_by face.boxes d.0)
          (every_in _ (edges ss r.children) d ((all any.0 any.1).1 r i s ds ss e) j o m x)))

      -- the rule stands at the root or below an edge, whatever stands at the tops
      at_rule : (r : Rule) → IsIn r a.rules → (g : List ℕ) × Spots g r
      at_rule r i = let p = trim r.state (ranked_rule r i).0 in here p.0 p.2 (placed a.rules p.3)
        where
          below_o : (o : Rule) → IsIn o a.rules → IsIn r.state o.children → (y : Symbol) → o.symbol ≡ y
              → (g : List ℕ) × Spots g r
          below_o o j k (Cell s ds ss) e =
              let d = at_edge face.boxes (IsFilledSpot face any.0) a.rules r.state ss o.children
              ((ranked_rule o j).2 ∙ ap arity e) k in (
                given_by face.boxes d.0,
                (λ tops t. every_in _ (edges ss o.children) (d.0, r.state) ((all tops t).1 o j s ds ss e) d.1 r i refl),
              )
          below_o o j k Null e = absurd (nothing r.state o.children ((ranked_rule o j).2 ∙ ap arity e) k)
          below_o o j k Uninit e = absurd (nothing r.state o.children ((ranked_rule o j).2 ∙ ap arity e) k)
          below_o o j k Dangling e = absurd (nothing r.state o.children ((ranked_rule o j).2 ∙ ap arity e) k)
          below_o o j k (Ref m) e = absurd (nothing r.state o.children ((ranked_rule o j).2 ∙ ap arity e) k)

          here : (p : ℕ) → IsIn p a.roots → (p ≡ r.state) ⊎ ((o : Rule) × IsIn o a.rules × IsIn r.state o.children)
              → (g : List ℕ) × Spots g r
          here p j (inl e) = (above, (λ tops t. (all tops t).0 r i (subst (λ (x : ℕ). IsIn x a.roots) e j)))
          here p j (inr k) = below_o k.0 k.1 k.2 k.0.symbol refl

      shape : (r : Rule) → IsIn r a.rules → (g : List ℕ) → Spots g r → (y : Symbol) → r.symbol ≡ y
          → ShapedBy face topss a.rules y r.children
      shape r i g f Null e = tt
      shape r i g f Uninit e = tt
      shape r i g f Dangling e = tt
      shape r i g f (Ref m) e = tt
      shape r i g f (Cell s ds ss) e =
          let l = (ranked_rule r i).1 in
          let ys = all_symbols face topss a.rules a.states symbols r.children l in
          let c = f any.0 any.1 s ds ss e ys.0 ys.1 in
          record {
            ends = in_every (EdgeAlways face topss a.rules s) (edges ss r.children)
                (λ d j. in_every (RuleAlways face topss s d) a.rules
                (λ o m x. always_end face topss full s d.0 o.symbol
                (λ tops t. (
                let w = symbols_with face topss a.rules a.states symbols ss r.children l d j o.symbol (o, m, x, refl) in
                let k = f tops t s ds ss e w.0 w.1 in
                end_of face topss a.rules tops s ss w.0 d.0 o.symbol k.ends w.2))));
            hooks = ends_hooks face topss a.rules any.0 s ss ys.0 c.ends;
            order = c.order;
          }
