-- The facts of a dressed forest are those of its own cells and those of the insides of its box edges.
use Rattle.std.proofs.Common.{◌≡◌, ◌⊎◌, inl, inr, ℕ, zero, suc, List, [], ◌∷◌, ◌++◌}
use Rattle.std.proofs.Common.{refl, sym, ap, subst, ◌∙◌}
use Rattle.fore_base.specs.Lists.{IsIn}
use Rattle.fore_base.specs.declared.store.Value.{Value}
use Rattle.fore_base.specs.declared.store.Value.TheVariants.{Null as NullValue, Uninit as UninitValue}
use Rattle.fore_base.specs.declared.store.Value.TheVariants.{Dangling as DanglingValue, Cell}
use Rattle.fore_base.proofs.ListLemmas.{in_left, in_right, in_append}
use Rattle.fa_core.specs.declared.forest.Target.TheVariants.{Null, Uninit, Dangling, At}
use Rattle.fa_core.specs.Boxes.{head_of, heads}
use Rattle.fa_core.specs.Dressed.{Node, Parts, End, Nodes, node, no_parts, field, link, hook, under, leaf, no_nodes}
use Rattle.fa_core.specs.Dressed.{more, Fact, Points, tree_facts, slot_facts, end_facts, forest_facts}
use Rattle.fa_core.specs.Dressed.{port_facts, end_value, nth_value, roots_of, with_ports}
use Rattle.fa_core.specs.Dressed.{inside_facts}
use Rattle.fa_core.proofs.Rearranging.{flat_map-append}
use Rattle.fa_back.proofs.FactParts.{IsPointer, fact_cell, fact_value, number_of, no_cell}

-- An inside is met only at its ports.

-- n is a cell with a head here, or the cell of one of the values
abbrev pub Within : List ℕ → List Value → ℕ → Type 0
Within hs vs n = IsIn n hs ⊎ IsIn (Cell n) vs

pub heads_left : (xs ys : List Fact) (n : ℕ) → IsIn n (heads xs) → IsIn n (heads (xs ++ ys))
heads_left xs ys n i = rw (flat_map-append head_of xs ys) (in_left n (heads xs) (heads ys) i)

pub heads_right : (xs ys : List Fact) (n : ℕ) → IsIn n (heads ys) → IsIn n (heads (xs ++ ys))
heads_right xs ys n i = rw (flat_map-append head_of xs ys) (in_right n (heads xs) (heads ys) i)

grow : (hs gs : List ℕ) (vs ws : List Value) (n : ℕ) → ((k : ℕ) → IsIn k hs → IsIn k gs)
    → ((v : Value) → IsIn v vs → IsIn v ws ⊎ ((k : ℕ) × (v ≡ Cell k) × IsIn k gs)) → Within hs vs n → Within gs ws n
grow hs gs vs ws n f g (inl i) = inl (f n i)
grow hs gs vs ws n f g (inr i) = elim (g (Cell n) i) [
  | inl j ↦ inr j
  | inr j ↦
      inl (rw (sym (ap number_of j.1)) at j.2)
]

in_nth : (vs : List Value) (k n : ℕ) → nth_value vs k ≡ Cell n → IsIn (Cell n) vs
in_nth [] k n e = absurd (no_cell DanglingValue n e)
in_nth (v ∷ vs) zero n e = inl (sym e)
in_nth (v ∷ vs) (suc k) n e = inr (in_nth vs k n e)

end_within : (vs : List Value) (e : End) (n : ℕ) → end_value vs e ≡ Cell n → Within (heads (end_facts vs e)) vs n
end_within vs (under (node c s ds ps)) n h = inl (inl (sym (ap number_of h)))
end_within vs (leaf Null) n h = absurd (no_cell NullValue n h)
end_within vs (leaf Uninit) n h = absurd (no_cell UninitValue n h)
end_within vs (leaf Dangling) n h = absurd (no_cell DanglingValue n h)
end_within vs (leaf (At k)) n h = inr (in_nth vs k n h)

roots_within : (vs : List Value) (d : Nodes) (n : ℕ) → IsIn (Cell n) (roots_of d)
    → IsIn n (heads (forest_facts vs [] d))
roots_within vs no_nodes n i = absurd i
roots_within vs (more (node c s ds ps) ns) n (inl e) = inl (ap number_of e)
roots_within vs (more (node c s ds ps) ns) n (inr i) =
    inr (heads_right (slot_facts vs c ps) (forest_facts vs [] ns) n (roots_within vs ns n i))

ports_within : (vs ports : List Value) (d : Nodes) (n : ℕ) → IsIn (Cell n) (with_ports ports d)
    → Within (heads (forest_facts vs ports d)) ports n
ports_within vs [] d n i = inl (roots_within vs d n i)
ports_within vs (v ∷ ports) no_nodes n i = absurd i
ports_within vs (v ∷ ports) (more x ns) n (inl e) = inr (inl e)
ports_within vs (v ∷ ports) (more x ns) n (inr i) = elim (ports_within vs ports ns n i) [
  | inl j ↦ inl (heads_right (port_facts vs v x) (forest_facts vs ports ns) n j)
  | inr j ↦ inr (inr j)
]

-- what an end is: a cell below it, or one of the values
end_value_in : (vs : List Value) (e : End) (v : Value) → v ≡ end_value vs e → (xs : List Fact)
    → IsIn v (NullValue ∷ UninitValue ∷ DanglingValue ∷ vs)
    ⊎ ((k : ℕ) × (v ≡ Cell k) × IsIn k (heads (end_facts vs e ++ xs)))
end_value_in vs (under (node c s ds ps)) v h xs = inr (c, h, inl refl)
end_value_in vs (leaf Null) v h xs = inl (inl h)
end_value_in vs (leaf Uninit) v h xs = inl (inr (inl h))
end_value_in vs (leaf Dangling) v h xs = inl (inr (inr (inl h)))
end_value_in vs (leaf (At k)) v h xs = go (nth_value vs k) refl
  where
    go : (w : Value) → nth_value vs k ≡ w → IsIn v (NullValue ∷ UninitValue ∷ DanglingValue ∷ vs)
        ⊎ ((k : ℕ) × (v ≡ Cell k) × IsIn k (heads xs))
    go NullValue e = inl (inl (h ∙ e))
    go UninitValue e = inl (inr (inl (h ∙ e)))
    go DanglingValue e = inl (inr (inr (inl (h ∙ e))))
    go (Cell n) e = inl (inr (inr (inr (subst (λ (z : Value). IsIn z vs) (sym (h ∙ e)) (in_nth vs k n e)))))

-- values that are no cells are of no account
abbrev pub padded : List Value → List Value
padded vs = NullValue ∷ UninitValue ∷ DanglingValue ∷ vs

unpad : (vs : List Value) (n : ℕ) → IsIn (Cell n) (padded vs) → IsIn (Cell n) vs
unpad vs n (inl e) = absurd (no_cell NullValue n (sym e))
unpad vs n (inr (inl e)) = absurd (no_cell UninitValue n (sym e))
unpad vs n (inr (inr (inl e))) = absurd (no_cell DanglingValue n (sym e))
unpad vs n (inr (inr (inr i))) = i

module _ (m f n : ℕ) where
  -- the source and the target of a pointer
  abbrev pub Both : List ℕ → List Value → Type 0
  Both hs vs = Within hs vs m × Within hs vs n

  both_grow : (hs gs : List ℕ) (vs ws : List Value) → ((k : ℕ) → IsIn k hs → IsIn k gs)
      → ((k : ℕ) → IsIn (Cell k) vs → Within gs ws k) → Both hs vs → Both gs ws
  both_grow hs gs vs ws h g b = (one m b.0, one n b.1)
    where
      one : (k : ℕ) → Within hs vs k → Within gs ws k
      one k (inl i) = inl (h k i)
      one k (inr i) = g k i

  -- the output port of a link
  port_end : (vs : List Value) (c : ℕ) (e : End) (xs : List Fact) (gs : List ℕ)
      → ((j : ℕ) → IsIn j (heads (end_facts vs e ++ xs)) → IsIn j gs) → (k : ℕ)
      → IsIn (Cell k) (Cell c ∷ (end_value vs e ∷ [])) → Within gs (Cell c ∷ vs) k
  port_end vs c e xs gs h k (inl x) = inr (inl x)
  port_end vs c e xs gs h k (inr (inl x)) = elim (end_value_in vs e (Cell k) x xs) [
    | inl i ↦ inr (inr (unpad vs k i))
    | inr i ↦ inl (h k (rw (sym (ap number_of i.1)) at i.2))
  ]
  port_end vs c e xs gs h k (inr (inr x)) = absurd x

  rest_local : (vs : List Value) (c : ℕ) (xs ys : List Fact) → (IsIn (Points m f (Cell n)) xs → Both (heads xs) vs)
      → (IsIn (Points m f (Cell n)) ys → Both (heads ys) (Cell c ∷ vs)) → IsIn (Points m f (Cell n)) (xs ++ ys)
      → Both (heads (xs ++ ys)) (Cell c ∷ vs)
  rest_local vs c xs ys p q i = elim (in_append (Points m f (Cell n)) xs ys i) [
    | inl j ↦ both_grow (heads xs) (heads (xs ++ ys)) vs (Cell c ∷ vs) (λ k l. heads_left xs ys k l)
        (λ k l. inr (inr l)) (p j)
    | inr j ↦ both_grow (heads ys) (heads (xs ++ ys)) (Cell c ∷ vs) (Cell c ∷ vs) (λ k l. heads_right xs ys k l)
        (λ k l. inr l) (q j)
  ]

  at_ports : (ports : List Value) (d : Nodes) → Both (heads (inside_facts ports d)) (ports ++ with_ports ports d)
      → Both (heads (inside_facts ports d)) ports
  at_ports ports d b = both_grow (heads (inside_facts ports d)) (heads (inside_facts ports d))
      (ports ++ with_ports ports d) ports (λ k l. l)
      (λ k l. elim (in_append (Cell k) ports (with_ports ports d) l) [
        | inl y ↦ inr y
        | inr y ↦
            ports_within (with_ports ports d) ports d k y
      ]) b

  mutual
    pub tree_local : (vs : List Value) (x : Node) → IsIn (Points m f (Cell n)) (tree_facts vs x)
        → Both (heads (tree_facts vs x)) vs
    tree_local vs (node c s ds ps) (inl e) = absurd (subst IsPointer e tt)
    tree_local vs (node c s ds ps) (inr i) =
        both_grow (heads (slot_facts vs c ps)) (c ∷ heads (slot_facts vs c ps)) (Cell c ∷ vs) vs (λ k j. inr j)
        (λ k j. elim j [ inl e ↦ inl (inl (ap number_of e)) | inr e ↦ inr e ])
        (slots_local vs c ps i)

    pub slots_local : (vs : List Value) (c : ℕ) (ps : Parts) → IsIn (Points m f (Cell n)) (slot_facts vs c ps)
        → Both (heads (slot_facts vs c ps)) (Cell c ∷ vs)
    slots_local vs c no_parts i = absurd i
    slots_local vs c (field g e ps) (inl h) = (
      inr (inl (ap (λ (z : ℕ). Cell z) (ap fact_cell h))),
      grow (heads (end_facts vs e)) (heads (end_facts vs e ++ slot_facts vs c ps)) vs (Cell c ∷ vs) n
          (λ k j. heads_left (end_facts vs e) (slot_facts vs c ps) k j) (λ v j. inl (inr j))
          (end_within vs e n (sym (ap fact_value h))),
    )
    slots_local vs c (field g e ps) (inr i) = rest_local vs c (end_facts vs e) (slot_facts vs c ps) (end_local vs e)
        (slots_local vs c ps) i
    slots_local vs c (link b inside e ps) i =
        let F : List Fact = inside_facts (Cell c ∷ (end_value vs e ∷ [])) inside in
        let R : List Fact = end_facts vs e ++ slot_facts vs c ps in
        elim (in_append (Points m f (Cell n)) (inside_facts (Cell c ∷ (end_value vs e ∷ [])) inside)
        (end_facts vs e ++ slot_facts vs c ps) i) [
          | inl j ↦ both_grow (heads F) (heads (F ++ R)) (Cell c ∷ (end_value vs e ∷ [])) (Cell c ∷ vs)
              (λ k l. heads_left F R k l)
              (λ k l. port_end vs c e (slot_facts vs c ps) (heads (F ++ R)) (λ y z. heads_right F R y z) k l)
              (at_ports (Cell c ∷ (end_value vs e ∷ [])) inside
              (forest_local (with_ports (Cell c ∷ (end_value vs e ∷ [])) inside) (Cell c ∷ (end_value vs e ∷ []))
              inside j))
          | inr j ↦ both_grow (heads R) (heads (F ++ R)) (Cell c ∷ vs) (Cell c ∷ vs) (λ k l. heads_right F R k l)
              (λ k l. inr l) (rest_local vs c (end_facts vs e) (slot_facts vs c ps) (end_local vs e)
              (slots_local vs c ps) j)
        ]
    slots_local vs c (hook b inside ps) i =
        let F : List Fact = inside_facts (Cell c ∷ []) inside in
        elim (in_append (Points m f (Cell n)) (inside_facts (Cell c ∷ []) inside) (slot_facts vs c ps) i) [
          | inl j ↦ both_grow (heads F) (heads (F ++ slot_facts vs c ps)) (Cell c ∷ []) (Cell c ∷ vs)
              (λ k l. heads_left F (slot_facts vs c ps) k l)
              (λ k l. elim l [ inl x ↦ inr (inl x) | inr x ↦ absurd x ])
              (at_ports (Cell c ∷ []) inside
              (forest_local (with_ports (Cell c ∷ []) inside) (Cell c ∷ []) inside j))
          | inr j ↦ both_grow (heads (slot_facts vs c ps)) (heads (F ++ slot_facts vs c ps)) (Cell c ∷ vs) (Cell c ∷ vs)
              (λ k l. heads_right F (slot_facts vs c ps) k l) (λ k l. inr l) (slots_local vs c ps j)
        ]

    pub end_local : (vs : List Value) (e : End) → IsIn (Points m f (Cell n)) (end_facts vs e)
        → Both (heads (end_facts vs e)) vs
    end_local vs (under x) i = tree_local vs x i
    end_local vs (leaf t) i = absurd i

    pub forest_local : (vs ports : List Value) (d : Nodes) → IsIn (Points m f (Cell n)) (forest_facts vs ports d)
        → Both (heads (forest_facts vs ports d)) (ports ++ vs)
    forest_local vs ports no_nodes i = absurd i
    forest_local vs [] (more x ns) i = elim (in_append (Points m f (Cell n)) (tree_facts vs x) (forest_facts vs [] ns)
        i) [
          | inl j ↦ both_grow (heads (tree_facts vs x)) (heads (tree_facts vs x ++ forest_facts vs [] ns)) vs vs
              (λ k l. heads_left (tree_facts vs x) (forest_facts vs [] ns) k l) (λ k l. inr l) (tree_local vs x j)
          | inr j ↦ both_grow (heads (forest_facts vs [] ns)) (heads (tree_facts vs x ++ forest_facts vs [] ns)) vs vs
              (λ k l. heads_right (tree_facts vs x) (forest_facts vs [] ns) k l) (λ k l. inr l)
              (forest_local vs [] ns j)
        ]
    forest_local vs (v ∷ ports) (more x ns) i =
        elim (in_append (Points m f (Cell n)) (port_facts vs v x) (forest_facts vs ports ns) i) [
          | inl j ↦ both_grow (heads (port_facts vs v x)) (heads (port_facts vs v x ++ forest_facts vs ports ns))
              (v ∷ vs) (v ∷ (ports ++ vs)) (λ k l. heads_left (port_facts vs v x) (forest_facts vs ports ns) k l)
              (λ k l. elim l [ inl y ↦ inr (inl y) | inr y ↦ inr (inr (in_right (Cell k) ports vs y)) ])
              (port_local vs v x j)
          | inr j ↦ both_grow (heads (forest_facts vs ports ns)) (heads (port_facts vs v x ++ forest_facts vs ports ns))
              (ports ++ vs) (v ∷ (ports ++ vs)) (λ k l. heads_right (port_facts vs v x) (forest_facts vs ports ns) k l)
              (λ k l. inr (inr l)) (forest_local vs ports ns j)
        ]

    port_local : (vs : List Value) (v : Value) (x : Node) → IsIn (Points m f (Cell n)) (port_facts vs v x)
        → Both (heads (port_facts vs v x)) (v ∷ vs)
    port_local vs NullValue (node c s ds ps) i = absurd i
    port_local vs UninitValue (node c s ds ps) i = absurd i
    port_local vs DanglingValue (node c s ds ps) i = absurd i
    port_local vs (Cell k) (node c s ds ps) i = slots_local vs k ps i

  -- a pointer of an inside starts and ends at its own cells and its ports
  pub inside_local : (ports : List Value) (d : Nodes) → IsIn (Points m f (Cell n)) (inside_facts ports d)
      → Both (heads (inside_facts ports d)) ports
  inside_local ports d i = at_ports ports d (forest_local (with_ports ports d) ports d i)
