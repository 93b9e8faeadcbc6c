-- Cells of one number have one tree in two canonical dressed forests of one store, but for the order of the roots.
use Rattle.std.proofs.Common.{◌≡◌, inl, inr, ℕ, List, [], ◌∷◌, refl, sym, ap, subst, ◌∙◌}
use Rattle.fore_base.specs.Lists.{IsIn, IsDistinct}
use Rattle.fore_base.specs.declared.store.Datum.{Datum}
use Rattle.fore_base.specs.declared.store.Value.{Value}
use Rattle.fore_base.specs.declared.store.Value.TheVariants.{Null as NullValue, Uninit as UninitValue}
use Rattle.fore_base.specs.declared.store.Value.TheVariants.{Dangling as DanglingValue}
use Rattle.fa_core.specs.declared.forest.Target.{Target}
use Rattle.fa_core.specs.declared.forest.Target.TheVariants.{Null, Uninit, Dangling, At}
use Rattle.fa_core.specs.Choices.{count}
use Rattle.fa_core.specs.Dressed.{Node, Parts, End, Nodes, node, no_parts, field, link, hook, under, leaf, Fact, Head}
use Rattle.fa_core.specs.Dressed.{Points, facts, end_value, value_in, roots_of, number, refs}
use Rattle.fa_core.specs.Rearranged.{Rearranged}
use Rattle.fa_core.specs.References.{AllBelow}
use Rattle.fa_core.proofs.Permuted.{in_rearranged}
use Rattle.fa_core.proofs.PlainNodes.{NoEdges, NoEdgesOf, NoEdgesAt}
use Rattle.fa_core.proofs.Rearranging.{back}
use Rattle.fa_back.proofs.FactParts.{no_cell, number_of, fact_cell}
use Rattle.fa_unique.proofs.CellsWithin.{HasField, parts_of, IsSubIn, one_cell_in, field_cell}
use Rattle.fa_unique.proofs.Heads.{shape_of, datums_of, the_head, head_in, head_from}
use Rattle.fa_unique.proofs.Pointers.{all_inner}
use Rattle.fa_unique.proofs.SameRoots.{IsCanonicalDressed, root_top, moved_field, root_there}

-- the fields of the slots, in order
abbrev pub field_numbers : Parts → List ℕ
field_numbers no_parts = []
field_numbers (field f e ps) = f ∷ field_numbers ps
field_numbers (link b inside e ps) = field_numbers ps
field_numbers (hook b inside ps) = field_numbers ps

-- each cell has the fields of its struct, in order; each reference is in range
pub record IsWhole (fields : ℕ → List ℕ) (d : Nodes) : Type 0 where
  pub slots : (z : Node) → IsSubIn z d → field_numbers (parts_of z) ≡ fields (shape_of z)
  pub range : (z : Node) → IsSubIn z d → AllBelow (count d) (refs z)

abbrev mutual
  -- the same tree but for the order of the roots: what a leaf is, and not which root it names
  pub Alike : List Value → List Value → Node → Node → Type 0
  Alike vs ws (node c s ds ps) (node c' s' ds' ps') = (c ≡ c') × (s ≡ s') × (ds ≡ ds') × AlikeParts vs ws ps ps'

  -- the same slots
  pub AlikeParts : List Value → List Value → Parts → Parts → Type 0
  AlikeParts vs ws no_parts no_parts = Unit {0}
  AlikeParts vs ws no_parts (field f e ps) = ⊥
  AlikeParts vs ws no_parts (link b inside e ps) = ⊥
  AlikeParts vs ws no_parts (hook b inside ps) = ⊥
  AlikeParts vs ws (field f e ps) no_parts = ⊥
  AlikeParts vs ws (field f e ps) (field f' e' ps') = (f ≡ f') × AlikeEnd vs ws e e' × AlikeParts vs ws ps ps'
  AlikeParts vs ws (field f e ps) (link b inside e' ps') = ⊥
  AlikeParts vs ws (field f e ps) (hook b inside ps') = ⊥
  AlikeParts vs ws (link b inside e ps) qs = ⊥
  AlikeParts vs ws (hook b inside ps) qs = ⊥

  -- the same end
  pub AlikeEnd : List Value → List Value → End → End → Type 0
  AlikeEnd vs ws (under n) (under m) = Alike vs ws n m
  AlikeEnd vs ws (under n) (leaf u) = ⊥
  AlikeEnd vs ws (leaf t) (under m) = ⊥
  AlikeEnd vs ws (leaf t) (leaf u) = value_in vs t ≡ value_in ws u

has_number : (f : ℕ) (e : End) (ps : Parts) → HasField f e ps → IsIn f (field_numbers ps)
has_number f e no_parts h = absurd h
has_number f e (field g x ps) (inl h) = inl h.0
has_number f e (field g x ps) (inr h) = inr (has_number f e ps h)
has_number f e (link b inside x ps) h = has_number f e ps h
has_number f e (hook b inside ps) h = has_number f e ps h

-- one field, one end
one_end : (f : ℕ) (a b : End) (ps : Parts) → IsDistinct (field_numbers ps) → HasField f a ps → HasField f b ps → a ≡ b
one_end f a b no_parts n h k = absurd h
one_end f a b (field g x ps) n (inl h) (inl k) = h.1 ∙ sym k.1
one_end f a b (field g x ps) n (inl h) (inr k) = absurd (n.0
    (subst (λ (i : ℕ). IsIn i (field_numbers ps)) h.0 (has_number f b ps k)))
one_end f a b (field g x ps) n (inr h) (inl k) = absurd (n.0
    (subst (λ (i : ℕ). IsIn i (field_numbers ps)) k.0 (has_number f a ps h)))
one_end f a b (field g x ps) n (inr h) (inr k) = one_end f a b ps n.1 h k
one_end f a b (link l inside x ps) n h k = one_end f a b ps n h k
one_end f a b (hook l inside ps) n h k = one_end f a b ps n h k

abbrev fact_shape : Fact → ℕ
fact_shape (Head c s ds) = s
fact_shape (Points c f v) = 0

abbrev fact_datums : Fact → List Datum
fact_datums (Head c s ds) = ds
fact_datums (Points c f v) = []

abbrev head_or : ℕ → List ℕ → ℕ
head_or d [] = d
head_or d (z ∷ zs) = z

abbrev tail_of : List ℕ → List ℕ
tail_of [] = []
tail_of (z ∷ zs) = zs

abbrev IsNil : List ℕ → Type 0
IsNil [] = Unit {0}
IsNil (z ∷ zs) = ⊥

module _ (vars : List Value) (ts us : List Target) (d e : Nodes) (h : IsCanonicalDressed vars ts d)
    (g : IsCanonicalDressed vars us e) (r : Rearranged (facts d) (facts e))
    (fields : ℕ → List ℕ) (each : (s : ℕ) → IsDistinct (fields s)) (wd : IsWhole fields d)
    (we : IsWhole fields e) where
  -- cells of one number have one head
  one_head : (x z : Node) → IsSubIn x d → IsSubIn z e → number x ≡ number z → (shape_of x ≡ shape_of z)
      × (datums_of x ≡ datums_of z)
  one_head x z i j q =
      let k = head_from (number x) (shape_of x) (datums_of x) e g.plain
      (in_rearranged (the_head x) r (head_in x d h.plain i)) in
      let s : k.0 ≡ z = one_cell_in k.0 z e g.distinct k.1 j (sym (ap fact_cell k.2) ∙ q) in
      (ap fact_shape k.2 ∙ ap shape_of s, ap fact_datums k.2 ∙ ap datums_of s)

  mutual
    -- cells of one number have the same tree
    pub alike_tree : (x z : Node) → NoEdges x → NoEdges z → IsSubIn x d → IsSubIn z e → number x ≡ number z
        → Alike (roots_of d) (roots_of e) x z
    alike_tree (node c s ds ps) (node c' s' ds' ps') bx bz i j q =
        let o = one_head (node c s ds ps) (node c' s' ds' ps') i j q in
        let n : field_numbers ps ≡ field_numbers ps' = wd.slots (node c s ds ps) i ∙ ap fields o.0
        ∙ sym (we.slots (node c' s' ds' ps') j) in (
          q,
          o.0,
          o.1,
          alike_parts (node c s ds ps) (node c' s' ds' ps') ps ps' bx bz (λ f a k. k)
              (λ f a k. k) n i j q,
        )

    alike_parts : (x z : Node) (ps qs : Parts) → NoEdgesOf ps → NoEdgesOf qs
        → ((f : ℕ) (a : End) → HasField f a ps → HasField f a (parts_of x))
        → ((f : ℕ) (a : End) → HasField f a qs → HasField f a (parts_of z)) → field_numbers ps ≡ field_numbers qs
        → IsSubIn x d → IsSubIn z e → number x ≡ number z → AlikeParts (roots_of d) (roots_of e) ps qs
    alike_parts x z no_parts no_parts bp bq sp sq n i j q = tt
    alike_parts x z no_parts (field f b qs) bp bq sp sq n i j q = absurd (subst IsNil n tt)
    alike_parts x z no_parts (link l inside b qs) bp bq sp sq n i j q = absurd bq
    alike_parts x z no_parts (hook l inside qs) bp bq sp sq n i j q = absurd bq
    alike_parts x z (field f a ps) no_parts bp bq sp sq n i j q = absurd (subst IsNil (sym n) tt)
    alike_parts x z (field f a ps) (link l inside b qs) bp bq sp sq n i j q = absurd bq
    alike_parts x z (field f a ps) (hook l inside qs) bp bq sp sq n i j q = absurd bq
    alike_parts x z (link l inside a ps) qs bp bq sp sq n i j q = absurd bp
    alike_parts x z (hook l inside ps) qs bp bq sp sq n i j q = absurd bp
    alike_parts x z (field f a ps) (field f' b qs) bp bq sp sq n i j q =
        let w : f ≡ f' = ap (head_or f) n in
        let here = sp f a (inl (refl, refl)) in
        let there : HasField f b (parts_of z) = sq f b (inl (w, refl)) in
        let m = moved_field vars ts us d e h g r x z f a i j q here in
        let o : m.0 ≡ b = one_end f m.0 b (parts_of z) (subst IsDistinct (sym (we.slots z j))
        (each (shape_of z))) m.1 there in
        let v : end_value (roots_of e) b ≡ end_value (roots_of d) a = subst
        (λ (y : End). end_value (roots_of e) y ≡ end_value (roots_of d) a) o m.2 in (
          w,
          alike_end x z f a b bp.0 bq.0 i j here there v,
          alike_parts x z ps qs bp.1 bq.1
              (λ f1 a1 k. sp f1 a1 (inr k)) (λ f1 a1 k. sq f1 a1 (inr k)) (ap tail_of n) i j q,
        )

    alike_end : (x z : Node) (f : ℕ) (a b : End) → NoEdgesAt a → NoEdgesAt b → IsSubIn x d → IsSubIn z e
        → HasField f a (parts_of x) → HasField f b (parts_of z)
        → end_value (roots_of e) b ≡ end_value (roots_of d) a → AlikeEnd (roots_of d) (roots_of e) a b
    alike_end x z f (under n) (under m) ba bb i j k l v = alike_tree n m ba bb (field_cell d x n f i k).0
        (field_cell e z m f j l).0 (sym (ap number_of v))
    alike_end x z f (leaf t) (leaf u) ba bb i j k l v = sym v
    alike_end x z f (under n) (leaf Null) ba bb i j k l v = absurd (no_cell NullValue (number n) v)
    alike_end x z f (under n) (leaf Uninit) ba bb i j k l v = absurd (no_cell UninitValue (number n) v)
    alike_end x z f (under n) (leaf Dangling) ba bb i j k l v = absurd (no_cell DanglingValue (number n) v)
    alike_end x z f (under n) (leaf (At o)) ba bb i j k l v =
        let y = root_top e o (number n) v in
        absurd (root_there vars us ts e d g h (back r) o y.0 y.1
        (subst (λ (c : ℕ). IsIn c (all_inner d)) (sym y.2) (field_cell d x n f i k).1))
    alike_end x z f (leaf Null) (under m) ba bb i j k l v = absurd (no_cell NullValue (number m) (sym v))
    alike_end x z f (leaf Uninit) (under m) ba bb i j k l v = absurd (no_cell UninitValue (number m) (sym v))
    alike_end x z f (leaf Dangling) (under m) ba bb i j k l v = absurd (no_cell DanglingValue (number m) (sym v))
    alike_end x z f (leaf (At o)) (under m) ba bb i j k l v =
        let y = root_top d o (number m) (sym v) in
        absurd (root_there vars ts us d e h g r o y.0 y.1 (subst (λ (c : ℕ). IsIn c (all_inner e)) (sym y.2)
        (field_cell e z m f j l).1))
