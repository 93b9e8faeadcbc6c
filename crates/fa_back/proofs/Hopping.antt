-- In a list of facts that meets the insides of box edges only at their ports, cells outside are reached exactly by
-- hops.
use Rattle.std.proofs.Common.{◌≡◌, ◌⊎◌, inl, inr, ℕ, true, List, [], ◌∷◌, refl, sym, ap, subst, ◌∙◌}
use Rattle.fore_base.specs.Lists.{IsIn}
use Rattle.fore_base.specs.declared.store.Value.{Value}
use Rattle.fore_base.specs.declared.store.Value.TheVariants.{Cell}
use Rattle.fa_core.specs.Boxes.{Reaches, named, through, heads}
use Rattle.fa_core.specs.Dressed.{Fact, Points}
use Rattle.fa_back.specs.inner.Hops.{Edge, Hops, hop_var, hop_own, hop_down, hop_up}
use Rattle.fa_back.proofs.FactParts.{number_of}

-- n is the upper cell, the lower end, or a cell of the inside
abbrev pub Meets : Edge → ℕ → Type 0
Meets e n = IsIn n (heads e.facts) ⊎ ((n ≡ e.input) ⊎ (e.output ≡ Cell n))

-- what is reached within an edge's facts from a cell that is reached is reached
pub within : (vars : List Value) (fs sub : List Fact) (m n : ℕ) → ((x : Fact) → IsIn x sub → IsIn x fs)
    → Reaches vars fs m → Reaches (Cell m ∷ []) sub n → Reaches vars fs n
within vars fs sub m n all h (named (inl e)) = rw (ap number_of e) h
within vars fs sub m n all h (named (inr i)) = absurd i
within vars fs sub m n all h (through k f w i) = through k f (within vars fs sub m k all h w)
    (all (Points k f (Cell n)) i)

module _ (vars : List Value) (fs own : List Fact) (edges : List Edge) where
  -- n is no cell of an inside
  abbrev pub IsOuter : ℕ → Type 0
  IsOuter n = (e : Edge) → IsIn e edges → IsIn n (heads e.facts) → ⊥

  -- each edge down and each way back is a path of facts
  pub hops_reached : ((x : Fact) → IsIn x own → IsIn x fs)
      → ((e : Edge) → IsIn e edges → (x : Fact) → IsIn x e.facts → IsIn x fs)
      → ((e : Edge) → IsIn e edges → (n : ℕ) → e.output ≡ Cell n → Reaches (Cell e.input ∷ []) e.facts n)
      → ((e : Edge) → IsIn e edges → e.back ≡ true → (m : ℕ) → e.output ≡ Cell m
      → Reaches (Cell m ∷ []) e.facts e.input)
      → (n : ℕ) → Hops vars own edges n → Reaches vars fs n
  hops_reached o s a b n (hop_var i) = named i
  hops_reached o s a b n (hop_own m f h i) = through m f (hops_reached o s a b m h) (o (Points m f (Cell n)) i)
  hops_reached o s a b n (hop_down e i h w) = within vars fs e.facts e.input n (s e i) (hops_reached o s a b e.input h)
      (a e i n w)
  hops_reached o s a b n (hop_up e m i t w h x) =
      rw x (within vars fs e.facts m e.input (s e i) (hops_reached o s a b m h) (b e i t m w))

  -- how a cell of an edge is reached: its upper cell is, or from the lower end within the inside
  abbrev pub InsideMet : Edge → ℕ → Type 0
  InsideMet e n = Hops vars own edges e.input ⊎ ((k : ℕ) × (e.output ≡ Cell k) × Hops vars own edges k
      × Reaches (Cell k ∷ []) e.facts n)

  -- how a cell is reached
  abbrev pub CellMet : ℕ → Type 0
  CellMet n = (IsOuter n → Hops vars own edges n) × ((e : Edge) → IsIn e edges → IsIn n (heads e.facts) → InsideMet e n)

  module _ (split : (m f n : ℕ) → IsIn (Points m f (Cell n)) fs → IsIn (Points m f (Cell n)) own
      ⊎ ((e : Edge) × IsIn e edges × IsIn (Points m f (Cell n)) e.facts))
      (local : (e : Edge) → IsIn e edges → (m f n : ℕ) → IsIn (Points m f (Cell n)) e.facts → Meets e m × Meets e n)
      (own_outer : (m f n : ℕ) → IsIn (Points m f (Cell n)) own → IsOuter m × IsOuter n)
      (vars_outer : (n : ℕ) → IsIn (Cell n) vars → IsOuter n)
      (ports_outer : (e : Edge) → IsIn e edges → IsOuter e.input × ((n : ℕ) → e.output ≡ Cell n → IsOuter n))
      (apart : (e g : Edge) (n : ℕ) → IsIn e edges → IsIn g edges → IsIn n (heads e.facts) → IsIn n (heads g.facts) → e
      ≡ g)
      (backs : (e : Edge) → IsIn e edges → (k : ℕ) → e.output ≡ Cell k → Reaches (Cell k ∷ []) e.facts e.input
      → (e.back ≡ true) ⊎ (k ≡ e.input)) where
    met_in : (e : Edge) → IsIn e edges → (m : ℕ) → CellMet m → Meets e m → InsideMet e m
    met_in e i m h (inl x) = h.1 e i x
    met_in e i m h (inr (inl x)) = inl (rw x at (h.0 (rw x (ports_outer e i).0)))
    met_in e i m h (inr (inr x)) = inr (m, x, h.0 ((ports_outer e i).1 m x), named (inl refl))

    in_met : (e : Edge) → IsIn e edges → (n : ℕ) → InsideMet e n → Meets e n → CellMet n
    in_met e i n h (inl x) = (
      λ o. absurd (o e i x),
      λ g j y. subst (λ (z : Edge). InsideMet z n) (apart e g n i j x y)
          h,
    )
    in_met e i n (inl h) (inr (inl x)) = (λ o. rw x h, λ g j y. absurd ((ports_outer e i).0 g j (rw x at y)))
    in_met e i n (inr h) (inr (inl x)) = (
      λ o. elim (backs e i h.0 h.1 (rw x at h.3)) [
        | inl b ↦ hop_up e h.0 i b h.1 h.2 x
        | inr b ↦ rw (x ∙ sym b) h.2
      ],
      λ g j y. absurd ((ports_outer e i).0 g j (rw x at y)),
    )
    in_met e i n (inl h) (inr (inr x)) = (λ o. hop_down e i h x, λ g j y. absurd ((ports_outer e i).1 n x g j y))
    in_met e i n (inr h) (inr (inr x)) = (
      λ o. rw (ap number_of (sym x ∙ h.1)) h.2,
      λ g j y. absurd ((ports_outer e i).1 n x g j y),
    )

    step_in : (e : Edge) (m f n : ℕ) → IsIn (Points m f (Cell n)) e.facts → InsideMet e m → InsideMet e n
    step_in e m f n i (inl h) = inl h
    step_in e m f n i (inr h) = inr (h.0, h.1, h.2, through m f h.3 i)

    pub reached_hops : (n : ℕ) → Reaches vars fs n → CellMet n
    reached_hops n (named i) = (λ o. hop_var i, λ e j y. absurd (vars_outer n i e j y))
    reached_hops n (through m f h i) = elim (split m f n i) [
      | inl j ↦ (let o = own_outer m f n j in (
        λ x. hop_own m f ((reached_hops m h).0 o.0) j,
        λ e k y. absurd (o.1 e k y),
      ))
      | inr j ↦ (let l = local j.0 j.1 m f n j.2 in in_met j.0 j.1 n
          (step_in j.0 m f n j.2 (met_in j.0 j.1 m (reached_hops m h) l.0)) l.1)
    ]
