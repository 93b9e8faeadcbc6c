-- Worked values: which roots are reached, by trees and by signatures.
use Rattle.std.proofs.Common.{◌≡◌, ◌<◌, inl, inr, ℕ, zero, suc, Bool, true, false, true≢false, List, [], ◌∷◌, refl}
use Rattle.std.proofs.Common.{sym, ap, subst, ◌∙◌, Some, None, arith}
use Rattle.std.proofs.lemmas.Option.{none-some, same_Some}
use Rattle.fore_base.specs.Lists.{IsIn, Paired}
use Rattle.ta_core.specs.declared.symbol.Slot.TheVariants.{Link}
use Rattle.ta_core.specs.declared.tree.Tree.{Tree}
use Rattle.fa_core.specs.declared.forest.Target.TheVariants.{At}
use Rattle.fa_core.specs.declared.signature.RefMark.{RefMark}
use Rattle.fa_core.specs.declared.signature.Signature.{Signature}
use Rattle.fa_core.specs.Dressed.{Node, node, no_parts, no_nodes, more}
use Rattle.fa_core.specs.Ways.{Way, Step, ways, signature}
use Rattle.fa_core.proofs.RowsBack.{dll, opened, root_cell, v_tree, v_ways, u_tree, u_ways, no_ways, ref, cell}
use Rattle.fa_back.specs.Reached.{RootReached, by_var, by_way, IsMarkAt, SignReached, from_there, down_to, back_to}
use Rattle.fa_back.specs.Reached.{reach_to, IsSignedBy, AllNameBelow, node_at}
use Rattle.fore_search.specs.Reached.{row}
use Rattle.fa_back.specs.BackHops.{hop}
use Rattle.fa_back.specs.inner.HopTables.{mark_hops, tree_hops, table_of}
use Rattle.fa_back.proofs.ByMarks.{signed_met}

abbrev marked : ℕ → Bool → List ℕ → RefMark
marked r back reach = record { root = r; many = false; provided = []; back = back; reach = reach }

abbrev signs : List (List RefMark) → List Signature
signs [] = []
signs (ms ∷ mss) = record { refs = ms } ∷ signs mss

zero_one : zero ≡ suc zero → ⊥
zero_one e = omega (arith, e)

one_zero : suc zero ≡ zero → ⊥
one_zero e = omega (arith, e)

-- A doubly linked list folded into edges from the head to the tail, at which the variable is: the head is reached by
-- the way back alone.

abbrev folded : Tree
folded = cell (Link 0 ∷ []) (cell (Link 0 ∷ []) (ref 0 ∷ []) ∷ [])

abbrev link_step : Step
link_step = record { slot = Link 0; refers = 0 ∷ [] }

abbrev up : Way
up = record { root = 0; steps = link_step ∷ link_step ∷ [] }

folded_ways : ways folded ≡ up ∷ []
folded_ways = simp opened

abbrev folded_mark : RefMark
folded_mark = record { root = 0; many = false; provided = 1 ∷ []; back = true; reach = 0 ∷ [] }

folded_sign : signature dll folded ≡ folded_mark ∷ []
folded_sign = rw folded_ways refl

head_met : RootReached dll (At 0 ∷ []) (root_cell ∷ (folded ∷ [])) 1
head_met = by_way 0 1 (by_var (inl refl)) (folded, refl, (up, rw folded_ways (inl refl), refl, inl (refl, refl)))

abbrev folded_signs : List Signature
folded_signs = signs ([] ∷ ((folded_mark ∷ []) ∷ []))

head_reached : SignReached folded_signs (0 ∷ []) 1
head_reached = back_to folded_mark (from_there (inl refl)) (record { refs = folded_mark ∷ [] }, refl, inl refl) refl

root_sign : signature dll root_cell ≡ []
root_sign = rw no_ways refl

are_signed : Paired (IsSignedBy dll) (root_cell ∷ (folded ∷ [])) folded_signs
are_signed = (root_sign, (folded_sign, tt))

head_met_again : RootReached dll (At 0 ∷ []) (root_cell ∷ (folded ∷ [])) 1
head_met_again = signed_met dll (At 0 ∷ []) (root_cell ∷ (folded ∷ [])) folded_signs are_signed 1 head_reached

-- Two rings, at roots 1 and 2, which one way back reaches: the cell at which the edge to root 0 begins refers to both.

abbrev rings : List Signature
rings = signs ([] ∷ ((marked 0 false (0 ∷ (1 ∷ (2 ∷ []))) ∷ (marked 1 false [] ∷ (marked 2 false [] ∷ [])))
    ∷ ((marked 2 false [] ∷ []) ∷ [])))

way_back : IsMarkAt rings 1 (marked 0 false (0 ∷ (1 ∷ (2 ∷ []))))
way_back = (
  record { refs = marked 0 false (0 ∷ (1 ∷ (2 ∷ []))) ∷ (marked 1 false [] ∷ (marked 2 false [] ∷ [])) },
  refl,
  inl refl,
)

first_ring : SignReached rings (0 ∷ []) 1
first_ring = reach_to 1 (marked 0 false (0 ∷ (1 ∷ (2 ∷ [])))) (from_there (inl refl)) way_back (inr (inl refl))

second_ring : SignReached rings (0 ∷ []) 2
second_ring = reach_to 1 (marked 0 false (0 ∷ (1 ∷ (2 ∷ [])))) (from_there (inl refl)) way_back (inr (inr (inl refl)))

-- by a reference
third_root : SignReached rings (1 ∷ []) 2
third_root = down_to 1 (marked 2 false []) (from_there (inl refl)) (
  record { refs = marked 0 false (0 ∷ (1 ∷ (2 ∷ []))) ∷ (marked 1 false [] ∷ (marked 2 false [] ∷ [])) },
  refl,
  inr (inr (inl refl)),
)
    refl

-- What is not reached.

abbrev StaysAt : List Signature → ℕ → RefMark → Type 0
StaysAt ss j m = IsMarkAt ss j m → ((j ≡ 0) → m.root ≡ 0) × (m.root ≡ 0 → (m.back ≡ true → j ≡ 0)
    × ((r : ℕ) → IsIn r m.reach → r ≡ 0))

stays : (ss : List Signature) → ((j : ℕ) (m : RefMark) → StaysAt ss j m) → (r : ℕ) → SignReached ss (0 ∷ []) r → r ≡ 0
stays ss h r (from_there (inl e)) = e
stays ss h r (from_there (inr e)) = absurd e
stays ss h r (down_to j m w i e) = sym e ∙ (h j m i).0 (stays ss h j w)
stays ss h r (back_to m w i b) = ((h r m i).1 (stays ss h m.root w)).0 b
stays ss h r (reach_to j m w i k) = ((h j m i).1 (stays ss h m.root w)).1 r k

-- the cell at which the edge begins does not refer to the ring
abbrev lost_ring : List Signature
lost_ring = signs ([] ∷ ((marked 0 false (0 ∷ []) ∷ (marked 1 false [] ∷ [])) ∷ []))

lost : SignReached lost_ring (0 ∷ []) 1 → ⊥
lost h = one_zero (stays lost_ring rule 1 h)
  where
    rule : (j : ℕ) (m : RefMark) → StaysAt lost_ring j m
    rule zero m (s, e, i) = absurd (subst (λ (z : Signature). IsIn m z.refs)
        (sym (same_Some (record { refs = [] }) s e)) i)
    rule (suc zero) m (s, e, i) = go (subst (λ (z : Signature). IsIn m z.refs)
        (sym (same_Some (record { refs = marked 0 false (0 ∷ []) ∷ (marked 1 false [] ∷ []) }) s e)) i)
      where
        go : IsIn m (marked 0 false (0 ∷ []) ∷ (marked 1 false [] ∷ [])) → ((suc zero ≡ 0) → m.root ≡ 0) × (m.root ≡ 0
            → (m.back ≡ true → suc zero ≡ 0) × ((r : ℕ) → IsIn r m.reach → r ≡ 0))
        go (inl q) = (
          (λ z. absurd (one_zero z)),
          (λ z. (
            (λ b. absurd (true≢false (sym b ∙ ap (λ (x : RefMark). x.back) q))),
            (λ r k. elim (subst (λ (x : RefMark). IsIn r x.reach) q k) [ inl y ↦ y | inr y ↦ absurd y ]),
          )),
        )
        go (inr (inl q)) =
            ((λ z. absurd (one_zero z)), (λ z. absurd (one_zero (sym (ap (λ (x : RefMark). x.root) q) ∙ z))))
        go (inr (inr q)) = absurd q
    rule (suc (suc j)) m (s, e, i) = absurd (none-some s e)

-- a way back from a root that is not reached
abbrev unreached_end : List Signature
unreached_end = signs ([] ∷ ((marked 2 true (2 ∷ []) ∷ []) ∷ ([] ∷ [])))

not_from_there : SignReached unreached_end (0 ∷ []) 1 → ⊥
not_from_there h = one_zero (stays unreached_end rule 1 h)
  where
    two_zero : suc (suc zero) ≡ zero → ⊥
    two_zero e = omega (arith, e)

    rule : (j : ℕ) (m : RefMark) → StaysAt unreached_end j m
    rule zero m (s, e, i) = absurd (subst (λ (z : Signature). IsIn m z.refs)
        (sym (same_Some (record { refs = [] }) s e)) i)
    rule (suc zero) m (s, e, i) = go (subst (λ (z : Signature). IsIn m z.refs)
        (sym (same_Some (record { refs = marked 2 true (2 ∷ []) ∷ [] }) s e)) i)
      where
        go : IsIn m (marked 2 true (2 ∷ []) ∷ []) → ((suc zero ≡ 0) → m.root ≡ 0) × (m.root ≡ 0
            → (m.back ≡ true → suc zero ≡ 0) × ((r : ℕ) → IsIn r m.reach → r ≡ 0))
        go (inl q) =
            ((λ z. absurd (one_zero z)), (λ z. absurd (two_zero (sym (ap (λ (x : RefMark). x.root) q) ∙ z))))
        go (inr q) = absurd q
    rule (suc (suc zero)) m (s, e, i) =
        absurd (subst (λ (z : Signature). IsIn m z.refs) (sym (same_Some (record { refs = [] }) s e)) i)
    rule (suc (suc (suc j))) m (s, e, i) = absurd (none-some s e)

-- The trees of one reference: the ring is reached where the cell at which the edge begins refers to it.

v_marks : signature dll v_tree ≡ record {
  root = 0;
  many = false;
  provided = 1 ∷ [];
  back = false;
  reach = 0
      ∷ (1 ∷ []);
}
    ∷ (record { root = 1; many = false; provided = []; back = false; reach = [] } ∷ [])
v_marks = rw v_ways refl

u_marks : signature dll u_tree ≡ record { root = 0; many = false; provided = 1 ∷ []; back = false; reach = 0 ∷ [] }
    ∷ (record { root = 1; many = false; provided = []; back = false; reach = [] } ∷ [])
u_marks = rw u_ways refl

-- Components that are named, and those that are there.

named_below : AllNameBelow 2 folded_signs
named_below = (tt, (((omega arith, (omega arith, tt)), tt), tt))

not_below : AllNameBelow 1 rings → ⊥
not_below h = let l : 1 < 1 = h.1.0.1.0.0 in omega (arith, l)

abbrev lone : ℕ → Node
lone c = node c 0 [] no_parts

second_tree : node_at (more (lone 5) (more (lone 7) no_nodes)) 1 ≡ Some (lone 7)
second_tree = refl

no_third : node_at (more (lone 5) (more (lone 7) no_nodes)) 2 ≡ None
no_third = refl

-- Hops and their table.

mark_rows : mark_hops 4 (marked 3 true (5 ∷ (6 ∷ []))) ≡ hop 4 3 ∷ (hop 3 4 ∷ (hop 3 5 ∷ (hop 3 6 ∷ [])))
mark_rows = refl

plain_mark_row : mark_hops 4 (marked 3 false []) ≡ hop 4 3 ∷ []
plain_mark_row = refl

tree_rows : tree_hops 0 folded_signs ≡ hop 1 0 ∷ (hop 0 1 ∷ (hop 0 0 ∷ []))
tree_rows = refl

table_row : table_of folded_signs ≡ (1 ∷ (0 ∷ [])) ∷ ((0 ∷ []) ∷ [])
table_row = refl

no_row : row (table_of folded_signs) 2 ≡ []
no_row = refl
