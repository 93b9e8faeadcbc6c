-- Rounds: nodes that stand next to one another, and what their edges make of them.
use Rattle.std.proofs.Common.{◌≡◌, ◌<◌, ◌≤◌, ◌+◌, ℕ, suc, zero, List, [], ◌∷◌, ◌++◌, length, slice_get, Some, Result}
use Rattle.std.proofs.Common.{Ok, arith}
use Rattle.std.proofs.Common.{Err, IfOk, refl, sym, subst, inl, inr}
use Rattle.std.proofs.lemmas.Option.{slice_get_within}
use Rattle.fore_base.specs.Lists.{Every, Paired}
use Rattle.fore_base.proofs.ListLemmas.{paired_long}
use Rattle.fa_core.specs.Boxes.{Boxes}
use Rattle.c_cfg.specs.Graphs.{ControlGraph}
use Rattle.c_cfg.specs.Ranges.{IsEdgeOf}
use Rattle.fix_core.specs.declared.nodes.Due.{Due}
use Rattle.fix_core.specs.declared.nodes.Node.{Node}
use Rattle.fix_core.specs.Explorations.{Exploration, IsNode}
use Rattle.fix_core.proofs.Lists.{at_within, get_push, every_at, some_same}
use Rattle.fix_successors.specs.declared.images.EdgeImage.{EdgeImage}
use Rattle.fix_successors.specs.Images.{AreImages}
use Rattle.fix_successors.specs.Ready.{IsNormal}
use Rattle.fix_engine.specs.declared.taking.Taken.{Taken}
use Rattle.fix_engine.specs.declared.taking.Taken.TheVariants.{All, Fault, Full as Over}
use Rattle.fix_engine.specs.inner.Rounds.{IsDue, AreNumbers, AreImagesOf, IsRound, IsTakenRound}
use Rattle.fix_engine.specs.inner.Taking.{Grows, IsTakenNode}
use Rattle.fix_engine.proofs.TakenUp.{node_normal, node_inside}

-- one number more
pub numbers_next : (at n : ℕ) (numbers : List ℕ) → AreNumbers at numbers → n ≡ at + length numbers
    → AreNumbers at (numbers ++ n ∷ [])
numbers_next at n numbers are is j m there = elim (get_push numbers n j m there) [
  | inl before ↦ are j m before
  | inr last ↦ rw (last.0, last.1) is
]

-- what is taken up is the location and the forest of the node
pub due_is : (nodes : List Node) (j : ℕ) (d : Due) → j < length nodes
    → ((n : Node) → IsNode nodes j n → (d.location ≡ n.head.location) × (d.forest.forest ≡ n.state.forest)
    × (d.forest.face ≡ n.state.face)) → IsDue nodes j d
due_is nodes j d low same =
    let n = at_within nodes j low in
    let are = same n.0 n.1 in
    record { node = n.0; is = n.1; location = are.0; forest = are.1; face = are.2 }

-- what stands with an item of the second list
paired_at : {X Y : Type 0} (R : X → Y → Type 0) (xs : List X) (ys : List Y) (j : ℕ) (y : Y) → Paired R xs ys
    → slice_get ys j ≡ Some y → (x : X) × (slice_get xs j ≡ Some x) × R x y
paired_at R [] [] j y p there = cc
paired_at R [] (b ∷ ys) j y p there = absurd p
paired_at R (a ∷ xs) [] j y p there = absurd p
paired_at R (a ∷ xs) (b ∷ ys) zero y p there = (a, refl, subst (R a) (some_same b y there) p.0)
paired_at R (a ∷ xs) (b ∷ ys) (suc j) y p there = paired_at R xs ys j y p.1 there

module _ (T : Boxes) (g : ControlGraph) (k : ℕ) where
  -- the nodes may be given to what makes their images
  pub due_fits : (nodes : List Node) (j : ℕ) (d : Due) → Exploration T g k nodes → Every (IsEdgeOf g) g.edges
      → 0 < g.locations → IsDue nodes j d → IsNormal T g d.forest × (d.location < g.locations)
  due_fits nodes j d x edges entry is = (
    node_normal T g k nodes j is.node d.forest x is.is is.forest is.face,
    rw is.location (node_inside T g k nodes j is.node edges entry x is.is),
  )

  -- the nodes of these numbers may be given to the crew
  pub numbers_fit : {S : Type 0} (nodes : List Node) (at : ℕ) (numbers : List ℕ) → S → Exploration T g k nodes
      → at + length numbers ≤ length nodes → AreNumbers at numbers
      → Every (λ (n : ℕ). S × Exploration T g k nodes × (n < length nodes)) numbers
  numbers_fit {S} nodes at numbers s x upto are =
      every_at (λ (n : ℕ). S × Exploration T g k nodes × (n < length nodes)) numbers
      (λ j n there. (s, x, omega (arith, upto, are j n there, slice_get_within numbers j n there)))

  -- what the edges make of what is taken up they make of the node
  pub images_are : (nodes : List Node) (j : ℕ) (d : Due) (images : List EdgeImage) → IsDue nodes j d
      → AreImages T g k d.location d.forest.forest images → AreImagesOf T g k nodes j images
  images_are nodes j d images is made =
      record {
        node = is.node;
        is = is.is;
        made = subst (λ z. AreImages T g k z is.node.state.forest images) is.location
            (subst (λ z. AreImages T g k d.location z images) is.forest made);
      }

  -- what the crew has made
  pub round_made : {E : Type 0} (nodes : List Node) (at : ℕ) (numbers : List ℕ)
      (r : Result (List (List EdgeImage)) E) → 0 < length numbers → at + length numbers ≤ length nodes
      → AreNumbers at numbers → IfOk r (Paired (AreImagesOf T g k nodes) numbers) → IfOk r (IsRound T g k nodes at)
  round_made nodes at numbers (Ok round) some upto are p =
      let long = paired_long (AreImagesOf T g k nodes) numbers round p in
      record {
        some = rw (sym long) some;
        upto = rw (sym long) upto;
        each = λ j images there.
            let w = paired_at (AreImagesOf T g k nodes) numbers round j images p there in
            subst (λ z. AreImagesOf T g k nodes z images) (are j w.0 w.1) w.2;
      }
  round_made nodes at numbers (Err e) some upto are p = tt

  -- it is made of each node once
  pub round_few : {E : Type 0} (nodes : List Node) (numbers : List ℕ) (r : Result (List (List EdgeImage)) E) (jobs : ℕ)
      → length numbers ≤ jobs → IfOk r (Paired (AreImagesOf T g k nodes) numbers)
      → IfOk r (λ round. length round ≤ jobs)
  round_few nodes numbers (Ok round) jobs few p =
      rw (sym (paired_long (AreImagesOf T g k nodes) numbers round p)) few
  round_few nodes numbers (Err e) jobs few p = tt

  -- nodes that were added later change nothing
  pub images_later : (nodes later : List Node) (j : ℕ) (images : List EdgeImage) → Grows nodes later
      → AreImagesOf T g k nodes j images → AreImagesOf T g k later j images
  images_later nodes later j images grows are =
      record { node = are.node; is = grows j are.node are.is; made = are.made }

  -- what ends the work on a node ends that on its round
  pub round_ends : (start more : List Node) (here next budget : ℕ) (t : Taken) → (t ≡ All → ⊥)
      → IsTakenNode T g k start here budget more t → IsTakenRound T g k next budget more here t
  round_ends start more here next budget All not_all h = absurd (not_all refl)
  round_ends start more here next budget (Fault d bad) not_all h = h
  round_ends start more here next budget Over not_all h = h
