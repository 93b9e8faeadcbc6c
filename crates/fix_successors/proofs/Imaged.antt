-- What an edge makes of a node, from its post.
use Rattle.std.proofs.Common.{◌≡◌, ℕ, List, [], ◌∷◌, slice_get, Some, refl, subst, inl, inr}
use Rattle.fore_base.specs.declared.store.Store.{Store}
use Rattle.fore_base.specs.Lists.{Every}
use Rattle.fa_core.specs.Boxes.{Boxes}
use Rattle.fa_core.specs.Filled.{IsSound}
use Rattle.fa_core.specs.declared.forest.Forest.{Forest}
use Rattle.fa_sound.specs.Soundness.{SoundForest}
use Rattle.fa_split.specs.Divided.{forests}
use Rattle.c_cfg.specs.Edges.{Pass, Passed, Faulted, Halted, NotPassed}
use Rattle.c_cfg.specs.Graphs.{ControlGraph}
use Rattle.c_cfg.specs.declared.graph.Edge.{Edge}
use Rattle.sym_core.specs.Cases.{BadAt, IsMet, IsTrueBad, StandsInOne}
use Rattle.sym_step.specs.Posts.{bads}
use Rattle.sym_step.specs.declared.posts.Bad.{Bad}
use Rattle.sym_step.specs.declared.posts.Post.{Post}
use Rattle.fix_core.specs.Follows.{IsMember, passed_by}
use Rattle.fix_core.specs.States.{AbstractState}
use Rattle.fix_core.proofs.Lists.{in_at, in_map, every_in}
use Rattle.fix_successors.specs.Arriving.{AreCases, AreArrivals, IsHeld, IsRawCase, StandsInCase}
use Rattle.fix_successors.specs.Images.{IsTrueFault, IsKeptIn, AreSuccessors}
use Rattle.fix_successors.specs.Posting.{IsPost}
use Rattle.fix_successors.specs.Ready.{IsNormal}

-- the fault, at its forest
abbrev at_forest : Bad → BadAt
at_forest b = record { fault = b.fault; at = b.at.forest }

module _ (T : Boxes) (g : ControlGraph) where
  -- a fault of the post is met
  pub true_fault : (F : Forest) (e : Edge) (p : Post) (bad : Bad) → IsPost T g F e p
      → slice_get p.faults 0 ≡ Some bad → IsSound bad.at.face bad.at.forest → IsTrueFault T g F e bad
  true_fault F e p bad post h sound =
      let listed = in_at p.faults 0 bad h in
      let face = every_in (λ (b : Bad). b.at.face ≡ T.face) p.faults bad post.faces listed in
      record {
        members = every_in (IsTrueBad T.face T.defs F e) (bads p.faults) (at_forest bad) post.true_bads
            (in_map at_forest p.faults bad listed);
        face = face;
        sound = subst (λ z. IsSound z bad.at.forest) face sound;
      }

  -- the cases of a post are normal
  pub post_normal : (F : Forest) (e : Edge) (p : Post) → IsPost T g F e p → Every (IsNormal T g) p.next
  post_normal F e p post = normal p.next post.nexts.each
    where
      normal : (Ms : List SoundForest) → Every (IsRawCase T g F e) Ms → Every (IsNormal T g) Ms
      normal [] h = tt
      normal (M ∷ Ms) h = (h.0.normal, normal Ms h.1)

  in_case : (Ms : List SoundForest) (t : Store) → StandsInOne T.face T.defs (forests Ms) t → StandsInCase T Ms t
  in_case [] t h = absurd h.1
  in_case (M ∷ Ms) t h = elim h.1 [
    | inl is ↦ record { case_of = M; listed = inl refl; member = subst (λ z. IsMember T z t) is h.2 }
    | inr later ↦ let r = in_case Ms t (h.0, later, h.2) in
        record { case_of = r.case_of; listed = inr r.listed; member = r.member }
  ]

  kept_of : (p : Pass) (s : Store) (Ms : List SoundForest) (bs : List Bad) (states : List AbstractState) → bs ≡ []
      → IsMet T.face T.defs (forests Ms) (bads bs) s p → ((t : Store) → StandsInCase T Ms t → IsHeld T states t)
      → IsKeptIn T g states p
  kept_of (Passed t) s Ms bs states none met kept = kept t (in_case Ms t met)
  kept_of (Faulted f) s Ms [] states none met kept = met.1
  kept_of (Faulted f) s Ms (b ∷ bs) states none met kept = cc
  kept_of Halted s Ms bs states none met kept = tt
  kept_of NotPassed s Ms bs states none met kept = tt

  -- the states of the cases, where the post has no fault
  pub successors : (k : ℕ) (F : Forest) (e : Edge) (p : Post) (states : List AbstractState) → IsPost T g F e p
      → p.faults ≡ [] → (AreCases T g F e p.next → AreArrivals T g k F e p.next states)
      → AreSuccessors T g k F e states
  successors k F e p states post none f =
      let arrived = f post.nexts in
      record {
        targets = arrived.targets;
        kept = λ s st. kept_of (passed_by T e s) s p.next p.faults states none (post.all s st) arrived.kept;
      }
