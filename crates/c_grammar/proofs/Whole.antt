-- The rule of the whole text, with the end of the text after it.
use Rattle.std.proofs.Common.{◌≡◌, ℕ, Bool, false, List, [], ◌∷◌, ◌++◌, refl, sym, subst, append_assoc, arith, inl, inr}
use Rattle.std.proofs.lemmas.List.{append-nil}
use Rattle.fore_base.specs.declared.place.Place.{Place}
use Rattle.c_lexer.specs.declared.token.Token.{Token}
use Rattle.c_grammar.specs.words.Faults.{Alive, IsSyntax, Sinks, Takes}
use Rattle.c_grammar.specs.Grammar.{Rule}
use Rattle.c_grammar.specs.Hopeless.{IsWhole, IsAliveWithin, IsHopelessAt, IsSyntaxAt, IsDeepAt}
use Rattle.c_grammar.specs.words.Sets.{Signs}
use Rattle.c_grammar.specs.Signs.{sign_at}
use Rattle.c_grammar.specs.declared.signs.Sign.TheVariants.{End}
use Rattle.c_grammar.proofs.Rules.{Good}

abbrev IsCons : List Token → Type 0
IsCons [] = ⊥
IsCons (t ∷ ts) = Unit {0}

not_nil : (t : Token) (ts : List Token) → t ∷ ts ≡ [] → ⊥
not_nil t ts e = subst IsCons e tt

module _ {X : Type 0} {R : Rule X} {f c b : Signs} {na : Bool} (good : Good R f c b na) (open_end : c End ≡ false)
    (free_end : b End ≡ false) where
  -- a list of tokens has at most one tree
  pub one_tree : (ts : List Token) (u v : X) → IsWhole R ts u → IsWhole R ts v → u ≡ v
  one_tree ts u v p q = (good.det p.0 q.0 ts [] [] u v p.1 q.1 open_end open_end).1

  alive_whole : (n : ℕ) (pre : List Token) → Alive R b n pre → IsAliveWithin R n pre
  alive_whole n pre a =
      (a.more, a.tree, subst (λ l. R n (pre ++ l) [] a.tree) (append-nil a.more) (a.reads [] free_end))

  hopeless_end : (n : ℕ) (pre post : List Token) → Alive R b n pre
      → ((m : ℕ) (z : List Token) (u : X) → sign_at z ≡ sign_at post → R m (pre ++ z) [] u → ⊥)
      → IsHopelessAt R pre post
  hopeless_end n pre [] a dead =
      ((n, alive_whole n pre a), λ u w. dead w.0 [] u refl (subst (λ l. R w.0 l [] u) (sym (append-nil pre)) w.1))
  hopeless_end n pre (t ∷ post) a dead = (
    (n, alive_whole n pre a),
    λ w. dead w.0 (t ∷ w.1.0) w.1.1 refl (subst (λ l. R w.0 l [] w.1.1) (append_assoc pre (t ∷ []) w.1.0) w.1.2),
  )

  pub syntax_whole : (n : ℕ) (end : Place) (ts : List Token) (at : Place) → IsSyntax R c b n end ts at
      → IsSyntaxAt R n end ts at
  syntax_whole n end ts at s = record {
    pre = s.pre;
    post = s.post;
    is = s.is;
    place = s.place;
    shallow = alive_whole n s.pre s.alive;
    hopeless = hopeless_end n s.pre s.post s.alive (λ m z u same r. s.dead m z [] u same open_end r);
  }

  pub deep_whole : (h : Signs) (n : ℕ) (ts : List Token) (at : Place) → (s : Sinks R c b h n ts at) → IsDeepAt R n ts at
  deep_whole h n ts at s = record {
    pre = s.pre;
    next = s.next;
    post = s.post;
    is = s.is;
    place = s.place;
    shallow = alive_whole n s.pre s.alive;
    deeper = (s.room, alive_whole s.room (s.pre ++ s.next ∷ []) s.deeper);
    deep = λ w. s.dead n (omega arith) (s.next ∷ w.0) [] w.1 refl open_end
        (subst (λ l. R n l [] w.1) (append_assoc s.pre (s.next ∷ []) w.0) w.2);
  }

  -- all was read
  pub whole_read : (n : ℕ) (ts : List Token) (u : X) → Takes R c b n ts [] u → IsWhole R ts u
  whole_read n ts u t = (n, subst (λ l. R n l [] u) (sym t.is) (t.alike [] (inl refl)))

  -- a token is left
  pub left_over : (n : ℕ) (end : Place) (ts : List Token) (t : Token) (rest : List Token) (u : X)
      → Takes R c b n ts (t ∷ rest) u → IsSyntaxAt R n end ts t.at
  left_over n end ts t rest u took = record {
    pre = took.front;
    post = t ∷ rest;
    is = took.is;
    place = refl;
    shallow = ([], u, subst (λ l. R n l [] u) refl (took.alike [] (inr free_end)));
    hopeless = (
      (n, ([], u, took.alike [] (inr free_end))),
      λ w.
          not_nil t w.1.0
          (took.only w.0 (t ∷ w.1.0) [] w.1.1 refl open_end
          (subst (λ l. R w.0 l [] w.1.1) (append_assoc took.front (t ∷ []) w.1.0) w.1.2)),
    );
  }
