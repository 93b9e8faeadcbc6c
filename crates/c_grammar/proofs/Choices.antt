-- The laws of choices, with the conditions on signs decided, and choices of what the whole makes of its parts.
use Rattle.std.proofs.Common.{◌≡◌, ◌⊎◌, ℕ, Bool, true, false, List, refl, ap, ◌∙◌, inl, inr}
use Rattle.fore_base.specs.declared.place.Place.{Place}
use Rattle.c_lexer.specs.declared.token.Token.{Token}
use Rattle.c_grammar.specs.Grammar.{Rule}
use Rattle.c_grammar.specs.Signs.{and, sign_at}
use Rattle.c_grammar.specs.declared.fault.SyntaxFault.{SyntaxFault}
use Rattle.c_grammar.specs.words.Faults.{Fails, Takes}
use Rattle.c_grammar.specs.words.Sets.{Signs}
use Rattle.c_grammar.proofs.Decide.{apart_of}
use Rattle.c_grammar.proofs.Families.{choice, made}
use Rattle.c_grammar.proofs.Parts.{Same, takes_left, takes_right, fails_left, fails_right, cont_either}
use Rattle.c_grammar.proofs.Rules.{Good, bars_both}
use Rattle.c_grammar.proofs.Steps.{Clear}

module _ {X : Type 0} {A B : Rule X} {fa ca ba fb cb bb : Signs} {na nb : Bool} (ga : Good A fa ca ba na)
    (gb : Good B fb cb bb nb) (apart : Clear fa fb) (full : and na nb ≡ false) where
  pub left_takes : {n : ℕ} {ts rest : List Token} {x : X} → fa (sign_at ts) ≡ true → Takes A ca ba n ts rest x
      → Takes (choice A B) (cont_either fa ca na fb cb nb) (bars_both ba bb) n ts rest x
  left_takes {n = n} {ts = ts} {rest = rest} {x = x} first t =
      takes_left ga gb (apart_of fa fb apart) full n ts rest x first t

  pub right_takes : {n : ℕ} {ts rest : List Token} {x : X} → na ≡ false → fa (sign_at ts) ≡ false
      → Takes B cb bb n ts rest x → Takes (choice A B) (cont_either fa ca na fb cb nb) (bars_both ba bb) n ts rest x
  right_takes {n = n} {ts = ts} {rest = rest} {x = x} solid other t =
      takes_right ga gb (apart_of fa fb apart) full solid n ts rest x other t

  pub left_fails : {ha : Signs} {n : ℕ} {end : Place} {ts : List Token} {e : SyntaxFault} → fa (sign_at ts) ≡ true
      → Fails A ca ba ha n end ts e →
      Fails (choice A B) (cont_either fa ca na fb cb nb) (bars_both ba bb) ha n end ts e
  left_fails {n = n} {end = end} {ts = ts} {e = e} first f =
      fails_left ga gb (apart_of fa fb apart) full n end ts first e f

  pub right_fails : {hb : Signs} {n : ℕ} {end : Place} {ts : List Token} {e : SyntaxFault} → na ≡ false
      → fa (sign_at ts) ≡ false → Fails B cb bb hb n end ts e →
      Fails (choice A B) (cont_either fa ca na fb cb nb) (bars_both ba bb) hb n end ts e
  right_fails {n = n} {end = end} {ts = ts} {e = e} solid other f =
      fails_right ga gb (apart_of fa fb apart) full solid n end ts other e f

-- what the whole makes of one part or another
pub same_fork : {X Y Z : Type 0} {A : Rule X} {B : Rule Y} (f : X ⊎ Y → Z)
    → Same (choice (made (λ a. f (inl a)) A) (made (λ b. f (inr b)) B)) (made f (choice (made inl A) (made inr B)))
same_fork f = record {
  to = λ n ts rest x. elim [
    | inl r ↦ record { part = inl r.part; is = r.is; read = inl (record { part = r.part; read = r.read; is = refl }) }
    | inr r ↦ record { part = inr r.part; is = r.is; read = inr (record { part = r.part; read = r.read; is = refl }) }
  ];
  back = λ n ts rest x r. elim r.read [
    | inl q ↦ inl (record { part = q.part; read = q.read; is = r.is ∙ ap f q.is })
    | inr q ↦ inr (record { part = q.part; read = q.read; is = r.is ∙ ap f q.is })
  ];
}

-- the same, where the whole is made of what each part is made into
pub same_forks : {X Y V Z : Type 0} {A : Rule X} {B : Rule Y} (a : X → V) (b : Y → V) (f : V → Z)
    → Same (choice (made (λ x. f (a x)) A) (made (λ y. f (b y)) B)) (made f (choice (made a A) (made b B)))
same_forks a b f = record {
  to = λ n ts rest x. elim [
    | inl r ↦ record { part = a r.part; is = r.is; read = inl (record { part = r.part; read = r.read; is = refl }) }
    | inr r ↦ record { part = b r.part; is = r.is; read = inr (record { part = r.part; read = r.read; is = refl }) }
  ];
  back = λ n ts rest x r. elim r.read [
    | inl q ↦ inl (record { part = q.part; read = q.read; is = r.is ∙ ap f q.is })
    | inr q ↦ inr (record { part = q.part; read = q.read; is = r.is ∙ ap f q.is })
  ];
}
