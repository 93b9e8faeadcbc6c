-- A text has one right answer.
use Rattle.std.proofs.Common.{◌≡◌, ◌≢◌, ◌⊎◌, ℕ, List, [], ◌∷◌, Result, Ok, Err, IfOk, IfErr, refl, sym, ap, ◌∙◌, subst}
use Rattle.std.proofs.Common.{inl, inr}
use Rattle.fore_base.specs.declared.place.Place.{Place}
use Rattle.c_ast.specs.declared.items.Item.{Item}
use Rattle.c_ast.specs.declared.items.Unit as whole
use Rattle.c_lexer.specs.declared.token.Token.{Token}
use Rattle.c_refused.proofs.Refusals.{first_is_one, none_or_first}
use Rattle.c_refused.specs.declared.refused.Refusal.{Refusal}
use Rattle.c_grammar.proofs.DepthRules.{unit_back}
use Rattle.c_grammar.proofs.Exclusion.{syntax_or_whole, deep_or_whole, one_syntax, one_deep, syntax_or_deep}
use Rattle.c_grammar.proofs.ItemForms.{one_unit, good_unit}
use Rattle.c_grammar.proofs.Whole.{syntax_whole, deep_whole, left_over}
use Rattle.c_refused.specs.Refused.{NoneRefused}
use Rattle.c_grammar.specs.Hopeless.{place_at}
use Rattle.c_grammar.specs.Items.{unit}
use Rattle.c_grammar.specs.declared.fault.SyntaxFault.{SyntaxFault}
use Rattle.c_grammar.specs.declared.fault.SyntaxFault.TheVariants.{Refused, Syntax, Deep, Memory}
use Rattle.c_grammar.specs.words.Faults.{Fails, Takes}
use Rattle.c_grammar.specs.words.Faults.Fails.{stuck, sunk, no_memory}
use Rattle.c_grammar.specs.words.Parted.{begins_item}
use Rattle.c_grammar.specs.words.Sets.{no_sign, elses}
use Rattle.c_parser.specs.Parses.{IsParsed, IsFault}
use Rattle.c_parser.specs.inner.Stops.{IsStop}

pub one_parse : (ts : List Token) (end : Place) (u v : whole.Unit) → IsParsed ts end u → IsParsed ts end v → u ≡ v
one_parse ts end u v p q i =
    record { items = one_unit ts u.items v.items p.1 q.1 i; over = (p.3 ∙ sym q.3) i; end = (p.4 ∙ sym q.4) i }

pub parsed_or_fault : (ts : List Token) (end : Place) (u : whole.Unit) (e : SyntaxFault) → e ≢ Memory
    → IsParsed ts end u → IsFault ts end e → ⊥
parsed_or_fault ts end u (Refused rule at) real p f = none_or_first ts (record { rule = rule; at = at }) p.0 f
parsed_or_fault ts end u (Syntax at) real p f = syntax_or_whole unit 64 end ts at u.items f.1 p.1
parsed_or_fault ts end u (Deep at) real p f =
    deep_or_whole unit 64 ts at u.items f.1 (unit_back 64 ts u.items (p.1, p.2))
parsed_or_fault ts end u Memory real p f = real refl

refusal_rule : Refusal → ℕ
refusal_rule r = r.rule

abbrev refused_of : Refusal → SyntaxFault
refused_of r = Refused r.rule r.at

pub one_fault : (ts : List Token) (end : Place) (d e : SyntaxFault) → d ≢ Memory → e ≢ Memory → IsFault ts end d
    → IsFault ts end e → d ≡ e
one_fault ts end (Refused r a) (Refused s b) x y f g =
    ap refused_of (first_is_one ts (record { rule = r; at = a }) (record { rule = s; at = b }) f g)
one_fault ts end (Refused r a) (Syntax b) x y f g = absurd (none_or_first ts (record { rule = r; at = a }) g.0 f)
one_fault ts end (Refused r a) (Deep b) x y f g = absurd (none_or_first ts (record { rule = r; at = a }) g.0 f)
one_fault ts end (Refused r a) Memory x y f g = absurd (y refl)
one_fault ts end (Syntax a) (Refused s b) x y f g = absurd (none_or_first ts (record { rule = s; at = b }) f.0 g)
one_fault ts end (Syntax a) (Syntax b) x y f g = ap Syntax (one_syntax unit 64 64 end ts a b f.1 g.1)
one_fault ts end (Syntax a) (Deep b) x y f g = absurd (syntax_or_deep unit 64 end ts a b f.1 g.1)
one_fault ts end (Syntax a) Memory x y f g = absurd (y refl)
one_fault ts end (Deep a) (Refused s b) x y f g = absurd (none_or_first ts (record { rule = s; at = b }) f.0 g)
one_fault ts end (Deep a) (Syntax b) x y f g = absurd (syntax_or_deep unit 64 end ts b a g.1 f.1)
one_fault ts end (Deep a) (Deep b) x y f g = ap Deep (one_deep unit 64 ts a b f.1 g.1)
one_fault ts end (Deep a) Memory x y f g = absurd (y refl)
one_fault ts end Memory e x y f g = absurd (x refl)

-- want of memory is told apart
memory : (e : SyntaxFault) → (e ≡ Memory) ⊎ (e ≢ Memory)
memory (Refused r a) = inr (λ h. subst Told h tt)
  where
    Told : SyntaxFault → Type 0
    Told Memory = ⊥
    Told _ = Unit {0}
memory (Syntax a) = inr (λ h. subst Told h tt)
  where
    Told : SyntaxFault → Type 0
    Told Memory = ⊥
    Told _ = Unit {0}
memory (Deep a) = inr (λ h. subst Told h tt)
  where
    Told : SyntaxFault → Type 0
    Told Memory = ⊥
    Told _ = Unit {0}
memory Memory = inl refl

-- what holds of the answer tells it
pub reads_all : (ts : List Token) (end : Place) (r : Result whole.Unit SyntaxFault) → IfOk r (IsParsed ts end)
    → IfErr r (IsFault ts end) → (u : whole.Unit) → IsParsed ts end u → (r ≡ Ok u) ⊎ (r ≡ Err Memory)
reads_all ts end (Ok v) p f u q = inl (ap (λ w. Ok w) (one_parse ts end v u p q))
reads_all ts end (Err e) p f u q =
    elim (memory e) [ inl h ↦ inr (ap (λ e. Err e) h) | inr h ↦ absurd (parsed_or_fault ts end u e h q f) ]

pub finds_all : (ts : List Token) (end : Place) (r : Result whole.Unit SyntaxFault) → IfOk r (IsParsed ts end)
    → IfErr r (IsFault ts end) → (e : SyntaxFault) → e ≢ Memory → IsFault ts end e → (r ≡ Err e) ⊎ (r ≡ Err Memory)
finds_all ts end (Ok v) p f e real g = absurd (parsed_or_fault ts end v e real p g)
finds_all ts end (Err d) p f e real g =
    elim (memory d)
    [ inl h ↦ inr (ap (λ e. Err e) h) | inr h ↦ inl (ap (λ e. Err e) (one_fault ts end d e h real f g)) ]

-- from the reading of items to the whole text
pub stop_of : (end : Place) (ts : List Token) (e : SyntaxFault) → Fails unit begins_item elses no_sign 64 end ts e
    → IsStop ts end e
stop_of end ts _ (stuck {at = at} p) = syntax_whole good_unit refl refl 64 end ts at p
stop_of end ts _ (sunk {at = at} p) = deep_whole good_unit refl refl no_sign 64 ts at p
stop_of end ts _ no_memory = tt

pub stop_left : (end : Place) (ts rest : List Token) (t : Token) (us : List Item)
    → Takes unit begins_item elses 64 ts (t ∷ rest) us → IsStop ts end (Syntax t.at)
stop_left end ts rest t us took = left_over good_unit refl refl 64 end ts t rest us took

pub all_read : (ts : List Token) (us : List Item) → Takes unit begins_item elses 64 ts [] us → unit 64 ts [] us
all_read ts us t = subst (λ l. unit 64 l [] us) (sym t.is) (t.alike [] (inl refl))

-- a token is left
pub stop_rest : (end : Place) (ts rest : List Token) (us : List Item) → (rest ≡ [] → ⊥)
    → Takes unit begins_item elses 64 ts rest us → IsStop ts end (Syntax (place_at end rest))
stop_rest end ts [] us h took = absurd (h refl)
stop_rest end ts (t ∷ rest) us h took = stop_left end ts rest t us took

-- all was read
pub read_all : (ts rest : List Token) (us : List Item) → rest ≡ [] → Takes unit begins_item elses 64 ts rest us
    → unit 64 ts [] us
read_all ts rest us e took = all_read ts us (subst (λ l. Takes unit begins_item elses 64 ts l us) e took)

pub fault_of : (ts : List Token) (end : Place) (e : SyntaxFault) → NoneRefused ts → IsStop ts end e → IsFault ts end e
fault_of ts end (Refused rule at) clean s = absurd s
fault_of ts end (Syntax at) clean s = (clean, s)
fault_of ts end (Deep at) clean s = (clean, s)
fault_of ts end Memory clean s = tt
