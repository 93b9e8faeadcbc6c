-- Worked texts: the doubly linked list, with its table, and texts that break a rule.
use Rattle.std.proofs.Common.{arith, ◌≡◌, ℕ, List, [], ◌∷◌, ◌++◌, refl, codes, Some, None, inl}
use Rattle.std.proofs.Common.{◌≢◌, ◌+◌, ◌∙◌, decimal, Bool, true, false, true≢false, zero, suc, take, sym, ap, subst}
use Rattle.std.proofs.lemmas.Fmt.{decimal_digit}
use Rattle.fore_base.specs.declared.shape.FieldKind.TheVariants.{Pointer}
use Rattle.fore_base.specs.declared.shape.Shapes.{Shapes}
use Rattle.c_lexer.specs.Bytes.{is_letter, is_digit, is_word_byte, is_gap}
use Rattle.fore_base.specs.Lists.{Every}
use Rattle.ta_core.specs.Auto.{Automaton}
use Rattle.ta_core.specs.Language.{RunOf, run}
use Rattle.ta_core.specs.declared.tree.Tree.{Tree}
use Rattle.fa_core.proofs.RowsBoxes.{dll_box, dll_sound}
use Rattle.fa_box_rules.specs.declared.rule.BoxRule.TheVariants.{B4, B5, B6, B7}
use Rattle.fa_lines.specs.Says.{Says}
use Rattle.fa_lines.specs.declared.line.Line.{Line}
use Rattle.fa_lines.specs.declared.line.Line.TheVariants.{Skipped, Opens, Root, Rule as IsRule, Ends}
use Rattle.fa_lines.specs.declared.line.SlotText.TheVariants.{Field}
use Rattle.fa_lines.specs.declared.line.Term.{Term}
use Rattle.fa_lines.specs.declared.line.Term.TheVariants.{Ref, Cell}
use Rattle.fa_lines.proofs.WrittenLines.{said_once}
use Rattle.fa_written.specs.Drafts.{IsText, RefersWithin}
use Rattle.fa_written.specs.Forms.{Numbered, file_lines, IsForm, IsLive}
use Rattle.fa_written.specs.declared.draft.PartDraft.{PartDraft}
use Rattle.fa_written.specs.declared.draft.BoxDraft.{BoxDraft}
use Rattle.fa_named.specs.declared.fault.NameFault.TheVariants.{K6, B2, B3, Memory as NoMemory}
use Rattle.fa_text.proofs.Fits.{cons_not}
use Rattle.fa_text.specs.Files.{IsBoxFile, IsFirst, in_the_way, misnamed, broken, rule_number, fault_of}
use Rattle.fa_text.specs.declared.fault.BoxFault.TheVariants.{Rule, Limit, Memory}

-- Numbers of rules

rules_by_number : (rule_number B4 ≡ 4) × (rule_number B5 ≡ 5) × (rule_number B6 ≡ 6) × (rule_number B7 ≡ 7)
rules_by_number = (refl, refl, refl, refl)

faults_by_number : (fault_of (K6 9) ≡ Limit 9) × (fault_of (B2 3) ≡ Rule 2 3) × (fault_of (B3 4) ≡ Rule 3 4)
    × (fault_of NoMemory ≡ Memory)
faults_by_number = (refl, refl, refl, refl)

-- Digits

zero_digit : decimal 0 ≡ 48 ∷ []
zero_digit = decimal_digit 0 (omega arith)

one_digit : decimal 1 ≡ 49 ∷ []
one_digit = decimal_digit 1 (omega arith)

some_state : {X : Type 0} {x : X} {xs : List X} → x ∷ xs ≢ []
some_state {X} {x} {xs} e = cons_not x xs e

-- struct node { struct node *next; struct node *prev; }

abbrev shapes : Shapes
shapes = record {
  structs = record {
    name = codes "node";
    fields = record { name = codes "next"; kind = Pointer 0 } ∷ record { name = codes "prev"; kind = Pointer 0 } ∷ [];
  } ∷ [];
}

-- A doubly linked list: next at its input, prev at its output.

abbrev dll_text : List ℕ
dll_text = codes "box dll in node out node" ++ 10 ∷ codes "root 0 s0" ++ 10 ∷ codes "s0 = node(next=s1)" ++ 10
    ∷ codes "s1 = ref 1" ++ 10 ∷ codes "root 1 s0" ++ 10 ∷ codes "s0 = node(prev=s1)" ++ 10 ∷ codes "s1 = ref 0" ++ 10
    ∷ codes "end" ++ 10 ∷ []

-- the cell of node with this field to state 1
abbrev to_one : List ℕ → Term
to_one field = Cell (codes "node") [] (Field field 1 ∷ [])

abbrev dll_part : ℕ → List ℕ → ℕ → PartDraft
dll_part line field root = record {
  line = line;
  roots = 0 ∷ [];
  rules = record { line = line + 1; state = 0; term = to_one field }
      ∷ record { line = line + 2; state = 1; term = Ref root } ∷ [];
}

abbrev dll_draft : BoxDraft
dll_draft = record {
  head = record { line = 1; name = codes "dll"; input = codes "node"; output = Some (codes "node") };
  parts = dll_part 2 (codes "next") 1 ∷ dll_part 5 (codes "prev") 0 ∷ [];
  end = 8;
}

abbrev dll_lines : List Line
dll_lines = Opens (codes "dll") (codes "node") (Some (codes "node")) ∷ Root 0 (0 ∷ [])
    ∷ IsRule 0 (to_one (codes "next")) ∷ IsRule 1 (Ref 1) ∷ Root 1 (0 ∷ [])
    ∷ IsRule 0 (to_one (codes "prev")) ∷ IsRule 1 (Ref 0) ∷ Ends ∷ []

says_root : Says (codes "root 0 s0") (Root 0 (0 ∷ [])) × Says (codes "root 1 s0") (Root 1 (0 ∷ []))
unfolding is_gap is_word_byte is_letter is_digit
says_root = (
  ((omega arith, some_state, (omega arith, tt)), rw zero_digit refl),
  ((omega arith, some_state, (omega arith, tt)), rw (zero_digit, one_digit) refl),
)

says_cell : Says (codes "s0 = node(next=s1)") (IsRule 0 (to_one (codes "next")))
    × Says (codes "s0 = node(prev=s1)") (IsRule 0 (to_one (codes "prev")))
unfolding is_gap is_word_byte is_letter is_digit
says_cell = (
  ((omega arith, (refl, tt, ((refl, omega arith), tt))), rw (zero_digit, one_digit) refl),
  ((omega arith, (refl, tt, ((refl, omega arith), tt))), rw (zero_digit, one_digit) refl),
)

says_ref : Says (codes "s1 = ref 1") (IsRule 1 (Ref 1)) × Says (codes "s1 = ref 0") (IsRule 1 (Ref 0))
unfolding is_gap is_word_byte is_letter is_digit
says_ref = (
  ((omega arith, omega arith), rw one_digit refl),
  ((omega arith, omega arith), rw (zero_digit, one_digit) refl),
)

says_end : Says (codes "end") Ends
unfolding is_gap is_word_byte is_letter is_digit
says_end = (tt, refl)

says_box : Says (codes "box dll in node out node") (Opens (codes "dll") (codes "node") (Some (codes "node")))
unfolding is_gap is_word_byte is_letter is_digit
says_box = ((refl, refl, refl), refl)

dll_written : IsText dll_text (dll_draft ∷ [])
dll_written = record {
  lines = dll_lines;
  said = (
    says_box,
    (says_root.0, (says_cell.0, (says_ref.0, (says_root.1, (says_cell.1, (says_ref.1, (says_end, tt))))))),
  );
  form = (refl, (omega arith, tt));
  refs = (refl, tt);
}

dll_table : IsBoxFile dll_text shapes (record {
  face = record { shapes = shapes; boxes = dll_box.face ∷ [] };
  defs = dll_box ∷ [];
})
dll_table = record {
  drafts = dll_draft ∷ [];
  named = _;
  written = dll_written;
  are_named = (refl, refl);
  boxes = (
    (record { name = refl; input = refl; output = refl; inside = refl }, tt),
    (dll_sound (record { shapes = shapes; boxes = [] }) (omega arith) refl refl [], tt),
  );
  face = refl;
}

-- over no structs it breaks B2 at its first line
no_struct : IsFirst dll_text (record { structs = [] }) (Rule 2 1)
no_struct = misnamed (dll_draft ∷ []) (B2 1) dll_written refl refl

-- A component without rules: B7 at the first line of its box.

abbrev bare_text : List ℕ
bare_text = codes "# no rule" ++ 10 ∷ codes "box b in node" ++ 10 ∷ codes "root 0 s0" ++ 10 ∷ codes "end"

abbrev bare_draft : BoxDraft
bare_draft = record {
  head = record { line = 2; name = codes "b"; input = codes "node"; output = None };
  parts = record { line = 3; roots = 0 ∷ []; rules = [] } ∷ [];
  end = 4;
}

says_bare : Says (codes "box b in node") (Opens (codes "b") (codes "node") None)
unfolding is_gap is_word_byte is_letter is_digit
says_bare = ((refl, refl, tt), refl)

bare_written : IsText bare_text (bare_draft ∷ [])
bare_written = record {
  lines = Skipped ∷ Opens (codes "b") (codes "node") None ∷ Root 0 (0 ∷ []) ∷ Ends ∷ [];
  said = (refl, (says_bare, (says_root.0, (says_end, tt))));
  form = (refl, (omega arith, tt));
  refs = (refl, tt);
}

abbrev empty_auto : Automaton
empty_auto = record { states = 1; roots = 0 ∷ []; rules = [] }

no_run : (q : ℕ) (t : Tree) → RunOf [] q t → ⊥
no_run q t (run r i s y each) = i

no_tree : IsFirst bare_text shapes (Rule 7 2)
no_tree = broken (bare_draft ∷ []) _ B7 2 bare_written (refl, refl) (record {
  before = [];
  draft = bare_draft;
  box = _;
  draft_at = refl;
  box_at = refl;
  boxes = (tt, tt);
  place = refl;
  breaks = (empty_auto, inl refl, (λ t l. no_run l.0 t l.2));
}) refl

-- An end before a box: B1 at line 1.

abbrev first_line : List Numbered → Line
first_line [] = Skipped
first_line (p ∷ ps) = p.1

abbrev is_end : Line → Bool
is_end Skipped = false
is_end (Opens name input output) = false
is_end (Root r qs) = false
is_end (IsRule q t) = false
is_end Ends = true

no_end_first : (bs : List BoxDraft) → is_end (first_line (file_lines bs)) ≡ false
no_end_first [] = refl
no_end_first (b ∷ bs) = refl

not_live : (line : Line) → Ends ≡ line → IsLive (line ∷ []) → ⊥
not_live line e live =
    let form = subst (λ (l : Line). IsForm (l ∷ live.0) live.1) (sym e) live.2 in
    true≢false (ap (λ (ps : List Numbered). is_end (first_line ps)) form.0 ∙ no_end_first live.1)

no_box_yet : (bs : List BoxDraft) → [] ≡ file_lines bs → Every RefersWithin bs
no_box_yet [] e = tt
no_box_yet (b ∷ bs) e = absurd (cons_not _ _ (sym e))

end_first : IsFirst (codes "end") shapes (Rule 1 1)
end_first = in_the_way 1 (inl (record {
  before = [];
  place = refl;
  said = tt;
  live = ([], [], (refl, tt));
  refs = λ k bs form. no_box_yet bs (none_taken k bs form);
  closed = λ said bs last closes.
      absurd (true≢false
      (ap (λ (ps : List Numbered). is_end (first_line ps)) closes.0 ∙ no_end_first (bs ++ last ∷ [])));
  dead = λ line said live. not_live line (said_once (codes "end") Ends line says_end said) live;
})) refl
  where
    none_taken : (k : ℕ) (bs : List BoxDraft) → IsForm (take k []) bs → [] ≡ file_lines bs
    none_taken zero bs form = form.0
    none_taken (suc k) bs form = form.0
