-- What is known of the trees of each state.
use Rattle.std.specs.Prelude.{◌≡◌, ◌≢◌, ◌⊎◌, ℕ, ◌+◌, Bool, true, false, not, ◌||◌, List, [], ◌∷◌, map, length}
use Rattle.std.specs.Prelude.{Option, Some, None, slice_set}
use Rattle.fore_base.specs.Lists.{IsIn, Every}
use Rattle.ta_core.specs.Auto.{Automaton}
use Rattle.ta_core.specs.Language.{RunOf}
use Rattle.ta_core.specs.declared.auto.Rule.{Rule}
use Rattle.ta_core.specs.declared.tree.Tree.{Tree}
use Rattle.fa_core.specs.declared.faces.BoxFace.{BoxFace}
use Rattle.fa_core.specs.declared.signature.Below.{Below}
use Rattle.fa_core.specs.declared.signature.RefMark.{RefMark}
use Rattle.fa_core.specs.Cells.{is_leaf, below_of, marks_by}
use Rattle.fa_core.specs.Ways.{signature}
use Rattle.fa_sound.specs.Entries.{entry, is_known, all_known}
use Rattle.fa_boxes.specs.declared.seeing.Seen.{Seen}

-- a leaf is known, where k is true, or a cell, where it is false
abbrev pub has_kind : Bool → Seen → Bool
has_kind true s = s.leaf
has_kind false s = s.cell

abbrev pub shows : Bool → Option Seen → Bool
shows k None = false
shows k (Some s) = has_kind k s

-- a leaf is taken where one is known, if k is true, or where no cell is, if it is false
abbrev pub takes_leaf : Bool → Seen → Bool
takes_leaf true s = s.leaf
takes_leaf false s = not s.cell

-- what is taken for what stands below
abbrev pub said : Bool → Option Seen → Below
said k None = record { leaf = true; marks = [] }
said k (Some s) = record { leaf = takes_leaf k s; marks = s.marks }

abbrev pub below_at : Bool → List (Option Seen) → ℕ → Below
below_at k table q = said k (entry table q)

-- the signature of the state's trees, empty where none is known
abbrev pub own : List (Option Seen) → ℕ → List RefMark
own table q = (below_at true table q).marks

-- the signature of a tree by the rule
abbrev pub marks_at : List BoxFace → Bool → List (Option Seen) → Rule → List RefMark
marks_at bs k table r = marks_by bs r.symbol (map (below_at k table) r.children)

-- what is known with one more tree of this kind and signature; nothing new, where the signature is another
abbrev pub Adds : Option Seen → Bool → List RefMark → Option Seen → Type 0
Adds None k ms made = made ≡ Some (record { leaf = k; cell = not k; marks = ms })
Adds (Some s) k ms None = s.marks ≢ ms
Adds (Some s) k ms (Some x) = (s.marks ≡ ms) × (x ≡ record { leaf = s.leaf || k; cell = s.cell || not k; marks = ms })

-- where the table speaks of the rule's children, it speaks of its state and shows a tree of the rule's kind, or the
-- rule gives a tree with another signature
abbrev pub IsTaken : List BoxFace → List (Option Seen) → Rule → Type 0
IsTaken bs table r = all_known table r.children ≡ true → (is_known table r.state ≡ true)
    × ((shows (is_leaf r.symbol) (entry table r.state) ≡ true) ⊎ (own table r.state ≢ marks_at bs false table r))

-- the table learnt of the rule's state; or it had nothing to learn
abbrev pub Learns : List BoxFace → Rule → List (Option Seen) → List (Option Seen) → Bool → Type 0
Learns bs r old new true = (all_known old r.children ≡ true)
    × (shows (is_leaf r.symbol) (entry old r.state) ≡ false)
    × ((x : Seen) × Adds (entry old r.state) (is_leaf r.symbol) (marks_at bs false old r) (Some x)
    × (new ≡ slice_set old r.state (Some x)))
Learns bs r old new false = (new ≡ old) × IsTaken bs old r

-- how much may still be learnt
abbrev pub lacks : Bool → ℕ
lacks true = 0
lacks false = 1

abbrev pub lacking : Option Seen → ℕ
lacking None = 2
lacking (Some s) = lacks s.leaf + lacks s.cell

abbrev pub missing : List (Option Seen) → ℕ
missing [] = 0
missing (e ∷ es) = lacking e + missing es

-- each kind that is known is that of some tree of the state, which has the signature, and one kind is
abbrev pub IsSeen : List BoxFace → List Rule → ℕ → Seen → Type 0
IsSeen bs rules q s = ((k : Bool) → has_kind k s ≡ true → (t : Tree) × RunOf rules q t
    × (below_of bs t ≡ record { leaf = k; marks = s.marks })) × ((k : Bool) × (has_kind k s ≡ true))

abbrev pub AreSeen : List BoxFace → List Rule → List (Option Seen) → Type 0
AreSeen bs rules table = (q : ℕ) (s : Seen) → entry table q ≡ Some s → IsSeen bs rules q s

-- it speaks of trees alone, and of all states that have some
pub record IsLearnt (bs : List BoxFace) (n : ℕ) (rules : List Rule) (table : List (Option Seen)) : Type 0 where
  pub long : length table ≡ n
  pub seen : AreSeen bs rules table
  pub whole : Every (IsTaken bs table) rules

-- trees by the rule have the signature of the state, with as few leaves below as may be and with as many
abbrev pub IsSettled : List BoxFace → List (Option Seen) → Rule → Type 0
IsSettled bs table r = all_known table r.children ≡ true → (own table r.state ≡ marks_at bs false table r)
    × (own table r.state ≡ marks_at bs true table r)

-- one of them has another
abbrev pub IsUnlike : List BoxFace → List (Option Seen) → Rule → Type 0
IsUnlike bs table r = (all_known table r.children ≡ true) × ((k : Bool) × (own table r.state ≢ marks_at bs k table r))

-- so for some rule
abbrev pub IsUnsettled : List BoxFace → List (Option Seen) → List Rule → Type 0
IsUnsettled bs table rules = (r : Rule) × IsIn r rules × IsUnlike bs table r

-- each state with trees is known, with the signature of them all
pub record IsTable (bs : List BoxFace) (a : Automaton) (table : List (Option Seen)) : Type 0 where
  pub trees : (q : ℕ) (t : Tree) → RunOf a.rules q t → (is_known table q ≡ true) × (own table q ≡ signature bs t)
  pub some : (q : ℕ) → is_known table q ≡ true → (t : Tree) × RunOf a.rules q t
