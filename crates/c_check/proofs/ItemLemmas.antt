-- What each kind of place among the items adds to the first fault so far.
use Rattle.std.proofs.Common.{◌≡◌, ℕ, Bool, true, not, ◌&&◌, ◌||◌, List, Option, ap}
use Rattle.fore_base.specs.declared.place.Place.{Place}
use Rattle.c_ast.specs.declared.items.Head.{Head}
use Rattle.c_ast.specs.declared.operands.Name.{Name}
use Rattle.c_typing.specs.Functions.{is_right_prototype}
use Rattle.c_typing.specs.Globals.{Globals}
use Rattle.c_typing.specs.Profile.{given, is_main, is_main_head}
use Rattle.c_typing.specs.Sites.{Defines, Declares}
use Rattle.c_typing.specs.declared.meaning.Family.{Family}
use Rattle.c_typing.specs.declared.meaning.Family.TheVariants.{Struct, Enum, Value, Member, Variable}
use Rattle.c_typing.specs.declared.meaning.Family.TheVariants.{Function, Parameter}
use Rattle.c_typing.specs.Sites.{Functions, Globally, Ends, Overflows}
use Rattle.c_typing.specs.Texts.{Text, has}
use Rattle.c_typing.proofs.Breaching as breaching
use Rattle.c_typing.proofs.Breaching.{fault_at}
use Rattle.c_typing.specs.declared.fault.TypeFault.{TypeFault}
use Rattle.c_typing.specs.declared.fault.TypeFault.TheVariants.{Rule, Limit}
use Rattle.c_check.specs.inner.Items.{counted}
use Rattle.c_expressions.specs.First.{first_from}
use Rattle.c_expressions.specs.Meeting.{noted, noted_when}
use Rattle.c_expressions.proofs.MeetingLemmas.{one, two}

module _ (g : Globals) (found : Option TypeFault) where
  pub noted-Defines : (family : Family) (n : Name) (earlier : List Text) (count : ℕ) →
      noted g found (Defines family n earlier count)
      ≡ counted family count n.at (noted_when (has n.text earlier) (Rule 5 n.at) found)
  noted-Defines Struct n earlier count = two g found _ _ _ _ _ (breaching.at-Struct g n earlier count)
  noted-Defines Enum n earlier count = one g found _ _ _ (breaching.at-Enum g n earlier count)
  noted-Defines Value n earlier count = two g found _ _ _ _ _ (breaching.at-Value g n earlier count)
  noted-Defines Member n earlier count = two g found _ _ _ _ _ (breaching.at-Member g n earlier count)
  noted-Defines Variable n earlier count = two g found _ _ _ _ _ (breaching.at-Variable g n earlier count)
  noted-Defines Function n earlier count = two g found _ _ _ _ _ (breaching.at-Function g n earlier count)
  noted-Defines Parameter n earlier count = one g found _ _ _ (breaching.at-Parameter g n earlier count)

  pub noted-Declares : (h : Head) → noted g found (Declares h)
      ≡ noted_when (not (is_right_prototype g h)) (Rule 15 h.name.at) found
  noted-Declares h = one g found _ _ _ (breaching.at-Declares g h)

  pub noted-Functions : (h : Head) →
      noted g found (Functions h)
      ≡ noted_when (has h.name.text given || (is_main h && not (is_main_head h))) (Rule 15 h.name.at) found
  noted-Functions h = one g found _ _ _ (breaching.at-Functions g h)

  pub noted-Globally : (n : Name) → noted g found (Globally n) ≡ noted_when true (Rule 14 n.at) found
  noted-Globally n = one g found _ true (Rule 14 n.at) (breaching.at-Globally g n)

  pub noted-Ends : (main : Bool) (at : Place) → noted g found (Ends main at) ≡ noted_when (not main) (Rule 12 at) found
  noted-Ends main at = one g found _ _ _ (breaching.at-Ends g main at)

  pub noted-Overflows : (over : Option Place) → noted g found (Overflows over)
      ≡ first_from found (fault_at (Limit 8) over)
  unfolding noted
  noted-Overflows over = ap (first_from found) (breaching.at-Overflows g over)

pub ruleset sites = (
  noted-Defines,
  noted-Declares,
  noted-Functions,
  noted-Globally,
  noted-Ends,
  noted-Overflows,
)
