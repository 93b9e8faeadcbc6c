use Rattle.std.proofs.Common.{◌≡◌, ◌≤◌, ◌-◌, [], length, take}
use Rattle.c_lexer.specs.inner.Readings.{ReadsOn}
use Rattle.c_lexer.specs.inner.Steps.{cursor_after}
use Rattle.c_lexer.proofs.reader.read_pieces.Given as goal

abbrev pub invariant-pieces : goal.invariant-pieces
invariant-pieces l =
    record {
      within : l.at ≤ length l.text;
      here : l.cursor ≡ cursor_after (take l.at l.text);
      leads : ReadsOn l.text 0 [] l.at l.found;
    }

abbrev pub decreases-pieces : goal.decreases-pieces
decreases-pieces l = length l.text - l.at
