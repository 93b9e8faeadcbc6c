-- Places in a text.
use Rattle.std.specs.Prelude.{ℕ, ◌+◌, ◌==◌, Bool, List, length, count_by}
use Rattle.std.specs.List.{suffix_len}
use Rattle.fore_base.specs.declared.place.Place.{Place}
use Rattle.c_lexer.specs.Bytes.{is_gap, is_newline, is_no_newline}

-- the place after these bytes of a text: their number, one more than their newlines, and one more than the bytes after
-- the last newline
abbrev pub place_after : List ℕ → Place
place_after front = record
    { offset = length front; line = 1 + count_by is_newline front; column = 1 + suffix_len is_no_newline front }

-- nothing but spaces and tabs stands after the last newline: as many of them end the front as bytes do
abbrev pub is_fresh : List ℕ → Bool
is_fresh front = suffix_len is_gap front == suffix_len is_no_newline front
