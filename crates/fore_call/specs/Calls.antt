-- One call: what it is asked, and what it finds and leaves, as far as its shelf and its sinks tell.
use Rattle.std.specs.Prelude.{ℕ, List, String}
use Rattle.std.specs.declared.alloc.Global.{Global}
use Rattle.fore_outside.specs.declared.shelf.Shelf.{Ghosts as ShelfMeaning}
use Rattle.fore_answer.specs.Writings.{Writing}
use Rattle.fore_read.specs.Readings.{Reading, reading_of}
use Rattle.fore_words.specs.Words.{texts}

-- the words, and what became of the shelf
pub record Request : Type 0 where
  pub words : List (List ℕ)
  pub reading : Reading

-- a call: what was asked and read, what was written to standard output and to standard error, and the status
pub record Call : Type 0 where
  pub request : Request
  pub out : Writing
  pub notes : Writing
  pub status : ℕ

abbrev pub request_of : {S : Type 0} → ShelfMeaning S → List (String Global) → S → S → Request
request_of meaning words old new = record { words = texts words; reading = reading_of meaning old new }
