-- What a sink tells before and after an answer is delivered.
use Rattle.std.specs.Prelude.{ℕ, List, Option}
use Rattle.fore_outside.specs.declared.sink.Sink.{Ghosts as SinkMeaning}

-- what a sink tells at a moment: the bytes that were written so far, and how often a write has failed
pub record SinkView : Type 0 where
  pub held : Option (List ℕ)
  pub faults : ℕ

-- a sink before and after
pub record Writing : Type 0 where
  pub before : SinkView
  pub after : SinkView

abbrev pub sink_view : {S : Type 0} → SinkMeaning S → S → SinkView
sink_view meaning s = record { held = meaning.held s; faults = meaning.faults s }

abbrev pub writing_of : {S : Type 0} → SinkMeaning S → S → S → Writing
writing_of meaning old new = record { before = sink_view meaning old; after = sink_view meaning new }
