-- What a sink in memory keeps, and when its puts fail.
use Rattle.std.specs.Prelude.{◌⊎◌, ◌<◌, ◌≤◌, ◌-◌, ℕ, List, [], length, min, IsTrue}
use Rattle.fore_outside.specs.Counts.{one_more, is_listed}

pub record SinkState : Type 0 where
  pub held : List ℕ  -- the bytes that it took
  pub room : ℕ  -- how many bytes it can hold
  pub most : ℕ  -- how many bytes it takes in one call at most
  pub fails : List ℕ  -- the numbers of the calls that are to fail
  pub calls : ℕ  -- how often it was called
  pub faults : ℕ  -- how often a call failed

-- a sink as it is made
abbrev pub new_sink : ℕ → ℕ → SinkState
new_sink room most = record { held = []; room = room; most = most; fails = []; calls = 0; faults = 0 }

-- how many bytes of a piece one put takes
abbrev pub taken : SinkState → List ℕ → ℕ
taken sink bytes = min (min sink.most (sink.room - length sink.held)) (length bytes)

-- the next put fails: it is one that is to fail, or no byte of the piece has room
abbrev pub PutFails : SinkState → List ℕ → Type 0
PutFails sink bytes = IsTrue (is_listed sink.fails (one_more sink.calls))
    ⊎ ((0 < length bytes) × (sink.room ≤ length sink.held))
