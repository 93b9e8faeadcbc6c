-- The theorem that a program and its control graph agree, from the stores upwards. The edges of a step, taken one after
-- the other, do what the step does (up to `ActTurns` and `Tested`; of calls `CallRows` and `ExitRows`). A step at a
-- place is the run along the place's edges (`Ways`, `StepsAlike`), for any relation of outcomes that counts no steps;
-- used for two such relations it gives both directions and the bound (`Simulated`, `Agreed`). No run of the graph is
-- stuck, and between steps the temporaries hold nothing (`Unstuck`, `BetweenSteps`).
pub mod ActTurns
pub mod Agreed
pub mod Arrows
pub mod BetweenSteps
pub mod CallRows
pub mod DataRows
pub mod Dying
pub mod ExitRows
pub mod FieldsThere
pub mod Given
pub mod LinksOnes
pub mod OneEdges
pub mod OtherMarks
pub mod Passing
pub mod PointerRows
pub mod Reading
pub mod Simulated
pub mod StepsAlike
pub mod TempLeaks
pub mod Temporaries
pub mod Tested
pub mod Unstuck
pub mod Ways
