-- Worked values, which guard the definitions in specs/: each is worked out by hand from the table of edges and the text
-- beside it, and each case of a definition is met by a row that fails if the case is wrong.
mod Forms
mod Agreeing
mod OneEdge
mod Leaking
mod Runs
mod Acts
mod Calls
mod Called
mod Comparisons
mod Facts
mod Loopless
mod Loops
mod Lowerings
mod Nulls
mod Visiting
