-- Worked values, which guard the definitions in specs/: each is worked out by hand from the C text in its comment, and
-- each case of a definition is met by a row that fails if the case is wrong.
mod Forms
mod Loops
mod Conditions
mod Faults
mod Allocations
mod Lifetimes
mod Data
mod Choices
mod Calls
mod Leaving
mod CallTyping
mod Typing
mod Programs
mod Stores
