mod Checking
mod Graphs
mod Running
