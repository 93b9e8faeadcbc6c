mod Repeated
mod Rows
