mod Calendar
mod Writing
mod Printing
