pub mod Cells
pub mod Conditions
pub mod Row
pub mod Held
pub mod Parted
pub mod Entries
pub mod Worked
