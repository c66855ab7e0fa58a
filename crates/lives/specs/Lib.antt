pub mod Draft
pub mod Life
pub mod Exchange
pub mod Drafts
pub mod States
