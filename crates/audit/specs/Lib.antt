pub mod Firsts
pub mod Receipts
pub mod Permits
pub mod Marks
pub mod Text
pub mod Verdict
pub mod Accepted
pub mod Histories
