mod Numbering
mod Membership
mod Deltas
mod Answering
