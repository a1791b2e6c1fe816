-- Each granted change keeps the invariant: a file for each call.
pub mod Begin
pub mod Commit
pub mod Abort
pub mod Register
pub mod Release
pub mod Insert
pub mod Update
pub mod Delete
pub mod Hint
pub mod Prune
pub mod Freeze
pub mod Forget
