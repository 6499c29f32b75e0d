-- The definitions that the contracts cite.
pub mod Form
pub mod Bytes
pub mod Tokens
pub mod Reading
pub mod Print
pub mod Valid
pub mod Laws
pub mod Sheet
pub mod Items
pub mod Page
pub mod Machine
pub mod Filling
