pub mod Tokens
pub mod Classes
pub mod Exact
pub mod Singles
pub mod Lexing
