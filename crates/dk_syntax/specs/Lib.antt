pub mod LawfulStatements
pub mod Literals
pub mod formers
