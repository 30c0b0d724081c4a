pub mod Lines
pub mod ReaderState
pub mod LinesLeft
pub mod LineMoves
pub mod LinesGiven
pub mod NextLine
pub mod Memory
pub mod Sinks
