pub mod Block
pub mod Chain
pub mod Chunk
pub mod ChunkContent
pub mod Ownership
pub mod Places
pub mod Stack
