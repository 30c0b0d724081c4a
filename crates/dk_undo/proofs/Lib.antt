pub mod BlockLemmas
pub mod ChunkLemmas
pub mod SendSyncLemmas
pub mod PlaceLemmas
pub mod MemoryLemmas
pub mod PackedLemmas
pub mod SharingLemmas
pub mod WalkLemmas
