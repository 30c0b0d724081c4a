mod SeatLemmas
mod BoundLemmas
mod LawfulLemmas
mod PendingLemmas
