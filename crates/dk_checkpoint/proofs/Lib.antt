mod FlipLemmas
