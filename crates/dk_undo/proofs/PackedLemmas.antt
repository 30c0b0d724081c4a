-- Chunks that are filled from the front.
use Rattle.std.proofs.Common.{◌≡◌, ℕ, zero, suc, ◌+◌, ◌-◌, ◌*◌, ◌/◌, ◌%◌, ◌<◌, ◌≤◌, List, [], ◌∷◌, ◌++◌, length, set, get_or, slice_get, take, drop, refl, sym, ap, ◌∙◌, subst, arith, length-append, append_assoc, append-nil, drop_at, take_at}
use Rattle.std.proofs.lemmas.List.{length-map, length_push}
use Rattle.dk_undo.specs.ChunkContent.{Held}
use Rattle.dk_undo.specs.Chain.{entries_of, places_of, IsPacked, AreEmpty, Grows}
use Rattle.dk_undo.proofs.ChunkLemmas.{slice_get-front, slice_get-behind}

module _ {X : Type 0} where
  -- the entries are as many as fill the chunks
  pub length-entries : (n : ℕ) (cs : List (Held X)) → IsPacked n cs → length (entries_of cs) ≡ n
  length-entries n [] p = sym p
  length-entries n (c ∷ cs) p = omega
      (arith, p.0, length-append c.items (entries_of cs), length-entries (n - 64) cs p.1)

  -- and a number below theirs is below this
  pub below-packed : (n i : ℕ) (cs : List (Held X)) (entries : List X) → IsPacked n cs → entries_of cs ≡ entries
      → i < length entries → i < n
  below-packed n i cs entries p e lt = omega (arith, lt, ap length e, length-entries n cs p)

  -- there are places for them
  pub packed-within : (n : ℕ) (cs : List (Held X)) → IsPacked n cs → n ≤ 64 * length cs
  packed-within n [] p = omega (arith, p)
  packed-within n (c ∷ cs) p = omega (arith, packed-within (n - 64) cs p.1)

  no_item : (xs : List X) → length xs ≡ 0 → xs ≡ []
  no_item [] h = refl
  no_item (x ∷ xs) h = absurd (omega arith)

  -- where there are no entries, no chunk has an item
  pub packed-empty : (n : ℕ) (cs : List (Held X)) → IsPacked n cs → n ≡ 0 → AreEmpty cs
  packed-empty n [] p h = tt
  packed-empty n (c ∷ cs) p h = (no_item c.items (omega (arith, p.0)), packed-empty (n - 64) cs p.1 (omega arith))

  pub entries-empty : (cs : List (Held X)) → AreEmpty cs → entries_of cs ≡ []
  entries-empty [] e = refl
  entries-empty (c ∷ cs) e = (λ j. e.0 j ++ entries-empty cs e.1 j)

  -- empty chunks at the end add no entry
  pub entries-more : (cs ds : List (Held X)) → AreEmpty ds → entries_of (cs ++ ds) ≡ entries_of cs
  entries-more [] ds e = entries-empty ds e
  entries-more (c ∷ cs) ds e = ap (λ l. c.items ++ l) (entries-more cs ds e)

  packed-none : (ds : List (Held X)) → AreEmpty ds → IsPacked 0 ds
  packed-none [] e = refl
  packed-none (d ∷ ds) e = (ap length e.0, packed-none ds e.1)

  -- and leave the others filled from the front
  pub packed-more : (n : ℕ) (cs ds : List (Held X)) → IsPacked n cs → AreEmpty ds → IsPacked n (cs ++ ds)
  packed-more n [] ds p e = subst (λ k. IsPacked k ds) (sym p) (packed-none ds e)
  packed-more n (c ∷ cs) ds p e = (p.0, packed-more (n - 64) cs ds p.1 e)

  -- the last chunk with items has as many as are left over
  pub packed-at : (n i k : ℕ) (cs : List (Held X)) (d : Held X) → IsPacked n cs → n ≡ 64 * i + k → k ≤ 64
      → i < length cs → length (get_or cs i d).items ≡ k
  packed-at n i k [] d p at lt h = absurd (omega arith)
  packed-at n zero k (c ∷ cs) d p at lt h = omega (arith, p.0)
  packed-at n (suc i) k (c ∷ cs) d p at lt h = packed-at (n - 64) i k cs d p.1 (omega arith) lt (omega arith)

  -- one more item in a chunk before empty ones is one more entry at the end
  entry-last : (shorter longer : List X) (cs : List (Held X)) (v : X) → longer ≡ shorter ++ v ∷ [] → AreEmpty cs
      → longer ++ entries_of cs ≡ (shorter ++ entries_of cs) ++ v ∷ []
  entry-last shorter longer cs v e none =
      let rest = entries-empty cs none in
      (λ j. e j ++ rest j) ∙ append-nil (shorter ++ v ∷ [])
      ∙ ap (λ l. l ++ v ∷ []) (sym (append-nil shorter) ∙ (λ j. shorter ++ sym rest j))

  -- an entry is put behind the others
  put-packed : (n i k : ℕ) (cs : List (Held X)) (d c : Held X) (v : X) → IsPacked n cs → n ≡ 64 * i + k → k < 64
      → i < length cs
      → c.items ≡ (get_or cs i d).items ++ v ∷ [] → IsPacked (n + 1) (set cs i c)
      × (entries_of (set cs i c) ≡ entries_of cs ++ v ∷ [])
  put-packed n i k [] d c v p at lt h e = absurd (omega arith)
  put-packed n zero k (b ∷ cs) d c v p at lt h e =
      let none = packed-empty (n - 64) cs p.1 (omega arith) in (
        (
          omega (arith, p.0, ap length e, length_push b.items v),
          subst (λ m. IsPacked m cs) (omega arith) (packed-none cs none),
        ),
        entry-last b.items c.items cs v e none,
      )
  put-packed n (suc i) k (b ∷ cs) d c v p at lt h e =
      let on = put-packed (n - 64) i k cs d c v p.1 (omega arith) lt (omega arith) e in
      let step : n - 64 + 1 ≡ n + 1 - 64 = omega arith in (
        (omega (arith, p.0), subst (λ m. IsPacked m (set cs i c)) step on.0),
        ap (λ l. b.items ++ l) on.1
            ∙ sym (append_assoc b.items (entries_of cs) (v ∷ [])),
      )

  -- the last entry is taken
  take-packed : (n i k : ℕ) (cs : List (Held X)) (d c : Held X) (v : X) → IsPacked (n + 1) cs → n ≡ 64 * i + k
      → k < 64
      → (get_or cs i d).items ≡ c.items ++ v ∷ [] → i < length cs → IsPacked n (set cs i c)
      × (entries_of cs ≡ entries_of (set cs i c) ++ v ∷ [])
  take-packed n i k [] d c v p at lt e h = absurd (omega arith)
  take-packed n zero k (b ∷ cs) d c v p at lt e h =
      let none = packed-empty (n + 1 - 64) cs p.1 (omega arith) in (
        (
          omega (arith, p.0, ap length e, length_push c.items v),
          subst (λ m. IsPacked m cs) (omega arith) (packed-none cs none),
        ),
        entry-last c.items b.items cs v e none,
      )
  take-packed n (suc i) k (b ∷ cs) d c v p at lt e h =
      let step : n + 1 - 64 ≡ n - 64 + 1 = omega arith in
      let on = take-packed (n - 64) i k cs d c v (subst (λ m. IsPacked m cs) step p.1) (omega arith) lt e
      (omega arith) in (
        (omega (arith, p.0), on.0),
        ap (λ l. b.items ++ l) on.1
            ∙ sym (append_assoc b.items (entries_of (set cs i c)) (v ∷ [])),
      )

  -- the place of the last entry is counted by 64s
  pub put-last : (n : ℕ) (cs : List (Held X)) (d c : Held X) (v : X) → IsPacked n cs → n < 64 * length cs
      → c.items ≡ (get_or cs (n / 64) d).items ++ v ∷ []
      → IsPacked (n + 1) (set cs (n / 64) c) × (entries_of (set cs (n / 64) c) ≡ entries_of cs ++ v ∷ [])
  put-last n cs d c v p room e =
      put-packed n (n / 64) (n % 64) cs d c v p (omega arith) (omega arith) (omega (arith, room)) e

  pub take-last : (n : ℕ) (cs : List (Held X)) (d c : Held X) (v : X) → IsPacked (n + 1) cs
      → (get_or cs (n / 64) d).items ≡ c.items ++ v ∷ []
      → IsPacked n (set cs (n / 64) c) × (entries_of cs ≡ entries_of (set cs (n / 64) c) ++ v ∷ [])
  take-last n cs d c v p e =
      take-packed n (n / 64) (n % 64) cs d c v p (omega arith) (omega arith) e
      (omega (arith, packed-within (n + 1) cs p))

  -- an entry is the item of a chunk
  pub entry-at : (n i k m : ℕ) (cs : List (Held X)) (d : Held X) → IsPacked n cs → m < n → m ≡ 64 * i + k → k < 64
      → (i < length cs) × (k < length (get_or cs i d).items)
      × (slice_get (entries_of cs) m ≡ slice_get (get_or cs i d).items k)
  entry-at n i k m [] d p lt at small = absurd (omega (arith, p))
  entry-at n zero k m (c ∷ cs) d p lt at small =
      let here : k < length c.items = omega (arith, p.0) in let same : m ≡ k = omega arith in (
        omega arith,
        here,
        ap (slice_get (c.items ++ entries_of cs)) same
            ∙ slice_get-front c.items (entries_of cs) k here,
      )
  entry-at n (suc i) k m (c ∷ cs) d p lt at small =
      let on = entry-at (n - 64) i k (m - 64) cs d p.1 (omega arith) (omega arith) small in
      (omega (arith, on.0), on.1, slice_get-behind c.items (entries_of cs) m (m - 64) (omega (arith, p.0)) ∙ on.2)

  -- an empty chunk leaves the end
  empty-push : (k : ℕ) (cs : List (Held X)) (c : Held X) → k ≤ length cs → AreEmpty (drop k (cs ++ c ∷ []))
      → (c.items ≡ []) × AreEmpty (drop k cs)
  empty-push zero [] c h e = (e.0, tt)
  empty-push zero (b ∷ cs) c h e = let on = empty-push zero cs c (omega arith) e.1 in (on.0, (e.0, on.1))
  empty-push (suc k) [] c h e = absurd (omega arith)
  empty-push (suc k) (b ∷ cs) c h e = empty-push k cs c (omega arith) e

  -- a chunk behind the first k is none of them
  take-push : (k : ℕ) (cs : List (Held X)) (c : Held X) → k ≤ length cs → take k (cs ++ c ∷ []) ≡ take k cs
  take-push zero cs c h = refl
  take-push (suc k) [] c h = absurd (omega arith)
  take-push (suc k) (b ∷ cs) c h = ap (λ l. b ∷ l) (take-push k cs c (omega arith))

  -- the last of the chunks is none of the first k: it is empty, and the first k and those behind them stay
  pub freed : (k : ℕ) (all cs : List (Held X)) (c : Held X) → all ≡ cs ++ c ∷ [] → k < length all
      → AreEmpty (drop k all) → (c.items ≡ []) × AreEmpty (drop k cs) × (take k cs ≡ take k all)
  freed k all cs c e more empty =
      let within : k ≤ length cs = omega (arith, more, ap length e, length_push cs c) in
      let last = empty-push k cs c within (subst (λ l. AreEmpty (drop k l)) e empty) in
      (last.0, last.1, sym (ap (take k) e ∙ take-push k cs c within))

  -- no chunk is added
  pub grows-nothing : (cs : List (Held X)) → Grows cs cs 0
  grows-nothing cs = record { added = []; after = sym (append-nil cs); many = refl; empty = tt }

  both-empty : (cs ds : List (Held X)) → AreEmpty cs → AreEmpty ds → AreEmpty (cs ++ ds)
  both-empty [] ds e f = f
  both-empty (c ∷ cs) ds e f = (e.0, both-empty cs ds e.1 f)

  -- some chunks are added, and then some more
  pub grows-more : (bs cs ds : List (Held X)) (m n : ℕ) → Grows bs cs m → Grows cs ds n → Grows bs ds (m + n)
  grows-more bs cs ds m n one two = record {
    added = one.added ++ two.added;
    after = two.after ∙ ap (λ l. l ++ two.added) one.after ∙ append_assoc bs one.added two.added;
    many = omega (arith, length-append one.added two.added, one.many, two.many);
    empty = both-empty one.added two.added one.empty two.empty;
  }

  -- those that were added are empty
  pub grows-drop : (bs cs : List (Held X)) (m k : ℕ) → k ≡ length bs → Grows bs cs m → AreEmpty (drop k cs)
  grows-drop bs cs m k e grown = subst AreEmpty (sym (ap (drop k) grown.after ∙ drop_at bs grown.added k (sym e)))
      grown.empty

  -- those in front are the old ones
  pub grows-take : (bs cs : List (Held X)) (m k : ℕ) → k ≡ length bs → Grows bs cs m → take k cs ≡ bs
  grows-take bs cs m k e grown = ap (take k) grown.after ∙ take_at bs grown.added k (sym e)

  -- how many chunks there are then
  pub grows-length : (bs cs : List (Held X)) (m : ℕ) → Grows bs cs m → length cs ≡ length bs + m
  grows-length bs cs m grown = omega (arith, ap length grown.after, length-append bs grown.added, grown.many)

  -- the entries still fill them from the front
  pub grows-packed : (n : ℕ) (bs cs : List (Held X)) (m : ℕ) → Grows bs cs m → IsPacked n bs → IsPacked n cs
  grows-packed n bs cs m grown p = subst (IsPacked n) (sym grown.after) (packed-more n bs grown.added p grown.empty)

  -- and are the same
  pub grows-entries : (bs cs : List (Held X)) (m : ℕ) → Grows bs cs m → entries_of cs ≡ entries_of bs
  grows-entries bs cs m grown = ap entries_of grown.after ∙ entries-more bs grown.added grown.empty

  -- a chunk that changes and stays where it is moves none
  pub places-set : (cs : List (Held X)) (i : ℕ) (d c : Held X) → c.place ≡ (get_or cs i d).place
      → places_of (set cs i c) ≡ places_of cs
  places-set [] i d c e = refl
  places-set (b ∷ cs) zero d c e = ap (λ p. p ∷ places_of cs) e
  places-set (b ∷ cs) (suc i) d c e = ap (λ l. b.place ∷ l) (places-set cs i d c e)

  -- chunks that lie where others lay are as many
  pub length-placed : (cs ds : List (Held X)) → places_of ds ≡ places_of cs → length ds ≡ length cs
  length-placed cs ds e = omega (arith, ap length e, length-map cs (λ c. c.place), length-map ds (λ c. c.place))
