-- The headers of a main file, one after the other.
use Rattle.std.specs.Prelude.{◌≡◌, ℕ, ◌<◌, ◌≤◌, Bool, true, false, nat_lt, if◌then◌else◌, List, length, take, drop, Option, Some, None, IfSome, Result, Ok, Err, refl}
use Rattle.std.proofs.Common.{sym, ◌∙◌, ap, subst}
use Rattle.std.proofs.lemmas.Bool.{lt-ltb, le-ltb}
use Rattle.dk_types.specs.declared.damage.Damage.{Damage}
use Rattle.dk_types.specs.declared.damage.Damage.TheVariants.{Short}
use Rattle.dk_header.specs.declared.header.Current.{Current}
use Rattle.dk_header.specs.declared.header.TheConstants.{HEADER_BYTES}
use Rattle.dk_header.specs.Layout.{main_read, version_at, choice_of}
use Rattle.dk_block_file.specs.declared.layout.TheConstants.{HEADERS_BYTES}
use Rattle.dk_recover.specs.declared.refusal.OpenError.{OpenError}
use Rattle.dk_recover.specs.declared.refusal.OpenError.TheVariants.{NotADatabase, VersionUnknown, Damaged, DiskFault, OutOfMemory}
use Rattle.dk_recover.specs.Headers.{or_damaged, known_version, twins_read, twins_behind, headers_behind, headers_read, Opens}

abbrev pub itself : Current → Current
itself current = current

-- a refusal that is read is answered
refused : (reading : Result Current OpenError) (refusal : OpenError) → reading ≡ Err refusal
    → Opens itself reading (Err refusal)
refused reading NotADatabase is = is
refused reading (VersionUnknown found) is = is
refused reading (Damaged damage) is = is
refused reading DiskFault is = tt
refused reading OutOfMemory is = tt

otherwise : (b : Bool) → b ≡ false → (x y : Result Current OpenError) → (if b then x else y) ≡ y
otherwise true is x y = absurd cc
otherwise false is x y = refl

module _ (c : Option (List ℕ)) (have : ℕ) (long : IfSome c (λ main. length main ≡ have)) where
  pub twins_short : have < HEADERS_BYTES
      → IfSome c (λ main. Opens itself (or_damaged (twins_read main)) (Err (Damaged (Short HEADERS_BYTES have))))
  twins_short lt = at c long
    where
      at : (o : Option (List ℕ)) → IfSome o (λ main. length main ≡ have)
          → IfSome o (λ main. Opens itself (or_damaged (twins_read main)) (Err (Damaged (Short HEADERS_BYTES have))))
      at None long = tt
      at (Some main) long = rw (long, lt-ltb have HEADERS_BYTES lt) refl

  -- the two headers decide
  module _ (enough : HEADERS_BYTES ≤ have) (first second : List ℕ)
      (is_first : IfSome c (λ main. first ≡ take HEADER_BYTES (drop 4096 main)))
      (is_second : IfSome c (λ main. second ≡ take HEADER_BYTES (drop 8192 main))) where
    chosen : (result : Result Current Damage) → result ≡ choice_of first second
        → IfSome c (λ main. twins_read main ≡ result)
    chosen result is = at c long is_first is_second
      where
        at : (o : Option (List ℕ)) → IfSome o (λ main. length main ≡ have)
            → IfSome o (λ main. first ≡ take HEADER_BYTES (drop 4096 main))
            → IfSome o (λ main. second ≡ take HEADER_BYTES (drop 8192 main))
            → IfSome o (λ main. twins_read main ≡ result)
        at None long one two = tt
        at (Some main) long one two =
            rw (long, le-ltb have HEADERS_BYTES enough) (sym (is ∙ ap (λ (h : List ℕ). choice_of h second) one
            ∙ ap (λ (h : List ℕ). choice_of (take HEADER_BYTES (drop 4096 main)) h) two))

    pub twins_current : (current : Current) → Ok current ≡ choice_of first second
        → IfSome c (λ main. Opens itself (or_damaged (twins_read main)) (Ok current))
    twins_current current is = at c (chosen (Ok current) is)
      where
        at : (o : Option (List ℕ)) → IfSome o (λ main. twins_read main ≡ Ok current)
            → IfSome o (λ main. Opens itself (or_damaged (twins_read main)) (Ok current))
        at None h = tt
        at (Some main) h = ap (λ (r : Result Current Damage). or_damaged r) h

    pub twins_damaged : (damage : Damage) → Err damage ≡ choice_of first second
        → IfSome c (λ main. Opens itself (or_damaged (twins_read main)) (Err (Damaged damage)))
    twins_damaged damage is = at c (chosen (Err damage) is)
      where
        at : (o : Option (List ℕ)) → IfSome o (λ main. twins_read main ≡ Err damage)
            → IfSome o (λ main. Opens itself (or_damaged (twins_read main)) (Err (Damaged damage)))
        at None h = tt
        at (Some main) h = ap (λ (r : Result Current Damage). or_damaged r) h

  -- the main header is read first
  module _ (enough : HEADER_BYTES ≤ have) (header : List ℕ)
      (is_header : IfSome c (λ main. header ≡ take HEADER_BYTES (drop 0 main))) (result : Result ℕ OpenError)
      (is : result ≡ known_version (version_at header) (main_read header)) where
    pub version_refused : (refusal : OpenError) → result ≡ Err refusal
        → IfSome c (λ main. Opens itself (headers_read main) (Err refusal))
    version_refused refusal told = at c long is_header
      where
        at : (o : Option (List ℕ)) → IfSome o (λ main. length main ≡ have)
            → IfSome o (λ main. header ≡ take HEADER_BYTES (drop 0 main))
            → IfSome o (λ main. Opens itself (headers_read main) (Err refusal))
        at None long h = tt
        at (Some main) long h =
            let known : known_version (version_at (take HEADER_BYTES main)) (main_read (take HEADER_BYTES main))
            ≡ Err refusal = ap (λ (b : List ℕ). known_version (version_at b) (main_read b)) (sym h) ∙ sym is ∙ told in
            refused (headers_read main) refusal (rw (long, le-ltb have HEADER_BYTES enough, known) refl)

    pub version_known : (version : ℕ) → result ≡ Ok version → (r : Result Current OpenError)
        → IfSome c (λ main. Opens itself (or_damaged (twins_read main)) r)
        → IfSome c (λ main. Opens itself (headers_read main) r)
    version_known version told r twins = at c long is_header twins
      where
        at : (o : Option (List ℕ)) → IfSome o (λ main. length main ≡ have)
            → IfSome o (λ main. header ≡ take HEADER_BYTES (drop 0 main))
            → IfSome o (λ main. Opens itself (or_damaged (twins_read main)) r)
            → IfSome o (λ main. Opens itself (headers_read main) r)
        at None long h twins = tt
        at (Some main) long h twins =
            let known : known_version (version_at (take HEADER_BYTES main)) (main_read (take HEADER_BYTES main))
            ≡ Ok version = ap (λ (b : List ℕ). known_version (version_at b) (main_read b)) (sym h) ∙ sym is ∙ told in
            let same : headers_read main ≡ or_damaged (twins_read main) =
            otherwise (nat_lt (length main) HEADER_BYTES)
            (ap (λ (n : ℕ). nat_lt n HEADER_BYTES) long ∙ le-ltb have HEADER_BYTES enough) (Err NotADatabase)
            (headers_behind (take HEADER_BYTES main) main)
            ∙ ap (λ (v : Result ℕ OpenError). twins_behind v main) known in
            subst (λ (reading : Result Current OpenError). Opens itself reading r) (sym same) twins
