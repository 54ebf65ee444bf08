-- Bytes of a record of which one is changed.
use Rattle.std.proofs.Common.{◌≡◌, ◌⊎◌, inl, inr, ℕ, zero, suc, ◌+◌, ◌-◌, ◌<◌, ◌≤◌, Bool, true, false, not, List, [], ◌∷◌, length, take, set, Result, Ok, Err, refl, sym, ◌∙◌, ap, arith}
use Rattle.std.specs.Int.{w64, from_le_bytes}
use Rattle.std.specs.Prelude.{◌==◌, ◌&&◌, nat_le, nat_lt, slice_index, if◌then◌else◌, min}
use Rattle.std.proofs.Math.Seq.{take-set-lt}
use Rattle.std.proofs.lemmas.List.{get_or-set_other, get_or-set_same, get_or-take, length-set, length-take-le, take-set-le}
use Rattle.std.proofs.lemmas.Bool.{cases_lt, eqb-true, ltb-false}
use Rattle.std.proofs.lemmas.Nat.{le_bytes_8}
use Rattle.machine_record.specs.Bytes.{the_first_version, the_mark, the_version}
use Rattle.machine_record.specs.Checksum.{checksum, sum_of}
use Rattle.machine_record.specs.Reading.{body_in_bytes, bytes_asked, is_sealed, number_in_bytes, record_in_bytes, record_sized, unsealed}
use Rattle.machine_record.specs.Recording.{Recording}

-- a byte of bytes of which one is changed
other : (bs : List ℕ) (i x j : ℕ) → (j ≡ i → ⊥) → slice_index (set bs i x) j ≡ slice_index bs j
other bs i x j ne = get_or-set_other bs i j x 0 ne

same : (bs : List ℕ) (i x : ℕ) → i < length bs → slice_index (set bs i x) i ≡ x
same bs i x low = get_or-set_same bs i x 0 low

-- the sum
sum_changes : (bs : List ℕ) (i x : ℕ) → i < length bs → sum_of (set bs i x) + slice_index bs i ≡ sum_of bs + x
sum_changes [] i x low = absurd (omega (arith, low))
sum_changes (b ∷ bs) zero x low = omega arith
sum_changes (b ∷ bs) (suc i) x low = let rest = sum_changes bs i x (omega (arith, low)) in omega (arith, rest)

checksum_changes : (bs : List ℕ) (i x : ℕ) → i < length bs → slice_index bs i < 256 → x < 256 → (slice_index bs i ≡ x → ⊥) → checksum (set bs i x) ≡ checksum bs → ⊥
checksum_changes bs i x low small little ne e =
    let sums = sum_changes bs i x low in
    ne (omega (arith, sums, e, small, little))

-- a number of eight bytes
is_apart : (bs : List ℕ) (i at k : ℕ) → (i < at) ⊎ (at + 8 ≤ i) → k < 8 → at + k ≡ i → ⊥
is_apart bs i at k (inl before) low e = omega (arith, before, low, e)
is_apart bs i at k (inr behind) low e = omega (arith, behind, low, e)

number_stays : (bs : List ℕ) (i x at : ℕ) → (i < at) ⊎ (at + 8 ≤ i) → number_in_bytes (set bs i x) at ≡ number_in_bytes bs at
number_stays bs i x at apart =
    let away : (k : ℕ) → k < 8 → at + k ≡ i → ⊥ = λ k low e. is_apart bs i at k apart low e in
    let b0 = other bs i x at (λ e. away 0 (omega arith) (omega (arith, e))) in
    let b1 = other bs i x (at + 1) (away 1 (omega arith)) in
    let b2 = other bs i x (at + 2) (away 2 (omega arith)) in
    let b3 = other bs i x (at + 3) (away 3 (omega arith)) in
    let b4 = other bs i x (at + 4) (away 4 (omega arith)) in
    let b5 = other bs i x (at + 5) (away 5 (omega arith)) in
    let b6 = other bs i x (at + 6) (away 6 (omega arith)) in
    let b7 = other bs i x (at + 7) (away 7 (omega arith)) in
    λ i. from_le_bytes w64 (b0 i ∷ b1 i ∷ b2 i ∷ b3 i ∷ b4 i ∷ b5 i ∷ b6 i ∷ b7 i ∷ [])

abbrev eight : List ℕ → ℕ → List ℕ
eight bs at =
    slice_index bs at ∷ slice_index bs (at + 1) ∷ slice_index bs (at + 2) ∷ slice_index bs (at + 3)
    ∷ slice_index bs (at + 4) ∷ slice_index bs (at + 5) ∷ slice_index bs (at + 6) ∷ slice_index bs (at + 7) ∷ []

in_eight : (bs : List ℕ) (at k : ℕ) → k < 8 → slice_index (eight bs at) k ≡ slice_index bs (at + k)
in_eight bs at zero low = ap (slice_index bs) (let none : at ≡ at + 0 = omega arith in none)
in_eight bs at (suc zero) low = refl
in_eight bs at (suc (suc zero)) low = refl
in_eight bs at (suc (suc (suc zero))) low = refl
in_eight bs at (suc (suc (suc (suc zero)))) low = refl
in_eight bs at (suc (suc (suc (suc (suc zero))))) low = refl
in_eight bs at (suc (suc (suc (suc (suc (suc zero)))))) low = refl
in_eight bs at (suc (suc (suc (suc (suc (suc (suc zero))))))) low = refl
in_eight bs at (suc (suc (suc (suc (suc (suc (suc (suc k)))))))) low = absurd (omega (arith, low))

eight_small : (bs : List ℕ) (at : ℕ) → ((j : ℕ) → slice_index bs j < 256) → (k : ℕ) → slice_index (eight bs at) k < 256
eight_small bs at small zero = small at
eight_small bs at small (suc zero) = small (at + 1)
eight_small bs at small (suc (suc zero)) = small (at + 2)
eight_small bs at small (suc (suc (suc zero))) = small (at + 3)
eight_small bs at small (suc (suc (suc (suc zero)))) = small (at + 4)
eight_small bs at small (suc (suc (suc (suc (suc zero))))) = small (at + 5)
eight_small bs at small (suc (suc (suc (suc (suc (suc zero)))))) = small (at + 6)
eight_small bs at small (suc (suc (suc (suc (suc (suc (suc zero))))))) = small (at + 7)
eight_small bs at small (suc (suc (suc (suc (suc (suc (suc (suc k)))))))) = omega arith

eight_same : (bs cs : List ℕ) (at : ℕ) → ((j : ℕ) → slice_index bs j < 256) → ((j : ℕ) → slice_index cs j < 256)
    → number_in_bytes bs at ≡ number_in_bytes cs at → eight bs at ≡ eight cs at
eight_same bs cs at small little e =
    sym (le_bytes_8 (eight bs at) (number_in_bytes bs at) refl (eight_small bs at small) refl)
    ∙ le_bytes_8 (eight cs at) (number_in_bytes bs at) refl (eight_small cs at little) e

number_changes : (bs : List ℕ) (i x at : ℕ) → at ≤ i → i < at + 8 → i < length bs → ((j : ℕ) → slice_index bs j < 256)
    → ((j : ℕ) → slice_index (set bs i x) j < 256) → (slice_index bs i ≡ x → ⊥) → number_in_bytes (set bs i x) at ≡ number_in_bytes bs at → ⊥
number_changes bs i x at low high there small little ne e =
    let lists = eight_same (set bs i x) bs at little small e in
    let within : i - at < 8 = omega (arith, low, high) in
    let place : at + (i - at) ≡ i = omega (arith, low) in
    ne
    (sym
    (sym (same bs i x there)
    ∙ (sym (in_eight (set bs i x) at (i - at) within ∙ ap (slice_index (set bs i x)) place)
    ∙ (ap (λ (ys : List ℕ). slice_index ys (i - at)) lists ∙ (in_eight bs at (i - at) within ∙ ap (slice_index bs) place)))))

-- which of the four results of a reader is a record
picked : (a b c : Bool) (k m n : ℕ) (x : Result Recording ℕ) (r : Recording)
    → (if a then Err k else (if not b then Err m else (if not c then Err n else x))) ≡ Ok r → (a ≡ false) × (x ≡ Ok r)
picked true b c k m n x r h = absurd (cc)
picked false false c k m n x r h = absurd (cc)
picked false true false k m n x r h = absurd (cc)
picked false true true k m n x r h = (refl, h)

headed_long : (bs : List ℕ) (machine scripts rows actions : ℕ) (b : Bool) (r : Recording) → (bytes_asked machine scripts rows actions == length bs) ≡ b
    → (if b then Ok (record_sized bs machine scripts rows actions) else Err (min (bytes_asked machine scripts rows actions) (length bs))) ≡ Ok r
    → bytes_asked machine scripts rows actions ≡ length bs
headed_long bs machine scripts rows actions true r is h = eqb-true (bytes_asked machine scripts rows actions) (length bs) is
headed_long bs machine scripts rows actions false r is h = absurd (cc)

-- a body is as long as its head says
body_long : (bs : List ℕ) (version : ℕ) (r : Recording) → body_in_bytes version bs ≡ Ok r
    → bytes_asked (number_in_bytes bs 16) (number_in_bytes bs 24) (number_in_bytes bs 32) (number_in_bytes bs 40) ≡ length bs
body_long bs version r h =
    let found = picked (nat_lt (length bs) 48) (number_in_bytes bs 0 == the_mark) (number_in_bytes bs 8 == version) (length bs) 0 8 _ r h in
    headed_long bs (number_in_bytes bs 16) (number_in_bytes bs 24) (number_in_bytes bs 32) (number_in_bytes bs 40) _ r refl found.1

body_has_head : (bs : List ℕ) (version : ℕ) (r : Recording) → body_in_bytes version bs ≡ Ok r → 48 ≤ length bs
body_has_head bs version r h =
    let found = picked (nat_lt (length bs) 48) (number_in_bytes bs 0 == the_mark) (number_in_bytes bs 8 == version) (length bs) 0 8 _ r h in
    ltb-false (length bs) 48 found.0

-- the two readings of bytes
sealed_or_first : (b : Bool) (x y : Result Recording ℕ) (r : Recording) → (if b then x else y) ≡ Ok r
    → ((b ≡ true) × (x ≡ Ok r)) ⊎ ((b ≡ false) × (y ≡ Ok r))
sealed_or_first true x y r h = inl (refl, h)
sealed_or_first false x y r h = inr (refl, h)

unsealed_ok : (bs : List ℕ) (at : ℕ) (b : Bool) (r : Recording) → (number_in_bytes bs at == checksum (take at bs)) ≡ b
    → (if b then body_in_bytes the_version (take at bs) else Err at) ≡ Ok r
    → (number_in_bytes bs at ≡ checksum (take at bs)) × (body_in_bytes the_version (take at bs) ≡ Ok r)
unsealed_ok bs at true r is h = (eqb-true (number_in_bytes bs at) (checksum (take at bs)) is, h)
unsealed_ok bs at false r is h = absurd (cc)

-- a beginning
begins : (bs : List ℕ) (n j : ℕ) → j < n → slice_index (take n bs) j ≡ slice_index bs j
begins bs n j low = get_or-take n bs j 0 low

number_begins : (bs : List ℕ) (n at : ℕ) → at + 8 ≤ n → number_in_bytes (take n bs) at ≡ number_in_bytes bs at
number_begins bs n at low =
    let b0 = begins bs n at (omega (arith, low)) in
    let b1 = begins bs n (at + 1) (omega (arith, low)) in
    let b2 = begins bs n (at + 2) (omega (arith, low)) in
    let b3 = begins bs n (at + 3) (omega (arith, low)) in
    let b4 = begins bs n (at + 4) (omega (arith, low)) in
    let b5 = begins bs n (at + 5) (omega (arith, low)) in
    let b6 = begins bs n (at + 6) (omega (arith, low)) in
    let b7 = begins bs n (at + 7) (omega (arith, low)) in
    λ i. from_le_bytes w64 (b0 i ∷ b1 i ∷ b2 i ∷ b3 i ∷ b4 i ∷ b5 i ∷ b6 i ∷ b7 i ∷ [])

equal_or_below : (a b : ℕ) → (a < b) ⊎ (b ≤ a) → (b < a) ⊎ (a ≤ b) → (a ≡ b) ⊎ (a < b) ⊎ (b < a)
equal_or_below a b (inl below) other = inr (inl below)
equal_or_below a b (inr low) (inl above) = inr (inr above)
equal_or_below a b (inr low) (inr high) = inl (omega (arith, low, high))

cases_three : (a b : ℕ) → (a ≡ b) ⊎ (a < b) ⊎ (b < a)
cases_three a b = equal_or_below a b (cases_lt a b) (cases_lt b a)

module _ (bs : List ℕ) (r : Recording) (i x : ℕ) (h : record_in_bytes bs ≡ Ok r) (sealed : is_sealed bs ≡ true) (small : (j : ℕ) → slice_index bs j < 256)
    (there : i < length bs) (little : x < 256) (ne : slice_index bs i ≡ x → ⊥) where
  abbrev changed : List ℕ
  changed = set bs i x

  abbrev place : ℕ
  place = length bs - 8

  abbrev body : List ℕ
  body = take place bs

  read : unsealed bs place ≡ Ok r
  read = ap (λ (b : Bool). if b then unsealed bs place else body_in_bytes the_first_version bs) (sym sealed) ∙ h

  parts : (number_in_bytes bs place ≡ checksum body) × (body_in_bytes the_version body ≡ Ok r)
  parts = unsealed_ok bs place _ r refl read

  body_size : length body ≡ place
  body_size = length-take-le place bs (omega arith)

  long : 56 ≤ length bs
  long =
      let head = body_has_head body the_version r parts.1 in
      let size = body_size in
      omega (arith, head, size)

  size : length changed ≡ length bs
  size = length-set bs i x

  small_at : (j : ℕ) → (j ≡ i) ⊎ (j < i) ⊎ (i < j) → slice_index changed j < 256
  small_at j (inl e) =
      let is : slice_index changed j ≡ x = ap (slice_index changed) e ∙ same bs i x there in
      omega (arith, is, little)
  small_at j (inr (inl before)) = let is = other bs i x j (λ e. omega (arith, e, before)) in let so = small j in omega (arith, is, so)
  small_at j (inr (inr behind)) = let is = other bs i x j (λ e. omega (arith, e, behind)) in let so = small j in omega (arith, is, so)

  still_small : (j : ℕ) → slice_index changed j < 256
  still_small j = small_at j (cases_three j i)

  -- the checksum is another, or the number behind
  sum_fails : number_in_bytes changed place ≡ checksum (take place changed) → (i < place) ⊎ (place ≤ i) → ⊥
  sum_fails e (inl before) =
      let in_body : i < length body = (let size = body_size in omega (arith, size, before)) in
      let byte : slice_index body i ≡ slice_index bs i = begins bs place i before in
      checksum_changes body i x in_body (let so = small i in omega (arith, so, byte)) little (λ e. ne (sym byte ∙ e))
      (ap checksum (sym (take-set-lt place bs i x before)) ∙ (sym e ∙ (number_stays bs i x place (inl before) ∙ parts.0)))
  sum_fails e (inr behind) =
      number_changes bs i x place behind (omega (arith, there)) there small still_small ne
      (e ∙ (ap checksum (take-set-le place bs i x behind) ∙ sym parts.0))

  sealed_fails : (s : Recording) → unsealed changed (length changed - 8) ≡ Ok s → ⊥
  sealed_fails s read_so =
      let at_place : unsealed changed place ≡ Ok s = ap (λ (n : ℕ). unsealed changed (n - 8)) (sym size) ∙ read_so in
      let found = unsealed_ok changed place _ s refl at_place in
      sum_fails found.0 (cases_lt i place)

  -- what has no checksum is as long as its head says
  asked : (j : ℕ) → 16 ≤ j → j + 8 ≤ 48 → i < 16 → number_in_bytes changed j ≡ number_in_bytes body j
  asked j low high before = number_stays bs i x j (inl (omega (arith, low, before))) ∙ sym (number_begins bs place j (let l = long in omega (arith, l, high)))

  first_is_short : (s : Recording) → i < 16 → body_in_bytes the_first_version changed ≡ Ok s → ⊥
  first_is_short s before read_so =
      let mine = body_long changed the_first_version s read_so in
      let its = body_long body the_version r parts.1 in
      let a = asked 16 (omega arith) (omega arith) before in
      let b = asked 24 (omega arith) (omega arith) before in
      let c = asked 32 (omega arith) (omega arith) before in
      let d = asked 40 (omega arith) (omega arith) before in
      let l = long in
      let z = size in
      let y = body_size in
      omega (arith, mine, its, a, b, c, d, l, z, y)

  still_sealed : (i < 8) ⊎ (16 ≤ i) → is_sealed changed ≡ true
  still_sealed apart =
      let version : number_in_bytes changed 8 ≡ number_in_bytes bs 8 = number_stays bs i x 8 apart in
      (λ k. nat_le 16 (size k) && (version k == the_version)) ∙ sealed

  first_fails : (s : Recording) → is_sealed changed ≡ false → body_in_bytes the_first_version changed ≡ Ok s → (i < 16) ⊎ (16 ≤ i) → ⊥
  first_fails s without read_so (inl before) = first_is_short s before read_so
  first_fails s without read_so (inr behind) = let yes = still_sealed (inr behind) in absurd (cc)

  either_fails : (s : Recording) → ((is_sealed changed ≡ true) × (unsealed changed (length changed - 8) ≡ Ok s))
      ⊎ ((is_sealed changed ≡ false) × (body_in_bytes the_first_version changed ≡ Ok s)) → ⊥
  either_fails s (inl found) = sealed_fails s found.1
  either_fails s (inr found) = first_fails s found.0 found.1 (cases_lt i 16)

pub one_changed : (bs : List ℕ) (r s : Recording) (i x : ℕ) → record_in_bytes bs ≡ Ok r → is_sealed bs ≡ true → ((j : ℕ) → slice_index bs j < 256)
    → i < length bs → x < 256 → (slice_index bs i ≡ x → ⊥) → record_in_bytes (set bs i x) ≡ Ok s → ⊥
one_changed bs r s i x h sealed small there little ne read =
    either_fails bs r i x h sealed small there little ne s
    (sealed_or_first (is_sealed (set bs i x)) (unsealed (set bs i x) (length (set bs i x) - 8)) (body_in_bytes the_first_version (set bs i x)) s read)
