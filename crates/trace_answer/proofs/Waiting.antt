-- How many events come before each service, and how many services before each event.
use Rattle.std.proofs.Common.{◌≡◌, ◌⊎◌, inl, inr, ⊎_elim, ℕ, zero, suc, ◌+◌, ◌<◌, ◌≤◌, Bool, List, [], ◌∷◌, length, Some, refl, ap, arith}
use Rattle.std.proofs.Common.{slice_get}
use Rattle.std.specs.Prelude.{count_by, max, nat_le}
use Rattle.std.proofs.lemmas.Bool.{cases_lt, le-leb, lt-leb}
use Rattle.std.proofs.lemmas.Option.{same_Some}
use Rattle.one_order.proofs.Counting.{count_yes, count_no}
use Rattle.trace_answer.specs.Numbers.{waits_from, NeverFalls}

pub length-waits : (least : ℕ) (issues : List ℕ) → length (waits_from least issues) ≡ length issues
length-waits least [] = refl
length-waits least (i ∷ is) = ap suc (length-waits (max least (i + 1)) is)

-- none waits for less than the first
pub waits_low : (least : ℕ) (issues : List ℕ) (x w : ℕ) → slice_get (waits_from least issues) x ≡ Some w → least ≤ w
waits_low least [] x w h = absurd (cc)
waits_low least (i ∷ is) zero w h = let e : max least (i + 1) ≡ w = same_Some (max least (i + 1)) w h in omega arith
waits_low least (i ∷ is) (suc x) w h = let l : max least (i + 1) ≤ w = waits_low (max least (i + 1)) is x w h in omega arith

pub waits_rise : (least : ℕ) (issues : List ℕ) → NeverFalls (waits_from least issues)
waits_rise least [] x y v w l h g = absurd (cc)
waits_rise least (i ∷ is) zero zero v w l h g = let e : v ≡ w = cc in omega arith
waits_rise least (i ∷ is) zero (suc y) v w l h g =
    let e : max least (i + 1) ≡ v = same_Some (max least (i + 1)) v h in
    let k : max least (i + 1) ≤ w = waits_low (max least (i + 1)) is y w g in
    omega arith
waits_rise least (i ∷ is) (suc x) zero v w l h g = absurd (omega arith)
waits_rise least (i ∷ is) (suc x) (suc y) v w l h g = waits_rise (max least (i + 1)) is x y v w (omega arith) h g

-- each waits for the issue of its operation
pub waits_behind : (least : ℕ) (issues : List ℕ) (x i w : ℕ) → slice_get issues x ≡ Some i → slice_get (waits_from least issues) x ≡ Some w → i < w
waits_behind least [] x i w h g = absurd (cc)
waits_behind least (j ∷ js) zero i w h g =
    let same : j ≡ i = same_Some j i h in
    let e : max least (j + 1) ≡ w = same_Some (max least (j + 1)) w g in
    omega arith
waits_behind least (j ∷ js) (suc x) i w h g = waits_behind (max least (j + 1)) js x i w h g

-- and for no more than an issue up to there
abbrev pub WaitsFor : ℕ → List ℕ → ℕ → ℕ → Type 0
WaitsFor least issues x w = (w ≡ least) ⊎ ((y : ℕ) × (i : ℕ) × (y ≤ x) × (slice_get issues y ≡ Some i) × (w ≡ i + 1))

greater : (least i x w : ℕ) (is : List ℕ) → w ≡ max least (i + 1) → WaitsFor least (i ∷ is) x w
greater least i x w is e = ⊎_elim
    (λ (l : least < i + 1). inr (0, i, omega arith, refl, omega arith))
    (λ (g : i + 1 ≤ least). inl (omega arith))
    (cases_lt least (i + 1))

pub waits_for : (least : ℕ) (issues : List ℕ) (x w : ℕ) → slice_get (waits_from least issues) x ≡ Some w → WaitsFor least issues x w
waits_for least [] x w h = absurd (cc)
waits_for least (i ∷ is) zero w h =
    let e : max least (i + 1) ≡ w = same_Some (max least (i + 1)) w h in
    greater least i 0 w is (omega arith)
waits_for least (i ∷ is) (suc x) w h = ⊎_elim
    (λ (e : w ≡ max least (i + 1)). greater least i (suc x) w is e)
    (λ r. inr (suc r.0, r.1, (let l = r.2 in omega arith), r.3, r.4))
    (waits_for (max least (i + 1)) is x w h)

-- those that wait for at most so many events
abbrev pub within : ℕ → ℕ → Bool
within i w = nat_le w i

tail_rises : (v : ℕ) (vs : List ℕ) → NeverFalls (v ∷ vs) → NeverFalls vs
tail_rises v vs rise x y a b l h g = rise (suc x) (suc y) a b (omega arith) h g

pub count_none : (i : ℕ) (ws : List ℕ) → ((x w : ℕ) → slice_get ws x ≡ Some w → i < w) → count_by (within i) ws ≡ 0
count_none i [] h = refl
count_none i (w ∷ ws) h =
    omega (arith, count_no (within i) w ws (lt-leb w i (h 0 w refl)), count_none i ws (λ x. h (suc x)))

-- of numbers that never fall the first are within
pub count_front : (ws : List ℕ) (i x w : ℕ) → NeverFalls ws → slice_get ws x ≡ Some w → w ≤ i → x < count_by (within i) ws
count_front [] i x w rise h l = absurd (cc)
count_front (v ∷ vs) i zero w rise h l =
    let e : v ≡ w = same_Some v w h in
    omega (arith, count_yes (within i) v vs (le-leb v i (omega arith)))
count_front (v ∷ vs) i (suc x) w rise h l =
    let e : v ≤ w = rise 0 (suc x) v w (omega arith) refl h in
    omega (arith, count_yes (within i) v vs (le-leb v i (omega arith)), count_front vs i x w (tail_rises v vs rise) h l)

pub count_back : (ws : List ℕ) (i x w : ℕ) → NeverFalls ws → slice_get ws x ≡ Some w → i < w → count_by (within i) ws ≤ x
count_back [] i x w rise h l = absurd (cc)
count_back (v ∷ vs) i zero w rise h l =
    let e : v ≡ w = same_Some v w h in
    let none = count_none i (v ∷ vs) (λ y u g. let k : v ≤ u = rise 0 y v u (omega arith) refl g in omega arith) in
    omega (arith, none)
count_back (v ∷ vs) i (suc x) w rise h l =
    let rest = count_back vs i x w (tail_rises v vs rise) h l in
    ⊎_elim
    (λ (less : i < v). omega (arith, rest, count_no (within i) v vs (lt-leb v i less)))
    (λ (more : v ≤ i). omega (arith, rest, count_yes (within i) v vs (le-leb v i more)))
    (cases_lt i v)

-- so the first that are not within count those that are
pub split_count : (ws : List ℕ) (i k : ℕ) → k ≤ length ws → ((j w : ℕ) → j < k → slice_get ws j ≡ Some w → w ≤ i)
    → ((j w : ℕ) → k ≤ j → slice_get ws j ≡ Some w → i < w) → k ≡ count_by (within i) ws
split_count ws i zero l under over = omega (arith, count_none i ws (λ j w h. over j w (omega arith) h))
split_count [] i (suc k) l under over = absurd (omega arith)
split_count (w ∷ ws) i (suc k) l under over =
    omega (
      arith,
      count_yes (within i) w ws (le-leb w i (under 0 w (omega arith) refl)),
      split_count ws i k (omega arith) (λ j v m h. under (suc j) v (omega arith) h) (λ j v m h. over (suc j) v (omega arith) h),
    )

-- more events, no fewer services
pub count_more : (ws : List ℕ) (i j : ℕ) → i ≤ j → count_by (within i) ws ≤ count_by (within j) ws
count_more [] i j l = omega arith
count_more (w ∷ ws) i j l =
    let rest = count_more ws i j l in
    ⊎_elim
    (λ (out : i < w). ⊎_elim
    (λ (less : j < w). omega (arith, rest, count_no (within i) w ws (lt-leb w i out), count_no (within j) w ws (lt-leb w j less)))
    (λ (more : w ≤ j). omega (arith, rest, count_no (within i) w ws (lt-leb w i out), count_yes (within j) w ws (le-leb w j more)))
    (cases_lt j w))
    (λ (here : w ≤ i).
    omega (arith, rest, count_yes (within i) w ws (le-leb w i here), count_yes (within j) w ws (le-leb w j (omega arith))))
    (cases_lt i w)
