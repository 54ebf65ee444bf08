-- A line of lists goes as its lines of one pair each.
use Rattle.std.proofs.Common.{◌≡◌, ◌⊎◌, inl, inr, ℕ, ◌+◌, ◌-◌, ◌*◌, ◌<◌, ◌≤◌, ◌==◌, ◌&&◌, Bool, true, false, List, [], ◌∷◌, ◌++◌, length, map, suc, zero, refl, sym, ◌∙◌, ap, append_assoc, append-nil, subst, arith}
use Rattle.std.specs.Prelude.{Result, Ok, Err, Option, Some, None, nat_le, nat_lt, if◌then◌else◌, not}
use Rattle.std.specs.List.{list_all, range_with_len}
use Rattle.std.proofs.Math.Nat.{suc-mul}
use Rattle.std.proofs.lemmas.Bool.{cases_lt}
use Rattle.std.proofs.lemmas.Bool.Decides.{nat_tests}
use Rattle.std.proofs.lemmas.List.{length-append, length-map}
use Rattle.std.proofs.lemmas.List.Folds.{list_all-append}
use Rattle.lexer.specs.Numbers.{index_of}
use Rattle.lexer.specs.Outcome.{◌>>=◌, Makes}
use Rattle.network_judge.specs.declared.table.Join.{Join}
use Rattle.network_judge.specs.Table.{table_of}
use Rattle.network_text.specs.declared.reason.NetworkReason.{NetworkReason}
use Rattle.network_text.specs.declared.reason.NetworkReason.TheVariants as reason
use Rattle.network_text.specs.declared.all_pairs.End.TheVariants.{Sender, Receiver}
use Rattle.network_text.specs.declared.ranges.ChannelRange.{ChannelRange}
use Rattle.network_text.specs.AllPairs.{joins_from, every_join}
use Rattle.network_text.specs.Shapes.{unless}
use Rattle.network_text.specs.Ranges.{range_of_one, channels_between, channels_of, lacks_any, with_receivers, after_lists}
use Rattle.network_text.specs.Network.{Reading, reading_with, count_of, lacks, after_join, after_joins}
use Rattle.network_text.specs.Joins.{after_each_join}
use Rattle.network_text.proofs.Begun.{has_channel}
use Rattle.network_text.proofs.ListedRanges.{and_both, number_alone}

abbrev Read : Type 0
Read = Result Reading NetworkReason

-- with these pairs more
abbrev with_joins : Reading → List Join → Reading
with_joins r pairs = reading_with (table_of r.table.kinds (r.table.joins ++ pairs) r.table.choices) r.replies r.begun r.names r.flits

-- whether both ends are below a number
abbrev ends_below : ℕ → Join → Bool
ends_below n pair = nat_lt pair.from n && nat_lt pair.to n

low_of : (x n : ℕ) → nat_lt x n ≡ true → x < n
low_of x n is = grind (arith, nat_tests)

is_low : (x n : ℕ) → x < n → nat_lt x n ≡ true
is_low x n low = grind (arith, nat_tests)

both_pass : (b d : Bool) → b ≡ true → d ≡ true → (b && d) ≡ true
both_pass b d e f = rw e f

-- pairs one after another, with room for all or not
fits : (n m : ℕ) → n ≤ m → nat_le n m ≡ true
fits n m low = grind (arith, nat_tests)

passes : (n m : ℕ) → m < n → nat_le n m ≡ false
passes n m high = grind (arith, nat_tests)

pair_is : (r : Reading) (i j : ℕ) → i < count_of r → j < count_of r
    → after_join r i j ≡ (if nat_le 4194304 (length r.table.joins) then Err reason.JoinsLimits else Ok (with_joins r (record { from = i; to = j } ∷ [])))
pair_is r i j low between = rw (has_channel r 1 i low) (rw (has_channel r 2 j between) refl)

-- what pairs make that are joined at once
abbrev at_once : Reading → List Join → Read
at_once r pairs = if nat_le (length r.table.joins + length pairs) 4194304 then Ok (with_joins r pairs) else Err reason.JoinsLimits

-- the first of them is joined, and then the others
step_by : (pair : Join) (pairs : List Join) (r : Reading)
    → ((q : Reading) → list_all (ends_below (count_of q)) pairs ≡ true → length q.table.joins ≤ 4194304 → at_once q pairs ≡ after_each_join q pairs)
    → list_all (ends_below (count_of r)) (pair ∷ pairs) ≡ true → at_once r (pair ∷ pairs) ≡ after_each_join r (pair ∷ pairs)
step_by pair pairs r behind below =
    let l : ℕ = length r.table.joins in
    let q : Reading = with_joins r (pair ∷ []) in
    let both = and_both (ends_below (count_of r) pair) (list_all (ends_below (count_of r)) pairs) below in
    let ends = and_both (nat_lt pair.from (count_of r)) (nat_lt pair.to (count_of r)) both.0 in
    let one = pair_is r pair.from pair.to (low_of pair.from (count_of r) ends.0) (low_of pair.to (count_of r) ends.1) in
    let size = length-append r.table.joins (pair ∷ []) in
    elim (cases_lt l 4194304) [
      | inl room ↦
          let more : l + length (pair ∷ pairs) ≡ length q.table.joins + length pairs = omega arith in
          ap (λ n. if nat_le n 4194304 then Ok (with_joins r (pair ∷ pairs)) else Err reason.JoinsLimits) more
          ∙ ap (λ (js : List Join). if nat_le (length q.table.joins + length pairs) 4194304
          then Ok (reading_with (table_of r.table.kinds js r.table.choices) r.replies r.begun r.names r.flits) else Err reason.JoinsLimits)
          (sym (append_assoc r.table.joins (pair ∷ []) pairs))
          ∙ behind q both.1 (omega arith)
          ∙ sym (ap (λ (m : Read). m >>= λ next. after_each_join next pairs)
          (one ∙ ap (λ b. if b then Err reason.JoinsLimits else Ok q) (passes 4194304 l room)))
      | inr full ↦
          ap (λ b. if b then Ok (with_joins r (pair ∷ pairs)) else Err reason.JoinsLimits) (passes (l + length (pair ∷ pairs)) 4194304 (omega arith))
          ∙ sym (ap (λ (m : Read). m >>= λ next. after_each_join next pairs)
          (one ∙ ap (λ b. if b then Err reason.JoinsLimits else Ok q) (fits 4194304 l full)))
    ]

each_by : (pairs : List Join) (r : Reading) → list_all (ends_below (count_of r)) pairs ≡ true → length r.table.joins ≤ 4194304
    → at_once r pairs ≡ after_each_join r pairs
each_by [] r below few =
    ap (λ b. if b then Ok (with_joins r []) else Err reason.JoinsLimits) (fits (length r.table.joins + 0) 4194304 (omega arith))
    ∙ ap (λ (js : List Join). Ok (reading_with (table_of r.table.kinds js r.table.choices) r.replies r.begun r.names r.flits)) (append-nil r.table.joins)
each_by (pair ∷ pairs) r below few = step_by pair pairs r (each_by pairs) below

-- each pair of channels below a number has its ends below it
joins_below : (n i : ℕ) (js : List ℕ) → nat_lt i n ≡ true → list_all (λ x. nat_lt x n) js ≡ true → list_all (ends_below n) (joins_from js i) ≡ true
joins_below n i [] low all = refl
joins_below n i (j ∷ js) low all =
    let both = and_both (nat_lt j n) (list_all (λ x. nat_lt x n) js) all in
    both_pass _ _ (both_pass _ _ low both.0) (joins_below n i js low both.1)

every_below : (n : ℕ) (is js : List ℕ) → list_all (λ x. nat_lt x n) is ≡ true → list_all (λ x. nat_lt x n) js ≡ true
    → list_all (ends_below n) (every_join is js) ≡ true
every_below n [] js first second = refl
every_below n (i ∷ is) js first second =
    let both = and_both (nat_lt i n) (list_all (λ x. nat_lt x n) is) first in
    list_all-append (ends_below n) (joins_from js i) (every_join is js)
    ∙ both_pass _ _ (joins_below n i js both.0 second) (every_below n is js both.1 second)

range_below : (n a m : ℕ) → (0 < m → a + m ≤ n) → list_all (λ x. nat_lt x n) (range_with_len a m) ≡ true
range_below n a zero within = refl
range_below n a (suc m) within =
    let all : a + suc m ≤ n = within (omega arith) in
    both_pass _ _ (is_low a n (omega arith)) (range_below n (a + 1) m (λ some. omega arith))

channels_below : (n : ℕ) (ranges : List ChannelRange) → list_all (λ (range : ChannelRange). nat_lt range.last n) ranges ≡ true
    → list_all (λ x. nat_lt x n) (channels_of ranges) ≡ true
channels_below n [] all = refl
channels_below n (range ∷ ranges) all =
    let both = and_both (nat_lt range.last n) (list_all (λ (range : ChannelRange). nat_lt range.last n) ranges) all in
    let low = low_of range.last n both.0 in
    list_all-append (λ x. nat_lt x n) (channels_between range) (channels_of ranges)
    ∙ both_pass _ _ (range_below n range.first (range.last + 1 - range.first) (λ some. omega arith)) (channels_below n ranges both.1)

none_by : (a b : Bool) (e f : NetworkReason) → (if a then Some e else (if b then None else Some f)) ≡ None → b ≡ true
none_by true b e f is = absurd (cc)
none_by false true e f is = refl
none_by false false e f is = absurd (cc)

-- how many pairs there are
pairs_count : (is js : List ℕ) → length (every_join is js) ≡ length is * length js
pairs_count [] js = omega arith
pairs_count (i ∷ is) js =
    omega (
      arith,
      length-append (joins_from js i) (every_join is js),
      length-map {B = Join} js (λ j. record { from = i; to = j }),
      pairs_count is js,
      suc-mul (length is) (length js),
    )

pub joined_each : (r : Reading) (is js : List ChannelRange) → lacks_any (count_of r) 1 is ≡ None → lacks_any (count_of r) 2 js ≡ None → length r.table.joins ≤ 4194304
    → after_joins r is js ≡ after_each_join r (every_join (channels_of is) (channels_of js))
joined_each r is js first second few =
    let n : ℕ = count_of r in
    let pairs : List Join = every_join (channels_of is) (channels_of js) in
    let made : Read = if nat_le (length r.table.joins + length (channels_of is) * length (channels_of js)) 4194304
    then Ok (with_joins r pairs) else Err reason.JoinsLimits in
    let senders = channels_below n is (none_by (n == 0) _ _ _ first) in
    let receivers = channels_below n js (none_by (n == 0) _ _ _ second) in
    ap (λ (o : Option NetworkReason). unless o (unless (lacks_any (count_of r) 2 js) made)) first
    ∙ ap (λ (o : Option NetworkReason). unless o made) second
    ∙ ap (λ m. if nat_le (length r.table.joins + m) 4194304 then Ok (with_joins r pairs) else Err reason.JoinsLimits)
    (sym (pairs_count (channels_of is) (channels_of js)))
    ∙ each_by pairs r (every_below n (channels_of is) (channels_of js) senders receivers) few

-- two numbers are one pair
one_channel : (i : ℕ) → channels_of (range_of_one i ∷ []) ≡ i ∷ []
one_channel i =
    let one : i + 1 - i ≡ 1 = omega arith in
    ap (λ n. range_with_len i n ++ []) one

lacks_by : (a b : Bool) (e f : NetworkReason)
    → (if a then Some e else (if b && true then None else Some f)) ≡ (if a then Some e else (if not b then Some f else None))
lacks_by true b e f = refl
lacks_by false true e f = refl
lacks_by false false e f = refl

lacks_one : (r : Reading) (place x : ℕ) → lacks_any (count_of r) place (range_of_one x ∷ []) ≡ lacks r place x
lacks_one r place x = lacks_by (count_of r == 0) (nat_lt x (count_of r)) reason.ChannelsFirst (reason.ChannelLimits place (count_of r))

room_by : (n : ℕ) (x y : Read) → (if nat_le (n + 1) 4194304 then x else y) ≡ (if nat_le 4194304 n then y else x)
room_by n x y = elim (cases_lt n 4194304) [
  | inl low ↦
      ap (λ b. if b then x else y) (fits (n + 1) 4194304 (omega arith)) ∙ sym (ap (λ b. if b then y else x) (passes 4194304 n low))
  | inr full ↦
      ap (λ b. if b then x else y) (passes (n + 1) 4194304 (omega arith)) ∙ sym (ap (λ b. if b then y else x) (fits 4194304 n full))
]

-- with these channels
abbrev room_for : Reading → List ℕ → List ℕ → Read
room_for r is js = if nat_le (length r.table.joins + length is * length js) 4194304 then Ok (with_joins r (every_join is js)) else Err reason.JoinsLimits

one_pair : (r : Reading) (i j : ℕ) → after_joins r (range_of_one i ∷ []) (range_of_one j ∷ []) ≡ after_join r i j
one_pair r i j =
    let last = room_by (length r.table.joins) (Ok (with_joins r (record { from = i; to = j } ∷ []))) (Err reason.JoinsLimits) in
    let room = ap (λ is. room_for r is (channels_of (range_of_one j ∷ []))) (one_channel i) ∙ ap (room_for r (i ∷ [])) (one_channel j) ∙ last in
    ap (λ (o : Option NetworkReason). unless o (unless (lacks_any (count_of r) 2 (range_of_one j ∷ [])) (room_for r (channels_of (range_of_one i ∷ [])) (channels_of (range_of_one j ∷ [])))))
    (lacks_one r 1 i)
    ∙ ap (λ (o : Option NetworkReason). unless (lacks r 1 i) (unless o (room_for r (channels_of (range_of_one i ∷ [])) (channels_of (range_of_one j ∷ [])))))
    (lacks_one r 2 j)
    ∙ ap (λ (m : Read). unless (lacks r 1 i) (unless (lacks r 2 j) m)) room

pub two_numbers : (r : Reading) (a b : List ℕ) (i j : ℕ) → index_of a ≡ Some i → index_of b ≡ Some j
    → after_lists r.table.kinds (after_joins r) a b ≡ after_join r i j
two_numbers r a b i j first second =
    ap (λ (m : Result (List ChannelRange) NetworkReason). m >>= with_receivers r.table.kinds (after_joins r) b)
    (number_alone r.table.kinds Sender 1 a i first)
    ∙ ap (λ (m : Result (List ChannelRange) NetworkReason). m >>= after_joins r (range_of_one i ∷ []))
    (number_alone r.table.kinds Receiver 2 b j second)
    ∙ one_pair r i j

pub numbers_joined : {Y : Type 0} (r new : Reading) (a b : List ℕ) (i j : ℕ) (result : Result Y NetworkReason) → index_of a ≡ Some i
    → index_of b ≡ Some j → Makes reason.Memory new result (after_join r i j)
    → Makes reason.Memory new result (after_lists r.table.kinds (after_joins r) a b)
numbers_joined r new a b i j result first second makes =
    subst (Makes reason.Memory new result) (sym (two_numbers r a b i j first second)) makes

-- a list that is refused, or taken
pub list_refused : {A : Type 0} (m : Result A NetworkReason) (f : A → Read) (e : NetworkReason) → (e ≡ reason.Memory) ⊎ (m ≡ Err e)
    → (e ≡ reason.Memory) ⊎ ((m >>= f) ≡ Err e)
list_refused m f e found = elim found [
  | inl none ↦ inl none
  | inr bad ↦ inr (ap (λ o. o >>= f) bad)
]

pub list_taken : {A Y : Type 0} (m : Result A NetworkReason) (x : A) (f : A → Read) (new : Reading) (result : Result Y NetworkReason) → m ≡ Ok x
    → Makes reason.Memory new result (f x) → Makes reason.Memory new result (m >>= f)
list_taken m x f new result is makes = subst (λ o. Makes reason.Memory new result (o >>= f)) (sym is) makes
