-- The bytes of a record are read back as the record.
use Rattle.std.proofs.Common.{◌≡◌, ℕ, suc, ◌+◌, ◌-◌, ◌*◌, ◌<◌, ◌≤◌, ◌^◌, List, [], ◌∷◌, ◌++◌, length, take, drop, Ok, refl, sym, ◌∙◌, ap, arith, append_assoc, length-append}
use Rattle.std.specs.Prelude.{◌==◌, ◌&&◌, Bool, true, false, not, nat_lt, slice_index, All, if◌then◌else◌, min, Err}
use Rattle.std.specs.Int.{w32, w64, from_le_bytes}
use Rattle.std.specs.List.{flat_map}
use Rattle.std.proofs.lemmas.List.{append-nil, get_or-append-add, take_at, drop_at, drop-drop}
use Rattle.std.proofs.lemmas.Bool.{eq-eqb, le-leb, le-ltb}
use Rattle.std.proofs.lemmas.Nat.{from_le_bytes-to_le_bytes_4, from_le_bytes-to_le_bytes_8}
use Rattle.machine_record.specs.declared.row.LineRow.{LineRow}
use Rattle.machine_record.specs.Bytes.{body_bytes, half_bytes, head_bytes, number_bytes, record_bytes, row_bytes, the_first_version, the_mark, the_version}
use Rattle.machine_record.specs.Checksum.{checksum}
use Rattle.machine_record.specs.Reading.{actions_from, body_in_bytes, bytes_asked, half_in_bytes, is_sealed, number_in_bytes, record_in_bytes, record_headed, record_sized}
use Rattle.machine_record.specs.Reading.{row_in_bytes, rows_from, unsealed}
use Rattle.machine_record.specs.Recording.{Recording}
use Rattle.machine_record.specs.Widths.{HasWidths, IsHalf, IsRow}

-- a byte behind others
behind : (pre ys : List ℕ) (at k : ℕ) → at ≡ length pre + k → slice_index (pre ++ ys) at ≡ slice_index ys k
behind pre ys at k e = ap (slice_index (pre ++ ys)) e ∙ get_or-append-add pre ys k 0

-- a number behind others
half_behind : (pre ys : List ℕ) (at k : ℕ) → at ≡ length pre + k → half_in_bytes (pre ++ ys) at ≡ half_in_bytes ys k
half_behind pre ys at k e =
    let b0 = behind pre ys at k e in
    let b1 = behind pre ys (at + 1) (k + 1) (omega (arith, e)) in
    let b2 = behind pre ys (at + 2) (k + 2) (omega (arith, e)) in
    let b3 = behind pre ys (at + 3) (k + 3) (omega (arith, e)) in
    λ i. from_le_bytes w32 (b0 i ∷ b1 i ∷ b2 i ∷ b3 i ∷ [])

number_behind : (pre ys : List ℕ) (at k : ℕ) → at ≡ length pre + k → number_in_bytes (pre ++ ys) at ≡ number_in_bytes ys k
number_behind pre ys at k e =
    let b0 = behind pre ys at k e in
    let b1 = behind pre ys (at + 1) (k + 1) (omega (arith, e)) in
    let b2 = behind pre ys (at + 2) (k + 2) (omega (arith, e)) in
    let b3 = behind pre ys (at + 3) (k + 3) (omega (arith, e)) in
    let b4 = behind pre ys (at + 4) (k + 4) (omega (arith, e)) in
    let b5 = behind pre ys (at + 5) (k + 5) (omega (arith, e)) in
    let b6 = behind pre ys (at + 6) (k + 6) (omega (arith, e)) in
    let b7 = behind pre ys (at + 7) (k + 7) (omega (arith, e)) in
    λ i. from_le_bytes w64 (b0 i ∷ b1 i ∷ b2 i ∷ b3 i ∷ b4 i ∷ b5 i ∷ b6 i ∷ b7 i ∷ [])

-- a row
row_first : (row : LineRow) (ys : List ℕ) → IsRow row → row_in_bytes (row_bytes row ++ ys) 0 ≡ row
row_first row ys h = λ i. record {
  processor = from_le_bytes-to_le_bytes_4 row.processor h.processor i;
  operation = from_le_bytes-to_le_bytes_4 row.operation h.operation i;
  address = from_le_bytes-to_le_bytes_4 row.address h.address i;
  lasts = from_le_bytes-to_le_bytes_4 row.lasts h.lasts i;
  first = from_le_bytes-to_le_bytes_8 row.first h.first i;
  second = from_le_bytes-to_le_bytes_8 row.second h.second i;
}

row_behind : (pre ys : List ℕ) (at : ℕ) → at ≡ length pre → row_in_bytes (pre ++ ys) at ≡ row_in_bytes ys 0
row_behind pre ys at e =
    let h0 = half_behind pre ys at 0 (omega (arith, e)) in
    let h1 = half_behind pre ys (at + 4) 4 (omega (arith, e)) in
    let h2 = half_behind pre ys (at + 8) 8 (omega (arith, e)) in
    let h3 = half_behind pre ys (at + 12) 12 (omega (arith, e)) in
    let n0 = number_behind pre ys (at + 16) 16 (omega (arith, e)) in
    let n1 = number_behind pre ys (at + 24) 24 (omega (arith, e)) in
    λ i. record { processor = h0 i; operation = h1 i; address = h2 i; lasts = h3 i; first = n0 i; second = n1 i }

-- the rest of a list of which all is so
rest_all : {X : Type 0} (P : X → Type 0) (x : X) (xs : List X) → All P (x ∷ xs) → All P xs
rest_all P x xs h k d low = h (suc k) d (omega (arith, low))

first_all : {X : Type 0} (P : X → Type 0) (x : X) (xs : List X) → All P (x ∷ xs) → P x
first_all P x xs h = h 0 x (omega arith)

-- all rows behind others
rows_read : (rows : List LineRow) (pre post : List ℕ) (at : ℕ) → at ≡ length pre → All IsRow rows
    → rows_from (pre ++ (flat_map row_bytes rows ++ post)) at (length rows) ≡ rows
rows_read [] pre post at e h = refl
rows_read (row ∷ rows) pre post at e h =
    let rest : List ℕ = flat_map row_bytes rows ++ post in
    let whole : pre ++ ((row_bytes row ++ flat_map row_bytes rows) ++ post) ≡ pre ++ (row_bytes row ++ rest) =
    ap (λ (zs : List ℕ). pre ++ zs) (append_assoc (row_bytes row) (flat_map row_bytes rows) post) in
    let here : row_in_bytes (pre ++ (row_bytes row ++ rest)) at ≡ row =
    row_behind pre (row_bytes row ++ rest) at e ∙ row_first row rest (first_all IsRow row rows h) in
    let size : at + 32 ≡ length (pre ++ row_bytes row) = (let l = length-append pre (row_bytes row) in omega (arith, l, e)) in
    let there : rows_from (pre ++ (row_bytes row ++ rest)) (at + 32) (length rows) ≡ rows =
    ap (λ (zs : List ℕ). rows_from zs (at + 32) (length rows)) (sym (append_assoc pre (row_bytes row) rest))
    ∙ rows_read rows (pre ++ row_bytes row) post (at + 32) size (rest_all IsRow row rows h) in
    ap (λ (zs : List ℕ). rows_from zs at (suc (length rows))) whole ∙ (λ i. here i ∷ there i)

half_first : (n : ℕ) (ys : List ℕ) → n < 2 ^ 32 → half_in_bytes (half_bytes n ++ ys) 0 ≡ n
half_first n ys h = from_le_bytes-to_le_bytes_4 n h

actions_read : (actions : List ℕ) (pre post : List ℕ) (at : ℕ) → at ≡ length pre → All IsHalf actions
    → actions_from (pre ++ (flat_map half_bytes actions ++ post)) at (length actions) ≡ actions
actions_read [] pre post at e h = refl
actions_read (n ∷ actions) pre post at e h =
    let rest : List ℕ = flat_map half_bytes actions ++ post in
    let whole : pre ++ ((half_bytes n ++ flat_map half_bytes actions) ++ post) ≡ pre ++ (half_bytes n ++ rest) =
    ap (λ (zs : List ℕ). pre ++ zs) (append_assoc (half_bytes n) (flat_map half_bytes actions) post) in
    let here : half_in_bytes (pre ++ (half_bytes n ++ rest)) at ≡ n =
    half_behind pre (half_bytes n ++ rest) at 0 (omega (arith, e)) ∙ half_first n rest (first_all IsHalf n actions h) in
    let size : at + 4 ≡ length (pre ++ half_bytes n) = (let l = length-append pre (half_bytes n) in omega (arith, l, e)) in
    let there : actions_from (pre ++ (half_bytes n ++ rest)) (at + 4) (length actions) ≡ actions =
    ap (λ (zs : List ℕ). actions_from zs (at + 4) (length actions)) (sym (append_assoc pre (half_bytes n) rest))
    ∙ actions_read actions (pre ++ half_bytes n) post (at + 4) size (rest_all IsHalf n actions h) in
    ap (λ (zs : List ℕ). actions_from zs at (suc (length actions))) whole ∙ (λ i. here i ∷ there i)

-- how many bytes they have
rows_length : (rows : List LineRow) → length (flat_map row_bytes rows) ≡ 32 * length rows
rows_length [] = refl
rows_length (row ∷ rows) =
    let l = length-append (row_bytes row) (flat_map row_bytes rows) in
    let more = rows_length rows in
    omega (arith, l, more)

actions_length : (actions : List ℕ) → length (flat_map half_bytes actions) ≡ 4 * length actions
actions_length [] = refl
actions_length (n ∷ actions) =
    let l = length-append (half_bytes n) (flat_map half_bytes actions) in
    let more = actions_length actions in
    omega (arith, l, more)

-- what is read where a head is right
pub picks : {X : Type 0} (a b c : Bool) (x y z w : X) → a ≡ false → b ≡ true → c ≡ true → (if a then x else (if not b then y else (if not c then z else w))) ≡ w
picks false true true x y z w ha hb hc = refl
picks true b c x y z w ha hb hc = absurd (cc)
picks false false c x y z w ha hb hc = absurd (cc)
picks false true false x y z w ha hb hc = absurd (cc)

module _ (r : Recording) (h : HasWidths r) where
  abbrev rows_bytes : List ℕ
  rows_bytes = flat_map row_bytes r.rows

  abbrev actions_bytes : List ℕ
  actions_bytes = flat_map half_bytes r.actions

  abbrev head : List ℕ
  head = head_bytes r

  abbrev whole : List ℕ
  whole = body_bytes r

  abbrev before_rows : List ℕ
  before_rows = (head ++ r.machine) ++ r.scripts

  before_size : length before_rows ≡ 48 + length r.machine + length r.scripts
  before_size =
      let a = length-append (head ++ r.machine) r.scripts in
      let b = length-append head r.machine in
      let c : length head ≡ 48 = refl in
      omega (arith, a, b, c)

  size : length whole ≡ bytes_asked (length r.machine) (length r.scripts) (length r.rows) (length r.actions)
  size =
      let a = length-append (before_rows ++ rows_bytes) actions_bytes in
      let b = length-append before_rows rows_bytes in
      let c = before_size in
      let d = rows_length r.rows in
      let e = actions_length r.actions in
      omega (arith, a, b, c, d, e)

  at_rows : whole ≡ before_rows ++ (rows_bytes ++ actions_bytes)
  at_rows = append_assoc before_rows rows_bytes actions_bytes

  at_actions : whole ≡ (before_rows ++ rows_bytes) ++ (actions_bytes ++ [])
  at_actions = ap (λ (zs : List ℕ). (before_rows ++ rows_bytes) ++ zs) (sym (append-nil actions_bytes))

  in_turn : whole ≡ head ++ (r.machine ++ (r.scripts ++ (rows_bytes ++ actions_bytes)))
  in_turn =
      at_rows
      ∙ (append_assoc (head ++ r.machine) r.scripts (rows_bytes ++ actions_bytes)
      ∙ append_assoc head r.machine (r.scripts ++ (rows_bytes ++ actions_bytes)))

  behind_head : drop 48 whole ≡ r.machine ++ (r.scripts ++ (rows_bytes ++ actions_bytes))
  behind_head = ap (drop 48) in_turn ∙ drop_at head (r.machine ++ (r.scripts ++ (rows_bytes ++ actions_bytes))) 48 refl

  machine_is : take (length r.machine) (drop 48 whole) ≡ r.machine
  machine_is = ap (take (length r.machine)) behind_head ∙ take_at r.machine (r.scripts ++ (rows_bytes ++ actions_bytes)) (length r.machine) refl

  scripts_is : take (length r.scripts) (drop (48 + length r.machine) whole) ≡ r.scripts
  scripts_is =
      ap (take (length r.scripts)) (sym (drop-drop (length r.machine) 48 whole))
      ∙ (ap (λ (zs : List ℕ). take (length r.scripts) (drop (length r.machine) zs)) behind_head
      ∙ (ap (take (length r.scripts)) (drop_at r.machine (r.scripts ++ (rows_bytes ++ actions_bytes)) (length r.machine) refl)
      ∙ take_at r.scripts (rows_bytes ++ actions_bytes) (length r.scripts) refl))

  rows_is : rows_from whole (48 + length r.machine + length r.scripts) (length r.rows) ≡ r.rows
  rows_is =
      ap (λ (zs : List ℕ). rows_from zs (48 + length r.machine + length r.scripts) (length r.rows)) at_rows
      ∙ rows_read r.rows before_rows actions_bytes (48 + length r.machine + length r.scripts) (sym before_size) h.rows

  actions_at : 48 + length r.machine + length r.scripts + 32 * length r.rows ≡ length (before_rows ++ rows_bytes)
  actions_at =
      let a = length-append before_rows rows_bytes in
      let b = rows_length r.rows in
      let c = before_size in
      omega (arith, a, b, c)

  actions_is : actions_from whole (48 + length r.machine + length r.scripts + 32 * length r.rows) (length r.actions) ≡ r.actions
  actions_is =
      ap (λ (zs : List ℕ). actions_from zs (48 + length r.machine + length r.scripts + 32 * length r.rows) (length r.actions)) at_actions
      ∙ actions_read r.actions (before_rows ++ rows_bytes) [] (48 + length r.machine + length r.scripts + 32 * length r.rows) actions_at h.actions

  sized : record_sized whole (length r.machine) (length r.scripts) (length r.rows) (length r.actions) ≡ r
  sized = λ i. record { machine = machine_is i; scripts = scripts_is i; rows = rows_is i; actions = actions_is i }

  headed : record_headed whole (length r.machine) (length r.scripts) (length r.rows) (length r.actions) ≡ Ok r
  headed =
      ap (λ (b : Bool). if b then Ok (record_sized whole (length r.machine) (length r.scripts) (length r.rows) (length r.actions))
      else Err (min (bytes_asked (length r.machine) (length r.scripts) (length r.rows) (length r.actions)) (length whole)))
      (eq-eqb (bytes_asked (length r.machine) (length r.scripts) (length r.rows) (length r.actions)) (length whole) (sym size))
      ∙ ap Ok sized

  numbered : record_headed whole (number_in_bytes whole 16) (number_in_bytes whole 24) (number_in_bytes whole 32) (number_in_bytes whole 40) ≡ Ok r
  numbered =
      (λ i. record_headed whole (from_le_bytes-to_le_bytes_8 (length r.machine) h.lengths.machine i) (from_le_bytes-to_le_bytes_8 (length r.scripts) h.lengths.scripts i)
      (from_le_bytes-to_le_bytes_8 (length r.rows) h.lengths.rows i) (from_le_bytes-to_le_bytes_8 (length r.actions) h.lengths.actions i))
      ∙ headed

  long : nat_lt (length whole) 48 ≡ false
  long = le-ltb (length whole) 48 (let s = size in omega (arith, s))

  marked : (number_in_bytes whole 0 == the_mark) ≡ true
  marked = eq-eqb (number_in_bytes whole 0) the_mark (from_le_bytes-to_le_bytes_8 the_mark (omega arith))

  versioned : (number_in_bytes whole 8 == the_version) ≡ true
  versioned = eq-eqb (number_in_bytes whole 8) the_version (from_le_bytes-to_le_bytes_8 the_version (omega arith))

  body_back : body_in_bytes the_version whole ≡ Ok r
  body_back = picks (nat_lt (length whole) 48) (number_in_bytes whole 0 == the_mark) (number_in_bytes whole 8 == the_version) (Err (length whole)) (Err 0) (Err 8)
      (record_headed whole (number_in_bytes whole 16) (number_in_bytes whole 24) (number_in_bytes whole 32) (number_in_bytes whole 40)) long marked versioned ∙ numbered

  -- with the checksum
  abbrev bytes : List ℕ
  bytes = record_bytes r

  bytes_size : length bytes - 8 ≡ length whole
  bytes_size =
      let a = length-append whole (number_bytes (checksum whole)) in
      let b : length (number_bytes (checksum whole)) ≡ 8 = refl in
      omega (arith, a, b)

  few : checksum whole < 2 ^ 64
  few = omega arith

  sum_back : number_in_bytes bytes (length whole) ≡ checksum whole
  sum_back =
      number_behind whole (number_bytes (checksum whole)) (length whole) 0 (omega arith)
      ∙ from_le_bytes-to_le_bytes_8 (checksum whole) few

  body_is : take (length whole) bytes ≡ whole
  body_is = take_at whole (number_bytes (checksum whole)) (length whole) refl

  sealed_so : is_sealed bytes ≡ true
  sealed_so =
      let long : 16 ≤ length bytes =
      (let a = length-append whole (number_bytes (checksum whole)) in let s = size in omega (arith, a, s)) in
      let is_two : (number_in_bytes bytes 8 == the_version) ≡ true =
      eq-eqb (number_in_bytes bytes 8) the_version (from_le_bytes-to_le_bytes_8 the_version (omega arith)) in
      (λ i. le-leb 16 (length bytes) long i && is_two i)

  summed : unsealed bytes (length whole) ≡ Ok r
  summed =
      (λ i. if sum_back i == checksum (body_is i) then body_in_bytes the_version (body_is i) else Err (length whole))
      ∙ (ap (λ (b : Bool). if b then body_in_bytes the_version whole else Err (length whole)) (eq-eqb (checksum whole) (checksum whole) refl) ∙ body_back)

  read_back : record_in_bytes bytes ≡ Ok r
  read_back =
      ap (λ (b : Bool). if b then unsealed bytes (length bytes - 8) else body_in_bytes the_first_version bytes) sealed_so
      ∙ (ap (unsealed bytes) bytes_size ∙ summed)

pub bytes_read_back : (r : Recording) → HasWidths r → record_in_bytes (record_bytes r) ≡ Ok r
bytes_read_back r h = read_back r h

pub sealed_back : (r : Recording) (all body : List ℕ) (sum : ℕ) → HasWidths r → body ≡ body_bytes r → sum ≡ checksum body → all ≡ body ++ number_bytes sum
    → record_in_bytes all ≡ Ok r
sealed_back r all body sum h is summed put =
    let one : sum ≡ checksum (body_bytes r) = summed ∙ ap checksum is in
    ap record_in_bytes (put ∙ (λ i. is i ++ number_bytes (one i))) ∙ bytes_read_back r h

-- bytes in front of their checksum
pub unsealed_is : (bs : List ℕ) (at sum found : ℕ) → found ≡ number_in_bytes bs at → sum ≡ checksum (take at bs) → found ≡ sum
    → unsealed bs at ≡ body_in_bytes the_version (take at bs)
unsealed_is bs at sum found there is same =
    ap (λ (b : Bool). if b then body_in_bytes the_version (take at bs) else Err at)
    (eq-eqb (number_in_bytes bs at) (checksum (take at bs)) (sym there ∙ (same ∙ is)))
