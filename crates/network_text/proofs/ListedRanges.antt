-- The ranges that a word names, part by part, and how many channels they have.
use Rattle.std.proofs.Common.{◌≡◌, ◌⊎◌, inl, inr, ℕ, ◌+◌, ◌-◌, ◌*◌, ◌<◌, ◌≤◌, ◌==◌, ◌&&◌, Bool, true, false, List, [], ◌∷◌, ◌++◌, length, map, take, drop, get_or, min, refl, sym, ◌∙◌, ap, append_assoc, append-nil, arith}
use Rattle.std.specs.Prelude.{Result, Ok, Err, Option, Some, None, nat_le, nat_lt, if◌then◌else◌, codes}
use Rattle.std.specs.Str.{bytes_eq, all_ascii_digits}
use Rattle.std.specs.Str.Parse.{digits_value}
use Rattle.std.specs.Char.{is_ascii_digit}
use Rattle.std.specs.List.{All, list_all, flat_map, range_with_len, slice_split, onto_first}
use Rattle.std.proofs.Math.Nat.{le-mul_of_pos_right, mul_comm, mul-le-mul_left}
use Rattle.std.proofs.lemmas.Bool.{cases_lt}
use Rattle.std.proofs.lemmas.Bool.Decides.{nat_tests, Decides-eqb}
use Rattle.std.proofs.lemmas.Slice.Eq.{bytes_eq-Decides}
use Rattle.std.proofs.lemmas.List.{take_more, take-append-drop, map-append, length-append}
use Rattle.std.proofs.lemmas.List.Concat.{flat_map-append}
use Rattle.std.proofs.lemmas.List.Splits.{slice_split-cons_no}
use Rattle.std.proofs.lemmas.List.FromFn.{length-range_with_len, map-range_with_len_more}
use Rattle.std.proofs.lemmas.List.Sums.{AllPass-from_list_all}
use Rattle.lexer.specs.Numbers.{index_of, is_number}
use Rattle.lexer.specs.Outcome.{◌>>=◌}
use Rattle.network_judge.specs.declared.table.Kind.{Kind}
use Rattle.network_judge.specs.declared.table.Join.{Join}
use Rattle.network_text.specs.declared.reason.NetworkReason.{NetworkReason}
use Rattle.network_text.specs.declared.reason.NetworkReason.TheVariants as reason
use Rattle.network_text.specs.declared.all_pairs.End.{End}
use Rattle.network_text.specs.declared.ranges.ChannelRange.{ChannelRange}
use Rattle.network_text.specs.AllPairs.{every_join}
use Rattle.network_text.specs.Ranges.{is_comma, range_of_one, range_by, range_at, ranges_of, ranges_at, listed_at, channels_between, channels_of}

abbrev pub Listed : Type 0
Listed = Result (List ChannelRange) NetworkReason

-- ranges ahead of others
abbrev both : Listed → Listed → Listed
both (Err e) q = Err e
both (Ok xs) (Err e) = Err e
both (Ok xs) (Ok ys) = Ok (xs ++ ys)

abbrev ahead : Result ChannelRange NetworkReason → Listed → Listed
ahead first rest = first >>= λ range. rest >>= λ ranges. Ok (range ∷ ranges)

none_ahead : (q : Listed) → q ≡ both (Ok []) q
none_ahead (Ok ys) = refl
none_ahead (Err e) = refl

one_ahead : (f : Result ChannelRange NetworkReason) (p q : Listed) → ahead f (both p q) ≡ both (ahead f p) q
one_ahead (Err e) p q = refl
one_ahead (Ok x) (Err e) q = refl
one_ahead (Ok x) (Ok xs) (Err e) = refl
one_ahead (Ok x) (Ok xs) (Ok ys) = refl

both_of : (place : ℕ) (us vs : List (List ℕ)) → ranges_of place (us ++ vs) ≡ both (ranges_of place us) (ranges_of place vs)
both_of place [] vs = none_ahead (ranges_of place vs)
both_of place (u ∷ us) vs =
    ap (ahead (range_at place u)) (both_of place us vs) ∙ one_ahead (range_at place u) (ranges_of place us) (ranges_of place vs)

-- what the parts up to one name
named_to : {X : Type 0} (f : X → List ℕ) (place : ℕ) (ws : List X) (i : ℕ) (d : X) (xs : List ChannelRange) (q : Result ChannelRange NetworkReason)
    → i < length ws → ranges_of place (map f (take i ws)) ≡ Ok xs → range_at place (f (get_or ws i d)) ≡ q
    → ranges_of place (map f (take (i + 1) ws)) ≡ both (Ok xs) (ahead q (Ok []))
named_to {X} f place ws i d xs q low so one =
    ap (λ (vs : List X). ranges_of place (map f vs)) (take_more ws i d low)
    ∙ ap (ranges_of place) (map-append f (take i ws) (get_or ws i d ∷ []))
    ∙ both_of place (map f (take i ws)) (f (get_or ws i d) ∷ [])
    ∙ ap (λ (p : Listed). both p (ranges_of place (f (get_or ws i d) ∷ []))) so
    ∙ ap (λ (p : Result ChannelRange NetworkReason). both (Ok xs) (ahead p (Ok []))) one

-- one part more
pub named_more : {X : Type 0} (f : X → List ℕ) (place : ℕ) (ws : List X) (i : ℕ) (d : X) (xs : List ChannelRange) (x : ChannelRange) → i < length ws
    → ranges_of place (map f (take i ws)) ≡ Ok xs → range_at place (f (get_or ws i d)) ≡ Ok x
    → ranges_of place (map f (take (i + 1) ws)) ≡ Ok (xs ++ x ∷ [])
named_more f place ws i d xs x low so one = named_to f place ws i d xs (Ok x) low so one

-- a part that is refused
pub named_none : {X : Type 0} (f : X → List ℕ) (place : ℕ) (ws : List X) (i : ℕ) (d : X) (xs : List ChannelRange) (e : NetworkReason) → i < length ws
    → ranges_of place (map f (take i ws)) ≡ Ok xs → range_at place (f (get_or ws i d)) ≡ Err e
    → ranges_of place (map f ws) ≡ Err e
named_none {X} f place ws i d xs e low so one =
    ap (λ (vs : List X). ranges_of place (map f vs)) (sym (take-append-drop (i + 1) ws))
    ∙ ap (ranges_of place) (map-append f (take (i + 1) ws) (drop (i + 1) ws))
    ∙ both_of place (map f (take (i + 1) ws)) (map f (drop (i + 1) ws))
    ∙ ap (λ (p : Listed). both p (ranges_of place (map f (drop (i + 1) ws)))) (named_to f place ws i d xs (Err e) low so one)

-- one channel more of a range
map_same : (xs : List ℕ) → map (λ x. x) xs ≡ xs
map_same [] = refl
map_same (x ∷ xs) = ap (λ t. x ∷ t) (map_same xs)

range_more : (a n : ℕ) → range_with_len a (n + 1) ≡ range_with_len a n ++ (a + n) ∷ []
range_more a n =
    sym (map_same (range_with_len a (n + 1))) ∙ map-range_with_len_more (λ x. x) a n (a + n) refl
    ∙ ap (λ t. t ++ (a + n) ∷ []) (map_same (range_with_len a n))

pub channel_put : (start old new : List ℕ) (a n : ℕ) → old ≡ start ++ range_with_len a n → new ≡ old ++ (a + n) ∷ []
    → new ≡ start ++ range_with_len a (n + 1)
channel_put start old new a n is put =
    put ∙ ap (λ t. t ++ (a + n) ∷ []) is ∙ append_assoc start (range_with_len a n) ((a + n) ∷ [])
    ∙ ap (λ t. start ++ t) (sym (range_more a n))

-- how many channels there are with one range more
size_parts : (ranges : List ChannelRange) (i : ℕ) (d : ChannelRange) → i < length ranges
    → length (channels_of (take (i + 1) ranges)) ≡ length (channels_of (take i ranges)) + ((get_or ranges i d).last + 1 - (get_or ranges i d).first)
size_parts ranges i d low =
    ap (λ (t : List ChannelRange). length (channels_of t)) (take_more ranges i d low)
    ∙ ap length (flat_map-append channels_between (take i ranges) (get_or ranges i d ∷ []))
    ∙ length-append (channels_of (take i ranges)) (channels_of (get_or ranges i d ∷ []))
    ∙ ap (λ t. length (channels_of (take i ranges)) + length t) (append-nil (channels_between (get_or ranges i d)))
    ∙ ap (λ n. length (channels_of (take i ranges)) + n) (length-range_with_len (get_or ranges i d).first ((get_or ranges i d).last + 1 - (get_or ranges i d).first))

pub size_more : (ranges : List ChannelRange) (i : ℕ) (d : ChannelRange) (old : ℕ) → i < length ranges → old ≡ min (length (channels_of (take i ranges))) 4194305
    → min (old + ((get_or ranges i d).last + 1 - (get_or ranges i d).first)) 4194305 ≡ min (length (channels_of (take (i + 1) ranges))) 4194305
size_more ranges i d old low is = omega (arith, size_parts ranges i d low)

-- whether there is room is the same of numbers that are cut off above the limit
over : (l x y : ℕ) → 4194305 ≤ x → 0 < y → nat_le (l + x * y) 4194304 ≡ false
over l x y many some =
    let e : x ≤ x * y = le-mul_of_pos_right x some in
    let low : 4194304 < l + x * y = omega arith in
    grind (arith, nat_tests)

nothing : (x y : ℕ) → y ≡ 0 → x * y ≡ 0
nothing x y none =
    let zeros : x * 0 ≡ 0 = omega arith in
    ap (λ z. x * z) none ∙ zeros

one_over : (l x y a b : ℕ) → 4194305 ≤ x → 4194305 ≤ a → b ≡ min y 4194305 → nat_le (l + a * b) 4194304 ≡ nat_le (l + x * y) 4194304
one_over l x y a b many same is = elim (cases_lt 0 y) [
  | inl some ↦ over l a b same (omega arith) ∙ sym (over l x y many some)
  | inr none ↦
      let e : y ≡ 0 = omega arith in
      let f : b ≡ 0 = omega arith in
      ap (λ t. nat_le (l + t) 4194304) (nothing a b f ∙ sym (nothing x y e))
]

pub room_same : (l x y a b : ℕ) → a ≡ min x 4194305 → b ≡ min y 4194305 → nat_le (l + a * b) 4194304 ≡ nat_le (l + x * y) 4194304
room_same l x y a b first second = elim (cases_lt x 4194305) [
  | inr many ↦ one_over l x y a b many (omega arith) second
  | inl low ↦ elim (cases_lt y 4194305) [
    | inr many ↦
        ap (λ t. nat_le (l + t) 4194304) (mul_comm a b) ∙ one_over l y x b a many (omega arith) first
        ∙ ap (λ t. nat_le (l + t) 4194304) (mul_comm y x)
    | inl few ↦
        let e : a ≡ x = omega arith in
        let f : b ≡ y = omega arith in
        ap (λ t. nat_le (l + t * b) 4194304) e ∙ ap (λ t. nat_le (l + x * t) 4194304) f
  ]
]

-- each product below the limit fits
pub product_fits : (a b : ℕ) → a ≤ 4194305 → b ≤ 4194305 → a * b ≤ 4194305 * 4194305
product_fits a b first second =
    let e : a * b ≤ a * 4194305 = mul-le-mul_left a second in
    omega arith

-- ranges that end below a number end below a greater one
pub all_below : (ranges : List ChannelRange) (n : ℕ) → list_all (λ (range : ChannelRange). nat_lt range.last n) ranges ≡ true → n ≤ 65536
    → All (λ (range : ChannelRange). range.last < 65536) ranges
all_below ranges n all few = λ k d low.
    let e = AllPass-from_list_all (λ (range : ChannelRange). nat_lt range.last n) ranges all k d low in
    grind (arith, nat_tests)

-- without channels there are no pairs
no_receivers : (is : List ℕ) → every_join is [] ≡ []
no_receivers [] = refl
no_receivers (i ∷ is) = no_receivers is

pub no_senders : (is js : List ChannelRange) (joins : List Join) → length is ≡ 0
    → joins ≡ joins ++ every_join (channels_of is) (channels_of js)
no_senders [] js joins none = sym (append-nil joins)
no_senders (i ∷ is) js joins none = absurd (omega arith)

pub no_pairs : (is js : List ChannelRange) (joins : List Join) → length js ≡ 0
    → joins ≡ joins ++ every_join (channels_of is) (channels_of js)
no_pairs is [] joins none = sym (ap (λ t. joins ++ t) (no_receivers (channels_of is)) ∙ append-nil joins)
no_pairs is (j ∷ js) joins none = absurd (omega arith)

-- a word that is a number names this channel alone
pub and_both : (b d : Bool) → (b && d) ≡ true → (b ≡ true) × (d ≡ true)
and_both true d e = (refl, e)
and_both false d e = absurd (cc)

digit_by : (c : ℕ) (b : Bool) → is_comma c ≡ b → is_ascii_digit c ≡ true → is_comma c ≡ false
digit_by c false is digit = is
digit_by c true is digit =
    let e : c ≡ 44 = (Decides-eqb c 44).0 is in
    let f : is_ascii_digit 44 ≡ true = ap is_ascii_digit (sym e) ∙ digit in
    absurd (cc)

digits_alone : (word : List ℕ) → all_ascii_digits word ≡ true → slice_split is_comma word ≡ word ∷ []
digits_alone [] digits = refl
digits_alone (c ∷ cs) digits =
    let both = and_both (is_ascii_digit c) (all_ascii_digits cs) digits in
    slice_split-cons_no is_comma c cs (digit_by c (is_comma c) refl both.0) ∙ ap (onto_first c) (digits_alone cs both.1)

spelled_by : (word : List ℕ) (x : ℕ) (b : Bool) → is_number word ≡ b → index_of word ≡ Some x → is_number word ≡ true
spelled_by word x true is spelled = is
spelled_by word x false is spelled =
    let e : None ≡ Some x = sym (ap (λ b. if b then Some (min (digits_value 10 word) (2147483648)) else None) is) ∙ spelled in
    absurd (cc)

alone_by : (kinds : List Kind) (end : End) (place : ℕ) (word : List ℕ) (x : ℕ) (b : Bool) → bytes_eq word (codes "all") ≡ b → index_of word ≡ Some x
    → listed_at kinds end place word ≡ Ok (range_of_one x ∷ [])
alone_by kinds end place word x true is spelled =
    let e : word ≡ codes "all" = (bytes_eq-Decides word (codes "all")).0 is in
    let f : index_of (codes "all") ≡ Some x = ap index_of (sym e) ∙ spelled in
    absurd (cc)
alone_by kinds end place word x false is spelled =
    let number = and_both _ (all_ascii_digits word) (spelled_by word x (is_number word) refl spelled) in
    rw is (ap (ranges_of place) (digits_alone word number.1)
    ∙ ap (λ (o : Option ℕ). range_by place word o >>= λ range. Ok (range ∷ [])) spelled)

pub number_alone : (kinds : List Kind) (end : End) (place : ℕ) (word : List ℕ) (x : ℕ) → index_of word ≡ Some x
    → listed_at kinds end place word ≡ Ok (range_of_one x ∷ [])
number_alone kinds end place word x spelled = alone_by kinds end place word x (bytes_eq word (codes "all")) refl spelled
