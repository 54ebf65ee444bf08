-- What the text of a part counts and names.
use Rattle.std.proofs.Common.{◌≡◌, ⊎_elim, ℕ, zero, suc, ◌+◌, ◌<◌, ◌≤◌, ◌==◌, Bool, false, List, [], ◌∷◌, ◌++◌, length, Some, refl, sym, ◌∙◌, ap, arith, slice_get}
use Rattle.std.specs.Prelude.{◌&&◌, Option, cond, if◌then◌else◌, option_map, slice_index, unwrap_or}
use Rattle.std.specs.List.{count_by, flat_map, range_with_len}
use Rattle.std.proofs.lemmas.Bool.{cases_lt}
use Rattle.std.proofs.lemmas.Grind.{flat_map-append}
use Rattle.std.proofs.lemmas.List.{append-nil}
use Rattle.std.proofs.lemmas.List.FromFn.{length-range_with_len}
use Rattle.std.proofs.lemmas.List.Sums.{count_by-le-length, sum_by-append}
use Rattle.std.proofs.lemmas.Option.{get_or_from_slice_get}
use Rattle.packet.specs.declared.kinds.Reply.{Reply}
use Rattle.lexer.specs.Joined.{line_of_words}
use Rattle.trace_laws.specs.declared.event.Event.TheVariants.{Answer}
use Rattle.trace_table.proofs.Counts.{get_front, get_last}
use Rattle.trace_text.specs.declared.issued.Issued.{Issued}
use Rattle.trace_text.specs.Traced.{TraceSpec}
use Rattle.trace_answer.specs.declared.counts.Key.{Key}
use Rattle.trace_answer.specs.declared.counts.Key.TheVariants.{Processor}
use Rattle.trace_answer.specs.Written.{AreCounts, answer_words, count_before, event_text, is_counted, key_of}

-- one number more of a range
range_next : (a n k : ℕ) → a + n ≡ k → range_with_len a (suc n) ≡ range_with_len a n ++ k ∷ []
range_next a zero k is = let e : a ≡ k = omega arith in ap (λ (m : ℕ). m ∷ []) e
range_next a (suc n) k is = ap (λ ns. a ∷ ns) (range_next (a + 1) n k (omega arith))

range_more : (n : ℕ) → range_with_len 0 (n + 1) ≡ range_with_len 0 n ++ n ∷ []
range_more n = let next : n + 1 ≡ suc n = omega arith in ap (range_with_len 0) next ∙ range_next 0 n n (omega arith)

-- no more are counted than come before
pub count_low : (issued : List Issued) (kept : List Bool) (key : Key) (v n : ℕ) → count_before issued kept key v n ≤ n
count_low issued kept key v n =
    let low = count_by-le-length (is_counted issued kept key v) (range_with_len 0 n) in
    let long = length-range_with_len 0 n in
    omega arith

count_next_by : (p : ℕ → Bool) (n : ℕ) (b : Bool) → p n ≡ b
    → count_by p (range_with_len 0 (n + 1)) ≡ count_by p (range_with_len 0 n) + (if b then 1 else 0)
count_next_by p n b is =
    ap (count_by p) (range_more n)
    ∙ sum_by-append (λ x. cond (p x) 1 0) (range_with_len 0 n) (n ∷ [])
    ∙ ap (λ (m : ℕ). count_by p (range_with_len 0 n) + m) (rw is (omega arith))

-- one operation more
pub count_next : (issued : List Issued) (kept : List Bool) (key : Key) (v n k : ℕ) (i : Issued) (flag : Bool) → slice_get issued n ≡ Some i
    → k ≡ key_of key i → flag ≡ unwrap_or (slice_get kept n) false
    → count_before issued kept key v (n + 1) ≡ count_before issued kept key v n + (if flag && (k == v) then 1 else 0)
count_next issued kept key v n k i flag there is kind =
    count_next_by (is_counted issued kept key v) n (flag && (k == v)) (rw (there, is, kind) refl)

-- one count more
pub counts_more : (issued : List Issued) (kept : List Bool) (key : Key) (counts : List ℕ) (n x k : ℕ) (i : Issued) → length counts ≡ n
    → slice_get issued n ≡ Some i → k ≡ key_of key i → x ≡ count_before issued kept key k n
    → ((m : ℕ) (j : Issued) → m < n → slice_get issued m ≡ Some j → slice_get counts m ≡ Some (count_before issued kept key (key_of key j) m))
    → (m : ℕ) (j : Issued) → m < n + 1 → slice_get issued m ≡ Some j
    → slice_get (counts ++ x ∷ []) m ≡ Some (count_before issued kept key (key_of key j) m)
counts_more issued kept key counts n x k i long found is count each m j below there = ⊎_elim
    (λ (before : m < n). get_front counts (x ∷ []) m (count_before issued kept key (key_of key j) m) (each m j before there))
    (λ (after : n ≤ m).
    let here : m ≡ n = omega arith in
    let same : i ≡ j = sym (get_or_from_slice_get issued n i i found) ∙ get_or_from_slice_get issued n j i (ap (slice_get issued) (sym here) ∙ there) in
    let value : x ≡ count_before issued kept key (key_of key j) m =
    count ∙ ap (λ (v : ℕ). count_before issued kept key v n) (is ∙ ap (key_of key) same) ∙ ap (count_before issued kept key (key_of key j)) (sym here) in
    let last : slice_get (counts ++ x ∷ []) m ≡ Some x = ap (slice_get (counts ++ x ∷ [])) (here ∙ sym long) ∙ get_last counts x in
    last ∙ ap Some value)
    (cases_lt m n)

-- the images of one number more
pub images_more : {X : Type 0} (f : ℕ → List X) (n : ℕ) → flat_map f (range_with_len 0 (n + 1)) ≡ flat_map f (range_with_len 0 n) ++ f n
images_more f n =
    ap (flat_map f) (range_more n) ∙ flat_map-append f (range_with_len 0 n) (n ∷ [])
    ∙ ap (λ zs. flat_map f (range_with_len 0 n) ++ zs) (append-nil (f n))

-- the count of an operation
pub count_there : (issued : List Issued) (kept : List Bool) (key : Key) (counts : List ℕ) (n : ℕ) (i : Issued) → AreCounts issued kept key counts
    → slice_get issued n ≡ Some i → slice_index counts n ≡ count_before issued kept key (key_of key i) n
count_there issued kept key counts n i are there = get_or_from_slice_get counts n (count_before issued kept key (key_of key i) n) 0 (are n i there)

-- the line of an answer
pub answer_is : (t : TraceSpec) (kept : List Bool) (counts : List ℕ) (id n : ℕ) (reply : Reply) (i : Issued) → AreCounts t.issued kept Processor counts
    → slice_get t.issued id ≡ Some i → n ≡ slice_index counts id
    → line_of_words (answer_words i.processor n reply) ≡ event_text t kept (Answer id reply)
answer_is t kept counts id n reply i are there is =
    ap (λ (m : ℕ). line_of_words (answer_words i.processor m reply)) (is ∙ count_there t.issued kept Processor counts id i are there)
    ∙ ap (λ (o : Option Issued). unwrap_or (option_map
    (λ j. line_of_words (answer_words j.processor (count_before t.issued kept Processor j.processor id) reply)) o) []) (sym there)
