-- Lists that grow by one in a loop.
use Rattle.std.proofs.Common.{◌≡◌, ⊎_elim, ℕ, ◌+◌, ◌<◌, ◌≤◌, ◌≢◌, cond, List, [], ◌∷◌, ◌++◌, length, map, take, Vec, refl, sym, ◌∙◌, ap, subst, arith}
use Rattle.std.proofs.Common.{slice_get, get_or, get_or-set_same, get_or-set_other, ◌%◌}
use Rattle.std.specs.Prelude.{count_by, max, slice_index_or, slice_set}
use Rattle.std.specs.List.{range_with_len}
use Rattle.std.proofs.lemmas.Bool.{cases_eq, eq-eqb, ne_eqb}
use Rattle.std.proofs.lemmas.List.{map_more, map_push}
use Rattle.std.proofs.lemmas.List.Sums.{fold_more, count_by-le-length, count_by_more_no, count_by_more_yes, sum_by-take-le}
use Rattle.std.proofs.lemmas.List.FromFn.{get_or-map-range_with_len, map-range_with_len_more}
use Rattle.std.proofs.lemmas.Option.{same_Some, slice_get-get_or, get_or_from_slice_get}
use Rattle.packet.specs.declared.kinds.Op.TheVariants.{Load}
use Rattle.packet.specs.declared.kinds.Operation.{Operation}
use Rattle.packet.specs.declared.kinds.Reply.{Reply}
use Rattle.packet.specs.Memory.{memory_after, memory_after_one, new_word, replies, reply_of_one, reply_to}
use Rattle.packet.proofs.Folds.{length-memory_after, memory_after-append, replies-append}
use Rattle.trace_laws.specs.declared.event.Call.{Call}
use Rattle.trace_laws.specs.Orders.{memory_of, operations_of}
use Rattle.trace_text.specs.Traced.{TraceSpec, opening_of}
use Rattle.trace_answer.specs.declared.times.Times.{Times}
use Rattle.trace_answer.specs.declared.service.Service.{Service}
use Rattle.trace_answer.specs.Numbers.{waits_of}
use Rattle.trace_answer.specs.Services.{call_at, is_on_bank, service_place, service_of, service_with}
use Rattle.trace_answer.proofs.Replayed.{told_reply}
use Rattle.trace_laws.proofs.Lists.{take_get, get_take}
use Rattle.report_lines.specs.Contents.{items_of}
use Rattle.trace_text.specs.declared.issued.Issued.{Issued}
use Rattle.trace_answer.specs.Fitting.{AreFit, processors_of}

-- rows of one number more
pub rows_more : {Y A : Type 0} (f : ℕ → List Y) (vs new : List (Vec Y A)) (k : ℕ) (v : Vec Y A) → v.items ≡ f k → new ≡ vs ++ v ∷ []
    → items_of vs ≡ map f (range_with_len 0 k) → items_of new ≡ map f (range_with_len 0 (k + 1))
rows_more {Y} {A} f vs new k v is grown so_far =
    ap items_of grown
    ∙ (map_push (λ (w : Vec Y A). w.items) vs v
    ∙ (ap (λ (yss : List (List Y)). yss ++ v.items ∷ []) so_far
    ∙ (ap (λ (ys : List Y). map f (range_with_len 0 k) ++ ys ∷ []) is
    ∙ sym (map-range_with_len_more f 0 k k (omega arith)))))

-- the image of one number more
pub image_more : {X : Type 0} (f : ℕ → X) (xs new : List X) (k : ℕ) (x : X) → x ≡ f k → new ≡ xs ++ x ∷ [] → xs ≡ map f (range_with_len 0 k)
    → new ≡ map f (range_with_len 0 (k + 1))
image_more {X} f xs new k x is grown so_far =
    grown ∙ (ap (λ (ys : List X). ys ++ x ∷ []) so_far ∙ (ap (λ (y : X). map f (range_with_len 0 k) ++ y ∷ []) is
    ∙ sym (map-range_with_len_more f 0 k k (omega arith))))

-- one operation more is within the limits
pub processors_more : (issued : List Issued) (k count : ℕ) (d : Issued) → k < length issued → count ≡ processors_of (take k issued)
    → max count ((get_or issued k d).processor + 1) ≡ processors_of (take (k + 1) issued)
processors_more issued k count d low so_far =
    ap (λ n. max n ((get_or issued k d).processor + 1)) so_far
    ∙ sym (fold_more (λ n (i : Issued). max n (i.processor + 1)) 0 issued k d low)

pub fit_more : (issued : List Issued) (k : ℕ) (d : Issued) → k < length issued → (get_or issued k d).processor < 64 → (get_or issued k d).index < 4096
    → AreFit (take k issued) → AreFit (take (k + 1) issued)
fit_more issued k d low processor index old n i h =
    let there = take_get (k + 1) issued n i h in
    ⊎_elim {C = (i.processor < 64) × (i.index < 4096)}
    (λ (same : n ≡ k).
    let is : get_or issued k d ≡ i =
    same_Some (get_or issued k d) i (sym (slice_get-get_or issued k d low) ∙ (ap (slice_get issued) (sym same) ∙ there.1)) in
    subst (λ (j : Issued). (j.processor < 64) × (j.index < 4096)) is (processor, index))
    (λ (other : n ≢ k). let l = there.0 in old n i (get_take k issued n i (omega arith) there.1))
    (cases_eq n k)

-- an element within a list, whatever stands past it
pub same_read : {X : Type 0} (xs : List X) (k : ℕ) (d e : X) → k < length xs → get_or xs k d ≡ get_or xs k e
same_read xs k d e l = same_Some (get_or xs k d) (get_or xs k e) (sym (slice_get-get_or xs k d l) ∙ slice_get-get_or xs k e l)

abbrev no_call : Call
no_call = record { id = 0; operation = record { address = 0; op = Load } }

operations_more : (order : List Call) (k : ℕ) → k < length order
    → operations_of (take (k + 1) order) ≡ operations_of (take k order) ++ (call_at order k).operation ∷ []
operations_more order k l = map_more (λ (c : Call). c.operation) order k no_call l

-- one operation more is served
pub memory_more : (opening : List ℕ) (order : List Call) (k : ℕ) → k < length order
    → memory_of opening (take (k + 1) order) ≡ memory_after_one (call_at order k).operation (memory_of opening (take k order))
memory_more opening order k l =
    ap (λ (os : List Operation). memory_after os opening) (operations_more order k l)
    ∙ memory_after-append (operations_of (take k order)) ((call_at order k).operation ∷ []) opening

replies_more : (opening : List ℕ) (order : List Call) (k : ℕ) → k < length order
    → replies (operations_of (take (k + 1) order)) opening
    ≡ replies (operations_of (take k order)) opening ++ reply_of_one (call_at order k).operation (memory_of opening (take k order)) ∷ []
replies_more opening order k l =
    ap (λ (os : List Operation). replies os opening) (operations_more order k l)
    ∙ replies-append (operations_of (take k order)) ((call_at order k).operation ∷ []) opening

-- an address of the memory is one after some operations too
pub still_inside : (opening words : List ℕ) (order : List Call) (k a : ℕ) → a < length opening → words ≡ memory_of opening (take k order)
    → a < length words
still_inside opening words order k a inside are =
    let same = ap length are in
    omega (arith, inside, same, length-memory_after (operations_of (take k order)) opening)

-- the word that it found
found : (opening words : List ℕ) (order : List Call) (k word : ℕ) → (call_at order k).operation.address < length opening
    → words ≡ memory_of opening (take k order) → word ≡ get_or words (call_at order k).operation.address word
    → word ≡ get_or (memory_of opening (take k order)) (call_at order k).operation.address 0
found opening words order k word inside are is =
    let a : ℕ = (call_at order k).operation.address in
    let low : a < length (memory_of opening (take k order)) =
    omega (arith, inside, length-memory_after (operations_of (take k order)) opening) in
    is ∙ (ap (λ (ws : List ℕ). get_or ws a word) are ∙ same_read (memory_of opening (take k order)) a word 0 low)

pub word_served : (opening words : List ℕ) (order : List Call) (k word new : ℕ) → k < length order → (call_at order k).operation.address < length opening
    → words ≡ memory_of opening (take k order) → word ≡ get_or words (call_at order k).operation.address word
    → new ≡ new_word (call_at order k).operation.op word
    → slice_set words (call_at order k).operation.address new ≡ memory_of opening (take (k + 1) order)
word_served opening words order k word new l inside are is made =
    let a : ℕ = (call_at order k).operation.address in
    let was = found opening words order k word inside are is in
    ap (slice_set words a) (made ∙ ap (new_word (call_at order k).operation.op) was)
    ∙ (ap (λ (ws : List ℕ). slice_set ws a (new_word (call_at order k).operation.op (get_or (memory_of opening (take k order)) a 0))) are
    ∙ sym (memory_more opening order k l))

pub reply_served : (opening words : List ℕ) (order : List Call) (told new : List Reply) (k word : ℕ) (reply : Reply) → k < length order
    → (call_at order k).operation.address < length opening
    → words ≡ memory_of opening (take k order) → word ≡ get_or words (call_at order k).operation.address word
    → reply ≡ reply_to (call_at order k).operation.op word
    → told ≡ replies (operations_of (take k order)) opening → new ≡ told ++ reply ∷ []
    → new ≡ replies (operations_of (take (k + 1) order)) opening
reply_served opening words order told new k word reply l inside are is made so_far grown =
    let was = found opening words order k word inside are is in
    grown ∙ (ap (λ (rs : List Reply). rs ++ reply ∷ []) so_far
    ∙ (ap (λ (r : Reply). replies (operations_of (take k order)) opening ++ r ∷ []) (made ∙ ap (reply_to (call_at order k).operation.op) was)
    ∙ sym (replies_more opening order k l)))

-- how many of a bank came before an operation
abbrev home_at : ℕ → List Call → ℕ → ℕ
home_at tiles order k = (call_at order k).operation.address % tiles

pub place_read : (tiles : ℕ) (order : List Call) (counts : List ℕ) (k p : ℕ) → 0 < tiles → length counts ≡ tiles → p ≡ get_or counts (home_at tiles order k) p
    → ((b : ℕ) → b < tiles → slice_index_or counts b 0 ≡ count_by (is_on_bank tiles b) (take k order)) → p ≡ service_place tiles order k
place_read tiles order counts k p some size is counted =
    let b : ℕ = home_at tiles order k in
    let low : b < tiles = omega arith in
    is ∙ (same_read counts b p 0 (omega arith) ∙ counted b low)

pub place_low : (tiles : ℕ) (order : List Call) (k : ℕ) → service_place tiles order k ≤ length order
place_low tiles order k =
    let p = is_on_bank tiles (home_at tiles order k) in
    omega (arith, count_by-le-length p order, sum_by-take-le (λ c. cond (p c) 1 0) order k)

pub count_step : (tiles : ℕ) (order : List Call) (counts : List ℕ) (k p : ℕ) → 0 < tiles → k < length order → length counts ≡ tiles
    → p ≡ service_place tiles order k
    → ((b : ℕ) → b < tiles → slice_index_or counts b 0 ≡ count_by (is_on_bank tiles b) (take k order)) → (b : ℕ) → b < tiles
    → slice_index_or (slice_set counts (home_at tiles order k) (p + 1)) b 0 ≡ count_by (is_on_bank tiles b) (take (k + 1) order)
count_step tiles order counts k p some l size is counted b low =
    let h : ℕ = home_at tiles order k in
    ⊎_elim
    (λ (same : b ≡ h).
    let here : get_or (slice_set counts h (p + 1)) h 0 ≡ p + 1 = get_or-set_same counts h (p + 1) 0 (omega arith) in
    let more : count_by (is_on_bank tiles h) (take (k + 1) order) ≡ count_by (is_on_bank tiles h) (take k order) + 1 =
    count_by_more_yes (is_on_bank tiles h) order k no_call l (eq-eqb h h refl) in
    ap (λ c. get_or (slice_set counts h (p + 1)) c 0) same
    ∙ (here ∙ (ap (λ n. n + 1) is ∙ (sym more ∙ ap (λ c. count_by (is_on_bank tiles c) (take (k + 1) order)) (sym same)))))
    (λ (other : b ≢ h).
    get_or-set_other counts h b (p + 1) 0 other
    ∙ (counted b low ∙ sym (count_by_more_no (is_on_bank tiles b) order k no_call l (ne_eqb h b (λ e. other (sym e))))))
    (cases_eq b h)

-- a service of its parts
pub service_is : (t : TraceSpec) (tiles : ℕ) (times : List Times) (order : List Call) (told : List Reply) (places waits : List ℕ) (x : ℕ) (d : Reply)
    → x < length order → told ≡ replies (operations_of order) (opening_of t) → places ≡ map (service_place tiles order) (range_with_len 0 (length order))
    → waits ≡ waits_of times order
    → service_with t.issued times waits (call_at order x) (home_at tiles order x) (get_or told x d) (get_or places x 0) (get_or waits x 0 + x + 1)
    ≡ service_of t tiles times order x
service_is t tiles times order told places waits x d l are stand wait =
    let r : Reply = reply_of_one (call_at order x).operation (memory_of (opening_of t) (take x order)) in
    let reply : get_or told x d ≡ r =
    get_or_from_slice_get told x r d (ap (λ (rs : List Reply). slice_get rs x) are ∙ told_reply (opening_of t) order x l) in
    let place : get_or places x 0 ≡ service_place tiles order x =
    ap (λ (ps : List ℕ). get_or ps x 0) stand ∙ get_or-map-range_with_len (service_place tiles order) 0 (length order) x x 0 l (omega arith) in
    let make : Reply → ℕ → List ℕ → Service =
    λ u p ws. service_with t.issued times ws (call_at order x) (home_at tiles order x) u p (get_or ws x 0 + x + 1) in
    ap (λ u. make u (get_or places x 0) waits) reply ∙ (ap (λ p. make r p waits) place ∙ ap (make r (service_place tiles order x)) wait)
