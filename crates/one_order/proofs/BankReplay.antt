-- The entries of a run's one order, taken bank by bank, replay on one memory.
use Rattle.std.proofs.Common.{◌≡◌, ℕ, zero, suc, ◌+◌, ◌<◌, List, [], ◌∷◌, length, map, flat_map, take, Some, refl, sym, ◌∙◌, ap, subst, arith, slice_get}
use Rattle.std.specs.Prelude.{count_by, filter}
use Rattle.std.proofs.lemmas.Bool.{eq-eqb}
use Rattle.std.proofs.lemmas.List.{length-map}
use Rattle.std.proofs.lemmas.List.Sums.{length-filter}
use Rattle.std.proofs.lemmas.Option.{slice_get_within, same_Some}
use Rattle.packet.specs.declared.kinds.Operation.{Operation}
use Rattle.packet.specs.Memory.{replies, memory_after, reply_of_one, memory_after_one}
use Rattle.home_bank.specs.declared.entry.Entry.{Entry}
use Rattle.one_order.specs.declared.ordered.Ordered.{Ordered}
use Rattle.one_order.specs.Observed.{Run, list_at, total}
use Rattle.one_order.specs.Order.{LinearizationPoint, operations_of, home, count_at}
use Rattle.one_order.specs.OneOrder.{HasOneOrder}
use Rattle.one_order.specs.Consequences.{NameEntries, ReplaysByBank}
use Rattle.home_bank.specs.MemoryReplay.{entry_operation}
use Rattle.one_order.proofs.Lists.{within_length}
use Rattle.one_order.proofs.Account.{home_within}
use Rattle.one_order.proofs.Counting.{count_cons, filter_at, same_lists}
use Rattle.one_order.proofs.Naming.{at_home, point_of_entry, names_entry, row_of_entry, rows_apart, places_rise}
use Rattle.one_order.proofs.Replay.{Told, asked, told, told_at, asked_told, length-told, told_replays, replays_replies, AtHome, of_bank, by_bank}
use Rattle.one_order.proofs.Replay.{by_bank_replays, by_bank_words, length-by_bank, joined, length-joined}

get_map : {A B : Type 0} (f : A → B) (xs : List A) (k : ℕ) (x : A) → slice_get xs k ≡ Some x → slice_get (map f xs) k ≡ Some (f x)
get_map f [] k x h = absurd (cc)
get_map f (y ∷ ys) zero x h = ap (λ z. Some (f z)) (same_Some y x h)
get_map f (y ∷ ys) (suc k) x h = get_map f ys k x h

-- what an entry asks and tells
abbrev pub told_by : Entry → Told
told_by e = (entry_operation e, e.reply)

asked_by : (es : List Entry) → asked (map told_by es) ≡ map entry_operation es
asked_by [] = refl
asked_by (e ∷ es) = ap (λ os. entry_operation e ∷ os) (asked_by es)

replied_by : (es : List Entry) → map (λ (q : Told). q.1) (map told_by es) ≡ map (λ (e : Entry). e.reply) es
replied_by [] = refl
replied_by (e ∷ es) = ap (λ rs. e.reply ∷ rs) (replied_by es)

-- as many operations as points have a bank as their home
same_count : (tiles b : ℕ) (order : List LinearizationPoint) (m : List ℕ) → count_by (of_bank tiles b) (told (operations_of order) m) ≡ count_at tiles b order
same_count tiles b [] m = refl
same_count tiles b (x ∷ order) m =
    omega (
      arith,
      same_count tiles b order (memory_after_one x.operation m),
      count_cons (at_home tiles b) x order,
      count_cons (of_bank tiles b) (x.operation, reply_of_one x.operation m) (told (operations_of order) (memory_after_one x.operation m)),
    )

same_count_before : (tiles b : ℕ) (order : List LinearizationPoint) (m : List ℕ) (k : ℕ)
    → count_by (of_bank tiles b) (take k (told (operations_of order) m)) ≡ count_at tiles b (take k order)
same_count_before tiles b order m zero = refl
same_count_before tiles b [] m (suc k) = refl
same_count_before tiles b (x ∷ order) m (suc k) =
    omega (
      arith,
      same_count_before tiles b order (memory_after_one x.operation m) k,
      count_cons (at_home tiles b) x (take k order),
      count_cons (of_bank tiles b) (x.operation, reply_of_one x.operation m) (take k (told (operations_of order) (memory_after_one x.operation m))),
    )

-- the operations of the order, with the memory's replies
abbrev pub all_told : List LinearizationPoint → List ℕ → List Told
all_told order opening = told (operations_of order) opening

all_at_home : (tiles tags : ℕ) (opening : List ℕ) (run : Run) (n : ℕ) (rows : List Ordered) (one : HasOneOrder tiles tags opening run n rows)
    → AtHome tiles (all_told one.order opening)
all_at_home tiles tags opening run n rows one k q h =
    let os : List Operation = operations_of one.order in
    let there : slice_get os k ≡ Some q.0 = ap (λ ps. slice_get ps k) (sym (asked_told os opening)) ∙ get_map (λ (r : Told). r.0) (told os opening) k q h in
    let within = slice_get_within os k q.0 there in
    let count = length-map one.order (λ (x : LinearizationPoint). x.operation) in
    let at = within_length one.order k (omega arith) in
    let x : LinearizationPoint = at.0 in
    let same : x.operation ≡ q.0 = same_Some x.operation q.0 (sym (get_map (λ (y : LinearizationPoint). y.operation) one.order k x at.1) ∙ there) in
    subst (λ (o : Operation). home tiles o < tiles) same
    (home_within tiles tags (length opening) (run n) x.source x.index x.operation one.shown (one.legal.issued k x at.1).operation)

-- a bank's entries are the operations at home there
bank_told : (tiles tags : ℕ) (opening : List ℕ) (run : Run) (n : ℕ) (rows : List Ordered) (one : HasOneOrder tiles tags opening run n rows) (b : ℕ)
    → map told_by (list_at (run n).entries b) ≡ filter (of_bank tiles b) (all_told one.order opening)
bank_told tiles tags opening run n rows one b =
    let es : List Entry = list_at (run n).entries b in
    let qs : List Told = all_told one.order opening in
    same_lists (map told_by es) (filter (of_bank tiles b) qs)
    (omega (arith, length-map es told_by, one.services.no_others b, length-filter (of_bank tiles b) qs, same_count tiles b one.order opening))
    (λ k x y hx hy.
    let in_map = slice_get_within (map told_by es) k x hx in
    let count = length-map es told_by in
    let e = within_length es k (omega arith) in
    let first : told_by e.0 ≡ x = same_Some (told_by e.0) x (sym (get_map told_by es k e.0 e.1) ∙ hx) in
    let at = point_of_entry tiles tags opening run n rows one b k e.0 e.1 in
    let o : Operation = at.point.operation in
    let asks = told_at (operations_of one.order) opening at.k o e.0.reply (get_map (λ (z : LinearizationPoint). z.operation) one.order at.k at.point at.there)
    at.reply in
    let there = filter_at (of_bank tiles b) qs at.k (o, e.0.reply) asks (eq-eqb (home tiles o) b at.bank) in
    let place : count_by (of_bank tiles b) (take at.k qs) ≡ k = same_count_before tiles b one.order opening at.k ∙ at.before in
    let second : (o, e.0.reply) ≡ y = same_Some (o, e.0.reply) y (sym there ∙ (ap (slice_get (filter (of_bank tiles b) qs)) place ∙ hy)) in
    let pair : Operation → Told = λ p. (p, e.0.reply) in
    sym first ∙ (ap pair at.operation ∙ second))

-- all entries, bank by bank
entries_told : (tiles tags : ℕ) (opening : List ℕ) (run : Run) (n : ℕ) (rows : List Ordered) (one : HasOneOrder tiles tags opening run n rows)
    → map told_by (flat_map (λ es. es) (run n).entries) ≡ by_bank tiles 0 tiles (all_told one.order opening)
entries_told tiles tags opening run n rows one =
    joined told_by tiles 0 (run n).entries (all_told one.order opening) (λ b l.
    let e : b ≡ 0 + b = omega arith in
    bank_told tiles tags opening run n rows one b ∙ ap (λ c. filter (of_bank tiles c) (all_told one.order opening)) e)
    ∙ ap (λ k. by_bank tiles 0 k (all_told one.order opening)) one.shown.banks

pub banks_replay : (tiles tags : ℕ) (opening : List ℕ) (run : Run) (n : ℕ) (rows : List Ordered) → HasOneOrder tiles tags opening run n rows
    → ReplaysByBank opening (run n)
banks_replay tiles tags opening run n rows one =
    let es : List Entry = flat_map (λ es. es) (run n).entries in
    let os : List Operation = operations_of one.order in
    let qs : List Told = all_told one.order opening in
    let are : map told_by es ≡ by_bank tiles 0 tiles qs = entries_told tiles tags opening run n rows one in
    let homes = all_at_home tiles tags opening run n rows one in
    record {
      told = ap (λ ps. replies ps opening) (sym (asked_by es))
          ∙ (ap (λ rs. replies (asked rs) opening) are
          ∙ (replays_replies (by_bank tiles 0 tiles qs) opening (by_bank_replays tiles qs opening homes (told_replays os opening))
          ∙ (ap (map (λ (q : Told). q.1)) (sym are) ∙ replied_by es)));
      left = ap (λ ps. memory_after ps opening) (sym (asked_by es))
          ∙ (ap (λ rs. memory_after (asked rs) opening) are
          ∙ (by_bank_words tiles qs opening homes
          ∙ (ap (λ ps. memory_after ps opening) (asked_told os opening) ∙ sym one.legal.memory)));
    }

entries_counted : (tiles tags : ℕ) (opening : List ℕ) (run : Run) (n : ℕ) (rows : List Ordered) → HasOneOrder tiles tags opening run n rows
    → length rows ≡ total (run n).entries
entries_counted tiles tags opening run n rows one =
    let es : List Entry = flat_map (λ es. es) (run n).entries in
    let os : List Operation = operations_of one.order in
    let qs : List Told = all_told one.order opening in
    let are = ap length (entries_told tiles tags opening run n rows one) in
    omega (
      arith,
      one.numbered.count,
      length-map one.order (λ (x : LinearizationPoint). x.operation),
      length-told os opening,
      length-by_bank tiles qs (all_at_home tiles tags opening run n rows one),
      are,
      length-map es told_by,
      length-joined (run n).entries,
    )

pub name_entries : (tiles tags : ℕ) (opening : List ℕ) (run : Run) (n : ℕ) (rows : List Ordered) → HasOneOrder tiles tags opening run n rows
    → NameEntries (run n) rows
name_entries tiles tags opening run n rows one = record {
  named = names_entry tiles tags opening run n rows one;
  every = row_of_entry tiles tags opening run n rows one;
  once = rows_apart tiles tags opening run n rows one;
  places = places_rise tiles tags opening run n rows one;
  count = entries_counted tiles tags opening run n rows one;
}
