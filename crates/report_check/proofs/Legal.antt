-- The order lines of a good report give one order of its entries.
use Rattle.std.proofs.Common.{◌≡◌, ◌≢◌, ◌≤◌, ◌<◌, ℕ, zero, suc, ◌+◌, List, [], ◌∷◌, ◌++◌, All, IfSome, Option, Some, None, length, get_or, map, fold}
use Rattle.std.proofs.Common.{refl, sym, ap, subst, ◌∙◌, arith, ⊎_elim}
use Rattle.std.specs.List.{range_with_len}
use Rattle.std.specs.List.Sorted.{IsStrictlyIncreasing}
use Rattle.std.proofs.lemmas.Bool.{cases_eq, cases_lt}
use Rattle.std.proofs.lemmas.List.{length_push, map-append, get_or_append_left}
use Rattle.std.proofs.lemmas.List.Elements.{All-push}
use Rattle.report_lines.proofs.Indexes.{range-more}
use Rattle.report_lines.specs.declared.line.OrderLine.{OrderLine}
use Rattle.report_lines.specs.declared.line.ReportLine.{ReportLine}
use Rattle.report_lines.specs.declared.line.ReportLine.TheVariants.{Header, Shape, Init, Entry, Answer, Word, Order, End}
use Rattle.report_check.specs.Seen.{Seen, nothing_seen, seen_after, seen_of, above_last, entries_at, orders_at}
use Rattle.report_check.specs.Good.{MayStand, AreGood, IsNewEvent, IsWholeOrder}
use Rattle.report_check.specs.Meaning.{IsTimely, OrdersEntries}
use Rattle.report_check.proofs.Orders.{orders_at_here, orders_at_other}
use Rattle.report_check.proofs.Standing.{kept_by_all}

-- numbers that rise, and one above the last
last_of : (d : ℕ) (xs : List ℕ) (k : ℕ) → k + 1 ≡ length xs → fold (λ _ n. n + 1) d xs ≡ get_or xs k 0 + 1
last_of d [] k is = absurd (omega (arith, is))
last_of d (x ∷ []) zero is = refl
last_of d (x ∷ []) (suc k) is = absurd (omega (arith, is))
last_of d (x ∷ y ∷ xs) zero is = absurd (omega (arith, is))
last_of d (x ∷ y ∷ xs) (suc k) is = last_of (x + 1) (y ∷ xs) k (omega (arith, is))

here : (xs : List ℕ) (x : ℕ) → get_or (xs ++ x ∷ []) (length xs) 0 ≡ x
here [] x = refl
here (y ∷ xs) x = here xs x

rises-push : (xs : List ℕ) (x : ℕ) → IsStrictlyIncreasing xs → above_last xs ≤ x → IsStrictlyIncreasing (xs ++ x ∷ [])
rises-push xs x rises above k inside =
    let left : get_or (xs ++ x ∷ []) k 0 ≡ get_or xs k 0 = get_or_append_left xs (x ∷ []) 0 k (omega (arith, inside, length_push xs x)) in
    ⊎_elim
    (λ (more : k + 1 < length xs).
    let right : get_or (xs ++ x ∷ []) (k + 1) 0 ≡ get_or xs (k + 1) 0 = get_or_append_left xs (x ∷ []) 0 (k + 1) more in
    omega (arith, left, right, rises k more))
    (λ (no_more : length xs ≤ k + 1).
    let at : k + 1 ≡ length xs = omega (arith, inside, length_push xs x, no_more) in
    let right : get_or (xs ++ x ∷ []) (k + 1) 0 ≡ x = ap (λ i. get_or (xs ++ x ∷ []) i 0) at ∙ here xs x in
    omega (arith, left, right, last_of 0 xs k at, above))
    (cases_lt (k + 1) (length xs))

abbrev place_in : OrderLine → ℕ
place_in o = o.place

abbrev served_in : OrderLine → ℕ
served_in o = o.served

record Orders (s : Seen) : Type 0 where
  places : (bank : ℕ) → map place_in (orders_at s.orders bank) ≡ range_with_len 0 (length (orders_at s.orders bank))
  rises : IsStrictlyIncreasing (map served_in s.orders)
  timely : All IsTimely s.orders
  none : s.section ≤ 6 → s.orders ≡ []
  whole : s.section ≡ 8 → IsWholeOrder s

-- a line of another kind
orders_stay : (s t : Seen) → t.orders ≡ s.orders → (t.section ≤ 6 → s.section ≤ 6) → (t.section ≡ 8 → IsWholeOrder t) → Orders s → Orders t
orders_stay s t same early whole o =
    let P : List OrderLine → Type 0 = λ os. (bank : ℕ) → map place_in (orders_at os bank) ≡ range_with_len 0 (length (orders_at os bank)) in
    let Q : List OrderLine → Type 0 = λ os. IsStrictlyIncreasing (map served_in os) in
    record {
      places = subst P (sym same) o.places;
      rises = subst Q (sym same) o.rises;
      timely = subst (All IsTimely) (sym same) o.timely;
      none = λ is. same ∙ o.none (early is);
      whole = whole;
    }

-- no order line
orders_none : (s : Seen) → s.orders ≡ [] → (s.section ≡ 8 → ⊥) → Orders s
orders_none s none early =
    let P : List OrderLine → Type 0 = λ os. (bank : ℕ) → map place_in (orders_at os bank) ≡ range_with_len 0 (length (orders_at os bank)) in
    let Q : List OrderLine → Type 0 = λ os. IsStrictlyIncreasing (map served_in os) in
    record {
      places = subst P (sym none) (λ bank. refl);
      rises = subst Q (sym none) (λ k inside. absurd (omega (arith, inside)));
      timely = subst (All IsTimely) (sym none) (λ k d inside. absurd (omega (arith, inside)));
      none = λ _. none;
      whole = λ is. absurd (early is);
    }

timely_answer : (answered : Option ℕ) (s : Seen) (served : ℕ) → IfSome answered (λ n. (served < n) × IsNewEvent s n) → IfSome answered (λ n. served < n)
timely_answer None s served h = h
timely_answer (Some n) s served h = h.0

timely_of : (o : OrderLine) (s : Seen) → MayStand s (Order o) → IsTimely o
timely_of o s may = (may.allowed.events.issued_first, timely_answer o.answered s o.served may.allowed.events.answered)

places_push : (s : Seen) (o : OrderLine) (bank : ℕ) → o.place ≡ length (orders_at s.orders o.bank) → Orders s
    → map place_in (orders_at (s.orders ++ o ∷ []) bank) ≡ range_with_len 0 (length (orders_at (s.orders ++ o ∷ []) bank))
places_push s o bank next os =
    let P : ℕ → Type 0 = λ b. map place_in (orders_at (s.orders ++ o ∷ []) b) ≡ range_with_len 0 (length (orders_at (s.orders ++ o ∷ []) b)) in
    let mine : List OrderLine = orders_at s.orders o.bank in
    ⊎_elim
    (λ (same : bank ≡ o.bank). subst P (sym same)
    (let here : orders_at (s.orders ++ o ∷ []) o.bank ≡ mine ++ o ∷ [] = orders_at_here s.orders o in
    let count : length (mine ++ o ∷ []) ≡ suc (length mine) = omega (arith, length_push mine o) in
    let at : 0 + length mine ≡ o.place = omega (arith, next) in
    ap (map place_in) here ∙ map-append place_in mine (o ∷ [])
    ∙ ap (λ (ps : List ℕ). ps ++ o.place ∷ []) (os.places o.bank)
    ∙ ap (λ p. range_with_len 0 (length mine) ++ p ∷ []) (sym at)
    ∙ sym (range-more 0 (length mine))
    ∙ ap (range_with_len 0) (sym (ap length here ∙ count))))
    (λ (apart : bank ≢ o.bank).
    let there : orders_at (s.orders ++ o ∷ []) bank ≡ orders_at s.orders bank = orders_at_other s.orders o bank apart in
    ap (map place_in) there ∙ os.places bank ∙ ap (λ (xs : List OrderLine). range_with_len 0 (length xs)) (sym there))
    (cases_eq bank o.bank)

orders_push : (s : Seen) (o : OrderLine) → MayStand s (Order o) → Orders s → Orders (seen_after s (Order o))
orders_push s o may os =
    record {
      places = λ bank. places_push s o bank may.allowed.next.next os;
      rises = subst IsStrictlyIncreasing (sym (map-append served_in s.orders (o ∷ [])))
          (rises-push (map served_in s.orders) o.served os.rises may.allowed.rises);
      timely = All-push IsTimely s.orders o os.timely (timely_of o s may);
      none = λ is. absurd (omega (arith, is));
      whole = λ is. absurd (omega (arith, is));
    }

orders_after : (x : Unit {0}) (s : Seen) (line : ReportLine) → MayStand s line → Orders s → Orders (seen_after s line)
orders_after x s (Header version) may os =
    orders_stay s (seen_after s (Header version)) refl (λ _. omega (arith, may.allowed.first)) (λ is. absurd (omega (arith, is))) os
orders_after x s (Shape radices words) may os = orders_none (seen_after s (Shape radices words)) refl (λ is. absurd (omega (arith, is)))
orders_after x s (Init a v) may os =
    orders_stay s (seen_after s (Init a v)) refl (λ _. omega (arith, may.allowed.section.early)) (λ is. absurd (omega (arith, is))) os
orders_after x s (Entry e) may os =
    orders_stay s (seen_after s (Entry e)) refl (λ _. omega (arith, may.allowed.section.early)) (λ is. absurd (omega (arith, is))) os
orders_after x s (Answer a) may os =
    orders_stay s (seen_after s (Answer a)) refl (λ _. omega (arith, may.allowed.section.section.early)) (λ is. absurd (omega (arith, is))) os
orders_after x s (Word a v) may os = orders_stay s (seen_after s (Word a v)) refl (λ _. may.allowed.section.section.early) (λ is. absurd (omega (arith, is))) os
orders_after x s (Order o) may os = orders_push s o may os
orders_after x s (End complete) may os = orders_stay s (seen_after s (End complete)) refl (λ is. absurd (omega (arith, is))) (λ _. may.allowed.orders) os

pub orders_whole : (lines : List ReportLine) → AreGood lines → (seen_of lines).orders ≢ [] → OrdersEntries (seen_of lines)
orders_whole lines good some =
    let s : Seen = seen_of lines in
    let os : Orders s = kept_by_all (λ x line. x) (λ (x : Unit {0}) (t : Seen). Orders t) orders_after tt nothing_seen lines good.each
    (orders_none nothing_seen refl (λ is. absurd (omega (arith, is)))) in
    let counts : (bank : ℕ) → length (orders_at s.orders bank) ≡ length (entries_at s.entries bank) =
    ⊎_elim (λ (none : s.orders ≡ []). absurd (some none)) (λ (all : (bank : ℕ) → length (orders_at s.orders bank) ≡ length (entries_at s.entries bank)). all)
    (os.whole good.ended) in
    record {
      places = λ bank. os.places bank ∙ ap (range_with_len 0) (counts bank);
      rises = os.rises;
      timely = os.timely;
    }
