-- One more order line.
use Rattle.std.proofs.Common.{◌≡◌, ◌≢◌, ◌<◌, ◌≤◌, ℕ, ◌+◌, ◌==◌, ◌||◌, Bool, false, List, [], ◌∷◌, ◌++◌, length, flat_map, slice_set, slice_index, slice_index_or, sym}
use Rattle.std.proofs.Common.{refl, ap, subst, ◌∙◌, ⊎_elim}
use Rattle.std.specs.List.{list_any}
use Rattle.std.proofs.lemmas.List.{length_push, append-nil, get_or-set_same, get_or-set_other}
use Rattle.std.proofs.lemmas.List.Elements.{filter-append}
use Rattle.std.proofs.lemmas.List.Concat.{flat_map-append}
use Rattle.std.proofs.lemmas.List.Folds.{list_any-append}
use Rattle.std.proofs.lemmas.Bool.{cases_eq, eq-eqb, ne_eqb}
use Rattle.report_lines.specs.declared.line.OrderLine.{OrderLine}
use Rattle.report_check.specs.Seen.{orders_at, events_in, is_named}
use Rattle.report_check.specs.Shows.{OrdersShown}
use Rattle.report_check.proofs.Pushes.{above_map_push}

pub orders_at_here : (orders : List OrderLine) (o : OrderLine) → orders_at (orders ++ o ∷ []) o.bank ≡ orders_at orders o.bank ++ o ∷ []
orders_at_here orders o = filter-append (λ x. x.bank == o.bank) orders (o ∷ []) ∙ rw (eq-eqb o.bank o.bank refl)

pub orders_at_other : (orders : List OrderLine) (o : OrderLine) (bank : ℕ) → bank ≢ o.bank → orders_at (orders ++ o ∷ []) bank ≡ orders_at orders bank
orders_at_other orders o bank apart =
    let test : (o.bank == bank) ≡ false = ne_eqb o.bank bank (λ h. apart (sym h)) in
    filter-append (λ x. x.bank == bank) orders (o ∷ []) ∙ rw test (append-nil _)

is_named_push : (orders : List OrderLine) (o : OrderLine) (event : ℕ)
    → is_named (orders ++ o ∷ []) event ≡ (is_named orders event || list_any (λ n. n == event) (events_in o))
is_named_push orders o event =
    let test = λ (ns : List ℕ). list_any (λ n. n == event) ns in
    ap test (flat_map-append events_in orders (o ∷ []))
    ∙ list_any-append (λ n. n == event) (flat_map events_in orders) (flat_map events_in (o ∷ []))
    ∙ ap (λ (ns : List ℕ). is_named orders event || list_any (λ n. n == event) ns) (append-nil (events_in o))

pub order_shown : (orders : List OrderLine) (next : ℕ) (ordered now : List ℕ) (used new : List Bool) (o : OrderLine) (after : ℕ) → after ≡ o.served + 1
    → now ≡ slice_set ordered o.bank (o.place + 1) → OrdersShown orders next ordered used → o.bank < length ordered → slice_index ordered o.bank ≡ o.place
    → ((other : ℕ) → other ≤ 196608 → slice_index_or new other false ≡ (slice_index_or used other false || list_any (λ n. n == other) (events_in o)))
    → OrdersShown (orders ++ o ∷ []) after now new
order_shown orders next ordered now used new o after more is shown inside few named = record {
  next_is = more ∙ sym (above_map_push (λ x. x.served) orders o);
  at_bank = λ bank.
      let P : ℕ → Type 0 = λ b. slice_index now b ≡ length (orders_at (orders ++ o ∷ []) b) in
      let of_now = λ (b : ℕ) (ns : List ℕ). slice_index ns b in
      ⊎_elim
      (λ same. subst P (sym same)
      (ap (of_now o.bank) is ∙ get_or-set_same ordered o.bank (o.place + 1) 0 inside ∙ ap (λ n. n + 1) (sym few ∙ shown.at_bank o.bank)
      ∙ sym (ap length (orders_at_here orders o) ∙ length_push (orders_at orders o.bank) o)))
      (λ apart. ap (of_now bank) is ∙ get_or-set_other ordered o.bank bank (o.place + 1) 0 apart ∙ shown.at_bank bank ∙ sym (ap length (orders_at_other orders o bank apart)))
      (cases_eq bank o.bank);
  named = λ event low. named event low ∙ ap (λ (b : Bool). b || list_any (λ n. n == event) (events_in o)) (shown.named event low)
      ∙ sym (is_named_push orders o event);
}
