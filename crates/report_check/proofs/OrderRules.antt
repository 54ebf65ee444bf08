-- An order line and a last line that break no rule are allowed.
use Rattle.std.proofs.Common.{◌≡◌, ◌⊎◌, ℕ, ◌<◌, ◌==◌, Bool, true, false, List, [], ◌∷◌, Option, Some, None, IfSome, is_some, IsTrue, length, map, nat_le}
use Rattle.std.proofs.Common.{if◌then◌else◌}
use Rattle.std.proofs.Common.{refl, sym, ap, inl, inr, ◌∙◌, arith}
use Rattle.std.proofs.lemmas.Bool.{eqb-true, ltb-true, leb-true, cases_lt, false≢true, ne_eqb}
use Rattle.std.specs.Prelude.{slice_get}
use Rattle.std.proofs.lemmas.Option.{none-some, slice_get_within}
use Rattle.report_lines.specs.declared.line.EntryLine.{EntryLine}
use Rattle.report_lines.specs.declared.line.OrderLine.{OrderLine}
use Rattle.report_check.specs.Seen.{Seen, above_last, entries_at, is_answered, orders_at, is_named}
use Rattle.report_check.specs.Good.{IsNewEvent, OrdersNext, AllowedOrder, IsWholeOrder, IsAllAnswered, AllowedEnd}
use Rattle.report_check.specs.declared.rule.Kind.TheVariants as kind
use Rattle.report_check.specs.declared.rule.Rule.{Rule}
use Rattle.report_check.specs.Broken.{◌<|>◌, answer_untimely, event_broken, answer_event_broken, turn_broken, events_broken, order_broken, behind_broken}
use Rattle.report_check.specs.Broken.{left_untold}
use Rattle.report_check.specs.Broken.{bank_unordered, unordered, orders_broken, place_unanswered, unanswered_at, first_unanswered, end_broken}
use Rattle.report_check.proofs.RuleTests.{unless_kept, or_kept, last_kept, and_both, not_true, same_true, first_from-none}
use Rattle.report_check.proofs.HeadRules.{behind_kept, told_kept}
use Rattle.report_check.proofs.Banked.{Banked}

event_kept : (s : Seen) (n : ℕ) → event_broken s n ≡ None → IsNewEvent s n
event_kept s n h =
    let new = last_kept _ _ _ h in
    let limits = and_both (nat_le 1 n) (nat_le n 196608) (unless_kept _ _ new.0) in
    record { low = leb-true 1 n limits.0; high = leb-true n 196608 limits.1; new = not_true (is_named s.orders n) new.1 }

answered_kept : (s : Seen) (served : ℕ) (answered : Option ℕ) → answer_untimely served answered ≡ None → answer_event_broken s answered ≡ None
    → IfSome answered (λ n. (served < n) × IsNewEvent s n)
answered_kept s served None timely new = tt
answered_kept s served (Some n) timely new = (ltb-true served n (unless_kept _ _ timely), event_kept s n new)

turn_kept : (s : Seen) (o : OrderLine) (found : Option EntryLine) → slice_get (entries_at s.entries o.bank) o.place ≡ found → turn_broken s o found ≡ None
    → OrdersNext s o
turn_kept s o None is h = absurd (none-some _ (sym h))
turn_kept s o (Some e) is h =
    let answered = last_kept _ _ _ h in
    record {
      there = slice_get_within (entries_at s.entries o.bank) o.place e is;
      next = eqb-true o.place (length (orders_at s.orders o.bank)) (unless_kept _ _ answered.0);
      is_answered = same_true (is_some o.answered) (is_answered s.answers o.bank o.place) answered.1;
    }

pub order_kept : (s : Seen) (o : OrderLine) → order_broken s o ≡ None → AllowedOrder s o
order_kept s o h =
    let events = or_kept (behind_broken s 7 kind.Order <|> left_untold s s.words <|> turn_broken s o (slice_get (entries_at s.entries o.bank) o.place)) (events_broken s o) h in
    let turn = or_kept (behind_broken s 7 kind.Order <|> left_untold s s.words) (turn_broken s o (slice_get (entries_at s.entries o.bank) o.place)) events.0 in
    let told = or_kept (behind_broken s 7 kind.Order) (left_untold s s.words) turn.0 in
    let answer = or_kept _ (answer_event_broken s o.answered) events.1 in
    let served = or_kept _ (event_broken s o.served) answer.0 in
    let issued = or_kept _ (event_broken s o.issued) served.0 in
    let rises = last_kept _ _ _ issued.0 in
    let timely = or_kept _ (answer_untimely o.served o.answered) rises.0 in
    record {
      section = behind_kept s 7 kind.Order told.0;
      told = told_kept s s.words told.1;
      next = turn_kept s o (slice_get (entries_at s.entries o.bank) o.place) refl turn.1;
      rises = leb-true (above_last (map (λ x. x.served) s.orders)) o.served rises.1;
      events = record {
        issued = event_kept s o.issued issued.1;
        served = event_kept s o.served served.1;
        issued_first = ltb-true o.issued o.served (unless_kept _ _ timely.0);
        answered = answered_kept s o.served o.answered timely.1 answer.1;
      };
    }

no_orders : (orders : List OrderLine) (other : Option Rule) → (if length orders == 0 then None else other) ≡ None → (orders ≡ []) ⊎ (other ≡ None)
no_orders [] other h = inl refl
no_orders (o ∷ os) other h =
    let test : (length (o ∷ os) == 0) ≡ false = ne_eqb (length (o ∷ os)) 0 (λ none. absurd (omega (arith, none))) in
    inr (sym (ap (λ b. if b then None else other) test) ∙ h)

each_bank : (s : Seen) → Banked s → unordered s ≡ None → (bank : ℕ) → length (orders_at s.orders bank) ≡ length (entries_at s.entries bank)
each_bank s banked h bank =
    elim (cases_lt bank s.tiles) [
      | inl low ↦ eqb-true (length (orders_at s.orders bank)) (length (entries_at s.entries bank))
          (unless_kept _ _ (first_from-none (bank_unordered s) 0 s.tiles h bank (omega arith) (omega (arith, low))))
      | inr past ↦ ap length (banked.orders bank past) ∙ sym (ap length (banked.entries bank past))
    ]

orders_kept : (s : Seen) → Banked s → orders_broken s ≡ None → IsWholeOrder s
orders_kept s banked h =
    elim (no_orders s.orders (unordered s) h) [
      | inl none ↦ inl none
      | inr all ↦ inr (each_bank s banked all)
    ]

all_answered : (s : Seen) → Banked s → first_unanswered s true ≡ None → IsAllAnswered s.entries s.answers
all_answered s banked h bank place inside =
    elim (cases_lt bank s.tiles) [
      | inl low ↦ unless_kept (is_answered s.answers bank place) _
          (first_from-none (place_unanswered s bank) 0 (length (entries_at s.entries bank))
          (first_from-none (unanswered_at s) 0 s.tiles h bank (omega arith) (omega (arith, low))) place (omega arith) (omega (arith, inside)))
      | inr past ↦ let none : length (entries_at s.entries bank) ≡ 0 = ap length (banked.entries bank past) in absurd (omega (arith, inside, none))
    ]

complete_kept : (s : Seen) (complete : Bool) → Banked s → first_unanswered s complete ≡ None → IsTrue complete → IsAllAnswered s.entries s.answers
complete_kept s true banked h said = all_answered s banked h
complete_kept s false banked h said = absurd (false≢true said)

pub end_kept : (s : Seen) (complete : Bool) → Banked s → end_broken s complete ≡ None → AllowedEnd s complete
end_kept s complete banked h =
    let all = or_kept (behind_broken s 7 kind.End <|> left_untold s s.words <|> orders_broken s) (first_unanswered s complete) h in
    let orders = or_kept (behind_broken s 7 kind.End <|> left_untold s s.words) (orders_broken s) all.0 in
    let told = or_kept (behind_broken s 7 kind.End) (left_untold s s.words) orders.0 in
    record {
      section = behind_kept s 7 kind.End told.0;
      told = told_kept s s.words told.1;
      orders = orders_kept s banked orders.1;
      all_answered = complete_kept s complete banked all.1;
    }
