-- The `order` lines go on, and the end stands behind them.
use Rattle.std.proofs.Common.{◌≡◌, ◌⊎◌, ℕ, ◌<◌, ◌≤◌, Bool, true, false, List, [], ◌∷◌, ◌++◌, length, map, IfSome, IsTrue, refl, sym, subst, ◌∙◌, arith}
use Rattle.std.proofs.Common.{append_assoc}
use Rattle.std.specs.Prelude.{is_some}
use Rattle.std.proofs.lemmas.List.{append-nil}
use Rattle.std.proofs.lemmas.Option.{IfSome_then}
use Rattle.report_lines.specs.declared.line.EntryLine.{EntryLine}
use Rattle.report_lines.specs.declared.line.AnswerLine.{AnswerLine}
use Rattle.report_lines.specs.declared.line.OrderLine.{OrderLine}
use Rattle.report_lines.specs.declared.line.ReportLine.TheVariants.{Order, End}
use Rattle.report_check.specs.Seen.{Seen, above_last, entries_at, has_newer, is_answered, orders_at, is_named}
use Rattle.report_check.specs.Good.{ToldBelow, IsAllAnswered, IsNewEvent}
use Rattle.report_check.proofs.Going.{GoesOn, seen_at}

-- an event number that none of the lines has
pub record IsFresh (done : List OrderLine) (event : ℕ) : Type 0 where
  pub low : 1 ≤ event
  pub high : event ≤ 196608
  pub new : is_named done event ≡ false

-- the line of the next entry of its bank, with new numbers
pub record OrdersOn (es : List EntryLine) (ans : List AnswerLine) (done : List OrderLine) (o : OrderLine) : Type 0 where
  pub there : o.place < length (entries_at es o.bank)
  pub next : o.place ≡ length (orders_at done o.bank)
  pub answered : is_some o.answered ≡ is_answered ans o.bank o.place
  pub rises : above_last (map (λ x. x.served) done) ≤ o.served
  pub issue : IsFresh done o.issued
  pub service : IsFresh done o.served
  pub issued_first : o.issued < o.served
  pub answer : IfSome o.answered (λ n. (o.served < n) × IsFresh done n)

-- each line is so behind those that are done
abbrev pub AllOrderOn : List EntryLine → List AnswerLine → List OrderLine → List OrderLine → Type 0
AllOrderOn es ans done [] = Unit {0}
AllOrderOn es ans done (o ∷ os) = OrdersOn es ans done o × AllOrderOn es ans (done ++ o ∷ []) os

-- the order is whole, and behind `end complete` each entry has an answer
pub record Ends (es : List EntryLine) (ans : List AnswerLine) (all : List OrderLine) (complete : Bool) : Type 0 where
  pub whole : (all ≡ []) ⊎ ((bank : ℕ) → length (orders_at all bank) ≡ length (entries_at es bank))
  pub answered : IsTrue complete → IsAllAnswered es ans

pub orders_on : (v t w n : ℕ) (m ins : List ℕ) (es : List EntryLine) (ans : List AnswerLine) (told : List ℕ) (done os all : List OrderLine) (complete : Bool)
    → 2 ≤ n → n ≤ 7 → (v ≡ 2 → has_newer es ≡ true) → ToldBelow told m w → AllOrderOn es ans done os → done ++ os ≡ all → Ends es ans all complete
    → GoesOn (seen_at n v t w m ins es ans told done) (map Order os ++ End complete ∷ [])
orders_on v t w n m ins es ans told done [] all complete low high newer below next are ends =
    let same : all ≡ done = sym are ∙ append-nil done in
    let here : Ends es ans done complete = subst (λ x. Ends es ans x complete) same ends in (
      record {
        section = record { section = record { shaped = low; early = high }; newer = newer };
        told = below;
        orders = here.whole;
        all_answered = here.answered;
      },
      refl,
    )
orders_on v t w n m ins es ans told done (o ∷ os) all complete low high newer below next are ends =
    let h = next.0 in
    let s : Seen = seen_at n v t w m ins es ans told done in (
      record {
        section = record { section = record { shaped = low; early = high }; newer = newer };
        told = below;
        next = record { there = h.there; next = h.next; is_answered = h.answered };
        rises = h.rises;
        events = record {
          issued = record { low = h.issue.low; high = h.issue.high; new = h.issue.new };
          served = record { low = h.service.low; high = h.service.high; new = h.service.new };
          issued_first = h.issued_first;
          answered = IfSome_then o.answered {P = λ k. (o.served < k) × IsFresh done k} {Q = λ k. (o.served < k) × IsNewEvent s k} h.answer
              (λ k p. (p.0, record { low = p.1.low; high = p.1.high; new = p.1.new }));
        };
      },
      orders_on v t w 7 m ins es ans told (done ++ o ∷ []) os all complete (omega arith) (omega arith) newer below next.1 (append_assoc done (o ∷ []) os ∙ are)
          ends,
    )
