-- A line that is allowed breaks no rule.
use Rattle.std.proofs.Common.{◌≡◌, ◌≢◌, ℕ, ◌+◌, ◌-◌, ◌%◌, ◌≤◌, ◌<◌, ◌==◌, ◌&&◌, ◌||◌, Bool, true, false, not, zero, suc, List, [], ◌∷◌, Option, Some, None}
use Rattle.std.proofs.Common.{IfSome, is_some}
use Rattle.std.proofs.Common.{length, map, nat_le, if◌then◌else◌, slice_index, refl, sym, ap, ◌∙◌, inl, inr, arith, ⊎_elim}
use Rattle.std.specs.Prelude.{slice_get}
use Rattle.std.specs.List.{AllByRecursion}
use Rattle.std.specs.Option.{option_or}
use Rattle.std.proofs.lemmas.Option.{slice_get_cases}
use Rattle.std.proofs.lemmas.Bool.{lt-ltb, le-leb, eq-eqb, eqb-true, ne_eqb}
use Rattle.torus.specs.Shape.{product}
use Rattle.packet.specs.Memory.{reply_of_one}
use Rattle.packet.specs.declared.kinds.Reply.{Reply}
use Rattle.packet.specs.declared.kinds.Reply.TheVariants.{Old, Ok as Stored}
use Rattle.report_lines.specs.Contents.{is_newer}
use Rattle.report_lines.specs.Line.{radix_list}
use Rattle.report_lines.specs.declared.line.Radices.{Radices}
use Rattle.report_lines.specs.declared.line.EntryLine.{EntryLine}
use Rattle.report_lines.specs.declared.line.AnswerLine.{AnswerLine}
use Rattle.report_lines.specs.declared.line.OrderLine.{OrderLine}
use Rattle.report_lines.specs.declared.line.ReportLine.{ReportLine}
use Rattle.report_lines.specs.declared.line.ReportLine.TheVariants.{Header, Shape, Init, Entry, Answer, Word, Order, End}
use Rattle.report_check.specs.Seen.{Seen, above_last, last_bank, entries_at, has_newer, is_answered, key_of, line_operation, orders_at, is_named}
use Rattle.report_check.specs.Good.{InSection, BehindEntries, AllowedHeader, AllowedShape, AllowedInit, IsNext, IsHome, AllowedEntry, NamesUnansweredEntry}
use Rattle.report_check.specs.Good.{AllowedAnswer, ToldBelow, AllowedWord, IsNewEvent, OrdersNext, HasNewEvents, AllowedOrder, IsWholeOrder, IsAllAnswered}
use Rattle.report_check.specs.Good.{AllowedEnd, Allowed}
use Rattle.report_check.specs.declared.rule.Kind.{Kind}
use Rattle.report_check.specs.declared.rule.Kind.TheVariants as kind
use Rattle.report_check.specs.declared.rule.Rule.{Rule}
use Rattle.report_check.specs.Lists.{same_reply, first_or, first_from}
use Rattle.report_check.specs.Broken.{unless, is_same, place_broken, header_broken, radix_broken, radices_broken, shape_broken, word_broken, init_broken}
use Rattle.report_check.specs.Broken.{next_broken, home_broken, reply_broken, entry_broken, behind_broken, named_broken, answer_broken, word_left, left_untold}
use Rattle.report_check.specs.Broken.{told_broken, answer_untimely, event_broken, answer_event_broken, turn_broken, events_broken, order_broken}
use Rattle.report_check.specs.Broken.{bank_unordered, unordered, orders_broken, place_unanswered, unanswered_at, first_unanswered, end_broken, line_broken}

unless_none : (b : Bool) (wrong : Rule) → b ≡ true → unless b wrong ≡ None
unless_none b wrong e = ap (λ x. unless x wrong) e

or_none : (a b : Option Rule) → a ≡ None → b ≡ None → option_or a b ≡ None
or_none a b x y = ap (λ z. option_or z b) x ∙ y

-- a rule behind others
last_none : (a : Option Rule) (b : Bool) (wrong : Rule) → a ≡ None → b ≡ true → option_or a (unless b wrong) ≡ None
last_none a b wrong x y = or_none a (unless b wrong) x (unless_none b wrong y)

both_true : (a b : Bool) → a ≡ true → b ≡ true → (a && b) ≡ true
both_true a b x y = ap (λ z. z && b) x ∙ y

left_true : (a b : Bool) → a ≡ true → (a || b) ≡ true
left_true a b x = ap (λ z. z || b) x

right_true : (a b : Bool) → b ≡ true → (a || b) ≡ true
right_true true b y = refl
right_true false b y = y

-- an implication as a test
implied_true : (a b : Bool) → (a ≡ true → b ≡ true) → (not a || b) ≡ true
implied_true true b h = h refl
implied_true false b h = refl

not_false : (a : Bool) → a ≡ false → not a ≡ true
not_false a e = ap not e

apart_true : (m n : ℕ) → m ≢ n → not (m == n) ≡ true
apart_true m n h = not_false (m == n) (ne_eqb m n h)

same_is : (a b : Bool) → a ≡ b → is_same a b ≡ true
same_is true b e = sym e
same_is false b e = ap not (sym e)

one_reply : (a : Reply) → same_reply a a ≡ true
one_reply Stored = refl
one_reply (Old word) = eq-eqb word word refl

reply_is : (a b : Reply) → a ≡ b → same_reply a b ≡ true
reply_is a b e = sym (ap (λ x. same_reply a x) e) ∙ one_reply a

-- where no number has it, none is found
all_none : {X : Type 0} (at : ℕ → Option X) (n left : ℕ) → ((k : ℕ) → n ≤ k → k < n + left → at k ≡ None) → first_from at n left ≡ None
all_none at n zero h = refl
all_none at n (suc left) h =
    ap (λ first. first_or first (first_from at (n + 1) left)) (h n (omega arith) (omega arith))
    ∙ all_none at (n + 1) left (λ k low high. h k (omega (arith, low)) (omega (arith, high)))

place_none : (s : Seen) (latest : ℕ) (found : Kind) → latest < 8 → InSection s latest → place_broken s.section latest found ≡ None
place_none s latest found low h =
    last_none _ _ _
    (last_none _ _ _
    (last_none _ _ _
    (unless_none _ _ (apart_true s.section 0 (λ e. absurd (omega (arith, h.shaped, e)))))
    (apart_true s.section 1 (λ e. absurd (omega (arith, h.shaped, e)))))
    (apart_true s.section 8 (λ e. absurd (omega (arith, h.early, low, e)))))
    (le-leb s.section latest h.early)

header_none : (s : Seen) (version : ℕ) → AllowedHeader s version → header_broken s.section version ≡ None
header_none s version h =
    last_none _ _ _
    (last_none _ _ _
    (last_none _ _ _
    (unless_none _ _ (apart_true s.section 1 (λ e. absurd (omega (arith, h.first, e)))))
    (apart_true s.section 8 (λ e. absurd (omega (arith, h.first, e)))))
    (eq-eqb s.section 0 h.first))
    (elim h.known [
      | inl one ↦ left_true (version == 1) (version == 2) (eq-eqb version 1 one)
      | inr two ↦ right_true (version == 1) (version == 2) (eq-eqb version 2 two)
    ])

radix_none : (radices : List ℕ) → AllByRecursion (λ k. (2 ≤ k) × (k ≤ 8)) radices → radix_broken radices ≡ None
radix_none [] h = refl
radix_none (k ∷ ks) h =
    or_none _ (radix_broken ks) (unless_none _ _ (both_true (nat_le 2 k) (nat_le k 8) (le-leb 2 k h.0.0) (le-leb k 8 h.0.1))) (radix_none ks h.1)

shape_none : (s : Seen) (radices : Radices) (words : ℕ) → AllowedShape s radices words → shape_broken s.section radices words ≡ None
shape_none s radices words h =
    last_none _ _ _
    (or_none _ (radices_broken (radix_list radices))
    (last_none _ _ _
    (last_none _ _ _
    (unless_none _ _ (apart_true s.section 0 (λ e. absurd (omega (arith, h.behind_header, e)))))
    (apart_true s.section 8 (λ e. absurd (omega (arith, h.behind_header, e)))))
    (eq-eqb s.section 1 h.behind_header))
    (last_none (radix_broken (radix_list radices)) _ _ (radix_none (radix_list radices) h.limits.each)
    (le-leb (product (radix_list radices)) 64 h.limits.tiles)))
    (both_true (nat_le 1 words) (nat_le words 65536) (le-leb 1 words h.words_low) (le-leb words 65536 h.words_high))

word_none : (words least address value : ℕ) → least ≤ address → address < words → 0 < value → word_broken words least address value ≡ None
word_none words least address value rises inside some =
    last_none _ _ _
    (last_none _ _ _ (unless_none _ _ (lt-ltb address words inside)) (le-leb least address rises))
    (lt-ltb 0 value some)

init_none : (s : Seen) (address value : ℕ) → AllowedInit s address value → init_broken s address value ≡ None
init_none s address value h =
    or_none (place_broken s.section 3 kind.Init) (word_broken s.words (above_last s.inits) address value) (place_none s 3 kind.Init (omega arith) h.section)
    (word_none s.words (above_last s.inits) address value h.rises h.inside h.not_zero)

next_none : (s : Seen) (e : EntryLine) → IsNext s e → next_broken s e ≡ None
next_none s e h =
    last_none _ _ _
    (last_none _ _ _
    (last_none _ _ _
    (last_none _ _ _
    (last_none _ _ _ (unless_none _ _ (lt-ltb e.bank s.tiles h.bank)) (le-leb (last_bank s.entries) e.bank h.rises))
    (eq-eqb e.place (length (entries_at s.entries e.bank)) h.next))
    (lt-ltb e.source s.tiles h.source))
    (lt-ltb e.tag 16 h.tag))
    (lt-ltb (length s.entries) 65536 h.room)

home_none : (s : Seen) (e : EntryLine) → IsHome s e → (is_newer e.op ≡ true → s.version ≡ 2) → home_broken s e ≡ None
home_none s e h version =
    last_none _ _ _
    (last_none _ _ _ (unless_none _ _ (lt-ltb e.address s.words h.inside)) (eq-eqb (e.address % s.tiles) e.bank h.home))
    (implied_true (is_newer e.op) (s.version == 2) (λ newer. eq-eqb s.version 2 (version newer)))

entry_none : (s : Seen) (e : EntryLine) → AllowedEntry s e → entry_broken s e ≡ None
entry_none s e h =
    or_none _ (reply_broken s e)
    (or_none _ (home_broken s e)
    (or_none (place_broken s.section 4 kind.Entry) (next_broken s e) (place_none s 4 kind.Entry (omega arith) h.section) (next_none s e h.next))
    (home_none s e h.home h.version))
    (unless_none _ _ (reply_is e.reply (reply_of_one (line_operation e) s.memory) h.reply))

behind_none : (s : Seen) (latest : ℕ) (found : Kind) → latest < 8 → BehindEntries s latest → behind_broken s latest found ≡ None
behind_none s latest found low h =
    last_none (place_broken s.section latest found) _ _ (place_none s latest found low h.section)
    (implied_true (s.version == 2) (has_newer s.entries) (λ two. h.newer (eqb-true s.version 2 two)))

named_none : (s : Seen) (a : AnswerLine) → NamesUnansweredEntry s a → named_broken s a (slice_get (entries_at s.entries a.bank) a.place) ≡ None
named_none s a h =
    ap (λ found. named_broken s a found) h.there
    ∙ last_none _ _ _
    (last_none _ _ _ (unless_none _ _ (eq-eqb h.entry.source a.processor h.source)) (reply_is h.entry.reply a.reply h.reply))
    (not_false (is_answered s.answers a.bank a.place) h.once)

answer_none : (s : Seen) (a : AnswerLine) → AllowedAnswer s a → answer_broken s a ≡ None
answer_none s a h =
    or_none _ (named_broken s a (slice_get (entries_at s.entries a.bank) a.place))
    (last_none _ _ _
    (last_none (behind_broken s 5 kind.Answer) _ _ (behind_none s 5 kind.Answer (omega arith) h.section) (lt-ltb a.index 4096 h.index))
    (le-leb (above_last (map key_of s.answers)) (key_of a) h.rises))
    (named_none s a h.names)

pub told_none : (s : Seen) (end : ℕ) → ToldBelow s.told s.memory end → left_untold s end ≡ None
told_none s end h =
    all_none (word_left s.memory) (above_last s.told) (end - above_last s.told)
    (λ k low high. unless_none (slice_index s.memory k == 0) _ (eq-eqb (slice_index s.memory k) 0 (h k low (omega (arith, low, high)))))

word_line_none : (s : Seen) (address value : ℕ) → AllowedWord s address value → told_broken s address value ≡ None
word_line_none s address value h =
    last_none _ _ _
    (or_none _ (left_untold s address)
    (or_none (behind_broken s 6 kind.Word) (word_broken s.words (above_last s.told) address value) (behind_none s 6 kind.Word (omega arith) h.section)
    (word_none s.words (above_last s.told) address value h.rises h.inside h.not_zero))
    (told_none s address h.none_left))
    (eq-eqb (slice_index s.memory address) value h.is)

event_none : (s : Seen) (n : ℕ) → IsNewEvent s n → event_broken s n ≡ None
event_none s n h =
    last_none _ _ _ (unless_none _ _ (both_true (nat_le 1 n) (nat_le n 196608) (le-leb 1 n h.low) (le-leb n 196608 h.high)))
    (not_false (is_named s.orders n) h.new)

untimely_none : (s : Seen) (served : ℕ) (answered : Option ℕ) → IfSome answered (λ n. (served < n) × IsNewEvent s n) → answer_untimely served answered ≡ None
untimely_none s served None h = refl
untimely_none s served (Some n) h = unless_none _ _ (lt-ltb served n h.0)

answer_event_none : (s : Seen) (served : ℕ) (answered : Option ℕ) → IfSome answered (λ n. (served < n) × IsNewEvent s n) → answer_event_broken s answered ≡ None
answer_event_none s served None h = refl
answer_event_none s served (Some n) h = event_none s n h.1

turn_none : (s : Seen) (o : OrderLine) → OrdersNext s o → turn_broken s o (slice_get (entries_at s.entries o.bank) o.place) ≡ None
turn_none s o h =
    ⊎_elim
    (λ w. ap (turn_broken s o) w.2
    ∙ last_none _ _ _ (unless_none _ _ (eq-eqb o.place (length (orders_at s.orders o.bank)) h.next))
    (same_is (is_some o.answered) (is_answered s.answers o.bank o.place) h.is_answered))
    (λ w. absurd (omega (arith, w.0, h.there)))
    (slice_get_cases (entries_at s.entries o.bank) o.place).1

events_none : (s : Seen) (o : OrderLine) → HasNewEvents s o → above_last (map (λ x. x.served) s.orders) ≤ o.served → events_broken s o ≡ None
events_none s o h rises =
    or_none _ (answer_event_broken s o.answered)
    (or_none _ (event_broken s o.served)
    (or_none _ (event_broken s o.issued)
    (last_none _ _ _
    (or_none _ (answer_untimely o.served o.answered) (unless_none _ _ (lt-ltb o.issued o.served h.issued_first))
    (untimely_none s o.served o.answered h.answered))
    (le-leb (above_last (map (λ x. x.served) s.orders)) o.served rises))
    (event_none s o.issued h.issued))
    (event_none s o.served h.served))
    (answer_event_none s o.served o.answered h.answered)

order_none : (s : Seen) (o : OrderLine) → AllowedOrder s o → order_broken s o ≡ None
order_none s o h =
    or_none _ (events_broken s o)
    (or_none _ (turn_broken s o (slice_get (entries_at s.entries o.bank) o.place))
    (or_none (behind_broken s 7 kind.Order) (left_untold s s.words) (behind_none s 7 kind.Order (omega arith) h.section) (told_none s s.words h.told))
    (turn_none s o h.next))
    (events_none s o h.events h.rises)

pub no_orders_none : (orders : List OrderLine) (other : Option Rule) → orders ≡ [] → (if length orders == 0 then None else other) ≡ None
no_orders_none orders other e = ap (λ (os : List OrderLine). if length os == 0 then None else other) e

orders_none_if : (orders : List OrderLine) (other : Option Rule) → other ≡ None → (if length orders == 0 then None else other) ≡ None
orders_none_if orders other e = choose (length orders == 0) other e
  where
    choose : (b : Bool) (other : Option Rule) → other ≡ None → (if b then None else other) ≡ None
    choose true other e = refl
    choose false other e = e

orders_none : (s : Seen) → IsWholeOrder s → orders_broken s ≡ None
orders_none s h =
    elim h [
      | inl none ↦ no_orders_none s.orders (unordered s) none
      | inr each ↦ orders_none_if s.orders (unordered s)
          (all_none (bank_unordered s) 0 s.tiles
          (λ bank low high. unless_none _ _ (eq-eqb (length (orders_at s.orders bank)) (length (entries_at s.entries bank)) (each bank))))
    ]

unanswered_none : (s : Seen) (complete : Bool) → (complete ≡ true → IsAllAnswered s.entries s.answers) → first_unanswered s complete ≡ None
unanswered_none s false h = refl
unanswered_none s true h =
    all_none (unanswered_at s) 0 s.tiles
    (λ bank low high.
    all_none (place_unanswered s bank) 0 (length (entries_at s.entries bank))
    (λ place least most. unless_none (is_answered s.answers bank place) _ (h refl bank place (omega (arith, most)))))

end_none : (s : Seen) (complete : Bool) → AllowedEnd s complete → end_broken s complete ≡ None
end_none s complete h =
    or_none _ (first_unanswered s complete)
    (or_none _ (orders_broken s)
    (or_none (behind_broken s 7 kind.End) (left_untold s s.words) (behind_none s 7 kind.End (omega arith) h.section) (told_none s s.words h.told))
    (orders_none s h.orders))
    (unanswered_none s complete h.all_answered)

pub line_none : (s : Seen) (line : ReportLine) → Allowed s line → line_broken s line ≡ None
line_none s (Header version) h = header_none s version h
line_none s (Shape radices words) h = shape_none s radices words h
line_none s (Init address value) h = init_none s address value h
line_none s (Entry e) h = entry_none s e h
line_none s (Answer a) h = answer_none s a h
line_none s (Word address value) h = word_line_none s address value h
line_none s (Order o) h = order_none s o h
line_none s (End complete) h = end_none s complete h
