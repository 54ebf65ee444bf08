-- Wrong rules of a report: a report that is good, and what the definition lets stand behind some lines and each wrong
-- rule another.
use Rattle.std.proofs.Common.{◌≡◌, inl, inr, ℕ, ◌<◌, ◌≤◌, ◌==◌, Bool, true, false, List, [], ◌∷◌, ◌++◌, Option, Some, None, cond, length, map}
use Rattle.std.proofs.Common.{refl, slice_get, slice_index, arith}
use Rattle.packet.specs.declared.kinds.Op.{Op}
use Rattle.packet.specs.declared.kinds.Op.TheVariants.{Load, Store}
use Rattle.packet.specs.declared.kinds.Reply.{Reply}
use Rattle.packet.specs.declared.kinds.Reply.TheVariants.{Old, Ok as Stored}
use Rattle.packet.specs.Memory.{reply_of_one}
use Rattle.report_lines.specs.declared.line.Radices.TheVariants.{One}
use Rattle.report_lines.specs.declared.line.EntryLine.{EntryLine}
use Rattle.report_lines.specs.declared.line.AnswerLine.{AnswerLine}
use Rattle.report_lines.specs.declared.line.OrderLine.{OrderLine}
use Rattle.report_lines.specs.declared.line.ReportLine.{ReportLine}
use Rattle.report_lines.specs.declared.line.ReportLine.TheVariants.{Header, Shape, Entry, Answer, Order}
use Rattle.report_check.specs.Seen.{Seen, seen_of, above_last, entries_at, is_answered, line_operation, orders_at}
use Rattle.report_check.specs.Good.{BehindEntries, AllowedEntry, NamesUnansweredEntry, AllowedWord, AllowedOrder, IsWholeOrder, IsAllAnswered}

-- two tiles, eight words
abbrev pub shaped : List ReportLine
shaped = Header 1 ∷ Shape (One 2) 8 ∷ []

-- an entry of processor 0, under tag 0
abbrev pub entry : ℕ → ℕ → ℕ → Op → Reply → EntryLine
entry bank place address op reply = record {
  bank = bank;
  place = place;
  source = 0;
  tag = 0;
  address = address;
  op = op;
  reply = reply;
}

abbrev pub answer : ℕ → ℕ → Reply → AnswerLine
answer index place reply = record { processor = 0; index = index; bank = 1; place = place; reply = reply }

abbrev pub order : ℕ → ℕ → ℕ → ℕ → Option ℕ → OrderLine
order bank place issued served answered = record {
  bank = bank;
  place = place;
  issued = issued;
  served = served;
  answered = answered;
}

-- a store of 17 at address 5, whose home is bank 1
abbrev pub store : EntryLine
store = entry 1 0 5 (Store 17) Stored

-- wrong: replies by the opening words, here zeros, and not by the memory so far
abbrev RepliesByOpeningWords : EntryLine → Type 0
RepliesByOpeningWords e = e.reply ≡ reply_of_one (line_operation e) (seen_of shaped).memory

abbrev pub behind_the_store : Seen
behind_the_store = seen_of (shaped ++ Entry store ∷ [])

-- behind the store a load replies 17
abbrev pub load : ℕ → EntryLine
load word = entry 1 1 5 Load (Old word)

pub load_replies_what_was_stored : AllowedEntry behind_the_store (load 17)
load_replies_what_was_stored = record {
  section = record { shaped = omega arith; early = omega arith };
  next = record {
    bank = omega arith;
    rises = omega arith;
    next = refl;
    source = omega arith;
    tag = omega arith;
    room = omega arith;
  };
  home = record { inside = omega arith; home = refl };
  version = (λ newer. absurd (cc));
  reply = refl;
}

load_replies_no_opening_word : AllowedEntry behind_the_store (load 0) → ⊥
load_replies_no_opening_word h = absurd (cc (h.reply))

opening_word_is_replied : RepliesByOpeningWords (load 0)
opening_word_is_replied = refl

-- wrong: an answer may name an entry that has one
record NamesAnyEntry (s : Seen) (a : AnswerLine) : Type 0 where
  entry : EntryLine
  there : slice_get (entries_at s.entries a.bank) a.place ≡ Some entry
  source : entry.source ≡ a.processor
  reply : entry.reply ≡ a.reply

abbrev behind_its_answer : Seen
behind_its_answer = seen_of (shaped ++ Entry store ∷ Answer (answer 0 0 Stored) ∷ [])

entry_is_answered_once : NamesUnansweredEntry behind_its_answer (answer 1 0 Stored) → ⊥
entry_is_answered_once h = absurd (cc (h.once))

entry_is_answered_twice : NamesAnyEntry behind_its_answer (answer 1 0 Stored)
entry_is_answered_twice = record { entry = store; there = refl; source = refl; reply = refl }

-- and an answer has the reply of the entry that it names; wrong: names it by bank and place alone
record NamesByPlace (s : Seen) (a : AnswerLine) : Type 0 where
  entry : EntryLine
  there : slice_get (entries_at s.entries a.bank) a.place ≡ Some entry
  once : is_answered s.answers a.bank a.place ≡ false

answer_has_the_reply : NamesUnansweredEntry behind_the_store (answer 0 0 (Old 17)) → ⊥
answer_has_the_reply h = absurd (cc (h.there, h.reply))

answer_has_any_reply : NamesByPlace behind_the_store (answer 0 0 (Old 17))
answer_has_any_reply = record { entry = store; there = refl; once = refl }

-- wrong: `word` lines may leave out a word that isn't 0
record TellsSome (s : Seen) (address value : ℕ) : Type 0 where
  section : BehindEntries s 6
  rises : above_last s.told ≤ address
  inside : address < s.words
  is : slice_index s.memory address ≡ value
  not_zero : 0 < value

-- a report of version 1 wants none of the newer operations
pub behind_all : (s : Seen) (latest : ℕ) → 2 ≤ s.section → s.section ≤ latest → s.version ≡ 1 → BehindEntries s latest
behind_all s latest low high is_one =
    record { section = record { shaped = low; early = high }; newer = (λ two. absurd (omega (arith, is_one, two))) }

-- words 5 and 7 are 17 and 9
abbrev behind_two_stores : Seen
behind_two_stores = seen_of (shaped ++ Entry store ∷ Entry (entry 1 1 7 (Store 9) Stored) ∷ [])

each_word_is_told : AllowedWord behind_two_stores 7 9 → ⊥
each_word_is_told h = absurd (omega (arith, h.none_left 5 (omega arith) (omega arith)))

some_words_are_told : TellsSome behind_two_stores 7 9
some_words_are_told = record {
  section = behind_all behind_two_stores 6 (omega arith) (omega arith) refl;
  rises = omega arith;
  inside = omega arith;
  is = refl;
  not_zero = omega arith;
}

-- wrong: the numbers of service rise in each bank by itself
abbrev RisesInItsBank : Seen → OrderLine → Type 0
RisesInItsBank s o = above_last (map (λ x. x.served) (orders_at s.orders o.bank)) ≤ o.served

-- a load that replies 0
abbrev zero_at : ℕ → ℕ → ℕ → EntryLine
zero_at bank place address = entry bank place address Load (Old 0)

-- a load of each bank; that of bank 1 is served as event 4
abbrev behind_an_order : Seen
behind_an_order = seen_of (shaped ++ Entry (zero_at 0 0 0) ∷ Entry (zero_at 1 0 1) ∷ Order (order 1 0 3 4 None) ∷ [])

one_order_of_all_banks : AllowedOrder behind_an_order (order 0 0 1 2 None) → ⊥
one_order_of_all_banks h = absurd (omega (arith, h.rises))

an_order_for_each_bank : RisesInItsBank behind_an_order (order 0 0 1 2 None)
an_order_for_each_bank = omega arith

-- wrong: order lines for some of the entries
abbrev HasSomeOrders : Seen → Type 0
HasSomeOrders s = (bank : ℕ) → length (orders_at s.orders bank) ≤ length (entries_at s.entries bank)

-- two loads of bank 1, of which one has its order line
abbrev behind_one_of_two : Seen
behind_one_of_two = seen_of (shaped ++ Entry (zero_at 1 0 1) ∷ Entry (zero_at 1 1 1) ∷ Order (order 1 0 1 2 None) ∷ [])

order_is_whole : IsWholeOrder behind_one_of_two → ⊥
order_is_whole (inl none) = absurd (cc (none))
order_is_whole (inr each) = absurd (omega (arith, each 1))

-- those of bank 1, of which there are two
abbrev pub two_if : {A : Type 0} → Bool → A → A → List A
two_if is_one x y = cond is_one (x ∷ cond is_one (y ∷ []) []) (cond is_one (y ∷ []) [])

order_is_of_some : HasSomeOrders behind_one_of_two
order_is_of_some bank = fewer (1 == bank)
  where
    fewer : (is_one : Bool) → length (cond is_one (order 1 0 1 2 None ∷ []) [])
        ≤ length (two_if is_one (zero_at 1 0 1) (zero_at 1 1 1))
    fewer true = omega arith
    fewer false = omega arith

-- wrong: behind `end complete` each answer has an entry, and not each entry an answer
abbrev HaveAnswersEntries : List EntryLine → List AnswerLine → Type 0
HaveAnswersEntries entries answers =
    (bank place : ℕ) → is_answered answers bank place ≡ true → place < length (entries_at entries bank)

all_is_not_answered : IsAllAnswered behind_the_store.entries behind_the_store.answers → ⊥
all_is_not_answered h = absurd (cc (h 1 0 (omega arith)))

no_answer_is_wanted : HaveAnswersEntries behind_the_store.entries behind_the_store.answers
no_answer_is_wanted bank place h = absurd (cc (h))
