-- A whole report that is good, and one that is cut short and isn't.
use Rattle.std.proofs.Common.{◌≡◌, inl, inr, ℕ, zero, suc, ◌<◌, ◌^◌, ◌==◌, Bool, true, false, List, [], ◌∷◌, ◌++◌, Some, length}
use Rattle.std.proofs.Common.{refl, subst, arith}
use Rattle.std.proofs.lemmas.Bool.{ne_eqb}
use Rattle.packet.specs.declared.kinds.Op.{Op}
use Rattle.packet.specs.declared.kinds.Op.TheVariants.{Load, Store}
use Rattle.packet.specs.declared.kinds.Reply.{Reply}
use Rattle.packet.specs.declared.kinds.Reply.TheVariants.{Old, Ok as Stored}
use Rattle.packet.proofs.Words.{one_below, none_below as no_values}
use Rattle.report_lines.specs.declared.line.Radices.TheVariants.{One}
use Rattle.report_lines.specs.declared.line.ReportLine.{ReportLine}
use Rattle.report_lines.specs.declared.line.ReportLine.TheVariants.{Header, Shape, Entry, Answer, Word, Order, End}
use Rattle.report_lines.specs.Fits.{FitsOp, FitsReply, FitsEntry, FitsAnswer, FitsOrder}
use Rattle.report_check.specs.Seen.{seen_of, nothing_seen, entries_at, orders_at}
use Rattle.report_check.specs.Good.{ToldBelow, IsAllAnswered}
use Rattle.report_check.specs.Good.{MayStand, AllStand, AreGood}
use Rattle.report_check.proofs.WrongOnes.{shaped, entry, answer, order, store, behind_the_store, load, load_replies_what_was_stored, behind_all, two_if}

-- The whole report of these lines is good: a store of 17 and a load behind it, both answered.
abbrev one_answered : List ReportLine
one_answered = shaped ++ Entry store ∷ Entry (load 17) ∷ Answer (answer 0 0 Stored) ∷ []

abbrev both_answered : List ReportLine
both_answered = one_answered ++ Answer (answer 1 1 (Old 17)) ∷ []

abbrev one_ordered : List ReportLine
one_ordered = both_answered ++ Word 5 17 ∷ Order (order 1 0 1 2 (Some 3)) ∷ []

abbrev before_the_end : List ReportLine
before_the_end = one_ordered ++ Order (order 1 1 4 5 (Some 6)) ∷ []

abbrev lines : List ReportLine
lines = before_the_end ++ End true ∷ []

entry_fits : (place : ℕ) (op : Op) (reply : Reply)
    → place < 2 ^ 32 → FitsOp op → FitsReply reply → FitsEntry (entry 1 place 5 op reply)
entry_fits place op reply low fits replied = record {
  bank = omega arith;
  place = low;
  source = omega arith;
  tag = omega arith;
  address = omega arith;
  op = fits;
  reply = replied;
}

answer_fits : (index place : ℕ) (reply : Reply)
    → index < 2 ^ 32 → place < 2 ^ 32 → FitsReply reply → FitsAnswer (answer index place reply)
answer_fits index place reply low near replied =
    record { processor = omega arith; index = low; bank = omega arith; place = near; reply = replied }

order_fits : (place issued served answered : ℕ) → place < 2 ^ 32 → issued < 2 ^ 32 → served < 2 ^ 32
    → answered < 2 ^ 32 → FitsOrder (order 1 place issued served (Some answered))
order_fits place issued served answered near first second third =
    record { bank = omega arith; place = near; issued = first; served = second; answered = third }

header : MayStand (seen_of []) (Header 1)
header = record { fits = omega arith; allowed = record { first = refl; known = inl refl } }

shape : MayStand (seen_of (Header 1 ∷ [])) (Shape (One 2) 8)
shape = record {
  fits = (omega arith, omega arith);
  allowed = record {
    behind_header = refl;
    limits = record { each = ((omega arith, omega arith), tt); tiles = omega arith };
    words_low = omega arith;
    words_high = omega arith;
  };
}

first_entry : MayStand (seen_of shaped) (Entry store)
first_entry = record {
  fits = entry_fits 0 (Store 17) Stored (omega arith) (one_below 17 (omega arith)) tt;
  allowed = record {
    section = record { shaped = omega arith; early = omega arith };
    next = record {
      bank = omega arith;
      rises = omega arith;
      next = refl;
      source = omega arith;
      tag = omega arith;
      room = omega arith;
    };
    home = record { inside = omega arith; home = refl };
    version = (λ newer. absurd (cc));
    reply = refl;
  };
}

second_entry : MayStand behind_the_store (Entry (load 17))
second_entry = record {
  fits = entry_fits 1 Load (Old 17) (omega arith) no_values (omega arith);
  allowed = load_replies_what_was_stored;
}

first_answer : MayStand (seen_of (shaped ++ Entry store ∷ Entry (load 17) ∷ [])) (Answer (answer 0 0 Stored))
first_answer = record {
  fits = answer_fits 0 0 Stored (omega arith) (omega arith) tt;
  allowed = record {
    section = behind_all (seen_of (shaped ++ Entry store ∷ Entry (load 17) ∷ [])) 5 (omega arith) (omega arith) refl;
    index = omega arith;
    rises = omega arith;
    names = record { entry = store; there = refl; source = refl; reply = refl; once = refl };
  };
}

second_answer : MayStand (seen_of one_answered) (Answer (answer 1 1 (Old 17)))
second_answer = record {
  fits = answer_fits 1 1 (Old 17) (omega arith) (omega arith) (omega arith);
  allowed = record {
    section = behind_all (seen_of one_answered) 5 (omega arith) (omega arith) refl;
    index = omega arith;
    rises = omega arith;
    names = record { entry = load 17; there = refl; source = refl; reply = refl; once = refl };
  };
}

-- the words below address 5 are 0
none_below : ToldBelow [] (0 ∷ 0 ∷ 0 ∷ 0 ∷ 0 ∷ 17 ∷ 0 ∷ 0 ∷ []) 5
none_below zero low high = refl
none_below (suc zero) low high = refl
none_below (suc (suc zero)) low high = refl
none_below (suc (suc (suc zero))) low high = refl
none_below (suc (suc (suc (suc zero)))) low high = refl
none_below (suc (suc (suc (suc (suc k))))) low high = absurd (omega (arith, high))

-- and so are those behind it
none_behind : ToldBelow (5 ∷ []) (0 ∷ 0 ∷ 0 ∷ 0 ∷ 0 ∷ 17 ∷ 0 ∷ 0 ∷ []) 8
none_behind zero low high = refl
none_behind (suc zero) low high = refl
none_behind (suc (suc zero)) low high = refl
none_behind (suc (suc (suc zero))) low high = refl
none_behind (suc (suc (suc (suc zero)))) low high = refl
none_behind (suc (suc (suc (suc (suc zero))))) low high = absurd (omega (arith, low))
none_behind (suc (suc (suc (suc (suc (suc zero)))))) low high = refl
none_behind (suc (suc (suc (suc (suc (suc (suc zero))))))) low high = refl
none_behind (suc (suc (suc (suc (suc (suc (suc (suc k)))))))) low high = absurd (omega (arith, high))

word : MayStand (seen_of both_answered) (Word 5 17)
word = record {
  fits = (omega arith, omega arith);
  allowed = record {
    section = behind_all (seen_of both_answered) 6 (omega arith) (omega arith) refl;
    rises = omega arith;
    inside = omega arith;
    is = refl;
    not_zero = omega arith;
    none_left = none_below;
  };
}

first_order : MayStand (seen_of (both_answered ++ Word 5 17 ∷ [])) (Order (order 1 0 1 2 (Some 3)))
first_order = record {
  fits = order_fits 0 1 2 3 (omega arith) (omega arith) (omega arith) (omega arith);
  allowed = record {
    section = behind_all (seen_of (both_answered ++ Word 5 17 ∷ [])) 7 (omega arith) (omega arith) refl;
    told = none_behind;
    next = record { there = omega arith; next = refl; is_answered = refl };
    rises = omega arith;
    events = record {
      issued = record { low = omega arith; high = omega arith; new = refl };
      served = record { low = omega arith; high = omega arith; new = refl };
      issued_first = omega arith;
      answered = (omega arith, record { low = omega arith; high = omega arith; new = refl });
    };
  };
}

second_order : MayStand (seen_of one_ordered) (Order (order 1 1 4 5 (Some 6)))
second_order = record {
  fits = order_fits 1 4 5 6 (omega arith) (omega arith) (omega arith) (omega arith);
  allowed = record {
    section = behind_all (seen_of one_ordered) 7 (omega arith) (omega arith) refl;
    told = none_behind;
    next = record { there = omega arith; next = refl; is_answered = refl };
    rises = omega arith;
    events = record {
      issued = record { low = omega arith; high = omega arith; new = refl };
      served = record { low = omega arith; high = omega arith; new = refl };
      issued_first = omega arith;
      answered = (omega arith, record { low = omega arith; high = omega arith; new = refl });
    };
  };
}

-- each bank has as many order lines as entries
as_many : (bank : ℕ)
    → length (orders_at (seen_of before_the_end).orders bank)
    ≡ length (entries_at (seen_of before_the_end).entries bank)
as_many bank = alike (1 == bank)
  where
    alike : (is_one : Bool) → length (two_if is_one (order 1 0 1 2 (Some 3)) (order 1 1 4 5 (Some 6)))
        ≡ length (two_if is_one store (load 17))
    alike true = refl
    alike false = refl

-- each entry has its answer
all_answered : IsAllAnswered (seen_of before_the_end).entries (seen_of before_the_end).answers
all_answered zero place low = absurd (omega (arith, low))
all_answered (suc zero) zero low = refl
all_answered (suc zero) (suc zero) low = refl
all_answered (suc zero) (suc (suc place)) low = absurd (omega (arith, low))
all_answered (suc (suc bank)) place low =
    let other : (1 == suc (suc bank)) ≡ false = ne_eqb 1 (suc (suc bank)) (λ e. absurd (omega (arith, e))) in
    absurd (omega (arith, subst (λ is_one. place < length (two_if is_one store (load 17))) other low))

end : MayStand (seen_of before_the_end) (End true)
end = record {
  fits = tt;
  allowed = record {
    section = behind_all (seen_of before_the_end) 7 (omega arith) (omega arith) refl;
    told = none_behind;
    orders = inr as_many;
    all_answered = (λ _. all_answered);
  };
}

each_line_stands : AllStand nothing_seen lines
each_line_stands = (
  header,
  (
    shape,
    (
      first_entry,
      (
        second_entry,
        (
          first_answer,
          (
            second_answer,
            (word, (first_order, (second_order, (end, tt)))),
          ),
        ),
      ),
    ),
  ),
)

the_report_is_good : AreGood lines
the_report_is_good = record { each = each_line_stands; ended = refl }

-- wrong: each line may stand behind those before it, and that is all
abbrev EachMayStand : List ReportLine → Type 0
EachMayStand lines = AllStand nothing_seen lines

cut_report_is_not_good : AreGood before_the_end → ⊥
cut_report_is_not_good h = absurd (omega (arith, h.ended))

each_line_of_it_stands : EachMayStand before_the_end
each_line_of_it_stands = (
  header,
  (
    shape,
    (
      first_entry,
      (
        second_entry,
        (
          first_answer,
          (
            second_answer,
            (word, (first_order, (second_order, tt))),
          ),
        ),
      ),
    ),
  ),
)
