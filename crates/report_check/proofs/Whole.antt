-- The report of good contents is a good one.
use Rattle.std.proofs.Common.{◌≡◌, ℕ, ◌+◌, ◌<◌, All, Bool, Some, slice_get, List, [], ◌∷◌, ◌++◌, length, map, flat_map, replicate, refl, sym, ap, subst, ◌∙◌}
use Rattle.std.proofs.Common.{arith, append_assoc}
use Rattle.std.proofs.lemmas.List.Elements.{recursion_from_All}
use Rattle.torus.specs.Shape.{Shape, tiles_of}
use Rattle.packet.specs.declared.kinds.Operation.{Operation}
use Rattle.packet.specs.Memory.{memory_after, replies}
use Rattle.packet.proofs.Folds.{length-memory_after}
use Rattle.report_lines.specs.Contents.{answer_lines, entry_lines, init_lines, order_lines, radices_of, report_lines_of, version_of, word_lines}
use Rattle.report_lines.specs.declared.parts.EntryRow.{EntryRow}
use Rattle.report_lines.specs.declared.parts.AnswerRow.{AnswerRow}
use Rattle.report_lines.specs.declared.line.EntryLine.{EntryLine}
use Rattle.report_lines.specs.declared.line.AnswerLine.{AnswerLine}
use Rattle.report_lines.specs.declared.line.OrderLine.{OrderLine}
use Rattle.report_lines.specs.declared.line.ReportLine.{ReportLine}
use Rattle.report_lines.specs.declared.line.ReportLine.TheVariants.{End, Header, Shape as Shaped}
use Rattle.report_lines.specs.Fits.{FitsLine}
use Rattle.report_check.specs.Seen.{nothing_seen, line_operation}
use Rattle.report_check.specs.Good.{AreGood}
use Rattle.report_check.specs.Facts.{operation_in, rows_at, AreContents}
use Rattle.report_check.proofs.Going.{GoesOn, going_good, seen_at}
use Rattle.report_check.proofs.Inits.{BehindInits, inits_on}
use Rattle.report_check.proofs.Entries.{BehindEntryLines, Enters, Stands, entries_on, reply_in}
use Rattle.report_check.proofs.Answers.{BehindAnswers, answers_on}
use Rattle.report_check.proofs.Words.{BehindWords, words_on}
use Rattle.report_check.proofs.GoodOrders.{Ends, orders_on}
use Rattle.report_check.proofs.Shapes.{radices_allowed, tiles_listed}
use Rattle.report_check.proofs.EntryLists.{entry_list, entry_lines_are, length-entry_list, map_entries, newer_version, some_newer, version_known, version_newer}
use Rattle.report_check.proofs.EntryNext.{entries_all, entries_next}
use Rattle.report_check.proofs.AnswerLists.{answer_list, answer_lines_are}
use Rattle.report_check.proofs.GoodAnswers.{has_told}
use Rattle.report_check.proofs.AnswerNext.{all_next}
use Rattle.report_check.proofs.OrderNext.{all_on, entry_count, whole}

-- the sections of a report, one behind another
behind_each : {X : Type 0} (h a b c d e f : List X) → h ++ a ++ b ++ c ++ d ++ e ++ f ≡ h ++ (a ++ (b ++ (c ++ (d ++ (e ++ f)))))
behind_each h a b c d e f =
    append_assoc (h ++ a ++ b ++ c ++ d) e f
    ∙ append_assoc (h ++ a ++ b ++ c) d (e ++ f)
    ∙ append_assoc (h ++ a ++ b) c (d ++ (e ++ f))
    ∙ append_assoc (h ++ a) b (c ++ (d ++ (e ++ f)))
    ∙ append_assoc h a (b ++ (c ++ (d ++ (e ++ f))))

module _ (shape : Shape) (opening : List ℕ) (entries : List (List EntryRow)) (answers : List (List AnswerRow)) (last : List ℕ) (order : List OrderLine)
    (finished : Bool) (are : AreContents shape opening entries answers last order finished) where
  abbrev t : ℕ
  t = tiles_of shape

  abbrev w : ℕ
  w = length opening

  abbrev v : ℕ
  v = version_of entries

  abbrev es : List EntryLine
  es = entry_list 0 entries

  abbrev ans : List AnswerLine
  ans = answer_list 0 answers

  -- the lines from a section on
  abbrev order_on : List ReportLine
  order_on = order_lines order ++ End finished ∷ []

  abbrev words_from : List ReportLine
  words_from = word_lines last ++ order_on

  abbrev answers_from : List ReportLine
  answers_from = answer_lines answers ++ words_from

  abbrev entries_from : List ReportLine
  entries_from = entry_lines entries ++ answers_from

  ends : Ends es ans order finished
  ends =
      record {
        whole = whole entries order are.ordered;
        answered = λ done bank place inside. has_told entries answers are.answered bank place
            (are.complete done bank place (omega (arith, inside, entry_count bank entries)));
      }

  behind_words : (ins : List ℕ) → BehindWords v t w last ins es ans order_on
  behind_words ins n told low high below =
      orders_on v t w n last ins es ans told [] order order finished low (omega (arith, high)) (version_newer entries) below
      (all_on entries answers order [] order are.answered are.ordered are.numbered are.told refl) refl ends

  sized : length last ≡ w
  sized = ap length (sym are.entered.left) ∙ length-memory_after (map operation_in (flat_map (λ es. es) entries)) opening

  behind_answers : (ins : List ℕ) → BehindAnswers v t w last ins es ans words_from
  behind_answers ins n low high =
      words_on v t w n last ins es ans [] 0 [] last order_on low (omega (arith, high)) (version_newer entries)
      (record { at = refl; size = omega (arith, sized); are = refl; rises = omega arith; below = λ k least most. absurd (omega (arith, most)) })
      (behind_words ins)

  behind_entries : (ins : List ℕ) → BehindEntryLines v t w last ins es answers_from
  behind_entries ins n low high =
      subst (λ ls. GoesOn (seen_at n v t w last ins es [] [] []) (ls ++ words_from)) (sym (answer_lines_are 0 answers))
      (answers_on v t w n last ins es [] ans ans words_from low (omega (arith, high)) (version_newer entries) (all_next entries answers are.answered) refl
      (behind_answers ins))

  stand : (c i place j : ℕ) (e : EntryRow) → c ≡ 0 + i → slice_get (rows_at entries i) place ≡ Some e
      → Stands v t w (record { bank = c; place = j; source = e.source; tag = e.tag; address = e.address; op = e.op; reply = e.reply })
  stand c i place j e is there =
      let s = are.entered.stand i place e there in
      let same : i ≡ c = omega (arith, is) in
      record {
        bank = subst (λ b. b < t) same s.bank;
        source = s.source;
        tag = s.tag;
        inside = s.address;
        home = s.home ∙ same;
        version = newer_version entries i place e there;
      }

  operations : map line_operation es ≡ map operation_in (flat_map (λ es. es) entries)
  operations = map_entries line_operation operation_in (λ b k e. refl) 0 entries

  enters : Enters v t w opening last [] es es
  enters =
      record {
        next = entries_next 0 [] entries (omega arith) (λ c high. refl);
        stand = entries_all (Stands v t w) 0 entries stand;
        told = ap (λ (os : List Operation). replies os opening) operations ∙ are.entered.told
            ∙ sym (map_entries reply_in (λ (e : EntryRow). e.reply) (λ b k e. refl) 0 entries);
        left = ap (λ (os : List Operation). memory_after os opening) operations ∙ are.entered.left;
        few = omega (arith, are.entered.few, length-entry_list 0 entries);
        are = refl;
      }

  behind_inits : BehindInits v t w opening entries_from
  behind_inits n ins low high =
      subst (λ ls. GoesOn (seen_at n v t w opening ins [] [] [] []) (ls ++ answers_from)) (sym (entry_lines_are 0 entries))
      (entries_on v t w n opening last ins [] es es answers_from low (omega (arith, high)) enters (behind_entries ins))

  behind_shape : GoesOn (seen_at 2 v t w (replicate w 0) [] [] [] [] []) (init_lines opening ++ entries_from)
  behind_shape =
      inits_on v t w 2 [] 0 opening (replicate w 0) [] opening entries_from (omega arith) (omega arith) (omega arith)
      (record { at = refl; size = omega arith; are = refl; memory = refl }) behind_inits

  abbrev front : List ReportLine
  front = Header v ∷ Shaped (radices_of shape.radices) w ∷ []

  goes_nested : GoesOn nothing_seen (front ++ (init_lines opening ++ entries_from))
  goes_nested = (
    record { first = refl; known = version_known (some_newer entries) },
    (
      record { behind_header = refl; limits = radices_allowed shape are.accepted; words_low = are.words_low; words_high = are.words_high },
      subst (λ n. GoesOn (seen_at 2 v n w (replicate w 0) [] [] [] [] []) (init_lines opening ++ entries_from)) (sym (tiles_listed shape are.accepted))
          behind_shape,
    ),
  )

  goes : GoesOn nothing_seen (report_lines_of shape opening entries answers last order finished)
  goes =
      subst (GoesOn nothing_seen)
      (sym (behind_each front (init_lines opening) (entry_lines entries) (answer_lines answers) (word_lines last) (order_lines order) (End finished ∷ [])))
      goes_nested

  pub contents_good : All FitsLine (report_lines_of shape opening entries answers last order finished)
      → AreGood (report_lines_of shape opening entries answers last order finished)
  contents_good fits = going_good (report_lines_of shape opening entries answers last order finished)
      (recursion_from_All FitsLine (report_lines_of shape opening entries answers last order finished) fits) goes
