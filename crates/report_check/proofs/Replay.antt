-- The entries of a good report replay.
use Rattle.std.proofs.Common.{◌≡◌, ◌≢◌, ◌≤◌, ◌<◌, ℕ, ◌+◌, ◌%◌, List, [], ◌∷◌, ◌++◌, length, take, map, fold, replicate, slice_index}
use Rattle.std.proofs.Common.{slice_set, refl, sym, ap, subst, ◌∙◌, arith, ⊎_elim, append_assoc}
use Rattle.std.proofs.lemmas.Bool.{cases_eq, cases_lt}
use Rattle.std.proofs.lemmas.List.{append-nil, get_or-set_same, get_or-set_other, length-set, length-replicate, map-append, take_all}
use Rattle.std.proofs.lemmas.List.Sums.{fold_push}
use Rattle.packet.specs.declared.kinds.Operation.{Operation}
use Rattle.packet.specs.declared.kinds.Reply.{Reply}
use Rattle.packet.specs.Memory.{memory_after_one, memory_after, new_word, replies, reply_of_one, reply_to}
use Rattle.packet.proofs.Folds.{memory_after-append, replies-append, length-memory_after}
use Rattle.report_lines.specs.Contents.{set_words}
use Rattle.report_lines.specs.declared.line.EntryLine.{EntryLine}
use Rattle.report_lines.specs.declared.line.ReportLine.{ReportLine}
use Rattle.report_lines.specs.declared.line.ReportLine.TheVariants.{Header, Shape, Init, Entry, Answer, Word, Order, End}
use Rattle.report_check.specs.Seen.{Seen, nothing_seen, seen_after, seen_of, above_last, entries_at, line_operation}
use Rattle.report_check.specs.Good.{MayStand, AreGood, ToldBelow}
use Rattle.report_check.specs.Meaning.{opening_after, opening_of, told_words, word_in, EntriesReplay}
use Rattle.report_check.proofs.Banks.{entries_at_here, entries_at_other}
use Rattle.report_check.proofs.Standing.{kept_by_all}
use Rattle.report_check.proofs.Told.{set_words-push, set_words-zeros}

abbrev reply_in : EntryLine → Reply
reply_in e = e.reply

abbrev operations : List EntryLine → List Operation
operations es = map line_operation es

-- one more entry
replies-push : (es : List EntryLine) (e : EntryLine) (m : List ℕ)
    → replies (operations (es ++ e ∷ [])) m ≡ replies (operations es) m ++ reply_of_one (line_operation e) (memory_after (operations es) m) ∷ []
replies-push es e m = ap (λ (os : List Operation). replies os m) (map-append line_operation es (e ∷ [])) ∙ replies-append (operations es) (line_operation e ∷ []) m

memory_after-push : (es : List EntryLine) (e : EntryLine) (m : List ℕ)
    → memory_after (operations (es ++ e ∷ [])) m ≡ memory_after_one (line_operation e) (memory_after (operations es) m)
memory_after-push es e m =
    ap (λ (os : List Operation). memory_after os m) (map-append line_operation es (e ∷ [])) ∙ memory_after-append (operations es) (line_operation e ∷ []) m

record Replays (m : List ℕ) (s : Seen) : Type 0 where
  whole : map reply_in s.entries ≡ replies (operations s.entries) m
  memory : s.memory ≡ memory_after (operations s.entries) m
  sized : length m ≡ s.words
  none : s.section ≤ 3 → s.entries ≡ []

replays_init : (m : List ℕ) (s : Seen) (a v : ℕ) → s.entries ≡ [] → Replays m s → Replays (slice_set m a v) (seen_after s (Init a v))
replays_init m s a v none r =
    let P : List EntryLine → Type 0 = λ es. map reply_in es ≡ replies (operations es) (slice_set m a v) in
    let Q : List EntryLine → Type 0 = λ es. slice_set (memory_after (operations es) m) a v ≡ memory_after (operations es) (slice_set m a v) in
    record {
      whole = subst P (sym none) refl;
      memory = ap (λ (x : List ℕ). slice_set x a v) r.memory ∙ subst Q (sym none) refl;
      sized = length-set m a v ∙ r.sized;
      none = λ _. none;
    }

replays_entry : (m : List ℕ) (s : Seen) (e : EntryLine) → e.reply ≡ reply_of_one (line_operation e) s.memory → Replays m s → Replays m (seen_after s (Entry e))
replays_entry m s e reply r =
    record {
      whole = map-append reply_in s.entries (e ∷ [])
          ∙ ap (λ (rs : List Reply). rs ++ e.reply ∷ []) r.whole
          ∙ ap (λ (x : Reply). replies (operations s.entries) m ++ x ∷ []) (reply ∙ ap (reply_of_one (line_operation e)) r.memory)
          ∙ sym (replies-push s.entries e m);
      memory = ap (memory_after_one (line_operation e)) r.memory ∙ sym (memory_after-push s.entries e m);
      sized = r.sized;
      none = λ is. absurd (omega (arith, is));
    }

replays_after : (m : List ℕ) (s : Seen) (line : ReportLine) → MayStand s line → Replays m s → Replays (opening_after m line) (seen_after s line)
replays_after m s (Header version) may r = record { whole = r.whole; memory = r.memory; sized = r.sized; none = λ _. r.none (omega (arith, may.allowed.first)) }
replays_after m s (Shape radices words) may r = record { whole = refl; memory = refl; sized = length-replicate words 0; none = λ _. refl }
replays_after m s (Init a v) may r = replays_init m s a v (r.none may.allowed.section.early) r
replays_after m s (Entry e) may r = replays_entry m s e may.allowed.reply r
replays_after m s (Answer a) may r = record { whole = r.whole; memory = r.memory; sized = r.sized; none = λ is. absurd (omega (arith, is)) }
replays_after m s (Word a v) may r = record { whole = r.whole; memory = r.memory; sized = r.sized; none = λ is. absurd (omega (arith, is)) }
replays_after m s (Order o) may r = record { whole = r.whole; memory = r.memory; sized = r.sized; none = λ is. absurd (omega (arith, is)) }
replays_after m s (End complete) may r = record { whole = r.whole; memory = r.memory; sized = r.sized; none = λ is. absurd (omega (arith, is)) }

-- the words at home in a bank are those that its own entries leave
record BankReplays (bank : ℕ) (m : List ℕ) (s : Seen) : Type 0 where
  replays : Replays m s
  here : map reply_in (entries_at s.entries bank) ≡ replies (operations (entries_at s.entries bank)) m
  words : (a : ℕ) → a < s.words → a % s.tiles ≡ bank → slice_index s.memory a ≡ slice_index (memory_after (operations (entries_at s.entries bank)) m) a

-- before the entries a bank's words are the opening words
bank_first : (bank : ℕ) (m : List ℕ) (s : Seen) → Replays m s → s.entries ≡ [] → BankReplays bank m s
bank_first bank m s r none =
    let P : List EntryLine → Type 0 = λ es. map reply_in (entries_at es bank) ≡ replies (operations (entries_at es bank)) m in
    let Q : List EntryLine → Type 0 =
    λ es. (a : ℕ) → slice_index (memory_after (operations es) m) a ≡ slice_index (memory_after (operations (entries_at es bank)) m) a in
    record {
      replays = r;
      here = subst P (sym none) refl;
      words = λ a inside home. ap (λ (x : List ℕ). slice_index x a) r.memory ∙ subst Q (sym none) (λ x. refl) a;
    }

length-replayed : (es : List EntryLine) (m : List ℕ) → length (memory_after (operations es) m) ≡ length m
length-replayed es m = length-memory_after (operations es) m

-- after one operation two memories agree at an address, if they agreed there and at that of the operation
same_effect : (e : EntryLine) (x y : List ℕ) (a : ℕ) → e.address < length x → e.address < length y → slice_index x e.address ≡ slice_index y e.address
    → slice_index x a ≡ slice_index y a → slice_index (memory_after_one (line_operation e) x) a ≡ slice_index (memory_after_one (line_operation e) y) a
same_effect e x y a in_x in_y at here =
    let P : ℕ → Type 0 = λ k. slice_index (memory_after_one (line_operation e) x) k ≡ slice_index (memory_after_one (line_operation e) y) k in
    ⊎_elim
    (λ (same : a ≡ e.address). subst P (sym same)
    (get_or-set_same x e.address (new_word e.op (slice_index x e.address)) 0 in_x ∙ ap (new_word e.op) at
    ∙ sym (get_or-set_same y e.address (new_word e.op (slice_index y e.address)) 0 in_y)))
    (λ (other : a ≢ e.address).
    get_or-set_other x e.address a (new_word e.op (slice_index x e.address)) 0 other ∙ here
    ∙ sym (get_or-set_other y e.address a (new_word e.op (slice_index y e.address)) 0 other))
    (cases_eq a e.address)

bank_own : (m : List ℕ) (s : Seen) (e : EntryLine) → e.address < s.words → e.address % s.tiles ≡ e.bank → e.reply ≡ reply_of_one (line_operation e) s.memory
    → BankReplays e.bank m s → BankReplays e.bank m (seen_after s (Entry e))
bank_own m s e inside home reply b =
    let es : List EntryLine = entries_at s.entries e.bank in
    let now : entries_at (s.entries ++ e ∷ []) e.bank ≡ es ++ e ∷ [] = entries_at_here s.entries e in
    let own : List ℕ = memory_after (operations es) m in
    let at : slice_index s.memory e.address ≡ slice_index own e.address = b.words e.address inside home in
    let in_all : e.address < length s.memory = omega (arith, inside, b.replays.sized, length-replayed s.entries m, ap length b.replays.memory) in
    let in_own : e.address < length own = omega (arith, inside, b.replays.sized, length-replayed es m) in
    record {
      replays = replays_entry m s e reply b.replays;
      here = ap (map reply_in) now ∙ map-append reply_in es (e ∷ [])
          ∙ ap (λ (rs : List Reply). rs ++ e.reply ∷ []) b.here
          ∙ ap (λ (x : Reply). replies (operations es) m ++ x ∷ []) (reply ∙ ap (reply_to e.op) at)
          ∙ sym (ap (λ (xs : List EntryLine). replies (operations xs) m) now ∙ replies-push es e m);
      words = λ a low at_home.
          same_effect e s.memory own a in_all in_own at (b.words a low at_home)
          ∙ sym (ap (λ (xs : List EntryLine). slice_index (memory_after (operations xs) m) a) now
          ∙ ap (λ (x : List ℕ). slice_index x a) (memory_after-push es e m));
    }

bank_other : (bank : ℕ) (m : List ℕ) (s : Seen) (e : EntryLine) → bank ≢ e.bank → e.address % s.tiles ≡ e.bank
    → e.reply ≡ reply_of_one (line_operation e) s.memory → BankReplays bank m s → BankReplays bank m (seen_after s (Entry e))
bank_other bank m s e apart home reply b =
    let now : entries_at (s.entries ++ e ∷ []) bank ≡ entries_at s.entries bank = entries_at_other s.entries e bank apart in
    record {
      replays = replays_entry m s e reply b.replays;
      here = ap (map reply_in) now ∙ b.here ∙ sym (ap (λ (xs : List EntryLine). replies (operations xs) m) now);
      words = λ a low at_home.
          let other : a ≢ e.address = λ is. apart (sym at_home ∙ ap (λ x. x % s.tiles) is ∙ home) in
          get_or-set_other s.memory e.address a (new_word e.op (slice_index s.memory e.address)) 0 other
          ∙ b.words a low at_home ∙ sym (ap (λ (xs : List EntryLine). slice_index (memory_after (operations xs) m) a) now);
    }

bank_entry : (bank : ℕ) (m : List ℕ) (s : Seen) (e : EntryLine) → MayStand s (Entry e) → BankReplays bank m s → BankReplays bank m (seen_after s (Entry e))
bank_entry bank m s e may b =
    let P : ℕ → Type 0 = λ k. BankReplays k m s → BankReplays k m (seen_after s (Entry e)) in
    ⊎_elim
    (λ (same : bank ≡ e.bank). subst P (sym same) (bank_own m s e may.allowed.home.inside may.allowed.home.home may.allowed.reply) b)
    (λ (apart : bank ≢ e.bank). bank_other bank m s e apart may.allowed.home.home may.allowed.reply b)
    (cases_eq bank e.bank)

bank_after : (bank : ℕ) (m : List ℕ) (s : Seen) (line : ReportLine) → MayStand s line → BankReplays bank m s
    → BankReplays bank (opening_after m line) (seen_after s line)
bank_after bank m s (Header version) may b = record { replays = replays_after m s (Header version) may b.replays; here = b.here; words = b.words }
bank_after bank m s (Shape radices words) may b =
    bank_first bank (replicate words 0) (seen_after s (Shape radices words)) (replays_after m s (Shape radices words) may b.replays) refl
bank_after bank m s (Init a v) may b =
    bank_first bank (slice_set m a v) (seen_after s (Init a v)) (replays_after m s (Init a v) may b.replays) (b.replays.none may.allowed.section.early)
bank_after bank m s (Entry e) may b = bank_entry bank m s e may b
bank_after bank m s (Answer a) may b = record { replays = replays_after m s (Answer a) may b.replays; here = b.here; words = b.words }
bank_after bank m s (Word a v) may b = record { replays = replays_after m s (Word a v) may b.replays; here = b.here; words = b.words }
bank_after bank m s (Order o) may b = record { replays = replays_after m s (Order o) may b.replays; here = b.here; words = b.words }
bank_after bank m s (End complete) may b = record { replays = replays_after m s (End complete) may b.replays; here = b.here; words = b.words }

-- the words given so far are those that are not 0 up to the last one given
record Tells (told : List (ℕ × ℕ)) (s : Seen) : Type 0 where
  so_far : told ≡ set_words (take (above_last s.told) s.memory)
  none : s.section ≤ 5 → s.told ≡ []
  sized : length s.memory ≡ s.words
  whole : s.section ≡ 8 → ToldBelow s.told s.memory s.words

-- before the first `word` line nothing is told
nothing_told : (told : List (ℕ × ℕ)) (s : Seen) (memory : List ℕ) → Tells told s → s.told ≡ [] → told ++ [] ≡ set_words (take (above_last s.told) memory)
nothing_told told s memory t none =
    let P : List ℕ → Type 0 = λ ns. set_words (take (above_last ns) s.memory) ≡ set_words (take (above_last ns) memory) in
    append-nil told ∙ t.so_far ∙ subst P (sym none) refl

tells_word : (told : List (ℕ × ℕ)) (s : Seen) (a v : ℕ) → MayStand s (Word a v) → Tells told s → Tells (told ++ (a, v) ∷ []) (seen_after s (Word a v))
tells_word told s a v may t =
    let inside : a < length s.memory = omega (arith, may.allowed.inside, t.sized) in
    let now : above_last (s.told ++ a ∷ []) ≡ a + 1 = fold_push (λ _ n. n + 1) 0 s.told a in
    let before : told ≡ set_words (take a s.memory) = t.so_far ∙ sym (set_words-zeros s.memory (above_last s.told) a may.allowed.rises may.allowed.none_left) in
    record {
      so_far = ap (λ (ws : List (ℕ × ℕ)). ws ++ (a, v) ∷ []) before
          ∙ set_words-push s.memory a v inside may.allowed.is may.allowed.not_zero
          ∙ ap (λ n. set_words (take n s.memory)) (sym now);
      none = λ is. absurd (omega (arith, is));
      sized = t.sized;
      whole = λ is. absurd (omega (arith, is));
    }

tells_after : (told : List (ℕ × ℕ)) (s : Seen) (line : ReportLine) → MayStand s line → Tells told s → Tells (told ++ word_in line) (seen_after s line)
tells_after told s (Header version) may t =
    let none : s.told ≡ [] = t.none (omega (arith, may.allowed.first)) in
    record { so_far = nothing_told told s s.memory t none; none = λ _. none; sized = t.sized; whole = λ is. absurd (omega (arith, is)) }
tells_after told s (Shape radices words) may t =
    let none : s.told ≡ [] = t.none (omega (arith, may.allowed.behind_header)) in
    let P : List ℕ → Type 0 = λ ns. told ++ [] ≡ set_words (take (above_last ns) s.memory) in
    record {
      so_far = subst P none (nothing_told told s s.memory t none);
      none = λ _. refl;
      sized = length-replicate words 0;
      whole = λ is. absurd (omega (arith, is));
    }
tells_after told s (Init a v) may t =
    let none : s.told ≡ [] = t.none (omega (arith, may.allowed.section.early)) in
    record {
      so_far = nothing_told told s (slice_set s.memory a v) t none;
      none = λ _. none;
      sized = length-set s.memory a v ∙ t.sized;
      whole = λ is. absurd (omega (arith, is));
    }
tells_after told s (Entry e) may t =
    let none : s.told ≡ [] = t.none (omega (arith, may.allowed.section.early)) in
    record {
      so_far = nothing_told told s (memory_after_one (line_operation e) s.memory) t none;
      none = λ _. none;
      sized = length-set s.memory e.address (new_word e.op (slice_index s.memory e.address)) ∙ t.sized;
      whole = λ is. absurd (omega (arith, is));
    }
tells_after told s (Answer a) may t =
    record {
      so_far = append-nil told ∙ t.so_far;
      none = λ _. t.none may.allowed.section.section.early;
      sized = t.sized;
      whole = λ is. absurd (omega (arith, is));
    }
tells_after told s (Word a v) may t = tells_word told s a v may t
tells_after told s (Order o) may t =
    record { so_far = append-nil told ∙ t.so_far; none = λ is. absurd (omega (arith, is)); sized = t.sized; whole = λ is. absurd (omega (arith, is)) }
tells_after told s (End complete) may t =
    record { so_far = append-nil told ∙ t.so_far; none = λ is. absurd (omega (arith, is)); sized = t.sized; whole = λ _. may.allowed.told }

told_fold : (told : List (ℕ × ℕ)) (lines : List ReportLine) → fold (λ ws line. ws ++ word_in line) told lines ≡ told ++ told_words lines
told_fold told [] = sym (append-nil told)
told_fold told (line ∷ lines) = told_fold (told ++ word_in line) lines ∙ append_assoc told (word_in line) (told_words lines)

-- all words are told
all_told : (told : List (ℕ × ℕ)) (s : Seen) → Tells told s → s.section ≡ 8 → told ≡ set_words s.memory
all_told told s t ended =
    let last : take s.words s.memory ≡ s.memory = take_all s.words s.memory (omega (arith, t.sized)) in
    ⊎_elim
    (λ (low : above_last s.told < s.words).
    t.so_far ∙ sym (set_words-zeros s.memory (above_last s.told) s.words (omega (arith, low)) (t.whole ended)) ∙ ap set_words last)
    (λ (high : s.words ≤ above_last s.told).
    t.so_far ∙ ap set_words (take_all (above_last s.told) s.memory (omega (arith, t.sized, high))))
    (cases_lt (above_last s.told) s.words)

pub entries_replay : (lines : List ReportLine) → AreGood lines → EntriesReplay lines
entries_replay lines good =
    let first : Replays [] nothing_seen = record { whole = refl; memory = refl; sized = refl; none = λ _. refl } in
    let whole : Replays (opening_of lines) (seen_of lines) = kept_by_all opening_after Replays replays_after [] nothing_seen lines good.each first in
    let bank : (b : ℕ) → BankReplays b (opening_of lines) (seen_of lines) =
    λ b. kept_by_all opening_after (BankReplays b) (bank_after b) [] nothing_seen lines good.each (bank_first b [] nothing_seen first refl) in
    let none : Tells [] nothing_seen = record { so_far = refl; none = λ _. refl; sized = refl; whole = λ is. absurd (omega (arith, is)) } in
    let told : Tells (fold (λ ws line. ws ++ word_in line) [] lines) (seen_of lines) =
    kept_by_all (λ ws line. ws ++ word_in line) Tells tells_after [] nothing_seen lines good.each none in
    record {
      whole = whole.whole;
      banks = λ b. (bank b).here;
      last = sym (told_fold [] lines) ∙ all_told _ (seen_of lines) told good.ended ∙ ap set_words whole.memory;
    }
