-- The answers of a good report name its entries, each once, and all of them where it is complete.
use Rattle.std.proofs.Common.{◌≡◌, ◌≤◌, ◌⊎◌, ℕ, zero, suc, ◌==◌, ◌&&◌, Bool, true, false, List, [], ◌∷◌, ◌++◌, Option, Some, None, inl, inr, length}
use Rattle.std.proofs.Common.{get_or, fold, refl, sym, ap, ap₂, subst, ◌∙◌, arith, slice_get, ⊎_elim}
use Rattle.std.specs.List.{Any}
use Rattle.std.proofs.lemmas.Bool.{and_parts, eq-eqb, eqb-true}
use Rattle.std.proofs.lemmas.List.Folds.{Any-from_list_any, list_any_at}
use Rattle.std.proofs.lemmas.Option.{slice_get_within, get_or_from_slice_get, slice_get-get_or}
use Rattle.report_lines.specs.declared.line.EntryLine.{EntryLine}
use Rattle.report_lines.specs.declared.line.AnswerLine.{AnswerLine}
use Rattle.report_lines.specs.declared.line.ReportLine.{ReportLine}
use Rattle.report_lines.specs.declared.line.ReportLine.TheVariants.{Header, Shape, Init, Entry, Answer, Word, Order, End}
use Rattle.report_check.specs.Seen.{Seen, nothing_seen, seen_after, seen_of, entries_at, is_answered}
use Rattle.report_check.specs.Good.{MayStand, AllStand, AreGood, IsAllAnswered}
use Rattle.report_check.specs.Meaning.{NamesOwnEntry, IsNamed, AnswersEntries}
use Rattle.report_check.proofs.Standing.{kept_by_all}

-- what stands in a list with one more element
in_pushed : {X : Type 0} (xs : List X) (x y : X) (i : ℕ) → slice_get (xs ++ x ∷ []) i ≡ Some y → (slice_get xs i ≡ Some y) ⊎ ((i ≡ length xs) × (x ≡ y))
in_pushed [] x y zero h = inr (refl, cc)
in_pushed [] x y (suc i) h = absurd (cc)
in_pushed (z ∷ xs) x y zero h = inl h
in_pushed (z ∷ xs) x y (suc i) h = ⊎_elim (λ r. inl r) (λ r. inr (ap suc r.0, r.1)) (in_pushed xs x y i h)

abbrev names : ℕ → ℕ → AnswerLine → Bool
names bank place a = (a.bank == bank) && (a.place == place)

-- an answer of the list answers its entry
answered_by : (answers : List AnswerLine) (i bank place : ℕ) (a : AnswerLine) → slice_get answers i ≡ Some a → a.bank ≡ bank → a.place ≡ place
    → is_answered answers bank place ≡ true
answered_by answers i bank place a there of at =
    let found : get_or answers i a ≡ a = get_or_from_slice_get answers i a a there in
    let passes : names bank place a ≡ true = ap₂ (λ (x y : Bool). x && y) (eq-eqb a.bank bank of) (eq-eqb a.place place at) in
    list_any_at (names bank place) answers i a (slice_get_within answers i a there) (ap (names bank place) found ∙ passes)

answer_in : (s : Seen) (bank place : ℕ) → Any (λ x. names bank place x ≡ true) s.answers → IsNamed s bank place
answer_in s bank place (k, a, inside, is, passes) =
    let parts = and_parts (a.bank == bank) (a.place == place) passes in
    record {
      at = k;
      answer = a;
      there = slice_get-get_or s.answers k a inside ∙ ap Some is;
      bank_is = eqb-true a.bank bank parts.0;
      place_is = eqb-true a.place place parts.1;
    }

-- an entry that is answered has an answer in the list
answer_of : (s : Seen) (bank place : ℕ) → is_answered s.answers bank place ≡ true → IsNamed s bank place
answer_of s bank place h =
    let any : Any (λ x. names bank place x ≡ true) s.answers = Any-from_list_any (names bank place) s.answers h in
    answer_in s bank place any

record Answers (s : Seen) : Type 0 where
  named : (i : ℕ) (a : AnswerLine) → slice_get s.answers i ≡ Some a → NamesOwnEntry s a
  once : (i j : ℕ) (a b : AnswerLine) → slice_get s.answers i ≡ Some a → slice_get s.answers j ≡ Some b → a.bank ≡ b.bank → a.place ≡ b.place → i ≡ j
  none : s.section ≤ 4 → s.answers ≡ []

-- no answer line yet
answers_none : (s : Seen) → s.answers ≡ [] → Answers s
answers_none s none =
    let nothing : (i : ℕ) (a : AnswerLine) → slice_get s.answers i ≡ Some a → ⊥ = λ i a h. let got : ◌≡◌ {A = Option AnswerLine} None (Some a) =
    ap (λ (xs : List AnswerLine). slice_get xs i) (sym none) ∙ h in absurd (cc) in
    record {
      named = λ i a h. absurd (nothing i a h);
      once = λ i j a b h g of at. absurd (nothing i a h);
      none = λ _. none;
    }

-- a line behind the entries that is no answer
answers_stay : (s t : Seen) → t.entries ≡ s.entries → t.answers ≡ s.answers → (t.section ≤ 4 → s.section ≤ 4) → Answers s → Answers t
answers_stay s t entries answers early x =
    let back : (i : ℕ) (a : AnswerLine) → slice_get t.answers i ≡ Some a → slice_get s.answers i ≡ Some a =
    λ i a h. ap (λ (xs : List AnswerLine). slice_get xs i) (sym answers) ∙ h in
    record {
      named = λ i a h.
          let of : NamesOwnEntry s a = x.named i a (back i a h) in
          record {
            entry = of.entry;
            there = ap (λ (es : List EntryLine). slice_get (entries_at es a.bank) a.place) entries ∙ of.there;
            source = of.source;
            reply = of.reply;
          };
      once = λ i j a b h g of at. x.once i j a b (back i a h) (back j b g) of at;
      none = λ is. answers ∙ x.none (early is);
    }

answers_push : (s : Seen) (a : AnswerLine) → MayStand s (Answer a) → Answers s → Answers (seen_after s (Answer a))
answers_push s a may x =
    let new : NamesOwnEntry (seen_after s (Answer a)) a = record {
      entry = may.allowed.names.entry;
      there = may.allowed.names.there;
      source = may.allowed.names.source;
      reply = may.allowed.names.reply;
    } in
    let other : (b : AnswerLine) → NamesOwnEntry s b → NamesOwnEntry (seen_after s (Answer a)) b = λ b n. record {
      entry = n.entry;
      there = n.there;
      source = n.source;
      reply = n.reply;
    } in
    let apart : (i : ℕ) (b : AnswerLine) → slice_get s.answers i ≡ Some b → b.bank ≡ a.bank → b.place ≡ a.place → ⊥ =
    λ i b there of at. let both : ◌≡◌ {A = Bool} true false = sym (answered_by s.answers i a.bank a.place b there of at) ∙ may.allowed.names.once in
    absurd (cc) in
    record {
      named = λ i b h. ⊎_elim (λ (old : slice_get s.answers i ≡ Some b). other b (x.named i b old))
          (λ (last : (i ≡ length s.answers) × (a ≡ b)). subst (NamesOwnEntry (seen_after s (Answer a))) last.1 new) (in_pushed s.answers a b i h);
      once = λ i j b c h g of at.
          ⊎_elim
          (λ (old : slice_get s.answers i ≡ Some b).
          ⊎_elim
          (λ (too : slice_get s.answers j ≡ Some c). x.once i j b c old too of at)
          (λ (last : (j ≡ length s.answers) × (a ≡ c)). absurd
          (apart i b old (of ∙ ap (λ (y : AnswerLine). y.bank) (sym last.1)) (at ∙ ap (λ (y : AnswerLine). y.place) (sym last.1))))
          (in_pushed s.answers a c j g))
          (λ (last : (i ≡ length s.answers) × (a ≡ b)).
          ⊎_elim
          (λ (too : slice_get s.answers j ≡ Some c). absurd
          (apart j c too (sym of ∙ ap (λ (y : AnswerLine). y.bank) (sym last.1)) (sym at ∙ ap (λ (y : AnswerLine). y.place) (sym last.1))))
          (λ (both : (j ≡ length s.answers) × (a ≡ c)). last.0 ∙ sym both.0)
          (in_pushed s.answers a c j g))
          (in_pushed s.answers a b i h);
      none = λ is. absurd (omega (arith, is));
    }

answers_after : (x : Unit {0}) (s : Seen) (line : ReportLine) → MayStand s line → Answers s → Answers (seen_after s line)
answers_after x s (Header version) may known = answers_stay s (seen_after s (Header version)) refl refl (λ _. omega (arith, may.allowed.first)) known
answers_after x s (Shape radices words) may known = answers_none (seen_after s (Shape radices words)) refl
answers_after x s (Init a v) may known = answers_stay s (seen_after s (Init a v)) refl refl (λ _. omega (arith, may.allowed.section.early)) known
answers_after x s (Entry e) may known = answers_none (seen_after s (Entry e)) (known.none may.allowed.section.early)
answers_after x s (Answer a) may known = answers_push s a may known
answers_after x s (Word a v) may known = answers_stay s (seen_after s (Word a v)) refl refl (λ is. absurd (omega (arith, is))) known
answers_after x s (Order o) may known = answers_stay s (seen_after s (Order o)) refl refl (λ is. absurd (omega (arith, is))) known
answers_after x s (End complete) may known = answers_stay s (seen_after s (End complete)) refl refl (λ is. absurd (omega (arith, is))) known

abbrev AllAnswered : Seen → Type 0
AllAnswered s = IsAllAnswered s.entries s.answers

-- behind a last line that says so, each entry has an answer
complete_end : (s : Seen) (before : List ReportLine) → AllStand s (before ++ End true ∷ []) → AllAnswered (fold seen_after s (before ++ End true ∷ []))
complete_end s [] stand = stand.0.allowed.all_answered refl
complete_end s (line ∷ before) stand = complete_end (seen_after s line) before stand.1

pub answers_entries : (lines : List ReportLine) → AreGood lines → AnswersEntries lines
answers_entries lines good =
    let s : Seen = seen_of lines in
    let known : Answers s = kept_by_all (λ x line. x) (λ (x : Unit {0}) (t : Seen). Answers t) answers_after tt nothing_seen lines good.each
    (answers_none nothing_seen refl) in
    record {
      named = known.named;
      once = known.once;
      complete = λ before is bank place inside.
          let all : AllAnswered (seen_of (before ++ End true ∷ [])) = complete_end nothing_seen before (subst (AllStand nothing_seen) is good.each) in
          answer_of s bank place (subst (λ (ls : List ReportLine). AllAnswered (seen_of ls)) (sym is) all bank place inside);
    }
