-- The `answer` lines go on.
use Rattle.std.proofs.Common.{◌≡◌, ℕ, ◌<◌, ◌≤◌, true, false, List, [], ◌∷◌, ◌++◌, map, Some, slice_get, sym, subst, ◌∙◌, arith, append_assoc}
use Rattle.std.proofs.lemmas.List.{append-nil}
use Rattle.report_lines.specs.declared.line.EntryLine.{EntryLine}
use Rattle.report_lines.specs.declared.line.AnswerLine.{AnswerLine}
use Rattle.report_lines.specs.declared.line.ReportLine.{ReportLine}
use Rattle.report_lines.specs.declared.line.ReportLine.TheVariants.{Answer}
use Rattle.report_check.specs.Seen.{above_last, entries_at, has_newer, is_answered, key_of}
use Rattle.report_check.proofs.Going.{GoesOn, seen_at}

-- an answer of an entry that has none yet, behind answers of lesser indexes
pub record AnswersNext (es : List EntryLine) (done : List AnswerLine) (a : AnswerLine) : Type 0 where
  pub index : a.index < 4096
  pub rises : above_last (map key_of done) ≤ key_of a
  pub entry : EntryLine
  pub there : slice_get (entries_at es a.bank) a.place ≡ Some entry
  pub source : entry.source ≡ a.processor
  pub reply : entry.reply ≡ a.reply
  pub once : is_answered done a.bank a.place ≡ false

-- each answer does so behind those that are done
abbrev pub AllAnswerNext : List EntryLine → List AnswerLine → List AnswerLine → Type 0
AllAnswerNext es done [] = Unit {0}
AllAnswerNext es done (a ∷ ans) = AnswersNext es done a × AllAnswerNext es (done ++ a ∷ []) ans

-- what follows the `answer` lines goes on
abbrev pub BehindAnswers : ℕ → ℕ → ℕ → List ℕ → List ℕ → List EntryLine → List AnswerLine → List ReportLine → Type 0
BehindAnswers v t w m ins es all rest = (n : ℕ) → 2 ≤ n → n ≤ 5 → GoesOn (seen_at n v t w m ins es all [] []) rest

pub answers_on : (v t w n : ℕ) (m ins : List ℕ) (es : List EntryLine) (done ans all : List AnswerLine) (rest : List ReportLine) → 2 ≤ n → n ≤ 5
    → (v ≡ 2 → has_newer es ≡ true) → AllAnswerNext es done ans → done ++ ans ≡ all → BehindAnswers v t w m ins es all rest
    → GoesOn (seen_at n v t w m ins es done [] []) (map Answer ans ++ rest)
answers_on v t w n m ins es done [] all rest low high newer next are on =
    subst (λ x. GoesOn (seen_at n v t w m ins es x [] []) rest) (sym (sym (append-nil done) ∙ are)) (on n low high)
answers_on v t w n m ins es done (a ∷ ans) all rest low high newer next are on = (
  record {
    section = record { section = record { shaped = low; early = high }; newer = newer };
    index = next.0.index;
    rises = next.0.rises;
    names = record { entry = next.0.entry; there = next.0.there; source = next.0.source; reply = next.0.reply; once = next.0.once };
  },
  answers_on v t w 5 m ins es (done ++ a ∷ []) ans all rest (omega arith) (omega arith) newer next.1 (append_assoc done (a ∷ []) ans ∙ are) on,
)
