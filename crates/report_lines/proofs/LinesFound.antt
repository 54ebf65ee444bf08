-- What a line that is read spells: found, and nothing where there is none.
use Rattle.std.proofs.Common.{◌≡◌, ◌≢◌, ℕ, true, false, List, ◌∷◌, ◌++◌, Option, Some, None, IfSome, IfNone}
use Rattle.std.proofs.Common.{decimal, codes, sym, ap, subst, ◌∙◌}
use Rattle.std.proofs.lemmas.Option.{none-some, IfSome_then}
use Rattle.report_lines.specs.Line.{line_text}
use Rattle.report_lines.specs.Fits.{FitsLine}
use Rattle.report_lines.specs.declared.line.ReportLine.{ReportLine}
use Rattle.report_lines.specs.declared.line.ReportLine.TheVariants.{Header, Shape, Init, Entry, Answer, Word, Order, End}
use Rattle.report_lines.proofs.Spelled.{op_then, radices_then, line_then}
use Rattle.report_lines.specs.Reading.{◌>>=◌, GivesRead, behind, index_at, reply_read_at, event_at, valued_at, op_at}
use Rattle.report_lines.specs.Reading.{four_at, entry_at, answer_at, order_at, radices_at, shape_at, header_at, end_at, word_at, report_line_at}
use Rattle.report_lines.proofs.LinesAgain.{line_again}
use Rattle.report_lines.proofs.Joined.{line_then-is}
use Rattle.report_lines.proofs.Found.{then_some, instead_some, or_some, behind_spelled, index_spelled, valued_spelled, four_spelled, reply_spelled}
use Rattle.report_lines.proofs.Found.{event_spelled, op_spelled, radices_spelled}

abbrev SpellsLine : List ℕ → ReportLine × List ℕ → Type 0
SpellsLine text x = FitsLine x.0 × (text ≡ line_then x.0 x.1)

entry_spelled : (text : List ℕ) → IfSome (entry_at text) (SpellsLine text)
unfolding entry_at
entry_spelled text =
    then_some _ (four_at (codes "entry ") text)
    (λ x. op_at x.4 >>= λ op. reply_read_at op.2
    >>= λ reply. Some (Entry (record { bank = x.0; place = x.1; source = x.2; tag = x.3; address = op.1; op = op.0; reply = reply.0 }), reply.1))
    (four_spelled (codes "entry ") text)
    (λ x hx. then_some _ (op_at x.4)
    (λ op. reply_read_at op.2
    >>= λ reply. Some (Entry (record { bank = x.0; place = x.1; source = x.2; tag = x.3; address = op.1; op = op.0; reply = reply.0 }), reply.1))
    (op_spelled x.4)
    (λ op ho. then_some _ (reply_read_at op.2)
    (λ reply. Some (Entry (record { bank = x.0; place = x.1; source = x.2; tag = x.3; address = op.1; op = op.0; reply = reply.0 }), reply.1))
    (reply_spelled op.2)
    (λ reply hr. (
      record { bank = hx.0; place = hx.1; source = hx.2; tag = hx.3; address = ho.1; op = ho.0; reply = hr.0 },
      hx.4
          ∙ ap (λ (t : List ℕ). codes "entry " ++ (decimal x.0 ++ 32 ∷ (decimal x.1 ++ 32 ∷ (decimal x.2 ++ 32 ∷ (decimal x.3 ++ 32 ∷ t)))))
          (ho.2 ∙ ap (λ (t : List ℕ). op_then op.0 op.1 t) hr.1),
    ))))

answer_spelled : (text : List ℕ) → IfSome (answer_at text) (SpellsLine text)
unfolding answer_at
answer_spelled text =
    then_some _ (four_at (codes "answer ") text)
    (λ x. reply_read_at x.4 >>= λ reply. Some (Answer (record { processor = x.0; index = x.1; bank = x.2; place = x.3; reply = reply.0 }), reply.1))
    (four_spelled (codes "answer ") text)
    (λ x hx. then_some _ (reply_read_at x.4)
    (λ reply. Some (Answer (record { processor = x.0; index = x.1; bank = x.2; place = x.3; reply = reply.0 }), reply.1))
    (reply_spelled x.4)
    (λ reply hr. (
      record { processor = hx.0; index = hx.1; bank = hx.2; place = hx.3; reply = hr.0 },
      hx.4
          ∙ ap (λ (t : List ℕ). codes "answer " ++ (decimal x.0 ++ 32 ∷ (decimal x.1 ++ 32 ∷ (decimal x.2 ++ 32 ∷ (decimal x.3 ++ 32 ∷ t))))) hr.1,
    )))

order_spelled : (text : List ℕ) → IfSome (order_at text) (SpellsLine text)
unfolding order_at
order_spelled text =
    then_some _ (four_at (codes "order ") text)
    (λ x. event_at x.4 >>= λ e. Some (Order (record { bank = x.0; place = x.1; issued = x.2; served = x.3; answered = e.0 }), e.1))
    (four_spelled (codes "order ") text)
    (λ x hx. then_some _ (event_at x.4)
    (λ e. Some (Order (record { bank = x.0; place = x.1; issued = x.2; served = x.3; answered = e.0 }), e.1))
    (event_spelled x.4)
    (λ e he. (
      record { bank = hx.0; place = hx.1; issued = hx.2; served = hx.3; answered = he.0 },
      hx.4
          ∙ ap (λ (t : List ℕ). codes "order " ++ (decimal x.0 ++ 32 ∷ (decimal x.1 ++ 32 ∷ (decimal x.2 ++ 32 ∷ (decimal x.3 ++ 32 ∷ t))))) he.1,
    )))

shape_spelled : (text : List ℕ) → IfSome (shape_at text) (SpellsLine text)
unfolding shape_at
shape_spelled text =
    then_some _ (behind (codes "shape ") text) (λ rest. radices_at rest >>= λ radices. index_at 10 radices.1 >>= λ words. Some (Shape radices.0 words.0, words.1))
    (behind_spelled (codes "shape ") text)
    (λ rest is. then_some _ (radices_at rest) (λ radices. index_at 10 radices.1 >>= λ words. Some (Shape radices.0 words.0, words.1)) (radices_spelled rest)
    (λ radices hr. then_some _ (index_at 10 radices.1) (λ words. Some (Shape radices.0 words.0, words.1)) (index_spelled 10 radices.1)
    (λ words hw. (
      (hr.0, hw.0),
      is ∙ ap (λ (t : List ℕ). codes "shape " ++ t) (hr.1 ∙ ap (λ (t : List ℕ). radices_then radices.0 t) hw.1),
    ))))

header_spelled : (text : List ℕ) → IfSome (header_at text) (SpellsLine text)
unfolding header_at
header_spelled text =
    then_some _ (behind (codes "torusmem ") text) (λ rest. index_at 10 rest >>= λ version. Some (Header version.0, version.1))
    (behind_spelled (codes "torusmem ") text)
    (λ rest is. then_some _ (index_at 10 rest) (λ version. Some (Header version.0, version.1)) (index_spelled 10 rest)
    (λ version hv. (hv.0, is ∙ ap (λ (t : List ℕ). codes "torusmem " ++ t) hv.1)))

end_spelled : (text : List ℕ) → IfSome (end_at text) (SpellsLine text)
unfolding end_at
end_spelled text =
    instead_some _ (behind (codes "end complete\n") text) (λ rest. Some (End true, rest)) _ (behind_spelled (codes "end complete\n") text) (λ rest is. (tt, is))
    (instead_some _ (behind (codes "end incomplete\n") text) (λ rest. Some (End false, rest)) None (behind_spelled (codes "end incomplete\n") text)
    (λ rest is. (tt, is)) tt)

word_spelled : (text : List ℕ) → IfSome (word_at text) (SpellsLine text)
unfolding word_at
word_spelled text =
    instead_some _ (valued_at 10 (codes "word ") text) (λ p. Some (Word p.0 p.1, p.2)) _ (valued_spelled 10 (codes "word ") text)
    (λ p is. ((is.0, is.1), is.2))
    (instead_some _ (valued_at 10 (codes "init ") text) (λ p. Some (Init p.0 p.1, p.2)) None (valued_spelled 10 (codes "init ") text)
    (λ p is. ((is.0, is.1), is.2)) tt)

-- the line that a text begins with
line_read : (text : List ℕ) → IfSome (report_line_at text) (SpellsLine text)
unfolding report_line_at
line_read text =
    or_some _ (entry_at text) _ (entry_spelled text)
    (or_some _ (answer_at text) _ (answer_spelled text)
    (or_some _ (order_at text) _ (order_spelled text)
    (or_some _ (word_at text) _ (word_spelled text)
    (or_some _ (end_at text) _ (end_spelled text) (or_some _ (shape_at text) (header_at text) (shape_spelled text) (header_spelled text))))))

pub line_spelled : (text : List ℕ) → IfSome (report_line_at text) (λ x. FitsLine x.0 × (text ≡ line_text x.0 ++ x.1))
line_spelled text = IfSome_then (report_line_at text) (line_read text) (λ x is. (is.0, is.1 ∙ line_then-is x.0 x.1))

-- a text that begins with a line is read so
pub read_of : (line : ReportLine) (more rest : List ℕ) → FitsLine line → rest ≡ line_text line ++ more → report_line_at rest ≡ Some (line, more)
read_of line more rest fits is = ap report_line_at (is ∙ sym (line_then-is line more)) ∙ line_again line more fits

-- what a function returned, by what it reads
pub gives_found : {X Y : Type 0} (view : X → Y) (r : Option X) (read : Option Y) (P : Y → Type 0) → GivesRead view r read → IfSome read P
    → IfSome r (λ x. P (view x))
gives_found view None read P gives all = tt
gives_found {X} {Y} view (Some x) read P gives all =
    let All : Option Y → Type 0 = λ o. IfSome o P in subst All gives all

pub gives_none : {X : Type 0} (view : X → ReportLine × List ℕ) (r : Option X) (text : List ℕ) → GivesRead view r (report_line_at text)
    → IfNone r ((line : ReportLine) (rest : List ℕ) → FitsLine line → text ≢ line_text line ++ rest)
gives_none view None text gives = λ line rest fits is. none-some (line, rest) (sym gives ∙ read_of line rest text fits is)
gives_none view (Some x) text gives = tt
