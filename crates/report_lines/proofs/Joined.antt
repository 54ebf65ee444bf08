-- A line from left to right is the printing of its words.
use Rattle.std.proofs.Common.{◌≡◌, ◌<◌, ℕ, ◌==◌, ◌&&◌, true, false, List, [], ◌∷◌, ◌++◌, Option, Some, None, length, decimal, codes, refl, sym, ap, ◌∙◌}
use Rattle.std.proofs.Common.{arith, ⊎_elim, append_assoc, length-append, lit<, map}
use Rattle.std.specs.List.{join_with_byte}
use Rattle.std.proofs.lemmas.Bool.{cases_Bool}
use Rattle.std.proofs.lemmas.List.{append-nil}
use Rattle.std.proofs.lemmas.Fmt.{decimal_digit}
use Rattle.packet.specs.declared.kinds.Op.{Op}
use Rattle.packet.specs.declared.kinds.Reply.{Reply}
use Rattle.packet.specs.declared.kinds.Reply.TheVariants.{Old, Ok as Stored}
use Rattle.packet.specs.Kinds.{code_of}
use Rattle.packet.specs.Names.{code_word}
use Rattle.packet.specs.Spelling.{values_of_op}
use Rattle.report_lines.specs.Line.{op_words, reply_word, event_word, radix_word, radix_list, line_text}
use Rattle.report_lines.specs.declared.line.Radices.{Radices}
use Rattle.report_lines.specs.declared.line.Radices.TheVariants.{One, Two, Three}
use Rattle.report_lines.specs.declared.line.EntryLine.{EntryLine}
use Rattle.report_lines.specs.declared.line.ReportLine.{ReportLine}
use Rattle.report_lines.specs.declared.line.ReportLine.TheVariants.{Header, Shape, Init, Entry, Answer, Word, Order, End}
use Rattle.report_lines.proofs.Spelled.{reply_then, event_then, values_then, op_then, radices_then, line_then}

-- a word and others, each behind a space, and the line feed
ended : List ℕ → List (List ℕ) → List ℕ → List ℕ
ended w [] rest = w ++ 10 ∷ rest
ended w (v ∷ vs) rest = w ++ 32 ∷ ended v vs rest

join_ended : (w : List ℕ) (ws : List (List ℕ)) (rest : List ℕ) → (join_with_byte 32 (w ∷ ws) ++ 10 ∷ []) ++ rest ≡ ended w ws rest
unfolding ended
join_ended w [] rest = append_assoc w (10 ∷ []) rest
join_ended w (v ∷ vs) rest =
    ap (λ (t : List ℕ). t ++ rest) (append_assoc w (32 ∷ join_with_byte 32 (v ∷ vs)) (10 ∷ []))
    ∙ append_assoc w (32 ∷ (join_with_byte 32 (v ∷ vs) ++ 10 ∷ [])) rest
    ∙ ap (λ (t : List ℕ). w ++ 32 ∷ t) (join_ended v vs rest)

reply_is : (r : Reply) (rest : List ℕ) → reply_word r ++ 10 ∷ rest ≡ reply_then r rest
reply_is Stored rest = refl
reply_is (Old word) rest = refl

event_is : (e : Option ℕ) (rest : List ℕ) → event_word e ++ 10 ∷ rest ≡ event_then e rest
event_is None rest = refl
event_is (Some n) rest = refl

-- values between a word and a last one
values_are : (w last : List ℕ) (vs rest : List ℕ) → ended w (map decimal vs ++ last ∷ []) rest ≡ w ++ 32 ∷ values_then vs (last ++ 10 ∷ rest)
unfolding ended
values_are w last [] rest = refl
values_are w last (v ∷ vs) rest = ap (λ (t : List ℕ). w ++ 32 ∷ t) (values_are (decimal v) last vs rest)

op_is : (tag : List ℕ) (o : Op) (a : ℕ) (r : Reply) (rest : List ℕ)
    → ended tag (op_words o a (reply_word r ∷ [])) rest ≡ tag ++ 32 ∷ op_then o a (reply_then r rest)
unfolding ended
op_is tag o a r rest =
    let front : List ℕ → List ℕ = λ t. tag ++ 32 ∷ (code_word (code_of o) ++ 32 ∷ t) in
    ap front (values_are (decimal a) (reply_word r) (values_of_op o) rest)
    ∙ ap (λ (t : List ℕ). front (decimal a ++ 32 ∷ values_then (values_of_op o) t)) (reply_is r rest)

entry_is : (e : EntryLine) (rest : List ℕ)
    → ended (codes "entry") (decimal e.bank ∷ decimal e.place ∷ decimal e.source ∷ decimal e.tag ∷ op_words e.op e.address (reply_word e.reply ∷ [])) rest
    ≡ line_then (Entry e) rest
unfolding ended
entry_is e rest =
    ap (λ (t : List ℕ). codes "entry " ++ (decimal e.bank ++ 32 ∷ (decimal e.place ++ 32 ∷ (decimal e.source ++ 32 ∷ t))))
    (op_is (decimal e.tag) e.op e.address e.reply rest)

-- numbers joined by `x`, from left to right
crossed_two : (j k rest : List ℕ) → (j ++ ((120 ∷ k) ++ [])) ++ rest ≡ j ++ 120 ∷ (k ++ rest)
crossed_two j k rest = append_assoc j (120 ∷ (k ++ [])) rest ∙ ap (λ (x : List ℕ). j ++ 120 ∷ (x ++ rest)) (append-nil k)

crossed_three : (j k l rest : List ℕ) → (j ++ ((120 ∷ k) ++ ((120 ∷ l) ++ []))) ++ rest ≡ j ++ 120 ∷ (k ++ 120 ∷ (l ++ rest))
crossed_three j k l rest =
    append_assoc j (120 ∷ (k ++ 120 ∷ (l ++ []))) rest
    ∙ ap (λ (x : List ℕ). j ++ 120 ∷ x) (append_assoc k (120 ∷ (l ++ [])) rest ∙ ap (λ (x : List ℕ). k ++ 120 ∷ (x ++ rest)) (append-nil l))

radices_is : (r : Radices) (rest : List ℕ) → radix_word r ++ 32 ∷ (decimal (length (radix_list r)) ++ 32 ∷ rest) ≡ radices_then r rest
radices_is (One k) rest =
    let one : decimal 1 ≡ codes "1" = decimal_digit 1 (lit< tt) in
    ap (λ (d : List ℕ). decimal k ++ 32 ∷ (d ++ 32 ∷ rest)) one
radices_is (Two j k) rest =
    let two : decimal 2 ≡ codes "2" = decimal_digit 2 (lit< tt) in
    ⊎_elim
    (λ (same : (j == k) ≡ true). rw same (ap (λ (d : List ℕ). decimal j ++ 32 ∷ (d ++ 32 ∷ rest)) two))
    (λ (apart : (j == k) ≡ false).
    rw apart (crossed_two (decimal j) (decimal k) (32 ∷ (decimal 2 ++ 32 ∷ rest))
    ∙ ap (λ (d : List ℕ). decimal j ++ 120 ∷ (decimal k ++ 32 ∷ (d ++ 32 ∷ rest))) two))
    (cases_Bool (j == k))
radices_is (Three j k l) rest =
    let three : decimal 3 ≡ codes "3" = decimal_digit 3 (lit< tt) in
    ⊎_elim
    (λ (same : ((j == k) && (k == l)) ≡ true). rw same (ap (λ (d : List ℕ). decimal j ++ 32 ∷ (d ++ 32 ∷ rest)) three))
    (λ (apart : ((j == k) && (k == l)) ≡ false).
    rw apart (crossed_three (decimal j) (decimal k) (decimal l) (32 ∷ (decimal 3 ++ 32 ∷ rest))
    ∙ ap (λ (d : List ℕ). decimal j ++ 120 ∷ (decimal k ++ 120 ∷ (decimal l ++ 32 ∷ (d ++ 32 ∷ rest)))) three))
    (cases_Bool ((j == k) && (k == l)))

line_ended : (line : ReportLine) (rest : List ℕ) → line_text line ++ rest ≡ line_then line rest
unfolding ended
line_ended (Header version) rest = join_ended (codes "torusmem") (decimal version ∷ []) rest
line_ended (Shape radices words) rest =
    join_ended (codes "shape") (radix_word radices ∷ decimal (length (radix_list radices)) ∷ decimal words ∷ []) rest
    ∙ ap (λ (t : List ℕ). codes "shape " ++ t) (radices_is radices (decimal words ++ 10 ∷ rest))
line_ended (Init address value) rest = join_ended (codes "init") (decimal address ∷ decimal value ∷ []) rest
line_ended (Entry e) rest =
    join_ended (codes "entry") (decimal e.bank ∷ decimal e.place ∷ decimal e.source ∷ decimal e.tag ∷ op_words e.op e.address (reply_word e.reply ∷ [])) rest
    ∙ entry_is e rest
line_ended (Answer a) rest =
    join_ended (codes "answer") (decimal a.processor ∷ decimal a.index ∷ decimal a.bank ∷ decimal a.place ∷ reply_word a.reply ∷ []) rest
    ∙ ap (λ (t : List ℕ). codes "answer " ++ (decimal a.processor ++ 32 ∷ (decimal a.index ++ 32 ∷ (decimal a.bank ++ 32 ∷ (decimal a.place ++ 32 ∷ t)))))
    (reply_is a.reply rest)
line_ended (Word address value) rest = join_ended (codes "word") (decimal address ∷ decimal value ∷ []) rest
line_ended (Order o) rest =
    join_ended (codes "order") (decimal o.bank ∷ decimal o.place ∷ decimal o.issued ∷ decimal o.served ∷ event_word o.answered ∷ []) rest
    ∙ ap (λ (t : List ℕ). codes "order " ++ (decimal o.bank ++ 32 ∷ (decimal o.place ++ 32 ∷ (decimal o.issued ++ 32 ∷ (decimal o.served ++ 32 ∷ t)))))
    (event_is o.answered rest)
line_ended (End true) rest = join_ended (codes "end") (codes "complete" ∷ []) rest
line_ended (End false) rest = join_ended (codes "end") (codes "incomplete" ∷ []) rest

-- the bytes of a line, and what stands behind it
pub line_then-is : (line : ReportLine) (rest : List ℕ) → line_then line rest ≡ line_text line ++ rest
line_then-is line rest = sym (line_ended line rest)

-- a line has bytes
pub line_some : (line : ReportLine) (rest : List ℕ) → length rest < length (line_text line ++ rest)
line_some line rest = omega (arith, length-append {A = ℕ})
