-- Reading a line at the beginning of a text.
use Rattle.std.specs.Prelude.{◌≡◌, ℕ, ◌+◌, ◌-◌, ◌*◌, ◌^◌, ◌==◌, ◌&&◌, if◌then◌else◌, List, [], ◌∷◌}
use Rattle.std.specs.Prelude.{Bool, zero, suc, Option, Some}
use Rattle.std.specs.Prelude.{None, true, false, nat_lt, codes}
use Rattle.std.specs.Char.{is_ascii_digit}
use Rattle.std.specs.List.{after_first, before_first}
use Rattle.std.specs.Option.{option_or}
use Rattle.packet.specs.Names.{arity, code_named}
use Rattle.packet.specs.Reading.{op_with}
use Rattle.packet.specs.declared.kinds.Op.{Op}
use Rattle.packet.specs.declared.kinds.Reply.{Reply}
use Rattle.packet.specs.declared.kinds.Reply.TheVariants.{Old, Ok as Stored}
use Rattle.report_lines.specs.declared.line.Radices.{Radices}
use Rattle.report_lines.specs.declared.line.Radices.TheVariants.{One, Two, Three}
use Rattle.report_lines.specs.declared.line.ReportLine.{ReportLine}
use Rattle.report_lines.specs.declared.line.ReportLine.TheVariants.{Header, Shape, Init, Entry}
use Rattle.report_lines.specs.declared.line.ReportLine.TheVariants.{Answer, Word, Order}
use Rattle.report_lines.specs.declared.line.ReportLine.TheVariants.{End}

infixl 10 ◌>>=◌
-- what is read after something was read
abbrev pub ◌>>=◌ : {A B : Type 0} → Option A → (A → Option B) → Option B
None >>= f = None
(Some x) >>= f = f x

-- what a function returned, seen by view, is what reading gives
abbrev pub GivesRead : {X Y : Type 0} → (X → Y) → Option X → Option Y → Type 0
GivesRead view None read = read ≡ None
GivesRead view (Some x) read = read ≡ Some (view x)

-- what stands behind these bytes, where the text begins with them
unfoldable pub behind : List ℕ → List ℕ → Option (List ℕ)
behind [] text = Some text
behind (b ∷ bytes) [] = None
behind (b ∷ bytes) (c ∷ text) = if c == b then behind bytes text else None

-- the digits up to an end, behind those of a number
unfoldable pub digits_on : ℕ → ℕ → List ℕ → Option (ℕ × List ℕ)
digits_on end n [] = None
digits_on end n (b ∷ text) =
    if is_ascii_digit b then (if nat_lt (10 * n + (b - 48)) (2 ^ 64)
    then digits_on end (10 * n + (b - 48)) text else None)
    else (if b == end then Some (n, text) else None)

-- a number of 64 bits up to an end, and what stands behind that
unfoldable pub number_read_at : ℕ → List ℕ → Option (ℕ × List ℕ)
number_read_at end [] = None
number_read_at end (b ∷ text) =
    if b == 48 then (behind (end ∷ []) text >>= λ rest. Some (0, rest))
    else (if is_ascii_digit b then digits_on end (b - 48) text else None)

-- a number of 32 bits
unfoldable pub index_at : ℕ → List ℕ → Option (ℕ × List ℕ)
index_at end text = do
  n ← number_read_at end text
  if nat_lt n.0 (2 ^ 32) then Some (n.0, n.1) else None

-- what follows a word that the text begins with, else the other reading
abbrev pub instead : {A B : Type 0} → Option A → (A → Option B) → Option B → Option B
instead None f other = other
instead (Some x) f other = f x

-- a reply at the end of a line
unfoldable pub reply_read_at : List ℕ → Option (Reply × List ℕ)
reply_read_at text = instead (behind (codes "ok\n") text) (λ rest. Some (Stored, rest))
    (number_read_at 10 text >>= λ n. Some (Old n.0, n.1))

-- an event number or a dash at the end of a line
unfoldable pub event_at : List ℕ → Option (Option ℕ × List ℕ)
event_at text = instead (behind (codes "-\n") text) (λ rest. Some (None, rest))
    (index_at 10 text >>= λ n. Some (Some n.0, n.1))

-- an address and a value up to an end
unfoldable pub pair_at : ℕ → List ℕ → Option (ℕ × ℕ × List ℕ)
pair_at end text = do
  a ← index_at 32 text
  v ← number_read_at end a.1
  Some (a.0, v.0, v.1)

-- an address and a value behind a word
unfoldable pub valued_at : ℕ → List ℕ → List ℕ → Option (ℕ × ℕ × List ℕ)
valued_at end word text = do
  rest ← behind word text
  pair_at end rest

-- a space: words stand between spaces
abbrev pub is_space : ℕ → Bool
is_space b = b == 32

-- the values of an operation that brings as many, each up to a space; 0 for one that it doesn't bring
unfoldable pub values_at : ℕ → List ℕ → Option (ℕ × ℕ × List ℕ)
values_at zero text = Some (0, 0, text)
values_at (suc zero) text = do
  v ← number_read_at 32 text
  Some (v.0, 0, v.1)
values_at (suc (suc n)) text = do
  v ← number_read_at 32 text
  w ← number_read_at 32 v.1
  Some (v.0, w.0, w.1)

-- an operation: its word, its address and its values, up to the space behind them
unfoldable pub op_at : List ℕ → Option (Op × ℕ × List ℕ)
op_at text = do
  code ← code_named (before_first is_space text)
  a ← index_at 32 (after_first is_space text)
  values ← values_at (arity code) a.1
  Some (op_with code values.0 values.1, a.0, values.2)

-- four indexes behind a word
unfoldable pub four_at : List ℕ → List ℕ → Option (ℕ × ℕ × ℕ × ℕ × List ℕ)
four_at word text = do
  rest ← behind word text
  a ← index_at 32 rest
  b ← index_at 32 a.1
  c ← index_at 32 b.1
  d ← index_at 32 c.1
  Some (a.0, b.0, c.0, d.0, d.1)

-- an `entry` line
unfoldable pub entry_at : List ℕ → Option (ReportLine × List ℕ)
entry_at text = do
  x ← four_at (codes "entry ") text
  op ← op_at x.4
  reply ← reply_read_at op.2
  Some (
    Entry (record {
      bank = x.0;
      place = x.1;
      source = x.2;
      tag = x.3;
      address = op.1;
      op = op.0;
      reply = reply.0;
    }),
    reply.1,
  )

-- an `answer` line
unfoldable pub answer_at : List ℕ → Option (ReportLine × List ℕ)
answer_at text = do
  x ← four_at (codes "answer ") text
  reply ← reply_read_at x.4
  Some (
    Answer (record { processor = x.0; index = x.1; bank = x.2; place = x.3; reply = reply.0 }),
    reply.1,
  )

-- an `order` line
unfoldable pub order_at : List ℕ → Option (ReportLine × List ℕ)
order_at text = do
  x ← four_at (codes "order ") text
  answered ← event_at x.4
  Some (
    Order (record { bank = x.0; place = x.1; issued = x.2; served = x.3; answered = answered.0 }),
    answered.1,
  )

-- radices that are all the same, and their number
unfoldable pub uniform_at : List ℕ → Option (Radices × List ℕ)
uniform_at text = do
  k ← index_at 32 text
  instead (behind (codes "1 ") k.1) (λ rest. Some (One k.0, rest))
      (instead (behind (codes "2 ") k.1) (λ rest. Some (Two k.0 k.0, rest))
      (instead (behind (codes "3 ") k.1) (λ rest. Some (Three k.0 k.0 k.0, rest))
      None))

-- two radices that differ
unfoldable pub two_at : List ℕ → Option (Radices × List ℕ)
two_at text = do
  j ← index_at 120 text
  k ← index_at 32 j.1
  rest ← behind (codes "2 ") k.1
  if j.0 == k.0 then None else Some (Two j.0 k.0, rest)

-- three radices of which some differ
unfoldable pub three_at : List ℕ → Option (Radices × List ℕ)
three_at text = do
  j ← index_at 120 text
  k ← index_at 120 j.1
  l ← index_at 32 k.1
  rest ← behind (codes "3 ") l.1
  if (j.0 == k.0) && (k.0 == l.0) then None else Some (Three j.0 k.0 l.0, rest)

-- the radices and the number of dimensions
unfoldable pub radices_at : List ℕ → Option (Radices × List ℕ)
radices_at text = option_or (uniform_at text) (option_or (two_at text) (three_at text))

-- a `shape` line
unfoldable pub shape_at : List ℕ → Option (ReportLine × List ℕ)
shape_at text = do
  rest ← behind (codes "shape ") text
  radices ← radices_at rest
  words ← index_at 10 radices.1
  Some (Shape radices.0 words.0, words.1)

-- the first line
unfoldable pub header_at : List ℕ → Option (ReportLine × List ℕ)
header_at text = do
  rest ← behind (codes "torusmem ") text
  version ← index_at 10 rest
  Some (Header version.0, version.1)

-- the line of the end
unfoldable pub end_at : List ℕ → Option (ReportLine × List ℕ)
end_at text =
    instead (behind (codes "end complete\n") text) (λ rest. Some (End true, rest))
    (instead (behind (codes "end incomplete\n") text) (λ rest. Some (End false, rest)) None)

-- a line that gives a word of the memory
unfoldable pub word_at : List ℕ → Option (ReportLine × List ℕ)
word_at text =
    instead (valued_at 10 (codes "word ") text) (λ p. Some (Word p.0 p.1, p.2))
    (instead (valued_at 10 (codes "init ") text) (λ p. Some (Init p.0 p.1, p.2)) None)

-- the line that the text begins with, and what stands behind it
unfoldable pub report_line_at : List ℕ → Option (ReportLine × List ℕ)
report_line_at text =
    option_or (entry_at text) (option_or (answer_at text)
    (option_or (order_at text) (option_or (word_at text)
    (option_or (end_at text) (option_or (shape_at text) (header_at text))))))
