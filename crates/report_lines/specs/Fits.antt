-- The numbers of a line fit the types that they are kept in.
use Rattle.std.specs.Prelude.{◌<◌, ◌^◌, All, IfSome}
use Rattle.packet.specs.declared.kinds.Op.{Op}
use Rattle.packet.specs.declared.kinds.Reply.{Reply}
use Rattle.packet.specs.declared.kinds.Reply.TheVariants.{Old, Ok as Stored}
use Rattle.packet.specs.Spelling.{values_of_op}
use Rattle.report_lines.specs.declared.line.Radices.{Radices}
use Rattle.report_lines.specs.declared.line.Radices.TheVariants.{One, Two, Three}
use Rattle.report_lines.specs.declared.line.EntryLine.{EntryLine}
use Rattle.report_lines.specs.declared.line.AnswerLine.{AnswerLine}
use Rattle.report_lines.specs.declared.line.OrderLine.{OrderLine}
use Rattle.report_lines.specs.declared.line.ReportLine.{ReportLine}
use Rattle.report_lines.specs.declared.line.ReportLine.TheVariants.{Header, Shape, Init, Entry, Answer, Word, Order}
use Rattle.report_lines.specs.declared.line.ReportLine.TheVariants.{End}

-- the values of an operation have 64 bits
abbrev pub FitsOp : Op → Type 0
FitsOp op = All (λ value. value < 2 ^ 64) (values_of_op op)

-- the value of a reply has 64 bits
abbrev pub FitsReply : Reply → Type 0
FitsReply Stored = Unit {0}
FitsReply (Old word) = word < 2 ^ 64

-- the radices have 32 bits
abbrev pub FitsRadices : Radices → Type 0
FitsRadices (One k) = k < 2 ^ 32
FitsRadices (Two j k) = (j < 2 ^ 32) × (k < 2 ^ 32)
FitsRadices (Three j k l) = (j < 2 ^ 32) × (k < 2 ^ 32) × (l < 2 ^ 32)

-- the indexes of an entry have 32 bits, and its values 64
pub record FitsEntry (e : EntryLine) : Type 0 where
  pub bank : e.bank < 2 ^ 32
  pub place : e.place < 2 ^ 32
  pub source : e.source < 2 ^ 32
  pub tag : e.tag < 2 ^ 32
  pub address : e.address < 2 ^ 32
  pub op : FitsOp e.op
  pub reply : FitsReply e.reply

-- the indexes of an answer have 32 bits, and its reply's value 64
pub record FitsAnswer (a : AnswerLine) : Type 0 where
  pub processor : a.processor < 2 ^ 32
  pub index : a.index < 2 ^ 32
  pub bank : a.bank < 2 ^ 32
  pub place : a.place < 2 ^ 32
  pub reply : FitsReply a.reply

-- the numbers of an order line have 32 bits
pub record FitsOrder (o : OrderLine) : Type 0 where
  pub bank : o.bank < 2 ^ 32
  pub place : o.place < 2 ^ 32
  pub issued : o.issued < 2 ^ 32
  pub served : o.served < 2 ^ 32
  pub answered : IfSome o.answered (λ n. n < 2 ^ 32)

-- the indexes of a line have 32 bits and its values 64: no number that may stand has more
abbrev pub FitsLine : ReportLine → Type 0
FitsLine (Header version) = version < 2 ^ 32
FitsLine (Shape radices words) = FitsRadices radices × (words < 2 ^ 32)
FitsLine (Init address value) = (address < 2 ^ 32) × (value < 2 ^ 64)
FitsLine (Entry e) = FitsEntry e
FitsLine (Answer a) = FitsAnswer a
FitsLine (Word address value) = (address < 2 ^ 32) × (value < 2 ^ 64)
FitsLine (Order o) = FitsOrder o
FitsLine (End complete) = Unit {0}
