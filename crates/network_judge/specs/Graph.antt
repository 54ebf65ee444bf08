-- A graph of channels: from each, in some columns, one leads on to another (Dally and Seitz: the
-- dependency graph).
use Rattle.std.specs.Prelude.{ℕ, ◌+◌, ◌-◌, ◌*◌, ◌==◌, nat_lt, if◌then◌else◌, Bool, List, length}
use Rattle.std.specs.Prelude.{slice_index}
use Rattle.rising.specs.Graph.{Digraph}
use Rattle.network_judge.specs.declared.table.Reply.{Reply}
use Rattle.network_judge.specs.Replies.{reply_at}
use Rattle.network_judge.specs.Marks.{is_marked_at}
use Rattle.network_judge.specs.Table.{Table, channels_of, columns_of}

-- in the first columns what one function says, and behind them what another says
abbrev pub either : {A : Type 0} → ℕ → (ℕ → A) → (ℕ → A) → ℕ → A
either columns f h c = if nat_lt c columns then f c else h (c - columns)

-- the flags and the choices, which have a row for each channel
abbrev pub flag_at : ℕ → List Bool → ℕ → ℕ → Bool
flag_at columns used x c = is_marked_at used (x * columns + c)

abbrev pub choice_at : ℕ → List ℕ → ℕ → ℕ → ℕ
choice_at columns choices x c = slice_index choices (x * columns + c)

-- whether a channel leads on in a column of the flags, or in one of the columns behind them, one
-- for each reply
abbrev pub leads_of : ℕ → List Bool → List Reply → ℕ → ℕ → Bool
leads_of columns used replies x =
    either columns (flag_at columns used x) (λ p. (reply_at replies p).from == x)

-- and to which channel
abbrev pub after_of : ℕ → List ℕ → List Reply → ℕ → ℕ → ℕ
after_of columns choices replies x =
    either columns (choice_at columns choices x) (λ p. (reply_at replies p).to)

-- the graph of two functions and of replies
abbrev pub graph_with : ℕ → ℕ → (ℕ → ℕ → Bool) → (ℕ → ℕ → ℕ) → List Reply → Digraph
graph_with channels columns leads after replies = record {
  nodes = channels;
  columns = columns + length replies;
  leads = λ x. either columns (leads x) (λ p. (reply_at replies p).from == x);
  after = λ x. either columns (after x) (λ p. (reply_at replies p).to);
}

-- the graph of flags, choices and replies
abbrev pub graph_of : ℕ → ℕ → List ℕ → List Bool → List Reply → Digraph
graph_of channels columns choices used replies =
    graph_with channels columns (flag_at columns used) (choice_at columns choices) replies

-- the graph of a table's choices that are marked, and of replies
abbrev pub marked_of : Table → List Bool → List Reply → Digraph
marked_of t used replies = graph_of (channels_of t) (columns_of t) t.choices used replies
