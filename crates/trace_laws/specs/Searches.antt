-- What a search knows of a trace before an event.
use Rattle.std.specs.Prelude.{◌≡◌, ◌⊎◌, ◌<◌, ◌≤◌, ℕ, Bool, true, cond, List, [], ◌∷◌, Option, Some, None, length, map}
use Rattle.std.specs.Prelude.{take, slice_get, slice_index}
use Rattle.packet.specs.declared.kinds.Reply.{Reply}
use Rattle.packet.specs.Memory.{new_word, reply_to}
use Rattle.trace_laws.specs.declared.event.Call.{Call}
use Rattle.trace_laws.specs.declared.event.Event.{Event}
use Rattle.trace_laws.specs.Traces.{TraceIssuesAt, TraceAnswersAt, IsUnanswered}
use Rattle.trace_laws.specs.Orders.{IsOn, IsOrder, memory_of}
use Rattle.trace_laws.specs.Legal.{Legal}
use Rattle.trace_laws.specs.Unanswered.{IsUnansweredLoad, HasNoUnansweredLoad}
use Rattle.trace_laws.specs.declared.opened.Open.{Open}
use Rattle.trace_laws.specs.declared.opened.Config.{Config}
use Rattle.trace_laws.specs.declared.opened.Branch.{Branch}
use Rattle.trace_laws.specs.declared.opened.Node.{Node}
use Rattle.trace_laws.specs.Configs.{IsOpen, IsLeft, HasTakenEffect, IsIn, IsAsGood, release}

-- an operation is in slot s
abbrev pub IsAt : List (Option Open) → ℕ → Open → Type 0
IsAt table s o = slice_get table s ≡ Some (Some o)

-- before event k it was issued, and not answered; its promise is what the trace will answer
pub record IsPending (trace : List Event) (k : ℕ) (o : Open) : Type 0 where
  pub at : ℕ
  pub early : at < k
  pub issue : TraceIssuesAt trace at o.call
  pub unanswered : IsUnanswered trace k o.call.id
  pub kept : (i : ℕ) (reply : Reply) → TraceAnswersAt trace i o.call.id reply → o.promise ≡ Some reply
  pub honest : (reply : Reply) → o.promise ≡ Some reply
      → (i : ℕ) × TraceAnswersAt trace i o.call.id reply

-- this operation was answered before event k, or is in a slot
abbrev pub IsKnown : List Event → ℕ → List (Option Open) → Call → Type 0
IsKnown trace k table call =
    ((i : ℕ) × (reply : Reply) × (i < k) × TraceAnswersAt trace i call.id reply)
    ⊎ ((s : ℕ) × (o : Open) × IsAt table s o × (o.call ≡ call))

-- the table's operations are those on word w that are open before event k; a load that is never
-- answered need not be among them
pub record IsIndexTable (trace : List Event) (k w : ℕ) (table : List (Option Open)) : Type 0 where
  pub slots : length table ≤ 128
  pub pending : (s : ℕ) (o : Open) → IsAt table s o → IsPending trace k o
  pub here : (s : ℕ) (o : Open) → IsAt table s o → o.call.operation.address ≡ w
  pub distinct : (s u : ℕ) (o p : Open) → IsAt table s o → IsAt table u p → o.call.id ≡ p.call.id
      → s ≡ u
  pub known : (i : ℕ) (call : Call) → i < k → TraceIssuesAt trace i call
      → call.operation.address ≡ w → (IsUnansweredLoad trace call → ⊥) → IsKnown trace k table call

-- each word has a table
abbrev pub AreTables : ℕ → List Event → ℕ → (ℕ → List (Option Open)) → Type 0
AreTables words trace k tables = (w : ℕ) → w < words → IsIndexTable trace k w (tables w)

-- a configuration of word w tells what an order leaves of it, and which of the open operations on
-- it are in the order
pub record Fits (opening : List ℕ) (table : List (Option Open)) (w : ℕ) (order : List Call)
    (c : Config) : Type 0 where
  pub word : c.word ≡ slice_index (memory_of opening order) w
  pub taken : (s : ℕ) (o : Open) → IsOpen table w s o → HasTakenEffect c s → IsOn order o.call.id
  pub left : (s : ℕ) (o : Open) → IsOpen table w s o → IsLeft c s → IsOn order o.call.id → ⊥
  pub free : (s : ℕ) → s < 128 → IsLeft c s ⊎ ((o : Open) × IsOpen table w s o)

-- a configuration keeps up with an order: it is as good as one that fits it
abbrev pub KeepsUp : List ℕ → List (Option Open) → ℕ → List Call → Config → Type 0
KeepsUp opening table w order c =
    (d : Config) × Fits opening table w order d × IsAsGood table w c d

-- it was answered before event k, and wherever it gives this reply it leaves the word as it is
abbrev pub WasIdle : List Event → ℕ → Call → Type 0
WasIdle trace k c =
    (i : ℕ) × (reply : Reply) × (i < k) × TraceAnswersAt trace i c.id reply
    × ((word : ℕ) → reply_to c.operation.op word ≡ reply → new_word c.operation.op word ≡ word)

-- place n of an order is a cut for word w at event k: what stands on w before it was issued by
-- then, and what stands on w behind it was not answered by then, or is idle
pub record IsCut (trace : List Event) (k w : ℕ) (order : List Call) (n : ℕ) : Type 0 where
  pub before : (x : ℕ) (c : Call) → x < n → slice_get order x ≡ Some c → c.operation.address ≡ w
      → (i : ℕ) × (i < k) × TraceIssuesAt trace i c
  pub behind : (x : ℕ) (c : Call) → n ≤ x → slice_get order x ≡ Some c → c.operation.address ≡ w
      → IsUnanswered trace k c.id ⊎ WasIdle trace k c

-- some configuration of word w keeps up with the order up to a cut
abbrev pub IsCovered : List ℕ → List Event → ℕ → List (Option Open) → ℕ → List Call → List Config
    → Type 0
IsCovered opening trace k table w order configs =
    (n : ℕ) × (c : Config) × IsIn configs c × KeepsUp opening table w (take n order) c
    × IsCut trace k w order n

-- completeness: whatever order explains the trace, without loads that are never answered, each word
-- has a configuration that keeps up with it up to a cut
abbrev pub IsComplete : List ℕ → List Event → ℕ → (ℕ → List (Option Open)) → (ℕ → List Config)
    → Type 0
IsComplete opening trace k tables sets = (order : List Call) → IsOrder opening trace order
    → HasNoUnansweredLoad trace order → (w : ℕ) → w < length opening → IsCovered opening trace k (tables w) w order (sets w)

-- the operations of the marked nodes, in the order in which the nodes were made
abbrev pub order_of : List Node → List Bool → List Call
order_of [] marks = []
order_of (node ∷ nodes) [] = []
order_of (node ∷ nodes) (mark ∷ marks) =
    cond mark (node.call ∷ order_of nodes marks) (order_of nodes marks)

-- the nodes on the way back from one
abbrev pub IsTrail : List Node → Option ℕ → List ℕ → Type 0
IsTrail nodes last [] = last ≡ None
IsTrail nodes last (i ∷ trail) =
    (node : Node) × (last ≡ Some i) × (slice_get nodes i ≡ Some node)
    × IsTrail nodes node.before trail

-- one branch of each word is picked, and the nodes on their trails are marked, and no others
pub record Picks (words : ℕ) (sets : ℕ → List Branch) (nodes : List Node) (pick : ℕ → Branch)
    (trails : ℕ → List ℕ) (marks : List Bool) : Type 0 where
  pub sized : length marks ≡ length nodes
  pub picked : (w : ℕ) → w < words → IsIn (sets w) (pick w)
  pub trailed : (w : ℕ) → w < words → IsTrail nodes (pick w).trail (trails w)
  pub marked : (w i : ℕ) → w < words → IsIn (trails w) i → slice_get marks i ≡ Some true
  pub only : (i : ℕ) → slice_get marks i ≡ Some true → (w : ℕ) × (w < words) × IsIn (trails w) i

-- an order of what was issued before event k fits the branches that are picked
pub record IsExplained (opening : List ℕ) (trace : List Event) (k : ℕ)
    (tables : ℕ → List (Option Open)) (pick : ℕ → Branch) (order : List Call) : Type 0 where
  pub legal : Legal opening trace k order
  pub fits : (w : ℕ) → w < length opening → Fits opening (tables w) w order (pick w).config

-- Soundness: nodes lead back to earlier ones, branches to nodes that there are, and whatever
-- branches are picked, one for each word, the order of the nodes that they lead back to explains
-- the trace so far.
pub record IsSoundSearch (opening : List ℕ) (trace : List Event) (k : ℕ)
    (tables : ℕ → List (Option Open)) (sets : ℕ → List Branch) (nodes : List Node) : Type 0 where
  pub back : (i j : ℕ) (node : Node) → slice_get nodes i ≡ Some node → node.before ≡ Some j → j < i
  pub inside : (w i : ℕ) (b : Branch) → w < length opening → IsIn (sets w) b → b.trail ≡ Some i
      → i < length nodes
  pub explained : (pick : ℕ → Branch) (trails : ℕ → List ℕ) (marks : List Bool)
      → Picks (length opening) sets nodes pick trails marks
      → IsExplained opening trace k tables pick (order_of nodes marks)

-- the configurations of some branches
abbrev pub configs_of : List Branch → List Config
configs_of branches = map (λ b. b.config) branches

-- all that a search knows before event k, of the open operations and of the branches of each word
pub record IsSearched (opening : List ℕ) (trace : List Event) (k : ℕ)
    (tables : ℕ → List (Option Open)) (sets : ℕ → List Branch) (nodes : List Node) : Type 0 where
  pub tabled : AreTables (length opening) trace k tables
  pub sound : IsSoundSearch opening trace k tables sets nodes
  pub complete : IsComplete opening trace k tables (λ w. configs_of (sets w))

-- the branch from which a word's search begins
abbrev pub first_branch : ℕ → Branch
first_branch word = record { config = record { word = word; taken = 0 }; trail = None }

-- the branches of a word after an answer
abbrev pub AreReleased : ℕ → List Branch → List Branch → Type 0
AreReleased s old new = (c : Branch) → IsIn new c
    → (b : Branch) × IsIn old b × HasTakenEffect b.config s
    × (c ≡ record { config = release b.config s; trail = b.trail })
