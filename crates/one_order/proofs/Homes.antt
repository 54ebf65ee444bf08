-- How many operations of a processor that follows its script can have an address that passes a test, and how many are at home in a bank.
use Rattle.std.proofs.Common.{◌≡◌, ℕ, zero, suc, ◌+◌, ◌%◌, ◌≤◌, ◌==◌, Bool, true, false, cond, List, [], ◌∷◌, ◌++◌, Option, Some, None, refl, ap, arith}
use Rattle.std.specs.Prelude.{count_by, sum_by}
use Rattle.std.specs.Bool.{MatchBool}
use Rattle.std.proofs.lemmas.List.Sums.{sum_by-cons}
use Rattle.packet.specs.declared.kinds.Operation.{Operation}
use Rattle.script_lines.specs.declared.line.Line.{Line}
use Rattle.script_lines.specs.declared.line.Line.TheVariants as line
use Rattle.script_lines.specs.Lines.{operations_of}
use Rattle.one_order.specs.Scripts.{Invocation, Allows, Spins, FollowsScript, IsFollowable, reply_number, address_of}
use Rattle.one_order.specs.Homes.{is_home, line_home_count, script_home_count, issued_home_count}
use Rattle.one_order.specs.Following.{Following, ShowsPast}
use Rattle.one_order.proofs.Shown.{followed}

-- how many operations, as they were issued, have an address that passes
abbrev pub invoked : (ℕ → Bool) → List Invocation → ℕ
invoked test ops = count_by (λ o. test o.operation.address) ops

-- whether the address of a line passes; a fence's doesn't
abbrev pub passes : (ℕ → Bool) → Option ℕ → Bool
passes test None = false
passes test (Some a) = test a

-- how many operations of a line can have an address that passes
abbrev pub line_room : (ℕ → Bool) → Line → ℕ
line_room test first = cond (passes test (address_of first)) (operations_of first) 0

-- and of a script
abbrev pub lines_room : (ℕ → Bool) → List Line → ℕ
lines_room test lines = sum_by (line_room test) lines

invoked_cons : (test : ℕ → Bool) (o : Invocation) (ops : List Invocation) → invoked test (o ∷ ops) ≡ cond (test o.operation.address) 1 0 + invoked test ops
invoked_cons test o ops = sum_by-cons (λ (x : Invocation). cond (test x.operation.address) 1 0) o ops

one_more : (test : ℕ → Bool) (a n : ℕ) (o : Invocation) (ops : List Invocation) → o.operation.address ≡ a → invoked test ops ≤ n
    → invoked test (o ∷ ops) ≤ cond (test a) 1 0 + n
one_more test a n o ops e h =
    let d : ◌≡◌ {A = ℕ} (cond (test o.operation.address) 1 0) (cond (test a) 1 0) = ap (λ k. cond (test k) 1 0) e in
    omega (arith, invoked_cons test o ops, d, h)

cond_suc : (b : Bool) (m : ℕ) → cond b (suc m) 0 ≡ cond b 1 0 + cond b m 0
cond_suc true m = omega arith
cond_suc false m = omega arith

either : (b : Bool) (P Q : Type 0) (x n : ℕ) → (P → x ≤ n) → (Q → x ≤ n) → MatchBool b P Q → x ≤ n
either true P Q x n f g h = f h
either false P Q x n f g h = g h

-- a spin makes at most so many loads, all of its address
spin_within : (test : ℕ → Bool) (a sought n : ℕ) (over : List Invocation → List Invocation → Type 0)
    → ((past ops : List Invocation) → over past ops → invoked test ops ≤ n)
    → (most : ℕ) (past ops : List Invocation) → Spins a sought most over past ops → invoked test ops ≤ cond (test a) most 0 + n
spin_within test a sought n over below zero past ops h = omega (arith, below past ops h)
spin_within test a sought n over below (suc most) past [] h = omega arith
spin_within test a sought n over below (suc most) past (o ∷ []) h =
    let none : invoked test [] ≤ cond (test a) most 0 + n = omega arith in
    omega (arith, one_more test a (cond (test a) most 0 + n) o [] (ap (λ (x : Operation). x.address) h.0) none, cond_suc (test a) most)
spin_within test a sought n over below (suc most) past (o ∷ q ∷ ops) h =
    let rest : invoked test (q ∷ ops) ≤ cond (test a) most 0 + n =
    either (reply_number h.1.0 == sought) (over (past ++ o ∷ []) (q ∷ ops)) (Spins a sought most over (past ++ o ∷ []) (q ∷ ops)) (invoked test (q ∷ ops))
    (cond (test a) most 0 + n)
    (λ g. omega (arith, below (past ++ o ∷ []) (q ∷ ops) g))
    (λ g. spin_within test a sought n over below most (past ++ o ∷ []) (q ∷ ops) g) h.1.2 in
    omega (arith, one_more test a (cond (test a) most 0 + n) o (q ∷ ops) (ap (λ (x : Operation). x.address) h.0) rest, cond_suc (test a) most)

room_cons : (test : ℕ → Bool) (first : Line) (lines : List Line) → lines_room test (first ∷ lines) ≡ line_room test first + lines_room test lines
room_cons test first lines = sum_by-cons (line_room test) first lines

-- an operation of an operation line
line_within : (test : ℕ → Bool) (a : ℕ) (first : Line) (lines : List Line) (o : Invocation) (ops : List Invocation) → cond (test a) 1 0 ≡ line_room test first
    → o.operation.address ≡ a
    → invoked test ops ≤ lines_room test lines → invoked test (o ∷ ops) ≤ lines_room test (first ∷ lines)
line_within test a first lines o ops e f h = omega (arith, e, one_more test a (lines_room test lines) o ops f h, room_cons test first lines)

abbrev address_in : Operation → ℕ
address_in o = o.address

-- the operations that a script allows, of the addresses that pass, are at most as many as its lines of those addresses count
pub allowed_within : (test : ℕ → Bool) (lines : List Line) (past ops : List Invocation) → Allows lines past ops → invoked test ops ≤ lines_room test lines
allowed_within test [] past [] h = omega arith
allowed_within test [] past (o ∷ ops) h = absurd h
allowed_within test (line.Fence ∷ lines) past [] h = omega arith
allowed_within test (line.Fence ∷ lines) past (o ∷ ops) h = omega (arith, allowed_within test lines past (o ∷ ops) h.1, room_cons test line.Fence lines)
allowed_within test (line.Spin a v m ∷ lines) past ops h =
    omega (
      arith,
      spin_within test a v (lines_room test lines) (Allows lines) (λ p q g. allowed_within test lines p q g) m past ops h,
      room_cons test
          (line.Spin a v m) lines,
    )
allowed_within test (line.Load a ∷ lines) past [] h = omega arith
allowed_within test (line.Load a ∷ lines) past (o ∷ ops) h =
    line_within test a (line.Load a) lines o ops refl (ap address_in h.0) (allowed_within test lines (past ++ o ∷ []) ops h.1)
allowed_within test (line.Store a v ∷ lines) past [] h = omega arith
allowed_within test (line.Store a v ∷ lines) past (o ∷ ops) h =
    line_within test a (line.Store a v) lines o ops refl (ap address_in h.0.2) (allowed_within test lines (past ++ o ∷ []) ops h.1)
allowed_within test (line.Swap a v ∷ lines) past [] h = omega arith
allowed_within test (line.Swap a v ∷ lines) past (o ∷ ops) h =
    line_within test a (line.Swap a v) lines o ops refl (ap address_in h.0.2) (allowed_within test lines (past ++ o ∷ []) ops h.1)
allowed_within test (line.Cas a e n ∷ lines) past [] h = omega arith
allowed_within test (line.Cas a e n ∷ lines) past (o ∷ ops) h =
    line_within test a (line.Cas a e n) lines o ops refl (ap address_in h.0.4) (allowed_within test lines (past ++ o ∷ []) ops h.1)
allowed_within test (line.Add a v ∷ lines) past [] h = omega arith
allowed_within test (line.Add a v ∷ lines) past (o ∷ ops) h =
    line_within test a (line.Add a v) lines o ops refl (ap address_in h.0.2) (allowed_within test lines (past ++ o ∷ []) ops h.1)
allowed_within test (line.And a v ∷ lines) past [] h = omega arith
allowed_within test (line.And a v ∷ lines) past (o ∷ ops) h =
    line_within test a (line.And a v) lines o ops refl (ap address_in h.0.2) (allowed_within test lines (past ++ o ∷ []) ops h.1)
allowed_within test (line.Or a v ∷ lines) past [] h = omega arith
allowed_within test (line.Or a v ∷ lines) past (o ∷ ops) h =
    line_within test a (line.Or a v) lines o ops refl (ap address_in h.0.2) (allowed_within test lines (past ++ o ∷ []) ops h.1)
allowed_within test (line.Xor a v ∷ lines) past [] h = omega arith
allowed_within test (line.Xor a v ∷ lines) past (o ∷ ops) h =
    line_within test a (line.Xor a v) lines o ops refl (ap address_in h.0.2) (allowed_within test lines (past ++ o ∷ []) ops h.1)
allowed_within test (line.Max a v ∷ lines) past [] h = omega arith
allowed_within test (line.Max a v ∷ lines) past (o ∷ ops) h =
    line_within test a (line.Max a v) lines o ops refl (ap address_in h.0.2) (allowed_within test lines (past ++ o ∷ []) ops h.1)
allowed_within test (line.Min a v ∷ lines) past [] h = omega arith
allowed_within test (line.Min a v ∷ lines) past (o ∷ ops) h =
    line_within test a (line.Min a v) lines o ops refl (ap address_in h.0.2) (allowed_within test lines (past ++ o ∷ []) ops h.1)

passes_home : (tiles b : ℕ) (x : Option ℕ) → passes (λ a. (a % tiles) == b) x ≡ is_home tiles b x
passes_home tiles b None = refl
passes_home tiles b (Some a) = refl

-- the test is that of a bank
home_lines : (tiles b : ℕ) (lines : List Line) → lines_room (λ a. (a % tiles) == b) lines ≡ script_home_count tiles b lines
home_lines tiles b [] = refl
home_lines tiles b (first ∷ lines) =
    let one : line_room (λ a. (a % tiles) == b) first ≡ line_home_count tiles b first =
    ap (λ c. cond c (operations_of first) 0) (passes_home tiles b (address_of first)) in
    omega (arith, one, home_lines tiles b lines, room_cons (λ a. (a % tiles) == b) first lines, sum_by-cons (line_home_count tiles b) first lines)

-- the operations that a script allows, at home in a bank, are at most as many as it counts for the bank
pub allowed_homes : (tiles b : ℕ) (lines : List Line) (ops : List Invocation) → FollowsScript lines ops
    → issued_home_count tiles b ops ≤ script_home_count tiles b lines
allowed_homes tiles b lines ops follows =
    omega (arith, allowed_within (λ a. (a % tiles) == b) lines [] ops follows, home_lines tiles b lines)

-- and so are those of a follower
pub shown_homes : (tiles b : ℕ) (lines : List Line) (past : List Invocation) (f : Following) → IsFollowable lines → ShowsPast lines past f →
    issued_home_count tiles b past ≤ script_home_count tiles b lines
shown_homes tiles b lines past f followable shows = allowed_homes tiles b lines past (followed lines past f followable shows)
