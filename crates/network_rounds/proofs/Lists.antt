-- Enabled moves and attempts, of one list behind another.
use Rattle.std.proofs.Common.{◌≡◌, inl, inr, ℕ, ◌+◌, ◌-◌, ◌%◌, ◌<◌, List, [], ◌∷◌, ◌++◌, length, take, drop, get_or, Vec, refl, sym, ◌∙◌, ap, subst}
use Rattle.std.proofs.lemmas.List.{append_assoc, append-nil, take_more, length-drop}
use Rattle.std.proofs.Math.Nat.{mod-eq_of_lt}
use Rattle.std.proofs.Math.Seq.{take-length}
use Rattle.std.proofs.lemmas.Grind.{flat_map-append}
use Rattle.std.specs.List.{flat_map}
use Rattle.network_judge.specs.declared.table.Reply.{Reply}
use Rattle.network_judge.specs.Table.{Table}
use Rattle.wormhole.specs.State.{NetState}
use Rattle.wormhole.specs.Events.{after}
use Rattle.network_machine.specs.declared.moves.Move.{Move}
use Rattle.network_machine.specs.Machine.{NetworkMachineSpec, ShowsNetwork, plain_network, SameTables, Permits, Prevents}
use Rattle.network_machine.specs.Runs.{Runs, RunsTo}
use Rattle.network_machine.proofs.Running.{no_move}
use Rattle.network_rounds.specs.declared.arbiter.Arbiter.{Arbiter}
use Rattle.network_rounds.specs.declared.arbiter.Attempt.{Attempt}
use Rattle.network_rounds.specs.Arbiters.{granted_to, attempts_by}
use Rattle.network_rounds.specs.Attempts.{AreEnabledMoves, IsMoveMade, AttemptsMoves, AddsEnabled, AddsMade}
use Rattle.network_rounds.specs.Rounds.{turned, turned_groups, IsRound}

enabled_behind : (m : NetworkMachineSpec) (xs ys ps qs : List Move) → AreEnabledMoves m xs ps → AreEnabledMoves m ys qs → AreEnabledMoves m (xs ++ ys) (ps ++ qs)
enabled_behind m [] ys ps qs h k = subst (AreEnabledMoves m ys) (ap (λ (zs : List Move). zs ++ qs) (sym h)) k
enabled_behind m (x ∷ xs) ys ps qs h k = elim h [
  | inl made_it ↦ inl (made_it.0, made_it.1 ++ qs, ap (λ (zs : List Move). zs ++ qs) made_it.2, enabled_behind m xs ys made_it.1 qs made_it.3 k)
  | inr missed ↦ inr (missed.0, enabled_behind m xs ys ps qs missed.1 k)
]

attempts_behind : (a b c : NetworkMachineSpec) (l m n : List ℕ) (xs ys : List Attempt) (ps qs : List Move) → AttemptsMoves a b l m xs ps → AttemptsMoves b c m n ys qs
    → AttemptsMoves a c l n (xs ++ ys) (ps ++ qs)
attempts_behind a b c l m n [] ys ps qs h k =
    subst (λ (z : NetworkMachineSpec). AttemptsMoves z c l n ys (ps ++ qs)) h.0 (subst (λ (z : List ℕ). AttemptsMoves b c z n ys (ps ++ qs)) h.1
    (subst (AttemptsMoves b c m n ys) (ap (λ (zs : List Move). zs ++ qs) (sym h.2)) k))
attempts_behind a b c l m n (x ∷ xs) ys ps qs h k = elim h [
  | inl made_it ↦ inl (
    made_it.0,
    made_it.1,
    made_it.2 ++ qs,
    ap (λ (zs : List Move). zs ++ qs) made_it.3,
    attempts_behind made_it.0 b c (granted_to l x) m n xs ys made_it.2 qs made_it.4 k,
  )
  | inr missed ↦ inr (missed.0, attempts_behind a b c l m n xs ys ps qs missed.1 k)
]

-- lists that go on, one behind the other
pub adds_enabled : (m : NetworkMachineSpec) (xs ys before between later : List Move) → AddsEnabled m xs before between → AddsEnabled m ys between later
    → AddsEnabled m (xs ++ ys) before later
adds_enabled m xs ys before between later h k = record {
  added = h.added ++ k.added;
  enabled = enabled_behind m xs ys h.added k.added h.enabled k.enabled;
  is = k.is ∙ (ap (λ (zs : List Move). zs ++ k.added) h.is ∙ append_assoc before h.added k.added);
}

pub adds_made : (a b c : NetworkMachineSpec) (l m n : List ℕ) (xs ys : List Attempt) (before between later : List Move) → AddsMade a b l m xs before between
    → AddsMade b c m n ys between later → AddsMade a c l n (xs ++ ys) before later
adds_made a b c l m n xs ys before between later h k = record {
  added = h.added ++ k.added;
  attempts = attempts_behind a b c l m n xs ys h.added k.added h.attempts k.attempts;
  is = k.is ∙ (ap (λ (zs : List Move). zs ++ k.added) h.is ∙ append_assoc before h.added k.added);
}

-- none so far
pub adds_none : (m : NetworkMachineSpec) (before later : List Move) → later ≡ before → AddsEnabled m [] before later
adds_none m before later is = record { added = []; enabled = refl; is = is ∙ sym (append-nil before) }

pub makes_none : (a b : NetworkMachineSpec) (l m : List ℕ) (before later : List Move) → b ≡ a → m ≡ l → later ≡ before → AddsMade a b l m [] before later
makes_none a b l m before later same kept is = record { added = []; attempts = (same, kept, refl); is = is ∙ sym (append-nil before) }

-- one move
pub adds_one : (m : NetworkMachineSpec) (x : Move) (before later : List Move) → Permits m x → later ≡ before ++ x ∷ [] → AddsEnabled m (x ∷ []) before later
adds_one m x before later allows is = record { added = x ∷ []; enabled = inl (allows, [], refl, refl); is = is }

pub passes_one : (m : NetworkMachineSpec) (x : Move) (before later : List Move) → Prevents m x → later ≡ before → AddsEnabled m (x ∷ []) before later
passes_one m x before later hinders is = record { added = []; enabled = inr (hinders, refl); is = is ∙ sym (append-nil before) }

pub makes_one : (a b : NetworkMachineSpec) (l m : List ℕ) (x : Attempt) (before later : List Move) → IsMoveMade a b x.of → m ≡ granted_to l x
    → later ≡ before ++ x.of ∷ [] → AddsMade a b l m (x ∷ []) before later
makes_one a b l m x before later made grants is = record { added = x.of ∷ []; attempts = inl (b, made, [], refl, (refl, grants, refl)); is = is }

pub misses_one : (a b : NetworkMachineSpec) (l m : List ℕ) (x : Attempt) (before later : List Move) → Prevents a x.of → b ≡ a → m ≡ l → later ≡ before
    → AddsMade a b l m (x ∷ []) before later
misses_one a b l m x before later hinders same kept is = record { added = []; attempts = inr (hinders, (same, kept, refl)); is = is ∙ sym (append-nil before) }

-- tables that stay from one machine to another, and from that to a third, stay from the first to the third
pub same_over : (a b c : NetworkMachineSpec) → SameTables a b → SameTables b c → SameTables a c
same_over a b c h k = record { table = k.table ∙ h.table; replies = k.replies ∙ h.replies }

-- a run from a state, with the names of its tables
abbrev pub RunsIn : NetworkMachineSpec → Table → List Reply → (ℕ → ℕ) → ℕ → ℕ → NetState → List Move → Type 0
RunsIn c t rs number top depth s ms = (u : NetState) × Runs (plain_network t number top depth) rs s ms u × ShowsNetwork c u

run_front : (a b c : NetworkMachineSpec) (x : Move) (ms : List Move) → IsMoveMade a b x → RunsTo b c ms → RunsTo a c (x ∷ ms)
run_front a b c x ms made runs number top depth s shows =
    (let h = made.0 number top depth s shows in
    let t : NetState = after (plain_network a.table number top depth) s h.event in
    let r : RunsIn c b.table b.replies number top depth t ms = runs number top depth t h.shows in
    let q : RunsIn c a.table a.replies number top depth t ms = subst (λ (u : Table). RunsIn c u a.replies number top depth t ms) made.1.table
    (subst (λ (rs : List Reply). RunsIn c b.table rs number top depth t ms) made.1.replies r) in
    (q.0, (h.event, h.can, q.1), q.2))

-- attempts that are made are a run
pub attempts_run : (a b : NetworkMachineSpec) (l m : List ℕ) (xs : List Attempt) (ps : List Move) → AttemptsMoves a b l m xs ps → RunsTo a b ps
attempts_run a b l m [] ps h = subst (λ (z : NetworkMachineSpec). RunsTo a z ps) (sym h.0) (subst (RunsTo a a) (sym h.2) (no_move a))
attempts_run a b l m (x ∷ xs) ps h = elim h [
  | inl made_it ↦ subst (RunsTo a b) (sym made_it.3)
      (run_front a made_it.0 b x.of made_it.2 made_it.1 (attempts_run made_it.0 b (granted_to l x) m xs made_it.2 made_it.4))
  | inr missed ↦ attempts_run a b l m xs ps missed.1
]

-- one move further
pub adds_next : (m : NetworkMachineSpec) (moves : List Move) (k : ℕ) (d : Move) (before between later : List Move) → k < length moves
    → AddsEnabled m (take k moves) before between → AddsEnabled m (get_or moves k d ∷ []) between later → AddsEnabled m (take (k + 1) moves) before later
adds_next m moves k d before between later low h one =
    subst (λ (xs : List Move). AddsEnabled m xs before later) (sym (take_more moves k d low))
    (adds_enabled m (take k moves) (get_or moves k d ∷ []) before between later h one)

pub makes_next : (a b c : NetworkMachineSpec) (l m n : List ℕ) (tried : List Attempt) (k : ℕ) (d : Attempt) (before between later : List Move) → k < length tried
    → AddsMade a b l m (take k tried) before between → AddsMade b c m n (get_or tried k d ∷ []) between later → AddsMade a c l n (take (k + 1) tried) before later
makes_next a b c l m n tried k d before between later low h one =
    subst (λ (xs : List Attempt). AddsMade a c l n xs before later) (sym (take_more tried k d low))
    (adds_made a b c l m n (take k tried) (get_or tried k d ∷ []) before between later h one)

-- one group further
pub group_adds : {A : Type 0} (m : NetworkMachineSpec) (turn : ℕ) (groups : List (Vec Move A)) (k : ℕ) (d : Vec Move A) (shown before between later : List Move)
    → k < length groups → shown ≡ (get_or groups k d).items → AddsEnabled m (turned_groups turn (take k groups)) before between
    → AddsEnabled m (turned turn shown) between later → AddsEnabled m (turned_groups turn (take (k + 1) groups)) before later
group_adds {A} m turn groups k d shown before between later low is h one =
    subst (λ (xs : List Move). AddsEnabled m xs before later) (sym more) (adds_enabled m (flat_map f (take k groups)) (f (get_or groups k d)) before between later h
    (subst (λ (xs : List Move). AddsEnabled m (turned turn xs) between later) is one))
  where
    f : Vec Move A → List Move
    f = λ group. turned turn group.items

    more : flat_map f (take (k + 1) groups) ≡ flat_map f (take k groups) ++ f (get_or groups k d)
    more =
        ap (flat_map f) (take_more groups k d low)
        ∙ (flat_map-append f (take k groups) (get_or groups k d ∷ []) ∙ ap (λ (xs : List Move). flat_map f (take k groups) ++ xs) (append-nil (f (get_or groups k d))))

-- a round of what is enabled, what is attempted of it, and what is made
pub round_of : (by : Arbiter) (a b : NetworkMachineSpec) (l m : List ℕ) (choices enabled : List Move) (tried : List Attempt) (made : List Move)
    → AddsEnabled a choices [] enabled → tried ≡ attempts_by by a l enabled → AddsMade a b l m tried [] made → IsRound by a b l m choices made
round_of by a b l m choices enabled tried made h is k = record {
  enabled = h.added;
  begins = h.enabled;
  attempts = subst (λ (es : List Move). AttemptsMoves a b l m (attempts_by by a l es) made) h.is
      (subst (λ (xs : List Attempt). AttemptsMoves a b l m xs made) is (subst (AttemptsMoves a b l m tried) (sym k.is) k.attempts));
}

pub run_of : (a b : NetworkMachineSpec) (l m : List ℕ) (tried : List Attempt) (made : List Move) → AddsMade a b l m tried [] made → RunsTo a b made
run_of a b l m tried made k = attempts_run a b l m tried made (subst (AttemptsMoves a b l m tried) (sym k.is) k.attempts)

-- the list of a vector
pub items_of : {X A : Type 0} (v w : Vec X A) → v ≡ w → v.items ≡ w.items
items_of {X} {A} v w e = ap (λ (u : Vec X A). u.items) e

-- a group whose turn is that of its first move
pub group_unturned : (m : NetworkMachineSpec) (turn : ℕ) (group before later : List Move) → turn ≡ 0 → 0 < length group → AddsEnabled m group before later
    → AddsEnabled m (turned turn group) before later
group_unturned m turn group before later none some adds =
    let first : turn % length group ≡ 0 = ap (λ (n : ℕ). n % length group) none ∙ mod-eq_of_lt some in
    subst (λ (xs : List Move). AddsEnabled m xs before later) (sym (ap (λ (n : ℕ). drop n group ++ take n group) first ∙ append-nil group)) adds

-- a group from the move whose turn it is
pub group_turned : (m : NetworkMachineSpec) (turn : ℕ) (group before between later : List Move)
    → AddsEnabled m (take (length group - turn % length group) (drop (turn % length group) group)) before between
    → AddsEnabled m (take (turn % length group) group) between later → AddsEnabled m (turned turn group) before later
group_turned m turn group before between later h k =
    let first : ℕ = turn % length group in
    let rest : take (length group - first) (drop first group) ≡ drop first group = ap (λ (n : ℕ). take n (drop first group)) (sym (length-drop first group)) ∙ take-length (drop first group) in
    adds_enabled m (drop first group) (take first group) before between later (subst (λ (xs : List Move). AddsEnabled m xs before between) rest h) k
