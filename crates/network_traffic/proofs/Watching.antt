-- Moves and rounds one more.
use Rattle.std.proofs.Common.{◌≡◌, ◌≢◌, ℕ, ◌+◌, ◌<◌, ◌≤◌, ◌^◌, Bool, true, false, List, [], ◌∷◌, ◌++◌, length, Option, Some, None, is_some, replicate, refl, sym, ap, subst, ◌∙◌, arith}
use Rattle.std.proofs.Common.{get_or-set_other}
use Rattle.std.specs.Prelude.{slice_index_or}
use Rattle.network_judge.specs.Table.{Table, channels_of}
use Rattle.network_machine.specs.declared.moves.Move.{Move}
use Rattle.network_machine.specs.declared.moves.Move.TheVariants.{Send, More, Take, Put, Accept, Credit}
use Rattle.network_machine.specs.Moves.{move_channel}
use Rattle.network_rounds.specs.declared.senders.Timed.{Timed}
use Rattle.network_traffic.specs.declared.waits.Wait.{Wait}
use Rattle.network_traffic.specs.declared.watch.Watch.{Watch}
use Rattle.network_traffic.specs.Plans.{all_numbers, next_number}
use Rattle.network_traffic.specs.Labels.{LabelsSpec, labels_spec, label_begun, labels_after}
use Rattle.network_traffic.specs.Fates.{Stamped, stamped, log_of, labels_behind, wait_between, latched_behind, rounds_waited}
use Rattle.network_traffic.specs.Waits.{CountsWait, CountWaits, changes_latch}
use Rattle.network_traffic.specs.Watches.{ShowsCourse, KeepsCounts}
use Rattle.network_traffic.proofs.Waiting.{round_ends}

-- the moves of a round, and one more
pub stamped_more : (round : ℕ) (moves : List Move) (m : Move) (log : List Stamped)
    → stamped round (moves ++ m ∷ []) log ≡ record { round = round; move = m } ∷ stamped round moves log
stamped_more round [] m log = refl
stamped_more round (first ∷ moves) m log = stamped_more round moves m (record { round = round; move = first } ∷ log)

wait_short : (before after : Option ℕ) → wait_between before after ≤ 1
wait_short None after = omega arith
wait_short (Some k) None = omega arith
wait_short (Some k) (Some j) = omega arith

-- a flit waits in no more rounds than there are
pub waited_few : (t : Table) (packets : List Timed) (x : ℕ) (rounds : List (List Move)) → rounds_waited t packets x rounds ≤ length rounds
waited_few t packets x [] = omega arith
waited_few t packets x (made ∷ before) =
    (let few = waited_few t packets x before in
    let one = wait_short (latched_behind t packets x before) (latched_behind t packets x (made ∷ before)) in
    omega (arith, few, one))

-- a move changes the latch behind its channel alone
pub latches_kept : (t : Table) (packets : List Timed) (l : LabelsSpec) (m : Move) (z : ℕ) → z ≢ move_channel m
    → slice_index_or (labels_after t packets l m).latches z None ≡ slice_index_or l.latches z None
latches_kept t packets l (Send p) z other = begun (next_number (all_numbers packets (channels_of t)) l.begun p.from)
  where
    begun : (of : Option ℕ) → slice_index_or (label_begun l p.from of).latches z None ≡ slice_index_or l.latches z None
    begun None = refl
    begun (Some k) = refl
latches_kept t packets l (More x) z other = refl
latches_kept t packets l (Take x) z other = rw get_or-set_other refl
latches_kept t packets l (Put x) z other = rw get_or-set_other refl
latches_kept t packets l (Accept x) z other = refl
latches_kept t packets l (Credit x) z other = refl

-- and one that changes no latch leaves all of them
pub latches_same : (t : Table) (packets : List Timed) (l : LabelsSpec) (m : Move) → changes_latch m ≡ false → (labels_after t packets l m).latches ≡ l.latches
latches_same t packets l (Send p) is = begun (next_number (all_numbers packets (channels_of t)) l.begun p.from)
  where
    begun : (of : Option ℕ) → (label_begun l p.from of).latches ≡ l.latches
    begun None = refl
    begun (Some k) = refl
latches_same t packets l (More x) is = refl
latches_same t packets l (Take x) is = absurd (let wrong : true ≡ false = is in cc)
latches_same t packets l (Put x) is = absurd (let wrong : true ≡ false = is in cc)
latches_same t packets l (Accept x) is = refl
latches_same t packets l (Credit x) is = refl

-- what is kept of waits behind a round
pub counted_more : {A : Type 0} (t : Table) (packets : List Timed) (rounds : List (List Move)) (made : List Move) (round : ℕ) (old new : Watch A)
    → length rounds + 1 ≡ round → round < 2 ^ 63 → KeepsCounts round old new → ShowsCourse t packets rounds old
    → labels_spec new.labels ≡ labels_behind t packets (log_of (made ∷ rounds))
    → CountWaits (λ x. rounds_waited t packets x (made ∷ rounds)) (length (made ∷ rounds) + 1) (λ x. is_some (latched_behind t packets x (made ∷ rounds)))
    new.labels.latches.items new.waits.items
counted_more t packets rounds made round old new is low keeps shows labels x d here =
    (let stood : ℕ → Bool = λ z. is_some (latched_behind t packets z rounds) in
    let waited : ℕ → ℕ = λ z. rounds_waited t packets z rounds in
    let latches : List (Option ℕ) = (labels_behind t packets (log_of (made ∷ rounds))).latches in
    let same = ap (λ (l : LabelsSpec). l.latches) labels in
    let counts = keeps waited stood (λ z. (let few = waited_few t packets z rounds in omega (arith, few, is, low)))
    (subst (λ (r : ℕ). CountWaits waited r stood old.labels.latches.items old.waits.items) is shows.waits) in
    let now = subst (λ (os : List (Option ℕ)). CountsWait (waited x) round (stood x) (is_some (slice_index_or os x None)) (slice_index_or new.waits.items x d)) same (counts x d here) in
    subst (λ (os : List (Option ℕ)). CountsWait (rounds_waited t packets x (made ∷ rounds)) (length (made ∷ rounds) + 1) (is_some (latched_behind t packets x (made ∷ rounds)))
    (is_some (slice_index_or os x None)) (slice_index_or new.waits.items x d)) (sym same)
    (subst (λ (r : ℕ). CountsWait (rounds_waited t packets x (made ∷ rounds)) r (is_some (slice_index_or latches x None)) (is_some (slice_index_or latches x None)) (slice_index_or new.waits.items x d))
    (omega (arith, is)) (round_ends (waited x) round (stood x) (is_some (slice_index_or latches x None)) (slice_index_or new.waits.items x d) now)))

-- what is kept of waits once all rounds are noted
pub counted_all : {A : Type 0} (t : Table) (packets : List Timed) (noted : List (List Move)) (rounds : ℕ) (w : Watch A) (latches : List (Option ℕ)) (waits : List Wait)
    → length noted ≡ rounds → latches ≡ w.labels.latches.items → waits ≡ w.waits.items → ShowsCourse t packets noted w
    → CountWaits (λ x. rounds_waited t packets x noted) (rounds + 1) (λ x. is_some (slice_index_or latches x None)) latches waits
counted_all t packets noted rounds w latches waits is here_latches here_waits shows x d here =
    (let same = ap (λ (l : LabelsSpec). is_some (slice_index_or l.latches x None)) (sym shows.log.labels) ∙ ap (λ (os : List (Option ℕ)). is_some (slice_index_or os x None)) (sym here_latches) in
    subst (λ (b : Bool). CountsWait (rounds_waited t packets x noted) (rounds + 1) b (is_some (slice_index_or latches x None)) (slice_index_or waits x d)) same
    (subst (λ (r : ℕ). CountsWait (rounds_waited t packets x noted) (r + 1) (is_some (latched_behind t packets x noted)) (is_some (slice_index_or latches x None)) (slice_index_or waits x d)) is
    (subst (λ (ws : List Wait). CountsWait (rounds_waited t packets x noted) (length noted + 1) (is_some (latched_behind t packets x noted)) (is_some (slice_index_or latches x None)) (slice_index_or ws x d))
    (sym here_waits)
    (subst (λ (os : List (Option ℕ)). CountsWait (rounds_waited t packets x noted) (length noted + 1) (is_some (latched_behind t packets x noted)) (is_some (slice_index_or os x None)) (slice_index_or w.waits.items x d))
    (sym here_latches) (shows.waits x d (let many = ap length here_waits in omega (arith, here, many)))))))
