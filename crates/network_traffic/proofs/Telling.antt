-- The report on a simulation, by its rounds.
use Rattle.std.proofs.Common.{◌≡◌, ℕ, zero, suc, ◌+◌, ◌<◌, Bool, List, ◌++◌, map, length, Option, None, Vec, refl, ◌∙◌, ap, subst, arith}
use Rattle.std.specs.Prelude.{slice_index, slice_index_or}
use Rattle.std.specs.List.{flat_map, range_with_len}
use Rattle.std.proofs.lemmas.Option.{slice_get_within}
use Rattle.network_judge.specs.Table.{Table, channels_of}
use Rattle.network_judge.specs.Verdicts.{AllArrive}
use Rattle.network_machine.specs.declared.moves.Move.{Move}
use Rattle.network_machine.specs.declared.moves.Ending.{Ending}
use Rattle.network_machine.specs.Machine.{NetworkMachineSpec, IsOpenedNetwork}
use Rattle.network_machine.specs.Endings.{IsEnding}
use Rattle.network_rounds.specs.declared.arbiter.Arbiter.{Arbiter}
use Rattle.network_rounds.specs.declared.senders.Timed.{Timed}
use Rattle.network_rounds.specs.Choices.{groups_of}
use Rattle.network_rounds.specs.Joined.{AreJoined}
use Rattle.network_rounds.specs.Packets.{timed_of}
use Rattle.network_rounds.specs.Routers.{AreRouters}
use Rattle.network_rounds.specs.Senders.{queue_of}
use Rattle.network_rounds.specs.Simulations.{flits_in_channels}
use Rattle.network_text.specs.Network.{NetworkSpec}
use Rattle.network_text.specs.Lines.{first_lines}
use Rattle.network_traffic.specs.declared.running.Extent.{Extent}
use Rattle.network_traffic.specs.declared.watch.Watch.{Watch}
use Rattle.network_traffic.specs.Plans.{GoToReceivers}
use Rattle.network_traffic.specs.Fates.{log_of, begun_in_round, delivered_in_round, rounds_waited}
use Rattle.network_traffic.specs.Simulated.{IsSimulated}
use Rattle.network_traffic.specs.Written.{packet_line, packet_line_at, channel_line, channel_line_at, report_text, end_line}
use Rattle.network_traffic.specs.Answers.{is_sound, IsSimulationText}

-- packets between channels that packets go between go to ejection channels
pub receivers : (t : Table) (packets : List Timed) → AllArrive t → AreJoined t.joins packets (length packets) → GoToReceivers t packets
receivers t packets arrive joined k timed here =
    (arrive timed.packet.from timed.packet.to (joined k timed (slice_get_within packets k timed here) here)).1.under_way.receiver

same_lines : (f g : ℕ → List ℕ) (a n : ℕ) → ((x : ℕ) → x < a + n → f x ≡ g x) → flat_map f (range_with_len a n) ≡ flat_map g (range_with_len a n)
same_lines f g a zero is = refl
same_lines f g a (suc n) is =
    ap (λ (xs : List ℕ). xs ++ flat_map f (range_with_len (a + 1) n)) (is a (omega arith))
    ∙ ap (λ (xs : List ℕ). g a ++ xs) (same_lines f g (a + 1) n (λ x low. is x (omega (arith, low))))

same_packets : (packets : List Timed) (b c d e : ℕ → Option ℕ) → ((k : ℕ) → k < length packets → b k ≡ c k) → ((k : ℕ) → k < length packets → d k ≡ e k)
    → first_lines (packet_line_at packets b d) (length packets) ≡ first_lines (packet_line_at packets c e) (length packets)
same_packets packets b c d e begins delivers =
    same_lines (packet_line_at packets b d) (packet_line_at packets c e) 0 (length packets) (λ k low.
    (let timed : Timed = slice_index_or packets k (timed_of 0 0 0 0) in
    ap (λ (o : Option ℕ). packet_line timed o (d k)) (begins k (omega (arith, low)))
    ∙ ap (λ (o : Option ℕ). packet_line timed (c k) o) (delivers k (omega (arith, low)))))

same_channels : (n : ℕ) (f g v w : ℕ → ℕ) → ((x : ℕ) → x < n → f x ≡ g x) → ((x : ℕ) → x < n → v x ≡ w x)
    → first_lines (channel_line_at f v) n ≡ first_lines (channel_line_at g w) n
same_channels n f g v w leave wait =
    same_lines (channel_line_at f v) (channel_line_at g w) 0 n (λ x low.
    ap (λ (m : ℕ). channel_line x m (v x)) (leave x (omega (arith, low))) ∙ ap (λ (m : ℕ). channel_line x (g x) m) (wait x (omega (arith, low))))

-- the report that a program writes of a simulation is that of its rounds
pub told : {A : Type 0} (by : Arbiter) (n : NetworkSpec) (depth : ℕ) (packets ps : List Timed) (t : Table) (routers : List ℕ) (queues : List (Vec Timed A)) (groups : List (Vec Move A))
    (opened reached : NetworkMachineSpec) (flits fs ws : List ℕ) (bs ds : List (Option ℕ)) (watch : Watch A) (extent : Extent) (ending : Ending) (text : List ℕ) (sound : Bool)
    → t ≡ n.table → ps ≡ packets
    → AreRouters n.table routers → map (λ (q : Vec Timed A). q.items) queues ≡ map (queue_of packets) (range_with_len 0 (channels_of n.table))
    → map (λ (q : Vec Move A). q.items) groups ≡ groups_of n.table.kinds routers (channels_of n.table) → IsOpenedNetwork n.table n.replies depth opened
    → IsSimulated by t ps queues groups opened reached flits 1000000 watch extent → length flits ≡ channels_of n.table → IsEnding reached ending
    → bs ≡ watch.fates.begun.items → ds ≡ watch.fates.delivered.items → fs ≡ flits → ws ≡ watch.waited.items
    → text ≡ report_text packets (λ k. slice_index_or bs k None) (λ k. slice_index_or ds k None) (slice_index fs) (slice_index ws) (length fs) (end_line extent ending)
    → sound ≡ is_sound extent ending → IsSimulationText A by n depth packets text sound
told by n depth packets ps t0 routers queues groups opened reached flits fs ws bs ds watch extent ending text sound table same are queued grouped opens run0 size ends
    begins delivers leave wait is sounds =
    (let t : Table = n.table in
    let run1 : IsSimulated by t ps queues groups opened reached flits 1000000 watch extent =
    subst (λ (u : Table). IsSimulated by u ps queues groups opened reached flits 1000000 watch extent) table run0 in
    let run : IsSimulated by t packets queues groups opened reached flits 1000000 watch extent =
    subst (λ (us : List Timed). IsSimulated by t us queues groups opened reached flits 1000000 watch extent) same run1 in
    let rounds : List (List Move) = run.simulation.rounds in
    let fates = run.shows.log.fates in
    let b : ℕ → Option ℕ = λ k. slice_index_or bs k None in
    let d : ℕ → Option ℕ = λ k. slice_index_or ds k None in
    let c : ℕ → Option ℕ = λ k. begun_in_round t packets k (log_of rounds) in
    let e : ℕ → Option ℕ = λ k. delivered_in_round t packets k (log_of rounds) in
    let end : List ℕ = end_line extent ending in
    let f : ℕ → ℕ = λ x. flits_in_channels x rounds in
    let w : ℕ → ℕ = λ x. rounds_waited t packets x rounds in
    let many : length fs ≡ channels_of t = ap length leave ∙ size in
    record {
      routers = routers;
      are = are;
      queues = queues;
      queued = queued;
      groups = groups;
      grouped = grouped;
      opened = opened;
      opens = opens;
      reached = reached;
      lasts = run.lasts;
      begun = run.begun;
      flits = flits;
      extent = extent;
      simulation = run.simulation;
      far = run.far;
      ending = ending;
      ends = ends;
      is = is ∙ (ap (λ (ls : List ℕ). ls ++ first_lines (channel_line_at (slice_index fs) (slice_index ws)) (length fs) ++ end)
          (same_packets packets b c d e (λ k low. ap (λ (os : List (Option ℕ)). slice_index_or os k None) begins ∙ fates.begins k low)
          (λ k low. ap (λ (os : List (Option ℕ)). slice_index_or os k None) delivers ∙ fates.delivers k low))
          ∙ (ap (λ (m : ℕ). first_lines (packet_line_at packets c e) (length packets) ++ first_lines (channel_line_at (slice_index fs) (slice_index ws)) m ++ end) many
          ∙ ap (λ (ls : List ℕ). first_lines (packet_line_at packets c e) (length packets) ++ ls ++ end)
          (same_channels (channels_of t) (slice_index fs) f (slice_index ws) w
          (λ x here. ap (λ (ns : List ℕ). slice_index ns x) leave ∙ run.simulation.channels x (omega (arith, here, size)))
          (λ x here. ap (λ (ns : List ℕ). slice_index ns x) wait ∙ run.shows.waits x here))));
      sounds = sounds;
    })
