-- The moves that fill the channels of a jam deadlock the network.
use Rattle.std.proofs.Common.{◌≡◌, inl, inr, ℕ, zero, suc, ◌+◌, ◌*◌, ◌/◌, ◌%◌, ◌<◌, Bool, true, false, cond, eqb, List, [], ◌∷◌, ◌++◌, map, refl, sym, ◌∙◌, ap, arith, append_assoc, append-nil}
use Rattle.std.specs.List.{flat_map}
use Rattle.std.proofs.lemmas.Bool.{cases_lt, cases_eq, eq-eqb, ne_eqb}
use Rattle.std.proofs.lemmas.List.{map-append}
use Rattle.std.proofs.lemmas.Grind.{flat_map-append}
use Rattle.network_judge.specs.declared.fill.Fill.{Fill}
use Rattle.network_judge.specs.Table.{Table, kind_of, is_receiver}
use Rattle.network_judge.specs.Ways.{place}
use Rattle.network_judge.specs.Jams.{fill_channel, ComesIn, AreFilledInTurn, IsJam}
use Rattle.network_judge.specs.LockUps.{HasOneFlitPackets, plain_format}
use Rattle.network_judge.proofs.Still.{before_end}
use Rattle.network_judge.proofs.Lines.{full}
use Rattle.network_judge.proofs.Moves.{settle_events, go_events, carry_events, arrive_events, fill_events}
use Rattle.network_judge.proofs.Jammed.{jam_events, fill_by, locked}
use Rattle.network_text.specs.Network.{NetworkSpec}
use Rattle.network_machine.specs.declared.moves.Move.{Move}
use Rattle.network_machine.specs.declared.moves.Move.TheVariants.{Send, Take, Put, Credit}
use Rattle.network_machine.specs.declared.moves.Packet.{Packet}
use Rattle.network_machine.specs.Moves.{event_move}
use Rattle.network_machine.specs.Machine.{plain_network}
use Rattle.network_run.specs.Filling.{channels_before, through, packet_moves, packets_moves, latch_moves, item_moves, jam_moves}
use Rattle.network_run.specs.LockedUp.{MovesLockUp}

-- the plain format has packets of one flit
abbrev plain : (t : Table) → HasOneFlitPackets t plain_format
plain t = record {
  word = λ j. 4 * j + 3;
  head = λ j kind. eq-eqb ((4 * j + 3) / 2 % 2) 1 (omega arith);
  tail = λ j kind. eq-eqb ((4 * j + 3) % 2) 1 (omega arith);
  told = λ j kind. omega arith;
}

-- the moves of a packet that settles
abbrev settle_moves : Bool → ℕ → ℕ → List Move
settle_moves true c y = []
settle_moves false zero y = Take y ∷ Credit y ∷ []
settle_moves false (suc c) y = []

settles : (e : Bool) (c y w : ℕ) → map event_move (settle_events e c y w) ≡ settle_moves e c y
settles true c y w = refl
settles false zero y w = refl
settles false (suc c) y w = refl

module _ (t : Table) (i j w : ℕ) where
  abbrev pl : ℕ → ℕ
  pl k = place t j i k

  abbrev packet : Packet
  packet = record { from = i; to = j; length = 1 }

  -- one channel further
  through_more : (k : ℕ) → flat_map through (channels_before t j i (suc k)) ≡ flat_map through (channels_before t j i k) ++ through (pl k)
  through_more k = flat_map-append through (channels_before t j i k) (pl k ∷ []) ∙ ap (λ (ms : List Move). flat_map through (channels_before t j i k) ++ ms) (append-nil (through (pl k)))

  carries : (k : ℕ) → map event_move (carry_events pl j w k) ≡ packet_moves packet (channels_before t j i k) ++ Take (pl k) ∷ Credit (pl k) ∷ []
  carries zero = refl
  carries (suc k) =
      map-append event_move (carry_events pl j w k) (go_events (pl k) (pl (suc k)) w false 0)
      ∙ (ap (λ (ms : List Move). ms ++ Put (pl k) ∷ Take (pl (suc k)) ∷ Credit (pl (suc k)) ∷ []) (carries k)
      ∙ (append_assoc (packet_moves packet (channels_before t j i k)) (Take (pl k) ∷ Credit (pl k) ∷ []) (Put (pl k) ∷ Take (pl (suc k)) ∷ Credit (pl (suc k)) ∷ [])
      ∙ (sym (append_assoc (packet_moves packet (channels_before t j i k)) (through (pl k)) (Take (pl (suc k)) ∷ Credit (pl (suc k)) ∷ []))
      ∙ ap (λ (ms : List Move). (Send packet ∷ ms) ++ Take (pl (suc k)) ∷ Credit (pl (suc k)) ∷ []) (sym (through_more k)))))

  arrives : (m : ℕ) (e : Bool) (c : ℕ) → map event_move (arrive_events pl j w m e c) ≡ packet_moves packet (channels_before t j i m) ++ settle_moves e c (pl m)
  arrives zero e c = ap (λ (ms : List Move). Send packet ∷ ms) (settles e c (pl 0) w)
  arrives (suc k) e c =
      map-append event_move (carry_events pl j w k) (go_events (pl k) (pl (suc k)) w e c)
      ∙ (ap (λ (ms : List Move). ms ++ Put (pl k) ∷ map event_move (settle_events e c (pl (suc k)) w)) (carries k)
      ∙ (ap (λ (ms : List Move). (packet_moves packet (channels_before t j i k) ++ Take (pl k) ∷ Credit (pl k) ∷ []) ++ Put (pl k) ∷ ms) (settles e c (pl (suc k)) w)
      ∙ (append_assoc (packet_moves packet (channels_before t j i k)) (Take (pl k) ∷ Credit (pl k) ∷ []) (Put (pl k) ∷ settle_moves e c (pl (suc k)))
      ∙ (sym (append_assoc (packet_moves packet (channels_before t j i k)) (through (pl k)) (settle_moves e c (pl (suc k))))
      ∙ ap (λ (ms : List Move). (Send packet ∷ ms) ++ settle_moves e c (pl (suc k))) (sym (through_more k))))))

  -- so many packets, of which the first settles in the latch
  fills_ejection : (m c : ℕ) → map event_move (fill_events pl j w m true c) ≡ packets_moves packet (channels_before t j i m) c
  fills_ejection m zero = refl
  fills_ejection m (suc c) =
      map-append event_move (fill_events pl j w m true c) (arrive_events pl j w m true c)
      ∙ (ap (λ (ms : List Move). ms ++ map event_move (arrive_events pl j w m true c)) (fills_ejection m c)
      ∙ ap (λ (ms : List Move). packets_moves packet (channels_before t j i m) c ++ ms) (arrives m true c ∙ append-nil (packet_moves packet (channels_before t j i m))))

  fills_other : (m c : ℕ) → map event_move (fill_events pl j w m false (suc c))
      ≡ latch_moves packet (channels_before t j i m) (pl m) ++ packets_moves packet (channels_before t j i m) c
  fills_other m zero = arrives m false 0 ∙ sym (append-nil (latch_moves packet (channels_before t j i m) (pl m)))
  fills_other m (suc c) =
      map-append event_move (fill_events pl j w m false (suc c)) (arrive_events pl j w m false (suc c))
      ∙ (ap (λ (ms : List Move). ms ++ map event_move (arrive_events pl j w m false (suc c))) (fills_other m c)
      ∙ (ap (λ (ms : List Move). (latch_moves packet (channels_before t j i m) (pl m) ++ packets_moves packet (channels_before t j i m) c) ++ ms)
      (arrives m false (suc c) ∙ append-nil (packet_moves packet (channels_before t j i m)))
      ∙ append_assoc (latch_moves packet (channels_before t j i m) (pl m)) (packets_moves packet (channels_before t j i m) c) (packet_moves packet (channels_before t j i m))))

module _ (t : Table) (number : ℕ → ℕ) (top depth : ℕ) (deep : 0 < depth) where
  -- the moves of an item
  item : (f : Fill) (fs : List Fill) → ComesIn t f fs → map event_move (fill_by t number top depth plain_format deep (plain t) f) ≡ item_moves t depth f
  item f fs come =
      let w : ℕ = 4 * f.to + 3 in
      let on = come.on in
      elim (cases_eq (fill_channel t f) f.to) [
        | inl same ↦
            let e : is_receiver (kind_of t (fill_channel t f)) ≡ true = ap (λ z. is_receiver (kind_of t z)) same ∙ ap is_receiver come.way.under_way.receiver in
            let test : eqb (fill_channel t f) f.to ≡ true = eq-eqb (fill_channel t f) f.to same in
            ap (λ b. map event_move (fill_events (place t f.to f.from) f.to w f.step b (full (plain_network t number top depth) b))) e
            ∙ (fills_ejection t f.from f.to w f.step depth
            ∙ ap (λ b. cond b [] (latch_moves (record { from = f.from; to = f.to; length = 1 }) (channels_before t f.to f.from f.step) (fill_channel t f))
            ++ packets_moves (record { from = f.from; to = f.to; length = 1 }) (channels_before t f.to f.from f.step) depth) (sym test))
        | inr apart ↦
            let less : f.step < come.length = elim (cases_lt f.step come.length) [
              | inl low ↦ low
              | inr high ↦ (let end : f.step ≡ come.length = omega arith in absurd (apart (ap (place t f.to f.from) end ∙ come.way.arrives)))
            ] in
            let e : is_receiver (kind_of t (fill_channel t f)) ≡ false = before_end t f.from f.to come.length come.way f.step less in
            let test : eqb (fill_channel t f) f.to ≡ false = ne_eqb (fill_channel t f) f.to apart in
            ap (λ b. map event_move (fill_events (place t f.to f.from) f.to w f.step b (full (plain_network t number top depth) b))) e
            ∙ (fills_other t f.from f.to w f.step depth
            ∙ ap (λ b. cond b [] (latch_moves (record { from = f.from; to = f.to; length = 1 }) (channels_before t f.to f.from f.step) (fill_channel t f))
            ++ packets_moves (record { from = f.from; to = f.to; length = 1 }) (channels_before t f.to f.from f.step) depth) (sym test))
      ]

  items : (fs : List Fill) → AreFilledInTurn t fs → map event_move (jam_events t number top depth plain_format deep (plain t) fs) ≡ jam_moves t depth fs
  items [] turn = refl
  items (f ∷ fs) turn =
      map-append event_move (jam_events t number top depth plain_format deep (plain t) fs) (fill_by t number top depth plain_format deep (plain t) f)
      ∙ (ap (λ (ms : List Move). ms ++ map event_move (fill_by t number top depth plain_format deep (plain t) f)) (items fs turn.1)
      ∙ ap (λ (ms : List Move). jam_moves t depth fs ++ ms) (item f fs turn.0))

-- the moves that fill a jam deadlock its network
pub jam_moves_lock : (n : NetworkSpec) (depth : ℕ) (fs : List Fill) → IsJam n.table n.replies fs → 0 < depth → MovesLockUp n depth (jam_moves n.table depth fs)
jam_moves_lock n depth fs jam deep = λ number top. (
  jam_events n.table number top depth plain_format deep (plain n.table) fs,
  items n.table number top depth deep fs jam.in_turn,
  locked n.table number top depth plain_format deep (plain n.table) n.replies fs jam,
)
