-- A jam comes about, channel by channel.
use Rattle.std.proofs.Common.{◌≡◌, ℕ, suc, ◌<◌, List, [], ◌∷◌, ◌++◌, refl, sym, ◌∙◌, ap}
use Rattle.std.proofs.Common.{arith}
use Rattle.wormhole.specs.Net.{Net}
use Rattle.wormhole.specs.State.{NetLine, empty}
use Rattle.wormhole.specs.Events.{NetEvent, after_all}
use Rattle.network_judge.specs.declared.table.Reply.{Reply}
use Rattle.network_judge.specs.Table.{Table, is_receiver, is_sender}
use Rattle.network_judge.specs.TableNet.{Flits}
use Rattle.network_judge.specs.Ways.{place}
use Rattle.network_judge.proofs.Places.{place_next}
use Rattle.network_judge.specs.declared.fill.Fill.{Fill}
use Rattle.network_judge.specs.Jams.{fill_channel, AreFilledInTurn, ComesIn, WaitsForFilled, IsJam}
use Rattle.network_judge.specs.LockUps.{HasOneFlitPackets, LocksUp, IsLockUp}
use Rattle.network_judge.proofs.Lines.{full, Stands}
use Rattle.network_judge.proofs.Moves.{Leads, at_once, and_then, Path, filled, fill_events}
use Rattle.network_judge.proofs.Still.{net, lines_of, unfilled, still, occupied, with_ways, on_within, before_end, simple}

module _ (t : Table) (number : ℕ → ℕ) (top depth : ℕ) (flits : Flits) (deep : 0 < depth) (tells : HasOneFlitPackets t flits) where
  abbrev n : Net
  n = net t number top depth flits deep tells

  abbrev lines : List Fill → ℕ → NetLine
  lines = lines_of t number top depth flits deep tells

  path : (f : Fill) (fs : List Fill) → (come : ComesIn t f fs)
      → Path n deep (tells.word f.to) (tells.head f.to come.way.under_way.receiver) (tells.tail f.to come.way.under_way.receiver)
      (place t f.to f.from) f.step f.to (n.ejects (fill_channel t f))
  path f fs come =
      let way = come.way in
      let on = come.on in
      let told : flits.told (tells.word f.to) ≡ f.to = tells.told f.to way.under_way.receiver in
      record {
        within = λ k l. on_within t f.from f.to come.length way k (omega arith);
        injects = ap is_sender way.under_way.sender;
        inputs = λ k l. before_end t f.from f.to come.length way k (omega arith);
        goal = refl;
        first = ap is_receiver way.under_way.sender;
        joined = come.joined;
        told = told;
        next = λ k l. place_next t f.to f.from k ∙ ap (n.next (place t f.to f.from k)) (sym told);
        apart = λ k l. simple t f.from f.to come.length way k f.step l on;
        steps = λ k l. simple t f.from f.to come.length way k (suc k) (omega arith) (omega arith);
      }

  -- the events that fill a channel, and the channels of a list, the last first
  abbrev pub fill_by : Fill → List NetEvent
  fill_by f = fill_events (place t f.to f.from) f.to (tells.word f.to) f.step (n.ejects (fill_channel t f)) (full n (n.ejects (fill_channel t f)))

  abbrev pub jam_events : List Fill → List NetEvent
  jam_events [] = []
  jam_events (f ∷ fs) = jam_events fs ++ fill_by f

  fills : (fs : List Fill) → AreFilledInTurn t fs → Leads n (empty n) (jam_events fs) (λ s. Stands s (lines fs))
  fills [] turn = at_once n (empty n) _ (λ z. refl)
  fills (f ∷ fs) turn =
      let come = turn.0 in
      let to = come.way.under_way.receiver in
      and_then n (empty n) (jam_events fs) (fill_by f) _ _ (fills fs turn.1) (λ s st.
      filled n deep (tells.word f.to) (tells.head f.to to) (tells.tail f.to to) (place t f.to f.from) f.step f.to (n.ejects (fill_channel t f))
      (path f fs come) s (lines fs)
      (λ k l. unfilled t number top depth flits deep tells fs (place t f.to f.from k) (come.clear k l)) st (full n (n.ejects (fill_channel t f))) (omega arith))

  pub locked : (replies : List Reply) (fs : List Fill) → IsJam t replies fs → IsLockUp n replies (jam_events fs)
  locked replies [] jam = let some = jam.some in absurd (omega arith)
  locked replies (f ∷ fs) jam =
      let turn = jam.in_turn in
      let come = turn.0 in
      let r = fills (f ∷ fs) turn in
      record {
        may = r.may;
        still = still t number top depth flits deep tells replies (f ∷ fs) (after_all n (empty n) (jam_events (f ∷ fs))) r.there (with_ways t (WaitsForFilled t replies (f ∷ fs)) (f ∷ fs) turn jam.waits);
        stuck = fill_channel t f;
        here = on_within t f.from f.to come.length come.way f.step come.on;
        stands = occupied t number top depth flits deep tells fs f (after_all n (empty n) (jam_events (f ∷ fs))) r.there;
      }

pub jams_lock : (t : Table) (replies : List Reply) (fs : List Fill) → IsJam t replies fs → (depth : ℕ) (flits : Flits) → 0 < depth → HasOneFlitPackets t flits
    → LocksUp t replies depth flits
jams_lock t replies fs jam depth flits deep tells =
    λ number top. (jam_events t number top depth flits deep tells fs, locked t number top depth flits deep tells replies fs jam)
