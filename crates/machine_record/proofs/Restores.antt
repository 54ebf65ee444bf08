-- A record makes one machine.
use Rattle.std.proofs.Common.{◌≡◌, inl, inr, ℕ, List, [], Option, Some, Result, Ok, Err, map, sym, ◌∙◌, ap, subst}
use Rattle.std.specs.Str.Lines.{lines}
use Rattle.torus.specs.declared.fault.Fault.TheVariants as fault
use Rattle.lexer.specs.declared.fault.LineFault.{LineFault}
use Rattle.machine_parts.specs.Core.{Load}
use Rattle.machine_parts.proofs.Machines.{named_machine}
use Rattle.machine_core.specs.Loading.{HasLoaded, IsLoadFault, load_by}
use Rattle.fair_rounds.specs.Guard.{usual_guard}
use Rattle.machine_asked.specs.Asked.{Asked, has_spin}
use Rattle.machine_record.specs.Reading.{record_in_bytes}
use Rattle.machine_record.specs.Recording.{Recording, Room, fresh_record}
use Rattle.machine_record.specs.Calls.{IsFreshCall, IsLoaded, IsMadeAgain, IsRestored, RecordsAnew, Stops}
use Rattle.machine_record.specs.Recorded.{recording_of}
use Rattle.machine_record.specs.declared.record.Record.{Record}
use Rattle.machine_record.specs.Machine.{AreAlikeMachines, Recorded}
use Rattle.machine_record.specs.MachineInside.{RecordMakes}
use Rattle.machine_record.specs.Replay.{loaded, made_by, replayed, replayed_from}
use Rattle.machine_record.specs.Replayed.{Replays, StopsAtAction}
use Rattle.machine_record.specs.declared.restoring.Unrestored.{Unrestored}
use Rattle.machine_record.specs.declared.row.LineRow.{LineRow}
use Rattle.std.specs.Prelude.{Bool, true, false, not, None, is_some, IfOk, option_map}

-- a machine that is loaded
pub loaded_is : (x : Result Load LineFault) (v : Asked) (h : HasLoaded x v.core) → ((l : Load) → x ≡ Ok l → v.spins ≡ map has_spin l.scripts)
    → v.guard ≡ usual_guard v.core → v ≡ loaded h.load
loaded_is x v h spins guard =
    let core = named_machine h.load v.core [] h.after in
    let flags = spins h.load h.read in
    let usual = guard ∙ ap usual_guard core in
    λ i. record { core = core i; spins = flags i; guard = usual i }

-- a fresh record makes it
pub fresh_makes : (machine scripts : List ℕ) (v : Asked) → HasLoaded (load_by (lines machine) (lines scripts)) v.core
    → ((l : Load) → load_by (lines machine) (lines scripts) ≡ Ok l → v.spins ≡ map has_spin l.scripts)
    → v.guard ≡ usual_guard v.core → made_by (fresh_record machine scripts) ≡ Some v
fresh_makes machine scripts v h spins guard =
    ap (replayed_from (fresh_record machine scripts)) h.read ∙ ap Some (sym (loaded_is (load_by (lines machine) (lines scripts)) v h spins guard))

-- a machine with such a record of a machine text alone
pub fresh_is : (text : List ℕ) (v : Asked) (kept : Recording) (room : Room) → HasLoaded (load_by (lines text) []) v.core
    → ((l : Load) → load_by (lines text) [] ≡ Ok l → v.spins ≡ map has_spin l.scripts) → v.guard ≡ usual_guard v.core → kept ≡ fresh_record text []
    → IsFreshCall (record { asked = v; kept = Some kept; room = room })
fresh_is text v kept room h spins guard is = record {
  text = text;
  made = record { made = fresh_makes text [] v h spins guard; keeps = ap Some is };
}

-- a fault that isn't of memory is a text's
pub text_fault : (x : Result Load LineFault) (f : LineFault) → IsLoadFault x f → (f.fault ≡ fault.Memory → ⊥) → x ≡ Err f
text_fault x f (inl is) other = is
text_fault x f (inr is) other = absurd (other (ap (λ (g : LineFault). g.fault) is))

-- a record whose actions can all be done makes the machine to which they lead
pub made_is : (r : Recording) (v w : Asked) → IsLoaded r v → replayed r.rows v r.actions ≡ Some w → made_by r ≡ Some w
made_is r v w h came = ap (replayed_from r) h.texts ∙ (ap (λ (x : Asked). replayed r.rows x r.actions) (sym h.is) ∙ came)

-- one of them can't
pub stops_at : (r : Recording) (v : Asked) (at : ℕ) → IsLoaded r v → StopsAtAction r.rows r.actions v at → Stops r at
stops_at r v at h stops = record { load = h.load; texts = h.texts; stops = subst (λ (x : Asked). StopsAtAction r.rows r.actions x at) h.is stops }

-- two machines of one record are the same
pub one_made : (r : Recording) (v w : Recorded) → IsMadeAgain r v → IsMadeAgain r w → AreAlikeMachines v w
one_made r v w one other =
    let asked : v.asked ≡ w.asked = cc in
    record { asked = asked; kept = one.keeps ∙ sym other.keeps }

pub one_restored : (bs : List ℕ) (v w : Recorded) → IsRestored bs v → IsRestored bs w → AreAlikeMachines v w
one_restored bs v w one other =
    let same : one.kept ≡ other.kept = cc in
    one_made other.kept v w (subst (λ (r : Recording). IsMadeAgain r v) same one.made) other.made

-- a machine that keeps a record is made by it
pub is_made : (v : Recorded) (r : Recording) → v.kept ≡ Some r → RecordMakes v.kept v.asked → IsMadeAgain r v
is_made v r is h = record { made = subst (λ (k : Option Recording). RecordMakes k v.asked) is h; keeps = is }

pub is_made_by : (v : Recorded) (kept : Option Recording) (room : Room) (machine : Asked) (r : Recording)
    → ◌≡◌ {A = Recorded} (record { asked = machine; kept = kept; room = room }) v
    → kept ≡ Some r → RecordMakes kept machine → IsMadeAgain r v
is_made_by v kept room machine r view is h = subst (IsMadeAgain r) view (is_made (record { asked = machine; kept = kept; room = room }) r is h)

-- the machine of a record's texts
pub loaded_by : (r : Recording) (machine scripts : List ℕ) (v : Asked) → machine ≡ r.machine → scripts ≡ r.scripts
    → HasLoaded (load_by (lines machine) (lines scripts)) v.core
    → ((l : Load) → load_by (lines machine) (lines scripts) ≡ Ok l → v.spins ≡ map has_spin l.scripts) → v.guard ≡ usual_guard v.core → IsLoaded r v
loaded_by r machine scripts v m s h spins guard = record {
  load = h.load;
  texts = (λ i. load_by (lines (sym m i)) (lines (sym s i))) ∙ h.read;
  is = loaded_is (load_by (lines machine) (lines scripts)) v h spins guard;
}

-- the place of an action that can't be done
pub stops_by : (r : Recording) (rows : List LineRow) (actions : List ℕ) (v w : Asked) (o : Option ℕ) (at : ℕ) → rows ≡ r.rows → actions ≡ r.actions
    → o ≡ Some at → IsLoaded r v → Replays rows actions v w o → Stops r at
stops_by r rows actions v w o at same also is h came =
    let stops : StopsAtAction rows actions v at = subst (λ (x : Option ℕ). Replays rows actions v w x) is came in
    stops_at r v at h
    (subst (λ (xs : List ℕ). StopsAtAction r.rows xs v at) also (subst (λ (xs : List LineRow). StopsAtAction xs actions v at) same stops))

-- the machine that bytes make
pub restored_ok : (bs : List ℕ) (kept : Recording) (r : Result Recorded Unrestored) → record_in_bytes bs ≡ Ok kept → IfOk r (IsMadeAgain kept)
    → IfOk r (IsRestored bs)
restored_ok bs kept (Ok v) read made = record { kept = kept; read = read; made = made }
restored_ok bs kept (Err why) read made = tt

-- a machine that goes on behind one that keeps no record, and behind one that keeps one
pub anew_without : {A : Type 0} (kept : Option (Record A)) (v : Recorded) (none : Bool) → is_some kept ≡ not none → none ≡ true → v.kept ≡ None
    → RecordsAnew (option_map recording_of kept) v
anew_without None v none is so without = without
anew_without (Some r) v none is so without = absurd (cc)

pub anew_with : {A : Type 0} (kept : Option (Record A)) (v : Recorded) (none : Bool) → is_some kept ≡ not none → none ≡ false → IsFreshCall v
    → RecordsAnew (option_map recording_of kept) v
anew_with None v none is not fresh = absurd (cc)
anew_with (Some r) v none is not fresh = fresh
