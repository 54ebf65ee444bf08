-- Configurations that are too many.
use Rattle.std.proofs.Common.{◌≡◌, ◌⊎◌, ◌↔◌, inl, inr, ⊎_elim, ℕ, ◌<◌, List, [], ◌∷◌, length, Some, Vec, refl, sym, ◌∙◌, ap, subst, slice_get, get_or}
use Rattle.packet.specs.declared.kinds.Reply.{Reply}
use Rattle.trace_laws.specs.Traces.{IsAnswered}
use Rattle.trace_laws.specs.declared.event.Call.{Call}
use Rattle.trace_laws.specs.declared.event.Event.{Event}
use Rattle.trace_laws.specs.declared.event.Event.TheVariants.{Answer}
use Rattle.trace_laws.specs.Configs.{IsIn}
use Rattle.trace_watch.specs.declared.state.State.{State}
use Rattle.trace_watch.specs.declared.watch.Watch.{Watch}
use Rattle.trace_watch.specs.declared.watch.Full.{Full}
use Rattle.trace_watch.specs.declared.watch.Full.TheVariants.{Memory, Configurations}
use Rattle.trace_watch.specs.States.{Config, config_of, configs_of}
use Rattle.trace_watch.specs.Matchings.{IsPart}
use Rattle.trace_watch.specs.Known.{ArePendingOn}
use Rattle.trace_watch.specs.Closed.{IsOneMore, Expands}
use Rattle.trace_watch.specs.Crowds.{IsOpenCrowd, GivesUp, IsOverfullCrowd}
use Rattle.trace_watch.specs.Follows.{Tracks, AnswersMany, TellsFull, states_of}
use Rattle.trace_watch.proofs.Grown.{get_config}
use Rattle.trace_watch.proofs.Growth.{one_in, Expanding, Catching, Closing, added_sound}
use Rattle.trace_watch.proofs.Watching.{states_read}

-- an operation takes effect, and there are too many
pub one_gives_up : (at : ℕ) (calls : List Call) (call : Call) (bound : ℕ) (old new : List Config)
    → Expands at calls (call ∷ []) old new → IsOpenCrowd bound new → GivesUp calls (call ∷ []) bound old new
one_gives_up at calls call bound old new expands crowd = record { sound = expands.sound; crowd = crowd }

pub more_give_up : (at : ℕ) (calls newest : List Call) (bound : ℕ) (old : List Config) (i : ℕ) (new later : List Config)
    (call : Call) → slice_get newest i ≡ Some call → GivesUp calls (call ∷ []) bound new later
    → Expanding at calls newest old i new → GivesUp calls newest bound old later
more_give_up at calls newest bound old i new later call here next was = record {
  sound = λ all among also opening trace w inside pending explained.
      next.sound all among (λ c on. subst (λ (d : Call). IsIn all d) (one_in call c on) (also call (i, here))) opening trace w
      inside pending (was.sound all among also opening trace w inside pending explained);
  crowd = next.crowd;
}

pub catching_gives_up : (from : ℕ) (calls newest : List Call) (bound : ℕ) (begun : List Config) (next : ℕ)
    (found later : List Config) → GivesUp calls newest bound found later → Catching from calls newest begun next found
    → GivesUp calls newest bound begun later
catching_gives_up from calls newest bound begun next found later up was = record {
  sound = λ all among also opening trace w inside pending explained.
      up.sound all among also opening trace w inside pending
      (was.sound all among also opening trace w inside pending explained);
  crowd = up.crowd;
}

-- with one more of the configurations there are too many
pub add_overfull : {A B : Type 0} (calls newest : List Call) (bound : ℕ) (states : List (State B)) (i : ℕ)
    (found more : List (State A)) (s : State B) (copy : State A) → slice_get states i ≡ Some s → config_of copy ≡ config_of s
    → IsOneMore (configs_of found) (config_of copy) (configs_of more) → IsOpenCrowd bound (configs_of more)
    → Closing calls newest (configs_of states) i (configs_of found)
    → (all : List Call) → IsPart calls all → IsPart newest all → IsOverfullCrowd all bound (configs_of states)
add_overfull calls newest bound states i found more s copy there same one crowd was all among also = record {
  found = configs_of more;
  sound = added_sound calls newest (configs_of states) i (configs_of found) (configs_of more) (config_of copy)
      (get_config states i s there ∙ ap (λ (c : Config). Some c) (sym same)) one was all among also;
  crowd = crowd;
}

-- with what it leads to
pub close_overfull : {A B : Type 0} (calls newest : List Call) (bound : ℕ) (states : List (State B)) (i : ℕ)
    (found more later : List (State A)) (s : State B) (copy : State A) → slice_get states i ≡ Some s → config_of copy ≡ config_of s
    → IsOneMore (configs_of found) (config_of copy) (configs_of more)
    → GivesUp calls newest bound (configs_of more) (configs_of later)
    → Closing calls newest (configs_of states) i (configs_of found)
    → (all : List Call) → IsPart calls all → IsPart newest all → IsOverfullCrowd all bound (configs_of states)
close_overfull calls newest bound states i found more later s copy there same one up was all among also = record {
  found = configs_of later;
  sound = λ opening trace w inside pending explained.
      up.sound all among also opening trace w inside pending
      (added_sound calls newest (configs_of states) i (configs_of found) (configs_of more) (config_of copy)
      (get_config states i s there ∙ ap (λ (c : Config). Some c) (sym same)) one was all among also
      opening trace w inside pending explained);
  crowd = up.crowd;
}

-- the open operations on a word are those of its address
pub pending_here : {A : Type 0} (opening : List ℕ) (t : List Event) (watch : Watch A) (call : Call) (calls : List Call)
    → ((c : Call) → IsIn calls c ↔ (IsIn watch.pending.items c × (c.operation.address ≡ call.operation.address)))
    → Tracks opening t watch → ArePendingOn t call.operation.address calls
pending_here opening t watch call calls here f = record {
  each = λ c in_calls. f.pending.each c ((here c).0 in_calls).0;
  here = λ c in_calls. ((here c).0 in_calls).1;
  all = λ i c h there. ⊎_elim {C = IsAnswered t c.id ⊎ IsIn calls c}
      (λ (a : IsAnswered t c.id). inl a)
      (λ (o : IsIn watch.pending.items c). inr ((here c).1 (o, there)))
      (f.pending.all i c h);
}

-- an open operation is answered whose word has too many configurations
pub answers_many : {A : Type 0} (opening : List ℕ) (t : List Event) (watch : Watch A) (call : Call) (id : ℕ)
    (reply : Reply) (bound : ℕ) (calls : List Call) → IsIn watch.pending.items call → call.id ≡ id
    → ((c : Call) → IsIn calls c ↔ (IsIn watch.pending.items c × (c.operation.address ≡ call.operation.address)))
    → IsOverfullCrowd calls bound (states_of watch.words.items call.operation.address)
    → Tracks opening t watch → AnswersMany opening t (Answer id reply) bound
answers_many opening t watch call id reply bound calls on number here over f =
    let p = f.pending.each call on in
    let inside = f.well.inside p.issued.0 call p.issued.1 in
    record {
      call = call;
      pending = p;
      reply = reply;
      answer = ap (λ (n : ℕ). Answer n reply) (sym number);
      many = record {
        configs = over.found;
        explained = over.sound opening t call.operation.address inside (pending_here opening t watch call calls here f)
            (f.known call.operation.address inside).sound;
        crowd = over.crowd;
      };
    }

-- the open operations on a word, as the code reads them
pub calls_read : {A : Type 0} (watch : Watch A) (call : Call) (q calls : List Call) → q ≡ watch.pending.items
    → ((c : Call) → IsIn calls c ↔ (IsIn q c × (c.operation.address ≡ call.operation.address)))
    → (c : Call) → IsIn calls c ↔ (IsIn watch.pending.items c × (c.operation.address ≡ call.operation.address))
calls_read watch call q calls same here = subst
    (λ (xs : List Call). (c : Call) → IsIn calls c ↔ (IsIn xs c × (c.operation.address ≡ call.operation.address)))
    same here

-- what is too much, as the code reads the word's states
pub over_read : {A : Type 0} (watch : Watch A) (call : Call) (bound : ℕ) (calls cs : List Call)
    (v : Vec (State A) A) (ss : List (State A)) → cs ≡ calls → ss ≡ v.items
    → v ≡ get_or watch.words.items call.operation.address v → call.operation.address < length watch.words.items
    → IsOverfullCrowd cs bound (configs_of ss) → IsOverfullCrowd calls bound (states_of watch.words.items call.operation.address)
over_read {A} watch call bound calls cs v ss listed items read inside over =
    subst (λ (xs : List Config). IsOverfullCrowd calls bound xs)
    (ap (λ (xs : List (State A)). configs_of xs) items ∙ states_read watch.words.items call.operation.address v inside read)
    (subst (λ (xs : List Call). IsOverfullCrowd xs bound (configs_of ss)) listed over)

-- an answer isn't decided for one of two reasons
pub full_told : (opening : List ℕ) (t : List Event) (id : ℕ) (reply : Reply) (bound : ℕ) (full : Full)
    → (full ≡ Configurations → AnswersMany opening t (Answer id reply) bound)
    → TellsFull opening t (Answer id reply) bound full
full_told opening t id reply bound Memory many = tt
full_told opening t id reply bound Configurations many = many refl
