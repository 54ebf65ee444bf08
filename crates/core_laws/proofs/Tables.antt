-- What the tables of agents say where no processor has reported.
use Rattle.std.proofs.Common.{◌≡◌, ◌≢◌, ℕ, ◌+◌, false, List, Option, Some, None, refl, sym, ◌∙◌, ap, subst, slice_set}
use Rattle.std.proofs.Common.{slice_index, get_or-set_other}
use Rattle.std.specs.Prelude.{option_and_then, option_map}
use Rattle.std.proofs.lemmas.Option.{same_Some}
use Rattle.std.proofs.lemmas.List.{set_comm}
use Rattle.torus.specs.declared.step.Choice.{Choice}
use Rattle.torus.specs.declared.step.Choice.TheVariants as choice
use Rattle.packet.specs.declared.kinds.Request.{Request}
use Rattle.packet.specs.Memory.{new_word}
use Rattle.home_bank.specs.ServiceList.{address_of}
use Rattle.home_bank.specs.BankTable.{BankState, bank_wants}
use Rattle.flit_buffer.specs.declared.want.Want.{Want}
use Rattle.flit_buffer.specs.declared.want.Want.TheVariants as want
use Rattle.flit_buffer.specs.Channel.{first_of}
use Rattle.flit_buffer.specs.Wants.{told_by}
use Rattle.flit_buffer.specs.Surroundings.{Surroundings, Wiring, granted, surroundings_after, agent_step, step_with}
use Rattle.one_order.specs.ProcessorRecord.{ready}
use Rattle.one_order.specs.ProcessorTable.{ProcessorState, flits_due, processor_wants, processor_after}
use Rattle.core_laws.specs.Moves.{learned_by, processor_move}
use Rattle.core_laws.proofs.AgentSteps.{Did, did_learn, option_map_some}
use Rattle.core_laws.proofs.ChannelWants.{IsOfChannel, if_what}
use Rattle.core_laws.specs.Reopened.{around_open, mark, is_report}

abbrev pub processor_open : ProcessorState → ProcessorState
processor_open p = record {
  operations = p.operations;
  to_put = p.to_put;
  so_far = p.so_far;
  reported = false;
  seen = false;
}

-- a want that doesn't look at the done word
abbrev pub IsSafe : ℕ → Want → Type 0
IsSafe words (want.Access word o) = word ≢ words
IsSafe words (want.Await word value) = ⊥
IsSafe words w = Unit {0}

pub safe_of_channel : (words : ℕ) (w : Want) → IsOfChannel w → IsSafe words w
safe_of_channel words (want.Take i) h = tt
safe_of_channel words (want.Put o flit) h = tt
safe_of_channel words (want.Credit o) h = tt
safe_of_channel words (want.Access word o) h = absurd h
safe_of_channel words (want.Await word value) h = absurd h

granted_open : (words : ℕ) (around : Surroundings) (wiring : Wiring) (w : Want) → IsSafe words w
    → granted (around_open words around) wiring w ≡ granted around wiring w
granted_open words around wiring (want.Take i) h = refl
granted_open words around wiring (want.Put o flit) h = refl
granted_open words around wiring (want.Credit o) h = refl
granted_open words around wiring (want.Access word o) h =
    ap (λ (found : ℕ). Some (told_by o found)) (get_or-set_other around.words words word 0 0 h)
granted_open words around wiring (want.Await word value) h = absurd h

after_open : (words depth : ℕ) (around : Surroundings) (wiring : Wiring) (w : Want) → IsSafe words w
    → surroundings_after depth (around_open words around) wiring w
    ≡ around_open words (surroundings_after depth around wiring w)
after_open words depth around wiring (want.Take i) h = refl
after_open words depth around wiring (want.Put o flit) h = refl
after_open words depth around wiring (want.Credit o) h = refl
after_open words depth around wiring (want.Access word o) h =
    let made : List ℕ → Surroundings = λ ws. record { rings = around.rings; words = ws } in
    ap (λ (found : ℕ). made (slice_set (slice_set around.words words 0) word (new_word o found)))
    (get_or-set_other around.words words word 0 0 h)
    ∙ ap made (set_comm around.words words word 0 (new_word o (slice_index around.words word)) (λ e. h (sym e)))
after_open words depth around wiring (want.Await word value) h = absurd h

-- an agent whose table looks at no mark
module _ {S : Type 0} (wants : S → Choice → Option Want) (after : S → Choice → Want → ℕ → S) (depth : ℕ)
    (wiring : Wiring) (u : S → S) (words : ℕ) where
  abbrev pair : S → Surroundings → Option (S × Surroundings)
  pair a b = Some (a, b)

  pub record Opened (st : S) (around : Surroundings) (c : Choice) (next : S) (left : Surroundings) : Type 0 where
    pub step : agent_step wants after depth wiring (u st) (around_open words around) c
        ≡ Some (u next, around_open words left)
    pub learned : learned_by wants wiring (u st) (around_open words around) c ≡ learned_by wants wiring st around c

  pub agent_opened : (st : S) (around : Surroundings) (c : Choice) (next : S) (left : Surroundings)
      → (x : Did wants after depth wiring st around c next left)
      → wants (u st) c ≡ wants st c → ((n : ℕ) → after (u st) c x.want n ≡ u (after st c x.want n))
      → IsSafe words x.want → Opened st around c next left
  agent_opened st around c next left x same_want same_after safe =
      let wanted : wants (u st) c ≡ Some x.want = same_want ∙ x.wanted in
      let grants : granted (around_open words around) wiring x.want ≡ Some x.learned =
      granted_open words around wiring x.want safe ∙ x.grants in
      record {
        step =
            ap (λ (o : Option Want). option_and_then
            (λ want. step_with wants after depth wiring (u st) (around_open words around) c want
            (granted (around_open words around) wiring want)) o) wanted
            ∙ (ap (λ (g : Option ℕ). step_with wants after depth wiring (u st) (around_open words around) c x.want g)
            grants
            ∙ (ap (λ (a : S). pair a (surroundings_after depth (around_open words around) wiring x.want))
            (same_after x.learned ∙ ap u (sym x.state_is))
            ∙ ap (λ (b : Surroundings). pair (u next) b)
            (after_open words depth around wiring x.want safe ∙ ap (around_open words) (sym x.around_is))));
        learned =
            ap (λ (o : Option Want). option_and_then (granted (around_open words around) wiring) o) wanted
            ∙ (grants ∙ sym (did_learn wants after depth wiring st around c next left x));
      }

-- the processor's table
pub wants_same : (tiles words t : ℕ) (p : ProcessorState) (c : Choice) → is_report c ≡ false
    → processor_wants tiles words t (processor_open p) c ≡ processor_wants tiles words t p c
wants_same tiles words t p choice.Done h = absurd (cc)
wants_same tiles words t p choice.Look h = absurd (cc)
wants_same tiles words t p c h = refl

pub after_same : (tiles words t : ℕ) (p : ProcessorState) (c : Choice) (w : Want) (n : ℕ) → is_report c ≡ false
    → processor_after tiles words t (processor_open p) c w n ≡ processor_open (processor_after tiles words t p c w n)
after_same tiles words t p choice.Done w n h = absurd (cc)
after_same tiles words t p choice.Look w n h = absurd (cc)
after_same tiles words t p c w n h = refl

pub marks_same : (tiles words t : ℕ) (p : ProcessorState) (c : Choice) (w : Want) (n : ℕ) → is_report c ≡ false
    → mark (processor_after tiles words t p c w n).reported + mark (processor_after tiles words t p c w n).seen
    ≡ mark p.reported + mark p.seen
marks_same tiles words t p choice.Done w n h = absurd (cc)
marks_same tiles words t p choice.Look w n h = absurd (cc)
marks_same tiles words t p c w n h = refl

pub move_same : (t : ℕ) (p : ProcessorState) (c : Choice) → is_report c ≡ false → (n : ℕ)
    → processor_move t (processor_open p) c n ≡ processor_move t p c n
move_same t p choice.Send h n = refl
move_same t p choice.Take h n = refl
move_same t p c h n = refl

pub safe_processor : (tiles words t : ℕ) (p : ProcessorState) (c : Choice) (w : Want) → is_report c ≡ false
    → processor_wants tiles words t p c ≡ Some w → IsSafe words w
safe_processor tiles words t p choice.Send w h e =
    let x = option_map_some (λ (flit : ℕ). want.Put 0 flit)
    (first_of (flits_due tiles words t p.to_put (ready p.operations))) w e in
    subst (IsSafe words) x.2 tt
safe_processor tiles words t p choice.Take w h e = subst (IsSafe words) (same_Some _ _ e) tt
safe_processor tiles words t p choice.Credit w h e = subst (IsSafe words) (same_Some _ _ e) tt
safe_processor tiles words t p choice.Done w h e = absurd (cc)
safe_processor tiles words t p choice.Look w h e = absurd (cc)
safe_processor tiles words t p c w h e = absurd (cc)

-- the bank's table
abbrev pub ServesWords : ℕ → ℕ → ℕ → BankState → Type 0
ServesWords tiles words t b = (r : Request) → b.waiting ≡ Some r → address_of t tiles r.word ≢ words

safe_waiting : (tiles words t : ℕ) (waiting : Option Request) (w : Want)
    → ((r : Request) → waiting ≡ Some r → address_of t tiles r.word ≢ words)
    → option_map (λ r. want.Access (address_of t tiles r.word) r.op) waiting ≡ Some w → IsSafe words w
safe_waiting tiles words t None w here e = absurd (cc)
safe_waiting tiles words t (Some r) w here e = subst (IsSafe words) (same_Some _ _ e) (here r refl)

pub safe_bank : (tiles words t : ℕ) (b : BankState) (c : Choice) (w : Want) → ServesWords tiles words t b
    → bank_wants tiles t b c ≡ Some w → IsSafe words w
safe_bank tiles words t b choice.Take w here e =
    subst (IsSafe words) (same_Some _ _ (if_what _ (Some (want.Take 0)) w e)) tt
safe_bank tiles words t b choice.Serve w here e = safe_waiting tiles words t b.waiting w here e
safe_bank tiles words t b choice.Send w here e =
    let x = option_map_some (λ (flit : ℕ). want.Put 0 flit) (first_of b.to_put) w e in
    subst (IsSafe words) x.2 tt
safe_bank tiles words t b choice.Credit w here e = subst (IsSafe words) (same_Some _ _ e) tt
safe_bank tiles words t b c w here e = absurd (cc)
