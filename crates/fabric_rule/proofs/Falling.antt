-- A choice that isn't enabled may count as asleep.
use Rattle.std.proofs.Common.{◌≡◌, ◌≢◌, ℕ, Bool, true, false, List, None, refl, sym, ap, ◌∙◌, subst, arith}
use Rattle.std.specs.Prelude.{◌==◌, ◌&&◌, not, nat_lt}
use Rattle.std.proofs.lemmas.Bool.{eqb-true}
use Rattle.torus.specs.Shape.{dims_of}
use Rattle.torus.specs.declared.step.Step.{Step}
use Rattle.torus.specs.declared.step.Choice.{Choice}
use Rattle.torus.specs.declared.step.Choice.TheVariants as choice
use Rattle.channel_number.specs.Ports.{port_count}
use Rattle.tile.specs.declared.agent.Agent.TheVariants.{Router}
use Rattle.tile.specs.Agents.{agent_number, agent_kind, agent_tile}
use Rattle.tile.specs.Choices.{has_choice}
use Rattle.core_laws.specs.Core.{Load, design_of, step, after}
use Rattle.core_laws.specs.Routers.{PortFlags, of_router, latch_at}
use Rattle.fabric_rule.specs.Known.{enabled}
use Rattle.fabric_rule.specs.Groups.{In}
use Rattle.machine_parts.specs.Awake.{bit_of, choice_rested}
use Rattle.machine_parts.specs.Ports.{lowered, take_rested, put_rested, credit_rested}
use Rattle.machine_parts.proofs.KeptSleepers.{choice_rests}
use Rattle.fabric_rule.specs.Inner.{IsInner}
use Rattle.fabric_rule.specs.Sleeping.{RestsInside, Sleeps}
use Rattle.fabric_rule.proofs.Flags.{idle, known_idle, unable}

pub true_isnt : (b : Bool) → b ≡ true → b ≡ false → ⊥
true_isnt b h k = let e : ◌≡◌ {A = Bool} true false = sym h ∙ k in cc

-- a flag that is lowered was before, or is that of the port
pub lowered_is : (f : ℕ → ℕ → Bool) (t i : ℕ) (P : ℕ → ℕ → Type 0) → ((u k : ℕ) → f u k ≡ false → P u k) → P t i
    → (u k : ℕ) → lowered f t i u k ≡ false → P u k
lowered_is f t i P before here u k = by_flag (f u k) (u == t) (k == i) refl refl refl
  where
    by_flag : (a b c : Bool) → f u k ≡ a → (u == t) ≡ b → (k == i) ≡ c → (a && not (b && (c && nat_lt k 32))) ≡ false → P u k
    by_flag false b c e g h out = before u k e
    by_flag true true true e g h out =
        subst (λ (n : ℕ). P n k) (sym (eqb-true u t g)) (subst (λ (n : ℕ). P t n) (sym (eqb-true k i h)) here)
    by_flag true true false e g h out = absurd (cc)
    by_flag true false c e g h out = absurd (cc)

is_look : (c : Choice) → bit_of c ≡ 4 → c ≡ choice.Look
is_look choice.Look h = refl
is_look choice.Send h = absurd (omega (arith, h))
is_look choice.Take h = absurd (omega (arith, h))
is_look choice.Credit h = absurd (omega (arith, h))
is_look choice.Done h = absurd (omega (arith, h))
is_look choice.Serve h = absurd (omega (arith, h))
is_look (choice.TakeFrom i) h = absurd (omega (arith, h))
is_look (choice.Put i) h = absurd (omega (arith, h))
is_look (choice.CreditOf o) h = absurd (omega (arith, h))

rests_inside : (gs : List (List ℕ)) (awake : ℕ → Choice → Bool) (agent : ℕ) (c : Choice) → RestsInside gs awake → In gs (agent_tile agent)
    → agent_kind agent ≢ Router → c ≢ choice.Look
    → RestsInside gs (choice_rested agent c awake)
rests_inside gs awake agent c inside mine other no_look k z = by_flags (awake k z) (k == agent) (bit_of z == bit_of c) refl refl refl
  where
    by_flags : (a b e : Bool) → awake k z ≡ a → (k == agent) ≡ b → (bit_of z == bit_of c) ≡ e → (a && not (b && e)) ≡ false
        → In gs (agent_tile k) × (agent_kind k ≢ Router) × (z ≢ choice.Look)
    by_flags false b e was same bits out = inside k z was
    by_flags true true true was same bits out =
        let is : k ≡ agent = eqb-true k agent same in (
          subst (λ (n : ℕ). In gs (agent_tile n)) (sym is) mine,
          (λ router. other (ap agent_kind (sym is) ∙ router)),
          (λ look. no_look (is_look c (sym (eqb-true (bit_of z) (bit_of c) bits) ∙ ap bit_of look))),
        )
    by_flags true true false was same bits out = absurd (cc)
    by_flags true false e was same bits out = absurd (cc)

module _ (l : Load) (run : List Step) (gs : List (List ℕ)) (awake : ℕ → Choice → Bool) (f : PortFlags) where
  pub all_awake : ((agent : ℕ) (c : Choice) → awake agent c ≡ true) → ((t i : ℕ) → f.takes t i ≡ true) → ((t i : ℕ) → f.puts t i ≡ true)
      → ((t o : ℕ) → f.credits t o ≡ true)
      → ((t i : ℕ) → f.full t i ≡ false → In gs t × (latch_at (after l run) t i ≡ None)) → Sleeps l run gs awake f
  all_awake choices takes puts credits full = record {
    choices = λ agent c out. absurd (true_isnt (awake agent c) (choices agent c) out);
    inside = λ agent c out. absurd (true_isnt (awake agent c) (choices agent c) out);
    ports = record {
      takes = λ t i out. absurd (true_isnt (f.takes t i) (takes t i) out);
      puts = λ t i out. absurd (true_isnt (f.puts t i) (puts t i) out);
      credits = λ t o out. absurd (true_isnt (f.credits t o) (credits t o) out);
      full = λ t i out. (full t i out).1;
    };
    ports_inside = record {
      takes = λ t i out. absurd (true_isnt (f.takes t i) (takes t i) out);
      puts = λ t i out. absurd (true_isnt (f.puts t i) (puts t i) out);
      credits = λ t o out. absurd (true_isnt (f.credits t o) (credits t o) out);
      full = λ t i out. (full t i out).0;
    };
  }

  module _ (sleep : Sleeps l run gs awake f) where
    pub more_awake : (more : ℕ → Choice → Bool) → ((agent : ℕ) (c : Choice) → more agent c ≡ false → awake agent c ≡ false) → Sleeps l run gs more f
    more_awake more fewer = record {
      choices = λ agent c out. sleep.choices agent c (fewer agent c out);
      inside = λ agent c out. sleep.inside agent c (fewer agent c out);
      ports = sleep.ports;
      ports_inside = sleep.ports_inside;
    }

    pub choice_falls : (agent : ℕ) (c : Choice) → In gs (agent_tile agent) → agent_kind agent ≢ Router → c ≢ choice.Look
        → has_choice (port_count (dims_of l.shape)) (agent_kind agent) c ≡ true
        → enabled l run (record { agent = agent; choice = c }) ≡ false
        → Sleeps l run gs (choice_rested agent c awake) f
    choice_falls agent c mine other no_look has out = record {
      choices = choice_rests (design_of l) (after l run) agent c awake sleep.choices other has (idle l run (record { agent = agent; choice = c }) out);
      inside = rests_inside gs awake agent c sleep.inside mine other no_look;
      ports = sleep.ports;
      ports_inside = sleep.ports_inside;
    }

    pub take_falls : (t i : ℕ) → In gs t → IsInner l.shape gs (agent_number t Router) (choice.TakeFrom i)
        → enabled l run (of_router t (choice.TakeFrom i)) ≡ false → Sleeps l run gs awake (take_rested t i f)
    take_falls t i mine inner out = record {
      choices = sleep.choices;
      inside = sleep.inside;
      ports = record {
        takes = lowered_is f.takes t i (λ u k. step (design_of l) (after l run) (of_router u (choice.TakeFrom k)) ≡ None) sleep.ports.takes
            (idle l run (of_router t (choice.TakeFrom i)) out);
        puts = sleep.ports.puts;
        credits = sleep.ports.credits;
        full = sleep.ports.full;
      };
      ports_inside = record {
        takes = lowered_is f.takes t i (λ u k. In gs u × IsInner l.shape gs (agent_number u Router) (choice.TakeFrom k)) sleep.ports_inside.takes (mine, inner);
        puts = sleep.ports_inside.puts;
        credits = sleep.ports_inside.credits;
        full = sleep.ports_inside.full;
      };
    }

    pub put_falls : (t i : ℕ) → In gs t → enabled l run (of_router t (choice.Put i)) ≡ false → Sleeps l run gs awake (put_rested t i f)
    put_falls t i mine out = record {
      choices = sleep.choices;
      inside = sleep.inside;
      ports = record {
        takes = sleep.ports.takes;
        puts = lowered_is f.puts t i (λ u k. step (design_of l) (after l run) (of_router u (choice.Put k)) ≡ None) sleep.ports.puts
            (idle l run (of_router t (choice.Put i)) out);
        credits = sleep.ports.credits;
        full = sleep.ports.full;
      };
      ports_inside = record {
        takes = sleep.ports_inside.takes;
        puts = lowered_is f.puts t i (λ u k. In gs u) sleep.ports_inside.puts mine;
        credits = sleep.ports_inside.credits;
        full = sleep.ports_inside.full;
      };
    }

    pub credit_falls : (t o : ℕ) → In gs t → IsInner l.shape gs (agent_number t Router) (choice.CreditOf o)
        → enabled l run (of_router t (choice.CreditOf o)) ≡ false → Sleeps l run gs awake (credit_rested t o f)
    credit_falls t o mine inner out = record {
      choices = sleep.choices;
      inside = sleep.inside;
      ports = record {
        takes = sleep.ports.takes;
        puts = sleep.ports.puts;
        credits = lowered_is f.credits t o (λ u k. step (design_of l) (after l run) (of_router u (choice.CreditOf k)) ≡ None) sleep.ports.credits
            (idle l run (of_router t (choice.CreditOf o)) out);
        full = sleep.ports.full;
      };
      ports_inside = record {
        takes = sleep.ports_inside.takes;
        puts = sleep.ports_inside.puts;
        credits = lowered_is f.credits t o (λ u k. In gs u × IsInner l.shape gs (agent_number u Router) (choice.CreditOf k)) sleep.ports_inside.credits
            (mine, inner);
        full = sleep.ports_inside.full;
      };
    }

    pub choice_idle : (c : Step) → awake c.agent c.choice ≡ false → enabled l run c ≡ false
    choice_idle c out = known_idle l run awake c sleep.choices out

    pub take_idle : (t i : ℕ) → f.takes t i ≡ false → enabled l run (of_router t (choice.TakeFrom i)) ≡ false
    take_idle t i out = unable l run (of_router t (choice.TakeFrom i)) (sleep.ports.takes t i out)

    pub put_idle : (t i : ℕ) → f.puts t i ≡ false → enabled l run (of_router t (choice.Put i)) ≡ false
    put_idle t i out = unable l run (of_router t (choice.Put i)) (sleep.ports.puts t i out)

    pub credit_idle : (t o : ℕ) → f.credits t o ≡ false → enabled l run (of_router t (choice.CreditOf o)) ≡ false
    credit_idle t o out = unable l run (of_router t (choice.CreditOf o)) (sleep.ports.credits t o out)
