-- Which choices of routers count as awake, after a move.
use Rattle.std.proofs.Common.{◌≡◌, ◌≢◌, ℕ, ◌<◌, ◌==◌, ◌&&◌, inl, inr, Bool, true, false, List, Some, None, refl, sym, ◌∙◌}
use Rattle.std.proofs.Common.{subst, arith, slice_get, eq-eqb, if◌then◌else◌}
use Rattle.std.specs.Prelude.{not, nat_lt}
use Rattle.std.proofs.lemmas.Bool.{cases_eq, ne_eqb}
use Rattle.std.proofs.lemmas.Option.{slice_get_within}
use Rattle.torus.specs.Shape.{tiles_of}
use Rattle.torus.specs.declared.step.Step.{Step}
use Rattle.torus.specs.declared.step.Choice.{Choice}
use Rattle.torus.specs.declared.step.Choice.TheVariants as choice
use Rattle.packet.specs.declared.kinds.Request.{Request as Asking}
use Rattle.router.specs.Beginning.{router_wiring}
use Rattle.home_bank.specs.ServiceList.{address_of}
use Rattle.flit_buffer.specs.Surroundings.{Wiring}
use Rattle.flit_buffer.specs.declared.word_op.WordOp.{WordOp}
use Rattle.flit_buffer.specs.declared.word_op.WordOp.TheVariants as word_op
use Rattle.flit_buffer.specs.declared.want.Want.{Want}
use Rattle.flit_buffer.specs.declared.want.Want.TheVariants.{Take, Put, Credit}
use Rattle.core_laws.specs.Agent.TheVariants.{Router}
use Rattle.core_laws.specs.Tile.{Design, TileState}
use Rattle.core_laws.specs.Agents.{agent_number}
use Rattle.core_laws.specs.Refinement.{IsSurrounded}
use Rattle.core_laws.specs.Core.{Load, State, design_of, step, after}
use Rattle.core_laws.specs.Runs.{IsAcceptedLoad}
use Rattle.core_laws.specs.Attempts.{step_op}
use Rattle.core_laws.specs.Waking.{wiring_at, Meets}
use Rattle.core_laws.specs.Routers.{of_router, brings_flit, returns_credit, empties, fills, frees_put, latch_at}
use Rattle.core_laws.specs.Routers.{PortFlags, OtherPortsSleep, ports_woken, router_moved}
use Rattle.core_laws.proofs.Operations.{surrounded_after, in_memory_after}
use Rattle.core_laws.proofs.RouterMoves as router
use Rattle.core_laws.proofs.RouterMoves.{wiring_is, empty_idle, router_did}
use Rattle.core_laws.proofs.Wakes.{IsReady, ready_after}
use Rattle.core_laws.proofs.PortsMet.{none_of, true_isnt, brought, returned, woken, take_woken, credit_woken, other_put, other_latch}

if_first : (a b : Bool) → a ≡ true → (a && b) ≡ false → b ≡ false
if_first true b h k = k
if_first false b h k = absurd (cc)

still_full : (a w e b : Bool) → e ≡ false → (a && not (w && (e && b))) ≡ false → a ≡ false
still_full false w e b h k = refl
still_full true false e b h k = absurd (cc)
still_full true true false b h k = absurd (cc)
still_full true true true b h k = absurd (cc)

full_elsewhere : (a w x : Bool) → w ≡ false → (a && not (w && x)) ≡ false → a ≡ false
full_elsewhere false w x h k = refl
full_elsewhere true false x h k = absurd (cc)
full_elsewhere true true x h k = absurd (cc)

module _ (d : Design) (s : State) (is_ready : IsReady d s) (surrounded : IsSurrounded d s.around)
    (in_memory : (t : ℕ) (tile : TileState) → slice_get s.tiles t ≡ Some tile → (r : Asking) → tile.bank.waiting ≡ Some r
    → address_of t (tiles_of d.shape) r.word < d.words)
    (t : ℕ) (c : Choice) (op : WordOp) (by : step_op d s (of_router t c) ≡ Some op) (next : State) (moves : step d s (of_router t c) ≡ Some next)
    (f : PortFlags) (sleep : OtherPortsSleep d s f) where
  -- another tile's router is another agent
  apart : (u : ℕ) → u ≢ t → agent_number u Router ≢ agent_number t Router
  apart u ne e = ne (omega (arith, e))

  within : t < tiles_of d.shape
  within =
      let x = router_did d t s c next moves in
      subst (λ (k : ℕ). t < k) is_ready.count (slice_get_within s.tiles t x.tile x.here)

  abbrev want : Want
  want = (router_did d t s c next moves).want

  at_router : (sought : Want) → Meets (router_wiring d.shape t) want (router_wiring d.shape t) sought
      → Meets (wiring_at d.shape (agent_number t Router)) want (router_wiring d.shape t) sought
  at_router sought m = subst (λ (z : Wiring). Meets z want (router_wiring d.shape t) sought) (sym (wiring_is d t)) m

  here_take : (i : ℕ) → empties c i ≡ false → brings_flit d op t i ≡ false → step d s (of_router t (choice.TakeFrom i)) ≡ None
      → step d next (of_router t (choice.TakeFrom i)) ≡ None
  here_take i held out none = router.own_take d t s c next moves i held
      (λ small m. true_isnt _ (brought d s is_ready surrounded in_memory (of_router t c) op by t within want i (router.own_wanted d t s c next moves) small
      (at_router (Take i) m)) out) none

  here_credit : (o : ℕ) → returns_credit d op t o ≡ false → step d s (of_router t (choice.CreditOf o)) ≡ None
      → step d next (of_router t (choice.CreditOf o)) ≡ None
  here_credit o out none = router.own_credit d t s c next moves o
      (λ small m. true_isnt _ (returned d s is_ready surrounded in_memory (of_router t c) op by t within want o (router.own_wanted d t s c next moves) small
      (at_router (Credit o) m)) out) none

  abbrev now : PortFlags
  now = router_moved t c (ports_woken d op f)

  taken : (u i : ℕ) → now.takes u i ≡ false → step d next (of_router u (choice.TakeFrom i)) ≡ None
  taken u i out =
      let k = none_of _ ((u == t) && empties c i) out in
      let j = none_of (f.takes u i) (brings_flit d op u i) k.0 in
      elim (cases_eq u t) [
        | inl e ↦
            subst (λ (n : ℕ). step d next (of_router n (choice.TakeFrom i)) ≡ None) (sym e)
            (here_take i (if_first (u == t) (empties c i) (eq-eqb u t e) k.1) (subst (λ (n : ℕ). brings_flit d op n i ≡ false) e j.1)
            (subst (λ (n : ℕ). step d s (of_router n (choice.TakeFrom i)) ≡ None) e (sleep.takes u i j.0)))
        | inr ne ↦ take_woken d s is_ready surrounded in_memory (of_router t c) op by next moves u (apart u ne) f sleep i k.0
      ]

  credited : (u o : ℕ) → now.credits u o ≡ false → step d next (of_router u (choice.CreditOf o)) ≡ None
  credited u o out =
      let j = none_of (f.credits u o) (returns_credit d op u o) out in
      elim (cases_eq u t) [
        | inl e ↦
            subst (λ (n : ℕ). step d next (of_router n (choice.CreditOf o)) ≡ None) (sym e)
            (here_credit o (subst (λ (n : ℕ). returns_credit d op n o ≡ false) e j.1)
            (subst (λ (n : ℕ). step d s (of_router n (choice.CreditOf o)) ≡ None) e (sleep.credits u o j.0)))
        | inr ne ↦ credit_woken d s is_ready surrounded in_memory (of_router t c) op by next moves u (apart u ne) f sleep o out
      ]

  by_emptied : (u i : ℕ) → u ≡ t → now.full u i ≡ false → (b : Bool) → empties c i ≡ b → latch_at next t i ≡ None
  by_emptied u i e out true is = router.own_emptied d t s c next moves i is
  by_emptied u i e out false is =
      let k = none_of _ ((u == t) && fills c i) out in
      router.own_latch d t s c next moves i (if_first (u == t) (fills c i) (eq-eqb u t e) k.1) is
      ∙ sleep.full t i (subst (λ (n : ℕ). f.full n i ≡ false) e (still_full (f.full u i) (u == t) (empties c i) (nat_lt i 32) is k.0))

  emptied : (u i : ℕ) → now.full u i ≡ false → latch_at next u i ≡ None
  emptied u i out = elim (cases_eq u t) [
    | inl e ↦ subst (λ (n : ℕ). latch_at next n i ≡ None) (sym e) (by_emptied u i e out (empties c i) refl)
    | inr ne ↦
        other_latch d s is_ready surrounded in_memory (of_router t c) op by next moves u (apart u ne) i
        ∙ sleep.full u i (full_elsewhere (f.full u i) (u == t) (empties c i && nat_lt i 32) (ne_eqb u t ne) (none_of _ ((u == t) && fills c i) out).0)
  ]

  by_freed : (u i : ℕ) → u ≡ t → f.puts u i ≡ false → (b : Bool) → frees_put c i ≡ b → (b && now.full u i) ≡ false
      → step d next (of_router t (choice.Put i)) ≡ None
  by_freed u i e out true is full = empty_idle d t next i (subst (λ (n : ℕ). latch_at next n i ≡ None) e (emptied u i full))
  by_freed u i e out false is full = router.own_put d t s c next moves i is (sleep.puts t i (subst (λ (n : ℕ). f.puts n i ≡ false) e out))

  freed : (u i : ℕ) → now.puts u i ≡ false → step d next (of_router u (choice.Put i)) ≡ None
  freed u i out =
      let k = none_of (f.puts u i) _ out in
      elim (cases_eq u t) [
        | inl e ↦
            subst (λ (n : ℕ). step d next (of_router n (choice.Put i)) ≡ None) (sym e)
            (by_freed u i e k.0 (frees_put c i) refl (if_first (u == t) (frees_put c i && now.full u i) (eq-eqb u t e) k.1))
        | inr ne ↦ other_put d s is_ready surrounded in_memory (of_router t c) op by next moves u (apart u ne) i (sleep.puts u i k.0)
      ]

  -- a move of a router
  pub moved : OtherPortsSleep d next now
  moved = record { takes = taken; puts = freed; credits = credited; full = emptied }

module _ (l : Load) (ok : IsAcceptedLoad l) (steps : List Step) where
  abbrev s_then : State
  s_then = after l steps

  pub woken_after : (attempt : Step) (op : WordOp) (next : State) (f : PortFlags) → step_op (design_of l) s_then attempt ≡ Some op
      → step (design_of l) s_then attempt ≡ Some next → ((t : ℕ) → agent_number t Router ≢ attempt.agent) → OtherPortsSleep (design_of l) s_then f
      → OtherPortsSleep (design_of l) next (ports_woken (design_of l) op f)
  woken_after attempt op next f by moves other sleep =
      woken (design_of l) s_then (ready_after l ok steps) (surrounded_after l ok steps) (in_memory_after l ok steps) attempt op by next moves other f sleep

  pub moved_after : (t : ℕ) (c : Choice) (op : WordOp) (next : State) (f : PortFlags) → step_op (design_of l) s_then (of_router t c) ≡ Some op
      → step (design_of l) s_then (of_router t c) ≡ Some next → OtherPortsSleep (design_of l) s_then f
      → OtherPortsSleep (design_of l) next (router_moved t c (ports_woken (design_of l) op f))
  moved_after t c op next f by moves sleep =
      moved (design_of l) s_then (ready_after l ok steps) (surrounded_after l ok steps) (in_memory_after l ok steps) t c op by next moves f sleep
