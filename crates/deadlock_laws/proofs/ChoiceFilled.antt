-- A dead set comes about, channel by channel.
use Rattle.std.proofs.Common.{◌≡◌, ◌⊎◌, inl, inr, ℕ, ◌<◌, ◌≤◌, Bool, true, false, List, [], ◌∷◌, refl}
use Rattle.std.proofs.Common.{arith}
use Rattle.wormhole.specs.Net.{Net}
use Rattle.wormhole.specs.State.{empty}
use Rattle.wormhole.specs.Events.{NetEvent, after_all}
use Rattle.network_judge.proofs.Lines.{Stands}
use Rattle.network_adaptive.specs.Choices.{AdaptiveNet, IsAdaptiveNet}
use Rattle.deadlock_laws.specs.Fillings.{Filling, enters_behind, AreFree, FillInTurn, WaitsForAll, IsDeadFilling}
use Rattle.deadlock_laws.specs.LockUps.{HasSingleFlitPackets, IsAdaptiveLockUp}
use Rattle.deadlock_laws.proofs.ChoiceMoves.{Leads, at_once, and_then, AreEmpty, receiver, comes, filled}
use Rattle.deadlock_laws.proofs.Still.{count, count_within, lines_of, unfilled, still, occupied, with_receivers}

-- how many packets may come by no escape
few : (n : Net) (e b : Bool) → (b ≡ true) ⊎ (count n e b ≤ 1)
few n e true = inl refl
few n e false = inr (omega arith)

module _ (n : AdaptiveNet) (is : IsAdaptiveNet n) (deep : 0 < n.frame.depth) (tells : HasSingleFlitPackets n) where
  empties : (fs : List Filling) (y : ℕ) (xs : List ℕ) → AreFree fs y xs → AreEmpty n.frame (lines_of n deep tells fs) y xs
  empties fs y [] free = tt
  empties fs y (x ∷ xs) free = (unfilled n deep tells fs x free.0, free.1, empties fs y xs free.2)

  fills : (fs : List Filling) → FillInTurn n fs → Leads n (empty n.frame) (λ s. Stands s (lines_of n deep tells fs))
  fills [] turn = at_once n (empty n.frame) _ (λ z. refl)
  fills (f ∷ fs) turn =
      let come = turn.0 in
      let to = receiver n is f.to f.at f.before come.way in
      let e = n.frame.ejects f.at in
      let b = enters_behind n f.to f.at f.before in
      and_then n (empty n.frame) _ _ (fills fs turn.1) (λ s st.
      filled n is deep (tells.word f.to) (tells.head f.to to) (tells.tail f.to to) f.to (tells.told f.to to) s (lines_of n deep tells fs) f.at f.before e
      come.way refl (empties fs f.at f.before come.free) (unfilled n deep tells fs f.at come.here) st (count n.frame e b) (count_within n.frame e b deep)
      (few n.frame e b))

  locked : (answers : ℕ → ℕ → Bool) (fs : List Filling) → IsDeadFilling n answers fs → (events : List NetEvent) × IsAdaptiveLockUp n answers events
  locked answers [] dead = let some = dead.some in absurd (omega arith)
  locked answers (f ∷ fs) dead =
      let turn = dead.in_turn in
      let come = turn.0 in
      let r = fills (f ∷ fs) turn in (
        r.events,
        record {
          may = r.may;
          still = still n deep tells answers (f ∷ fs) (after_all n.frame (empty n.frame) r.events) r.there
              (with_receivers n is (WaitsForAll n answers (f ∷ fs)) (f ∷ fs) turn dead.waits);
          stuck = f.at;
          here = is.within f.to f.at (comes n f.to f.at f.before come.way);
          stands = occupied n deep tells fs f (after_all n.frame (empty n.frame) r.events) r.there;
        },
      )

pub fillings_lock : (n : AdaptiveNet) (answers : ℕ → ℕ → Bool) (fs : List Filling) → IsAdaptiveNet n → 0 < n.frame.depth → HasSingleFlitPackets n
    → IsDeadFilling n answers fs → (events : List NetEvent) × IsAdaptiveLockUp n answers events
fillings_lock n answers fs is deep tells dead = locked n is deep tells answers fs dead
