-- Somebody goes, or nothing stands in the network.
use Rattle.std.proofs.Common.{◌≡◌, ◌⊎◌, ⊎_elim, ℕ, ◌<◌, Bool, List, [], ◌∷◌, ◌++◌, length, Option, Some, None, inl, inr, ap, ◌∙◌, refl}
use Rattle.std.proofs.Common.{arith}
use Rattle.std.proofs.lemmas.Bool.{cases_lt}
use Rattle.std.specs.Option.{option_to_list}
use Rattle.wormhole.specs.State.{NetState, in_line}
use Rattle.wormhole.specs.Events.{Return}
use Rattle.wormhole.specs.Words.{Words}
use Rattle.wormhole.specs.Ends.{IsQuiet}
use Rattle.wormhole.proofs.Quiescence.{or_all}
use Rattle.network_adaptive.specs.Choices.{AdaptiveNet, IsAdaptiveNet, HasEscapes, AreReplyEnds, AreRising}
use Rattle.network_adaptive.specs.Tracks.{HasTracks}
use Rattle.network_adaptive.specs.Progress.{GoesByEscapes, MoveByEscapes, Moves, Takes}
use Rattle.network_adaptive.proofs.Kept.{no_parcels}
use Rattle.network_adaptive.proofs.Owed.{owed_goes}
use Rattle.network_adaptive.proofs.Held.{held_goes}

-- a move is something that goes
pub move_goes : (n : AdaptiveNet) (s : NetState) (answers : ℕ → ℕ → Bool) → GoesByEscapes n s answers (MoveByEscapes n s answers)
move_goes n s answers = record { moves = Moves; takes = Takes }

no_latch : (l : Option ℕ) (fs : List ℕ) → option_to_list l ++ fs ≡ [] → fs ≡ []
no_latch None fs e = e
no_latch (Some f) fs e = absurd (cc)

module _ (n : AdaptiveNet) (s : NetState) (answers : ℕ → ℕ → Bool) (Go : Type 0) (net : IsAdaptiveNet n) (escapes : HasEscapes n) (number : ℕ → ℕ) (rising : AreRising n answers number) (deep : 0 < n.frame.depth) (words : Words n.frame s)
    (tracks : HasTracks n s) (are : AreReplyEnds n answers) (goes : GoesByEscapes n s answers Go) where
  -- a channel in which nothing stands is quiet, or somebody goes there
  by_owed : (x : ℕ) → x < n.frame.channels → in_line (s.lines x) ≡ [] → (o : List ℕ) → (s.notes x).owed ≡ o → Go ⊎ IsQuiet n.frame s x
  by_owed x within line (f ∷ fs) owes =
      inl (owed_goes n s answers Go deep words tracks.course tracks.stamp tracks.now tracks.are goes x within
      (no_latch (s.lines x).latch (s.lines x).flits line) f fs owes)
  by_owed x within line [] owes =
      let none = no_parcels (s.notes x).awaited (s.notes x).parcels (words.contiguous x ∙ ap (λ m. m ++ (s.notes x).owed) line ∙ owes) in
      let size = ap length (no_latch (s.lines x).latch (s.lines x).flits line) in
      let sums = words.credits x in
      elim (cases_lt 0 (s.lines x).returning) [
        | inl some ↦ inl (goes.moves (Return x) tt tt (record { here = within; returns = some }))
        | inr stays ↦ inr (record { line = line; owed = owes; awaited = none.0; parcels = none.1; credits = omega arith })
      ]

  by_line : (x : ℕ) → x < n.frame.channels → (l : List ℕ) → in_line (s.lines x) ≡ l → Go ⊎ IsQuiet n.frame s x
  by_line x within [] line = by_owed x within line (s.notes x).owed refl
  by_line x within (f ∷ fs) line =
      inl (held_goes n s answers Go net escapes number rising deep words tracks.course tracks.stamp tracks.now tracks.are are goes x within f fs line)

  -- somebody goes, or the whole network is quiet
  pub goes_or_quiet : Go ⊎ ((x : ℕ) → x < n.frame.channels → IsQuiet n.frame s x)
  goes_or_quiet = or_all Go (IsQuiet n.frame s) n.frame.channels (λ x within. by_line x within (in_line (s.lines x)) refl)

-- where nobody goes, the network is quiet
pub quiet : (n : AdaptiveNet) (s : NetState) (answers : ℕ → ℕ → Bool) → IsAdaptiveNet n → HasEscapes n → (number : ℕ → ℕ) → AreRising n answers number → 0 < n.frame.depth → Words n.frame s → HasTracks n s → AreReplyEnds n answers
    → GoesByEscapes n s answers ⊥ → (x : ℕ) → x < n.frame.channels → IsQuiet n.frame s x
quiet n s answers net escapes number rising deep words tracks are still = ⊎_elim
    (λ (never : ⊥). absurd never)
    (λ (all : (x : ℕ) → x < n.frame.channels → IsQuiet n.frame s x). all)
    (goes_or_quiet n s answers ⊥ net escapes number rising deep words tracks are still)

-- where a channel isn't quiet, there is a move
pub finds_move : (n : AdaptiveNet) (s : NetState) (answers : ℕ → ℕ → Bool) → IsAdaptiveNet n → HasEscapes n → (number : ℕ → ℕ) → AreRising n answers number → 0 < n.frame.depth → Words n.frame s → HasTracks n s → AreReplyEnds n answers
    → (x : ℕ) → x < n.frame.channels → (IsQuiet n.frame s x → ⊥) → MoveByEscapes n s answers
finds_move n s answers net escapes number rising deep words tracks are x within busy = ⊎_elim
    (λ (move : MoveByEscapes n s answers). move)
    (λ (all : (x : ℕ) → x < n.frame.channels → IsQuiet n.frame s x). absurd (busy (all x within)))
    (goes_or_quiet n s answers (MoveByEscapes n s answers) net escapes number rising deep words tracks are (move_goes n s answers))
