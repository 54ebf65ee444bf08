-- Somebody goes, or nothing stands in the network.
use Rattle.std.proofs.Common.{◌≡◌, ◌≢◌, ◌⊎◌, ⊎_elim, ℕ, ◌<◌, zero, suc, List, [], ◌∷◌, ◌++◌, length, Option, Some, None, inl, inr, sym, ap, ◌∙◌, refl, subst}
use Rattle.std.proofs.Common.{arith}
use Rattle.std.proofs.lemmas.Bool.{cases_lt, cases_eq}
use Rattle.std.specs.Option.{option_to_list}
use Rattle.wormhole.specs.Net.{Net, IsNet, Parcel, flits_of_all}
use Rattle.wormhole.specs.State.{NetState, in_line}
use Rattle.wormhole.specs.Events.{Return}
use Rattle.wormhole.specs.Words.{Words}
use Rattle.wormhole.specs.Routes.{Routes}
use Rattle.wormhole.specs.Ends.{Tiles, AreTiles, Goes, NetMove, Moves, Takes, Serves, IsQuiet}
use Rattle.wormhole.proofs.Owed.{owed_goes}
use Rattle.wormhole.proofs.Held.{held_goes}

-- a move is something that goes
pub move_goes : (n : Net) (s : NetState) (tiles : Tiles) → Goes n s tiles (NetMove n s tiles)
move_goes n s tiles = record { moves = Moves; takes = Takes; serves = Serves }

-- nothing makes up an empty list
no_parcels : (awaited : List ℕ) (ks : List Parcel) → awaited ++ flits_of_all ks ≡ [] → (awaited ≡ []) × (ks ≡ [])
no_parcels [] [] e = (refl, refl)
no_parcels [] (k ∷ ks) e = absurd (cc)
no_parcels (a ∷ as') ks e = absurd (cc)

no_latch : (l : Option ℕ) (fs : List ℕ) → option_to_list l ++ fs ≡ [] → fs ≡ []
no_latch None fs e = e
no_latch (Some f) fs e = absurd (cc)

-- of each number below a bound P holds, or Q does
pub or_all : (Q : Type 0) (P : ℕ → Type 0) (m : ℕ) → ((x : ℕ) → x < m → Q ⊎ P x) → Q ⊎ ((x : ℕ) → x < m → P x)
or_all Q P zero each = inr (λ x h. absurd (omega arith))
or_all Q P (suc m) each = ⊎_elim
    (λ (q : Q). inl q)
    (λ (below : (x : ℕ) → x < m → P x). ⊎_elim
    (λ (q : Q). inl q)
    (λ (last : P m). inr (λ x h. ⊎_elim
    (λ (e : x ≡ m). subst P (sym e) last)
    (λ (d : x ≢ m). below x (omega arith))
    (cases_eq x m)))
    (each m (omega arith)))
    (or_all Q P m (λ x h. each x (omega arith)))

-- a channel in which nothing stands is quiet, or somebody goes there
module _ (n : Net) (s : NetState) (tiles : Tiles) (Go : Type 0) (deep : 0 < n.depth) (words : Words n s) (routes : Routes n s)
    (goes : Goes n s tiles Go) where
  pub by_owed : (x : ℕ) → x < n.channels → in_line (s.lines x) ≡ [] → (o : List ℕ) → (s.notes x).owed ≡ o → Go ⊎ IsQuiet n s x
  by_owed x within line (f ∷ fs) owes =
      inl (owed_goes n s tiles Go deep words routes goes x within (no_latch (s.lines x).latch (s.lines x).flits line) f fs owes)
  by_owed x within line [] owes =
      let none = no_parcels (s.notes x).awaited (s.notes x).parcels (words.contiguous x ∙ ap (λ m. m ++ (s.notes x).owed) line ∙ owes) in
      let size = ap length (no_latch (s.lines x).latch (s.lines x).flits line) in
      let sums = words.credits x in
      elim (cases_lt 0 (s.lines x).returning) [
        | inl some ↦ inl (goes.moves (Return x) tt (record { here = within; returns = some }))
        | inr stays ↦ inr (record { line = line; owed = owes; awaited = none.0; parcels = none.1; credits = omega arith })
      ]

module _ (n : Net) (s : NetState) (tiles : Tiles) (Go : Type 0) (net : IsNet n) (deep : 0 < n.depth) (words : Words n s) (routes : Routes n s)
    (are : AreTiles n tiles) (goes : Goes n s tiles Go) where
  by_line : (x : ℕ) → x < n.channels → (l : List ℕ) → in_line (s.lines x) ≡ l → Go ⊎ IsQuiet n s x
  by_line x within [] line = by_owed n s tiles Go deep words routes goes x within line (s.notes x).owed refl
  by_line x within (f ∷ fs) line = inl (held_goes n s tiles Go net deep words routes goes are x within f fs line)

  -- somebody goes, or the whole network is quiet
  pub goes_or_quiet : Go ⊎ ((x : ℕ) → x < n.channels → IsQuiet n s x)
  goes_or_quiet = or_all Go (IsQuiet n s) n.channels (λ x within. by_line x within (in_line (s.lines x)) refl)

-- where nobody goes, the network is quiet
pub quiet : (n : Net) (s : NetState) (tiles : Tiles) → IsNet n → 0 < n.depth → Words n s → Routes n s → AreTiles n tiles → Goes n s tiles ⊥ → (x : ℕ)
    → x < n.channels → IsQuiet n s x
quiet n s tiles net deep words routes are still = ⊎_elim
    (λ (never : ⊥). absurd never)
    (λ (all : (x : ℕ) → x < n.channels → IsQuiet n s x). all)
    (goes_or_quiet n s tiles ⊥ net deep words routes are still)

-- where a channel isn't quiet, there is a move
pub finds_move : (n : Net) (s : NetState) (tiles : Tiles) → IsNet n → 0 < n.depth → Words n s → Routes n s → AreTiles n tiles → (x : ℕ) → x < n.channels
    → (IsQuiet n s x → ⊥) → NetMove n s tiles
finds_move n s tiles net deep words routes are x within busy = ⊎_elim
    (λ (move : NetMove n s tiles). move)
    (λ (all : (x : ℕ) → x < n.channels → IsQuiet n s x). absurd (busy (all x within)))
    (goes_or_quiet n s tiles (NetMove n s tiles) net deep words routes are (move_goes n s tiles))
