-- Where a choice rises wherever packets of one flit come: nothing stands where nothing can go.
use Rattle.std.proofs.Common.{◌≡◌, inl, inr, ℕ, ◌<◌, ◌≤◌, Bool, true, false, List, [], ◌∷◌, ◌++◌, length, Option, Some, None, All, refl, sym, ◌∙◌, ap, subst, arith}
use Rattle.std.proofs.lemmas.Bool.{cases_lt, cases_Bool}
use Rattle.std.proofs.lemmas.List.Elements.{All-head}
use Rattle.std.specs.Option.{option_to_list}
use Rattle.wormhole.specs.Net.{Parcel, IsParcel, flits_of_all}
use Rattle.wormhole.specs.State.{NetState, empty, in_line}
use Rattle.wormhole.specs.Events.{NetEvent, Latch, ForwardHead, Return, after_all}
use Rattle.wormhole.proofs.Heads.{in_line_is}
use Rattle.wormhole.proofs.Inductions.{by_falling}
use Rattle.network_adaptive.specs.Choices.{AdaptiveNet, IsAdaptiveNet, AreReplyEnds, Comes, ByChoice}
use Rattle.network_adaptive.specs.Flow.{CanAllOccur}
use Rattle.deadlock_laws.specs.LockUps.{GoesByChoices, IsAdaptiveLockUp}
use Rattle.deadlock_laws.specs.Lengths.{HasLength}
use Rattle.deadlock_laws.specs.DeadSets.{HasRisingChoices}
use Rattle.deadlock_laws.proofs.Single.{Stays, stays, at_first}

no_latch : (l : Option ℕ) (fs : List ℕ) → option_to_list l ++ fs ≡ [] → fs ≡ []
no_latch None fs e = e
no_latch (Some f) fs e = absurd (cc)

module _ (n : AdaptiveNet) (s : NetState) (answers : ℕ → ℕ → Bool) (net : IsAdaptiveNet n) (ends : AreReplyEnds n answers) (number : ℕ → ℕ) (rising : HasRisingChoices n answers number)
    (deep : 0 < n.frame.depth) (a : Stays n s) (still : GoesByChoices n s answers ⊥) where
  -- where nothing stands a credit is held
  credit : (y : ℕ) → y < n.frame.channels → in_line (s.lines y) ≡ [] → 0 < (s.lines y).held
  credit y within none =
      let sums = a.words.credits y in
      let no_flit = ap length (no_latch (s.lines y).latch (s.lines y).flits none) in
      elim (cases_lt 0 (s.lines y).returning) [
        | inl some ↦ absurd (still.moves (Return y) tt (record { here = within; returns = some }))
        | inr none_returns ↦ omega arith
      ]

  abbrev IsEmpty : ℕ → Type 0
  IsEmpty x = x < n.frame.channels → in_line (s.lines x) ≡ []

  abbrev After : ℕ → Type 0
  After x = (y : ℕ) → number x < number y → number y ≤ n.frame.channels → IsEmpty y

  after_is : (x y : ℕ) → After x → number x < number y → y < n.frame.channels → in_line (s.lines y) ≡ []
  after_is x y ih more within = let low = rising.bounded y within in ih y more (omega arith) within

  -- what stands in an ejection channel came there
  came : (x f : ℕ) (fs : List ℕ) → n.frame.ejects x ≡ true → (ks : List Parcel) → (s.notes x).parcels ≡ ks → flits_of_all ks ≡ f ∷ fs → Comes n x x
  came x f fs last [] are e = absurd (cc)
  came x f fs last (k ∷ ks) are e =
      let tracks = a.tracks in
      let come : Comes n k.destination x =
      All-head (λ (k : Parcel). Comes n k.destination x) k ks (subst (λ (ks : List Parcel). All (λ k. Comes n k.destination x) ks) are (tracks.are.comes x)) in
      subst (λ j. Comes n j x) (sym (net.arrives k.destination x come last)) come

  -- a receiver takes what stands first
  receives : (x f : ℕ) (fs : List ℕ) → After x → x < n.frame.channels → n.frame.ejects x ≡ true → in_line (s.lines x) ≡ f ∷ fs → ⊥
  receives x f fs ih within last line =
      let come : Comes n x x =
      came x f (fs ++ (s.notes x).owed) last (s.notes x).parcels refl
      (sym (ap (λ as'. as' ++ flits_of_all (s.notes x).parcels) (a.single x).awaited) ∙ (a.words.contiguous x ∙ ap (λ l. l ++ (s.notes x).owed) line)) in
      still.takes x f fs (record {
        here = within;
        ejects = last;
        first = sym (in_line_is s x None (s.lines x).flits (a.words.unlatched x last) refl) ∙ line;
        credits = λ y is. credit y (ends.to x y is) (after_is x y ih (rising.answered x y come is) (ends.to x y is));
      })

  -- a packet goes on into the choice that rises
  module _ (x g : ℕ) (ih : After x) (within : x < n.frame.channels) (input : n.frame.ejects x ≡ false) (held : (s.lines x).latch ≡ Some g) where
    goes : (k : Parcel) → IsParcel n.frame k → Comes n k.destination x → k.head ≡ g → ⊥
    goes k is come same =
        let out = rising.rises k.destination x come input in
        let y : ℕ = out.0 in
        let low : y < n.frame.channels = net.within k.destination y (ByChoice x y come out.1) in
        let none : in_line (s.lines y) ≡ [] = after_is x y ih out.2 low in
        let told : n.frame.told g ≡ k.destination = ap n.frame.told (sym same) ∙ is.told in
        still.moves (ForwardHead x y g) tt (record {
          here = within;
          input = input;
          full = held;
          head = subst (λ f. n.frame.is_head f ≡ true) same is.head;
          chosen = subst (λ j. n.chooses x j y ≡ true) (sym told) (let c = out.1 in c.chosen);
          free = (a.single y).owner;
          credit = credit y low none;
          room = inr none;
        })

    by_parcels : (ks : List Parcel) → (s.notes x).parcels ≡ ks → flits_of_all ks ≡ g ∷ ((s.lines x).flits ++ (s.notes x).owed) → ⊥
    by_parcels [] are e = absurd (cc)
    by_parcels (k ∷ ks) are e =
        let tracks = a.tracks in
        goes k (All-head (IsParcel n.frame) k ks (subst (All (IsParcel n.frame)) are (a.words.parcels x)))
        (All-head (λ (k : Parcel). Comes n k.destination x) k ks (subst (λ (ks : List Parcel). All (λ k. Comes n k.destination x) ks) are (tracks.are.comes x))) (cc)

    moves_on : ⊥
    moves_on =
        by_parcels (s.notes x).parcels refl
        (sym (ap (λ as'. as' ++ flits_of_all (s.notes x).parcels) (a.single x).awaited)
        ∙ (a.words.contiguous x ∙ ap (λ o. (option_to_list o ++ (s.lines x).flits) ++ (s.notes x).owed) held))

  by_latch : (x f : ℕ) (fs : List ℕ) → After x → x < n.frame.channels → n.frame.ejects x ≡ false → in_line (s.lines x) ≡ f ∷ fs → (l : Option ℕ) → (s.lines x).latch ≡ l → ⊥
  by_latch x f fs ih within input line None latched =
      still.moves (Latch x f fs) tt (record {
        here = within;
        input = input;
        free = latched;
        first = sym (in_line_is s x None (s.lines x).flits latched refl) ∙ line;
      })
  by_latch x f fs ih within input line (Some g) latched = moves_on x g ih within input latched

  stands : (x f : ℕ) (fs : List ℕ) → After x → x < n.frame.channels → in_line (s.lines x) ≡ f ∷ fs → ⊥
  stands x f fs ih within line = elim (cases_Bool (n.frame.ejects x)) [
    | inl last ↦ receives x f fs ih within last line
    | inr input ↦ by_latch x f fs ih within input line (s.lines x).latch refl
  ]

  by_line : (x : ℕ) → After x → x < n.frame.channels → (l : List ℕ) → in_line (s.lines x) ≡ l → in_line (s.lines x) ≡ []
  by_line x ih within [] line = line
  by_line x ih within (f ∷ fs) line = absurd (stands x f fs ih within line)

  pub empty_at : (x : ℕ) → x < n.frame.channels → in_line (s.lines x) ≡ []
  empty_at x within =
      let low = rising.bounded x within in
      by_falling number n.frame.channels IsEmpty (λ x low ih within. by_line x ih within (in_line (s.lines x)) refl) x (omega arith) within

pub nothing_stands : (n : AdaptiveNet) (answers : ℕ → ℕ → Bool) (number : ℕ → ℕ) → IsAdaptiveNet n → AreReplyEnds n answers → HasRisingChoices n answers number → 0 < n.frame.depth
    → (events : List NetEvent) → All (HasLength 1) events → CanAllOccur n (empty n.frame) events → GoesByChoices n (after_all n.frame (empty n.frame) events) answers ⊥
    → (x : ℕ) → x < n.frame.channels → in_line ((after_all n.frame (empty n.frame) events).lines x) ≡ []
nothing_stands n answers number net ends rising deep events one may still =
    empty_at n (after_all n.frame (empty n.frame) events) answers net ends number rising deep (stays n (empty n.frame) events net one may (at_first n)) still

pub never_locks : (n : AdaptiveNet) (answers : ℕ → ℕ → Bool) (number : ℕ → ℕ) → IsAdaptiveNet n → AreReplyEnds n answers → HasRisingChoices n answers number → 0 < n.frame.depth
    → (events : List NetEvent) → All (HasLength 1) events → IsAdaptiveLockUp n answers events → ⊥
never_locks n answers number net ends rising deep events one lock =
    lock.stands (nothing_stands n answers number net ends rising deep events one lock.may lock.still lock.stuck lock.here)
