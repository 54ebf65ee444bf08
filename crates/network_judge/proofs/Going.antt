-- A flit in a channel or a latch: somebody goes, where receivers take what they can answer.
use Rattle.std.proofs.Common.{◌≡◌, ◌⊎◌, inl, inr, length, ℕ, ◌<◌, ◌≤◌, Bool, true, false, List, [], ◌∷◌, None, sym, ◌∙◌, refl}
use Rattle.std.proofs.Common.{subst, arith}
use Rattle.std.proofs.lemmas.Bool.{cases_lt, cases_eq}
use Rattle.wormhole.specs.Net.{Net, IsNet}
use Rattle.wormhole.specs.State.{NetState, in_line}
use Rattle.wormhole.specs.Words.{Words}
use Rattle.wormhole.specs.Routes.{Routes}
use Rattle.wormhole.specs.Ends.{Tiles, IsQuiet}
use Rattle.wormhole.specs.Ends as ends
use Rattle.wormhole.proofs.Held.{HeldGoes, Above, into, at_router}
use Rattle.wormhole.proofs.Quiescence.{or_all, by_owed}
use Rattle.wormhole.proofs.Inductions.{by_falling}
use Rattle.wormhole.proofs.Heads.{in_line_is}
use Rattle.network_judge.specs.declared.table.Reply.{Reply}
use Rattle.network_judge.specs.Replies.{IsReply, RiseOver, reply_at}
use Rattle.network_judge.specs.Receivers.{GoesWhere}

-- no tiles: what senders and routers owe goes on whoever stands at the ends
no_tiles : Tiles
no_tiles = record { count = 0; asks = λ p. 0; hears = λ p. 0; serves = λ p. 0; replies = λ p. 0 }

owed_alone : (n : Net) (s : NetState) (replies : List Reply) (Go : Type 0) → GoesWhere n s replies Go → ends.Goes n s no_tiles Go
unfolding no_tiles
owed_alone n s replies Go go = record {
  moves = go.moves;
  takes = λ p f fs c. (let here = c.here in absurd (omega arith));
  serves = λ b f fs c. (let here = c.here in absurd (omega arith));
}

module _ (n : Net) (s : NetState) (replies : List Reply) (Go : Type 0) (net : IsNet n) (deep : 0 < n.depth) (words : Words n s) (routes : Routes n s)
    (rise : RiseOver replies n.number)
    (inside : (x y : ℕ) → IsReply replies x y → y < n.channels) (go : GoesWhere n s replies Go) where
  goes : ends.Goes n s no_tiles Go
  goes = owed_alone n s replies Go go

  -- a word stands in the channel or its receiver's latch
  abbrev Held : ℕ → Type 0
  Held = HeldGoes n s no_tiles Go net deep words routes goes

  abbrev AllAbove : ℕ → Type 0
  AllAbove = Above n s no_tiles Go net deep words routes goes

  -- a channel on which a receiver answers holds a credit, or somebody goes
  credit_or_goes : (x y : ℕ) → AllAbove x → IsReply replies x y → Go ⊎ (0 < (s.lines y).held)
  credit_or_goes x y ih is = elim (cases_lt 0 (s.lines y).held) [
    | inl some ↦ inr some
    | inr none ↦ inl (into n s no_tiles Go net deep words routes goes x y ih (inside x y is) (rise x y is) (λ credit. absurd (omega arith))
        (s.lines y).flits refl)
  ]

  -- so it is of the reply at each place of the list
  abbrev Answered : ℕ → ℕ → Type 0
  Answered x p = (reply_at replies p).from ≡ x → 0 < (s.lines (reply_at replies p).to).held

  at_place : (x p : ℕ) → AllAbove x → p < length replies → Go ⊎ Answered x p
  at_place x p ih low = elim (cases_eq (reply_at replies p).from x) [
    | inl from ↦ elim (credit_or_goes x (reply_at replies p).to ih (record { place = p; here = low; from = from; to = refl })) [
      | inl moved ↦ inl moved
      | inr some ↦ inr (λ e. some)
    ]
    | inr apart ↦ inr (λ e. absurd (apart e))
  ]

  -- at a receiver it is taken, or somebody goes
  at_end : (x f : ℕ) (fs : List ℕ) → AllAbove x → x < n.channels → n.ejects x ≡ true → (s.lines x).flits ≡ f ∷ fs → Go
  at_end x f fs ih within ends listed = elim (or_all Go (Answered x) (length replies) (λ p low. at_place x p ih low)) [
    | inl moved ↦ moved
    | inr all ↦ go.takes x f fs (record {
      here = within;
      ejects = ends;
      first = listed;
      credits = λ y r. subst (λ z. 0 < (s.lines z).held) r.to (all r.place r.here r.from);
    })
  ]

  by_end : (x f : ℕ) (fs : List ℕ) → AllAbove x → x < n.channels → in_line (s.lines x) ≡ f ∷ fs → (b : Bool) → n.ejects x ≡ b → Go
  by_end x f fs ih within listed false input = at_router n s no_tiles Go net deep words routes goes x f fs ih within input (s.lines x).latch refl listed
  by_end x f fs ih within listed true ends =
      at_end x f fs ih within ends (sym (in_line_is s x None (s.lines x).flits (words.unlatched x ends) refl) ∙ listed)

  -- where a word stands in a channel or its receiver's latch, somebody goes
  held_goes : (x : ℕ) → Held x
  held_goes x within =
      let low : (y : ℕ) → y < n.channels → n.number y ≤ n.top = λ y inner. let b = net.bounded y inner in omega arith in
      by_falling n.number n.top Held
      (λ y under ih inner f fs listed. by_end y f fs (λ z above here. ih z above (low z here) here) inner listed (n.ejects y) refl)
      x (low x within) within

  by_line : (x : ℕ) → x < n.channels → (l : List ℕ) → in_line (s.lines x) ≡ l → Go ⊎ IsQuiet n s x
  by_line x within [] line = by_owed n s no_tiles Go deep words routes goes x within line (s.notes x).owed refl
  by_line x within (f ∷ fs) line = inl (held_goes x within f fs line)

  -- something goes on, or the whole network is quiet
  pub goes_or_quiet : Go ⊎ ((x : ℕ) → x < n.channels → IsQuiet n s x)
  goes_or_quiet = or_all Go (IsQuiet n s) n.channels (λ x within. by_line x within (in_line (s.lines x)) refl)
