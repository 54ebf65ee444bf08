-- Flits that are owed to an empty channel: somebody goes.
use Rattle.std.proofs.Common.{◌≡◌, ℕ, ◌<◌, Bool, true, false, List, [], ◌∷◌, ◌++◌, length, Option, Some, None, All, inl, inr, sym, ap, ◌∙◌, refl, subst, arith}
use Rattle.std.proofs.lemmas.Bool.{cases_lt}
use Rattle.std.proofs.lemmas.List.Elements.{All-head}
use Rattle.std.specs.Option.{option_to_list}
use Rattle.wormhole.specs.Net.{Net, IsParcel, Parcel, EndsWithTail, flits_of_all}
use Rattle.wormhole.specs.State.{NetState}
use Rattle.wormhole.specs.Events.{InjectRest, Latch, ForwardRest, Return}
use Rattle.wormhole.specs.Words.{Words, IsHeld}
use Rattle.wormhole.proofs.Inductions.{by_rising}
use Rattle.network_adaptive.specs.Choices.{AdaptiveNet}
use Rattle.network_adaptive.specs.Tracks.{AreTracks}
use Rattle.network_adaptive.specs.Progress.{GoesByEscapes}

-- among body and tail flits no packet begins
no_heads : (n : Net) (fs : List ℕ) (ks : List Parcel) → EndsWithTail n (fs ++ flits_of_all ks) → All (IsParcel n) ks → ks ≡ []
no_heads n [] [] shaped are = refl
no_heads n [] (k ∷ ks) shaped are = let yes' = (All-head (IsParcel n) k ks are).head in let no' = shaped.0 in cc
no_heads n (f ∷ fs) ks shaped are = no_heads n fs ks shaped.2 are

module _ (n : AdaptiveNet) (s : NetState) (answers : ℕ → ℕ → Bool) (Go : Type 0) (deep : 0 < n.frame.depth) (words : Words n.frame s)
    (course stamp : ℕ → ℕ) (now : ℕ) (tracks : AreTracks n s course stamp now) (goes : GoesByEscapes n s answers Go) where
  -- an empty channel has a credit, or one returns
  pub with_credit : (x : ℕ) → x < n.frame.channels → (s.lines x).flits ≡ [] → (0 < (s.lines x).held → Go) → Go
  with_credit x within empty then = elim (cases_lt 0 (s.lines x).held) [
    | inl some ↦ then some
    | inr none ↦
        let sums = words.credits x in
        let no_flit = ap length empty in
        goes.moves (Return x) tt tt (record { here = within; returns = omega arith })
  ]

  abbrev pub OwedGoes : ℕ → Type 0
  OwedGoes y = y < n.frame.channels → (s.lines y).flits ≡ [] → (w : ℕ) (ws : List ℕ) → (s.notes y).owed ≡ w ∷ ws → Go

  abbrev Before : ℕ → Type 0
  Before y = (z : ℕ) → stamp z < stamp y → OwedGoes z

  -- what the owner awaits stands in its line, or is owed to it
  joined : (y x w : ℕ) (ws : List ℕ) (l : Option ℕ) (fs : List ℕ) → IsHeld n.frame s x y → (s.notes y).owed ≡ w ∷ ws → (s.lines x).latch ≡ l → (s.lines x).flits ≡ fs
      → w ∷ (ws ++ flits_of_all (s.notes x).parcels) ≡ (option_to_list l ++ fs) ++ (s.notes x).owed
  joined y x w ws l fs at owes latched listed =
      ap (λ a. a ++ flits_of_all (s.notes x).parcels) (sym owes ∙ at.same) ∙ words.contiguous x
      ∙ ap (λ m. (option_to_list m ++ (s.lines x).flits) ++ (s.notes x).owed) latched ∙ ap (λ m. (option_to_list l ++ m) ++ (s.notes x).owed) listed

  by_latch : (y x : ℕ) → Before y → y < n.frame.channels → (s.lines y).flits ≡ [] → (w : ℕ) (ws : List ℕ) → (s.notes y).owed ≡ w ∷ ws
      → (s.lines y).owner ≡ Some x → IsHeld n.frame s x y → (l : Option ℕ) (fs : List ℕ) → (s.lines x).latch ≡ l → (s.lines x).flits ≡ fs → Go
  by_latch y x ih within empty w ws owes owner at (Some f) fs latched listed =
      let e : w ∷ (ws ++ flits_of_all (s.notes x).parcels) ≡ f ∷ (fs ++ (s.notes x).owed) = joined y x w ws (Some f) fs at owes latched listed in
      let same : w ≡ f = cc in
      let shaped : EndsWithTail n.frame (w ∷ ws) = subst (EndsWithTail n.frame) owes (words.owed y) in
      let rest : n.frame.is_head f ≡ false = subst (λ g. n.frame.is_head g ≡ false) same shaped.0 in
      with_credit y within empty (λ credit. goes.moves (ForwardRest x y f) tt tt
      (record { here = words.inside.owner x y owner; input = at.input; full = latched; rest = rest; owned = owner; credit = credit }))
  by_latch y x ih within empty w ws owes owner at None (f ∷ fs) latched listed =
      goes.moves (Latch x f fs) tt tt (record { here = words.inside.owner x y owner; input = at.input; free = latched; first = listed })
  by_latch y x ih within empty w ws owes owner at None [] latched listed =
      let e : w ∷ (ws ++ flits_of_all (s.notes x).parcels) ≡ (s.notes x).owed = joined y x w ws None [] at owes latched listed in
      let none : (s.notes x).parcels ≡ [] = no_heads n.frame (w ∷ ws) (s.notes x).parcels (subst (EndsWithTail n.frame) (sym e) (words.owed x)) (words.parcels x) in
      ih x (tracks.order x y owner none) (words.inside.owner x y owner) listed w (ws ++ flits_of_all (s.notes x).parcels) (sym e)

  by_owner : (y : ℕ) → Before y → y < n.frame.channels → (s.lines y).flits ≡ [] → (w : ℕ) (ws : List ℕ) → (s.notes y).owed ≡ w ∷ ws → n.frame.injects y ≡ false
      → (o : Option ℕ) → (s.lines y).owner ≡ o → Go
  by_owner y ih within empty w ws owes output None owner = let none : w ∷ ws ≡ [] = sym owes ∙ words.free y output owner in absurd (cc)
  by_owner y ih within empty w ws owes output (Some x) owner =
      by_latch y x ih within empty w ws owes owner (words.held x y owner) (s.lines x).latch (s.lines x).flits refl refl

  by_end : (y : ℕ) → Before y → y < n.frame.channels → (s.lines y).flits ≡ [] → (w : ℕ) (ws : List ℕ) → (s.notes y).owed ≡ w ∷ ws → (b : Bool) → n.frame.injects y ≡ b → Go
  by_end y ih within empty w ws owes true is =
      with_credit y within empty (λ credit. goes.moves (InjectRest y w ws) tt tt
      (record { here = within; injects = is; course = sym (words.senders y is) ∙ owes; credit = credit }))
  by_end y ih within empty w ws owes false is = by_owner y ih within empty w ws owes is (s.lines y).owner refl

  -- where flits are owed to an empty channel, somebody goes
  pub owed_goes : (y : ℕ) → OwedGoes y
  owed_goes = by_rising stamp OwedGoes (λ y ih within empty w ws owes. by_end y ih within empty w ws owes (n.frame.injects y) refl)
