-- A want looks at one end of one channel, or at one word, and changes no other; where the flits lie it doesn't look at.
use Rattle.std.proofs.Common.{◌≡◌, ◌≢◌, ℕ, inl, inr, List, length, Option, Some, None, refl, sym, ◌∙◌, ap, arith, length-set, set, get_or-set_other}
use Rattle.std.specs.Prelude.{nat_lt, ◌==◌, if◌then◌else◌, slice_index, option_map, option_and_then}
use Rattle.std.proofs.lemmas.Bool.{cases_eq, cases_lt}
use Rattle.std.proofs.lemmas.List.{set_past}
use Rattle.packet.specs.Memory.{new_word}
use Rattle.flit_buffer.specs.Channel.{ChannelState, first_of, put, take, credit}
use Rattle.flit_buffer.specs.Places.{Ring, put_in_ring, take_from_ring, credit_of_ring}
use Rattle.flit_buffer.specs.Surroundings.{Surroundings, Wiring, ring, changed, granted, surroundings_after, step_with, agent_step}
use Rattle.flit_buffer.specs.Wants.{told_by}
use Rattle.flit_buffer.specs.declared.want.Want.{Want}
use Rattle.flit_buffer.specs.declared.want.Want.TheVariants.{Take, Put, Credit, Access, Await}
use Rattle.flit_buffer.proofs.ManyRings.{changed_here, changed_other}
use Rattle.flit_buffer.specs.OwnPart.{SameChannels, SameWhereWanted, channel_of, written_word}

abbrev takes : ChannelState → Option ℕ
takes ch = first_of ch.flits

abbrev puts : ChannelState → Option ℕ
puts ch = if nat_lt 0 ch.held then Some 0 else None

abbrev credits : ChannelState → Option ℕ
credits ch = if nat_lt 0 ch.returning then Some 0 else None

module _ (a b : Surroundings) (same : SameChannels a b) where
  pub same_granted : (wiring : Wiring) (want : Want) → granted a wiring want ≡ granted b wiring want
  same_granted wiring (Take i) = ap takes (same.channels (slice_index wiring.inputs i))
  same_granted wiring (Put o flit) = ap puts (same.channels (slice_index wiring.outputs o))
  same_granted wiring (Credit o) = ap credits (same.channels (slice_index wiring.outputs o))
  same_granted wiring (Access word op) = ap (λ ws. Some (told_by op (slice_index ws word))) same.words
  same_granted wiring (Await word value) = ap (λ ws. if slice_index ws word == value then Some value else None) same.words

  same_changed : (x : ℕ) (f : Ring → Ring) (g : ChannelState → ChannelState) → ((r : Ring) → (f r).channel ≡ g r.channel)
      → SameChannels (changed a x f) (changed b x f)
  same_changed x f g is = record {
    count = length-set a.rings x _ ∙ same.count ∙ sym (length-set b.rings x _);
    channels = λ y. elim (cases_lt x (length a.rings)) [
      | inl low ↦
          elim (cases_eq y x) [
            | inl e ↦
                ap (λ z. (ring (changed a x f).rings z).channel) e
                ∙ ap (λ (r : Ring). r.channel) (changed_here a x f low) ∙ is (ring a.rings x) ∙ ap g (same.channels x) ∙ sym (is (ring b.rings x))
                ∙ ap (λ (r : Ring). r.channel) (sym (changed_here b x f (omega (arith, same.count))))
                ∙ ap (λ z. (ring (changed b x f).rings z).channel) (sym e)
            | inr e ↦ ap (λ (r : Ring). r.channel) (changed_other a x f y e) ∙ same.channels y ∙ ap (λ (r : Ring). r.channel) (sym (changed_other b x f y e))
          ]
      | inr high ↦
          ap (λ (rs : List Ring). (ring rs y).channel) (set_past a.rings x _ high) ∙ same.channels y
          ∙ ap (λ (rs : List Ring). (ring rs y).channel) (sym (set_past b.rings x _ (omega (arith, same.count))))
    ];
    words = same.words;
  }

  pub same_after : (depth : ℕ) (wiring : Wiring) (want : Want) → SameChannels (surroundings_after depth a wiring want) (surroundings_after depth b wiring want)
  same_after depth wiring (Take i) = same_changed (slice_index wiring.inputs i) (take_from_ring depth) take (λ r. refl)
  same_after depth wiring (Put o flit) = same_changed (slice_index wiring.outputs o) (put_in_ring flit) (put flit) (λ r. refl)
  same_after depth wiring (Credit o) = same_changed (slice_index wiring.outputs o) credit_of_ring credit (λ r. refl)
  same_after depth wiring (Access word op) =
      record { count = same.count; channels = same.channels; words = ap (λ ws. set ws word (new_word op (slice_index ws word))) same.words }
  same_after depth wiring (Await word value) = same

abbrev where_some : ℕ → Option ℕ
where_some n = if nat_lt 0 n then Some 0 else None

abbrev where_same : ℕ → ℕ → Option ℕ
where_same value word = if word == value then Some value else None

module _ (a b : Surroundings) (wiring : Wiring) where
  pub same_where : (want : Want) → SameWhereWanted a b wiring want → granted a wiring want ≡ granted b wiring want
  same_where (Take i) e = ap first_of e
  same_where (Put o flit) e = ap where_some e
  same_where (Credit o) e = ap where_some e
  same_where (Access word op) e = ap (λ w. Some (told_by op w)) e
  same_where (Await word value) e = ap (where_same value) e

  module _ {S C : Type 0} (wants : S → C → Option Want) (after : S → C → Want → ℕ → S) (depth : ℕ) (state : S) (choice : C) where
    abbrev own : Option (S × Surroundings) → Option S
    own step = option_map (λ (p : S × Surroundings). p.0) step

    by_granted : (want : Want) (g : Option ℕ)
        → own (step_with wants after depth wiring state a choice want g) ≡ own (step_with wants after depth wiring state b choice want g)
    by_granted want None = refl
    by_granted want (Some learned) = refl

    by_wanted : (w : Option Want) → ((want : Want) → w ≡ Some want → SameWhereWanted a b wiring want)
        → own (option_and_then (λ want. step_with wants after depth wiring state a choice want (granted a wiring want)) w)
        ≡ own (option_and_then (λ want. step_with wants after depth wiring state b choice want (granted b wiring want)) w)
    by_wanted None same = refl
    by_wanted (Some want) same =
        by_granted want (granted a wiring want)
        ∙ ap (λ g. own (step_with wants after depth wiring state b choice want g)) (same_where want (same want refl))

    pub same_steps : ((want : Want) → wants state choice ≡ Some want → SameWhereWanted a b wiring want)
        → own (agent_step wants after depth wiring state a choice) ≡ own (agent_step wants after depth wiring state b choice)
    same_steps same = by_wanted (wants state choice) same

module _ (depth : ℕ) (around : Surroundings) (wiring : Wiring) where
  pub other_rings : (want : Want) (y : ℕ) → channel_of wiring want ≢ Some y → ring (surroundings_after depth around wiring want).rings y ≡ ring around.rings y
  other_rings (Take i) y other = changed_other around (slice_index wiring.inputs i) (take_from_ring depth) y (λ e. other (ap Some (sym e)))
  other_rings (Put o flit) y other = changed_other around (slice_index wiring.outputs o) (put_in_ring flit) y (λ e. other (ap Some (sym e)))
  other_rings (Credit o) y other = changed_other around (slice_index wiring.outputs o) credit_of_ring y (λ e. other (ap Some (sym e)))
  other_rings (Access word op) y other = refl
  other_rings (Await word value) y other = refl

  pub other_words : (want : Want) (n : ℕ) → written_word want ≢ Some n
      → slice_index (surroundings_after depth around wiring want).words n ≡ slice_index around.words n
  other_words (Take i) n other = refl
  other_words (Put o flit) n other = refl
  other_words (Credit o) n other = refl
  other_words (Access word op) n other = get_or-set_other around.words word n (new_word op (slice_index around.words word)) 0 (λ e. other (ap Some (sym e)))
  other_words (Await word value) n other = refl
