-- What is shown of a flight, processor by processor.
use Rattle.std.proofs.Common.{◌≡◌, ℕ, zero, suc, List, [], ◌∷◌, map, refl, sym, ◌∙◌, ap, slice_set, slice_index_or, set}
use Rattle.std.proofs.lemmas.List.{map-set, set-get_or}
use Rattle.packet.specs.declared.kinds.Operation.{Operation}
use Rattle.home_bank.specs.declared.entry.Entry.{Entry}
use Rattle.one_order.specs.declared.answer.Answer.{Answer}
use Rattle.one_order.specs.Observed.{Observed, list_at}
use Rattle.one_order.specs.ProcessorRecord.{ProcessorRecord, no_processor}
use Rattle.one_order.specs.Flight.{Flight, processor_at, show}
use Rattle.one_order.proofs.Transport.{Tags}

abbrev pub tags_of : Flight → Tags
tags_of f = map (λ b. b.tags) f.processors

pub same_shown : (i j : List (List Operation)) (a b : List (List Answer)) (d e : List (List Entry)) (m n : List ℕ) → i ≡ j → a ≡ b → d ≡ e
    → m ≡ n
    → ◌≡◌ {A = Observed} (record { issued = i; answers = a; entries = d; memory = m }) (record { issued = j; answers = b; entries = e; memory = n })
same_shown i j a b d e m n hi ha hd hm =
    ap (λ x. record { issued = x; answers = a; entries = d; memory = m }) hi
    ∙ (ap (λ x. record { issued = j; answers = x; entries = d; memory = m }) ha
    ∙ (ap (λ x. record { issued = j; answers = b; entries = x; memory = m }) hd
    ∙ ap (λ x. record { issued = j; answers = b; entries = e; memory = x }) hm))

pub list_at_map : {A B : Type 0} (f : A → List B) (d : A) → f d ≡ [] → (xs : List A) (p : ℕ)
    → list_at (map f xs) p ≡ f (slice_index_or xs p d)
list_at_map f d none [] p = sym none
list_at_map f d none (x ∷ xs) zero = refl
list_at_map f d none (x ∷ xs) (suc p) = list_at_map f d none xs p

pub map_same : {A B : Type 0} (f : A → List B) (d : A) → f d ≡ [] → (xs : List A) (t : ℕ) (x : A) → f x ≡ f (slice_index_or xs t d)
    → map f (slice_set xs t x) ≡ map f xs
map_same f d none xs t x h =
    map-set f xs t x ∙ (ap (λ y. set (map f xs) t y) (h ∙ sym (list_at_map f d none xs t)) ∙ set-get_or (map f xs) t [])

pub issued_at : (f : Flight) (p : ℕ) → list_at (show f).issued p ≡ (processor_at f p).issued
issued_at f p = list_at_map (λ (x : ProcessorRecord). x.issued) no_processor refl f.processors p

pub answers_at : (f : Flight) (p : ℕ) → list_at (show f).answers p ≡ (processor_at f p).answers
answers_at f p = list_at_map (λ (x : ProcessorRecord). x.answers) no_processor refl f.processors p

pub tags_at : (f : Flight) (p : ℕ) → list_at (tags_of f) p ≡ (processor_at f p).tags
tags_at f p = list_at_map (λ (x : ProcessorRecord). x.tags) no_processor refl f.processors p

-- the record of a processor after one record has changed
pub processor_set : (xs : List ProcessorRecord) (t : ℕ) (q : ProcessorRecord) (p : ℕ) (P : ProcessorRecord → Type 0) → P q
    → P (slice_index_or xs p no_processor) → P (slice_index_or (slice_set xs t q) p no_processor)
processor_set [] t q p P new old = old
processor_set (x ∷ xs) zero q zero P new old = new
processor_set (x ∷ xs) zero q (suc p) P new old = old
processor_set (x ∷ xs) (suc t) q zero P new old = old
processor_set (x ∷ xs) (suc t) q (suc p) P new old = processor_set xs t q p P new old
