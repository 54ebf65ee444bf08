-- The words of a step are read as the step.
use Rattle.std.proofs.Common.{◌≡◌, ◌<◌, ◌+◌, ◌*◌, ◌%◌, ◌^◌, zero, suc, ℕ, true, List, [], ◌∷◌, ◌++◌, decimal, codes, refl, arith, Ok}
use Rattle.std.specs.Prelude.{nat_lt}
use Rattle.std.specs.List.{All}
use Rattle.std.proofs.lemmas.Bool.{lt-ltb, ltb-true}
use Rattle.std.proofs.lemmas.List.Elements.{All-nil, All-cons}
use Rattle.torus.specs.declared.step.Step.{Step}
use Rattle.torus.specs.declared.step.Choice.{Choice}
use Rattle.torus.specs.declared.step.Choice.TheVariants.{Send, Take, TakeFrom, Put, Credit, CreditOf, Serve, Done, Look}
use Rattle.torus.specs.Choices.{has_choice, is_of_processor, is_of_router, is_of_bank}
use Rattle.script.specs.Steps.{take_step}
use Rattle.command_schedule.specs.Line.{choice_words}
use Rattle.command_schedule.proofs.Cuts.{IsWord, word-from}
use Rattle.command_schedule.proofs.Numerals.{decimal_is_word, index_of-decimal}

-- the number of a choice, if it has one, is one that a field takes
abbrev pub IsSmall : Choice → Type 0
IsSmall Send = Unit {0}
IsSmall Take = Unit {0}
IsSmall (TakeFrom input) = input < 2 ^ 31
IsSmall (Put input) = input < 2 ^ 31
IsSmall Credit = Unit {0}
IsSmall (CreditOf output) = output < 2 ^ 31
IsSmall Serve = Unit {0}
IsSmall Done = Unit {0}
IsSmall Look = Unit {0}

alone : (word : List ℕ) → IsWord word → All IsWord (word ∷ [])
alone word is = All-cons IsWord word [] is (All-nil IsWord)

numbered : (word : List ℕ) (n : ℕ) → IsWord word → n < 2 ^ 31 → All IsWord (word ∷ decimal n ∷ [])
numbered word n is small = All-cons IsWord word (decimal n ∷ []) is (alone (decimal n) (decimal_is_word n (omega (arith, small))))

choice_is_words : (c : Choice) → IsSmall c → All IsWord (choice_words c)
choice_is_words Send h = alone (codes "send") (word-from (codes "send") (omega arith) refl)
choice_is_words Take h = alone (codes "take") (word-from (codes "take") (omega arith) refl)
choice_is_words (TakeFrom n) h = numbered (codes "take") n (word-from (codes "take") (omega arith) refl) h
choice_is_words (Put n) h = numbered (codes "put") n (word-from (codes "put") (omega arith) refl) h
choice_is_words Credit h = alone (codes "credit") (word-from (codes "credit") (omega arith) refl)
choice_is_words (CreditOf n) h = numbered (codes "credit") n (word-from (codes "credit") (omega arith) refl) h
choice_is_words Serve h = alone (codes "serve") (word-from (codes "serve") (omega arith) refl)
choice_is_words Done h = alone (codes "done") (word-from (codes "done") (omega arith) refl)
choice_is_words Look h = alone (codes "look") (word-from (codes "look") (omega arith) refl)

pub step_is_words : (agent : ℕ) (c : Choice) → agent < 2 ^ 31 → IsSmall c → All IsWord (decimal agent ∷ choice_words c)
step_is_words agent c low h = All-cons IsWord (decimal agent) (choice_words c) (decimal_is_word agent (omega (arith, low))) (choice_is_words c h)

small_of_router : (ports n : ℕ) → ports < 2 ^ 31 → nat_lt n ports ≡ true → n < 2 ^ 31
small_of_router ports n few low = omega (arith, few, ltb-true n ports low)

-- the number of a choice that an agent has is below the number of its router's inputs
pub choice_is_small : (ports kind : ℕ) (c : Choice) → ports < 2 ^ 31 → has_choice ports kind c ≡ true → IsSmall c
choice_is_small ports kind Send few h = tt
choice_is_small ports kind Take few h = tt
choice_is_small ports zero (TakeFrom n) few h = absurd (cc)
choice_is_small ports (suc zero) (TakeFrom n) few h = small_of_router ports n few h
choice_is_small ports (suc (suc k)) (TakeFrom n) few h = absurd (cc)
choice_is_small ports zero (Put n) few h = absurd (cc)
choice_is_small ports (suc zero) (Put n) few h = small_of_router ports n few h
choice_is_small ports (suc (suc k)) (Put n) few h = absurd (cc)
choice_is_small ports kind Credit few h = tt
choice_is_small ports zero (CreditOf n) few h = absurd (cc)
choice_is_small ports (suc zero) (CreditOf n) few h = small_of_router ports n few h
choice_is_small ports (suc (suc k)) (CreditOf n) few h = absurd (cc)
choice_is_small ports kind Serve few h = tt
choice_is_small ports kind Done few h = tt
choice_is_small ports kind Look few h = tt

-- the line of a step of a processor, of a router and of a bank adds the step
of_processor : (tiles dims agent : ℕ) (steps : List Step) (c : Choice) → agent < 2 ^ 31 → nat_lt agent (3 * tiles) ≡ true → agent % 3 ≡ 0
    → is_of_processor c ≡ true → take_step tiles dims steps (decimal agent ∷ choice_words c) ≡ Ok (steps ++ record { agent = agent; choice = c } ∷ [])
of_processor tiles dims agent steps Send low there kind h = rw (index_of-decimal agent low, there, kind)
of_processor tiles dims agent steps Take low there kind h = rw (index_of-decimal agent low, there, kind)
of_processor tiles dims agent steps (TakeFrom n) low there kind h = absurd (cc)
of_processor tiles dims agent steps (Put n) low there kind h = absurd (cc)
of_processor tiles dims agent steps Credit low there kind h = rw (index_of-decimal agent low, there, kind)
of_processor tiles dims agent steps (CreditOf n) low there kind h = absurd (cc)
of_processor tiles dims agent steps Serve low there kind h = absurd (cc)
of_processor tiles dims agent steps Done low there kind h = rw (index_of-decimal agent low, there, kind)
of_processor tiles dims agent steps Look low there kind h = rw (index_of-decimal agent low, there, kind)

of_router : (tiles dims agent : ℕ) (steps : List Step) (c : Choice) → agent < 2 ^ 31 → nat_lt agent (3 * tiles) ≡ true → agent % 3 ≡ 1 → IsSmall c
    → is_of_router (8 * dims + 2) c ≡ true
    → take_step tiles dims steps (decimal agent ∷ choice_words c) ≡ Ok (steps ++ record { agent = agent; choice = c } ∷ [])
of_router tiles dims agent steps Send low there kind few h = absurd (cc)
of_router tiles dims agent steps Take low there kind few h = absurd (cc)
of_router tiles dims agent steps (TakeFrom n) low there kind few h = rw (index_of-decimal agent low, index_of-decimal n few, there, kind, h)
of_router tiles dims agent steps (Put n) low there kind few h = rw (index_of-decimal agent low, index_of-decimal n few, there, kind, h)
of_router tiles dims agent steps Credit low there kind few h = absurd (cc)
of_router tiles dims agent steps (CreditOf n) low there kind few h = rw (index_of-decimal agent low, index_of-decimal n few, there, kind, h)
of_router tiles dims agent steps Serve low there kind few h = absurd (cc)
of_router tiles dims agent steps Done low there kind few h = absurd (cc)
of_router tiles dims agent steps Look low there kind few h = absurd (cc)

of_bank : (tiles dims agent : ℕ) (steps : List Step) (c : Choice) → agent < 2 ^ 31 → nat_lt agent (3 * tiles) ≡ true → agent % 3 ≡ 2
    → is_of_bank c ≡ true → take_step tiles dims steps (decimal agent ∷ choice_words c) ≡ Ok (steps ++ record { agent = agent; choice = c } ∷ [])
of_bank tiles dims agent steps Send low there kind h = rw (index_of-decimal agent low, there, kind)
of_bank tiles dims agent steps Take low there kind h = rw (index_of-decimal agent low, there, kind)
of_bank tiles dims agent steps (TakeFrom n) low there kind h = absurd (cc)
of_bank tiles dims agent steps (Put n) low there kind h = absurd (cc)
of_bank tiles dims agent steps Credit low there kind h = rw (index_of-decimal agent low, there, kind)
of_bank tiles dims agent steps (CreditOf n) low there kind h = absurd (cc)
of_bank tiles dims agent steps Serve low there kind h = rw (index_of-decimal agent low, there, kind)
of_bank tiles dims agent steps Done low there kind h = absurd (cc)
of_bank tiles dims agent steps Look low there kind h = absurd (cc)

of_agent : (tiles dims agent kind : ℕ) (steps : List Step) (c : Choice) → agent % 3 ≡ kind → kind < 3 → agent < 2 ^ 31 → nat_lt agent (3 * tiles) ≡ true
    → IsSmall c
    → has_choice (8 * dims + 2) kind c ≡ true
    → take_step tiles dims steps (decimal agent ∷ choice_words c) ≡ Ok (steps ++ record { agent = agent; choice = c } ∷ [])
of_agent tiles dims agent zero steps c is below low there few h = of_processor tiles dims agent steps c low there is h
of_agent tiles dims agent (suc zero) steps c is below low there few h = of_router tiles dims agent steps c low there is few h
of_agent tiles dims agent (suc (suc zero)) steps c is below low there few h = of_bank tiles dims agent steps c low there is h
of_agent tiles dims agent (suc (suc (suc k))) steps c is below low there few h = absurd (omega (arith, below))

-- the words of a step add the step, of an agent and a choice that the torus has
pub take_step-again : (tiles dims agent : ℕ) (steps : List Step) (c : Choice) → agent < 2 ^ 31 → agent < 3 * tiles → IsSmall c
    → has_choice (8 * dims + 2) (agent % 3) c ≡ true
    → take_step tiles dims steps (decimal agent ∷ choice_words c) ≡ Ok (steps ++ record { agent = agent; choice = c } ∷ [])
take_step-again tiles dims agent steps c low there few h =
    of_agent tiles dims agent (agent % 3) steps c refl (omega arith) low (lt-ltb agent (3 * tiles) there) few h
