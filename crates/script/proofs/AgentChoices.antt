-- The words of a line name only choices that the agent has.
use Rattle.std.proofs.Common.{◌≡◌, ℕ, ◌+◌, ◌*◌, ◌==◌, Bool, true, false, cond, Option, Some, None, refl, sym, ◌∙◌, ap, subst}
use Rattle.std.specs.Prelude.{nat_lt, ◌&&◌}
use Rattle.std.proofs.lemmas.Bool.{eqb-true}
use Rattle.std.proofs.lemmas.Option.{same_Some}
use Rattle.torus.specs.declared.step.Choice.{Choice}
use Rattle.torus.specs.Choices.{is_of_processor, is_of_router, is_of_bank, has_choice}
use Rattle.script.specs.declared.attempt.ChoiceWord.{ChoiceWord}
use Rattle.script.specs.declared.attempt.ChoiceWord.TheVariants.{Send, Take, Put, Credit, Serve, Done, Look}
use Rattle.script.specs.Steps.{processor_choice, router_choice, bank_choice, agent_choice}

of_processor : (word : ChoiceWord) (c : Choice) → processor_choice word ≡ Some c → is_of_processor c ≡ true
of_processor Send c h = ap is_of_processor (sym (same_Some _ c h))
of_processor Take c h = ap is_of_processor (sym (same_Some _ c h))
of_processor Put c h = absurd (cc)
of_processor Credit c h = ap is_of_processor (sym (same_Some _ c h))
of_processor Serve c h = absurd (cc)
of_processor Done c h = ap is_of_processor (sym (same_Some _ c h))
of_processor Look c h = ap is_of_processor (sym (same_Some _ c h))

of_bank : (word : ChoiceWord) (c : Choice) → bank_choice word ≡ Some c → is_of_bank c ≡ true
of_bank Send c h = ap is_of_bank (sym (same_Some _ c h))
of_bank Take c h = ap is_of_bank (sym (same_Some _ c h))
of_bank Put c h = absurd (cc)
of_bank Credit c h = ap is_of_bank (sym (same_Some _ c h))
of_bank Serve c h = ap is_of_bank (sym (same_Some _ c h))
of_bank Done c h = absurd (cc)
of_bank Look c h = absurd (cc)

of_router : (ports n : ℕ) (word : ChoiceWord) (c : Choice) → nat_lt n ports ≡ true → router_choice word n ≡ Some c → is_of_router ports c ≡ true
of_router ports n Send c low h = absurd (cc)
of_router ports n Take c low h = ap (is_of_router ports) (sym (same_Some _ c h)) ∙ low
of_router ports n Put c low h = ap (is_of_router ports) (sym (same_Some _ c h)) ∙ low
of_router ports n Credit c low h = ap (is_of_router ports) (sym (same_Some _ c h)) ∙ low
of_router ports n Serve c low h = absurd (cc)
of_router ports n Done c low h = absurd (cc)
of_router ports n Look c low h = absurd (cc)

of_none : (ports kind : ℕ) (word : ChoiceWord) (c : Choice) (a b : Bool) → (kind == 0) ≡ a → (kind == 2) ≡ b
    → cond a (processor_choice word) (cond b (bank_choice word) None) ≡ Some c
    → has_choice ports kind c ≡ true
of_none ports kind word c true b is other h = subst (λ (k : ℕ). has_choice ports k c ≡ true) (sym (eqb-true kind 0 is)) (of_processor word c h)
of_none ports kind word c false true other is h = subst (λ (k : ℕ). has_choice ports k c ≡ true) (sym (eqb-true kind 2 is)) (of_bank word c h)
of_none ports kind word c false false other is h = absurd (cc)

of_some : (ports kind n : ℕ) (word : ChoiceWord) (c : Choice) (a b : Bool) → (kind == 1) ≡ a → nat_lt n ports ≡ b
    → cond (a && b) (router_choice word n) None ≡ Some c
    → has_choice ports kind c ≡ true
of_some ports kind n word c true true is low h = subst (λ (k : ℕ). has_choice ports k c ≡ true) (sym (eqb-true kind 1 is)) (of_router ports n word c low h)
of_some ports kind n word c true false is low h = absurd (cc)
of_some ports kind n word c false b is low h = absurd (cc)

-- what a line names is a choice of its agent
pub of_agent : (dims kind : ℕ) (word : ChoiceWord) (number : Option ℕ) (c : Choice) → agent_choice dims kind word number ≡ Some c
    → has_choice (8 * dims + 2) kind c ≡ true
of_agent dims kind word None c h = of_none (8 * dims + 2) kind word c (kind == 0) (kind == 2) refl refl h
of_agent dims kind word (Some n) c h = of_some (8 * dims + 2) kind n word c (kind == 1) (nat_lt n (8 * dims + 2)) refl refl h
